-- Wires on which null messages alone are
use Rattle.std.proofs.Common.{◌≡◌, ◌≢◌, ℕ, ltb, ◌&&◌, refl, sym, ◌∙◌, subst, eqb, List, [], ◌∷◌, ◌++◌, Option, Some, None}
use Rattle.std.proofs.lemmas.Bool.{cond_both}
use Rattle.hla_base.specs.declared.content.Event.{Event}
use Rattle.hla_base.specs.declared.fault.Fault.{Fault}
use Rattle.hla_base.specs.Rows.{is_regulator}
use Rattle.hla_base.proofs.Tables.{upd_row_each, upd2_each}
use Rattle.hla_null_message.specs.declared.message.Message.{Message}
use Rattle.hla_null_message.specs.declared.message.Message.TheVariants as message
use Rattle.hla_null_message.specs.Wires.{events, put_behind, without_last_null}
use Rattle.hla_component_rules.specs.declared.control.Control.TheVariants.{ToDiscover, ToRetract, ToTell}
use Rattle.hla_component_rules.specs.Queues.{find_event}
use Rattle.hla_component_rules.specs.Picking.{Pick, NoPick, PickControl, PickRo, PickRegulates, PickConstrains, PickTso, PickGrant}
use Rattle.hla_machine.specs.declared.step.Step.{Step}
use Rattle.hla_machine.specs.declared.step.Step.TheVariants.{Join, Call, Carry, Announce, Tick}
use Rattle.hla_machine.specs.declared.step.Answer.TheVariants as answer
use Rattle.hla_machine.specs.Refusals.{refusal}
use Rattle.hla_components.specs.Components.{Components}
use Rattle.hla_components.specs.Component.{promise}
use Rattle.hla_components.specs.Next.{Outcomes, answer_outcome, next, step_outcome, carry_outcome, pick_outcome, announce_outcome, unless_refused, components_seen, with_null_announced}
use Rattle.hla_components.proofs.Wiring.Queues.{not_in_nil}
use Rattle.hla_components.proofs.Wiring.Wires.{events-nil, events-null}
use Rattle.hla_progress.specs.Rounds.{IsOfRounds}

abbrev pub AreNulls : List Message → Type 0
AreNulls [] = Unit {0}
AreNulls (message.Event e ∷ ms) = ⊥
AreNulls (message.Null k v ∷ ms) = AreNulls ms
AreNulls (message.Retraction m ∷ ms) = ⊥
AreNulls (message.Discovery d ∷ ms) = ⊥

-- no event is among them
pub no_events : (ms : List Message) → AreNulls ms → events ms ≡ []
no_events [] n = events-nil
no_events (message.Event e ∷ ms) n = absurd n
no_events (message.Null k v ∷ ms) n = events-null k v ms ∙ no_events ms n
no_events (message.Retraction m ∷ ms) n = absurd n
no_events (message.Discovery d ∷ ms) n = absurd n

pub none_found : (g m : ℕ) (e : Event) (ms : List Message) → AreNulls ms → find_event g m (events ms) ≡ Some e → ⊥
none_found g m e ms n found = not_in_nil g m (subst (λ es. find_event g m es ≡ Some e) (no_events ms n) found)

nulls_without : (k : ℕ) (ms : List Message) → AreNulls ms → AreNulls (without_last_null k ms)
nulls_without k [] n = tt
nulls_without k (message.Event e ∷ ms) n = absurd n
nulls_without k (message.Null j w ∷ []) n = cond_both (eqb j k) [] (message.Null j w ∷ []) AreNulls (λ _. tt) (λ _. tt)
nulls_without k (message.Null j w ∷ m ∷ ms) n = nulls_without k (m ∷ ms) n
nulls_without k (message.Retraction m ∷ ms) n = absurd n
nulls_without k (message.Discovery d ∷ ms) n = absurd n

null_behind : (k v : ℕ) (ms : List Message) → AreNulls ms → AreNulls (ms ++ message.Null k v ∷ [])
null_behind k v [] n = tt
null_behind k v (message.Event e ∷ ms) n = absurd n
null_behind k v (message.Null j w ∷ ms) n = null_behind k v ms n
null_behind k v (message.Retraction m ∷ ms) n = absurd n
null_behind k v (message.Discovery d ∷ ms) n = absurd n

one_more_null : (k v : ℕ) (ms : List Message) → AreNulls ms → AreNulls (put_behind (message.Null k v) ms)
one_more_null k v ms n = null_behind k v (without_last_null k ms) (nulls_without k ms n)

abbrev pub NullsAlone : Components → ℕ → Type 0
NullsAlone s f = (g : ℕ) → g ≢ 0 → AreNulls (s.wire g f)

module _ (s : Components) (f : ℕ) (n : NullsAlone s f) where
  wires_to : (h l : ℕ) → l ≡ f → h ≢ 0 → AreNulls (s.wire h l)
  wires_to h l e z = subst (λ l. AreNulls (s.wire h l)) (sym e) (n h z)

  announce_nulls : (h : ℕ) → NullsAlone (announce_outcome s h).state f
  announce_nulls h = cond_both (is_regulator (s.row h) && ltb (s.last_announced h) (promise s h))
      (answer_outcome (answer.Announced (Some (promise s h))) (with_null_announced s h (promise s h)))
      (answer_outcome (answer.Announced None) s) (λ (o : Outcomes). NullsAlone o.state f)
      (λ _ g z. upd_row_each s.wire s.directory.joined h (λ _. put_behind (message.Null (s.epoch h) (promise s h))) (λ g l ms. l ≡ f → g ≢ 0 → AreNulls ms)
      (λ l _ e z. one_more_null (s.epoch h) (promise s h) (s.wire h l) (wires_to h l e z)) wires_to g f refl z)
      (λ _. n)

  carry_nulls : (h l : ℕ) (ms : List Message) → s.wire h l ≡ ms → NullsAlone (carry_outcome s h l ms).state f
  carry_nulls h l [] front g z = n g z
  carry_nulls h l (message.Event e ∷ ms) front g z = upd2_each s.wire h l ms (λ g l ns. l ≡ f → g ≢ 0 → AreNulls ns) (λ to y. absurd (subst AreNulls front (wires_to h l to y))) wires_to g f refl z
  carry_nulls h l (message.Null k v ∷ ms) front g z = upd2_each s.wire h l ms (λ g l ns. l ≡ f → g ≢ 0 → AreNulls ns) (λ to y. subst AreNulls front (wires_to h l to y)) wires_to g f refl z
  carry_nulls h l (message.Retraction m ∷ ms) front g z = upd2_each s.wire h l ms (λ g l ns. l ≡ f → g ≢ 0 → AreNulls ns) (λ to y. absurd (subst AreNulls front (wires_to h l to y))) wires_to g f refl z
  carry_nulls h l (message.Discovery d ∷ ms) front g z = upd2_each s.wire h l ms (λ g l ns. l ≡ f → g ≢ 0 → AreNulls ns) (λ to y. absurd (subst AreNulls front (wires_to h l to y))) wires_to g f refl z

  pick_nulls : (h : ℕ) (p : Pick) → NullsAlone (pick_outcome s h p).state f
  pick_nulls h NoPick = n
  pick_nulls h (PickControl (ToDiscover from d) rest) = n
  pick_nulls h (PickControl (ToRetract e) rest) = n
  pick_nulls h (PickControl (ToTell x) rest) = n
  pick_nulls h (PickRo e rest) = n
  pick_nulls h PickRegulates = n
  pick_nulls h PickConstrains = n
  pick_nulls h (PickTso q e rest) = n
  pick_nulls h (PickGrant q t) = n

  done_nulls : (step : Step) → IsOfRounds step → NullsAlone (step_outcome s step).state f
  done_nulls (Join name) of = absurd of
  done_nulls (Call h x) of = absurd of
  done_nulls (Carry h l) of = carry_nulls h l (s.wire h l) refl
  done_nulls (Announce h) of = announce_nulls h
  done_nulls (Tick h) of = pick_nulls h _

  unless_nulls : (step : Step) (o : Option Fault) → IsOfRounds step → NullsAlone (unless_refused o s (step_outcome s step)).state f
  unless_nulls step None of = done_nulls step of
  unless_nulls step (Some e) of = n

  pub next_nulls : (step : Step) → IsOfRounds step → NullsAlone (next s step).state f
  next_nulls step of = unless_nulls step (refusal (components_seen s) step) of
