-- What steps do to the controls of a federate: its tick takes the first, and other steps put more behind
use Rattle.std.proofs.Common.{◌≡◌, ◌≢◌, inl, inr, ⊎_elim, ℕ, ◌+◌, ◌≤◌, ◌<◌, arith, cond, eqb, ◌&&◌, ltb, Bool, true, false, refl, sym, ap, subst, ◌∙◌, List, [], ◌∷◌, ◌++◌, append_assoc, append-nil, length, length-append, map, Option, Some, None}
use Rattle.std.proofs.lemmas.Bool.{cases_eq, cond_both, both_ways, eq-eqb, ne_eqb}
use Rattle.hla_base.specs.declared.fault.Fault.{Fault}
use Rattle.hla_base.specs.declared.notice.Notice.{Notice}
use Rattle.hla_base.specs.Rows.{is_regulator}
use Rattle.hla_base.specs.Tables.{upd, one_if}
use Rattle.hla_base.proofs.Tables.{upd_same, upd_other}
use Rattle.hla_callbacks.specs.declared.callback.Callback.{Callback}
use Rattle.hla_null_message.specs.declared.message.Message.{Message}
use Rattle.hla_null_message.specs.declared.message.Message.TheVariants as message
use Rattle.hla_component_rules.specs.declared.control.Control.{Control}
use Rattle.hla_component_rules.specs.declared.control.Control.TheVariants.{ToDiscover, ToRetract, ToTell}
use Rattle.hla_component_rules.specs.Controls.{notices_in}
use Rattle.hla_machine.specs.declared.service.Service.{Service}
use Rattle.hla_machine.specs.declared.service.Service.TheVariants as service
use Rattle.hla_machine.specs.declared.service.ResignAction.TheVariants.{DeleteObjects, NoAction}
use Rattle.hla_machine.specs.declared.step.Step.{Step}
use Rattle.hla_machine.specs.declared.step.Step.TheVariants.{Join, Call, Carry, Announce, Tick}
use Rattle.hla_machine.specs.declared.step.Answer.TheVariants as answer
use Rattle.hla_machine.specs.Directory.{Outgoing, without_member, closing_notices, objects_of, update_sent, interaction_sent, deletion_sent, deletions_sent}
use Rattle.hla_machine.specs.Refusals.{refusal}
use Rattle.hla_machine.proofs.Points.Waiting.{IsAmong}
use Rattle.hla_component_rules.specs.Arriving.{controls_with_retraction}
use Rattle.hla_component_rules.specs.Picking.{pick, Pick, NoPick, PickControl, PickRo, PickRegulates, PickConstrains, PickTso, PickGrant}
use Rattle.hla_components.specs.Components.{Components}
use Rattle.hla_components.specs.Component.{local_bound, promise}
use Rattle.hla_components.specs.Next.{Outcomes, next, answer_outcome, step_outcome, call_outcome, carry_outcome, announce_outcome, pick_outcome, control_outcome, unless_refused, components_seen, notice_callback, with_message_sent, with_messages_sent, with_null_announced, with_federate_gone}
use Rattle.hla_components.specs.Headline.{happening, happenings}
use Rattle.hla_progress.specs.Rounds.{is_tick_of, ticks_of, IsGiven, IsGivenIn}
use Rattle.hla_progress.specs.Synchronizing.{IsMemberThroughout}

-- more is put behind
abbrev HasMore : List Control → List Control → Type 0
HasMore before after = (more : List Control) × (after ≡ before ++ more)

nothing_more : (ks : List Control) → HasMore ks ks
nothing_more ks = ([], sym (append-nil ks))

-- ---- other steps
sent_controls : (s : Components) (f : ℕ) (stamp : Option ℕ) (outs : List Outgoing) → (with_messages_sent s f stamp outs).controls ≡ s.controls
sent_controls s f stamp [] = refl
sent_controls s f stamp (out ∷ outs) = sent_controls (with_message_sent s f stamp out) f stamp outs

module _ (s : Components) (f : ℕ) where
  sent_more : (g : ℕ) (stamp : Option ℕ) (outs : List Outgoing) → HasMore (s.controls f) ((with_messages_sent s g stamp outs).controls f)
  sent_more g stamp outs = ([], ap (λ (t : ℕ → List Control). t f) (sent_controls s g stamp outs) ∙ sym (append-nil (s.controls f)))

  -- another federate leaves
  gone_more : (t : Components) (g : ℕ) → t.controls f ≡ s.controls f → (with_federate_gone t g).directory.joined f ≡ true → HasMore (s.controls f) ((with_federate_gone t g).controls f)
  gone_more t g same member = ⊎_elim
      (λ (e : g ≡ f). absurd (both_ways ((with_federate_gone t g).directory.joined f) (subst (λ (x : ℕ). (with_federate_gone t g).directory.joined x ≡ false) e (upd_same t.directory.joined g false)) member))
      (λ (ne : g ≢ f). let more = map ToTell (closing_notices (without_member t.directory g) f) in (more, ap (λ (ks : List Control). ks ++ more) (upd_other t.controls g [] f ne ∙ same)))
      (cases_eq g f)

  call_more : (g : ℕ) (x : Service) → (call_outcome s g x).state.directory.joined f ≡ true → HasMore (s.controls f) ((call_outcome s g x).state.controls f)
  call_more g (service.Resign DeleteObjects) member = let outs = deletions_sent (objects_of s.directory g) in gone_more (with_messages_sent s g None outs) g (ap (λ (t : ℕ → List Control). t f) (sent_controls s g None outs)) member
  call_more g (service.Resign NoAction) member = gone_more s g refl member
  call_more g (service.UpdateAttributeValues object values stamp) member = sent_more g stamp (update_sent s.directory object values)
  call_more g (service.SendInteraction class values stamp) member = sent_more g stamp (interaction_sent s.directory g class values)
  call_more g (service.DeleteObjectInstance object stamp) member = sent_more g stamp (deletion_sent s.directory object)
  call_more g (service.RegisterFederationSynchronizationPoint label) member = (_, refl)
  call_more g (service.SynchronizationPointAchieved label) member = (_, refl)
  call_more g x member = nothing_more (s.controls f)

  asked_more : (b : Bool) (k : Control) → HasMore (s.controls f) (cond b (s.controls f ++ (k ∷ [])) (s.controls f))
  asked_more true k = (k ∷ [], refl)
  asked_more false k = nothing_more (s.controls f)

  -- what comes to f or to another
  put_more : (l : ℕ) (ks : List Control) → (l ≡ f → HasMore (s.controls f) ks) → HasMore (s.controls f) (upd s.controls l ks f)
  put_more l ks here = ⊎_elim
      (λ (e : l ≡ f). let w = here e in (w.0, subst (λ (x : ℕ). upd s.controls l ks x ≡ ks) e (upd_same s.controls l ks) ∙ w.1))
      (λ (ne : l ≢ f). ([], upd_other s.controls l ks f ne ∙ sym (append-nil (s.controls f))))
      (cases_eq l f)

  carry_more : (g l : ℕ) (ms : List Message) → HasMore (s.controls f) ((carry_outcome s g l ms).state.controls f)
  carry_more g l [] = nothing_more (s.controls f)
  carry_more g l (message.Event e ∷ ms) = nothing_more (s.controls f)
  carry_more g l (message.Null k v ∷ ms) = nothing_more (s.controls f)
  carry_more g l (message.Retraction m ∷ ms) = put_more l _ (λ e. subst (λ (x : ℕ). HasMore (s.controls f) (controls_with_retraction g m (s.tso x) (s.ro x) (s.controls x))) (sym e) (asked_more _ _))
  carry_more g l (message.Discovery d ∷ ms) = put_more l (s.controls l ++ (ToDiscover g d ∷ [])) (λ e. (ToDiscover g d ∷ [], ap (λ (x : ℕ). s.controls x ++ (ToDiscover g d ∷ [])) e))

  announce_more : (g : ℕ) → HasMore (s.controls f) ((announce_outcome s g).state.controls f)
  announce_more g = cond_both (is_regulator (s.row g) && ltb (s.last_announced g) (promise s g))
      (answer_outcome (answer.Announced (Some (promise s g))) (with_null_announced s g (promise s g)))
      (answer_outcome (answer.Announced None) s) (λ (o : Outcomes). HasMore (s.controls f) (o.state.controls f)) (λ _. nothing_more (s.controls f)) (λ _. nothing_more (s.controls f))

  taken_other : (g : ℕ) (rest : List Control) → g ≢ f → HasMore (s.controls f) (upd s.controls g rest f)
  taken_other g rest ne = ([], upd_other s.controls g rest f ne ∙ sym (append-nil (s.controls f)))

  pick_more : (g : ℕ) (p : Pick) → g ≢ f → HasMore (s.controls f) ((pick_outcome s g p).state.controls f)
  pick_more g NoPick ne = nothing_more (s.controls f)
  pick_more g (PickControl (ToDiscover from d) rest) ne = taken_other g rest ne
  pick_more g (PickControl (ToRetract e) rest) ne = taken_other g rest ne
  pick_more g (PickControl (ToTell n) rest) ne = taken_other g rest ne
  pick_more g (PickRo e rest) ne = nothing_more (s.controls f)
  pick_more g PickRegulates ne = nothing_more (s.controls f)
  pick_more g PickConstrains ne = nothing_more (s.controls f)
  pick_more g (PickTso q e rest) ne = nothing_more (s.controls f)
  pick_more g (PickGrant q t) ne = nothing_more (s.controls f)

  done_more : (step : Step) → is_tick_of f step ≡ false → (step_outcome s step).state.directory.joined f ≡ true → HasMore (s.controls f) ((step_outcome s step).state.controls f)
  done_more (Join name) off member = (_, refl)
  done_more (Call g x) off member = call_more g x member
  done_more (Carry g l) off member = carry_more g l (s.wire g l)
  done_more (Announce g) off member = announce_more g
  done_more (Tick g) off member = pick_more g (pick (s.controls g) (s.row g) (s.ro g) (s.tso g) (local_bound s g)) (λ (e : g ≡ f). both_ways (eqb f g) off (eq-eqb f g (sym e)))

  unless_more : (o : Option Fault) (t : Outcomes) → ((t.state.directory.joined f ≡ true) → HasMore (s.controls f) (t.state.controls f)) → (unless_refused o s t).state.directory.joined f ≡ true → HasMore (s.controls f) ((unless_refused o s t).state.controls f)
  unless_more None t more member = more member
  unless_more (Some e) t more member = nothing_more (s.controls f)

  pub step_more : (step : Step) → is_tick_of f step ≡ false → (next s step).state.directory.joined f ≡ true → HasMore (s.controls f) ((next s step).state.controls f)
  step_more step off member = unless_more (refusal (components_seen s) step) (step_outcome s step) (done_more step off) member

  -- ---- its own tick
  control_left : (k : Control) (rest : List Control) → (control_outcome s f k rest).state.controls f ≡ rest
  control_left (ToDiscover from d) rest = upd_same s.controls f rest
  control_left (ToRetract e) rest = upd_same s.controls f rest
  control_left (ToTell n) rest = upd_same s.controls f rest

  tick_is : (k : Control) (rest : List Control) → s.directory.joined f ≡ true → s.controls f ≡ k ∷ rest → next s (Tick f) ≡ control_outcome s f k rest
  tick_is k rest member front = rw member (ap (λ (ks : List Control). pick_outcome s f (pick ks (s.row f) (s.ro f) (s.tso f) (local_bound s f))) front)

-- ---- lists of steps
pub member_first : (s : Components) (steps : List Step) (f : ℕ) → IsMemberThroughout s steps f → s.directory.joined f ≡ true
member_first s [] f member = member
member_first s (step ∷ steps) f member = member.0

module _ (f : ℕ) (n : Notice) where
  abbrev IsTheNotice : Callback → Type 0
  IsTheNotice k = k ≡ notice_callback n.kind n.label

  abbrev Tells : Components → List Step → Type 0
  Tells s steps = IsGivenIn (happenings s steps) f IsTheNotice

  -- the notice waits on behind another step
  told_later : (s : Components) (step : Step) (steps : List Step) (ahead behind : List Control) → is_tick_of f step ≡ false → IsMemberThroughout s (step ∷ steps) f → s.controls f ≡ ahead ++ (ToTell n ∷ behind)
      → ((more : List Control) → (next s step).state.controls f ≡ ahead ++ (ToTell n ∷ more) → Tells (next s step).state steps) → Tells s (step ∷ steps)
  told_later s step steps ahead behind off member at on =
      let w = step_more s f step off (member_first (next s step).state steps f member.1) in
      inr (on (behind ++ w.0) (w.1 ∙ ap (λ (ks : List Control). ks ++ w.0) at ∙ append_assoc ahead (ToTell n ∷ behind) w.0))

  -- a tick gives it, or what is ahead of it
  told_now : (s : Components) (steps : List Step) (ahead behind : List Control) → IsMemberThroughout s (Tick f ∷ steps) f → s.controls f ≡ ahead ++ (ToTell n ∷ behind) → length ahead < ticks_of f (Tick f ∷ steps)
      → ((before : List Control) → (next s (Tick f)).state.controls f ≡ before ++ (ToTell n ∷ behind) → length before < ticks_of f steps → Tells (next s (Tick f)).state steps) → Tells s (Tick f ∷ steps)
  told_now s steps [] behind member at few on =
      inl (subst (λ (o : Outcomes). IsGiven (happening (Tick f) o) f IsTheNotice) (sym (tick_is s f (ToTell n) behind member.0 at)) (notice_callback n.kind n.label, (refl, refl), refl))
  told_now s steps (k ∷ ahead) behind member at few on =
      let one : one_if (eqb f f) ≡ 1 = rw (eq-eqb f f refl) refl in
      inr (on ahead (ap (λ (o : Outcomes). o.state.controls f) (tick_is s f k (ahead ++ (ToTell n ∷ behind)) member.0 at) ∙ control_left s f k (ahead ++ (ToTell n ∷ behind))) (omega (arith, few, one)))

  pub told_in_turn : (steps : List Step) (s : Components) (ahead behind : List Control) → IsMemberThroughout s steps f → s.controls f ≡ ahead ++ (ToTell n ∷ behind) → length ahead < ticks_of f steps → Tells s steps
  told_in_turn [] s ahead behind member at few = absurd (omega (arith, few))
  told_in_turn (Join name ∷ steps) s ahead behind member at few = told_later s (Join name) steps ahead behind refl member at (λ more there. told_in_turn steps (next s (Join name)).state ahead more member.1 there (omega (arith, few)))
  told_in_turn (Call g x ∷ steps) s ahead behind member at few = told_later s (Call g x) steps ahead behind refl member at (λ more there. told_in_turn steps (next s (Call g x)).state ahead more member.1 there (omega (arith, few)))
  told_in_turn (Carry g l ∷ steps) s ahead behind member at few = told_later s (Carry g l) steps ahead behind refl member at (λ more there. told_in_turn steps (next s (Carry g l)).state ahead more member.1 there (omega (arith, few)))
  told_in_turn (Announce g ∷ steps) s ahead behind member at few = told_later s (Announce g) steps ahead behind refl member at (λ more there. told_in_turn steps (next s (Announce g)).state ahead more member.1 there (omega (arith, few)))
  told_in_turn (Tick g ∷ steps) s ahead behind member at few = ⊎_elim
      (λ (e : f ≡ g). subst (λ (h : ℕ). IsMemberThroughout s (Tick h ∷ steps) f → length ahead < ticks_of f (Tick h ∷ steps)
      → ((before more : List Control) → (next s (Tick h)).state.controls f ≡ before ++ (ToTell n ∷ more) → length before < ticks_of f steps → Tells (next s (Tick h)).state steps) → Tells s (Tick h ∷ steps)) e
      (λ here low on. told_now s steps ahead behind here at low (λ before there fewer. on before behind there fewer)) member few
      (λ before more there fewer. told_in_turn steps (next s (Tick g)).state before more member.1 there fewer))
      (λ (ne : f ≢ g).
      let off : eqb f g ≡ false = ne_eqb f g ne in
      let none : one_if (eqb f g) ≡ 0 = rw off refl in
      told_later s (Tick g) steps ahead behind off member at (λ more there. told_in_turn steps (next s (Tick g)).state ahead more member.1 there (omega (arith, few, none))))
      (cases_eq f g)

-- ---- where a notice waits
pub place_of : (n : Notice) (ks : List Control) → IsAmong n (notices_in ks) → (ahead : List Control) × (behind : List Control) × (ks ≡ ahead ++ (ToTell n ∷ behind))
unfolding notices_in
place_of n [] is = absurd is
place_of n (ToDiscover from d ∷ ks) is = let w = place_of n ks is in (ToDiscover from d ∷ w.0, w.1, ap (λ (xs : List Control). ToDiscover from d ∷ xs) w.2)
place_of n (ToRetract e ∷ ks) is = let w = place_of n ks is in (ToRetract e ∷ w.0, w.1, ap (λ (xs : List Control). ToRetract e ∷ xs) w.2)
place_of n (ToTell x ∷ ks) (inl same) = ([], ks, ap (λ (y : Notice). ToTell y ∷ ks) same)
place_of n (ToTell x ∷ ks) (inr rest) = let w = place_of n ks rest in (ToTell x ∷ w.0, w.1, ap (λ (xs : List Control). ToTell x ∷ xs) w.2)

-- so a notice that waits is told within as many ticks as controls wait
pub told_within : (s : Components) (steps : List Step) (f : ℕ) (n : Notice) → IsMemberThroughout s steps f → IsAmong n (notices_in (s.controls f)) → length (s.controls f) ≤ ticks_of f steps
    → IsGivenIn (happenings s steps) f (λ k. k ≡ notice_callback n.kind n.label)
told_within s steps f n member is many =
    let w = place_of n (s.controls f) is in
    let size : length (s.controls f) ≡ length w.0 + length (ToTell n ∷ w.1) = ap length w.2 ∙ length-append w.0 (ToTell n ∷ w.1) in
    told_in_turn f n steps s w.0 w.1 member w.2 (omega (arith, many, size))
