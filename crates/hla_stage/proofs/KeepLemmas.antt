-- What records lead to.
use Rattle.std.proofs.Common.{◌≡◌, ℕ, ◌+◌, ◌<◌, ◌≤◌, ltb, cond, List, [], ◌∷◌, ◌++◌, Option, None, Some, true, false, is_some, option_map, refl, sym, ap, ◌∙◌, arith, codes, subst}
use Rattle.std.proofs.lemmas.Bool.Decides.{nat_tests}
use Rattle.hla_base.specs.Limits.{max_creates}
use Rattle.hla_base.specs.declared.fault.Fault.{Fault}
use Rattle.hla_base.specs.declared.fault.Fault.TheVariants as fault
use Rattle.hla_catalogue.specs.CatalogueValue.{CatalogueValue}
use Rattle.hla_machine.specs.Refusals.{refusal}
use Rattle.hla_machine.specs.Runs.{EndsAs, create_fault, destroy_fault, is_joined_by_any}
use Rattle.hla_machine.specs.declared.step.Step.{Step}
use Rattle.hla_machine.specs.declared.step.Act.{Act}
use Rattle.hla_machine.specs.declared.step.Act.TheVariants as act
use Rattle.hla_machine.specs.declared.step.Answer.{Answer}
use Rattle.hla_machine.specs.declared.step.Answer.TheVariants as answer
use Rattle.hla_machine.specs.declared.step.Outcome.{Outcome}
use Rattle.hla_machine.specs.declared.step.Outcome.TheVariants as outcome
use Rattle.hla_machine.specs.declared.step.Choice.{Choice}
use Rattle.hla_machine.specs.declared.step.Choice.TheVariants as choice
use Rattle.hla_machine.specs.declared.step.Record.{Record}
use Rattle.hla_components.specs.CentralOf.{central}
use Rattle.hla_components.specs.Components.{Components, new_components}
use Rattle.hla_components.specs.Next.{Outcomes, next, components_seen}
use Rattle.hla_execution.specs.FederationValue.{FederationValue}
use Rattle.hla_execution.specs.StateOf.{state_of}
use Rattle.hla_requests.specs.declared.members.NamedFederate.{NamedFederate}
use Rattle.hla_components.specs.Executions.{Federations, no_federations, central_executions, with_created, with_destroyed, ending_unless, next_act, after_record, step_in, IsNext, AreNext}
use Rattle.hla_stage.specs.Following.{FollowNext}
use Rattle.hla_stage.specs.Keeping.{components_of, DoesNext, IsStepped, Standing, Holds, execution_after_destroy, IsDestroyed, Leads, IsActed, IsKept}
use Rattle.hla_stage.specs.Playing.{created_catalogue}
use Rattle.hla_requests.specs.Members.{members_from, member_after}

-- ---- creating
no_choice : (f : Option Fault) (x y : Federations) → choice.None ≡ (ending_unless f x y).choice
no_choice None x y = refl
no_choice (Some e) x y = refl

module _ (cat : Option CatalogueValue) (f : Option Fault) (x : Federations) (is : create_fault (central_executions x) (codes "play") cat ≡ f) where
  create_next : (out : Outcome) → out ≡ (ending_unless f x (with_created x (codes "play") cat)).outcome
      → IsNext x (record { actor = 0; execution = codes "play"; act = act.Create cat; outcome = out; choice = choice.None })
  create_next out e = record {
    outcome = subst (λ (g : Option Fault). out ≡ (ending_unless g x (with_created x (codes "play") cat)).outcome) (sym is) e;
    choice = no_choice (create_fault (central_executions x) (codes "play") cat) x (with_created x (codes "play") cat);
  }

  create_holds : (new : Standing) → Holds (ending_unless f x (with_created x (codes "play") cat)).executions new → Holds (next_act x (codes "play") (act.Create cat)).executions new
  create_holds new h = subst (λ (g : Option Fault). Holds (ending_unless g x (with_created x (codes "play") cat)).executions new) (sym is) h

-- the record of a create that is accepted
abbrev pub creation : CatalogueValue → Record
creation c = record { actor = 0; execution = codes "play"; act = act.Create (Some c); outcome = outcome.Done answer.Done; choice = choice.None }

-- below the limit only the execution that is there refuses a create
accepted_create : (c : CatalogueValue) (n : ℕ) (x : Federations) → n < max_creates → Holds x (record { creates = n; here = None }) → create_fault (central_executions x) (codes "play") (Some c) ≡ None
accepted_create c n x few h =
    let room : ltb n max_creates ≡ true = grind (arith, nat_tests) in
    rw (h.execution, h.present, h.creates, room) refl

led_by_create : (c : CatalogueValue) (n : ℕ) (new : Components) → n < max_creates → new ≡ new_components c → Leads (creation c) (record { creates = n; here = None }) (record { creates = n + 1; here = Some new })
led_by_create c n new few e = record {
  next = λ x h. create_next (Some c) None x (accepted_create c n x few h) (outcome.Done answer.Done) refl;
  follows = λ x h. create_holds (Some c) None x (accepted_create c n x few h) (record { creates = n + 1; here = Some new }) (record { creates = omega (arith, h.creates); present = omega (arith, h.present); execution = ap (λ (d : Components). Some d) (sym e) });
}

pub creation_acts : (c : CatalogueValue) (n m : ℕ) (old : Option Components) (ms after : List NamedFederate) (new : Components) (r : Record) → n < max_creates → m ≡ n + 1 → old ≡ None → new ≡ new_components c → r ≡ creation c → after ≡ []
    → IsActed (act.Create (created_catalogue c r.outcome)) (record { creates = n; here = old }) ms r (record { creates = m; here = Some new }) after
creation_acts c n m old ms after new r few next none is_new same cleared =
    let main : IsActed (act.Create (Some c)) (record { creates = n; here = None }) ms (creation c) (record { creates = n + 1; here = Some new }) [] =
    record { same = refl; remembered = λ e. cc; members = refl; leads = led_by_create c n new few is_new } in
    subst (λ (x : Record). IsActed (act.Create (created_catalogue c x.outcome)) (record { creates = n; here = old }) ms x (record { creates = m; here = Some new }) after) (sym same) (rw (none, cleared, next) main)

-- the record of a create past the limit
abbrev pub excess : CatalogueValue → Record
excess c = record { actor = 0; execution = codes "play"; act = act.Create (Some c); outcome = outcome.Refused fault.LimitReached; choice = choice.None }

refused_create : (c : CatalogueValue) (n : ℕ) (x : Federations) → max_creates ≤ n → Holds x (record { creates = n; here = None }) → create_fault (central_executions x) (codes "play") (Some c) ≡ Some fault.LimitReached
refused_create c n x many h =
    let full : ltb n max_creates ≡ false = grind (arith, nat_tests) in
    rw (h.execution, h.present, h.creates, full) refl

led_by_excess : (c : CatalogueValue) (n : ℕ) → max_creates ≤ n → Leads (excess c) (record { creates = n; here = None }) (record { creates = n; here = None })
led_by_excess c n many = record {
  next = λ x h. create_next (Some c) (Some fault.LimitReached) x (refused_create c n x many h) (outcome.Refused fault.LimitReached) refl;
  follows = λ x h. create_holds (Some c) (Some fault.LimitReached) x (refused_create c n x many h) (record { creates = n; here = None }) h;
}

pub excess_acts : (c : CatalogueValue) (n : ℕ) (old : Option Components) (ms : List NamedFederate) (r : Record) → max_creates ≤ n → old ≡ None → r ≡ excess c
    → IsActed (act.Create (created_catalogue c r.outcome)) (record { creates = n; here = old }) ms r (record { creates = n; here = old }) ms
excess_acts c n old ms r many none same =
    let main : IsActed (act.Create (Some c)) (record { creates = n; here = None }) ms (excess c) (record { creates = n; here = None }) ms =
    record { same = refl; remembered = λ e. cc; members = refl; leads = led_by_excess c n many } in
    subst (λ (x : Record). IsActed (act.Create (created_catalogue c x.outcome)) (record { creates = n; here = old }) ms x (record { creates = n; here = old }) ms) (sym same) (rw none main)

-- the record of a create of an execution that is there
abbrev pub repetition : Record
repetition = record { actor = 0; execution = codes "play"; act = act.Create None; outcome = outcome.Refused fault.FederationExecutionAlreadyExists; choice = choice.None }

repeated_create : (n : ℕ) (s : Components) (x : Federations) → Holds x (record { creates = n; here = Some s }) → create_fault (central_executions x) (codes "play") None ≡ Some fault.FederationExecutionAlreadyExists
repeated_create n s x h = rw h.execution refl

pub repetition_acts : {X : Type 0} (value : X → FederationValue) (c : CatalogueValue) (n : ℕ) (f : Option X) (ms : List NamedFederate) (r : Record) → is_some f ≡ true → r ≡ repetition
    → IsActed (act.Create (created_catalogue c r.outcome)) (record { creates = n; here = option_map components_of (option_map value f) }) ms r (record { creates = n; here = option_map components_of (option_map value f) }) ms
repetition_acts value c n None ms r there same = cc
repetition_acts value c n (Some f) ms r there same =
    let s = components_of (value f) in
    let leads : Leads repetition (record { creates = n; here = Some s }) (record { creates = n; here = Some s }) = record {
      next = λ x h. create_next None (Some fault.FederationExecutionAlreadyExists) x (repeated_create n s x h) (outcome.Refused fault.FederationExecutionAlreadyExists) refl;
      follows = λ x h. create_holds None (Some fault.FederationExecutionAlreadyExists) x (repeated_create n s x h) (record { creates = n; here = Some s }) h;
    } in
    let main : IsActed (act.Create None) (record { creates = n; here = Some s }) ms repetition (record { creates = n; here = Some s }) ms =
    record { same = refl; remembered = λ e. cc; members = refl; leads = leads } in
    subst (λ (x : Record). IsActed (act.Create (created_catalogue c x.outcome)) (record { creates = n; here = Some s }) ms x (record { creates = n; here = Some s }) ms) (sym same) main

-- ---- destroying
not_memory : (old : Option Components) (out : Outcome) → EndsAs (destroy_fault (option_map central old)) out → out ≡ outcome.Refused fault.OutOfMemory → ⊥
not_memory None out ends e = let clash : outcome.Refused fault.FederationExecutionDoesNotExist ≡ outcome.Refused fault.OutOfMemory = sym ends ∙ e in cc
not_memory (Some c) out ends e = elim (is_joined_by_any (central c)) as (λ b. EndsAs (cond b (Some fault.FederatesCurrentlyJoined) None) out → ⊥) [
  | true ↦ λ ends. let clash : outcome.Refused fault.FederatesCurrentlyJoined ≡ outcome.Refused fault.OutOfMemory = sym ends ∙ e in cc
  | false ↦ λ ends. let clash : outcome.Done answer.Done ≡ outcome.Refused fault.OutOfMemory = sym ends ∙ e in cc
] ends

-- the record of a destroy
abbrev pub destruction : Outcome → Record
destruction out = record { actor = 0; execution = codes "play"; act = act.Destroy; outcome = out; choice = choice.None }

ends_outcome : (f : Option Fault) (out : Outcome) (x y : Federations) → EndsAs f out → out ≡ (ending_unless f x y).outcome
ends_outcome None out x y ends = ends
ends_outcome (Some e) out x y ends = ends

destroyed_holds : (n : ℕ) (old : Option Components) (f : Option Fault) (out : Outcome) (x : Federations) → EndsAs f out → Holds x (record { creates = n; here = old })
    → Holds (ending_unless f x (with_destroyed x (codes "play"))).executions (record { creates = n; here = execution_after_destroy old out })
destroyed_holds n None None out x ends h = rw ends (record { creates = h.creates; present = omega (arith, h.present); execution = refl })
destroyed_holds n (Some c) None out x ends h = rw ends (record { creates = h.creates; present = omega (arith, h.present); execution = refl })
destroyed_holds n old (Some e) out x ends h = rw ends h

pub acted_destroy : (n : ℕ) (old new : Option Components) (ms : List NamedFederate) (out : Outcome) (r : Record) → IsDestroyed old out new → r ≡ destruction out
    → IsActed act.Destroy (record { creates = n; here = old }) ms r (record { creates = n; here = new }) ms
acted_destroy n old new ms out r is same =
    let ends : (x : Federations) → Holds x (record { creates = n; here = old }) → EndsAs (destroy_fault (option_map central (x.execution (codes "play")))) out =
    λ x h. subst (λ (here : Option Components). EndsAs (destroy_fault (option_map central here)) out) (sym h.execution) is.ends in
    let main : IsActed act.Destroy (record { creates = n; here = old }) ms (destruction out) (record { creates = n; here = execution_after_destroy old out }) ms =
    record {
      same = refl;
      remembered = not_memory old out is.ends;
      members = refl;
      leads = record {
        next = λ x h. record { outcome = ends_outcome _ out x _ (ends x h); choice = no_choice _ x _ };
        follows = λ x h. destroyed_holds n old _ out x (ends x h) h;
      };
    } in
    rw (same, is.follows) main

pub destroyed_when_left : (f : FederationValue) → is_joined_by_any (central (state_of f)) ≡ false → IsDestroyed (Some (components_of f)) (outcome.Done answer.Done) None
unfolding components_of
destroyed_when_left f none = record { ends = rw none refl; follows = refl }

pub kept_while_joined : (f : FederationValue) → is_joined_by_any (central (state_of f)) ≡ true → IsDestroyed (Some (components_of f)) (outcome.Refused fault.FederatesCurrentlyJoined) (Some (components_of f))
unfolding components_of
kept_while_joined f some = record { ends = rw some refl; follows = refl }

none_seen : {X Y : Type 0} (f : X → Y) (o : Option X) → is_some o ≡ false → option_map f o ≡ None
none_seen f None e = refl
none_seen f (Some x) e = cc

pub none_left : {X Y Z : Type 0} (f : X → Y) (g : Y → Z) (o : Option X) → is_some o ≡ false → option_map g (option_map f o) ≡ None
none_left f g o e = ap (option_map g) (none_seen f o e)

-- ---- one more record
next_more : (rs : List Record) (x y : Federations) (r : Record) → AreNext x rs y → IsNext y r → AreNext x (rs ++ r ∷ []) (after_record y r)
next_more [] x y r run is = (subst (λ (z : Federations). IsNext z r) (sym run) is, ap (λ (z : Federations). after_record z r) run)
next_more (q ∷ rs) x y r run is = (run.0, next_more rs (after_record x q) y r run.1 is)

members_more : (rs : List Record) (ms : List NamedFederate) (r : Record) → members_from ms (rs ++ r ∷ []) ≡ member_after (members_from ms rs) r.act r.outcome
unfolding members_from
members_more [] ms r = refl
members_more (q ∷ rs) ms r = members_more rs (member_after ms q.act q.outcome) r

pub keeps_more : (a : Act) (rs : List Record) (old new : Standing) (ms ms' : List NamedFederate) (r : Record) → IsKept rs old ms → IsActed a old ms r new ms' → IsKept (rs ++ r ∷ []) new ms'
keeps_more a rs old new ms ms' r kept acted =
    let x = kept.executions in
    let is : r.act ≡ a = ap (λ (q : Record). q.act) acted.same in
    let joined : ms' ≡ member_after ms r.act r.outcome = acted.members ∙ ap (λ (b : Act). member_after ms b r.outcome) (sym is) in
    record {
      executions = after_record x r;
      next = next_more rs no_federations x r kept.next (acted.leads.next x kept.holds);
      holds = acted.leads.follows x kept.holds;
      joins = joined ∙ rw kept.joins (sym (members_more rs [] r));
    }

-- what is kept follows the next-state function
pub follows_kept : (rs : List Record) (now : Standing) (ms : List NamedFederate) → IsKept rs now ms → FollowNext rs
follows_kept rs now ms kept = (kept.executions, kept.next)

-- at first nothing is kept
pub keeps_nothing : IsKept [] (record { creates = 0; here = None }) []
unfolding members_from
keeps_nothing = record { executions = no_federations; next = refl; holds = record { creates = refl; present = refl; execution = refl }; joins = refl }

pub opened_components : (f : FederationValue) (c : CatalogueValue) → state_of f ≡ new_components c → components_of f ≡ new_components c
unfolding components_of
opened_components f c e = e

-- ---- a step
pub steps_done : (old new : FederationValue) (s : Step) (a : Answer) (chosen : Choice) → (next (state_of old) s).outcome ≡ outcome.Done a → chosen ≡ (next (state_of old) s).choice → state_of new ≡ (next (state_of old) s).state
    → IsStepped (Some (components_of old)) s (outcome.Done a) chosen (Some (components_of new))
unfolding components_of
steps_done old new s a chosen ends chooses leads = record {
  remembered = λ e. cc;
  does = (sym ends, chooses, ap (λ (c : Components). Some c) leads);
}

refused_outcome : (c : Components) (s : Step) (e : Fault) → refusal (components_seen c) s ≡ Some e → next c s ≡ record { outcome = outcome.Refused e; choice = choice.None; state = c }
refused_outcome c s e is = rw is refl

pub steps_refused : (old new : FederationValue) (s : Step) (e : Fault) (chosen : Choice) → new ≡ old → chosen ≡ (next (state_of old) s).choice → ((e ≡ fault.OutOfMemory → ⊥) → refusal (components_seen (state_of old)) s ≡ Some e) → (e ≡ fault.OutOfMemory → ⊥)
    → IsStepped (Some (components_of old)) s (outcome.Refused e) chosen (Some (components_of new))
unfolding components_of
steps_refused old new s e chosen same chooses h some =
    let is : refusal (components_seen (state_of old)) s ≡ Some e = h some in
    let does = refused_outcome (state_of old) s e is in
    record {
      remembered = λ is. let out : e ≡ fault.OutOfMemory = cc in some out;
      does = (sym (ap (λ (o : Outcomes). o.outcome) does), chooses, ap (λ (f : FederationValue). Some (state_of f)) same ∙ sym (ap (λ (o : Outcomes). Some o.state) does));
    }

-- ---- the record of a step
abbrev pub record_of_step : Step → Outcome → Choice → Record
record_of_step s out chosen = record { actor = 0; execution = codes "play"; act = act.Step s; outcome = out; choice = chosen }

stepped_next : (here : Option Components) (x : Federations) (s : Step) (out : Outcome) (chosen : Choice) (new : Option Components) → DoesNext here s out chosen new → (out ≡ (step_in x (codes "play") here s).outcome) × (chosen ≡ (step_in x (codes "play") here s).choice)
stepped_next None x s out chosen new does = (does.0, does.1)
stepped_next (Some c) x s out chosen new does = (does.0, does.1)

stepped_holds : (n : ℕ) (here : Option Components) (x : Federations) (s : Step) (out : Outcome) (chosen : Choice) (new : Option Components) → DoesNext here s out chosen new → Holds x (record { creates = n; here = here })
    → Holds (step_in x (codes "play") here s).executions (record { creates = n; here = new })
stepped_holds n None x s out chosen new does h = rw does.2 h
stepped_holds n (Some c) x s out chosen new does h = rw does.2 (record { creates = h.creates; present = h.present; execution = refl })

pub step_acts : (n : ℕ) (old new : Option Components) (ms after : List NamedFederate) (s : Step) (out : Outcome) (chosen : Choice) (r : Record) → IsStepped old s out chosen new → r ≡ record_of_step s out chosen → after ≡ member_after ms (act.Step s) out
    → IsActed (act.Step s) (record { creates = n; here = old }) ms r (record { creates = n; here = new }) after
step_acts n old new ms after s out chosen r is same joined =
    let main : IsActed (act.Step s) (record { creates = n; here = old }) ms (record_of_step s out chosen) (record { creates = n; here = new }) after =
    record {
      same = refl;
      remembered = is.remembered;
      members = joined;
      leads = record {
        next = λ x h.
            let e = subst (λ (here : Option Components). (out ≡ (step_in x (codes "play") here s).outcome) × (chosen ≡ (step_in x (codes "play") here s).choice)) (sym h.execution) (stepped_next old x s out chosen new is.does) in
            record { outcome = e.0; choice = e.1 };
        follows = λ x h. subst (λ (here : Option Components). Holds (step_in x (codes "play") here s).executions (record { creates = n; here = new })) (sym h.execution) (stepped_holds n old x s out chosen new is.does h);
      };
    } in
    rw same main
