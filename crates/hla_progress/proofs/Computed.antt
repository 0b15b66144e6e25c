-- The examples of rounds, by computation
use Rattle.std.proofs.Common.{◌≡◌, ℕ, zero, suc, ltb, ◌&&◌, refl, sym, ◌∙◌, ap, subst, List, [], ◌∷◌, ◌++◌, map, Option, Some, None}
use Rattle.std.proofs.lemmas.Bool.{cond_both}
use Rattle.std.proofs.lemmas.List.{append_assoc}
use Rattle.hla_base.specs.declared.fault.Fault.{Fault}
use Rattle.hla_base.specs.Rows.{is_regulator}
use Rattle.hla_base.specs.Tables.{upd, upd2, upd_row, upd_column, upd_new, upd_whole_column, least, greatest, numbers_below}
use Rattle.hla_callbacks.specs.declared.callback.Callback.{Callback}
use Rattle.hla_null_message.specs.declared.message.Message.{Message}
use Rattle.hla_null_message.specs.declared.message.Message.TheVariants as message
use Rattle.hla_component_rules.specs.declared.control.Control.TheVariants.{ToDiscover, ToRetract, ToTell}
use Rattle.hla_component_rules.specs.Queues.{insert_event, find_event, remove_event, least_ordered, handle_of, handles_of}
use Rattle.hla_component_rules.specs.Picking.{Pick, NoPick, PickControl, PickRo, PickRegulates, PickConstrains, PickTso, PickGrant}
use Rattle.hla_machine.specs.declared.service.Service.TheVariants as service
use Rattle.hla_machine.specs.declared.step.Step.{Step}
use Rattle.hla_machine.specs.declared.step.Step.TheVariants.{Join, Call, Carry, Announce, Tick}
use Rattle.hla_machine.specs.declared.step.Answer.TheVariants as answer
use Rattle.hla_machine.specs.declared.step.Carried.TheVariants as carried
use Rattle.hla_machine.specs.declared.step.Outcome.{Outcome}
use Rattle.hla_machine.specs.declared.step.Outcome.TheVariants as outcome
use Rattle.hla_machine.specs.Central.{low_entry}
use Rattle.hla_machine.specs.Machine.{is_removal}
use Rattle.hla_machine.specs.Refusals.{refusal}
use Rattle.hla_components.specs.Invariant.{EachOf}
use Rattle.hla_machine.specs.Runs.{Happening}
use Rattle.hla_components.specs.Components.{Components, new_components}
use Rattle.hla_components.specs.Component.{promise, regulation_entry}
use Rattle.hla_components.specs.Examples.Words.{catalogue}
use Rattle.hla_components.specs.Headline.{happenings, state_after}
use Rattle.hla_components.specs.Next.{Outcomes, next, answer_outcome, announce_outcome, carry_outcome, pick_outcome, unless_refused, components_seen, with_null_announced}
use Rattle.hla_progress.specs.Rounds.{announcements, carries_from, carries_to, ticks, round, rounds, IsOfRounds}
use Rattle.hla_progress.proofs.Waiting.Steps.{picked_at}
use Rattle.hla_progress.proofs.Waiting.Lists.{round_of}
use Rattle.hla_progress.specs.Examples.{given_at, callbacks_of, two_with_requests, GrantedInTheFourthRound, NeverGranted, GrantedInTheSecondRound}

pub granted_in_the_second_round : GrantedInTheSecondRound
unfolding upd upd2 upd_row upd_column upd_new upd_whole_column least greatest numbers_below low_entry insert_event find_event remove_event least_ordered handles_of regulation_entry announcements carries_from carries_to ticks
granted_in_the_second_round = (refl, refl)

pub granted_in_the_fourth_round : GrantedInTheFourthRound
unfolding upd upd2 upd_row upd_column upd_new upd_whole_column least greatest numbers_below low_entry insert_event find_event remove_event least_ordered handles_of regulation_entry announcements carries_from carries_to ticks
granted_in_the_fourth_round = (refl, refl)

-- ---- where a round ends in nothing, it changes nothing
-- how a step ends that announces, carries or picks up nothing
abbrev nothing_of : Step → Outcome
nothing_of (Carry g f) = outcome.Done (answer.Carried carried.Nothing)
nothing_of (Announce f) = outcome.Done (answer.Announced None)
nothing_of step = outcome.Done (answer.Ticked None)

still_announce : (s : Components) (f : ℕ) (r : Option Fault) → (unless_refused r s (announce_outcome s f)).outcome ≡ nothing_of (Announce f) → (unless_refused r s (announce_outcome s f)).state ≡ s
still_announce s f (Some x) e = refl
still_announce s f None e = cond_both (is_regulator (s.row f) && ltb (s.last_announced f) (promise s f)) (answer_outcome (answer.Announced (Some (promise s f))) (with_null_announced s f (promise s f))) (answer_outcome (answer.Announced None) s)
    (λ (o : Outcomes). o.outcome ≡ outcome.Done (answer.Announced None) → o.state ≡ s) (λ _ e. absurd (cc)) (λ _ _. refl) e

still_carry : (s : Components) (g f : ℕ) (r : Option Fault) (ms : List Message) → (unless_refused r s (carry_outcome s g f ms)).outcome ≡ nothing_of (Carry g f) → (unless_refused r s (carry_outcome s g f ms)).state ≡ s
still_carry s g f (Some x) ms e = refl
still_carry s g f None [] e = refl
still_carry s g f None (message.Event x ∷ ms) e = absurd (cond_both (is_removal x.content) (carried.Removal (handle_of x)) (carried.Event (handle_of x)) (λ c. outcome.Done (answer.Carried c) ≡ outcome.Done (answer.Carried carried.Nothing) → ⊥) (λ _ e. cc) (λ _ e. cc) e)
still_carry s g f None (message.Null k v ∷ ms) e = absurd (cc)
still_carry s g f None (message.Retraction m ∷ ms) e = absurd (cc)
still_carry s g f None (message.Discovery d ∷ ms) e = absurd (cc)

still_tick : (s : Components) (f : ℕ) (r : Option Fault) (p : Pick) → (unless_refused r s (pick_outcome s f p)).outcome ≡ nothing_of (Tick f) → (unless_refused r s (pick_outcome s f p)).state ≡ s
still_tick s f (Some x) p e = refl
still_tick s f None NoPick e = refl
still_tick s f None (PickControl (ToDiscover from d) rest) e = absurd (cc)
still_tick s f None (PickControl (ToRetract x) rest) e = absurd (cc)
still_tick s f None (PickControl (ToTell n) rest) e = absurd (cc)
still_tick s f None (PickRo x rest) e = absurd (cc)
still_tick s f None PickRegulates e = absurd (cc)
still_tick s f None PickConstrains e = absurd (cc)
still_tick s f None (PickTso q x rest) e = absurd (cc)
still_tick s f None (PickGrant q t) e = absurd (cc)

still_step : (s : Components) (step : Step) → IsOfRounds step → (next s step).outcome ≡ nothing_of step → ((next s step).state ≡ s) × (given_at step (next s step).outcome ≡ [])
still_step s (Join name) of e = absurd of
still_step s (Call f x) of e = absurd of
still_step s (Carry g f) of e = (still_carry s g f (refusal (components_seen s) (Carry g f)) (s.wire g f) e, refl)
still_step s (Announce f) of e = (still_announce s f (refusal (components_seen s) (Announce f)) e, refl)
still_step s (Tick f) of e = (still_tick s f (refusal (components_seen s) (Tick f)) (picked_at s f) e, rw e refl)

abbrev outcomes_of : Components → List Step → List Outcome
outcomes_of s steps = map (λ (h : Happening). h.outcome) (happenings s steps)

still_list : (s : Components) (steps : List Step) → EachOf IsOfRounds steps → outcomes_of s steps ≡ map nothing_of steps → (state_after s steps ≡ s) × (callbacks_of (happenings s steps) ≡ [])
still_list s [] of e = (refl, refl)
still_list s (step ∷ steps) of e =
    let head : (next s step).outcome ≡ nothing_of step = cc in
    let tail : outcomes_of (next s step).state steps ≡ map nothing_of steps = cc in
    let still = still_step s step of.0 head in
    let rest = still_list s steps of.1 (subst (λ (t : Components). outcomes_of t steps ≡ map nothing_of steps) still.0 tail) in
    (subst (λ (t : Components). state_after t steps ≡ s) (sym still.0) rest.0, rw still.1 (subst (λ (t : Components). callbacks_of (happenings t steps) ≡ []) (sym still.0) rest.1))

-- ---- and so does no round
callbacks_append : (s : Components) (xs ys : List Step) → callbacks_of (happenings s (xs ++ ys)) ≡ callbacks_of (happenings s xs) ++ callbacks_of (happenings (state_after s xs) ys)
callbacks_append s [] ys = refl
callbacks_append s (x ∷ xs) ys =
    let o = next s x in
    ap (λ (ks : List (ℕ × Callback)). given_at x o.outcome ++ ks) (callbacks_append o.state xs ys) ∙ sym (append_assoc (given_at x o.outcome) (callbacks_of (happenings o.state xs)) (callbacks_of (happenings (state_after o.state xs) ys)))

still_rounds : (s : Components) (n m : ℕ) → (state_after s (round n m) ≡ s) × (callbacks_of (happenings s (round n m)) ≡ []) → (k : ℕ) → callbacks_of (happenings s (rounds k n m)) ≡ []
still_rounds s n m still zero = refl
still_rounds s n m still (suc k) =
    let later : callbacks_of (happenings (state_after s (round n m)) (rounds k n m)) ≡ [] = subst (λ (t : Components). callbacks_of (happenings t (rounds k n m)) ≡ []) (sym still.0) (still_rounds s n m still k) in
    callbacks_append s (round n m) (rounds k n m) ∙ rw (still.1, later) refl

-- ---- two Next Event Requests Available of the lookahead 0
abbrev NothingInARound : Type 0
NothingInARound = outcomes_of (state_after (new_components catalogue) (two_with_requests (service.NextEventRequestAvailable 3) (service.NextEventRequestAvailable 3))) (round 2 1) ≡ map nothing_of (round 2 1)

nothing_in_a_round : NothingInARound
unfolding upd upd2 upd_row upd_column upd_new upd_whole_column least greatest numbers_below low_entry insert_event find_event remove_event least_ordered handles_of regulation_entry announcements carries_from carries_to ticks
nothing_in_a_round = refl

pub never_granted : NeverGranted
never_granted k = let s = state_after (new_components catalogue) (two_with_requests (service.NextEventRequestAvailable 3) (service.NextEventRequestAvailable 3)) in
    still_rounds s 2 1 (still_list s (round 2 1) (round_of 2 1) nothing_in_a_round) k
