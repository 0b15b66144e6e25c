-- A point closes once all have ticked and answered, and each member is told so
use Rattle.std.proofs.Common.{◌≡◌, ◌⊎◌, inl, inr, ⊎_elim, ℕ, ◌≤◌, ◌&&◌, ltb, true, false, refl, sym, ap, subst, ◌∙◌, List, [], ◌∷◌, length, Option, Some, None}
use Rattle.std.proofs.lemmas.Bool.{cases_Bool, cond_both, both_ways, false_from_ne_true}
use Rattle.hla_base.specs.declared.fault.Fault.{Fault}
use Rattle.hla_base.specs.declared.notice.NoticeKind.TheVariants as kind
use Rattle.hla_base.specs.Rows.{is_regulator}
use Rattle.hla_base.proofs.Tables.{upd_each}
use Rattle.hla_null_message.specs.declared.message.Message.{Message}
use Rattle.hla_null_message.specs.declared.message.Message.TheVariants as message
use Rattle.hla_component_rules.specs.declared.control.Control.TheVariants.{ToDiscover, ToRetract, ToTell}
use Rattle.hla_component_rules.specs.Picking.{pick, Pick, PickControl}
use Rattle.hla_callbacks.specs.declared.callback.Callback.TheVariants as callback
use Rattle.hla_synchronization.specs.Points.{Point, point_labelled, is_open, notice}
use Rattle.hla_machine.specs.declared.step.Step.{Step}
use Rattle.hla_machine.specs.declared.step.Step.TheVariants.{Join, Call, Carry, Announce, Tick}
use Rattle.hla_machine.specs.declared.service.Service.{Service}
use Rattle.hla_machine.specs.declared.service.Service.TheVariants as service
use Rattle.hla_machine.specs.declared.service.ResignAction.TheVariants.{DeleteObjects, NoAction}
use Rattle.hla_machine.specs.declared.step.Answer.TheVariants as answer
use Rattle.hla_machine.specs.Directory.{Directory, Outgoing, objects_of, update_sent, interaction_sent, deletion_sent, deletions_sent}
use Rattle.hla_machine.specs.Refusals.{refusal}
use Rattle.hla_machine.specs.Central.{Central, new_central}
use Rattle.hla_machine.specs.Machine.{after}
use Rattle.hla_machine.specs.Runs.{Happening}
use Rattle.hla_machine.specs.History.{GivesCallback, next_state}
use Rattle.hla_machine.proofs.Points.Lists.{some_of}
use Rattle.hla_machine.proofs.Points.Marks.{PointCourse, New, Old, someone_left, step_course}
use Rattle.hla_machine.proofs.Points.Awaited.{AreAwaited, awaited_run, awaited_start}
use Rattle.hla_machine.proofs.Points.Waiting.{IsAmong, AreToBeTold, to_be_told, announcing_marks, closing_waits}
use Rattle.hla_components.specs.Components.{Components}
use Rattle.hla_components.specs.CentralOf.{central}
use Rattle.hla_components.specs.Component.{local_bound, promise}
use Rattle.hla_components.specs.Next.{Outcomes, next, answer_outcome, step_outcome, call_outcome, carry_outcome, announce_outcome, pick_outcome, unless_refused, components_seen, with_messages_sent, with_null_announced, with_federate_gone}
use Rattle.hla_components.specs.Invariant.{EachOf}
use Rattle.hla_components.specs.Headline.{IsLedTo, happening, happenings, state_after}
use Rattle.hla_components.proofs.Refinement.Runs.{each_step}
use Rattle.hla_components.proofs.Services.Resigns.{sent_directory}
use Rattle.hla_components.proofs.Refinement.LedTo.{led_inv, led_next, led_after, led_history}
use Rattle.hla_progress.specs.Rounds.{ticks_of, IsGivenIn}
use Rattle.hla_progress.specs.Synchronizing.{IsMemberThroughout, IsNoJoin, ClosesIn, AchievesIfTold}
use Rattle.hla_progress.proofs.Telling.Controls.{member_first, told_within}

-- ---- what is known of the state
awaited_of : (s : Components) → IsLedTo s → AreAwaited (central s)
awaited_of s is = let h = led_history s is in awaited_run (new_central h.catalogue) h.before (central s) h.run (awaited_start h.catalogue)

told_of : (s : Components) → IsLedTo s → AreToBeTold (central s)
told_of s is = let h = led_history s is in to_be_told h.catalogue h.before (central s) h.run

-- ---- one step
module _ (s : Components) (step : Step) (is : IsLedTo s) where
  abbrev t : Components
  t = (next s step).state

  abbrev done : Happening
  done = happening step (next s step)

  follows : central t ≡ next_state (central s) done
  follows = (each_step s step (led_inv s is)).machine.follows

  course : (label : List ℕ) (new : Point) → point_labelled label t.directory.points ≡ Some new → PointCourse (central s) done.step done.outcome label new
  course label new found = step_course (central s) done (each_step s step (led_inv s is)).machine.allowed.0 (awaited_of s is).kept label new
      (subst (λ (d : Central). point_labelled label d.directory.points ≡ Some new) follows found)

  -- who was told of the point was told of it
  marked_next : (label : List ℕ) (g : ℕ) (old new : Point) → point_labelled label s.directory.points ≡ Some old → old.announced g ≡ true → point_labelled label t.directory.points ≡ Some new → new.announced g ≡ true
  marked_next label g old new was mark found = by_course (course label new found)
    where
      by_course : PointCourse (central s) done.step done.outcome label new → new.announced g ≡ true
      by_course (New none _ _) = absurd (both_ways (is_open label s.directory.points) none (rw was refl))
      by_course (Old o) = o.still_told g (let same : Some old ≡ Some o.old = sym was ∙ o.was in let e : old ≡ o.old = cc in subst (λ (p : Point). p.announced g ≡ true) e mark)

-- ---- lists of steps
-- a point of that label is open after each of them
abbrev StaysOpenIn : Components → List Step → List ℕ → Type 0
StaysOpenIn s [] label = is_open label s.directory.points ≡ true
StaysOpenIn s (step ∷ steps) label = (is_open label s.directory.points ≡ true) × StaysOpenIn (next s step).state steps label

open_first : (s : Components) (steps : List Step) (label : List ℕ) → StaysOpenIn s steps label → is_open label s.directory.points ≡ true
open_first s [] label stays = stays
open_first s (step ∷ steps) label stays = stays.0

open_last : (s : Components) (steps : List Step) (label : List ℕ) → StaysOpenIn s steps label → is_open label (state_after s steps).directory.points ≡ true
open_last s [] label stays = stays
open_last s (step ∷ steps) label stays = open_last (next s step).state steps label stays.1

closes_or_stays : (s : Components) (steps : List Step) (label : List ℕ) → is_open label s.directory.points ≡ true → ClosesIn s steps label ⊎ StaysOpenIn s steps label
closes_or_stays s [] label opened = inr opened
closes_or_stays s (step ∷ steps) label opened = ⊎_elim
    (λ (still : is_open label (next s step).state.directory.points ≡ true). ⊎_elim
    (λ (closes : ClosesIn (next s step).state steps label). inl (inr closes))
    (λ (stays : StaysOpenIn (next s step).state steps label). inr (opened, stays))
    (closes_or_stays (next s step).state steps label still))
    (λ (closed : is_open label (next s step).state.directory.points ≡ false). inl (inl closed))
    (cases_Bool (is_open label (next s step).state.directory.points))

-- who was told stays so
marked_last : (s : Components) (steps : List Step) (label : List ℕ) (g : ℕ) → IsLedTo s → StaysOpenIn s steps label → (old : Point) → point_labelled label s.directory.points ≡ Some old → old.announced g ≡ true
    → (new : Point) → point_labelled label (state_after s steps).directory.points ≡ Some new → new.announced g ≡ true
marked_last s [] label g is stays old was mark new found = let same : Some old ≡ Some new = sym was ∙ found in let e : old ≡ new = cc in subst (λ (p : Point). p.announced g ≡ true) e mark
marked_last s (step ∷ steps) label g is stays old was mark new found =
    let p = some_of _ (open_first (next s step).state steps label stays.1) in
    marked_last (next s step).state steps label g (led_next s step is) stays.1 p.0 p.1 (marked_next s step is label g old p.0 was mark p.1) new found

-- who is told among the steps is told at the end
told_last : (s : Components) (steps : List Step) (label : List ℕ) (g : ℕ) → IsLedTo s → StaysOpenIn s steps label → IsGivenIn (happenings s steps) g (λ k. k ≡ callback.AnnounceSynchronizationPoint label)
    → (new : Point) → point_labelled label (state_after s steps).directory.points ≡ Some new → new.announced g ≡ true
told_last s [] label g is stays given new found = absurd given
told_last s (step ∷ steps) label g is stays (inl now) new found =
    let p = some_of _ (open_first (next s step).state steps label stays.1) in
    let one = each_step s step (led_inv s is) in
    let gives = subst (λ k. GivesCallback step (next s step).outcome g k) now.2 now.1 in
    marked_last (next s step).state steps label g (led_next s step is) stays.1 p.0 p.1
    (announcing_marks (central s) (happening step (next s step)) g label p.0 one.machine.allowed.0 gives (subst (λ (d : Central). point_labelled label d.directory.points ≡ Some p.0) one.machine.follows p.1)) new found
told_last s (step ∷ steps) label g is stays (inr later) new found = told_last (next s step).state steps label g (led_next s step is) stays.1 later new found

-- who is joined at the end was joined, where nobody joins
module _ (s : Components) (g : ℕ) where
  gone_back : (t : Components) (f : ℕ) → t.directory ≡ s.directory → (with_federate_gone t f).directory.joined g ≡ true → s.directory.joined g ≡ true
  gone_back t f same member = ap (λ (d : Directory). d.joined g) (sym same)
      ∙ upd_each t.directory.joined f false (λ h x. x ≡ true → t.directory.joined h ≡ true) (λ e. absurd (cc)) (λ h ne e. e) g member

  sent_back : (f : ℕ) (stamp : Option ℕ) (outs : List Outgoing) → (with_messages_sent s f stamp outs).directory.joined g ≡ true → s.directory.joined g ≡ true
  sent_back f stamp outs member = ap (λ (d : Directory). d.joined g) (sym (sent_directory s f stamp outs)) ∙ member

  call_back : (f : ℕ) (x : Service) → (call_outcome s f x).state.directory.joined g ≡ true → s.directory.joined g ≡ true
  call_back f (service.Resign DeleteObjects) member = let outs = deletions_sent (objects_of s.directory f) in gone_back (with_messages_sent s f None outs) f (sent_directory s f None outs) member
  call_back f (service.Resign NoAction) member = gone_back s f refl member
  call_back f (service.UpdateAttributeValues object values stamp) member = sent_back f stamp (update_sent s.directory object values) member
  call_back f (service.SendInteraction class values stamp) member = sent_back f stamp (interaction_sent s.directory f class values) member
  call_back f (service.DeleteObjectInstance object stamp) member = sent_back f stamp (deletion_sent s.directory object) member
  call_back f x member = member

  carry_back : (h l : ℕ) (ms : List Message) → (carry_outcome s h l ms).state.directory.joined g ≡ true → s.directory.joined g ≡ true
  carry_back h l [] member = member
  carry_back h l (message.Event e ∷ ms) member = member
  carry_back h l (message.Null k v ∷ ms) member = member
  carry_back h l (message.Retraction m ∷ ms) member = member
  carry_back h l (message.Discovery d ∷ ms) member = member

  announce_back : (f : ℕ) → (announce_outcome s f).state.directory.joined g ≡ true → s.directory.joined g ≡ true
  announce_back f = cond_both (is_regulator (s.row f) && ltb (s.last_announced f) (promise s f))
      (answer_outcome (answer.Announced (Some (promise s f))) (with_null_announced s f (promise s f)))
      (answer_outcome (answer.Announced None) s) (λ (o : Outcomes). o.state.directory.joined g ≡ true → s.directory.joined g ≡ true) (λ _ member. member) (λ _ member. member)

  pick_back : (f : ℕ) (p : Pick) → (pick_outcome s f p).state.directory.joined g ≡ true → s.directory.joined g ≡ true
  pick_back f (PickControl (ToDiscover from d) rest) member = member
  pick_back f (PickControl (ToRetract e) rest) member = member
  pick_back f (PickControl (ToTell n) rest) member = member
  pick_back f p member = member

  done_back : (step : Step) → IsNoJoin step → (step_outcome s step).state.directory.joined g ≡ true → s.directory.joined g ≡ true
  done_back (Join name) none member = absurd none
  done_back (Call f x) none member = call_back f x member
  done_back (Carry h l) none member = carry_back h l (s.wire h l) member
  done_back (Announce f) none member = announce_back f member
  done_back (Tick f) none member = pick_back f (pick (s.controls f) (s.row f) (s.ro f) (s.tso f) (local_bound s f)) member

  unless_back : (o : Option Fault) (t : Outcomes) → (t.state.directory.joined g ≡ true → s.directory.joined g ≡ true) → (unless_refused o s t).state.directory.joined g ≡ true → s.directory.joined g ≡ true
  unless_back None t back member = back member
  unless_back (Some e) t back member = member

  member_back : (step : Step) → IsNoJoin step → (next s step).state.directory.joined g ≡ true → s.directory.joined g ≡ true
  member_back step none member = unless_back (refusal (components_seen s) step) (step_outcome s step) (done_back step none) member

members_back : (s : Components) (steps : List Step) (g : ℕ) → EachOf IsNoJoin steps → (state_after s steps).directory.joined g ≡ true → IsMemberThroughout s steps g
members_back s [] g none member = member
members_back s (step ∷ steps) g none member =
    let rest = members_back (next s step).state steps g none.1 member in
    (member_back s g step none.0 (member_first (next s step).state steps g rest), rest)

-- ---- the theorems
pub point_closes : (s : Components) (steps : List Step) (label : List ℕ) → IsLedTo s → EachOf IsNoJoin steps → is_open label s.directory.points ≡ true
    → ((f : ℕ) → (state_after s steps).directory.joined f ≡ true → (length (s.controls f) ≤ ticks_of f steps) × AchievesIfTold (state_after s steps) label f) → ClosesIn s steps label
point_closes s steps label is none opened all = ⊎_elim
    (λ (closes : ClosesIn s steps label). closes)
    (λ (stays : StaysOpenIn s steps label). absurd (stuck stays))
    (closes_or_stays s steps label opened)
  where
    stuck : StaysOpenIn s steps label → ⊥
    stuck stays =
        let end = state_after s steps in
        let p = some_of _ (open_last s steps label stays) in
        let q = some_of _ opened in
        let led = led_after s steps is in
        let lacks = someone_left end.directory.joined p.0.achieved end.directory.next_federate ((awaited_of end led).each label p.0 p.1) in
        let g = lacks.0 in
        let answers = all g lacks.1 in
        let untold : p.0.announced g ≡ false = false_from_ne_true _ (λ mark. both_ways (p.0.achieved g) lacks.2 (answers.1 p.0 p.1 mark)) in
        let member = members_back s steps g none lacks.1 in
        let before : q.0.announced g ≡ false = false_from_ne_true _ (λ mark. both_ways (p.0.announced g) untold (marked_last s steps label g is stays q.0 q.1 mark p.0 p.1)) in
        let waits = (told_of s is).each label q.0 g q.1 (member_first s steps g member) before in
        both_ways (p.0.announced g) untold (told_last s steps label g is stays (told_within s steps g (notice kind.Announced label) member waits answers.0) p.0 p.1)

pub member_synchronized : (s : Components) (step : Step) (steps : List Step) (label : List ℕ) (f : ℕ) → IsLedTo s → is_open label s.directory.points ≡ true → is_open label (next s step).state.directory.points ≡ false
    → IsMemberThroughout (next s step).state steps f → length ((next s step).state.controls f) ≤ ticks_of f steps → IsGivenIn (happenings (next s step).state steps) f (λ k. k ≡ callback.FederationSynchronized label)
member_synchronized s step steps label f is opened closed member many =
    let one = each_step s step (led_inv s is) in
    let o = next s step in
    let at : central o.state ≡ after (central s) step o.outcome o.choice = one.machine.follows in
    let waits = closing_waits (central s) step o.outcome o.choice label f one.machine.allowed.0 (awaited_of s is).kept opened
    (subst (λ (d : Central). is_open label d.directory.points ≡ false) at closed) (subst (λ (d : Central). d.directory.joined f ≡ true) at (member_first o.state steps f member)) in
    told_within o.state steps f (notice kind.Synchronized label) member (subst (λ (d : Central). IsAmong (notice kind.Synchronized label) (d.notices f)) (sym at) waits) many
