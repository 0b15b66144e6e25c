-- What each step chooses, and of which form
use Rattle.std.proofs.Common.{◌≡◌, ℕ, ◌+◌, ◌≤◌, ◌&&◌, false, refl, arith, ltb, filter, List, [], ◌∷◌, Some, None}
use Rattle.std.proofs.lemmas.Bool.{cond_both}
use Rattle.hla_base.specs.declared.content.Content.{Content}
use Rattle.hla_base.specs.declared.content.Content.TheVariants as content
use Rattle.hla_base.specs.declared.content.Event.{Event}
use Rattle.hla_base.specs.declared.notice.NoticeKind.{NoticeKind}
use Rattle.hla_base.specs.declared.notice.NoticeKind.TheVariants as notices
use Rattle.hla_base.specs.declared.fault.Fault.{Fault}
use Rattle.hla_base.specs.declared.number.EventHandle.{EventHandle}
use Rattle.hla_base.specs.Rows.{is_regulator}
use Rattle.hla_null_message.specs.declared.message.Message.{Message}
use Rattle.hla_null_message.specs.declared.message.Message.TheVariants as message
use Rattle.hla_component_rules.specs.declared.control.Control.TheVariants.{ToDiscover, ToRetract, ToTell}
use Rattle.hla_callbacks.specs.declared.callback.Delivery.{Delivery}
use Rattle.hla_machine.specs.declared.service.Service.{Service}
use Rattle.hla_machine.specs.declared.service.Service.TheVariants as service
use Rattle.hla_machine.specs.declared.step.Step.{Step}
use Rattle.hla_machine.specs.declared.step.Step.TheVariants.{Join, Call, Carry, Announce, Tick}
use Rattle.hla_machine.specs.declared.step.Answer.TheVariants as answer
use Rattle.hla_machine.specs.declared.step.Outcome.TheVariants as outcome
use Rattle.hla_machine.specs.declared.step.Choice.TheVariants as choice
use Rattle.hla_machine.specs.Callbacks.{is_among}
use Rattle.hla_machine.specs.Machine.{IsChoice, IsCallbackChoice, AreDistinct}
use Rattle.hla_component_rules.specs.Queues.{occurrences, handles_of}
use Rattle.hla_components.specs.Components.{Components}
use Rattle.hla_components.specs.Component.{promise, local_bound}
use Rattle.hla_component_rules.specs.Picking.{pick, Pick, NoPick, PickControl, PickRo, PickRegulates, PickConstrains, PickTso, PickGrant, is_below}
use Rattle.hla_components.specs.Next.{Outcomes, answer_outcome, step_outcome, call_outcome, carry_outcome, pick_outcome, with_null_announced, content_callback, notice_callback}
use Rattle.hla_components.specs.Invariant.{Kept}
use Rattle.hla_components.proofs.Wiring.Queues.{find-none, occurs-cons, occurs-filter}
use Rattle.hla_components.proofs.Wiring.Bags.{event_self}
use Rattle.hla_components.proofs.Upkeep.Demotions.{among_found, fewer_behind, once_tso}

-- what is there once is not among those behind it
not_behind : (x : Event) (xs : List Event) → occurrences x.sender x.serial (x ∷ xs) ≤ 1 → is_among (handles_of xs) x.sender x.serial ≡ false
not_behind x xs once =
    let o : 1 + occurrences x.sender x.serial xs ≤ 1 = rw (occurs-cons, event_self) at once in
    let none : occurrences x.sender x.serial xs ≡ 0 = omega arith in
    rw (among_found x.sender x.serial xs, find-none x.sender x.serial xs none) refl

-- events of which each is there once have handles of which each is there once
pub distinct_handles : (xs : List Event) → ((g m : ℕ) → occurrences g m xs ≤ 1) → AreDistinct (handles_of xs)
unfolding handles_of
distinct_handles [] once = tt
distinct_handles (x ∷ xs) once = (not_behind x xs (once x.sender x.serial), distinct_handles xs (λ g m. fewer_behind g m x xs (once g m)))

call_choice : (s : Components) (f : ℕ) (service : Service) → Kept s → IsChoice (Call f service) (call_outcome s f service).outcome (call_outcome s f service).choice
call_choice s f (service.EnableTimeRegulation time lookahead) kept = tt
call_choice s f service.DisableTimeConstrained kept = distinct_handles (s.tso f) (once_tso s f kept)
call_choice s f service kept = refl

carry_choice : (s : Components) (g f : ℕ) (ms : List Message) → (carry_outcome s g f ms).choice ≡ choice.None
carry_choice s g f [] = refl
carry_choice s g f (m ∷ ms) = carried m
  where
    carried : (m : Message) → (carry_outcome s g f (m ∷ ms)).choice ≡ choice.None
    carried (message.Event e) = refl
    carried (message.Null k v) = refl
    carried (message.Retraction n) = refl
    carried (message.Discovery d) = refl

announce_choice : (s : Components) (f : ℕ) → (step_outcome s (Announce f)).choice ≡ choice.None
announce_choice s f = cond_both (is_regulator (s.row f) && ltb (s.last_announced f) (promise s f))
    (answer_outcome (answer.Announced (Some (promise s f))) (with_null_announced s f (promise s f))) (answer_outcome (answer.Announced None) s)
    (λ (o : Outcomes). o.choice ≡ choice.None) (λ _. refl) (λ _. refl)

-- a message that is given chooses nothing
content_choice : (d : Delivery) (e : EventHandle) (x : Content) → IsCallbackChoice (Some (content_callback d e x)) choice.None
content_choice d e (content.Interaction class values) = refl
content_choice d e (content.Reflection object values) = refl
content_choice d e (content.Removal object) = refl

-- nor does a notice
notice_choice : (k : NoticeKind) (label : List ℕ) → IsCallbackChoice (Some (notice_callback k label)) choice.None
notice_choice notices.RegistrationSucceeded label = refl
notice_choice notices.RegistrationFailed label = refl
notice_choice notices.Announced label = refl
notice_choice notices.Synchronized label = refl

pick_choice : (s : Components) (f : ℕ) (p : Pick) → Kept s → IsChoice (Tick f) (pick_outcome s f p).outcome (pick_outcome s f p).choice
pick_choice s f NoPick kept = refl
pick_choice s f (PickControl (ToDiscover from d) rest) kept = refl
pick_choice s f (PickControl (ToRetract e) rest) kept = refl
pick_choice s f (PickControl (ToTell n) rest) kept = notice_choice n.kind n.label
pick_choice s f (PickRo e rest) kept = content_choice _ _ e.content
pick_choice s f PickRegulates kept = refl
pick_choice s f PickConstrains kept = distinct_handles (filter (is_below (s.row f).time) (s.tso f))
    (λ g m. omega (arith, occurs-filter g m (is_below (s.row f).time) (s.tso f), once_tso s f kept g m))
pick_choice s f (PickTso q e rest) kept = content_choice _ _ e.content
pick_choice s f (PickGrant q t) kept = refl

pub step_choice : (s : Components) (step : Step) → Kept s → IsChoice step (step_outcome s step).outcome (step_outcome s step).choice
step_choice s (Join name) kept = refl
step_choice s (Call f service) kept = call_choice s f service kept
step_choice s (Carry g f) kept = carry_choice s g f (s.wire g f)
step_choice s (Announce f) kept = announce_choice s f
step_choice s (Tick f) kept = pick_choice s f (pick (s.controls f) (s.row f) (s.ro f) (s.tso f) (local_bound s f)) kept

-- nor does a refusal
pub refused_choice : (step : Step) (e : Fault) → IsChoice step (outcome.Refused e) choice.None
refused_choice (Join name) e = refl
refused_choice (Call f service) e = refl
refused_choice (Carry g f) e = refl
refused_choice (Announce f) e = refl
refused_choice (Tick f) e = refl
