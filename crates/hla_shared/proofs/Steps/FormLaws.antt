-- Each step's answer is of its form.
use Rattle.std.proofs.Common.{◌≡◌, ℕ, Bool, true, false, cond, List, [], ◌∷◌, Option, Some, None, sym, ◌∙◌, subst}
use Rattle.std.specs.Prelude.{◌&&◌, ltb}
use Rattle.hla_base.specs.declared.fault.Fault.{Fault}
use Rattle.hla_base.specs.Rows.{is_regulator}
use Rattle.hla_null_message.specs.declared.message.Message.{Message}
use Rattle.hla_null_message.specs.declared.message.Message.TheVariants as message
use Rattle.hla_component_rules.specs.declared.control.Control.TheVariants.{ToDiscover, ToRetract, ToTell}
use Rattle.hla_component_rules.specs.Picking.{Pick, NoPick, PickControl, PickRo, PickRegulates, PickConstrains, PickTso, PickGrant, pick}
use Rattle.hla_machine.specs.declared.service.Service.{Service}
use Rattle.hla_machine.specs.declared.service.Service.TheVariants as service
use Rattle.hla_machine.specs.declared.step.Step.{Step}
use Rattle.hla_machine.specs.declared.step.Step.TheVariants.{Join, Call, Carry, Announce, Tick}
use Rattle.hla_machine.specs.declared.step.Answer.TheVariants as answer
use Rattle.hla_machine.specs.declared.step.Outcome.{Outcome}
use Rattle.hla_machine.specs.declared.step.Outcome.TheVariants as outcome
use Rattle.hla_machine.specs.declared.step.Choice.{Choice}
use Rattle.hla_machine.specs.Refusals.{refusal}
use Rattle.hla_machine.specs.Runs.{EndsAs}
use Rattle.hla_components.specs.Component.{local_bound, promise}
use Rattle.hla_components.specs.Components.{Components}
use Rattle.hla_components.specs.Next.{next, components_seen, answer_outcome, with_null_announced, step_outcome, call_outcome, carry_outcome, pick_outcome, unless_refused}
use Rattle.hla_history.specs.Forms.{AnswerForm, NoAnswer, ACallback, ACarriage, AnAnnouncement, EndsInForm, service_form, step_form}
use Rattle.hla_history.specs.Heard.{given_outcome}
use Rattle.hla_history.specs.Hosts.{Host}
use Rattle.hla_history.specs.Hosting.{EndsIn}

call_form : (s : Components) (f : ℕ) (x : Service) → EndsInForm (service_form x) (call_outcome s f x).outcome
call_form s f (service.Resign way) = tt
call_form s f (service.PublishObjectClass class attributes) = tt
call_form s f (service.UnpublishObjectClass class) = tt
call_form s f (service.SubscribeObjectClassAttributes class attributes) = tt
call_form s f (service.UnsubscribeObjectClass class) = tt
call_form s f (service.PublishInteractionClass class) = tt
call_form s f (service.UnpublishInteractionClass class) = tt
call_form s f (service.SubscribeInteractionClass class) = tt
call_form s f (service.UnsubscribeInteractionClass class) = tt
call_form s f (service.RegisterObjectInstance class name) = tt
call_form s f (service.UpdateAttributeValues object values stamp) = tt
call_form s f (service.SendInteraction class values stamp) = tt
call_form s f (service.DeleteObjectInstance object stamp) = tt
call_form s f (service.ChangeAttributeOrderType object attributes order) = tt
call_form s f (service.ChangeInteractionOrderType class order) = tt
call_form s f (service.Retract event) = tt
call_form s f (service.RegisterFederationSynchronizationPoint label) = tt
call_form s f (service.SynchronizationPointAchieved label) = tt
call_form s f (service.EnableTimeRegulation time lookahead) = tt
call_form s f service.DisableTimeRegulation = tt
call_form s f service.EnableTimeConstrained = tt
call_form s f service.DisableTimeConstrained = tt
call_form s f (service.TimeAdvanceRequest time) = tt
call_form s f (service.TimeAdvanceRequestAvailable time) = tt
call_form s f (service.NextEventRequest time) = tt
call_form s f (service.NextEventRequestAvailable time) = tt
call_form s f (service.FlushQueueRequest time) = tt
call_form s f (service.ModifyLookahead lookahead) = tt
call_form s f service.EnableAsynchronousDelivery = tt
call_form s f service.DisableAsynchronousDelivery = tt
call_form s f service.QueryLbts = tt
call_form s f service.QueryFederateTime = tt
call_form s f service.QueryMinNextEventTime = tt
call_form s f service.QueryLookahead = tt
call_form s f (service.GetObjectClassHandle name) = tt
call_form s f (service.GetInteractionClassHandle name) = tt
call_form s f (service.GetAttributeHandle name class) = tt
call_form s f (service.GetParameterHandle name class) = tt
call_form s f (service.GetObjectInstanceHandle name) = tt
call_form s f (service.GetObjectInstanceName object) = tt

carry_form : (s : Components) (g f : ℕ) (ms : List Message) → EndsInForm ACarriage (carry_outcome s g f ms).outcome
carry_form s g f [] = tt
carry_form s g f (message.Null k v ∷ ms) = tt
carry_form s g f (message.Retraction m ∷ ms) = tt
carry_form s g f (message.Discovery d ∷ ms) = tt
carry_form s g f (message.Event e ∷ ms) = tt

pick_form : (s : Components) (f : ℕ) (p : Pick) → EndsInForm ACallback (pick_outcome s f p).outcome
pick_form s f NoPick = tt
pick_form s f (PickControl (ToDiscover g d) rest) = tt
pick_form s f (PickControl (ToRetract e) rest) = tt
pick_form s f (PickControl (ToTell n) rest) = tt
pick_form s f (PickRo e rest) = tt
pick_form s f PickRegulates = tt
pick_form s f PickConstrains = tt
pick_form s f (PickTso q e rest) = tt
pick_form s f (PickGrant q t) = tt

announce_form : (s : Components) (f v : ℕ) (b : Bool)
    → EndsInForm AnAnnouncement (cond b (answer_outcome (answer.Announced (Some v)) (with_null_announced s f v)) (answer_outcome (answer.Announced None) s)).outcome
announce_form s f v true = tt
announce_form s f v false = tt

done_form : (s : Components) (step : Step) → EndsInForm (step_form step) (step_outcome s step).outcome
done_form s (Join name) = tt
done_form s (Call f x) = call_form s f x
done_form s (Carry g f) = carry_form s g f (s.wire g f)
done_form s (Announce f) = announce_form s f (promise s f) (is_regulator (s.row f) && ltb (s.last_announced f) (promise s f))
done_form s (Tick f) = pick_form s f (pick (s.controls f) (s.row f) (s.ro f) (s.tso f) (local_bound s f))

unless_form : (s : Components) (step : Step) (o : Option Fault) → EndsInForm (step_form step) (unless_refused o s (step_outcome s step)).outcome
unless_form s step None = done_form s step
unless_form s step (Some e) = tt

-- the next-state function
next_form : (s : Components) (step : Step) → EndsInForm (step_form step) (next s step).outcome
next_form s step = unless_form s step (refusal (components_seen s) step)

-- a failed callback is of a tick's form
given_form : (form : AnswerForm) (out : Outcome) → EndsInForm form (given_outcome out) → EndsInForm form out
given_form form (outcome.Done a) is = is
given_form form (outcome.Refused e) is = is
given_form form (outcome.Failed k) is = is

pub ends_in_form : (o : Option Host) (step : Step) (out answered : Outcome) (chosen : Choice) → EndsIn o step out chosen → answered ≡ out → EndsInForm (step_form step) answered
ends_in_form None step out answered chosen ends is = subst (EndsInForm (step_form step)) (sym (is ∙ ends.0)) tt
ends_in_form (Some h) step out answered chosen ends is =
    subst (EndsInForm (step_form step)) (sym is) (given_form (step_form step) out (subst (EndsInForm (step_form step)) (sym ends.0) (next_form h.components step)))

-- creating and destroying
pub ends_without_answer : (o : Option Fault) (out answered : Outcome) → EndsAs o out → answered ≡ out → EndsInForm NoAnswer answered
ends_without_answer None out answered ends is = subst (EndsInForm NoAnswer) (sym (is ∙ ends)) tt
ends_without_answer (Some e) out answered ends is = subst (EndsInForm NoAnswer) (sym (is ∙ ends)) tt
