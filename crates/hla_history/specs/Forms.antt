-- Of which form the answer of each step is, whatever the state
use Rattle.std.specs.Prelude.{Some}
use Rattle.hla_machine.specs.declared.service.Service.{Service}
use Rattle.hla_machine.specs.declared.service.Service.TheVariants as service
use Rattle.hla_machine.specs.declared.step.Step.{Step}
use Rattle.hla_machine.specs.declared.step.Step.TheVariants.{Join, Call, Carry, Announce, Tick}
use Rattle.hla_machine.specs.declared.step.Answer.{Answer}
use Rattle.hla_machine.specs.declared.step.Answer.TheVariants as answer
use Rattle.hla_machine.specs.declared.step.Outcome.{Outcome}
use Rattle.hla_machine.specs.declared.step.Outcome.TheVariants as outcome

pub data AnswerForm : Type 0 where
  NoAnswer : AnswerForm
  AFederate : AnswerForm
  ARegistration : AnswerForm
  AHandle : AnswerForm
  AName : AnswerForm
  AnEvent : AnswerForm  -- a message in time-stamp order, if there is one
  ATime : AnswerForm
  ACallback : AnswerForm  -- if there is one
  ACarriage : AnswerForm
  AnAnnouncement : AnswerForm  -- if there is one

abbrev pub IsOfForm : AnswerForm → Answer → Type 0
IsOfForm NoAnswer answer.Done = Unit {0}
IsOfForm AFederate (answer.Federate number) = Unit {0}
IsOfForm ARegistration (answer.Registered object name) = Unit {0}
IsOfForm AHandle (answer.Handle number) = Unit {0}
IsOfForm AName (answer.Name name) = Unit {0}
IsOfForm AnEvent (answer.Sent event) = Unit {0}
IsOfForm ATime (answer.Time time) = Unit {0}
IsOfForm ACallback (answer.Ticked told) = Unit {0}
IsOfForm ACarriage (answer.Carried what) = Unit {0}
IsOfForm AnAnnouncement (answer.Announced promise) = Unit {0}
IsOfForm form answer = ⊥

-- an outcome is an answer of this form or a refusal; only what may answer a callback can fail in one
abbrev pub EndsInForm : AnswerForm → Outcome → Type 0
EndsInForm form (outcome.Done a) = IsOfForm form a
EndsInForm form (outcome.Refused e) = Unit {0}
EndsInForm form (outcome.Failed k) = IsOfForm form (answer.Ticked (Some k))

abbrev pub service_form : Service → AnswerForm
service_form (service.RegisterObjectInstance class name) = ARegistration
service_form (service.UpdateAttributeValues object values stamp) = AnEvent
service_form (service.SendInteraction class values stamp) = AnEvent
service_form service.QueryLbts = ATime
service_form service.QueryFederateTime = ATime
service_form service.QueryMinNextEventTime = ATime
service_form service.QueryLookahead = ATime
service_form (service.GetObjectClassHandle name) = AHandle
service_form (service.GetInteractionClassHandle name) = AHandle
service_form (service.GetAttributeHandle name class) = AHandle
service_form (service.GetParameterHandle name class) = AHandle
service_form (service.GetObjectInstanceHandle name) = AHandle
service_form (service.GetObjectInstanceName object) = AName
service_form service = NoAnswer

abbrev pub step_form : Step → AnswerForm
step_form (Join name) = AFederate
step_form (Call f service) = service_form service
step_form (Carry from to) = ACarriage
step_form (Announce f) = AnAnnouncement
step_form (Tick f) = ACallback
