-- A step of a session that a handle stands for; and a service with values, where these heads and bytes are those of some values
use Rattle.std.proofs.Common.{◌≡◌, ℕ, Option, Some, Result, List, map, IfOk, inl, sym, subst}
use Rattle.hla_base.specs.declared.content.HandleValuePair.{HandleValuePair}
use Rattle.hla_base.specs.declared.fault.Fault.{Fault}
use Rattle.hla_machine.specs.declared.service.Service.{Service}
use Rattle.hla_machine.specs.declared.step.Step.{Step}
use Rattle.hla_machine.specs.declared.step.Step.TheVariants.{Call}
use Rattle.hla_machine.specs.declared.step.Answer.{Answer}
use Rattle.hla_session.specs.Calls.{IsCalled}
use Rattle.hla_plain.specs.declared.data.ValueHead.{ValueHead}
use Rattle.hla_plain.specs.Values.{head_of, bytes_in}
use Rattle.hla_c.specs.Held.{Owned}
use Rattle.hla_c.specs.Calls.{IsCallServed, IsCallServedWith, IsStepAnswered, code_of}

pub step_answered : (old new : Option Owned) (s lent t : Owned) (step : Step) (says : Answer → Type 0) (r : Result Answer Fault) (code : ℕ)
    → old ≡ Some s → lent ≡ s → new ≡ Some t → IsCalled lent.session step r t.session → code ≡ code_of r → IfOk r says → IsStepAnswered old step says code new
step_answered old new s lent t step says r code was same is called coded as_answer =
    let here : IsStepAnswered (Some s) step says code (Some t) = (r, coded, as_answer, subst (λ (m : Owned). IsCalled m.session step r t.session) same called) in
    subst (λ (o : Option Owned). IsStepAnswered o step says code new) (sym was) (subst (λ (o : Option Owned). IsStepAnswered (Some s) step says code o) (sym is) here)

pub served_with : (old new : Option Owned) (s lent t : Owned) (federate : ℕ) (heads : List ValueHead) (bytes : List ℕ) (service : List HandleValuePair → Service) (says : Answer → Type 0) (vs : List HandleValuePair) (r : Result Answer Fault) (code : ℕ)
    → old ≡ Some s → lent ≡ s → new ≡ Some t → map head_of vs ≡ heads → bytes_in vs ≡ bytes → IsCalled lent.session (Call federate (service vs)) r t.session → code ≡ code_of r → IfOk r says
    → IsCallServedWith old federate heads bytes service says code new
served_with old new s lent t federate heads bytes service says vs r code was same is same_heads same_bytes called coded as_answer =
    let here : IsCallServed (Some s) federate (service vs) says code (Some t) = (r, coded, as_answer, subst (λ (m : Owned). IsCalled m.session (Call federate (service vs)) r t.session) same called) in
    inl (
      vs,
      same_heads,
      same_bytes,
      subst (λ (o : Option Owned). IsCallServed o federate (service vs) says code new) (sym was)
          (subst (λ (o : Option Owned). IsCallServed (Some s) federate (service vs) says code o) (sym is) here),
    )
