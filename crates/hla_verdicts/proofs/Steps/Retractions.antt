-- What tests of a retraction tell
use Rattle.std.proofs.Common.{◌≡◌, ℕ, ltb, eqb-true, not, ◌&&◌, Bool, true, false, Some, None, cond, refl, ◌∙◌, ap}
use Rattle.hla_base.specs.declared.fault.Fault.TheVariants as fault
use Rattle.hla_base.specs.declared.number.EventHandle.{EventHandle}
use Rattle.hla_base.specs.declared.row.TimeRow.{TimeRow}
use Rattle.hla_base.specs.Rows.{is_enabled, least_stamp}
use Rattle.hla_base.specs.RowRefusals.{first_fault}
use Rattle.hla_retraction.specs.SentEvents.{SentEvent, may_retract}
use Rattle.hla_machine.specs.Central.{Central}
use Rattle.hla_machine.specs.Refusals.{Seen, call_tests}
use Rattle.hla_machine.specs.Machine.{MayAnswer, after_call, after_retract}
use Rattle.hla_machine.specs.declared.service.Service.TheVariants as service
use Rattle.hla_machine.specs.declared.step.Answer.{Answer}
use Rattle.hla_machine.specs.declared.step.Answer.TheVariants as answer
use Rattle.hla_machine.specs.declared.step.Choice.{Choice}
use Rattle.hla_machine.specs.declared.step.Choice.TheVariants as choice
use Rattle.hla_verdicts.proofs.Steps.Services.{IsPlainService}

retract_done : (e : EventHandle) (c : Central) (f : ℕ) (a : Answer) (o : Choice) → MayAnswer c f (service.Retract e) a o → a ≡ answer.Done
retract_done e c f answer.Done o may = refl
retract_done e c f a o may = absurd may

pub retract_plain : (e : EventHandle) → IsPlainService (service.Retract e)
retract_plain e = record { answers = λ c f o. tt; only = retract_done e; plain = λ o is. is; chooses = λ o is. is }

both : (a b : Bool) → cond (not (a && b)) (Some fault.InvalidRetractionHandle) None ≡ None → (a ≡ true) × (b ≡ true)
both true true is = (refl, refl)
both true false is = absurd (cc)
both false b is = absurd (cc)

left : (a b : Bool) → (a && b) ≡ true → a ≡ true
left true b is = refl
left false b is = is

right : (a b : Bool) → (a && b) ≡ true → b ≡ true
right true b is = is
right false b is = absurd (cc)

kept : (r : TimeRow) (s : SentEvent) → may_retract r s ≡ true → s.retractable ≡ true
kept r s is =
    right (is_enabled r.regulating) s.retractable
    (left (is_enabled r.regulating && s.retractable) (not s.retracted) (left (is_enabled r.regulating && s.retractable && not s.retracted) (ltb (least_stamp r) s.stamp) is))

-- who may retract a message is its sender, and it may be retracted
module _ (s : Seen) (f : ℕ) (e : EventHandle) (none : first_fault (call_tests s f (service.Retract e)) ≡ None) where
  pub retractor : e.sender ≡ f
  retractor = eqb-true e.sender f (both _ _ none).0

  pub retracted_kept : (s.sent e.sender e.serial).retractable ≡ true
  retracted_kept = ap (λ (g : ℕ). (s.sent g e.serial).retractable) retractor ∙ kept (s.row f) (s.sent f e.serial) (both _ _ none).1

pub retracted_after : (c d : Central) (f : ℕ) (e : EventHandle) → e.sender ≡ f → d ≡ after_retract c e.sender e.serial → d ≡ after_call c f (service.Retract e) choice.None
retracted_after c d f e same after = after ∙ ap (λ (g : ℕ). after_retract c g e.serial) same
