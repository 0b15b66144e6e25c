-- What tests of a synchronization point tell
use Rattle.std.proofs.Common.{◌≡◌, ℕ, ◌+◌, true, List, length, Option, None, refl, sym, ◌∙◌, ap, subst, arith}
use Rattle.hla_base.specs.declared.fault.Fault.{Fault}
use Rattle.hla_base.specs.RowRefusals.{first_fault}
use Rattle.hla_synchronization.specs.declared.open_points.OpenPoint.{OpenPoint}
use Rattle.hla_synchronization.specs.OpenPoints.{points_of}
use Rattle.hla_machine.specs.declared.service.Service.{Service}
use Rattle.hla_machine.specs.declared.service.Service.TheVariants as service
use Rattle.hla_machine.specs.declared.step.Step.TheVariants.{Call}
use Rattle.hla_machine.specs.declared.step.Answer.TheVariants as answer
use Rattle.hla_machine.specs.declared.step.Outcome.{Outcome}
use Rattle.hla_machine.specs.declared.step.Outcome.TheVariants as outcome
use Rattle.hla_machine.specs.declared.step.Choice.{Choice}
use Rattle.hla_machine.specs.declared.step.Choice.TheVariants as choice
use Rattle.hla_machine.specs.Directory.{Directory, with_points}
use Rattle.hla_machine.specs.Central.{Central}
use Rattle.hla_machine.specs.Refusals.{call_tests}
use Rattle.hla_machine.specs.Machine.{MayAnswer, after_call, central_seen}
use Rattle.hla_accounts.specs.declared.account.Account.{Account}
use Rattle.hla_accounts.specs.Accounts.{account_at, central_with}
use Rattle.hla_verdicts.specs.declared.verdict.Verdict.TheVariants as verdict
use Rattle.hla_verdicts.specs.Calls.{AnswersDone, ChoosesNothing}
use Rattle.hla_verdicts.specs.Kept.{KeptValue, IsConsistent, JudgedStep, central_of, directory_of}
use Rattle.hla_verdicts.proofs.Steps.Endings.{ending_done}
use Rattle.hla_verdicts.proofs.Steps.Outcomes.{kept_among}
use Rattle.hla_verdicts.proofs.Steps.Services.{joined_refusal}

pub registration_only : (label : List ℕ) → AnswersDone (service.RegisterFederationSynchronizationPoint label)
registration_only label c f answer.Done o may = refl
registration_only label c f a o may = absurd may

pub achievement_only : (label : List ℕ) → AnswersDone (service.SynchronizationPointAchieved label)
achievement_only label c f answer.Done o may = refl
achievement_only label c f a o may = absurd may

-- a call that was done and changes accounts and points
pub called_among : (v w : KeptValue) (accounts : List Account) (points : List OpenPoint) (f : ℕ) (x : Service) (found : Option Fault) (out : Outcome) (o : Choice) → v ≡ w → IsConsistent w → (account_at w.accounts f).is_joined ≡ true
    → found ≡ first_fault (call_tests (central_seen (central_of w)) f x) → (found ≡ None) × (out ≡ outcome.Done answer.Done) × (o ≡ choice.None) → ChoosesNothing x → MayAnswer (central_of v) f x answer.Done choice.None
    → ((c : Central) → (after_call c f x choice.None).directory.next_federate ≡ c.directory.next_federate)
    → ((d : Directory) → d.points ≡ points_of v.points → central_with (with_points d (points_of points)) accounts ≡ after_call (central_with d v.accounts) f x choice.None)
    → JudgedStep w (Call f x) out o (record v { accounts = accounts; points = points }) verdict.Allowed
called_among v w accounts points f x found out o same kept joined is ends plain may keeps after =
    let here = subst (λ (y : KeptValue). found ≡ first_fault (call_tests (central_seen (central_of y)) f x)) (sym same) is in
    let member = subst (λ (y : KeptValue). (account_at y.accounts f).is_joined ≡ true) (sym same) joined in
    let next : length accounts + 1 ≡ length v.accounts + 1 = ap (λ (c : Central). c.directory.next_federate) (after (directory_of v) refl) ∙ keeps (central_of v) in
    kept_among v w accounts points (Call f x) (Call f x) out o verdict.Allowed same refl kept
    (ending_done (central_of v) f x plain (central_with (with_points (directory_of v) (points_of points)) accounts) out o found (here ∙ joined_refusal (central_of v) f x member) ends may (after (directory_of v) refl))
    (omega (arith, next))
