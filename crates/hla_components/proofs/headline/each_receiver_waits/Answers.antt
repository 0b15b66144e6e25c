use Rattle.std.proofs.Common.{◌≡◌, true, sym, subst}
use Rattle.hla_machine.specs.declared.step.Step.TheVariants.{Call}
use Rattle.hla_machine.specs.declared.step.Outcome.{Outcome}
use Rattle.hla_machine.specs.Central.{Central}
use Rattle.hla_machine.specs.Machine.{MayEnd, after}
use Rattle.hla_machine.specs.History.{WaitsInOrder}
use Rattle.hla_machine.proofs.Copies.Sending.{sent_waits}
use Rattle.hla_components.specs.Components.{new_components}
use Rattle.hla_components.specs.CentralOf.{central}
use Rattle.hla_components.specs.Next.{next}
use Rattle.hla_components.specs.Headline.{state_after}
use Rattle.hla_components.proofs.Refinement.Runs.{each_step, each_inv}
use Rattle.hla_components.proofs.headline.each_receiver_waits.Goals as goal

pub returns : goal.returns
returns c = λ catalogue before f service e g is told.
    let now = state_after (new_components catalogue) before in
    let o = next now (Call f service) in
    let one = each_step now (Call f service) (each_inv catalogue before) in
    let may = subst (λ (out : Outcome). MayEnd (central now) (Call f service) out o.choice) is one.machine.allowed.0 in
    let follows = subst (λ (out : Outcome). central o.state ≡ after (central now) (Call f service) out o.choice) is one.machine.follows in
    subst (λ (d : Central). (d.sent e.sender e.serial).receivers g ≡ true → WaitsInOrder d g e (d.sent e.sender e.serial).stamp) (sym follows)
    (sent_waits (central now) f service e o.choice g may.1) told
