use Rattle.std.proofs.Common.{Err, refl}
use Rattle.hla_machine.specs.declared.service.Service.TheVariants as service
use Rattle.hla_machine.specs.declared.step.Outcome.TheVariants as outcome
use Rattle.hla_players.specs.declared.player.Player.{Player}
use Rattle.hla_players.specs.declared.player.Player.TheVariants as player
use Rattle.hla_players.proofs.DeedLemmas.{served_does}
use Rattle.hla_players.proofs.player.resign.Goals as goal

pub returns-in-Err-clause-done : goal.returns-in-Err-clause-done
returns-in-Err-clause-done g c =
    let p : Player g.row.L.Denot g.row.B.Denot g.row.P.Denot g.row.H.Denot = player.Joined c.in-Err.federate in
    served_does c.args.federate c.in-Err.federate (service.Resign c.args.action) (Err c.in-Err.fault) (outcome.Refused c.in-Err.fault) p refl c.in-Err.ensures.refused refl
