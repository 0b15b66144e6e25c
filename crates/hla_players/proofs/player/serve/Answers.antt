use Rattle.std.proofs.Common.{refl, sym, subst}
use Rattle.hla_machine.specs.declared.service.Service.{Service}
use Rattle.hla_players.specs.Deeds.{DoesDeed, IsGoneBy}
use Rattle.hla_players.specs.declared.player.Player.{Player}
use Rattle.hla_players.specs.declared.player.Player.TheVariants as player
use Rattle.hla_players.specs.declared.player.Deed.TheVariants as deed
use Rattle.hla_players.proofs.DeedLemmas.{served_does}
use Rattle.hla_players.proofs.player.serve.Goals as goal

pub returns-in-Resign-clause-done : goal.returns-in-Resign-clause-done
returns-in-Resign-clause-done g c =
    subst (λ (x : Service). DoesDeed c.args.federate (deed.Serve x) c.resign.result.outcome c.resign.result.player) (sym c.in-Resign.is) c.resign.ensures.done

pub returns-in-Resign-clause-gone : goal.returns-in-Resign-clause-gone
returns-in-Resign-clause-gone g c = subst (λ (x : Service). IsGoneBy (deed.Serve x) c.resign.result.outcome c.resign.result.player) (sym c.in-Resign.is) c.resign.ensures.gone

pub returns-clause-done : goal.returns-clause-done
returns-clause-done g c =
    let p : Player g.row.L.Denot g.row.B.Denot g.row.P.Denot g.row.H.Denot = player.Joined c.serve.new.self in
    served_does c.args.federate c.serve.new.self c.args.service c.serve.result c.outcome_of-outcome.result p refl c.serve.ensures.served c.outcome_of-outcome.ensures
