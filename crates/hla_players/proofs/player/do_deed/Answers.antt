use Rattle.std.proofs.Common.{refl, sym, subst}
use Rattle.hla_machine.specs.declared.step.Answer.TheVariants as answer
use Rattle.hla_callers.specs.Callers.{said}
use Rattle.hla_players.specs.Deeds.{DoesDeed}
use Rattle.hla_players.specs.declared.player.Player.{Player}
use Rattle.hla_players.specs.declared.player.Player.TheVariants as player
use Rattle.hla_players.specs.declared.player.Deed.{Deed}
use Rattle.hla_players.proofs.DeedLemmas.{ticked_does}
use Rattle.hla_players.proofs.player.do_deed.Goals as goal

pub returns-in-Tick-clause-done : goal.returns-in-Tick-clause-done
returns-in-Tick-clause-done g c =
    let p : Player g.row.L.Denot g.row.B.Denot g.row.P.Denot g.row.H.Denot = player.Joined c.tick.new.self in
    subst (λ (x : Deed). DoesDeed c.args.federate x c.outcome_of_tick-outcome.result p) (sym c.in-Tick.is)
    (ticked_does c.args.federate c.tick.new.self (said answer.Ticked c.tick.result) c.outcome_of_tick-outcome.result p refl c.tick.ensures.answered c.tick.ensures.execution c.tick.ensures.federate c.outcome_of_tick-outcome.ensures)
