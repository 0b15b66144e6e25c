use Rattle.hla_machine.proofs.Histories.Histories.{history_lawful}
use Rattle.hla_components.specs.Executions.{central_executions}
use Rattle.hla_components.proofs.Discovered.Histories.{history_in_turn}
use Rattle.hla_components.proofs.Refinement.Executions.{runs_from_none}
use Rattle.hla_stage.proofs.player.play_from.Goals as goal

pub returns-in-Ok-play_lines-clause-run : goal.returns-in-Ok-play_lines-clause-run
returns-in-Ok-play_lines-clause-run g c =
    let is = c.in-Ok-play_lines.ensures.next in
    (central_executions is.0, runs_from_none c.in-Ok-play_lines.records is.0 is.1)

pub returns-in-Ok-play_lines-clause-laws : goal.returns-in-Ok-play_lines-clause-laws
returns-in-Ok-play_lines-clause-laws g c =
    let is = c.in-Ok-play_lines.ensures.next in
    history_lawful c.in-Ok-play_lines.records (central_executions is.0) (runs_from_none c.in-Ok-play_lines.records is.0 is.1)

pub returns-in-Ok-play_lines-clause-discoveries : goal.returns-in-Ok-play_lines-clause-discoveries
returns-in-Ok-play_lines-clause-discoveries g c =
    let is = c.in-Ok-play_lines.ensures.next in
    history_in_turn c.in-Ok-play_lines.records is.0 is.1

pub returns-in-Ok-play_lines-clause-played : goal.returns-in-Ok-play_lines-clause-played
returns-in-Ok-play_lines-clause-played g c =
    let all = c.in-Ok-play_lines.ensures.played in
    record {
      from = record { catalogue = c.in-Ok.catalogue; lines = c.in-Ok-parse.lines; describes = c.in-Ok.ensures.found; says = c.in-Ok-parse.ensures; played = all.played };
      remembered = all.remembered;
    }
