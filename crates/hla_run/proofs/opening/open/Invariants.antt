use Rattle.std.proofs.Common.{◌≡◌, ◌≤◌, ◌+◌, [], length, drop}
use Rattle.hla_history.specs.Creating.{catalogue_from}
use Rattle.hla_outcomes.specs.Joining.{joins}
use Rattle.hla_run.specs.Accounted.{AreDoneBelow}
use Rattle.hla_run.specs.Recorded.{AreFresh, AreJoined, AreNotTold, HasEachLife, IsOpeningLine, KeepsOffice}
use Rattle.hla_run.proofs.opening.open.Given as goal

abbrev pub invariant-loop-place : goal.invariant-loop-place
invariant-loop-place g l = record {
  each : length l.outcomes ≡ length l.fn.outcomes;
  enough : joins (drop l.place l.lines) ≤ length l.ambassadors;
  handed : l.rti.handed + (joins (drop l.place l.lines) + joins (drop l.place l.lines)) ≤ l.fn.rti.handed + (joins l.lines + joins l.lines);
  fresh : AreFresh l.execution l.lives.items;
  joined : AreJoined l.rti.own.transcript l.execution l.lives.items;
  recorded : KeepsOffice l.lines l.rti.own l.fn.outcomes l.outcomes;
  office : l.fn.rti.handed ≡ 0 → l.fn.rti.own.transcript ≡ []
      → AreDoneBelow IsOpeningLine (catalogue_from l.fed) (joins l.lines + joins l.lines) l.lines l.execution l.place l.rti.own.transcript l.outcomes;
  lives : AreNotTold l.fn.outcomes → HasEachLife l.lines l.lives.items l.outcomes;
}
