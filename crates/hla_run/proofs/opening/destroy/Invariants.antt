use Rattle.std.proofs.Common.{◌≡◌, ℕ, List, ◌++◌, Option, length}
use Rattle.hla_catalogue.specs.CatalogueValue.{CatalogueValue}
use Rattle.hla_machine.specs.declared.step.Record.{Record}
use Rattle.hla_run.specs.Accounted.{AreDoneBelow, IsDestroyingLine}
use Rattle.hla_run.specs.Recorded.{KeepsCalls, KeepsOffice, KeepsOpenings}
use Rattle.hla_run.proofs.opening.destroy.Given as goal

abbrev pub invariant-loop-place : goal.invariant-loop-place
invariant-loop-place g l = record {
  each : length l.outcomes ≡ length l.fn.outcomes;
  office : (read : Option CatalogueValue) (handed : ℕ)
      → (more : List Record) × (l.rti.own.transcript ≡ l.fn.rti.own.transcript ++ more) × AreDoneBelow IsDestroyingLine read handed l.lines l.execution l.place more l.outcomes;
  recorded : KeepsOffice l.lines l.rti.own l.fn.outcomes l.outcomes;
  openings : KeepsOpenings l.lines l.fn.outcomes l.outcomes;
  calls : KeepsCalls l.lines l.fn.outcomes l.outcomes;
}
