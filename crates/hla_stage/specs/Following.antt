-- Records that the next-state function made
use Rattle.std.specs.Prelude.{List}
use Rattle.hla_components.specs.Executions.{Federations, no_federations, AreNext}
use Rattle.hla_machine.specs.declared.step.Record.{Record}

-- the records are, one after another, those of the next-state function from no executions
abbrev pub FollowNext : List Record → Type 0
FollowNext records = (x : Federations) × AreNext no_federations records x
