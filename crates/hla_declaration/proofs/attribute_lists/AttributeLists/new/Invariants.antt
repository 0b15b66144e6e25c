use Rattle.std.proofs.Common.{◌≡◌, replicate, None}
use Rattle.hla_declaration.proofs.attribute_lists.AttributeLists.new.Given as goal

-- one place for each turn
abbrev pub invariant-loop-class : goal.invariant-loop-class
invariant-loop-class l = l.lists.items ≡ replicate l._class None
