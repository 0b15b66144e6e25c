use Rattle.std.proofs.Common.{◌≡◌, ◌++◌, take, filter}
use Rattle.hla_base.specs.declared.content.HandleValuePair.{HandleValuePair}
use Rattle.hla_catalogue.specs.Lookup.{has_parameter}
use Rattle.hla_checker.proofs.kept.KeptExecution.add_parameters.Given as goal

-- what is shown of the values so far stands behind what was there
abbrev pub invariant-loop-value : goal.invariant-loop-value
invariant-loop-value l = l.shown ≡ l.initial.shown ++ filter (λ (v : HandleValuePair). has_parameter l.self.catalogue l.class v.handle) (take l.value-index l.values)
