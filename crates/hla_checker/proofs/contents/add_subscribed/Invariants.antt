use Rattle.std.proofs.Common.{◌≡◌, ◌++◌, take, filter}
use Rattle.hla_base.specs.declared.content.HandleValuePair.{HandleValuePair}
use Rattle.hla_catalogue.specs.Lookup.{contains_number}
use Rattle.hla_checker.proofs.contents.add_subscribed.Given as goal

-- what is shown of the values so far stands behind what was there
abbrev pub invariant-loop-value : goal.invariant-loop-value
invariant-loop-value l = l.shown ≡ l.initial.shown ++ filter (λ (v : HandleValuePair). contains_number v.handle l.subscribed) (take l.value-index l.values)
