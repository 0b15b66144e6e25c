-- The range is of the keys between the two.
use Rattle.std.proofs.Common.{◌≡◌, subst}
use Rattle.std.specs.List.{filter}
use Rattle.std.specs.BTreeMap.Range.{range_contains}
use Rattle.std.specs.declared.ops.Bound.TheVariants.{Included, Excluded}
use Rattle.hla_bags.proofs.Indexes.Keys.{same_order}
use Rattle.hla_bags.proofs.index.Index.between.Goals as goal

pub returns-clause-keys : goal.returns-clause-keys
returns-clause-keys c = subst (λ r. c.range.result ≡ filter (range_contains r (Included c.args.from) (Excluded c.args.to)) c.args.self.now.keys.keys) same_order (c.range.ensures.between tt)
