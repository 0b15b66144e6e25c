-- The new message is in the tail, and its stamp is not below the bounds.
use Rattle.std.proofs.Common.{sym, subst}
use Rattle.hla_bags.specs.Bags.{IsNotBelow}
use Rattle.hla_bags.proofs.Indexes.Indexing.{kept_put}
use Rattle.hla_bags.proofs.indexing.Indexing.put.Goals as goal

pub returns : goal.returns
returns c ws w kept free is =
    let lowered = c.lower.ensures in
    kept_put ws w c.args.self.now c.lower.new.ordered c.lower.new.demoted kept free lowered.ordered lowered.demoted (subst (IsNotBelow c.lower.new.ordered c.lower.new.demoted) (sym is) lowered.kept)
