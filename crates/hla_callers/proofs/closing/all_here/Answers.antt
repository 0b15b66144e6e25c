use Rattle.std.proofs.Common.{◌≡◌, ◌+◌, ◌∙◌, sym, true, false, arith, rules}
use Rattle.hla_callers.proofs.closing.all_here.Goals as goal

pub returns-then-not-holds : goal.returns-then-not-holds
returns-then-not-holds g c = (
  (search rules),
  (λ all.
      let there = all (c.loop-n.n + 1) (omega arith) (omega arith) in
      let no : false ≡ true = sym c.if-not-holds.true ∙ c.holds.ensures ∙ there in
      absurd (cc)),
)
