use Rattle.std.proofs.Common.{List, ℕ, ◌++◌, ◌∙◌, ap}
use Rattle.hla_outcomes.specs.Running.{told_at}
use Rattle.hla_outcomes.proofs.TextLemmas.{one_more, all_of}
use Rattle.hla_outcomes.proofs.outcomes.print_all.Goals as goal

pub loop-place-preserved : goal.loop-place-preserved
loop-place-preserved c =
    let next = told_at c.args.catalogue.now c.args.outcomes.now in
    let here = next c.loop-place.place c.index-lines-place.result in
    c.in_ok-print_told.ensures.told ∙ ap (λ (bs : List ℕ). bs ++ here) c.loop-place.invariant
    ∙ one_more next c.args.text.now c.args.lines.now c.loop-place.place c.index-lines-place.result c.loop-place-test.true c.index-lines-place.is

pub returns-clause-told : goal.returns-clause-told
returns-clause-told c = c.loop-place.invariant ∙ all_of (told_at c.args.catalogue.now c.args.outcomes.now) c.args.text.now c.args.lines.now c.loop-place.place c.loop-place-test.false
