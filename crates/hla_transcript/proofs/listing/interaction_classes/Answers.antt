use Rattle.std.proofs.Common.{List, ℕ, ◌+◌, ◌++◌, ◌∙◌, [], ap, arith}
use Rattle.std.proofs.lemmas.List.{get_or_read}
use Rattle.hla_transcript.specs.Listed.{interaction_text, interaction_line}
use Rattle.hla_transcript.proofs.ListLemmas.{one_more, all_of, line_and_own}
use Rattle.hla_transcript.proofs.listing.interaction_classes.Goals as goal

pub loop-place-preserved : goal.loop-place-preserved
loop-place-preserved c =
    let next = interaction_text c.args.parameters.now in
    let number = c.loop-place.place + 1 in
    let class = c.index-classes-place.result in
    let here = next number class in
    line_and_own c.loop-place.text (interaction_line number class) _ _ _ _ c.in_ok-interaction_class_line.ensures.ok c.in_ok-bytes.ensures.ok (c.as_slice.ensures ∙ get_or_read c.in_ok-own.own.items number _ (omega (arith, c.in_ok-own.ensures.ok.many, c.loop-place-test.true)) c.index.ensures [] ∙ c.in_ok-own.ensures.ok.whole number (omega arith))
    ∙ ap (λ (bs : List ℕ). bs ++ here) c.loop-place.invariant
    ∙ one_more next c.args.text.now c.args.classes.now c.loop-place.place class c.loop-place-test.true c.index-classes-place.is

pub returns-clause-ok : goal.returns-clause-ok
returns-clause-ok c = c.loop-place.invariant ∙ all_of (interaction_text c.args.parameters.now) c.args.text.now c.args.classes.now c.loop-place.place c.loop-place-test.false
