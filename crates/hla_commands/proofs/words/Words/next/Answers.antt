use Rattle.std.proofs.Common.{◌≡◌, ◌<◌, [], arith, sym, ◌∙◌}
use Rattle.hla_commands.proofs.WordLemmas.{takes_next, no_next}
use Rattle.hla_commands.proofs.words.Words.next.Goals as goal

pub returns-then-is_empty : goal.returns-then-is_empty
returns-then-is_empty c =
    let none : c.word_len.result ≡ 0 = grind (arith, c.is_empty.ensures, c.if-is_empty.true) in
    let empty : c.args.self.now ≡ [] = sym c.self.view_is ∙ no_next _ c.split_at.result.1.now c.gap_len.result c.word_len.result c.gap_len.ensures.count c.split_at.ensures.back c.word_len.ensures.count none in
    (empty, empty)

pub returns : goal.returns
returns c =
    let some : 0 < c.word_len.result = grind (arith, c.is_empty.ensures, c.if-is_empty.false) in
    sym c.self.view_is ∙ takes_next _ c.split_at.result.1.now _ _ c.gap_len.result c.word_len.result c.gap_len.ensures.count c.split_at.ensures.back c.word_len.ensures.count c.split_at-2.ensures.front c.split_at-2.ensures.back some
