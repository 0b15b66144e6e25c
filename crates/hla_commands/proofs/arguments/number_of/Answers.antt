use Rattle.std.proofs.Common.{◌≢◌, length, sym, ◌∙◌, arith}
use Rattle.std.proofs.lemmas.Bool.Decides.{nat_tests}
use Rattle.hla_commands.proofs.NumberLemmas.{empty_word, no_digits, large_word, word_of_digits}
use Rattle.hla_commands.proofs.arguments.number_of.Goals as goal
use Rattle.hla_commands.proofs.arguments.number_of.Goals.{then-is_empty-via-then-is_empty, then-is_empty-via-else-is_empty+then-not-are_digits}

pub returns-then-is_empty : goal.returns-then-is_empty
returns-then-is_empty c = elim c.then-is_empty.branch [
  | then-is_empty-via-then-is_empty w ↦ empty_word c.args.word.now (grind (arith, nat_tests, c.is_empty.ensures, w.if-is_empty.true))
  | then-is_empty-via-else-is_empty+then-not-are_digits w ↦ no_digits c.args.word.now (sym w.are_digits.ensures ∙ w.if-not-are_digits.true)
]

pub returns-in-Some : goal.returns-in-Some
returns-in-Some c =
    let some : length c.args.word.now ≢ 0 = grind (arith, nat_tests, c.is_empty.ensures, c.if-is_empty.false) in
    word_of_digits c.args.word.now c.in-Some.number some (sym c.are_digits.ensures ∙ c.if-not-are_digits.false) c.in-Some.ensures.within c.in-Some.ensures.value

pub returns-in-None : goal.returns-in-None
returns-in-None c = large_word c.args.word.now c.in-None.ensures.value
