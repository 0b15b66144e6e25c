use Rattle.std.proofs.Common.{◌≡◌, ◌<◌, ◌+◌, ◌*◌, ◌-◌, get_or, ◌∙◌, arith}
use Rattle.hla_base.specs.Limits.{largest_number}
use Rattle.hla_commands.proofs.NumberLemmas.{next_value, too_large}
use Rattle.hla_commands.proofs.arguments.digits_value.Goals as goal

pub returns-in_err-checked_mul-clause-value : goal.returns-in_err-checked_mul-clause-value
returns-in_err-checked_mul-clause-value c =
    let above : largest_number < c.loop-digit.value * 10 + (get_or c.args.digits.now c.loop-digit.digit-index 0 - 48) = omega (arith, c.in_err-checked_mul.ensures) in
    rw c.from_residual.ensures (too_large c.args.digits.now c.loop-digit.digit-index c.loop-digit.value c.requires c.loop-digit-test.true c.loop-digit.invariant.value above)

pub returns-in_err-value-clause-value : goal.returns-in_err-value-clause-value
returns-in_err-value-clause-value c =
    let above : largest_number < c.loop-digit.value * 10 + (get_or c.args.digits.now c.loop-digit.digit-index 0 - 48) =
    omega (arith, c.in_err-value.ensures, c.in_ok-checked_mul.ensures.1, c.from.ensures)
    in
    rw c.from_residual-in_err-value.ensures (too_large c.args.digits.now c.loop-digit.digit-index c.loop-digit.value c.requires c.loop-digit-test.true c.loop-digit.invariant.value above)

pub loop-digit-preserved : goal.loop-digit-preserved
loop-digit-preserved c =
    let is : c.in_ok-value.value ≡ c.loop-digit.value * 10 + (get_or c.args.digits.now c.loop-digit.digit-index 0 - 48) =
    omega (arith, c.in_ok-value.ensures.1, c.in_ok-checked_mul.ensures.1, c.from.ensures)
    in
    record {
      value = is ∙ next_value c.args.digits.now c.loop-digit.digit-index c.loop-digit.value c.requires c.loop-digit-test.true c.loop-digit.invariant.value;
      within = omega (arith, c.in_ok-value.ensures.0, c.in_ok-value.ensures.1);
    }
