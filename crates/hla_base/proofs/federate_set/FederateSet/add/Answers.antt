-- The bit of the federate is set, within the bits of federates, and the others stay.
use Rattle.std.proofs.Common.{◌≢◌, ◌<◌, ◌+◌, ◌^◌, ◌*◌, ◌%◌, ◌∙◌, ap, true, arith}
use Rattle.std.specs.Int.{w32}
use Rattle.std.proofs.lemmas.Nat.{or_lt}
use Rattle.std.proofs.lemmas.Nat.Bits.{bit_at_set_same, bit_at_set_other}
use Rattle.std.proofs.Math.Pow.{pow-lt}
use Rattle.hla_base.specs.Limits.{max_joins}
use Rattle.hla_base.specs.Tables.{upd}
use Rattle.hla_base.specs.FederateSets.{federate_set}
use Rattle.hla_base.proofs.FederateSetLemmas.{set_with_bit}
use Rattle.hla_base.proofs.federate_set.FederateSet.add.Goals as goal

pub invariant_of-self : goal.invariant_of-self
invariant_of-self c =
    let f = c.args.federate in
    let within : f < 32 = omega (arith, c.requires.within) in
    let before : f < max_joins + 1 = omega (arith, c.requires.within) in
    let power : 2 ^ f < 2 ^ (max_joins + 1) = pow-lt {i = f} {j = max_joins + 1} before in
    let small : 1 * 2 ^ f % 4294967296 < 2 ^ (max_joins + 1) = omega (arith, power) in
    let other : 0 ≢ f = λ e. absurd (omega (arith, c.requires.some)) in
    record {
      below = or_lt (max_joins + 1) c.self.inside.bits (1 * 2 ^ f % 4294967296) c.self.invariant.below small;
      none_at_zero = bit_at_set_other w32 c.self.inside.bits f within 0 other ∙ c.self.invariant.none_at_zero;
    }

pub returns : goal.returns
returns c =
    let f = c.args.federate in
    let within : f < 32 = omega (arith, c.requires.within) in
    set_with_bit c.self.inside.bits _ f (bit_at_set_same w32 c.self.inside.bits f within) (bit_at_set_other w32 c.self.inside.bits f within)
    ∙ ap (λ bits. upd (federate_set bits) f true) c.self.view_is
