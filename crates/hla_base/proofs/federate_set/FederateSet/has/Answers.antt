-- No bit stands past those of federates.
use Rattle.std.proofs.Common.{◌≡◌, ◌+◌, ◌∙◌, ◌==◌, ap, sym, arith, false}
use Rattle.std.proofs.lemmas.Nat.Bits.{bit_at_above}
use Rattle.std.proofs.lemmas.Grind.{common_steps}
use Rattle.hla_base.specs.Limits.{max_joins}
use Rattle.hla_base.specs.FederateSets.{federate_set}
use Rattle.hla_base.proofs.federate_set.FederateSet.has.Goals as goal

pub returns-else-federate-le-MAX_JOINS-clause-member : goal.returns-else-federate-le-MAX_JOINS-clause-member
returns-else-federate-le-MAX_JOINS-clause-member c =
    let f = c.args.federate in
    let none = bit_at_above c.self.inside.bits (max_joins + 1) f c.self.invariant.below (omega (arith, c.if-federate-le-MAX_JOINS.false)) in
    let absent : federate_set c.args.self.now f ≡ false = ap (λ bits. federate_set bits f) (sym c.self.view_is) ∙ ap (λ bit. bit == 1) none in
    rw absent (grind (arith, common_steps))
