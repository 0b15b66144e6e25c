-- The bit of the federate is set or cleared, and the other bits stay.
use Rattle.std.proofs.Common.{◌<◌, refl, sym, inl, inr, arith, eq-eqb, ne_eqb}
use Rattle.std.specs.Int.{w32}
use Rattle.std.proofs.lemmas.Bool.{cases_eq}
use Rattle.std.proofs.lemmas.Nat.Bits.{bit_at_set_same, bit_at_set_other, bit_at_clear_same, bit_at_clear_other}
use Rattle.hla_declaration.proofs.subscribers.with_federate.Goals as goal

pub returns-then-is_in : goal.returns-then-is_in
returns-then-is_in c f few =
    let within : c.args.federate < 32 = omega (arith, c.requires) in
    elim (cases_eq f c.args.federate) [
      | inl same ↦ rw (same, bit_at_set_same w32 c.args.set c.args.federate within, eq-eqb c.args.federate c.args.federate refl) (grind arith)
      | inr other ↦ rw (bit_at_set_other w32 c.args.set c.args.federate within f other, ne_eqb c.args.federate f (λ e. other (sym e))) (grind arith)
    ]

pub returns-else-is_in : goal.returns-else-is_in
returns-else-is_in c f few =
    let within : c.args.federate < 32 = omega (arith, c.requires) in
    elim (cases_eq f c.args.federate) [
      | inl same ↦ rw (same, bit_at_clear_same w32 c.args.set c.args.federate within, eq-eqb c.args.federate c.args.federate refl) (grind arith)
      | inr other ↦ rw (bit_at_clear_other w32 c.args.set c.args.federate within f (omega (arith, few)) other, ne_eqb c.args.federate f (λ e. other (sym e))) (grind arith)
    ]
