-- A set of federates after one was added
use Rattle.std.proofs.Common.{◌≡◌, ◌≢◌, ℕ, ◌==◌, true, ap, sym, ◌∙◌, ⊎_elim}
use Rattle.std.specs.Int.{bit_at}
use Rattle.std.proofs.lemmas.Bool.{cases_eq}
use Rattle.std.proofs.Math.Path.{fun_ext}
use Rattle.hla_base.specs.Tables.{upd}
use Rattle.hla_base.proofs.Tables.{upd_same, upd_other}
use Rattle.hla_base.specs.FederateSets.{federate_set}

-- with the bit of a federate set, and the others as they were
pub set_with_bit : (old new f : ℕ) → bit_at new f ≡ 1 → ((g : ℕ) → g ≢ f → bit_at new g ≡ bit_at old g) → federate_set new ≡ upd (federate_set old) f true
set_with_bit old new f here others = fun_ext (λ g. ⊎_elim
    (λ (same : f ≡ g). rw (← same) (ap (λ bit. bit == 1) here ∙ sym (upd_same (federate_set old) f true)))
    (λ (apart : f ≡ g → ⊥). ap (λ bit. bit == 1) (others g (λ e. apart (sym e))) ∙ sym (upd_other (federate_set old) f true g apart))
    (cases_eq f g))
