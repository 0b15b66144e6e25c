-- The greatest of what the components of federates say, one after another
use Rattle.std.proofs.Common.{◌≡◌, ◌+◌, ℕ, suc, max, sym, ap, ◌∙◌, arith}
use Rattle.hla_base.specs.Tables.{greatest}

-- the entry of number 0 is nothing
pub greatest_start : (b : ℕ) (t : ℕ → ℕ) → t 0 ≡ 0 → b ≡ greatest 1 b t
unfolding greatest
greatest_start b t none = omega (arith, none)

pub greatest_more : (n b : ℕ) (t : ℕ → ℕ) (e x y : ℕ) → e ≡ greatest n b t → x ≡ t n → y ≡ max e x → y ≡ greatest (n + 1) b t
unfolding greatest
greatest_more n b t e x y is read more =
    let one : n + 1 ≡ suc n = omega arith in
    let all : y ≡ max (t n) (greatest n b t) = omega (arith, is, read, more) in
    all ∙ ap (λ (k : ℕ). greatest k b t) (sym one)

pub greatest_end : (n m b : ℕ) (t : ℕ → ℕ) (e : ℕ) → e ≡ greatest n b t → n ≡ m → e ≡ greatest m b t
greatest_end n m b t e is same = is ∙ ap (λ (k : ℕ). greatest k b t) same
