-- What a table has after a change, for `grind` in the form of cases
use Rattle.std.proofs.Common.{◌≡◌, ◌≢◌, ◌⊎◌, ℕ, zero, suc, ◌≤◌, ◌<◌, eqb, ◌&&◌, Bool, true, false, refl, inl, inr, subst, ⊎_elim, arith, eqb-true, eq-eqb, ne_eqb}
use Rattle.std.proofs.lemmas.Bool.{cases_eq, cases_lt, cond_both, and_parts}
use Rattle.std.proofs.lemmas.Bool.Decides.{nat_tests}
use Rattle.std.proofs.Math.Path.{fun_ext}
use Rattle.hla_base.specs.Tables.{forever, upd, upd2, upd_row, upd_column, upd_new, upd_whole_column, is_other, least, greatest}

pub upd_at : {X : Type 0} (t : ℕ → X) (i : ℕ) (x : X) (j : ℕ) → (upd t i x j ≡ x) × (i ≡ j) ⊎ (upd t i x j ≡ t j) × (i ≢ j)
unfolding upd
upd_at t i x j = grind (arith, nat_tests)

pub upd_same : {X : Type 0} (t : ℕ → X) (i : ℕ) (x : X) → upd t i x i ≡ x
unfolding upd
upd_same t i x = grind (arith, nat_tests)

pub upd_other : {X : Type 0} (t : ℕ → X) (i : ℕ) (x : X) (j : ℕ) → i ≢ j → upd t i x j ≡ t j
unfolding upd
upd_other t i x j ne = grind (arith, nat_tests)

-- what holds of the new entry, and of each other old one, holds of each
pub upd_each : {X : Type 0} (t : ℕ → X) (i : ℕ) (x : X) (P : ℕ → X → Type 0) → P i x → ((j : ℕ) → i ≢ j → P j (t j)) → (j : ℕ) → P j (upd t i x j)
upd_each t i x P here there j = ⊎_elim
    (λ (e : i ≡ j). subst (λ k. P k (upd t i x k)) e (rw upd_same here))
    (λ (ne : i ≢ j). rw upd_other (there j ne))
    (cases_eq i j)

-- the same for a pair of indices
pub upd2_same : {X : Type 0} (t : ℕ → ℕ → X) (i j : ℕ) (x : X) → upd2 t i j x i j ≡ x
unfolding upd2
upd2_same t i j x = grind (arith, nat_tests)

pub upd2_other : {X : Type 0} (t : ℕ → ℕ → X) (i j : ℕ) (x : X) (k l : ℕ) → (i ≢ k) ⊎ (j ≢ l) → upd2 t i j x k l ≡ t k l
unfolding upd2
upd2_other t i j x k l ne = grind (arith, nat_tests)

pub cases_pair : (i k j l : ℕ) → ((i ≡ k) × (j ≡ l)) ⊎ ((i ≢ k) ⊎ (j ≢ l))
cases_pair i k j l = grind (arith, cases_eq)

pub upd2_each : {X : Type 0} (t : ℕ → ℕ → X) (i j : ℕ) (x : X) (P : ℕ → ℕ → X → Type 0) → P i j x → ((k l : ℕ) → P k l (t k l)) → (k l : ℕ) → P k l (upd2 t i j x k l)
upd2_each t i j x P here there k l = ⊎_elim
    (λ (e : (i ≡ k) × (j ≡ l)). subst (λ a. P a l (upd2 t i j x a l)) e.0 (subst (λ b. P i b (upd2 t i j x i b)) e.1 (rw upd2_same here)))
    (λ (ne : (i ≢ k) ⊎ (j ≢ l)). rw upd2_other (there k l))
    (cases_pair i k j l)

-- a whole row or column, at the places of the others
pub upd_row_each : {X : Type 0} (t : ℕ → ℕ → X) (n : ℕ → Bool) (i : ℕ) (f : ℕ → X → X) (P : ℕ → ℕ → X → Type 0) → ((l : ℕ) → is_other n i l ≡ true → P i l (f l (t i l))) → ((k l : ℕ) → P k l (t k l)) → (k l : ℕ) → P k l (upd_row t n i f k l)
unfolding upd_row
upd_row_each t n i f P here there k l = cond_both (eqb i k && is_other n i l) (f l (t k l)) (t k l) (P k l)
    (λ e. let p = and_parts _ _ e in subst (λ a. P a l (f l (t a l))) (eqb-true i k p.0) (here l p.1))
    (λ _. there k l)

pub upd_column_each : {X : Type 0} (t : ℕ → ℕ → X) (n : ℕ → Bool) (i : ℕ) (f : X → X) (P : ℕ → ℕ → X → Type 0) → ((l : ℕ) → is_other n i l ≡ true → P l i (f (t l i))) → ((l k : ℕ) → P l k (t l k)) → (l k : ℕ) → P l k (upd_column t n i f l k)
unfolding upd_column
upd_column_each t n i f P here there l k = cond_both (eqb i k && is_other n i l) (f (t l k)) (t l k) (P l k)
    (λ e. let p = and_parts _ _ e in subst (λ a. P l a (f (t l a))) (eqb-true i k p.0) (here l p.1))
    (λ _. there l k)

pub least_le : (n : ℕ) (t : ℕ → ℕ) (g : ℕ) → g < n → least n t ≤ t g
unfolding least
least_le zero t g l = absurd (omega arith)
least_le (suc n) t g l = ⊎_elim (λ (e : g ≡ n). rw e (omega arith)) (λ (ne : g ≢ n). omega (arith, least_le n t g (omega arith))) (cases_eq g n)

pub le_least : (n : ℕ) (t : ℕ → ℕ) (x : ℕ) → x ≤ forever → ((g : ℕ) → g < n → x ≤ t g) → x ≤ least n t
unfolding least
le_least zero t x cap h = cap
le_least (suc n) t x cap h = omega (arith, h n (omega arith), le_least n t x cap (λ g l. h g (omega arith)))

pub least_le-forever : (n : ℕ) (t : ℕ → ℕ) → least n t ≤ forever
unfolding least
least_le-forever zero t = omega arith
least_le-forever (suc n) t = omega (arith, least_le-forever n t)

pub le_greatest : (n b : ℕ) (t : ℕ → ℕ) (g : ℕ) → g < n → t g ≤ greatest n b t
unfolding greatest
le_greatest zero b t g l = absurd (omega arith)
le_greatest (suc n) b t g l = ⊎_elim (λ (e : g ≡ n). rw e (omega arith)) (λ (ne : g ≢ n). omega (arith, le_greatest n b t g (omega arith))) (cases_eq g n)

pub greatest_ge : (n b : ℕ) (t : ℕ → ℕ) → b ≤ greatest n b t
unfolding greatest
greatest_ge zero b t = omega arith
greatest_ge (suc n) b t = omega (arith, greatest_ge n b t)

pub greatest_le : (n b : ℕ) (t : ℕ → ℕ) (x : ℕ) → b ≤ x → ((g : ℕ) → g < n → t g ≤ x) → greatest n b t ≤ x
unfolding greatest
greatest_le zero b t x base h = base
greatest_le (suc n) b t x base h = omega (arith, h n (omega arith), greatest_le n b t x base (λ g l. h g (omega arith)))

-- the greatest is the first bound, or one of the entries
pub greatest_is : (n b : ℕ) (t : ℕ → ℕ) → (greatest n b t ≡ b) ⊎ ((g : ℕ) × (g < n) × (greatest n b t ≡ t g))
unfolding greatest
greatest_is zero b t = inl refl
greatest_is (suc n) b t = ⊎_elim
    (λ (l : t n < greatest n b t). ⊎_elim
    (λ (e : greatest n b t ≡ b). inl (omega arith))
    (λ (w : (g : ℕ) × (g < n) × (greatest n b t ≡ t g)). inr (w.0, omega arith, omega arith))
    (greatest_is n b t))
    (λ (l : greatest n b t ≤ t n). inr (n, omega arith, omega arith))
    (cases_lt (t n) (greatest n b t))

-- what holds at f, and at each other number, holds at each
pub by_number : (f : ℕ) (P : ℕ → Type 0) → P f → ((g : ℕ) → f ≢ g → P g) → (g : ℕ) → P g
by_number f P here there g = ⊎_elim (λ (e : f ≡ g). subst P e here) (λ (ne : f ≢ g). there g ne) (cases_eq f g)

pub upd_self : {X : Type 0} (t : ℕ → X) (f : ℕ) → upd t f (t f) ≡ t
upd_self t f = fun_ext (λ g. upd_each t f (t f) (λ k x. x ≡ t k) refl (λ _ _. refl) g)

module _ {X : Type 0} (t : ℕ → ℕ → X) (n : ℕ → Bool) (i : ℕ) (f : ℕ → X → X) where
  pub upd_row_here : (l : ℕ) → is_other n i l ≡ true → upd_row t n i f i l ≡ f l (t i l)
  unfolding upd_row
  upd_row_here l o = rw (eq-eqb i i refl) (rw o refl)

  pub upd_row_self : (l : ℕ) → is_other n i l ≡ false → upd_row t n i f i l ≡ t i l
  unfolding upd_row
  upd_row_self l o = rw (eq-eqb i i refl) (rw o refl)

  pub upd_row_other : (k l : ℕ) → i ≢ k → upd_row t n i f k l ≡ t k l
  unfolding upd_row
  upd_row_other k l ne = rw (ne_eqb i k ne) refl

module _ {X : Type 0} (t : ℕ → ℕ → X) (n : ℕ → Bool) (i : ℕ) (f : X → X) where
  pub upd_column_here : (l : ℕ) → is_other n i l ≡ true → upd_column t n i f l i ≡ f (t l i)
  unfolding upd_column
  upd_column_here l o = rw (eq-eqb i i refl) (rw o refl)

  pub upd_column_self : (l : ℕ) → is_other n i l ≡ false → upd_column t n i f l i ≡ t l i
  unfolding upd_column
  upd_column_self l o = rw (eq-eqb i i refl) (rw o refl)

  pub upd_column_other : (l k : ℕ) → i ≢ k → upd_column t n i f l k ≡ t l k
  unfolding upd_column
  upd_column_other l k ne = rw (ne_eqb i k ne) refl

pub by_pair : (i j : ℕ) (P : ℕ → ℕ → Type 0) → P i j → ((k l : ℕ) → (i ≢ k) ⊎ (j ≢ l) → P k l) → (k l : ℕ) → P k l
by_pair i j P here there k l = ⊎_elim
    (λ (e : (i ≡ k) × (j ≡ l)). subst (λ a. P a l) e.0 (subst (λ b. P i b) e.1 here))
    (λ (ne : (i ≢ k) ⊎ (j ≢ l)). there k l ne)
    (cases_pair i k j l)

pub least-mono : (n : ℕ) (t u : ℕ → ℕ) → ((g : ℕ) → g < n → t g ≤ u g) → least n t ≤ least n u
least-mono n t u h = le_least n u (least n t) (least_le-forever n t) (λ g l. omega (arith, least_le n t g l, h g l))

module _ {X : Type 0} (t : ℕ → ℕ → X) (i : ℕ) (here there : ℕ → X) where
  pub upd_new_here : (l : ℕ) → upd_new t i here there i l ≡ here l
  unfolding upd_new
  upd_new_here l = rw (eq-eqb i i refl) refl

  pub upd_new_there : (k : ℕ) → i ≢ k → upd_new t i here there k i ≡ there k
  unfolding upd_new
  upd_new_there k ne = rw (ne_eqb i k ne, eq-eqb i i refl) refl

  pub upd_new_else : (k l : ℕ) → i ≢ k → i ≢ l → upd_new t i here there k l ≡ t k l
  unfolding upd_new
  upd_new_else k l a b = rw (ne_eqb i k a, ne_eqb i l b) refl

module _ {X : Type 0} (t : ℕ → ℕ → X) (i : ℕ) (x : X) where
  pub upd_whole_column_here : (k : ℕ) → upd_whole_column t i x k i ≡ x
  unfolding upd_whole_column
  upd_whole_column_here k = rw (eq-eqb i i refl) refl

  pub upd_whole_column_else : (k l : ℕ) → i ≢ l → upd_whole_column t i x k l ≡ t k l
  unfolding upd_whole_column
  upd_whole_column_else k l ne = rw (ne_eqb i l ne) refl
