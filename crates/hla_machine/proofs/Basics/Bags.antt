-- A bag of copies by key, and central states that agree
use Rattle.std.proofs.Common.{◌≡◌, ◌≢◌, ◌⊎◌, ℕ, eqb, ◌&&◌, Bool, true, false, refl, sym, inl, inr, subst, ⊎_elim, arith, eqb-true, eq-eqb, ne_eqb, Option, Some, None, option_map}
use Rattle.std.proofs.lemmas.Bool.{and_parts, cases_Bool}
use Rattle.std.proofs.lemmas.Bool.Decides.{nat_tests}
use Rattle.std.proofs.Math.Path.{fun_ext}
use Rattle.hla_base.specs.Tables.{or_else, is_other}
use Rattle.hla_machine.specs.Central.{Central, Copy, at3, is_key, at_key, with_copies}
use Rattle.hla_base.proofs.Tables.{by_number}

pub or_else-cases : {X : Type 0} (a b : Option X) (x : X) → or_else a b ≡ Some x → (a ≡ Some x) ⊎ (b ≡ Some x)
or_else-cases (Some y) b x h = inl h
or_else-cases None b x h = inr h

pub option_map-some : {X Y : Type 0} (f : X → Y) (o : Option X) (y : Y) → option_map f o ≡ Some y → (x : X) × (o ≡ Some x) × (f x ≡ y)
option_map-some f (Some x) y h = (x, refl, cc)
option_map-some f None y h = absurd (cc)

-- bags that agree at each key are equal
pub bag_ext : (a b : ℕ → ℕ → ℕ → Option Copy) → ((g m f : ℕ) → a g m f ≡ b g m f) → a ≡ b
bag_ext a b h = fun_ext (λ g. fun_ext (λ m. fun_ext (λ f. h g m f)))

-- central states that agree are equal
pub central_ext : (a b : Central) → a.directory ≡ b.directory → a.row ≡ b.row → a.serial ≡ b.serial → a.sent ≡ b.sent → a.bag ≡ b.bag
    → ((g f : ℕ) → a.discoveries g f ≡ b.discoveries g f) → ((g m f : ℕ) → a.owed g m f ≡ b.owed g m f) → ((g m f : ℕ) → a.due g m f ≡ b.due g m f) → ((f : ℕ) → a.notices f ≡ b.notices f) → a ≡ b
central_ext a b directory row serial sent bag discoveries owed due notices = λ i. record {
  directory = directory i;
  row = row i;
  serial = serial i;
  bag = bag i;
  discoveries = fun_ext (λ g. fun_ext (discoveries g)) i;
  sent = sent i;
  owed = fun_ext (λ g. fun_ext (λ m. fun_ext (owed g m))) i;
  due = fun_ext (λ g. fun_ext (λ m. fun_ext (due g m))) i;
  notices = fun_ext notices i;
}

pub or_else-none : {X : Type 0} (o : Option X) → or_else o None ≡ o
or_else-none (Some x) = refl
or_else-none None = refl

-- ---- keys
pub key_parts : (g m h k : ℕ) → is_key g m h k ≡ true → (g ≡ h) × (m ≡ k)
key_parts g m h k e = let p = and_parts _ _ e in (eqb-true g h p.0, eqb-true m k p.1)

-- what holds at a key, and at each other key, holds at each
pub by_key : (g m : ℕ) (P : ℕ → ℕ → Type 0) → P g m → ((h k : ℕ) → is_key g m h k ≡ false → P h k) → (h k : ℕ) → P h k
by_key g m P here there h k = ⊎_elim
    (λ (y : is_key g m h k ≡ true). let p = key_parts g m h k y in subst (λ a. P a k) p.0 (subst (λ b. P g b) p.1 here))
    (λ (n : is_key g m h k ≡ false). there h k n)
    (cases_Bool (is_key g m h k))

pub key_other_number : (g m k : ℕ) → m ≢ k → is_key g m g k ≡ false
key_other_number g m k ne = grind (arith, nat_tests)

pub key_other_sender : (g h m k : ℕ) → g ≢ h → is_key g m h k ≡ false
key_other_sender g h m k ne = grind (arith, nat_tests)

module _ (bag : ℕ → ℕ → ℕ → Option Copy) (g m : ℕ) where
  pub copies_here : (joined : ℕ → Bool) (copy : ℕ → Option Copy) (f : ℕ) → is_other joined g f ≡ true → with_copies joined bag g m copy g m f ≡ or_else (copy f) (bag g m f)
  unfolding with_copies
  copies_here joined copy f o = rw (eq-eqb g g refl, eq-eqb m m refl) (rw o refl)

  pub copies_else : (joined : ℕ → Bool) (copy : ℕ → Option Copy) (h k f : ℕ) → (is_key g m h k ≡ false) ⊎ (is_other joined g f ≡ false) → with_copies joined bag g m copy h k f ≡ bag h k f
  unfolding with_copies
  copies_else joined copy h k f (inl e) = rw e refl
  copies_else joined copy h k f (inr e) = let n : (is_key g m h k && is_other joined g f) ≡ false = grind arith in rw n refl

  pub at_key_here : (f : ℕ) (o : Option Copy) → at_key bag g m f o g m f ≡ o
  unfolding at_key
  at_key_here f o = rw (eq-eqb g g refl, eq-eqb m m refl, eq-eqb f f refl) refl

  pub at_key_else : (f : ℕ) (o : Option Copy) (h k l : ℕ) → (is_key g m h k ≡ false) ⊎ (f ≢ l) → at_key bag g m f o h k l ≡ bag h k l
  unfolding at_key
  at_key_else f o h k l (inl e) = rw e refl
  at_key_else f o h k l (inr ne) = let e : eqb f l ≡ false = ne_eqb f l ne in grind arith

module _ (t : ℕ → ℕ → ℕ → ℕ) (g m f x : ℕ) where
  pub at3_here : at3 t g m f x g m f ≡ x
  unfolding at3
  at3_here = rw (eq-eqb g g refl, eq-eqb m m refl, eq-eqb f f refl) refl

  pub at3_else : (h k l : ℕ) → (is_key g m h k ≡ false) ⊎ (f ≢ l) → at3 t g m f x h k l ≡ t h k l
  unfolding at3
  at3_else h k l (inl e) = rw e refl
  at3_else h k l (inr ne) = let e : eqb f l ≡ false = ne_eqb f l ne in grind arith

pub at_key_self : (bag : ℕ → ℕ → ℕ → Option Copy) (g m f : ℕ) (o : Option Copy) → bag g m f ≡ o → at_key bag g m f o ≡ bag
at_key_self bag g m f o same = bag_ext _ _ (by_key g m _
    (by_number f _ (rw at_key_here (sym same)) (λ l ne. let k2 : (is_key g m g m ≡ false) ⊎ (f ≢ l) = inr ne in rw at_key_else refl))
    (λ h k other l. let k2 : (is_key g m h k ≡ false) ⊎ (f ≢ l) = inl other in rw at_key_else refl))
