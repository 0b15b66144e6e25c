-- Discoveries that wait for one federate, after a change
use Rattle.std.proofs.Common.{eqb-true, ◌≡◌, ℕ, suc, ◌+◌, ◌-◌, ◌<◌, ◌≤◌, cond, eqb, ltb, not, ◌&&◌, Bool, true, false, List, [], ◌∷◌, ◌++◌, length, length-set, set, drop, Some, None, refl, sym, ap, ◌∙◌, subst, arith}
use Rattle.std.specs.List.{position, position_or_len, remove, cons_option}
use Rattle.std.proofs.lemmas.Bool.{ltb-true, ltb-false}
use Rattle.std.proofs.lemmas.Bool.Decides.{nat_tests}
use Rattle.std.proofs.lemmas.List.{take_all, drop_all, append-nil}
use Rattle.std.proofs.lemmas.List.Elements.{filter_map-append}
use Rattle.std.proofs.Math.Path.{fun_ext}
use Rattle.hla_base.specs.Tables.{upd, upd2, when}
use Rattle.hla_base.specs.declared.content.Discovery.{Discovery}
use Rattle.hla_retraction.specs.SentRows.{sent_of}
use Rattle.hla_machine.specs.Directory.{Directory}
use Rattle.hla_accounts.specs.declared.account.Account.{Account}
use Rattle.hla_accounts.specs.declared.offers.Offer.{Offer}
use Rattle.hla_accounts.specs.Accounts.{AreKept, account_at, central_with, copy_at, offers_from, times_listed}
use Rattle.hla_accounts.proofs.AfterSteps.OneAccount.{field, field_same, kept_changed}

-- ---- without the first
abbrev pub is_from : ℕ → Offer → Bool
is_from g o = eqb o.from g

abbrev pub without_first : ℕ → List Offer → List Offer
without_first g [] = []
without_first g (o ∷ os) = cond (is_from g o) os (o ∷ without_first g os)

removed_head : (x : Offer) (xs rest : List Offer) (n : ℕ) (b : Bool) → rest ≡ remove xs n → cond b xs (x ∷ rest) ≡ remove (x ∷ xs) (cond (not b) (1 + n) 0)
removed_head x xs rest n true e = refl
removed_head x xs rest n false e = let s : 1 + n ≡ suc n = omega arith in rw (s, e)

without_first-place : (g : ℕ) (xs : List Offer) → without_first g xs ≡ remove xs (position_or_len (is_from g) xs)
without_first-place g [] = refl
without_first-place g (x ∷ xs) = removed_head x xs _ _ (is_from g x) (without_first-place g xs)

pub place_within : (g : ℕ) (xs : List Offer) (i : ℕ) → Some i ≡ position (is_from g) xs → (i ≡ position_or_len (is_from g) xs) × (i < length xs)
place_within g xs i e = by (position_or_len (is_from g) xs) (length xs) (ltb (position_or_len (is_from g) xs) (length xs)) refl e
  where
    by : (n k : ℕ) (b : Bool) → ltb n k ≡ b → Some i ≡ cond b (Some n) None → (i ≡ n) × (i < k)
    by n k true is e = let same : i ≡ n = cc in (same, rw same (ltb-true n k is))
    by n k false is e = absurd (cc)

pub removed_first : (g : ℕ) (xs ys : List Offer) (i : ℕ) → Some i ≡ position (is_from g) xs → ys ≡ remove xs i → ys ≡ without_first g xs
removed_first g xs ys i e is = is ∙ ap (remove xs) (place_within g xs i e).0 ∙ sym (without_first-place g xs)

pub none_removed : (g : ℕ) (xs : List Offer) → None ≡ position (is_from g) xs → without_first g xs ≡ xs
none_removed g xs e =
    let n = position_or_len (is_from g) xs in
    let past : length xs ≤ n = by n (length xs) (ltb n (length xs)) refl e in
    let later : length xs ≤ suc n = omega arith in
    without_first-place g xs ∙ rw (take_all n xs past, drop_all (suc n) xs later, append-nil xs)
  where
    by : (n k : ℕ) (b : Bool) → ltb n k ≡ b → None ≡ cond b (Some n) None → k ≤ n
    by n k true is e = absurd (cc)
    by n k false is e = ltb-false n k is

pub offers-without_first : (from : ℕ) (xs : List Offer) (g : ℕ) → offers_from g (without_first from xs) ≡ cond (eqb from g) (drop 1 (offers_from g xs)) (offers_from g xs)
offers-without_first from [] g = by (eqb from g)
  where
    by : (b : Bool) → [] ≡ cond {A = List Discovery} b [] []
    by true = refl
    by false = refl
offers-without_first from (o ∷ os) g = by (is_from from o) (is_from g o) (eqb from g) refl refl refl (offers-without_first from os g)
  where
    by : (h a k : Bool) → is_from from o ≡ h → is_from g o ≡ a → eqb from g ≡ k → offers_from g (without_first from os) ≡ cond k (drop 1 (offers_from g os)) (offers_from g os) →
        offers_from g (cond h os (o ∷ without_first from os)) ≡ cond k (drop 1 (cons_option (when a (Some o.discovery)) (offers_from g os))) (cons_option (when a (Some o.discovery)) (offers_from g os))
    by true true true x y z rest = refl
    by true true false x y z rest = absurd (grind (arith, nat_tests))
    by true false true x y z rest = absurd (grind (arith, nat_tests))
    by true false false x y z rest = refl
    by false true true x y z rest = absurd (grind (arith, nat_tests))
    by false true false x y z rest = rw (y, rest) refl
    by false false true x y z rest = rw (y, rest) refl
    by false false false x y z rest = rw (y, rest) refl

-- ---- with one more behind
pub offers-push : (xs : List Offer) (o : Offer) (g : ℕ) → offers_from g (xs ++ o ∷ []) ≡ cond (eqb o.from g) (offers_from g xs ++ o.discovery ∷ []) (offers_from g xs)
offers-push [] o g = by (eqb o.from g)
  where
    by : (b : Bool) → cons_option (when b (Some o.discovery)) [] ≡ cond b (o.discovery ∷ []) []
    by true = refl
    by false = refl
offers-push (x ∷ xs) o g = ap (cons_option (when (eqb x.from g) (Some x.discovery))) (offers-push xs o g) ∙ by (eqb x.from g) (eqb o.from g)
  where
    by : (a b : Bool) → cons_option (when a (Some x.discovery)) (cond b (offers_from g xs ++ o.discovery ∷ []) (offers_from g xs)) ≡ cond b (cons_option (when a (Some x.discovery)) (offers_from g xs) ++ o.discovery ∷ []) (cons_option (when a (Some x.discovery)) (offers_from g xs))
    by true true = refl
    by true false = refl
    by false true = refl
    by false false = refl

-- ---- tables
lists_set : (t : ℕ → ℕ → List Discovery) (op : List Discovery → List Discovery) (u : ℕ → List Discovery) (from f : ℕ) → ((g : ℕ) → u g ≡ cond (eqb from g) (op (t g f)) (t g f)) → (λ g. upd (t g) f (u g)) ≡ upd2 t from f (op (t from f))
unfolding upd upd2
lists_set t op u from f is = fun_ext (λ g. fun_ext (λ k. at g k))
  where
    at : (g k : ℕ) → cond (eqb f k) (u g) (t g k) ≡ cond (eqb from g && eqb f k) (op (t from f)) (t g k)
    at g k = by (eqb f k) (eqb from g) refl refl
      where
        by : (b c : Bool) → eqb f k ≡ b → eqb from g ≡ c → cond b (u g) (t g k) ≡ cond (c && b) (op (t from f)) (t g k)
        by false true y z = refl
        by false false y z = refl
        by true true y z = let e = eqb-true from g z in is g ∙ rw z (ap (λ j. op (t j f)) (sym e))
        by true false y z = let e : f ≡ k = eqb-true f k y in is g ∙ rw z (ap (λ j. t g j) e)

module _ (d : Directory) (accounts : List Account) (f : ℕ) (some : 0 < f) (within : f ≤ length accounts) where
  -- only the discoveries change
  offers_changed : (os : List Offer) → central_with d (set accounts (f - 1) (record (account_at accounts f) { offers = os })) ≡ record (central_with d accounts) { discoveries = λ g. upd ((central_with d accounts).discoveries g) f (offers_from g os) }
  offers_changed os =
      let a : Account = record (account_at accounts f) { offers = os } in
      λ i. record {
        directory = record d {
          next_federate = length-set accounts (f - 1) a i + 1;
          joined = field_same accounts f some within a (λ x. x.is_joined) refl i;
          name = field_same accounts f some within a (λ x. x.name) refl i;
        };
        row = field_same accounts f some within a (λ x. x.state) refl i;
        serial = field_same accounts f some within a (λ x. x.next_serial) refl i;
        bag = λ g m. field_same accounts f some within a (λ x. copy_at x.bag g m) refl i;
        discoveries = λ g. field accounts f some within a (λ x. offers_from g x.offers) i;
        sent = field_same accounts f some within a (λ x. sent_of x.sent) refl i;
        owed = λ g m. field_same accounts f some within a (λ x. times_listed x.owed g m) refl i;
        due = λ g m. field_same accounts f some within a (λ x. times_listed x.due g m) refl i;
        notices = field_same accounts f some within a (λ x. x.notices) refl i;
      }

  pub offers_set : (op : List Discovery → List Discovery) (x : Account) (os : List Offer) (from : ℕ) → x ≡ account_at accounts f → ((g : ℕ) → offers_from g os ≡ cond (eqb from g) (op (offers_from g x.offers)) (offers_from g x.offers)) →
      central_with d (set accounts (f - 1) (record x { offers = os })) ≡ record (central_with d accounts) { discoveries = upd2 (central_with d accounts).discoveries from f (op ((central_with d accounts).discoveries from f)) }
  offers_set op x os from is changed =
      ap (λ (a : Account). central_with d (set accounts (f - 1) (record a { offers = os }))) is
      ∙ offers_changed os
      ∙ ap (λ (t : ℕ → ℕ → List Discovery). record (central_with d accounts) { discoveries = t })
      (lists_set (central_with d accounts).discoveries op (λ g. offers_from g os) from f (λ g. changed g ∙ ap (λ (a : Account). cond (eqb from g) (op (offers_from g a.offers)) (offers_from g a.offers)) is))

  -- these behind the others
  pub offers_added : (x : Account) (os news : List Offer) → x ≡ account_at accounts f → os ≡ x.offers ++ news → central_with d (set accounts (f - 1) (record x { offers = os }))
      ≡ record (central_with d accounts) { discoveries = λ g. upd ((central_with d accounts).discoveries g) f ((central_with d accounts).discoveries g f ++ offers_from g news) }
  offers_added x os news is added =
      ap (λ (a : Account). central_with d (set accounts (f - 1) (record a { offers = os }))) is
      ∙ offers_changed os
      ∙ ap (λ (u : ℕ → List Discovery). record (central_with d accounts) { discoveries = λ g. upd ((central_with d accounts).discoveries g) f (u g) })
      (fun_ext (λ g. ap (offers_from g) (added ∙ ap (λ (a : Account). a.offers ++ news) is) ∙ filter_map-append (λ (o : Offer). when (eqb o.from g) (Some o.discovery)) (account_at accounts f).offers news))

pub offers_kept : (accounts : List Account) (f : ℕ) → 0 < f → f ≤ length accounts → AreKept accounts → (x : Account) (os : List Offer) → x ≡ account_at accounts f → AreKept (set accounts (f - 1) (record x { offers = os }))
offers_kept accounts f some within kept x os is = subst (λ (a : Account). AreKept (set accounts (f - 1) (record a { offers = os }))) (sym is)
    (kept_changed accounts f some within kept (record (account_at accounts f) { offers = os }) refl refl (kept.apart f) (λ g m none. none))
