-- To whom a new object becomes known, and for whom its discovery waits, federate by federate
use Rattle.std.proofs.Common.{◌≡◌, ◌≢◌, ℕ, ◌+◌, ◌≤◌, ◌<◌, cond, eqb, ltb, not, ◌&&◌, Bool, true, false, refl, sym, ap, ◌∙◌, ⊎_elim, arith, eqb-true, ne_eqb, is_some, List, [], ◌∷◌, ◌++◌, length, Option, Some, None}
use Rattle.std.specs.List.{filter_map}
use Rattle.std.specs.Option.{option_to_list}
use Rattle.std.proofs.lemmas.Bool.{cases_Bool, cases_lt}
use Rattle.std.proofs.lemmas.Bool.Decides.{nat_tests}
use Rattle.std.proofs.lemmas.List.{append-nil}
use Rattle.std.proofs.Math.Path.{fun_ext}
use Rattle.hla_base.specs.declared.content.Discovery.{Discovery}
use Rattle.hla_base.specs.Tables.{is_other, numbers_below, upd, upd2, upd_row, when}
use Rattle.hla_machine.specs.Directory.{Directory, discoveries_of, discovery_of}
use Rattle.hla_machine.specs.Central.{Central}
use Rattle.hla_accounts.specs.declared.account.Account.{Account}
use Rattle.hla_accounts.specs.declared.offers.Offer.{Offer}
use Rattle.hla_accounts.specs.Accounts.{account_at, central_with, offers_from}
use Rattle.hla_accounts.proofs.AfterSteps.Accounts.{account_at-past}
use Rattle.hla_accounts.proofs.Sendings.Messages.{joined_in}
use Rattle.hla_checker.specs.Offering.{wanted_discoveries, known_to_joined}

-- what each is to discover of each other's objects
abbrev pub offers_in : List Account → ℕ → ℕ → List Discovery
offers_in accounts = λ g f. offers_from g (account_at accounts f).offers

nothing_more : (t : ℕ → ℕ → List Discovery) (g f : ℕ) (xs : List Discovery) → xs ≡ t g f → t ≡ upd2 t g f xs
unfolding upd2
nothing_more t g f xs same = fun_ext (λ h. fun_ext (λ k. by h k (eqb g h) (eqb f k) refl refl))
  where
    by : (h k : ℕ) (a b : Bool) → eqb g h ≡ a → eqb f k ≡ b → t h k ≡ cond (a && b) xs (t h k)
    by h k true true y z = let p = eqb-true g h y in let q = eqb-true f k z in (λ i. t (sym p i) (sym q i)) ∙ sym same
    by h k true false y z = refl
    by h k false b y z = refl

none_offered : (d : Directory) (accounts : List Account) (g f : ℕ) (o : Option Discovery) → o ≡ None → central_with d accounts ≡ record (central_with d accounts) { discoveries = upd2 (offers_in accounts) g f (offers_in accounts g f ++ option_to_list o) }
none_offered d accounts g f o none = ap (λ (t : ℕ → ℕ → List Discovery). record (central_with d accounts) { discoveries = t })
    (nothing_more (offers_in accounts) g f (offers_in accounts g f ++ option_to_list o) (ap (λ (o : Option Discovery). offers_in accounts g f ++ option_to_list o) none ∙ append-nil (offers_in accounts g f)))

-- nobody past the last has joined
pub not_joined : (accounts : List Account) (f : ℕ) → length accounts < f → (account_at accounts f).is_joined ≡ false
not_joined accounts f past = ap (λ (a : Account). a.is_joined) (account_at-past accounts f past)

-- ---- who knows it so far
abbrev pub known_among : (ℕ → Bool) → (ℕ → ℕ → Bool) → ℕ → ℕ → ℕ → ℕ → Bool
known_among found known h n = λ j k. cond (eqb h j && (ltb k n && found k)) true (known j k)

nowhere : (b x : Bool) → cond (b && false) true x ≡ x
nowhere true x = refl
nowhere false x = refl

pub among_first : (found : ℕ → Bool) (known : ℕ → ℕ → Bool) (h : ℕ) → found 0 ≡ false → known ≡ known_among found known h 1
among_first found known h none = fun_ext (λ j. fun_ext (λ k. at j k))
  where
    both_no : (b c x : Bool) → x ≡ cond (b && (c && false)) true x
    both_no true true x = refl
    both_no true false x = refl
    both_no false c x = refl

    at : (j k : ℕ) → known j k ≡ cond (eqb h j && (ltb k 1 && found k)) true (known j k)
    at j k = ⊎_elim
        (λ (y : ltb k 1 ≡ true). let e : k ≡ 0 = grind (arith, nat_tests) in rw (e, none) (both_no (eqb h j) (ltb 0 1) (known j 0)))
        (λ (n : ltb k 1 ≡ false). rw n (sym (nowhere (eqb h j) (known j k))))
        (cases_Bool (ltb k 1))

pub among_more : (found : ℕ → Bool) (known : ℕ → ℕ → Bool) (h n : ℕ) → found n ≡ true → upd2 (known_among found known h n) h n true ≡ known_among found known h (n + 1)
unfolding upd2
among_more found known h n is = fun_ext (λ j. fun_ext (λ k. at j k))
  where
    here : (b x : Bool) → cond (b && true) true (cond (b && false) true x) ≡ cond (b && true) true x
    here true x = refl
    here false x = refl

    at : (j k : ℕ) → cond (eqb h j && eqb n k) true (cond (eqb h j && (ltb k n && found k)) true (known j k)) ≡ cond (eqb h j && (ltb k (n + 1) && found k)) true (known j k)
    at j k = ⊎_elim
        (λ (y : eqb n k ≡ true).
        let e : n ≡ k = grind (arith, nat_tests) in
        let now : ltb n (n + 1) ≡ true = grind (arith, nat_tests) in
        let self : eqb n n ≡ true = grind (arith, nat_tests) in
        let before : ltb n n ≡ false = grind (arith, nat_tests) in
        rw (← e, now, is, self, before) (here (eqb h j) (known j n)))
        (λ (z : eqb n k ≡ false). let same : ltb k (n + 1) ≡ ltb k n = grind (arith, nat_tests) in rw (z, same) (nowhere (eqb h j) _))
        (cases_Bool (eqb n k))

pub among_same : (found : ℕ → Bool) (known : ℕ → ℕ → Bool) (h n : ℕ) → found n ≡ false → known_among found known h n ≡ known_among found known h (n + 1)
among_same found known h n is = fun_ext (λ j. fun_ext (λ k. ⊎_elim
    (λ (y : eqb n k ≡ true).
    let e : n ≡ k = grind (arith, nat_tests) in
    let now : ltb n (n + 1) ≡ true = grind (arith, nat_tests) in
    let before : ltb n n ≡ false = grind (arith, nat_tests) in
    rw (← e, now, is, before) refl)
    (λ (z : eqb n k ≡ false). let same : ltb k (n + 1) ≡ ltb k n = grind (arith, nat_tests) in rw same refl)
    (cases_Bool (eqb n k))))

-- what has become known to others changes no later discovery
pub still_among : (d : Directory) (h n : ℕ) (found : ℕ → Bool) → discovery_of (record d { known = known_among found d.known h n }) n h ≡ discovery_of d n h
still_among d h n found =
    let before : ltb n n ≡ false = grind (arith, nat_tests) in
    let self : eqb h h ≡ true = grind (arith, nat_tests) in
    rw (self, before) refl

pub among_all : (d : Directory) (joined : ℕ → Bool) (h n : ℕ) → ((k : ℕ) → n ≤ k → joined k ≡ false) → known_among (λ k. joined k && is_some (discovery_of d k h)) d.known h n ≡ known_to_joined d joined h
among_all d joined h n none = fun_ext (λ j. fun_ext (λ k. ⊎_elim
    (λ (below : k < n). let y : ltb k n ≡ true = grind (arith, nat_tests) in rw y (regroup (eqb h j) (joined k) (is_some (discovery_of d k h)) (d.known j k)))
    (λ (above : n ≤ k). let z : ltb k n ≡ false = grind (arith, nat_tests) in rw (z, none k above) (out (eqb h j) (is_some (discovery_of d k h)) (d.known j k)))
    (cases_lt k n)))
  where
    regroup : (a b c x : Bool) → cond (a && (b && c)) true x ≡ cond (a && b && c) true x
    regroup true b c x = refl
    regroup false b c x = refl

    out : (a c x : Bool) → cond (a && false) true x ≡ cond (a && false && c) true x
    out true c x = refl
    out false c x = refl

-- ---- the discoveries of one owner's objects
pub wanted_here : (d : Directory) (g f : ℕ) → wanted_discoveries d (Some g) g f ≡ discoveries_of d g f
wanted_here d g f = ap (λ (p : ℕ → Option Discovery). filter_map p (numbers_below d.next_object)) (fun_ext (λ h. at (d.object h).owner (discovery_of d f h)))
  where
    at : (o : ℕ) (x : Option Discovery) → when (eqb o g) (when (eqb g o) x) ≡ when (eqb o g) x
    at o x = ⊎_elim
        (λ (y : eqb o g ≡ true). let z : eqb g o ≡ true = grind (arith, nat_tests) in rw (y, z) refl)
        (λ (n : eqb o g ≡ false). rw n refl)
        (cases_Bool (eqb o g))

nothing_found : (p : ℕ → Option Discovery) (hs : List ℕ) → ((h : ℕ) → p h ≡ None) → filter_map p hs ≡ []
nothing_found p [] none = refl
nothing_found p (h ∷ hs) none = rw (none h) (nothing_found p hs none)

pub wanted_elsewhere : (d : Directory) (g k f : ℕ) → eqb g k ≡ false → wanted_discoveries d (Some g) k f ≡ []
wanted_elsewhere d g k f other = nothing_found (λ h. when (eqb (d.object h).owner k) (when (eqb g (d.object h).owner) (discovery_of d f h))) (numbers_below d.next_object) (λ h. at (d.object h).owner (discovery_of d f h))
  where
    at : (o : ℕ) (x : Option Discovery) → when (eqb o k) (when (eqb g o) x) ≡ None
    at o x = ⊎_elim
        (λ (y : eqb o k ≡ true). let z : eqb g o ≡ false = grind (arith, nat_tests) in rw (y, z) refl)
        (λ (n : eqb o k ≡ false). rw n refl)
        (cases_Bool (eqb o k))

-- ---- one federate's offers
one_column : (t : ℕ → ℕ → List Discovery) (g f : ℕ) (more : ℕ → List Discovery) (news : List Discovery) → more g ≡ news → ((k : ℕ) → eqb g k ≡ false → more k ≡ [])
    → (λ k. upd (t k) f (t k f ++ more k)) ≡ upd2 t g f (t g f ++ news)
unfolding upd upd2
one_column t g f more news here there = fun_ext (λ k. fun_ext (λ l. by k l (eqb g k) (eqb f l) refl refl))
  where
    by : (k l : ℕ) (a b : Bool) → eqb g k ≡ a → eqb f l ≡ b → cond b (t k f ++ more k) (t k l) ≡ cond (a && b) (t g f ++ news) (t k l)
    by k l true true y z = let p = eqb-true g k y in (λ i. t (sym p i) f ++ more (sym p i)) ∙ ap (λ (ds : List Discovery). t g f ++ ds) here
    by k l true false y z = refl
    by k l false true y z = let q = eqb-true f l z in ap (λ (ds : List Discovery). t k f ++ ds) (there k y) ∙ append-nil (t k f) ∙ ap (t k) q
    by k l false false y z = refl

module _ (place : Directory) (old : List Account) (g f : ℕ) where
  abbrev pub IsOffered : List Account → Type 0
  IsOffered new = (d : Directory) → central_with d new ≡ record (central_with d old) { discoveries = upd2 (offers_in old) g f (offers_in old g f ++ cond (is_other (joined_in old) g f) (discoveries_of place g f) []) }

  pub offered_others : (new : List Account) (offers : List Offer) → is_other (joined_in old) g f ≡ true → ((k : ℕ) → offers_from k offers ≡ wanted_discoveries place (Some g) k f)
      → ((d : Directory) → central_with d new ≡ record (central_with d old) { discoveries = λ k. upd (offers_in old k) f (offers_in old k f ++ offers_from k offers) }) → IsOffered new
  offered_others new offers other found added d =
      added d ∙ ap (λ (t : ℕ → ℕ → List Discovery). record (central_with d old) { discoveries = t })
      (one_column (offers_in old) g f (λ k. offers_from k offers) (cond (is_other (joined_in old) g f) (discoveries_of place g f) [])
      (found g ∙ wanted_here place g f ∙ sym (ap (λ (b : Bool). cond b (discoveries_of place g f) []) other))
      (λ k apart. found k ∙ wanted_elsewhere place g k f apart))

  pub offered_nothing : is_other (joined_in old) g f ≡ false → IsOffered old
  offered_nothing none d =
      none_offered d old g f None refl
      ∙ ap (λ (ds : List Discovery). record (central_with d old) { discoveries = upd2 (offers_in old) g f (offers_in old g f ++ ds) }) (sym (ap (λ (b : Bool). cond {A = List Discovery} b (discoveries_of place g f) []) none))

-- ---- one federate after another
module _ (other : ℕ → Bool) (t : ℕ → ℕ → List Discovery) (g : ℕ) (news : ℕ → List Discovery) where
  abbrev pub row_below : ℕ → ℕ → ℕ → List Discovery
  row_below n = λ k l. cond (eqb g k && (ltb l n && other l)) (t k l ++ news l) (t k l)

  same_either : (b : Bool) (xs : List Discovery) (ys : List Discovery) → xs ≡ cond (b && false) ys xs
  same_either true xs ys = refl
  same_either false xs ys = refl

  row_first : other 0 ≡ false → t ≡ row_below 1
  row_first none = fun_ext (λ k. fun_ext (λ l. ⊎_elim
      (λ (y : ltb l 1 ≡ true). let e : l ≡ 0 = grind (arith, nat_tests) in rw (e, none) (both_no (eqb g k) (ltb 0 1) (t k 0) (t k 0 ++ news 0)))
      (λ (n : ltb l 1 ≡ false). rw n (same_either (eqb g k) (t k l) (t k l ++ news l)))
      (cases_Bool (ltb l 1))))
    where
      both_no : (b c : Bool) (xs ys : List Discovery) → xs ≡ cond (b && (c && false)) ys xs
      both_no true true xs ys = refl
      both_no true false xs ys = refl
      both_no false c xs ys = refl

  row_more : (n : ℕ) → upd2 (row_below n) g n (row_below n g n ++ cond (other n) (news n) []) ≡ row_below (n + 1)
  unfolding upd2
  row_more n = fun_ext (λ k. fun_ext (λ l. by k l (eqb g k) (eqb n l) refl refl))
    where
      added : (b : Bool) (xs ys : List Discovery) → xs ++ cond b ys [] ≡ cond b (xs ++ ys) xs
      added true xs ys = refl
      added false xs ys = append-nil xs

      by : (k l : ℕ) (a b : Bool) → eqb g k ≡ a → eqb n l ≡ b
          → cond (a && b) (cond (eqb g g && (ltb n n && other n)) (t g n ++ news n) (t g n) ++ cond (other n) (news n) []) (cond (a && (ltb l n && other l)) (t k l ++ news l) (t k l))
          ≡ cond (a && (ltb l (n + 1) && other l)) (t k l ++ news l) (t k l)
      by k l true true y z =
          let p : g ≡ k = eqb-true g k y in let q : n ≡ l = eqb-true n l z in
          let now : ltb n (n + 1) ≡ true = grind (arith, nat_tests) in
          let self : eqb g g ≡ true = grind (arith, nat_tests) in
          let before : ltb n n ≡ false = grind (arith, nat_tests) in
          rw (← p, ← q, now, self, before) (added (other n) (t g n) (news n))
      by k l true false y z = let same : ltb l (n + 1) ≡ ltb l n = grind (arith, nat_tests) in rw same refl
      by k l false b y z = refl

pub row_all : (joined : ℕ → Bool) (t : ℕ → ℕ → List Discovery) (g : ℕ) (news : ℕ → List Discovery) (n : ℕ) → ((l : ℕ) → n ≤ l → joined l ≡ false)
    → row_below (is_other joined g) t g news n ≡ upd_row t joined g (λ f discoveries. discoveries ++ news f)
unfolding upd_row
row_all joined t g news n none = fun_ext (λ k. fun_ext (λ l. ⊎_elim
    (λ (below : l < n). let y : ltb l n ≡ true = grind (arith, nat_tests) in rw y refl)
    (λ (above : n ≤ l). let z : ltb l n ≡ false = grind (arith, nat_tests) in rw (z, none l above) (out (eqb g k) (eqb g l) (t k l ++ news l) (t k l)))
    (cases_lt l n)))
  where
    out : (a b : Bool) (xs ys : List Discovery) → cond (a && false) xs ys ≡ cond (a && (not b && false)) xs ys
    out true true xs ys = refl
    out true false xs ys = refl
    out false b xs ys = refl

module _ (place : Directory) (old : List Account) (g : ℕ) where
  abbrev pub AreOfferedBelow : List Account → ℕ → Type 0
  AreOfferedBelow new n = (d : Directory) → central_with d new ≡ record (central_with d old) { discoveries = row_below (is_other (joined_in old) g) (offers_in old) g (discoveries_of place g) n }

  other_zero : (b : Bool) → (not b && false) ≡ false
  other_zero true = refl
  other_zero false = refl

  pub offered_first : AreOfferedBelow old 1
  offered_first d = ap (λ (t : ℕ → ℕ → List Discovery). record (central_with d old) { discoveries = t }) (row_first (is_other (joined_in old) g) (offers_in old) g (discoveries_of place g) (other_zero (eqb g 0)))

  pub offered_more : (now new : List Account) (n : ℕ) → AreOfferedBelow now n → IsOffered place now g n new → AreOfferedBelow new (n + 1)
  offered_more now new n before step d =
      step d
      ∙ ap (λ (c : Central). record c { discoveries = upd2 c.discoveries g n (c.discoveries g n ++ cond (is_other c.directory.joined g n) (discoveries_of place g n) []) }) (before d)
      ∙ ap (λ (t : ℕ → ℕ → List Discovery). record (central_with d old) { discoveries = t }) (row_more (is_other (joined_in old) g) (offers_in old) g (discoveries_of place g) n)

  pub offered_all : (new : List Account) (n : ℕ) → length old < n → AreOfferedBelow new n → (d : Directory) → central_with d new ≡ record (central_with d old) { discoveries = upd_row (offers_in old) (joined_in old) g (λ f discoveries. discoveries ++ discoveries_of place g f) }
  offered_all new n past below d =
      below d ∙ ap (λ (t : ℕ → ℕ → List Discovery). record (central_with d old) { discoveries = t })
      (row_all (joined_in old) (offers_in old) g (discoveries_of place g) n (λ l above. not_joined old l (omega (arith, past, above))))

-- ---- who is another that is joined
pub not_other_self : (joined : ℕ → Bool) (g f : ℕ) → g ≡ f → is_other joined g f ≡ false
not_other_self joined g f is = let y : eqb g f ≡ true = grind (arith, nat_tests) in rw y refl

pub not_other_out : (joined : ℕ → Bool) (g f : ℕ) → joined f ≡ false → is_other joined g f ≡ false
not_other_out joined g f out = rw out (neither (eqb g f))
  where
    neither : (b : Bool) → (not b && false) ≡ false
    neither true = refl
    neither false = refl

pub other_so : (joined : ℕ → Bool) (g f : ℕ) → g ≢ f → joined f ≡ true → is_other joined g f ≡ true
other_so joined g f apart is = let n : eqb g f ≡ false = ne_eqb g f apart in rw (n, is) refl
