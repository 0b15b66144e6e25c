-- What a federate is to discover, object by object
use Rattle.std.proofs.Common.{◌≡◌, ℕ, ◌+◌, ◌≤◌, ◌<◌, cond, eqb, ltb, ◌&&◌, Bool, true, false, refl, sym, ap, ◌∙◌, ⊎_elim, arith, is_some, List, [], ◌∷◌, ◌++◌, Option, Some, None, option_map, add-one}
use Rattle.std.specs.List.{filter_map, cons_option}
use Rattle.std.proofs.lemmas.Bool.{cases_Bool, cases_lt}
use Rattle.std.proofs.lemmas.Bool.Decides.{nat_tests}
use Rattle.std.proofs.lemmas.List.{append-nil}
use Rattle.std.proofs.lemmas.List.Elements.{filter_map-append}
use Rattle.std.proofs.Math.Path.{fun_ext}
use Rattle.hla_base.specs.declared.content.Discovery.{Discovery}
use Rattle.hla_base.specs.Tables.{numbers_below, upd2, when}
use Rattle.hla_machine.specs.Directory.{Directory, served_object, discovery_at, discovery_of}
use Rattle.hla_accounts.specs.declared.offers.Offer.{Offer}
use Rattle.hla_accounts.specs.Accounts.{offers_from}
use Rattle.hla_checker.specs.Offering.{is_wanted, wanted_of}

-- ---- the class of a discovery
class_again : (d : Directory) (h : ℕ) (o : Option ℕ) → option_map (λ (x : Discovery). x.class) (option_map (discovery_at d h) o) ≡ o
class_again d h None = refl
class_again d h (Some k) = refl

-- an object that is another's and not known
pub class_found : (d : Directory) (f h : ℕ) → (d.object h).exists ≡ true → eqb (d.object h).owner f ≡ false → d.known h f ≡ false
    → served_object d f (d.object h).class ≡ option_map (λ (x : Discovery). x.class) (discovery_of d f h)
class_found d f h exists other unknown = rw (exists, other, unknown) (sym (class_again d h (served_object d f (d.object h).class)))

-- the discovery from its class
found_from : (d : Directory) (h : ℕ) (b : Bool) (o : Option ℕ) (k : ℕ) → option_map (λ (x : Discovery). x.class) (when b (option_map (discovery_at d h) o)) ≡ Some k → when b (option_map (discovery_at d h) o) ≡ Some (discovery_at d h k)
found_from d h true (Some j) k is = let same : j ≡ k = cc in ap (λ n. Some (discovery_at d h n)) same
found_from d h true None k is = absurd (cc)
found_from d h false o k is = absurd (cc)

wanted_from : (d : Directory) (f h k : ℕ) (b : Bool) → option_map (λ (x : Discovery). x.class) (when b (discovery_of d f h)) ≡ Some k → when b (discovery_of d f h) ≡ Some (discovery_at d h k)
wanted_from d f h k true is = found_from d h _ _ k is
wanted_from d f h k false is = absurd (cc)

pub wanted_some : (d : Directory) (of : Option ℕ) (f h k : ℕ) → option_map (λ (x : Discovery). x.class) (wanted_of d of f h) ≡ Some k → wanted_of d of f h ≡ Some (discovery_at d h k)
wanted_some d of f h k is = wanted_from d f h k (is_wanted of (d.object h).owner) is

none_from : (o : Option Discovery) → option_map (λ (x : Discovery). x.class) o ≡ None → o ≡ None
none_from None is = refl
none_from (Some x) is = absurd (cc)

pub wanted_none : (d : Directory) (of : Option ℕ) (f h : ℕ) → option_map (λ (x : Discovery). x.class) (wanted_of d of f h) ≡ None → wanted_of d of f h ≡ None
wanted_none d of f h is = none_from (wanted_of d of f h) is

pub is_found : (o : Option ℕ) (x : Option Discovery) → o ≡ option_map (λ (x : Discovery). x.class) x → is_some x ≡ is_some o
is_found o None is = rw is refl
is_found o (Some x) is = rw is refl

-- ---- the offers so far
abbrev pub found_below : (ℕ → Option Discovery) → ℕ → List Discovery
found_below p n = filter_map p (numbers_below n)

pub found_more : (p : ℕ → Option Discovery) (n : ℕ) → found_below p (n + 1) ≡ found_below p n ++ cons_option (p n) []
unfolding numbers_below
found_more p n = rw (add-one n) (filter_map-append p (numbers_below n) (n ∷ []))

pub found_first : (p : ℕ → Option Discovery) → p 0 ≡ None → found_below p 1 ≡ []
unfolding numbers_below
found_first p none = rw none refl

pub when_none : {X : Type 0} (b : Bool) → when {X = X} b None ≡ None
when_none true = refl
when_none false = refl

-- one more offer
pub offer_more : (g : ℕ) (offers : List Offer) (o : Offer) (p : ℕ → Option Discovery) (n : ℕ) → offers_from g offers ≡ found_below p n → when (eqb o.from g) (Some o.discovery) ≡ p n → offers_from g (offers ++ o ∷ []) ≡ found_below p (n + 1)
offer_more g offers o p n before here =
    filter_map-append (λ (x : Offer). when (eqb x.from g) (Some x.discovery)) offers (o ∷ [])
    ∙ (λ i. before i ++ cons_option (here i) []) ∙ sym (found_more p n)

pub offer_none : (g : ℕ) (offers : List Offer) (p : ℕ → Option Discovery) (n : ℕ) → offers_from g offers ≡ found_below p n → p n ≡ None → offers_from g offers ≡ found_below p (n + 1)
offer_none g offers p n before none =
    before ∙ sym (append-nil (found_below p n)) ∙ ap (λ (o : Option Discovery). found_below p n ++ cons_option o []) (sym none) ∙ sym (found_more p n)

-- ---- who knows what so far
abbrev pub known_below : (ℕ → Bool) → (ℕ → ℕ → Bool) → ℕ → ℕ → ℕ → ℕ → Bool
known_below found known f n = λ h k. cond (eqb f k && (ltb h n && found h)) true (known h k)

pub known_first : (found : ℕ → Bool) (known : ℕ → ℕ → Bool) (f : ℕ) → found 0 ≡ false → known ≡ known_below found known f 1
known_first found known f none = fun_ext (λ h. fun_ext (λ k. at h k))
  where
    at : (h k : ℕ) → known h k ≡ cond (eqb f k && (ltb h 1 && found h)) true (known h k)
    at h k = ⊎_elim
        (λ (y : ltb h 1 ≡ true). let e : h ≡ 0 = grind (arith, nat_tests) in rw (e, none) (both_no (eqb f k) (ltb 0 1) (known 0 k)))
        (λ (n : ltb h 1 ≡ false). rw n (no (eqb f k) (known h k)))
        (cases_Bool (ltb h 1))
      where
        no : (b x : Bool) → x ≡ cond (b && false) true x
        no true x = refl
        no false x = refl

        both_no : (b c x : Bool) → x ≡ cond (b && (c && false)) true x
        both_no true true x = refl
        both_no true false x = refl
        both_no false c x = refl

pub known_more : (found : ℕ → Bool) (known : ℕ → ℕ → Bool) (f n : ℕ) → found n ≡ true → upd2 (known_below found known f n) n f true ≡ known_below found known f (n + 1)
unfolding upd2
known_more found known f n is = fun_ext (λ h. fun_ext (λ k. at h k))
  where
    at : (h k : ℕ) → cond (eqb n h && eqb f k) true (cond (eqb f k && (ltb h n && found h)) true (known h k)) ≡ cond (eqb f k && (ltb h (n + 1) && found h)) true (known h k)
    at h k = ⊎_elim
        (λ (y : eqb n h ≡ true).
        let e : n ≡ h = grind (arith, nat_tests) in
        let now : ltb n (n + 1) ≡ true = grind (arith, nat_tests) in
        let self : eqb n n ≡ true = grind (arith, nat_tests) in
        let before : ltb n n ≡ false = grind (arith, nat_tests) in
        rw (← e, now, is, self, before) (here (eqb f k) (known n k)))
        (λ (z : eqb n h ≡ false). let same : ltb h (n + 1) ≡ ltb h n = grind (arith, nat_tests) in rw (z, same) refl)
        (cases_Bool (eqb n h))
      where
        here : (b x : Bool) → cond b true (cond (b && false) true x) ≡ cond (b && true) true x
        here true x = refl
        here false x = refl

pub known_same : (found : ℕ → Bool) (known : ℕ → ℕ → Bool) (f n : ℕ) → found n ≡ false → known_below found known f n ≡ known_below found known f (n + 1)
known_same found known f n is = fun_ext (λ h. fun_ext (λ k. ⊎_elim
    (λ (y : eqb n h ≡ true).
    let e : n ≡ h = grind (arith, nat_tests) in
    let now : ltb n (n + 1) ≡ true = grind (arith, nat_tests) in
    let before : ltb n n ≡ false = grind (arith, nat_tests) in
    rw (← e, now, is, before) refl)
    (λ (z : eqb n h ≡ false). let same : ltb h (n + 1) ≡ ltb h n = grind (arith, nat_tests) in rw same refl)
    (cases_Bool (eqb n h))))

pub known_all : (found : ℕ → Bool) (known : ℕ → ℕ → Bool) (f n : ℕ) → ((h : ℕ) → n ≤ h → found h ≡ false) → known_below found known f n ≡ (λ h k. cond (eqb f k && found h) true (known h k))
known_all found known f n none = fun_ext (λ h. fun_ext (λ k. ⊎_elim
    (λ (below : h < n). let y : ltb h n ≡ true = grind (arith, nat_tests) in rw y refl)
    (λ (above : n ≤ h). let z : ltb h n ≡ false = grind (arith, nat_tests) in rw (z, none h above) refl)
    (cases_lt h n)))

-- what has become known of lower objects changes no later discovery
pub still_found : (d : Directory) (f n : ℕ) (found : ℕ → Bool) → discovery_of (record d { known = known_below found d.known f n }) f n ≡ discovery_of d f n
still_found d f n found =
    let before : ltb n n ≡ false = grind (arith, nat_tests) in
    let self : eqb f f ≡ true = grind (arith, nat_tests) in
    rw (self, before) refl
