-- What a federate is to discover once it subscribes a class too, object by object
use Rattle.std.proofs.Common.{◌≡◌, ℕ, ◌+◌, ◌≤◌, ◌<◌, cond, eqb, ltb, ◌&&◌, ◌||◌, Bool, true, false, refl, sym, ap, ◌∙◌, ⊎_elim, arith, is_some, List, [], ◌∷◌, ◌++◌, Option, Some, None, option_map, add-one, map}
use Rattle.std.specs.Prelude.{find}
use Rattle.std.specs.List.{filter_map, cons_option}
use Rattle.std.proofs.lemmas.Bool.{cases_Bool, cases_lt}
use Rattle.std.proofs.lemmas.Bool.Decides.{nat_tests}
use Rattle.std.proofs.lemmas.List.{append-nil}
use Rattle.std.proofs.lemmas.List.Elements.{filter_map-append}
use Rattle.std.proofs.Math.Path.{fun_ext}
use Rattle.hla_base.specs.declared.content.Discovery.{Discovery}
use Rattle.hla_base.specs.Tables.{numbers_below, upd, upd2, when}
use Rattle.hla_catalogue.specs.Lookup.{object_lineage}
use Rattle.hla_machine.specs.Directory.{Directory, served_object, discovery_at, discovery_of, with_subscribed}

-- ---- the class of a discovery
class_again : (d : Directory) (h : ℕ) (o : Option ℕ) → option_map (λ (x : Discovery). x.class) (option_map (discovery_at d h) o) ≡ o
class_again d h None = refl
class_again d h (Some k) = refl

pub served_then : (d : Directory) (f class : ℕ) (a : List ℕ) (c : ℕ)
    → find (λ k. eqb k class || is_some (d.subscribed f k)) (object_lineage d.catalogue c) ≡ served_object (with_subscribed d f class (Some a)) f c
unfolding upd2
served_then d f class a c = ap (λ p. find p (object_lineage d.catalogue c)) (fun_ext at)
  where
    at : (k : ℕ) → (eqb k class || is_some (d.subscribed f k)) ≡ is_some (cond (eqb f f && eqb class k) (Some a) (d.subscribed f k))
    at k = let self : eqb f f ≡ true = grind (arith, nat_tests) in ⊎_elim
        (λ (y : eqb k class ≡ true). let z : eqb class k ≡ true = grind (arith, nat_tests) in rw (self, y, z) refl)
        (λ (n : eqb k class ≡ false). let z : eqb class k ≡ false = grind (arith, nat_tests) in rw (self, n, z) refl)
        (cases_Bool (eqb k class))

-- an object that is another's and not known
pub class_found : (d : Directory) (f h : ℕ) → (d.object h).exists ≡ true → eqb (d.object h).owner f ≡ false → d.known h f ≡ false
    → served_object d f (d.object h).class ≡ option_map (λ (x : Discovery). x.class) (discovery_of d f h)
class_found d f h exists other unknown = rw (exists, other, unknown) (sym (class_again d h (served_object d f (d.object h).class)))

-- the discovery from its class
found_from : (d : Directory) (h : ℕ) (b : Bool) (o : Option ℕ) (k : ℕ) → option_map (λ (x : Discovery). x.class) (when b (option_map (discovery_at d h) o)) ≡ Some k → when b (option_map (discovery_at d h) o) ≡ Some (discovery_at d h k)
found_from d h true (Some j) k is = let same : j ≡ k = cc in ap (λ n. Some (discovery_at d h n)) same
found_from d h true None k is = absurd (cc)
found_from d h false o k is = absurd (cc)

pub found_some : (d : Directory) (f h k : ℕ) → Some k ≡ option_map (λ (x : Discovery). x.class) (discovery_of d f h) → discovery_of d f h ≡ Some (discovery_at d h k)
found_some d f h k is = found_from d h _ _ k (sym is)

none_from : (o : Option Discovery) → option_map (λ (x : Discovery). x.class) o ≡ None → o ≡ None
none_from None is = refl
none_from (Some x) is = absurd (cc)

pub found_none : (d : Directory) (f h : ℕ) → None ≡ option_map (λ (x : Discovery). x.class) (discovery_of d f h) → discovery_of d f h ≡ None
found_none d f h is = none_from (discovery_of d f h) (sym is)

pub is_found : (o : Option ℕ) (x : Option Discovery) → o ≡ option_map (λ (x : Discovery). x.class) x → is_some x ≡ is_some o
is_found o None is = rw is refl
is_found o (Some x) is = rw is refl

-- ---- the discoveries so far
pub made_below : {X Y : Type 0} (make : X → Y) (p : ℕ → Option X) (n : ℕ) → map make (filter_map p (numbers_below (n + 1))) ≡ map make (filter_map p (numbers_below n)) ++ map make (cons_option (p n) [])
unfolding numbers_below
made_below {X = X} make p n = rw (add-one n) (ap (map make) (filter_map-append p (numbers_below n) (n ∷ [])) ∙ map_both (filter_map p (numbers_below n)))
  where
    map_both : (xs : List X) → map make (xs ++ cons_option (p n) []) ≡ map make xs ++ map make (cons_option (p n) [])
    map_both [] = refl
    map_both (x ∷ xs) = ap (λ ys. make x ∷ ys) (map_both xs)

pub made_first : {X Y : Type 0} (make : X → Y) (p : ℕ → Option X) → p 0 ≡ None → map make (filter_map p (numbers_below 1)) ≡ []
unfolding numbers_below
made_first make p none = rw none refl

pub put_one : {X : Type 0} (o : ℕ → List X) (p : ℕ) (ms : List X) (h : ℕ) → upd o p (o p ++ ms) h ≡ o h ++ cond (eqb p h) ms []
unfolding upd
put_one o p ms h = ⊎_elim
    (λ (y : eqb p h ≡ true). let e : p ≡ h = grind (arith, nat_tests) in rw (y, e) refl)
    (λ (n : eqb p h ≡ false). rw n (sym (append-nil (o h))))
    (cases_Bool (eqb p h))

-- ---- who knows what so far
abbrev pub known_below : (ℕ → Bool) → (ℕ → ℕ → Bool) → ℕ → ℕ → ℕ → ℕ → Bool
known_below found known f n = λ h k. cond (eqb f k && (ltb h n && found h)) true (known h k)

pub known_first : (found : ℕ → Bool) (known : ℕ → ℕ → Bool) (f : ℕ) → found 0 ≡ false → known ≡ known_below found known f 1
known_first found known f none = fun_ext (λ h. fun_ext (λ k. at h k))
  where
    at : (h k : ℕ) → known h k ≡ cond (eqb f k && (ltb h 1 && found h)) true (known h k)
    at h k = ⊎_elim
        (λ (y : ltb h 1 ≡ true). let e : h ≡ 0 = grind (arith, nat_tests) in rw (e, none) (both_no (eqb f k) (ltb 0 1) (known 0 k)))
        (λ (n : ltb h 1 ≡ false). rw n (no (eqb f k) (known h k)))
        (cases_Bool (ltb h 1))
      where
        no : (b x : Bool) → x ≡ cond (b && false) true x
        no true x = refl
        no false x = refl

        both_no : (b c x : Bool) → x ≡ cond (b && (c && false)) true x
        both_no true true x = refl
        both_no true false x = refl
        both_no false c x = refl

pub known_more : (found : ℕ → Bool) (known : ℕ → ℕ → Bool) (f n : ℕ) → found n ≡ true → upd2 (known_below found known f n) n f true ≡ known_below found known f (n + 1)
unfolding upd2
known_more found known f n is = fun_ext (λ h. fun_ext (λ k. at h k))
  where
    at : (h k : ℕ) → cond (eqb n h && eqb f k) true (cond (eqb f k && (ltb h n && found h)) true (known h k)) ≡ cond (eqb f k && (ltb h (n + 1) && found h)) true (known h k)
    at h k = ⊎_elim
        (λ (y : eqb n h ≡ true).
        let e : n ≡ h = grind (arith, nat_tests) in
        let now : ltb n (n + 1) ≡ true = grind (arith, nat_tests) in
        let self : eqb n n ≡ true = grind (arith, nat_tests) in
        let before : ltb n n ≡ false = grind (arith, nat_tests) in
        rw (← e, now, is, self, before) (here (eqb f k) (known n k)))
        (λ (z : eqb n h ≡ false). let same : ltb h (n + 1) ≡ ltb h n = grind (arith, nat_tests) in rw (z, same) refl)
        (cases_Bool (eqb n h))
      where
        here : (b x : Bool) → cond b true (cond (b && false) true x) ≡ cond (b && true) true x
        here true x = refl
        here false x = refl

pub known_same : (found : ℕ → Bool) (known : ℕ → ℕ → Bool) (f n : ℕ) → found n ≡ false → known_below found known f n ≡ known_below found known f (n + 1)
known_same found known f n is = fun_ext (λ h. fun_ext (λ k. ⊎_elim
    (λ (y : eqb n h ≡ true).
    let e : n ≡ h = grind (arith, nat_tests) in
    let now : ltb n (n + 1) ≡ true = grind (arith, nat_tests) in
    let before : ltb n n ≡ false = grind (arith, nat_tests) in
    rw (← e, now, is, before) refl)
    (λ (z : eqb n h ≡ false). let same : ltb h (n + 1) ≡ ltb h n = grind (arith, nat_tests) in rw same refl)
    (cases_Bool (eqb n h))))

pub known_all : (found : ℕ → Bool) (known : ℕ → ℕ → Bool) (f n : ℕ) → ((h : ℕ) → n ≤ h → found h ≡ false) → known_below found known f n ≡ (λ h k. cond (eqb f k && found h) true (known h k))
known_all found known f n none = fun_ext (λ h. fun_ext (λ k. ⊎_elim
    (λ (below : h < n). let y : ltb h n ≡ true = grind (arith, nat_tests) in rw y refl)
    (λ (above : n ≤ h). let z : ltb h n ≡ false = grind (arith, nat_tests) in rw (z, none h above) refl)
    (cases_lt h n)))

-- what has become known of lower objects changes no later discovery
pub still_found : (d : Directory) (f n : ℕ) (found : ℕ → Bool) → discovery_of (record d { known = known_below found d.known f n }) f n ≡ discovery_of d f n
still_found d f n found =
    let before : ltb n n ≡ false = grind (arith, nat_tests) in
    let self : eqb f f ≡ true = grind (arith, nat_tests) in
    rw (self, before) refl

pub class_at : (d : Directory) (f class h : ℕ) (o : Option ℕ) (a : List ℕ) → (d.object h).exists ≡ true → eqb (d.object h).owner f ≡ false → d.known h f ≡ false
    → o ≡ find (λ k. eqb k class || is_some (d.subscribed f k)) (object_lineage d.catalogue (d.object h).class) → o ≡ option_map (λ (x : Discovery). x.class) (discovery_of (with_subscribed d f class (Some a)) f h)
class_at d f class h o a exists other unknown is = is ∙ served_then d f class a (d.object h).class ∙ class_found (with_subscribed d f class (Some a)) f h exists other unknown

pub when_none : {X : Type 0} (b : Bool) → when {X = X} b None ≡ None
when_none true = refl
when_none false = refl

pub last_made : {X Y : Type 0} (make : X → Y) (b : Bool) (o : Option X) (x : X) → o ≡ Some x → cond b (make x ∷ []) [] ≡ map make (cons_option (when b o) [])
last_made make true o x is = rw is refl
last_made make false o x is = refl

pub none_made : {X Y : Type 0} (make : X → Y) (b : Bool) (o : Option X) → o ≡ None → [] ≡ map make (cons_option (when b o) [])
none_made make true o is = rw is refl
none_made make false o is = refl
