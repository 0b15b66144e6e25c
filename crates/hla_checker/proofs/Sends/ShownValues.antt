-- What is shown of values, one after another
use Rattle.std.proofs.Common.{◌≡◌, ℕ, zero, suc, drop, ◌+◌, ◌<◌, ◌≤◌, ◌&&◌, List, [], ◌∷◌, ◌++◌, length, filter, take, get_or, cond, Bool, true, false, Option, Some, None, refl, sym, ap, subst, ◌∙◌, arith}
use Rattle.std.specs.List.{list_all, prefix_len}
use Rattle.std.specs.Option.{option_map_or}
use Rattle.std.proofs.lemmas.Bool.{and_parts}
use Rattle.std.proofs.lemmas.List.{append-nil, append_assoc, take_more, take-append-drop}
use Rattle.std.proofs.lemmas.List.Elements.{filter_more, filter-append}
use Rattle.std.proofs.lemmas.List.Sums.{prefix_len-le-length, prefix_len_passes, prefix_len_stops}
use Rattle.std.proofs.Math.Path.{fun_ext}
use Rattle.hla_base.specs.declared.content.HandleValuePair.{HandleValuePair}
use Rattle.hla_catalogue.specs.declared.declared.Order.{Order}
use Rattle.hla_catalogue.specs.declared.declared.Order.TheVariants.{Receive, Timestamp}
use Rattle.hla_catalogue.specs.Lookup.{contains_number}
use Rattle.hla_machine.specs.Directory.{is_of_order}

-- where all pass a test, all are kept
pub all_kept : {X : Type 0} (p : X → Bool) (xs : List X) → list_all p xs ≡ true → filter p xs ≡ xs
all_kept p [] all = refl
all_kept p (x ∷ xs) all =
    let both = and_parts (p x) (list_all p xs) all in
    rw both.0 (ap (λ ys. x ∷ ys) (all_kept p xs both.1))

-- the first passes where all do
by_head : {X : Type 0} (p : X → Bool) (x : X) (xs : List X) (b : Bool) → p x ≡ b → cond (p x) (1 + prefix_len p xs) 0 ≡ length xs + 1 → (prefix_len p xs ≡ length xs → list_all p xs ≡ true) → (p x && list_all p xs) ≡ true
by_head p x xs true e all rest = rw e (rest (let one = ap (λ b. cond b (1 + prefix_len p xs) 0) (sym e) ∙ all in omega (arith, one)))
by_head p x xs false e all rest = absurd (let none = ap (λ b. cond b (1 + prefix_len p xs) 0) (sym e) ∙ all in omega (arith, none))

all_pass : {X : Type 0} (p : X → Bool) (xs : List X) → prefix_len p xs ≡ length xs → list_all p xs ≡ true
all_pass p [] all = refl
all_pass p (x ∷ xs) all = by_head p x xs (p x) refl (all ∙ omega arith) (all_pass p xs)

-- where as many come before the first that does not pass as there are, all are kept
pub whole_prefix : {X : Type 0} (p : X → Bool) (xs : List X) → prefix_len p xs ≡ length xs → filter p xs ≡ xs
whole_prefix p xs all = all_kept p xs (all_pass p xs all)

-- one more is shown behind what was there
pub shown_more : {X : Type 0} (p : X → Bool) (xs : List X) (i : ℕ) (v : X) (before ys : List X) → i < length xs → v ≡ get_or xs i v → p v ≡ true → ys ≡ before ++ filter p (take i xs) → ys ++ v ∷ [] ≡ before ++ filter p (take (i + 1) xs)
shown_more p xs i v before ys l read passes so =
    ap (λ zs. zs ++ v ∷ []) so
    ∙ append_assoc before (filter p (take i xs)) (v ∷ [])
    ∙ ap (λ zs. before ++ zs) (sym (filter_more p xs i v l ∙ ap (λ x. filter p (take i xs) ++ cond (p x) (x ∷ []) []) (sym read) ∙ ap (λ b. filter p (take i xs) ++ cond b (v ∷ []) []) passes))

-- one more is not shown
pub hidden_more : {X : Type 0} (p : X → Bool) (xs : List X) (i : ℕ) (v : X) (before ys : List X) → i < length xs → v ≡ get_or xs i v → p v ≡ false → ys ≡ before ++ filter p (take i xs) → ys ≡ before ++ filter p (take (i + 1) xs)
hidden_more p xs i v before ys l read fails so =
    so
    ∙ ap (λ zs. before ++ zs) (sym (filter_more p xs i v l ∙ ap (λ x. filter p (take i xs) ++ cond (p x) (x ∷ []) []) (sym read) ∙ ap (λ b. filter p (take i xs) ++ cond b (v ∷ []) []) fails ∙ append-nil (filter p (take i xs))))

kept_more : {X : Type 0} (p : X → Bool) (xs : List X) (i : ℕ) (d : X) → i < prefix_len p xs → filter p (take i xs) ≡ take i xs → filter p (take (i + 1) xs) ≡ take (i + 1) xs
kept_more p xs i d l so =
    let within : i < length xs = omega (arith, l, prefix_len-le-length p xs) in
    filter_more p xs i d within
    ∙ ap (λ b. filter p (take i xs) ++ cond b (get_or xs i d ∷ []) []) (prefix_len_passes p xs i d l)
    ∙ ap (λ ys. ys ++ get_or xs i d ∷ []) so
    ∙ sym (take_more xs i d within)

-- what comes before the first that does not pass is kept
kept_to : {X : Type 0} (p : X → Bool) (xs : List X) (d : X) (i : ℕ) → i ≤ prefix_len p xs → filter p (take i xs) ≡ take i xs
kept_to p xs d zero l = refl
kept_to p xs d (suc i) l =
    let one : i + 1 ≡ suc i = omega arith in
    subst (λ (n : ℕ). filter p (take n xs) ≡ take n xs) one (kept_more p xs i d (omega (arith, l)) (kept_to p xs d i (omega (arith, l))))

cut_at : {X : Type 0} (p : X → Bool) (xs : List X) (d : X) (n : ℕ) → n ≡ prefix_len p xs → n < length xs → filter p xs ≡ take n xs ++ filter p (drop (n + 1) xs)
cut_at p xs d n first l =
    ap (filter p) (sym (take-append-drop (n + 1) xs))
    ∙ filter-append p (take (n + 1) xs) (drop (n + 1) xs)
    ∙ ap (λ ys. ys ++ filter p (drop (n + 1) xs))
    (filter_more p xs n d l
    ∙ ap (λ b. filter p (take n xs) ++ cond b (get_or xs n d ∷ []) []) (ap (λ m. p (get_or xs m d)) first ∙ prefix_len_stops p xs d (omega (arith, first, l)))
    ∙ append-nil (filter p (take n xs))
    ∙ kept_to p xs d n (omega (arith, first)))

-- what is kept comes before the first that does not pass, or passes behind it
pub cut_first : {X : Type 0} (p : X → Bool) (xs : List X) (n : ℕ) → n ≡ prefix_len p xs → n < length xs → filter p xs ≡ take n xs ++ filter p (drop (n + 1) xs)
cut_first p [] n first l = absurd (omega (arith, l))
cut_first p (x ∷ xs) n first l = cut_at p (x ∷ xs) x n first l

-- where all pass one test, and none that does passes the other, none is kept
pub none_kept : {X : Type 0} (p q : X → Bool) → ((x : X) → p x ≡ true → q x ≡ false) → (xs : List X) → list_all p xs ≡ true → filter q xs ≡ []
none_kept p q other [] all = refl
none_kept p q other (x ∷ xs) all =
    let both = and_parts (p x) (list_all p xs) all in
    rw (other x both.0) (none_kept p q other xs both.1)

pub not_stamped : (o : Order) → is_of_order Receive o ≡ true → is_of_order Timestamp o ≡ false
not_stamped Receive e = refl
not_stamped Timestamp e = absurd (cc)

pub not_received : (o : Order) → is_of_order Timestamp o ≡ true → is_of_order Receive o ≡ false
not_received Receive e = absurd (cc)
not_received Timestamp e = refl

-- a number that is subscribed is among those that are handed out
pub handed_out : (n : ℕ) (o : Option (List ℕ)) → contains_number n (option_map_or (λ xs. xs) o []) ≡ option_map_or (contains_number n) o false
handed_out n None = refl
handed_out n (Some ns) = refl

pub handed_values : (ns : List ℕ) (o : Option (List ℕ)) → ns ≡ option_map_or (λ xs. xs) o [] → (values : List HandleValuePair) → filter (λ (v : HandleValuePair). contains_number v.handle ns) values
    ≡ filter (λ (v : HandleValuePair). option_map_or (contains_number v.handle) o false) values
handed_values ns o out values =
    ap (λ (ms : List ℕ). filter (λ (v : HandleValuePair). contains_number v.handle ms) values) out
    ∙ ap (λ (test : HandleValuePair → Bool). filter test values) (fun_ext (λ (v : HandleValuePair). handed_out v.handle o))
