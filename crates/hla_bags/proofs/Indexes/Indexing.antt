-- What a bag keeps of its index and its tail after a change
use Rattle.std.proofs.Common.{◌≡◌, ℕ, zero, suc, ◌+◌, ◌-◌, ◌<◌, ◌≤◌, ◌&&◌, Bool, true, false, List, [], ◌∷◌, ◌++◌, length, get_or, set, take, drop, Option, Some, None, refl, sym, ap, ◌∙◌, subst, arith, length-append, length-drop}
use Rattle.std.specs.List.{list_all, find, position, remove}
use Rattle.std.specs.Option.{option_map_or, option_or}
use Rattle.std.proofs.Math.ListN.{length-set}
use Rattle.std.proofs.lemmas.Bool.Decides.{nat_tests}
use Rattle.std.proofs.lemmas.List.{drop_all, drop-append-le, get_or-drop, get_or_default, take_all, take-append-drop, take-append-le}
use Rattle.std.proofs.lemmas.List.Edits.{length-remove}
use Rattle.std.proofs.lemmas.List.Elements.{All-drop}
use Rattle.std.proofs.lemmas.List.Folds.{find-append, list_all-append}
use Rattle.std.proofs.lemmas.Option.{slice_get-get_or}
use Rattle.hla_base.specs.Tables.{upd2}
use Rattle.hla_bags.specs.declared.bag.Waiting.{Waiting}
use Rattle.hla_bags.specs.declared.index.Index.{Index}
use Rattle.hla_bags.specs.declared.indexing.Indexing.{Indexing}
use Rattle.hla_bags.specs.Bags.{is_of, waiting_at, demoted_delivery, demoted_waiting, IsNotBelow, AreNotBelow, AreApart}
use Rattle.hla_bags.specs.Indexes.{delivery_at, IsIndexOf, IsHead, IsIndexingOf}
use Rattle.hla_bags.proofs.Bags.Contents.{waiting_at-find, apart-push}
use Rattle.hla_bags.proofs.Bags.Places.{stands_there, found_at, removed_there, demoted_at, delivered, delivered_at, delivered_demoted}
use Rattle.hla_bags.proofs.Bags.Stamps.{bounds_push, bounds_remove, bounds_set, lesser_bounds}

-- ---- the first messages and the tail
or_none : (a b : Option Waiting) → option_or a b ≡ None → a ≡ None
or_none None b e = refl
or_none (Some w) b e = absurd (cc)

in_parts : (ws : List Waiting) (k g m : ℕ) → waiting_at ws g m ≡ option_or (waiting_at (take k ws) g m) (waiting_at (drop k ws) g m)
in_parts ws k g m =
    ap (λ (vs : List Waiting). waiting_at vs g m) (sym (take-append-drop k ws))
    ∙ waiting_at-find (take k ws ++ drop k ws) g m
    ∙ find-append (is_of g m) (take k ws) (drop k ws)
    ∙ ap (λ o. option_or o (find (is_of g m) (drop k ws))) (sym (waiting_at-find (take k ws) g m))
    ∙ ap (option_or (waiting_at (take k ws) g m)) (sym (waiting_at-find (drop k ws) g m))

none_take : (ws : List Waiting) (k g m : ℕ) → waiting_at ws g m ≡ None → waiting_at (take k ws) g m ≡ None
none_take ws k g m e = or_none _ _ (sym (in_parts ws k g m) ∙ e)

-- what is in neither is not there
pub none_in_both : (ws : List Waiting) (k g m : ℕ) → waiting_at (take k ws) g m ≡ None → waiting_at (drop k ws) g m ≡ None → waiting_at ws g m ≡ None
none_in_both ws k g m a b = in_parts ws k g m ∙ ap (λ o. option_or o (waiting_at (drop k ws) g m)) a ∙ b

pub apart_take : (ws : List Waiting) (k : ℕ) → AreApart ws → AreApart (take k ws)
apart_take [] zero apart = tt
apart_take [] (suc k) apart = tt
apart_take (w ∷ ws) zero apart = tt
apart_take (w ∷ ws) (suc k) apart = (none_take ws k w.event.sender w.event.serial apart.0, apart_take ws k apart.1)

pub split_all : (test : Waiting → Bool) (k : ℕ) (ws : List Waiting) → list_all test ws ≡ (list_all test (take k ws) && list_all test (drop k ws))
split_all test k ws = ap (list_all test) (sym (take-append-drop k ws)) ∙ list_all-append test (take k ws) (drop k ws)

-- what stands in the tail
pub found_behind : (ws : List Waiting) (k g m p : ℕ) → AreApart ws → Some p ≡ position (is_of g m) (drop k ws) → position (is_of g m) ws ≡ Some (k + p)
found_behind ws k g m p apart is = by (drop k ws) refl is
  where
    by : (vs : List Waiting) → drop k ws ≡ vs → Some p ≡ position (is_of g m) vs → position (is_of g m) ws ≡ Some (k + p)
    by [] e here = absurd (let none : None ≡ position (is_of g m) [] = refl in let both = none ∙ sym here in cc)
    by (v ∷ vs) e here =
        let f = found_at (v ∷ vs) g m p v here in
        let inside : k + p < length ws = omega (arith, f.0, length-drop k ws, ap length e) in
        let same : get_or ws (k + p) v ≡ get_or (v ∷ vs) p v = sym (get_or-drop k ws p v) ∙ ap (λ xs. get_or xs p v) e in
        stands_there ws g m apart (k + p) (ap (λ o. option_map_or (is_of g m) o false) (slice_get-get_or ws (k + p) v inside) ∙ ap (is_of g m) same ∙ f.1)

-- each message stands where its name is found
pub own_place : (ws : List Waiting) (i : ℕ) (w : Waiting) → AreApart ws → i < length ws → w ≡ get_or ws i w → Some i ≡ position (is_of w.event.sender w.event.serial) ws
own_place ws i w apart l read =
    let g = w.event.sender in
    let m = w.event.serial in
    let own : is_of g m w ≡ true = grind (arith, nat_tests) in
    sym (stands_there ws g m apart i (ap (λ o. option_map_or (is_of g m) o false) (slice_get-get_or ws i w l ∙ ap Some (sym read)) ∙ own))

-- ---- the index
pub head_of : (ws : List Waiting) (x : Indexing) (i : Index) → IsIndexingOf ws x → x.index ≡ Some i → IsIndexOf i (delivery_at (take x.count ws))
head_of ws x i kept is = subst (λ o. IsHead o x.count (take x.count ws)) is kept.head

pub no_head : (ws : List Waiting) (x : Indexing) → IsIndexingOf ws x → x.index ≡ None → x.count ≡ 0
no_head ws x kept is = subst (λ o. IsHead o x.count (take x.count ws)) is kept.head

pub none_indexed : (test : Waiting → Bool) (ws : List Waiting) (x : Indexing) → IsIndexingOf ws x → x.index ≡ None → true ≡ list_all test (take x.count ws)
none_indexed test ws x kept is = ap (λ k. list_all test (take k ws)) (sym (no_head ws x kept is))

-- an index of all messages, and no tail
pub kept_all : (ws : List Waiting) (i : Index) (k o d : ℕ) (r : Bool) → AreApart ws → IsIndexOf i (delivery_at ws) → k ≡ length ws → IsIndexingOf ws (record { index = Some i; count = k; is_refused = r; least_ordered = o; least_demoted = d })
kept_all ws i k o d r apart known all = record {
  apart = apart;
  within = omega (arith, all);
  head = subst (λ (vs : List Waiting). IsIndexOf i (delivery_at vs)) (sym (take_all k ws (omega (arith, all)))) known;
  tail = subst (AreNotBelow o d) (sym (drop_all k ws (omega (arith, all)))) (λ n w l. absurd (omega arith));
}

pub whole : (ws : List Waiting) (i : Index) (k : ℕ) → IsIndexOf i (delivery_at (take k ws)) → k ≡ length ws → IsIndexOf i (delivery_at ws)
whole ws i k known all = subst (λ (vs : List Waiting). IsIndexOf i (delivery_at vs)) (take_all k ws (omega (arith, all))) known

-- no index, so that all messages are the tail
pub kept_none : (ws : List Waiting) (o d : ℕ) (r : Bool) → AreApart ws → AreNotBelow o d ws → IsIndexingOf ws (record { index = None; count = 0; is_refused = r; least_ordered = o; least_demoted = d })
kept_none ws o d r apart bounds = record { apart = apart; within = omega arith; head = refl; tail = bounds }

pub kept_bounds : (ws : List Waiting) (x : Indexing) (p e : ℕ) → IsIndexingOf ws x → AreNotBelow p e ws → IsIndexingOf ws (record x { least_ordered = p; least_demoted = e })
kept_bounds ws x p e kept bounds = record { apart = kept.apart; within = kept.within; head = kept.head; tail = All-drop (λ (w : Waiting). IsNotBelow p e w.delivery) x.count ws bounds }

-- ---- one more, behind the others
pub kept_put : (ws : List Waiting) (w : Waiting) (x : Indexing) (p e : ℕ) → IsIndexingOf ws x → waiting_at ws w.event.sender w.event.serial ≡ None → p ≤ x.least_ordered → e ≤ x.least_demoted → IsNotBelow p e w.delivery → IsIndexingOf (ws ++ w ∷ []) (record x { least_ordered = p; least_demoted = e })
kept_put ws w x p e kept free ordered demoted above =
    let within = kept.within in record {
      apart = apart-push ws w free kept.apart;
      within = omega (arith, within, length-append ws (w ∷ []));
      head = subst (IsHead x.index x.count) (sym (take-append-le x.count ws (w ∷ []) within)) kept.head;
      tail = subst (AreNotBelow p e) (sym (drop-append-le x.count ws (w ∷ []) within)) (bounds_push p e (drop x.count ws) w (lesser_bounds x.least_ordered x.least_demoted p e (drop x.count ws) ordered demoted kept.tail) above);
    }

-- ---- one less
pub kept_less : (ws : List Waiting) (i : Index) (place k o d : ℕ) (r : Bool) (w : Waiting) → AreApart ws → place < length ws → w ≡ get_or ws place w → IsIndexOf i (upd2 (delivery_at ws) w.event.sender w.event.serial None) → k ≡ length ws →
    IsIndexingOf (remove ws place) (record { index = Some i; count = k - 1; is_refused = r; least_ordered = o; least_demoted = d })
kept_less ws i place k o d r w apart l read known all =
    let g = w.event.sender in
    let m = w.event.serial in
    let now = removed_there ws g m place apart (own_place ws place w apart l read) (remove ws place) refl in
    kept_all (remove ws place) i (k - 1) o d r now.apart (subst (IsIndexOf i) (sym (delivered ws (remove ws place) g m None now.table)) known) (omega (arith, all, length-remove ws place l))

pub kept_less_found : (ws : List Waiting) (x : Indexing) (place g m : ℕ) → IsIndexingOf ws x → x.index ≡ None → Some place ≡ position (is_of g m) ws → IsIndexingOf (remove ws place) x
kept_less_found ws x place g m kept is found =
    let none = no_head ws x kept is in
    let now = removed_there ws g m place kept.apart found (remove ws place) refl in
    record {
      apart = now.apart;
      within = omega (arith, none);
      head = subst (λ o. IsHead o x.count (take x.count (remove ws place))) (sym is) none;
      tail = subst (λ n. AreNotBelow x.least_ordered x.least_demoted (drop n (remove ws place))) (sym none) (bounds_remove x.least_ordered x.least_demoted ws place (subst (λ n. AreNotBelow x.least_ordered x.least_demoted (drop n ws)) none kept.tail));
    }

pub kept_less_none : (ws : List Waiting) (x : Indexing) (place : ℕ) (w : Waiting) → IsIndexingOf ws x → x.index ≡ None → place < length ws → w ≡ get_or ws place w → IsIndexingOf (remove ws place) x
kept_less_none ws x place w kept is l read = kept_less_found ws x place w.event.sender w.event.serial kept is (own_place ws place w kept.apart l read)

-- ---- one moved to receive order
pub kept_demoted : (ws : List Waiting) (i : Index) (place k o d : ℕ) (r : Bool) (w v : Waiting) → AreApart ws → place < length ws → w ≡ get_or ws place w → IsIndexOf i (upd2 (delivery_at ws) w.event.sender w.event.serial (Some (demoted_delivery w.delivery))) → k ≡ length ws →
    IsIndexingOf (set ws place (demoted_waiting (get_or ws place v))) (record { index = Some i; count = k; is_refused = r; least_ordered = o; least_demoted = d })
kept_demoted ws i place k o d r w v apart l read known all =
    let vs = set ws place (demoted_waiting (get_or ws place v)) in
    let found = own_place ws place w apart l read in
    let now = demoted_at w.event ws place v apart found vs refl in
    let given = delivered_demoted w.event ws vs w.delivery (delivered_at ws w.event.sender w.event.serial place w found read) now.table in
    kept_all vs i k o d r now.apart (subst (IsIndexOf i) (sym given) known) (all ∙ sym (length-set ws place (demoted_waiting (get_or ws place v))))

pub kept_demoted_none : (ws : List Waiting) (x : Indexing) (place p e : ℕ) (w v : Waiting) → IsIndexingOf ws x → x.index ≡ None → place < length ws → w ≡ get_or ws place w → p ≤ x.least_ordered → e ≤ x.least_demoted → IsNotBelow p e (demoted_delivery w.delivery) →
    IsIndexingOf (set ws place (demoted_waiting (get_or ws place v))) (record x { least_ordered = p; least_demoted = e })
kept_demoted_none ws x place p e w v kept is l read ordered demoted above =
    let vs = set ws place (demoted_waiting (get_or ws place v)) in
    let none = no_head ws x kept is in
    let now = demoted_at w.event ws place v kept.apart (own_place ws place w kept.apart l read) vs refl in
    let was = lesser_bounds x.least_ordered x.least_demoted p e ws ordered demoted (subst (λ n. AreNotBelow x.least_ordered x.least_demoted (drop n ws)) none kept.tail) in
    let same : w ≡ get_or ws place v = read ∙ get_or_default ws place w v l in
    record {
      apart = now.apart;
      within = omega (arith, none);
      head = subst (λ o. IsHead o x.count (take x.count vs)) (sym is) none;
      tail = subst (λ n. AreNotBelow p e (drop n vs)) (sym none) (bounds_set p e ws place (demoted_waiting (get_or ws place v)) was (subst (λ (y : Waiting). IsNotBelow p e (demoted_delivery y.delivery)) same above));
    }

-- ---- tests of all that waits
-- all pass both tests exactly where all pass the one and all the other
pub all_of_both : (a b : Waiting → Bool) (ws : List Waiting) → list_all (λ w. a w && b w) ws ≡ (list_all a ws && list_all b ws)
all_of_both a b [] = refl
all_of_both a b (w ∷ ws) = ap (λ r. (a w && b w) && r) (all_of_both a b ws) ∙ swapped (a w) (b w) (list_all a ws) (list_all b ws)
  where
    swapped : (p q r s : Bool) → ((p && q) && (r && s)) ≡ ((p && r) && (q && s))
    swapped false q r s = refl
    swapped true true r s = refl
    swapped true false true s = refl
    swapped true false false s = refl

-- where all that the index has passes, it is as the tail says
pub rest_decides : (test : Waiting → Bool) (ws : List Waiting) (k : ℕ) (a b : Bool) → a ≡ list_all test (take k ws) → a ≡ true → b ≡ list_all test (drop k ws) → b ≡ list_all test ws
rest_decides test ws k a b head passed tail = tail ∙ ap (λ x. x && list_all test (drop k ws)) (sym passed ∙ head) ∙ sym (split_all test k ws)

-- where something of what the index has fails, it fails
pub head_decides : (test : Waiting → Bool) (ws : List Waiting) (k : ℕ) (a : Bool) → a ≡ list_all test (take k ws) → a ≡ false → a ≡ list_all test ws
head_decides test ws k a head failed = failed ∙ ap (λ x. x && list_all test (drop k ws)) (sym failed ∙ head) ∙ sym (split_all test k ws)
