-- What holds of each message that waits holds of each key of the index
use Rattle.std.proofs.Common.{◌≡◌, ℕ, cond, ◌||◌, not, Bool, true, false, List, [], ◌∷◌, Option, Some, None, option_map, refl, sym, ap, ◌∙◌, subst, arith}
use mathlib.Core.Bool.{false≢true, true≢false}
use Rattle.std.specs.List.{list_all, list_any, filter, All}
use Rattle.std.specs.Ordering.{is_eq}
use Rattle.std.specs.BTreeSet as sorted
use Rattle.std.specs.BTreeSet.{BTreeSet}
use Rattle.std.proofs.lemmas.Bool.{and_parts}
use Rattle.std.proofs.lemmas.Bool.Decides.{nat_tests}
use Rattle.std.proofs.lemmas.Cmp.{tied_itself}
use Rattle.std.proofs.lemmas.List.Elements.{All-head, All-tail}
use Rattle.std.proofs.lemmas.Map.Views.{All-set_contains}
use Rattle.hla_bags.specs.declared.bag.Waiting.{Waiting}
use Rattle.hla_bags.specs.declared.index.Key.{Key}
use Rattle.hla_bags.specs.declared.index.Index.{Index}
use Rattle.hla_bags.specs.Bags.{is_of, waiting_at, AreApart}
use Rattle.hla_bags.specs.Indexes.{key_at, waiting_key_cmp, delivery_at, has_key, IsIndexOf}
use Rattle.hla_bags.proofs.Bags.Contents.{waiting_at-nil, waiting_at-cons, sender_and_serial}
use Rattle.hla_bags.proofs.Indexes.Keys.{key_total, same_key}

abbrev pub key_of_waiting : Waiting → Key
key_of_waiting w = key_at w.event.sender w.event.serial w.delivery

same_tests : (a b : Bool) → (a ≡ true → b ≡ true) → (b ≡ true → a ≡ true) → a ≡ b
same_tests true b to back = sym (to refl)
same_tests false true to back = absurd (false≢true (back refl))
same_tests false false to back = refl

-- ---- lists of messages
-- what was found in a list passes a test that all of it pass
passes : (test : Waiting → Bool) (ws : List Waiting) (g m : ℕ) (w : Waiting) → list_all test ws ≡ true → waiting_at ws g m ≡ Some w → (test w ≡ true) × (w.event.sender ≡ g) × (w.event.serial ≡ m)
passes test [] g m w all is = absurd (let e : None ≡ Some w = sym (ap (λ t. t g m) waiting_at-nil) ∙ is in cc)
passes test (x ∷ ws) g m w all is = by (is_of g m x) refl (sym (waiting_at-cons x ws g m) ∙ is) (passes test ws g m w (and_parts (test x) (list_all test ws) all).1)
  where
    both : (test x ≡ true) × (list_all test ws ≡ true)
    both = and_parts (test x) (list_all test ws) all

    by : (b : Bool) → is_of g m x ≡ b → cond b (Some x) (waiting_at ws g m) ≡ Some w → (waiting_at ws g m ≡ Some w → (test w ≡ true) × (w.event.sender ≡ g) × (w.event.serial ≡ m)) → (test w ≡ true) × (w.event.sender ≡ g) × (w.event.serial ≡ m)
    by true here e rest =
        let same : x ≡ w = cc in
        let key = sender_and_serial x g m here in
        (subst (λ v. test v ≡ true) same both.0, ap (λ (v : Waiting). v.event.sender) (sym same) ∙ key.0, ap (λ (v : Waiting). v.event.serial) (sym same) ∙ key.1)
    by false here e rest = rest e

-- each of a list, where no two have one name, is found by its name
all_pass : (test : Waiting → Bool) (ws : List Waiting) → AreApart ws → ((w : Waiting) → waiting_at ws w.event.sender w.event.serial ≡ Some w → test w ≡ true) → list_all test ws ≡ true
all_pass test [] apart each = refl
all_pass test (x ∷ ws) apart each =
    let own : is_of x.event.sender x.event.serial x ≡ true = grind (arith, nat_tests) in
    let first : test x ≡ true = each x (waiting_at-cons x ws x.event.sender x.event.serial ∙ rw own refl) in
    let rest : list_all test ws ≡ true = all_pass test ws apart.1 (λ w is. each w (waiting_at-cons x ws w.event.sender w.event.serial ∙ behind w (is_of w.event.sender w.event.serial x) refl is)) in
    rw (first, rest) refl
  where
    behind : (w : Waiting) (b : Bool) → is_of w.event.sender w.event.serial x ≡ b → waiting_at ws w.event.sender w.event.serial ≡ Some w → cond b (Some x) (waiting_at ws w.event.sender w.event.serial) ≡ Some w
    behind w true here is =
        let key = sender_and_serial x w.event.sender w.event.serial here in
        let none : waiting_at ws w.event.sender w.event.serial ≡ None = ap (λ h. waiting_at ws h w.event.serial) (sym key.0) ∙ ap (waiting_at ws x.event.sender) (sym key.1) ∙ apart.0 in
        absurd (let e : None ≡ Some w = sym none ∙ is in cc)
    behind w false here is = is

-- ---- lists of keys
keys_pass : (in_range test : Key → Bool) (s : BTreeSet Key) (ks : List Key) → All (λ k. sorted.contains waiting_key_cmp s k ≡ true) ks → ((k : Key) → sorted.contains waiting_key_cmp s k ≡ true → in_range k ≡ true → test k ≡ true) → list_all test (filter in_range ks) ≡ true
keys_pass in_range test s [] all each = refl
keys_pass in_range test s (k ∷ ks) all each = by (in_range k) refl (keys_pass in_range test s ks (All-tail (λ x. sorted.contains waiting_key_cmp s x ≡ true) k ks all) each)
  where
    by : (b : Bool) → in_range k ≡ b → list_all test (filter in_range ks) ≡ true → list_all test (cond b (k ∷ filter in_range ks) (filter in_range ks)) ≡ true
    by true e rest = let first : test k ≡ true = each k (All-head (λ x. sorted.contains waiting_key_cmp s x ≡ true) k ks all) e in rw (first, rest) refl
    by false e rest = rest

key_passes : (in_range test : Key → Bool) (ks : List Key) (k : Key) → list_all test (filter in_range ks) ≡ true → list_any (λ x. is_eq (waiting_key_cmp k x)) ks ≡ true → in_range k ≡ true → test k ≡ true
key_passes in_range test [] k all among within = absurd (false≢true among)
key_passes in_range test (x ∷ ks) k all among within = by (is_eq (waiting_key_cmp k x)) refl among (in_range x) refl all (λ h any. key_passes in_range test ks k h any within)
  where
    by : (b : Bool) → is_eq (waiting_key_cmp k x) ≡ b → (b || list_any (λ y. is_eq (waiting_key_cmp k y)) ks) ≡ true → (r : Bool) → in_range x ≡ r → list_all test (cond r (x ∷ filter in_range ks) (filter in_range ks)) ≡ true →
        (list_all test (filter in_range ks) ≡ true → list_any (λ y. is_eq (waiting_key_cmp k y)) ks ≡ true → test k ≡ true) → test k ≡ true
    by true here any true inside h rest = subst (λ y. test y ≡ true) (sym (same_key k x here)) (and_parts (test x) (list_all test (filter in_range ks)) h).0
    by true here any false outside h rest = absurd (true≢false (sym within ∙ ap in_range (same_key k x here) ∙ outside))
    by false other any true inside h rest = rest (and_parts (test x) (list_all test (filter in_range ks)) h).1 any
    by false other any false outside h rest = rest h any

-- ---- a test of all that waits is a test of the keys in a range, where outside it nothing fails
pub all_in_range : (i : Index) (ws : List Waiting) → IsIndexOf i (delivery_at ws) → AreApart ws → (of_message : Waiting → Bool) (in_range of_key : Key → Bool) →
    ((w : Waiting) → of_message w ≡ (not (in_range (key_of_waiting w)) || of_key (key_of_waiting w))) → list_all of_message ws ≡ list_all of_key (filter in_range i.keys.keys)
all_in_range i ws kept apart of_message in_range of_key same = same_tests _ _ to back
  where
    found : (k : Key) → (o : Option Waiting) → waiting_at ws k.sender k.serial ≡ o → has_key k (option_map (λ (w : Waiting). w.delivery) o) ≡ true → (w : Waiting) × (waiting_at ws k.sender k.serial ≡ Some w) × (key_at k.sender k.serial w.delivery ≡ k)
    found k None is e = absurd (false≢true e)
    found k (Some w) is e = (w, is, same_key (key_at k.sender k.serial w.delivery) k e)

    to : list_all of_message ws ≡ true → list_all of_key (filter in_range i.keys.keys) ≡ true
    to all = keys_pass in_range of_key i.keys i.keys.keys (All-set_contains key_total i.keys) (λ k there within.
        let f = found k (waiting_at ws k.sender k.serial) refl (sym (kept.keys k) ∙ there) in
        let p = passes of_message ws k.sender k.serial f.0 all f.1 in
        let key : key_of_waiting f.0 ≡ k = ap (λ g. key_at g f.0.event.serial f.0.delivery) p.1 ∙ ap (λ m. key_at k.sender m f.0.delivery) p.2 ∙ f.2 in
        inside k within (sym (subst (λ x. of_message f.0 ≡ (not (in_range x) || of_key x)) key (same f.0)) ∙ p.0))
      where
        inside : (k : Key) → in_range k ≡ true → (not (in_range k) || of_key k) ≡ true → of_key k ≡ true
        inside k within e = ap (λ b. not b || of_key k) (sym within) ∙ e

    back : list_all of_key (filter in_range i.keys.keys) ≡ true → list_all of_message ws ≡ true
    back all = all_pass of_message ws apart (λ w is. same w ∙ by w is (in_range (key_of_waiting w)) refl)
      where
        among : (w : Waiting) → waiting_at ws w.event.sender w.event.serial ≡ Some w → sorted.contains waiting_key_cmp i.keys (key_of_waiting w) ≡ true
        among w is = kept.keys (key_of_waiting w) ∙ ap (λ o. has_key (key_of_waiting w) (option_map (λ (x : Waiting). x.delivery) o)) is ∙ ap is_eq (tied_itself key_total (key_of_waiting w))

        by : (w : Waiting) → waiting_at ws w.event.sender w.event.serial ≡ Some w → (b : Bool) → in_range (key_of_waiting w) ≡ b → (not b || of_key (key_of_waiting w)) ≡ true
        by w is true within = key_passes in_range of_key i.keys.keys (key_of_waiting w) all (among w is) within
        by w is false outside = refl
