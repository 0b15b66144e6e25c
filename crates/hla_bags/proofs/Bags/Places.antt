-- Where a message stands, and what a bag has after a change at its place
use Rattle.std.proofs.Common.{◌≡◌, ℕ, zero, suc, ◌<◌, cond, eqb, ltb, ◌&&◌, ◌||◌, not, Bool, true, false, List, [], ◌∷◌, ◌++◌, length, get_or, set, map, take, Option, Some, None, option_map, refl, sym, ap, ◌∙◌, subst, arith}
use mathlib.Core.Bool.{false≢true, true≢false}
use Rattle.std.specs.List.{filter, position, position_or_len, remove, slice_get}
use Rattle.std.specs.Option.{option_map_or}
use Rattle.std.proofs.lemmas.Bool.Decides.{nat_tests}
use Rattle.std.proofs.lemmas.List.Folds.{find_at}
use Rattle.std.proofs.lemmas.List.Quantifiers.{position-Some}
use Rattle.std.proofs.lemmas.List.Sums.{position_or_len_is}
use Rattle.std.proofs.lemmas.Option.{slice_get-get_or}
use Rattle.std.proofs.Math.Path.{fun_ext}
use Rattle.std.proofs.lemmas.List.{set-get_or}
use Rattle.hla_base.specs.Tables.{upd2}
use Rattle.hla_base.specs.declared.number.EventHandle.{EventHandle}
use Rattle.hla_callbacks.specs.declared.callback.Delivery.{Delivery}
use Rattle.hla_callbacks.specs.declared.callback.Delivery.TheVariants as delivery
use Rattle.hla_bags.specs.declared.bag.Waiting.{Waiting}
use Rattle.hla_bags.specs.Bags.{is_of, is_listed, waiting_at, demoted_delivery, demoted_waiting, with_listed_demoted, AreApart, ordered_stamp}
use Rattle.hla_bags.specs.Indexes.{delivery_at}
use Rattle.hla_bags.proofs.Bags.Contents.{waiting_at-nil, waiting_at-cons, waiting_at-find, waiting_at-push, waiting_at-remove, waiting_at-demote, apart-remove, apart-demote, sender_and_serial, stays, demoted_if}

-- ---- where a message stands
-- where none has the name, each has another
others_if_none : (b : Bool) (x : Waiting) (o : Option Waiting) → cond b (Some x) o ≡ None → (b ≡ false) × (o ≡ None)
others_if_none true x o e = absurd (cc)
others_if_none false x o e = (refl, e)

none_at : (ws : List Waiting) (g m : ℕ) → waiting_at ws g m ≡ None → (i : ℕ) (d : Waiting) → i < length ws → is_of g m (get_or ws i d) ≡ false
none_at [] g m none i d l = absurd (omega arith)
none_at (x ∷ ws) g m none zero d l = (others_if_none (is_of g m x) x (waiting_at ws g m) (sym (waiting_at-cons x ws g m) ∙ none)).0
none_at (x ∷ ws) g m none (suc i) d l = none_at ws g m (others_if_none (is_of g m x) x (waiting_at ws g m) (sym (waiting_at-cons x ws g m) ∙ none)).1 i d (omega arith)

-- the first has another name than one that stands behind it
head_apart : (x : Waiting) (ws : List Waiting) (g m : ℕ) → waiting_at ws x.event.sender x.event.serial ≡ None → (i : ℕ) (d : Waiting) → i < length ws → is_of g m (get_or ws i d) ≡ true → is_of g m x ≡ false
head_apart x ws g m free i d l there = by (is_of g m x) refl
  where
    by : (b : Bool) → is_of g m x ≡ b → b ≡ false
    by true e = let p = sender_and_serial x g m e in absurd (true≢false (sym there ∙ none_at ws g m (ap (λ h. waiting_at ws h m) (sym p.0) ∙ ap (waiting_at ws x.event.sender) (sym p.1) ∙ free) i d l))
    by false e = refl

apart_before : (ws : List Waiting) (g m : ℕ) → AreApart ws → (i : ℕ) (d : Waiting) → i < length ws → is_of g m (get_or ws i d) ≡ true → (k : ℕ) → k < i → is_of g m (get_or ws k d) ≡ false
apart_before [] g m apart i d l there k less = absurd (omega arith)
apart_before (x ∷ ws) g m apart zero d l there k less = absurd (omega arith)
apart_before (x ∷ ws) g m apart (suc i) d l there zero less = head_apart x ws g m apart.0 i d (omega arith) there
apart_before (x ∷ ws) g m apart (suc i) d l there (suc k) less = apart_before ws g m apart.1 i d (omega arith) there k (omega arith)

-- a message with the name stands at its only place
pub stands_there : (ws : List Waiting) (g m : ℕ) → AreApart ws → (i : ℕ) → option_map_or (is_of g m) (slice_get ws i) false ≡ true → position (is_of g m) ws ≡ Some i
stands_there ws g m apart i there = by (slice_get ws i) refl there
  where
    at : (x : Waiting) → (i < length ws) × (is_of g m (get_or ws i x) ≡ true) → position (is_of g m) ws ≡ Some i
    at x p =
        let is : position_or_len (is_of g m) ws ≡ i = position_or_len_is (is_of g m) ws i x (omega (arith, p.0)) (apart_before ws g m apart i x p.0 p.1) (λ _. p.1) in
        let low : ltb i (length ws) ≡ true = (let l = p.0 in grind (arith, nat_tests)) in
        rw (is, low) refl

    by : (o : Option Waiting) → slice_get ws i ≡ o → option_map_or (is_of g m) o false ≡ true → position (is_of g m) ws ≡ Some i
    by None e h = absurd (false≢true h)
    by (Some x) e h = at x (slice_get_inside ws i x e h)
      where
        slice_get_inside : (ws : List Waiting) (i : ℕ) (x : Waiting) → slice_get ws i ≡ Some x → is_of g m x ≡ true → (i < length ws) × (is_of g m (get_or ws i x) ≡ true)
        slice_get_inside [] i x e h = absurd (let q : slice_get {X = Waiting} [] i ≡ Some x = e in cc)
        slice_get_inside (y ∷ ys) zero x e h = (omega arith, (let same : y ≡ x = cc in subst (λ w. is_of g m w ≡ true) (sym same) h))
        slice_get_inside (y ∷ ys) (suc i) x e h = let p = slice_get_inside ys i x e h in (omega (arith, p.0), p.1)

-- what a search by the name says
pub found_at : (ws : List Waiting) (g m i : ℕ) (d : Waiting) → Some i ≡ position (is_of g m) ws → (i < length ws) × (is_of g m (get_or ws i d) ≡ true)
found_at ws g m i d is = let p = position-Some (is_of g m) ws i d (sym is) in (p.0, p.1)

pub found_inside : (ws : List Waiting) (g m i : ℕ) → Some i ≡ position (is_of g m) ws → i < length ws
found_inside [] g m i is = absurd (let none : None ≡ position (is_of g m) [] = refl in let e = none ∙ sym is in cc)
found_inside (x ∷ ws) g m i is = (found_at (x ∷ ws) g m i x is).0

pub found_waiting : (ws : List Waiting) (g m i : ℕ) → Some i ≡ position (is_of g m) ws → waiting_at ws g m ≡ slice_get ws i
found_waiting ws g m i is = waiting_at-find ws g m ∙ find_at (is_of g m) ws ∙ ap (slice_get ws) (by (ltb (position_or_len (is_of g m) ws) (length ws)) is)
  where
    by : (b : Bool) → Some i ≡ cond b (Some (position_or_len (is_of g m) ws)) None → position_or_len (is_of g m) ws ≡ i
    by true e = cc
    by false e = absurd (cc)

pub found_none : (ws : List Waiting) (g m : ℕ) → None ≡ position (is_of g m) ws → waiting_at ws g m ≡ None
found_none ws g m is = waiting_at-find ws g m ∙ find_at (is_of g m) ws ∙ past ws (position_or_len (is_of g m) ws) (by (ltb (position_or_len (is_of g m) ws) (length ws)) refl is)
  where
    by : (b : Bool) → ltb (position_or_len (is_of g m) ws) (length ws) ≡ b → None ≡ cond {A = Option ℕ} b (Some (position_or_len (is_of g m) ws)) None → ltb (position_or_len (is_of g m) ws) (length ws) ≡ false
    by true e n = absurd (cc)
    by false e n = e

    past : (xs : List Waiting) (i : ℕ) → ltb i (length xs) ≡ false → slice_get xs i ≡ None
    past [] i e = refl
    past (x ∷ xs) zero e = absurd (true≢false (let t : ltb 0 (length (x ∷ xs)) ≡ true = grind (arith, nat_tests) in sym t ∙ e))
    past (x ∷ xs) (suc i) e = past xs i (grind (arith, nat_tests))

pub none_found : (ws : List Waiting) (g m : ℕ) → waiting_at ws g m ≡ None → position (is_of g m) ws ≡ None
none_found [] g m none = refl
none_found (x ∷ ws) g m none = by (position (is_of g m) (x ∷ ws)) refl
  where
    by : (o : Option ℕ) → position (is_of g m) (x ∷ ws) ≡ o → o ≡ None
    by None e = refl
    by (Some i) e = absurd (let p = found_at (x ∷ ws) g m i x (sym e) in true≢false (sym p.1 ∙ none_at (x ∷ ws) g m none i x p.0))

pub undelivered : (ws : List Waiting) (g m : ℕ) → delivery_at ws g m ≡ None → waiting_at ws g m ≡ None
undelivered ws g m none = by (waiting_at ws g m) none
  where
    by : (o : Option Waiting) → option_map (λ (w : Waiting). w.delivery) o ≡ None → o ≡ None
    by None e = refl
    by (Some w) e = absurd (cc)

-- the message at its place, and how it is to be given
pub there_at : (ws : List Waiting) (g m i : ℕ) (w : Waiting) → Some i ≡ position (is_of g m) ws → w ≡ get_or ws i w → waiting_at ws g m ≡ Some w
there_at ws g m i w is read = found_waiting ws g m i is ∙ slice_get-get_or ws i w (found_at ws g m i w is).0 ∙ ap Some (sym read)

pub delivered_at : (ws : List Waiting) (g m i : ℕ) (w : Waiting) → Some i ≡ position (is_of g m) ws → w ≡ get_or ws i w → delivery_at ws g m ≡ Some w.delivery
delivered_at ws g m i w is read = ap (option_map (λ (x : Waiting). x.delivery)) (there_at ws g m i w is read)

-- ---- one less
unfiltered : (ws : List Waiting) (g m : ℕ) → waiting_at ws g m ≡ None → filter (stays g m) ws ≡ ws
unfiltered [] g m none = refl
unfiltered (x ∷ ws) g m none =
    let p = others_if_none (is_of g m x) x (waiting_at ws g m) (sym (waiting_at-cons x ws g m) ∙ none) in
    ap (λ b. cond (not b) (x ∷ filter (stays g m) ws) (filter (stays g m) ws)) p.0 ∙ ap (λ vs. x ∷ vs) (unfiltered ws g m p.1)

filtered : (ws : List Waiting) (g m : ℕ) → AreApart ws → (i : ℕ) (d : Waiting) → i < length ws → is_of g m (get_or ws i d) ≡ true → remove ws i ≡ filter (stays g m) ws
filtered [] g m apart i d l there = absurd (omega arith)
filtered (x ∷ ws) g m apart zero d l there =
    let p = sender_and_serial x g m there in
    sym (ap (λ b. cond (not b) (x ∷ filter (stays g m) ws) (filter (stays g m) ws)) there ∙ unfiltered ws g m (ap (λ h. waiting_at ws h m) (sym p.0) ∙ ap (waiting_at ws x.event.sender) (sym p.1) ∙ apart.0))
filtered (x ∷ ws) g m apart (suc i) d l there =
    let other = head_apart x ws g m apart.0 i d (omega arith) there in
    ap (λ vs. x ∷ vs) (filtered ws g m apart.1 i d (omega arith) there) ∙ sym (ap (λ b. cond (not b) (x ∷ filter (stays g m) ws) (filter (stays g m) ws)) other)

-- what holds after the message at its place was taken out
pub record IsWithout (g m : ℕ) (old new : List Waiting) : Type 0 where
  pub table : waiting_at new ≡ upd2 (waiting_at old) g m None
  pub apart : AreApart new

apart_without : (ws : List Waiting) (g m i : ℕ) (d : Waiting) → AreApart ws → Some i ≡ position (is_of g m) ws → (vs : List Waiting) → vs ≡ remove ws i → IsWithout g m ws vs
apart_without ws g m i d apart is vs now =
    let p = found_at ws g m i d is in
    let same : vs ≡ filter (stays g m) ws = now ∙ filtered ws g m apart i d p.0 p.1 in
    record {
      table = ap waiting_at same ∙ waiting_at-remove ws g m;
      apart = subst AreApart (sym same) (apart-remove ws g m apart);
    }

pub removed_there : (ws : List Waiting) (g m i : ℕ) → AreApart ws → Some i ≡ position (is_of g m) ws → (vs : List Waiting) → vs ≡ remove ws i → IsWithout g m ws vs
removed_there [] g m i apart is vs now = absurd (let none : None ≡ position (is_of g m) [] = refl in let e = none ∙ sym is in cc)
removed_there (x ∷ ws) g m i apart is vs now = apart_without (x ∷ ws) g m i x apart is vs now

pub unwritten : (t : ℕ → ℕ → Option Waiting) (g m : ℕ) → t g m ≡ None → t ≡ upd2 t g m None
unfolding upd2
unwritten t g m none = fun_ext (λ h. fun_ext (λ n. by h n (eqb g h && eqb m n) refl))
  where
    by : (h n : ℕ) (b : Bool) → (eqb g h && eqb m n) ≡ b → t h n ≡ cond b None (t h n)
    by h n true e = let a : g ≡ h = grind (arith, nat_tests) in let b : m ≡ n = grind (arith, nat_tests) in ap (λ k. t k n) (sym a) ∙ ap (t g) (sym b) ∙ none
    by h n false e = refl

-- ---- one that is demoted
listed_one : (e : EventHandle) (w : Waiting) → is_listed (e ∷ []) w.event.sender w.event.serial ≡ is_of e.sender e.serial w
listed_one e w = by (is_of e.sender e.serial w)
  where
    by : (b : Bool) → (b || false) ≡ b
    by true = refl
    by false = refl

undemoted : (e : EventHandle) (ws : List Waiting) → waiting_at ws e.sender e.serial ≡ None → map (demoted_if (e ∷ [])) ws ≡ ws
undemoted e [] none = refl
undemoted e (x ∷ ws) none =
    let p = others_if_none (is_of e.sender e.serial x) x (waiting_at ws e.sender e.serial) (sym (waiting_at-cons x ws e.sender e.serial) ∙ none) in
    ap (λ b. cond b (demoted_waiting x) x ∷ map (demoted_if (e ∷ [])) ws) (listed_one e x ∙ p.0) ∙ ap (λ vs. x ∷ vs) (undemoted e ws p.1)

demoted_there : (e : EventHandle) (ws : List Waiting) → AreApart ws → (i : ℕ) (d : Waiting) → i < length ws → is_of e.sender e.serial (get_or ws i d) ≡ true → set ws i (demoted_waiting (get_or ws i d)) ≡ map (demoted_if (e ∷ [])) ws
demoted_there e [] apart i d l there = absurd (omega arith)
demoted_there e (x ∷ ws) apart zero d l there =
    let p = sender_and_serial x e.sender e.serial there in
    sym (ap (λ b. cond b (demoted_waiting x) x ∷ map (demoted_if (e ∷ [])) ws) (listed_one e x ∙ there)
    ∙ ap (λ vs. demoted_waiting x ∷ vs) (undemoted e ws (ap (λ h. waiting_at ws h e.serial) (sym p.0) ∙ ap (waiting_at ws x.event.sender) (sym p.1) ∙ apart.0)))
demoted_there e (x ∷ ws) apart (suc i) d l there =
    let other = head_apart x ws e.sender e.serial apart.0 i d (omega arith) there in
    ap (λ vs. x ∷ vs) (demoted_there e ws apart.1 i d (omega arith) there) ∙ sym (ap (λ b. cond b (demoted_waiting x) x ∷ map (demoted_if (e ∷ [])) ws) (listed_one e x ∙ other))

-- what holds after the message at its place was demoted
pub record IsWithDemoted (e : EventHandle) (old new : List Waiting) : Type 0 where
  pub table : waiting_at new ≡ with_listed_demoted (e ∷ []) (waiting_at old)
  pub apart : AreApart new

pub demoted_at : (e : EventHandle) (ws : List Waiting) (i : ℕ) (d : Waiting) → AreApart ws → Some i ≡ position (is_of e.sender e.serial) ws → (vs : List Waiting) → vs ≡ set ws i (demoted_waiting (get_or ws i d)) → IsWithDemoted e ws vs
demoted_at e ws i d apart is vs now =
    let p = found_at ws e.sender e.serial i d is in
    let same : vs ≡ map (demoted_if (e ∷ [])) ws = now ∙ demoted_there e ws apart i d p.0 p.1 in
    record {
      table = ap waiting_at same ∙ waiting_at-demote (e ∷ []) ws;
      apart = subst AreApart (sym same) (apart-demote (e ∷ []) ws apart);
    }

pub none_demoted_one : (e : EventHandle) (ws : List Waiting) → waiting_at ws e.sender e.serial ≡ None → waiting_at ws ≡ with_listed_demoted (e ∷ []) (waiting_at ws)
none_demoted_one e ws none = sym (sym (waiting_at-demote (e ∷ []) ws) ∙ ap waiting_at (undemoted e ws none))

-- what does not go in time-stamp order stays as it is
unmoved_delivery : (d : Delivery) → ordered_stamp d ≡ None → demoted_delivery d ≡ d
unmoved_delivery delivery.Receive none = refl
unmoved_delivery (delivery.Demoted stamp) none = refl
unmoved_delivery (delivery.TimeStamp stamp) none = absurd (cc)

pub unmoved : (e : EventHandle) (ws : List Waiting) (i : ℕ) (w : Waiting) → AreApart ws → Some i ≡ position (is_of e.sender e.serial) ws → w ≡ get_or ws i w → ordered_stamp w.delivery ≡ None →
    waiting_at ws ≡ with_listed_demoted (e ∷ []) (waiting_at ws)
unmoved e ws i w apart is read none =
    let same : demoted_waiting w ≡ w = ap (λ (d : Delivery). record w { delivery = d }) (unmoved_delivery w.delivery none) in
    let here : ws ≡ set ws i (demoted_waiting (get_or ws i w)) = sym (ap (λ (x : Waiting). set ws i (demoted_waiting x)) (sym read) ∙ ap (set ws i) (same ∙ read) ∙ set-get_or ws i w) in
    let now = demoted_at e ws i w apart is ws here in
    now.table

-- ---- how each is to be given
pub delivered : (old new : List Waiting) (g m : ℕ) (o : Option Waiting) → waiting_at new ≡ upd2 (waiting_at old) g m o → delivery_at new ≡ upd2 (delivery_at old) g m (option_map (λ (w : Waiting). w.delivery) o)
unfolding upd2
delivered old new g m o is = fun_ext (λ h. fun_ext (λ n. ap (λ (t : ℕ → ℕ → Option Waiting). option_map (λ (w : Waiting). w.delivery) (t h n)) is ∙ by h n (eqb g h && eqb m n)))
  where
    by : (h n : ℕ) (b : Bool) → option_map (λ (w : Waiting). w.delivery) (cond b o (waiting_at old h n)) ≡ cond b (option_map (λ (w : Waiting). w.delivery) o) (delivery_at old h n)
    by h n true = refl
    by h n false = refl

pub delivered_demoted : (e : EventHandle) (old new : List Waiting) (d : Delivery) → delivery_at old e.sender e.serial ≡ Some d → waiting_at new ≡ with_listed_demoted (e ∷ []) (waiting_at old) → delivery_at new ≡ upd2 (delivery_at old) e.sender e.serial (Some (demoted_delivery d))
unfolding upd2
delivered_demoted e old new d was is = fun_ext (λ h. fun_ext (λ n. ap (λ (t : ℕ → ℕ → Option Waiting). option_map (λ (w : Waiting). w.delivery) (t h n)) is ∙ by h n (eqb h e.sender && eqb n e.serial) refl))
  where
    given : (o : Option Waiting) → option_map (λ (w : Waiting). w.delivery) o ≡ Some d → option_map (λ (w : Waiting). w.delivery) (option_map demoted_waiting o) ≡ Some (demoted_delivery d)
    given None is = absurd (cc)
    given (Some w) is = ap (λ x. Some (demoted_delivery x)) (let same : w.delivery ≡ d = cc in same)

    by : (h n : ℕ) (b : Bool) → (eqb h e.sender && eqb n e.serial) ≡ b →
        option_map (λ (w : Waiting). w.delivery) (cond (b || false) (option_map demoted_waiting (waiting_at old h n)) (waiting_at old h n)) ≡ cond (eqb e.sender h && eqb e.serial n) (Some (demoted_delivery d)) (delivery_at old h n)
    by h n true is =
        let a : h ≡ e.sender = grind (arith, nat_tests) in
        let b : n ≡ e.serial = grind (arith, nat_tests) in
        let turned : (eqb e.sender h && eqb e.serial n) ≡ true = grind (arith, nat_tests) in
        rw (turned) (given (waiting_at old h n) (ap (λ k. delivery_at old k n) a ∙ ap (delivery_at old e.sender) b ∙ was))
    by h n false is =
        let turned : (eqb e.sender h && eqb e.serial n) ≡ false = grind (arith, nat_tests) in
        rw turned refl

-- ---- one more
pub free_before : (ws : List Waiting) → AreApart ws → (i : ℕ) (d : Waiting) → i < length ws → waiting_at (take i ws) (get_or ws i d).event.sender (get_or ws i d).event.serial ≡ None
free_before [] apart i d l = absurd (omega arith)
free_before (x ∷ ws) apart zero d l = ap (λ t. t x.event.sender x.event.serial) waiting_at-nil
free_before (x ∷ ws) apart (suc i) d l =
    let w = get_or ws i d in
    let own : is_of w.event.sender w.event.serial w ≡ true = grind (arith, nat_tests) in
    let other = head_apart x ws w.event.sender w.event.serial apart.0 i d (omega arith) own in
    waiting_at-cons x (take i ws) w.event.sender w.event.serial ∙ ap (λ b. cond b (Some x) (waiting_at (take i ws) w.event.sender w.event.serial)) other ∙ free_before ws apart.1 i d (omega arith)

pub delivered_nil : delivery_at [] ≡ (λ _ _. None)
delivered_nil = ap (λ (t : ℕ → ℕ → Option Waiting). λ g m. option_map (λ (w : Waiting). w.delivery) (t g m)) waiting_at-nil

pub delivered_push : (ws : List Waiting) (w : Waiting) → waiting_at ws w.event.sender w.event.serial ≡ None → delivery_at (ws ++ w ∷ []) ≡ upd2 (delivery_at ws) w.event.sender w.event.serial (Some w.delivery)
delivered_push ws w free = delivered ws (ws ++ w ∷ []) w.event.sender w.event.serial (Some w) (waiting_at-push ws w free)

pub undelivered_back : (ws : List Waiting) (g m : ℕ) → waiting_at ws g m ≡ None → delivery_at ws g m ≡ None
undelivered_back ws g m none = ap (option_map (λ (w : Waiting). w.delivery)) none
