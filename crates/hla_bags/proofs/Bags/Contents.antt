-- What a bag has after a change
use Rattle.std.proofs.Common.{◌≡◌, ℕ, cond, eqb, ◌&&◌, not, Bool, true, false, List, [], ◌∷◌, ◌++◌, map, Option, Some, None, option_map, refl, sym, ap, ◌∙◌, arith, eqb-true}
use Rattle.std.specs.List.{filter, find}
use Rattle.std.proofs.lemmas.Bool.{and_parts}
use Rattle.std.proofs.lemmas.Bool.Decides.{nat_tests}
use Rattle.std.proofs.Math.Path.{fun_ext}
use Rattle.hla_base.specs.Tables.{upd2}
use Rattle.hla_base.specs.declared.number.EventHandle.{EventHandle}
use Rattle.hla_bags.specs.declared.bag.Waiting.{Waiting}
use Rattle.hla_bags.specs.Bags.{is_of, is_listed, waiting_at, demoted_waiting, with_listed_demoted, AreApart}

pub waiting_at-nil : waiting_at [] ≡ (λ _ _. None)
unfolding waiting_at
waiting_at-nil = refl

pub waiting_at-cons : (w : Waiting) (ws : List Waiting) (g m : ℕ) → waiting_at (w ∷ ws) g m ≡ cond (is_of g m w) (Some w) (waiting_at ws g m)
unfolding waiting_at
waiting_at-cons w ws g m = refl

pub waiting_at-find : (ws : List Waiting) (g m : ℕ) → waiting_at ws g m ≡ find (is_of g m) ws
unfolding waiting_at
waiting_at-find ws g m = refl

-- whose key it is
pub sender_and_serial : (w : Waiting) (g m : ℕ) → is_of g m w ≡ true → (w.event.sender ≡ g) × (w.event.serial ≡ m)
sender_and_serial w g m e = let p = and_parts _ _ e in (eqb-true _ _ p.0, eqb-true _ _ p.1)

same_tables : (t u : ℕ → ℕ → Option Waiting) → ((g m : ℕ) → t g m ≡ u g m) → t ≡ u
same_tables t u h = fun_ext (λ g. fun_ext (λ m. h g m))

-- ---- one more
-- which of two comes first does not matter, where they have not one key
choose : (a b : Bool) (x y : Option Waiting) (z : Option Waiting) → (a ≡ true → b ≡ true → ⊥) → cond a x (cond b y z) ≡ cond b y (cond a x z)
choose true true x y z h = absurd (h refl refl)
choose true false x y z h = refl
choose false b x y z h = refl

-- what a key tells of another message, if both have it
clash : (w x : Waiting) (g m : ℕ) → is_of g m x ≡ true → is_of g m w ≡ true → is_of w.event.sender w.event.serial x ≡ true
clash w x g m a b = grind (arith, nat_tests)

absent_head : (b : Bool) (x : Waiting) (o : Option Waiting) → cond b (Some x) o ≡ None → b ≡ true → ⊥
absent_head true x o e t = absurd (cc)
absent_head false x o e t = absurd (cc)

absent_tail : (b : Bool) (x : Waiting) (o : Option Waiting) → cond b (Some x) o ≡ None → o ≡ None
absent_tail true x o e = absurd (cc)
absent_tail false x o e = e

push_at : (ws : List Waiting) (w : Waiting) (g m : ℕ) → waiting_at ws w.event.sender w.event.serial ≡ None → waiting_at (ws ++ w ∷ []) g m ≡ cond (is_of g m w) (Some w) (waiting_at ws g m)
push_at [] w g m free = waiting_at-cons w [] g m
push_at (x ∷ ws) w g m free =
    let head : cond (is_of w.event.sender w.event.serial x) (Some x) (waiting_at ws w.event.sender w.event.serial) ≡ None = sym (waiting_at-cons x ws w.event.sender w.event.serial) ∙ free in
    let rest = push_at ws w g m (absent_tail _ x _ head) in
    rw (waiting_at-cons x (ws ++ w ∷ []) g m, waiting_at-cons x ws g m, rest)
    (choose (is_of g m x) (is_of g m w) (Some x) (Some w) (waiting_at ws g m) (λ a b. absent_head _ x _ head (clash w x g m a b)))

pub waiting_at-push : (ws : List Waiting) (w : Waiting) → waiting_at ws w.event.sender w.event.serial ≡ None → waiting_at (ws ++ w ∷ []) ≡ upd2 (waiting_at ws) w.event.sender w.event.serial (Some w)
unfolding upd2
waiting_at-push ws w free = same_tables _ _ (λ g m. push_at ws w g m free)

pub apart-push : (ws : List Waiting) (w : Waiting) → waiting_at ws w.event.sender w.event.serial ≡ None → AreApart ws → AreApart (ws ++ w ∷ [])
apart-push [] w free apart = (ap (λ t. t w.event.sender w.event.serial) waiting_at-nil, tt)
apart-push (x ∷ ws) w free apart =
    let head : cond (is_of w.event.sender w.event.serial x) (Some x) (waiting_at ws w.event.sender w.event.serial) ≡ None = sym (waiting_at-cons x ws w.event.sender w.event.serial) ∙ free in
    let tail = absent_tail _ x _ head in
    (push_at ws w x.event.sender x.event.serial tail ∙ none_of x w (is_of x.event.sender x.event.serial w) refl (absent_head _ x _ head) ∙ apart.0, apart-push ws w tail apart.1)
  where
    none_of : (x w : Waiting) (b : Bool) → is_of x.event.sender x.event.serial w ≡ b → (is_of w.event.sender w.event.serial x ≡ true → ⊥) → {o : Option Waiting} → cond b (Some w) o ≡ o
    none_of x w true e h = absurd (h (grind (arith, nat_tests)))
    none_of x w false e h = refl

-- ---- one less
abbrev pub stays : ℕ → ℕ → Waiting → Bool
stays g m w = not (is_of g m w)

less : (x : Waiting) (g m h n : ℕ) (o : Option Waiting) → is_of g m x ≡ true → cond (eqb g h && eqb m n) None o ≡ cond (eqb g h && eqb m n) None (cond (is_of h n x) (Some x) o)
less x g m h n o e = by (eqb g h && eqb m n) (is_of h n x) refl refl
  where
    by : (a b : Bool) → (eqb g h && eqb m n) ≡ a → is_of h n x ≡ b → cond a None o ≡ cond a None (cond b (Some x) o)
    by true b p q = refl
    by false false p q = refl
    by false true p q = absurd (grind (arith, nat_tests))

kept : (x : Waiting) (g m h n : ℕ) (o : Option Waiting) → is_of g m x ≡ false → cond (is_of h n x) (Some x) (cond (eqb g h && eqb m n) None o) ≡ cond (eqb g h && eqb m n) None (cond (is_of h n x) (Some x) o)
kept x g m h n o e = choose (is_of h n x) (eqb g h && eqb m n) (Some x) None o (λ a b. grind (arith, nat_tests))

remove_at : (ws : List Waiting) (g m h n : ℕ) → waiting_at (filter (stays g m) ws) h n ≡ cond (eqb g h && eqb m n) None (waiting_at ws h n)
remove_at [] g m h n = ap (λ t. t h n) waiting_at-nil ∙ none_both (eqb g h && eqb m n) ∙ ap (λ t. cond (eqb g h && eqb m n) None (t h n)) (sym waiting_at-nil)
  where
    none_both : (b : Bool) → None ≡ cond {A = Option Waiting} b None None
    none_both true = refl
    none_both false = refl
remove_at (x ∷ ws) g m h n = by (is_of g m x) refl (remove_at ws g m h n)
  where
    by : (b : Bool) → is_of g m x ≡ b → waiting_at (filter (stays g m) ws) h n ≡ cond (eqb g h && eqb m n) None (waiting_at ws h n) → waiting_at (cond (not b) (x ∷ filter (stays g m) ws) (filter (stays g m) ws)) h n ≡ cond (eqb g h && eqb m n) None (waiting_at (x ∷ ws) h n)
    by true e rest = rest ∙ less x g m h n (waiting_at ws h n) e ∙ ap (cond (eqb g h && eqb m n) None) (sym (waiting_at-cons x ws h n))
    by false e rest = waiting_at-cons x (filter (stays g m) ws) h n ∙ ap (cond (is_of h n x) (Some x)) rest ∙ kept x g m h n (waiting_at ws h n) e ∙ ap (cond (eqb g h && eqb m n) None) (sym (waiting_at-cons x ws h n))

pub waiting_at-remove : (ws : List Waiting) (g m : ℕ) → waiting_at (filter (stays g m) ws) ≡ upd2 (waiting_at ws) g m None
unfolding upd2
waiting_at-remove ws g m = same_tables _ _ (λ h n. remove_at ws g m h n)

pub apart-remove : (ws : List Waiting) (g m : ℕ) → AreApart ws → AreApart (filter (stays g m) ws)
apart-remove [] g m apart = tt
apart-remove (x ∷ ws) g m apart = by (is_of g m x) (apart-remove ws g m apart.1)
  where
    none_both : (b : Bool) (o : Option Waiting) → o ≡ None → cond b None o ≡ None
    none_both true o e = refl
    none_both false o e = e

    by : (b : Bool) → AreApart (filter (stays g m) ws) → AreApart (cond (not b) (x ∷ filter (stays g m) ws) (filter (stays g m) ws))
    by true rest = rest
    by false rest = (remove_at ws g m x.event.sender x.event.serial ∙ none_both (eqb g x.event.sender && eqb m x.event.serial) _ apart.0, rest)

-- ---- demoted
abbrev pub demoted_if : List EventHandle → Waiting → Waiting
demoted_if events w = cond (is_listed events w.event.sender w.event.serial) (demoted_waiting w) w

demote_at : (events : List EventHandle) (ws : List Waiting) (g m : ℕ) → waiting_at (map (demoted_if events) ws) g m ≡ cond (is_listed events g m) (option_map demoted_waiting (waiting_at ws g m)) (waiting_at ws g m)
demote_at events [] g m = ap (λ t. t g m) waiting_at-nil ∙ none_both (is_listed events g m) ∙ ap (λ t. cond (is_listed events g m) (option_map demoted_waiting (t g m)) (t g m)) (sym waiting_at-nil)
  where
    none_both : (b : Bool) → None ≡ cond {A = Option Waiting} b None None
    none_both true = refl
    none_both false = refl
demote_at events (x ∷ ws) g m =
    waiting_at-cons (demoted_if events x) (map (demoted_if events) ws) g m
    ∙ by (is_listed events x.event.sender x.event.serial) (is_of g m x) refl refl (demote_at events ws g m)
    ∙ ap (λ o. cond (is_listed events g m) (option_map demoted_waiting o) o) (sym (waiting_at-cons x ws g m))
  where
    by : (l b : Bool) → is_listed events x.event.sender x.event.serial ≡ l → is_of g m x ≡ b →
        waiting_at (map (demoted_if events) ws) g m ≡ cond (is_listed events g m) (option_map demoted_waiting (waiting_at ws g m)) (waiting_at ws g m) →
        cond (is_of g m (cond l (demoted_waiting x) x)) (Some (cond l (demoted_waiting x) x)) (waiting_at (map (demoted_if events) ws) g m)
        ≡ cond (is_listed events g m) (option_map demoted_waiting (cond b (Some x) (waiting_at ws g m))) (cond b (Some x) (waiting_at ws g m))
    by true true e k rest = let p = sender_and_serial x g m k in rw (k, ← p.0, ← p.1, e) refl
    by false true e k rest = let p = sender_and_serial x g m k in rw (k, ← p.0, ← p.1, e) refl
    by true false e k rest = rw k rest
    by false false e k rest = rw k rest

pub waiting_at-demote : (events : List EventHandle) (ws : List Waiting) → waiting_at (map (demoted_if events) ws) ≡ with_listed_demoted events (waiting_at ws)
waiting_at-demote events ws = same_tables _ _ (λ g m. demote_at events ws g m)

pub apart-demote : (events : List EventHandle) (ws : List Waiting) → AreApart ws → AreApart (map (demoted_if events) ws)
apart-demote events [] apart = tt
apart-demote events (x ∷ ws) apart = (by (is_listed events x.event.sender x.event.serial), apart-demote events ws apart.1)
  where
    none_both : (b : Bool) (o : Option Waiting) → o ≡ None → cond b (option_map demoted_waiting o) o ≡ None
    none_both true o e = rw e refl
    none_both false o e = e

    by : (l : Bool) → waiting_at (map (demoted_if events) ws) (cond l (demoted_waiting x) x).event.sender (cond l (demoted_waiting x) x).event.serial ≡ None
    by true = demote_at events ws x.event.sender x.event.serial ∙ none_both _ _ apart.0
    by false = demote_at events ws x.event.sender x.event.serial ∙ none_both _ _ apart.0
