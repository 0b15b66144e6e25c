-- What is read of a table of orders, after a change
use Rattle.std.proofs.Common.{◌≡◌, ◌≢◌, ℕ, ◌-◌, ◌<◌, ◌≤◌, ◌==◌, ◌||◌, cond, eqb, List, [], ◌∷◌, ◌++◌, length, set, Bool, true, false, Option, Some, None, refl, ap, ◌∙◌, arith, ⊎_elim, zero, suc, get_or}
use Rattle.std.specs.List.{list_any}
use Rattle.std.proofs.lemmas.Bool.{cases_eq, cases_Bool}
use Rattle.std.proofs.lemmas.Bool.Decides.{nat_tests}
use Rattle.std.proofs.lemmas.List.Folds.{list_any-append}
use Rattle.std.proofs.Math.Path.{fun_ext}
use Rattle.hla_base.specs.Tables.{upd}
use Rattle.hla_catalogue.specs.declared.declared.Order.{Order}
use Rattle.hla_catalogue.specs.Lookup.{contains_number}
use Rattle.hla_catalogue.proofs.ItemLemmas.{item_numbered-set_same, item_numbered-set_other}
use Rattle.hla_orders.specs.Orders.{order_at, orders_given}

-- an empty table gives no order
pub nothing_given : order_at [] ≡ (λ _. None)
nothing_given = fun_ext (λ n. none n)
  where
    none : (n : ℕ) → order_at [] n ≡ None
    none n = ⊎_elim
        (λ (y : (n == 0) ≡ true). rw y refl)
        (λ (y : (n == 0) ≡ false). rw y refl)
        (cases_Bool (n == 0))

-- a number that was given an order
pub order-set : (orders : List (Option Order)) (n : ℕ) (x : Option Order) → 0 < n → n ≤ length orders → order_at (set orders (n - 1) x) ≡ upd (order_at orders) n x
unfolding upd
order-set orders n x some within = fun_ext (λ l. ⊎_elim
    (λ (e : n ≡ l). let y : eqb n l ≡ true = grind (arith, nat_tests) in rw (y, ← e, item_numbered-set_same orders n x some within) refl)
    (λ (ne : n ≢ l). let y : eqb n l ≡ false = grind (arith, nat_tests) in rw (y, item_numbered-set_other orders n l x some ne) refl)
    (cases_eq n l))

-- one number more that is given the order
pub given_more : (orders : ℕ → Option Order) (numbers : List ℕ) (n : ℕ) (order : Order) → orders_given orders (numbers ++ n ∷ []) order ≡ upd (orders_given orders numbers order) n (Some order)
unfolding upd
given_more orders numbers n order = fun_ext (λ l. ap (λ (b : Bool). cond b (Some order) (orders l)) (list_any-append (λ k. k == l) numbers (n ∷ [])) ∙ ⊎_elim
    (λ (e : n ≡ l). let y : eqb n l ≡ true = grind (arith, nat_tests) in rw y (first (contains_number l numbers) (orders l)))
    (λ (ne : n ≢ l). let y : eqb n l ≡ false = grind (arith, nat_tests) in rw y (rest (contains_number l numbers) (orders l)))
    (cases_eq n l))
  where
    first : (b : Bool) (o : Option Order) → cond (b || (true || false)) (Some order) o ≡ Some order
    first true o = refl
    first false o = refl

    rest : (b : Bool) (o : Option Order) → cond (b || (false || false)) (Some order) o ≡ cond b (Some order) o
    rest true o = refl
    rest false o = refl

-- each number of a list is one of it
any_at : (p : ℕ → Bool) (ns : List ℕ) (i : ℕ) → i < length ns → p (get_or ns i 0) ≡ true → list_any p ns ≡ true
any_at p [] i below h = absurd (omega arith)
any_at p (n ∷ ns) zero below h = rw h refl
any_at p (n ∷ ns) (suc i) below h = or_second (p n) (list_any p ns) (any_at p ns i (omega arith) h)
  where
    or_second : (a b : Bool) → b ≡ true → a || b ≡ true
    or_second true b y = refl
    or_second false b y = y

pub contained : (ns : List ℕ) (i : ℕ) → i < length ns → contains_number (get_or ns i 0) ns ≡ true
contained ns i below = any_at (λ k. k == get_or ns i 0) ns i below (grind (arith, nat_tests))
