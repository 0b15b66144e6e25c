-- The counts of one record more, and that none passes the number of records
use Rattle.std.proofs.Common.{◌≡◌, ℕ, ◌+◌, ◌≤◌, ◌<◌, Bool, true, false, cond, List, [], ◌∷◌, ◌++◌, length, take, get_or, fold, refl, sym, ap, ◌∙◌, arith, length-append, length-take}
use Rattle.std.proofs.lemmas.List.{take_more}
use Rattle.std.proofs.lemmas.List.Sums.{fold-append}
use Rattle.hla_machine.specs.declared.step.Record.{Record}
use Rattle.hla_monitor.specs.Counts.{count_after, executions_after, joined_after, callbacks_after, grants_after, status_of, status_after, is_creation, is_destruction, is_joining, is_resigning, is_tick, has_callback, has_grant, IsBelow}

pub status_more : (rs : List Record) (r : Record) → status_of (rs ++ r ∷ []) ≡ status_after (status_of rs) r
unfolding status_of
status_more rs r = λ i. record {
  steps = length-append rs (r ∷ []) i;
  executions = fold-append executions_after 0 rs (r ∷ []) i;
  joined = fold-append joined_after 0 rs (r ∷ []) i;
  callbacks = fold-append callbacks_after 0 rs (r ∷ []) i;
  grants = fold-append grants_after 0 rs (r ∷ []) i;
}

pub status_steps : (rs : List Record) → (status_of rs).steps ≡ length rs
unfolding status_of
status_steps rs = refl

count_rises : (n : ℕ) (up down : Bool) → count_after n up down ≤ n + 1
count_rises n true down = omega arith
count_rises n false true = omega arith
count_rises n false false = omega arith

fold_rises : (f : ℕ → Record → ℕ) → ((n : ℕ) (r : Record) → f n r ≤ n + 1) → (a : ℕ) (rs : List Record) → fold f a rs ≤ a + length rs
fold_rises f rises a [] = omega arith
fold_rises f rises a (r ∷ rs) = omega (arith, rises a r, fold_rises f rises (f a r) rs)

-- no count passes the number of records
pub status_below : (rs : List Record) (n : ℕ) → length rs < n → IsBelow n (status_of rs)
unfolding status_of
status_below rs n few = (
  few,
  omega (arith, fold_rises executions_after (λ k r. count_rises k (is_creation r.act r.outcome) (is_destruction r.act r.outcome)) 0 rs),
  omega (arith, fold_rises joined_after (λ k r. count_rises k (is_joining r.act r.outcome) (is_resigning r.act r.outcome)) 0 rs),
  omega (arith, fold_rises callbacks_after (λ k r. count_rises k (cond (is_tick r.act) (has_callback r.outcome) false) false) 0 rs),
  omega (arith, fold_rises grants_after (λ k r. count_rises k (cond (is_tick r.act) (has_grant r.outcome) false) false) 0 rs),
)

-- nor those of a beginning
pub begun_below : (rs : List Record) (i n : ℕ) → length rs < n → IsBelow n (status_of (take i rs))
begun_below rs i n few = status_below (take i rs) n (omega (arith, few, length-take i rs))

-- the counts of a beginning with the next record
pub begun_more : (rs : List Record) (i : ℕ) (r : Record) → i < length rs → r ≡ get_or rs i r → status_after (status_of (take i rs)) r ≡ status_of (take (i + 1) rs)
begun_more rs i r within is =
    let longer : take (i + 1) rs ≡ take i rs ++ r ∷ [] = take_more rs i r within ∙ ap (λ (x : Record). take i rs ++ x ∷ []) (sym is) in
    sym (status_more (take i rs) r) ∙ ap status_of (sym longer)
