-- The order of keys, and that of names
use Rattle.std.proofs.Common.{◌≡◌, ℕ, Bool, true, false, eqb, ◌&&◌, refl, sym, ap, ◌∙◌, arith, eqb-true}
use Rattle.std.proofs.lemmas.Bool.{and_parts}
use Rattle.std.proofs.lemmas.Bool.Decides.{nat_tests}
use Rattle.std.proofs.lemmas.Cmp.{nat_cmp_total, on_total, then_total}
use Rattle.std.proofs.Math.Path.{fun_ext}
use Rattle.std.specs.Cmp.{IsTotalOrder}
use Rattle.std.specs.declared.cmp.Ordering.{Ordering}
use Rattle.std.specs.declared.cmp.Ordering.TheVariants.{Less, Equal, Greater}
use Rattle.std.specs.Ordering.{nat_cmp, ordering_then, is_eq}
use Rattle.hla_callbacks.specs.declared.callback.Delivery.{Delivery}
use Rattle.hla_bags.specs.declared.index.Rank.{Rank}
use Rattle.hla_bags.specs.declared.index.Rank.TheVariants.{Receive, Demoted, TimeStamp}
use Rattle.hla_bags.specs.declared.index.Key.{Key}
use Rattle.hla_bags.specs.declared.index.Name.{Name}
use Rattle.hla_bags.specs.contracts.index.RankOrd.TheImpl as ranks
use Rattle.hla_bags.specs.contracts.index.KeyOrd.TheImpl as keys
use Rattle.hla_bags.specs.Indexes.{rank_no, key_at, waiting_key_cmp, waiting_name_cmp}

pub key_total : IsTotalOrder waiting_key_cmp
key_total =
    then_total (on_total (λ (k : Key). rank_no k.rank) nat_cmp_total)
    (then_total (on_total (λ (k : Key). k.stamp) nat_cmp_total) (then_total (on_total (λ (k : Key). k.sender) nat_cmp_total) (on_total (λ (k : Key). k.serial) nat_cmp_total)))

pub name_total : IsTotalOrder waiting_name_cmp
name_total = then_total (on_total (λ (n : Name). n.sender) nat_cmp_total) (on_total (λ (n : Name). n.serial) nat_cmp_total)

is_eq-ordering_then : (o p : Ordering) → is_eq (ordering_then o p) ≡ is_eq o && is_eq p
is_eq-ordering_then Less p = refl
is_eq-ordering_then Equal p = refl
is_eq-ordering_then Greater p = refl

is_eq-nat_cmp : (a b : ℕ) → is_eq (nat_cmp a b) ≡ eqb a b
is_eq-nat_cmp a b = grind (arith, nat_tests)

pub is_eq-waiting_name_cmp : (k q : Name) → is_eq (waiting_name_cmp k q) ≡ eqb k.sender q.sender && eqb k.serial q.serial
is_eq-waiting_name_cmp k q = is_eq-ordering_then (nat_cmp k.sender q.sender) (nat_cmp k.serial q.serial) ∙ rw (is_eq-nat_cmp k.sender q.sender, is_eq-nat_cmp k.serial q.serial) refl

pub is_eq-waiting_key_cmp : (k q : Key) → is_eq (waiting_key_cmp k q) ≡ eqb (rank_no k.rank) (rank_no q.rank) && (eqb k.stamp q.stamp && (eqb k.sender q.sender && eqb k.serial q.serial))
is_eq-waiting_key_cmp k q =
    is_eq-ordering_then (nat_cmp (rank_no k.rank) (rank_no q.rank)) (ordering_then (nat_cmp k.stamp q.stamp) (ordering_then (nat_cmp k.sender q.sender) (nat_cmp k.serial q.serial)))
    ∙ rw (is_eq-nat_cmp (rank_no k.rank) (rank_no q.rank), is_eq-ordering_then (nat_cmp k.stamp q.stamp) (ordering_then (nat_cmp k.sender q.sender) (nat_cmp k.serial q.serial)), is_eq-nat_cmp k.stamp q.stamp, is_eq-ordering_then (nat_cmp k.sender q.sender) (nat_cmp k.serial q.serial), is_eq-nat_cmp k.sender q.sender, is_eq-nat_cmp k.serial q.serial) refl

-- messages with other names have other keys
pub key_apart : (g m : ℕ) (d : Delivery) (k : Key) → (eqb g k.sender && eqb m k.serial) ≡ false → is_eq (waiting_key_cmp (key_at g m d) k) ≡ false
key_apart g m d k e = is_eq-waiting_key_cmp (key_at g m d) k ∙ rw e (by (eqb (rank_no (key_at g m d).rank) (rank_no k.rank)) (eqb (key_at g m d).stamp k.stamp))
  where
    by : (a b : Bool) → (a && (b && false)) ≡ false
    by true true = refl
    by true false = refl
    by false b = refl

same_rank : (a b : Rank) → rank_no a ≡ rank_no b → a ≡ b
same_rank Receive Receive e = refl
same_rank Demoted Demoted e = refl
same_rank TimeStamp TimeStamp e = refl
same_rank Receive Demoted e = absurd (omega (arith, e))
same_rank Receive TimeStamp e = absurd (omega (arith, e))
same_rank Demoted Receive e = absurd (omega (arith, e))
same_rank Demoted TimeStamp e = absurd (omega (arith, e))
same_rank TimeStamp Receive e = absurd (omega (arith, e))
same_rank TimeStamp Demoted e = absurd (omega (arith, e))

-- keys that compare as equal are the same
pub same_key : (k q : Key) → is_eq (waiting_key_cmp k q) ≡ true → k ≡ q
same_key k q e =
    let p = and_parts _ _ (sym (is_eq-waiting_key_cmp k q) ∙ e) in
    let r = and_parts _ _ p.1 in
    let s = and_parts _ _ r.1 in
    ap (λ x. record k { rank = x }) (same_rank k.rank q.rank (eqb-true _ _ p.0))
    ∙ ap (λ x. record q { stamp = x; sender = k.sender; serial = k.serial }) (eqb-true _ _ r.0)
    ∙ ap (λ x. record q { sender = x; serial = k.serial }) (eqb-true _ _ s.0)
    ∙ ap (λ x. record q { serial = x }) (eqb-true _ _ s.1)

-- ---- the orders of the program's keys are these
same_ranks : (a b : Rank) → ranks.cmp-value.it a b ≡ nat_cmp (rank_no a) (rank_no b)
same_ranks Receive Receive = refl
same_ranks Receive Demoted = refl
same_ranks Receive TimeStamp = refl
same_ranks Demoted Receive = refl
same_ranks Demoted Demoted = refl
same_ranks Demoted TimeStamp = refl
same_ranks TimeStamp Receive = refl
same_ranks TimeStamp Demoted = refl
same_ranks TimeStamp TimeStamp = refl

pub same_order : keys.cmp-value.it ≡ waiting_key_cmp
same_order = fun_ext (λ a. fun_ext (λ b. ap (λ o. ordering_then o (ordering_then (nat_cmp a.stamp b.stamp) (ordering_then (nat_cmp a.sender b.sender) (nat_cmp a.serial b.serial)))) (same_ranks a.rank b.rank)))
