-- The more is asked for, the more is due before it
use Rattle.std.proofs.Common.{◌≡◌, ℕ, zero, suc, ◌≤◌, cond, leb, Bool, true, false, refl, le_trans, ⊎_elim, arith, List, [], ◌∷◌, Option, Some, None}
use Rattle.std.proofs.lemmas.Bool.{and_parts, and_from, cases_Bool, leb-true}
use Rattle.hla_base.specs.declared.content.Event.{Event}
use Rattle.hla_base.specs.declared.row.AdvanceRequest.{AdvanceRequest}
use Rattle.hla_base.specs.declared.row.TimeRow.{TimeRow}
use Rattle.hla_base.specs.Tables.{one_if}
use Rattle.hla_base.specs.Rows.{is_flush, is_constrained}
use Rattle.hla_null_message.specs.declared.message.Message.{Message}
use Rattle.hla_null_message.specs.declared.message.Message.TheVariants as message
use Rattle.hla_component_rules.specs.Arriving.{is_kept_in_order}
use Rattle.hla_components.specs.Components.{Components}
use Rattle.hla_progress.specs.AtOnce.{is_ro_due, is_tso_asked, is_tso_due, due_of, due_on_wire, due_in_order, due_up_to, total}
use Rattle.hla_progress.proofs.Waiting.Picks.{le_leb}

counts_le : (b c : Bool) → (b ≡ true → c ≡ true) → one_if b ≤ one_if c
counts_le false c h = omega arith
counts_le true c h = rw (h refl) (omega arith)

module _ (r : TimeRow) (t a : ℕ) (l : t ≤ a) where
  asked_more : (o : Option AdvanceRequest) (e : Event) → is_tso_asked o t e ≡ true → is_tso_asked o a e ≡ true
  asked_more None e y = y
  asked_more (Some q) e y = ⊎_elim
      (λ (f : is_flush q.kind ≡ true). rw f refl)
      (λ (n : is_flush q.kind ≡ false). let at : leb e.stamp t ≡ true = rw n at y in rw n (le_leb e.stamp a (le_trans (leb-true e.stamp t at) l)))
      (cases_Bool (is_flush q.kind))

  due_more : (e : Event) → is_tso_due r t e ≡ true → is_tso_due r a e ≡ true
  due_more e y = let p = and_parts (is_constrained r) (is_tso_asked r.advance t e) y in and_from (is_constrained r) (is_tso_asked r.advance a e) p.0 (asked_more r.advance e p.1)

  kept_more : (b : Bool) (e : Event) → cond b (is_tso_due r t e) (is_ro_due r) ≡ true → cond b (is_tso_due r a e) (is_ro_due r) ≡ true
  kept_more true e y = due_more e y
  kept_more false e y = y

  of_more : (m : Message) → due_of r t m ≤ due_of r a m
  of_more (message.Event e) = counts_le (cond (is_kept_in_order r e) (is_tso_due r t e) (is_ro_due r)) (cond (is_kept_in_order r e) (is_tso_due r a e) (is_ro_due r)) (kept_more (is_kept_in_order r e) e)
  of_more (message.Null k v) = omega arith
  of_more (message.Retraction m) = omega arith
  of_more (message.Discovery d) = omega arith

  wire_more : (ms : List Message) → due_on_wire r t ms ≤ due_on_wire r a ms
  wire_more [] = omega arith
  wire_more (m ∷ ms) = omega (arith, of_more m, wire_more ms)

  order_more : (es : List Event) → due_in_order r t es ≤ due_in_order r a es
  order_more [] = omega arith
  order_more (e ∷ es) = omega (arith, counts_le (is_tso_due r t e) (is_tso_due r a e) (due_more e), order_more es)

total_more : (n : ℕ) (t u : ℕ → ℕ) → ((g : ℕ) → t g ≤ u g) → total n t ≤ total n u
unfolding total
total_more zero t u h = omega arith
total_more (suc n) t u h = omega (arith, h n, total_more n t u h)

pub up_to_more : (s : Components) (f t a : ℕ) → t ≤ a → due_up_to s f t ≤ due_up_to s f a
up_to_more s f t a l = omega (
  arith,
  order_more (s.row f) t a l (s.tso f),
  total_more s.directory.next_federate (λ g. due_on_wire (s.row f) t (s.wire g f)) (λ g. due_on_wire (s.row f) a (s.wire g f)) (λ g. wire_more (s.row f) t a l (s.wire g f)),
)
