-- With which stamps a service is refused, and with which fault
use Rattle.std.proofs.Common.{◌≡◌, ℕ, ◌≤◌, ◌<◌, List, [], ◌∷◌, ◌++◌, filter, cond, ltb, not, ◌&&◌, ◌||◌, true, false, Bool, Option, None, Some, is_some, unwrap_or, refl, ap, ◌∙◌, arith, ⊎_elim}
use Rattle.std.specs.List.{list_any}
use Rattle.std.proofs.lemmas.Bool.{cases_Bool}
use Rattle.std.proofs.lemmas.Bool.Decides.{nat_tests}
use Rattle.hla_base.specs.Limits.{max_time}
use Rattle.hla_base.specs.declared.content.HandleValuePair.{HandleValuePair}
use Rattle.hla_base.specs.declared.fault.Fault.{Fault}
use Rattle.hla_base.specs.declared.fault.Fault.TheVariants as fault
use Rattle.hla_base.specs.declared.row.TimeRow.{TimeRow}
use Rattle.hla_base.specs.Rows.{is_enabled, least_stamp}
use Rattle.hla_catalogue.specs.declared.declared.Order.TheVariants.{Receive, Timestamp}
use Rattle.hla_machine.specs.Directory.{Directory, Outgoing, by_handle, is_of_order, part_sent, values_of_order, update_sent, order_of_attribute}
use Rattle.hla_machine.specs.Refusals.{is_bad_stamp}
use Rattle.hla_machine.specs.Sends.{is_ordered, is_some_ordered}
use Rattle.hla_federation.proofs.Steps.Updates.{any-by_handle}

-- ---- some part of an update goes in time-stamp order where some attribute does
abbrev pub is_stamped : Outgoing → Bool
is_stamped out = is_of_order Timestamp out.order

any_append : (xs ys : List Outgoing) → list_any is_stamped (xs ++ ys) ≡ list_any is_stamped xs || list_any is_stamped ys
any_append [] ys = refl
any_append (x ∷ xs) ys = rw (any_append xs ys) (or_assoc (is_stamped x) (list_any is_stamped xs) (list_any is_stamped ys))
  where
    or_assoc : (a b c : Bool) → a || (b || c) ≡ (a || b) || c
    or_assoc true b c = refl
    or_assoc false b c = refl

none_received : (object : ℕ) (values : List HandleValuePair) → list_any is_stamped (part_sent Receive object values) ≡ false
none_received object [] = refl
none_received object (v ∷ vs) = refl

any_part : (object : ℕ) (p : HandleValuePair → Bool) (xs : List HandleValuePair) → list_any is_stamped (part_sent Timestamp object (filter p xs)) ≡ list_any p xs
any_part object p [] = refl
any_part object p (x ∷ xs) = ⊎_elim
    (λ (y : p x ≡ true). rw y refl)
    (λ (n : p x ≡ false). rw n (any_part object p xs))
    (cases_Bool (p x))

pub any_stamped : (d : Directory) (object : ℕ) (values : List HandleValuePair) → list_any is_stamped (update_sent d object values)
    ≡ list_any (λ (v : HandleValuePair). is_of_order Timestamp (order_of_attribute d object v.handle)) values
any_stamped d object values =
    let one = values_of_order d object Receive (by_handle values) in
    any_append (part_sent Receive object one) (part_sent Timestamp object (values_of_order d object Timestamp (by_handle values)))
    ∙ ap (λ (b : Bool). b || list_any is_stamped (part_sent Timestamp object (values_of_order d object Timestamp (by_handle values)))) (none_received object one)
    ∙ any_part object (λ v. is_of_order Timestamp (order_of_attribute d object v.handle)) (by_handle values)
    ∙ any-by_handle (λ h. is_of_order Timestamp (order_of_attribute d object h)) values

pub one_stamped : (out : Outgoing) → list_any is_stamped (out ∷ []) ≡ is_stamped out
one_stamped out = or_none (is_stamped out)
  where
    or_none : (b : Bool) → b || false ≡ b
    or_none true = refl
    or_none false = refl

-- ---- where some message has time-stamp order, one goes in it if its sender gave a stamp and regulates
pub some_ordered : (r : TimeRow) (stamp : Option ℕ) (outs : List Outgoing) → is_some_ordered r stamp outs ≡ list_any is_stamped outs && is_some stamp && is_enabled r.regulating
some_ordered r stamp [] = refl
some_ordered r stamp (out ∷ outs) =
    ap (λ (b : Bool). cond (is_ordered r stamp out) true b) (some_ordered r stamp outs)
    ∙ each (is_stamped out) (list_any is_stamped outs) (is_some stamp) (is_enabled r.regulating)
  where
    each : (a b s e : Bool) → cond (a && s && e) true (b && s && e) ≡ (a || b) && s && e
    each true true true true = refl
    each true true true false = refl
    each true true false e = refl
    each true false true true = refl
    each true false true false = refl
    each true false false e = refl
    each false b s e = refl

-- ---- when a stamp is bad
module _ (r : TimeRow) (outs : List Outgoing) (b : Bool) (is : list_any is_stamped outs ≡ b) where
  bad_is : (stamp : Option ℕ) → is_bad_stamp r stamp outs ≡ ltb max_time (unwrap_or stamp 0) || ((b && is_some stamp && is_enabled r.regulating) && ltb (unwrap_or stamp 0) (least_stamp r))
  bad_is stamp = ap (λ (some : Bool). ltb max_time (unwrap_or stamp 0) || (some && ltb (unwrap_or stamp 0) (least_stamp r)))
      (some_ordered r stamp outs ∙ ap (λ (a : Bool). a && is_some stamp && is_enabled r.regulating) is)

  pub no_stamp : is_bad_stamp r None outs ≡ false
  no_stamp = bad_is None ∙ each b (is_enabled r.regulating) (ltb 0 (least_stamp r))
    where
      each : (a e low : Bool) → ltb max_time 0 || ((a && false && e) && low) ≡ false
      each true e low = refl
      each false e low = refl

  module _ (t : ℕ) where
    pub beyond : max_time < t → is_bad_stamp r (Some t) outs ≡ true
    beyond late = let y : ltb max_time t ≡ true = grind (arith, nat_tests) in bad_is (Some t) ∙ rw y refl

    pub in_time : t ≤ max_time → is_bad_stamp r (Some t) outs ≡ (b && is_enabled r.regulating) && ltb t (least_stamp r)
    in_time within = let n : ltb max_time t ≡ false = grind (arith, nat_tests) in bad_is (Some t) ∙ rw n (each b (is_enabled r.regulating) (ltb t (least_stamp r)))
      where
        each : (a e low : Bool) → (a && true && e) && low ≡ (a && e) && low
        each true e low = refl
        each false e low = refl

-- ---- the fault of an interaction, test by test
abbrev pub interaction_result : Bool → Bool → Bool → Bool → Bool → Bool → Option Fault
interaction_result joined defined unknown published untimely many =
    cond (not joined) (Some fault.FederateNotExecutionMember)
    (cond (not defined) (Some fault.InteractionClassNotDefined)
    (cond unknown (Some fault.InteractionParameterNotDefined)
    (cond (not published) (Some fault.InteractionClassNotPublished)
    (cond untimely (Some fault.InvalidFederationTime)
    (cond many (Some fault.LimitReached) None)))))

module _ (joined defined unknown published untimely many : Bool) (is_joined : joined ≡ true) (is_defined : defined ≡ true) (is_known : unknown ≡ false) (is_published : published ≡ true) where
  pub untimely_interaction : untimely ≡ true → Some fault.InvalidFederationTime ≡ interaction_result joined defined unknown published untimely many
  untimely_interaction late = rw (is_joined, is_defined, is_known, is_published, late) refl

  pub too_many_interactions : untimely ≡ false → many ≡ true → Some fault.LimitReached ≡ interaction_result joined defined unknown published untimely many
  too_many_interactions timely full = rw (is_joined, is_defined, is_known, is_published, timely, full) refl

  pub fine_interaction : untimely ≡ false → many ≡ false → None ≡ interaction_result joined defined unknown published untimely many
  fine_interaction timely left = rw (is_joined, is_defined, is_known, is_published, timely, left) refl

-- ---- and of a deletion
abbrev pub deletion_result : Bool → Bool → Bool → Bool → Bool → Option Fault
deletion_result joined known owned untimely many =
    cond (not joined) (Some fault.FederateNotExecutionMember)
    (cond (not known) (Some fault.ObjectNotKnown)
    (cond (not owned) (Some fault.DeletePrivilegeNotHeld)
    (cond untimely (Some fault.InvalidFederationTime)
    (cond many (Some fault.LimitReached) None))))

module _ (joined known owned untimely many : Bool) (is_joined : joined ≡ true) (is_known : known ≡ true) (is_owned : owned ≡ true) where
  pub untimely_deletion : untimely ≡ true → Some fault.InvalidFederationTime ≡ deletion_result joined known owned untimely many
  untimely_deletion late = rw (is_joined, is_known, is_owned, late) refl

  pub too_many_deletions : untimely ≡ false → many ≡ true → Some fault.LimitReached ≡ deletion_result joined known owned untimely many
  too_many_deletions timely full = rw (is_joined, is_known, is_owned, timely, full) refl

  pub fine_deletion : untimely ≡ false → many ≡ false → None ≡ deletion_result joined known owned untimely many
  fine_deletion timely left = rw (is_joined, is_known, is_owned, timely, left) refl
