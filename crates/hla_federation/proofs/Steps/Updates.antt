-- How many messages an update makes, and with which fault it is refused
use Rattle.std.proofs.Common.{◌≡◌, ℕ, ◌+◌, ◌-◌, ◌<◌, ◌≤◌, List, [], ◌∷◌, ◌++◌, length, filter, cond, eqb, ltb, not, ◌||◌, true, false, Bool, Option, None, Some, IfSome, is_some, refl, sym, ap, subst, ◌∙◌, arith, ⊎_elim, length-append}
use Rattle.std.specs.List.{list_any}
use Rattle.std.specs.Option.{option_and_then}
use Rattle.std.proofs.lemmas.Bool.{cases_Bool}
use Rattle.std.proofs.lemmas.Bool.Decides.{nat_tests}
use Rattle.std.proofs.lemmas.List.{append-nil}
use Rattle.hla_base.specs.declared.content.HandleValuePair.{HandleValuePair}
use Rattle.hla_base.specs.declared.fault.Fault.{Fault}
use Rattle.hla_base.specs.declared.fault.Fault.TheVariants as fault
use Rattle.hla_catalogue.specs.declared.declared.Order.{Order}
use Rattle.hla_catalogue.specs.declared.declared.Order.TheVariants.{Receive, Timestamp}
use Rattle.hla_base.specs.declared.row.TimeRow.{TimeRow}
use Rattle.hla_machine.specs.Refusals.{is_out_of_serials}
use Rattle.hla_machine.specs.Sends.{sent_handle}
use Rattle.hla_base.specs.Tables.{one_if}
use Rattle.hla_retraction.specs.SentEvents.{SentEvent}
use Rattle.hla_base.specs.FederateSets.{federate_set}
use Rattle.hla_machine.specs.Directory.{Directory, Outgoing, AnUpdate, put_pair, put_pairs, by_handle, is_of_order, is_receiver, part_sent, values_of_order, update_sent, order_of_attribute}
use Rattle.hla_members.specs.declared.note.Note.{Note}
use Rattle.hla_members.specs.Noting.{IsUnsentFrom, with_noted, handle_noted}
use Rattle.hla_federation.specs.Steps.Sending.{heading_of, message_to, messages_to, note_under, part_to}
use Rattle.hla_federation.proofs.Steps.SendingAll.{sent_events}
use Rattle.hla_federation.proofs.Steps.Noting.{parts_noted, parts_handle}
use Rattle.hla_federation.proofs.Steps.Sent.{two_said}

-- ---- a test of handles holds of some value by handle where it does of some value
module _ (asked : ℕ → Bool) where
  abbrev asks : HandleValuePair → Bool
  asks v = asked v.handle

  or-swap : (a b c : Bool) → a || (b || c) ≡ b || (a || c)
  or-swap true true c = refl
  or-swap true false c = refl
  or-swap false true c = refl
  or-swap false false c = refl

  or-twice : (a c : Bool) → a || c ≡ a || (a || c)
  or-twice true c = refl
  or-twice false c = refl

  or-later : (a b c : Bool) → (a || b) || c ≡ b || (a || c)
  or-later true true c = refl
  or-later true false c = refl
  or-later false true c = refl
  or-later false false c = refl

  any-put : (v : HandleValuePair) (xs : List HandleValuePair) → list_any asks (put_pair v xs) ≡ asked v.handle || list_any asks xs
  any-put v [] = refl
  any-put v (x ∷ xs) = ⊎_elim
      (λ (y : ltb v.handle x.handle ≡ true). rw y refl)
      (λ (n : ltb v.handle x.handle ≡ false). ⊎_elim
      (λ (y : eqb v.handle x.handle ≡ true).
      let e : x.handle ≡ v.handle = grind (arith, nat_tests) in
      rw (n, y) (or-twice (asked v.handle) (list_any asks xs) ∙ ap (λ (k : ℕ). asked v.handle || (asked k || list_any asks xs)) (sym e)))
      (λ (m : eqb v.handle x.handle ≡ false). rw (n, m) (ap (λ (b : Bool). asked x.handle || b) (any-put v xs) ∙ or-swap (asked x.handle) (asked v.handle) (list_any asks xs)))
      (cases_Bool (eqb v.handle x.handle)))
      (cases_Bool (ltb v.handle x.handle))

  any-puts : (vs done : List HandleValuePair) → list_any asks (put_pairs done vs) ≡ list_any asks done || list_any asks vs
  any-puts [] done = or-none (list_any asks done)
    where
      or-none : (b : Bool) → b ≡ b || false
      or-none true = refl
      or-none false = refl
  any-puts (v ∷ vs) done = any-puts vs (put_pair v done) ∙ ap (λ (b : Bool). b || list_any asks vs) (any-put v done) ∙ or-later (asked v.handle) (list_any asks done) (list_any asks vs)

  pub any-by_handle : (values : List HandleValuePair) → list_any asks (by_handle values) ≡ list_any asks values
  any-by_handle values = any-puts values []

-- ---- a part makes a message where it has a value
pub length-part : (order : Order) (object : ℕ) (p : HandleValuePair → Bool) (xs : List HandleValuePair) → length (part_sent order object (filter p xs)) ≡ cond (list_any p xs) 1 0
length-part order object p [] = refl
length-part order object p (x ∷ xs) = ⊎_elim
    (λ (y : p x ≡ true). rw y refl)
    (λ (n : p x ≡ false). rw n (length-part order object p xs))
    (cases_Bool (p x))

pub length-update : (d : Directory) (object : ℕ) (values : List HandleValuePair) → length (update_sent d object values)
    ≡ cond (list_any (λ (v : HandleValuePair). is_of_order Receive (order_of_attribute d object v.handle)) values) 1 0
    + cond (list_any (λ (v : HandleValuePair). is_of_order Timestamp (order_of_attribute d object v.handle)) values) 1 0
length-update d object values =
    let one = part_sent Receive object (values_of_order d object Receive (by_handle values)) in
    let two = part_sent Timestamp object (values_of_order d object Timestamp (by_handle values)) in
    let first : length one ≡ cond (list_any (λ (v : HandleValuePair). is_of_order Receive (order_of_attribute d object v.handle)) values) 1 0
    = length-part Receive object (λ v. is_of_order Receive (order_of_attribute d object v.handle)) (by_handle values)
    ∙ ap (λ (b : Bool). cond b 1 0) (any-by_handle (λ h. is_of_order Receive (order_of_attribute d object h)) values) in
    let second : length two ≡ cond (list_any (λ (v : HandleValuePair). is_of_order Timestamp (order_of_attribute d object v.handle)) values) 1 0
    = length-part Timestamp object (λ v. is_of_order Timestamp (order_of_attribute d object v.handle)) (by_handle values)
    ∙ ap (λ (b : Bool). cond b 1 0) (any-by_handle (λ h. is_of_order Timestamp (order_of_attribute d object h)) values) in
    length-append one two ∙ rw (first, second) refl

-- ---- the fault of an update, test by test
abbrev pub update_result : Bool → Bool → Bool → Bool → Bool → Bool → Bool → Option Fault
update_result joined known undefined unowned unpublished untimely many =
    cond (not joined) (Some fault.FederateNotExecutionMember)
    (cond (not known) (Some fault.ObjectNotKnown)
    (cond undefined (Some fault.AttributeNotDefined)
    (cond unowned (Some fault.AttributeNotOwned)
    (cond unpublished (Some fault.AttributeNotPublished)
    (cond untimely (Some fault.InvalidFederationTime)
    (cond many (Some fault.LimitReached) None))))))

module _ (joined known undefined unowned unpublished untimely many : Bool) (is_joined : joined ≡ true) (is_known : known ≡ true) (is_defined : undefined ≡ false) (is_owned : unowned ≡ false) where
  pub not_published : unpublished ≡ true → Some fault.AttributeNotPublished ≡ update_result joined known undefined unowned unpublished untimely many
  not_published is = rw (is_joined, is_known, is_defined, is_owned, is) refl

  pub not_timely : unpublished ≡ false → untimely ≡ true → Some fault.InvalidFederationTime ≡ update_result joined known undefined unowned unpublished untimely many
  not_timely is late = rw (is_joined, is_known, is_defined, is_owned, is, late) refl

  pub too_many : unpublished ≡ false → untimely ≡ false → many ≡ true → Some fault.LimitReached ≡ update_result joined known undefined unowned unpublished untimely many
  too_many is timely full = rw (is_joined, is_known, is_defined, is_owned, is, timely, full) refl

  pub no_fault : unpublished ≡ false → untimely ≡ false → many ≡ false → None ≡ update_result joined known undefined unowned unpublished untimely many
  no_fault is timely full = rw (is_joined, is_known, is_defined, is_owned, is, timely, full) refl

-- ---- the serials that an update takes
module _ (serial : ℕ) (outs : List Outgoing) (next count : ℕ) (same : next ≡ serial) (many : count ≡ length outs) (few : count ≤ 2) where
  pub past_serials : 1000000000000000001 - count < next → is_out_of_serials serial outs ≡ true
  past_serials test = let b : 1000000000000000001 < serial + length outs = omega (arith, same, many, few, test) in grind (arith, nat_tests)

  pub within_serials : next ≤ 1000000000000000001 - count → is_out_of_serials serial outs ≡ false
  within_serials test = let b : serial + length outs ≤ 1000000000000000001 = omega (arith, same, many, few, test) in grind (arith, nat_tests)

-- ---- both parts of an update, one after the other
pub sum_is : (a b c d : ℕ) → a ≡ c → b ≡ d → a + b ≡ c + d
sum_is a b c d e g = omega arith

part_length : (order other : Order) (object : ℕ) (values : List HandleValuePair) → length (part_sent order object values) ≡ length (part_sent other object values)
part_length order other object [] = refl
part_length order other object (v ∷ vs) = refl

part_messages : (order : Order) (d : Directory) (f n : ℕ) (r : TimeRow) (stamp : Option ℕ) (object : ℕ) (values : List HandleValuePair) (h : ℕ)
    → part_to d (heading_of f n r stamp order) object values h ≡ messages_to d f n r stamp (part_sent order object values) h
part_messages order d f n r stamp object [] h = refl
part_messages order d f n r stamp object (v ∷ vs) h = sym (append-nil (message_to d (heading_of f n r stamp order) (AnUpdate object (v ∷ vs)) h))

module _ (d : Directory) (f n m : ℕ) (r : TimeRow) (stamp : Option ℕ) (object : ℕ) (values received ordered : List HandleValuePair) (count : ℕ)
    (is_received : received ≡ values_of_order d object Receive (by_handle values)) (is_ordered : ordered ≡ values_of_order d object Timestamp (by_handle values))
    (same : n ≡ m) (one : count ≡ length (part_sent Receive object received)) where
  abbrev first_part : List Outgoing
  first_part = part_sent Receive object (values_of_order d object Receive (by_handle values))

  abbrev second_part : List Outgoing
  second_part = part_sent Timestamp object (values_of_order d object Timestamp (by_handle values))

  one_is : count ≡ length first_part
  one_is = one ∙ ap (λ (vs : List HandleValuePair). length (part_sent Receive object vs)) is_received

  pub parts_counted : (more : ℕ) → more ≡ length (part_sent Receive object ordered) → count + more ≡ length (update_sent d object values)
  parts_counted more two =
      let second : more ≡ length second_part = two ∙ ap (λ (vs : List HandleValuePair). length (part_sent Receive object vs)) is_ordered ∙ part_length Receive Timestamp object (values_of_order d object Timestamp (by_handle values)) in
      sum_is count more (length first_part) (length second_part) one_is second ∙ sym (length-append first_part second_part)

  pub parts_said : (h : ℕ) → part_to d (heading_of f n r stamp Receive) object received h ++ part_to d (heading_of f (n + count) r stamp Timestamp) object ordered h
      ≡ messages_to d f m r stamp (update_sent d object values) h
  parts_said h =
      (λ i. part_to d (heading_of f n r stamp Receive) object (is_received i) h ++ part_to d (heading_of f (n + count) r stamp Timestamp) object (is_ordered i) h)
      ∙ (λ i. part_messages Receive d f n r stamp object (values_of_order d object Receive (by_handle values)) h i
      ++ part_messages Timestamp d f (n + count) r stamp object (values_of_order d object Timestamp (by_handle values)) h i)
      ∙ two_said d f n m (n + count) r stamp first_part second_part h same (ap (λ (k : ℕ). n + k) one_is)

  -- what is noted of it, and its handle
  module _ (told : Option ℕ) (two : one_if (is_some told) ≡ length (part_sent Receive object ordered)) where
    abbrev pub update_note : Option Note
    update_note = option_and_then (λ rs. note_under (heading_of f (n + count) r stamp Timestamp) rs) told

    next_is : n + count ≡ m + length (part_sent Receive object (values_of_order d object Receive (by_handle values)))
    next_is = sum_is n count m (length first_part) same one_is

    two_is : one_if (is_some told) ≡ length (part_sent Receive object (values_of_order d object Timestamp (by_handle values)))
    two_is = two ∙ ap (λ (vs : List HandleValuePair). length (part_sent Receive object vs)) is_ordered

    pub update_noted : (sent : ℕ → ℕ → SentEvent) → IsUnsentFrom (sent f) m → IfSome told (λ rs. federate_set rs ≡ is_receiver d f (AnUpdate object ordered))
        → sent_events d f m r stamp (update_sent d object values) sent ≡ with_noted sent f update_note
    update_noted sent none receivers = parts_noted d f m (n + count) r stamp object (values_of_order d object Receive (by_handle values)) (values_of_order d object Timestamp (by_handle values)) told next_is two_is sent none
        (subst (λ (vs : List HandleValuePair). IfSome told (λ rs. federate_set rs ≡ is_receiver d f (AnUpdate object vs))) is_ordered receivers)

    pub update_handle : sent_handle f r stamp m (update_sent d object values) ≡ handle_noted f update_note
    update_handle = parts_handle d f m (n + count) r stamp object (values_of_order d object Receive (by_handle values)) (values_of_order d object Timestamp (by_handle values)) told next_is two_is
