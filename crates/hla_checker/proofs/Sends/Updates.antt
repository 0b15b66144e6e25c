-- What is sent by an update, one message after another
use Rattle.std.proofs.Common.{◌≡◌, ℕ, ◌+◌, ◌≤◌, List, [], ◌∷◌, ◌++◌, length, cond, ltb, ◌&&◌, arith, Bool, true, false, Option, Some, None, refl, sym, ◌∙◌, ap}
use Rattle.std.specs.List.{list_any}
use Rattle.std.proofs.lemmas.Bool.Decides.{nat_tests}
use Rattle.hla_base.specs.Limits.{max_serial}
use Rattle.hla_base.specs.RowRefusals.{first_fault}
use Rattle.hla_base.specs.Tables.{upd, or_else, when}
use Rattle.hla_base.specs.declared.content.HandleValuePair.{HandleValuePair}
use Rattle.hla_base.specs.declared.number.EventHandle.{EventHandle}
use Rattle.hla_base.specs.declared.row.TimeRow.{TimeRow}
use Rattle.hla_base.proofs.Tables.{upd_same}
use Rattle.hla_catalogue.specs.declared.declared.Order.TheVariants.{Receive, Timestamp}
use Rattle.hla_machine.specs.declared.service.Service.TheVariants as service
use Rattle.hla_machine.specs.Directory.{Directory, Outgoing, by_handle, is_of_order, part_sent, values_of_order, update_sent, order_of_attribute}
use Rattle.hla_machine.specs.Central.{Central}
use Rattle.hla_machine.specs.Refusals.{Seen, call_tests, is_out_of_serials}
use Rattle.hla_machine.specs.Sends.{after_message, after_messages, sent_handle}
use Rattle.hla_machine.proofs.Basics.Tests.{all_clear}
use Rattle.hla_accounts.specs.Sendings.{is_sent_in_order}
use Rattle.hla_checker.proofs.Sends.SendingTests.{any-by_handle, length-part}

-- ---- one message after another
module _ (f : ℕ) (stamp : Option ℕ) where
  pub after_append : (xs ys : List Outgoing) (c : Central) → after_messages c f stamp (xs ++ ys) ≡ after_messages (after_messages c f stamp xs) f stamp ys
  after_append [] ys c = refl
  after_append (x ∷ xs) ys c = after_append xs ys (after_message c f stamp x)

  pub after_directory : (xs : List Outgoing) (c : Central) → (after_messages c f stamp xs).directory ≡ c.directory
  after_directory [] c = refl
  after_directory (x ∷ xs) c = after_directory xs (after_message c f stamp x)

  pub after_serial : (xs : List Outgoing) (c : Central) → (after_messages c f stamp xs).serial f ≡ c.serial f + length xs
  after_serial [] c = omega arith
  after_serial (x ∷ xs) c =
      let next : upd c.serial f (c.serial f + 1) f ≡ c.serial f + 1 = upd_same c.serial f (c.serial f + 1) in
      after_serial xs (after_message c f stamp x) ∙ omega (arith, next)

-- ---- the parts of an update
pub update_parts : (d : Directory) (object : ℕ) (values pairs received stamped : List HandleValuePair) → pairs ≡ by_handle values → received ≡ values_of_order d object Receive pairs → stamped ≡ values_of_order d object Timestamp pairs
    → part_sent Receive object received ++ part_sent Timestamp object stamped ≡ update_sent d object values
update_parts d object values pairs received stamped sorted is_received is_stamped = rw (is_received, is_stamped, sorted) refl

-- ---- serials that are left
pub serials_left : (serial : ℕ) (outs : List Outgoing) → is_out_of_serials serial outs ≡ false → serial + length outs ≤ max_serial + 1
serials_left serial outs within = let test : ltb (max_serial + 1) (serial + length outs) ≡ false = within in grind (arith, nat_tests)

pub update_room : (s : Seen) (f object : ℕ) (values : List HandleValuePair) (stamp : Option ℕ) → first_fault (call_tests s f (service.UpdateAttributeValues object values stamp)) ≡ None
    → s.serial f + length (update_sent s.directory object values) ≤ max_serial + 1
update_room s f object values stamp none =
    serials_left (s.serial f) (update_sent s.directory object values) (all_clear (call_tests s f (service.UpdateAttributeValues object values stamp)) none).1.1.1.1.1.0

-- ---- the handle of the part in time-stamp order
module _ (f : ℕ) (r : TimeRow) (stamp : Option ℕ) (object : ℕ) where
  first_sent : (rs : List HandleValuePair) (ys : List Outgoing) (n m : ℕ) → length (part_sent Receive object rs) ≡ n → sent_handle f r stamp m (part_sent Receive object rs ++ ys) ≡ sent_handle f r stamp (m + n) ys
  first_sent [] ys n m is = let same : m ≡ m + n = omega (arith, is) in ap (λ (k : ℕ). sent_handle f r stamp k ys) same
  first_sent (v ∷ vs) ys n m is = let same : m + 1 ≡ m + n = omega (arith, is) in ap (λ (k : ℕ). sent_handle f r stamp k ys) same

  or_none : (b : Bool) (h : EventHandle) → or_else (when b (Some h)) None ≡ when b (Some h)
  or_none true h = refl
  or_none false h = refl

  second_sent : (ts : List HandleValuePair) (b : Bool) (m : ℕ) → length (part_sent Timestamp object ts) ≡ cond b 1 0
      → sent_handle f r stamp m (part_sent Timestamp object ts) ≡ when (b && is_sent_in_order r Timestamp stamp) (Some (record { sender = f; serial = m }))
  second_sent [] true m is = absurd (omega (arith, is))
  second_sent [] false m is = refl
  second_sent (v ∷ vs) true m is = or_none (is_sent_in_order r Timestamp stamp) (record { sender = f; serial = m })
  second_sent (v ∷ vs) false m is = absurd (omega (arith, is))

  pub update_handle_is : (d : Directory) (m n : ℕ) (values : List HandleValuePair) (received ordered sent : Bool)
      → received ≡ list_any (λ (v : HandleValuePair). is_of_order Receive (order_of_attribute d object v.handle)) values
      → ordered ≡ list_any (λ (v : HandleValuePair). is_of_order Timestamp (order_of_attribute d object v.handle)) values
      → sent ≡ is_sent_in_order r Timestamp stamp → n ≡ m + cond received 1 0
      → when (ordered && sent) (Some (record { sender = f; serial = n })) ≡ sent_handle f r stamp m (update_sent d object values)
  update_handle_is d m n values received ordered sent is_received is_ordered is_sent next =
      let rs = values_of_order d object Receive (by_handle values) in
      let ts = values_of_order d object Timestamp (by_handle values) in
      let first : length (part_sent Receive object rs) ≡ cond received 1 0
      = length-part Receive object (λ v. is_of_order Receive (order_of_attribute d object v.handle)) (by_handle values)
      ∙ ap (λ (b : Bool). cond b 1 0) (any-by_handle (λ h. is_of_order Receive (order_of_attribute d object h)) values ∙ sym is_received) in
      let second : length (part_sent Timestamp object ts) ≡ cond ordered 1 0
      = length-part Timestamp object (λ v. is_of_order Timestamp (order_of_attribute d object v.handle)) (by_handle values)
      ∙ ap (λ (b : Bool). cond b 1 0) (any-by_handle (λ h. is_of_order Timestamp (order_of_attribute d object h)) values ∙ sym is_ordered) in
      sym (first_sent rs (part_sent Timestamp object ts) (cond received 1 0) m first
      ∙ second_sent ts ordered (m + cond received 1 0) second
      ∙ ap (λ (b : Bool). when (ordered && b) (Some (record { sender = f; serial = m + cond received 1 0 }))) (sym is_sent)
      ∙ ap (λ (k : ℕ). when (ordered && sent) (Some (record { sender = f; serial = k }))) (sym next))

-- what is left after the first of two parts
pub second_room : (a b n m t : ℕ) → b ≡ a + n → t ≡ n + m → a + t ≤ max_serial + 1 → b + m ≤ max_serial + 1
second_room a b n m t next total room = omega (arith, next, total, room)
