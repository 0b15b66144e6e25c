-- What is noted of the messages that a service sends, and the handle that it answers
use Rattle.std.proofs.Common.{◌≡◌, ℕ, ◌+◌, ◌≤◌, List, [], ◌∷◌, ◌++◌, length, cond, eqb, ◌&&◌, Bool, true, false, Option, None, Some, IfSome, is_some, option_map, unwrap_or, refl, sym, ap, ◌∙◌, arith, ⊎_elim}
use Rattle.std.specs.Option.{option_and_then}
use Rattle.std.proofs.Math.Bool.{and-false}
use Rattle.std.proofs.lemmas.Bool.{cases_Bool}
use Rattle.hla_base.specs.declared.content.HandleValuePair.{HandleValuePair}
use Rattle.hla_base.specs.declared.number.EventHandle.{EventHandle}
use Rattle.hla_base.specs.declared.row.TimeRow.{TimeRow}
use Rattle.hla_base.specs.Tables.{upd2, or_else, when, one_if}
use Rattle.hla_catalogue.specs.declared.declared.Order.TheVariants.{Receive, Timestamp}
use Rattle.hla_retraction.specs.declared.sent.SentRow.{SentRow}
use Rattle.hla_retraction.specs.SentEvents.{SentEvent, no_event}
use Rattle.hla_retraction.specs.SentRows.{sent_of}
use Rattle.hla_base.specs.FederateSets.{federate_set}
use Rattle.hla_machine.specs.Directory.{Directory, Outgoing, AnUpdate, part_sent, is_receiver, deletions_sent}
use Rattle.hla_machine.specs.Sends.{is_ordered, is_deletion, sent_event, sent_handle}
use Rattle.hla_components.specs.Invariant.{Inv}
use Rattle.hla_federation.specs.declared.heading.Heading.{Heading}
use Rattle.hla_members.specs.declared.note.Note.{Note}
use Rattle.hla_federation.specs.FederationValue.{FederationValue}
use Rattle.hla_execution.specs.MemberValue.{item, no_member, members_of}
use Rattle.hla_members.specs.Noting.{IsUnsentFrom, with_noted, handle_noted}
use Rattle.hla_federation.specs.Steps.Sending.{order_stamp, heading_of, note_under}
use Rattle.hla_federation.specs.Steps.State.{state_of}
use Rattle.hla_federation.proofs.Steps.Declaring.{upd2-self}
use Rattle.hla_federation.proofs.Steps.SendingAll.{order_is, stamp_is, sent_events}

-- ---- nothing is noted of what is not sent yet
unsent_event : (rows : List SentRow) (m : ℕ) → (sent_of rows m).retractable ≡ false → sent_of rows m ≡ no_event
unfolding sent_of
unsent_event [] m none = refl
unsent_event (row ∷ rows) m none = ⊎_elim
    (λ (y : eqb row.serial m ≡ true). let t = rw y at none in absurd (cc))
    (λ (n : eqb row.serial m ≡ false). rw n (unsent_event rows m (rw n at none)))
    (cases_Bool (eqb row.serial m))

pub unsent_from : (v : FederationValue) (f : ℕ) → Inv (state_of v) → IsUnsentFrom ((members_of v.members).sent f) ((members_of v.members).serial f)
unsent_from v f inv m above = unsent_event (item no_member v.members f).sent m (inv.laws.unsent f m above)

pub note_unsent : (head : Heading) (receivers : ℕ) (sent : ℕ → SentEvent) (first : ℕ) → IsUnsentFrom sent first → first ≤ head.serial
    → IfSome (note_under head receivers) (λ (n : Note). IsUnsentFrom sent n.serial)
note_unsent head receivers sent first none above = by_stamp head.stamp
  where
    by_stamp : (o : Option ℕ) → IfSome (option_map (λ (t : ℕ). record { serial = head.serial; stamp = t; receivers = receivers }) o) (λ (n : Note). IsUnsentFrom sent n.serial)
    by_stamp None = tt
    by_stamp (Some t) = λ m beyond. none m (omega (arith, above, beyond))

pub part_unsent : (head : Heading) (told : Option ℕ) (sent : ℕ → SentEvent) (first : ℕ) → IsUnsentFrom sent first → first ≤ head.serial
    → IfSome (option_and_then (λ rs. note_under head rs) told) (λ (n : Note). IsUnsentFrom sent n.serial)
part_unsent head None sent first none above = tt
part_unsent head (Some rs) sent first none above = note_unsent head rs sent first none above

-- ---- one message
module _ (d : Directory) (f m : ℕ) (r : TimeRow) (stamp : Option ℕ) (out : Outgoing) (sent : ℕ → ℕ → SentEvent) (fresh : sent f m ≡ no_event) where
  -- an update or an interaction
  module _ (rs : ℕ) (told : federate_set rs ≡ is_receiver d f out.body) (kind : is_deletion out.body ≡ false) where
    pub one_noted : upd2 sent f m (sent_event d r f stamp out) ≡ with_noted sent f (note_under (heading_of f m r stamp out.order) rs)
    one_noted = rw (kind, stamp_is r stamp out, order_is r stamp out) (by_stamp (order_stamp r out.order stamp))
      where
        by_stamp : (o : Option ℕ) → upd2 sent f m (cond (is_some o && true) (record { stamp = unwrap_or o 0; retractable = true; retracted = false; receivers = is_receiver d f out.body }) no_event)
            ≡ with_noted sent f (option_map (λ (t : ℕ). record { serial = m; stamp = t; receivers = rs }) o)
        by_stamp None = upd2-self sent f m no_event (sym fresh)
        by_stamp (Some t) = ap (λ (told : ℕ → Bool). upd2 sent f m (record { stamp = t; retractable = true; retracted = false; receivers = told })) (sym told)

  -- of a deletion nothing is
  pub deletion_noted : is_deletion out.body ≡ true → upd2 sent f m (sent_event d r f stamp out) ≡ sent
  deletion_noted kind = rw (kind, and-false (is_ordered r stamp out)) (upd2-self sent f m no_event (sym fresh))

pub one_handle : (f m : ℕ) (r : TimeRow) (stamp : Option ℕ) (out : Outgoing) (rs : ℕ) → sent_handle f r stamp m (out ∷ []) ≡ handle_noted f (note_under (heading_of f m r stamp out.order) rs)
one_handle f m r stamp out rs = rw (order_is r stamp out) (by_stamp (order_stamp r out.order stamp))
  where
    by_stamp : (o : Option ℕ) → or_else (when (is_some o) (Some (record { sender = f; serial = m }))) None ≡ handle_noted f (option_map (λ (t : ℕ). record { serial = m; stamp = t; receivers = rs }) o)
    by_stamp None = refl
    by_stamp (Some t) = refl

-- ---- the deletions of a federate that resigns
pub deletions_noted : (d : Directory) (f m : ℕ) (r : TimeRow) (hs : List ℕ) (sent : ℕ → ℕ → SentEvent) → IsUnsentFrom (sent f) m → sent_events d f m r None (deletions_sent hs) sent ≡ sent
deletions_noted d f m r [] sent none = refl
deletions_noted d f m r (h ∷ hs) sent none =
    ap (λ (t : ℕ → ℕ → SentEvent). sent_events d f (m + 1) r None (deletions_sent hs) t) (upd2-self sent f m no_event (sym (none m (omega arith))))
    ∙ deletions_noted d f (m + 1) r hs sent (λ k above. none k (omega (arith, above)))

-- ---- the two parts of an update
events_append : (d : Directory) (f m : ℕ) (r : TimeRow) (stamp : Option ℕ) (outs more : List Outgoing) (sent : ℕ → ℕ → SentEvent)
    → sent_events d f m r stamp (outs ++ more) sent ≡ sent_events d f (m + length outs) r stamp more (sent_events d f m r stamp outs sent)
events_append d f m r stamp [] more sent = let same : m + 0 ≡ m = omega arith in rw same refl
events_append d f m r stamp (out ∷ outs) more sent =
    let same : m + 1 + length outs ≡ m + length (out ∷ outs) = omega arith in
    let one = upd2 sent f m (sent_event d r f stamp out) in
    events_append d f (m + 1) r stamp outs more one ∙ ap (λ (k : ℕ). sent_events d f k r stamp more (sent_events d f (m + 1) r stamp outs one)) same

handle_append : (f m : ℕ) (r : TimeRow) (stamp : Option ℕ) (outs more : List Outgoing) → sent_handle f r stamp m (outs ++ more) ≡ or_else (sent_handle f r stamp m outs) (sent_handle f r stamp (m + length outs) more)
handle_append f m r stamp [] more = let same : m + 0 ≡ m = omega arith in rw same refl
handle_append f m r stamp (out ∷ outs) more =
    let same : m + 1 + length outs ≡ m + length (out ∷ outs) = omega arith in
    let here = when (is_ordered r stamp out) (Some (record { sender = f; serial = m })) in
    ap (or_else here) (handle_append f (m + 1) r stamp outs more ∙ ap (λ (k : ℕ). or_else (sent_handle f r stamp (m + 1) outs) (sent_handle f r stamp k more)) same)
    ∙ or_else_assoc here (sent_handle f r stamp (m + 1) outs) (sent_handle f r stamp (m + length (out ∷ outs)) more)
  where
    or_else_assoc : {X : Type 0} (a b c : Option X) → or_else a (or_else b c) ≡ or_else (or_else a b) c
    or_else_assoc None b c = refl
    or_else_assoc (Some x) b c = refl

-- of the part in receive order nothing is noted
module _ (d : Directory) (f m : ℕ) (r : TimeRow) (stamp : Option ℕ) (object : ℕ) where
  received_noted : (values : List HandleValuePair) (sent : ℕ → ℕ → SentEvent) → sent f m ≡ no_event → sent_events d f m r stamp (part_sent Receive object values) sent ≡ sent
  received_noted [] sent fresh = refl
  received_noted (v ∷ vs) sent fresh = upd2-self sent f m no_event (sym fresh)

  received_handle : (values : List HandleValuePair) → sent_handle f r stamp m (part_sent Receive object values) ≡ None
  received_handle [] = refl
  received_handle (v ∷ vs) = refl

  abbrev stamped_note : Option ℕ → Option Note
  stamped_note told = option_and_then (λ rs. note_under (heading_of f m r stamp Timestamp) rs) told

  -- of the other one, what it says
  stamped_noted : (values : List HandleValuePair) (told : Option ℕ) (sent : ℕ → ℕ → SentEvent) → sent f m ≡ no_event
      → one_if (is_some told) ≡ length (part_sent Receive object values) → IfSome told (λ rs. federate_set rs ≡ is_receiver d f (AnUpdate object values))
      → sent_events d f m r stamp (part_sent Timestamp object values) sent ≡ with_noted sent f (stamped_note told)
  stamped_noted [] None sent fresh count receivers = refl
  stamped_noted [] (Some rs) sent fresh count receivers = absurd (omega (arith, count))
  stamped_noted (v ∷ vs) None sent fresh count receivers = absurd (omega (arith, count))
  stamped_noted (v ∷ vs) (Some rs) sent fresh count receivers = one_noted d f m r stamp (record { order = Timestamp; body = AnUpdate object (v ∷ vs) }) sent fresh rs receivers refl

  stamped_handle : (values : List HandleValuePair) (told : Option ℕ) → one_if (is_some told) ≡ length (part_sent Receive object values)
      → sent_handle f r stamp m (part_sent Timestamp object values) ≡ handle_noted f (stamped_note told)
  stamped_handle [] None count = refl
  stamped_handle [] (Some rs) count = absurd (omega (arith, count))
  stamped_handle (v ∷ vs) None count = absurd (omega (arith, count))
  stamped_handle (v ∷ vs) (Some rs) count = one_handle f m r stamp (record { order = Timestamp; body = AnUpdate object (v ∷ vs) }) rs

module _ (d : Directory) (f m next : ℕ) (r : TimeRow) (stamp : Option ℕ) (object : ℕ) (received ordered : List HandleValuePair) (told : Option ℕ)
    (is_next : next ≡ m + length (part_sent Receive object received)) (count : one_if (is_some told) ≡ length (part_sent Receive object ordered)) where
  abbrev parts : List Outgoing
  parts = part_sent Receive object received ++ part_sent Timestamp object ordered

  pub parts_noted : (sent : ℕ → ℕ → SentEvent) → IsUnsentFrom (sent f) m → IfSome told (λ rs. federate_set rs ≡ is_receiver d f (AnUpdate object ordered))
      → sent_events d f m r stamp parts sent ≡ with_noted sent f (option_and_then (λ rs. note_under (heading_of f next r stamp Timestamp) rs) told)
  parts_noted sent none receivers =
      events_append d f m r stamp (part_sent Receive object received) (part_sent Timestamp object ordered) sent
      ∙ ap (λ (t : ℕ → ℕ → SentEvent). sent_events d f (m + length (part_sent Receive object received)) r stamp (part_sent Timestamp object ordered) t) (received_noted d f m r stamp object received sent (none m (omega arith)))
      ∙ ap (λ (k : ℕ). sent_events d f k r stamp (part_sent Timestamp object ordered) sent) (sym is_next)
      ∙ stamped_noted d f next r stamp object ordered told sent (none next (omega (arith, is_next))) count receivers

  pub parts_handle : sent_handle f r stamp m parts ≡ handle_noted f (option_and_then (λ rs. note_under (heading_of f next r stamp Timestamp) rs) told)
  parts_handle =
      handle_append f m r stamp (part_sent Receive object received) (part_sent Timestamp object ordered)
      ∙ ap (λ (o : Option EventHandle). or_else o (sent_handle f r stamp (m + length (part_sent Receive object received)) (part_sent Timestamp object ordered))) (received_handle d f m r stamp object received)
      ∙ ap (λ (k : ℕ). sent_handle f r stamp k (part_sent Timestamp object ordered)) (sym is_next)
      ∙ stamped_handle d f next r stamp object ordered told count
