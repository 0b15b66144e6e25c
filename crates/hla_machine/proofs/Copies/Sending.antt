-- Who is told of an event by a call that answers its handle waits for it
use Rattle.std.proofs.Common.{◌≡◌, ◌≢◌, ⊎_elim, ℕ, ◌<◌, cond, true, false, refl, sym, ap, ◌∙◌, inl, subst, arith, inr, is_some, List, [], ◌∷◌, Option, Some, None, option_map}
use Rattle.std.proofs.lemmas.Bool.{cases_Bool, and_parts}
use Rattle.hla_base.specs.declared.content.Content.{Content}
use Rattle.hla_base.specs.declared.number.EventHandle.{EventHandle}
use Rattle.hla_base.specs.declared.row.TimeRow.{TimeRow}
use Rattle.hla_base.proofs.Tables.{upd_same, upd2_same, upd2_other}
use Rattle.hla_retraction.specs.SentEvents.{SentEvent, no_event}
use Rattle.hla_machine.specs.declared.service.Service.{Service}
use Rattle.hla_machine.specs.declared.service.Service.TheVariants as service
use Rattle.hla_machine.specs.declared.step.Step.TheVariants.{Call}
use Rattle.hla_machine.specs.declared.step.Answer.TheVariants as answer
use Rattle.hla_machine.specs.declared.step.Outcome.TheVariants as outcome
use Rattle.hla_machine.specs.declared.step.Choice.{Choice}
use Rattle.hla_machine.specs.Directory.{Outgoing, content_for, is_receiver, update_sent, interaction_sent}
use Rattle.hla_machine.specs.Central.{Central, Copy, Ro, Tso}
use Rattle.hla_machine.specs.Sends.{is_ordered, kept_stamp, is_retractable, sent_event, sent_handle, copy_for, after_message, after_messages}
use Rattle.hla_machine.specs.Machine.{MayAnswer, after}
use Rattle.hla_machine.specs.History.{WaitsInOrder}
use Rattle.hla_machine.proofs.Basics.Bags.{key_other_number, copies_here, copies_else}

-- nobody receives what is no event
no_receiver : (e : SentEvent) (g : ℕ) → e ≡ no_event → e.receivers g ≡ true → ⊥
no_receiver e g is told = let no = rw is at told in absurd (cc)

module _ (f : ℕ) (stamp : Option ℕ) where
  -- what was sent before stays as it is
  bag_stays : (outs : List Outgoing) (c : Central) (m g : ℕ) → m < c.serial f → (after_messages c f stamp outs).bag f m g ≡ c.bag f m g
  bag_stays [] c m g low = refl
  bag_stays (out ∷ outs) c m g low =
      let ne : c.serial f ≢ m = λ e. absurd (omega (arith, low, e)) in
      let other = key_other_number f (c.serial f) m ne in
      let more : m < (after_message c f stamp out).serial f = rw upd_same (omega (arith, low)) in
      bag_stays outs (after_message c f stamp out) m g more
      ∙ copies_else c.bag f (c.serial f) c.directory.joined (copy_for c.directory (c.row f) stamp out) f m g (inl other)

  sent_stays : (outs : List Outgoing) (c : Central) (m : ℕ) → m < c.serial f → (after_messages c f stamp outs).sent f m ≡ c.sent f m
  sent_stays [] c m low = refl
  sent_stays (out ∷ outs) c m low =
      let ne : c.serial f ≢ m = λ e. absurd (omega (arith, low, e)) in
      let more : m < (after_message c f stamp out).serial f = rw upd_same (omega (arith, low)) in
      sent_stays outs (after_message c f stamp out) m more ∙ upd2_other c.sent f (c.serial f) (sent_event c.directory (c.row f) f stamp out) f m (inr ne)

  -- the copy for a receiver of a message in time-stamp order
  copy_made : (r : TimeRow) (out : Outgoing) → Content → Copy
  copy_made r out x = record { order = cond (is_ordered r stamp out) Tso Ro; stamp = kept_stamp r stamp out; content = x }

  copy_there : (r : TimeRow) (out : Outgoing) (o : Option Content) → is_ordered r stamp out ≡ true → is_some o ≡ true → (k : Copy) × (option_map (copy_made r out) o ≡ Some k) × (k.order ≡ Tso) × (k.stamp ≡ kept_stamp r stamp out)
  unfolding copy_made
  copy_there r out (Some x) ordered some = (copy_made r out x, refl, rw ordered refl, refl)
  copy_there r out None ordered some = absurd (cc)

  copy_of : (c : Central) (out : Outgoing) (g : ℕ) → is_ordered (c.row f) stamp out ≡ true → is_some (content_for c.directory out.body g) ≡ true
      → (k : Copy) × (copy_for c.directory (c.row f) stamp out g ≡ Some k) × (k.order ≡ Tso) × (k.stamp ≡ kept_stamp (c.row f) stamp out)
  unfolding copy_made
  copy_of c out g ordered some = copy_there (c.row f) out (content_for c.directory out.body g) ordered some

  waits_one : (c : Central) (out : Outgoing) (outs : List Outgoing) (g : ℕ) → is_ordered (c.row f) stamp out ≡ true
      → (let d = after_messages (after_message c f stamp out) f stamp outs in
      (d.sent f (c.serial f)).receivers g ≡ true → WaitsInOrder d g (record { sender = f; serial = c.serial f }) (d.sent f (c.serial f)).stamp)
  waits_one c out outs g ordered told =
      let d = after_messages (after_message c f stamp out) f stamp outs in
      let low : c.serial f < (after_message c f stamp out).serial f = rw upd_same (omega arith) in
      let event = sent_stays outs (after_message c f stamp out) (c.serial f) low ∙ upd2_same c.sent f (c.serial f) (sent_event c.directory (c.row f) f stamp out) in
      let bag = bag_stays outs (after_message c f stamp out) (c.serial f) g low in
      ⊎_elim
      (λ (y : is_retractable (c.row f) stamp out ≡ true).
      let some : sent_event c.directory (c.row f) f stamp out ≡ record { stamp = kept_stamp (c.row f) stamp out; retractable = true; retracted = false; receivers = is_receiver c.directory f out.body } = rw y refl in
      let is = event ∙ some in
      let parts = and_parts _ _ (rw is at told) in
      let copy = copy_of c out g ordered parts.1 in
      let here = bag ∙ copies_here c.bag f (c.serial f) c.directory.joined (copy_for c.directory (c.row f) stamp out) g parts.0 ∙ rw copy.1 refl in
      (copy.0, here, copy.2, copy.3 ∙ ap (λ (e : SentEvent). e.stamp) (sym is)))
      (λ (n : is_retractable (c.row f) stamp out ≡ false). let none : sent_event c.directory (c.row f) f stamp out ≡ no_event = rw n refl in absurd (no_receiver (d.sent f (c.serial f)) g (event ∙ none) told))
      (cases_Bool (is_retractable (c.row f) stamp out))

  waits_among : (outs : List Outgoing) (c : Central) (e : EventHandle) (g : ℕ) → Some e ≡ sent_handle f (c.row f) stamp (c.serial f) outs
      → (let d = after_messages c f stamp outs in (d.sent e.sender e.serial).receivers g ≡ true → WaitsInOrder d g e (d.sent e.sender e.serial).stamp)
  waits_among [] c e g is told = absurd (cc)
  waits_among (out ∷ outs) c e g is told = ⊎_elim
      (λ (y : is_ordered (c.row f) stamp out ≡ true).
      let first = rw y at is in
      let same : record { sender = f; serial = c.serial f } ≡ e = cc in
      let d = after_messages (after_message c f stamp out) f stamp outs in
      subst (λ (e : EventHandle). (d.sent e.sender e.serial).receivers g ≡ true → WaitsInOrder d g e (d.sent e.sender e.serial).stamp) same (waits_one c out outs g y) told)
      (λ (n : is_ordered (c.row f) stamp out ≡ false).
      let rest = rw n at is in
      let more : Some e ≡ sent_handle f (c.row f) stamp ((after_message c f stamp out).serial f) outs = rw upd_same rest in
      waits_among outs (after_message c f stamp out) e g more told)
      (cases_Bool (is_ordered (c.row f) stamp out))

pub sent_waits : (c : Central) (f : ℕ) (s : Service) (e : EventHandle) (o : Choice) (g : ℕ) → MayAnswer c f s (answer.Sent (Some e)) o
    → (let d = after c (Call f s) (outcome.Done (answer.Sent (Some e))) o in
    (d.sent e.sender e.serial).receivers g ≡ true → WaitsInOrder d g e (d.sent e.sender e.serial).stamp)
sent_waits c f (service.UpdateAttributeValues object values stamp) e o g may told = waits_among f stamp (update_sent c.directory object values) c e g may told
sent_waits c f (service.SendInteraction class values stamp) e o g may told = waits_among f stamp (interaction_sent c.directory f class values) c e g may told
sent_waits c f s e o g may told = absurd may
