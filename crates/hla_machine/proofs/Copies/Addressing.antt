-- Each message of a call is sent to each federate that receives it, and to no other
use Rattle.std.proofs.Common.{◌≡◌, ℕ, ◌+◌, ◌≤◌, ◌<◌, cond, ◌&&◌, Bool, true, false, refl, sym, ◌∙◌, subst, arith, eq-eqb, List, [], ◌∷◌, Option, Some, None, is_some, option_map, unwrap_or}
use Rattle.std.proofs.lemmas.Bool.{and_parts}
use Rattle.std.proofs.lemmas.Bool.Decides.{nat_tests}
use Rattle.hla_base.specs.declared.content.Content.{Content}
use Rattle.hla_base.specs.Tables.{upd, is_other, or_else, when}
use Rattle.hla_base.proofs.Tables.{by_number, upd_same, upd_other}
use Rattle.hla_machine.specs.declared.service.Service.{Service}
use Rattle.hla_machine.specs.declared.service.Service.TheVariants as service
use Rattle.hla_machine.specs.declared.service.ResignAction.TheVariants.{DeleteObjects}
use Rattle.hla_machine.specs.declared.step.Step.{Step}
use Rattle.hla_machine.specs.declared.step.Step.TheVariants.{Call}
use Rattle.hla_machine.specs.declared.step.Answer.{Answer}
use Rattle.hla_machine.specs.declared.step.Outcome.{Outcome}
use Rattle.hla_machine.specs.declared.step.Outcome.TheVariants as outcome
use Rattle.hla_machine.specs.declared.step.Choice.{Choice}
use Rattle.hla_base.specs.Rows.{is_enabled}
use Rattle.hla_catalogue.specs.declared.declared.Order.{Order}
use Rattle.hla_catalogue.specs.declared.declared.Order.TheVariants.{Receive, Timestamp}
use Rattle.hla_machine.specs.Directory.{Directory, Outgoing, is_of_order, is_receiver, content_for, objects_of, update_sent, interaction_sent, deletion_sent, deletions_sent}
use Rattle.hla_base.specs.declared.row.TimeRow.{TimeRow}
use Rattle.hla_machine.specs.Central.{Central, Copy, CopyOrder, Ro, Tso, with_copies}
use Rattle.hla_machine.specs.Sends.{copy_for, is_ordered, kept_stamp, after_message, after_messages}
use Rattle.hla_machine.specs.CentralInvariant.{CentralInv}
use Rattle.hla_machine.specs.Machine.{after_leaving, after_call, after}
use Rattle.hla_machine.specs.History.{messages_of, stamp_given, GoesAs, IsSentTo, AreSentTo}
use Rattle.hla_machine.proofs.Copies.Fates.{copies_stay}

-- nothing lies in the bag from f's next serial on
abbrev NoneAhead : Central → ℕ → Type 0
NoneAhead c f = (m g : ℕ) → c.serial f ≤ m → c.bag f m g ≡ None

none_ahead : (c : Central) (f : ℕ) → CentralInv c → NoneAhead c f
none_ahead c f laws m g high = is_none (c.bag f m g) (λ k is. laws.unused f m g k is)
  where
    is_none : (o : Option Copy) → ((k : Copy) → o ≡ Some k → m < c.serial f) → o ≡ None
    is_none None low = refl
    is_none (Some k) low = absurd (omega (arith, low k refl, high))

-- one more message leaves what has another serial
other_serial : (c : Central) (f : ℕ) (stamp : Option ℕ) (out : Outgoing) (m g : ℕ) → ((c.serial f ≡ m) → ⊥) → (after_message c f stamp out).bag f m g ≡ c.bag f m g
other_serial c f stamp out m g ne = copies_stay c.directory.joined c.bag f (c.serial f) (copy_for c.directory (c.row f) stamp out) f m g (λ _ e. ne e)

message_none : (c : Central) (f : ℕ) (stamp : Option ℕ) (out : Outgoing) → NoneAhead c f → NoneAhead (after_message c f stamp out) f
message_none c f stamp out none m g high =
    let up : c.serial f + 1 ≤ m = subst (λ (n : ℕ). n ≤ m) (upd_same c.serial f (c.serial f + 1)) high in
    other_serial c f stamp out m g (λ e. omega (arith, e, up)) ∙ none m g (omega (arith, up))

messages_same : (c : Central) (f : ℕ) (stamp : Option ℕ) (outs : List Outgoing) (m g : ℕ) → m < c.serial f → (after_messages c f stamp outs).bag f m g ≡ c.bag f m g
messages_same c f stamp [] m g low = refl
messages_same c f stamp (out ∷ outs) m g low =
    messages_same (after_message c f stamp out) f stamp outs m g (subst (λ (n : ℕ). m < n) (sym (upd_same c.serial f (c.serial f + 1))) (omega arith))
    ∙ other_serial c f stamp out m g (λ e. omega (arith, e))

-- the copies of a message where nothing lay
copy_here : (joined : ℕ → Bool) (bag : ℕ → ℕ → ℕ → Option Copy) (f m : ℕ) (copy : ℕ → Option Copy) (g : ℕ) → bag f m g ≡ None → with_copies joined bag f m copy f m g ≡ when (is_other joined f g) (copy g)
unfolding with_copies
copy_here joined bag f m copy g none = rw (eq-eqb f f refl, eq-eqb m m refl, none) (end (is_other joined f g) (copy g))
  where
    end : (b : Bool) (o : Option Copy) → or_else (when b o) None ≡ when b o
    end false o = refl
    end true None = refl
    end true (Some k) = refl

made_copy : (b : Bool) (x : Option Content) (o : CopyOrder) (s : ℕ) → (b && is_some x) ≡ true
    → (k : Copy) × (when b (option_map (λ (y : Content). let k : Copy = record { order = o; stamp = s; content = y } in k) x) ≡ Some k) × (x ≡ Some k.content) × ((k.order ≡ o) × (k.stamp ≡ s))
made_copy true (Some x) o s e = (record { order = o; stamp = s; content = x }, refl, refl, (refl, refl))
made_copy true None o s e = absurd (cc)
made_copy false x o s e = absurd (cc)

unmade_copy : (b : Bool) (x : Option Content) (make : Content → Copy) → (b && is_some x) ≡ false → when b (option_map make x) ≡ None
unmade_copy true (Some x) make e = absurd (cc)
unmade_copy true None make e = refl
unmade_copy false x make e = refl

-- a copy is made in its order
goes_as : (o : Order) (regulates : Bool) (stamp : Option ℕ) (k : Copy) → (let b = is_of_order Timestamp o && is_some stamp && regulates in k.order ≡ cond b Tso Ro → k.stamp ≡ cond b (unwrap_or stamp 0) 0 → GoesAs o regulates stamp k)
goes_as Receive regulates stamp k order kept = order
goes_as Timestamp false None k order kept = order
goes_as Timestamp true None k order kept = order
goes_as Timestamp false (Some s) k order kept = order
goes_as Timestamp true (Some s) k order kept = (order, kept)

message_sent : (c : Central) (f : ℕ) (stamp : Option ℕ) (out : Outgoing) → NoneAhead c f → IsSentTo c.directory (c.row f) stamp (after_message c f stamp out).bag f (c.serial f) out
message_sent c f stamp out none = record {
  receivers = λ g is.
      let w = made_copy (is_other c.directory.joined f g) (content_for c.directory out.body g) (cond (is_ordered (c.row f) stamp out) Tso Ro) (kept_stamp (c.row f) stamp out) is in
      (w.0, copy_here c.directory.joined c.bag f (c.serial f) (copy_for c.directory (c.row f) stamp out) g (none (c.serial f) g (omega arith)) ∙ w.1, w.2, goes_as out.order (is_enabled (c.row f).regulating) stamp w.0 w.3.0 w.3.1);
  others = λ g is. copy_here c.directory.joined c.bag f (c.serial f) (copy_for c.directory (c.row f) stamp out) g (none (c.serial f) g (omega arith)) ∙ unmade_copy (is_other c.directory.joined f g) (content_for c.directory out.body g) _ is;
}

still_sent_to : (d : Directory) (r : TimeRow) (stamp : Option ℕ) (to bag : ℕ → ℕ → ℕ → Option Copy) (f m : ℕ) (out : Outgoing) → ((g : ℕ) → to f m g ≡ bag f m g) → IsSentTo d r stamp bag f m out → IsSentTo d r stamp to f m out
still_sent_to d r stamp to bag f m out same is = record {
  receivers = λ g q. let w = is.receivers g q in (w.0, same g ∙ w.1, w.2, w.3);
  others = λ g q. same g ∙ is.others g q;
}

messages_sent : (c : Central) (f : ℕ) (stamp : Option ℕ) (outs : List Outgoing) → NoneAhead c f → AreSentTo c.directory (c.row f) stamp (after_messages c f stamp outs).bag f (c.serial f) outs
messages_sent c f stamp [] none = tt
messages_sent c f stamp (out ∷ outs) none =
    let d = after_message c f stamp out in
    let serial : d.serial f ≡ c.serial f + 1 = upd_same c.serial f (c.serial f + 1) in (
      still_sent_to c.directory (c.row f) stamp (after_messages d f stamp outs).bag d.bag f (c.serial f) out (λ g. messages_same d f stamp outs (c.serial f) g (subst (λ (n : ℕ). c.serial f < n) (sym serial) (omega arith))) (message_sent c f stamp out none),
      subst (λ (n : ℕ). AreSentTo c.directory (c.row f) stamp (after_messages d f stamp outs).bag f n outs) serial (messages_sent d f stamp outs (message_none c f stamp out none)),
    )

own : (joined : ℕ → Bool) (f g : ℕ) → is_other joined f g ≡ true → f ≡ g → ⊥
own joined f g other same = grind (arith, nat_tests)

-- the sender receives nothing of its own, so its leaving takes none of it
left_sent : (d : Directory) (r : TimeRow) (stamp : Option ℕ) (b : Central) (f m : ℕ) (outs : List Outgoing) → AreSentTo d r stamp b.bag f m outs → AreSentTo d r stamp (after_leaving b f).bag f m outs
left_sent d r stamp b f m [] are = tt
left_sent d r stamp b f m (out ∷ outs) are = (
  record {
    receivers = λ g q. let w = are.0.receivers g q in (w.0, upd_other (b.bag f m) f None g (differs g q) ∙ w.1, w.2, w.3);
    others = by_number f (λ g. is_receiver d f out.body g ≡ false → upd (b.bag f m) f None g ≡ None) (λ _. upd_same (b.bag f m) f None) (λ g ne q. upd_other (b.bag f m) f None g ne ∙ are.0.others g q);
  },
  left_sent d r stamp b f (m + 1) outs are.1,
)
  where
    differs : (g : ℕ) → is_receiver d f out.body g ≡ true → f ≡ g → ⊥
    differs g q same = let p = and_parts _ _ q in own d.joined f g p.0 same

call_sent : (c : Central) (f : ℕ) (s : Service) (o : Choice) → CentralInv c → AreSentTo c.directory (c.row f) (stamp_given s) (after_call c f s o).bag f (c.serial f) (messages_of c.directory f s)
call_sent c f (service.UpdateAttributeValues object values stamp) o laws = messages_sent c f stamp (update_sent c.directory object values) (none_ahead c f laws)
call_sent c f (service.SendInteraction class values stamp) o laws = messages_sent c f stamp (interaction_sent c.directory f class values) (none_ahead c f laws)
call_sent c f (service.DeleteObjectInstance object stamp) o laws = messages_sent c f stamp (deletion_sent c.directory object) (none_ahead c f laws)
call_sent c f (service.Resign DeleteObjects) o laws =
    let outs = deletions_sent (objects_of c.directory f) in left_sent c.directory (c.row f) None (after_messages c f None outs) f (c.serial f) outs (messages_sent c f None outs (none_ahead c f laws))
call_sent c f s o laws = tt

pub sent_by_call : (c : Central) (step : Step) (out : Outcome) (o : Choice) (f : ℕ) (s : Service) (a : Answer) → CentralInv c → step ≡ Call f s → out ≡ outcome.Done a → AreSentTo c.directory (c.row f) (stamp_given s) (after c step out o).bag f (c.serial f) (messages_of c.directory f s)
sent_by_call c step out o f s a laws is_call is_done =
    subst (λ (step : Step). AreSentTo c.directory (c.row f) (stamp_given s) (after c step out o).bag f (c.serial f) (messages_of c.directory f s)) (sym is_call)
    (subst (λ (out : Outcome). AreSentTo c.directory (c.row f) (stamp_given s) (after c (Call f s) out o).bag f (c.serial f) (messages_of c.directory f s)) (sym is_done) (call_sent c f s o laws))
