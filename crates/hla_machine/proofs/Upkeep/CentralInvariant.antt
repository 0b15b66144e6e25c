-- What the central state keeps by itself, whatever the step
use Rattle.std.proofs.Common.{◌≡◌, ◌≢◌, ◌⊎◌, ℕ, ◌+◌, ◌≤◌, ◌<◌, cond, eqb, ◌&&◌, Bool, true, false, refl, sym, le_trans, ◌∙◌, inl, inr, subst, ⊎_elim, arith, is_some, List, [], ◌∷◌, Option, Some, None, option_map, unwrap_or}
use Rattle.std.proofs.lemmas.Bool.{cases_eq, cond_both, and_parts, and_from, cases_Bool}
use Rattle.std.proofs.lemmas.Bool.Decides.{nat_tests}
use Rattle.hla_base.specs.declared.content.Discovery.{Discovery}
use Rattle.hla_base.specs.declared.notice.Notice.{Notice}
use Rattle.hla_base.specs.declared.number.EventHandle.{EventHandle}
use Rattle.hla_base.specs.declared.row.TimeRow.{TimeRow}
use Rattle.hla_base.specs.Tables.{upd, upd2, is_other, or_else}
use Rattle.hla_base.specs.Rows.{is_disabled}
use Rattle.hla_catalogue.specs.CatalogueValue.{CatalogueValue}
use Rattle.hla_callbacks.specs.declared.callback.Callback.{Callback}
use Rattle.hla_callbacks.specs.declared.callback.Callback.TheVariants as callback
use Rattle.hla_callbacks.specs.declared.callback.Delivery.{Delivery}
use Rattle.hla_callbacks.specs.declared.callback.Delivery.TheVariants as delivery
use Rattle.hla_machine.specs.declared.service.Service.{Service}
use Rattle.hla_machine.specs.declared.service.Service.TheVariants as service
use Rattle.hla_machine.specs.declared.service.ResignAction.{ResignAction}
use Rattle.hla_machine.specs.declared.service.ResignAction.TheVariants.{ReleaseAttributes, DeleteObjects, DeleteObjectsAndReleaseAttributes, NoAction}
use Rattle.hla_machine.specs.declared.step.Step.{Step}
use Rattle.hla_machine.specs.declared.step.Step.TheVariants.{Join, Call, Carry, Tick}
use Rattle.hla_machine.specs.declared.step.Carried.{Carried}
use Rattle.hla_machine.specs.declared.step.Carried.TheVariants as carried
use Rattle.hla_machine.specs.declared.step.Answer.{Answer}
use Rattle.hla_machine.specs.declared.step.Answer.TheVariants as answer
use Rattle.hla_machine.specs.declared.step.Outcome.{Outcome}
use Rattle.hla_machine.specs.declared.step.Outcome.TheVariants as outcome
use Rattle.hla_machine.specs.declared.step.Choice.{Choice}
use Rattle.hla_machine.specs.declared.step.Choice.TheVariants as choice
use Rattle.hla_machine.specs.Directory.{Directory, Outgoing, content_for, is_receiver, objects_of, deletions_sent, deletion_sent, update_sent, interaction_sent, with_member}
use Rattle.hla_machine.specs.Central.{Central, new_central, Copy, CopyOrder, Ro, Tso, Demoted, at_key, with_copies, is_key, demoted_order, demoted_copy}
use Rattle.hla_machine.specs.Callbacks.{with_demoted, is_among, after_delivery, after_constraint, after_pick}
use Rattle.hla_machine.specs.Sends.{after_message, after_messages, sent_event, copy_for, is_ordered, kept_stamp, is_retractable, is_told, owed_to_receivers}
use Rattle.hla_machine.specs.Machine.{central_seen, MayEnd, after, after_done, after_call, after_resign, after_carry, after_retract, after_enter, after_cease, after_leaving, after_arrival, after_retraction_arrival}
use Rattle.hla_machine.specs.Refusals.{refusal}
use Rattle.hla_machine.specs.CentralInvariant.{CentralInv}
use Rattle.hla_machine.proofs.Basics.Tests.{clear_call, not-is-false}
use Rattle.hla_base.proofs.Tables.{upd_each, by_number, upd_same, upd_other, upd2_each, upd2_same, upd2_other}
use Rattle.hla_retraction.specs.SentEvents.{SentEvent, no_event}
use Rattle.hla_machine.proofs.Basics.Bags.{option_map-some, or_else-cases, by_key, key_parts, at_key_here, at_key_else, copies_here, copies_else, at3_else}

-- what became of a copy: it says the same, with the same stamp, and has at most been moved from time-stamp order to receive order
pub record IsLaterCopy (k j : Copy) : Type 0 where
  pub content : k.content ≡ j.content
  pub stamp : k.stamp ≡ j.stamp
  pub tso : k.order ≡ Tso → j.order ≡ Tso
  pub ro : k.order ≡ Ro → j.order ≡ Ro
  pub still_ro : j.order ≡ Ro → k.order ≡ Ro

pub copy_itself : (k : Copy) → IsLaterCopy k k
copy_itself k = record { content = refl; stamp = refl; tso = λ t. t; ro = λ t. t; still_ro = λ t. t }

pub later_copy : (k j i : Copy) → IsLaterCopy k j → IsLaterCopy j i → IsLaterCopy k i
later_copy k j i a b = record { content = a.content ∙ b.content; stamp = a.stamp ∙ b.stamp; tso = λ t. b.tso (a.tso t); ro = λ t. b.ro (a.ro t); still_ro = λ t. a.still_ro (b.still_ro t) }

-- no copies but those of before, perhaps demoted
abbrev pub IsThinner : (ℕ → ℕ → ℕ → Option Copy) → (ℕ → ℕ → ℕ → Option Copy) → Type 0
IsThinner b a = (g m f : ℕ) (k : Copy) → b g m f ≡ Some k → (j : Copy) × (a g m f ≡ Some j) × IsLaterCopy k j

pub thinner_laws : (c : Central) (row : ℕ → TimeRow) (bag : ℕ → ℕ → ℕ → Option Copy) → CentralInv c → IsThinner bag c.bag → CentralInv (record c { row = row; bag = bag })
thinner_laws c row bag laws thin = record {
  stamped = λ g m f k is fine tso. let t = thin g m f k is in t.2.stamp ∙ laws.stamped g m f t.0 t.1 fine (t.2.tso tso);
  plain = λ g m f k is ro. let t = thin g m f k is in t.2.stamp ∙ laws.plain g m f t.0 t.1 (t.2.ro ro);
  followed = λ g m f k is r. let t = thin g m f k is in laws.followed g m f t.0 t.1 r;
  told = λ g m f k is fine. let t = thin g m f k is in laws.told g m f t.0 t.1 fine;
  marked = laws.marked;
  unsent = laws.unsent;
  unused = λ g m f k is. let t = thin g m f k is in laws.unused g m f t.0 t.1;
}

pub thin_same : (a : ℕ → ℕ → ℕ → Option Copy) → IsThinner a a
thin_same a g m f k is = (k, is, copy_itself k)

pub thin_removed : (a : ℕ → ℕ → ℕ → Option Copy) (g m f : ℕ) → IsThinner (at_key a g m f None) a
thin_removed a g m f = by_key g m _
    (by_number f _ (λ k is. let n : None ≡ Some k = rw at_key_here at is in absurd (cc))
    (λ l ne k is. let k2 : (is_key g m g m ≡ false) ⊎ (f ≢ l) = inr ne in (k, rw at_key_else at is, copy_itself k)))
    (λ h n other l k is. let k2 : (is_key g m h n ≡ false) ⊎ (f ≢ l) = inl other in (k, rw at_key_else at is, copy_itself k))

never_tso : (o : CopyOrder) → demoted_order o ≡ Tso → o ≡ Tso
never_tso Ro h = absurd (cc)
never_tso Tso h = refl
never_tso Demoted h = absurd (cc)

was_ro : (o : CopyOrder) → demoted_order o ≡ Ro → o ≡ Ro
was_ro Ro h = refl
was_ro Tso h = absurd (cc)
was_ro Demoted h = absurd (cc)

demoted_later : (j : Copy) → IsLaterCopy (demoted_copy j) j
demoted_later j = record { content = refl; stamp = refl; tso = never_tso j.order; ro = was_ro j.order; still_ro = λ e. rw e refl }

thin_map : (o : Option Copy) (k : Copy) → option_map demoted_copy o ≡ Some k → (j : Copy) × (o ≡ Some j) × IsLaterCopy k j
thin_map o k is = let w = option_map-some demoted_copy o k is in (w.0, w.1, subst (λ (x : Copy). IsLaterCopy x w.0) w.2 (demoted_later w.0))

pub thin_demoted : (a : ℕ → ℕ → ℕ → Option Copy) (g m f : ℕ) → IsThinner (at_key a g m f (option_map demoted_copy (a g m f))) a
thin_demoted a g m f = by_key g m _
    (by_number f _ (λ k is. thin_map (a g m f) k (rw at_key_here at is))
    (λ l ne k is. let k2 : (is_key g m g m ≡ false) ⊎ (f ≢ l) = inr ne in (k, rw at_key_else at is, copy_itself k)))
    (λ h n other l k is. let k2 : (is_key g m h n ≡ false) ⊎ (f ≢ l) = inl other in (k, rw at_key_else at is, copy_itself k))

pub thin_moved : (a : ℕ → ℕ → ℕ → Option Copy) (f : ℕ) (events : List EventHandle) → IsThinner (with_demoted a f events) a
unfolding with_demoted
thin_moved a f events g m l k is = ⊎_elim
    (λ (y : (eqb f l && is_among events g m) ≡ true). thin_map (a g m l) k (rw y at is))
    (λ (n : (eqb f l && is_among events g m) ≡ false). (k, rw n at is, copy_itself k))
    (cases_Bool (eqb f l && is_among events g m))

row_laws : (c : Central) (row : ℕ → TimeRow) → CentralInv c → CentralInv (record c { row = row })
row_laws c row laws = thinner_laws c row c.bag laws (thin_same c.bag)

-- the directory, with the same members, and the discoveries
directory_laws : (c : Central) (d : Directory) (discoveries : ℕ → ℕ → List Discovery) → d.joined ≡ c.directory.joined → CentralInv c → CentralInv (record c { directory = d; discoveries = discoveries })
directory_laws c d discoveries same laws = record {
  stamped = laws.stamped;
  plain = laws.plain;
  followed = laws.followed;
  told = λ g m f k is fine. subst (λ (joined : ℕ → Bool). (is_other joined g f && (c.sent g m).receivers f) ≡ true) (sym same) (laws.told g m f k is fine);
  marked = laws.marked;
  unsent = laws.unsent;
  unused = laws.unused;
}

-- the directory, with the same members, and what there is to be told
told_laws : (c : Central) (d : Directory) (notices : ℕ → List Notice) → d.joined ≡ c.directory.joined → CentralInv c → CentralInv (record c { directory = d; notices = notices })
told_laws c d notices same laws = record {
  stamped = laws.stamped;
  plain = laws.plain;
  followed = laws.followed;
  told = λ g m f k is fine. subst (λ (joined : ℕ → Bool). (is_other joined g f && (c.sent g m).receivers f) ≡ true) (sym same) (laws.told g m f k is fine);
  marked = laws.marked;
  unsent = laws.unsent;
  unused = laws.unused;
}

due_laws : (c : Central) (due : ℕ → ℕ → ℕ → ℕ) → CentralInv c → CentralInv (record c { due = due })
due_laws c due laws = record { stamped = laws.stamped; plain = laws.plain; followed = laws.followed; told = laws.told; marked = laws.marked; unsent = laws.unsent; unused = laws.unused }

same_copy : (x c : Copy) → Some x ≡ Some c → x ≡ c
same_copy x c h = cc

-- where the bag with copies has one, it is new or was there
pub copies_cases : (a : ℕ → ℕ → ℕ → Option Copy) (joined : ℕ → Bool) (g m : ℕ) (copy : ℕ → Option Copy) (h k f : ℕ) (x : Copy) → with_copies joined a g m copy h k f ≡ Some x
    → ((g ≡ h) × (m ≡ k) × (is_other joined g f ≡ true) × (copy f ≡ Some x)) ⊎ (a h k f ≡ Some x)
copies_cases a joined g m copy h k f x is = ⊎_elim
    (λ (y : is_key g m h k ≡ true). ⊎_elim
    (λ (o : is_other joined g f ≡ true). let p = key_parts g m h k y in
    let at : or_else (copy f) (a g m f) ≡ Some x = sym (copies_here a g m joined copy f o) ∙ subst (λ k. with_copies joined a g m copy g k f ≡ Some x) (sym p.1) (subst (λ h. with_copies joined a g m copy h k f ≡ Some x) (sym p.0) is) in
    ⊎_elim
    (λ (new : copy f ≡ Some x). inl (p.0, p.1, o, new))
    (λ (old : a g m f ≡ Some x). inr (subst (λ h. a h k f ≡ Some x) p.0 (subst (λ k. a g k f ≡ Some x) p.1 old)))
    (or_else-cases (copy f) (a g m f) x at))
    (λ (o : is_other joined g f ≡ false). let k2 : (is_key g m h k ≡ false) ⊎ (is_other joined g f ≡ false) = inr o in inr (rw copies_else at is))
    (cases_Bool (is_other joined g f)))
    (λ (y : is_key g m h k ≡ false). let k2 : (is_key g m h k ≡ false) ⊎ (is_other joined g f ≡ false) = inl y in inr (rw copies_else at is))
    (cases_Bool (is_key g m h k))

-- ---- sending
-- what a new copy is
copy_is : (d : Directory) (r : TimeRow) (stamp : Option ℕ) (out : Outgoing) (f : ℕ) (k : Copy) → copy_for d r stamp out f ≡ Some k
    → (k.stamp ≡ kept_stamp r stamp out) × (is_some (content_for d out.body f) ≡ true) × (k.order ≡ Ro → kept_stamp r stamp out ≡ 0)
copy_is d r stamp out f k is =
    let w = option_map-some (λ x. record { order = cond (is_ordered r stamp out) Tso Ro; stamp = kept_stamp r stamp out; content = x }) (content_for d out.body f) k is in
    (rw (← w.2) refl, rw w.1 refl, rw (← w.2) (ro_stamp (is_ordered r stamp out) (unwrap_or stamp 0)))
  where
    ro_stamp : (b : Bool) (t : ℕ) → cond b Tso Ro ≡ Ro → cond b t 0 ≡ 0
    ro_stamp true t h = absurd (cc)
    ro_stamp false t h = refl

-- what is kept of a message that may be retracted
event_is : (d : Directory) (r : TimeRow) (g : ℕ) (stamp : Option ℕ) (out : Outgoing) → (sent_event d r g stamp out).retractable ≡ true
    → ((sent_event d r g stamp out).stamp ≡ kept_stamp r stamp out) × ((f : ℕ) → is_receiver d g out.body f ≡ true → (sent_event d r g stamp out).receivers f ≡ true)
event_is d r g stamp out = cond_both (is_retractable r stamp out) (record { stamp = kept_stamp r stamp out; retractable = true; retracted = false; receivers = is_receiver d g out.body }) no_event
    (λ (e : SentEvent). e.retractable ≡ true → (e.stamp ≡ kept_stamp r stamp out) × ((f : ℕ) → is_receiver d g out.body f ≡ true → e.receivers f ≡ true))
    (λ _ _. (refl, λ f h. h)) (λ _ n. absurd (cc))

event_live : (d : Directory) (r : TimeRow) (g : ℕ) (stamp : Option ℕ) (out : Outgoing) → (sent_event d r g stamp out).retracted ≡ false
event_live d r g stamp out = cond_both (is_retractable r stamp out) (record { stamp = kept_stamp r stamp out; retractable = true; retracted = false; receivers = is_receiver d g out.body }) no_event
    (λ (e : SentEvent). e.retracted ≡ false) (λ _. refl) (λ _. refl)

send_laws : (c : Central) (f : ℕ) (stamp : Option ℕ) (out : Outgoing) → CentralInv c → CentralInv (after_message c f stamp out)
send_laws c f stamp out laws =
    let e = sent_event c.directory (c.row f) f stamp out in
    let copy = copy_for c.directory (c.row f) stamp out in
    let late : (g m j : ℕ) (x : Copy) → c.bag g m j ≡ Some x → (f ≢ g) ⊎ (c.serial f ≢ m) = λ g m j x is. ⊎_elim (λ (same : f ≡ g). inr (λ (e : c.serial f ≡ m). let u : m < c.serial g = laws.unused g m j x is in let v : m < c.serial f = subst (λ g. m < c.serial g) (sym same) u in omega arith)) (λ ne. inl ne) (cases_eq f g) in
    record {
      stamped = λ g m j x is. ⊎_elim
          (λ (w : (f ≡ g) × (c.serial f ≡ m) × (is_other c.directory.joined f j ≡ true) × (copy j ≡ Some x)). let k = copy_is c.directory (c.row f) stamp out j x w.3 in
          rw (← w.0, ← w.1) (rw upd2_same (λ fine tso. k.0 ∙ sym (event_is c.directory (c.row f) f stamp out fine).0)))
          (λ (old : c.bag g m j ≡ Some x). let ne = late g m j x old in rw upd2_other (laws.stamped g m j x old))
          (copies_cases c.bag c.directory.joined f (c.serial f) copy g m j x is);
      plain = λ g m j x is ro. ⊎_elim
          (λ (w : (f ≡ g) × (c.serial f ≡ m) × (is_other c.directory.joined f j ≡ true) × (copy j ≡ Some x)). let k = copy_is c.directory (c.row f) stamp out j x w.3 in k.0 ∙ k.2 ro)
          (λ (old : c.bag g m j ≡ Some x). laws.plain g m j x old ro)
          (copies_cases c.bag c.directory.joined f (c.serial f) copy g m j x is);
      followed = λ g m j x is r. ⊎_elim
          (λ (w : (f ≡ g) × (c.serial f ≡ m) × (is_other c.directory.joined f j ≡ true) × (copy j ≡ Some x)). let q : (upd2 c.sent f (c.serial f) e g m).retracted ≡ false = rw (← w.0, ← w.1) (rw upd2_same (event_live c.directory (c.row f) f stamp out)) in absurd (cc))
          (λ (old : c.bag g m j ≡ Some x). let ne = late g m j x old in laws.followed g m j x old (rw upd2_other at r))
          (copies_cases c.bag c.directory.joined f (c.serial f) copy g m j x is);
      told = λ g m j x is. ⊎_elim
          (λ (w : (f ≡ g) × (c.serial f ≡ m) × (is_other c.directory.joined f j ≡ true) × (copy j ≡ Some x)). let k = copy_is c.directory (c.row f) stamp out j x w.3 in
          rw (← w.0, ← w.1) (rw upd2_same (λ fine. and_from _ _ w.2 ((event_is c.directory (c.row f) f stamp out fine).1 j (and_from _ _ w.2 k.1)))))
          (λ (old : c.bag g m j ≡ Some x). let ne = late g m j x old in rw upd2_other (laws.told g m j x old))
          (copies_cases c.bag c.directory.joined f (c.serial f) copy g m j x is);
      marked = upd2_each c.sent f (c.serial f) e (λ g m (x : SentEvent). x.retracted ≡ true → x.retractable ≡ true) (λ r. let n : e.retracted ≡ false = event_live c.directory (c.row f) f stamp out in absurd (cc)) laws.marked;
      unsent = by_number f _
          (λ m up. let l : c.serial f + 1 ≤ m = rw upd_same at up in let ne : (f ≢ f) ⊎ (c.serial f ≢ m) = inr (λ (e : c.serial f ≡ m). omega arith) in rw upd2_other (laws.unsent f m (omega arith)))
          (λ g other m up. let l : c.serial g ≤ m = rw upd_other at up in let ne : (f ≢ g) ⊎ (c.serial f ≢ m) = inl other in rw upd2_other (laws.unsent g m l));
      unused = λ g m j x is. ⊎_elim
          (λ (w : (f ≡ g) × (c.serial f ≡ m) × (is_other c.directory.joined f j ≡ true) × (copy j ≡ Some x)). rw (← w.0, ← w.1) (rw upd_same (omega arith)))
          (λ (old : c.bag g m j ≡ Some x). le_trans (laws.unused g m j x old) (upd_each c.serial f (c.serial f + 1) (λ g y. c.serial g ≤ y) (omega arith) (λ _ _. omega arith) g))
          (copies_cases c.bag c.directory.joined f (c.serial f) copy g m j x is);
    }

sends_laws : (c : Central) (f : ℕ) (stamp : Option ℕ) (outs : List Outgoing) → CentralInv c → CentralInv (after_messages c f stamp outs)
sends_laws c f stamp [] laws = laws
sends_laws c f stamp (out ∷ outs) laws = sends_laws (after_message c f stamp out) f stamp outs (send_laws c f stamp out laws)

-- ---- retraction
key_apart : (g m h n : ℕ) → is_key g m h n ≡ false → (g ≢ h) ⊎ (m ≢ n)
key_apart g m h n e = grind (arith, nat_tests)

retract_laws : (c : Central) (f m : ℕ) → (c.sent f m).retractable ≡ true → CentralInv c → CentralInv (after_retract c f m)
unfolding owed_to_receivers
retract_laws c f m may laws =
    let e = record (c.sent f m) { retracted = true } in
    let stamp : (g n : ℕ) → (c.sent g n).stamp ≡ (upd2 c.sent f m e g n).stamp = upd2_each c.sent f m e (λ g n (x : SentEvent). (c.sent g n).stamp ≡ x.stamp) refl (λ _ _. refl) in
    let receivers : (g n j : ℕ) → (c.sent g n).receivers j ≡ (upd2 c.sent f m e g n).receivers j = λ g n j. upd2_each c.sent f m e (λ g n (x : SentEvent). (c.sent g n).receivers j ≡ x.receivers j) refl (λ _ _. refl) g n in
    let kind : (g n : ℕ) → (upd2 c.sent f m e g n).retractable ≡ (c.sent g n).retractable = upd2_each c.sent f m e (λ g n (x : SentEvent). x.retractable ≡ (c.sent g n).retractable) refl (λ _ _. refl) in
    record {
      stamped = λ g n j x is fine t. laws.stamped g n j x is (sym (kind g n) ∙ fine) t ∙ stamp g n;
      plain = laws.plain;
      followed = λ g n j x is r. ⊎_elim
          (λ (y : is_key f m g n ≡ true). let p = key_parts f m g n y in
          let told : (c.sent g n).retractable ≡ true → is_told c.directory g (c.sent g n) j ≡ true = laws.told g n j x is in
          let o : is_told c.directory f (c.sent f m) j ≡ true = subst (λ n. (c.sent f n).retractable ≡ true → is_told c.directory f (c.sent f n) j ≡ true) (sym p.1)
          (subst (λ g. (c.sent g n).retractable ≡ true → is_told c.directory g (c.sent g n) j ≡ true) (sym p.0) told) may in
          rw (y, o) (omega arith))
          (λ (other : is_key f m g n ≡ false). let ne = key_apart f m g n other in let r2 : (c.sent g n).retracted ≡ true = rw upd2_other at r in omega (arith, laws.followed g n j x is r2))
          (cases_Bool (is_key f m g n));
      told = λ g n j x is fine. let p = and_parts _ _ (laws.told g n j x is (sym (kind g n) ∙ fine)) in and_from _ _ p.0 (sym (receivers g n j) ∙ p.1);
      marked = upd2_each c.sent f m e (λ g m (x : SentEvent). x.retracted ≡ true → x.retractable ≡ true) (λ _. may) laws.marked;
      unsent = λ g n up. kind g n ∙ laws.unsent g n up;
      unused = laws.unused;
    }

came_laws : (c : Central) (g f m : ℕ) → CentralInv c → CentralInv (after_retraction_arrival c g f m)
came_laws c g f m laws =
    let base = thinner_laws c c.row (at_key c.bag g m f None) laws (thin_removed c.bag g m f) in
    record {
      stamped = base.stamped;
      plain = base.plain;
      followed = by_key g m _
          (by_number f _ (λ k is. let n : None ≡ Some k = rw at_key_here at is in absurd (cc))
          (λ l ne k is r. let k2 : (is_key g m g m ≡ false) ⊎ (f ≢ l) = inr ne in rw at3_else (base.followed g m l k is r)))
          (λ h n other l k is r. let k2 : (is_key g m h n ≡ false) ⊎ (f ≢ l) = inl other in rw at3_else (base.followed h n l k is r));
      told = base.told;
      marked = base.marked;
      unsent = base.unsent;
      unused = base.unused;
    }

-- ---- members
join_laws : (c : Central) (name : List ℕ) (row : ℕ → TimeRow) (notices : ℕ → List Notice) → CentralInv c → CentralInv (record c { directory = with_member c.directory name; row = row; notices = notices })
join_laws c name row notices laws = record {
  stamped = laws.stamped;
  plain = laws.plain;
  followed = laws.followed;
  told = λ g m f k is fine. let p = and_parts _ _ (laws.told g m f k is fine) in let q = and_parts _ _ p.0 in
      and_from _ _ (and_from _ _ q.0 (upd_each c.directory.joined c.directory.next_federate true (λ j x. c.directory.joined j ≡ true → x ≡ true) (λ _. refl) (λ _ _ e. e) f q.1)) p.1;
  marked = laws.marked;
  unsent = laws.unsent;
  unused = laws.unused;
}

left_laws : (c : Central) (f : ℕ) → CentralInv c → CentralInv (after_leaving c f)
left_laws c f laws =
    let was : (g m k : ℕ) (x : Copy) → upd (c.bag g m) f None k ≡ Some x → (f ≢ k) × (c.bag g m k ≡ Some x) = λ g m. by_number f _
    (λ x is. let n : None ≡ Some x = rw upd_same at is in absurd (cc)) (λ k ne x is. (ne, rw upd_other at is)) in
    record {
      stamped = λ g m k x is. laws.stamped g m k x (was g m k x is).1;
      plain = λ g m k x is. laws.plain g m k x (was g m k x is).1;
      followed = λ g m k x is r. let w = was g m k x is in let ne : f ≢ k = w.0 in rw upd_other (laws.followed g m k x w.1 r);
      told = λ g m k x is fine. let w = was g m k x is in let ne : f ≢ k = w.0 in let p = and_parts _ _ (laws.told g m k x w.1 fine) in let q = and_parts _ _ p.0 in
          and_from _ _ (and_from _ _ q.0 (upd_other c.directory.joined f false k ne ∙ q.1)) p.1;
      marked = laws.marked;
      unsent = laws.unsent;
      unused = λ g m k x is. laws.unused g m k x (was g m k x is).1;
    }

resign_laws : (c : Central) (f : ℕ) (way : ResignAction) → CentralInv c → CentralInv (after_resign c f way)
resign_laws c f DeleteObjects laws = let outs = deletions_sent (objects_of c.directory f) in left_laws (after_messages c f None outs) f (sends_laws c f None outs laws)
resign_laws c f NoAction laws = left_laws c f laws
resign_laws c f ReleaseAttributes laws = laws
resign_laws c f DeleteObjectsAndReleaseAttributes laws = laws

-- ---- services
enter_laws : (c : Central) (f lookahead : ℕ) (o : Choice) → CentralInv c → CentralInv (after_enter c f lookahead o)
enter_laws c f lookahead choice.None laws = laws
enter_laws c f lookahead (choice.Entry e) laws = row_laws c _ laws
enter_laws c f lookahead (choice.Moved events) laws = laws

cease_laws : (c : Central) (f : ℕ) (o : Choice) → CentralInv c → CentralInv (after_cease c f o)
cease_laws c f choice.None laws = laws
cease_laws c f (choice.Entry e) laws = laws
cease_laws c f (choice.Moved events) laws = thinner_laws c _ _ laws (thin_moved c.bag f events)

call_laws : (c : Central) (f : ℕ) (s : Service) (o : Choice) → refusal (central_seen c) (Call f s) ≡ None → CentralInv c → CentralInv (after_call c f s o)
call_laws c f (service.Resign way) o none laws = resign_laws c f way laws
call_laws c f (service.PublishObjectClass class attributes) o none laws = directory_laws c _ c.discoveries refl laws
call_laws c f (service.UnpublishObjectClass class) o none laws = directory_laws c _ c.discoveries refl laws
call_laws c f (service.SubscribeObjectClassAttributes class attributes) o none laws = directory_laws c _ _ refl laws
call_laws c f (service.UnsubscribeObjectClass class) o none laws = directory_laws c _ c.discoveries refl laws
call_laws c f (service.PublishInteractionClass class) o none laws = directory_laws c _ c.discoveries refl laws
call_laws c f (service.UnpublishInteractionClass class) o none laws = directory_laws c _ c.discoveries refl laws
call_laws c f (service.SubscribeInteractionClass class) o none laws = directory_laws c _ c.discoveries refl laws
call_laws c f (service.UnsubscribeInteractionClass class) o none laws = directory_laws c _ c.discoveries refl laws
call_laws c f (service.RegisterObjectInstance class name) o none laws = directory_laws c _ _ refl laws
call_laws c f (service.UpdateAttributeValues object values stamp) o none laws = sends_laws c f stamp (update_sent c.directory object values) laws
call_laws c f (service.SendInteraction class values stamp) o none laws = sends_laws c f stamp (interaction_sent c.directory f class values) laws
call_laws c f (service.DeleteObjectInstance object stamp) o none laws = let outs = deletion_sent c.directory object in let t = after_messages c f stamp outs in directory_laws t _ t.discoveries refl (sends_laws c f stamp outs laws)
call_laws c f (service.ChangeAttributeOrderType object attributes order) o none laws = directory_laws c _ c.discoveries refl laws
call_laws c f (service.ChangeInteractionOrderType class order) o none laws = directory_laws c _ c.discoveries refl laws
call_laws c f (service.Retract event) o none laws = retract_laws c f event.serial (and_parts _ _ (and_parts _ _ (and_parts _ _ (and_parts _ _ (not-is-false _ (clear_call (central_seen c) f (service.Retract event) none).0)).1).0).0).1 laws
call_laws c f (service.RegisterFederationSynchronizationPoint label) o none laws = told_laws c _ _ refl laws
call_laws c f (service.SynchronizationPointAchieved label) o none laws = told_laws c _ _ refl laws
call_laws c f (service.EnableTimeRegulation time lookahead) o none laws = enter_laws c f lookahead o laws
call_laws c f service.DisableTimeRegulation o none laws = row_laws c _ laws
call_laws c f service.EnableTimeConstrained o none laws = row_laws c _ laws
call_laws c f service.DisableTimeConstrained o none laws = cease_laws c f o laws
call_laws c f (service.TimeAdvanceRequest time) o none laws = row_laws c _ laws
call_laws c f (service.TimeAdvanceRequestAvailable time) o none laws = row_laws c _ laws
call_laws c f (service.NextEventRequest time) o none laws = row_laws c _ laws
call_laws c f (service.NextEventRequestAvailable time) o none laws = row_laws c _ laws
call_laws c f (service.FlushQueueRequest time) o none laws = row_laws c _ laws
call_laws c f (service.ModifyLookahead lookahead) o none laws = row_laws c _ laws
call_laws c f service.EnableAsynchronousDelivery o none laws = row_laws c _ laws
call_laws c f service.DisableAsynchronousDelivery o none laws = row_laws c _ laws
call_laws c f s o none laws = laws

-- ---- other steps
arrived_laws : (c : Central) (g f m : ℕ) → CentralInv c → CentralInv (after_arrival c g f m)
arrived_laws c g f m laws = thinner_laws c c.row _ laws
    (cond_both (is_disabled (c.row f).constrained) (at_key c.bag g m f (option_map demoted_copy (c.bag g m f))) c.bag (λ b. IsThinner b c.bag) (λ _. thin_demoted c.bag g m f) (λ _. thin_same c.bag))

carry_laws : (c : Central) (g f : ℕ) (x : Carried) → CentralInv c → CentralInv (after_carry c g f x)
carry_laws c g f carried.Nothing laws = laws
carry_laws c g f (carried.Null bound) laws = laws
carry_laws c g f (carried.Event e) laws = arrived_laws c g f e.serial laws
carry_laws c g f (carried.Removal e) laws = arrived_laws c g f e.serial laws
carry_laws c g f (carried.Retraction e) laws = came_laws c g f e.serial laws
carry_laws c g f (carried.Discovery object) laws = laws

delivery_laws : (c : Central) (f : ℕ) (e : EventHandle) (d : Delivery) → CentralInv c → CentralInv (after_delivery c f e d)
delivery_laws c f e delivery.Receive laws = thinner_laws c c.row _ laws (thin_removed c.bag e.sender e.serial f)
delivery_laws c f e (delivery.Demoted s) laws = thinner_laws c c.row _ laws (thin_removed c.bag e.sender e.serial f)
delivery_laws c f e (delivery.TimeStamp s) laws = thinner_laws c _ _ laws (thin_removed c.bag e.sender e.serial f)

constraint_laws : (c : Central) (f : ℕ) (o : Choice) → CentralInv c → CentralInv (after_constraint c f o)
constraint_laws c f choice.None laws = laws
constraint_laws c f (choice.Entry e) laws = laws
constraint_laws c f (choice.Moved events) laws = thinner_laws c _ _ laws (thin_moved c.bag f events)

pick_laws : (c : Central) (f : ℕ) (k : Callback) (o : Choice) → CentralInv c → CentralInv (after_pick c f k o)
pick_laws c f (callback.DiscoverObjectInstance object class name) o laws = directory_laws c c.directory _ refl laws
pick_laws c f (callback.ReflectAttributeValues object values event d) o laws = delivery_laws c f event d laws
pick_laws c f (callback.ReceiveInteraction class values event d) o laws = delivery_laws c f event d laws
pick_laws c f (callback.RemoveObjectInstance object event d) o laws = delivery_laws c f event d laws
pick_laws c f (callback.TimeRegulationEnabled time) o laws = row_laws c _ laws
pick_laws c f (callback.TimeConstrainedEnabled time) o laws = constraint_laws c f o laws
pick_laws c f (callback.TimeAdvanceGrant time) o laws = row_laws c _ laws
pick_laws c f (callback.RequestRetraction event) o laws = due_laws c _ laws
pick_laws c f (callback.SynchronizationPointRegistrationSucceeded label) o laws = told_laws c _ _ refl laws
pick_laws c f (callback.SynchronizationPointRegistrationFailed label) o laws = told_laws c _ _ refl laws
pick_laws c f (callback.AnnounceSynchronizationPoint label) o laws = told_laws c _ _ refl laws
pick_laws c f (callback.FederationSynchronized label) o laws = told_laws c _ _ refl laws

done_laws : (c : Central) (step : Step) (a : Answer) (o : Choice) → refusal (central_seen c) step ≡ None → CentralInv c → CentralInv (after_done c step a o)
done_laws c (Join name) a o none laws = join_laws c name _ _ laws
done_laws c (Call f s) a o none laws = call_laws c f s o none laws
done_laws c (Carry from to) (answer.Carried x) o none laws = carry_laws c from to x laws
done_laws c (Tick f) (answer.Ticked (Some k)) o none laws = pick_laws c f k o laws
done_laws c step a o none laws = laws

-- ---- each step keeps them
pub laws_after : (c : Central) (step : Step) (out : Outcome) (o : Choice) → MayEnd c step out o → CentralInv c → CentralInv (after c step out o)
laws_after c step (outcome.Done a) o may laws = done_laws c step a o may.0 laws
laws_after c (Tick f) (outcome.Failed k) o may laws = pick_laws c f k o laws
laws_after c step out o may laws = laws

pub laws_start : (catalogue : CatalogueValue) → CentralInv (new_central catalogue)
laws_start catalogue = record {
  stamped = λ _ _ _ _ e. absurd (cc);
  plain = λ _ _ _ _ e. absurd (cc);
  followed = λ _ _ _ _ e. absurd (cc);
  told = λ _ _ _ _ e. absurd (cc);
  marked = λ _ _ r. absurd (cc);
  unsent = λ _ _ _. refl;
  unused = λ _ _ _ _ e. absurd (cc);
}
