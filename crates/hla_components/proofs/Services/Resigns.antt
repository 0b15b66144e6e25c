-- A federate resigns
use Rattle.std.proofs.Common.{◌≡◌, ◌≢◌, ℕ, ◌≤◌, eqb, not, ◌&&◌, true, false, refl, sym, ap, ◌∙◌, subst, ⊎_elim, arith, eqb-true, List, [], ◌∷◌, Option, None, option_map}
use Rattle.std.proofs.lemmas.Bool.{cond_both, and_parts, and_from, cases_Bool}
use Rattle.hla_null_message.specs.declared.message.Message.{Message}
use Rattle.hla_null_message.specs.declared.message.Message.TheVariants as message
use Rattle.hla_base.specs.Tables.{forever, is_other, numbers_below, or_else, upd, upd_row, upd_whole_column}
use Rattle.hla_base.specs.Rows.{is_regulator, least_stamp, new_row}
use Rattle.hla_catalogue.specs.declared.declared.Order.TheVariants.{Receive, Timestamp}
use Rattle.hla_machine.specs.declared.service.Service.TheVariants as service
use Rattle.hla_machine.specs.declared.service.ResignAction.{ResignAction}
use Rattle.hla_machine.specs.declared.service.ResignAction.TheVariants.{ReleaseAttributes, DeleteObjects, DeleteObjectsAndReleaseAttributes, NoAction}
use Rattle.hla_machine.specs.declared.step.Step.TheVariants.{Call}
use Rattle.hla_machine.specs.Directory.{Directory, Outgoing, is_of_order, objects_of, deletions_sent, without_member}
use Rattle.hla_machine.specs.Sends.{is_ordered}
use Rattle.hla_machine.specs.Central.{Central}
use Rattle.hla_machine.specs.Machine.{after_leaving, with_points_closed}
use Rattle.hla_machine.specs.Refusals.{refusal}
use Rattle.hla_component_rules.specs.Queues.{find_event}
use Rattle.hla_null_message.specs.Wires.{events, discoveries, retractions, put_behind}
use Rattle.hla_components.specs.Components.{Components}
use Rattle.hla_components.specs.Next.{components_seen, step_outcome, with_message_sent, with_messages_sent, with_last_null, with_federate_gone}
use Rattle.hla_components.specs.CentralOf.{central, bag_of, wire_copy, tso_copy, ro_copy}
use Rattle.hla_components.specs.Invariant.{EachOf, IsTsoQueue, IsInKeyOrder, Carries, Tells, RowInv, IsTimed, CopyInv, ObjectInv, IsWired, is_wire, places_in, stamps, Kept}
use Rattle.hla_components.specs.Headline.{IsKeptStep}
use Rattle.hla_base.proofs.Tables.{by_number, upd_same, upd_other, upd_each, upd_row_each, upd_row_here, upd_row_self, upd_row_other, upd_whole_column_here, upd_whole_column_else}
use Rattle.hla_components.proofs.Basics.Each.{EachOf-passed}
use Rattle.hla_components.proofs.Wiring.Wires.{events-put_null, events-nil, discoveries-put_null, discoveries-nil, retractions-put_null, retractions-nil, occurs-nil, find-nil}
use Rattle.hla_components.proofs.Upkeep.Epochs.{silent, silent_null}
use Rattle.hla_components.proofs.Upkeep.Objects.{objects_shift, objects_queues, objects_controls, behind_nil, tells_null, tells_grows}
use Rattle.hla_components.proofs.Upkeep.Directories.{directory_left, grows_left}
use Rattle.hla_machine.proofs.Basics.Bags.{bag_ext, central_ext}
use Rattle.hla_components.proofs.Services.Retractions.{dues-nil, from-nil}
use Rattle.hla_components.proofs.Services.Joins.{row_start}
use Rattle.hla_components.proofs.Services.Telling.{notices-nil, closed_kept, central_closed}
use Rattle.hla_machine.proofs.Basics.Tests.{clear_call, caller_joined}
use Rattle.hla_components.proofs.Services.Steps.{IsSendable, wired_row, kept_sent_all, central_sent_all}
use Rattle.hla_components.proofs.Services.Updates.{Told, deletion_told, sendable}

-- ---- a federate leaves
module _ (s : Components) (f : ℕ) (kept : Kept s) (member : s.directory.joined f ≡ true) where
  abbrev row_wire : ℕ → ℕ → List Message
  row_wire = upd_row s.wire s.directory.joined f (λ _. with_last_null s f)

  abbrev wire : ℕ → ℕ → List Message
  wire = upd_whole_column (upd_row s.wire s.directory.joined f (λ _. with_last_null s f)) f []

  -- it is gone, and the points that only it had not achieved are still open
  abbrev gone : Components
  gone = record s {
    directory = without_member s.directory f;
    row = upd s.row f new_row;
    last_announced = upd s.last_announced f forever;
    tso = upd s.tso f [];
    ro = upd s.ro f [];
    controls = upd s.controls f [];
    wire = wire;
  }

  other_kept : (g k : ℕ) → is_other (upd s.directory.joined f false) g k ≡ true → is_other s.directory.joined g k ≡ true
  other_kept g k e = let p = and_parts _ _ e in and_from _ _ p.0 (upd_each s.directory.joined f false (λ j x. x ≡ true → s.directory.joined j ≡ true) (λ x. absurd (cc)) (λ _ _ x. x) k p.1)

  left_out : (g : ℕ) → is_other (upd s.directory.joined f false) g f ≡ true → ⊥
  left_out g e = let p = and_parts (not (eqb g f)) (upd s.directory.joined f false f) e in let n : upd s.directory.joined f false f ≡ false = upd_same s.directory.joined f false in cc

  -- the last words say nothing but a bound
  words : (P : List Message → Type 0) (k : ℕ) → P (put_behind (message.Null (s.epoch f) forever) (s.wire f k)) → P (s.wire f k) → P (with_last_null s f (s.wire f k))
  words P k a b = cond_both (is_regulator (s.row f)) (put_behind (message.Null (s.epoch f) forever) (s.wire f k)) (s.wire f k) P (λ _. a) (λ _. b)

  row_events : (g k : ℕ) → events (upd_row s.wire s.directory.joined f (λ _. with_last_null s f) g k) ≡ events (s.wire g k)
  row_events = upd_row_each s.wire s.directory.joined f (λ _. with_last_null s f) (λ g k ms. events ms ≡ events (s.wire g k))
      (λ k _. words (λ ms. events ms ≡ events (s.wire f k)) k (events-put_null (s.epoch f) forever (s.wire f k)) refl) (λ _ _. refl)

  row_discoveries : (g k : ℕ) → discoveries (upd_row s.wire s.directory.joined f (λ _. with_last_null s f) g k) ≡ discoveries (s.wire g k)
  row_discoveries = upd_row_each s.wire s.directory.joined f (λ _. with_last_null s f) (λ g k ms. discoveries ms ≡ discoveries (s.wire g k))
      (λ k _. words (λ ms. discoveries ms ≡ discoveries (s.wire f k)) k (discoveries-put_null (s.epoch f) forever (s.wire f k)) refl) (λ _ _. refl)

  row_retractions : (g m k : ℕ) → retractions m (upd_row s.wire s.directory.joined f (λ _. with_last_null s f) g k) ≡ retractions m (s.wire g k)
  row_retractions g m k = upd_row_each s.wire s.directory.joined f (λ _. with_last_null s f) (λ g k ms. retractions m ms ≡ retractions m (s.wire g k))
      (λ k _. words (λ ms. retractions m ms ≡ retractions m (s.wire f k)) k (retractions-put_null (s.epoch f) forever m (s.wire f k)) refl) (λ _ _. refl) g k

  row_tells : (g k : ℕ) → Tells s.directory g k (upd_row s.wire s.directory.joined f (λ _. with_last_null s f) g k)
  row_tells = upd_row_each s.wire s.directory.joined f (λ _. with_last_null s f) (Tells s.directory)
      (λ k _. words (Tells s.directory f k) k (tells_null s.directory f k (s.wire f k) (s.epoch f) forever (kept.objects.tells f k)) (kept.objects.tells f k)) kept.objects.tells

  -- ---- time
  leave_wires : (g k : ℕ) → f ≢ k → Carries (is_regulator (upd s.row f new_row g) && is_other (upd s.directory.joined f false) g k) (upd s.last_announced f forever g) (s.known_epoch k g) g (stamps s g) (s.serial g)
      (upd_row s.wire s.directory.joined f (λ _. with_last_null s f) g k) (s.bound k g)
  leave_wires = by_number f _
      (λ k ne. rw (upd_same, upd_same) (⊎_elim
      (λ (o : is_other s.directory.joined f k ≡ true). rw upd_row_here (words (λ ms. Carries false forever (s.known_epoch k f) f (stamps s f) (s.serial f) ms (s.bound k f)) k (silent_null s f kept.time k o) (silent s f kept.time f k)))
      (λ (o : is_other s.directory.joined f k ≡ false). rw upd_row_self (silent s f kept.time f k))
      (cases_Bool (is_other s.directory.joined f k))))
      (λ g ng k ne. rw (upd_other, upd_other, upd_row_other, upd_other) (kept.time.wires g k))

  leave_time : IsTimed gone
  leave_time = record {
    queues = upd_each s.tso f [] (λ _ q. IsTsoQueue q) tt (λ k _. kept.time.queues k);
    ordered = upd_each s.tso f [] (λ _ q. IsInKeyOrder q) tt (λ k _. kept.time.ordered k);
    ahead = by_number f _ (rw upd_same (λ e. absurd (cc))) (λ g ne. rw (upd_other, upd_other) (kept.time.ahead g));
    wires = λ g. by_number f _ (rw upd_whole_column_here (λ e. absurd (left_out g (and_parts (is_regulator (upd s.row f new_row g)) (is_other (upd s.directory.joined f false) g f) e).1)))
        (λ k ne. rw upd_whole_column_else (leave_wires g k ne));
    epochs = λ g k e. kept.time.epochs g k (other_kept g k e);
    regulators = by_number f _ (rw upd_same (λ e. absurd (cc))) (λ g ne. rw (upd_other, upd_other) (kept.time.regulators g));
    promised = by_number f _ (rw upd_same (λ e. absurd (cc))) (λ g ne. rw (upd_other, upd_other, upd_other) (kept.time.promised g));
    bars = by_number f _ (rw upd_same (λ e. absurd (cc))) (λ g ne. rw upd_other (kept.time.bars g));
    rows = upd_each s.row f new_row (λ _ x. RowInv x) row_start (λ g _. kept.time.rows g);
  }

  -- ---- copies
  leave_places : (g m k : ℕ) → places_in wire (upd s.tso f []) (upd s.ro f []) g m k ≤ places_in s.wire s.tso s.ro g m k
  leave_places g m = by_number f _
      (rw (upd_same, upd_same, upd_whole_column_here, events-nil, occurs-nil) (omega arith))
      (λ k ne. rw (upd_other, upd_other, upd_whole_column_else, row_events) (omega arith))

  leave_copies : CopyInv s.serial wire (upd s.tso f []) (upd s.ro f [])
  leave_copies = record {
    once = λ g m k. omega (arith, kept.copies.once g m k, leave_places g m k);
    unused = λ g m k new. omega (arith, kept.copies.unused g m k new, leave_places g m k);
    serials = λ g. by_number f _ (rw (upd_same, upd_whole_column_here, events-nil) tt) (λ k ne. rw (upd_other, upd_whole_column_else, row_events) (kept.copies.serials g k));
    rising = λ g. by_number f _ (rw (upd_whole_column_here, events-nil) tt) (λ k ne. rw (upd_whole_column_else, row_events) (kept.copies.rising g k));
    earlier = λ g. by_number f _ (rw upd_same tt) (λ k ne. rw (upd_other, upd_whole_column_else, row_events) (kept.copies.earlier g k));
  }

  -- ---- objects
  leave_objects : ObjectInv (without_member s.directory f) wire (upd s.tso f []) (upd s.ro f []) (upd s.controls f [])
  leave_objects =
      let e = without_member s.directory f in
      let t : ObjectInv e wire s.tso s.ro s.controls = objects_shift s.directory e s.wire wire s.tso s.ro s.controls (grows_left s.directory f)
      (λ g. by_number f _ (rw upd_whole_column_here tt) (λ k ne. rw upd_whole_column_else (tells_grows s.directory e g k (row_wire g k) (grows_left s.directory f) (row_tells g k))))
      (λ g. by_number f _ (λ x told b. rw (upd_whole_column_here, discoveries-nil) (behind_nil x)) (λ k ne x told b. rw (upd_whole_column_else, row_discoveries) b)) kept.objects in
      objects_controls e wire (upd s.tso f []) (upd s.ro f []) s.controls f [] tt (objects_queues e wire s.tso s.ro s.controls f [] [] tt tt t)

  leave_wired : IsWired (without_member s.directory f) wire
  leave_wired g = by_number f _ (λ _. rw upd_whole_column_here refl) (λ k ne off. rw upd_whole_column_else (wired_row s f (λ _. with_last_null s f) kept member g k (⊎_elim
      (λ (y : is_wire s.directory g k ≡ true). let p = and_parts _ _ y in let q = and_parts _ _ p.1 in
      let j : upd s.directory.joined f false k ≡ true = rw upd_other q.1 in
      let w : is_wire (without_member s.directory f) g k ≡ true = and_from _ _ p.0 (and_from _ _ q.0 j) in absurd (cc))
      (λ (n : is_wire s.directory g k ≡ false). n)
      (cases_Bool (is_wire s.directory g k)))))

  kept_gone : Kept gone
  kept_gone = record {
    directory = directory_left s.directory f kept.directory;
    wired = leave_wired;
    time = leave_time;
    copies = leave_copies;
    objects = leave_objects;
  }

  pub kept_leaves : Kept (with_federate_gone s f)
  kept_leaves = closed_kept gone kept_gone

  -- ---- the central state
  nothing_found : (g m : ℕ) → or_else (option_map wire_copy (find_event g m [])) (or_else (option_map tso_copy (find_event g m [])) (option_map ro_copy (find_event g m []))) ≡ None
  nothing_found g m = rw find-nil refl

  leave_bag : bag_of gone ≡ (λ g m. upd (bag_of s g m) f None)
  leave_bag = bag_ext _ _ (λ g m. by_number f _
      (rw (upd_same, upd_same, upd_whole_column_here, events-nil, upd_same) (nothing_found g m))
      (λ k ne. rw (upd_other, upd_other, upd_whole_column_else, row_events, upd_other) refl))

  -- a federate leaves the machine, and no point closes yet
  abbrev gone_from : Central → Central
  gone_from c = record c {
    directory = without_member c.directory f;
    row = upd c.row f new_row;
    bag = λ g m. upd (c.bag g m) f None;
    discoveries = λ g. upd (c.discoveries g) f [];
    owed = λ g m. upd (c.owed g m) f 0;
    due = λ g m. upd (c.due g m) f 0;
    notices = upd c.notices f [];
  }

  central_gone : central gone ≡ gone_from (central s)
  central_gone = central_ext _ _ refl refl refl refl leave_bag
      (λ g. by_number f _ (rw (upd_same, upd_whole_column_here, discoveries-nil, from-nil, upd_same) refl) (λ k ne. rw (upd_other, upd_whole_column_else, row_discoveries, upd_other) refl))
      (λ g m. by_number f _ (rw (upd_whole_column_here, retractions-nil, upd_same) refl) (λ k ne. rw (upd_whole_column_else, row_retractions, upd_other) refl))
      (λ g m. by_number f _ (rw (upd_same, dues-nil, upd_same) refl) (λ k ne. rw (upd_other, upd_other) refl))
      (by_number f _ (rw (upd_same, notices-nil, upd_same) refl) (λ k ne. rw (upd_other, upd_other) refl))

  pub central_leaves : central (with_federate_gone s f) ≡ after_leaving (central s) f
  central_leaves = central_closed gone ∙ ap with_points_closed central_gone

-- ---- its objects are deleted first
pub sent_directory : (s : Components) (f : ℕ) (stamp : Option ℕ) (outs : List Outgoing) → (with_messages_sent s f stamp outs).directory ≡ s.directory
sent_directory s f stamp [] = refl
sent_directory s f stamp (out ∷ outs) = sent_directory (with_message_sent s f stamp out) f stamp outs

-- without a stamp nothing goes in time-stamp order
each_unstamped_low : (s : Components) (f : ℕ) (outs : List Outgoing) → EachOf (λ (out : Outgoing). is_ordered (s.row f) None out ≡ true → least_stamp (s.row f) ≤ 0) outs
each_unstamped_low s f [] = tt
each_unstamped_low s f (out ∷ outs) = ((λ o. let p : false ≡ true = (and_parts (is_of_order Timestamp out.order) false (and_parts _ _ o).0).1 in absurd (cc)), each_unstamped_low s f outs)

deletions_told : (s : Components) (f : ℕ) (kept : Kept s) (hs : List ℕ) → EachOf (λ h. ((s.directory.object h).exists && eqb (s.directory.object h).owner f) ≡ true) hs → EachOf (Told s.directory f) (deletions_sent hs)
deletions_told s f kept [] own = tt
deletions_told s f kept (h ∷ hs) own = let p = and_parts _ _ own.0 in (deletion_told s.directory kept.directory f h p.0 (eqb-true _ _ p.1) Receive, deletions_told s f kept hs own.1)

pub step_resign : (s : Components) (f : ℕ) (way : ResignAction) → Kept s → refusal (components_seen s) (Call f (service.Resign way)) ≡ None → IsKeptStep s (Call f (service.Resign way)) (step_outcome s (Call f (service.Resign way)))
step_resign s f NoAction kept none =
    let member = caller_joined (components_seen s) f (service.Resign NoAction) none in
    record { kept = kept_leaves s f kept member; allowed = (none, tt); follows = central_leaves s f kept member }
step_resign s f DeleteObjects kept none =
    let outs = deletions_sent (objects_of s.directory f) in
    let t = with_messages_sent s f None outs in
    let member = caller_joined (components_seen s) f (service.Resign DeleteObjects) none in
    let may : EachOf (IsSendable s f None) outs = sendable s f None outs (each_unstamped_low s f outs) (deletions_told s f kept (objects_of s.directory f) (EachOf-passed _ (numbers_below s.directory.next_object))) in
    let sent = kept_sent_all s f None outs kept member may in
    let still : t.directory.joined f ≡ true = subst (λ (d : Directory). d.joined f ≡ true) (sym (sent_directory s f None outs)) member in
    record {
      kept = kept_leaves t f sent still;
      allowed = (none, tt);
      follows = central_leaves t f sent still ∙ ap (λ c. after_leaving c f) (central_sent_all s f None outs kept member may);
    }
step_resign s f ReleaseAttributes kept none = absurd (let n : true ≡ false = (clear_call (components_seen s) f (service.Resign ReleaseAttributes) none).0 in cc)
step_resign s f DeleteObjectsAndReleaseAttributes kept none = absurd (let n : true ≡ false = (clear_call (components_seen s) f (service.Resign DeleteObjectsAndReleaseAttributes) none).0 in cc)
