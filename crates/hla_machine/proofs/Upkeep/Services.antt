-- Joining, resigning, sending and the services of time management keep the machine's law
use Rattle.std.proofs.Common.{◌≡◌, ℕ, ◌+◌, ◌≤◌, ◌<◌, cond, eqb, ltb, not, ◌&&◌, ◌||◌, Bool, true, false, refl, le_trans, inl, ⊎_elim, arith, eqb-true, List, [], ◌∷◌, Option, Some, None, unwrap_or}
use Rattle.std.proofs.lemmas.Bool.{cond_both, and_parts, and_cases, or_parts, ltb-false}
use Rattle.hla_base.specs.declared.row.AdvanceKind.{AdvanceKind}
use Rattle.hla_base.specs.declared.row.AdvanceRequest.{AdvanceRequest}
use Rattle.hla_base.specs.declared.row.Role.TheVariants.{Disabled}
use Rattle.hla_base.specs.declared.row.TimeRow.{TimeRow}
use Rattle.hla_base.specs.Tables.{upd}
use Rattle.hla_base.specs.Rows.{is_next, is_flush, is_regulator, is_constrained, is_none_of, least_stamp, row_after_request, row_with_entry, new_row, bar_of}
use Rattle.hla_catalogue.specs.declared.declared.Order.TheVariants.{Timestamp}
use Rattle.hla_machine.specs.declared.service.Service.TheVariants as service
use Rattle.hla_machine.specs.declared.service.ResignAction.{ResignAction}
use Rattle.hla_machine.specs.declared.service.ResignAction.TheVariants.{ReleaseAttributes, DeleteObjects, DeleteObjectsAndReleaseAttributes, NoAction}
use Rattle.hla_machine.specs.declared.step.Answer.{Answer}
use Rattle.hla_machine.specs.declared.step.Answer.TheVariants as answer
use Rattle.hla_machine.specs.declared.step.Choice.{Choice}
use Rattle.hla_machine.specs.declared.step.Choice.TheVariants as choice
use Rattle.hla_machine.specs.Directory.{Outgoing, is_of_order, objects_of, deletions_sent}
use Rattle.hla_machine.specs.Central.{Central, Copy, low_entry}
use Rattle.hla_machine.specs.Callbacks.{with_demoted, with_central_row}
use Rattle.hla_machine.specs.Sends.{is_ordered, is_some_ordered, after_message, after_messages}
use Rattle.hla_base.specs.RowRefusals.{request_tests}
use Rattle.hla_machine.specs.Refusals.{is_bad_stamp}
use Rattle.hla_machine.specs.Machine.{MayEnter, MayAnswer, after_leaving, after_resign, after_retract, after_enter, after_cease, after_join}
use Rattle.hla_base.proofs.Tables.{by_number, upd_same, upd_other, upd_each, upd2_each, le_greatest, greatest_ge}
use Rattle.hla_retraction.specs.SentEvents.{SentEvent}
use Rattle.hla_machine.proofs.Basics.Tests.{AllClear, not-is-false}
use Rattle.hla_machine.proofs.Basics.Rows.{RowLaw, law_new, law_requested, law_free, law_stopped, law_asynchronous, law_entered, out_low}
use Rattle.hla_machine.proofs.Upkeep.Keeps.{IsCentralKept, NoMore, low_fewer, low_weaker, fewer_moved, keeps_low, keeps_row, keeps_rest, old_out, keeps_sent}

pub none_from : (o : Option AdvanceRequest) → not (is_none_of o) ≡ false → o ≡ None
none_from None h = refl
none_from (Some q) h = absurd (cc)

pub same_bag : (bag : ℕ → ℕ → ℕ → Option Copy) → NoMore bag bag
same_bag bag g m f k is tso = is

-- ---- members
pub join_keeps : (c : Central) (name : List ℕ) → IsCentralKept c → IsCentralKept (after_join c name)
join_keeps c name k =
    let n = c.directory.next_federate in
    record {
      members = upd_each c.directory.joined n true (λ f x. x ≡ true → f < n + 1) (λ _. omega arith) (λ f _ e. let l = k.members f e in omega arith);
      regulators = by_number n _ (λ _. upd_same c.directory.joined n true) (λ g ne. rw (upd_other, upd_other) (k.regulators g));
      constrained = by_number n _ (λ _. upd_same c.directory.joined n true) (λ g ne. rw (upd_other, upd_other) (k.constrained g));
      rows = upd_each c.row n new_row (λ _ x. RowLaw x) law_new (λ g _. k.rows g);
      bounded = by_number n _ (rw upd_same (λ e. absurd (cc))) (λ l nl. rw upd_other (λ con. let b = k.bounded l con in (
        b.0,
        by_number n _
            (λ j ne. rw upd_same (λ reg. absurd (cc))) (λ g ng j ne. rw upd_other (λ reg. b.1 g (rw upd_other at j) ne reg)),
      )));
      ahead = by_number n _ (rw upd_same (λ e. absurd (cc))) (λ l nl. rw upd_other (k.ahead l));
      unused = k.unused;
    }

pub left_fewer : (c : Central) (f : ℕ) → NoMore (λ g m. upd (c.bag g m) f None) c.bag
left_fewer c f g m = by_number f _ (λ k is tso. absurd (let e : None ≡ Some k = rw upd_same at is in cc)) (λ l ne k is tso. rw upd_other at is)

pub left_keeps : (c : Central) (f : ℕ) → IsCentralKept c → IsCentralKept (after_leaving c f)
left_keeps c f k = record {
  members = upd_each c.directory.joined f false (λ g x. x ≡ true → g < c.directory.next_federate) (λ e. absurd (cc)) (λ g _. k.members g);
  regulators = by_number f _ (rw upd_same (λ e. absurd (cc))) (λ g ne. rw (upd_other, upd_other) (k.regulators g));
  constrained = by_number f _ (rw upd_same (λ e. absurd (cc))) (λ g ne. rw (upd_other, upd_other) (k.constrained g));
  rows = upd_each c.row f new_row (λ _ x. RowLaw x) law_new (λ g _. k.rows g);
  bounded = by_number f _ (rw upd_same (λ e. absurd (cc))) (λ l nl. rw upd_other (λ con. let b = k.bounded l con in (
    b.0,
    by_number f _
        (λ j ne. rw upd_same (λ reg. absurd (cc)))
        (λ g ng j ne. rw upd_other (λ reg. out_low _ _ (c.row g) (c.row l).bar (low_weaker c.bag c.sent g) (λ x _. low_fewer (λ g m. upd (c.bag g m) f None) c.bag c.sent (left_fewer c f) g x) (b.1 g (rw upd_other at j) ne reg))),
  )));
  ahead = by_number f _ (rw upd_same (λ e. absurd (cc))) (λ l nl. rw upd_other (λ con. low_fewer (λ g m. upd (c.bag g m) f None) c.bag c.sent (left_fewer c f) l (c.row l).time (k.ahead l con)));
  unused = λ g m l x is tso. k.unused g m l x (left_fewer c f g m l x is tso) tso;
}

-- ---- sending
abbrev pub EachHigh : TimeRow → Option ℕ → List Outgoing → Type 0
EachHigh r stamp [] = Unit {0}
EachHigh r stamp (out ∷ outs) = (is_ordered r stamp out ≡ true → least_stamp r ≤ unwrap_or stamp 0) × EachHigh r stamp outs

high_each : (r : TimeRow) (stamp : Option ℕ) (outs : List Outgoing) → (is_some_ordered r stamp outs ≡ true → least_stamp r ≤ unwrap_or stamp 0) → EachHigh r stamp outs
high_each r stamp [] h = tt
high_each r stamp (out ∷ outs) h = (
  (λ o. h (rw o refl)),
  high_each r stamp outs (λ some. h (cond_both (is_ordered r stamp out) true (is_some_ordered r stamp outs) (λ b. b ≡ true) (λ _. refl) (λ _. some))),
)

pub high_stamps : (r : TimeRow) (stamp : Option ℕ) (outs : List Outgoing) → is_bad_stamp r stamp outs ≡ false → EachHigh r stamp outs
high_stamps r stamp outs fine = high_each r stamp outs (λ some. ⊎_elim
    (λ (n : is_some_ordered r stamp outs ≡ false). absurd (cc))
    (λ (n : ltb (unwrap_or stamp 0) (least_stamp r) ≡ false). ltb-false _ _ n)
    (and_cases _ _ (or_parts _ _ fine).1))

pub each_high_unstamped : (r : TimeRow) (outs : List Outgoing) → EachHigh r None outs
each_high_unstamped r [] = tt
each_high_unstamped r (out ∷ outs) = ((λ o. let p : false ≡ true = (and_parts (is_of_order Timestamp out.order) false (and_parts _ _ o).0).1 in absurd (cc)), each_high_unstamped r outs)

pub sends_keep : (c : Central) (f : ℕ) (stamp : Option ℕ) (outs : List Outgoing) → EachHigh (c.row f) stamp outs → IsCentralKept c → IsCentralKept (after_messages c f stamp outs)
sends_keep c f stamp [] high k = k
sends_keep c f stamp (out ∷ outs) high k = sends_keep (after_message c f stamp out) f stamp outs high.1 (keeps_sent c f stamp out k high.0)

pub resign_keeps : (c : Central) (f : ℕ) (way : ResignAction) → IsCentralKept c → IsCentralKept (after_resign c f way)
resign_keeps c f DeleteObjects k = let outs = deletions_sent (objects_of c.directory f) in left_keeps (after_messages c f None outs) f (sends_keep c f None outs (each_high_unstamped (c.row f) outs) k)
resign_keeps c f NoAction k = left_keeps c f k
resign_keeps c f ReleaseAttributes k = k
resign_keeps c f DeleteObjectsAndReleaseAttributes k = k

-- ---- rows of federates at rest
module _ (c : Central) (f : ℕ) (k : IsCentralKept c) (member : c.directory.joined f ≡ true) where
  pub rest : (r : TimeRow) → RowLaw r → (c.row f).advance ≡ None → (c.row f).floor ≤ r.floor → (is_regulator r ≡ true → is_regulator (c.row f) ≡ true)
      → (is_constrained r ≡ true → (is_constrained (c.row f) ≡ true) × (r.bar ≡ (c.row f).bar) × (r.time ≡ (c.row f).time)) → IsCentralKept (with_central_row c f r)
  rest r law idle up role con = keeps_rest c.directory.next_federate c.directory.joined c.row c.serial c.bag c.bag c.sent f r k (same_bag c.bag) member law idle up role con

  pub ask_keeps : (x : AdvanceKind) (a : ℕ) → AllClear (request_tests (c.row f) a) → IsCentralKept (with_central_row c f (row_after_request (c.row f) x a))
  ask_keeps x a clear =
      let idle = none_from (c.row f).advance clear.0 in let c1 = clear.1 in let c2 = c1.1 in
      rest (row_after_request (c.row f) x a) (law_requested (c.row f) x a (k.rows f) idle c1.0 c2.0) idle
      (cond_both ((is_next x || is_flush x) && is_constrained (c.row f)) (c.row f).floor _ (λ y. (c.row f).floor ≤ y) (λ _. omega arith) (λ _. omega arith)) (λ e. e) (λ e. (e, refl, refl))

  pub stop_keeps : IsCentralKept (with_central_row c f (record (c.row f) { regulating = Disabled }))
  stop_keeps = keeps_row c.directory.next_federate c.directory.joined c.row c.serial c.bag c.bag c.sent f _ k (record {
    fewer = same_bag c.bag;
    member = member;
    law = law_stopped (c.row f) (k.rows f);
    out = λ reg. absurd (cc);
    bar = k.bounded f;
    ahead = k.ahead f;
  })

  pub asynchronous_keeps : (b : Bool) → IsCentralKept (with_central_row c f (record (c.row f) { asynchronous = b }))
  asynchronous_keeps b = keeps_row c.directory.next_federate c.directory.joined c.row c.serial c.bag c.bag c.sent f _ k (record {
    fewer = same_bag c.bag;
    member = member;
    law = law_asynchronous (c.row f) b (k.rows f);
    out = old_out c.directory.next_federate c.directory.joined c.row c.serial c.bag c.bag c.sent f (c.row f) k;
    bar = k.bounded f;
    ahead = k.ahead f;
  })

  -- all that others count on lies below the entry
  pub enter_keeps : (lookahead e earliest : ℕ) → (c.row f).advance ≡ None → (c.row f).time ≤ earliest → low_entry c.directory c.row earliest ≤ e → IsCentralKept (with_central_row c f (row_with_entry (c.row f) lookahead e))
  unfolding low_entry
  enter_keeps lookahead e earliest idle late low =
      let base : earliest ≤ e = le_trans (greatest_ge c.directory.next_federate earliest (λ g. bar_of (c.row g))) low in
      let above : (g : ℕ) → is_constrained (c.row g) ≡ true → (c.row g).bar ≤ e = λ g con.
      let h : cond (is_constrained (c.row g)) (c.row g).bar 0 ≤ e = le_trans (le_greatest c.directory.next_federate earliest (λ g. bar_of (c.row g)) g (k.members g (k.constrained g con))) low in rw con at h in
      keeps_row c.directory.next_federate c.directory.joined c.row c.serial c.bag c.bag c.sent f (row_with_entry (c.row f) lookahead e) k (record {
        fewer = same_bag c.bag;
        member = member;
        law = law_entered (c.row f) lookahead e (k.rows f) idle (le_trans late base) (above f);
        out = λ _ v l ne con same. inl (omega (arith, same, above l con));
        bar = k.bounded f;
        ahead = k.ahead f;
      })

pub entry_may : (c : Central) (f time lookahead : ℕ) (a : Answer) (o : Choice) → MayAnswer c f (service.EnableTimeRegulation time lookahead) a o → MayEnter c f (time + lookahead) o
entry_may c f time lookahead answer.Done o h = h
entry_may c f time lookahead a o h = absurd h

pub not_early : (r : TimeRow) (b : Bool) (t limit : ℕ) → (ltb limit t || cond b (not (eqb t r.time)) (ltb t r.time)) ≡ false → r.time ≤ t
not_early r true t limit h = let e = eqb-true t r.time (not-is-false _ (or_parts _ _ h).1) in omega arith
not_early r false t limit h = ltb-false t r.time (or_parts _ _ h).1

pub enter_after : (c : Central) (f lookahead earliest : ℕ) (o : Choice) → IsCentralKept c → c.directory.joined f ≡ true → (c.row f).advance ≡ None → (c.row f).time ≤ earliest → MayEnter c f earliest o → IsCentralKept (after_enter c f lookahead o)
enter_after c f lookahead earliest (choice.Entry e) k member idle late may = enter_keeps c f k member lookahead e earliest idle late may.0
enter_after c f lookahead earliest o k member idle late may = absurd may

pub cease_after : (c : Central) (f : ℕ) (o : Choice) → IsCentralKept c → c.directory.joined f ≡ true → (c.row f).advance ≡ None → IsCentralKept (after_cease c f o)
cease_after c f (choice.Moved events) k member idle = keeps_rest c.directory.next_federate c.directory.joined c.row c.serial c.bag (with_demoted c.bag f events) c.sent f (record (c.row f) { constrained = Disabled }) k (fewer_moved c.bag f events) member
    (law_free (c.row f) (k.rows f)) idle (omega arith) (λ e. e) (λ e. absurd (cc))
cease_after c f o k member idle = k

pub retract_keeps : (c : Central) (f m : ℕ) → IsCentralKept c → IsCentralKept (after_retract c f m)
retract_keeps c f m k = keeps_low c.directory.next_federate c.directory.joined c.row c.serial c.bag c.bag c.sent _ (same_bag c.bag)
    (λ l x low h n y is live tso. low h n y is (upd2_each c.sent f m (record (c.sent f m) { retracted = true }) (λ h n (e : SentEvent). e.retracted ≡ false → (c.sent h n).retracted ≡ false) (λ e. absurd (cc)) (λ _ _ e. e) h n live) tso) k
