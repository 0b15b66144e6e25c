-- What each change of the state keeps
use Rattle.std.proofs.Common.{◌≡◌, ◌≢◌, inl, inr, le_trans, ℕ, ◌+◌, ◌≤◌, max, min, ◌&&◌, ◌||◌, Bool, true, false, refl, sym, ◌∙◌, subst, ⊎_elim, arith, List, ◌∷◌, Option, Some, None}
use Rattle.std.proofs.lemmas.Bool.{cond_both, cases_Bool}
use Rattle.hla_base.specs.declared.row.AdvanceKind.{AdvanceKind}
use Rattle.hla_base.specs.declared.row.AdvanceRequest.{AdvanceRequest}
use Rattle.hla_base.specs.declared.row.Role.TheVariants.{Disabled}
use Rattle.hla_base.specs.declared.row.TimeRow.{TimeRow}
use Rattle.hla_base.specs.Tables.{forever, upd, upd2, upd_row, is_other}
use Rattle.hla_base.specs.Rows.{is_strict, is_next, is_flush, is_regulator, is_constrained, keep_if, width, next_request, row_after_request, row_with_entry, RowNumbers}
use Rattle.hla_base.proofs.Tables.{upd_each, upd_same, upd_other, upd2_each, upd2_same, upd2_other, upd_row_each, upd_row_here, upd_row_other, upd_column_here, upd_column_other, by_number, by_pair}
use Rattle.hla_null_message.specs.declared.message.Message.{Message}
use Rattle.hla_null_message.specs.declared.message.Message.TheVariants as message
use Rattle.hla_null_message.specs.Promise.{promise_in}
use Rattle.hla_component_rules.specs.Queues.{first_stamp}
use Rattle.hla_machine.specs.Directory.{Directory, Outgoing, content_for, discoveries_of}
use Rattle.hla_components.specs.Components.{Components}
use Rattle.hla_components.specs.Component.{local_bound}
use Rattle.hla_null_message.specs.Wires.{put_behind}
use Rattle.hla_components.specs.Next.{put_discoveries, with_message_sent, with_regulation_enabled, with_regulation_disabled, with_null_accepted}
use Rattle.hla_components.specs.Invariant.{Carries, Inv, stamps}
use Rattle.hla_progress.specs.Promises.{bound_after, is_raised_late, IsRaised, PromiseInv, KeepsPromises}
use Rattle.hla_progress.proofs.Keeping.Bounds.{bound_after-null, bound_after-event, bound_after-discoveries, bound_after-older}

-- ---- rows
pub raised_idle : (r : TimeRow) → r.advance ≡ None → IsRaised r
raised_idle r idle q asks late = absurd (cc)

asked_raised : (r : TimeRow) (k : AdvanceKind) (a : ℕ) (q : AdvanceRequest) → record { kind = k; asked = a } ≡ q → is_raised_late r q ≡ false → q.asked + width r.lookahead q.kind ≤ (row_after_request r k a).floor
asked_raised r k a q is late = subst (λ (x : AdvanceRequest). x.asked + width r.lookahead x.kind ≤ (row_after_request r k a).floor) is
    (cond_both ((is_next k || is_flush k) && is_constrained r) r.floor (max r.floor (a + width r.lookahead k)) (λ x. a + width r.lookahead k ≤ x)
    (λ y. let n : is_raised_late r (record { kind = k; asked = a }) ≡ false = subst (λ (x : AdvanceRequest). is_raised_late r x ≡ false) (sym is) late in absurd (cc))
    (λ _. omega arith))

same_request : (p q : AdvanceRequest) → Some p ≡ Some q → p ≡ q
same_request p q e = cc

pub raised_asking : (r : TimeRow) (k : AdvanceKind) (a : ℕ) → IsRaised (row_after_request r k a)
raised_asking r k a q asks late = asked_raised r k a q (same_request _ q asks) late

-- ---- what is announced is no more than FOREVER
width_cap : (l : ℕ) (k : AdvanceKind) → width l k ≤ l + 1
width_cap l k = cond_both (is_strict k) (max l 1) l (λ w. w ≤ l + 1) (λ _. omega arith) (λ _. omega arith)

promised_cap : (r : TimeRow) (o : Option AdvanceRequest) (queued bound : ℕ) → RowNumbers r → ((q : AdvanceRequest) → o ≡ Some q → r.advance ≡ Some q) → promise_in r o queued bound ≤ forever
promised_cap r None queued bound n h = omega (arith, n.floor)
promised_cap r (Some q) queued bound n h = omega (arith, n.floor, n.lookahead, n.asked q (h q refl), width_cap r.lookahead q.kind)

kept_asked : (p : AdvanceRequest → Bool) (o : Option AdvanceRequest) (q : AdvanceRequest) → keep_if p o ≡ Some q → o ≡ Some q
kept_asked p None q e = e
kept_asked p (Some x) q e = cond_both (p x) (Some x) None (λ y. y ≡ Some q → Some x ≡ Some q) (λ _ e. e) (λ _ e. absurd (cc)) e

pub next_asked : (r : TimeRow) (q : AdvanceRequest) → next_request r ≡ Some q → r.advance ≡ Some q
next_asked r q e = cond_both (is_constrained r) (keep_if (λ x. is_next x.kind) r.advance) None (λ y. y ≡ Some q → r.advance ≡ Some q)
    (λ _ e. kept_asked (λ x. is_next x.kind) r.advance q e) (λ _ e. absurd (cc)) e

-- ---- what changes of the state keep
module _ (s : Components) (k : KeepsPromises s) where
  pub keeps_row : (f : ℕ) (r : TimeRow) → (is_regulator r ≡ false → is_regulator (s.row f) ≡ false) → IsRaised r → PromiseInv s.directory.joined (upd s.row f r) s.wire s.bound s.known_epoch s.last_announced
  keeps_row f r role raised = record {
    wires = k.wires;
    silent = by_number f _ (rw upd_same (λ n. k.silent f (role n))) (λ g ne. rw upd_other (k.silent g));
    raised = by_number f _ (rw upd_same raised) (λ g ne. rw upd_other (k.raised g));
  }

  -- wires that raise each bound alike
  pub keeps_wires : (wire : ℕ → ℕ → List Message) → ((g f j v : ℕ) → bound_after j v (wire g f) ≡ bound_after j v (s.wire g f)) → PromiseInv s.directory.joined s.row wire s.bound s.known_epoch s.last_announced
  keeps_wires wire same = record {
    wires = λ g f o. same g f (s.known_epoch f g) (s.bound f g) ∙ k.wires g f o;
    silent = k.silent;
    raised = k.raised;
  }

  pub keeps_sent : (f : ℕ) (stamp : Option ℕ) (out : Outgoing) → KeepsPromises (with_message_sent s f stamp out)
  keeps_sent f stamp out = keeps_wires _ (upd_row_each s.wire s.directory.joined f _ (λ g h ms. (j v : ℕ) → bound_after j v ms ≡ bound_after j v (s.wire g h))
      (λ h _ j v. bound_after-event j v f (s.serial f) (s.row f) stamp out (content_for s.directory out.body h) (s.wire f h)) (λ _ _ _ _. refl))

  pub keeps_discovering : (d : Directory) (f : ℕ) → PromiseInv s.directory.joined s.row (λ g. upd (s.wire g) f (put_discoveries (discoveries_of d g f) (s.wire g f))) s.bound s.known_epoch s.last_announced
  keeps_discovering d f = keeps_wires _ (λ g. upd_each (s.wire g) f _ (λ h ms. (j v : ℕ) → bound_after j v ms ≡ bound_after j v (s.wire g h))
      (λ j v. bound_after-discoveries j v (discoveries_of d g f) (s.wire g f)) (λ _ _ _ _. refl))

  pub keeps_discovered : (d : Directory) (f : ℕ) → PromiseInv s.directory.joined s.row (upd_row s.wire s.directory.joined f (λ h. put_discoveries (discoveries_of d f h))) s.bound s.known_epoch s.last_announced
  keeps_discovered d f = keeps_wires _ (upd_row_each s.wire s.directory.joined f _ (λ g h ms. (j v : ℕ) → bound_after j v ms ≡ bound_after j v (s.wire g h))
      (λ h _ j v. bound_after-discoveries j v (discoveries_of d f h) (s.wire f h)) (λ _ _ _ _. refl))

  -- what was announced last is a number of 64 bits
  pub announced_cap : Inv s → (g : ℕ) → s.last_announced g ≤ forever
  announced_cap inv g = ⊎_elim
      (λ (y : is_regulator (s.row g) ≡ true). le_trans (inv.kept.time.promised g y)
      (promised_cap (s.row g) (next_request (s.row g)) (first_stamp (s.tso g)) (local_bound s g) (inv.numbers g) (next_asked (s.row g))))
      (λ (n : is_regulator (s.row g) ≡ false). omega (arith, k.silent g n))
      (cases_Bool (is_regulator (s.row g)))

  -- a null message of the present epoch, at least what was announced last
  null_raises : (f v h : ℕ) → is_other s.directory.joined f h ≡ true → s.known_epoch h f ≡ s.epoch f → s.last_announced f ≤ v → bound_after (s.known_epoch h f) (s.bound h f) (put_behind (message.Null (s.epoch f) v) (s.wire f h)) ≡ v
  null_raises f v h o same up = subst (λ j. bound_after (s.known_epoch h f) (s.bound h f) (put_behind (message.Null j v) (s.wire f h)) ≡ v) same
      (bound_after-null (s.known_epoch h f) (s.bound h f) v (s.wire f h) (omega (arith, k.wires f h o)))

  pub keeps_null : (f v : ℕ) (r : TimeRow) → ((h : ℕ) → is_other s.directory.joined f h ≡ true → s.known_epoch h f ≡ s.epoch f) → s.last_announced f ≤ v → (is_regulator r ≡ false → v ≡ forever) → IsRaised r
      → PromiseInv s.directory.joined (upd s.row f r) (upd_row s.wire s.directory.joined f (λ _. put_behind (message.Null (s.epoch f) v))) s.bound s.known_epoch (upd s.last_announced f v)
  keeps_null f v r epochs up role raised = record {
    wires = by_number f _
        (λ h o. rw (upd_row_here, upd_same) (null_raises f v h o (epochs h o) up))
        (λ g ne h o. rw (upd_row_other, upd_other) (k.wires g h o));
    silent = by_number f _ (rw (upd_same, upd_same) role) (λ g ne. rw (upd_other, upd_other) (k.silent g));
    raised = by_number f _ (rw upd_same raised) (λ g ne. rw upd_other (k.raised g));
  }

  -- a new epoch begins with its entry
  entry_raises : (inv : Inv s) (f e h : ℕ) → is_other s.directory.joined f h ≡ true → bound_after (s.epoch f + 1) (min (s.bound h f) e) (put_behind (message.Null (s.epoch f + 1) e) (s.wire f h)) ≡ e
  entry_raises inv f e h o =
      let c : Carries (is_regulator (s.row f) && is_other s.directory.joined f h) (s.last_announced f) (s.epoch f) f (stamps s f) (s.serial f) (s.wire f h) (s.bound h f) = rw inv.kept.time.epochs at (inv.kept.time.wires f h) in
      bound_after-null (s.epoch f + 1) (min (s.bound h f) e) e (s.wire f h)
      (omega (arith, bound_after-older (is_regulator (s.row f) && is_other s.directory.joined f h) (s.last_announced f) (s.epoch f) f (stamps s f) (s.serial f) (s.wire f h) (s.bound h f) (min (s.bound h f) e) c))

  pub keeps_enabled : Inv s → (f l e : ℕ) → (s.row f).advance ≡ None → KeepsPromises (with_regulation_enabled s f l e)
  keeps_enabled inv f l e idle = record {
    wires = by_number f _
        (λ h o. rw (upd_column_here, upd_column_here, upd_row_here, upd_same) (entry_raises inv f e h o))
        (λ g ne h o. rw (upd_column_other, upd_column_other, upd_row_other, upd_other) (k.wires g h o));
    silent = by_number f _ (rw (upd_same, upd_same) (λ n. absurd (cc))) (λ g ne. rw (upd_other, upd_other) (k.silent g));
    raised = by_number f _ (rw upd_same (raised_idle (row_with_entry (s.row f) l e) idle)) (λ g ne. rw upd_other (k.raised g));
  }

  pub keeps_disabled : Inv s → (f : ℕ) → KeepsPromises (with_regulation_disabled s f)
  keeps_disabled inv f = keeps_null f forever (record (s.row f) { regulating = Disabled }) (inv.kept.time.epochs f) (announced_cap inv f) (λ _. refl) (k.raised f)

  -- ---- what comes over a wire
  pub keeps_null_taken : (g f j v : ℕ) (ms : List Message) → s.wire g f ≡ message.Null j v ∷ ms → KeepsPromises (with_null_accepted s g f j v ms)
  keeps_null_taken g f j v ms front = record {
    wires = by_pair g f _
        (λ o. rw (upd2_same, upd2_same) (let h = k.wires g f o in let h2 : bound_after (s.known_epoch f g) (s.bound f g) (message.Null j v ∷ ms) ≡ s.last_announced g = rw front at h in h2))
        (λ h l ne o. rw (upd2_other s.bound f g _ l h (⊎_elim (λ (a : g ≢ h). inr a) (λ (b : f ≢ l). inl b) ne), upd2_other s.wire g f ms h l ne) (k.wires h l o));
    silent = k.silent;
    raised = k.raised;
  }

  -- any other message leaves each bound
  pub keeps_taken : (g f : ℕ) (m : Message) (ms : List Message) → s.wire g f ≡ m ∷ ms → ((j v : ℕ) → bound_after j v (m ∷ ms) ≡ bound_after j v ms)
      → PromiseInv s.directory.joined s.row (upd2 s.wire g f ms) s.bound s.known_epoch s.last_announced
  keeps_taken g f m ms front plain = keeps_wires _ (upd2_each s.wire g f ms (λ h l ns. (j v : ℕ) → bound_after j v ns ≡ bound_after j v (s.wire h l)) (λ j v. rw front (sym (plain j v))) (λ _ _ _ _. refl))
