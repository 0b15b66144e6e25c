use Rattle.std.proofs.Common.{◌≡◌, ℕ, ◌<◌, ◌^◌, Bool, List, ◌++◌, ◌∷◌, [], sym, ◌∙◌, ap, subst, arith, length}
use Rattle.logbook.specs.Pages.{Book}
use Rattle.hla_machine.specs.declared.step.Record.{Record}
use Rattle.hla_monitor.specs.declared.status.Status.{Status}
use Rattle.hla_monitor.specs.Counts.{status_of, status_after, IsBelow}
use Rattle.hla_monitor.proofs.Adding.{adds_moves, told_where_same}
use Rattle.hla_monitor.proofs.Counting.{status_steps, status_below, status_more}
use Rattle.hla_monitor.proofs.history.Told.grow.Goals as goal

pub overflow_add-steps : goal.overflow_add-steps
overflow_add-steps g c =
    let few : length c.self.inside.seen.log < 2 ^ 62 = rw c.self.view_is c.requires in
    omega (arith, few, ap (λ (s : Status). s.steps) c.self.invariant.0, status_steps c.self.inside.seen.log)

pub compare_exchange-found-requires : goal.compare_exchange-found-requires
compare_exchange-found-requires g c =
    let h = c.args.end.now.word_is in
    let offer = c.plain-offer.ensures in
    let pen = c.no_pen-pen.ensures in
    let again = c.again-seen.ensures in
    let steps : length c.self.inside.seen.log ≡ c.self.inside.status.steps =
    sym (ap (λ (s : Status). s.steps) c.self.invariant.0 ∙ status_steps c.self.inside.seen.log) in (
      ap {B = Bool} (λ w. w.tracked) h,
      ap {B = Book} (λ s. s.book) again ∙ c.self.invariant.1 ∙ sym (ap {B = Book} (λ w. w.book) h),
      pen.0 ∙ ap {B = Book} (λ s. s.book) again ∙ c.self.invariant.1 ∙ sym (ap {B = Book} (λ w. w.book) h),
      offer.0,
      rw (ap {B = ℕ} (λ w. w.key) h, pen.1, offer.1, offer.3, ap {B = List Record} (λ s. s.log) again) (adds_moves c.self.inside.seen.log c.args.entry.now c.self.inside.status.steps steps),
    )

pub with-requires : goal.with-requires
with-requires g c =
    let few : length c.self.inside.seen.log < 2 ^ 62 = rw c.self.view_is c.requires in
    subst (λ (s : Status). IsBelow (2 ^ 62) s) (sym c.self.invariant.0) (status_below c.self.inside.seen.log (2 ^ 62) few)

pub invariant_of-self : goal.invariant_of-self
invariant_of-self g c =
    let log = c.self.inside.seen.log in
    let entry = c.args.entry.now in
    let went = c.compare_exchange-found.ensures in
    let found : c.compare_exchange-found.result ≡ c.self.inside.status.steps = omega (arith, c.if-found-steps.false) in
    let grown : c.compare_exchange-found.new.seen.log ≡ log ++ entry ∷ [] =
    rw (← ap {B = List Record} (λ s. s.log) c.again-seen.ensures, ← c.plain-offer.ensures.1) (told_where_same c.compare_exchange-found.result c.self.inside.status.steps found went.7) in (
      c.with.ensures ∙ ap (λ (s : Status). status_after s entry) c.self.invariant.0 ∙ sym (status_more log entry) ∙ ap status_of (sym grown),
      went.0 ∙ ap {B = Book} (λ s. s.book) c.again-seen.ensures ∙ c.self.invariant.1,
    )
