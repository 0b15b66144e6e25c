-- Over a run from a new execution: what each mark of an open point and each notice that waits goes back to
use Rattle.std.proofs.Common.{◌≡◌, ◌⊎◌, inl, inr, ⊎_elim, ℕ, not, Bool, true, false, refl, sym, ap, subst, ◌∙◌, List, [], ◌∷◌, ◌++◌, append_assoc, append-nil, Some, cond, eqb, map}
use Rattle.std.proofs.lemmas.Bool.{cases_Bool, both_ways, or_right}
use Rattle.std.specs.List.{filter}
use Rattle.hla_base.specs.declared.notice.Notice.{Notice}
use Rattle.hla_base.specs.declared.notice.NoticeKind.TheVariants as kind
use Rattle.hla_catalogue.specs.CatalogueValue.{CatalogueValue}
use Rattle.hla_callbacks.specs.declared.callback.Callback.TheVariants as callback
use Rattle.hla_synchronization.specs.Points.{Point, is_labelled, point_labelled, is_open, notice}
use Rattle.hla_machine.specs.declared.service.Service.TheVariants as service
use Rattle.hla_machine.specs.declared.step.Step.{Step}
use Rattle.hla_machine.specs.declared.step.Step.TheVariants.{Call}
use Rattle.hla_machine.specs.declared.step.Outcome.{Outcome}
use Rattle.hla_machine.specs.declared.step.Outcome.TheVariants as outcome
use Rattle.hla_machine.specs.Central.{Central, new_central}
use Rattle.hla_machine.specs.Callbacks.{IsNextNotice}
use Rattle.hla_machine.specs.Machine.{MayEnd}
use Rattle.hla_machine.specs.Runs.{Happening, IsRun}
use Rattle.hla_machine.specs.History.{GivesCallback, next_state, central_after}
use Rattle.hla_machine.specs.Synchronized.{IsPointOpen, StaysOpen, Closes, Achieves, HasAchieved, StaysJoined, IsSynchronizedAmong, registration_due, due_at, notices_given}
use Rattle.hla_machine.proofs.Points.Lists.{labels_of, found_open, open_cons, same_label}
use Rattle.hla_machine.proofs.Points.Kept.{ArePointsKept, points_kept, points_start}
use Rattle.hla_machine.proofs.Points.Dues.{step_due}
use Rattle.hla_machine.proofs.Points.Marks.{PointCourse, New, Old, step_course, step_closing}
use Rattle.hla_machine.proofs.Upkeep.Ahead.{given_of}

-- ---- one happening more
pub after_both : (c : Central) (xs ys : List Happening) → central_after c (xs ++ ys) ≡ central_after (central_after c xs) ys
after_both c [] ys = refl
after_both c (x ∷ xs) ys = after_both (next_state c x) xs ys

open_longer : (c : Central) (hs : List Happening) (h : Happening) (label : List ℕ) → StaysOpen c hs label → IsPointOpen (central_after c hs) label → StaysOpen c (hs ++ (h ∷ [])) label
open_longer c [] h label stays opened = (opened, tt)
open_longer c (x ∷ hs) h label stays opened = (stays.0, open_longer (next_state c x) hs h label stays.1 opened)

joined_longer : (c : Central) (hs : List Happening) (h : Happening) (f : ℕ) → StaysJoined c hs f → (next_state (central_after c hs) h).directory.joined f ≡ true → StaysJoined c (hs ++ (h ∷ [])) f
joined_longer c [] h f stays is = (is, tt)
joined_longer c (x ∷ hs) h f stays is = (stays.0, joined_longer (next_state c x) hs h f stays.1 is)

-- a list with one more, whose parts are written out
one_more : (hs before rest : List Happening) (x h : Happening) → hs ≡ before ++ (x ∷ rest) → hs ++ (h ∷ []) ≡ before ++ (x ∷ (rest ++ (h ∷ [])))
one_more hs before rest x h whole = ap (λ (ys : List Happening). ys ++ (h ∷ [])) whole ∙ append_assoc before (x ∷ rest) (h ∷ [])

-- f was told of the point, and it is the same up to the last of them
pub record HasBeenTold (c : Central) (happenings : List Happening) (f : ℕ) (label : List ℕ) : Type 0 where
  pub before : List Happening
  pub announcement : Happening
  pub rest : List Happening
  pub whole : happenings ≡ before ++ (announcement ∷ rest)
  pub told : GivesCallback announcement.step announcement.outcome f (callback.AnnounceSynchronizationPoint label)
  pub same : StaysOpen (central_after c before) (announcement ∷ rest) label

module _ (s : Central) (hs : List Happening) (h : Happening) (f : ℕ) (label : List ℕ) (opened : IsPointOpen (central_after s hs) label) where
  -- open at the end of the parts
  open_there : (before rest : List Happening) (x : Happening) → hs ≡ before ++ (x ∷ rest) → IsPointOpen (central_after (central_after s before) (x ∷ rest)) label
  open_there before rest x whole = subst (λ (c : Central). IsPointOpen c label) (ap (central_after s) whole ∙ after_both s before (x ∷ rest)) opened

  told_longer : HasBeenTold s hs f label → HasBeenTold s (hs ++ (h ∷ [])) f label
  told_longer t = record {
    before = t.before;
    announcement = t.announcement;
    rest = t.rest ++ (h ∷ []);
    whole = one_more hs t.before t.rest t.announcement h t.whole;
    told = t.told;
    same = open_longer (central_after s t.before) (t.announcement ∷ t.rest) h label t.same (open_there t.before t.rest t.announcement t.whole);
  }

  told_now : GivesCallback h.step h.outcome f (callback.AnnounceSynchronizationPoint label) → HasBeenTold s (hs ++ (h ∷ [])) f label
  told_now gives = record { before = hs; announcement = h; rest = []; whole = refl; told = gives; same = (opened, tt) }

  achieved_longer : HasAchieved s hs f label → HasAchieved s (hs ++ (h ∷ [])) f label
  achieved_longer a = record {
    before = a.before;
    announcement = a.announcement;
    between = a.between;
    achievement = a.achievement;
    rest = a.rest ++ (h ∷ []);
    whole = one_more hs a.before (a.between ++ (a.achievement ∷ a.rest)) a.announcement h a.whole ∙ ap (λ (ys : List Happening). a.before ++ (a.announcement ∷ ys)) inner;
    told = a.told;
    achieves = a.achieves;
    same = subst (λ (ys : List Happening). StaysOpen (central_after s a.before) (a.announcement ∷ ys) label) inner
        (open_longer (central_after s a.before) (a.announcement ∷ (a.between ++ (a.achievement ∷ a.rest))) h label a.same (open_there a.before (a.between ++ (a.achievement ∷ a.rest)) a.announcement a.whole));
  }
    where
      inner : (a.between ++ (a.achievement ∷ a.rest)) ++ (h ∷ []) ≡ a.between ++ (a.achievement ∷ (a.rest ++ (h ∷ [])))
      inner = append_assoc a.between (a.achievement ∷ a.rest) (h ∷ [])

  achieved_now : HasBeenTold s hs f label → Achieves h f label → HasAchieved s (hs ++ (h ∷ [])) f label
  achieved_now t achieves = record {
    before = t.before;
    announcement = t.announcement;
    between = t.rest;
    achievement = h;
    rest = [];
    whole = one_more hs t.before t.rest t.announcement h t.whole;
    told = t.told;
    achieves = achieves;
    same = open_longer (central_after s t.before) (t.announcement ∷ t.rest) h label t.same (open_there t.before t.rest t.announcement t.whole);
  }

synchronized_longer : (s : Central) (hs : List Happening) (h : Happening) (f : ℕ) (label : List ℕ) → (next_state (central_after s hs) h).directory.joined f ≡ true
    → IsSynchronizedAmong s hs f label → IsSynchronizedAmong s (hs ++ (h ∷ [])) f label
synchronized_longer s hs h f label is a = record {
  before = a.before;
  closing = a.closing;
  rest = a.rest ++ (h ∷ []);
  whole = one_more hs a.before a.rest a.closing h a.whole;
  closes = a.closes;
  all = a.all;
  member = joined_longer (central_after s a.before) (a.closing ∷ a.rest) h f a.member
      (subst (λ (c : Central). (next_state c h).directory.joined f ≡ true) (ap (central_after s) a.whole ∙ after_both s a.before (a.closing ∷ a.rest)) is);
}

-- ---- each of what waits
abbrev pub Each : (Notice → Type 0) → List Notice → Type 0
Each P [] = Unit {0}
Each P (n ∷ ns) = P n × Each P ns

each_both : (P : Notice → Type 0) (xs ys : List Notice) → Each P xs → Each P ys → Each P (xs ++ ys)
each_both P [] ys a b = b
each_both P (x ∷ xs) ys a b = (a.0, each_both P xs ys a.1 b)

each_behind : (P : Notice → Type 0) (xs ys : List Notice) → Each P (xs ++ ys) → Each P ys
each_behind P [] ys all = all
each_behind P (x ∷ xs) ys all = each_behind P xs ys all.1

each_weaker : (P Q : Notice → Type 0) (xs : List Notice) → ((n : Notice) → P n → Q n) → Each P xs → Each Q xs
each_weaker P Q [] w all = tt
each_weaker P Q (x ∷ xs) w all = (w x all.0, each_weaker P Q xs w all.1)

each_first : (P : Notice → Type 0) (ns : List Notice) (n : Notice) → IsNextNotice ns n → Each P ns → P n
each_first P [] n first all = absurd first
each_first P (x ∷ ns) n first all = subst P first all.0

-- of a notice that the federation is synchronized
abbrev IsOfSynchronized : (List ℕ → Type 0) → Notice → Type 0
IsOfSynchronized Q n = n.kind ≡ kind.Synchronized → Q n.label

announced_vacuous : (Q : List ℕ → Type 0) (labels : List (List ℕ)) → Each (IsOfSynchronized Q) (map (notice kind.Announced) labels)
announced_vacuous Q [] = tt
announced_vacuous Q (l ∷ labels) = ((λ e. absurd (cc)), announced_vacuous Q labels)

each_closing : (Q : List ℕ → Type 0) (test : List ℕ → Bool) (ps : List Point) → ((l : List ℕ) → is_open l ps ≡ true → test l ≡ false → Q l)
    → Each (IsOfSynchronized Q) (map (notice kind.Synchronized) (filter (λ l. not (test l)) (labels_of ps)))
each_closing Q test [] holds = tt
each_closing Q test (p ∷ ps) holds =
    let rest = each_closing Q test ps (λ l opened fails. holds l (open_behind l opened) fails) in
    ⊎_elim
    (λ (y : test p.label ≡ true). rw y rest)
    (λ (n : test p.label ≡ false). rw n ((λ e. holds p.label (open_first) n), rest))
    (cases_Bool (test p.label))
  where
    open_first : is_open p.label (p ∷ ps) ≡ true
    open_first = let here = same_label p.label in rw here refl

    open_behind : (l : List ℕ) → is_open l ps ≡ true → is_open l (p ∷ ps) ≡ true
    open_behind l opened = open_cons l p ps ∙ or_right (is_labelled l p) (is_open l ps) opened

registration_vacuous : (Q : List ℕ → Type 0) (c : Central) (step : Step) (out : Outcome) (f : ℕ) → Each (IsOfSynchronized Q) (registration_due c step out f)
registration_vacuous Q c (Call g (service.RegisterFederationSynchronizationPoint label)) (outcome.Done a) f = one (eqb g f) (is_open label c.directory.points)
  where
    one : (b o : Bool) → Each (IsOfSynchronized Q) (cond b (notice (cond o kind.RegistrationFailed kind.RegistrationSucceeded) label ∷ []) [])
    one true true = ((λ e. absurd (cc)), tt)
    one true false = ((λ e. absurd (cc)), tt)
    one false o = tt
registration_vacuous Q c step out f = tt

-- ---- what holds of a state to which happenings lead
pub record IsReached (s : Central) (done : List Happening) (c : Central) : Type 0 where
  pub is : central_after s done ≡ c
  pub kept : ArePointsKept c
  pub announced : (label : List ℕ) (p : Point) (g : ℕ) → point_labelled label c.directory.points ≡ Some p → p.announced g ≡ true → HasBeenTold s done g label
  pub achieved : (label : List ℕ) (p : Point) (g : ℕ) → point_labelled label c.directory.points ≡ Some p → p.achieved g ≡ true → HasAchieved s done g label
  pub waiting : (f : ℕ) → Each (IsOfSynchronized (IsSynchronizedAmong s done f)) (c.notices f)

module _ (s : Central) (done : List Happening) (c : Central) (r : IsReached s done c) (h : Happening) (may : MayEnd c h.step h.outcome h.choice) where
  open_at : (label : List ℕ) (p : Point) → point_labelled label c.directory.points ≡ Some p → IsPointOpen (central_after s done) label
  open_at label p was = subst (λ (x : Central). IsPointOpen x label) (sym r.is) (found_open label c.directory.points p was)

  marks_told : (label : List ℕ) (new : Point) (g : ℕ) → PointCourse c h.step h.outcome label new → new.announced g ≡ true → HasBeenTold s (done ++ (h ∷ [])) g label
  marks_told label new g (New _ none _) mark = absurd (both_ways (new.announced g) (none g) mark)
  marks_told label new g (Old w) mark = let opened = open_at label w.old w.was in ⊎_elim
      (λ old. told_longer s done h g label opened (r.announced label w.old g w.was old))
      (λ gives. told_now s done h g label opened gives)
      (w.announced g mark)

  marks_achieved : (label : List ℕ) (new : Point) (g : ℕ) → PointCourse c h.step h.outcome label new → new.achieved g ≡ true → HasAchieved s (done ++ (h ∷ [])) g label
  marks_achieved label new g (New _ _ none) mark = absurd (both_ways (new.achieved g) (none g) mark)
  marks_achieved label new g (Old w) mark = let opened = open_at label w.old w.was in ⊎_elim
      (λ old. achieved_longer s done h g label opened (r.achieved label w.old g w.was old))
      (λ now. achieved_now s done h g label opened (r.announced label w.old g w.was now.1) now.0)
      (w.achieved g mark)

  pub closing_achieved : (label : List ℕ) (g : ℕ) → Closes c h label → (next_state c h).directory.joined g ≡ true → HasAchieved s (done ++ (h ∷ [])) g label
  closing_achieved label g closes member =
      let w = step_closing c h may r.kept label g closes member in
      let opened = open_at label w.point w.was in ⊎_elim
      (λ old. achieved_longer s done h g label opened (r.achieved label w.point g w.was old))
      (λ now. achieved_now s done h g label opened (r.announced label w.point g w.was now.1) now.0)
      w.achieved

  -- what closes now
  synchronized_now : (f : ℕ) (label : List ℕ) → (next_state c h).directory.joined f ≡ true → is_open label c.directory.points ≡ true → is_open label (next_state c h).directory.points ≡ false
      → IsSynchronizedAmong s (done ++ (h ∷ [])) f label
  synchronized_now f label member opened closed = record {
    before = done;
    closing = h;
    rest = [];
    whole = refl;
    closes = subst (λ (x : Central). Closes x h label) (sym r.is) (opened, closed);
    all = λ g is. closing_achieved label g (opened, closed) (subst (λ (x : Central). (next_state x h).directory.joined g ≡ true) r.is is);
    member = (subst (λ (x : Central). (next_state x h).directory.joined f ≡ true) (sym r.is) member, tt);
  }

  waits_then : (f : ℕ) → ((next_state c h).directory.joined f ≡ true) ⊎ ((next_state c h).directory.joined f ≡ false) → Each (IsOfSynchronized (IsSynchronizedAmong s (done ++ (h ∷ [])) f)) ((next_state c h).notices f)
  waits_then f (inr fails) = subst (Each (IsOfSynchronized (IsSynchronizedAmong s (done ++ (h ∷ [])) f))) (sym ((points_kept c h.step h.outcome h.choice may r.kept).absent f fails)) tt
  waits_then f (inl member) =
      let Q = IsSynchronizedAmong s (done ++ (h ∷ [])) f in
      let was : Each (IsOfSynchronized Q) (c.notices f) = each_weaker (IsOfSynchronized (IsSynchronizedAmong s done f)) (IsOfSynchronized Q) (c.notices f)
      (λ n holds e. synchronized_longer s done h f n.label (subst (λ (x : Central). (next_state x h).directory.joined f ≡ true) (sym r.is) member) (holds e)) (r.waiting f) in
      let due : Each (IsOfSynchronized Q) (due_at c h f) = each_both (IsOfSynchronized Q) (registration_due c h.step h.outcome f) _ (registration_vacuous Q c h.step h.outcome f)
      (each_both (IsOfSynchronized Q) _ _ (announced_vacuous Q _)
      (each_closing Q (λ l. is_open l (next_state c h).directory.points) c.directory.points (λ l opened closed. synchronized_now f l member opened closed))) in
      each_behind (IsOfSynchronized Q) (notices_given h.step h.outcome f) ((next_state c h).notices f)
      (subst (Each (IsOfSynchronized Q)) (step_due c h f may r.kept member) (each_both (IsOfSynchronized Q) (c.notices f) (due_at c h f) was due))

  reached_step : IsReached s (done ++ (h ∷ [])) (next_state c h)
  reached_step = record {
    is = after_both s done (h ∷ []) ∙ ap (λ (x : Central). next_state x h) r.is;
    kept = points_kept c h.step h.outcome h.choice may r.kept;
    announced = λ label p g is mark. marks_told label p g (step_course c h may r.kept label p is) mark;
    achieved = λ label p g is mark. marks_achieved label p g (step_course c h may r.kept label p is) mark;
    waiting = λ f. waits_then f (cases_Bool ((next_state c h).directory.joined f));
  }

reached_on : (s : Central) (done : List Happening) (c : Central) (hs : List Happening) (d : Central) → IsReached s done c → IsRun c hs d → IsReached s (done ++ hs) d
reached_on s done c [] d r run = subst (λ (hs : List Happening). IsReached s hs d) (sym (append-nil done)) (subst (IsReached s done) run r)
reached_on s done c (h ∷ hs) d r run = subst (λ (hs : List Happening). IsReached s hs d) (append_assoc done (h ∷ []) hs)
    (reached_on s (done ++ (h ∷ [])) (next_state c h) hs d (reached_step s done c r h run.0.0) run.1)

reached_start : (catalogue : CatalogueValue) → IsReached (new_central catalogue) [] (new_central catalogue)
reached_start catalogue = record {
  is = refl;
  kept = points_start catalogue;
  announced = λ label p g is mark. absurd (cc);
  achieved = λ label p g is mark. absurd (cc);
  waiting = λ f. tt;
}

pub reached : (catalogue : CatalogueValue) (hs : List Happening) (c : Central) → IsRun (new_central catalogue) hs c → IsReached (new_central catalogue) hs c
reached catalogue hs c run = reached_on (new_central catalogue) [] (new_central catalogue) hs c (reached_start catalogue) run

-- ---- the laws
-- who is told that the federation is synchronized
pub told_after_all : (catalogue : CatalogueValue) (hs : List Happening) (c : Central) (h : Happening) (f : ℕ) (label : List ℕ) → IsRun (new_central catalogue) hs c → MayEnd c h.step h.outcome h.choice
    → GivesCallback h.step h.outcome f (callback.FederationSynchronized label) → IsSynchronizedAmong (new_central catalogue) hs f label
told_after_all catalogue hs c h f label run may gives =
    let r = reached catalogue hs c run in
    let g = given_of c h f (callback.FederationSynchronized label) may gives in
    each_first _ (c.notices f) (notice kind.Synchronized label) g.may (r.waiting f) refl

pub achieved_by_all : (catalogue : CatalogueValue) (hs : List Happening) (c : Central) (h : Happening) (label : List ℕ) (g : ℕ) → IsRun (new_central catalogue) hs c → MayEnd c h.step h.outcome h.choice
    → Closes c h label → (next_state c h).directory.joined g ≡ true → HasAchieved (new_central catalogue) (hs ++ (h ∷ [])) g label
achieved_by_all catalogue hs c h label g run may closes member = closing_achieved (new_central catalogue) hs c (reached catalogue hs c run) h may label g closes member
