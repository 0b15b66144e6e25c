-- Whoever was not told of an open point is to be told of it
use Rattle.std.proofs.Common.{◌≡◌, ◌≢◌, ◌⊎◌, inl, inr, ⊎_elim, ℕ, cond, eqb, not, Bool, true, false, refl, sym, ap, subst, ◌∙◌, List, [], ◌∷◌, ◌++◌, map, drop, Some, None}
use Rattle.std.proofs.lemmas.Bool.{cases_Bool, cases_eq, both_ways, eq-eqb, not-false}
use Rattle.std.specs.List.{filter}
use Rattle.std.specs.Str.{bytes_eq}
use Rattle.hla_base.specs.declared.notice.Notice.{Notice}
use Rattle.hla_base.specs.declared.notice.NoticeKind.{NoticeKind}
use Rattle.hla_base.specs.declared.notice.NoticeKind.TheVariants as kind
use Rattle.hla_base.specs.Tables.{upd}
use Rattle.hla_base.proofs.Tables.{upd_same, upd_other, upd_each}
use Rattle.hla_catalogue.specs.CatalogueValue.{CatalogueValue}
use Rattle.hla_callbacks.specs.declared.callback.Callback.TheVariants as callback
use Rattle.hla_synchronization.specs.Points.{Point, new_point, point_labelled, is_labelled, is_open, is_achieved_by_all, with_point, achieved_by, announced_to, closing, left_open, notice, announcement_of, closing_of, points_after_notice}
use Rattle.hla_machine.specs.Directory.{registration_notices, joining_notices}
use Rattle.hla_machine.specs.declared.step.Step.{Step}
use Rattle.hla_machine.specs.declared.step.Outcome.{Outcome}
use Rattle.hla_machine.specs.declared.step.Choice.{Choice}
use Rattle.hla_machine.specs.Central.{Central, new_central}
use Rattle.hla_machine.specs.Callbacks.{IsNextNotice}
use Rattle.hla_machine.specs.Machine.{MayEnd, after}
use Rattle.hla_machine.specs.Runs.{Happening, IsRun}
use Rattle.hla_machine.specs.History.{GivesCallback, next_state}
use Rattle.hla_machine.proofs.Upkeep.Ahead.{given_of}
use Rattle.hla_machine.proofs.Points.Lists.{AreApart, same_label, labels_same, some_of, found_open, found_changed, open_changed, found_left, left_kept, found_before, found_behind, apart_changed}
use Rattle.hla_machine.proofs.Points.Turns.{PointTurn, Still, Registered, Achieved, Joined, Left, Told, IsStill, IsRegistered, IsAchieved, IsJoined, IsLeft, IsToldOf, members_of, closings, step_turn}
use Rattle.hla_machine.proofs.Points.Kept.{ArePointsKept, after_notice_both, points_kept, points_start}
use Rattle.hla_machine.proofs.Points.Marks.{some_same, mapped}

-- ---- among what waits
abbrev pub IsAmong : Notice → List Notice → Type 0
IsAmong n [] = ⊥
IsAmong n (x ∷ xs) = (x ≡ n) ⊎ IsAmong n xs

among_left : (n : Notice) (xs ys : List Notice) → IsAmong n xs → IsAmong n (xs ++ ys)
among_left n [] ys is = absurd is
among_left n (x ∷ xs) ys (inl same) = inl same
among_left n (x ∷ xs) ys (inr rest) = inr (among_left n xs ys rest)

among_right : (n : Notice) (xs ys : List Notice) → IsAmong n ys → IsAmong n (xs ++ ys)
among_right n [] ys is = is
among_right n (x ∷ xs) ys is = inr (among_right n xs ys is)

-- the announcement of a point is among those of all
announced_among : (label : List ℕ) (ps : List Point) (p : Point) → point_labelled label ps ≡ Some p → IsAmong (notice kind.Announced label) (map announcement_of ps)
announced_among label [] p is = absurd (cc)
announced_among label (x ∷ ps) p is = ⊎_elim
    (λ (y : is_labelled label x ≡ true). inl (ap (λ (l : List ℕ). notice kind.Announced l) (labels_same x.label label y)))
    (λ (n : is_labelled label x ≡ false). inr (announced_among label ps p (rw n at is)))
    (cases_Bool (is_labelled label x))

-- behind the first
among_rest : (n first : Notice) (ns : List Notice) → IsNextNotice ns first → IsAmong n ns → (n ≡ first → ⊥) → IsAmong n (drop 1 ns)
among_rest n first [] next is other = absurd is
among_rest n first (x ∷ ns) next (inl same) other = absurd (other (sym same ∙ next))
among_rest n first (x ∷ ns) next (inr rest) other = rest

-- ---- what is kept
pub record AreToBeTold (c : Central) : Type 0 where
  pub kept : ArePointsKept c
  pub each : (label : List ℕ) (p : Point) (g : ℕ) → point_labelled label c.directory.points ≡ Some p → c.directory.joined g ≡ true → p.announced g ≡ false → IsAmong (notice kind.Announced label) (c.notices g)

-- a point after a notice: who was not told of it then was not before, and who is told of it is
pub record AfterNotice (f : ℕ) (n : Notice) (points : List Point) (label : List ℕ) (new : Point) : Type 0 where
  pub old : Point
  pub was : point_labelled label points ≡ Some old
  pub unmarked : (g : ℕ) → new.announced g ≡ false → old.announced g ≡ false
  pub marked : n ≡ notice kind.Announced label → new.announced f ≡ true

after_notice : (f : ℕ) (n : Notice) (points : List Point) (label : List ℕ) (new : Point) → point_labelled label (points_after_notice f n points) ≡ Some new → AfterNotice f n points label new
after_notice f n points label new = by_kind n.kind
  where
    same : (k : NoticeKind) → (k ≡ kind.Announced → ⊥) → point_labelled label points ≡ Some new → AfterNotice f (notice k n.label) points label new
    same k other is = record { old = new; was = is; unmarked = λ g m. m; marked = λ e. absurd (other (ap (λ (x : Notice). x.kind) e)) }

    changed : point_labelled label (with_point (announced_to f) n.label points) ≡ Some new → AfterNotice f (notice kind.Announced n.label) points label new
    changed found =
        let o = mapped _ (point_labelled label points) new (sym (found_changed (announced_to f) (λ _. refl) label n.label points) ∙ found) in
        let old = o.0 in
        ⊎_elim
        (λ (y : bytes_eq label n.label ≡ true).
        let is : announced_to f old ≡ new = sym (ap (λ (b : Bool). cond b (announced_to f old) old) y) ∙ o.2 in
        subst (λ (p : Point). AfterNotice f (notice kind.Announced n.label) points label p) is (record {
          old = old;
          was = o.1;
          unmarked = upd_each old.announced f true (λ g x. x ≡ false → old.announced g ≡ false) (λ e. absurd (cc)) (λ g ne m. m);
          marked = λ _. upd_same old.announced f true;
        }))
        (λ (fails : bytes_eq label n.label ≡ false).
        let is : old ≡ new = sym (ap (λ (b : Bool). cond b (announced_to f old) old) fails) ∙ o.2 in
        subst (λ (p : Point). AfterNotice f (notice kind.Announced n.label) points label p) is (record {
          old = old;
          was = o.1;
          unmarked = λ g m. m;
          marked = λ e. absurd (both_ways (bytes_eq label n.label) fails (subst (λ (l : List ℕ). bytes_eq label l ≡ true) (sym (ap (λ (x : Notice). x.label) e)) (same_label label)));
        }))
        (cases_Bool (bytes_eq label n.label))

    by_kind : (k : NoticeKind) → point_labelled label (points_after_notice f (notice k n.label) points) ≡ Some new → AfterNotice f (notice k n.label) points label new
    by_kind kind.RegistrationSucceeded is = same kind.RegistrationSucceeded (λ e. cc) is
    by_kind kind.RegistrationFailed is = same kind.RegistrationFailed (λ e. cc) is
    by_kind kind.Announced is = changed is
    by_kind kind.Synchronized is = same kind.Synchronized (λ e. cc) is

module _ (c : Central) (w : AreToBeTold c) (d : Central) (label : List ℕ) (p : Point) (g : ℕ) (is : point_labelled label d.directory.points ≡ Some p) (member : d.directory.joined g ≡ true) (unmarked : p.announced g ≡ false) where
  abbrev told : Notice
  told = notice kind.Announced label

  -- what waited waits on
  waits_on : (more : List Notice) (q : Point) → d.notices g ≡ c.notices g ++ more → point_labelled label c.directory.points ≡ Some q → c.directory.joined g ≡ true → q.announced g ≡ false → IsAmong told (d.notices g)
  waits_on more q later was before none = subst (IsAmong told) (sym later) (among_left told (c.notices g) more (w.each label q g was before none))

  was_member : d.directory.joined ≡ c.directory.joined → c.directory.joined g ≡ true
  was_member same = sym (ap (λ (t : ℕ → Bool). t g) same) ∙ member

  still_told : IsStill c d → IsAmong told (d.notices g)
  still_told s = subst (IsAmong told) (sym (ap (λ (t : ℕ → List Notice). t g) s.notices)) (w.each label p g (sym (ap (point_labelled label) s.points) ∙ is) (was_member s.joined) unmarked)

  registered_told : (step : Step) (out : Outcome) (f : ℕ) (l : List ℕ) → IsRegistered c step out d f l → IsAmong told (d.notices g)
  registered_told step out f l r = ⊎_elim
      (λ (y : is_open l c.directory.points ≡ true). waits_on (registration_notices c.directory f l g) p (r.notices g) (sym (ap (point_labelled label) (r.points ∙ rw y refl)) ∙ is) (was_member r.joined) unmarked)
      (λ (fails : is_open l c.directory.points ≡ false).
      let points : d.directory.points ≡ c.directory.points ++ (new_point l ∷ []) = r.points ∙ rw fails refl in
      let found : point_labelled label (c.directory.points ++ (new_point l ∷ [])) ≡ Some p = sym (ap (point_labelled label) points) ∙ is in
      ⊎_elim
      (λ (old : is_open label c.directory.points ≡ true). let q = some_of _ old in
      waits_on (registration_notices c.directory f l g) p (r.notices g) (q.1 ∙ ap Some (some_same q.0 p (sym (found_before label c.directory.points (new_point l ∷ []) q.0 q.1) ∙ found))) (was_member r.joined) unmarked)
      (λ (none : is_open label c.directory.points ≡ false). fresh fails (sym (found_behind label c.directory.points (new_point l ∷ []) none) ∙ found))
      (cases_Bool (is_open label c.directory.points)))
      (cases_Bool (is_open l c.directory.points))
    where
      fresh : is_open l c.directory.points ≡ false → point_labelled label (new_point l ∷ []) ≡ Some p → IsAmong told (d.notices g)
      fresh fails found = ⊎_elim
          (λ (y : bytes_eq l label ≡ true).
          let joins : c.directory.joined g ≡ true = was_member r.joined in
          let later : d.notices g ≡ c.notices g ++ (cond (eqb f g) (notice kind.RegistrationSucceeded l ∷ []) [] ++ (notice kind.Announced l ∷ [])) = r.notices g ∙ rw (fails, joins) refl in
          subst (IsAmong told) (sym later) (among_right told (c.notices g) _ (among_right told (cond (eqb f g) (notice kind.RegistrationSucceeded l ∷ []) []) _ (inl (ap (λ (x : List ℕ). notice kind.Announced x) (labels_same l label y))))))
          (λ (other : bytes_eq l label ≡ false). let nothing : None ≡ Some p = rw other at found in absurd (cc))
          (cases_Bool (bytes_eq l label))

  achieved_told : (step : Step) (out : Outcome) (f : ℕ) (l : List ℕ) → IsAchieved c step out d f l → IsAmong told (d.notices g)
  achieved_told step out f l r =
      let left = found_left label (λ q. not (is_achieved_by_all (members_of c.directory.joined c.directory.next_federate) q)) (with_point (achieved_by f) l c.directory.points) p
      (apart_changed (achieved_by f) (λ _. refl) l c.directory.points w.kept.apart) (sym (ap (point_labelled label) r.points) ∙ is) in
      let o = mapped _ (point_labelled label c.directory.points) p (sym (found_changed (achieved_by f) (λ _. refl) label l c.directory.points) ∙ left.0) in
      waits_on (closings c.directory.joined c.directory.next_federate (with_point (achieved_by f) l c.directory.points) g) o.0 (r.notices g) o.1 (was_member r.joined)
      (same_marks (bytes_eq label l) o.0 (subst (λ (q : Point). q.announced g ≡ false) (sym o.2) unmarked))
    where
      same_marks : (b : Bool) (q : Point) → (cond b (achieved_by f q) q).announced g ≡ false → q.announced g ≡ false
      same_marks true q none = none
      same_marks false q none = none

  left_told : (step : Step) (out : Outcome) (f : ℕ) → IsLeft c step out d f → IsAmong told (d.notices g)
  left_told step out f r = ⊎_elim
      (λ (same : f ≡ g). absurd (let gone : upd c.directory.joined f false g ≡ false = subst (λ (x : ℕ). upd c.directory.joined f false x ≡ false) same (upd_same c.directory.joined f false) in
      both_ways (d.directory.joined g) (ap (λ (t : ℕ → Bool). t g) r.joined ∙ gone) member))
      (λ (ne : f ≢ g).
      let there : c.directory.joined g ≡ true = sym (upd_other c.directory.joined f false g ne) ∙ sym (ap (λ (t : ℕ → Bool). t g) r.joined) ∙ member in
      let waits : upd c.notices f [] g ≡ c.notices g = upd_other c.notices f [] g ne in
      let left = found_left label (λ q. not (is_achieved_by_all (members_of (upd c.directory.joined f false) c.directory.next_federate) q)) c.directory.points p w.kept.apart (sym (ap (point_labelled label) r.points) ∙ is) in
      waits_on (closings (upd c.directory.joined f false) c.directory.next_federate c.directory.points g) p (r.notices g ∙ ap (λ (ns : List Notice). ns ++ closings (upd c.directory.joined f false) c.directory.next_federate c.directory.points g) waits) left.0 there unmarked)
      (cases_eq f g)

  joined_told : (step : Step) (out : Outcome) → IsJoined c step out d → IsAmong told (d.notices g)
  joined_told step out r =
      let there : point_labelled label c.directory.points ≡ Some p = sym (ap (point_labelled label) r.points) ∙ is in
      ⊎_elim
      (λ (same : c.directory.next_federate ≡ g).
      let new : eqb c.directory.next_federate g ≡ true = eq-eqb c.directory.next_federate g same in
      let later : d.notices g ≡ c.notices g ++ map announcement_of c.directory.points = r.notices g ∙ rw new refl in
      subst (IsAmong told) (sym later) (among_right told (c.notices g) (map announcement_of c.directory.points) (announced_among label c.directory.points p there)))
      (λ (ne : c.directory.next_federate ≢ g).
      waits_on (joining_notices c.directory g) p (r.notices g) there (sym (upd_other c.directory.joined c.directory.next_federate true g ne) ∙ sym (ap (λ (t : ℕ → Bool). t g) r.joined) ∙ member) unmarked)
      (cases_eq c.directory.next_federate g)

  told_told : (step : Step) (out : Outcome) (f : ℕ) (n : Notice) → IsToldOf c step out d f n → IsAmong told (d.notices g)
  told_told step out f n r =
      let a = after_notice f n c.directory.points label p (sym (ap (point_labelled label) r.points) ∙ is) in
      let before = w.each label a.old g a.was (was_member r.joined) (a.unmarked g unmarked) in
      ⊎_elim
      (λ (same : f ≡ g).
      let later : d.notices g ≡ drop 1 (c.notices g) = r.notices g ∙ subst (λ (x : ℕ). upd c.notices f (drop 1 (c.notices f)) x ≡ drop 1 (c.notices x)) same (upd_same c.notices f (drop 1 (c.notices f))) in
      subst (IsAmong told) (sym later) (among_rest told n (c.notices g) (subst (λ (x : ℕ). IsNextNotice (c.notices x) n) same r.first) before
      (λ e. both_ways (p.announced g) unmarked (subst (λ (x : ℕ). p.announced x ≡ true) same (a.marked (sym e))))))
      (λ (ne : f ≢ g). subst (IsAmong told) (sym (r.notices g ∙ upd_other c.notices f (drop 1 (c.notices f)) g ne)) before)
      (cases_eq f g)

  turn_told : (step : Step) (out : Outcome) → PointTurn c step out d → IsAmong told (d.notices g)
  turn_told step out (Still quiet s) = still_told s
  turn_told step out (Registered f l r) = registered_told step out f l r
  turn_told step out (Achieved f l r) = achieved_told step out f l r
  turn_told step out (Joined r) = joined_told step out r
  turn_told step out (Left f r) = left_told step out f r
  turn_told step out (Told f n r) = told_told step out f n r

pub told_step : (c : Central) (step : Step) (out : Outcome) (o : Choice) → MayEnd c step out o → AreToBeTold c → AreToBeTold (after c step out o)
told_step c step out o may w = record {
  kept = points_kept c step out o may w.kept;
  each = λ label p g is member unmarked. turn_told c w (after c step out o) label p g is member unmarked step out (step_turn c step out o may);
}

told_run : (c : Central) (hs : List Happening) (d : Central) → IsRun c hs d → AreToBeTold c → AreToBeTold d
told_run c [] d run w = subst AreToBeTold run w
told_run c (h ∷ hs) d run w = told_run (next_state c h) hs d run.1 (told_step c h.step h.outcome h.choice run.0.0 w)

-- in each state of a run whoever was not told of an open point is to be told of it
pub to_be_told : (catalogue : CatalogueValue) (hs : List Happening) (c : Central) → IsRun (new_central catalogue) hs c → AreToBeTold c
to_be_told catalogue hs c run = told_run (new_central catalogue) hs c run (record { kept = points_start catalogue; each = λ label p g is. absurd (cc) })

-- ---- who is told of a point is marked
pub announcing_marks : (c : Central) (h : Happening) (g : ℕ) (label : List ℕ) (new : Point) → MayEnd c h.step h.outcome h.choice → GivesCallback h.step h.outcome g (callback.AnnounceSynchronizationPoint label)
    → point_labelled label (next_state c h).directory.points ≡ Some new → new.announced g ≡ true
announcing_marks c h g label new may gives found =
    let is = given_of c h g (callback.AnnounceSynchronizationPoint label) may gives in
    let at : point_labelled label (with_point (announced_to g) label c.directory.points) ≡ Some new = sym (ap (λ (d : Central). point_labelled label d.directory.points) is.follows) ∙ found in
    let m = mapped _ (point_labelled label c.directory.points) new (sym (found_changed (announced_to g) (λ _. refl) label label c.directory.points) ∙ at) in
    let marked : announced_to g m.0 ≡ new = sym (ap (λ (b : Bool). cond b (announced_to g m.0) m.0) (same_label label)) ∙ m.2 in
    subst (λ (q : Point). q.announced g ≡ true) marked (upd_same m.0.announced g true)

-- ---- who is to be told that the federation is synchronized
closing_among : (label : List ℕ) (test : Point → Bool) (ps : List Point) (p : Point) → point_labelled label ps ≡ Some p → test p ≡ true → IsAmong (notice kind.Synchronized label) (map closing_of (filter test ps))
closing_among label test [] p is passes = absurd (cc)
closing_among label test (x ∷ ps) p is passes = ⊎_elim
    (λ (y : is_labelled label x ≡ true).
    let found : Some x ≡ Some p = rw y at is in
    let here : test x ≡ true = subst (λ (q : Point). test q ≡ true) (sym (some_same x p found)) passes in
    rw here (inl (ap (λ (l : List ℕ). notice kind.Synchronized l) (labels_same x.label label y))))
    (λ (other : is_labelled label x ≡ false).
    let rest = closing_among label test ps p (rw other at is) passes in
    ⊎_elim
    (λ (keeps : test x ≡ true). rw keeps (inr rest))
    (λ (drops : test x ≡ false). rw drops rest)
    (cases_Bool (test x)))
    (cases_Bool (is_labelled label x))

module _ (c : Central) (k : ArePointsKept c) (d : Central) (label : List ℕ) (f : ℕ) (opened : is_open label c.directory.points ≡ true) (closed : is_open label d.directory.points ≡ false) (member : d.directory.joined f ≡ true) where
  abbrev synchronized : Notice
  synchronized = notice kind.Synchronized label

  stays_open : is_open label d.directory.points ≡ true → IsAmong synchronized (d.notices f)
  stays_open still = absurd (both_ways (is_open label d.directory.points) closed still)

  -- of points with labels apart, those that are left do not have this one
  left_among : (waits : List Notice) (joined : ℕ → Bool) (next : ℕ) (ps : List Point) → AreApart ps → is_open label ps ≡ true → d.directory.points ≡ left_open (members_of joined next) ps → d.directory.joined ≡ joined
      → d.notices f ≡ waits ++ closings joined next ps f → IsAmong synchronized (d.notices f)
  left_among waits joined next ps apart was points members later =
      let p = some_of (point_labelled label ps) was in
      let keep : Point → Bool = λ q. not (is_achieved_by_all (members_of joined next) q) in
      let gone : keep p.0 ≡ false = sym (left_kept label keep ps p.0 apart p.1) ∙ sym (ap (is_open label) points) ∙ closed in
      let is : joined f ≡ true = sym (ap (λ (t : ℕ → Bool). t f) members) ∙ member in
      let told : d.notices f ≡ waits ++ map closing_of (closing (members_of joined next) ps) = later ∙ rw is refl in
      subst (IsAmong synchronized) (sym told) (among_right synchronized waits (map closing_of (closing (members_of joined next) ps)) (closing_among label (is_achieved_by_all (members_of joined next)) ps p.0 p.1 (not-false _ gone)))

  turn_among : (step : Step) (out : Outcome) → PointTurn c step out d → IsAmong synchronized (d.notices f)
  turn_among step out (Still quiet s) = stays_open (ap (is_open label) s.points ∙ opened)
  turn_among step out (Registered g l r) = stays_open (ap (is_open label) r.points ∙ ⊎_elim
      (λ (y : is_open l c.directory.points ≡ true). rw y opened)
      (λ (fails : is_open l c.directory.points ≡ false). rw fails (let p = some_of (point_labelled label c.directory.points) opened in found_open label (c.directory.points ++ (new_point l ∷ [])) p.0 (found_before label c.directory.points (new_point l ∷ []) p.0 p.1)))
      (cases_Bool (is_open l c.directory.points)))
  turn_among step out (Achieved g l r) = left_among (c.notices f) c.directory.joined c.directory.next_federate (with_point (achieved_by g) l c.directory.points) (apart_changed (achieved_by g) (λ _. refl) l c.directory.points k.apart)
      (open_changed (achieved_by g) (λ _. refl) label l c.directory.points ∙ opened) r.points r.joined (r.notices f)
  turn_among step out (Joined r) = stays_open (ap (is_open label) r.points ∙ opened)
  turn_among step out (Left g r) = left_among (upd c.notices g [] f) (upd c.directory.joined g false) c.directory.next_federate c.directory.points k.apart opened r.points r.joined (r.notices f)
  turn_among step out (Told g n r) = stays_open (ap (is_open label) r.points ∙ after_notice_both (λ ps. is_open label ps ≡ true) g n c.directory.points opened (λ _. open_changed (announced_to g) (λ _. refl) label n.label c.directory.points ∙ opened))

-- when a point closes, each federate that is joined then is to be told
pub closing_waits : (c : Central) (step : Step) (out : Outcome) (o : Choice) (label : List ℕ) (f : ℕ) → MayEnd c step out o → ArePointsKept c → is_open label c.directory.points ≡ true → is_open label (after c step out o).directory.points ≡ false
    → (after c step out o).directory.joined f ≡ true → IsAmong (notice kind.Synchronized label) ((after c step out o).notices f)
closing_waits c step out o label f may k opened closed member = turn_among c k (after c step out o) label f opened closed member step out (step_turn c step out o may)
