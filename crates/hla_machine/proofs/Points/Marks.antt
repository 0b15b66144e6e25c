-- What a step does to the marks of a point, and who has achieved a point that closes
use Rattle.std.proofs.Common.{◌≡◌, ◌≢◌, ◌⊎◌, inl, inr, ⊎_elim, ℕ, zero, suc, ◌<◌, arith, cond, not, ◌&&◌, Bool, true, false, refl, sym, ap, subst, ◌∙◌, List, [], ◌∷◌, ◌++◌, Option, Some, None, option_map}
use Rattle.std.proofs.lemmas.Bool.{cases_Bool, cases_eq, both_ways, and_parts, and_cases, true_from_ne_false, not-false}
use Rattle.std.proofs.lemmas.List.Elements.{filter-append}
use Rattle.std.proofs.lemmas.List.Folds.{list_all-append}
use Rattle.std.specs.List.{filter, list_all}
use Rattle.std.specs.Str.{bytes_eq}
use Rattle.hla_base.specs.declared.notice.Notice.{Notice}
use Rattle.hla_base.specs.declared.notice.NoticeKind.TheVariants as kind
use Rattle.hla_base.specs.Tables.{upd, numbers_below}
use Rattle.hla_base.proofs.Tables.{upd_each}
use Rattle.hla_callbacks.specs.declared.callback.Callback.TheVariants as callback
use Rattle.hla_synchronization.specs.Points.{Point, new_point, point_labelled, is_open, is_awaited, is_achieved_by_all, with_point, achieved_by, announced_to}
use Rattle.hla_machine.specs.Central.{Central}
use Rattle.hla_machine.specs.Machine.{MayEnd}
use Rattle.hla_machine.specs.declared.service.Service.TheVariants as service
use Rattle.hla_machine.specs.declared.step.Step.{Step}
use Rattle.hla_machine.specs.declared.step.Step.TheVariants.{Call}
use Rattle.hla_machine.specs.declared.step.Answer.TheVariants as answer
use Rattle.hla_machine.specs.declared.step.Outcome.{Outcome}
use Rattle.hla_machine.specs.declared.step.Outcome.TheVariants as outcome
use Rattle.hla_machine.specs.Runs.{Happening}
use Rattle.hla_machine.specs.History.{GivesCallback, next_state}
use Rattle.hla_machine.specs.Synchronized.{Closes}
use Rattle.hla_machine.proofs.Points.Lists.{labels_same, found_changed, open_changed, apart_changed, found_before, found_behind, found_left, left_kept, some_of, found_open}
use Rattle.hla_machine.proofs.Points.Turns.{PointTurn, Still, Registered, Achieved, Joined, Left, Told, IsRegistered, IsAchieved, IsLeft, IsToldOf, members_of, step_turn}
use Rattle.hla_machine.proofs.Points.Kept.{ArePointsKept, after_notice_both}

-- ---- members
pub achieved_by_member : (joined test : ℕ → Bool) (next g : ℕ) → joined g ≡ true → g < next → list_all test (members_of joined next) ≡ true → test g ≡ true
unfolding numbers_below
achieved_by_member joined test zero g is low all = absurd (omega arith)
achieved_by_member joined test (suc n) g is low all =
    let split : list_all test (filter joined (numbers_below n ++ (n ∷ []))) ≡ true = all in
    let parts = and_parts (list_all test (members_of joined n)) (list_all test (filter joined (n ∷ [])))
    (sym (ap (list_all test) (filter-append joined (numbers_below n) (n ∷ [])) ∙ list_all-append test (members_of joined n) (filter joined (n ∷ []))) ∙ split) in
    ⊎_elim
    (λ (same : n ≡ g). last same parts.1)
    (λ (ne : n ≢ g). achieved_by_member joined test n g is (omega (arith, low, ne)) parts.0)
    (cases_eq n g)
  where
    last : n ≡ g → list_all test (filter joined (n ∷ [])) ≡ true → test g ≡ true
    last same one =
        let here : joined n ≡ true = subst (λ (x : ℕ). joined x ≡ true) (sym same) is in
        let alone : (test n && true) ≡ true = rw here at one in
        subst (λ (x : ℕ). test x ≡ true) same (and_parts (test n) true alone).0

-- where some member fails a test, it is found
pub someone_left : (joined test : ℕ → Bool) (next : ℕ) → list_all test (members_of joined next) ≡ false → (g : ℕ) × (joined g ≡ true) × (test g ≡ false)
unfolding numbers_below
someone_left joined test zero left = absurd (cc)
someone_left joined test (suc n) left =
    let split : list_all test (filter joined (numbers_below n ++ (n ∷ []))) ≡ false = left in
    ⊎_elim
    (λ (before : list_all test (members_of joined n) ≡ false). someone_left joined test n before)
    (λ (last : list_all test (filter joined (n ∷ [])) ≡ false). let at = at_last last in (n, at.0, at.1))
    (and_cases (list_all test (members_of joined n)) (list_all test (filter joined (n ∷ [])))
    (sym (ap (list_all test) (filter-append joined (numbers_below n) (n ∷ [])) ∙ list_all-append test (members_of joined n) (filter joined (n ∷ []))) ∙ split))
  where
    at_last : list_all test (filter joined (n ∷ [])) ≡ false → (joined n ≡ true) × (test n ≡ false)
    at_last last = ⊎_elim
        (λ (y : joined n ≡ true).
        let alone : (test n && true) ≡ false = rw y at last in
        (y, ⊎_elim (λ (one : test n ≡ false). one) (λ (other : true ≡ false). absurd (cc)) (and_cases (test n) true alone)))
        (λ (n : joined n ≡ false). let none : true ≡ false = rw n at last in absurd (cc))
        (cases_Bool (joined n))

pub each_member : (joined test : ℕ → Bool) (next : ℕ) → ((g : ℕ) → joined g ≡ true → test g ≡ true) → list_all test (members_of joined next) ≡ true
each_member joined test next all = true_from_ne_false (list_all test (members_of joined next)) (λ left. let w = someone_left joined test next left in both_ways (test w.0) w.2 (all w.0 w.1))

-- ---- the marks of an open point
-- g's call is done that achieves the point
abbrev pub AchievesBy : Step → Outcome → ℕ → List ℕ → Type 0
AchievesBy step out g label = (step ≡ Call g (service.SynchronizationPointAchieved label)) × (out ≡ outcome.Done answer.Done)

-- a mark was there, or is set by the step: a federate is told of the point, or achieves it, of which it was told
pub record WasOpen (c : Central) (step : Step) (out : Outcome) (label : List ℕ) (new : Point) : Type 0 where
  pub old : Point
  pub was : point_labelled label c.directory.points ≡ Some old
  pub announced : (g : ℕ) → new.announced g ≡ true → (old.announced g ≡ true) ⊎ GivesCallback step out g (callback.AnnounceSynchronizationPoint label)
  pub achieved : (g : ℕ) → new.achieved g ≡ true → (old.achieved g ≡ true) ⊎ (AchievesBy step out g label × (old.announced g ≡ true))
  pub stays : (g : ℕ) → old.achieved g ≡ true → new.achieved g ≡ true
  pub still_told : (g : ℕ) → old.announced g ≡ true → new.announced g ≡ true

-- it was open before, or is new
pub data PointCourse (c : Central) (step : Step) (out : Outcome) (label : List ℕ) (new : Point) : Type 0 where
  New : is_open label c.directory.points ≡ false → ((g : ℕ) → new.announced g ≡ false) → ((g : ℕ) → new.achieved g ≡ false) → PointCourse c step out label new
  Old : WasOpen c step out label new → PointCourse c step out label new

-- g has achieved the point that closes, before or by the step
pub record WasAchieved (c : Central) (step : Step) (out : Outcome) (label : List ℕ) (g : ℕ) : Type 0 where
  pub point : Point
  pub was : point_labelled label c.directory.points ≡ Some point
  pub achieved : (point.achieved g ≡ true) ⊎ (AchievesBy step out g label × (point.announced g ≡ true))

pub some_same : (x y : Point) → Some x ≡ Some y → x ≡ y
some_same x y e = cc

-- what is mapped to a point
pub mapped : (f : Point → Point) (o : Option Point) (p : Point) → option_map f o ≡ Some p → (q : Point) × (o ≡ Some q) × (f q ≡ p)
mapped f None p is = absurd (cc)
mapped f (Some q) p is = (q, refl, some_same (f q) p is)

module _ (c : Central) (k : ArePointsKept c) (step : Step) (out : Outcome) (d : Central) (label : List ℕ) where
  same_course : (new : Point) → point_labelled label c.directory.points ≡ Some new → PointCourse c step out label new
  same_course new is = Old (record { old = new; was = is; announced = λ g m. inl m; achieved = λ g m. inl m; stays = λ g m. m; still_told = λ g m. m })

  course_of : (new : Point) → d.directory.points ≡ c.directory.points → point_labelled label d.directory.points ≡ Some new → PointCourse c step out label new
  course_of new points is = same_course new (sym (ap (point_labelled label) points) ∙ is)

  registered_course : (f : ℕ) (l : List ℕ) → IsRegistered c step out d f l → (new : Point) → point_labelled label d.directory.points ≡ Some new → PointCourse c step out label new
  registered_course f l r new is = ⊎_elim
      (λ (y : is_open l c.directory.points ≡ true). course_of new (r.points ∙ rw y refl) is)
      (λ (n : is_open l c.directory.points ≡ false).
      let points : d.directory.points ≡ c.directory.points ++ (new_point l ∷ []) = r.points ∙ rw n refl in
      let found : point_labelled label (c.directory.points ++ (new_point l ∷ [])) ≡ Some new = sym (ap (point_labelled label) points) ∙ is in
      ⊎_elim
      (λ (old : is_open label c.directory.points ≡ true). let p = some_of _ old in
      same_course new (p.1 ∙ ap Some (some_same p.0 new (sym (found_before label c.directory.points (new_point l ∷ []) p.0 p.1) ∙ found))))
      (λ (none : is_open label c.directory.points ≡ false). fresh none (sym (found_behind label c.directory.points (new_point l ∷ []) none) ∙ found))
      (cases_Bool (is_open label c.directory.points)))
      (cases_Bool (is_open l c.directory.points))
    where
      fresh : is_open label c.directory.points ≡ false → point_labelled label (new_point l ∷ []) ≡ Some new → PointCourse c step out label new
      fresh none found = ⊎_elim
          (λ (y : bytes_eq l label ≡ true). let same : new_point l ≡ new = some_same _ _ (rw y at found) in
          subst (λ (p : Point). PointCourse c step out label p) same (New none (λ g. refl) (λ g. refl)))
          (λ (n : bytes_eq l label ≡ false). let nothing : None ≡ Some new = rw n at found in absurd (cc))
          (cases_Bool (bytes_eq l label))

  -- the one that f has achieved now
  achieved_before : (f : ℕ) (l : List ℕ) → IsAchieved c step out d f l → (new : Point) → point_labelled label (with_point (achieved_by f) l c.directory.points) ≡ Some new → WasOpen c step out label new
  achieved_before f l r new found =
      let o = mapped _ (point_labelled label c.directory.points) new (sym (found_changed (achieved_by f) (λ _. refl) label l c.directory.points) ∙ found) in
      let old = o.0 in
      ⊎_elim
      (λ (y : bytes_eq label l ≡ true).
      let same : label ≡ l = labels_same label l y in
      let is : achieved_by f old ≡ new = sym (ap (λ (b : Bool). cond b (achieved_by f old) old) y) ∙ o.2 in
      subst (λ (p : Point). WasOpen c step out label p) is (record {
        old = old;
        was = o.1;
        announced = λ g m. inl m;
        achieved = upd_each old.achieved f true (λ g x. x ≡ true → (old.achieved g ≡ true) ⊎ (AchievesBy step out g label × (old.announced g ≡ true)))
            (λ _. inr (subst (λ (l : List ℕ). AchievesBy step out f l) (sym same) (r.step_is, r.done), told same old o.1))
            (λ g ne m. inl m);
        stays = upd_each old.achieved f true (λ g x. old.achieved g ≡ true → x ≡ true) (λ _. refl) (λ g ne m. m);
        still_told = λ g m. m;
      }))
      (λ (n : bytes_eq label l ≡ false).
      let is : old ≡ new = sym (ap (λ (b : Bool). cond b (achieved_by f old) old) n) ∙ o.2 in
      subst (λ (p : Point). WasOpen c step out label p) is (record { old = old; was = o.1; announced = λ g m. inl m; achieved = λ g m. inl m; stays = λ g m. m; still_told = λ g m. m }))
      (cases_Bool (bytes_eq label l))
    where
      told : label ≡ l → (old : Point) → point_labelled label c.directory.points ≡ Some old → old.announced f ≡ true
      told same old was =
          let found : point_labelled l c.directory.points ≡ Some old = subst (λ (l : List ℕ). point_labelled l c.directory.points ≡ Some old) same was in
          let may : is_awaited f old ≡ true = rw found at r.may in
          (and_parts (old.announced f) (not (old.achieved f)) may).0

  achieved_course : (f : ℕ) (l : List ℕ) → IsAchieved c step out d f l → (new : Point) → point_labelled label d.directory.points ≡ Some new → PointCourse c step out label new
  achieved_course f l r new is =
      let left = found_left label _ (with_point (achieved_by f) l c.directory.points) new (apart_changed (achieved_by f) (λ _. refl) l c.directory.points k.apart) (sym (ap (point_labelled label) r.points) ∙ is) in
      Old (achieved_before f l r new left.0)

  left_course : (f : ℕ) → IsLeft c step out d f → (new : Point) → point_labelled label d.directory.points ≡ Some new → PointCourse c step out label new
  left_course f r new is = same_course new (found_left label _ c.directory.points new k.apart (sym (ap (point_labelled label) r.points) ∙ is)).0

  told_course : (f : ℕ) (n : Notice) → IsToldOf c step out d f n → (new : Point) → point_labelled label d.directory.points ≡ Some new → PointCourse c step out label new
  told_course f n r new is = after_notice_both (λ ps. point_labelled label ps ≡ Some new → PointCourse c step out label new) f n c.directory.points (same_course new) announced (sym (ap (point_labelled label) r.points) ∙ is)
    where
      announced : n.kind ≡ kind.Announced → point_labelled label (with_point (announced_to f) n.label c.directory.points) ≡ Some new → PointCourse c step out label new
      announced e found =
          let o = mapped _ (point_labelled label c.directory.points) new (sym (found_changed (announced_to f) (λ _. refl) label n.label c.directory.points) ∙ found) in
          let old = o.0 in
          ⊎_elim
          (λ (y : bytes_eq label n.label ≡ true).
          let same : label ≡ n.label = labels_same label n.label y in
          let is : announced_to f old ≡ new = sym (ap (λ (b : Bool). cond b (announced_to f old) old) y) ∙ o.2 in
          subst (λ (p : Point). PointCourse c step out label p) is (Old (record {
            old = old;
            was = o.1;
            announced = upd_each old.announced f true (λ g x. x ≡ true → (old.announced g ≡ true) ⊎ GivesCallback step out g (callback.AnnounceSynchronizationPoint label))
                (λ _. inr (subst (λ (l : List ℕ). GivesCallback step out f (callback.AnnounceSynchronizationPoint l)) (sym same) (r.gives e)))
                (λ g ne m. inl m);
            achieved = λ g m. inl m;
            stays = λ g m. m;
            still_told = upd_each old.announced f true (λ g x. old.announced g ≡ true → x ≡ true) (λ _. refl) (λ g ne m. m);
          })))
          (λ (n : bytes_eq label n.label ≡ false). let is : old ≡ new = sym (ap (λ (b : Bool). cond b (announced_to f old) old) n) ∙ o.2 in subst (λ (p : Point). PointCourse c step out label p) is (same_course old o.1))
          (cases_Bool (bytes_eq label n.label))

  turn_course : PointTurn c step out d → (new : Point) → point_labelled label d.directory.points ≡ Some new → PointCourse c step out label new
  turn_course (Still quiet s) new is = course_of new s.points is
  turn_course (Registered f l r) new is = registered_course f l r new is
  turn_course (Achieved f l r) new is = achieved_course f l r new is
  turn_course (Joined r) new is = course_of new r.points is
  turn_course (Left f r) new is = left_course f r new is
  turn_course (Told f n r) new is = told_course f n r new is

  -- ---- a point that closes
  module _ (g : ℕ) (opened : is_open label c.directory.points ≡ true) (closed : is_open label d.directory.points ≡ false) (member : d.directory.joined g ≡ true) where
    stays : is_open label d.directory.points ≡ true → WasAchieved c step out label g
    stays still = absurd (both_ways (is_open label d.directory.points) closed still)

    achieved_closing : (f : ℕ) (l : List ℕ) → IsAchieved c step out d f l → WasAchieved c step out label g
    achieved_closing f l r =
        let ps = with_point (achieved_by f) l c.directory.points in
        let members = members_of c.directory.joined c.directory.next_federate in
        let apart = apart_changed (achieved_by f) (λ _. refl) l c.directory.points k.apart in
        let p = some_of (point_labelled label ps) (open_changed (achieved_by f) (λ _. refl) label l c.directory.points ∙ opened) in
        let kept : not (is_achieved_by_all members p.0) ≡ false = sym (left_kept label (λ q. not (is_achieved_by_all members q)) ps p.0 apart p.1) ∙ sym (ap (is_open label) r.points) ∙ closed in
        let is : c.directory.joined g ≡ true = sym (ap (λ (t : ℕ → Bool). t g) r.joined) ∙ member in
        let all : p.0.achieved g ≡ true = achieved_by_member c.directory.joined p.0.achieved c.directory.next_federate g is (k.members g is) (not-false _ kept) in
        let was = achieved_before f l r p.0 p.1 in
        record { point = was.old; was = was.was; achieved = was.achieved g all }

    left_closing : (f : ℕ) → IsLeft c step out d f → WasAchieved c step out label g
    left_closing f r =
        let joined = upd c.directory.joined f false in
        let members = members_of joined c.directory.next_federate in
        let p = some_of (point_labelled label c.directory.points) opened in
        let kept : not (is_achieved_by_all members p.0) ≡ false = sym (left_kept label (λ q. not (is_achieved_by_all members q)) c.directory.points p.0 k.apart p.1) ∙ sym (ap (is_open label) r.points) ∙ closed in
        let is : joined g ≡ true = sym (ap (λ (t : ℕ → Bool). t g) r.joined) ∙ member in
        let low : g < c.directory.next_federate = upd_each c.directory.joined f false (λ g x. x ≡ true → g < c.directory.next_federate) (λ e. absurd (cc)) (λ g _. k.members g) g is in
        record { point = p.0; was = p.1; achieved = inl (achieved_by_member joined p.0.achieved c.directory.next_federate g is low (not-false _ kept)) }

    turn_closing : PointTurn c step out d → WasAchieved c step out label g
    turn_closing (Still quiet s) = stays (ap (is_open label) s.points ∙ opened)
    turn_closing (Registered f l r) = stays (ap (is_open label) r.points ∙ registered_open f l r)
      where
        registered_open : (f : ℕ) (l : List ℕ) → IsRegistered c step out d f l → is_open label (cond (is_open l c.directory.points) c.directory.points (c.directory.points ++ (new_point l ∷ []))) ≡ true
        registered_open f l r = ⊎_elim
            (λ (y : is_open l c.directory.points ≡ true). rw y opened)
            (λ (n : is_open l c.directory.points ≡ false). rw n (let p = some_of (point_labelled label c.directory.points) opened in found_open label (c.directory.points ++ (new_point l ∷ [])) p.0 (found_before label c.directory.points (new_point l ∷ []) p.0 p.1)))
            (cases_Bool (is_open l c.directory.points))
    turn_closing (Achieved f l r) = achieved_closing f l r
    turn_closing (Joined r) = stays (ap (is_open label) r.points ∙ opened)
    turn_closing (Left f r) = left_closing f r
    turn_closing (Told f n r) = stays (ap (is_open label) r.points ∙ after_notice_both (λ ps. is_open label ps ≡ true) f n c.directory.points opened (λ _. open_changed (announced_to f) (λ _. refl) label n.label c.directory.points ∙ opened))

pub step_course : (c : Central) (h : Happening) → MayEnd c h.step h.outcome h.choice → ArePointsKept c → (label : List ℕ) (new : Point) → point_labelled label (next_state c h).directory.points ≡ Some new
    → PointCourse c h.step h.outcome label new
step_course c h may k label new is = turn_course c k h.step h.outcome (next_state c h) label (step_turn c h.step h.outcome h.choice may) new is

pub step_closing : (c : Central) (h : Happening) → MayEnd c h.step h.outcome h.choice → ArePointsKept c → (label : List ℕ) (g : ℕ) → Closes c h label → (next_state c h).directory.joined g ≡ true
    → WasAchieved c h.step h.outcome label g
step_closing c h may k label g closes member = turn_closing c k h.step h.outcome (next_state c h) label g closes.0 closes.1 member (step_turn c h.step h.outcome h.choice may)
