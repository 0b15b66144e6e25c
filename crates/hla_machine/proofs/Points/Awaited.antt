-- An open point waits for somebody: no point stays open that all who are joined have achieved
use Rattle.std.proofs.Common.{◌≡◌, ⊎_elim, ℕ, ◌+◌, cond, not, Bool, true, false, refl, sym, ap, subst, ◌∙◌, List, [], ◌∷◌, ◌++◌, Some, None, append_assoc, arith}
use Rattle.std.proofs.lemmas.Bool.{cases_Bool, both_ways, false_from_ne_true, not-true}
use Rattle.std.specs.Str.{bytes_eq}
use Rattle.hla_base.specs.declared.notice.Notice.{Notice}
use Rattle.hla_base.specs.declared.notice.NoticeKind.TheVariants as kind
use Rattle.hla_base.specs.Tables.{upd}
use Rattle.hla_base.proofs.Tables.{upd_same, upd_each}
use Rattle.hla_catalogue.specs.CatalogueValue.{CatalogueValue}
use Rattle.hla_synchronization.specs.Points.{Point, new_point, point_labelled, is_open, is_achieved_by_all, with_point, achieved_by, announced_to, left_open}
use Rattle.hla_machine.specs.declared.service.Service.TheVariants as service
use Rattle.hla_machine.specs.declared.step.Step.{Step}
use Rattle.hla_machine.specs.declared.step.Step.TheVariants.{Call}
use Rattle.hla_machine.specs.declared.step.Answer.TheVariants as answer
use Rattle.hla_machine.specs.declared.step.Outcome.{Outcome}
use Rattle.hla_machine.specs.declared.step.Outcome.TheVariants as outcome
use Rattle.hla_machine.specs.declared.step.Choice.{Choice}
use Rattle.hla_machine.specs.Central.{Central, new_central}
use Rattle.hla_machine.specs.Machine.{MayEnd, after}
use Rattle.hla_machine.specs.Runs.{Happening, IsRun}
use Rattle.hla_machine.specs.History.{next_state, central_after}
use Rattle.hla_machine.specs.Synchronized.{IsPointOpen, StaysOpen, HasAchieved, WaitsForSome}
use Rattle.hla_machine.proofs.Upkeep.Runs.{first_run, rest_run}
use Rattle.hla_machine.proofs.Points.Lists.{AreApart, same_label, some_of, found_open, found_changed, found_left, found_before, found_behind, apart_changed}
use Rattle.hla_machine.proofs.Points.Turns.{PointTurn, Still, Registered, Achieved, Joined, Left, Told, IsRegistered, IsJoined, IsToldOf, members_of, step_turn}
use Rattle.hla_machine.proofs.Points.Kept.{ArePointsKept, after_notice_both, points_kept, points_start}
use Rattle.hla_machine.proofs.Points.Reached.{after_both}
use Rattle.hla_machine.proofs.Points.Marks.{PointCourse, New, Old, some_same, mapped, achieved_by_member, each_member, someone_left, step_course}

-- ---- no open point is complete
abbrev IsComplete : (ℕ → Bool) → ℕ → Point → Bool
IsComplete joined next p = is_achieved_by_all (members_of joined next) p

pub record AreAwaited (c : Central) : Type 0 where
  pub kept : ArePointsKept c
  pub each : (label : List ℕ) (p : Point) → point_labelled label c.directory.points ≡ Some p → IsComplete c.directory.joined c.directory.next_federate p ≡ false

module _ (c : Central) (w : AreAwaited c) (d : Central) (label : List ℕ) (p : Point) (is : point_labelled label d.directory.points ≡ Some p) where
  abbrev IsWaited : Type 0
  IsWaited = IsComplete d.directory.joined d.directory.next_federate p ≡ false

  -- the members are these
  by_members : (joined : ℕ → Bool) (next : ℕ) → d.directory.joined ≡ joined → d.directory.next_federate ≡ next → IsComplete joined next p ≡ false → IsWaited
  by_members joined next e1 e2 waits = ap (λ (members : ℕ → Bool). IsComplete members d.directory.next_federate p) e1 ∙ ap (λ (n : ℕ). IsComplete joined n p) e2 ∙ waits

  same_waits : d.directory.points ≡ c.directory.points → d.directory.joined ≡ c.directory.joined → d.directory.next_federate ≡ c.directory.next_federate → IsWaited
  same_waits points joined next = by_members c.directory.joined c.directory.next_federate joined next (w.each label p (sym (ap (point_labelled label) points) ∙ is))

  registered_waits : (step : Step) (out : Outcome) (f : ℕ) (l : List ℕ) → IsRegistered c step out d f l → IsWaited
  registered_waits step out f l r = ⊎_elim
      (λ (y : is_open l c.directory.points ≡ true). same_waits (r.points ∙ rw y refl) r.joined r.next)
      (λ (n : is_open l c.directory.points ≡ false).
      let points : d.directory.points ≡ c.directory.points ++ (new_point l ∷ []) = r.points ∙ rw n refl in
      let found : point_labelled label (c.directory.points ++ (new_point l ∷ [])) ≡ Some p = sym (ap (point_labelled label) points) ∙ is in
      by_members c.directory.joined c.directory.next_federate r.joined r.next (⊎_elim
      (λ (old : is_open label c.directory.points ≡ true). let q = some_of _ old in
      w.each label p (q.1 ∙ ap Some (some_same q.0 p (sym (found_before label c.directory.points (new_point l ∷ []) q.0 q.1) ∙ found))))
      (λ (none : is_open label c.directory.points ≡ false). fresh (sym (found_behind label c.directory.points (new_point l ∷ []) none) ∙ found))
      (cases_Bool (is_open label c.directory.points))))
      (cases_Bool (is_open l c.directory.points))
    where
      fresh : point_labelled label (new_point l ∷ []) ≡ Some p → IsComplete c.directory.joined c.directory.next_federate p ≡ false
      fresh found = ⊎_elim
          (λ (y : bytes_eq l label ≡ true). let same : new_point l ≡ p = some_same _ _ (rw y at found) in
          subst (λ (q : Point). IsComplete c.directory.joined c.directory.next_federate q ≡ false) same
          (false_from_ne_true _ (λ all. let mark : false ≡ true = achieved_by_member c.directory.joined (λ _. false) c.directory.next_federate f r.member (w.kept.members f r.member) all in cc)))
          (λ (n : bytes_eq l label ≡ false). let nothing : None ≡ Some p = rw n at found in absurd (cc))
          (cases_Bool (bytes_eq l label))

  -- what is left open is not complete
  left_waits : (joined : ℕ → Bool) (next : ℕ) (ps : List Point) → AreApart ps → d.directory.points ≡ left_open (members_of joined next) ps → d.directory.joined ≡ joined → d.directory.next_federate ≡ next → IsWaited
  left_waits joined next ps apart points members numbers = by_members joined next members numbers
      (not-true _ (found_left label (λ q. not (IsComplete joined next q)) ps p apart (sym (ap (point_labelled label) points) ∙ is)).1)

  -- a federate more does not complete a point
  joined_waits : (step : Step) (out : Outcome) → IsJoined c step out d → IsWaited
  joined_waits step out r = by_members (upd c.directory.joined c.directory.next_federate true) (c.directory.next_federate + 1) r.joined r.next
      (false_from_ne_true _ (λ all.
      let before = w.each label p (sym (ap (point_labelled label) r.points) ∙ is) in
      let each : (g : ℕ) → c.directory.joined g ≡ true → p.achieved g ≡ true = λ g member.
      let there : upd c.directory.joined c.directory.next_federate true g ≡ true = upd_each c.directory.joined c.directory.next_federate true (λ j x. c.directory.joined j ≡ true → x ≡ true) (λ _. refl) (λ _ _ e. e) g member in
      achieved_by_member (upd c.directory.joined c.directory.next_federate true) p.achieved (c.directory.next_federate + 1) g there (let low = w.kept.members g member in omega (arith, low)) all in
      both_ways (IsComplete c.directory.joined c.directory.next_federate p) before (each_member c.directory.joined p.achieved c.directory.next_federate each)))

  told_waits : (step : Step) (out : Outcome) (f : ℕ) (n : Notice) → IsToldOf c step out d f n → IsWaited
  told_waits step out f n r = by_members c.directory.joined c.directory.next_federate r.joined r.next
      (after_notice_both (λ ps. point_labelled label ps ≡ Some p → IsComplete c.directory.joined c.directory.next_federate p ≡ false) f n c.directory.points (w.each label p) announced (sym (ap (point_labelled label) r.points) ∙ is))
    where
      announced : n.kind ≡ kind.Announced → point_labelled label (with_point (announced_to f) n.label c.directory.points) ≡ Some p → IsComplete c.directory.joined c.directory.next_federate p ≡ false
      announced e found =
          let o = mapped _ (point_labelled label c.directory.points) p (sym (found_changed (announced_to f) (λ _. refl) label n.label c.directory.points) ∙ found) in
          let before = w.each label o.0 o.1 in
          subst (λ (q : Point). IsComplete c.directory.joined c.directory.next_federate q ≡ false) o.2 (same_marks (bytes_eq label n.label) o.0 before)
        where
          same_marks : (b : Bool) (q : Point) → IsComplete c.directory.joined c.directory.next_federate q ≡ false → IsComplete c.directory.joined c.directory.next_federate (cond b (announced_to f q) q) ≡ false
          same_marks true q waits = waits
          same_marks false q waits = waits

  turn_waits : (step : Step) (out : Outcome) → PointTurn c step out d → IsWaited
  turn_waits step out (Still quiet s) = same_waits s.points s.joined s.next
  turn_waits step out (Registered f l r) = registered_waits step out f l r
  turn_waits step out (Achieved f l r) = left_waits c.directory.joined c.directory.next_federate (with_point (achieved_by f) l c.directory.points) (apart_changed (achieved_by f) (λ _. refl) l c.directory.points w.kept.apart) r.points r.joined r.next
  turn_waits step out (Joined r) = joined_waits step out r
  turn_waits step out (Left f r) = left_waits (upd c.directory.joined f false) c.directory.next_federate c.directory.points w.kept.apart r.points r.joined r.next
  turn_waits step out (Told f n r) = told_waits step out f n r

pub awaited_step : (c : Central) (step : Step) (out : Outcome) (o : Choice) → MayEnd c step out o → AreAwaited c → AreAwaited (after c step out o)
awaited_step c step out o may w = record {
  kept = points_kept c step out o may w.kept;
  each = λ label p is. turn_waits c w (after c step out o) label p is step out (step_turn c step out o may);
}

pub awaited_run : (c : Central) (hs : List Happening) (d : Central) → IsRun c hs d → AreAwaited c → AreAwaited d
awaited_run c [] d run w = subst AreAwaited run w
awaited_run c (h ∷ hs) d run w = awaited_run (next_state c h) hs d run.1 (awaited_step c h.step h.outcome h.choice run.0.0 w)

pub awaited_start : (catalogue : CatalogueValue) → AreAwaited (new_central catalogue)
awaited_start catalogue = record { kept = points_start catalogue; each = λ label p is. absurd (cc) }

-- ---- who has achieved a point is marked
-- the call marks the caller
achieving_marks : (c : Central) (k : ArePointsKept c) (g : ℕ) (label : List ℕ) (step : Step) (out : Outcome) (o : Choice) (new : Point) → step ≡ Call g (service.SynchronizationPointAchieved label) → out ≡ outcome.Done answer.Done
    → point_labelled label (after c step out o).directory.points ≡ Some new → new.achieved g ≡ true
achieving_marks c k g label step out o new is_call is_done found =
    let at : point_labelled label (after c (Call g (service.SynchronizationPointAchieved label)) (outcome.Done answer.Done) o).directory.points ≡ Some new =
    subst (λ (y : Outcome). point_labelled label (after c (Call g (service.SynchronizationPointAchieved label)) y o).directory.points ≡ Some new) is_done
    (subst (λ (x : Step). point_labelled label (after c x out o).directory.points ≡ Some new) is_call found) in
    let left = found_left label (λ q. not (IsComplete c.directory.joined c.directory.next_federate q)) (with_point (achieved_by g) label c.directory.points) new (apart_changed (achieved_by g) (λ _. refl) label c.directory.points k.apart) at in
    let m = mapped _ (point_labelled label c.directory.points) new (sym (found_changed (achieved_by g) (λ _. refl) label label c.directory.points) ∙ left.0) in
    let marked : achieved_by g m.0 ≡ new = sym (ap (λ (b : Bool). cond b (achieved_by g m.0) m.0) (same_label label)) ∙ m.2 in
    subst (λ (q : Point). q.achieved g ≡ true) marked (upd_same m.0.achieved g true)

-- a point that is open when each of these happens, and behind them, is open first
open_first : (c : Central) (hs : List Happening) (label : List ℕ) → StaysOpen c hs label → IsPointOpen (central_after c hs) label → IsPointOpen c label
open_first c [] label stays opened = opened
open_first c (h ∷ hs) label stays opened = stays.0

-- and a mark stays
mark_stays : (c : Central) (hs : List Happening) (d : Central) (label : List ℕ) (g : ℕ) → IsRun c hs d → ArePointsKept c → StaysOpen c hs label → IsPointOpen (central_after c hs) label
    → ((p : Point) → point_labelled label c.directory.points ≡ Some p → p.achieved g ≡ true) → (p : Point) → point_labelled label d.directory.points ≡ Some p → p.achieved g ≡ true
mark_stays c [] d label g run k stays opened mark p is = mark p (ap (λ (x : Central). point_labelled label x.directory.points) run ∙ is)
mark_stays c (h ∷ hs) d label g run k stays opened mark p is =
    mark_stays (next_state c h) hs d label g run.1 (points_kept c h.step h.outcome h.choice run.0.0 k) stays.1 opened (λ new found. later new (step_course c h run.0.0 k label new found)) p is
  where
    later : (new : Point) → PointCourse c h.step h.outcome label new → new.achieved g ≡ true
    later new (New none _ _) = absurd (both_ways (is_open label c.directory.points) none stays.0)
    later new (Old o) = o.stays g (mark o.old o.was)

-- the end of a list of happenings from c is the state to which they lead
end_is : (c : Central) (hs : List Happening) (d : Central) → IsRun c hs d → central_after c hs ≡ d
end_is c [] d run = run
end_is c (h ∷ hs) d run = end_is (next_state c h) hs d run.1

kept_run : (c : Central) (hs : List Happening) (d : Central) → IsRun c hs d → ArePointsKept c → ArePointsKept d
kept_run c [] d run k = subst ArePointsKept run k
kept_run c (h ∷ hs) d run k = kept_run (next_state c h) hs d run.1 (points_kept c h.step h.outcome h.choice run.0.0 k)

stays_behind : (c : Central) (xs ys : List Happening) (label : List ℕ) → StaysOpen c (xs ++ ys) label → StaysOpen (central_after c xs) ys label
stays_behind c [] ys label stays = stays
stays_behind c (x ∷ xs) ys label stays = stays_behind (next_state c x) xs ys label stays.1

-- who has achieved an open point is marked
achieved_marked : (s : Central) (hs : List Happening) (c : Central) (g : ℕ) (label : List ℕ) (p : Point) → IsRun s hs c → ArePointsKept s → HasAchieved s hs g label → point_labelled label c.directory.points ≡ Some p → p.achieved g ≡ true
achieved_marked s hs c g label p run k a is =
    let early = a.before ++ (a.announcement ∷ a.between) in
    let late = a.achievement ∷ a.rest in
    let split : hs ≡ early ++ late = a.whole ∙ sym (append_assoc a.before (a.announcement ∷ a.between) late) in
    let all : IsRun s (early ++ late) c = subst (λ (xs : List Happening). IsRun s xs c) split run in
    let now = central_after s early in
    let rest = rest_run s early late c all in
    let kept = kept_run s early now (first_run s early late c all) k in
    let next = next_state now a.achievement in
    let still : StaysOpen now late label = subst (λ (x : Central). StaysOpen x late label) (sym (after_both s a.before (a.announcement ∷ a.between))) (stays_behind (central_after s a.before) (a.announcement ∷ a.between) late label a.same) in
    let opened : IsPointOpen (central_after next a.rest) label = subst (λ (x : Central). IsPointOpen x label) (sym (end_is next a.rest c rest.1)) (found_open label c.directory.points p is) in
    mark_stays next a.rest c label g rest.1 (points_kept now a.achievement.step a.achievement.outcome a.achievement.choice rest.0.0 kept) still.1 opened
    (λ new found. achieving_marks now kept g label a.achievement.step a.achievement.outcome a.achievement.choice new a.achieves.0 a.achieves.1 found) p is

-- ---- the law
pub waits_for_some : (catalogue : CatalogueValue) (hs : List Happening) (c : Central) (label : List ℕ) → IsRun (new_central catalogue) hs c → IsPointOpen c label → WaitsForSome (new_central catalogue) hs c label
waits_for_some catalogue hs c label run opened =
    let start = new_central catalogue in
    let w = awaited_run start hs c run (awaited_start catalogue) in
    let p = some_of (point_labelled label c.directory.points) opened in
    let left = someone_left c.directory.joined p.0.achieved c.directory.next_federate (w.each label p.0 p.1) in
    record {
      federate = left.0;
      member = left.1;
      lacks = λ a. both_ways (p.0.achieved left.0) left.2 (achieved_marked start hs c left.0 label p.0 run (points_start catalogue) a p.1);
    }
