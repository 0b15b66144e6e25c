-- What becomes due to a federate is what it is told, and what then waits for it
use Rattle.std.proofs.Common.{◌≡◌, ◌≢◌, ◌⊎◌, ⊎_elim, inl, inr, lt_irrefl, ◌<◌, ℕ, cond, eqb, not, ◌&&◌, Bool, true, false, refl, sym, ap, ap₂, subst, ◌∙◌, List, [], ◌∷◌, ◌++◌, append_assoc, append-nil, drop, is_some, map}
use Rattle.std.proofs.lemmas.Bool.{cases_Bool, cases_eq, both_ways, ne_eqb, eq-eqb, and_from}
use Rattle.std.proofs.lemmas.List.{map-append}
use Rattle.std.proofs.lemmas.List.Elements.{filter-append, filter_agree}
use Rattle.std.specs.List.{filter}
use Rattle.hla_base.specs.declared.notice.Notice.{Notice}
use Rattle.hla_base.specs.declared.notice.NoticeKind.TheVariants as kind
use Rattle.hla_base.specs.Tables.{upd}
use Rattle.hla_base.proofs.Tables.{upd_same, upd_other}
use Rattle.hla_synchronization.specs.Points.{Point, new_point, is_open, is_achieved_by_all, with_point, achieved_by, announced_to, closing, left_open, notice, announcement_of, closing_of}
use Rattle.hla_machine.specs.Central.{Central}
use Rattle.hla_machine.specs.Callbacks.{IsNextNotice}
use Rattle.hla_machine.specs.Machine.{MayEnd}
use Rattle.hla_machine.specs.Runs.{Happening, IsRun}
use Rattle.hla_machine.specs.History.{next_state}
use Rattle.hla_machine.specs.Synchronized.{StaysJoined, registration_due, due_over, due_at, notices_given, told_over}
use Rattle.hla_machine.proofs.Points.Lists.{AreApart, labels_of, open_changed, labels_changed, apart_changed, found_before, some_of, closed_left, no_label, each_label, closed_labels}
use Rattle.hla_machine.proofs.Points.Turns.{PointTurn, Still, Registered, Achieved, Joined, Left, Told, IsStill, IsRegistered, IsAchieved, IsJoined, IsLeft, IsToldOf, members_of, step_turn}
use Rattle.hla_machine.proofs.Points.Kept.{ArePointsKept, after_notice_both, points_kept}

-- ---- points that open and close between two lists of them
abbrev opening_in : Bool → List Point → List Point → List (List ℕ)
opening_in member old new = filter (λ label. not (member && is_open label old)) (labels_of new)

abbrev closing_in : List Point → List Point → List (List ℕ)
closing_in old new = filter (λ label. not (is_open label new)) (labels_of old)

none_opens : (member : Bool) (old new : List Point) → member ≡ true → ((l : List ℕ) → is_open l new ≡ true → is_open l old ≡ true) → opening_in member old new ≡ []
none_opens member old new is all = no_label new (λ label. member && is_open label old) (λ l opened. and_from member (is_open l old) is (all l opened))

none_closes : (old new : List Point) → ((l : List ℕ) → is_open l old ≡ true → is_open l new ≡ true) → closing_in old new ≡ []
none_closes old new all = no_label old (λ label. is_open label new) all

-- no point opens among those that are left, and those close that all have achieved
kept_open : (keep : Point → Bool) (ps : List Point) (l : List ℕ) → is_open l (filter keep ps) ≡ true → is_open l ps ≡ true
kept_open keep ps l opened = ⊎_elim
    (λ (y : is_open l ps ≡ true). y)
    (λ (n : is_open l ps ≡ false). absurd (both_ways (is_open l (filter keep ps)) (closed_left l keep ps n) opened))
    (cases_Bool (is_open l ps))

twice_not : (b : Bool) → not (not b) ≡ b
twice_not true = refl
twice_not false = refl

closing_left : (members : List ℕ) (ps : List Point) → AreApart ps → closing_in ps (left_open members ps) ≡ labels_of (closing members ps)
closing_left members ps apart =
    let keep : Point → Bool = λ p. not (is_achieved_by_all members p) in
    closed_labels keep ps (λ label. is_open label (filter keep ps)) apart (λ l opened. refl)
    ∙ ap labels_of (filter_agree (λ p. not (keep p)) (is_achieved_by_all members) (λ p. twice_not (is_achieved_by_all members p)) ps)

announcements : (ps : List Point) → map (notice kind.Announced) (labels_of ps) ≡ map announcement_of ps
announcements [] = refl
announcements (p ∷ ps) = ap (λ ns. announcement_of p ∷ ns) (announcements ps)

closing_notes : (ps : List Point) → map (notice kind.Synchronized) (labels_of ps) ≡ map closing_of ps
closing_notes [] = refl
closing_notes (p ∷ ps) = ap (λ ns. closing_of p ∷ ns) (closing_notes ps)

-- ---- one step
abbrev due_in : List Notice → List (List ℕ) → List (List ℕ) → List Notice
due_in answered opens closes = answered ++ (map (notice kind.Announced) opens ++ map (notice kind.Synchronized) closes)

balance : (waits due told later d t l : List Notice) → due ≡ d → told ≡ t → later ≡ l → waits ++ d ≡ t ++ l → waits ++ due ≡ told ++ later
balance waits due told later d t l e1 e2 e3 same = ap (λ ns. waits ++ ns) e1 ∙ same ∙ sym (ap₂ (λ (x y : List Notice). x ++ y) e2 e3)

module _ (c : Central) (k : ArePointsKept c) (h : Happening) (d : Central) (f : ℕ) (member : d.directory.joined f ≡ true) where
  abbrev joins : Bool
  joins = c.directory.joined f

  abbrev due_then : List Notice
  due_then = due_in (registration_due c h.step h.outcome f) (opening_in joins c.directory.points d.directory.points) (closing_in c.directory.points d.directory.points)

  abbrev IsBalanced : Type 0
  IsBalanced = c.notices f ++ due_then ≡ notices_given h.step h.outcome f ++ d.notices f

  due_is : (answered : List Notice) (opens closes : List (List ℕ)) → registration_due c h.step h.outcome f ≡ answered → opening_in joins c.directory.points d.directory.points ≡ opens
      → closing_in c.directory.points d.directory.points ≡ closes → due_then ≡ due_in answered opens closes
  due_is answered opens closes e1 e2 e3 = λ i. due_in (e1 i) (e2 i) (e3 i)

  was_member : d.directory.joined ≡ c.directory.joined → joins ≡ true
  was_member same = sym (ap (λ (t : ℕ → Bool). t f) same) ∙ member

  -- the same labels are open
  level_due : (answered : List Notice) → registration_due c h.step h.outcome f ≡ answered → joins ≡ true → ((l : List ℕ) → is_open l d.directory.points ≡ is_open l c.directory.points) → due_then ≡ answered
  level_due answered e is same = due_is answered [] [] e
      (none_opens joins c.directory.points d.directory.points is (λ l opened. sym (same l) ∙ opened))
      (none_closes c.directory.points d.directory.points (λ l opened. same l ∙ opened)) ∙ append-nil answered

  still_due : (IsStill c d) → registration_due c h.step h.outcome f ≡ [] → notices_given h.step h.outcome f ≡ [] → IsBalanced
  still_due s due told = balance (c.notices f) due_then _ (d.notices f) [] [] (c.notices f)
      (level_due [] due (was_member s.joined) (λ l. ap (is_open l) s.points)) told (ap (λ (t : ℕ → List Notice). t f) s.notices) (append-nil (c.notices f))

  registered_due : (g : ℕ) (label : List ℕ) → IsRegistered c h.step h.outcome d g label → IsBalanced
  registered_due g label r = ⊎_elim
      (λ (y : is_open label c.directory.points ≡ true).
      let due : registration_due c h.step h.outcome f ≡ cond (eqb g f) (notice kind.RegistrationFailed label ∷ []) [] = r.due f ∙ rw y refl in
      let points : d.directory.points ≡ c.directory.points = r.points ∙ rw y refl in
      let later : d.notices f ≡ c.notices f ++ cond (eqb g f) (notice kind.RegistrationFailed label ∷ []) [] = r.notices f ∙ rw y refl in
      balance (c.notices f) due_then _ (d.notices f) _ [] _ (level_due _ due (was_member r.joined) (λ l. ap (is_open l) points)) (r.told f) later refl)
      (λ (n : is_open label c.directory.points ≡ false).
      let due : registration_due c h.step h.outcome f ≡ cond (eqb g f) (notice kind.RegistrationSucceeded label ∷ []) [] = r.due f ∙ rw n refl in
      let points : d.directory.points ≡ c.directory.points ++ (new_point label ∷ []) = r.points ∙ rw n refl in
      let is = was_member r.joined in
      let later : d.notices f ≡ c.notices f ++ (cond (eqb g f) (notice kind.RegistrationSucceeded label ∷ []) [] ++ (notice kind.Announced label ∷ [])) = r.notices f ∙ rw (n, is) refl in
      balance (c.notices f) due_then _ (d.notices f) _ [] _
      (due_is _ (label ∷ []) [] due
      (ap (opening_in joins c.directory.points) points ∙ one_opens label n is)
      (ap (closing_in c.directory.points) points ∙ none_closes c.directory.points (c.directory.points ++ (new_point label ∷ [])) (λ l opened. let p = some_of _ opened in ap is_some (found_before l c.directory.points (new_point label ∷ []) p.0 p.1))))
      (r.told f) later refl)
      (cases_Bool (is_open label c.directory.points))
    where
      one_opens : (label : List ℕ) → is_open label c.directory.points ≡ false → joins ≡ true → opening_in joins c.directory.points (c.directory.points ++ (new_point label ∷ [])) ≡ label ∷ []
      one_opens label none is =
          let test : List ℕ → Bool = λ l. not (joins && is_open l c.directory.points) in
          let old : filter test (labels_of c.directory.points) ≡ [] = none_opens joins c.directory.points c.directory.points is (λ l opened. opened) in
          let new : filter test (label ∷ []) ≡ label ∷ [] = rw (is, none) refl in
          ap (filter test) (map-append (λ (p : Point). p.label) c.directory.points (new_point label ∷ []))
          ∙ filter-append test (labels_of c.directory.points) (label ∷ [])
          ∙ ap₂ (λ (x y : List (List ℕ)). x ++ y) old new

  -- points are left of a list with the same labels, of which those close that all have achieved
  left_due : (members : List ℕ) (ps : List Point) → AreApart ps → labels_of ps ≡ labels_of c.directory.points → ((l : List ℕ) → is_open l ps ≡ is_open l c.directory.points)
      → d.directory.points ≡ left_open members ps → joins ≡ true → registration_due c h.step h.outcome f ≡ [] → due_then ≡ map closing_of (closing members ps)
  left_due members ps apart labels opens points is due = due_is [] [] (labels_of (closing members ps)) due
      (none_opens joins c.directory.points d.directory.points is (λ l opened. sym (opens l) ∙ kept_open _ ps l (sym (ap (is_open l) points) ∙ opened)))
      (ap (closing_in c.directory.points) points ∙ ap (filter (λ label. not (is_open label (left_open members ps)))) (sym labels) ∙ closing_left members ps apart)
      ∙ closing_notes (closing members ps)

  achieved_due : (g : ℕ) (label : List ℕ) → IsAchieved c h.step h.outcome d g label → IsBalanced
  achieved_due g label r =
      let ps = with_point (achieved_by g) label c.directory.points in
      let is = was_member r.joined in
      let later : d.notices f ≡ c.notices f ++ map closing_of (closing (members_of c.directory.joined c.directory.next_federate) ps) = r.notices f ∙ rw is refl in
      balance (c.notices f) due_then _ (d.notices f) _ [] _
      (left_due (members_of c.directory.joined c.directory.next_federate) ps (apart_changed (achieved_by g) (λ _. refl) label c.directory.points k.apart)
      (labels_changed (achieved_by g) (λ _. refl) label c.directory.points) (λ l. open_changed (achieved_by g) (λ _. refl) l label c.directory.points) r.points is (r.quiet.due f))
      (r.quiet.told f) later refl

  left_balanced : (g : ℕ) → IsLeft c h.step h.outcome d g → IsBalanced
  left_balanced g r = ⊎_elim
      (λ (same : g ≡ f). absurd (let fails : upd c.directory.joined g false f ≡ false = subst (λ (x : ℕ). upd c.directory.joined g false x ≡ false) same (upd_same c.directory.joined g false) in
      both_ways (d.directory.joined f) (ap (λ (t : ℕ → Bool). t f) r.joined ∙ fails) member))
      (λ (ne : g ≢ f).
      let there : upd c.directory.joined g false f ≡ true = sym (ap (λ (t : ℕ → Bool). t f) r.joined) ∙ member in
      let is : joins ≡ true = sym (upd_other c.directory.joined g false f ne) ∙ there in
      let members = members_of (upd c.directory.joined g false) c.directory.next_federate in
      let waits : upd c.notices g [] f ≡ c.notices f = upd_other c.notices g [] f ne in
      let later : d.notices f ≡ c.notices f ++ map closing_of (closing members c.directory.points) = r.notices f ∙ rw (waits, there) refl in
      balance (c.notices f) due_then _ (d.notices f) _ [] _
      (left_due members c.directory.points k.apart refl (λ l. refl) r.points is (r.quiet.due f)) (r.quiet.told f) later refl)
      (cases_eq g f)

  joined_due : IsJoined c h.step h.outcome d → IsBalanced
  joined_due r = ⊎_elim
      (λ (same : c.directory.next_federate ≡ f).
      let new : eqb c.directory.next_federate f ≡ true = eq-eqb c.directory.next_federate f same in
      let later : d.notices f ≡ c.notices f ++ map announcement_of c.directory.points = r.notices f ∙ rw new refl in
      let stranger : joins ≡ false = newcomer same (cases_Bool joins) in
      let opens : opening_in joins c.directory.points c.directory.points ≡ labels_of c.directory.points = each_label c.directory.points (λ label. joins && is_open label c.directory.points) (λ l opened. rw stranger refl) in
      balance (c.notices f) due_then _ (d.notices f) _ [] _
      (due_is [] (labels_of c.directory.points) [] (r.quiet.due f) (ap (opening_in joins c.directory.points) r.points ∙ opens)
      (none_closes c.directory.points d.directory.points (λ l opened. ap (is_open l) r.points ∙ opened))
      ∙ append-nil (map (notice kind.Announced) (labels_of c.directory.points)) ∙ announcements c.directory.points)
      (r.quiet.told f) later refl)
      (λ (ne : c.directory.next_federate ≢ f).
      let is : joins ≡ true = sym (upd_other c.directory.joined c.directory.next_federate true f ne) ∙ sym (ap (λ (t : ℕ → Bool). t f) r.joined) ∙ member in
      let apart : eqb c.directory.next_federate f ≡ false = ne_eqb c.directory.next_federate f ne in
      let later : d.notices f ≡ c.notices f = r.notices f ∙ rw apart (append-nil (c.notices f)) in
      balance (c.notices f) due_then _ (d.notices f) [] [] (c.notices f) (level_due [] (r.quiet.due f) is (λ l. ap (is_open l) r.points)) (r.quiet.told f) later (append-nil (c.notices f)))
      (cases_eq c.directory.next_federate f)
    where
      newcomer : c.directory.next_federate ≡ f → (joins ≡ true) ⊎ (joins ≡ false) → joins ≡ false
      newcomer same (inl is) = absurd (let low = k.members f is in lt_irrefl f (subst (λ (n : ℕ). f < n) same low))
      newcomer same (inr fails) = fails

  told_due : (g : ℕ) (n : Notice) → IsToldOf c h.step h.outcome d g n → IsBalanced
  told_due g n r =
      let opens : (l : List ℕ) → is_open l d.directory.points ≡ is_open l c.directory.points = λ l.
      ap (is_open l) r.points ∙ after_notice_both (λ ps. is_open l ps ≡ is_open l c.directory.points) g n c.directory.points refl (λ _. open_changed (announced_to g) (λ _. refl) l n.label c.directory.points) in
      let due : due_then ≡ [] = level_due [] (r.due f) (was_member r.joined) opens in
      ⊎_elim
      (λ (same : g ≡ f).
      let told : notices_given h.step h.outcome f ≡ n ∷ [] = r.told f ∙ rw (eq-eqb g f same) refl in
      let later : d.notices f ≡ drop 1 (c.notices f) = r.notices f ∙ subst (λ (x : ℕ). upd c.notices g (drop 1 (c.notices g)) x ≡ drop 1 (c.notices x)) same (upd_same c.notices g (drop 1 (c.notices g))) in
      balance (c.notices f) due_then _ (d.notices f) [] (n ∷ []) (drop 1 (c.notices f)) due told later (append-nil (c.notices f) ∙ first_is (c.notices f) (subst (λ (x : ℕ). IsNextNotice (c.notices x) n) same r.first)))
      (λ (ne : g ≢ f).
      let told : notices_given h.step h.outcome f ≡ [] = r.told f ∙ rw (ne_eqb g f ne) refl in
      let later : d.notices f ≡ c.notices f = r.notices f ∙ upd_other c.notices g (drop 1 (c.notices g)) f ne in
      balance (c.notices f) due_then _ (d.notices f) [] [] (c.notices f) due told later (append-nil (c.notices f)))
      (cases_eq g f)
    where
      first_is : (ns : List Notice) → IsNextNotice ns n → ns ≡ (n ∷ []) ++ drop 1 ns
      first_is [] first = absurd first
      first_is (x ∷ ns) first = ap (λ (y : Notice). y ∷ ns) first

  turn_due : PointTurn c h.step h.outcome d → IsBalanced
  turn_due (Still quiet s) = still_due s (quiet.due f) (quiet.told f)
  turn_due (Registered g label r) = registered_due g label r
  turn_due (Achieved g label r) = achieved_due g label r
  turn_due (Joined r) = joined_due r
  turn_due (Left g r) = left_balanced g r
  turn_due (Told g n r) = told_due g n r

-- what waits for a joined federate and becomes due to it is what it is told, and what then waits for it
pub step_due : (c : Central) (h : Happening) (f : ℕ) → MayEnd c h.step h.outcome h.choice → ArePointsKept c → (next_state c h).directory.joined f ≡ true
    → c.notices f ++ due_at c h f ≡ notices_given h.step h.outcome f ++ (next_state c h).notices f
step_due c h f may k member = turn_due c k h (next_state c h) f member (step_turn c h.step h.outcome h.choice may)

pub run_due : (c : Central) (hs : List Happening) (d : Central) (f : ℕ) → IsRun c hs d → ArePointsKept c → StaysJoined c hs f → c.notices f ++ due_over c hs f ≡ told_over hs f ++ d.notices f
run_due c [] d f run k member = append-nil (c.notices f) ∙ ap (λ (x : Central). x.notices f) run
run_due c (h ∷ hs) d f run k member =
    let next = next_state c h in
    let one = step_due c h f run.0.0 k member.0 in
    let rest = run_due next hs d f run.1 (points_kept c h.step h.outcome h.choice run.0.0 k) member.1 in
    sym (append_assoc (c.notices f) (due_at c h f) (due_over next hs f))
    ∙ ap (λ ns. ns ++ due_over next hs f) one
    ∙ append_assoc (notices_given h.step h.outcome f) (next.notices f) (due_over next hs f)
    ∙ ap (λ ns. notices_given h.step h.outcome f ++ ns) rest
    ∙ sym (append_assoc (notices_given h.step h.outcome f) (told_over hs f) (d.notices f))
