-- What the state keeps of synchronization points: labels apart, and nothing due to who is not joined
use Rattle.std.proofs.Common.{◌≡◌, ◌≢◌, ℕ, ◌+◌, ◌<◌, cond, eqb, not, Bool, true, false, refl, sym, ap, subst, ◌∙◌, arith, List, [], ◌∷◌, ◌++◌, drop}
use Rattle.std.proofs.lemmas.Bool.{cond_both, both_ways, ne_eqb}
use Rattle.hla_base.specs.declared.notice.Notice.{Notice}
use Rattle.hla_base.specs.declared.notice.NoticeKind.{NoticeKind}
use Rattle.hla_base.specs.declared.notice.NoticeKind.TheVariants as kind
use Rattle.hla_base.specs.Tables.{upd}
use Rattle.hla_base.proofs.Tables.{by_number, upd_same, upd_other, upd_each}
use Rattle.hla_catalogue.specs.CatalogueValue.{CatalogueValue}
use Rattle.hla_synchronization.specs.Points.{Point, new_point, is_open, is_achieved_by_all, with_point, achieved_by, announced_to, notice, points_after_notice}
use Rattle.hla_machine.specs.Directory.{registration_notices, joining_notices}
use Rattle.hla_machine.specs.Central.{Central, new_central}
use Rattle.hla_machine.specs.Callbacks.{IsNextNotice}
use Rattle.hla_machine.specs.Machine.{MayEnd, after}
use Rattle.hla_machine.specs.declared.step.Step.{Step}
use Rattle.hla_machine.specs.declared.step.Outcome.{Outcome}
use Rattle.hla_machine.specs.declared.step.Choice.{Choice}
use Rattle.hla_machine.proofs.Points.Lists.{AreApart, apart_changed, apart_more, apart_left}
use Rattle.hla_machine.proofs.Points.Turns.{PointTurn, Still, Registered, Achieved, Joined, Left, Told, IsStill, IsRegistered, IsAchieved, IsJoined, IsLeft, IsToldOf, members_of, closings, step_turn}

pub record ArePointsKept (c : Central) : Type 0 where
  pub apart : AreApart c.directory.points
  pub absent : (f : ℕ) → c.directory.joined f ≡ false → c.notices f ≡ []
  pub members : (f : ℕ) → c.directory.joined f ≡ true → f < c.directory.next_federate

-- the points after a notice, by its kind
pub after_notice_both : (P : List Point → Type 0) (f : ℕ) (n : Notice) (points : List Point) → P points → (n.kind ≡ kind.Announced → P (with_point (announced_to f) n.label points)) → P (points_after_notice f n points)
after_notice_both P f n points same changed = by_kind n.kind changed
  where
    by_kind : (k : NoticeKind) → (k ≡ kind.Announced → P (with_point (announced_to f) n.label points)) → P (points_after_notice f (notice k n.label) points)
    by_kind kind.RegistrationSucceeded changed = same
    by_kind kind.RegistrationFailed changed = same
    by_kind kind.Announced changed = changed refl
    by_kind kind.Synchronized changed = same

no_closings : (joined : ℕ → Bool) (next : ℕ) (points : List Point) (g : ℕ) → joined g ≡ false → closings joined next points g ≡ []
no_closings joined next points g fails = rw fails refl

nothing_due : (a b : List Notice) → a ≡ [] → b ≡ [] → a ++ b ≡ []
nothing_due a b e1 e2 = rw (e1, e2) refl

module _ (c : Central) (k : ArePointsKept c) (d : Central) where
  still_kept : IsStill c d → ArePointsKept d
  still_kept s = record {
    apart = subst AreApart (sym s.points) k.apart;
    absent = λ f fails. ap (λ (t : ℕ → List Notice). t f) s.notices ∙ k.absent f (sym (ap (λ (t : ℕ → Bool). t f) s.joined) ∙ fails);
    members = λ f is. subst (λ (n : ℕ). f < n) (sym s.next) (k.members f (sym (ap (λ (t : ℕ → Bool). t f) s.joined) ∙ is));
  }

  registered_kept : (step : Step) (out : Outcome) (f : ℕ) (label : List ℕ) → IsRegistered c step out d f label → ArePointsKept d
  registered_kept step out f label r = record {
    apart = subst AreApart (sym r.points) (cond_both (is_open label c.directory.points) c.directory.points (c.directory.points ++ (new_point label ∷ [])) AreApart
        (λ _. k.apart) (λ fails. apart_more c.directory.points (new_point label) fails k.apart));
    absent = λ g fails.
        let out_of : c.directory.joined g ≡ false = sym (ap (λ (t : ℕ → Bool). t g) r.joined) ∙ fails in
        let differs : f ≢ g = λ same. both_ways (c.directory.joined g) out_of (subst (λ (x : ℕ). c.directory.joined x ≡ true) same r.member) in
        let apart : eqb f g ≡ false = ne_eqb f g differs in
        r.notices g ∙ nothing_due (c.notices g) (registration_notices c.directory f label g) (k.absent g out_of) (none (is_open label c.directory.points) apart out_of);
    members = λ g is. subst (λ (n : ℕ). g < n) (sym r.next) (k.members g (sym (ap (λ (t : ℕ → Bool). t g) r.joined) ∙ is));
  }
    where
      none : {g : ℕ} (b : Bool) → eqb f g ≡ false → c.directory.joined g ≡ false
          → cond b (cond (eqb f g) (notice kind.RegistrationFailed label ∷ []) []) (cond (eqb f g) (notice kind.RegistrationSucceeded label ∷ []) [] ++ cond (c.directory.joined g) (notice kind.Announced label ∷ []) []) ≡ []
      none true apart out_of = rw apart refl
      none false apart out_of = rw (apart, out_of) refl

  achieved_kept : (step : Step) (out : Outcome) (f : ℕ) (label : List ℕ) → IsAchieved c step out d f label → ArePointsKept d
  achieved_kept step out f label r = record {
    apart = subst AreApart (sym r.points) (apart_left (λ p. not (is_achieved_by_all (members_of c.directory.joined c.directory.next_federate) p)) (with_point (achieved_by f) label c.directory.points)
        (apart_changed (achieved_by f) (λ _. refl) label c.directory.points k.apart));
    absent = λ g fails.
        let out_of : c.directory.joined g ≡ false = sym (ap (λ (t : ℕ → Bool). t g) r.joined) ∙ fails in
        r.notices g ∙ nothing_due (c.notices g) _ (k.absent g out_of) (no_closings c.directory.joined c.directory.next_federate (with_point (achieved_by f) label c.directory.points) g out_of);
    members = λ g is. subst (λ (n : ℕ). g < n) (sym r.next) (k.members g (sym (ap (λ (t : ℕ → Bool). t g) r.joined) ∙ is));
  }

  joined_kept : (step : Step) (out : Outcome) → IsJoined c step out d → ArePointsKept d
  joined_kept step out r = record {
    apart = subst AreApart (sym r.points) k.apart;
    absent = λ g fails. r.notices g ∙ newcomer g (sym (ap (λ (t : ℕ → Bool). t g) r.joined) ∙ fails);
    members = λ g is. subst (λ (n : ℕ). g < n) (sym r.next)
        (upd_each c.directory.joined c.directory.next_federate true (λ g x. x ≡ true → g < c.directory.next_federate + 1) (λ _. omega arith) (λ g _ e. let l = k.members g e in omega arith) g
        (sym (ap (λ (t : ℕ → Bool). t g) r.joined) ∙ is));
  }
    where
      newcomer : (g : ℕ) → upd c.directory.joined c.directory.next_federate true g ≡ false → c.notices g ++ joining_notices c.directory g ≡ []
      newcomer = by_number c.directory.next_federate _
          (λ fails. absurd (let yes = upd_same c.directory.joined c.directory.next_federate true in cc))
          (λ g ne fails.
          let apart : eqb c.directory.next_federate g ≡ false = ne_eqb c.directory.next_federate g ne in
          let out_of : c.directory.joined g ≡ false = rw upd_other at fails in
          nothing_due (c.notices g) (joining_notices c.directory g) (k.absent g out_of) (rw apart refl))

  left_kept : (step : Step) (out : Outcome) (f : ℕ) → IsLeft c step out d f → ArePointsKept d
  left_kept step out f r = record {
    apart = subst AreApart (sym r.points) (apart_left (λ p. not (is_achieved_by_all (members_of (upd c.directory.joined f false) c.directory.next_federate) p)) c.directory.points k.apart);
    absent = λ g fails.
        let out_of : upd c.directory.joined f false g ≡ false = sym (ap (λ (t : ℕ → Bool). t g) r.joined) ∙ fails in
        r.notices g ∙ nothing_due (upd c.notices f [] g) _ (dropped g out_of) (no_closings (upd c.directory.joined f false) c.directory.next_federate c.directory.points g out_of);
    members = λ g is. subst (λ (n : ℕ). g < n) (sym r.next)
        (upd_each c.directory.joined f false (λ g x. x ≡ true → g < c.directory.next_federate) (λ e. absurd (cc)) (λ g _. k.members g) g
        (sym (ap (λ (t : ℕ → Bool). t g) r.joined) ∙ is));
  }
    where
      dropped : (g : ℕ) → upd c.directory.joined f false g ≡ false → upd c.notices f [] g ≡ []
      dropped = by_number f _
          (λ _. upd_same c.notices f [])
          (λ g ne fails. upd_other c.notices f [] g ne ∙ k.absent g (rw upd_other at fails))

  told_kept : (step : Step) (out : Outcome) (f : ℕ) (n : Notice) → IsToldOf c step out d f n → ArePointsKept d
  told_kept step out f n r = record {
    apart = subst AreApart (sym r.points) (after_notice_both AreApart f n c.directory.points k.apart (λ _. apart_changed (announced_to f) (λ _. refl) n.label c.directory.points k.apart));
    absent = λ g fails. r.notices g ∙ dropped g (sym (ap (λ (t : ℕ → Bool). t g) r.joined) ∙ fails);
    members = λ g is. subst (λ (n : ℕ). g < n) (sym r.next) (k.members g (sym (ap (λ (t : ℕ → Bool). t g) r.joined) ∙ is));
  }
    where
      dropped : (g : ℕ) → c.directory.joined g ≡ false → upd c.notices f (drop 1 (c.notices f)) g ≡ []
      dropped = by_number f _
          (λ fails. absurd (subst (λ (ns : List Notice). IsNextNotice ns n) (k.absent f fails) r.first))
          (λ g ne fails. upd_other c.notices f (drop 1 (c.notices f)) g ne ∙ k.absent g fails)

  turn_kept : (step : Step) (out : Outcome) → PointTurn c step out d → ArePointsKept d
  turn_kept step out (Still quiet s) = still_kept s
  turn_kept step out (Registered f label r) = registered_kept step out f label r
  turn_kept step out (Achieved f label r) = achieved_kept step out f label r
  turn_kept step out (Joined r) = joined_kept step out r
  turn_kept step out (Left f r) = left_kept step out f r
  turn_kept step out (Told f n r) = told_kept step out f n r

pub points_kept : (c : Central) (step : Step) (out : Outcome) (o : Choice) → MayEnd c step out o → ArePointsKept c → ArePointsKept (after c step out o)
points_kept c step out o may k = turn_kept c k (after c step out o) step out (step_turn c step out o may)

pub points_start : (catalogue : CatalogueValue) → ArePointsKept (new_central catalogue)
points_start catalogue = record { apart = tt; absent = λ _ _. refl; members = λ f e. absurd (cc) }
