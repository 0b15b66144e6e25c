-- What the machine's state keeps, by the kinds of change
use Rattle.std.proofs.Common.{◌≡◌, ◌≢◌, ◌⊎◌, ℕ, ◌+◌, ◌≤◌, ◌<◌, max, cond, eqb, not, ◌&&◌, Bool, true, false, refl, sym, le_trans, subst, inl, inr, ⊎_elim, arith, eqb-true, eq-eqb, List, Option, Some, None, option_map, unwrap_or}
use Rattle.std.proofs.lemmas.Bool.{cases_eq, cases_lt, and_parts, cases_Bool}
use Rattle.hla_base.specs.Limits.{forever}
use Rattle.hla_base.specs.declared.content.Content.{Content}
use Rattle.hla_base.specs.declared.number.EventHandle.{EventHandle}
use Rattle.hla_base.specs.declared.row.TimeRow.{TimeRow}
use Rattle.hla_base.specs.Tables.{upd, is_other, or_else, when}
use Rattle.hla_base.specs.Rows.{is_regulator, is_constrained, is_enabled, is_disabled, least_stamp}
use Rattle.hla_base.specs.declared.row.Role.{Role}
use Rattle.hla_base.specs.declared.row.Role.TheVariants.{Disabled, Pending, Enabled}
use Rattle.hla_machine.specs.Directory.{Outgoing, content_for}
use Rattle.hla_machine.specs.Central.{Central, Copy, CopyOrder, Ro, Tso, Demoted, BelowTso, BelowOut, with_copies, is_key, at_key, demoted_order, demoted_copy}
use Rattle.hla_machine.specs.Callbacks.{with_demoted, is_among}
use Rattle.hla_machine.specs.Sends.{is_ordered, kept_stamp, copy_for, after_message}
use Rattle.hla_base.proofs.Tables.{by_number, upd_same, upd_other, upd_each, upd2_other}
use Rattle.hla_retraction.specs.SentEvents.{SentEvent}
use Rattle.hla_machine.proofs.Basics.Rows.{RowLaw, out_least, bar_least, out_low, out_idle}

abbrev pub Bag : Type 0
Bag = ℕ → ℕ → ℕ → Option Copy

abbrev pub LowIn : Bag → (ℕ → ℕ → SentEvent) → ℕ → ℕ → Type 0
LowIn bag sent f x = (g m : ℕ) (k : Copy) → bag g m f ≡ Some k → (sent g m).retracted ≡ false → BelowTso x k

abbrev pub BoundIn : (ℕ → Bool) → (ℕ → TimeRow) → Bag → (ℕ → ℕ → SentEvent) → ℕ → ℕ → Type 0
BoundIn joined row bag sent f v = (v ≤ forever) × ((g : ℕ) → joined g ≡ true → g ≢ f → is_regulator (row g) ≡ true → BelowOut (LowIn bag sent g) (row g) v)

pub record KeepsCentral (next : ℕ) (joined : ℕ → Bool) (row : ℕ → TimeRow) (serial : ℕ → ℕ) (bag : Bag) (sent : ℕ → ℕ → SentEvent) : Type 0 where
  pub members : (f : ℕ) → joined f ≡ true → f < next
  pub regulators : (g : ℕ) → is_regulator (row g) ≡ true → joined g ≡ true
  pub constrained : (f : ℕ) → is_constrained (row f) ≡ true → joined f ≡ true
  pub rows : (f : ℕ) → RowLaw (row f)
  pub bounded : (f : ℕ) → is_constrained (row f) ≡ true → BoundIn joined row bag sent f (row f).bar
  pub ahead : (f : ℕ) → is_constrained (row f) ≡ true → LowIn bag sent f (row f).time
  pub unused : (g m f : ℕ) (k : Copy) → bag g m f ≡ Some k → k.order ≡ Tso → m < serial g

abbrev pub IsCentralKept : Central → Type 0
IsCentralKept c = KeepsCentral c.directory.next_federate c.directory.joined c.row c.serial c.bag c.sent

pub low_weaker : (bag : Bag) (sent : ℕ → ℕ → SentEvent) (f x y : ℕ) → y ≤ x → LowIn bag sent f x → LowIn bag sent f y
low_weaker bag sent f x y l h g m k is live tso = le_trans l (h g m k is live tso)

-- ---- bags with no more copies in time-stamp order
abbrev pub NoMore : Bag → Bag → Type 0
NoMore to bag = (g m f : ℕ) (k : Copy) → to g m f ≡ Some k → k.order ≡ Tso → bag g m f ≡ Some k

pub low_fewer : (to bag : Bag) (sent : ℕ → ℕ → SentEvent) → NoMore to bag → (f x : ℕ) → LowIn bag sent f x → LowIn to sent f x
low_fewer to bag sent fewer f x l g m k is live tso = l g m k (fewer g m f k is tso) live tso

never_tso : (o : CopyOrder) → demoted_order o ≡ Tso → ⊥
never_tso Ro h = cc
never_tso Tso h = cc
never_tso Demoted h = cc

pub not_demoted : (o : Option Copy) (k : Copy) → option_map demoted_copy o ≡ Some k → k.order ≡ Tso → ⊥
not_demoted None k e t = cc
not_demoted (Some x) k e t = let same : demoted_copy x ≡ k = cc in never_tso x.order (subst (λ (k : Copy). k.order ≡ Tso) (sym same) t)

pub fewer_removed : (bag : Bag) (g m f : ℕ) → NoMore (at_key bag g m f None) bag
unfolding at_key
fewer_removed bag g m f h n l k is tso = ⊎_elim
    (λ (y : (is_key g m h n && eqb f l) ≡ true). absurd (let e : None ≡ Some k = rw y at is in cc))
    (λ (n' : (is_key g m h n && eqb f l) ≡ false). rw n' at is)
    (cases_Bool (is_key g m h n && eqb f l))

pub fewer_demoted : (bag : Bag) (g m f : ℕ) → NoMore (at_key bag g m f (option_map demoted_copy (bag g m f))) bag
unfolding at_key
fewer_demoted bag g m f h n l k is tso = ⊎_elim
    (λ (y : (is_key g m h n && eqb f l) ≡ true). absurd (not_demoted (bag g m f) k (rw y at is) tso))
    (λ (n' : (is_key g m h n && eqb f l) ≡ false). rw n' at is)
    (cases_Bool (is_key g m h n && eqb f l))

pub fewer_moved : (bag : Bag) (f : ℕ) (events : List EventHandle) → NoMore (with_demoted bag f events) bag
unfolding with_demoted
fewer_moved bag f events h n l k is tso = ⊎_elim
    (λ (y : (eqb f l && is_among events h n) ≡ true). absurd (not_demoted (bag h n l) k (rw y at is) tso))
    (λ (n' : (eqb f l && is_among events h n) ≡ false). rw n' at is)
    (cases_Bool (eqb f l && is_among events h n))

-- what is not demoted was not among those
pub moved_else : (bag : Bag) (f : ℕ) (events : List EventHandle) (g m : ℕ) (k : Copy) → with_demoted bag f events g m f ≡ Some k → k.order ≡ Tso → (is_among events g m ≡ false) × (bag g m f ≡ Some k)
unfolding with_demoted
moved_else bag f events g m k is tso = ⊎_elim
    (λ (y : is_among events g m ≡ true). absurd (not_demoted (bag g m f) k (rw (eq-eqb f f refl, y) at is) tso))
    (λ (n : is_among events g m ≡ false). (n, rw (eq-eqb f f refl, n) at is))
    (cases_Bool (is_among events g m))

-- ---- a change of copies alone
pub keeps_low : (next : ℕ) (joined : ℕ → Bool) (row : ℕ → TimeRow) (serial : ℕ → ℕ) (bag to : Bag) (sent tells : ℕ → ℕ → SentEvent) → NoMore to bag → ((f x : ℕ) → LowIn bag sent f x → LowIn to tells f x)
    → KeepsCentral next joined row serial bag sent → KeepsCentral next joined row serial to tells
keeps_low next joined row serial bag to sent tells fewer low k = record {
  members = k.members;
  regulators = k.regulators;
  constrained = k.constrained;
  rows = k.rows;
  bounded = λ f c. let b = k.bounded f c in (b.0, λ g j ne reg. out_low _ _ (row g) (row f).bar (low_weaker bag sent g) (λ x _. low g x) (b.1 g j ne reg));
  ahead = λ f c. low f (row f).time (k.ahead f c);
  unused = λ g m f x is tso. k.unused g m f x (fewer g m f x is tso) tso;
}

-- ---- a change of one row
module _ (next : ℕ) (joined : ℕ → Bool) (row : ℕ → TimeRow) (serial : ℕ → ℕ) (bag to : Bag) (sent : ℕ → ℕ → SentEvent) (f : ℕ) (r : TimeRow) where
  pub record Changes : Type 0 where
    pub fewer : NoMore to bag
    pub member : joined f ≡ true
    pub law : RowLaw r
    pub out : is_regulator r ≡ true → (v : ℕ) → (k : ℕ) → k ≢ f → is_constrained (row k) ≡ true → v ≡ (row k).bar → BelowOut (LowIn to sent f) r v
    pub bar : is_constrained r ≡ true → BoundIn joined row to sent f r.bar
    pub ahead : is_constrained r ≡ true → LowIn to sent f r.time

  pub keeps_row : KeepsCentral next joined row serial bag sent → Changes → KeepsCentral next joined (upd row f r) serial to sent
  keeps_row k ch = record {
    members = k.members;
    regulators = by_number f _ (λ _. ch.member) (λ g ne. rw upd_other (k.regulators g));
    constrained = by_number f _ (λ _. ch.member) (λ g ne. rw upd_other (k.constrained g));
    rows = upd_each row f r (λ _ x. RowLaw x) ch.law (λ g _. k.rows g);
    bounded = by_number f _
        (rw upd_same (λ c. ((ch.bar c).0, λ g j ne. let en : f ≢ g = λ e. ne (sym e) in rw upd_other (λ reg. (ch.bar c).1 g j ne reg))))
        (λ l nl. rw upd_other (λ c. (
          (k.bounded l c).0,
          by_number f _
              (λ j ne. rw upd_same (λ reg. ch.out reg (row l).bar l (λ e. ne (sym e)) c refl))
              (λ g ng j ne. rw upd_other (λ reg. out_low _ _ (row g) (row l).bar (low_weaker bag sent g) (λ x _. low_fewer to bag sent ch.fewer g x) ((k.bounded l c).1 g j ne reg))),
        )));
    ahead = by_number f _ (rw upd_same ch.ahead) (λ l nl. rw upd_other (λ c. low_fewer to bag sent ch.fewer l (row l).time (k.ahead l c)));
    unused = λ g m l x is tso. k.unused g m l x (ch.fewer g m l x is tso) tso;
  }

  -- the old bound, with the new copies
  pub old_bound : KeepsCentral next joined row serial bag sent → NoMore to bag → is_constrained (row f) ≡ true → BoundIn joined row to sent f (row f).bar
  old_bound k fewer c = let b = k.bounded f c in (b.0, λ g j ne reg. out_low _ _ (row g) (row f).bar (low_weaker bag sent g) (λ x _. low_fewer to bag sent fewer g x) (b.1 g j ne reg))

  -- what others count on
  pub old_out : KeepsCentral next joined row serial bag sent → is_regulator (row f) ≡ true → (v l : ℕ) → l ≢ f → is_constrained (row l) ≡ true → v ≡ (row l).bar → BelowOut (LowIn bag sent f) (row f) v
  old_out k reg v l ne c same = subst (λ v. BelowOut (LowIn bag sent f) (row f) v) (sym same) ((k.bounded l c).1 f (k.regulators f reg) (λ e. ne (sym e)) reg)

  -- a federate at rest, whose floor, bar and time stay
  pub keeps_rest : KeepsCentral next joined row serial bag sent → NoMore to bag → joined f ≡ true → RowLaw r → (row f).advance ≡ None → (row f).floor ≤ r.floor → (is_regulator r ≡ true → is_regulator (row f) ≡ true)
      → (is_constrained r ≡ true → (is_constrained (row f) ≡ true) × (r.bar ≡ (row f).bar) × (r.time ≡ (row f).time)) → KeepsCentral next joined (upd row f r) serial to sent
  keeps_rest k fewer member law idle up role con = keeps_row k (record {
    fewer = fewer;
    member = member;
    law = law;
    out = λ reg v l ne c same. out_idle _ _ (row f) r v idle up (old_out k (role reg) v l ne c same);
    bar = λ c. let o = con c in subst (λ v. BoundIn joined row to sent f v) (sym o.1) (old_bound k fewer o.0);
    ahead = λ c. let o = con c in subst (λ t. LowIn to sent f t) (sym o.2) (low_fewer to bag sent fewer f (row f).time (k.ahead f o.0));
  })

pub bound_max : (joined : ℕ → Bool) (row : ℕ → TimeRow) (bag : Bag) (sent : ℕ → ℕ → SentEvent) (f v w : ℕ) → BoundIn joined row bag sent f v → BoundIn joined row bag sent f w → BoundIn joined row bag sent f (max v w)
bound_max joined row bag sent f v w a b = ⊎_elim
    (λ (l : v < w). let e : w ≡ max v w = omega arith in subst (λ x. BoundIn joined row bag sent f x) e b)
    (λ (l : w ≤ v). let e : v ≡ max v w = omega arith in subst (λ x. BoundIn joined row bag sent f x) e a)
    (cases_lt v w)

-- ---- sending
pub regulator_from : (r : Role) → is_enabled r ≡ true → not (is_disabled r) ≡ true
regulator_from Disabled e = absurd (cc)
regulator_from Pending e = refl
regulator_from Enabled e = refl

or_else-cases : {X : Type 0} (a b : Option X) (x : X) → or_else a b ≡ Some x → (a ≡ Some x) ⊎ (b ≡ Some x)
or_else-cases (Some y) b x h = inl h
or_else-cases None b x h = inr h

when_some : {X : Type 0} (b : Bool) (o : Option X) (x : X) → when b o ≡ Some x → (b ≡ true) × (o ≡ Some x)
when_some true o x h = (refl, h)
when_some false o x h = absurd (cc)

copies_split : (joined : ℕ → Bool) (bag : Bag) (g m : ℕ) (copy : ℕ → Option Copy) (h n f : ℕ) (x : Copy) → with_copies joined bag g m copy h n f ≡ Some x → ((is_key g m h n && is_other joined g f) ≡ true) × (copy f ≡ Some x) ⊎ (bag h n f ≡ Some x)
unfolding with_copies
copies_split joined bag g m copy h n f x is = ⊎_elim (λ a. inl (when_some _ (copy f) x a)) (λ b. inr b) (or_else-cases _ (bag h n f) x is)

-- a new copy in time-stamp order is at or above its sender's least stamp
copy_high : (c : Central) (f : ℕ) (stamp : Option ℕ) (out : Outgoing) (g : ℕ) (k : Copy) → (is_ordered (c.row f) stamp out ≡ true → least_stamp (c.row f) ≤ unwrap_or stamp 0) → copy_for c.directory (c.row f) stamp out g ≡ Some k → k.order ≡ Tso
    → (is_ordered (c.row f) stamp out ≡ true) × (least_stamp (c.row f) ≤ k.stamp)
copy_high c f stamp out g k high is tso = by_content (content_for c.directory out.body g) is
  where
    tso_when : (b : Bool) → cond b Tso Ro ≡ Tso → b ≡ true
    tso_when true h = refl
    tso_when false h = absurd (cc)

    by_content : (o : Option Content) → option_map (λ x. record { order = cond (is_ordered (c.row f) stamp out) Tso Ro; stamp = kept_stamp (c.row f) stamp out; content = x }) o ≡ Some k
        → (is_ordered (c.row f) stamp out ≡ true) × (least_stamp (c.row f) ≤ k.stamp)
    by_content None e = absurd (cc)
    by_content (Some x) e =
        let same : record { order = cond (is_ordered (c.row f) stamp out) Tso Ro; stamp = kept_stamp (c.row f) stamp out; content = x } ≡ k = cc in
        let o : is_ordered (c.row f) stamp out ≡ true = tso_when (is_ordered (c.row f) stamp out) (subst (λ (k : Copy). k.order ≡ Tso) (sym same) tso) in
        (o, subst (λ (k : Copy). least_stamp (c.row f) ≤ k.stamp) same (rw o (high o)))

module _ (c : Central) (f : ℕ) (stamp : Option ℕ) (out : Outgoing) (k : IsCentralKept c) (high : is_ordered (c.row f) stamp out ≡ true → least_stamp (c.row f) ≤ unwrap_or stamp 0) where
  abbrev d : Central
  d = after_message c f stamp out

  -- where a copy has come, it is at or above the bar of each constrained federate; another one is as before
  pub new_or_old : (g h m : ℕ) (x : Copy) → d.bag h m g ≡ Some x → (d.sent h m).retracted ≡ false → x.order ≡ Tso
      → ((l : ℕ) → is_constrained (c.row l) ≡ true → (c.row l).bar ≤ x.stamp) ⊎ (c.bag h m g ≡ Some x) × ((c.sent h m).retracted ≡ false)
  new_or_old g h m x is live tso = ⊎_elim
      (λ (w : ((is_key f (c.serial f) h m && is_other c.directory.joined f g) ≡ true) × (copy_for c.directory (c.row f) stamp out g ≡ Some x)).
      let new = copy_high c f stamp out g x high w.1 tso in
      let reg : is_regulator (c.row f) ≡ true = regulator_from (c.row f).regulating (and_parts _ _ new.0).1 in
      inl (λ l con. le_trans (⊎_elim
      (λ (e : f ≡ l). subst (λ l. is_constrained (c.row l) ≡ true → (c.row l).bar ≤ least_stamp (c.row f)) e (λ con. bar_least (c.row f) (k.rows f) con reg) con)
      (λ (ne : f ≢ l). out_least _ (c.row f) (c.row l).bar (k.rows f) ((k.bounded l con).1 f (k.regulators f reg) ne reg))
      (cases_eq f l)) new.1))
      (λ (old : c.bag h m g ≡ Some x).
      let low = k.unused h m g x old tso in
      inr (
        old,
        ⊎_elim
            (λ (e : f ≡ h). let ne2 : c.serial f ≢ m = λ (e2 : c.serial f ≡ m). let l2 : m < c.serial f = subst (λ h. m < c.serial h) (sym e) low in omega arith in let ne : (f ≢ h) ⊎ (c.serial f ≢ m) = inr ne2 in rw upd2_other at live)
            (λ (other : f ≢ h). let ne : (f ≢ h) ⊎ (c.serial f ≢ m) = inl other in rw upd2_other at live)
            (cases_eq f h),
      ))
      (copies_split c.directory.joined c.bag f (c.serial f) (copy_for c.directory (c.row f) stamp out) h m g x is)

  -- what was at most each stamp, and is at most some bar, still is
  sent_low : (l g x : ℕ) → is_constrained (c.row l) ≡ true → x ≤ (c.row l).bar → LowIn c.bag c.sent g x → LowIn d.bag d.sent g x
  sent_low l g x con low old h m y is live tso = ⊎_elim (λ (above : (l : ℕ) → is_constrained (c.row l) ≡ true → (c.row l).bar ≤ y.stamp). le_trans low (above l con))
      (λ (w : (c.bag h m g ≡ Some y) × ((c.sent h m).retracted ≡ false)). old h m y w.0 w.1 tso) (new_or_old g h m y is live tso)

  pub keeps_sent : IsCentralKept d
  keeps_sent = record {
    members = k.members;
    regulators = k.regulators;
    constrained = k.constrained;
    rows = k.rows;
    bounded = λ l con. let b = k.bounded l con in (b.0, λ g j ne reg. out_low _ _ (c.row g) (c.row l).bar (low_weaker c.bag c.sent g) (λ x le. sent_low l g x con le) (b.1 g j ne reg));
    ahead = λ l con. sent_low l l (c.row l).time con ((k.rows l).barred con) (k.ahead l con);
    unused = λ g m l x is tso. ⊎_elim
        (λ (w : ((is_key f (c.serial f) g m && is_other c.directory.joined f l) ≡ true) × (copy_for c.directory (c.row f) stamp out l ≡ Some x)).
        let p = and_parts _ _ (and_parts _ _ w.0).0 in rw (← (eqb-true f g p.0), ← (eqb-true (c.serial f) m p.1)) (rw upd_same (omega arith)))
        (λ (old : c.bag g m l ≡ Some x). le_trans (k.unused g m l x old tso) (upd_each c.serial f (c.serial f + 1) (λ g y. c.serial g ≤ y) (omega arith) (λ _ _. omega arith) g))
        (copies_split c.directory.joined c.bag f (c.serial f) (copy_for c.directory (c.row f) stamp out) g m l x is);
  }
