-- Tests of accounts decide what services and wires may answer
use Rattle.std.proofs.lemmas.List.{drop_more, take_rest}
use Rattle.std.proofs.Common.{◌-◌, take, drop, ◌≡◌, ◌≢◌, ◌⊎◌, ℕ, zero, suc, ◌+◌, ◌<◌, ◌≤◌, eqb, leb, ◌&&◌, ◌||◌, not, Bool, true, false, List, [], ◌∷◌, length, get_or, Option, Some, None, option_map, refl, sym, ap, ◌∙◌, subst, inl, inr, ⊎_elim, arith}
use Rattle.std.proofs.lemmas.Bool.{cases_lt}
use mathlib.Core.Bool.{false≢true, true≢false}
use Rattle.std.specs.Bool.{Decides}
use Rattle.std.specs.List.{list_all, Any, cons_option}
use Rattle.std.specs.Option.{option_map_or}
use Rattle.std.proofs.lemmas.Bool.Decides.{nat_tests, Decides-like, Decides-and, Decides-or, Decides-not, Decides-by_and, Decides-below_or, Decides-eqb}
use Rattle.hla_base.specs.declared.number.EventHandle.{EventHandle}
use Rattle.hla_base.specs.declared.content.Content.{Content}
use Rattle.hla_base.specs.declared.content.Discovery.{Discovery}
use Rattle.hla_base.specs.Tables.{when, one_if, greatest}
use Rattle.hla_machine.specs.declared.step.Carried.{Carried}
use Rattle.hla_machine.specs.declared.step.Carried.TheVariants as carried
use Rattle.hla_accounts.specs.declared.offers.Offer.{Offer}
use Rattle.hla_base.specs.Rows.{is_constrained, is_regulator, is_enabled, next_request, bar_of}
use Rattle.hla_base.specs.declared.row.AdvanceRequest.{AdvanceRequest}
use Rattle.hla_callbacks.specs.declared.callback.Delivery.{Delivery}
use Rattle.hla_callbacks.specs.declared.callback.Delivery.TheVariants.{Receive, Demoted, TimeStamp}
use Rattle.hla_machine.specs.Directory.{Directory}
use Rattle.hla_machine.specs.declared.step.Choice.TheVariants as choice
use Rattle.hla_machine.specs.Central as machine
use Rattle.hla_machine.specs.Central.{Copy, Ro, Tso, is_key, low_entry, BelowWake, BelowAllTso}
use Rattle.hla_machine.specs.Machine.{MayEnter, MayBound, BelowAllDemoted, MayBeNext, MayCease, AreDistinct, MayAnnounce, MayCarry, is_removal, IsCarriedCopy}
use Rattle.hla_accounts.specs.declared.account.Account.{Account}
use Rattle.hla_bags.specs.declared.bag.Waiting.{Waiting}
use Rattle.hla_bags.specs.Bags.{waiting_at, is_listed, ordered_stamp}
use Rattle.hla_accounts.specs.Accounts.{no_account, AreKept, account_at, offers_from, times_listed, copy_of, copy_given, central_with}
use Rattle.hla_accounts.specs.Bounds.{is_below_wake, is_retracted, demoted_stamp, is_below_all_tso, is_below_bound, is_below_out}
use Rattle.hla_accounts.specs.Calls.{is_below_wake_of, is_below_some_wake, may_enter, may_bound, is_at_most_demoted, is_below_all_demoted, may_be_next, waits_in_order, may_cease, are_distinct, is_carried, is_offered, may_carry, may_announce}
use Rattle.hla_accounts.proofs.AfterSteps.Accounts.{account_at-past}
use Rattle.hla_accounts.proofs.Tests.Bounds.{below_wake_decided, each_decided, Decides-leb, below_all_tso_decided, below_bound_decided, below_out_decided}
use Rattle.hla_accounts.proofs.Tests.Ticks.{if_true_decided}

unless_true_decided : (b t : Bool) (P : Type 0) → Decides t P → Decides (b || t) (b ≡ false → P)
unless_true_decided true t P h = (λ e b. absurd (true≢false b), λ f. refl)
unless_true_decided false t P h = (λ e b. h.0 e, λ f. h.1 (f refl))

at_most_demoted_decided : (retracted : Bool) (v : ℕ) (dl : Delivery) (x : Content) →
    Decides (retracted || option_map_or (leb v) (demoted_stamp dl) true) (retracted ≡ false → (copy_given dl x).order ≡ machine.Demoted → v ≤ (copy_given dl x).stamp)
at_most_demoted_decided true v dl x = (λ e live. absurd (true≢false live), λ f. refl)
at_most_demoted_decided false v Receive x = (λ e live is. absurd (apart is), λ f. refl)
  where
    apart : Ro ≡ machine.Demoted → ⊥
    apart e = cc
at_most_demoted_decided false v (Demoted stamp) x = (λ e live is. (Decides-leb v stamp).0 e, λ f. (Decides-leb v stamp).1 (f refl refl))
at_most_demoted_decided false v (TimeStamp stamp) x = (λ e live is. absurd (apart is), λ f. refl)
  where
    apart : Tso ≡ machine.Demoted → ⊥
    apart e = cc

-- what was found is a copy in time-stamp order
in_order_decided : (o : Option Waiting) → Decides (waits_in_order o) ((k : Copy) × (option_map copy_of o ≡ Some k) × (k.order ≡ Tso) × Unit {0})
in_order_decided None = (λ e. absurd (false≢true e), λ h. absurd (let e = h.1 in cc))
in_order_decided (Some w) = by w.delivery w.content
  where
    by : (dl : Delivery) (x : Content) → Decides (option_map_or (λ s. true) (ordered_stamp dl) false) ((k : Copy) × (Some (copy_given dl x) ≡ Some k) × (k.order ≡ Tso) × Unit {0})
    by Receive x = (λ e. absurd (false≢true e), λ h. absurd (let is = h.1 in let tso = h.2 in apart (let same : copy_given Receive x ≡ h.0 = cc in ap (λ (k : Copy). k.order) same ∙ tso)))
      where
        apart : Ro ≡ Tso → ⊥
        apart e = cc
    by (Demoted stamp) x = (λ e. absurd (false≢true e), λ h. absurd (let is = h.1 in let tso = h.2 in apart (let same : copy_given (Demoted stamp) x ≡ h.0 = cc in ap (λ (k : Copy). k.order) same ∙ tso)))
      where
        apart : machine.Demoted ≡ Tso → ⊥
        apart e = cc
    by (TimeStamp stamp) x = (λ e. (copy_given (TimeStamp stamp) x, refl, refl, tt), λ h. refl)

pub distinct_decided : (events : List EventHandle) → Decides (are_distinct events) (AreDistinct events)
distinct_decided [] = (λ e. tt, λ h. refl)
distinct_decided (e ∷ es) = Decides-and (not (is_listed es e.sender e.serial)) (are_distinct es) (by (is_listed es e.sender e.serial)) (distinct_decided es)
  where
    by : (b : Bool) → Decides (not b) (b ≡ false)
    by true = (λ e. absurd (false≢true e), λ e. absurd (true≢false e))
    by false = (λ e. refl, λ e. refl)

-- what was found is a copy of a removal, or else of another message
pub carried_decided : (removal : Bool) (o : Option Waiting) → Decides (is_carried removal o) ((k : Copy) × (option_map copy_of o ≡ Some k) × (is_removal k.content ≡ removal))
carried_decided true None = (λ e. absurd (false≢true e), λ h. absurd (let e = h.1 in cc))
carried_decided false None = (λ e. absurd (false≢true e), λ h. absurd (let e = h.1 in cc))
carried_decided true (Some w) = (λ e. (copy_of w, refl, content_same w.delivery w.content ∙ e), λ h. sym (content_same w.delivery w.content) ∙ (let is = h.1 in let same : copy_of w ≡ h.0 = cc in ap (λ (k : Copy). is_removal k.content) same ∙ h.2))
  where
    content_same : (dl : Delivery) (x : Content) → is_removal (copy_given dl x).content ≡ is_removal x
    content_same Receive x = refl
    content_same (Demoted stamp) x = refl
    content_same (TimeStamp stamp) x = refl
carried_decided false (Some w) = (λ e. (copy_of w, refl, content_same w.delivery w.content ∙ not_true (is_removal w.content) e), λ h. not_false (is_removal w.content) (sym (content_same w.delivery w.content) ∙ (let is = h.1 in let same : copy_of w ≡ h.0 = cc in ap (λ (k : Copy). is_removal k.content) same ∙ h.2)))
  where
    content_same : (dl : Delivery) (x : Content) → is_removal (copy_given dl x).content ≡ is_removal x
    content_same Receive x = refl
    content_same (Demoted stamp) x = refl
    content_same (TimeStamp stamp) x = refl

    not_true : (b : Bool) → not b ≡ true → b ≡ false
    not_true true e = absurd (false≢true e)
    not_true false e = refl

    not_false : (b : Bool) → b ≡ false → not b ≡ true
    not_false true e = absurd (true≢false e)
    not_false false e = refl

-- ---- lists of events and of discoveries
pub listed_decided : (events : List EventHandle) (g m : ℕ) → Decides (is_listed events g m) (1 ≤ times_listed events g m)
unfolding times_listed
listed_decided [] g m = (λ e. absurd (false≢true e), λ l. absurd (omega arith))
listed_decided (e ∷ es) g m = by (eqb g e.sender && eqb m e.serial) (is_key e.sender e.serial g m) (grind (arith, nat_tests)) (listed_decided es g m)
  where
    by : (a b : Bool) → b ≡ a → Decides (is_listed es g m) (1 ≤ times_listed es g m) → Decides (a || is_listed es g m) (1 ≤ one_if b + times_listed es g m)
    by true true same rest = (λ e. omega arith, λ l. refl)
    by true false same rest = absurd (false≢true same)
    by false true same rest = absurd (true≢false same)
    by false false same rest = (λ e. let l = rest.0 e in omega arith, λ l. rest.1 (omega arith))

any_nil : {X : Type 0} (P : X → Type 0) → Any P [] → ⊥
any_nil P h = omega (arith, h.2)

any_cons : {X : Type 0} (P : X → Type 0) (x : X) (xs : List X) → P x ⊎ Any P xs → Any P (x ∷ xs)
any_cons P x xs (inl p) = (0, x, omega arith, refl, p)
any_cons P x xs (inr h) = (suc h.0, h.1, (let l = h.2 in omega arith), h.3, h.4)

any_uncons : {X : Type 0} (P : X → Type 0) (x : X) (xs : List X) → Any P (x ∷ xs) → P x ⊎ Any P xs
any_uncons P x xs h = by h.0 h.2 h.3
  where
    by : (k : ℕ) → k < length (x ∷ xs) → get_or (x ∷ xs) k h.1 ≡ h.1 → P x ⊎ Any P xs
    by zero l e = inl (subst P (sym e) h.4)
    by (suc k) l e = inr (k, h.1, omega arith, e, h.4)

offered_decided : (g object : ℕ) (offers : List Offer) → Decides (is_offered offers g object) (Any (λ (x : Discovery). x.object ≡ object) (offers_from g offers))
offered_decided g object [] = (λ e. absurd (false≢true e), λ h. absurd (any_nil _ h))
offered_decided g object (o ∷ os) = by (eqb o.from g) (eqb o.discovery.object object) (Decides-eqb o.discovery.object object) (offered_decided g object os)
  where
    by : (a b : Bool) → Decides b (o.discovery.object ≡ object) → Decides (is_offered os g object) (Any (λ (x : Discovery). x.object ≡ object) (offers_from g os)) →
        Decides ((a && b) || is_offered os g object) (Any (λ (x : Discovery). x.object ≡ object) (cons_option (when a (Some o.discovery)) (offers_from g os)))
    by false b is rest = rest
    by true true is rest = (λ e. any_cons (λ (x : Discovery). x.object ≡ object) o.discovery (offers_from g os) (inl (is.0 refl)), λ h. refl)
    by true false is rest = (
      λ e. any_cons (λ (x : Discovery). x.object ≡ object) o.discovery (offers_from g os) (inr (rest.0 e)),
      λ h. ⊎_elim (λ p. absurd (false≢true (is.1 p))) (λ q. rest.1 q) (any_uncons (λ (x : Discovery). x.object ≡ object) o.discovery (offers_from g os) h),
    )

module _ (d : Directory) (accounts : List Account) (kept : AreKept accounts) where
  pub may_bound_decided : (f v : ℕ) → Decides (may_bound accounts f v) (MayBound (central_with d accounts) f v)
  may_bound_decided f v =
      let r = (account_at accounts f).state in
      Decides-and (is_below_bound accounts f v) (not (is_constrained r) || leb r.bar v) (below_bound_decided d accounts kept f v) (if_true_decided (is_constrained r) (leb r.bar v) (r.bar ≤ v) (Decides-leb r.bar v))

  below_all_demoted_decided : (f v : ℕ) → Decides (is_below_all_demoted accounts f v) (BelowAllDemoted (central_with d accounts) f v)
  below_all_demoted_decided f v = Decides-like (is_below_all_demoted accounts f v) (λ each g m k is live demoted. each g m k is live demoted) (λ below g m k is live demoted. below g m k is live demoted)
      (each_decided (λ g m k. is_retracted accounts g m ≡ false → k.order ≡ machine.Demoted → v ≤ k.stamp) (is_at_most_demoted accounts v)
      (λ w. at_most_demoted_decided (is_retracted accounts w.event.sender w.event.serial) v w.delivery w.content) (account_at accounts f).bag (kept.apart f))

  pub may_be_next_decided : (f v : ℕ) → Decides (may_be_next accounts f v) (MayBeNext (central_with d accounts) f v)
  may_be_next_decided f v =
      let r = (account_at accounts f).state in
      Decides-like (may_be_next accounts f v) (λ p. (p.0.0.0, p.0.0.1, p.0.1, p.1)) (λ p. (((p.0, p.1), p.2), p.3))
      (Decides-and _ (not (is_constrained r) || leb r.time v)
      (Decides-and _ (is_constrained r || is_below_all_demoted accounts f v)
      (Decides-and (is_below_bound accounts f v) (is_below_all_tso accounts f v) (below_bound_decided d accounts kept f v) (below_all_tso_decided d accounts f v (kept.apart f)))
      (unless_true_decided (is_constrained r) (is_below_all_demoted accounts f v) (BelowAllDemoted (central_with d accounts) f v) (below_all_demoted_decided f v)))
      (if_true_decided (is_constrained r) (leb r.time v) (r.time ≤ v) (Decides-leb r.time v)))

  pub may_cease_decided : (f : ℕ) (events : List EventHandle) → Decides (may_cease accounts f events) (MayCease (central_with d accounts) f (choice.Moved events))
  may_cease_decided f events = Decides-by_and (λ (e : EventHandle). waits_in_order (waiting_at (account_at accounts f).bag e.sender e.serial)) _ (list_all (λ (e : EventHandle). waits_in_order (waiting_at (account_at accounts f).bag e.sender e.serial)))
      (λ e. in_order_decided (waiting_at (account_at accounts f).bag e.sender e.serial)) refl (λ _ _. refl) events

  pub may_announce_decided : (f v : ℕ) → Decides (may_announce accounts f v) (MayAnnounce (central_with d accounts) f (Some v))
  may_announce_decided f v =
      let r = (account_at accounts f).state in
      Decides-like (may_announce accounts f v) (λ p. (p.0.0, p.1, p.0.1)) (λ p. ((p.0, p.2), p.1))
      (Decides-and _ (is_below_out accounts f v) (Decides-and (is_regulator r) (leb r.floor v) (λ e. e, λ e. e) (Decides-leb r.floor v)) (below_out_decided d accounts f v (kept.apart f)))

  -- a copy from g
  pub carried_copy_decided : (g f : ℕ) (e : EventHandle) (removal : Bool) → Decides (eqb e.sender g && is_carried removal (waiting_at (account_at accounts f).bag e.sender e.serial)) (IsCarriedCopy (central_with d accounts) g f e removal)
  carried_copy_decided g f e removal = Decides-and (eqb e.sender g) (is_carried removal (waiting_at (account_at accounts f).bag e.sender e.serial)) (Decides-eqb e.sender g) (carried_decided removal (waiting_at (account_at accounts f).bag e.sender e.serial))

  -- the test is of what was taken from a wire
  pub may_carry_decided : (g f : ℕ) (x : Carried) → Decides (may_carry accounts g f x) (MayCarry (central_with d accounts) g f x)
  may_carry_decided g f carried.Nothing = (λ e. tt, λ h. refl)
  may_carry_decided g f (carried.Null bound) = (λ e. tt, λ h. refl)
  may_carry_decided g f (carried.Event e) = carried_copy_decided g f e false
  may_carry_decided g f (carried.Removal e) = carried_copy_decided g f e true
  may_carry_decided g f (carried.Retraction e) = Decides-and (eqb e.sender g) (is_listed (account_at accounts f).owed g e.serial) (Decides-eqb e.sender g) (listed_decided (account_at accounts f).owed g e.serial)
  may_carry_decided g f (carried.Discovery object) = offered_decided g object (account_at accounts f).offers

  -- ---- the entry of a newcomer among the regulators
  abbrev IsWakeOf : ℕ → ℕ → ℕ → Type 0
  IsWakeOf f e g = (q : AdvanceRequest) × ((account_at accounts g).is_joined ≡ true) × (g ≢ f) × (is_enabled (account_at accounts g).state.regulating ≡ true) × (next_request (account_at accounts g).state ≡ Some q)
      × BelowWake (BelowAllTso (central_with d accounts) g) q (account_at accounts g).state.first_pick e

  wake_of_decided : (f e g : ℕ) → Decides (is_below_wake_of accounts f e g) (IsWakeOf f e g)
  wake_of_decided f e g =
      let a = account_at accounts g in
      Decides-like (is_below_wake_of accounts f e g)
      (λ p. (p.1.0, p.0.0.0, p.0.0.1, p.0.1, p.1.1, p.1.2))
      (λ w. (((w.1, w.2), w.3), (w.0, w.4, w.5)))
      (Decides-and _ (option_map_or (λ q. is_below_wake accounts g q a.state.first_pick e) (next_request a.state) false)
      (Decides-and _ (is_enabled a.state.regulating)
      (Decides-and a.is_joined (not (eqb g f)) (λ t. t, λ t. t) (Decides-not (eqb g f) (Decides-eqb g f)))
      (λ t. t, λ t. t))
      (waiting_for (next_request a.state) refl))
    where
      waiting_for : (o : Option AdvanceRequest) → next_request (account_at accounts g).state ≡ o → Decides (option_map_or (λ q. is_below_wake accounts g q (account_at accounts g).state.first_pick e) o false)
          ((q : AdvanceRequest) × (next_request (account_at accounts g).state ≡ Some q) × BelowWake (BelowAllTso (central_with d accounts) g) q (account_at accounts g).state.first_pick e)
      waiting_for None is = (λ t. absurd (false≢true t), λ h. absurd (let t : None ≡ Some h.0 = sym is ∙ h.1 in cc))
      waiting_for (Some q) is = (
        λ t. (q, is, (below_wake_decided d accounts g q (account_at accounts g).state.first_pick e (kept.apart g)).0 t),
        λ h. let same : h.0 ≡ q = (let t : Some h.0 ≡ Some q = sym h.1 ∙ is in cc) in (below_wake_decided d accounts g q (account_at accounts g).state.first_pick e (kept.apart g)).1 (subst (λ q. BelowWake (BelowAllTso (central_with d accounts) g) q (account_at accounts g).state.first_pick e) same h.2),
      )

  some_wake_decided : (f e n : ℕ) → Decides (is_below_some_wake accounts f e n) ((g : ℕ) × (g < n) × IsWakeOf f e g)
  unfolding is_below_some_wake
  some_wake_decided f e n = Decides-below_or (is_below_wake_of accounts f e) (IsWakeOf f e) (is_below_some_wake accounts f e) (wake_of_decided f e) refl (λ _. refl) n

  -- the test is of the entry
  pub may_enter_decided : (f earliest e : ℕ) → Decides (may_enter accounts f earliest e) (MayEnter (central_with d accounts) f earliest (choice.Entry e))
  unfolding low_entry
  may_enter_decided f earliest e =
      let n = length accounts + 1 in
      let low = greatest n earliest (λ g. bar_of (account_at accounts g).state) in
      Decides-and (leb low e) (leb e low || is_below_some_wake accounts f e n) (Decides-leb low e)
      (Decides-or (leb e low) (is_below_some_wake accounts f e n) (Decides-leb e low)
      (Decides-like (is_below_some_wake accounts f e n)
      (λ w. (w.0, w.2.0, w.2.1, w.2.2, w.2.3, w.2.4, w.2.5))
      (λ w. (w.0, present w.0 w.2, (w.1, w.2, w.3, w.4, w.5, w.6)))
      (some_wake_decided f e n)))
    where
      nobody : (a : Account) → a ≡ no_account → a.is_joined ≡ true → ⊥
      nobody a is joined = let t = ap (λ (a : Account). a.is_joined) is in cc

      present : (g : ℕ) → (account_at accounts g).is_joined ≡ true → g < length accounts + 1
      present g joined = ⊎_elim
          (λ (in' : g < length accounts + 1). in')
          (λ (past : length accounts + 1 ≤ g). absurd (nobody (account_at accounts g) (account_at-past accounts g (omega arith)) joined))
          (cases_lt g (length accounts + 1))

-- ---- distinct events, one after another
distinct_at : (events : List EventHandle) (i : ℕ) (d : EventHandle) → i < length events → are_distinct (drop i events) ≡ (not (is_listed (take (length events - (i + 1)) (drop (i + 1) events)) (get_or events i d).sender (get_or events i d).serial) && are_distinct (drop (i + 1) events))
distinct_at events i d within = ap are_distinct (drop_more events i d within) ∙ ap (λ rest. not (is_listed rest (get_or events i d).sender (get_or events i d).serial) && are_distinct (drop (i + 1) events)) (sym (take_rest events (i + 1)))

-- where this one is not among those that follow, the rest decides
pub distinct_rest : (events : List EventHandle) (i : ℕ) (d : EventHandle) → i < length events → is_listed (take (length events - (i + 1)) (drop (i + 1) events)) (get_or events i d).sender (get_or events i d).serial ≡ false → are_distinct (drop i events) ≡ are_distinct (drop (i + 1) events)
distinct_rest events i d within alone = distinct_at events i d within ∙ ap (λ b. not b && are_distinct (drop (i + 1) events)) alone

-- where it is, they are not distinct
pub distinct_broken : (events : List EventHandle) (i : ℕ) (d : EventHandle) → i < length events → is_listed (take (length events - (i + 1)) (drop (i + 1) events)) (get_or events i d).sender (get_or events i d).serial ≡ true → are_distinct (drop i events) ≡ false
distinct_broken events i d within twice = distinct_at events i d within ∙ ap (λ b. not b && are_distinct (drop (i + 1) events)) twice
