-- Tests of accounts decide what a federate may be given at a tick
use Rattle.std.proofs.Common.{◌+◌, ◌≡◌, ◌≢◌, ◌⊎◌, ℕ, ◌<◌, ◌≤◌, min, length, eqb, leb, ltb, ◌&&◌, ◌||◌, not, Bool, true, false, List, [], ◌∷◌, Option, Some, None, option_map, IfSome, refl, sym, ap, ◌∙◌, subst, inl, inr, ⊎_elim, arith}
use mathlib.Core.Bool.{false≢true, true≢false}
use Rattle.std.specs.Bool.{Decides}
use Rattle.std.specs.List.{list_all, All, cons_option}
use Rattle.std.proofs.lemmas.List.Elements.{All-nil, All-cons, All-head, All-tail}
use Rattle.std.specs.Option.{option_map_or}
use Rattle.std.proofs.lemmas.Bool.Decides.{nat_tests, Decides-like, Decides-and, Decides-or, Decides-not, Decides-by_and, Decides-eqb, Decides-ltb}
use Rattle.hla_base.specs.declared.number.EventHandle.{EventHandle}
use Rattle.hla_base.specs.declared.content.Content.{Content}
use Rattle.hla_base.specs.declared.content.Content.TheVariants as content
use Rattle.hla_base.specs.declared.content.Discovery.{Discovery}
use Rattle.hla_base.specs.declared.notice.Notice.{Notice}
use Rattle.hla_base.specs.Tables.{when, one_if}
use Rattle.hla_base.specs.declared.row.AdvanceRequest.{AdvanceRequest}
use Rattle.hla_base.specs.declared.row.TimeRow.{TimeRow}
use Rattle.hla_base.specs.Rows.{is_strict, is_next, is_flush, is_constrained, is_advancing, is_pending, least_of, grant_time, reach}
use Rattle.hla_callbacks.specs.declared.callback.Delivery.{Delivery}
use Rattle.hla_callbacks.specs.declared.callback.Delivery.TheVariants.{Receive, Demoted, TimeStamp}
use Rattle.hla_machine.specs.Directory.{Directory}
use Rattle.hla_machine.specs.Central as machine
use Rattle.hla_machine.specs.Central.{Copy, Ro, Tso, is_key, KeyLe, BelowBound, BelowAllTso}
use Rattle.hla_machine.specs.declared.step.Choice.TheVariants as choice
use Rattle.hla_machine.specs.Callbacks.{NothingIsDue, MayTickInVain, IsDiscovered, IsCopy, MayDeliver, MayConstrain, AreBelow, is_among, MayReceive, IsFirstRo, IsFirstOfStamp, IsAtFirstPick, IsLeastKey, MayPick, MayPickIn, WhileAdvancing, MayGrantFlush, MayGrantAs, MayGrant}
use Rattle.hla_accounts.specs.declared.account.Account.{Account}
use Rattle.hla_accounts.specs.declared.offers.Offer.{Offer}
use Rattle.hla_bags.specs.declared.bag.Waiting.{Waiting}
use Rattle.hla_bags.specs.Bags.{waiting_at, is_listed, ordered_stamp}
use Rattle.hla_accounts.specs.Accounts.{account_at, offers_from, times_listed, copy_of, copy_given, copy_at, central_with, AreKept}
use Rattle.hla_accounts.specs.Bounds.{is_retracted, is_below_all_tso, is_below_bound, has_reached}
use Rattle.hla_accounts.specs.Ticks.{is_nothing_due, is_advance_held, may_tick_in_vain, is_flush_granted, is_granted_as, may_grant, may_receive, is_sent_in_receive_order, is_not_earlier, is_first_ro, is_not_earlier_of_stamp, is_first_of_stamp, is_at_first_pick, is_key_le, is_not_before, is_least_key, may_pick, may_pick_as, may_pick_now, may_pick_in_turn, has_no_offer, is_discovered, may_deliver, is_moved_below, is_among_if_below, are_below, may_constrain}
use Rattle.hla_accounts.proofs.Tests.Bounds.{each_decided, Decides-leb, below_all_tso_decided, below_bound_decided, reached_decided}

-- ---- tests of optional values
pub if_some_decided : {X : Type 0} (test : X → Bool) (P : X → Type 0) → ((x : X) → Decides (test x) (P x)) → (o : Option X) → Decides (option_map_or test o true) (IfSome o P)
if_some_decided test P each None = (λ e. tt, λ h. refl)
if_some_decided test P each (Some x) = each x

pub if_true_decided : (b t : Bool) (P : Type 0) → Decides t P → Decides (not b || t) (b ≡ true → P)
if_true_decided true t P h = (λ e b. h.0 e, λ f. h.1 (f refl))
if_true_decided false t P h = (λ e b. absurd (false≢true b), λ f. refl)

pub while_decided : (r : TimeRow) (P : AdvanceRequest → Type 0) (test : AdvanceRequest → Bool) → ((q : AdvanceRequest) → Decides (test q) (P q)) → Decides (option_map_or test r.advance false) (WhileAdvancing r P)
while_decided r P test each = by r.advance refl
  where
    by : (o : Option AdvanceRequest) → r.advance ≡ o → Decides (option_map_or test o false) (WhileAdvancing r P)
    by None is = (λ e. absurd (false≢true e), λ w. absurd (let e : None ≡ Some w.0 = sym is ∙ w.1 in cc))
    by (Some q) is = (λ e. (q, is, (each q).0 e), λ w. (each q).1 (let same : w.0 ≡ q = (let e : Some w.0 ≡ Some q = sym w.1 ∙ is in cc) in subst P same w.2))

not_decided : (b : Bool) → Decides (not b) (b ≡ false)
not_decided true = (λ e. absurd (false≢true e), λ e. absurd (true≢false e))
not_decided false = (λ e. refl, λ e. refl)

-- ---- what is due, and what a federate waits for
none_told_decided : (notices : List Notice) → Decides (eqb (length notices) 0) (notices ≡ [])
none_told_decided [] = (λ e. refl, λ e. refl)
none_told_decided (n ∷ ns) = (λ e. absurd (grind (arith, nat_tests)), λ e. absurd (let none : length (n ∷ ns) ≡ 0 = ap length e in omega arith))

none_listed_decided : (events : List EventHandle) → Decides (eqb (length events) 0) ((g m : ℕ) → times_listed events g m ≡ 0)
unfolding times_listed
none_listed_decided [] = (λ e g m. refl, λ h. refl)
none_listed_decided (e ∷ es) = (λ t. absurd (grind (arith, nat_tests)), λ h. absurd (by (is_key e.sender e.serial e.sender e.serial) (grind (arith, nat_tests)) (h e.sender e.serial)))
  where
    by : (b : Bool) → b ≡ true → one_if b + times_listed es e.sender e.serial ≡ 0 → ⊥
    by true own none = absurd (omega arith)
    by false own none = false≢true own

pub nothing_due_decided : (d : Directory) (accounts : List Account) (f : ℕ) → Decides (is_nothing_due accounts f) (NothingIsDue (central_with d accounts) f)
nothing_due_decided d accounts f =
    let a = account_at accounts f in
    Decides-like (is_nothing_due accounts f) (λ p. record { told = p.0; asked = p.1 }) (λ n. (n.told, n.asked))
    (Decides-and (eqb (length a.notices) 0) (eqb (length a.due) 0) (none_told_decided a.notices) (none_listed_decided a.due))

advance_held_decided : (con : Bool) (o : Option AdvanceRequest) → Decides (option_map_or (λ (q : AdvanceRequest). con && not (is_flush q.kind)) o true) ((q : AdvanceRequest) → o ≡ Some q → (con ≡ true) × (is_flush q.kind ≡ false))
advance_held_decided con None = (λ e q is. absurd (cc), λ h. refl)
advance_held_decided con (Some q) =
    let held = Decides-and con (not (is_flush q.kind)) (λ e. e, λ e. e) (not_decided (is_flush q.kind)) in
    (λ t p is. let same : q ≡ p = cc in subst (λ (x : AdvanceRequest). (con ≡ true) × (is_flush x.kind ≡ false)) same (held.0 t), λ h. held.1 (h q refl))

pub may_tick_in_vain_decided : (d : Directory) (accounts : List Account) (f : ℕ) → Decides (may_tick_in_vain accounts f) (MayTickInVain (central_with d accounts) f)
may_tick_in_vain_decided d accounts f =
    let r = (account_at accounts f).state in
    Decides-like (may_tick_in_vain accounts f) (λ p. record { due = p.0.0; roles = p.0.1; advance = p.1 }) (λ w. ((w.due, w.roles), w.advance))
    (Decides-and _ (is_advance_held accounts f)
    (Decides-and (is_nothing_due accounts f) (not (is_pending r.regulating)) (nothing_due_decided d accounts f) (not_decided (is_pending r.regulating)))
    (advance_held_decided (is_constrained r) r.advance))

-- ---- messages in receive order
pub may_receive_decided : (r : TimeRow) → Decides (may_receive r) (MayReceive r)
may_receive_decided r = by (is_constrained r) (is_advancing r) r.asynchronous
  where
    by : (c a s : Bool) → Decides (not c || a || s) ((c ≡ false) ⊎ ((a ≡ true) ⊎ (s ≡ true)))
    by false a s = (λ e. inl refl, λ h. refl)
    by true true s = (λ e. inr (inl refl), λ h. refl)
    by true false true = (λ e. inr (inr refl), λ h. refl)
    by true false false = (λ e. absurd (false≢true e), ⊎_elim (λ e. absurd (true≢false e)) (⊎_elim (λ e. e) (λ e. e)))

not_earlier_decided : (g m h n : ℕ) (dl : Delivery) (x : Content) → Decides (not (is_sent_in_receive_order dl && eqb h g && ltb n m)) (h ≡ g → n < m → (copy_given dl x).order ≢ Ro)
not_earlier_decided g m h n (Demoted stamp) x = (λ e same less ro. absurd (apart ro), λ f. refl)
  where
    apart : machine.Demoted ≡ Ro → ⊥
    apart e = cc
not_earlier_decided g m h n (TimeStamp stamp) x = (λ e same less ro. absurd (apart ro), λ f. refl)
  where
    apart : Tso ≡ Ro → ⊥
    apart e = cc
not_earlier_decided g m h n Receive x = by (eqb h g && ltb n m) (Decides-and (eqb h g) (ltb n m) (Decides-eqb h g) (Decides-ltb n m))
  where
    by : (b : Bool) → Decides b ((h ≡ g) × (n < m)) → Decides (not b) (h ≡ g → n < m → Ro ≢ Ro)
    by true k = (λ e same less. absurd (false≢true e), λ f. absurd (let p = k.0 refl in f p.0 p.1 refl))
    by false k = (λ e same less. absurd (false≢true (k.1 (same, less))), λ f. refl)

-- ---- keys
not_earlier_of_decided : (g m s h n : ℕ) (dl : Delivery) (x : Content) →
    Decides (option_map_or (λ y. not (eqb y s)) (ordered_stamp dl) true || not (eqb h g && ltb n m)) (h ≡ g → n < m → (copy_given dl x).order ≡ Tso → (copy_given dl x).stamp ≢ s)
not_earlier_of_decided g m s h n Receive x = (λ e same less tso. absurd (apart tso), λ f. refl)
  where
    apart : Ro ≡ Tso → ⊥
    apart e = cc
not_earlier_of_decided g m s h n (Demoted stamp) x = (λ e same less tso. absurd (apart tso), λ f. refl)
  where
    apart : machine.Demoted ≡ Tso → ⊥
    apart e = cc
not_earlier_of_decided g m s h n (TimeStamp stamp) x = by (eqb stamp s) (eqb h g && ltb n m) (Decides-eqb stamp s) (Decides-and (eqb h g) (ltb n m) (Decides-eqb h g) (Decides-ltb n m))
  where
    by : (a b : Bool) → Decides a (stamp ≡ s) → Decides b ((h ≡ g) × (n < m)) → Decides (not a || not b) (h ≡ g → n < m → Tso ≡ Tso → stamp ≢ s)
    by true true at before = (λ e. absurd (false≢true e), λ f. absurd (let p = before.0 refl in f p.0 p.1 refl (at.0 refl)))
    by true false at before = (λ e same less. absurd (false≢true (before.1 (same, less))), λ f. refl)
    by false b at before = (λ e same less tso is. absurd (false≢true (at.1 is)), λ f. refl)

key_le_decided : (g m h n : ℕ) → Decides (is_key_le g m h n) (KeyLe g m h n)
key_le_decided g m h n = Decides-or (ltb g h) (eqb g h && leb m n) (Decides-ltb g h) (Decides-and (eqb g h) (leb m n) (Decides-eqb g h) (Decides-leb m n))

not_before_decided : (retracted : Bool) (g m s h n : ℕ) (dl : Delivery) (x : Content) →
    Decides (retracted || option_map_or (λ y. not (eqb y s)) (ordered_stamp dl) true || is_key_le g m h n) (retracted ≡ false → (copy_given dl x).order ≡ Tso → (copy_given dl x).stamp ≡ s → KeyLe g m h n)
not_before_decided true g m s h n dl x = (λ e live. absurd (true≢false live), λ f. refl)
not_before_decided false g m s h n Receive x = (λ e live tso. absurd (apart tso), λ f. refl)
  where
    apart : Ro ≡ Tso → ⊥
    apart e = cc
not_before_decided false g m s h n (Demoted stamp) x = (λ e live tso. absurd (apart tso), λ f. refl)
  where
    apart : machine.Demoted ≡ Tso → ⊥
    apart e = cc
not_before_decided false g m s h n (TimeStamp stamp) x = by (eqb stamp s) (is_key_le g m h n) (Decides-eqb stamp s) (key_le_decided g m h n)
  where
    by : (a b : Bool) → Decides a (stamp ≡ s) → Decides b (KeyLe g m h n) → Decides (not a || b) (false ≡ false → Tso ≡ Tso → stamp ≡ s → KeyLe g m h n)
    by true b at key = (λ e live tso same. key.0 e, λ f. key.1 (f refl refl (at.0 refl)))
    by false b at key = (λ e live tso same. absurd (false≢true (at.1 same)), λ f. refl)

-- ---- discoveries
offers_to : (object : ℕ) (offers : List Offer) → All (λ (o : Offer). o.discovery.object ≢ object) offers → (g : ℕ) → All (λ (x : Discovery). x.object ≢ object) (offers_from g offers)
offers_to object [] all g = All-nil _
offers_to object (o ∷ os) all g = by (eqb o.from g) (offers_to object os (All-tail (λ (o : Offer). o.discovery.object ≢ object) o os all) g)
  where
    by : (b : Bool) → All (λ (x : Discovery). x.object ≢ object) (offers_from g os) → All (λ (x : Discovery). x.object ≢ object) (cons_option (when b (Some o.discovery)) (offers_from g os))
    by true rest = All-cons (λ (x : Discovery). x.object ≢ object) o.discovery (offers_from g os) (All-head (λ (o : Offer). o.discovery.object ≢ object) o os all) rest
    by false rest = rest

offers_back : (object : ℕ) (offers : List Offer) → ((g : ℕ) → All (λ (x : Discovery). x.object ≢ object) (offers_from g offers)) → All (λ (o : Offer). o.discovery.object ≢ object) offers
offers_back object [] all = All-nil _
offers_back object (o ∷ os) all = All-cons (λ (o : Offer). o.discovery.object ≢ object) o os head (offers_back object os (λ g. by g (eqb o.from g) (all g)))
  where
    by : (g : ℕ) (b : Bool) → All (λ (x : Discovery). x.object ≢ object) (cons_option (when b (Some o.discovery)) (offers_from g os)) → All (λ (x : Discovery). x.object ≢ object) (offers_from g os)
    by g true h = All-tail (λ (x : Discovery). x.object ≢ object) o.discovery (offers_from g os) h
    by g false h = h

    head : o.discovery.object ≢ object
    head =
        let own : eqb o.from o.from ≡ true = grind (arith, nat_tests) in
        let mine : All (λ (x : Discovery). x.object ≢ object) (cons_option (when true (Some o.discovery)) (offers_from o.from os)) = subst (λ b. All (λ (x : Discovery). x.object ≢ object) (cons_option (when b (Some o.discovery)) (offers_from o.from os))) own (all o.from) in
        All-head (λ (x : Discovery). x.object ≢ object) o.discovery (offers_from o.from os) mine

no_offer_decided : (object : ℕ) (offers : List Offer) → Decides (has_no_offer offers object) ((g : ℕ) → All (λ (x : Discovery). x.object ≢ object) (offers_from g offers))
no_offer_decided object offers = Decides-like (has_no_offer offers object) (offers_to object offers) (offers_back object offers)
    (Decides-by_and (λ (o : Offer). not (eqb o.discovery.object object)) (λ (o : Offer). o.discovery.object ≢ object) (list_all (λ (o : Offer). not (eqb o.discovery.object object))) (λ o. Decides-not (eqb o.discovery.object object) (Decides-eqb o.discovery.object object)) refl (λ _ _. refl) offers)

pub discovered_decided : (d : Directory) (accounts : List Account) (f : ℕ) (x : Content) → Decides (is_discovered accounts f x) (IsDiscovered (central_with d accounts) f x)
discovered_decided d accounts f (content.Interaction class values) = (λ e. tt, λ h. refl)
discovered_decided d accounts f (content.Reflection object values) = no_offer_decided object (account_at accounts f).offers
discovered_decided d accounts f (content.Removal object) = no_offer_decided object (account_at accounts f).offers

-- ---- events that move to receive order
-- a message that is there is a copy in time-stamp order, and its stamp is below the time
moved_below_decided : (t : ℕ) (o : Option Waiting) → Decides (is_moved_below t o) ((k : Copy) × (option_map copy_of o ≡ Some k) × (k.order ≡ Tso) × (k.stamp < t))
moved_below_decided t None = (λ e. absurd (false≢true e), λ h. absurd (let e = h.1 in cc))
moved_below_decided t (Some w) = by w.delivery w.content
  where
    by : (dl : Delivery) (x : Content) → Decides (option_map_or (λ s. ltb s t) (ordered_stamp dl) false) ((k : Copy) × (Some (copy_given dl x) ≡ Some k) × (k.order ≡ Tso) × (k.stamp < t))
    by Receive x = (λ e. absurd (false≢true e), λ h. absurd (apart (let e = h.1 in cc)))
      where
        apart : Ro ≡ Tso → ⊥
        apart e = cc
    by (Demoted stamp) x = (λ e. absurd (false≢true e), λ h. absurd (apart (let e = h.1 in cc)))
      where
        apart : machine.Demoted ≡ Tso → ⊥
        apart e = cc
    by (TimeStamp stamp) x = (λ e. (copy_given (TimeStamp stamp) x, refl, refl, (Decides-ltb stamp t).0 e), λ h. (Decides-ltb stamp t).1 (let same : copy_given (TimeStamp stamp) x ≡ h.0 = (let e = h.1 in cc) in subst (λ (k : Copy). k.stamp < t) (sym same) h.3))

among_decided : (retracted : Bool) (t : ℕ) (listed : Bool) (dl : Delivery) (x : Content) →
    Decides (retracted || option_map_or (λ s. not (ltb s t)) (ordered_stamp dl) true || listed) (retracted ≡ false → (copy_given dl x).order ≡ Tso → (copy_given dl x).stamp < t → listed ≡ true)
among_decided true t listed dl x = (λ e live. absurd (true≢false live), λ f. refl)
among_decided false t listed Receive x = (λ e live tso. absurd (apart tso), λ f. refl)
  where
    apart : Ro ≡ Tso → ⊥
    apart e = cc
among_decided false t listed (Demoted stamp) x = (λ e live tso. absurd (apart tso), λ f. refl)
  where
    apart : machine.Demoted ≡ Tso → ⊥
    apart e = cc
among_decided false t listed (TimeStamp stamp) x = by (ltb stamp t) listed (Decides-ltb stamp t)
  where
    by : (a b : Bool) → Decides a (stamp < t) → Decides (not a || b) (false ≡ false → Tso ≡ Tso → stamp < t → b ≡ true)
    by true b at = (λ e live tso less. e, λ f. f refl refl (at.0 refl))
    by false b at = (λ e live tso less. absurd (false≢true (at.1 less)), λ f. refl)

module _ (d : Directory) (accounts : List Account) (kept : AreKept accounts) where
  -- ---- grants
  flush_granted_decided : (f : ℕ) (q : AdvanceRequest) (t : ℕ) → Decides (is_flush_granted accounts f q t) (MayGrantFlush (central_with d accounts) f q t)
  flush_granted_decided f q t =
      let r = (account_at accounts f).state in
      Decides-like (is_flush_granted accounts f q t) (λ p. (p.0.0.0.0.0, p.0.0.0.0.1, p.0.0.0.1, p.0.1, p.1, p.0.0.1)) (λ p. (((((p.0, p.1), p.2), p.5), p.3), p.4))
      (Decides-and _ (is_below_all_tso accounts f t)
      (Decides-and _ (is_below_bound accounts f t)
      (Decides-and _ (leb (least_of (min q.asked r.bar) r.flushed) t)
      (Decides-and _ (option_map_or (leb t) r.flushed true)
      (Decides-and (leb r.time t) (leb t q.asked) (Decides-leb r.time t) (Decides-leb t q.asked))
      (if_some_decided (leb t) (λ s. t ≤ s) (Decides-leb t) r.flushed))
      (Decides-leb (least_of (min q.asked r.bar) r.flushed) t))
      (below_bound_decided d accounts kept f t))
      (below_all_tso_decided d accounts f t (kept.apart f)))

  granted_as_decided : (con flush : Bool) (f : ℕ) (q : AdvanceRequest) (t : ℕ) → Decides (is_granted_as con flush accounts f q t) (MayGrantAs con flush (central_with d accounts) f q t)
  granted_as_decided false flush f q t = Decides-eqb t q.asked
  granted_as_decided true true f q t = flush_granted_decided f q t
  granted_as_decided true false f q t = Decides-and (eqb t (grant_time (account_at accounts f).state q)) (has_reached accounts f q.kind t) (Decides-eqb t (grant_time (account_at accounts f).state q)) (reached_decided d accounts kept f q.kind t)

  -- the test is of the grant
  pub may_grant_decided : (f t : ℕ) → Decides (may_grant accounts f t) (WhileAdvancing ((central_with d accounts).row f) (MayGrant (central_with d accounts) f t))
  may_grant_decided f t =
      let r = (account_at accounts f).state in
      while_decided r (MayGrant (central_with d accounts) f t) (λ q. is_granted_as (is_constrained r) (is_flush q.kind) accounts f q t) (λ q. granted_as_decided (is_constrained r) (is_flush q.kind) f q t)

  -- ---- messages
  pub first_ro_decided : (f : ℕ) (e : EventHandle) → Decides (is_first_ro accounts f e.sender e.serial) (IsFirstRo (central_with d accounts) f e)
  first_ro_decided f e = Decides-like (is_first_ro accounts f e.sender e.serial)
      (λ each n k less is. each e.sender n k is refl less)
      (λ first h n k is same less. first n k less (subst (λ g. copy_at (account_at accounts f).bag g n ≡ Some k) same is))
      (each_decided (λ h n k. h ≡ e.sender → n < e.serial → k.order ≢ Ro) (is_not_earlier e.sender e.serial) (λ w. not_earlier_decided e.sender e.serial w.event.sender w.event.serial w.delivery w.content) (account_at accounts f).bag (kept.apart f))

  first_of_stamp_decided : (f : ℕ) (e : EventHandle) (s : ℕ) → Decides (is_first_of_stamp accounts f e.sender e.serial s) (IsFirstOfStamp (central_with d accounts) f e s)
  first_of_stamp_decided f e s = Decides-like (is_first_of_stamp accounts f e.sender e.serial s)
      (λ each n k less is. each e.sender n k is refl less)
      (λ first h n k is same less. first n k less (subst (λ g. copy_at (account_at accounts f).bag g n ≡ Some k) same is))
      (each_decided (λ h n k. h ≡ e.sender → n < e.serial → k.order ≡ Tso → k.stamp ≢ s) (is_not_earlier_of_stamp e.sender e.serial s) (λ w. not_earlier_of_decided e.sender e.serial s w.event.sender w.event.serial w.delivery w.content) (account_at accounts f).bag (kept.apart f))

  at_first_pick_decided : (r : TimeRow) (q : AdvanceRequest) (s : ℕ) → Decides (is_at_first_pick r q s) (IsAtFirstPick r q s)
  at_first_pick_decided r q s = if_true_decided (is_next q.kind) (option_map_or (eqb s) r.first_pick true) _ (if_some_decided (eqb s) (λ p. s ≡ p) (Decides-eqb s) r.first_pick)

  least_key_decided : (f : ℕ) (q : AdvanceRequest) (e : EventHandle) (s : ℕ) → Decides (is_least_key accounts f q e.sender e.serial s) (IsLeastKey (central_with d accounts) f q e s)
  least_key_decided f q e s = if_true_decided (is_strict q.kind) (list_all (is_not_before accounts e.sender e.serial s) (account_at accounts f).bag) _
      (each_decided (λ h n k. is_retracted accounts h n ≡ false → k.order ≡ Tso → k.stamp ≡ s → KeyLe e.sender e.serial h n) (is_not_before accounts e.sender e.serial s)
      (λ w. not_before_decided (is_retracted accounts w.event.sender w.event.serial) e.sender e.serial s w.event.sender w.event.serial w.delivery w.content) (account_at accounts f).bag (kept.apart f))

  may_pick_decided : (f : ℕ) (q : AdvanceRequest) (e : EventHandle) (s : ℕ) → Decides (may_pick accounts f q e.sender e.serial s) (MayPick (central_with d accounts) f q e s)
  may_pick_decided f q e s =
      let r = (account_at accounts f).state in
      Decides-like (may_pick accounts f q e.sender e.serial s)
      (λ p. record { unretracted = p.0.0.0.0.0; asked = p.0.0.0.0.1; at_first_pick = p.0.0.0.1; bound = p.0.0.1; first = p.0.1; least_key = p.1 })
      (λ p. (((((p.unretracted, p.asked), p.at_first_pick), p.bound), p.first), p.least_key))
      (Decides-and _ (is_least_key accounts f q e.sender e.serial s)
      (Decides-and _ (is_below_all_tso accounts f s)
      (Decides-and _ (is_below_bound accounts f (reach q.kind s))
      (Decides-and _ (is_at_first_pick r q s)
      (Decides-and (not (is_retracted accounts e.sender e.serial)) (leb s q.asked) (not_decided (is_retracted accounts e.sender e.serial)) (Decides-leb s q.asked))
      (at_first_pick_decided r q s))
      (below_bound_decided d accounts kept f (reach q.kind s)))
      (below_all_tso_decided d accounts f s (kept.apart f)))
      (least_key_decided f q e s))

  may_pick_as_decided : (flush : Bool) (f : ℕ) (q : AdvanceRequest) (e : EventHandle) (s : ℕ) →
      Decides (may_pick_as flush accounts f q e.sender e.serial s) ((flush ≡ true → (account_at accounts f).state.time ≤ s) × (flush ≡ false → MayPick (central_with d accounts) f q e s))
  may_pick_as_decided true f q e s = (λ t. (λ _. (Decides-leb (account_at accounts f).state.time s).0 t, λ b. absurd (true≢false b)), λ p. (Decides-leb (account_at accounts f).state.time s).1 (p.0 refl))
  may_pick_as_decided false f q e s = (λ t. (λ b. absurd (false≢true b), λ _. (may_pick_decided f q e s).0 t), λ p. (may_pick_decided f q e s).1 (p.1 refl))

  -- the test is of a pick in time-stamp order
  pub may_pick_now_decided : (f : ℕ) (e : EventHandle) (s : ℕ) → Decides (may_pick_now accounts f e.sender e.serial s) (WhileAdvancing ((central_with d accounts).row f) (λ q. MayPickIn (central_with d accounts) f q e s))
  may_pick_now_decided f e s = while_decided (account_at accounts f).state (λ q. MayPickIn (central_with d accounts) f q e s) (λ q. may_pick_as (is_flush q.kind) accounts f q e.sender e.serial s) (λ q. may_pick_as_decided (is_flush q.kind) f q e s)

  -- the test is of a message that waits or does not
  pub may_deliver_decided : (f : ℕ) (e : EventHandle) (x : Content) (dl : Delivery) (waits : Bool) → Decides waits (IsCopy (central_with d accounts) f e (copy_given dl x)) →
      Decides (may_deliver accounts f e.sender e.serial x dl waits) (MayDeliver (central_with d accounts) f x e dl)
  may_deliver_decided f e x Receive waits h =
      let r = (account_at accounts f).state in
      Decides-like (may_deliver accounts f e.sender e.serial x Receive waits) (λ p. (p.0.0.0, p.0.0.1, p.0.1, p.1)) (λ p. (((p.0, p.1), p.2), p.3))
      (Decides-and _ (is_first_ro accounts f e.sender e.serial)
      (Decides-and _ waits (Decides-and (may_receive r) (is_discovered accounts f x) (may_receive_decided r) (discovered_decided d accounts f x)) h)
      (first_ro_decided f e))
  may_deliver_decided f e x (Demoted stamp) waits h =
      let r = (account_at accounts f).state in
      Decides-like (may_deliver accounts f e.sender e.serial x (Demoted stamp) waits) (λ p. (p.0.0, p.0.1, p.1)) (λ p. ((p.0, p.1), p.2))
      (Decides-and _ waits (Decides-and (may_receive r) (is_discovered accounts f x) (may_receive_decided r) (discovered_decided d accounts f x)) h)
  may_deliver_decided f e x (TimeStamp stamp) waits h =
      let r = (account_at accounts f).state in
      Decides-like (may_deliver accounts f e.sender e.serial x (TimeStamp stamp) waits) (λ p. (p.0.0.0, p.0.0.1, p.0.1, p.1.0, p.1.1)) (λ p. (((p.0, p.1), p.2), (p.3, p.4)))
      (Decides-and _ (may_pick_in_turn accounts f e.sender e.serial stamp)
      (Decides-and _ waits (Decides-and (is_constrained r) (is_discovered accounts f x) (λ t. t, λ t. t) (discovered_decided d accounts f x)) h)
      (Decides-and (may_pick_now accounts f e.sender e.serial stamp) (is_first_of_stamp accounts f e.sender e.serial stamp) (may_pick_now_decided f e stamp) (first_of_stamp_decided f e stamp)))

  -- ---- becoming constrained
  pub may_constrain_decided : (f t : ℕ) (events : List EventHandle) → Decides (may_constrain accounts f t events) (MayConstrain (central_with d accounts) f t (choice.Moved events))
  may_constrain_decided f t events =
      let r = (account_at accounts f).state in
      Decides-like (may_constrain accounts f t events) (λ p. (p.0.0.0.0, p.0.0.0.1, p.0.0.1, p.0.1, p.1)) (λ p. ((((p.0, p.1), p.2), p.3), p.4))
      (Decides-and _ (are_below accounts f t events)
      (Decides-and _ (is_below_bound accounts f t)
      (Decides-and _ (not (is_pending r.regulating))
      (Decides-and (eqb t r.time) (is_pending r.constrained) (Decides-eqb t r.time) (λ e. e, λ e. e))
      (not_decided (is_pending r.regulating)))
      (below_bound_decided d accounts kept f t))
      (are_below_decided f t events))
    where
      are_below_decided : (f t : ℕ) (events : List EventHandle) → Decides (are_below accounts f t events) (AreBelow (central_with d accounts) f t events)
      are_below_decided f t events = Decides-and (list_all (λ (e : EventHandle). is_moved_below t (waiting_at (account_at accounts f).bag e.sender e.serial)) events) (list_all (is_among_if_below accounts t events) (account_at accounts f).bag)
          (Decides-by_and (λ (e : EventHandle). is_moved_below t (waiting_at (account_at accounts f).bag e.sender e.serial)) _ (list_all (λ (e : EventHandle). is_moved_below t (waiting_at (account_at accounts f).bag e.sender e.serial)))
          (λ e. moved_below_decided t (waiting_at (account_at accounts f).bag e.sender e.serial)) refl (λ _ _. refl) events)
          (each_decided (λ g m k. is_retracted accounts g m ≡ false → k.order ≡ Tso → k.stamp < t → is_among events g m ≡ true) (is_among_if_below accounts t events)
          (λ w. among_decided (is_retracted accounts w.event.sender w.event.serial) t (is_listed events w.event.sender w.event.serial) w.delivery w.content) (account_at accounts f).bag (kept.apart f))
