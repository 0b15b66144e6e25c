-- Tests of accounts decide the bounds of the central machine
use Rattle.std.proofs.Common.{◌≡◌, ◌≢◌, ℕ, zero, suc, length, ◌+◌, ◌-◌, ◌<◌, ◌≤◌, cond, eqb, leb, ◌||◌, not, Bool, true, false, List, [], ◌∷◌, Option, Some, None, option_map, refl, sym, ap, ◌∙◌, subst, ⊎_elim, arith}
use Rattle.std.specs.Bool.{Decides}
use Rattle.std.specs.List.{list_all, All}
use Rattle.std.specs.Option.{option_map_or}
use Rattle.std.proofs.lemmas.Bool.Decides.{nat_tests, Decides-by_and, Decides-like, Decides-and, Decides-or, Decides-eqb, Decides-below_and}
use Rattle.std.proofs.lemmas.Bool.{cases_lt}
use Rattle.hla_base.specs.Limits.{forever}
use Rattle.hla_accounts.proofs.AfterSteps.Accounts.{account_at-past}
use Rattle.std.proofs.lemmas.List.Elements.{All-nil, All-cons, All-head, All-tail}
use Rattle.hla_base.specs.declared.row.AdvanceKind.{AdvanceKind}
use Rattle.hla_base.specs.declared.row.AdvanceRequest.{AdvanceRequest}
use Rattle.hla_base.specs.declared.row.TimeRow.{TimeRow}
use Rattle.hla_base.specs.declared.content.Content.{Content}
use Rattle.hla_base.specs.Rows.{next_request, width, is_regulator, reach}
use Rattle.hla_callbacks.specs.declared.callback.Delivery.{Delivery}
use Rattle.hla_callbacks.specs.declared.callback.Delivery.TheVariants.{Receive, Demoted, TimeStamp}
use Rattle.hla_machine.specs.Directory.{Directory}
use Rattle.hla_machine.specs.Central as machine
use Rattle.hla_machine.specs.Central.{Copy, CopyOrder, Ro, Tso, BelowTso, BelowAllTso, BelowWake, BelowRequest, BelowOut, BelowBound, Reached}
use Rattle.hla_accounts.specs.declared.account.Account.{Account}
use Rattle.hla_bags.specs.declared.bag.Waiting.{Waiting}
use Rattle.hla_bags.specs.Bags.{is_of, waiting_at, AreApart, ordered_stamp}
use Rattle.hla_accounts.specs.Accounts.{AreKept, no_account, account_at, copy_of, copy_given, copy_at, central_with}
use Rattle.hla_accounts.specs.Bounds.{is_retracted, is_at_most_waiting, is_below_all_tso, is_below_wake, is_below_request, is_below_out, leaves_below, all_leave, is_below_bound, has_reached}
use Rattle.hla_bags.proofs.Bags.Contents.{waiting_at-nil, waiting_at-cons, sender_and_serial}

-- ---- what holds of each copy
-- P holds of each copy in the bag, by its sender and serial
abbrev pub EachCopy : (ℕ → ℕ → Copy → Type 0) → List Waiting → Type 0
EachCopy P ws = (g m : ℕ) (k : Copy) → copy_at ws g m ≡ Some k → P g m k

abbrev pub OfCopy : (ℕ → ℕ → Copy → Type 0) → Waiting → Type 0
OfCopy P w = P w.event.sender w.event.serial (copy_of w)

module _ (P : ℕ → ℕ → Copy → Type 0) where
  -- what holds of each message in the list holds of each copy in the table
  pub each_from_all : (ws : List Waiting) → All (OfCopy P) ws → EachCopy P ws
  each_from_all [] all g m k is = absurd (let e : None ≡ Some k = sym (ap (λ t. option_map copy_of (t g m)) waiting_at-nil) ∙ is in cc)
  each_from_all (w ∷ ws) all g m k is = by (is_of g m w) refl (sym (ap (option_map copy_of) (waiting_at-cons w ws g m)) ∙ is) (each_from_all ws (All-tail (OfCopy P) w ws all) g m k)
    where
      by : (b : Bool) → is_of g m w ≡ b → option_map copy_of (cond b (Some w) (waiting_at ws g m)) ≡ Some k → (copy_at ws g m ≡ Some k → P g m k) → P g m k
      by true here e rest =
          let key = sender_and_serial w g m here in
          let same : copy_of w ≡ k = (let f = e in cc) in
          subst (λ x. P g m x) same (subst (λ n. P g n (copy_of w)) key.1 (subst (λ h. P h w.event.serial (copy_of w)) key.0 (All-head (OfCopy P) w ws all)))
      by false here e rest = rest e

  -- and the other way round, where no two have one key
  pub all_from_each : (ws : List Waiting) → AreApart ws → EachCopy P ws → All (OfCopy P) ws
  all_from_each [] apart each = All-nil (OfCopy P)
  all_from_each (w ∷ ws) apart each = All-cons (OfCopy P) w ws
      (each w.event.sender w.event.serial (copy_of w) (ap (option_map copy_of) (waiting_at-cons w ws w.event.sender w.event.serial ∙ itself)))
      (all_from_each ws apart.1 (λ g m k is. each g m k (ap (option_map copy_of) (waiting_at-cons w ws g m) ∙ behind g m (is_of g m w) refl k is)))
    where
      itself : cond (is_of w.event.sender w.event.serial w) (Some w) (waiting_at ws w.event.sender w.event.serial) ≡ Some w
      itself = let yes_it : is_of w.event.sender w.event.serial w ≡ true = grind (arith, nat_tests) in rw yes_it refl

      behind : (g m : ℕ) (b : Bool) → is_of g m w ≡ b → (k : Copy) → copy_at ws g m ≡ Some k → option_map copy_of (cond b (Some w) (waiting_at ws g m)) ≡ Some k
      behind g m true here k is =
          let key = sender_and_serial w g m here in
          let none : waiting_at ws g m ≡ None = rw (← key.0, ← key.1) apart.0 in
          absurd (let e : None ≡ Some k = sym (ap (option_map copy_of) none) ∙ is in cc)
      behind g m false here k is = is

  -- so a test of each message decides what holds of each copy
  pub each_decided : (test : Waiting → Bool) → ((w : Waiting) → Decides (test w) (OfCopy P w)) → (ws : List Waiting) → AreApart ws → Decides (list_all test ws) (EachCopy P ws)
  each_decided test each ws apart = Decides-like (list_all test ws) (each_from_all ws) (all_from_each ws apart) (Decides-by_and test (OfCopy P) (list_all test) each refl (λ _ _. refl) ws)

-- ---- numbers
pub Decides-leb : (a b : ℕ) → Decides (leb a b) (a ≤ b)
Decides-leb a b = (λ e. grind (arith, nat_tests), λ l. grind (arith, nat_tests))

-- ---- the least stamp
-- x is at most the stamp of an unretracted copy in time-stamp order
abbrev pub AtMostCopy : (ℕ → ℕ → Bool) → ℕ → ℕ → ℕ → Copy → Type 0
AtMostCopy retracted x g m k = retracted g m ≡ false → BelowTso x k

at_most_decided : (retracted : Bool) (x : ℕ) (d : Delivery) (content : Content) → Decides (retracted || option_map_or (leb x) (ordered_stamp d) true) (retracted ≡ false → BelowTso x (copy_given d content))
at_most_decided true x d content = (λ e live. absurd (cc), λ h. refl)
at_most_decided false x Receive content = (λ e live tso. absurd (not_tso tso), λ h. refl)
  where
    not_tso : Ro ≡ Tso → ⊥
    not_tso e = cc
at_most_decided false x (Demoted stamp) content = (λ e live tso. absurd (not_tso tso), λ h. refl)
  where
    not_tso : machine.Demoted ≡ Tso → ⊥
    not_tso e = cc
at_most_decided false x (TimeStamp stamp) content = (λ e live tso. (Decides-leb x stamp).0 e, λ h. (Decides-leb x stamp).1 (h refl refl))

module _ (accounts : List Account) where
  -- ---- all numbers at once
  pub all_leave_decided : (f v n : ℕ) → Decides (all_leave accounts f v n) ((g : ℕ) → g < n → leaves_below accounts f v g ≡ true)
  unfolding all_leave
  all_leave_decided f v n = Decides-below_and (leaves_below accounts f v) (λ g. leaves_below accounts f v g ≡ true) (all_leave accounts f v) (λ g. (λ e. e, λ e. e)) refl (λ _. refl) n

  -- number 0 is nobody's
  pub all_left : (f v n : ℕ) → ((g : ℕ) → 1 ≤ g → g < n → leaves_below accounts f v g ≡ true) → all_leave accounts f v n ≡ true
  all_left f v n each = (all_leave_decided f v n).1 from
    where
      from : (g : ℕ) → g < n → leaves_below accounts f v g ≡ true
      from zero less = refl
      from (suc k) less = each (suc k) (omega arith) less

  pub one_left : (f v n g : ℕ) → g < n → leaves_below accounts f v g ≡ false → all_leave accounts f v n ≡ false
  one_left f v n g less broken = by (all_leave accounts f v n) (all_leave_decided f v n).0
    where
      by : (b : Bool) → (b ≡ true → (g : ℕ) → g < n → leaves_below accounts f v g ≡ true) → b ≡ false
      by true h = absurd (let e : true ≡ false = sym (h refl g less) ∙ broken in cc)
      by false h = refl

module _ (d : Directory) (accounts : List Account) where
  -- the test is of the least stamp of f
  pub below_all_tso_decided : (f x : ℕ) → AreApart (account_at accounts f).bag → Decides (is_below_all_tso accounts f x) (BelowAllTso (central_with d accounts) f x)
  below_all_tso_decided f x apart = Decides-like (is_below_all_tso accounts f x)
      (λ each g m k is live. each g m k is live)
      (λ below g m k is live. below g m k is live)
      (each_decided (AtMostCopy (is_retracted accounts) x) (is_at_most_waiting accounts x) (λ w. at_most_decided (is_retracted accounts w.event.sender w.event.serial) x w.delivery w.content) (account_at accounts f).bag apart)

  pub below_wake_decided : (f : ℕ) (q : AdvanceRequest) (pick : Option ℕ) (x : ℕ) → AreApart (account_at accounts f).bag → Decides (is_below_wake accounts f q pick x) (BelowWake (BelowAllTso (central_with d accounts) f) q pick x)
  below_wake_decided f q None x apart = Decides-and (leb x q.asked) (is_below_all_tso accounts f x) (Decides-leb x q.asked) (below_all_tso_decided f x apart)
  below_wake_decided f q (Some p) x apart = Decides-leb x p

  -- what is at most a wake is so with all below it
  wake_falls : (f : ℕ) (q : AdvanceRequest) (pick : Option ℕ) (x y : ℕ) → y ≤ x → BelowWake (BelowAllTso (central_with d accounts) f) q pick x → BelowWake (BelowAllTso (central_with d accounts) f) q pick y
  wake_falls f q None x y le wake = (let l = wake.0 in omega arith, λ g m k is live tso. let l = wake.1 g m k is live tso in omega arith)
  wake_falls f q (Some p) x y le wake = omega arith

  below_request_decided : (f : ℕ) (r : TimeRow) (o : Option AdvanceRequest) (v : ℕ) → AreApart (account_at accounts f).bag → Decides (is_below_request accounts f r o v) (BelowRequest (BelowAllTso (central_with d accounts) f) r o v)
  below_request_decided f r None v apart = (λ e. absurd (cc), λ h. absurd h)
  below_request_decided f r (Some q) v apart =
      let w = width r.lookahead q.kind in
      Decides-like (is_below_wake accounts f q r.first_pick (v - w))
      (λ wake. (v - w, omega arith, wake))
      (λ there. let l = there.1 in wake_falls f q r.first_pick there.0 (v - w) (omega arith) there.2)
      (below_wake_decided f q r.first_pick (v - w) apart)

  -- the test is of what f may still send
  pub below_out_decided : (f v : ℕ) → AreApart (account_at accounts f).bag → Decides (is_below_out accounts f v) (BelowOut (BelowAllTso (central_with d accounts) f) ((central_with d accounts).row f) v)
  below_out_decided f v apart =
      let r = (account_at accounts f).state in
      Decides-or (leb v r.floor) (is_below_request accounts f r (next_request r) v) (Decides-leb v r.floor) (below_request_decided f r (next_request r) v apart)

  -- ---- the lower bound on time stamp
  leaves_decided : (j e r o : Bool) (P Q : Type 0) → Decides e Q → Decides o P → Decides (not j || e || not r || o) (j ≡ true → ¬ Q → r ≡ true → P)
  leaves_decided false e r o P Q same out = (λ t j n k. absurd (cc), λ h. refl)
  leaves_decided true true r o P Q same out = (λ t j n k. absurd (n (same.0 refl)), λ h. refl)
  leaves_decided true false false o P Q same out = (λ t j n k. absurd (cc), λ h. refl)
  leaves_decided true false true o P Q same out = (λ t j n k. out.0 t, λ h. out.1 (h refl (λ q. absurd (let e = same.1 q in cc)) refl))

  -- the test is of what another may send
  pub leaves_below_decided : (f v g : ℕ) → AreApart (account_at accounts g).bag →
      Decides (leaves_below accounts f v g) ((account_at accounts g).is_joined ≡ true → g ≢ f → is_regulator (account_at accounts g).state ≡ true → BelowOut (BelowAllTso (central_with d accounts) g) ((central_with d accounts).row g) v)
  leaves_below_decided f v g apart = leaves_decided (account_at accounts g).is_joined (eqb g f) (is_regulator (account_at accounts g).state) (is_below_out accounts g v) _ _ (Decides-eqb g f) (below_out_decided g v apart)

  -- where each number leaves v, v is at most the bound
  pub bound_kept : AreKept accounts → (f v : ℕ) → ((g : ℕ) → 1 ≤ g → g < length accounts + 1 → leaves_below accounts f v g ≡ true) → v ≤ forever → BelowBound (central_with d accounts) f v
  bound_kept kept f v each cap = (cap, λ g joined apart regulates. (leaves_below_decided f v g (kept.apart g)).0 (all g joined) joined apart regulates)
    where
      nobody : (a : Account) → a ≡ no_account → a.is_joined ≡ true → ⊥
      nobody a is joined = let e = ap (λ (a : Account). a.is_joined) is in cc

      some : (g : ℕ) → (account_at accounts g).is_joined ≡ true → 1 ≤ g
      some zero joined = absurd (nobody no_account refl joined)
      some (suc k) joined = omega arith

      all : (g : ℕ) → (account_at accounts g).is_joined ≡ true → leaves_below accounts f v g ≡ true
      all g joined = ⊎_elim
          (λ (in' : g < length accounts + 1). each g (some g joined) in')
          (λ (past : length accounts + 1 ≤ g). absurd (nobody (account_at accounts g) (account_at-past accounts g (omega arith)) joined))
          (cases_lt g (length accounts + 1))

  -- where one does not, it is not
  pub bound_broken : AreKept accounts → (f v g : ℕ) → leaves_below accounts f v g ≡ false → BelowBound (central_with d accounts) f v → ⊥
  bound_broken kept f v g broken bound = let e = (leaves_below_decided f v g (kept.apart g)).1 (bound.1 g) in absurd (let t : true ≡ false = sym e ∙ broken in cc)

  -- the test is of the bound
  pub below_bound_decided : AreKept accounts → (f v : ℕ) → Decides (is_below_bound accounts f v) (BelowBound (central_with d accounts) f v)
  below_bound_decided kept f v =
      let n = length accounts + 1 in
      Decides-like (is_below_bound accounts f v)
      (λ h. bound_kept kept f v (λ g low high. h.0 g high) h.1)
      (λ bound. (λ g less. (leaves_below_decided f v g (kept.apart g)).1 (bound.1 g), bound.0))
      (Decides-and (all_leave accounts f v n) (leb v forever) (all_leave_decided accounts f v n) (Decides-leb v forever))

  pub reached_decided : AreKept accounts → (f : ℕ) (kind : AdvanceKind) (t : ℕ) → Decides (has_reached accounts f kind t) (Reached (central_with d accounts) f kind t)
  reached_decided kept f kind t = Decides-and (is_below_bound accounts f (reach kind t)) (is_below_all_tso accounts f (reach kind t)) (below_bound_decided kept f (reach kind t)) (below_all_tso_decided f (reach kind t) (kept.apart f))

-- one number more is visited
pub visited : (P : ℕ → Type 0) (n : ℕ) → ((g : ℕ) → 1 ≤ g → g < n → P g) → P n → (g : ℕ) → 1 ≤ g → g < n + 1 → P g
visited P n before here g low high = ⊎_elim (λ (less : g < n). before g low less) (λ (past : n ≤ g). let same : n ≡ g = omega arith in subst P same here) (cases_lt g n)
