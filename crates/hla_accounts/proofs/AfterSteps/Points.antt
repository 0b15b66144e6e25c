-- The accounts and the open points after a point is registered or achieved, and where points close
use Rattle.std.proofs.Common.{◌≡◌, ℕ, zero, suc, ◌+◌, ◌-◌, ◌<◌, ◌≤◌, cond, ◌&&◌, Bool, true, false, List, [], ◌∷◌, ◌++◌, filter, map, drop, length, refl, sym, ap, ◌∙◌, ⊎_elim, append_assoc, arith}
use Rattle.std.proofs.lemmas.List.{append-nil}
use Rattle.std.proofs.lemmas.List.Elements.{filter-append}
use Rattle.std.proofs.Math.Path.{fun_ext}
use Rattle.hla_base.specs.declared.notice.Notice.{Notice}
use mathlib.Core.Bool.{false≢true}
use Rattle.std.specs.Bool.{Decides}
use Rattle.hla_base.specs.declared.notice.NoticeKind.{NoticeKind}
use Rattle.hla_base.specs.declared.notice.NoticeKind.TheVariants as kind
use Rattle.hla_base.specs.FederateSets.{federate_set}
use Rattle.hla_base.specs.Limits.{max_joins}
use Rattle.hla_base.specs.Tables.{numbers_below, upd}
use Rattle.hla_synchronization.specs.Points.{Point, closing, left_open, closing_of, notice, is_open, new_point, with_point, announced_to, points_after_notice}
use Rattle.hla_synchronization.specs.OpenPoints.{members_in}
use Rattle.hla_machine.specs.Directory.{Directory, with_points, joined_federates}
use Rattle.hla_machine.specs.Central.{Central}
use Rattle.hla_machine.specs.Callbacks.{after_notice}
use Rattle.hla_machine.specs.Machine.{with_told, with_points_closed, with_central_directory, after_register_point}
use Rattle.hla_accounts.specs.declared.account.Account.{Account}
use Rattle.hla_accounts.specs.Accounts.{account_at, central_with}
use Rattle.hla_accounts.specs.Notices.{told_alone, told_to_all, told_each_to_all}
use Rattle.hla_accounts.proofs.AfterSteps.Accounts.{account_at-past}

-- ---- who is joined
-- members that are all below n are among the numbers below any more than n
filtered_below : (members : ℕ → Bool) (n k : ℕ) → ((f : ℕ) → n ≤ f → members f ≡ false) → filter members (numbers_below (n + k)) ≡ filter members (numbers_below n)
unfolding numbers_below
filtered_below members n zero none = let same : n + 0 ≡ n = omega arith in ap (λ m. filter members (numbers_below m)) same
filtered_below members n (suc k) none =
    let next : n + suc k ≡ suc (n + k) = omega arith in
    let out : members (n + k) ≡ false = none (n + k) (omega arith) in
    ap (λ m. filter members (numbers_below m)) next
    ∙ filter-append members (numbers_below (n + k)) ((n + k) ∷ [])
    ∙ ap (λ b. filter members (numbers_below (n + k)) ++ cond b ((n + k) ∷ []) []) out
    ∙ append-nil (filter members (numbers_below (n + k)))
    ∙ filtered_below members n k none

pub members_joined : (d : Directory) (accounts : List Account) (set : ℕ) → length accounts ≤ max_joins → federate_set set ≡ (λ f. (account_at accounts f).is_joined) → members_in set ≡ joined_federates (central_with d accounts).directory
members_joined d accounts set few is =
    let n = length accounts + 1 in
    let k = max_joins + 1 - n in
    let all : max_joins + 1 ≡ n + k = omega arith in
    ap (λ (members : ℕ → Bool). filter members (numbers_below (max_joins + 1))) is
    ∙ ap (λ m. filter (λ f. (account_at accounts f).is_joined) (numbers_below m)) all
    ∙ filtered_below (λ f. (account_at accounts f).is_joined) n k (λ f past. ap (λ (a : Account). a.is_joined) (account_at-past accounts f (omega (arith, past))))

-- ---- what is told
pub each_told_none : (c : Central) → c ≡ with_told c (told_each_to_all c.directory [])
each_told_none c = ap (λ (t : ℕ → List Notice). record c { notices = t }) (fun_ext (λ g. sym (by (c.directory.joined g) (c.notices g))))
  where
    by : (b : Bool) (ns : List Notice) → ns ++ cond b [] [] ≡ ns
    by true ns = append-nil ns
    by false ns = append-nil ns

pub each_told_more : (c : Central) (ns : List Notice) (n : Notice) → with_told (with_told c (told_each_to_all c.directory ns)) (told_to_all c.directory n) ≡ with_told c (told_each_to_all c.directory (ns ++ n ∷ []))
each_told_more c ns n = ap (λ (t : ℕ → List Notice). record c { notices = t }) (fun_ext (λ g. by (c.directory.joined g) (c.notices g)))
  where
    by : (b : Bool) (ms : List Notice) → (ms ++ cond b ns []) ++ cond b (n ∷ []) [] ≡ ms ++ cond b (ns ++ n ∷ []) []
    by true ms = append_assoc ms ns (n ∷ [])
    by false ms = append-nil (ms ++ [])

-- one after another
pub told_twice : (c : Central) (p q : ℕ → List Notice) → with_told (with_told c p) q ≡ with_told c (λ g. p g ++ q g)
told_twice c p q = ap (λ (t : ℕ → List Notice). record c { notices = t }) (fun_ext (λ g. append_assoc (c.notices g) (p g) (q g)))

-- ---- where points close
pub closed_as : (d : Directory) (old new : List Account) (members : List ℕ) (ns : List Notice) (left : List Point) → members ≡ joined_federates (central_with d old).directory → ns ≡ map closing_of (closing members d.points) → left ≡ left_open members d.points
    → central_with (with_points d left) new ≡ with_told (central_with (with_points d left) old) (told_each_to_all (central_with (with_points d left) old).directory ns)
    → central_with (with_points d left) new ≡ with_points_closed (central_with d old)
closed_as d old new members ns left is told stays given =
    given
    ∙ ap (λ (ps : List Point). with_told (central_with (with_points d ps) old) (told_each_to_all (central_with d old).directory ns)) (stays ∙ ap (λ ms. left_open ms d.points) is)
    ∙ ap (λ (xs : List Notice). with_told (central_with (with_points d (left_open (joined_federates (central_with d old).directory) d.points)) old) (told_each_to_all (central_with d old).directory xs)) (told ∙ ap (λ ms. map closing_of (closing ms d.points)) is)

-- ---- registering
-- the state after it, by whether a point of the label was open
abbrev registered : Central → ℕ → List ℕ → Bool → Central
registered c f label there = with_told (with_central_directory c (with_points c.directory (cond there c.directory.points (c.directory.points ++ new_point label ∷ []))))
    (λ g. cond there (told_alone f (notice kind.RegistrationFailed label) g) (told_alone f (notice kind.RegistrationSucceeded label) g ++ told_to_all c.directory (notice kind.Announced label) g))

module _ (d : Directory) (old new : List Account) (f : ℕ) (label : List ℕ) where
  pub refused_as : (own : List ℕ) → own ≡ label → is_open label d.points ≡ true → central_with d new ≡ with_told (central_with d old) (told_alone f (notice kind.RegistrationFailed own))
      → central_with d new ≡ after_register_point (central_with d old) f label
  refused_as own same there given =
      given ∙ ap (λ (l : List ℕ). with_told (central_with d old) (told_alone f (notice kind.RegistrationFailed l))) same
      ∙ ap (registered (central_with d old) f label) (sym there)

  pub opened_as : (own : List ℕ) (points : List Point) → own ≡ label → is_open label d.points ≡ false → points ≡ d.points ++ new_point own ∷ []
      → central_with (with_points d points) new ≡ with_told (central_with (with_points d points) old) (λ g. told_alone f (notice kind.RegistrationSucceeded own) g ++ told_to_all (central_with (with_points d points) old).directory (notice kind.Announced own) g)
      → central_with (with_points d points) new ≡ after_register_point (central_with d old) f label
  opened_as own points same none opens given =
      given
      ∙ ap (λ (ps : List Point). with_told (central_with (with_points d ps) old) (λ g. told_alone f (notice kind.RegistrationSucceeded own) g ++ told_to_all (central_with d old).directory (notice kind.Announced own) g)) opens
      ∙ ap (λ (l : List ℕ). registered (central_with d old) f l false) same
      ∙ ap (registered (central_with d old) f label) (sym none)

  -- the caller alone, and then all
  pub opening_told : (mid : List Account) (own shared : List ℕ) → own ≡ label → shared ≡ label → central_with d mid ≡ with_told (central_with d old) (told_alone f (notice kind.RegistrationSucceeded own))
      → central_with d new ≡ with_told (central_with d mid) (told_to_all (central_with d mid).directory (notice kind.Announced shared))
      → central_with d new ≡ with_told (central_with d old) (λ g. told_alone f (notice kind.RegistrationSucceeded label) g ++ told_to_all (central_with d old).directory (notice kind.Announced label) g)
  opening_told mid own shared first second alone all =
      all
      ∙ ap (λ (c : Central). with_told c (told_to_all c.directory (notice kind.Announced shared))) alone
      ∙ told_twice (central_with d old) (told_alone f (notice kind.RegistrationSucceeded own)) (told_to_all (central_with d old).directory (notice kind.Announced shared))
      ∙ ap (λ (l : List ℕ). with_told (central_with d old) (λ g. told_alone f (notice kind.RegistrationSucceeded l) g ++ told_to_all (central_with d old).directory (notice kind.Announced shared) g)) first
      ∙ ap (λ (l : List ℕ). with_told (central_with d old) (λ g. told_alone f (notice kind.RegistrationSucceeded label) g ++ told_to_all (central_with d old).directory (notice kind.Announced l) g)) second

-- ---- what was told
pub heard_points : (f : ℕ) (n : Notice) (b : Bool) (points new : List Point) → Decides b (n.kind ≡ kind.Announced) → (b ≡ true → new ≡ with_point (announced_to f) n.label points) → (b ≡ false → new ≡ points) → new ≡ points_after_notice f n points
heard_points f n b points new tests told kept = by n.kind b tests told kept
  where
    by : (k : NoticeKind) (b : Bool) → Decides b (k ≡ kind.Announced) → (b ≡ true → new ≡ with_point (announced_to f) n.label points) → (b ≡ false → new ≡ points) → new ≡ points_after_notice f (notice k n.label) points
    by kind.Announced true tests told kept = told refl
    by kind.Announced false tests told kept = absurd (false≢true (tests.1 refl))
    by kind.RegistrationSucceeded true tests told kept = let e = tests.0 refl in absurd (cc)
    by kind.RegistrationSucceeded false tests told kept = kept refl
    by kind.RegistrationFailed true tests told kept = let e = tests.0 refl in absurd (cc)
    by kind.RegistrationFailed false tests told kept = kept refl
    by kind.Synchronized true tests told kept = let e = tests.0 refl in absurd (cc)
    by kind.Synchronized false tests told kept = kept refl

pub heard_as : (d : Directory) (old new : List Account) (f : ℕ) (n : Notice) (points : List Point) → points ≡ points_after_notice f n d.points
    → central_with (with_points d points) new ≡ record (central_with (with_points d points) old) { notices = upd (central_with (with_points d points) old).notices f (drop 1 ((central_with (with_points d points) old).notices f)) }
    → central_with (with_points d points) new ≡ after_notice (central_with d old) f n
heard_as d old new f n points is given =
    given ∙ ap (λ (ps : List Point). record (central_with (with_points d ps) old) { notices = upd (central_with d old).notices f (drop 1 ((central_with d old).notices f)) }) is
