-- The history up to a caller's last act, and what the ambassador has heard that comes out with a resignation
use Rattle.std.proofs.Common.{◌≡◌, ◌++◌, ◌∷◌, ℕ, ◌+◌, ◌≤◌, Bool, true, false, cond, List, [], Option, Some, None, IfSome, refl, sym, ap, ◌∙◌, subst, ◌⊎◌, inl, inr, below_more}
use Rattle.std.specs.Prelude.{Result, Ok, Err, IfErr, OnOk, slice_get}
use Rattle.std.specs.Str.{bytes_eq}
use mathlib.Core.List.{IsPrefix}
use Rattle.hla_callbacks.specs.declared.callback.Callback.{Callback}
use Rattle.hla_machine.specs.declared.service.ResignAction.{ResignAction}
use Rattle.hla_machine.specs.declared.service.Service.TheVariants as service
use Rattle.hla_machine.specs.declared.step.Choice.{Choice}
use Rattle.hla_machine.specs.declared.step.Outcome.{Outcome}
use Rattle.hla_machine.specs.declared.step.Record.{Record}
use Rattle.hla_machine.specs.declared.step.Step.TheVariants.{Call}
use Rattle.hla_history.specs.Closing.{Replays}
use Rattle.hla_history.specs.Creating.{heard_from}
use Rattle.hla_history.specs.Heard.{heard_by}
use Rattle.hla_history.specs.Hosts.{Host, Hosts, Held, IsLockKept, with_record}
use Rattle.hla_history.specs.Writing.{step_record}
use Rattle.hla_history.proofs.Records.{heard_by-more}
use Rattle.hla_callers.specs.declared.closing.CloseFault.{CloseFault}
use Rattle.hla_callers.specs.declared.closing.CloseFault.TheVariants as close_fault
use Rattle.hla_callers.specs.Callers.{Caller, Leaver, IsKnownBehind}
use Rattle.hla_callers.specs.Close.{IsKnownUntil, IsUnknownAt, KnownBefore}

prefix_trans : {A : Type 0} (xs ys zs : List A) → IsPrefix xs ys → IsPrefix ys zs → IsPrefix xs zs
prefix_trans [] ys zs p q = (zs, refl)
prefix_trans (x ∷ xs) [] zs p q = absurd (cc (p.1))
prefix_trans (x ∷ xs) (y ∷ ys) [] p q = absurd (cc (q.1))
prefix_trans (x ∷ xs) (y ∷ ys) (z ∷ zs) p q =
    let rest = prefix_trans xs ys zs (p.0, cc (p.1)) (q.0, cc (q.1)) in (rest.0, cc (p.1, q.1, rest.1))

-- what begins a beginning of a history begins the history
pub known_longer : (xs ys : List Record) (c : Caller) → IsKnownUntil xs c → IsPrefix xs ys → IsKnownUntil ys c
known_longer xs ys c known p before r last =
    let (h, told, begins) = known before r last in (h, told, prefix_trans h xs ys begins p)

same_cond : {X : Type 0} (b : Bool) (x : X) → cond b x x ≡ x
same_cond true x = refl
same_cond false x = refl

-- a resignation gives nothing to hear
pub heard_resigned : (name : List ℕ) (f : ℕ) (rs : List Record) (actor : ℕ) (execution : List ℕ) (g : ℕ) (way : ResignAction) (out : Outcome) (chosen : Choice)
    → heard_by name f (rs ++ step_record actor execution (Call g (service.Resign way)) out chosen ∷ []) ≡ heard_by name f rs
heard_resigned name f rs actor execution g way out chosen =
    heard_by-more name f rs (step_record actor execution (Call g (service.Resign way)) out chosen) ∙ same_cond (bytes_eq execution name) (heard_by name f rs)

hears_all : (history : List Record) (hosts : Hosts) (n : ℕ) → IsLockKept history hosts n → (execution : List ℕ) (f : ℕ) (ks : List Callback) (o : Option Host)
    → hosts.host execution ≡ o → heard_from o f ≡ Some ks → ks ≡ heard_by execution f history
hears_all history hosts n kept execution f ks None is heard = absurd (cc (heard))
hears_all history hosts n kept execution f ks (Some h) is heard = kept.hears execution h is f ks heard

-- the ambassador of a federate has heard what the history says
pub hears_by : (history : List Record) (hosts : Hosts) (n : ℕ) → IsLockKept history hosts n → (execution : List ℕ) (f : ℕ) (ks : List Callback)
    → heard_from (hosts.host execution) f ≡ Some ks → ks ≡ heard_by execution f history
hears_by history hosts n kept execution f ks heard = hears_all history hosts n kept execution f ks (hosts.host execution) refl heard

-- and that is so of the history with the resignation, by which it comes out
pub told_resigned : {B : Type 0} (heard : B → List Callback) (back : Option B) (old new : Held) (n actor : ℕ) (execution : List ℕ) (f : ℕ) (way : ResignAction) (out : Outcome) (chosen : Choice) (own : Record)
    → IsLockKept old.history old.hosts n → own ≡ step_record actor execution (Call f (service.Resign way)) out chosen → new ≡ with_record old own
    → IfSome back (λ b. heard_from (old.hosts.host execution) f ≡ Some (heard b)) → IfSome back (λ b. heard b ≡ heard_by execution f new.history)
told_resigned heard None old new n actor execution f way out chosen own kept is after hears = tt
told_resigned heard (Some b) old new n actor execution f way out chosen own kept is after hears =
    hears_by old.history old.hosts n kept execution f (heard b) hears
    ∙ sym (ap (λ (v : Held). heard_by execution f v.history) after ∙ ap (λ (r : Record). heard_by execution f (old.history ++ r ∷ [])) is
    ∙ heard_resigned execution f old.history actor execution f way out chosen)

-- a list is empty, or has a last element
pub empty_or_last : {A : Type 0} (xs : List A) → (xs ≡ []) ⊎ ((before : List A) × (x : A) × (xs ≡ before ++ x ∷ []))
empty_or_last [] = inl refl
empty_or_last (x ∷ xs) = elim (empty_or_last xs) [
  | inl none ↦ inr ([], x, ap (λ (ys : List _). x ∷ ys) none)
  | inr some ↦ (let (before, y, is) = some in inr (x ∷ before, y, ap (λ (ys : List _). x ∷ ys) is))
]

no_last : {A : Type 0} (before : List A) (x : A) → [] ≡ before ++ x ∷ [] → ⊥
no_last [] x is = cc
no_last (y ∷ before) x is = cc

-- of one who has done nothing there is nothing to know
pub nothing_known : (shown : List Record) (c : Caller) → c.transcript ≡ [] → IsKnownUntil shown c
nothing_known shown c none before r is = absurd (no_last before r (sym none ∙ is))

-- of one who has done something the history up to there is known, if it is known
pub last_known : (shown : List Record) (c : Caller) → (c.transcript ≡ [] → ⊥) → IsKnownUntil shown c → (h : List Record) × (c.until ≡ Some h) × IsPrefix h shown
last_known shown c some known = elim (empty_or_last c.transcript) [
  | inl none ↦ absurd (some none)
  | inr last ↦ (let (before, r, ends) = last in known before r ends)
]

pub when_ok : {T E : Type 0} {P : Type 0} (result : Result T E) → P → OnOk result P
when_ok (Ok x) p = p
when_ok (Err e) p = tt

-- what holds of an error holds of one that tells of a transcript
pub when_differs : {T E : Type 0} {P : Type 0} (fault_of : E → CloseFault) (result : Result T E) → P → IfErr result (λ e. (k : ℕ) → fault_of e ≡ close_fault.Transcript k → P)
when_differs fault_of (Ok x) p = tt
when_differs fault_of (Err e) p = λ k is. p

-- where a transcript differs, it is the one at that place
pub differs_at : {T E : Type 0} (fault_of : E → CloseFault) (P : ℕ → Type 0) (result : Result T E)
    → IfErr result (λ e. (k : ℕ) × (fault_of e ≡ close_fault.Transcript k) × P k) → IfErr result (λ e. (k : ℕ) → fault_of e ≡ close_fault.Transcript k → P k)
differs_at fault_of P (Ok x) differs = tt
differs_at fault_of P (Err e) differs = λ k is. (let (other, was, p) = differs in (let same : other ≡ k = cc (was, is) in subst P same p))

-- the history that is known behind an act is one that replays
pub known_replays : (before until : Option (List Record)) (own : Record) → IfSome until (IsKnownBehind before own) → IfSome until Replays
known_replays before None own known = tt
known_replays before (Some h) own known = known.0

-- and what is so of each history that replays is so of it
pub told_of : (until : Option (List Record)) (P : List Record → Type 0) → ((h : List Record) → Replays h → P h) → IfSome until Replays → IfSome until P
told_of None P holds replays = tt
told_of (Some h) P holds replays = holds h replays

-- ---- of which callers it is known
pub unknown_at : (shown : List Record) (lefts : List Leaver) (own : Caller) (k : ℕ) (l : Leaver) → slice_get lefts k ≡ Some l → (IsKnownUntil shown l.caller → ⊥) → IsUnknownAt shown lefts own k
unknown_at shown lefts own k l at unknown = inl (l, at, unknown)

pub known_next : (history : List Record) (lefts : List Leaver) (k : ℕ) (l : Leaver) → slice_get lefts k ≡ Some l → KnownBefore history lefts k → IsKnownUntil history l.caller → KnownBefore history lefts (k + 1)
known_next history lefts k l at before known j m low found =
    below_more (λ (i : ℕ). (n : Leaver) → slice_get lefts i ≡ Some n → IsKnownUntil history n.caller) k (λ i small n there. before i n small there)
    (λ n there. let same : Some l ≡ Some n = sym at ∙ there in let here : l ≡ n = cc same in subst (λ (x : Leaver). IsKnownUntil history x.caller) here known) j low m found

pub first_at : (place : ℕ) (P : ℕ → Type 0) → P place → (k : ℕ) → close_fault.Untold place ≡ close_fault.Untold k → P k
first_at place P found k is = let same : place ≡ k = cc is in subst P same found

-- a place that is refused
pub untold_at : (place bound : ℕ) (P : ℕ → Type 0) → (place ≤ bound) × P place → (k : ℕ) → close_fault.Untold place ≡ close_fault.Untold k → (k ≤ bound) × P k
untold_at place bound P found k is = let same : place ≡ k = cc is in subst (λ (n : ℕ). (n ≤ bound) × P n) same found
