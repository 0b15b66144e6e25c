-- What tests of a tick tell
use Rattle.std.proofs.Common.{◌≡◌, ℕ, ◌≤◌, cond, not, ◌&&◌, arith, Bool, true, false, Option, Some, None, List, refl, sym, ◌∙◌, ap, subst}
use Rattle.std.specs.Bool.{Decides}
use Rattle.std.proofs.lemmas.Bool.{cond_both}
use mathlib.Core.Bool.{false≢true}
use Rattle.hla_base.specs.Limits.{max_time}
use Rattle.hla_base.specs.declared.fault.Fault.{Fault}
use Rattle.hla_base.specs.declared.fault.Fault.TheVariants as fault
use Rattle.hla_base.specs.Rows.{RowNumbers, grant_time, first_or, is_constrained, is_flush, is_next}
use Rattle.hla_callbacks.specs.declared.callback.Callback.{Callback}
use Rattle.hla_machine.specs.declared.step.Step.TheVariants.{Tick}
use Rattle.hla_machine.specs.declared.step.Answer.{Answer}
use Rattle.hla_machine.specs.declared.step.Answer.TheVariants as answer
use Rattle.hla_machine.specs.declared.step.Outcome.{Outcome}
use Rattle.hla_machine.specs.declared.step.Outcome.TheVariants as outcome
use Rattle.hla_machine.specs.declared.step.Choice.{Choice}
use Rattle.hla_machine.specs.declared.step.Choice.TheVariants as choice
use Rattle.hla_synchronization.specs.Points.{Point}
use Rattle.hla_machine.specs.Directory.{Directory, with_points}
use Rattle.hla_machine.specs.Central.{Central}
use Rattle.hla_machine.specs.Refusals.{refusal}
use Rattle.hla_machine.specs.Callbacks.{MayGrant, MayGrantAs, WhileAdvancing, IsInTurn, MayTickInVain}
use Rattle.hla_machine.specs.Machine.{IsChoice, MayDo, after_done, central_seen}
use Rattle.hla_accounts.specs.declared.account.Account.{Account}
use Rattle.hla_accounts.specs.Accounts.{central_with}
use Rattle.hla_verdicts.specs.declared.verdict.Verdict.{Verdict}
use Rattle.hla_verdicts.specs.declared.verdict.Verdict.TheVariants as verdict
use Rattle.hla_verdicts.specs.Verdicts.{Judged}
use Rattle.hla_verdicts.specs.Accounted.{JudgedPick, JudgedGiven}
use Rattle.hla_verdicts.proofs.Steps.Outcomes.{JudgedCentral}

-- a time that is granted is within the limits
pub granted_low : (c : Central) (f t : ℕ) → RowNumbers (c.row f) → WhileAdvancing (c.row f) (MayGrant c f t) → t ≤ max_time
granted_low c f t n h =
    let asked : h.0.asked ≤ max_time = n.asked h.0 h.1 in
    by (is_constrained (c.row f)) (is_flush h.0.kind) asked h.2
  where
    first : (o : Option ℕ) → ((p : ℕ) → o ≡ Some p → p ≤ h.0.asked) → first_or o h.0.asked ≤ h.0.asked
    first None each = omega arith
    first (Some p) each = each p refl

    by : (a b : Bool) → h.0.asked ≤ max_time → MayGrantAs a b c f h.0 t → t ≤ max_time
    by false b asked g = omega (arith, g)
    by true true asked g = let below : t ≤ h.0.asked = g.1 in omega arith
    by true false asked g =
        let below : grant_time (c.row f) h.0 ≤ h.0.asked = cond_both (is_next h.0.kind && is_constrained (c.row f)) (first_or (c.row f).first_pick h.0.asked) h.0.asked (λ x. x ≤ h.0.asked)
        (λ _. first (c.row f).first_pick (λ p is. n.first h.0 p h.1 is)) (λ _. omega arith) in
        let same : t ≡ grant_time (c.row f) h.0 = g.0 in
        omega arith

-- ---- by how it ended
ticked_by : (c d : Central) (f : ℕ) (a : Answer) (o : Choice) (v : Verdict) → refusal (central_seen c) (Tick f) ≡ None → Judged (MayDo c (Tick f) a o × IsChoice (Tick f) (outcome.Done a) o) (d ≡ after_done c (Tick f) a o) v
    → JudgedCentral c (Tick f) (outcome.Done a) o d v
ticked_by c d f a o verdict.Allowed none is = (((none, is.0.0), is.0.1), is.1)
ticked_by c d f a o verdict.Wrong none is = λ allowed. is (allowed.0.1, allowed.1)

pub ticked_told : (c d : Central) (f : ℕ) (found : Option Fault) (out : Outcome) (a : Answer) (o : Choice) (v : Verdict) → found ≡ refusal (central_seen c) (Tick f) → found ≡ None → out ≡ outcome.Done a
    → Judged (MayDo c (Tick f) a o × IsChoice (Tick f) (outcome.Done a) o) (d ≡ after_done c (Tick f) a o) v → JudgedCentral c (Tick f) out o d v
ticked_told c d f found out a o v is none ended judged = subst (λ (t : Outcome). JudgedCentral c (Tick f) t o d v) (sym ended) (ticked_by c d f a o v (sym is ∙ none) judged)

failed_by : (c d : Central) (f : ℕ) (k : Callback) (o : Choice) (v : Verdict) → refusal (central_seen c) (Tick f) ≡ None → JudgedGiven c f k o d v → JudgedCentral c (Tick f) (outcome.Failed k) o d v
failed_by c d f k o verdict.Allowed none is = (((none, is.0.0), is.0.1), is.1)
failed_by c d f k o verdict.Wrong none is = λ allowed. is (allowed.0.1, allowed.1)

pub failed_told : (c d : Central) (f : ℕ) (found : Option Fault) (out : Outcome) (k : Callback) (o : Choice) (v : Verdict) → found ≡ refusal (central_seen c) (Tick f) → found ≡ None → out ≡ outcome.Failed k → JudgedGiven c f k o d v → JudgedCentral c (Tick f) out o d v
failed_told c d f found out k o v is none ended judged = subst (λ (t : Outcome). JudgedCentral c (Tick f) t o d v) (sym ended) (failed_by c d f k o v (sym is ∙ none) judged)

pub failed_wrong : (c d : Central) (f : ℕ) (found : Option Fault) (e : Fault) (out : Outcome) (k : Callback) (o : Choice) → found ≡ refusal (central_seen c) (Tick f) → found ≡ Some e → out ≡ outcome.Failed k → JudgedCentral c (Tick f) out o d verdict.Wrong
failed_wrong c d f found e out k o is some ended = subst (λ (t : Outcome). JudgedCentral c (Tick f) t o d verdict.Wrong) (sym ended) (λ allowed. apart (sym some ∙ is ∙ allowed.0.0))
  where
    apart : Some e ≡ None → ⊥
    apart eq = cc

-- ---- by the callback
pub picked_as : (c d : Central) (f : ℕ) (k given : Callback) (o : Choice) (v : Verdict) → given ≡ k → JudgedPick c f k o d v → JudgedPick c f given o d v
picked_as c d f k given o v is judged = subst (λ (x : Callback). JudgedPick c f x o d v) (sym is) judged

-- it is in turn
pub in_turn : (c d : Central) (f : ℕ) (k : Callback) (o : Choice) (v : Verdict) → IsInTurn c f k → JudgedPick c f k o d v → JudgedGiven c f k o d v
in_turn c d f k o verdict.Allowed turn is = (((is.0.0, turn), is.0.1), is.1)
in_turn c d f k o verdict.Wrong turn is = λ may. is (may.0.0, may.1)

-- a tick that gives nothing
pub given_nothing : (c : Central) (f : ℕ) (a : Answer) (told : Option Callback) (o : Choice) (b : Bool) (v : Verdict) → a ≡ answer.Ticked told → told ≡ None → Decides b (MayTickInVain c f × (o ≡ choice.None)) → v ≡ cond b verdict.Allowed verdict.Wrong
    → Judged (MayDo c (Tick f) a o × IsChoice (Tick f) (outcome.Done a) o) (c ≡ after_done c (Tick f) a o) v
given_nothing c f a told o b v is none tests value =
    subst (λ (x : Answer). Judged (MayDo c (Tick f) x o × IsChoice (Tick f) (outcome.Done x) o) (c ≡ after_done c (Tick f) x o) v) (sym (is ∙ ap answer.Ticked none))
    (subst (λ (w : Verdict). Judged (MayDo c (Tick f) (answer.Ticked None) o × IsChoice (Tick f) (outcome.Done (answer.Ticked None)) o) (c ≡ after_done c (Tick f) (answer.Ticked None) o) w) (sym value) (by b tests))
  where
    by : (t : Bool) → Decides t (MayTickInVain c f × (o ≡ choice.None)) → Judged (MayDo c (Tick f) (answer.Ticked None) o × IsChoice (Tick f) (outcome.Done (answer.Ticked None)) o) (c ≡ after_done c (Tick f) (answer.Ticked None) o) (cond t verdict.Allowed verdict.Wrong)
    by true p = (p.0 refl, refl)
    by false p = λ may. false≢true (p.1 may)

pub nothing_among : (d : Directory) (accounts : List Account) (points : List Point) (f : ℕ) (a : Answer) (told : Option Callback) (o : Choice) (b : Bool) (v : Verdict) → d.points ≡ points → a ≡ answer.Ticked told → told ≡ None → Decides b (MayTickInVain (central_with d accounts) f × (o ≡ choice.None)) → v ≡ cond b verdict.Allowed verdict.Wrong
    → Judged (MayDo (central_with d accounts) (Tick f) a o × IsChoice (Tick f) (outcome.Done a) o) (central_with (with_points d points) accounts ≡ after_done (central_with d accounts) (Tick f) a o) v
nothing_among d accounts points f a told o b v at is none tests value =
    subst (λ (ps : List Point). Judged (MayDo (central_with d accounts) (Tick f) a o × IsChoice (Tick f) (outcome.Done a) o) (central_with (with_points d ps) accounts ≡ after_done (central_with d accounts) (Tick f) a o) v) at
    (given_nothing (central_with d accounts) f a told o b v is none tests value)

pub given_one : (c d : Central) (f : ℕ) (a : Answer) (told : Option Callback) (k : Callback) (o : Choice) (v : Verdict) → a ≡ answer.Ticked told → told ≡ Some k → JudgedGiven c f k o d v
    → Judged (MayDo c (Tick f) a o × IsChoice (Tick f) (outcome.Done a) o) (d ≡ after_done c (Tick f) a o) v
given_one c d f a told k o v is some judged =
    subst (λ (x : Answer). Judged (MayDo c (Tick f) x o × IsChoice (Tick f) (outcome.Done x) o) (d ≡ after_done c (Tick f) x o) v) (sym (is ∙ ap answer.Ticked some)) judged

pub caller_room : (b : Bool) → cond (not b) (Some fault.FederateNotExecutionMember) None ≡ None → b ≡ true
caller_room true is = refl
caller_room false is = cc
