-- What tests of a step tell, by how it ended
use Rattle.std.proofs.Common.{◌≡◌, ℕ, List, length, cond, Bool, true, false, Option, Some, None, Result, Ok, Err, IfOk, refl, sym, ap, ◌∙◌, subst}
use Rattle.std.specs.Bool.{Decides}
use mathlib.Core.Bool.{false≢true}
use Rattle.hla_base.specs.declared.fault.Fault.{Fault}
use Rattle.hla_machine.specs.declared.service.Service.{Service}
use Rattle.hla_machine.specs.declared.step.Step.{Step}
use Rattle.hla_machine.specs.declared.step.Step.TheVariants.{Join, Call, Carry, Announce, Tick}
use Rattle.hla_machine.specs.declared.step.Answer.{Answer}
use Rattle.hla_machine.specs.declared.step.Answer.TheVariants as answer
use Rattle.hla_machine.specs.declared.step.Outcome.{Outcome}
use Rattle.hla_machine.specs.declared.step.Outcome.TheVariants as outcome
use Rattle.hla_machine.specs.declared.step.Choice.{Choice}
use Rattle.hla_machine.specs.declared.step.Choice.TheVariants as choice
use Rattle.hla_machine.specs.Central.{Central}
use Rattle.hla_synchronization.specs.declared.open_points.OpenPoint.{OpenPoint}
use Rattle.hla_synchronization.specs.Points.{Point}
use Rattle.hla_synchronization.specs.OpenPoints.{points_of}
use Rattle.hla_machine.specs.Directory.{Directory}
use Rattle.hla_machine.specs.Refusals.{refusal}
use Rattle.hla_machine.specs.Machine.{Allowed, IsChoice, MayDo, MayAnnounce, after, central_seen}
use Rattle.hla_verdicts.specs.declared.verdict.Verdict.{Verdict}
use Rattle.hla_verdicts.specs.declared.verdict.Verdict.TheVariants as verdict
use Rattle.hla_verdicts.specs.Verdicts.{Judged}
use Rattle.hla_verdicts.specs.Answers.{announced_in}
use Rattle.hla_accounts.specs.declared.account.Account.{Account}
use Rattle.hla_verdicts.specs.Accounted.{JudgedAmong, JudgedWith}
use Rattle.hla_verdicts.specs.Kept.{KeptValue, IsConsistent, JudgedStep, directory_of}

-- what a test tells of a step, where the second state is kept after it
abbrev pub JudgedCentral : Central → Step → Outcome → Choice → Central → Verdict → Type 0
JudgedCentral c step out o d v = Judged (Allowed c step out o) (d ≡ after c step out o) v

-- where the open points are as they were
pub among : (d : Directory) (accounts : List Account) (points : List Point) (step : Step) (out : Outcome) (o : Choice) (v : Verdict) → d.points ≡ points → JudgedWith d accounts step out o accounts v → JudgedAmong d accounts step out o points accounts v
among d accounts points step out o v at judged = subst (λ (ps : List Point). JudgedAmong d accounts step out o ps accounts v) at judged

-- ---- refused
refused_plain : (step : Step) (e : Fault) (o : Choice) → Decides true (IsChoice step (outcome.Refused e) o) → IsChoice step (outcome.Refused e) o
refused_plain step e o is = is.0 refl

refused_choice : (step : Step) (e : Fault) (o : Choice) → (o ≡ choice.None → IsChoice step (outcome.Refused e) o) × (IsChoice step (outcome.Refused e) o → o ≡ choice.None)
refused_choice (Join name) e o = (λ p. p, λ p. p)
refused_choice (Call f service) e o = (λ p. p, λ p. p)
refused_choice (Carry g f) e o = (λ p. p, λ p. p)
refused_choice (Announce f) e o = (λ p. p, λ p. p)
refused_choice (Tick f) e o = (λ p. p, λ p. p)

refused_by : (c : Central) (step : Step) (found : Option Fault) (e : Fault) (o : Choice) (same : Bool) → found ≡ refusal (central_seen c) step → Decides same (found ≡ Some e) → o ≡ choice.None
    → JudgedCentral c step (outcome.Refused e) o c (cond same verdict.Allowed verdict.Wrong)
refused_by c step found e o true is tests plain = ((sym is ∙ tests.0 refl, (refused_choice step e o).0 plain), refl)
refused_by c step found e o false is tests plain = λ allowed. false≢true (tests.1 (is ∙ allowed.0))

pub refused_told : (c : Central) (step : Step) (found : Option Fault) (e : Fault) (out : Outcome) (o : Choice) (same : Bool) (v : Verdict) → found ≡ refusal (central_seen c) step → out ≡ outcome.Refused e → Decides same (found ≡ Some e)
    → o ≡ choice.None → v ≡ cond same verdict.Allowed verdict.Wrong → JudgedCentral c step out o c v
refused_told c step found e out o same v is ended tests plain told =
    subst (λ (w : Verdict). JudgedCentral c step out o c w) (sym told)
    (subst (λ (t : Outcome). JudgedCentral c step t o c (cond same verdict.Allowed verdict.Wrong)) (sym ended) (refused_by c step found e o same is tests plain))

-- ---- done, although it was to be refused
pub done_wrong : (c d : Central) (step : Step) (found : Option Fault) (e : Fault) (out : Outcome) (a : Answer) (o : Choice) → found ≡ refusal (central_seen c) step → found ≡ Some e → out ≡ outcome.Done a → JudgedCentral c step out o d verdict.Wrong
done_wrong c d step found e out a o is some ended =
    subst (λ (t : Outcome). JudgedCentral c step t o d verdict.Wrong) (sym ended) (λ allowed. apart (sym some ∙ is ∙ allowed.0.0))
  where
    apart : Some e ≡ None → ⊥
    apart eq = cc

-- ---- an announcement
announced : (c : Central) (f : ℕ) (a : Answer) (o : Choice) (x : Option (Option ℕ)) → announced_in a ≡ x → MayDo c (Announce f) a o → (p : Option ℕ) × (x ≡ Some p) × MayAnnounce c f p
announced c f (answer.Announced p) o x is may = (p, sym is, may)
announced c f a o x is may = absurd may

announces : (c : Central) (f : ℕ) (a : Answer) (o : Choice) (p : Option ℕ) → announced_in a ≡ Some p → MayAnnounce c f p → MayDo c (Announce f) a o
announces c f (answer.Announced q) o p is may = let same : q ≡ p = cc in subst (λ (x : Option ℕ). MayAnnounce c f x) (sym same) may
announces c f a o p is may = cc

pub announcement_so : (c : Central) (f : ℕ) (a : Answer) (o : Choice) (p : Option ℕ) (b : Bool) → announced_in a ≡ Some p → Decides b (MayAnnounce c f p) → Decides b (MayDo c (Announce f) a o)
announcement_so c f a o p b is tests = (
  λ e. announces c f a o p is (tests.0 e),
  λ may. (let there = announced c f a o (Some p) is may in let e = there.1 in let same : p ≡ there.0 = cc in tests.1 (subst (λ (x : Option ℕ). MayAnnounce c f x) (sym same) there.2)),
)

pub announcement_else : (c : Central) (f : ℕ) (a : Answer) (o : Choice) → announced_in a ≡ None → Decides false (MayDo c (Announce f) a o)
announcement_else c f a o is = (λ e. absurd (false≢true e), λ may. (let there = announced c f a o None is may in let e = there.1 in cc))

announcement_done : (c : Central) (f : ℕ) (a : Answer) (o : Choice) (may : Bool) → refusal (central_seen c) (Announce f) ≡ None → Decides may (MayDo c (Announce f) a choice.None) → o ≡ choice.None
    → JudgedCentral c (Announce f) (outcome.Done a) o c (cond may verdict.Allowed verdict.Wrong)
announcement_done c f a o true none tests plain = (((none, subst (λ (x : Choice). MayDo c (Announce f) a x) (sym plain) (tests.0 refl)), plain), refl)
announcement_done c f a o false none tests plain = λ allowed. false≢true (tests.1 (subst (λ (x : Choice). MayDo c (Announce f) a x) plain allowed.0.1))

pub announcement_told : (c : Central) (f : ℕ) (found : Option Fault) (a : Answer) (out : Outcome) (o : Choice) (may : Bool) (v : Verdict) → found ≡ refusal (central_seen c) (Announce f) → found ≡ None → out ≡ outcome.Done a
    → Decides may (MayDo c (Announce f) a choice.None) → o ≡ choice.None → v ≡ cond may verdict.Allowed verdict.Wrong → JudgedCentral c (Announce f) out o c v
announcement_told c f found a out o may v is none ended tests plain told =
    subst (λ (w : Verdict). JudgedCentral c (Announce f) out o c w) (sym told)
    (subst (λ (t : Outcome). JudgedCentral c (Announce f) t o c (cond may verdict.Allowed verdict.Wrong)) (sym ended) (announcement_done c f a o may (sym is ∙ none) tests plain))

-- ---- a step that changes nothing, as accounts judge it
pub kept_unchanged : (v w : KeptValue) (step given : Step) (out : Outcome) (o : Choice) (told : Verdict) → v ≡ w → given ≡ step → IsConsistent w → JudgedWith (directory_of v) v.accounts step out o v.accounts told → JudgedStep w given out o w told
kept_unchanged v w step given out o told same is kept judged =
    subst (λ (s : Step). JudgedStep w s out o w told) (sym is)
    (subst (λ (x : KeptValue). IsConsistent x → JudgedStep x step out o x told) same (λ k. by v told k judged) kept)
  where
    by : (x : KeptValue) (u : Verdict) → IsConsistent x → JudgedWith (directory_of x) x.accounts step out o x.accounts u → JudgedStep x step out o x u
    by x verdict.Allowed k j = (j.0, (j.1, k))
    by x verdict.Wrong k j = j

-- ---- a step that changes accounts alone
pub kept_changed : (v w : KeptValue) (accounts : List Account) (step given : Step) (out : Outcome) (o : Choice) (told : Verdict) → v ≡ w → given ≡ step → IsConsistent w → JudgedWith (directory_of v) v.accounts step out o accounts told
    → (told ≡ verdict.Allowed → length accounts ≡ length v.accounts) → JudgedStep w given out o (record v { accounts = accounts }) told
kept_changed v w accounts step given out o told same is kept judged size =
    subst (λ (s : Step). JudgedStep w s out o (record v { accounts = accounts }) told) (sym is)
    (subst (λ (x : KeptValue). IsConsistent x → JudgedStep x step out o (record v { accounts = accounts }) told) same (λ k. by told judged size k) kept)
  where
    by : (u : Verdict) → JudgedWith (directory_of v) v.accounts step out o accounts u → (u ≡ verdict.Allowed → length accounts ≡ length v.accounts) → IsConsistent v → JudgedStep v step out o (record v { accounts = accounts }) u
    by verdict.Allowed j long k = (j.0, (j.1, record { federates = k.federates ∙ sym (long refl); object_classes = k.object_classes; interaction_classes = k.interaction_classes }))
    by verdict.Wrong j long k = j

-- ---- a step that changes accounts and points
pub kept_among : (v w : KeptValue) (accounts : List Account) (points : List OpenPoint) (step given : Step) (out : Outcome) (o : Choice) (told : Verdict) → v ≡ w → given ≡ step → IsConsistent w
    → JudgedAmong (directory_of v) v.accounts step out o (points_of points) accounts told → length accounts ≡ length v.accounts → JudgedStep w given out o (record v { accounts = accounts; points = points }) told
kept_among v w accounts points step given out o told same is kept judged size =
    subst (λ (s : Step). JudgedStep w s out o (record v { accounts = accounts; points = points }) told) (sym is)
    (subst (λ (x : KeptValue). IsConsistent x → JudgedStep x step out o (record v { accounts = accounts; points = points }) told) same (λ k. by told judged k) kept)
  where
    by : (u : Verdict) → JudgedAmong (directory_of v) v.accounts step out o (points_of points) accounts u → IsConsistent v → JudgedStep v step out o (record v { accounts = accounts; points = points }) u
    by verdict.Allowed j k = (j.0, (j.1, record { federates = k.federates ∙ sym size; object_classes = k.object_classes; interaction_classes = k.interaction_classes }))
    by verdict.Wrong j k = j

pub step_as : (v w : KeptValue) (step given : Step) (out : Outcome) (o : Choice) (told : Verdict) → given ≡ step → JudgedStep v step out o w told → JudgedStep v given out o w told
step_as v w step given out o told is judged = subst (λ (s : Step). JudgedStep v s out o w told) (sym is) judged

-- ---- calls, as the test of their service ends
pub called_as : (v w : KeptValue) (f : ℕ) (x given : Service) (out : Outcome) (o : Choice) (told : Result Verdict Fault) → given ≡ x → IfOk told (JudgedStep v (Call f x) out o w) → IfOk told (JudgedStep v (Call f given) out o w)
called_as v w f x given out o (Ok told) is judged = step_as v w (Call f x) (Call f given) out o told (ap (λ (s : Service). Call f s) is) judged
called_as v w f x given out o (Err e) is judged = judged

-- one that changes accounts alone
pub called_changed : (v w : KeptValue) (accounts : List Account) (f : ℕ) (x : Service) (out : Outcome) (o : Choice) (told : Result Verdict Fault) → v ≡ w → IsConsistent w
    → IfOk told (λ u. (d : Directory) → JudgedWith d v.accounts (Call f x) out o accounts u) → IfOk told (λ u. length accounts ≡ length v.accounts) → IfOk told (JudgedStep w (Call f x) out o (record v { accounts = accounts }))
called_changed v w accounts f x out o (Ok told) same is judged size = kept_changed v w accounts (Call f x) (Call f x) out o told same refl is (judged (directory_of v)) (λ _. size)
called_changed v w accounts f x out o (Err e) same is judged size = judged
