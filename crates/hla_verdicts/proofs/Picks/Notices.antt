-- What tests of what is told of synchronization points tell
use Rattle.std.proofs.Common.{◌≡◌, ℕ, List, Option, Some, None, subst}
use Rattle.hla_base.specs.declared.notice.Notice.{Notice}
use Rattle.hla_base.specs.declared.notice.NoticeKind.TheVariants as kind
use Rattle.hla_callbacks.specs.declared.callback.Callback.{Callback}
use Rattle.hla_callbacks.specs.declared.callback.Callback.TheVariants as callback
use Rattle.hla_synchronization.specs.Points.{Point, notice}
use Rattle.hla_machine.specs.Directory.{Directory, with_points}
use Rattle.hla_machine.specs.Central.{Central}
use Rattle.hla_machine.specs.Callbacks.{IsNextNotice, after_notice}
use Rattle.hla_machine.specs.declared.step.Choice.{Choice}
use Rattle.hla_machine.specs.declared.step.Choice.TheVariants as choice
use Rattle.hla_accounts.specs.declared.account.Account.{Account}
use Rattle.hla_accounts.specs.Accounts.{central_with}
use Rattle.hla_verdicts.specs.declared.verdict.Verdict.{Verdict}
use Rattle.hla_verdicts.specs.Verdicts.{Judged}
use Rattle.hla_verdicts.specs.Notices.{notice_in}
use Rattle.hla_verdicts.specs.Accounted.{JudgedPick}

abbrev JudgedNotice : Central → ℕ → Notice → Choice → Central → Verdict → Type 0
JudgedNotice c f n o d v = Judged (IsNextNotice (c.notices f) n × (o ≡ choice.None)) (d ≡ after_notice c f n) v

pub notice_told : (c d : Central) (f : ℕ) (k : Callback) (n : Notice) (told : Option Notice) (o : Choice) (v : Verdict) → told ≡ notice_in k → told ≡ Some n → Judged (IsNextNotice (c.notices f) n × (o ≡ choice.None)) (d ≡ after_notice c f n) v → JudgedPick c f k o d v
notice_told c d f (callback.SynchronizationPointRegistrationSucceeded label) n told o v is some judged = let same : n ≡ notice kind.RegistrationSucceeded label = cc in subst (λ (m : Notice). JudgedNotice c f m o d v) same judged
notice_told c d f (callback.SynchronizationPointRegistrationFailed label) n told o v is some judged = let same : n ≡ notice kind.RegistrationFailed label = cc in subst (λ (m : Notice). JudgedNotice c f m o d v) same judged
notice_told c d f (callback.AnnounceSynchronizationPoint label) n told o v is some judged = let same : n ≡ notice kind.Announced label = cc in subst (λ (m : Notice). JudgedNotice c f m o d v) same judged
notice_told c d f (callback.FederationSynchronized label) n told o v is some judged = let same : n ≡ notice kind.Synchronized label = cc in subst (λ (m : Notice). JudgedNotice c f m o d v) same judged
notice_told c d f k n told o v is some judged = absurd (cc)

-- a callback that tells nothing of them leaves them as they were
pub untold_among : (d : Directory) (old new : List Account) (points : List Point) (f : ℕ) (k : Callback) (o : Choice) (v : Verdict) → d.points ≡ points → JudgedPick (central_with d old) f k o (central_with d new) v → JudgedPick (central_with d old) f k o (central_with (with_points d points) new) v
untold_among d old new points f k o v at judged = subst (λ (ps : List Point). JudgedPick (central_with d old) f k o (central_with (with_points d ps) new) v) at judged
