-- What tests of accounts alone tell, whatever the directory says besides
use Rattle.std.specs.Prelude.{ℕ, ◌≡◌, Some, List}
use Rattle.hla_synchronization.specs.Points.{Point}
use Rattle.hla_machine.specs.Directory.{Directory, with_points}
use Rattle.hla_callbacks.specs.declared.callback.Callback.{Callback}
use Rattle.hla_machine.specs.Central.{Central}
use Rattle.hla_machine.specs.Callbacks.{MayPickUp, MayBeGiven, after_pick}
use Rattle.hla_machine.specs.Machine.{Allowed, IsCallbackChoice, after}
use Rattle.hla_machine.specs.declared.step.Step.{Step}
use Rattle.hla_machine.specs.declared.step.Outcome.{Outcome}
use Rattle.hla_machine.specs.declared.step.Choice.{Choice}
use Rattle.hla_accounts.specs.declared.account.Account.{Account}
use Rattle.hla_accounts.specs.Accounts.{central_with}
use Rattle.hla_verdicts.specs.declared.verdict.Verdict.{Verdict}
use Rattle.hla_verdicts.specs.Verdicts.{Judged}

abbrev pub JudgedWith : Directory → List Account → Step → Outcome → Choice → List Account → Verdict → Type 0
JudgedWith d old step out o new verdict = Judged (Allowed (central_with d old) step out o) (central_with d new ≡ after (central_with d old) step out o) verdict

-- likewise where the open points may change
abbrev pub JudgedAmong : Directory → List Account → Step → Outcome → Choice → List Point → List Account → Verdict → Type 0
JudgedAmong d old step out o points new verdict = Judged (Allowed (central_with d old) step out o) (central_with (with_points d points) new ≡ after (central_with d old) step out o) verdict

-- whether it may be picked up, be it in turn or not
abbrev pub JudgedPick : Central → ℕ → Callback → Choice → Central → Verdict → Type 0
JudgedPick c f k o d verdict = Judged (MayPickUp c f k o × IsCallbackChoice (Some k) o) (d ≡ after_pick c f k o) verdict

-- likewise whether it may be given, which it may in turn alone
abbrev pub JudgedGiven : Central → ℕ → Callback → Choice → Central → Verdict → Type 0
JudgedGiven c f k o d verdict = Judged (MayBeGiven c f k o × IsCallbackChoice (Some k) o) (d ≡ after_pick c f k o) verdict
