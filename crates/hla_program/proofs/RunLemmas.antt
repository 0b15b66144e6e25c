-- A run on threads that was stopped, and a history that is judged.
use Rattle.std.proofs.Common.{◌≡◌, ◌≤◌, arith, ℕ, Bool, ◌||◌, List, length, Option, None, Some, IfSome, ap, subst, ◌∙◌}
use Rattle.hla_machine.specs.declared.step.Record.{Record}
use Rattle.hla_checker.specs.Faults.{IsWholeRun}
use Rattle.hla_transcript.specs.Watching.{Stream}
use Rattle.hla_outcomes.specs.Running.{StopsRun, is_failed_text}
use Rattle.hla_outcomes.specs.declared.fault.RunFault.{RunFault}
use Rattle.hla_outcomes.specs.declared.fault.RunFault.TheVariants as unran
use Rattle.hla_files.specs.declared.finding.Finding.{Finding}
use Rattle.hla_files.specs.declared.finding.Finding.TheVariants.{Run, Differs}
use Rattle.hla_files.specs.Program.{IsVerdict, run_stop_status}
use Rattle.hla_files.proofs.EndLemmas.{or-true}
use Rattle.hla_files.proofs.CheckLemmas.{never_differs}
use Rattle.hla_program.specs.Program.{RunCause}

-- where a write failed while running
pub run_cause : (why : RunFault) (old : Bool) (new : Stream) → new.has_failed ≡ (old || is_failed_text why) → RunCause why new
run_cause (unran.Fed e) old new failure = tt
run_cause (unran.Script e) old new failure = tt
run_cause unran.Write old new failure = failure ∙ or-true old
run_cause unran.Memory old new failure = tt
run_cause (unran.Close e) old new failure = tt
run_cause unran.Monitor old new failure = tt
run_cause unran.Ambassadors old new failure = tt

-- a run that was stopped has another status than 0
pub run_stop_nonzero : (why : RunFault) → run_stop_status why ≡ 0 → ⊥
run_stop_nonzero (unran.Fed e) done = omega (arith, done)
run_stop_nonzero (unran.Script e) done = omega (arith, done)
run_stop_nonzero unran.Write done = omega (arith, done)
run_stop_nonzero unran.Memory done = omega (arith, done)
run_stop_nonzero (unran.Close e) done = omega (arith, done)
run_stop_nonzero unran.Monitor done = omega (arith, done)
run_stop_nonzero unran.Ambassadors done = omega (arith, done)

-- with fewer ambassadors it stops as well
pub stops_with_fewer : (fed script : List ℕ) (n m : ℕ) (old new : Option (List ℕ)) (why : RunFault) → n ≤ m → StopsRun fed script m old new why → StopsRun fed script n old new why
stops_with_fewer fed script n m old new (unran.Fed e) fewer stops = stops
stops_with_fewer fed script n m old new (unran.Script e) fewer stops = stops
stops_with_fewer fed script n m old new unran.Write fewer stops = stops
stops_with_fewer fed script n m old new unran.Memory fewer stops = stops
stops_with_fewer fed script n m old new (unran.Close e) fewer stops = stops
stops_with_fewer fed script n m old new unran.Monitor fewer stops = stops
stops_with_fewer fed script n m old new unran.Ambassadors fewer stops = ((stops.0.0, omega (arith, fewer, stops.0.1)), stops.1)

-- of a history that is a run the machine says just that
pub history_found : (records : List Record) (finding : Finding) → IsWholeRun records → IsVerdict records finding → finding ≡ Run (length records)
history_found records (Run count) run verdict = ap Run verdict.1
history_found records (Differs place) run verdict = absurd (never_differs records place run verdict)

pub histories_found : (lent records : List Record) (found : Option Finding) → lent ≡ records → IsWholeRun records → IfSome found (IsVerdict lent) → IfSome found (λ finding. finding ≡ Run (length records))
histories_found lent records None same run verdict = tt
histories_found lent records (Some finding) same run verdict = history_found records finding run (subst (λ (rs : List Record). IsVerdict rs finding) same verdict)
