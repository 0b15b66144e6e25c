-- Records that are a run never differ from it, and what was found is told.
use Rattle.std.proofs.Common.{◌≡◌, ℕ, zero, suc, Bool, true, false, ◌||◌, List, [], ◌∷◌, length, take, Some, None, refl, sym, subst, ◌∙◌, arith}
use Rattle.std.specs.Prelude.{slice_get}
use Rattle.std.specs.Io.KnownBytes.{Appends, Keeps}
use Rattle.std.proofs.lemmas.List.{append-nil, take_all}
use Rattle.std.proofs.lemmas.Option.{slice_get_within}
use Rattle.hla_machine.specs.declared.step.Record.{Record}
use Rattle.hla_machine.specs.Runs.{Executions, no_executions, AllowedAct, after_act, AreRun}
use Rattle.hla_checker.specs.Faults.{IsWholeRun, IsRunUpTo, IsNoStep}
use Rattle.hla_stage.specs.declared.player.PlayFault.{PlayFault}
use Rattle.hla_stage.specs.declared.player.PlayFault.TheVariants as unplayed
use Rattle.hla_stage.specs.Playing.{StopsBy}
use Rattle.hla_transcript.specs.Watching.{Stream}
use Rattle.hla_files.specs.declared.finding.Finding.{Finding}
use Rattle.hla_files.specs.declared.finding.Finding.TheVariants.{Run, Differs}
use Rattle.hla_files.specs.Program.{WritesLine, Whole, Cut, EndsTelling, StopsCheck, IsFound, IsVerdict, HasRecords, EndsChecking, Checked, finding_line, finding_text, finding_status}
use Rattle.hla_files.proofs.EndLemmas.{appends_kept}

-- in a run each record is a step after those before it
runs_on : (x : Executions) (rs : List Record) (k : ℕ) (y z : Executions) (r : Record) → AreRun x rs z → AreRun x (take k rs) y → slice_get rs k ≡ Some r → AllowedAct y r.execution r.act r.outcome r.choice
runs_on x [] k y z r run before at = absurd (omega (arith, slice_get_within [] k r at))
runs_on x (q ∷ qs) zero y z r run before at =
    let same : q ≡ r = cc at in
    subst (λ (s : Record). AllowedAct y s.execution s.act s.outcome s.choice) same (subst (λ (e : Executions). AllowedAct e q.execution q.act q.outcome q.choice) before run.0)
runs_on x (q ∷ qs) (suc k) y z r run before at = runs_on (after_act x q.execution q.act q.outcome q.choice) qs k y z r run.1 before.1 at

pub never_differs : (rs : List Record) (place : ℕ) → IsWholeRun rs → IsRunUpTo rs place IsNoStep → ⊥
never_differs rs place run stops = stops.4 (runs_on no_executions rs place stops.0 run.0 stops.1 run.1 stops.2 stops.3)

-- of records that are a run the machine says just that
pub found_of : (fed script : List ℕ) (records : List Record) (finding : Finding) → HasRecords fed script records → IsWholeRun records → IsVerdict records finding → IsFound fed script finding
found_of fed script records (Run count) has run verdict = (records, has, verdict.0, verdict.1)
found_of fed script records (Differs place) has run verdict = absurd (never_differs records place run verdict)

-- where no write failed
pub stops_check : (fed script : List ℕ) (why : PlayFault) → StopsBy true fed script None None why → (why ≡ unplayed.Write → ⊥) → StopsCheck fed script why
stops_check fed script (unplayed.Fed e) stops other = stops
stops_check fed script (unplayed.Script e) stops other = stops
stops_check fed script unplayed.Write stops other = absurd (other refl)
stops_check fed script unplayed.Memory stops other = stops

-- where all was played, and there was no memory to judge it
pub unjudged : (fed script : List ℕ) (records : List Record) → HasRecords fed script records → StopsCheck fed script unplayed.Memory
unjudged fed script records has =
    let from = has.0.from in
    record {
      catalogue = from.catalogue;
      lines = from.lines;
      describes = from.describes;
      says = from.says;
      breaks = record {
        records = records;
        left = [];
        played = record { done = from.lines; parts = sym (append-nil from.lines); played = record { played = from.played; remembered = λ all. has.0.remembered }; follows = has.1 };
      };
    }

or-of-true : (a b : Bool) → (a || b) ≡ false → a ≡ true → ⊥
or-of-true true b none some = absurd (cc none)
or-of-true false b none some = absurd (cc some)

-- a line that was handed on is written whole
pub line_told : (old mid new : Stream) (line : List ℕ) (b : Bool) → WritesLine old mid line → Keeps mid.bytes new.bytes → new.has_failed ≡ (mid.has_failed || b) → new.has_failed ≡ false → Appends old.bytes new.bytes line
line_told old mid new line b (Whole grown sound) kept failure none = appends_kept old.bytes mid.bytes new.bytes line grown kept
line_told old mid new line b (Cut n grown failed) kept failure none = absurd (or-of-true mid.has_failed b (sym failure ∙ none) failed)

-- else a beginning of it
pub line_cut : (old mid new : Stream) (line : List ℕ) → WritesLine old mid line → Keeps mid.bytes new.bytes → (n : ℕ) × Appends old.bytes new.bytes (take n line)
line_cut old mid new line (Whole grown sound) kept =
    let all : take (length line) line ≡ line = take_all (length line) line (omega arith) in
    (length line, subst (λ (l : List ℕ). Appends old.bytes new.bytes l) (sym all) (appends_kept old.bytes mid.bytes new.bytes line grown kept))
line_cut old mid new line (Cut n grown failed) kept = (n, appends_kept old.bytes mid.bytes new.bytes (take n line) grown kept)

-- what was found is that the records are a run
pub checked : (fed script : List ℕ) (finding : Finding) (out out' err err' : Stream) (status : ℕ) → IsFound fed script finding → EndsTelling (finding_text finding None) (finding_status finding) out out' err err' status → EndsChecking fed script out out' err err' status
checked fed script (Run count) out out' err err' status found told =
    Checked found.0 found.1 found.2 (subst (λ (n : ℕ). EndsTelling (finding_line (Run n)) 0 out out' err err' status) found.3 told)
checked fed script (Differs place) out out' err err' status found told = absurd found
