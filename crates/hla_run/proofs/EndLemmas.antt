-- How a run ends behind the reading of its texts, and whose transcripts are the history's.
use Rattle.std.proofs.Common.{◌≡◌, ℕ, List, length, get_or, filter, Bool, Option, Ok, subst}
use Rattle.std.specs.List.{Contains}
use Rattle.std.proofs.lemmas.List.Elements.{All-contains, All-contains_itself, All-filter}
use Rattle.std.proofs.lemmas.Option.{slice_get-get_or}
use Rattle.hla_catalogue.specs.CatalogueValue.{CatalogueValue}
use Rattle.hla_commands.specs.Script.{script_of}
use Rattle.hla_commands.specs.declared.lines.Line.{Line}
use Rattle.hla_fed_file.specs.Grammar.{Describes}
use Rattle.hla_machine.specs.declared.step.Outcome.{Outcome}
use Rattle.hla_machine.specs.declared.step.Record.{Record}
use Rattle.hla_callers.specs.Callers.{Caller, Leaver}
use Rattle.hla_callers.specs.Close.{AllAgree}
use Rattle.hla_history.specs.Closing.{records_by}
use Rattle.hla_outcomes.specs.Running.{AreAllDone, AreTold, IsRunFrom, StopsRun, StopsTelling, StopsText, told_text}
use Rattle.hla_outcomes.specs.declared.fault.RunFault.{RunFault}
use Rattle.hla_outcomes.specs.declared.fault.RunFault.TheVariants as stop
use Rattle.hla_run.specs.Recorded.{AgreeAll, AreTranscriptsIn, IsTranscriptIn}

-- what was read, and how its lines are told
pub run_told : (fed script : List ℕ) (c : CatalogueValue) (lines : List Line) (old new : Option (List ℕ)) → Describes fed c → script_of script ≡ Ok lines → AreTold c lines old new → IsRunFrom fed script old new
run_told fed script c lines old new describes says told = record {
  catalogue = c;
  lines = lines;
  outcomes = told.outcomes;
  describes = describes;
  says = says;
  each = told.each;
  done = told.done;
  writes = told.writes;
}

-- and how their telling ends that does not end well
pub stops_late : (fed script : List ℕ) (ambassadors : ℕ) (c : CatalogueValue) (lines : List Line) (old new : Option (List ℕ)) (e : RunFault) → Describes fed c → script_of script ≡ Ok lines → StopsTelling c lines old new e
    → StopsRun fed script ambassadors old new e
stops_late fed script ambassadors c lines old new (stop.Fed e) describes says stops = absurd stops
stops_late fed script ambassadors c lines old new (stop.Script e) describes says stops = absurd stops
stops_late fed script ambassadors c lines old new stop.Ambassadors describes says stops = absurd stops
stops_late fed script ambassadors c lines old new stop.Write describes says stops = record { catalogue = c; lines = lines; describes = describes; says = says; told = stops }
stops_late fed script ambassadors c lines old new stop.Memory describes says stops = stops
stops_late fed script ambassadors c lines old new (stop.Close e) describes says stops = run_told fed script c lines old new describes says stops
stops_late fed script ambassadors c lines old new stop.Monitor describes says stops = run_told fed script c lines old new describes says stops

pub ruleset ends = (run_told, stops_late)

-- ---- the same of a text that is told
-- of lines that were all done
pub stops_told : (c : CatalogueValue) (lines : List Line) (outcomes : List (Option Outcome)) (old new : Option (List ℕ)) (e : RunFault) → length outcomes ≡ length lines → AreAllDone lines outcomes → StopsText (told_text c lines outcomes) old new e
    → StopsTelling c lines old new e
stops_told c lines outcomes old new (stop.Fed e) each done stops = absurd stops
stops_told c lines outcomes old new (stop.Script e) each done stops = absurd stops
stops_told c lines outcomes old new stop.Ambassadors each done stops = absurd stops
stops_told c lines outcomes old new stop.Write each done stops = record { outcomes = outcomes; each = each; done = done; writes = stops }
stops_told c lines outcomes old new stop.Memory each done stops = stops
stops_told c lines outcomes old new (stop.Close e) each done stops = record { outcomes = outcomes; each = each; done = done; writes = stops }
stops_told c lines outcomes old new stop.Monitor each done stops = record { outcomes = outcomes; each = each; done = done; writes = stops }

-- ---- transcripts of the history
filtered_in : (p : Record → Bool) (rs : List Record) (r : Record) → Contains (filter p rs) r → Contains rs r
filtered_in p rs r there = All-contains (Contains rs) (filter p rs) r (All-filter p (Contains rs) rs (All-contains_itself rs)) there

pub actor_in : (history : List Record) (actor : ℕ) (transcript : List Record) → transcript ≡ records_by actor history → IsTranscriptIn history transcript
actor_in history actor transcript agrees = λ r there. filtered_in _ history r (subst (λ (rs : List Record). Contains rs r) agrees there)

pub agreed_within : (history : List Record) (lefts : List Leaver) (own : Caller) → AllAgree history lefts own → AreTranscriptsIn history lefts
agreed_within history lefts own agree = λ k d below. actor_in history (get_or lefts k d).caller.number (get_or lefts k d).caller.transcript (agree.0 k (get_or lefts k d) below (slice_get-get_or lefts k d below))

pub agree_all : (history : List Record) (lefts : List Leaver) (own : Caller) → AllAgree history lefts own → AgreeAll history lefts
agree_all history lefts own agree = λ k d below. agree.0 k (get_or lefts k d) below (slice_get-get_or lefts k d below)
