-- How lines end in order that do not end well.
use Rattle.std.proofs.Common.{◌≡◌, ℕ, List, Option, Result, Ok, Err, IfErr, subst}
use Rattle.std.specs.Io.KnownBytes.{Appends}
use Rattle.hla_catalogue.specs.CatalogueValue.{CatalogueValue}
use Rattle.hla_commands.specs.Script.{script_of}
use Rattle.hla_commands.specs.declared.lines.Line.{Line}
use Rattle.hla_fed_file.specs.Grammar.{Describes}
use Rattle.hla_machine.specs.declared.step.Outcome.{Outcome}
use Rattle.hla_callers.specs.Callers.{Leaver, Office}
use Rattle.hla_in_order.specs.InOrder.{IsDoneInOrder, StopsInOrder}
use Rattle.hla_outcomes.specs.Running.{IsCutText, StopsText, told_text}
use Rattle.hla_in_order.specs.Turns.{AreDoneAs, HaveEnded, StopsDoing}
use Rattle.hla_outcomes.specs.declared.fault.RunFault.{RunFault}
use Rattle.hla_outcomes.specs.declared.fault.RunFault.TheVariants as stop
use Rattle.hla_in_order.proofs.LeadLemmas.{runs_done}

-- what was told of them
told_whole : (c : CatalogueValue) (fed : List ℕ) (lines : List Line) (told : List (Option Outcome)) (office : Office) (lefts : List Leaver) (old new : Option (List ℕ)) → HaveEnded c fed lines told office lefts → Appends old new (told_text c lines told)
    → AreDoneAs c fed lines (Appends old new)
told_whole c fed lines told office lefts old new ended writes =
    record { outcomes = ended.outcomes; records = ended.records; does = ended.does; writes = subst (λ (os : List (Option Outcome)). Appends old new (told_text c lines os)) ended.tells writes }

pub stops_done : (c : CatalogueValue) (fed : List ℕ) (lines : List Line) (told : List (Option Outcome)) (office : Office) (lefts : List Leaver) (old new : Option (List ℕ)) (e : RunFault) → HaveEnded c fed lines told office lefts → StopsText (told_text c lines told) old new e
    → StopsDoing c fed lines old new e
stops_done c fed lines told office lefts old new (stop.Fed e) ended stops = absurd stops
stops_done c fed lines told office lefts old new (stop.Script e) ended stops = absurd stops
stops_done c fed lines told office lefts old new stop.Ambassadors ended stops = absurd stops
stops_done c fed lines told office lefts old new stop.Write ended stops =
    record { outcomes = ended.outcomes; records = ended.records; does = ended.does; writes = subst (λ (os : List (Option Outcome)). IsCutText old new (told_text c lines os)) ended.tells stops }
stops_done c fed lines told office lefts old new stop.Memory ended stops = stops
stops_done c fed lines told office lefts old new (stop.Close e) ended stops = told_whole c fed lines told office lefts old new ended stops
stops_done c fed lines told office lefts old new stop.Monitor ended stops = told_whole c fed lines told office lefts old new ended stops

-- of a run that may have stopped
pub ended_stopped : {R : Type 0} (c : CatalogueValue) (fed : List ℕ) (lines : List Line) (told : List (Option Outcome)) (office : Office) (lefts : List Leaver) (old new : Option (List ℕ)) (ran : Result R RunFault) → HaveEnded c fed lines told office lefts
    → IfErr ran (StopsText (told_text c lines told) old new) → IfErr ran (StopsDoing c fed lines old new)
ended_stopped c fed lines told office lefts old new (Ok r) ended stops = tt
ended_stopped c fed lines told office lefts old new (Err e) ended stops = stops_done c fed lines told office lefts old new e ended stops

done_in_order : (fed script : List ℕ) (c : CatalogueValue) (lines : List Line) (IsWritten : List ℕ → Type 0) → Describes fed c → script_of script ≡ Ok lines → AreDoneAs c fed lines IsWritten → IsDoneInOrder fed script IsWritten
done_in_order fed script c lines IsWritten describes says done = record {
  catalogue = c;
  lines = lines;
  outcomes = done.outcomes;
  records = done.records;
  describes = describes;
  says = says;
  does = done.does;
  writes = done.writes;
}

pub stops_in_order : (fed script : List ℕ) (ambassadors : ℕ) (c : CatalogueValue) (lines : List Line) (old new : Option (List ℕ)) (e : RunFault) → Describes fed c → script_of script ≡ Ok lines → StopsDoing c fed lines old new e → StopsInOrder fed script ambassadors old new e
stops_in_order fed script ambassadors c lines old new (stop.Fed e) describes says stops = absurd stops
stops_in_order fed script ambassadors c lines old new (stop.Script e) describes says stops = absurd stops
stops_in_order fed script ambassadors c lines old new stop.Ambassadors describes says stops = absurd stops
stops_in_order fed script ambassadors c lines old new stop.Write describes says stops = done_in_order fed script c lines (IsCutText old new) describes says stops
stops_in_order fed script ambassadors c lines old new stop.Memory describes says stops = stops
stops_in_order fed script ambassadors c lines old new (stop.Close e) describes says stops = done_in_order fed script c lines (Appends old new) describes says stops
stops_in_order fed script ambassadors c lines old new stop.Monitor describes says stops = done_in_order fed script c lines (Appends old new) describes says stops

pub ruleset ends_in_order = (runs_done, stops_in_order)
