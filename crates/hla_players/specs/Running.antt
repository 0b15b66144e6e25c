-- What a run of a script writes
pub use Rattle.hla_outcomes.specs.Running.{told_line, told_at, told_text, with_line_noted, with_lines_noted, IsPassedOver, IsDealtWith, AreAllDone, AreTold, IsCutText, AreToldInPart, IsRunFrom, IsRunInPart, CountsBeginning, IsSeen, IsUnread, StopsRun, StopsText, StopsTelling, is_failed_text, is_unwritten_run}
