-- When all callers have come back, and whether their transcripts are the history's
pub use Rattle.hla_callers.specs.Close.{AllHere, Agrees, AgreeBefore, DiffersFirst, AllAgree, Stands, StandBefore, AllStand, transcripts_length, AreOfCallers, IsKnownUntil, KnownBefore, AllKnown, IsUnknownAt}
