-- What is seen of the callers of one run-time infrastructure
pub use Rattle.hla_callers.specs.Callers.{Caller, new_caller, with_own, EndsWith, HasHappened, IsKnownBehind, act_record, HasActed, HasNotActed, answer_given, said, nothing, HasAnswered, HasResigned, FederateCaller, Leaver, EndsAlike, IsHeardUntil, HeardAll, Office}
unfoldable pub use Rattle.hla_callers.specs.Callers.{IsServed}
