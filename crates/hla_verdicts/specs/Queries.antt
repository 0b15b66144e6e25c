-- Queries of a federate's times
use Rattle.std.specs.Prelude.{ℕ, ◌≡◌, Option, Some, None}
use Rattle.hla_machine.specs.declared.service.Service.{Service}
use Rattle.hla_machine.specs.declared.service.Service.TheVariants as service
use Rattle.hla_machine.specs.Central.{Central}
use Rattle.hla_machine.specs.Machine.{MayBound, MayBeNext}
use Rattle.hla_verdicts.specs.declared.queries.Query.{Query}
use Rattle.hla_verdicts.specs.declared.queries.Query.TheVariants.{Bound, FederateTime, NextEvent, Lookahead}

abbrev pub time_query_of : Service → Option Query
time_query_of service.QueryLbts = Some Bound
time_query_of service.QueryFederateTime = Some FederateTime
time_query_of service.QueryMinNextEventTime = Some NextEvent
time_query_of service.QueryLookahead = Some Lookahead
time_query_of s = None

-- it may answer f this
abbrev pub MayTell : Central → ℕ → Query → ℕ → Type 0
MayTell c f Bound v = MayBound c f v
MayTell c f FederateTime v = v ≡ (c.row f).time
MayTell c f NextEvent v = MayBeNext c f v
MayTell c f Lookahead v = v ≡ (c.row f).lookahead
