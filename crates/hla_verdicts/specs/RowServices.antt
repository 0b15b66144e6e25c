-- The services of time management that change no more than their caller's row
use Rattle.std.specs.Prelude.{Bool, true, false, Option, Some, None, List, []}
use Rattle.hla_base.specs.declared.row.AdvanceKind.TheVariants as kind
use Rattle.hla_base.specs.declared.row.TimeRow.{TimeRow}
use Rattle.hla_base.specs.RowRefusals.{Test, request_tests, unregulate_tests, constrain_tests, lookahead_tests, asynchronous_on_tests, asynchronous_off_tests}
use Rattle.hla_machine.specs.declared.service.Service.{Service}
use Rattle.hla_machine.specs.declared.service.Service.TheVariants as service
use Rattle.hla_accounts.specs.declared.row_change.RowChange.{RowChange}
use Rattle.hla_accounts.specs.declared.row_change.RowChange.TheVariants.{Request, CeaseRegulation, AskConstraint, SetLookahead, SetAsynchronous}

-- the change that a service makes of the row, where it does no more and chooses nothing
abbrev pub row_change_of : Service → Option RowChange
row_change_of (service.TimeAdvanceRequest time) = Some (Request kind.TimeAdvance time)
row_change_of (service.TimeAdvanceRequestAvailable time) = Some (Request kind.TimeAdvanceAvailable time)
row_change_of (service.NextEventRequest time) = Some (Request kind.NextEvent time)
row_change_of (service.NextEventRequestAvailable time) = Some (Request kind.NextEventAvailable time)
row_change_of (service.FlushQueueRequest time) = Some (Request kind.FlushQueue time)
row_change_of service.DisableTimeRegulation = Some CeaseRegulation
row_change_of service.EnableTimeConstrained = Some AskConstraint
row_change_of (service.ModifyLookahead lookahead) = Some (SetLookahead lookahead)
row_change_of service.EnableAsynchronousDelivery = Some (SetAsynchronous true)
row_change_of service.DisableAsynchronousDelivery = Some (SetAsynchronous false)
row_change_of s = None

abbrev pub asynchronous_tests : TimeRow → Bool → List Test
asynchronous_tests r true = asynchronous_on_tests r
asynchronous_tests r false = asynchronous_off_tests r

-- the tests of the service that makes a change
abbrev pub row_tests : TimeRow → RowChange → List Test
row_tests r (Request kind asked) = request_tests r asked
row_tests r CeaseRegulation = unregulate_tests r
row_tests r AskConstraint = constrain_tests r
row_tests r (SetLookahead lookahead) = lookahead_tests r lookahead
row_tests r (SetAsynchronous is_on) = asynchronous_tests r is_on
row_tests r change = []
