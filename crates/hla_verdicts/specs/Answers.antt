-- What is in answers
use Rattle.hla_base.specs.declared.number.EventHandle.{EventHandle}
use Rattle.std.specs.Prelude.{ℕ, Option, Some, None, List}
use Rattle.hla_machine.specs.declared.step.Carried.{Carried}
use Rattle.hla_machine.specs.declared.step.Answer.{Answer}
use Rattle.hla_machine.specs.declared.step.Answer.TheVariants as answer

abbrev pub announced_in : Answer → Option (Option ℕ)
announced_in (answer.Announced promise) = Some promise
announced_in a = None

abbrev pub carried_in : Answer → Option Carried
carried_in (answer.Carried carried) = Some carried
carried_in a = None

abbrev pub joiner_in : Answer → Option ℕ
joiner_in (answer.Federate federate) = Some federate
joiner_in a = None

abbrev pub sent_in : Answer → Option (Option EventHandle)
sent_in (answer.Sent handle) = Some handle
sent_in a = None

abbrev pub time_in : Answer → Option ℕ
time_in (answer.Time time) = Some time
time_in a = None

abbrev pub found_handle_in : Answer → Option ℕ
found_handle_in (answer.Handle number) = Some number
found_handle_in a = None

abbrev pub found_name_in : Answer → Option (List ℕ)
found_name_in (answer.Name name) = Some name
found_name_in a = None
