-- Who joins by the lines of a script
use Rattle.std.specs.Prelude.{ℕ, ◌+◌, List, [], ◌∷◌, Result, Ok, Err}
use Rattle.hla_commands.specs.declared.lines.Command.{Command}
use Rattle.hla_commands.specs.declared.lines.Command.TheVariants as command
use Rattle.hla_commands.specs.declared.lines.Line.{Line}
use Rattle.hla_commands.specs.declared.lines.ScriptFault.{ScriptFault}
use Rattle.hla_commands.specs.Script.{script_of}
use Rattle.hla_machine.specs.declared.step.Step.{Step}
use Rattle.hla_machine.specs.declared.step.Step.TheVariants as step
use Rattle.hla_requests.specs.declared.steps.Request.{Request}
use Rattle.hla_requests.specs.declared.steps.Request.TheVariants as request

-- how many ambassadors a line takes: one where it joins a federate
abbrev pub joins_by : Command → ℕ
joins_by (command.Join name) = 1
joins_by other = 0

-- how many the lines take
abbrev pub joins : List Line → ℕ
joins [] = 0
joins (l ∷ ls) = joins_by l.command + joins ls

abbrev pub joins_read : Result (List Line) ScriptFault → ℕ
joins_read (Ok lines) = joins lines
joins_read (Err e) = 0

-- how many a script takes; one at fault takes none
abbrev pub script_joins : List ℕ → ℕ
script_joins script = joins_read (script_of script)

-- how many a step takes
abbrev pub step_joins : Step → ℕ
step_joins (step.Join name) = 1
step_joins other = 0

-- how many what is asked for takes
abbrev pub request_joins : Request → ℕ
request_joins (request.Step s) = step_joins s
request_joins other = 0
