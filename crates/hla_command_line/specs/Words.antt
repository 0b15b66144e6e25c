-- What the words of a command line ask for, the program's name in front
use Rattle.std.specs.Prelude.{◌≡◌, ◌<◌, ◌==◌, ◌&&◌, Bool, true, false, not, List, [], ◌∷◌, length, Option, Some, None, IfSome, option_and_then, option_map, codes, if◌then◌else◌}
use Rattle.std.specs.Option.{option_or}
use Rattle.std.specs.Str.{bytes_eq}
use Rattle.clap.specs.Kinds.{Kinds}
use Rattle.clap.specs.Faults.{fault_of}
use Rattle.clap.specs.Simple.{App, new_app, new_rule, on_top, subcommand_of, with_rule, with_subcommand}
use Rattle.clap.specs.Walk.{Row, Rule, Text, first_of, is_empty}
use Rattle.clap.specs.declared.builder.action.ArgAction.TheVariants.{SetTrue}
use Rattle.clap.specs.declared.builder.command.Command.{Command}
use Rattle.clap.specs.declared.builder.command.Command.TheViews.{out-Command}
use Rattle.hla_tasks.specs.Tasks.{NamedTask, Play, Check, Running, Listing}

-- ---- the plain forms, which are read without clap
-- a word that clap takes for no option: `-` alone, or one that does not begin with `-` (45)
abbrev pub is_operand : Text → Bool
is_operand (first ∷ second ∷ rest) = not (first == 45)
is_operand _ = true

-- both files stand in the standard input
abbrev pub default_task : NamedTask
default_task = Play (codes "-") (codes "-")

-- what a word asks for with a script over a FED file
abbrev pub plain_script_task : Text → Text → Text → Option NamedTask
plain_script_task word fed script =
    if bytes_eq word (codes "play") then Some (Play fed script)
    else if bytes_eq word (codes "check") then Some (Check fed script)
    else if bytes_eq word (codes "run") then Some (Running fed script false)
    else None

-- no words but the program's name; `fed FILE`; `play FED SCRIPT`; `check FED SCRIPT`; `run FED SCRIPT`
abbrev pub plain_task : List Text → Option NamedTask
plain_task [] = Some default_task
plain_task (program ∷ []) = Some default_task
plain_task (program ∷ word ∷ fed ∷ []) =
    if bytes_eq word (codes "fed") && is_operand fed then Some (Listing fed) else None
plain_task (program ∷ word ∷ fed ∷ script ∷ []) = if is_operand fed && is_operand script then plain_script_task word fed script else None
plain_task _ = None

-- ---- all others, as clap reads them
abbrev pub file_rule : Text → Rule
file_rule id = record (new_rule id) { required = true }

-- a subcommand for a FED file and a script
abbrev pub script_subcommand : Text → App
script_subcommand name = with_rule (with_rule (new_app name) (file_rule (codes "FED"))) (file_rule (codes "SCRIPT"))

-- the flag `--monitor`
abbrev pub monitor_rule : Rule
monitor_rule = record (new_rule (codes "monitor")) { long = Some (codes "monitor"); action = Some SetTrue }

-- none of its arguments is handed on to subcommands
abbrev pub IsLocal : Command → Type 0
IsLocal command = (out-Command command).has_globals ≡ false

abbrev pub fed_subcommand : App
fed_subcommand = with_rule (new_app (codes "fed")) (file_rule (codes "FILE"))

abbrev pub run_subcommand : App
run_subcommand = with_rule (script_subcommand (codes "run")) monitor_rule

-- the program's command, with its four subcommands
unfoldable pub command_line : App
command_line = with_subcommand (with_subcommand (with_subcommand (with_subcommand (on_top (λ s. record s { subcommand_required = true }) (new_app (codes "hlaplay"))) (script_subcommand (codes "play")).top) (script_subcommand (codes "check")).top) run_subcommand.top) fed_subcommand.top

-- the value of a flag that was given
abbrev pub is_set : Option Text → Bool
is_set None = false
is_set (Some value) = bytes_eq value (codes "true")

-- what the subcommand of a name asks for with a script over a FED file
abbrev pub script_task : Text → Text → Text → Option Text → NamedTask
script_task name fed script watched =
    if bytes_eq name (codes "check") then Check fed script
    else if bytes_eq name (codes "run") then Running fed script (is_set watched)
    else Play fed script

-- what the subcommand of a name asks for, where an argument's value is found by its id
abbrev pub task_with : (Text → Option Text) → Text → Option NamedTask
task_with value_of name =
    if bytes_eq name (codes "fed") then option_map Listing (value_of (codes "FILE"))
    else option_and_then (λ fed. option_map (λ script. script_task name fed script (value_of (codes "monitor"))) (value_of (codes "SCRIPT"))) (value_of (codes "FED"))

-- of a subcommand, its name and its matches
abbrev pub subcommand_task : Option (Text × List Row) → Option NamedTask
subcommand_task = option_and_then (λ p. task_with (λ id. first_of id p.1) p.0)

-- what clap finds wrong with the words first, or that they ask for help; nothing where it takes them
unfoldable pub faults_in : List Text → Kinds
faults_in words = fault_of command_line words

-- what words that clap takes ask for
unfoldable pub clap_task : List Text → Option NamedTask
clap_task words =
    if is_empty (faults_in words) then subcommand_task (subcommand_of command_line words) else None

-- what the words ask for
abbrev pub task_of : List Text → Option NamedTask
task_of words = option_or (plain_task words) (clap_task words)

-- a plain form asks for what clap reads of it, where there are words that clap can read
abbrev pub IsReadAlike : List Text → Type 0
IsReadAlike words = IfSome (plain_task words) (λ task. 1 < length words → clap_task words ≡ Some task)
