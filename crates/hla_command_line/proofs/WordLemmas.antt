-- What clap's matches and errors say of the words.
use Rattle.std.proofs.Common.{◌≡◌, true, List, [], Option, Some, None, Result, Ok, Err, IfOk, inl, inr, refl, sym, ◌∙◌, ap, subst, codes, option_map, Box}
use Rattle.clap.specs.Kinds.{HasKind, IsAmong}
use Rattle.clap.specs.Faults.{fault_of, is_simple_and_free}
use Rattle.clap.specs.Values.{kind_of}
use Rattle.clap.specs.Matches.{first_value}
use Rattle.clap.specs.Simple.{is_simple, subcommand_of, subcommand_rows}
use Rattle.clap.specs.Walk.{Row, Text, first_of, rows_of}
use Rattle.clap.specs.declared.error.Error.{Error}
use Rattle.clap.specs.declared.parser.matches.Found.{Found}
use Rattle.clap.specs.declared.parser.matches.SubCommand.{SubCommand}
use Rattle.clap.specs.declared.parser.matches.ArgMatches.TheViews.{out-SubCommand}
use Rattle.std.specs.Box.{box_value}
use Rattle.std.specs.Result.{result_ok}
use Rattle.hla_tasks.specs.Tasks.{named_task}
use Rattle.hla_tasks.specs.declared.task.Task.{Task}
use Rattle.clap.proofs.OnLiterals.{clap_on_literals}
use Rattle.clap.proofs.WalkLemmas.{first_value-rows}
use Rattle.hla_command_line.specs.declared.words.WordsFault.{WordsFault}
use Rattle.hla_command_line.specs.declared.words.WordsFault.TheVariants.{Refused, Memory}
use Rattle.hla_command_line.specs.Words.{command_line, task_with, faults_in, clap_task}
use Rattle.hla_command_line.specs.Refusals.{IsCausedBy, IsFoundIn}

some_is : {X : Type 0} (x y : X) → Some x ≡ Some y → x ≡ y
some_is x y same = cc same

-- clap's matches and faults are known of the command line
pub line_is_simple : is_simple command_line ≡ true
unfolding command_line clap_on_literals
line_is_simple = refl

pub line_is_free : is_simple_and_free command_line ≡ true
unfolding command_line clap_on_literals
line_is_free = refl

-- the value of an argument stands in its row
pub with_rows : (found : Found) (name : Text) → task_with (first_value found) name ≡ task_with (λ id. first_of id (rows_of found)) name
with_rows found name = rw (first_value-rows found (codes "FILE"), first_value-rows found (codes "FED"), first_value-rows found (codes "SCRIPT"), first_value-rows found (codes "monitor")) refl

-- a refusal is for what clap found
pub refusal_found : (words : List Text) (error : Error) (fault : WordsFault) → HasKind (fault_of command_line words) error → IsCausedBy error fault → IsFoundIn words fault
unfolding faults_in
refusal_found words error (Refused refused) (inl memory) cause = absurd (cause.1 memory)
refusal_found words error (Refused refused) (inr among) cause = subst (λ (e : Error). IsAmong (kind_of e) (fault_of command_line words)) (sym cause.0) among
refusal_found words error Memory has cause = tt

-- a subcommand that clap met says what the words ask for
pub task_met : (words : List Text) (name : Text) (rows : List Row) → fault_of command_line words ≡ [] → subcommand_of command_line words ≡ Some (name, rows) → clap_task words ≡ task_with (λ id. first_of id rows) name
unfolding faults_in clap_task
task_met words name rows none met = rw (none, met) refl

module _ {Z : Type 0} where
  -- the name and the rows of the subcommand that a parse met, from each of them
  pub rows_met : (met : Option (Box SubCommand Z)) (name : Text) (rows : List Row) → Some name ≡ option_map (λ b. (out-SubCommand (box_value b)).name.now) met → Some rows ≡ option_map (λ p. p.1) (subcommand_rows met) → subcommand_rows met ≡ Some (name, rows)
  rows_met None name rows named found = absurd (cc named)
  rows_met (Some b) name rows named found = rw (← some_is _ _ named, ← some_is _ _ found) refl

-- a task that clap's matches give is what the words ask for
pub task_given : {E : Type 0} (words : List Text) (met : Option Task) (r : Result Task E) → clap_task words ≡ option_map named_task met → met ≡ result_ok r → IfOk r (λ task. clap_task words ≡ Some (named_task task))
task_given words met (Ok task) asks ok = asks ∙ ap (option_map named_task) ok
task_given words met (Err e) asks ok = tt
