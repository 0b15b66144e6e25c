-- Words of a plain form ask clap for the same.
use Rattle.std.proofs.Common.{◌≡◌, ◌==◌, ◌&&◌, ℕ, Bool, true, false, not, List, [], ◌∷◌, Option, Some, None, IfSome, refl, codes, arith, if◌then◌else◌}
use Rattle.std.specs.Str.{bytes_eq}
use Rattle.std.proofs.lemmas.Slice.Eq.{bytes_eq-Decides}
use Rattle.clap.specs.Lexer.{long_of, short_of}
use Rattle.clap.specs.Faults.{fault_of}
use Rattle.clap.specs.Simple.{subcommand_of}
use Rattle.clap.specs.Walk.{Text, Rule, Held, word_met, idle, value}
use Rattle.clap.proofs.OnLiterals.{clap_on_literals}
use Rattle.hla_tasks.specs.Tasks.{NamedTask, Play, Check, Running, Listing}
use Rattle.hla_command_line.specs.Words.{command_line, is_operand, plain_script_task, subcommand_task, faults_in, clap_task, IsReadAlike}
use Rattle.clap.proofs.WalkLemmas.{both}

-- no name of a flag
pub record IsValue (word : Text) : Type 0 where
  pub ends_no_options : bytes_eq word (45 ∷ 45 ∷ []) ≡ false
  pub no_long : long_of word ≡ None
  pub no_short : short_of word ≡ None

value_if : (first : ℕ) (rest : Text) → (first == 45) ≡ false → IsValue (first ∷ rest)
value_if first rest other = record { ends_no_options = rw other refl; no_long = rw other refl; no_short = rw other refl }

one_byte : (first : ℕ) (b : Bool) → (first == 45) ≡ b → IsValue (first ∷ [])
one_byte first true is = record { ends_no_options = rw is refl; no_long = rw is refl; no_short = rw is refl }
one_byte first false is = value_if first [] is

not_true : (b : Bool) → not b ≡ true → b ≡ false
not_true false is = refl
not_true true is = absurd (cc is)

pub plain_value : (word : Text) → is_operand word ≡ true → IsValue word
plain_value [] plain = record { ends_no_options = refl; no_long = refl; no_short = refl }
plain_value (first ∷ []) plain = one_byte first (first == 45) refl
plain_value (first ∷ second ∷ rest) plain = value_if first (second ∷ rest) (not_true (first == 45) plain)

pub value_met : (rules : List Rule) (position : ℕ) (word : Text) (held : Held) → IsValue word → word_met rules [] false idle position word held ≡ (held, value)
value_met rules position word held is = rw (is.ends_no_options, is.no_long, is.no_short) refl

-- clap finds no fault in them, and reads the same task
fed_faults : (program fed : Text) → IsValue fed → fault_of command_line (program ∷ codes "fed" ∷ fed ∷ []) ≡ []
unfolding clap_on_literals command_line
fed_faults program fed is = rw (is.ends_no_options, is.no_long, is.no_short) refl

fed_task : (program fed : Text) → IsValue fed → subcommand_task (subcommand_of command_line (program ∷ codes "fed" ∷ fed ∷ [])) ≡ Some (Listing fed)
unfolding clap_on_literals command_line
fed_task program fed is = rw (is.ends_no_options, is.no_long, is.no_short) refl

play_faults : (program fed script : Text) → IsValue fed → IsValue script → fault_of command_line (program ∷ codes "play" ∷ fed ∷ script ∷ []) ≡ []
unfolding clap_on_literals command_line
play_faults program fed script f s = rw (f.ends_no_options, f.no_long, f.no_short, s.ends_no_options, s.no_long, s.no_short) refl

play_task : (program fed script : Text) → IsValue fed → IsValue script → subcommand_task (subcommand_of command_line (program ∷ codes "play" ∷ fed ∷ script ∷ [])) ≡ Some (Play fed script)
unfolding clap_on_literals command_line
play_task program fed script f s = rw (f.ends_no_options, f.no_long, f.no_short, s.ends_no_options, s.no_long, s.no_short) refl

check_faults : (program fed script : Text) → IsValue fed → IsValue script → fault_of command_line (program ∷ codes "check" ∷ fed ∷ script ∷ []) ≡ []
unfolding clap_on_literals command_line
check_faults program fed script f s = rw (f.ends_no_options, f.no_long, f.no_short, s.ends_no_options, s.no_long, s.no_short) refl

check_task : (program fed script : Text) → IsValue fed → IsValue script → subcommand_task (subcommand_of command_line (program ∷ codes "check" ∷ fed ∷ script ∷ [])) ≡ Some (Check fed script)
unfolding clap_on_literals command_line
check_task program fed script f s = rw (f.ends_no_options, f.no_long, f.no_short, s.ends_no_options, s.no_long, s.no_short) refl

run_faults : (program fed script : Text) → IsValue fed → IsValue script → fault_of command_line (program ∷ codes "run" ∷ fed ∷ script ∷ []) ≡ []
unfolding clap_on_literals command_line
run_faults program fed script f s = rw (f.ends_no_options, f.no_long, f.no_short, s.ends_no_options, s.no_long, s.no_short) refl

run_task : (program fed script : Text) → IsValue fed → IsValue script → subcommand_task (subcommand_of command_line (program ∷ codes "run" ∷ fed ∷ script ∷ [])) ≡ Some (Running fed script false)
unfolding clap_on_literals command_line
run_task program fed script f s = rw (f.ends_no_options, f.no_long, f.no_short, s.ends_no_options, s.no_long, s.no_short) refl

read_task : (words : List Text) (task : NamedTask) → fault_of command_line words ≡ [] → subcommand_task (subcommand_of command_line words) ≡ Some task → clap_task words ≡ Some task
unfolding faults_in clap_task
read_task words task none asks = rw none asks

fed_alike : (program word fed : Text) (b : Bool) → (bytes_eq word (codes "fed") && is_operand fed) ≡ b → IfSome (if b then Some (Listing fed) else None) (λ task. clap_task (program ∷ word ∷ fed ∷ []) ≡ Some task)
fed_alike program word fed false is = tt
fed_alike program word fed true is =
    let parts = both (bytes_eq word (codes "fed")) (is_operand fed) is in
    let same : word ≡ codes "fed" = (bytes_eq-Decides word (codes "fed")).0 parts.0 in
    let value = plain_value fed parts.1 in
    rw same (read_task _ (Listing fed) (fed_faults program fed value) (fed_task program fed value))

run_alike : (program word fed script : Text) → IsValue fed → IsValue script → (b : Bool) → bytes_eq word (codes "run") ≡ b → IfSome (if b then Some (Running fed script false) else None) (λ task. clap_task (program ∷ word ∷ fed ∷ script ∷ []) ≡ Some task)
run_alike program word fed script f s false is = tt
run_alike program word fed script f s true is =
    let same : word ≡ codes "run" = (bytes_eq-Decides word (codes "run")).0 is in
    rw same (read_task _ (Running fed script false) (run_faults program fed script f s) (run_task program fed script f s))

check_alike : (program word fed script : Text) (other : Option NamedTask) → IsValue fed → IsValue script → (b : Bool) → bytes_eq word (codes "check") ≡ b → IfSome other (λ task. clap_task (program ∷ word ∷ fed ∷ script ∷ []) ≡ Some task)
    → IfSome (if b then Some (Check fed script) else other) (λ task. clap_task (program ∷ word ∷ fed ∷ script ∷ []) ≡ Some task)
check_alike program word fed script other f s false is alike = alike
check_alike program word fed script other f s true is alike =
    let same : word ≡ codes "check" = (bytes_eq-Decides word (codes "check")).0 is in
    rw same (read_task _ (Check fed script) (check_faults program fed script f s) (check_task program fed script f s))

play_alike : (program word fed script : Text) (other : Option NamedTask) → IsValue fed → IsValue script → (b : Bool) → bytes_eq word (codes "play") ≡ b → IfSome other (λ task. clap_task (program ∷ word ∷ fed ∷ script ∷ []) ≡ Some task)
    → IfSome (if b then Some (Play fed script) else other) (λ task. clap_task (program ∷ word ∷ fed ∷ script ∷ []) ≡ Some task)
play_alike program word fed script other f s false is alike = alike
play_alike program word fed script other f s true is alike =
    let same : word ≡ codes "play" = (bytes_eq-Decides word (codes "play")).0 is in
    rw same (read_task _ (Play fed script) (play_faults program fed script f s) (play_task program fed script f s))

script_alike : (program word fed script : Text) (b : Bool) → (is_operand fed && is_operand script) ≡ b → IfSome (if b then plain_script_task word fed script else None) (λ task. clap_task (program ∷ word ∷ fed ∷ script ∷ []) ≡ Some task)
script_alike program word fed script false is = tt
script_alike program word fed script true is =
    let names = both (is_operand fed) (is_operand script) is in
    let f = plain_value fed names.0 in
    let s = plain_value script names.1 in
    play_alike program word fed script _ f s _ refl (check_alike program word fed script _ f s _ refl (run_alike program word fed script f s _ refl))

if_task : (o : Option NamedTask) (P : Type 0) (Q : NamedTask → Type 0) → IfSome o Q → IfSome o (λ task. P → Q task)
if_task None P Q is = tt
if_task (Some task) P Q is = λ _. is

-- a plain form asks for what clap reads of it
pub read_alike : (words : List Text) → IsReadAlike words
read_alike [] = λ more. absurd (omega (arith, more))
read_alike (program ∷ []) = λ more. absurd (omega (arith, more))
read_alike (program ∷ word ∷ []) = tt
read_alike (program ∷ word ∷ fed ∷ []) = if_task _ _ _ (fed_alike program word fed _ refl)
read_alike (program ∷ word ∷ fed ∷ script ∷ []) = if_task _ _ _ (script_alike program word fed script _ refl)
read_alike (program ∷ word ∷ fed ∷ script ∷ more ∷ rest) = tt
