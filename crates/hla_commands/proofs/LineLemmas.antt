-- One more line.
use Rattle.std.proofs.Common.{◌≡◌, ℕ, ◌+◌, List, [], ◌∷◌, ◌++◌, Option, None, Some, Result, Ok, Err, refl, sym, ap, ◌∙◌, append_assoc}
use Rattle.std.proofs.lemmas.List.{append-nil}
use Rattle.hla_commands.specs.Reading.{Means}
use Rattle.hla_commands.specs.Script.{command_of, line_then, script_from, with_front, IsFirstScriptFault}
use Rattle.hla_commands.specs.declared.lines.Command.{Command}
use Rattle.hla_commands.specs.declared.lines.ScriptFaultKind.{ScriptFaultKind}
use Rattle.hla_commands.specs.declared.lines.ScriptFaultKind.TheVariants.{OutOfMemory}
use Rattle.hla_commands.specs.declared.lines.Line.{Line}
use Rattle.hla_commands.specs.declared.lines.ScriptFault.{ScriptFault}

abbrev All : Type 0
All = Result (List Line) ScriptFault

pub skipped_line : (front : List Line) (n : ℕ) (l : List ℕ) (ls : List (List ℕ)) (all : All) → command_of l ≡ Ok None → with_front front (script_from n (l ∷ ls)) ≡ all → with_front front (script_from (n + 1) ls) ≡ all
unfolding script_from
skipped_line front n l ls all e h = let one : with_front front (script_from n (l ∷ ls)) ≡ with_front front (script_from (n + 1) ls) = ap (λ (r : Result (Option Command) ScriptFaultKind). with_front front (line_then r (n + 1) (script_from (n + 1) ls))) e in sym one ∙ h

regroup : (front : List Line) (x : Line) (c : Command) (n : ℕ) (r : All) → with_front front (line_then (Ok (Some c)) n r) ≡ with_front (front ++ record { number = n; command = c } ∷ []) r
regroup front x c n (Ok ls) = ap (λ (all : List Line). Ok all) (sym (append_assoc front (record { number = n; command = c } ∷ []) ls))
regroup front x c n (Err e) = refl

pub added_line : (front : List Line) (n : ℕ) (l : List ℕ) (ls : List (List ℕ)) (c : Command) (all : All) → command_of l ≡ Ok (Some c) → with_front front (script_from n (l ∷ ls)) ≡ all
    → with_front (front ++ record { number = n + 1; command = c } ∷ []) (script_from (n + 1) ls) ≡ all
unfolding script_from
added_line front n l ls c all e h =
    let one : with_front front (script_from n (l ∷ ls)) ≡ with_front front (line_then (Ok (Some c)) (n + 1) (script_from (n + 1) ls)) = ap (λ (r : Result (Option Command) ScriptFaultKind). with_front front (line_then r (n + 1) (script_from (n + 1) ls))) e in
    sym (regroup front (record { number = n + 1; command = c }) c (n + 1) (script_from (n + 1) ls)) ∙ sym one ∙ h

faulty_line : (front : List Line) (n : ℕ) (l : List ℕ) (ls : List (List ℕ)) (k : ScriptFaultKind) (all : All) → command_of l ≡ Err k → with_front front (script_from n (l ∷ ls)) ≡ all → all ≡ Err (record { line = n + 1; kind = k })
unfolding script_from
faulty_line front n l ls k all e h =
    let one : with_front front (script_from n (l ∷ ls)) ≡ Err (record { line = n + 1; kind = k }) = ap (λ (r : Result (Option Command) ScriptFaultKind). with_front front (line_then r (n + 1) (script_from (n + 1) ls))) e in sym h ∙ one

pub fails_as : (front : List Line) (n : ℕ) (l : List ℕ) (ls : List (List ℕ)) (k : ScriptFaultKind) (all : All) → Means {X = Option Command} (Err k) (command_of l) → with_front front (script_from n (l ∷ ls)) ≡ all → IsFirstScriptFault (n + 1) k all
fails_as front n l ls OutOfMemory all e h = tt
fails_as front n l ls k all e h = faulty_line front n l ls k all e h

pub end_of_lines : (front : List Line) (n : ℕ) (all : All) → with_front front (script_from n []) ≡ all → all ≡ Ok front
unfolding script_from
end_of_lines front n all h = sym h ∙ ap (λ (ls : List Line). Ok ls) (append-nil front)

pub ruleset steps = (skipped_line, added_line, end_of_lines)
