-- Readings that may fail, and what a function answers that may also run out of memory
use Rattle.std.specs.Prelude.{◌≡◌, ℕ, List, Result, Ok, Err}
use Rattle.hla_commands.specs.declared.lines.ScriptFaultKind.{ScriptFaultKind}
use Rattle.hla_commands.specs.declared.lines.ScriptFaultKind.TheVariants.{OutOfMemory}

-- what words are read as, and the words behind it
abbrev pub Reading : Type 0 → Type 0
Reading X = Result (X × List (List ℕ)) ScriptFaultKind

-- what is read next, or the fault before it
abbrev pub read_then : {X Y : Type 0} → Result X ScriptFaultKind → (X → Result Y ScriptFaultKind) → Result Y ScriptFaultKind
read_then (Ok x) next = next x
read_then (Err kind) next = Err kind

-- the answer is what is meant, or that memory ran out
abbrev pub Means : {X : Type 0} → Result X ScriptFaultKind → Result X ScriptFaultKind → Type 0
Means (Ok x) meant = meant ≡ Ok x
Means (Err OutOfMemory) meant = Unit {0}
Means (Err kind) meant = meant ≡ Err kind

-- the same of a reader, with the words that it leaves
abbrev pub Reads : {X : Type 0} → Result X ScriptFaultKind → List (List ℕ) → Reading X → Type 0
Reads (Ok x) left meant = meant ≡ Ok (x, left)
Reads (Err OutOfMemory) left meant = Unit {0}
Reads (Err kind) left meant = meant ≡ Err kind

-- the same of a reader that takes no memory: the answer is what is meant
abbrev pub Gives : {X : Type 0} → Result X ScriptFaultKind → List (List ℕ) → Reading X → Type 0
Gives (Ok x) left meant = meant ≡ Ok (x, left)
Gives (Err kind) left meant = meant ≡ Err kind
