-- What a test tells of a record
use Rattle.hla_verdicts.specs.declared.verdict.Verdict.{Verdict}
use Rattle.hla_verdicts.specs.declared.verdict.Verdict.TheVariants.{Allowed, Wrong}

-- P says that it is allowed, and Q that what is kept after it is the state after it
abbrev pub Judged : Type 0 → Type 0 → Verdict → Type 0
Judged P Q Allowed = P × Q
Judged P Q Wrong = P → ⊥
