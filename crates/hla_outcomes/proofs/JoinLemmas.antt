-- Which lines take an ambassador.
use Rattle.std.proofs.Common.{◌≡◌, ◌+◌, ◌<◌, ℕ, List, length, drop, get_or, ap, sym, ◌∙◌}
use Rattle.std.proofs.lemmas.List.{at_drop_more}
use Rattle.hla_commands.specs.declared.lines.Line.{Line}
use Rattle.hla_outcomes.specs.Joining.{joins, joins_by}

-- one line further
pub joins_more : (lines : List Line) (i : ℕ) (l : Line) → i < length lines → l ≡ get_or lines i l → joins (drop i lines) ≡ joins_by l.command + joins (drop (i + 1) lines)
joins_more lines i l within is = at_drop_more joins lines i l within ∙ ap (λ (x : Line). joins_by x.command + joins (drop (i + 1) lines)) (sym is)
