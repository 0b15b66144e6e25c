use Rattle.std.proofs.Common.{◌≡◌, ◌+◌, ◌≤◌, ℕ, [], length, take, get_or}
use Rattle.std.specs.List.{flat_map, enumerate_from}
use Rattle.hla_transcript.specs.Listed.{own_parameter_text}
use Rattle.hla_transcript.proofs.listing.parameter_texts.Given as goal

abbrev pub invariant-loop-place : goal.invariant-loop-place
invariant-loop-place l = record {
  many : length l.texts.items ≡ l.fn.classes + 1;
  made : (class : ℕ) → class ≤ l.fn.classes → get_or l.texts.items class [] ≡ flat_map (λ p. own_parameter_text class p.0 p.1) (take l.place (enumerate_from 1 l.parameters));
}
