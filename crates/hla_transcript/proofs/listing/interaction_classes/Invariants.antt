use Rattle.std.proofs.Common.{◌≡◌, ◌++◌, take}
use Rattle.std.specs.List.{flat_map, enumerate_from}
use Rattle.hla_transcript.specs.Listed.{interaction_text}
use Rattle.hla_transcript.proofs.listing.interaction_classes.Given as goal

abbrev pub invariant-loop-place : goal.invariant-loop-place
invariant-loop-place l = l.text ≡ l.fn.text ++ flat_map (λ p. interaction_text l.parameters p.0 p.1) (take l.place (enumerate_from 1 l.classes))
