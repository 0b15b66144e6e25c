use Rattle.hla_transcript.specs.Listed.{AreEmpty}
use Rattle.hla_transcript.proofs.listing.empty_texts.Given as goal

abbrev pub invariant-loop : goal.invariant-loop
invariant-loop l = AreEmpty l.counter l.texts.items
