use Rattle.std.proofs.Common.{◌≡◌, ◌++◌, take}
use Rattle.std.specs.List.{flat_map}
use Rattle.hla_catalogue.specs.Lookup.{attribute_name}
use Rattle.hla_transcript.specs.Printed.{pair_text}
use Rattle.hla_transcript.proofs.printing.attributes.Given as goal

abbrev pub invariant-loop-pair : goal.invariant-loop-pair
invariant-loop-pair l = l.text ≡ l.fn.text ++ flat_map (pair_text (attribute_name l.catalogue)) (take l.pair-index l.values)
