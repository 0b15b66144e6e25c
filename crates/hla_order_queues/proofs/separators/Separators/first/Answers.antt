-- The first place is that of the first block.
use Rattle.std.proofs.Common.{ap, ◌∙◌}
use Rattle.std.specs.List.{slice_get}
use Rattle.std.specs.Option.{option_map}
use Rattle.hla_order_queues.proofs.UnderSeparators.PlacesLemmas.{first_separator}
use Rattle.hla_order_queues.proofs.separators.Separators.first.Goals as goal

pub returns-in-Some : goal.returns-in-Some
returns-in-Some c =
    first_separator c.self.inside.blocks c.self.inside.places.entries c.in-Some.separator.now c.in-Some.field-0-1.now c.in-Some.ensures.first ∙ ap (λ zs. option_map (λ e. e.0) (slice_get zs 0)) c.self.view_is
