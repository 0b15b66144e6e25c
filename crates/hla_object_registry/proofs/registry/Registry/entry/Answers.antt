use Rattle.std.proofs.Common.{◌≡◌, ◌-◌, Option, Some, None, refl, sym, ap, ◌∙◌, slice_get}
use Rattle.std.specs.Option.{option_map}
use Rattle.std.specs.Map.Iter.{deref_pair}
use Rattle.hla_object_registry.specs.Entries.{registered_object}
use Rattle.hla_object_registry.proofs.Items.{item_numbered_within}
use Rattle.hla_object_registry.proofs.EntryLemmas.{slice_get-registered}
use Rattle.hla_object_registry.proofs.registry.Registry.entry.Goals as goal

mapped_twice : {X Y Z : Type 0} (g : Y → Z) (f : X → Y) (o : Option X) → option_map (λ x. g (f x)) o ≡ option_map g (option_map f o)
mapped_twice g f None = refl
mapped_twice g f (Some x) = refl

pub returns-else-object-eq0 : goal.returns-else-object-eq0
returns-else-object-eq0 c =
    mapped_twice registered_object deref_pair c.get_index.result
    ∙ ap (option_map registered_object) c.get_index.ensures.entry
    ∙ slice_get-registered c.self.inside.entries.entries (c.args.object - 1)
    ∙ ap (λ rs. slice_get rs (c.args.object - 1)) c.self.view_is
    ∙ sym (item_numbered_within c.args.self.now c.args.object c.if-object-eq0.false)
