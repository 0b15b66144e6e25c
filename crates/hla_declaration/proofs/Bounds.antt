-- A federate that has not joined declares nothing
use Rattle.std.proofs.Common.{ℕ, ◌<◌, refl}
use Rattle.hla_declaration.specs.Lists.{DeclarationLists}
use Rattle.hla_declaration.specs.Declarations.{declarations_of, IsSilent}
use Rattle.hla_catalogue.proofs.ItemLemmas.{item_numbered_past}

pub silent_past : (d : DeclarationLists) (f class : ℕ) → (declarations_of d).federates < f → IsSilent (declarations_of d) f class
silent_past d f class past =
    let none = item_numbered_past d.members f past in
    record { published = rw none refl; subscribed = rw none refl; published_interaction = rw none refl; subscribed_interaction = rw none refl }

pub silent_zero : (d : DeclarationLists) (class : ℕ) → IsSilent (declarations_of d) 0 class
silent_zero d class = record { published = refl; subscribed = refl; published_interaction = refl; subscribed_interaction = refl }
