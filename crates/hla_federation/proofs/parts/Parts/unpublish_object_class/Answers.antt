use Rattle.hla_federation.proofs.Steps.Wholes.{whole_published}
use Rattle.hla_federation.proofs.parts.Parts.unpublish_object_class.Goals as goal

pub returns-clause-whole : goal.returns-clause-whole
returns-clause-whole c =
    let whole = rw (← c.self.view_is) at c.requires.sound.whole in
    record { parts = rw c.unpublish_object_class.ensures (whole_published _ _ _ whole.parts _ _); named = whole.named }
