use Rattle.hla_federation.proofs.Steps.Wholes.{whole_subscribed_interaction}
use Rattle.hla_federation.proofs.parts.Parts.unsubscribe_interaction_class.Goals as goal

pub returns-clause-whole : goal.returns-clause-whole
returns-clause-whole c =
    let whole = rw (← c.self.view_is) at c.requires.sound.whole in
    let joined = rw (← c.self.view_is) at c.requires.joined in
    record { parts = rw c.unsubscribe_interaction_class.ensures (whole_subscribed_interaction _ _ _ whole.parts c.args.federate c.args.class joined _); named = whole.named }
