use Rattle.hla_federation.proofs.Steps.Posting.{sent_part}
use Rattle.hla_federation.proofs.parts.Parts.post_part.Goals as goal

pub returns-clause-sent : goal.returns-clause-sent
returns-clause-sent c = sent_part c.args.heading c.args.object c.args.values.now c.args.self.now c.post_update.new.self c.is_empty.result c.is_empty.ensures.1 c.if-is_empty.false c.in_ok-told.ensures.sent
