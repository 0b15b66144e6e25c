use Rattle.hla_federation.proofs.Steps.Sound.{state_new, sound_new}
use Rattle.hla_federation.proofs.federation.Federation.new.Goals as goal

pub invariant_of-result : goal.invariant_of-result
invariant_of-result c = sound_new c.args.catalogue c.new.result c.new.ensures.catalogue c.new.ensures.members c.new.ensures.declarations c.new.ensures.objects c.new.ensures.points

pub returns : goal.returns
returns c = state_new c.args.catalogue c.new.result c.new.ensures.catalogue c.new.ensures.members c.new.ensures.declarations c.new.ensures.objects c.new.ensures.points
