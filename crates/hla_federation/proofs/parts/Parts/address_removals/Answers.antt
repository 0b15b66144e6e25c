use Rattle.std.proofs.Common.{refl, arith}
use Rattle.hla_federation.specs.Steps.State.{state_of}
use Rattle.hla_federation.proofs.Steps.Resigning.{removals_more}
use Rattle.hla_federation.proofs.parts.Parts.address_removals.Goals as goal

pub loop-object-preserved : goal.loop-object-preserved
loop-object-preserved c = record {
  serial = let before = c.loop-object.invariant.serial in omega (arith, before);
  added = removals_more (state_of c.args.self.now).directory c.args.sender c.args.serial ((state_of c.args.self.now).row c.args.sender) c.loop-object.object-index c.args.objects.now _ c.loop-object.next _ _ _
      (omega arith) refl c.loop-object.invariant.serial c.loop-object.invariant.added c.in_ok-address_removal.ensures.ok;
}
