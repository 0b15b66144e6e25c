use Rattle.std.proofs.Common.{◌-◌, length, drop, arith}
use Rattle.hla_transcript.proofs.WriteLemmas.{appends_more, takes_more}
use Rattle.std.proofs.lemmas.List.{length-drop, length-take}
use Rattle.std.proofs.lemmas.Grind.{common_steps}
use Rattle.hla_transcript.proofs.writing.write_whole.Goals as goal

pub loop-at-preserved : goal.loop-at-preserved
loop-at-preserved g c = record {
  within = omega (arith, c.in-Ok.ensures.bound, length-drop c.loop-at.at c.args.bytes.now, length-take (length c.args.bytes.now - c.loop-at.at) (drop c.loop-at.at c.args.bytes.now));
  written = appends_more _ _ _ _ _ _ c.loop-at.invariant.written c.in-Ok.ensures.bytes (takes_more c.args.bytes.now c.loop-at.at c.in-Ok.taken c.loop-at.invariant.within);
  sound = let f = c.in-Ok.ensures.failure in let z = c.if-taken-eq0.false in let s = c.loop-at.invariant.sound in grind (arith, common_steps);
}
