use Rattle.std.proofs.Common.{sym, ◌∙◌}
use Rattle.hla_files.proofs.PartLemmas.{cuts}
use Rattle.hla_files.proofs.parts.parts.Goals as goal

pub loop-line-preserved : goal.loop-line-preserved
loop-line-preserved c =
    cuts c.args.input.now c.loop-line.at c.in-Some.line.now c.next.new.self c.loop-line.lines c.in-Some.ensures.steps c.loop-line.invariant (sym c.is_separator.ensures ∙ c.if-is_separator.false)
