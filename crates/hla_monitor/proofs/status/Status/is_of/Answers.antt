use Rattle.std.proofs.Common.{sym, ap, ◌∙◌, subst, arith}
use Rattle.hla_monitor.specs.Counts.{IsBelow, status_after}
use Rattle.hla_monitor.specs.declared.status.Status.{Status}
use Rattle.hla_monitor.proofs.Counting.{begun_below, begun_more}
use Rattle.hla_monitor.proofs.status.Status.is_of.Goals as goal

pub with-counted-requires : goal.with-counted-requires
with-counted-requires c =
    let P : Status → Type 0 = λ s. IsBelow 4611686018427387904 s in
    subst P (sym c.loop-entry.invariant) (begun_below c.args.entries.now c.loop-entry.entry-index 4611686018427387904 (omega arith))

pub loop-entry-preserved : goal.loop-entry-preserved
loop-entry-preserved c =
    let r = c.entry-item.result in
    c.with-counted.ensures ∙ ap (λ (s : Status). status_after s r) c.loop-entry.invariant
    ∙ begun_more c.args.entries.now c.loop-entry.entry-index r c.loop-entry-test.true c.entry-item.is
