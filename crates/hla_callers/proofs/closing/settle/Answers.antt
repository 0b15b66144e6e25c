use Rattle.std.proofs.Common.{ap, sym, subst, arith, List, length}
use Rattle.hla_machine.specs.declared.step.Record.{Record}
use Rattle.hla_callers.specs.Callers.{Leaver}
use Rattle.hla_callers.specs.Close.{AllAgree, AreOfCallers}
use Rattle.hla_callers.proofs.Counting.{here_length}
use Rattle.hla_callers.proofs.Whole.{nobody_else}
use Rattle.hla_callers.proofs.closing.settle.Goals as goal

pub take_records-records-requires : goal.take_records-records-requires
take_records-records-requires g c =
    omega (arith, here_length c.args.handed c.args.lefts.items c.requires.here, c.merged-all.ensures.parts, c.merged-all.ensures.bound, c.merge.ensures.parts, c.merge.ensures.apart, c.requires.parts, c.requires.rest)

pub returns-clause-theirs : goal.returns-clause-theirs
returns-clause-theirs g c = λ unused own. subst (AreOfCallers c.args.handed) (sym c.take_records-records.ensures.records) (nobody_else (g.H.History.value c.args.shared.now).history c.args.handed c.args.lefts.items c.args.seat c.requires.here
    (omega (arith, c.merged-all.ensures.parts, c.merged-all.ensures.bound, c.merge.ensures.parts, c.merge.ensures.apart, c.requires.parts, c.requires.rest))
    (subst (λ (ls : List Leaver). AllAgree (g.H.History.value c.args.shared.now).history ls c.args.seat) c.as_slice.ensures.value c.in_default.ensures.none) own
    (omega (arith, ap (λ (rs : List Record). length rs) c.take_records-records.ensures.records, c.take_records-records.ensures.amount, c.merged-all.ensures.amount, c.merge.ensures.amount, c.into_share-share.ensures.acts, unused)))
