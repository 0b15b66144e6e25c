use Rattle.std.proofs.Common.{List, refl, sym, subst}
use Rattle.hla_machine.specs.declared.step.Record.{Record}
use Rattle.hla_callers.specs.Callers.{Leaver, Office}
use Rattle.hla_callers.specs.Close.{AllHere, AllKnown, AreOfCallers, DiffersFirst}
use Rattle.hla_interface.proofs.rti.Rti.close.Goals as goal

pub returns-in-Ok-clause-known : goal.returns-in-Ok-clause-known
returns-in-Ok-clause-known g c =
    subst (λ (o : Office). AllKnown c.in-Ok.closed c.args.lefts.items o.own) c.self.view_is
    (subst (λ (h : List Record). AllKnown h c.args.lefts.items c.self.inside.seat) (sym c.in-Ok.ensures.records) c.in-Ok.ensures.known)

pub returns-in-Ok-clause-theirs : goal.returns-in-Ok-clause-theirs
returns-in-Ok-clause-theirs g c =
    subst (λ (o : Office). AreOfCallers o.handed c.in-Ok.closed) c.self.view_is (c.in-Ok.ensures.theirs c.self.invariant.1 c.self.invariant.2)

pub returns-in-Ok-clause-here : goal.returns-in-Ok-clause-here
returns-in-Ok-clause-here g c =
    subst (λ (o : Office). AllHere o.handed c.args.lefts.items) c.self.view_is
    (subst (λ (ls : List Leaver). AllHere c.self.inside.handed ls) c.as_slice.ensures.value (c.if-not-all_here.ensures.0 refl))

pub returns-in-Err-clause-present : goal.returns-in-Err-clause-present
returns-in-Err-clause-present g c other =
    subst (λ (o : Office). AllHere o.handed c.args.lefts.items) c.self.view_is
    (subst (λ (ls : List Leaver). AllHere c.self.inside.handed ls) c.as_slice.ensures.value (c.if-not-all_here.ensures.0 refl))

pub returns-in-Err-clause-differs : goal.returns-in-Err-clause-differs
returns-in-Err-clause-differs g c k is =
    let h : List Record = c.deref_mut.result.now.held.history in
    let both = subst (λ (o : Office). AllKnown h c.args.lefts.items o.own × DiffersFirst h c.args.lefts.items o.own k) c.self.view_is (c.in-Err.ensures.compared k is, c.in-Err.ensures.differs k is) in
    (h, c.in-Err.ensures.replays, both.0, both.1)

pub returns-in-Err-clause-unknown : goal.returns-in-Err-clause-unknown
returns-in-Err-clause-unknown g c k is = (c.deref_mut.result.now.held.history, c.in-Err.ensures.replays, c.in-Err.ensures.first k is, (c.in-Err.ensures.unknown k is).0)
