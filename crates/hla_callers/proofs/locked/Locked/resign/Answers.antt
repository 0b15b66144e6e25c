use Rattle.std.proofs.Common.{length}
use Rattle.hla_history.specs.Hosting.{held_of}
use Rattle.hla_callers.proofs.Known.{told_resigned}
use Rattle.hla_callers.proofs.locked.Locked.resign.Goals as goal

pub returns-clause-told : goal.returns-clause-told
returns-clause-told g c =
    let done = c.in_ok-stepped in
    told_resigned g.B.FederateAmbassador.heard done.back (held_of (g.H.History.value c.self.inside.shared)) (held_of (g.H.History.value c.resign.new.self)) (length (g.H.History.value c.self.inside.shared).history) c.args.actor c.args.execution c.args.federate c.args.action
    done.stepped.answer done.stepped.own.choice done.stepped.own c.kept.ensures done.ensures.asked done.ensures.recorded done.ensures.heard
