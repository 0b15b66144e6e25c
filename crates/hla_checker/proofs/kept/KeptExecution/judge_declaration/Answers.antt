use Rattle.std.proofs.Common.{refl}
use Rattle.hla_verdicts.specs.Kept.{KeptValue, central_of}
use Rattle.hla_checker.proofs.Verdicts.Declarations.{caller_within, declaration_done, declaration_fault_is, declaration_is, declared_class}
use Rattle.hla_checker.proofs.Verdicts.LookUps.{called_unchanged}
use Rattle.hla_checker.proofs.kept.KeptExecution.judge_declaration.Goals as goal

pub declare-requires-clause-some : goal.declare-requires-clause-some
declare-requires-clause-some c =
    let v : KeptValue = record { catalogue = c.self.inside.catalogue; declarations = c.self.inside.declarations; objects = c.self.inside.registry; accounts = c.self.inside.accounts; points = c.self.inside.points } in
    (caller_within v c.args.self.now c.args.federate c.self.view_is c.requires.consistent c.requires.joined).0

pub declare-requires-clause-joined : goal.declare-requires-clause-joined
declare-requires-clause-joined c =
    let v : KeptValue = record { catalogue = c.self.inside.catalogue; declarations = c.self.inside.declarations; objects = c.self.inside.registry; accounts = c.self.inside.accounts; points = c.self.inside.points } in
    (caller_within v c.args.self.now c.args.federate c.self.view_is c.requires.consistent c.requires.joined).1

pub declare-requires-clause-defined : goal.declare-requires-clause-defined
declare-requires-clause-defined c =
    let v : KeptValue = record { catalogue = c.self.inside.catalogue; declarations = c.self.inside.declarations; objects = c.self.inside.registry; accounts = c.self.inside.accounts; points = c.self.inside.points } in
    declared_class v c.args.self.now c.args.federate c.args.declaration c.declaration_fault-fault.result c.self.view_is c.requires.consistent c.declaration_fault-fault.ensures c.in-None.ensures.0

pub returns-in-Some : goal.returns-in-Some
returns-in-Some c =
    let now = c.args.self.now in
    let x = c.args.service.now in
    let of = declaration_is x c.args.declaration c.requires.declaration in
    called_unchanged now now c.args.federate x c.declaration_fault-fault.result c.args.outcome.now c.args.choice.now c.in-Some.verdict refl c.requires.consistent c.requires.joined
    (declaration_fault_is now now c.args.federate x c.args.declaration c.declaration_fault-fault.result c.args.outcome.now c.args.choice.now refl c.requires.consistent c.requires.joined of c.declaration_fault-fault.ensures)
    (c.in-Some.ensures (central_of now) c.args.federate x of.plain of.only)

pub returns-in-None : goal.returns-in-None
returns-in-None c =
    let v : KeptValue = record { catalogue = c.self.inside.catalogue; declarations = c.self.inside.declarations; objects = c.self.inside.registry; accounts = c.self.inside.accounts; points = c.self.inside.points } in
    let x = c.args.service.now in
    declaration_done v c.args.self.now c.args.federate x c.args.declaration c.declaration_fault-fault.result c.args.outcome.now c.args.choice.now c.self.view_is c.requires.consistent c.requires.joined
    (declaration_is x c.args.declaration c.requires.declaration) c.declaration_fault-fault.ensures c.declare.new.declarations c.in-None.ensures c.declare.ensures
