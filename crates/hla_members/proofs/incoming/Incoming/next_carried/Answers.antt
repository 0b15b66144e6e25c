use Rattle.std.proofs.Common.{◌≤◌, length, sym, ap, ◌∙◌, arith}
use Rattle.std.specs.Prelude.{option_copied}
use Rattle.hla_members.specs.Members.{carried_of}
use Rattle.hla_members.proofs.Wires.{read_messages, first_carried, none_carried}
use Rattle.hla_members.proofs.incoming.Incoming.next_carried.Goals as goal

pub returns-in-Some : goal.returns-in-Some
returns-in-Some c =
    let within : c.args.from ≤ length c.self.inside.wires.items = omega (arith, c.requires.within, c.self.invariant) in
    let is = read_messages c.self.inside.wires.items c.args.self.now c.self.view_is c.args.from c.requires.some within c.index.result.now c.index.ensures in
    c.carried_by.ensures ∙ first_carried c.args.from c.index.result.now.messages c.in-Some.message.now (sym (ap option_copied c.in-Some.is) ∙ c.first.ensures) ∙ ap (carried_of c.args.from) is

pub returns-in-None : goal.returns-in-None
returns-in-None c =
    let within : c.args.from ≤ length c.self.inside.wires.items = omega (arith, c.requires.within, c.self.invariant) in
    let is = read_messages c.self.inside.wires.items c.args.self.now c.self.view_is c.args.from c.requires.some within c.index.result.now c.index.ensures in
    none_carried c.args.from c.index.result.now.messages (sym (ap option_copied c.in-None.is) ∙ c.first.ensures) ∙ ap (carried_of c.args.from) is
