use Rattle.std.proofs.Common.{◌≤◌, ◌-◌, List, length, take, set, ap, ◌∙◌, arith}
use Rattle.std.proofs.lemmas.List.{map-set}
use Rattle.hla_null_message.specs.declared.message.Message.{Message}
use Rattle.hla_null_message.specs.Wires.{WireValue}
use Rattle.hla_members.specs.Rooms.{IncomingValue}
use Rattle.hla_members.proofs.Wires.{read_messages}
use Rattle.hla_members.proofs.incoming.Incoming.take_last.Goals as goal

pub returns : goal.returns
returns c =
    let ws = c.self.inside.wires.items in
    let within : c.args.from ≤ length ws = omega (arith, c.requires.within, c.self.invariant) in
    map-set (λ (x : WireValue). x.messages) ws (c.args.from - 1) c.take_last.new.self
    ∙ ap (λ (v : IncomingValue). set v.wires (c.args.from - 1) c.take_last.new.self.messages) c.self.view_is
    ∙ ap (set c.args.self.now.wires (c.args.from - 1)) (c.take_last.ensures
    ∙ ap (λ (ms : List Message). take (length ms - 1) ms) (read_messages ws c.args.self.now c.self.view_is c.args.from c.requires.some within c.index_mut.result.now c.index_mut.ensures.value))
