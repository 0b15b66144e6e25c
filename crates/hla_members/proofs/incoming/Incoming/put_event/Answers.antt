use Rattle.std.proofs.Common.{◌≤◌, ◌-◌, ◌∷◌, ◌++◌, List, [], length, set, ap, ◌∙◌, arith}
use Rattle.std.proofs.Math.Seq.{map-set_same}
use Rattle.std.proofs.lemmas.List.{map-set}
use Rattle.hla_base.specs.Tables.{upd}
use Rattle.hla_null_message.specs.declared.message.Message.{Message}
use Rattle.hla_null_message.specs.declared.message.Message.TheVariants as message
use Rattle.hla_null_message.specs.Wires.{WireValue}
use Rattle.hla_execution.specs.MemberValue.{item}
use Rattle.hla_members.specs.Putting.{without_last}
use Rattle.hla_members.specs.Rooms.{IncomingValue}
use Rattle.hla_members.proofs.TakingBack.{put_off, within_wires}
use Rattle.hla_members.proofs.Rooms.{on_ok, on_err}
use Rattle.hla_members.proofs.Wires.{read_messages, set_messages}
use Rattle.hla_members.proofs.incoming.Incoming.put_event.Goals as goal

pub returns-clause-wires : goal.returns-clause-wires
returns-clause-wires c =
    let ws = c.self.inside.wires.items in
    let within : c.args.from ≤ length ws = omega (arith, c.requires.within, c.self.invariant) in
    on_ok c.put_event.result (λ put.
    set_messages ws c.args.self.now c.self.view_is c.args.from c.requires.some within c.put_event.new.self
    ∙ ap (upd (item [] c.args.self.now.wires) c.args.from) (put
    ∙ ap (λ (ms : List Message). ms ++ message.Event c.args.event ∷ []) (read_messages ws c.args.self.now c.self.view_is c.args.from c.requires.some within c.index_mut.result.now c.index_mut.ensures.value)))
    c.put_event.ensures.ok

pub returns-clause-back : goal.returns-clause-back
returns-clause-back c =
    let ws = c.self.inside.wires.items in
    let within : c.args.from ≤ length ws = omega (arith, c.requires.within, c.self.invariant) in
    let old = c.index_mut.result.now in
    on_ok c.put_event.result (λ put.
    ap (without_last c.args.from) (map-set (λ (x : WireValue). x.messages) ws (c.args.from - 1) c.put_event.new.self
    ∙ ap (λ (v : IncomingValue). set v.wires (c.args.from - 1) c.put_event.new.self.messages) c.self.view_is
    ∙ ap (set c.args.self.now.wires (c.args.from - 1)) put)
    ∙ put_off c.args.self.now.wires c.args.from old.messages (message.Event c.args.event) c.requires.some (within_wires ws c.args.self.now c.self.view_is c.args.from within)
    (read_messages ws c.args.self.now c.self.view_is c.args.from c.requires.some within old c.index_mut.ensures.value))
    c.put_event.ensures.ok

pub returns-clause-unchanged : goal.returns-clause-unchanged
returns-clause-unchanged c =
    on_err c.put_event.result (λ same.
    map-set_same (λ (x : WireValue). x.messages) c.self.inside.wires.items (c.args.from - 1) c.put_event.new.self c.index_mut.result.now
    (same ∙ ap (λ (x : WireValue). x.messages) c.index_mut.ensures.value)
    ∙ ap (λ (v : IncomingValue). v.wires) c.self.view_is)
    c.put_event.ensures.unchanged
