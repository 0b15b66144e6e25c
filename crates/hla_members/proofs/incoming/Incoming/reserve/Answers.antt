use Rattle.std.proofs.Common.{◌≡◌, ◌≢◌, ◌≤◌, ◌-◌, ⊎_elim, ℕ, length, ap, ◌∙◌, arith}
use Rattle.std.proofs.Math.Seq.{map-set_same}
use Rattle.std.proofs.lemmas.Bool.{cases_eq}
use Rattle.hla_null_message.specs.Wires.{WireValue}
use Rattle.hla_execution.specs.MemberValue.{item}
use Rattle.hla_members.specs.Rooms.{IncomingValue}
use Rattle.hla_base.proofs.Tables.{upd_same, upd_other}
use Rattle.hla_members.proofs.Wires.{read_room, set_rooms}
use Rattle.hla_members.proofs.incoming.Incoming.reserve.Goals as goal

pub returns-clause-wires : goal.returns-clause-wires
returns-clause-wires c =
    map-set_same (λ (x : WireValue). x.messages) c.self.inside.wires.items (c.args.from - 1) c.reserve.new.self c.index_mut.result.now
    (c.reserve.ensures.messages ∙ ap (λ (x : WireValue). x.messages) c.index_mut.ensures.value)
    ∙ ap (λ (v : IncomingValue). v.wires) c.self.view_is

pub returns-clause-ok : goal.returns-clause-ok
returns-clause-ok c =
    let within : c.args.from ≤ length c.self.inside.wires.items = omega (arith, c.requires.within, c.self.invariant) in
    let is = ap (λ (t : ℕ → ℕ). t c.args.from) (set_rooms c.self.inside.wires.items c.args.self.now c.self.view_is c.args.from c.requires.some within c.reserve.new.self)
    ∙ upd_same (item 0 c.args.self.now.rooms) c.args.from c.reserve.new.self.room in
    rw is c.reserve.ensures.ok

pub returns-clause-more : goal.returns-clause-more
returns-clause-more c g =
    let within : c.args.from ≤ length c.self.inside.wires.items = omega (arith, c.requires.within, c.self.invariant) in
    let is = ap (λ (t : ℕ → ℕ). t g) (set_rooms c.self.inside.wires.items c.args.self.now c.self.view_is c.args.from c.requires.some within c.reserve.new.self) in
    let read = read_room c.self.inside.wires.items c.args.self.now c.self.view_is c.args.from c.requires.some within c.index_mut.result.now c.index_mut.ensures.value in
    let more = c.reserve.ensures.more in
    ⊎_elim
    (λ (e : c.args.from ≡ g). let same = upd_same (item 0 c.args.self.now.rooms) c.args.from c.reserve.new.self.room in rw (is, ← e, same) (omega (arith, read, more)))
    (λ (ne : c.args.from ≢ g). let other = upd_other (item 0 c.args.self.now.rooms) c.args.from c.reserve.new.self.room g ne in rw (is, other) (omega arith))
    (cases_eq c.args.from g)
