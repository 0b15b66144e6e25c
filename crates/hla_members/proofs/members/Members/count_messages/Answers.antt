use Rattle.std.proofs.Common.{◌+◌, ◌-◌, set, ap, ◌∙◌}
use Rattle.hla_execution.specs.MemberValue.{MemberValue, members_of}
use Rattle.hla_members.proofs.Rooms.{read_shown, set_shown, within_shown}
use Rattle.hla_members.proofs.MemberTables.{counted}
use Rattle.hla_members.proofs.members.Members.count_messages.Goals as goal

pub count_messages-requires : goal.count_messages-requires
count_messages-requires c =
    let is = read_shown c.self.inside.members.items c.args.self.now c.self.view_is c.args.federate c.requires.some c.requires.within c.index_mut.result.now c.index_mut.ensures.value in
    rw is c.requires.serials

pub returns : goal.returns
returns c =
    let is = read_shown c.self.inside.members.items c.args.self.now c.self.view_is c.args.federate c.requires.some c.requires.within c.index_mut.result.now c.index_mut.ensures.value in
    ap members_of (set_shown c.self.inside.members.items c.args.self.now c.self.view_is c.args.federate c.requires.some c.requires.within c.count_messages.new.self)
    ∙ ap (λ (m : MemberValue). members_of (set c.args.self.now.shown (c.args.federate - 1) m)) (ap (λ r. r.shown) c.count_messages.ensures ∙ ap (λ (m : MemberValue). record m { next_serial = m.next_serial + c.args.count }) is)
    ∙ counted c.args.self.now.shown c.args.federate c.requires.some (within_shown c.self.inside.members.items c.args.self.now c.self.view_is c.args.federate c.requires.some c.requires.within) _
