use Rattle.std.proofs.Common.{◌-◌, set, sym, ap, ◌∙◌}
use Rattle.hla_component_rules.specs.Picking.{picked_by, local_pick, local_picking}
use Rattle.hla_components.specs.Locals.{callback_given}
use Rattle.hla_execution.specs.MemberValue.{MemberValue, members_of}
use Rattle.hla_members.proofs.Rooms.{on_ok, on_err, if_ok, read_shown, set_shown, same_shown, within_shown}
use Rattle.hla_members.proofs.MemberTables.{picked_up}
use Rattle.hla_members.proofs.members.Members.pick_up.Goals as goal

pub returns-clause-callback : goal.returns-clause-callback
returns-clause-callback c =
    let is = read_shown c.self.inside.members.items c.args.self.now c.self.view_is c.args.federate c.requires.some c.requires.within c.index_mut.result.now c.index_mut.ensures.value in
    if_ok c.pick_up.result (λ k e. e ∙ ap (λ (m : MemberValue). callback_given (picked_by m.local.row (local_pick m.local))) is) c.pick_up.ensures.callback

pub returns-clause-state : goal.returns-clause-state
returns-clause-state c =
    let is = read_shown c.self.inside.members.items c.args.self.now c.self.view_is c.args.federate c.requires.some c.requires.within c.index_mut.result.now c.index_mut.ensures.value in
    on_ok c.pick_up.result (λ state.
    ap members_of (set_shown c.self.inside.members.items c.args.self.now c.self.view_is c.args.federate c.requires.some c.requires.within c.pick_up.new.self)
    ∙ ap (λ (m : MemberValue). members_of (set c.args.self.now.shown (c.args.federate - 1) m)) (state ∙ ap (λ (m : MemberValue). record m { local = local_picking m.local (local_pick m.local) }) is)
    ∙ picked_up c.args.self.now.shown c.args.federate c.requires.some (within_shown c.self.inside.members.items c.args.self.now c.self.view_is c.args.federate c.requires.some c.requires.within) _)
    c.pick_up.ensures.state

pub returns-clause-memory : goal.returns-clause-memory
returns-clause-memory c =
    let is = read_shown c.self.inside.members.items c.args.self.now c.self.view_is c.args.federate c.requires.some c.requires.within c.index_mut.result.now c.index_mut.ensures.value in
    on_err c.pick_up.result (λ enters. sym (ap (λ (m : MemberValue). local_pick m.local) is) ∙ enters) c.pick_up.ensures.memory

pub returns-clause-unchanged : goal.returns-clause-unchanged
returns-clause-unchanged c = on_err c.pick_up.result (same_shown c.self.inside.members.items c.args.self.now c.self.view_is c.args.federate c.requires.some c.requires.within c.index_mut.result.now c.pick_up.new.self c.index_mut.ensures.value) c.pick_up.ensures.unchanged
