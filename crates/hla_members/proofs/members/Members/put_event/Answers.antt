use Rattle.std.proofs.Common.{◌-◌, set, true, refl, ap, ◌∙◌, arith}
use Rattle.hla_base.specs.Tables.{upd}
use Rattle.hla_execution.specs.MemberValue.{MemberValue, members_of, item, no_member}
use Rattle.hla_members.specs.Putting.{taken_back}
use Rattle.hla_members.proofs.MemberTables.{put}
use Rattle.hla_members.proofs.Rooms.{on_ok, on_err, read_shown, set_shown, same_shown, within_shown}
use Rattle.hla_members.proofs.TakingBack.{item_is, taken_put}
use Rattle.hla_members.proofs.members.Members.put_event.Goals as goal

pub returns-clause-wires : goal.returns-clause-wires
returns-clause-wires c =
    let members = c.self.inside.members.items in
    let now = c.args.self.now in
    let is = read_shown members now c.self.view_is c.args.to c.requires.some c.requires.within c.index_mut.result.now c.index_mut.ensures.value in
    on_ok c.put_event.result (λ wires.
    ap members_of (set_shown members now c.self.view_is c.args.to c.requires.some c.requires.within c.put_event.new.self)
    ∙ ap (λ (m : MemberValue). members_of (set now.shown (c.args.to - 1) m)) (c.put_event.ensures.same ∙ ap (λ (m : MemberValue). record m { incoming = c.put_event.new.self.shown.incoming }) is)
    ∙ put now.shown c.args.to c.requires.some (within_shown members now c.self.view_is c.args.to c.requires.some c.requires.within) c.args.from c.put_event.new.self.shown.incoming _ (rw is at wires))
    c.put_event.ensures.wires

pub returns-clause-back : goal.returns-clause-back
returns-clause-back c =
    let members = c.self.inside.members.items in
    let now = c.args.self.now in
    let within = within_shown members now c.self.view_is c.args.to c.requires.some c.requires.within in
    let is = read_shown members now c.self.view_is c.args.to c.requires.some c.requires.within c.index_mut.result.now c.index_mut.ensures.value in
    on_ok c.put_event.result (λ back told no.
    ap (taken_back c.args.from (upd told c.args.to true)) (set_shown members now c.self.view_is c.args.to c.requires.some c.requires.within c.put_event.new.self)
    ∙ taken_put c.args.from 1 (c.args.to - 1) c.args.to told now.shown c.put_event.new.self.shown (item no_member now.shown c.args.to) (omega (arith, c.requires.some)) (omega (arith, c.requires.some, within))
    (back ∙ is) (item_is no_member now.shown c.args.to (item no_member now.shown c.args.to) c.requires.some within refl) no)
    c.put_event.ensures.back

pub returns-clause-unchanged : goal.returns-clause-unchanged
returns-clause-unchanged c =
    on_err c.put_event.result (λ same. same_shown c.self.inside.members.items c.args.self.now c.self.view_is c.args.to c.requires.some c.requires.within c.index_mut.result.now c.put_event.new.self c.index_mut.ensures.value same)
    c.put_event.ensures.unchanged
