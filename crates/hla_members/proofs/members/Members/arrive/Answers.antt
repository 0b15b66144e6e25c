use Rattle.std.proofs.Common.{◌-◌, [], set, drop, ap, sym, subst, ◌∙◌}
use Rattle.hla_base.specs.Tables.{upd}
use Rattle.hla_component_rules.specs.LocalValue.{LocalValue}
use Rattle.hla_members.specs.Members.{arrival_takes_memory, HasAccepted, with_arrival}
use Rattle.hla_execution.specs.MemberValue.{item, MemberValue, MemberTables, members_of}
use Rattle.hla_members.proofs.Rooms.{on_ok, on_err, on_both, read_shown, set_shown, same_shown, within_shown}
use Rattle.hla_members.proofs.MemberTables.{arrived, set_local}
use Rattle.hla_base.proofs.Tables.{upd_same}
use Rattle.hla_members.proofs.members.Members.arrive.Goals as goal

pub arrive-requires-clause-may_arrive : goal.arrive-requires-clause-may_arrive
arrive-requires-clause-may_arrive c =
    let is = read_shown c.self.inside.members.items c.args.self.now c.self.view_is c.args.to c.requires.some c.requires.within c.index_mut.result.now c.index_mut.ensures.value in
    rw is c.requires.may_arrive

pub returns-clause-answer : goal.returns-clause-answer
returns-clause-answer c =
    let is = read_shown c.self.inside.members.items c.args.self.now c.self.view_is c.args.to c.requires.some c.requires.within c.index_mut.result.now c.index_mut.ensures.value in
    rw (← is) c.arrive.ensures.answer

pub returns-clause-state : goal.returns-clause-state
returns-clause-state c =
    let is = read_shown c.self.inside.members.items c.args.self.now c.self.view_is c.args.to c.requires.some c.requires.within c.index_mut.result.now c.index_mut.ensures.value in
    on_both c.arrive.result (λ same wires. let came = ap members_of (set_shown c.self.inside.members.items c.args.self.now c.self.view_is c.args.to c.requires.some c.requires.within c.arrive.new.self)
    ∙ ap (λ (m : MemberValue). members_of (set c.args.self.now.shown (c.args.to - 1) m)) (same ∙ ap (λ (m : MemberValue). record m { local = c.arrive.new.self.shown.local; incoming = c.arrive.new.self.shown.incoming }) is)
    ∙ arrived c.args.self.now.shown c.args.to c.requires.some (within_shown c.self.inside.members.items c.args.self.now c.self.view_is c.args.to c.requires.some c.requires.within) c.args.from c.arrive.new.self.shown.local c.arrive.new.self.shown.incoming _ (wires ∙ ap (λ (m : MemberValue). upd (item [] m.incoming) c.args.from (drop 1 (item [] m.incoming c.args.from))) is) in
    came ∙ ap (λ (l : LocalValue). with_arrival c.args.from c.args.to l (members_of c.args.self.now.shown)) (sym (ap (λ (t : MemberTables). t.local c.args.to) came ∙ upd_same (members_of c.args.self.now.shown).local c.args.to c.arrive.new.self.shown.local)))
    c.arrive.ensures.same c.arrive.ensures.wires

pub returns-clause-local : goal.returns-clause-local
returns-clause-local c =
    let is = read_shown c.self.inside.members.items c.args.self.now c.self.view_is c.args.to c.requires.some c.requires.within c.index_mut.result.now c.index_mut.ensures.value in
    let here = ap members_of (set_shown c.self.inside.members.items c.args.self.now c.self.view_is c.args.to c.requires.some c.requires.within c.arrive.new.self) in
    let local = ap (λ (t : MemberTables). t.local c.args.to) here ∙ set_local c.args.self.now.shown c.args.to c.arrive.new.self.shown c.requires.some (within_shown c.self.inside.members.items c.args.self.now c.self.view_is c.args.to c.requires.some c.requires.within) in
    on_ok c.arrive.result (λ accepted. rw local (subst (λ (m : MemberValue). HasAccepted c.args.from (item [] m.incoming c.args.from) m.local c.arrive.new.self.shown.local) is accepted)) c.arrive.ensures.local

pub returns-clause-memory : goal.returns-clause-memory
returns-clause-memory c =
    let is = read_shown c.self.inside.members.items c.args.self.now c.self.view_is c.args.to c.requires.some c.requires.within c.index_mut.result.now c.index_mut.ensures.value in
    on_err c.arrive.result (λ takes. sym (ap (λ (m : MemberValue). arrival_takes_memory (item [] m.incoming c.args.from)) is) ∙ takes) c.arrive.ensures.memory

pub returns-clause-unchanged : goal.returns-clause-unchanged
returns-clause-unchanged c = on_err c.arrive.result (same_shown c.self.inside.members.items c.args.self.now c.self.view_is c.args.to c.requires.some c.requires.within c.index_mut.result.now c.arrive.new.self c.index_mut.ensures.value) c.arrive.ensures.unchanged
