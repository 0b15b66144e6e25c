use Rattle.std.proofs.Common.{◌≡◌, refl, sym, ap, subst, ◌∙◌, arith}
use Rattle.hla_lbts.specs.Peers.{peers_of}
use Rattle.hla_machine.specs.declared.step.Step.TheVariants.{Carry}
use Rattle.hla_machine.specs.declared.step.Carried.{Carried}
use Rattle.hla_machine.specs.declared.step.Answer.TheVariants as answer
use Rattle.hla_declaration.specs.Declarations as declared
use Rattle.hla_machine.specs.Registered.{registry_of}
use Rattle.hla_synchronization.specs.OpenPoints.{points_of}
use Rattle.hla_federation.specs.FederationValue.{FederationValue}
use Rattle.hla_execution.specs.MemberValue.{MemberTables, members_of}
use Rattle.hla_members.specs.Members.{with_arrival}
use Rattle.hla_components.specs.Next.{next, answer_outcome}
use Rattle.hla_federation.specs.Steps.State.{state_of, state_from, IsUnmet}
use Rattle.hla_federation.proofs.Steps.Doing.{does_next}
use Rattle.hla_federation.proofs.Steps.Declaring.{came, may_arrive, unmet_arrived, carries_below}
use Rattle.hla_federation.proofs.Steps.Wholes.{whole_same}
use Rattle.hla_federation.proofs.parts.Parts.carry.Goals as goal

pub arrive-requires-clause-may_arrive : goal.arrive-requires-clause-may_arrive
arrive-requires-clause-may_arrive c =
    let sound = rw (← c.self.view_is) at c.requires in
    let old = members_of c.self.inside.members.shown in
    may_arrive c.self.inside.catalogue (points_of c.self.inside.points) (declared.declarations_of c.self.inside.declarations) (registry_of c.self.inside.registry) (members_of c.self.inside.members.shown) c.args.from c.args.to (old.wire c.args.from c.args.to) sound.kept refl

pub returns-clause-whole : goal.returns-clause-whole
returns-clause-whole c =
    let whole = rw (← c.self.view_is) at c.requires.whole in
    let old = members_of c.self.inside.members.shown in
    let state = c.in_ok-carried.ensures.state in
    let after = (members_of c.arrive.new.self.shown).local c.args.to in
    let fault_is = rw (← c.self.view_is) at c.carry_fault.ensures in
    let below = carries_below old c.args.from c.args.to (sym fault_is ∙ c.in_default.is) in
    record {
      parts = whole_same _ _ old _ whole.parts (ap (λ (t : MemberTables). t.next_federate) state) (ap (λ (t : MemberTables). t.joined) state)
          (λ k g beyond. subst (λ (t : MemberTables). IsUnmet (peers_of (t.local k).peers) g) (sym state)
          (unmet_arrived old c.args.from c.args.to after k g (λ e. absurd (omega (arith, below, e, beyond))) c.in_ok-carried.ensures.local (λ j. whole.parts.unmet j g beyond)));
      named = λ f y. whole.named f (ap (λ (t : MemberTables). t.joined f) (sym state) ∙ y);
    }

pub returns-clause-done : goal.returns-clause-done
returns-clause-done c =
    let sound = rw (← c.self.view_is) at c.requires in
    let old = members_of c.self.inside.members.shown in
    let fault_is = rw (← c.self.view_is) at c.carry_fault.ensures in
    let after = (members_of c.arrive.new.self.shown).local c.args.to in
    subst (λ (v : FederationValue). next (state_of v) (Carry c.args.from c.args.to) ≡ answer_outcome (answer.Carried c.in_ok-carried.carried) (state_from c.self.inside.catalogue (points_of c.self.inside.points) (declared.declarations_of c.self.inside.declarations) (registry_of c.self.inside.registry) (members_of c.arrive.new.self.shown)))
    c.self.view_is (does_next (state_from c.self.inside.catalogue (points_of c.self.inside.points) (declared.declarations_of c.self.inside.declarations) (registry_of c.self.inside.registry) (members_of c.self.inside.members.shown)) (Carry c.args.from c.args.to) (sym fault_is ∙ c.in_default.is)
    ∙ came c.self.inside.catalogue (points_of c.self.inside.points) (declared.declarations_of c.self.inside.declarations) (registry_of c.self.inside.registry) (members_of c.self.inside.members.shown) c.args.from c.args.to after (old.wire c.args.from c.args.to) sound.whole.parts refl c.in_ok-carried.ensures.local
    ∙ ap (λ (x : Carried). answer_outcome (answer.Carried x) (state_from c.self.inside.catalogue (points_of c.self.inside.points) (declared.declarations_of c.self.inside.declarations) (registry_of c.self.inside.registry) (with_arrival c.args.from c.args.to after old))) (sym c.in_ok-carried.ensures.answer)
    ∙ ap (λ (t : MemberTables). answer_outcome (answer.Carried c.in_ok-carried.carried) (state_from c.self.inside.catalogue (points_of c.self.inside.points) (declared.declarations_of c.self.inside.declarations) (registry_of c.self.inside.registry) t)) (sym c.in_ok-carried.ensures.state))
