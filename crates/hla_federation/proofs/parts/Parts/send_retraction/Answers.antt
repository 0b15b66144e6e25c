use Rattle.std.proofs.Common.{ℕ, [], ◌++◌, List, sym, ap, ◌∙◌}
use Rattle.hla_members.specs.declared.direction.Direction.TheVariants.{From}
use Rattle.hla_null_message.specs.declared.message.Message.{Message}
use Rattle.hla_federation.specs.Steps.Sending.{retraction_to}
use Rattle.hla_federation.specs.Steps.State.{state_of}
use Rattle.hla_federation.specs.FederationValue.{FederationValue}
use Rattle.hla_execution.specs.MemberValue.{item, MemberValue, members_of}
use Rattle.hla_members.specs.Members.{wires_posted_below, with_retraction_sent}
use Rattle.hla_federation.proofs.Steps.Retracting.{retraction_posted}
use Rattle.hla_federation.proofs.Steps.Resigning.{joined_below}
use Rattle.hla_federation.proofs.parts.Parts.send_retraction.Goals as goal

pub returns-clause-wires : goal.returns-clause-wires
returns-clause-wires c =
    let f = c.args.sender in
    let k = c.args.serial in
    let m = members_of c.self.inside.members.shown in
    let o = item [] c.address_retraction.new.outbox in
    let posted = retraction_posted m f k o
    (λ h. c.in_ok-address_retraction.ensures.ok h ∙ ap (λ (ms : List Message). ms ++ retraction_to (state_of c.args.self.now) f k h) (c.in_ok-outbox.ensures.ok h)
    ∙ ap (λ (v : FederationValue). retraction_to (state_of v) f k h) (sym c.self.view_is))
    (joined_below c.self.inside.members.shown) in
    c.post_all.ensures
    ∙ ap (λ (ms : List MemberValue). record (members_of ms) { wire = wires_posted_below (From f) o (members_of ms).next_federate (members_of ms).wire }) c.in_ok-reserve_all.ensures.same
    ∙ ap (λ (w : ℕ → ℕ → List Message). record m { wire = w }) posted
    ∙ ap (λ (v : FederationValue). with_retraction_sent (members_of v.members) f k) c.self.view_is
