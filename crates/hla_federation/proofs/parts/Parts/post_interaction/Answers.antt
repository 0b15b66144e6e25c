use Rattle.std.proofs.Common.{◌≡◌, ℕ, ◌+◌, ◌<◌, ◌≤◌, [], Bool, false, length, subst, sym, ap, ◌∙◌, arith}
use Rattle.std.specs.Prelude.{is_err}
use Rattle.std.proofs.Math.Path.{fun_ext}
use Rattle.hla_base.specs.FederateSets.{federate_set}
use Rattle.hla_declaration.specs.Receivers.{AreServed}
use Rattle.hla_machine.specs.Directory.{AnInteraction, served_interaction}
use Rattle.hla_members.specs.Putting.{taken_back}
use Rattle.hla_members.proofs.TakingBack.{taken_none}
use Rattle.hla_members.proofs.Tidings.{held_ok}
use Rattle.hla_federation.specs.FederationValue.{FederationValue}
use Rattle.hla_federation.specs.Steps.Sending.{message_to}
use Rattle.hla_federation.specs.Steps.State.{state_of}
use Rattle.hla_federation.proofs.Steps.Posting.{interaction_unsubscribed, messages_below, posted_from, posted_next, posted_to, sent_directory, sent_parts, told_from, told_next, told_to}
use Rattle.hla_federation.proofs.parts.Parts.post_interaction.Goals as goal

pub loop-peer-init : goal.loop-peer-init
loop-peer-init c =
    let now = c.args.self.now in
    let heading = c.args.heading in
    let body = AnInteraction c.args.class c.args.values.now in
    let served = subst (λ (v : FederationValue). AreServed c.subscribers_of_interaction_class-subscribers.result (λ f. served_interaction (state_of v).directory f c.args.class))
    c.self.view_is c.subscribers_of_interaction_class-subscribers.ensures in
    let none : (h : ℕ) → h < c.first-peer.result → message_to (state_of now).directory heading body h ≡ [] = λ h below.
    interaction_unsubscribed now c.requires.parts heading c.subscribers_of_interaction_class-subscribers.result c.args.class c.args.values.now served h (λ some few. c.first-peer.ensures.before h some below) in
    record {
      sent = posted_from now heading body c.first-peer.result none;
      told = λ g. ap (λ (t : ℕ → Bool). t g) c.new-told.ensures ∙ told_from now heading body c.first-peer.result none g;
      back = ap (λ (t : ℕ → Bool). taken_back heading.sender t now.members) c.new-told.ensures ∙ taken_none heading.sender 1 now.members;
    }

pub post_interaction_to-requires-clause-parts : goal.post_interaction_to-requires-clause-parts
post_interaction_to-requires-clause-parts c =
    sent_parts c.args.heading.sender (messages_below c.args.self.now c.args.heading (AnInteraction c.args.class c.args.values.now) c.loop-peer.peer) c.args.self.now c.loop-peer.self c.loop-peer.invariant.sent c.requires.parts

pub loop-peer-preserved : goal.loop-peer-preserved
loop-peer-preserved c =
    let now = c.args.self.now in
    let body = AnInteraction c.args.class c.args.values.now in
    let peer = c.loop-peer.peer in
    let inv = c.loop-peer.invariant in
    let same = sent_directory c.args.heading.sender (messages_below now c.args.heading body peer) now c.loop-peer.self inv.sent in
    let r = c.post_interaction_to.result in
    let done : is_err r ≡ false = sym c.is_err.ensures.value ∙ c.if-is_err.false in
    record {
      sent = posted_next now c.args.heading body peer c.loop-peer.self c.post_interaction_to.new.self inv.sent (held_ok r done c.post_interaction_to.ensures.sent);
      told = told_next now c.args.heading body peer (federate_set c.loop-peer.told) (federate_set c.post_interaction_to.new.told) (state_of c.loop-peer.self).directory same inv.told (held_ok r done c.post_interaction_to.ensures.told);
      back = held_ok r done c.post_interaction_to.ensures.back ∙ inv.back;
    }

pub returns-clause-sent : goal.returns-clause-sent
returns-clause-sent c =
    let now = c.args.self.now in
    let body = AnInteraction c.args.class c.args.values.now in
    let same = ap (λ (v : FederationValue). length v.members) c.self.view_is in
    let served = subst (λ (v : FederationValue). AreServed c.subscribers_of_interaction_class-subscribers.result (λ f. served_interaction (state_of v).directory f c.args.class))
    c.self.view_is c.subscribers_of_interaction_class-subscribers.ensures in
    posted_to now c.args.heading body c.loop-peer.peer (λ h past.
    interaction_unsubscribed now c.requires.parts c.args.heading c.subscribers_of_interaction_class-subscribers.result c.args.class c.args.values.now served h
    (λ some few. c.end.ensures.behind h (omega (arith, past, few, same, c.loop-peer-test.false, c.next_federate.ensures.number, c.min-end.ensures)))) c.loop-peer.self c.loop-peer.invariant.sent

pub returns-clause-receivers : goal.returns-clause-receivers
returns-clause-receivers c = fun_ext (λ g.
    let now = c.args.self.now in
    let body = AnInteraction c.args.class c.args.values.now in
    let same = ap (λ (v : FederationValue). length v.members) c.self.view_is in
    let served = subst (λ (v : FederationValue). AreServed c.subscribers_of_interaction_class-subscribers.result (λ f. served_interaction (state_of v).directory f c.args.class))
    c.self.view_is c.subscribers_of_interaction_class-subscribers.ensures in
    c.loop-peer.invariant.told g
    ∙ told_to now c.args.heading body c.loop-peer.peer (λ h past.
    interaction_unsubscribed now c.requires.parts c.args.heading c.subscribers_of_interaction_class-subscribers.result c.args.class c.args.values.now served h
    (λ some few. c.end.ensures.behind h (omega (arith, past, few, same, c.loop-peer-test.false, c.next_federate.ensures.number, c.min-end.ensures)))) g)
