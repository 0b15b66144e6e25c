use Rattle.std.proofs.Common.{◌∷◌, ◌++◌, [], ℕ, Option, subst, sym, ap, ◌∙◌}
use Rattle.std.specs.Option.{option_map_or}
use Rattle.hla_base.specs.FederateSets.{federate_set}
use Rattle.hla_base.specs.Tables.{upd, upd2}
use Rattle.hla_base.specs.declared.content.Event.{Event}
use Rattle.hla_execution.specs.MemberValue.{members_of}
use Rattle.hla_machine.specs.Directory.{AnInteraction, is_receiver}
use Rattle.hla_null_message.specs.declared.message.Message.TheVariants as message
use Rattle.hla_federation.specs.FederationValue.{FederationValue}
use Rattle.hla_federation.specs.Steps.Sending.{HasSent, message_to, only_to, said_messages}
use Rattle.hla_federation.specs.Steps.State.{state_of}
use Rattle.hla_federation.proofs.Steps.Addressing.{interaction_at}
use Rattle.hla_federation.proofs.Steps.Posting.{interaction_said, sent_event, sent_none, told_none}
use Rattle.hla_federation.proofs.Steps.Receiving.{has_message, told_are}
use Rattle.hla_federation.proofs.parts.Parts.post_interaction_to.Goals as goal

pub returns-in_default-clause-sent : goal.returns-in_default-clause-sent
returns-in_default-clause-sent c =
    let now = c.args.self.now in
    let d = (state_of now).directory in
    let post = c.args.post in
    let values = post.values.now in
    let says = λ (o : Option ℕ). option_map_or (λ k. said_messages post.heading (interaction_at now.catalogue values c.args.peer k)) o [] in
    let nothing = interaction_said now c.requires.parts post.heading c.args.peer post.class values ∙ ap says (sym c.interaction_served.ensures ∙ c.in_default.is) in
    sent_none post.heading.sender c.args.peer (message_to d post.heading (AnInteraction post.class values)) now nothing

pub returns-in_default-clause-told : goal.returns-in_default-clause-told
returns-in_default-clause-told c =
    let now = c.args.self.now in
    let d = (state_of now).directory in
    let post = c.args.post in
    let values = post.values.now in
    let says = λ (o : Option ℕ). option_map_or (λ k. said_messages post.heading (interaction_at now.catalogue values c.args.peer k)) o [] in
    let nothing = interaction_said now c.requires.parts post.heading c.args.peer post.class values ∙ ap says (sym c.interaction_served.ensures ∙ c.in_default.is) in
    told_none (federate_set c.args.told.now) c.args.peer (is_receiver d post.heading.sender (AnInteraction post.class values) c.args.peer) c.requires.untold
    (sym (told_are d post.heading (AnInteraction post.class values) c.args.peer) ∙ ap has_message nothing)

pub returns-clause-sent : goal.returns-clause-sent
returns-clause-sent c =
    let now = c.args.self.now in
    let d = (state_of now).directory in
    let post = c.args.post in
    let f = post.heading.sender in
    let values = post.values.now in
    let says = λ (o : Option ℕ). option_map_or (λ k. said_messages post.heading (interaction_at now.catalogue values c.args.peer k)) o [] in
    let one = interaction_said now c.requires.parts post.heading c.args.peer post.class values ∙ ap says (sym c.interaction_served.ensures ∙ c.in-Some.is)
    ∙ ap (λ (e : Event). message.Event e ∷ []) (sym c.in_ok-event.ensures.ok) in
    let wires = c.in_ok-put_event.ensures.wires
    ∙ ap (λ (v : FederationValue). record (members_of v.members) { wire = upd2 (members_of v.members).wire f c.args.peer ((members_of v.members).wire f c.args.peer ++ message.Event c.in_ok-event.event ∷ []) }) c.self.view_is in
    subst (λ (v : FederationValue). HasSent f (only_to c.args.peer (message_to d post.heading (AnInteraction post.class values))) now (record v { members = c.put_event.new.self.shown })) (sym c.self.view_is)
    (sent_event f c.args.peer (message_to d post.heading (AnInteraction post.class values)) now c.in_ok-event.event c.put_event.new.self.shown one wires)

pub returns-clause-told : goal.returns-clause-told
returns-clause-told c =
    let now = c.args.self.now in
    let d = (state_of now).directory in
    let post = c.args.post in
    let values = post.values.now in
    let says = λ (o : Option ℕ). option_map_or (λ k. said_messages post.heading (interaction_at now.catalogue values c.args.peer k)) o [] in
    let one = interaction_said now c.requires.parts post.heading c.args.peer post.class values ∙ ap says (sym c.interaction_served.ensures ∙ c.in-Some.is)
    ∙ ap (λ (e : Event). message.Event e ∷ []) (sym c.in_ok-event.ensures.ok) in
    c.add.ensures
    ∙ ap (upd (federate_set c.args.told.now) c.args.peer) (sym (ap has_message one) ∙ told_are d post.heading (AnInteraction post.class values) c.args.peer)
