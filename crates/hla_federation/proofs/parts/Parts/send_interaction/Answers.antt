use Rattle.hla_base.specs.Limits.{largest_number}
use Rattle.std.proofs.Common.{◌≡◌, ◌+◌, ◌≤◌, ℕ, List, false, ltb, Option, None, IfSome, refl, ap, sym, subst, ◌∙◌, arith}
use Rattle.std.proofs.lemmas.Bool.Decides.{nat_tests}
use Rattle.hla_base.specs.declared.content.HandleValuePair.{HandleValuePair}
use Rattle.hla_base.specs.declared.number.EventHandle.{EventHandle}
use Rattle.hla_base.specs.Tables.{upd, max_time}
use Rattle.hla_catalogue.specs.declared.declared.Order.{Order}
use Rattle.hla_base.specs.FederateSets.{federate_set}
use Rattle.hla_retraction.specs.SentEvents.{SentEvent}
use Rattle.hla_machine.specs.Directory.{Outgoing, AnInteraction, by_handle, interaction_sent, is_receiver, order_of_interaction}
use Rattle.hla_machine.specs.Refusals.{refusal, tests}
use Rattle.hla_machine.specs.declared.service.Service.TheVariants as service
use Rattle.hla_machine.specs.declared.step.Answer.TheVariants as answer
use Rattle.hla_machine.specs.declared.step.Step.TheVariants.{Call}
use Rattle.hla_federation.specs.declared.heading.Heading.{Heading}
use Rattle.hla_members.specs.declared.note.Note.{Note}
use Rattle.hla_federation.specs.FederationValue.{FederationValue}
use Rattle.hla_execution.specs.MemberValue.{MemberTables, members_of}
use Rattle.hla_null_message.specs.declared.message.Message.{Message}
use Rattle.hla_members.proofs.Tidings.{held_ok}
use Rattle.hla_members.specs.Noting.{IsUnsentFrom, with_noted, handle_noted}
use Rattle.hla_components.specs.Next.{answer_outcome, components_seen}
use Rattle.hla_federation.specs.Steps.Sending.{HasSent, heading_of, message_to, note_under}
use Rattle.hla_federation.specs.Steps.State.{IsWhole, state_of}
use Rattle.hla_federation.proofs.Steps.Noting.{note_unsent, one_handle, one_noted, unsent_from}
use Rattle.hla_federation.proofs.Steps.Sent.{counted_is, none_applies, one_said, sent_whole, sends_done}
use Rattle.hla_federation.proofs.parts.Parts.send_interaction.Goals as goal

pub count_sent-requires-clause-serials : goal.count_sent-requires-clause-serials
count_sent-requires-clause-serials c =
    let now = c.args.self.now in
    let f = c.args.federate in
    let none : refusal (components_seen (state_of now)) (Call f (service.SendInteraction c.args.class c.args.values.now c.args.stamp)) ≡ None = sym c.send_fault.ensures ∙ c.in_default.is in
    let left : ltb (max_time + 1) ((members_of now.members).serial f + 1) ≡ false = (none_applies (tests (components_seen (state_of now)) (Call f (service.SendInteraction c.args.class c.args.values.now c.args.stamp))) none).1.1.1.1.1.0 in
    let same = ap (λ (v : FederationValue). (members_of v.members).serial f) c.self-2.view_is ∙ ap (λ (t : MemberTables). t.serial f) c.in_ok-told.ensures.sent.1 in
    let counted : (members_of now.members).serial f + 1 ≤ 1000000000000000001 = grind (arith, nat_tests) in
    let few : (members_of now.members).serial f + 1 ≤ largest_number = omega (arith, counted) in
    rw same few

pub count_sent-requires-clause-unsent : goal.count_sent-requires-clause-unsent
count_sent-requires-clause-unsent c =
    let now = c.args.self.now in
    let f = c.args.federate in
    let sent = (members_of now.members).sent f in
    let same = c.next_serial-serial.ensures ∙ ap (λ (v : FederationValue). (members_of v.members).serial f) c.self.view_is in
    let from = ap (λ (h : Heading). h.serial) c.heading-heading.ensures in
    let kept = ap (λ (v : FederationValue). (members_of v.members).sent f) c.self-2.view_is ∙ ap (λ (t : MemberTables). t.sent f) c.in_ok-told.ensures.sent.1 in
    subst (λ (x : ℕ → SentEvent). IfSome c.note-note.result (λ (n : Note). IsUnsentFrom x n.serial)) (sym kept)
    (subst (λ (o : Option Note). IfSome o (λ (n : Note). IsUnsentFrom sent n.serial)) (sym c.note-note.ensures)
    (note_unsent c.heading-heading.result c.in_ok-told.told sent ((members_of now.members).serial f) (unsent_from now f c.requires.sound.kept) (omega (arith, same, from))))

pub returns-clause-whole : goal.returns-clause-whole
returns-clause-whole c =
    let now = c.args.self.now in
    let f = c.args.federate in
    let d = (state_of now).directory in
    let r = (state_of now).row f in
    let m = (members_of now.members).serial f in
    let n = c.next_serial-serial.result in
    let outs = interaction_sent d f c.args.class c.args.values.now in
    let out : Outgoing = record { order = order_of_interaction d f c.args.class; body = AnInteraction c.args.class (by_handle c.args.values.now) } in
    let same = c.next_serial-serial.ensures ∙ ap (λ (v : FederationValue). (members_of v.members).serial f) c.self.view_is in
    let head = c.heading-heading.ensures ∙ ap (λ (k : Order). heading_of f n r c.args.stamp k) c.order_of_interaction-order.ensures in
    let values = c.in_ok-values.ensures.ok in
    let o : ℕ → List Message = message_to d (heading_of f n r c.args.stamp out.order) (AnInteraction c.args.class c.in_ok-values.values) in
    let added = λ (h : ℕ). ap (λ (vs : List HandleValuePair). message_to d (heading_of f n r c.args.stamp out.order) (AnInteraction c.args.class vs) h) values ∙ one_said d f n m r c.args.stamp out h same in
    let posted = c.post_interaction.new.self in
    let sent = subst (λ (x : Heading). HasSent x.sender (message_to d x (AnInteraction c.args.class c.in_ok-values.values)) now posted) head c.in_ok-told.ensures.sent in
    let left = c.self-2.view_is ∙ sent.0 in
    let counted = held_ok c.count_sent.result (sym c.is_err.ensures.value ∙ c.if-is_err.false) c.count_sent.ensures.ok
    ∙ ap (λ (v : FederationValue). record (members_of v.members) { serial = upd (members_of v.members).serial f ((members_of v.members).serial f + 1); sent = with_noted (members_of v.members).sent f c.note-note.result }) c.self-2.view_is in
    let is = counted_is now posted f 1 c.args.stamp outs c.note-note.result o c.count_sent.new.self.shown sent added counted in
    let told : federate_set c.in_ok-told.told ≡ is_receiver d f out.body = c.in_ok-told.ensures.receivers ∙ ap (λ (x : Heading). is_receiver d x.sender (AnInteraction c.args.class c.in_ok-values.values)) head ∙ ap (λ (vs : List HandleValuePair). is_receiver d f (AnInteraction c.args.class vs)) values in
    let note = c.note-note.ensures ∙ ap (λ (x : Heading). note_under x c.in_ok-told.told) head ∙ ap (λ (k : ℕ). note_under (heading_of f k r c.args.stamp out.order) c.in_ok-told.told) same in
    let noted = one_noted d f m r c.args.stamp out (members_of now.members).sent (unsent_from now f c.requires.sound.kept m (omega arith)) c.in_ok-told.told told refl ∙ ap (λ (x : Option Note). with_noted (members_of now.members).sent f x) (sym note) in
    subst (λ (v : FederationValue). IsWhole (record v { members = c.count_sent.new.self.shown })) (sym left)
    (sent_whole now f 1 c.args.stamp outs c.note-note.result o c.count_sent.new.self.shown is refl added noted c.requires.sound.whole now.objects refl)

pub returns-clause-done : goal.returns-clause-done
returns-clause-done c =
    let now = c.args.self.now in
    let f = c.args.federate in
    let d = (state_of now).directory in
    let r = (state_of now).row f in
    let m = (members_of now.members).serial f in
    let n = c.next_serial-serial.result in
    let outs = interaction_sent d f c.args.class c.args.values.now in
    let out : Outgoing = record { order = order_of_interaction d f c.args.class; body = AnInteraction c.args.class (by_handle c.args.values.now) } in
    let same = c.next_serial-serial.ensures ∙ ap (λ (v : FederationValue). (members_of v.members).serial f) c.self.view_is in
    let head = c.heading-heading.ensures ∙ ap (λ (k : Order). heading_of f n r c.args.stamp k) c.order_of_interaction-order.ensures in
    let values = c.in_ok-values.ensures.ok in
    let o : ℕ → List Message = message_to d (heading_of f n r c.args.stamp out.order) (AnInteraction c.args.class c.in_ok-values.values) in
    let added = λ (h : ℕ). ap (λ (vs : List HandleValuePair). message_to d (heading_of f n r c.args.stamp out.order) (AnInteraction c.args.class vs) h) values ∙ one_said d f n m r c.args.stamp out h same in
    let posted = c.post_interaction.new.self in
    let sent = subst (λ (x : Heading). HasSent x.sender (message_to d x (AnInteraction c.args.class c.in_ok-values.values)) now posted) head c.in_ok-told.ensures.sent in
    let left = c.self-2.view_is ∙ sent.0 in
    let counted = held_ok c.count_sent.result (sym c.is_err.ensures.value ∙ c.if-is_err.false) c.count_sent.ensures.ok
    ∙ ap (λ (v : FederationValue). record (members_of v.members) { serial = upd (members_of v.members).serial f ((members_of v.members).serial f + 1); sent = with_noted (members_of v.members).sent f c.note-note.result }) c.self-2.view_is in
    let is = counted_is now posted f 1 c.args.stamp outs c.note-note.result o c.count_sent.new.self.shown sent added counted in
    let told : federate_set c.in_ok-told.told ≡ is_receiver d f out.body = c.in_ok-told.ensures.receivers ∙ ap (λ (x : Heading). is_receiver d x.sender (AnInteraction c.args.class c.in_ok-values.values)) head ∙ ap (λ (vs : List HandleValuePair). is_receiver d f (AnInteraction c.args.class vs)) values in
    let note = c.note-note.ensures ∙ ap (λ (x : Heading). note_under x c.in_ok-told.told) head ∙ ap (λ (k : ℕ). note_under (heading_of f k r c.args.stamp out.order) c.in_ok-told.told) same in
    let noted = one_noted d f m r c.args.stamp out (members_of now.members).sent (unsent_from now f c.requires.sound.kept m (omega arith)) c.in_ok-told.told told refl ∙ ap (λ (x : Option Note). with_noted (members_of now.members).sent f x) (sym note) in
    let none : refusal (components_seen (state_of now)) (Call f (service.SendInteraction c.args.class c.args.values.now c.args.stamp)) ≡ None = sym c.send_fault.ensures ∙ c.in_default.is in
    rw none (sends_done now f 1 c.args.stamp outs c.note-note.result o c.count_sent.new.self.shown is refl added noted (one_handle f m r c.args.stamp out c.in_ok-told.told ∙ ap (handle_noted f) (sym note))
    ∙ ap (λ (x : Option EventHandle). answer_outcome (answer.Sent x) (state_of (record now { members = c.count_sent.new.self.shown }))) (sym c.handle_noted-handle.ensures)
    ∙ ap (λ (v : FederationValue). answer_outcome (answer.Sent c.handle_noted-handle.result) (state_of (record v { members = c.count_sent.new.self.shown }))) (sym left))
