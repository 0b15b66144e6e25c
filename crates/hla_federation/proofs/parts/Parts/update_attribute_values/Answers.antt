use Rattle.hla_base.specs.Limits.{largest_number}
use Rattle.std.proofs.Common.{◌≡◌, ◌+◌, ◌≤◌, ℕ, Bool, List, ◌++◌, is_some, length, true, false, ltb, Option, None, IfSome, refl, ap, sym, subst, ◌∙◌, arith}
use Rattle.std.proofs.lemmas.Bool.Decides.{nat_tests}
use Rattle.std.specs.Option.{option_and_then}
use mir.Val.{bool_byte}
use Rattle.hla_base.specs.declared.content.HandleValuePair.{HandleValuePair}
use Rattle.hla_base.specs.declared.number.EventHandle.{EventHandle}
use Rattle.hla_base.specs.Tables.{upd, one_if, max_time}
use Rattle.hla_catalogue.specs.declared.declared.Order.TheVariants.{Receive, Timestamp}
use Rattle.hla_base.specs.FederateSets.{federate_set}
use Rattle.hla_machine.specs.Directory.{Directory, AnUpdate, is_receiver, part_sent, values_of_order, update_sent}
use Rattle.hla_machine.specs.Refusals.{refusal, tests}
use Rattle.hla_machine.specs.declared.service.Service.TheVariants as service
use Rattle.hla_machine.specs.declared.step.Answer.TheVariants as answer
use Rattle.hla_machine.specs.declared.step.Step.TheVariants.{Call}
use Rattle.hla_federation.specs.declared.heading.Heading.{Heading}
use Rattle.hla_members.specs.declared.note.Note.{Note}
use Rattle.hla_federation.specs.FederationValue.{FederationValue}
use Rattle.hla_execution.specs.MemberValue.{MemberTables, members_of}
use Rattle.hla_null_message.specs.declared.message.Message.{Message}
use Rattle.hla_retraction.specs.SentEvents.{SentEvent}
use Rattle.hla_base.specs.declared.row.TimeRow.{TimeRow}
use Rattle.hla_members.proofs.Tidings.{held_ok}
use Rattle.hla_members.specs.Noting.{IsUnsentFrom, with_noted, handle_noted}
use Rattle.hla_components.specs.Next.{answer_outcome, components_seen}
use Rattle.hla_federation.specs.Steps.Sending.{HasSent, heading_of, note_under, part_to}
use Rattle.hla_federation.specs.Steps.State.{IsWhole, state_of}
use Rattle.hla_federation.proofs.Steps.Posting.{sent_directory, sent_more, sent_parts, sent_row}
use Rattle.hla_federation.proofs.Steps.Noting.{part_unsent, unsent_from}
use Rattle.hla_federation.proofs.Steps.Sent.{counted_is, none_applies, sent_whole, sends_done}
use Rattle.hla_federation.proofs.Steps.Updates.{parts_counted, parts_said, update_noted, update_handle}
use Rattle.hla_federation.proofs.parts.Parts.update_attribute_values.Goals as goal

byte_is : (b : Bool) → bool_byte b ≡ one_if b
byte_is true = refl
byte_is false = refl

byte_few : (b : Bool) → bool_byte b ≤ 1
byte_few true = omega arith
byte_few false = omega arith

pub overflow_add-serial : goal.overflow_add-serial
overflow_add-serial c =
    let now = c.args.self.now in
    let f = c.args.federate in
    let outs = update_sent (state_of now).directory c.args.object c.args.values.now in
    let none : refusal (components_seen (state_of now)) (Call f (service.UpdateAttributeValues c.args.object c.args.values.now c.args.stamp)) ≡ None = sym c.update_fault.ensures ∙ c.in_default.is in
    let left : ltb (max_time + 1) ((members_of now.members).serial f + length outs) ≡ false = (none_applies (tests (components_seen (state_of now)) (Call f (service.UpdateAttributeValues c.args.object c.args.values.now c.args.stamp))) none).1.1.1.1.1.1.0 in
    let counted : (members_of now.members).serial f + length outs ≤ 1000000000000000001 = grind (arith, nat_tests) in
    let same = c.next_serial-serial.ensures ∙ ap (λ (v : FederationValue). (members_of v.members).serial f) c.self.view_is in
    let one : c.from-first_count.result ≤ 1 = omega (arith, c.from-first_count.ensures, byte_few c.is_some.result) in
    omega (arith, counted, same, one)

pub post_order-requires-2-clause-parts : goal.post_order-requires-2-clause-parts
post_order-requires-2-clause-parts c =
    let now = c.args.self.now in
    let f = c.args.federate in
    let d = (state_of now).directory in
    let r = (state_of now).row f in
    let n = c.next_serial-serial.result in
    let object = c.args.object in
    let values = c.in_ok-values.values in
    let first_values = values_of_order d object Receive values in
    let after = c.post_order.new.self in
    let a : ℕ → List Message = part_to d (heading_of f n r c.args.stamp Receive) object first_values in
    let first = subst (λ (x : Heading). HasSent x.sender (part_to d x object first_values) now after) c.heading-first.ensures c.in_ok-received_by.ensures.sent in
    sent_parts f a now after first c.requires.sound.whole

pub count_sent-requires-clause-serials : goal.count_sent-requires-clause-serials
count_sent-requires-clause-serials c =
    let now = c.args.self.now in
    let f = c.args.federate in
    let d = (state_of now).directory in
    let r = (state_of now).row f in
    let n = c.next_serial-serial.result in
    let object = c.args.object in
    let values = c.in_ok-values.values in
    let first_values = values_of_order d object Receive values in
    let after = c.post_order.new.self in
    let a : ℕ → List Message = part_to d (heading_of f n r c.args.stamp Receive) object first_values in
    let first = subst (λ (x : Heading). HasSent x.sender (part_to d x object first_values) now after) c.heading-first.ensures c.in_ok-received_by.ensures.sent in
    let same = c.next_serial-serial.ensures ∙ ap (λ (v : FederationValue). (members_of v.members).serial f) c.self.view_is in
    let directory = sent_directory f a now after first in
    let stamped_by = c.in-Ok.stamped_by in
    let second_values = values_of_order d object Timestamp values in
    let received = ap (λ (vs : List HandleValuePair). values_of_order d object Receive vs) c.in_ok-values.ensures.ok in
    let stamped = ap (λ (vs : List HandleValuePair). values_of_order d object Timestamp vs) c.in_ok-values.ensures.ok in
    let count = c.from-first_count.result in
    let one : count ≡ length (part_sent Receive object first_values) = c.from-first_count.ensures ∙ byte_is c.is_some.result ∙ ap one_if c.is_some.ensures ∙ c.in_ok-received_by.ensures.count in
    let more = subst (λ (e : Directory). one_if (is_some stamped_by) ≡ length (part_sent Receive object (values_of_order e object Timestamp values))) directory c.in-Ok.ensures.count in
    let two : c.from.result ≡ length (part_sent Receive object second_values) = c.from.ensures ∙ byte_is c.is_some-2.result ∙ ap one_if c.is_some-2.ensures ∙ more in
    let m = (members_of now.members).serial f in
    let many = parts_counted d f n m r c.args.stamp object c.args.values.now first_values second_values count received stamped same one c.from.result two in
    let outs = update_sent d object c.args.values.now in
    let last = c.post_order-2.new.self in
    let next = c.heading-second.ensures ∙ ap (λ (y : TimeRow). heading_of f (n + count) y c.args.stamp Timestamp) (sent_row f a now after first f) in
    let b : ℕ → List Message = part_to d (heading_of f (n + count) r c.args.stamp Timestamp) object second_values in
    let second = subst (λ (x : Heading). HasSent x.sender (part_to d x object second_values) after last) next
    (subst (λ (e : Directory). HasSent c.heading-second.result.sender (part_to e c.heading-second.result object (values_of_order e object Timestamp values)) after last) directory c.in-Ok.ensures.sent) in
    let o : ℕ → List Message = λ h. a h ++ b h in
    let sent = sent_more f a b now after last first second in
    let none : refusal (components_seen (state_of now)) (Call f (service.UpdateAttributeValues c.args.object c.args.values.now c.args.stamp)) ≡ None = sym c.update_fault.ensures ∙ c.in_default.is in
    let left : ltb (max_time + 1) (m + length outs) ≡ false = (none_applies (tests (components_seen (state_of now)) (Call f (service.UpdateAttributeValues c.args.object c.args.values.now c.args.stamp))) none).1.1.1.1.1.1.0 in
    let serial = ap (λ (v : FederationValue). (members_of v.members).serial f) c.self-2.view_is ∙ ap (λ (t : MemberTables). t.serial f) sent.1 in
    let counted : m + length outs ≤ 1000000000000000001 = grind (arith, nat_tests) in
    let few : m + length outs ≤ largest_number = omega (arith, counted) in
    rw (serial, many) few

pub count_sent-requires-clause-unsent : goal.count_sent-requires-clause-unsent
count_sent-requires-clause-unsent c =
    let now = c.args.self.now in
    let f = c.args.federate in
    let d = (state_of now).directory in
    let r = (state_of now).row f in
    let n = c.next_serial-serial.result in
    let object = c.args.object in
    let values = c.in_ok-values.values in
    let first_values = values_of_order d object Receive values in
    let after = c.post_order.new.self in
    let a : ℕ → List Message = part_to d (heading_of f n r c.args.stamp Receive) object first_values in
    let first = subst (λ (x : Heading). HasSent x.sender (part_to d x object first_values) now after) c.heading-first.ensures c.in_ok-received_by.ensures.sent in
    let same = c.next_serial-serial.ensures ∙ ap (λ (v : FederationValue). (members_of v.members).serial f) c.self.view_is in
    let directory = sent_directory f a now after first in
    let stamped_by = c.in-Ok.stamped_by in
    let second_values = values_of_order d object Timestamp values in
    let received = ap (λ (vs : List HandleValuePair). values_of_order d object Receive vs) c.in_ok-values.ensures.ok in
    let stamped = ap (λ (vs : List HandleValuePair). values_of_order d object Timestamp vs) c.in_ok-values.ensures.ok in
    let count = c.from-first_count.result in
    let one : count ≡ length (part_sent Receive object first_values) = c.from-first_count.ensures ∙ byte_is c.is_some.result ∙ ap one_if c.is_some.ensures ∙ c.in_ok-received_by.ensures.count in
    let more = subst (λ (e : Directory). one_if (is_some stamped_by) ≡ length (part_sent Receive object (values_of_order e object Timestamp values))) directory c.in-Ok.ensures.count in
    let two : c.from.result ≡ length (part_sent Receive object second_values) = c.from.ensures ∙ byte_is c.is_some-2.result ∙ ap one_if c.is_some-2.ensures ∙ more in
    let m = (members_of now.members).serial f in
    let many = parts_counted d f n m r c.args.stamp object c.args.values.now first_values second_values count received stamped same one c.from.result two in
    let outs = update_sent d object c.args.values.now in
    let last = c.post_order-2.new.self in
    let next = c.heading-second.ensures ∙ ap (λ (y : TimeRow). heading_of f (n + count) y c.args.stamp Timestamp) (sent_row f a now after first f) in
    let b : ℕ → List Message = part_to d (heading_of f (n + count) r c.args.stamp Timestamp) object second_values in
    let second = subst (λ (x : Heading). HasSent x.sender (part_to d x object second_values) after last) next
    (subst (λ (e : Directory). HasSent c.heading-second.result.sender (part_to e c.heading-second.result object (values_of_order e object Timestamp values)) after last) directory c.in-Ok.ensures.sent) in
    let o : ℕ → List Message = λ h. a h ++ b h in
    let sent = sent_more f a b now after last first second in
    let unsent = (members_of now.members).sent f in
    let from = ap (λ (h : Heading). h.serial) c.heading-second.ensures in
    let kept = ap (λ (v : FederationValue). (members_of v.members).sent f) c.self-2.view_is ∙ ap (λ (t : MemberTables). t.sent f) sent.1 in
    subst (λ (x : ℕ → SentEvent). IfSome c.note_part-note.result (λ (n : Note). IsUnsentFrom x n.serial)) (sym kept)
    (subst (λ (o : Option Note). IfSome o (λ (n : Note). IsUnsentFrom unsent n.serial)) (sym c.note_part-note.ensures)
    (part_unsent c.heading-second.result stamped_by unsent m (unsent_from now f c.requires.sound.kept) (omega (arith, same, from))))

pub returns-clause-whole : goal.returns-clause-whole
returns-clause-whole c =
    let now = c.args.self.now in
    let f = c.args.federate in
    let d = (state_of now).directory in
    let r = (state_of now).row f in
    let n = c.next_serial-serial.result in
    let object = c.args.object in
    let values = c.in_ok-values.values in
    let first_values = values_of_order d object Receive values in
    let after = c.post_order.new.self in
    let a : ℕ → List Message = part_to d (heading_of f n r c.args.stamp Receive) object first_values in
    let first = subst (λ (x : Heading). HasSent x.sender (part_to d x object first_values) now after) c.heading-first.ensures c.in_ok-received_by.ensures.sent in
    let same = c.next_serial-serial.ensures ∙ ap (λ (v : FederationValue). (members_of v.members).serial f) c.self.view_is in
    let directory = sent_directory f a now after first in
    let stamped_by = c.in-Ok.stamped_by in
    let second_values = values_of_order d object Timestamp values in
    let received = ap (λ (vs : List HandleValuePair). values_of_order d object Receive vs) c.in_ok-values.ensures.ok in
    let stamped = ap (λ (vs : List HandleValuePair). values_of_order d object Timestamp vs) c.in_ok-values.ensures.ok in
    let count = c.from-first_count.result in
    let one : count ≡ length (part_sent Receive object first_values) = c.from-first_count.ensures ∙ byte_is c.is_some.result ∙ ap one_if c.is_some.ensures ∙ c.in_ok-received_by.ensures.count in
    let more = subst (λ (e : Directory). one_if (is_some stamped_by) ≡ length (part_sent Receive object (values_of_order e object Timestamp values))) directory c.in-Ok.ensures.count in
    let two : c.from.result ≡ length (part_sent Receive object second_values) = c.from.ensures ∙ byte_is c.is_some-2.result ∙ ap one_if c.is_some-2.ensures ∙ more in
    let m = (members_of now.members).serial f in
    let many = parts_counted d f n m r c.args.stamp object c.args.values.now first_values second_values count received stamped same one c.from.result two in
    let outs = update_sent d object c.args.values.now in
    let last = c.post_order-2.new.self in
    let next = c.heading-second.ensures ∙ ap (λ (y : TimeRow). heading_of f (n + count) y c.args.stamp Timestamp) (sent_row f a now after first f) in
    let b : ℕ → List Message = part_to d (heading_of f (n + count) r c.args.stamp Timestamp) object second_values in
    let second = subst (λ (x : Heading). HasSent x.sender (part_to d x object second_values) after last) next
    (subst (λ (e : Directory). HasSent c.heading-second.result.sender (part_to e c.heading-second.result object (values_of_order e object Timestamp values)) after last) directory c.in-Ok.ensures.sent) in
    let o : ℕ → List Message = λ h. a h ++ b h in
    let sent = sent_more f a b now after last first second in
    let left = c.self-2.view_is ∙ sent.0 in
    let added = parts_said d f n m r c.args.stamp object c.args.values.now first_values second_values count received stamped same one in
    let counted = held_ok c.count_sent.result (sym c.is_err.ensures.value ∙ c.if-is_err.false) c.count_sent.ensures.ok
    ∙ ap (λ (v : FederationValue). record (members_of v.members) { serial = upd (members_of v.members).serial f ((members_of v.members).serial f + (count + c.from.result)); sent = with_noted (members_of v.members).sent f c.note_part-note.result }) c.self-2.view_is in
    let is = counted_is now last f (count + c.from.result) c.args.stamp outs c.note_part-note.result o c.count_sent.new.self.shown sent added counted in
    let told = subst (λ (x : Heading). IfSome stamped_by (λ rs. federate_set rs ≡ is_receiver d x.sender (AnUpdate object second_values))) next
    (subst (λ (e : Directory). IfSome stamped_by (λ rs. federate_set rs ≡ is_receiver e c.heading-second.result.sender (AnUpdate object (values_of_order e object Timestamp values)))) directory c.in-Ok.ensures.receivers) in
    let note = c.note_part-note.ensures ∙ ap (λ (x : Heading). option_and_then (λ rs. note_under x rs) stamped_by) next in
    let noted = update_noted d f n m r c.args.stamp object c.args.values.now first_values second_values count received stamped same one stamped_by more
    (members_of now.members).sent (unsent_from now f c.requires.sound.kept) told ∙ ap (λ (x : Option Note). with_noted (members_of now.members).sent f x) (sym note) in
    subst (λ (v : FederationValue). IsWhole (record v { members = c.count_sent.new.self.shown })) (sym left)
    (sent_whole now f (count + c.from.result) c.args.stamp outs c.note_part-note.result o c.count_sent.new.self.shown is many added noted c.requires.sound.whole now.objects refl)

pub returns-clause-done : goal.returns-clause-done
returns-clause-done c =
    let now = c.args.self.now in
    let f = c.args.federate in
    let d = (state_of now).directory in
    let r = (state_of now).row f in
    let n = c.next_serial-serial.result in
    let object = c.args.object in
    let values = c.in_ok-values.values in
    let first_values = values_of_order d object Receive values in
    let after = c.post_order.new.self in
    let a : ℕ → List Message = part_to d (heading_of f n r c.args.stamp Receive) object first_values in
    let first = subst (λ (x : Heading). HasSent x.sender (part_to d x object first_values) now after) c.heading-first.ensures c.in_ok-received_by.ensures.sent in
    let same = c.next_serial-serial.ensures ∙ ap (λ (v : FederationValue). (members_of v.members).serial f) c.self.view_is in
    let directory = sent_directory f a now after first in
    let stamped_by = c.in-Ok.stamped_by in
    let second_values = values_of_order d object Timestamp values in
    let received = ap (λ (vs : List HandleValuePair). values_of_order d object Receive vs) c.in_ok-values.ensures.ok in
    let stamped = ap (λ (vs : List HandleValuePair). values_of_order d object Timestamp vs) c.in_ok-values.ensures.ok in
    let count = c.from-first_count.result in
    let one : count ≡ length (part_sent Receive object first_values) = c.from-first_count.ensures ∙ byte_is c.is_some.result ∙ ap one_if c.is_some.ensures ∙ c.in_ok-received_by.ensures.count in
    let more = subst (λ (e : Directory). one_if (is_some stamped_by) ≡ length (part_sent Receive object (values_of_order e object Timestamp values))) directory c.in-Ok.ensures.count in
    let two : c.from.result ≡ length (part_sent Receive object second_values) = c.from.ensures ∙ byte_is c.is_some-2.result ∙ ap one_if c.is_some-2.ensures ∙ more in
    let m = (members_of now.members).serial f in
    let many = parts_counted d f n m r c.args.stamp object c.args.values.now first_values second_values count received stamped same one c.from.result two in
    let outs = update_sent d object c.args.values.now in
    let last = c.post_order-2.new.self in
    let next = c.heading-second.ensures ∙ ap (λ (y : TimeRow). heading_of f (n + count) y c.args.stamp Timestamp) (sent_row f a now after first f) in
    let b : ℕ → List Message = part_to d (heading_of f (n + count) r c.args.stamp Timestamp) object second_values in
    let second = subst (λ (x : Heading). HasSent x.sender (part_to d x object second_values) after last) next
    (subst (λ (e : Directory). HasSent c.heading-second.result.sender (part_to e c.heading-second.result object (values_of_order e object Timestamp values)) after last) directory c.in-Ok.ensures.sent) in
    let o : ℕ → List Message = λ h. a h ++ b h in
    let sent = sent_more f a b now after last first second in
    let left = c.self-2.view_is ∙ sent.0 in
    let added = parts_said d f n m r c.args.stamp object c.args.values.now first_values second_values count received stamped same one in
    let counted = held_ok c.count_sent.result (sym c.is_err.ensures.value ∙ c.if-is_err.false) c.count_sent.ensures.ok
    ∙ ap (λ (v : FederationValue). record (members_of v.members) { serial = upd (members_of v.members).serial f ((members_of v.members).serial f + (count + c.from.result)); sent = with_noted (members_of v.members).sent f c.note_part-note.result }) c.self-2.view_is in
    let is = counted_is now last f (count + c.from.result) c.args.stamp outs c.note_part-note.result o c.count_sent.new.self.shown sent added counted in
    let told = subst (λ (x : Heading). IfSome stamped_by (λ rs. federate_set rs ≡ is_receiver d x.sender (AnUpdate object second_values))) next
    (subst (λ (e : Directory). IfSome stamped_by (λ rs. federate_set rs ≡ is_receiver e c.heading-second.result.sender (AnUpdate object (values_of_order e object Timestamp values)))) directory c.in-Ok.ensures.receivers) in
    let note = c.note_part-note.ensures ∙ ap (λ (x : Heading). option_and_then (λ rs. note_under x rs) stamped_by) next in
    let noted = update_noted d f n m r c.args.stamp object c.args.values.now first_values second_values count received stamped same one stamped_by more
    (members_of now.members).sent (unsent_from now f c.requires.sound.kept) told ∙ ap (λ (x : Option Note). with_noted (members_of now.members).sent f x) (sym note) in
    let handle = update_handle d f n m r c.args.stamp object c.args.values.now first_values second_values count received stamped same one stamped_by more in
    let none : refusal (components_seen (state_of now)) (Call f (service.UpdateAttributeValues c.args.object c.args.values.now c.args.stamp)) ≡ None = sym c.update_fault.ensures ∙ c.in_default.is in
    rw none (sends_done now f (count + c.from.result) c.args.stamp outs c.note_part-note.result o c.count_sent.new.self.shown is many added noted (handle ∙ ap (handle_noted f) (sym note))
    ∙ ap (λ (x : Option EventHandle). answer_outcome (answer.Sent x) (state_of (record now { members = c.count_sent.new.self.shown }))) (sym c.handle_noted-handle.ensures)
    ∙ ap (λ (v : FederationValue). answer_outcome (answer.Sent c.handle_noted-handle.result) (state_of (record v { members = c.count_sent.new.self.shown }))) (sym left))
