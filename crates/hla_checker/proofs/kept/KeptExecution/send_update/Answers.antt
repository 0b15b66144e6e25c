use Rattle.std.proofs.Common.{List, length, sym, ap, ◌∙◌, length-append}
use Rattle.hla_catalogue.specs.declared.declared.Order.TheVariants.{Receive, Timestamp}
use Rattle.hla_machine.specs.Central.{Central}
use Rattle.hla_machine.specs.Directory.{Directory, Outgoing, part_sent}
use Rattle.hla_machine.specs.Sends.{after_messages}
use Rattle.hla_accounts.specs.Accounts.{account_at}
use Rattle.hla_accounts.proofs.AfterSteps.Counts.{on_ok}
use Rattle.hla_verdicts.specs.Kept.{central_of, directory_of}
use Rattle.hla_checker.proofs.Sends.Updates.{after_append, after_directory, after_serial, update_parts, second_room}
use Rattle.hla_checker.proofs.kept.KeptExecution.send_update.Goals as goal

pub send_part-requires-2-clause-joined : goal.send_part-requires-2-clause-joined
send_part-requires-2-clause-joined c =
    let first = part_sent Receive c.args.object c.in_ok-parts.parts.received in
    ap (λ (s : Central). s.directory.joined c.args.federate) c.in_ok-send_part.ensures.sent
    ∙ ap (λ (d : Directory). d.joined c.args.federate) (after_directory c.args.federate c.args.stamp first (central_of c.args.self.now)) ∙ c.requires.joined

pub send_part-requires-2-clause-room : goal.send_part-requires-2-clause-room
send_part-requires-2-clause-room c =
    let d = directory_of c.args.self.now in
    let first = part_sent Receive c.args.object c.in_ok-parts.parts.received in
    let second = part_sent Timestamp c.args.object c.in_ok-parts.parts.stamped in
    let parts = update_parts d c.args.object c.args.values.now c.in_ok-values.values c.in_ok-parts.parts.received c.in_ok-parts.parts.stamped c.in_ok-values.ensures.ok
    c.in_ok-parts.ensures.received c.in_ok-parts.ensures.stamped in
    second_room (account_at c.args.self.now.accounts c.args.federate).next_serial _ (length first) (length second) _
    (ap (λ (s : Central). s.serial c.args.federate) c.in_ok-send_part.ensures.sent ∙ after_serial c.args.federate c.args.stamp first (central_of c.args.self.now))
    (ap (λ (outs : List Outgoing). length outs) (sym parts) ∙ length-append first second) c.requires.room

pub returns-clause-sent : goal.returns-clause-sent
returns-clause-sent c =
    let d = directory_of c.args.self.now in
    let old = central_of c.args.self.now in
    let first = part_sent Receive c.args.object c.in_ok-parts.parts.received in
    let second = part_sent Timestamp c.args.object c.in_ok-parts.parts.stamped in
    let parts = update_parts d c.args.object c.args.values.now c.in_ok-values.values c.in_ok-parts.parts.received c.in_ok-parts.parts.stamped c.in_ok-values.ensures.ok
    c.in_ok-parts.ensures.received c.in_ok-parts.ensures.stamped in
    on_ok c.send_part-2.result (λ more.
    more ∙ ap (λ (s : Central). after_messages s c.args.federate c.args.stamp second) c.in_ok-send_part.ensures.sent ∙ sym (after_append c.args.federate c.args.stamp first second old)
    ∙ ap (after_messages old c.args.federate c.args.stamp) parts) c.send_part-2.ensures.sent
