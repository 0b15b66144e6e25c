use Rattle.std.proofs.Common.{◌+◌, ◌≤◌, ◌<◌, List, ℕ, None, length, ap, sym, subst, ◌∙◌}
use Rattle.hla_base.specs.Limits.{max_serial}
use Rattle.hla_machine.specs.Central.{Central}
use Rattle.hla_machine.specs.Directory.{Directory, deletions_sent, objects_of}
use Rattle.hla_machine.specs.Machine.{after_leaving}
use Rattle.hla_machine.specs.Sends.{after_messages}
use Rattle.hla_accounts.specs.Accounts.{account_at}
use Rattle.hla_verdicts.specs.Kept.{KeptValue, central_of, directory_of}
use Rattle.hla_checker.proofs.Sends.Updates.{after_directory}
use Rattle.hla_checker.proofs.kept.KeptExecution.resign.Goals as goal

pub send_deletions-requires-clause-room : goal.send_deletions-requires-clause-room
send_deletions-requires-clause-room c =
    let all = c.as_slice.ensures ∙ c.in_ok-objects.ensures.ok ∙ ap (λ (v : KeptValue). objects_of (directory_of v) c.args.federate) c.self.view_is in
    subst (λ (hs : List ℕ). (k : ℕ) → k < length hs → (account_at c.args.self.now.accounts c.args.federate).next_serial + k ≤ max_serial) (sym all)
    c.requires.room

pub remove_member-requires-clause-joined : goal.remove_member-requires-clause-joined
remove_member-requires-clause-joined c =
    ap (λ (s : Central). s.directory.joined c.args.federate) c.in_ok-send_deletions.ensures.sent
    ∙ ap (λ (d : Directory). d.joined c.args.federate) (after_directory c.args.federate None (deletions_sent c.as_slice.result.now) (central_of c.args.self.now)) ∙ c.requires.joined

pub returns-clause-resigned : goal.returns-clause-resigned
returns-clause-resigned c =
    let all = c.as_slice.ensures ∙ c.in_ok-objects.ensures.ok ∙ ap (λ (v : KeptValue). objects_of (directory_of v) c.args.federate) c.self.view_is in
    c.in_ok-remove_member.ensures.left
    ∙ ap (λ (s : Central). after_leaving s c.args.federate) (c.in_ok-send_deletions.ensures.sent
    ∙ ap (λ (hs : List ℕ). after_messages (central_of c.args.self.now) c.args.federate None (deletions_sent hs)) all)
