use Rattle.std.proofs.Common.{List, ap, ◌∙◌}
use Rattle.hla_machine.specs.Central.{Central}
use Rattle.hla_machine.specs.Directory.{Outgoing, without_object}
use Rattle.hla_machine.specs.Machine.{with_central_directory}
use Rattle.hla_machine.specs.Sends.{after_messages}
use Rattle.hla_verdicts.specs.Kept.{central_of}
use Rattle.hla_checker.proofs.Verdicts.Deletions.{exists_within, still_registered}
use Rattle.hla_checker.proofs.kept.KeptExecution.delete_object.Goals as goal

pub remove_object-requires-clause-registered : goal.remove_object-requires-clause-registered
remove_object-requires-clause-registered c =
    still_registered c.args.object _ _ (exists_within c.args.self.now.objects c.args.object c.requires.exists).1 (ap (λ (s : Central). s.directory.next_object) c.in_ok-send.ensures.sent)

pub returns-clause-deleted : goal.returns-clause-deleted
returns-clause-deleted c =
    c.remove_object.ensures.removed
    ∙ ap (λ (s : Central). with_central_directory s (without_object s.directory c.args.object)) (c.in_ok-send.ensures.sent
    ∙ ap (λ (outs : List Outgoing). after_messages (central_of c.args.self.now) c.args.federate c.args.stamp outs) c.deletion_of-message.ensures)
