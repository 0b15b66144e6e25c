use Rattle.std.proofs.Common.{sym, subst, length, ap, ◌∙◌}
use Rattle.hla_machine.specs.Sends.{after_message}
use Rattle.hla_verdicts.specs.Kept.{KeptValue, IsConsistent, central_of, directory_of}
use Rattle.hla_checker.specs.Sending.{body_said, outgoing, AreContents}
use Rattle.hla_checker.proofs.Verdicts.Sends.{cut_to, message_consistent}
use Rattle.hla_checker.proofs.kept.KeptExecution.send.Goals as goal

pub returns-clause-sent : goal.returns-clause-sent
returns-clause-sent c =
    let v : KeptValue = record { catalogue = c.self.inside.catalogue; declarations = c.self.inside.declarations; objects = c.self.inside.registry; accounts = c.self.inside.accounts; points = c.self.inside.points } in
    let m = c.args.message.now in
    let are = subst (λ (w : KeptValue). AreContents (directory_of w) (body_said m.body) (length w.accounts) c.in_ok-contents.contents.items) (sym c.self.view_is) c.in_ok-contents.ensures.ok in
    let cut = cut_to v c.args.federate m c.is_deletion-is_deletion.result c.in_ok-contents.contents.items are (sym c.is_deletion-is_deletion.ensures) in
    c.in_ok-send.ensures.ok (directory_of v) (outgoing m) cut ∙ ap (λ (w : KeptValue). after_message (central_of w) c.args.federate c.args.stamp (outgoing m)) c.self.view_is

pub returns-clause-consistent : goal.returns-clause-consistent
returns-clause-consistent c =
    let v : KeptValue = record { catalogue = c.self.inside.catalogue; declarations = c.self.inside.declarations; objects = c.self.inside.registry; accounts = c.self.inside.accounts; points = c.self.inside.points } in
    let m = c.args.message.now in
    let are = subst (λ (w : KeptValue). AreContents (directory_of w) (body_said m.body) (length w.accounts) c.in_ok-contents.contents.items) (sym c.self.view_is) c.in_ok-contents.ensures.ok in
    let cut = cut_to v c.args.federate m c.is_deletion-is_deletion.result c.in_ok-contents.contents.items are (sym c.is_deletion-is_deletion.ensures) in
    message_consistent v c.send.new.self c.args.federate c.args.stamp (outgoing m) (c.in_ok-send.ensures.ok (directory_of v) (outgoing m) cut)
    (subst (λ (w : KeptValue). IsConsistent w) (sym c.self.view_is) c.requires.consistent)
