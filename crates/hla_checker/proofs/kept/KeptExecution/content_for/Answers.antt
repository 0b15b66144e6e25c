use Rattle.std.proofs.Common.{◌≡◌, IfOk, Option, ap, sym, subst}
use Rattle.hla_base.specs.declared.content.Content.{Content}
use Rattle.hla_machine.specs.Directory.{Body, AnUpdate, content_for}
use Rattle.hla_verdicts.specs.Kept.{directory_of}
use Rattle.hla_checker.specs.Sending.{body_said}
use Rattle.hla_checker.proofs.kept.KeptExecution.content_for.Goals as goal

pub returns-in-Update-clause-ok : goal.returns-in-Update-clause-ok
returns-in-Update-clause-ok c =
    let said : AnUpdate c.in-Update.object c.in-Update.values ≡ body_said c.args.body.now = ap body_said (sym c.in-Update.is) in
    subst (λ (y : Body). IfOk c.update_for.result (λ (x : Option Content). x ≡ content_for (directory_of c.args.self.now) y c.args.federate)) said c.update_for.ensures.ok
