use Rattle.std.proofs.Common.{ℕ, sym, ap, ◌∙◌}
use Rattle.hla_machine.specs.Directory.{Object}
use Rattle.hla_accounts.specs.Accounts.{central_with}
use Rattle.hla_verdicts.proofs.Picks.Discoveries.{discovered_of}
use Rattle.hla_verdicts.proofs.discovering.judge_discovery.Goals as goal

pub returns-clause-ok : goal.returns-clause-ok
returns-clause-ok c d same =
    discovered_of (central_with d c.args.accounts.now) (central_with d c.judge_offer-verdict.new.accounts) c.args.federate c.owner-owner.result c.args.object c.args.class c.args.name.now c.in_ok-name.name c.args.choice.now c.judge_offer-verdict.result
    c.in_ok-name.ensures.ok (c.owner-owner.ensures ∙ sym (ap (λ (t : ℕ → Object). (t c.args.object).owner) same)) (c.judge_offer-verdict.ensures.judged d)
