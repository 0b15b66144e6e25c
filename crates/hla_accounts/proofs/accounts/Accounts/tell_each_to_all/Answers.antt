-- One after another they are told.
use Rattle.std.proofs.Common.{◌≡◌, ◌+◌, List, ◌++◌, ◌∷◌, [], take, sym, ap, ◌∙◌, arith}
use Rattle.std.proofs.lemmas.List.{take_more, take_all}
use Rattle.hla_base.specs.declared.notice.Notice.{Notice}
use Rattle.hla_machine.specs.Central.{Central}
use Rattle.hla_machine.specs.Machine.{with_told}
use Rattle.hla_accounts.specs.Accounts.{central_with}
use Rattle.hla_accounts.specs.Notices.{told_each_to_all, told_to_all}
use Rattle.hla_accounts.proofs.AfterSteps.Points.{each_told_none, each_told_more}
use Rattle.hla_accounts.proofs.accounts.Accounts.tell_each_to_all.Goals as goal

pub loop-notice-init : goal.loop-notice-init
loop-notice-init c d = each_told_none (central_with d c.args.self.now)

pub loop-notice-preserved : goal.loop-notice-preserved
loop-notice-preserved c d =
    let i = c.loop-notice.notice-index in
    let notices = c.args.notices.now in
    let n = c.notice-item.result in
    let more : take (i + 1) notices ≡ take i notices ++ n ∷ [] = take_more notices i n c.loop-notice-test.true ∙ ap (λ (x : Notice). take i notices ++ x ∷ []) (sym c.notice-item.is) in
    c.in_ok-tell_all.ensures.ok d
    ∙ ap (λ (s : Central). with_told s (told_to_all s.directory n)) (c.loop-notice.invariant d)
    ∙ each_told_more (central_with d c.args.self.now) (take i notices) n
    ∙ ap (λ (ns : List Notice). with_told (central_with d c.args.self.now) (told_each_to_all (central_with d c.args.self.now).directory ns)) (sym more)

pub returns-clause-ok : goal.returns-clause-ok
returns-clause-ok c d =
    c.loop-notice.invariant d
    ∙ ap (λ (ns : List Notice). with_told (central_with d c.args.self.now) (told_each_to_all (central_with d c.args.self.now).directory ns)) (take_all c.loop-notice.notice-index c.args.notices.now (omega (arith, c.loop-notice-test.false)))
