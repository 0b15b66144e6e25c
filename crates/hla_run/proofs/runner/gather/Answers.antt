use Rattle.std.proofs.Common.{◌∙◌, ◌++◌, ◌∷◌, List, [], ap, subst, sym}
use Rattle.std.specs.List.{All}
use Rattle.std.proofs.lemmas.Bool.{cond-true}
use Rattle.hla_callers.specs.Callers.{Leaver}
use Rattle.hla_interface.specs.Exchanges.{IsExchange}
use Rattle.hla_run.proofs.runner.gather.Goals as goal

pub returns-then-not-lacks_memory-clause-left : goal.returns-then-not-lacks_memory-clause-left
returns-then-not-lacks_memory-clause-left g c =
    let first = c.push.ensures.items ∙ cond-true _ _ _ (sym c.if-has_player.ensures.value) in
    let second = c.push-2.ensures.items ∙ cond-true _ _ _ (sym c.if-has_courier.ensures.value) in
    let exchanges : All IsExchange c.leave-2.result.caller.transcript = subst (λ (l : Leaver). All IsExchange l.caller.transcript) (sym c.leave-2.ensures.left) c.leave-2.ensures.exchanges in
    (c.leave.result, c.leave-2.result, second ∙ ap (λ (ls : List Leaver). ls ++ c.leave-2.result ∷ []) first, c.leave.ensures, exchanges)
