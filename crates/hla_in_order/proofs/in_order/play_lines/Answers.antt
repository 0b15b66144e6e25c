use Rattle.std.proofs.Common.{◌≡◌, ◌+◌, [], sym, ap, ◌∙◌, subst}
use Rattle.hla_callers.specs.Callers.{Office, new_caller}
use Rattle.hla_in_order.specs.Turns.{IsSet}
use Rattle.hla_in_order.proofs.LeadLemmas.{leave_ended}
use Rattle.hla_in_order.proofs.in_order.play_lines.Goals as goal

pub lines-requires-clause-set : goal.lines-requires-clause-set
lines-requires-clause-set g c =
    let handed : c.courier.new.self.handed ≡ 1 = c.in_ok-courier.ensures.handed ∙ ap (λ (o : Office). o.handed + 1) c.requires.first in
    let couriers : c.courier.new.self.couriers ≡ 1 = c.in_ok-courier.ensures.couriers ∙ ap (λ (o : Office). o.couriers + 1) c.requires.first in
    let own : c.courier.new.self.own ≡ new_caller 0 = c.in_ok-courier.ensures.own ∙ ap (λ (o : Office). o.own) c.requires.first in
    let office : record { handed = 1; couriers = 1; own = new_caller 0 } ≡ c.courier.new.self = sym (λ i. record { handed = handed i; couriers = couriers i; own = own i }) in
    subst (λ (o : Office). IsSet [] o c.new-cast.result) office
    (c.new-cast.ensures.set (c.in_ok-courier.ensures.courier ∙ ap new_caller handed) c.in_ok-execution.ensures.ok)

pub returns-in-Ok : goal.returns-in-Ok
returns-in-Ok g c =
    leave_ended c.args.catalogue.now c.args.fed.now c.args.lines.now c.lines.new.outcomes c.lines.new.rti c.lines.new.self _ c.leave.result c.in-Ok.ensures c.leave.ensures
