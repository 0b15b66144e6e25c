use Rattle.std.proofs.Common.{◌≡◌, refl, ap}
use Rattle.hla_requests.specs.declared.steps.Request.TheVariants as request
use Rattle.hla_callers.specs.Callers.{said, nothing}
use Rattle.hla_in_order.specs.declared.in_order.Cast.{Cast}
use Rattle.hla_in_order.proofs.LeadLemmas.{itself_leads}
use Rattle.hla_in_order.proofs.in_order.Cast.create.Goals.{then-is_ok, else-is_ok}
use Rattle.hla_in_order.proofs.in_order.Cast.create.Goals as goal

pub returns-clause-led : goal.returns-clause-led
returns-clause-led g c =
    let courier : c.if-is_ok.self.courier ≡ c.args.self.now.courier = elim c.if-is_ok.branch [
      | then-is_ok w ↦ ap (λ (x : Cast g.row.L.Denot g.row.B.Denot g.row.P.Denot g.row.H.Denot). x.courier) w.self-is
      | else-is_ok w ↦ ap (λ (x : Cast g.row.L.Denot g.row.B.Denot g.row.P.Denot g.row.H.Denot). x.courier) w.self-is
    ] in
    let players : c.if-is_ok.self.players.items ≡ c.args.self.now.players.items = elim c.if-is_ok.branch [
      | then-is_ok w ↦ ap (λ (x : Cast g.row.L.Denot g.row.B.Denot g.row.P.Denot g.row.H.Denot). x.players.items) w.self-is
      | else-is_ok w ↦ ap (λ (x : Cast g.row.L.Denot g.row.B.Denot g.row.P.Denot g.row.H.Denot). x.players.items) w.self-is
    ] in
    let plays : c.if-is_ok.self.execution ≡ c.args.self.now.execution = elim c.if-is_ok.branch [
      | then-is_ok w ↦ ap (λ (x : Cast g.row.L.Denot g.row.B.Denot g.row.P.Denot g.row.H.Denot). x.execution) w.self-is
      | else-is_ok w ↦ ap (λ (x : Cast g.row.L.Denot g.row.B.Denot g.row.P.Denot g.row.H.Denot). x.execution) w.self-is
    ] in
    itself_leads c.args.fed.now request.Create (said nothing c.create-created.result) c.outcome_of_done.result c.args.rti.now c.create-created.new.self c.args.self.now c.if-is_ok.self (λ rs n is. is) (λ o. refl) c.create-created.ensures.answered c.outcome_of_done.ensures c.create-created.ensures.handed courier players plays
