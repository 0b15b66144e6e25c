use Rattle.std.proofs.Common.{◌≡◌, List, Ok, Err, ap, subst}
use Rattle.hla_requests.specs.declared.members.NamedFederate.{NamedFederate}
use Rattle.hla_requests.specs.declared.steps.Request.{Request}
use Rattle.hla_requests.specs.declared.steps.Request.TheVariants as request
use Rattle.hla_requests.specs.declared.lookups.AskFault.TheVariants as stop
use Rattle.hla_requests.specs.Requests.{request_of}
use Rattle.hla_in_order.specs.declared.in_order.Cast.{Cast}
use Rattle.hla_in_order.proofs.LeadLemmas.{asks_ok, asks_refused, asks_memory, line_asked, line_stepped, line_refused, line_forgotten}
use Rattle.hla_in_order.proofs.in_order.Cast.line.Goals as goal

pub returns-in-Ok-Create-clause-led : goal.returns-in-Ok-Create-clause-led
returns-in-Ok-Create-clause-led g c =
    let is = c.in-Ok-Create.is in
    let same = c.in-Ok-Create.field-0-is in
    let given : c.of.result ≡ Ok request.Create = cc in
    let asks = subst (λ (ms : List NamedFederate). request_of c.args.catalogue.now ms c.args.command.now ≡ Ok request.Create) c.as_slice.ensures.value (asks_ok c.of.result _ request.Create c.of.ensures given) in
    line_asked c.args.catalogue.now c.args.fed.now c.args.command.now request.Create c.create.result c.args.rti.now c.create.new.rti c.args.self.now c.create.new.self asks c.create.ensures.led c.create.ensures.members

pub returns-in-Ok-Destroy-clause-led : goal.returns-in-Ok-Destroy-clause-led
returns-in-Ok-Destroy-clause-led g c =
    let is = c.in-Ok-Destroy.is in
    let same = c.in-Ok-Destroy.field-0-is in
    let given : c.of.result ≡ Ok request.Destroy = cc in
    let asks = subst (λ (ms : List NamedFederate). request_of c.args.catalogue.now ms c.args.command.now ≡ Ok request.Destroy) c.as_slice.ensures.value (asks_ok c.of.result _ request.Destroy c.of.ensures given) in
    line_asked c.args.catalogue.now c.args.fed.now c.args.command.now request.Destroy c.destroy.result c.args.rti.now c.destroy.new.rti c.args.self.now c.destroy.new.self asks (c.destroy.ensures.led c.args.fed.now)
    (ap (λ (x : Cast g.row.L.Denot g.row.B.Denot g.row.P.Denot g.row.H.Denot). x.members.items) c.destroy.ensures.same)

pub returns-in-Ok-Step-clause-led : goal.returns-in-Ok-Step-clause-led
returns-in-Ok-Step-clause-led g c =
    let is = c.in-Ok-Step.is in
    let same = c.in-Ok-Step.field-0-is in
    let given : c.of.result ≡ Ok (request.Step c.in-Ok-Step.step) = cc in
    let asks = subst (λ (ms : List NamedFederate). request_of c.args.catalogue.now ms c.args.command.now ≡ Ok (request.Step c.in-Ok-Step.step)) c.as_slice.ensures.value (asks_ok c.of.result _ (request.Step c.in-Ok-Step.step) c.of.ensures given) in
    line_stepped c.args.catalogue.now c.args.fed.now c.args.command.now c.in-Ok-Step.step c.args.rti.now c.step_and_note.new.rti c.args.self.now c.step_and_note.new.self c.step_and_note.result asks c.step_and_note.ensures.led c.step_and_note.ensures.members

pub returns-in-Err-Refused-clause-led : goal.returns-in-Err-Refused-clause-led
returns-in-Err-Refused-clause-led g c =
    let is = c.in-Err-Refused.is in
    let same = c.in-Err-Refused.field-0-is in
    let given : c.of.result ≡ Err (stop.Refused c.in-Err-Refused.fault) = cc in
    let asks = subst (λ (ms : List NamedFederate). request_of c.args.catalogue.now ms c.args.command.now ≡ Err c.in-Err-Refused.fault) c.as_slice.ensures.value (asks_refused c.of.result _ c.in-Err-Refused.fault c.of.ensures given) in
    line_refused c.args.catalogue.now c.args.fed.now c.args.command.now c.in-Err-Refused.fault c.args.rti.now c.args.self.now c.pass_over.new.self asks c.pass_over.ensures.courier c.pass_over.ensures.players c.pass_over.ensures.execution c.pass_over.ensures.members

pub returns-in-Err-Memory-clause-led : goal.returns-in-Err-Memory-clause-led
returns-in-Err-Memory-clause-led g c =
    let is = c.in-Err-Memory.is in
    let same = c.in-Err-Memory.field-0-is in
    let given : c.of.result ≡ Err stop.Memory = cc in
    let asks = subst (λ (ms : List NamedFederate). (x : Request) × (request_of c.args.catalogue.now ms c.args.command.now ≡ Ok x)) c.as_slice.ensures.value (asks_memory c.of.result _ c.of.ensures given) in
    line_forgotten c.args.catalogue.now c.args.fed.now c.args.command.now c.args.rti.now c.args.self.now c.pass_over-in-Err-Memory.new.self asks c.pass_over-in-Err-Memory.ensures.courier c.pass_over-in-Err-Memory.ensures.players c.pass_over-in-Err-Memory.ensures.execution c.pass_over-in-Err-Memory.ensures.members
