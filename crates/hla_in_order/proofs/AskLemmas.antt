-- Which requests take an ambassador.
use Rattle.std.proofs.Common.{◌≡◌, ℕ, List, Option, None, Some, Result, Ok, Err, ap, sym, refl, ◌∙◌}
use Rattle.hla_base.specs.declared.fault.Fault.{Fault}
use Rattle.hla_catalogue.specs.CatalogueValue.{CatalogueValue}
use Rattle.hla_commands.specs.declared.lines.Command.{Command}
use Rattle.hla_commands.specs.declared.lines.Command.TheVariants as command
use Rattle.hla_machine.specs.declared.service.Service.{Service}
use Rattle.hla_machine.specs.declared.step.Step.TheVariants as step
use Rattle.hla_requests.specs.declared.members.NamedFederate.{NamedFederate}
use Rattle.hla_requests.specs.declared.steps.Request.{Request}
use Rattle.hla_requests.specs.declared.steps.Request.TheVariants as request
use Rattle.hla_requests.specs.Requests.{ask_then, request_of, known_federate, joined_federate, service_of, step_by}
use Rattle.hla_outcomes.specs.Joining.{joins_by, request_joins}

-- what is asked next is asked
asked_then : {X Y : Type 0} (x : Result X Fault) (next : X → Result Y Fault) (y : Y) → ask_then x next ≡ Ok y → (v : X) × (next v ≡ Ok y)
asked_then (Ok v) next y is = (v, is)
asked_then (Err e) next y is = cc

step_by_takes_none : (f : ℕ) (s : Option Service) → request_joins (request.Step (step_by f s)) ≡ 0
step_by_takes_none f None = refl
step_by_takes_none f (Some s) = refl

asked_is : (asked r : Request) → (let given : Result Request Fault = Ok asked in given) ≡ Ok r → request_joins r ≡ request_joins asked
asked_is asked r is =
    let same : asked ≡ r = cc in
    ap request_joins (sym same)

-- what a line asks for takes as many as the line
pub asked_joins : (c : CatalogueValue) (ms : List NamedFederate) (asks : Command) (r : Request) → request_of c ms asks ≡ Ok r → request_joins r ≡ joins_by asks
asked_joins c ms command.Create r is = asked_is request.Create r is
asked_joins c ms command.Destroy r is = asked_is request.Destroy r is
asked_joins c ms (command.Join name) r is = asked_is (request.Step (step.Join name)) r is
asked_joins c ms (command.Carry from to) r is =
    let g = asked_then (known_federate ms from) (λ g. ask_then (known_federate ms to) (λ f. Ok (request.Step (step.Carry g f)))) r is in
    let f = asked_then (known_federate ms to) (λ f. Ok (request.Step (step.Carry g.0 f))) r g.1 in
    asked_is (request.Step (step.Carry g.0 f.0)) r f.1
asked_joins c ms (command.Announce name) r is =
    let f = asked_then (joined_federate ms name) (λ f. Ok (request.Step (step.Announce f))) r is in
    asked_is (request.Step (step.Announce f.0)) r f.1
asked_joins c ms (command.Federate name call) r is =
    let f = asked_then (joined_federate ms name) (λ f. ask_then (service_of c call) (λ s. Ok (request.Step (step_by f s)))) r is in
    let s = asked_then (service_of c call) (λ s. Ok (request.Step (step_by f.0 s))) r f.1 in
    asked_is (request.Step (step_by f.0 s.0)) r s.1 ∙ step_by_takes_none f.0 s.0
