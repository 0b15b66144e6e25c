-- What is subscribed at the class is what the receiver is shown.
use Rattle.std.proofs.Common.{◌≡◌, ℕ, false, List, [], filter, Option, Some, None, refl, subst}
use Rattle.std.specs.Option.{option_map_or}
use Rattle.std.specs.Result.{IfOk}
use Rattle.hla_base.specs.declared.content.Event.{Event}
use Rattle.hla_base.specs.declared.content.HandleValuePair.{HandleValuePair}
use Rattle.hla_catalogue.specs.Lookup.{contains_number}
use Rattle.hla_machine.specs.Directory.{reflection_of}
use Rattle.hla_federation.specs.Steps.Reflecting.{event_messages}
use Rattle.hla_federation.specs.Steps.Sending.{said_messages}
use Rattle.hla_federation.specs.Steps.State.{state_of}
use Rattle.hla_federation.proofs.parts.Parts.shared_reflection.Goals as goal

shown_as : (o : Option (List ℕ)) (values : List HandleValuePair) → filter (λ (v : HandleValuePair). contains_number v.handle (option_map_or (λ xs. xs) o [])) values ≡ filter (λ (v : HandleValuePair). option_map_or (contains_number v.handle) o false) values
shown_as None values = refl
shown_as (Some xs) values = refl

pub returns-clause-ok : goal.returns-clause-ok
returns-clause-ok c =
    let says = λ (vs : List HandleValuePair). said_messages c.args.heading (reflection_of c.args.object vs) in
    let shown = shown_as ((state_of c.args.self.now).directory.subscribed c.args.receiver.federate c.args.receiver.class) c.args.values.now in
    subst (λ (vs : List HandleValuePair). IfOk c.reflection_for.result (λ (e : Option Event). event_messages e ≡ says vs)) shown c.reflection_for.ensures.ok
