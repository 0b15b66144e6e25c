-- What was made for those who subscribe the same is what this one is shown.
use Rattle.std.proofs.Common.{ℕ, List, Option, filter, ap, subst, ◌∙◌}
use Rattle.std.specs.Prelude.{IfSome}
use Rattle.hla_base.specs.declared.content.HandleValuePair.{HandleValuePair}
use Rattle.hla_catalogue.specs.Lookup.{contains_number}
use Rattle.hla_machine.specs.Directory.{reflection_of}
use Rattle.hla_federation.specs.Steps.Reflecting.{IsMade, event_messages}
use Rattle.hla_federation.specs.declared.reflecting.Made.{Made}
use Rattle.hla_federation.specs.Steps.Sending.{said_messages}
use Rattle.hla_federation.specs.Steps.State.{state_of}
use Rattle.hla_federation.proofs.parts.Parts.shared_part.Goals as goal

pub returns-in-Some-clause-ok : goal.returns-in-Some-clause-ok
returns-in-Some-clause-ok c =
    let values = c.args.values.now in
    let says = λ (vs : List HandleValuePair). said_messages c.args.heading (reflection_of c.args.object vs) in
    let made = subst (λ (o : Option Made). IfSome o (IsMade (state_of c.args.self.now).directory.subscribed c.args.heading c.args.object values)) c.in-Some.ensures.made c.requires.made in
    ap event_messages c.in_ok-share.ensures.ok
    ∙ made
    ∙ ap (λ (subscribed : List ℕ). says (filter (λ (v : HandleValuePair). contains_number v.handle subscribed) values)) (c.in-Some.ensures.same ∙ c.attributes_of-subscribed.ensures)
