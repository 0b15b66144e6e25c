use Rattle.std.proofs.Common.{◌≡◌, ◌≢◌, ℕ, not, List, [], ◌∷◌, length, Option, None, Some, sym, ap, ◌∙◌}
use Rattle.std.specs.List.{position}
use Rattle.hla_base.specs.declared.content.Content.{Content}
use Rattle.hla_base.specs.declared.content.Event.{Event}
use Rattle.hla_base.specs.declared.content.HandleValuePair.{HandleValuePair}
use Rattle.hla_catalogue.specs.Lookup.{contains_number}
use Rattle.hla_null_message.specs.declared.message.Message.TheVariants as message
use Rattle.hla_machine.specs.Directory.{reflection_of}
use Rattle.hla_federation.specs.Steps.Reflecting.{attributes_at}
use Rattle.hla_federation.specs.Steps.Sending.{said_messages}
use Rattle.hla_federation.specs.Steps.State.{state_of}
use Rattle.hla_federation.proofs.Steps.Addressing.{reflection_some}
use Rattle.hla_federation.proofs.Steps.Showing.{all_shown, only_hidden}
use Rattle.hla_federation.proofs.parts.Parts.reflection_for.Goals as goal

pub returns-in_ok-share-in-None-clause-ok : goal.returns-in_ok-share-in-None-clause-ok
returns-in_ok-share-in-None-clause-ok c =
    let values = c.args.values.now in
    let hides = λ (xs : List ℕ) (v : HandleValuePair). not (contains_number v.handle xs) in
    let subscribed = attributes_at (state_of c.args.self.now).directory.subscribed c.args.receiver in
    let says = λ (o : Option Content). said_messages c.args.heading o in
    let none : position (hides subscribed) values ≡ None = ap (λ (xs : List ℕ). position (hides xs) values) (sym c.attributes_of.ensures) ∙ ap (position (hides c.attributes_of.result.now)) (sym c.as_slice.ensures) ∙ sym c.in-None.ensures in
    let some : length values ≢ 0 = λ e. let no = (c.if-is_empty.ensures).1 e in absurd (cc no) in
    ap (λ (e : Event). message.Event e ∷ []) (c.in_ok-share-in-None.ensures.ok ∙ c.requires.whole)
    ∙ ap says (sym (reflection_some c.args.object values some))
    ∙ ap (λ (vs : List HandleValuePair). says (reflection_of c.args.object vs)) (sym (all_shown (λ (v : HandleValuePair). contains_number v.handle subscribed) values none))

-- the only value is hidden
pub returns-in-Some-clause-ok : goal.returns-in-Some-clause-ok
returns-in-Some-clause-ok c =
    let values = c.args.values.now in
    let hides = λ (xs : List ℕ) (v : HandleValuePair). not (contains_number v.handle xs) in
    let subscribed = attributes_at (state_of c.args.self.now).directory.subscribed c.args.receiver in
    let hidden : position (hides subscribed) values ≡ Some c.in-Some.field-0 = ap (λ (xs : List ℕ). position (hides xs) values) (sym c.attributes_of.ensures) ∙ ap (position (hides c.attributes_of.result.now)) (sym c.as_slice.ensures) ∙ sym c.in-Some.ensures in
    ap (λ (vs : List HandleValuePair). said_messages c.args.heading (reflection_of c.args.object vs)) (sym (only_hidden (λ (v : HandleValuePair). contains_number v.handle subscribed) values c.in-Some.field-0 hidden (sym c.len.ensures ∙ c.if-len-eq1.true)))
