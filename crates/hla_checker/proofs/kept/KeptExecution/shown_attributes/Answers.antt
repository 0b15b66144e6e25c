-- Where the federate subscribes all attributes, none is cut.
use Rattle.std.proofs.Common.{◌≡◌, ℕ, IfOk, Bool, List, [], length, filter, sym, ap, subst, ◌∙◌, arith}
use Rattle.std.specs.List.{prefix_len}
use Rattle.std.proofs.lemmas.List.Sums.{prefix_len-le-length}
use Rattle.std.specs.Option.{option_map_or}
use Rattle.hla_base.specs.declared.content.HandleValuePair.{HandleValuePair}
use Rattle.hla_catalogue.specs.Lookup.{contains_number}
use Rattle.hla_declaration.specs.Declarations.{declarations_of}
use Rattle.hla_verdicts.specs.Kept.{KeptValue, directory_of}
use Rattle.hla_checker.proofs.Sends.ShownValues.{whole_prefix, handed_values}
use Rattle.hla_checker.proofs.kept.KeptExecution.shown_attributes.Goals as goal

pub returns-then-first-len-clause-ok : goal.returns-then-first-len-clause-ok
returns-then-first-len-clause-ok c =
    let values = c.args.values.now in
    let shows : HandleValuePair → Bool = λ (v : HandleValuePair). contains_number v.handle c.subscribed_attributes-subscribed.result.now in
    let counted = c.count_subscribed-first.ensures ∙ ap (prefix_len shows) c.as_slice.ensures in
    let all : prefix_len shows values ≡ length values = omega (arith, counted, c.len.ensures, c.if-first-len.true) in
    subst (λ (ys : List HandleValuePair). IfOk c.share.result (λ shown. shown ≡ ys)) (sym (whole_prefix shows values all) ∙ handed_values c.subscribed_attributes-subscribed.result.now ((directory_of c.args.self.now).subscribed c.args.federate c.args.class) (subst (λ (y : KeptValue). c.subscribed_attributes-subscribed.result.now ≡ option_map_or (λ (ns : List ℕ). ns) ((declarations_of y.declarations).subscribed c.args.federate c.args.class) []) c.self.view_is c.subscribed_attributes-subscribed.ensures) values) c.share.ensures.ok

pub returns-clause-ok : goal.returns-clause-ok
returns-clause-ok c =
    let values = c.args.values.now in
    subst (λ (ys : List HandleValuePair). IfOk c.cut_to_subscribed.result (λ shown. shown ≡ ys)) (ap (filter (λ (v : HandleValuePair). contains_number v.handle c.subscribed_attributes-subscribed.result.now)) c.as_slice-2.ensures ∙ handed_values c.subscribed_attributes-subscribed.result.now ((directory_of c.args.self.now).subscribed c.args.federate c.args.class) (subst (λ (y : KeptValue). c.subscribed_attributes-subscribed.result.now ≡ option_map_or (λ (ns : List ℕ). ns) ((declarations_of y.declarations).subscribed c.args.federate c.args.class) []) c.self.view_is c.subscribed_attributes-subscribed.ensures) values) c.cut_to_subscribed.ensures.ok

pub cut_to_subscribed-requires-clause-within : goal.cut_to_subscribed-requires-clause-within
cut_to_subscribed-requires-clause-within c =
    let values = c.args.values.now in
    let shows : HandleValuePair → Bool = λ (v : HandleValuePair). contains_number v.handle c.subscribed_attributes-subscribed.result.now in
    let counted = c.count_subscribed-first.ensures ∙ ap (prefix_len shows) c.as_slice.ensures in
    let within = ap length c.as_slice-2.ensures in
    omega (arith, counted, within, prefix_len-le-length shows values, c.len.ensures, c.if-first-len.false)
