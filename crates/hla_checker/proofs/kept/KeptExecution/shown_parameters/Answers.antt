-- Where the class has all parameters, none is cut.
use Rattle.std.proofs.Common.{◌≡◌, IfOk, Bool, List, length, sym, ap, subst, ◌∙◌, arith}
use Rattle.std.specs.List.{prefix_len}
use Rattle.std.proofs.lemmas.List.Sums.{prefix_len-le-length}
use Rattle.hla_base.specs.declared.content.HandleValuePair.{HandleValuePair}
use Rattle.hla_catalogue.specs.Lookup.{has_parameter}
use Rattle.hla_checker.proofs.Sends.ShownValues.{whole_prefix}
use Rattle.hla_checker.proofs.kept.KeptExecution.shown_parameters.Goals as goal

pub returns-then-count-len-clause-ok : goal.returns-then-count-len-clause-ok
returns-then-count-len-clause-ok c =
    let values = c.args.values.now in
    let shows : HandleValuePair → Bool = λ (v : HandleValuePair). has_parameter c.args.self.now.catalogue c.args.class v.handle in
    let counted = c.count_parameters-count.ensures ∙ ap (prefix_len shows) c.as_slice.ensures in
    let all : prefix_len shows values ≡ length values = omega (arith, counted, c.len.ensures, c.if-count-len.true) in
    subst (λ (ys : List HandleValuePair). IfOk c.share.result (λ shown. shown ≡ ys)) (sym (whole_prefix shows values all)) c.share.ensures.ok

pub cut_parameters-requires-clause-within : goal.cut_parameters-requires-clause-within
cut_parameters-requires-clause-within c =
    let shows : HandleValuePair → Bool = λ (v : HandleValuePair). has_parameter c.args.self.now.catalogue c.args.class v.handle in
    let values = c.args.values.now in
    let counted = c.count_parameters-count.ensures ∙ ap (prefix_len shows) c.as_slice.ensures in
    let within = ap length c.as_slice-2.ensures in
    omega (arith, counted, within, prefix_len-le-length shows values, c.len.ensures, c.if-count-len.false)
