use Rattle.std.proofs.Common.{ap, sym, subst, ◌∙◌, List, ℕ}
use Rattle.std.specs.Prelude.{Result}
use Rattle.hla_base.specs.declared.fault.Fault.{Fault}
use Rattle.hla_base.specs.declared.content.HandleValuePair.{HandleValuePair}
use Rattle.hla_requests.specs.Requests.{Asks, handle_named, with_last_pair}
use Rattle.hla_requests.proofs.AskLemmas.{pairs_start, pairs_none, pairs_step}
use Rattle.hla_requests.proofs.lookups.pairs.Goals as goal

pub loop-given-init : goal.loop-given-init
loop-given-init c = rw (pairs_start (handle_named c.args.catalogue.now c.args.class) c.args.values.now) c.no_pairs-pairs.ensures

pub returns-in-None : goal.returns-in-None
returns-in-None c =
    let find = handle_named c.args.catalogue.now c.args.class in
    pairs_none find c.args.values.now c.loop-given.given-index c.given-item.result c.loop-given-test.true c.given-item.is (ap find (sym c.as_slice.ensures) ∙ sym c.handle.ensures ∙ c.in-None.is)

pub loop-given-preserved : goal.loop-given-preserved
loop-given-preserved c =
    let find = handle_named c.args.catalogue.now c.args.class in
    let item = c.given-item.result in
    let handle = c.in-Some.handle in
    let kept = subst (λ (v : List ℕ). (meant : Result (List HandleValuePair) Fault) → Asks c.loop-given.pairs meant → Asks c.with_pair-pairs.result (with_last_pair meant handle v)) c.as_slice-in-Some.ensures c.with_pair-pairs.ensures in
    pairs_step find c.args.values.now c.loop-given.given-index item c.loop-given-test.true c.given-item.is handle c.loop-given.pairs c.with_pair-pairs.result (ap find (sym c.as_slice.ensures) ∙ sym c.handle.ensures ∙ c.in-Some.is) kept
    c.loop-given.invariant
