use Rattle.std.proofs.Common.{ap, sym, ◌∙◌}
use Rattle.hla_requests.specs.Requests.{handle_named}
use Rattle.hla_requests.proofs.AskLemmas.{handles_start, handles_none, handles_step}
use Rattle.hla_requests.proofs.lookups.attributes.Goals as goal

pub loop-name-init : goal.loop-name-init
loop-name-init c = rw c.new.ensures (handles_start (handle_named c.args.catalogue.now c.args.class) c.args.names.now)

pub returns-in-None : goal.returns-in-None
returns-in-None c =
    let find = handle_named c.args.catalogue.now c.args.class in
    handles_none find c.args.names.now c.loop-name.name-index c.name-item.result c.loop-name-test.true c.name-item.is (ap find (sym c.as_slice.ensures) ∙ sym c.handle.ensures ∙ c.in-None.is)

pub loop-name-preserved : goal.loop-name-preserved
loop-name-preserved c =
    let find = handle_named c.args.catalogue.now c.args.class in
    handles_step find c.args.names.now c.loop-name.name-index c.name-item.result c.loop-name-test.true c.name-item.is c.in-Some.number c.loop-name.numbers c.with_number-numbers.result
    (ap find (sym c.as_slice.ensures) ∙ sym c.handle.ensures ∙ c.in-Some.is) c.with_number-numbers.ensures c.loop-name.invariant
