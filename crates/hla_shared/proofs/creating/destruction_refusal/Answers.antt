use Rattle.std.proofs.Common.{sym, ◌∙◌, true, false}
use Rattle.hla_history.specs.Hosting.{host_of, table_of}
use Rattle.hla_shared.proofs.Executions.Creations.{destruction_nowhere, destruction_there}
use Rattle.hla_shared.proofs.Executions.Places.{no_place, found_there}
use Rattle.hla_shared.proofs.creating.destruction_refusal.Goals as goal

pub returns-in-None : goal.returns-in-None
returns-in-None g c =
    sym (destruction_nowhere (table_of c.args.executions.now c.args.name.now) (no_place c.args.executions.now c.args.name.now (sym c.place_of.ensures ∙ c.in-None.is)))

pub returns-then-is_joined_by_any : goal.returns-then-is_joined_by_any
returns-then-is_joined_by_any g c =
    let there = found_there c.args.executions.now c.args.name.now c.in-Some.place c.index-executions-place.result (sym c.place_of.ensures ∙ c.in-Some.is) c.index-executions-place.is in
    sym (destruction_there (table_of c.args.executions.now c.args.name.now) (host_of c.index-executions-place.result) true there.0 (sym c.is_joined_by_any.ensures ∙ c.if-is_joined_by_any.true))

pub returns-else-is_joined_by_any : goal.returns-else-is_joined_by_any
returns-else-is_joined_by_any g c =
    let there = found_there c.args.executions.now c.args.name.now c.in-Some.place c.index-executions-place.result (sym c.place_of.ensures ∙ c.in-Some.is) c.index-executions-place.is in
    sym (destruction_there (table_of c.args.executions.now c.args.name.now) (host_of c.index-executions-place.result) false there.0 (sym c.is_joined_by_any.ensures ∙ c.if-is_joined_by_any.false))
