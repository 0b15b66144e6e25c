use Rattle.std.proofs.Common.{◌<◌, ◌+◌, ℕ, List, length, rules, ap, refl, sym, subst, ◌∙◌}
use Rattle.hla_base.specs.Limits.{max_joins}
use Rattle.hla_catalogue.specs.CatalogueValue.{empty_catalogue}
use Rattle.hla_machine.specs.Directory.{new_directory}
use Rattle.hla_machine.specs.Refusals.{refusal}
use Rattle.hla_machine.specs.Machine.{central_seen}
use Rattle.hla_machine.specs.declared.step.Step.TheVariants as steps
use Rattle.hla_verdicts.specs.Kept.{KeptValue, central_of, directory_of}
use Rattle.hla_verdicts.proofs.Steps.Outcomes.{refused_told, done_wrong, kept_unchanged}
use Rattle.hla_checker.proofs.Verdicts.Joins.{join_room, join_done}
use Rattle.hla_checker.proofs.kept.KeptExecution.judge_join.Goals as goal

pub admit-requires-clause-room : goal.admit-requires-clause-room
admit-requires-clause-room c =
    subst (λ (x : KeptValue). length x.accounts < max_joins) c.self.view_is
    (join_room (new_directory empty_catalogue) c.self.inside.accounts c.as_slice.result.now (sym (c.join_fault-fault.ensures (new_directory empty_catalogue)) ∙ c.in-None.is))

pub returns-in-Refused-clause-ok : goal.returns-in-Refused-clause-ok
returns-in-Refused-clause-ok c =
    let now = c.args.self.now in
    let v : KeptValue = record { catalogue = c.self.inside.catalogue; declarations = c.self.inside.declarations; objects = c.self.inside.registry; accounts = c.self.inside.accounts; points = c.self.inside.points } in
    let found = c.join_fault-fault.ensures (directory_of v) ∙ ap (λ (n : List ℕ). refusal (central_seen (central_of v)) (steps.Join n)) c.as_slice.ensures ∙ ap (λ (x : KeptValue). refusal (central_seen (central_of x)) (steps.Join c.args.name.now)) c.self.view_is in
    kept_unchanged now now (steps.Join c.args.name.now) (steps.Join c.args.name.now) c.args.outcome.now c.args.choice.now c.of.result refl refl c.requires
    (refused_told (central_of now) (steps.Join c.args.name.now) c.join_fault-fault.result c.in-Refused.given c.args.outcome.now c.args.choice.now c.eq.result c.of.result
    found c.in-Refused.is (search rules) (c.is_nothing.ensures.0 c.if-not-is_nothing.false) c.of.ensures)

pub returns-in-Some-clause-ok : goal.returns-in-Some-clause-ok
returns-in-Some-clause-ok c =
    let now = c.args.self.now in
    let v : KeptValue = record { catalogue = c.self.inside.catalogue; declarations = c.self.inside.declarations; objects = c.self.inside.registry; accounts = c.self.inside.accounts; points = c.self.inside.points } in
    let found = c.join_fault-fault.ensures (directory_of v) ∙ ap (λ (n : List ℕ). refusal (central_seen (central_of v)) (steps.Join n)) c.as_slice.ensures ∙ ap (λ (x : KeptValue). refusal (central_seen (central_of x)) (steps.Join c.args.name.now)) c.self.view_is in
    done_wrong (central_of now) (central_of now) (steps.Join c.args.name.now) c.join_fault-fault.result c.in-Some.field-0 c.args.outcome.now c.in-Done.answer c.args.choice.now found c.in-Some.is c.in-Done.is

pub returns-in_ok-admit-in-None-clause-ok : goal.returns-in_ok-admit-in-None-clause-ok
returns-in_ok-admit-in-None-clause-ok c =
    let now = c.args.self.now in
    let v : KeptValue = record { catalogue = c.self.inside.catalogue; declarations = c.self.inside.declarations; objects = c.self.inside.registry; accounts = c.self.inside.accounts; points = c.self.inside.points } in
    let found = c.join_fault-fault.ensures (directory_of v) ∙ ap (λ (n : List ℕ). refusal (central_seen (central_of v)) (steps.Join n)) c.as_slice.ensures ∙ ap (λ (x : KeptValue). refusal (central_seen (central_of x)) (steps.Join c.args.name.now)) c.self.view_is in
    let next = c.next_federate-next.ensures.number ∙ ap (λ (x : KeptValue). length x.accounts + 1) c.self.view_is in
    let done = join_done (central_of now) c.args.name.now c.join_fault-fault.result c.args.outcome.now c.in-Done.answer c.args.choice.now found c.in-None.is c.in-Done.is (central_of c.admit.new.self) c.next_federate-next.result next
    (c.is_number.ensures.0 c.if-not-is_number.false) (c.is_nothing.ensures.0 c.if-not-is_nothing.false) c.in_ok-admit-in-None.ensures.joined in
    (done.0, (done.1, c.in_ok-admit-in-None.ensures.consistent))
