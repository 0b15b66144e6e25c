use Rattle.std.proofs.Common.{◌≡◌, ◌∙◌, List, ℕ, Ok, true, ap, refl, subst, sym}
use Rattle.std.specs.Result.{is_ok}
use Rattle.std.proofs.lemmas.Bool.{cond-true}
use Rattle.std.proofs.lemmas.Slice.Eq.{bytes_eq-Decides}
use Rattle.hla_machine.specs.declared.step.Act.TheVariants as act
use Rattle.hla_machine.specs.declared.step.Answer.TheVariants as answer
use Rattle.hla_machine.specs.declared.step.Outcome.TheVariants as outcome
use Rattle.hla_machine.specs.declared.step.Step.TheVariants as step
use Rattle.hla_callers.specs.Callers.{Caller, FederateCaller}
use Rattle.hla_commands.specs.declared.lines.Command.TheVariants as command
use Rattle.hla_run.specs.Accounted.{AddsLine}
use Rattle.hla_run.specs.Recorded.{AreFresh, AreJoined, HasJoined, KeepsLives, has_life}
use Rattle.hla_run.specs.declared.life.Life.{Life}
use Rattle.hla_run.proofs.OfficeLemmas.{line_joined, line_refused}
use Rattle.hla_run.proofs.RecordLemmas.{acted_extended, acted_recorded, fresh_more, grown_within, joined_in, joined_more}
use Rattle.hla_run.proofs.StrangerLemmas.{life_last, lives_more}
use Rattle.hla_run.proofs.opening.join_next.Goals as goal

pub returns-in-Err-clause-office : goal.returns-in-Err-clause-office
returns-in-Err-clause-office g c = λ read.
    let handed = c.args.rti.now.handed in
    let old = c.args.rti.now.own in
    let own = c.join.new.self.own in
    let told = line_refused read handed c.args.execution c.in_ok-name.name c.in-Err.fault old own c.in-Err.ensures.refused in
    subst (λ (n : List ℕ). AddsLine read handed c.args.execution (command.Join n) (outcome.Refused c.in-Err.fault) old own) c.in_ok-name.ensures told

pub returns-clause-office : goal.returns-clause-office
returns-clause-office g c = λ read.
    let handed = c.args.rti.now.handed in
    let old = c.args.rti.now.own in
    let own = c.join.new.self.own in
    let execution = c.args.execution in
    let f = c.in-Ok.federate.federate in
    let told = line_joined read handed execution c.in_ok-name.name f old own c.in-Ok.ensures.joined in
    let named = subst (λ (n : List ℕ). AddsLine read handed execution (command.Join n) (outcome.Done (answer.Federate f)) old own) c.in_ok-name.ensures told in
    let numbered = subst (λ (k : ℕ). AddsLine read handed execution (command.Join c.args.name.now) (outcome.Done (answer.Federate k)) old own) (sym c.number-number.ensures) named in
    subst (λ (x : Caller). AddsLine read handed execution (command.Join c.args.name.now) (outcome.Done (answer.Federate c.number-number.result)) old x) (sym c.courier.ensures.own) numbered

pub returns-clause-fresh : goal.returns-clause-fresh
returns-clause-fresh g c = λ before.
    let pushed = c.push.ensures.items ∙ cond-true _ _ _ (ap is_ok c.in-Ok-push.is) in
    let execution = c.args.execution in
    let stands : (c.in-Ok.federate.execution ≡ execution) × (c.in-Ok.federate.federate ≡ c.number-number.result) = (ap (λ (f : FederateCaller). f.execution) c.in-Ok.ensures.federate, sym c.number-number.ensures) in
    subst (λ (ls : List (Life g.row.L.Denot g.row.B.Denot g.row.P.Denot g.row.H.Denot)). AreFresh execution ls) (sym pushed) (fresh_more execution c.args.lives.now.items _ before (stands, c.new.ensures.items, ap (λ (f : FederateCaller). f.caller.transcript) c.in-Ok.ensures.federate))

pub returns-clause-joined : goal.returns-clause-joined
returns-clause-joined g c = λ before.
    let pushed = c.push.ensures.items ∙ cond-true _ _ _ (ap is_ok c.in-Ok-push.is) in
    let own = c.join.new.self.own in
    let old = c.args.rti.now.own in
    let execution = c.args.execution in
    let f = c.in-Ok.federate.federate in
    let told = acted_recorded old own execution (act.Step (step.Join c.in_ok-name.name)) (outcome.Done (answer.Federate f)) (Ok (answer.Federate f)) refl c.in-Ok.ensures.joined in
    let named = subst (λ (n : List ℕ). HasJoined own.transcript execution n f) (c.in_ok-name.ensures ∙ sym c.in_ok-own.ensures) told in
    let numbered = subst (λ (k : ℕ). HasJoined own.transcript execution c.in_ok-own.own k) (sym c.number-number.ensures) named in
    let grown = acted_extended old own execution _ _ c.in-Ok.ensures.joined in
    let others = joined_in own.transcript old.transcript execution c.args.lives.now.items (grown_within old own grown) before in
    let all = joined_more own.transcript execution c.args.lives.now.items _ others numbered in
    let kept = subst (λ (ls : List (Life g.row.L.Denot g.row.B.Denot g.row.P.Denot g.row.H.Denot)). AreJoined own.transcript execution ls) (sym pushed) all in
    subst (λ (x : Caller). AreJoined x.transcript execution c.push.new.self.items) (sym c.courier.ensures.own) kept

pub returns-clause-lives : goal.returns-clause-lives
returns-clause-lives g c =
    let pushed = c.push.ensures.items ∙ cond-true _ _ _ (ap is_ok c.in-Ok-push.is) in
    subst (λ (ls : List (Life g.row.L.Denot g.row.B.Denot g.row.P.Denot g.row.H.Denot)). KeepsLives c.args.lives.now.items ls) (sym pushed) (lives_more c.args.lives.now.items _)

pub returns-clause-life : goal.returns-clause-life
returns-clause-life g c = λ name f is done.
    let pushed = c.push.ensures.items ∙ cond-true _ _ _ (ap is_ok c.in-Ok-push.is) in
    let same : c.args.name.now ≡ name = let both : command.Join c.args.name.now ≡ command.Join name = is in cc in
    let own : c.in_ok-own.own ≡ name = c.in_ok-own.ensures ∙ same in
    let last = life_last c.args.lives.now.items _ name ((bytes_eq-Decides c.in_ok-own.own name).1 own) in
    subst (λ (ls : List (Life g.row.L.Denot g.row.B.Denot g.row.P.Denot g.row.H.Denot)). has_life ls name ≡ true) (sym pushed) last

pub returns-in-Err-clause-life : goal.returns-in-Err-clause-life
returns-in-Err-clause-life g c = λ name f is done. let clash : outcome.Refused c.in-Err.fault ≡ outcome.Done (answer.Federate f) = done in absurd (cc)

pub returns-in-Err-clause-lives : goal.returns-in-Err-clause-lives
returns-in-Err-clause-lives g c = λ name has. has
