-- What tests of a query tell
use Rattle.std.proofs.Common.{◌≡◌, ℕ, cond, Bool, true, false, [], Some, None, refl, sym, ◌∙◌, ap, subst}
use Rattle.std.specs.Bool.{Decides}
use mathlib.Core.Bool.{false≢true}
use Rattle.hla_base.specs.declared.fault.Fault.{Fault}
use Rattle.hla_base.specs.RowRefusals.{first_fault}
use Rattle.hla_machine.specs.declared.service.Service.{Service}
use Rattle.hla_machine.specs.declared.service.Service.TheVariants as service
use Rattle.hla_machine.specs.declared.step.Step.TheVariants.{Call}
use Rattle.hla_machine.specs.declared.step.Answer.{Answer}
use Rattle.hla_machine.specs.declared.step.Answer.TheVariants as answer
use Rattle.hla_machine.specs.declared.step.Outcome.{Outcome}
use Rattle.hla_machine.specs.declared.step.Outcome.TheVariants as outcome
use Rattle.hla_machine.specs.declared.step.Choice.{Choice}
use Rattle.hla_machine.specs.declared.step.Choice.TheVariants as choice
use Rattle.hla_machine.specs.Central.{Central}
use Rattle.hla_machine.specs.Refusals.{Seen, call_tests, refusal}
use Rattle.hla_machine.specs.Machine.{IsChoice, IsServiceChoice, MayAnswer, after_call, central_seen}
use Rattle.hla_verdicts.specs.declared.queries.Query.{Query}
use Rattle.hla_verdicts.specs.declared.queries.Query.TheVariants.{Bound, FederateTime, NextEvent, Lookahead}
use Rattle.hla_verdicts.specs.declared.verdict.Verdict.{Verdict}
use Rattle.hla_verdicts.specs.declared.verdict.Verdict.TheVariants as verdict
use Rattle.hla_verdicts.specs.Answers.{time_in}
use Rattle.hla_verdicts.specs.Queries.{time_query_of, MayTell}
use Rattle.hla_verdicts.proofs.Steps.Outcomes.{JudgedCentral}
use Rattle.hla_verdicts.proofs.Steps.Calls.{call_refusal}

pub record IsQuery (x : Service) (q : Query) : Type 0 where
  pub tests : (s : Seen) (f : ℕ) → call_tests s f x ≡ []
  pub answers : (c : Central) (f v : ℕ) (o : Choice) → MayTell c f q v → MayAnswer c f x (answer.Time v) o
  pub only : (c : Central) (f : ℕ) (a : Answer) (o : Choice) → MayAnswer c f x a o → (v : ℕ) × (time_in a ≡ Some v) × MayTell c f q v
  pub plain : (o : Choice) → o ≡ choice.None → IsServiceChoice x o
  pub chooses : (o : Choice) → IsServiceChoice x o → o ≡ choice.None
  pub after : (c : Central) (f : ℕ) (o : Choice) → after_call c f x o ≡ c

only_bound : (c : Central) (f : ℕ) (a : Answer) (o : Choice) → MayAnswer c f service.QueryLbts a o → (v : ℕ) × (time_in a ≡ Some v) × MayTell c f Bound v
only_bound c f (answer.Time v) o may = (v, refl, may)
only_bound c f a o may = absurd may

only_time : (c : Central) (f : ℕ) (a : Answer) (o : Choice) → MayAnswer c f service.QueryFederateTime a o → (v : ℕ) × (time_in a ≡ Some v) × MayTell c f FederateTime v
only_time c f (answer.Time v) o may = (v, refl, may)
only_time c f a o may = absurd may

only_next : (c : Central) (f : ℕ) (a : Answer) (o : Choice) → MayAnswer c f service.QueryMinNextEventTime a o → (v : ℕ) × (time_in a ≡ Some v) × MayTell c f NextEvent v
only_next c f (answer.Time v) o may = (v, refl, may)
only_next c f a o may = absurd may

only_lookahead : (c : Central) (f : ℕ) (a : Answer) (o : Choice) → MayAnswer c f service.QueryLookahead a o → (v : ℕ) × (time_in a ≡ Some v) × MayTell c f Lookahead v
only_lookahead c f (answer.Time v) o may = (v, refl, may)
only_lookahead c f a o may = absurd may

pub query_is : (x : Service) (q : Query) → time_query_of x ≡ Some q → IsQuery x q
query_is service.QueryLbts q is =
    let same : Bound ≡ q = cc in
    subst (λ (y : Query). IsQuery service.QueryLbts y) same (record { tests = λ s f. refl; answers = λ c f v o may. may; only = only_bound; plain = λ o e. e; chooses = λ o e. e; after = λ c f o. refl })
query_is service.QueryFederateTime q is =
    let same : FederateTime ≡ q = cc in
    subst (λ (y : Query). IsQuery service.QueryFederateTime y) same (record { tests = λ s f. refl; answers = λ c f v o may. may; only = only_time; plain = λ o e. e; chooses = λ o e. e; after = λ c f o. refl })
query_is service.QueryMinNextEventTime q is =
    let same : NextEvent ≡ q = cc in
    subst (λ (y : Query). IsQuery service.QueryMinNextEventTime y) same (record { tests = λ s f. refl; answers = λ c f v o may. may; only = only_next; plain = λ o e. e; chooses = λ o e. e; after = λ c f o. refl })
query_is service.QueryLookahead q is =
    let same : Lookahead ≡ q = cc in
    subst (λ (y : Query). IsQuery service.QueryLookahead y) same (record { tests = λ s f. refl; answers = λ c f v o may. may; only = only_lookahead; plain = λ o e. e; chooses = λ o e. e; after = λ c f o. refl })
query_is x q is = cc

time_is : (a : Answer) (v : ℕ) → time_in a ≡ Some v → a ≡ answer.Time v
time_is (answer.Time w) v is = let same : w ≡ v = cc in ap answer.Time same
time_is a v is = cc

module _ (c : Central) (f : ℕ) (x : Service) (q : Query) (of : IsQuery x q) (joined : c.directory.joined f ≡ true) where
  unrefused : refusal (central_seen c) (Call f x) ≡ None
  unrefused = call_refusal (central_seen c) f x joined ∙ ap first_fault (of.tests (central_seen c) f)

  query_chooses : (out : Outcome) (o : Choice) → IsChoice (Call f x) out o → o ≡ choice.None
  query_chooses (outcome.Done a) o is = of.chooses o is
  query_chooses (outcome.Refused e) o is = is
  query_chooses (outcome.Failed k) o is = is

  pub query_chose : (out : Outcome) (o : Choice) (b : Bool) → Decides b (o ≡ choice.None) → b ≡ false → JudgedCentral c (Call f x) out o c verdict.Wrong
  query_chose out o b tests is = λ allowed. false≢true (sym is ∙ tests.1 (query_chooses out o allowed.1))

  pub query_refused : (out : Outcome) (e : Fault) (o : Choice) → out ≡ outcome.Refused e → JudgedCentral c (Call f x) out o c verdict.Wrong
  query_refused out e o ended = subst (λ (t : Outcome). JudgedCentral c (Call f x) t o c verdict.Wrong) (sym ended) (λ allowed. apart (sym unrefused ∙ allowed.0))
    where
      apart : None ≡ Some e → ⊥
      apart eq = cc

  pub query_else : (out : Outcome) (a : Answer) (o : Choice) → out ≡ outcome.Done a → time_in a ≡ None → JudgedCentral c (Call f x) out o c verdict.Wrong
  query_else out a o ended is = subst (λ (t : Outcome). JudgedCentral c (Call f x) t o c verdict.Wrong) (sym ended)
      (λ allowed. (let there = of.only c f a o allowed.0.1 in let e : None ≡ Some there.0 = sym is ∙ there.1 in cc))

  query_by : (v : ℕ) (o : Choice) (b : Bool) → Decides b (MayTell c f q v) → o ≡ choice.None → JudgedCentral c (Call f x) (outcome.Done (answer.Time v)) o c (cond b verdict.Allowed verdict.Wrong)
  query_by v o true tests plain = (((unrefused, of.answers c f v o (tests.0 refl)), of.plain o plain), sym (of.after c f o))
  query_by v o false tests plain =
      λ allowed. (let there = of.only c f (answer.Time v) o allowed.0.1 in let e = there.1 in let same : v ≡ there.0 = cc in false≢true (tests.1 (subst (λ w. MayTell c f q w) (sym same) there.2)))

  pub query_told : (out : Outcome) (a : Answer) (v : ℕ) (o : Choice) (b : Bool) (w : Verdict) → out ≡ outcome.Done a → time_in a ≡ Some v → Decides b (MayTell c f q v) → o ≡ choice.None → w ≡ cond b verdict.Allowed verdict.Wrong
      → JudgedCentral c (Call f x) out o c w
  query_told out a v o b w ended is tests plain told =
      subst (λ (u : Verdict). JudgedCentral c (Call f x) out o c u) (sym told)
      (subst (λ (t : Outcome). JudgedCentral c (Call f x) t o c (cond b verdict.Allowed verdict.Wrong)) (sym (ended ∙ ap outcome.Done (time_is a v is))) (query_by v o b tests plain))
