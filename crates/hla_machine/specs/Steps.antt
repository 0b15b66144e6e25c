-- `==` of steps, outcomes, acts and records tells them apart, part by part
use Rattle.std.specs.Prelude.{◌≡◌, Bool, false, ◌&&◌, ◌⊎◌, refl}
use Rattle.std.proofs.Common.{inl, inr, ap, rules}
use Rattle.std.proofs.lemmas.Bool.{and_left, and_right}
use Rattle.hla_base.specs.contracts.plain.U32Plain.TheImpl.Laws.{exact-law as same_number}
use Rattle.hla_base.specs.contracts.plain.U8Plain.TheImpl.Laws.{lists-law as same_name}
use Rattle.hla_catalogue.specs.contracts.catalogue.CataloguePlain.TheImpl.Laws.{options-law as same_catalogue}
use Rattle.hla_callbacks.specs.contracts.callback.CallbackPlain.TheImpl.Laws.{exact-law as same_callback}
use Rattle.hla_machine.specs.Services.{same_service}
use Rattle.hla_machine.specs.contracts.step.AnswerPlain.TheImpl.Laws.{exact-law as same_answer}
use Rattle.hla_machine.specs.contracts.step.ChoicePlain.TheImpl.Laws.{exact-law as same_choice}
use Rattle.hla_machine.specs.contracts.step.StepPartialEq.TheImpl.{ghosts as steps}
use Rattle.hla_machine.specs.contracts.step.OutcomePartialEq.TheImpl.{ghosts as outcomes}
use Rattle.hla_machine.specs.contracts.step.ActPartialEq.TheImpl.{ghosts as acts}
use Rattle.hla_machine.specs.contracts.step.RecordPartialEq.TheImpl.{ghosts as records}
use Rattle.hla_machine.specs.declared.step.Step.{Step}
use Rattle.hla_machine.specs.declared.step.Step.TheVariants.{Join, Call, Carry, Announce, Tick}
use Rattle.hla_machine.specs.declared.step.Outcome.{Outcome}
use Rattle.hla_machine.specs.declared.step.Outcome.TheVariants as outcome
use Rattle.hla_machine.specs.declared.step.Act.{Act}
use Rattle.hla_machine.specs.declared.step.Act.TheVariants as act
use Rattle.hla_machine.specs.declared.step.Record.{Record}

both_exact : {P Q : Type 0} (b c : Bool) → (b ≡ false) ⊎ P → (c ≡ false) ⊎ Q → ((b && c) ≡ false) ⊎ (P × Q)
both_exact b c (inl apart) q = inl (and_left b c apart)
both_exact b c (inr p) (inl apart) = inl (and_right b c apart)
both_exact b c (inr p) (inr q) = inr (p, q)

pub same_step : (x y : Step) → (steps.eq x y ≡ false) ⊎ (x ≡ y)
same_step (Call f s) (Call g t) = elim (both_exact _ _ (same_number f g) (same_service s t)) [ inl apart ↦ inl apart | inr p ↦ inr (λ i. Call (p.0 i) (p.1 i)) ]
same_step (Call f s) (Join n) = inl refl
same_step (Call f s) (Carry g h) = inl refl
same_step (Call f s) (Announce g) = inl refl
same_step (Call f s) (Tick g) = inl refl
same_step (Join n) y = search rules
same_step (Carry f g) y = search rules
same_step (Announce f) y = search rules
same_step (Tick f) y = search rules

pub same_outcome : (x y : Outcome) → (outcomes.eq x y ≡ false) ⊎ (x ≡ y)
same_outcome (outcome.Done a) (outcome.Done b) = elim (same_answer a b) [ inl apart ↦ inl apart | inr same ↦ inr (ap outcome.Done same) ]
same_outcome (outcome.Done a) (outcome.Refused e) = inl refl
same_outcome (outcome.Done a) (outcome.Failed c) = inl refl
same_outcome (outcome.Failed b) (outcome.Failed c) = elim (same_callback b c) [ inl apart ↦ inl apart | inr same ↦ inr (ap outcome.Failed same) ]
same_outcome (outcome.Failed b) (outcome.Done a) = inl refl
same_outcome (outcome.Failed b) (outcome.Refused e) = inl refl
same_outcome (outcome.Refused e) y = search rules

pub same_act : (x y : Act) → (acts.eq x y ≡ false) ⊎ (x ≡ y)
same_act (act.Create c) (act.Create d) = elim (same_catalogue c d) [ inl apart ↦ inl apart | inr same ↦ inr (ap act.Create same) ]
same_act (act.Create c) act.Destroy = inl refl
same_act (act.Create c) (act.Step s) = inl refl
same_act act.Destroy (act.Create d) = inl refl
same_act act.Destroy act.Destroy = inr refl
same_act act.Destroy (act.Step s) = inl refl
same_act (act.Step s) (act.Create d) = inl refl
same_act (act.Step s) act.Destroy = inl refl
same_act (act.Step s) (act.Step t) = elim (same_step s t) [ inl apart ↦ inl apart | inr same ↦ inr (ap act.Step same) ]

pub same_record : (x y : Record) → (records.eq x y ≡ false) ⊎ (x ≡ y)
same_record x y = elim (both_exact _ _ (same_number x.actor y.actor) (both_exact _ _ (same_name x.execution y.execution) (both_exact _ _ (same_act x.act y.act) (both_exact _ _ (same_outcome x.outcome y.outcome) (same_choice x.choice y.choice))))) [
  | inl apart ↦ inl apart
  | inr p ↦ inr (λ i. record { actor = p.0 i; execution = p.1.0 i; act = p.1.1.0 i; outcome = p.1.1.1.0 i; choice = p.1.1.1.1 i })
]
