-- Where a step is not refused no test applies
use Rattle.std.proofs.Common.{◌≡◌, ℕ, not, Bool, true, false, refl, List, [], ◌∷◌, Some, None}
use Rattle.std.proofs.lemmas.Bool.{cond_both}
use Rattle.hla_machine.specs.declared.service.Service.{Service}
use Rattle.hla_machine.specs.declared.step.Step.TheVariants.{Call, Announce, Tick}
use Rattle.hla_base.specs.RowRefusals.{Test, first_fault}
use Rattle.hla_machine.specs.Refusals.{Seen, refusal, joined_test, call_tests}

abbrev pub AllClear : List Test → Type 0
AllClear [] = Unit {0}
AllClear (t ∷ ts) = (t.applies ≡ false) × AllClear ts

pub all_clear : (ts : List Test) → first_fault ts ≡ None → AllClear ts
all_clear [] h = tt
all_clear (t ∷ ts) h = cond_both t.applies (Some t.fault) (first_fault ts) (λ o. o ≡ None → (t.applies ≡ false) × AllClear ts) (λ _ e. absurd (cc)) (λ n e. (n, all_clear ts e)) h

pub not-is-false : (b : Bool) → not b ≡ false → b ≡ true
not-is-false true h = refl
not-is-false false h = absurd (cc)

module _ (s : Seen) (f : ℕ) where
  pub clear_call : (service : Service) → refusal s (Call f service) ≡ None → AllClear (call_tests s f service)
  clear_call service none = (all_clear (joined_test s.directory f ∷ call_tests s f service) none).1

  pub caller_joined : (service : Service) → refusal s (Call f service) ≡ None → s.directory.joined f ≡ true
  caller_joined service none = not-is-false (s.directory.joined f) (all_clear (joined_test s.directory f ∷ call_tests s f service) none).0

  pub ticker_joined : refusal s (Tick f) ≡ None → s.directory.joined f ≡ true
  ticker_joined none = not-is-false (s.directory.joined f) (all_clear (joined_test s.directory f ∷ []) none).0

  pub announcer_joined : refusal s (Announce f) ≡ None → s.directory.joined f ≡ true
  announcer_joined none = not-is-false (s.directory.joined f) (all_clear (joined_test s.directory f ∷ []) none).0
