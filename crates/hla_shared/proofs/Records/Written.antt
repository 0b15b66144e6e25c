-- The record of a step in its place.
use Rattle.std.proofs.Common.{◌≡◌, ℕ, ◌-◌, List, [], ◌∷◌, ◌++◌, length, get_or, Option, Some, None, sym, ◌∙◌, ap, arith, length-append}
use Rattle.std.specs.Prelude.{Result, Ok, Err, IfOk}
use Rattle.std.proofs.Math.Seq.{get_or-append_seam}
use Rattle.hla_machine.specs.declared.step.Step.{Step}
use Rattle.hla_machine.specs.declared.step.Outcome.{Outcome}
use Rattle.hla_machine.specs.declared.step.Choice.TheVariants as choice
use Rattle.hla_machine.specs.declared.step.Record.{Record}
use Rattle.hla_components.specs.Next.{next}
use Rattle.hla_history.specs.Hosts.{Host}
use Rattle.hla_history.specs.Writing.{step_record, chosen_in}

-- what follows from what an Ok says
pub where_ok : {A E : Type 0} {P Q : A → Type 0} (r : Result A E) → ((x : A) → P x → Q x) → IfOk r P → IfOk r Q
where_ok (Ok x) leads is = leads x is
where_ok (Err e) leads is = tt

-- the last of a list is the one that was written last
pub last_is : (xs rs : List Record) (r v : Record) (n : ℕ) → xs ≡ rs ++ r ∷ [] → n ≡ length xs → v ≡ get_or xs (n - 1) v → v ≡ r
last_is xs rs r v n is len at =
    let place : n - 1 ≡ length rs = omega (arith, ap length is, length-append rs (r ∷ [])) in
    at ∙ ap (λ k. get_or xs k v) place ∙ ap (λ ys. get_or ys (length rs) v) is ∙ get_or-append_seam rs r [] v

-- ---- with what the step chooses
pub written_nowhere : (rs : List Record) (actor : ℕ) (name : List ℕ) (step : Step) (out : Outcome) (o : Option Host) → o ≡ None
    → rs ++ step_record actor name step out choice.None ∷ [] ≡ rs ++ step_record actor name step out (chosen_in o step) ∷ []
written_nowhere rs actor name step out o none = ap (λ (x : Option Host). rs ++ step_record actor name step out (chosen_in x step) ∷ []) (sym none)

pub written_there : (rs : List Record) (actor : ℕ) (n name : List ℕ) (step : Step) (out : Outcome) (o : Option Host) (h : Host) → o ≡ Some h → n ≡ name
    → rs ++ step_record actor n step out (next h.components step).choice ∷ [] ≡ rs ++ step_record actor name step out (chosen_in o step) ∷ []
written_there rs actor n name step out o h there same =
    ap (λ (k : List ℕ). rs ++ step_record actor k step out (next h.components step).choice ∷ []) same
    ∙ ap (λ (x : Option Host). rs ++ step_record actor name step out (chosen_in x step) ∷ []) (sym there)
