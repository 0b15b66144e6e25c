-- Words for worked examples: what steps of up to three federates end in, line by line
use Rattle.std.specs.Prelude.{ℕ, ◌≡◌, Option, Some, None, List, [], ◌∷◌, map, codes}
use Rattle.hla_base.specs.declared.fault.Fault.{Fault}
use Rattle.hla_base.specs.declared.content.HandleValuePair.{HandleValuePair}
use Rattle.hla_base.specs.declared.number.EventHandle.{EventHandle}
use Rattle.hla_catalogue.specs.declared.declared.Order.TheVariants.{Receive, Timestamp}
use Rattle.hla_catalogue.specs.declared.declared.Transport.TheVariants.{Reliable}
use Rattle.hla_catalogue.specs.CatalogueValue.{CatalogueValue}
use Rattle.hla_callbacks.specs.declared.callback.Callback.{Callback}
use Rattle.hla_machine.specs.declared.step.Step.{Step}
use Rattle.hla_machine.specs.declared.step.Carried.{Carried}
use Rattle.hla_machine.specs.declared.step.Answer.{Answer}
use Rattle.hla_machine.specs.declared.step.Answer.TheVariants as answer
use Rattle.hla_machine.specs.declared.step.Outcome.{Outcome}
use Rattle.hla_machine.specs.declared.step.Outcome.TheVariants as outcome
use Rattle.hla_machine.specs.Runs.{Happening}
use Rattle.hla_components.specs.Components.{new_components}
use Rattle.hla_components.specs.Headline.{happenings}

-- ---- the catalogue of the examples, and its numbers
abbrev pub object_root : ℕ
object_root = 1

abbrev pub car_class : ℕ
car_class = 2

abbrev pub pos_attribute : ℕ
pos_attribute = 2

abbrev pub paint_attribute : ℕ
paint_attribute = 3

abbrev pub interaction_root : ℕ
interaction_root = 1

abbrev pub note_class : ℕ
note_class = 2

abbrev pub memo_class : ℕ
memo_class = 3

abbrev pub hit_class : ℕ
hit_class = 4

abbrev pub text_parameter : ℕ
text_parameter = 1

abbrev pub extra_parameter : ℕ
extra_parameter = 2

abbrev pub force_parameter : ℕ
force_parameter = 3

abbrev pub catalogue : CatalogueValue
catalogue = record {
  object_classes =
      record { path = codes "ObjectRoot"; lineage = object_root ∷ [] }
      ∷ record { path = codes "ObjectRoot.Car"; lineage = car_class ∷ object_root ∷ [] }
      ∷ [];
  interaction_classes =
      record { path = codes "InteractionRoot"; lineage = interaction_root ∷ []; transport = Reliable; order = Receive }
      ∷ record { path = codes "InteractionRoot.Note"; lineage = note_class ∷ interaction_root ∷ []; transport = Reliable; order = Receive }
      ∷ record { path = codes "InteractionRoot.Note.Memo"; lineage = memo_class ∷ note_class ∷ interaction_root ∷ []; transport = Reliable; order = Receive }
      ∷ record { path = codes "InteractionRoot.Hit"; lineage = hit_class ∷ interaction_root ∷ []; transport = Reliable; order = Timestamp }
      ∷ [];
  attributes =
      record { class = object_root; name = codes "privilegeToDelete"; transport = Reliable; order = Timestamp }
      ∷ record { class = car_class; name = codes "Pos"; transport = Reliable; order = Timestamp }
      ∷ record { class = car_class; name = codes "Paint"; transport = Reliable; order = Receive }
      ∷ [];
  parameters =
      record { class = note_class; name = codes "Text" }
      ∷ record { class = memo_class; name = codes "Extra" }
      ∷ record { class = hit_class; name = codes "Force" }
      ∷ [];
}

-- ---- the federates, by the order in which they join
abbrev pub A : ℕ
A = 1

abbrev pub B : ℕ
B = 2

abbrev pub C : ℕ
C = 3

-- ---- what steps end in
abbrev pub outcome_with : Answer → Outcome
outcome_with a = outcome.Done a

abbrev pub ok : Outcome
ok = outcome_with answer.Done

abbrev pub outcome_sent : Option EventHandle → Outcome
outcome_sent e = outcome_with (answer.Sent e)

abbrev pub outcome_carried : Carried → Outcome
outcome_carried x = outcome_with (answer.Carried x)

abbrev pub outcome_announced : Option ℕ → Outcome
outcome_announced v = outcome_with (answer.Announced v)

abbrev pub outcome_ticked : Callback → Outcome
outcome_ticked k = outcome_with (answer.Ticked (Some k))

-- a tick that picks up nothing
abbrev pub outcome_idle : Outcome
outcome_idle = outcome_with (answer.Ticked None)

abbrev pub outcome_refused : Fault → Outcome
outcome_refused e = outcome.Refused e

abbrev pub event : ℕ → ℕ → EventHandle
event sender serial = record { sender = sender; serial = serial }

abbrev pub pair : ℕ → List ℕ → HandleValuePair
pair number value = record { handle = number; value = value }

-- ---- examples
-- a step and what it ends in
pub record ExampleStep : Type 0 where
  pub step : Step
  pub outcome : Outcome

infix 70 ◌⟶◌
abbrev pub ◌⟶◌ : Step → Outcome → ExampleStep
step ⟶ outcome = record { step = step; outcome = outcome }

-- from the beginning on, the steps of these lines end in what they say
abbrev pub Shows : List ExampleStep → Type 0
Shows lines =
    map (λ (h : Happening). h.outcome) (happenings (new_components catalogue) (map (λ (l : ExampleStep). l.step) lines)) ≡ map (λ (l : ExampleStep). l.outcome) lines
