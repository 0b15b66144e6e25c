-- What a step chooses
use Rattle.std.proofs.Common.{◌≡◌, ℕ, true, false, Bool, Option, None, Some, List, [], ◌∷◌, refl, cond, ltb, ◌&&◌}
use Rattle.hla_base.specs.declared.fault.Fault.{Fault}
use Rattle.hla_base.specs.Rows.{is_regulator}
use Rattle.hla_null_message.specs.declared.message.Message.{Message}
use Rattle.hla_null_message.specs.declared.message.Message.TheVariants as message
use Rattle.hla_machine.specs.declared.service.Service.{Service}
use Rattle.hla_machine.specs.declared.service.Service.TheVariants as service
use Rattle.hla_machine.specs.declared.step.Answer.TheVariants as answer
use Rattle.hla_machine.specs.declared.step.Choice.TheVariants as choice
use Rattle.hla_machine.specs.declared.step.Step.TheVariants.{Join, Call, Carry, Announce}
use Rattle.hla_machine.specs.Refusals.{refusal}
use Rattle.hla_components.specs.Components.{Components}
use Rattle.hla_components.specs.Component.{promise}
use Rattle.hla_components.specs.Next.{Outcomes, next, answer_outcome, step_outcome, call_outcome, carry_outcome, announce_outcome, unless_refused, with_null_announced, components_seen}

-- nothing is chosen where a step is refused
refused_or : (o : Option Fault) (s : Components) (done : Outcomes) → done.choice ≡ choice.None → (unless_refused o s done).choice ≡ choice.None
refused_or None s done none = none
refused_or (Some e) s done none = refl

pub no_join_choice : (s : Components) (name : List ℕ) → (next s (Join name)).choice ≡ choice.None
no_join_choice s name = refused_or (refusal (components_seen s) (Join name)) s (step_outcome s (Join name)) refl

carries_none : (s : Components) (g f : ℕ) (ms : List Message) → (carry_outcome s g f ms).choice ≡ choice.None
carries_none s g f [] = refl
carries_none s g f (message.Event e ∷ ms) = refl
carries_none s g f (message.Null k v ∷ ms) = refl
carries_none s g f (message.Retraction m ∷ ms) = refl
carries_none s g f (message.Discovery d ∷ ms) = refl

pub no_carry_choice : (s : Components) (g f : ℕ) → (next s (Carry g f)).choice ≡ choice.None
no_carry_choice s g f = refused_or (refusal (components_seen s) (Carry g f)) s (step_outcome s (Carry g f)) (carries_none s g f (s.wire g f))

pub no_announce_choice : (s : Components) (f : ℕ) → (next s (Announce f)).choice ≡ choice.None
no_announce_choice s f = refused_or (refusal (components_seen s) (Announce f)) s (announce_outcome s f) (either (is_regulator (s.row f) && ltb (s.last_announced f) (promise s f)))
  where
    either : (b : Bool) → (cond b (answer_outcome (answer.Announced (Some (promise s f))) (with_null_announced s f (promise s f))) (answer_outcome (answer.Announced None) s)).choice ≡ choice.None
    either true = refl
    either false = refl

-- of the services only two choose
calls_none : (s : Components) (f : ℕ) (x : Service) → ((t l : ℕ) → x ≡ service.EnableTimeRegulation t l → ⊥) → (x ≡ service.DisableTimeConstrained → ⊥) → (call_outcome s f x).choice ≡ choice.None
calls_none s f (service.EnableTimeRegulation t l) enters other = absurd (enters t l refl)
calls_none s f service.DisableTimeConstrained enters other = absurd (other refl)
calls_none s f x enters other = refl

pub no_service_choice : (s : Components) (f : ℕ) (x : Service) → ((t l : ℕ) → x ≡ service.EnableTimeRegulation t l → ⊥) → (x ≡ service.DisableTimeConstrained → ⊥) → (next s (Call f x)).choice ≡ choice.None
no_service_choice s f x enters other = refused_or (refusal (components_seen s) (Call f x)) s (call_outcome s f x) (calls_none s f x enters other)

-- nor does who is not joined
pub stranger_choice : (s : Components) (f : ℕ) (x : Service) → s.directory.joined f ≡ false → (next s (Call f x)).choice ≡ choice.None
stranger_choice s f x away = rw away refl
