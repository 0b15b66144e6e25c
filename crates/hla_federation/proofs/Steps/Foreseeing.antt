-- How a step would end
use Rattle.std.proofs.Common.{◌≡◌, ◌≤◌, ℕ, ◌+◌, ◌||◌, cond, is_some, inl, inr, true, false, Bool, List, [], length, Option, None, Some, Result, Ok, Err, IfOk, IfErr, OnErr, refl, sym, ap, ◌∙◌, arith}
use Rattle.std.specs.List.{list_any}
use Rattle.std.specs.Option.{option_and_then}
use Rattle.std.specs.Prelude.{option_map}
use Rattle.std.specs.Result.{result_err}
use Rattle.std.proofs.lemmas.Bool.Decides.{nat_tests}
use Rattle.hla_base.specs.declared.content.HandleValuePair.{HandleValuePair}
use Rattle.hla_base.specs.declared.row.TimeRow.{TimeRow}
use Rattle.hla_base.specs.Tables.{one_if}
use Rattle.hla_catalogue.specs.CatalogueValue.{CatalogueValue}
use Rattle.hla_catalogue.specs.declared.declared.Order.{Order}
use Rattle.hla_catalogue.specs.declared.declared.Order.TheVariants.{Receive, Timestamp}
use Rattle.hla_declaration.specs.Declarations.{DeclarationsValue}
use Rattle.hla_machine.specs.Registered.{RegistryValue}
use Rattle.hla_component_rules.specs.Picking.{Pick, pick, local_pick, picked_by, copies_content}
use Rattle.hla_base.specs.declared.fault.Fault.{Fault}
use Rattle.hla_base.specs.declared.fault.Fault.TheVariants.{OutOfMemory}
use Rattle.hla_base.specs.RowRefusals.{first_fault}
use Rattle.hla_machine.specs.declared.service.Service.{Service}
use Rattle.hla_machine.specs.declared.step.Answer.{Answer}
use Rattle.hla_machine.specs.declared.step.Outcome.TheVariants as outcome
use Rattle.hla_machine.specs.declared.step.Step.TheVariants.{Call, Tick}
use Rattle.hla_machine.specs.Directory.{Directory, by_handle, is_of_order, part_sent, values_of_order, update_sent, order_of_attribute}
use Rattle.hla_machine.specs.Refusals.{refusal, call_tests, is_out_of_serials}
use Rattle.hla_machine.specs.Sends.{sent_handle}
use Rattle.hla_members.specs.Noting.{handle_noted}
use Rattle.hla_execution.specs.MemberValue.{MemberTables}
use Rattle.hla_components.specs.Components.{Components}
use Rattle.hla_components.specs.Next.{Outcomes, answer_outcome, call_outcome, step_outcome, components_seen, unless_refused}
use Rattle.hla_synchronization.specs.Points.{Point}
use Rattle.hla_federation.specs.FederationValue.{FederationValue}
use Rattle.hla_federation.specs.Steps.Memory.{service_takes_memory, pick_takes_memory, foresight_takes_memory}
use Rattle.hla_federation.specs.Steps.Sending.{heading_of, handle_under, note_under}
use Rattle.hla_federation.specs.Steps.Soundness.{MayCall}
use Rattle.hla_federation.specs.Steps.State.{Answers, AreWhole, state_of, state_from}
use Rattle.hla_federation.proofs.Steps.Declaring.{bound_of}
use Rattle.hla_federation.proofs.Steps.Doing.{does_next}
use Rattle.hla_federation.proofs.Steps.Noting.{parts_handle}
use Rattle.hla_federation.proofs.Steps.Updates.{any-by_handle, length-part}

-- a joined federate is refused by the tests of its service
pub called : (v : FederationValue) (f : ℕ) (x : Service) → MayCall v f → refusal (components_seen (state_of v)) (Call f x) ≡ first_fault (call_tests (components_seen (state_of v)) f x)
called v f x may = rw may.joined refl

-- what is done is not refused
not_refused : (o : Option Fault) (s t : Components) (x : Outcomes) (a : Answer) → unless_refused o s x ≡ answer_outcome a t → o ≡ None
not_refused None s t x a is = refl
not_refused (Some e) s t x a is = let apart : outcome.Refused e ≡ outcome.Done a = ap (λ (y : Outcomes). y.outcome) is in absurd (cc)

-- what takes no memory is refused by the definitions
pub question_refused : (v : FederationValue) (f : ℕ) (x : Service) (r : Result Answer Fault) → service_takes_memory x ≡ false → Answers v (Call f x) r → result_err r ≡ refusal (components_seen (state_of v)) (Call f x)
question_refused v f x (Ok a) free is = sym (not_refused (refusal (components_seen (state_of v)) (Call f x)) (state_of v) (state_of v) (step_outcome (state_of v) (Call f x)) a is)
question_refused v f x (Err e) free refused = elim refused.0 [
  | inl is ↦ sym is
  | inr for_memory ↦ let takes : service_takes_memory x ≡ true = for_memory.2 in absurd (cc)
]

-- what is not refused answers what the next-state function says, or wants memory
pub answers_allowed : (v : FederationValue) (f : ℕ) (x : Service) (r : Result Answer Fault) → refusal (components_seen (state_of v)) (Call f x) ≡ None → Answers v (Call f x) r
    → IfOk r (λ a. (call_outcome (state_of v) f x).outcome ≡ outcome.Done a) × IfErr r (λ e. e ≡ OutOfMemory) × OnErr r (service_takes_memory x ≡ true)
answers_allowed v f x (Ok a) none is = (ap (λ (y : Outcomes). y.outcome) (sym (does_next (state_of v) (Call f x) none) ∙ is), tt, tt)
answers_allowed v f x (Err e) none refused = elim refused.0 [
  | inl is ↦ let apart : None ≡ Some e = sym none ∙ is in absurd (cc)
  | inr for_memory ↦ (tt, for_memory.1, for_memory.2)
]

-- ---- the handle of an update
abbrev has_of : Directory → ℕ → Order → List HandleValuePair → Bool
has_of d object order values = list_any (λ (v : HandleValuePair). is_of_order order (order_of_attribute d object v.handle)) values

part_count : (d : Directory) (made order : Order) (object : ℕ) (values : List HandleValuePair) → length (part_sent made object (values_of_order d object order (by_handle values))) ≡ cond (has_of d object order values) 1 0
part_count d made order object values = length-part made object (λ v. is_of_order order (order_of_attribute d object v.handle)) (by_handle values) ∙ ap (λ (b : Bool). cond b 1 0) (any-by_handle (λ h. is_of_order order (order_of_attribute d object h)) values)

abbrev told_of : Bool → Option ℕ
told_of b = cond b (Some 0) None

told_one : (b : Bool) → one_if (is_some (told_of b)) ≡ cond b 1 0
told_one true = refl
told_one false = refl

handle_of_noted : (f serial : ℕ) (o : Option ℕ) → handle_noted f (option_map (λ (t : ℕ). record { serial = serial; stamp = t; receivers = 0 }) o) ≡ option_map (λ (t : ℕ). record { sender = f; serial = serial }) o
handle_of_noted f serial None = refl
handle_of_noted f serial (Some t) = refl

pub update_handle_at : (d : Directory) (f m serial : ℕ) (r : TimeRow) (stamp : Option ℕ) (object : ℕ) (values : List HandleValuePair) → serial ≡ m + cond (has_of d object Receive values) 1 0
    → sent_handle f r stamp m (update_sent d object values) ≡ cond (has_of d object Timestamp values) (handle_under (heading_of f serial r stamp Timestamp)) None
update_handle_at d f m serial r stamp object values is =
    parts_handle d f m serial r stamp object (values_of_order d object Receive (by_handle values)) (values_of_order d object Timestamp (by_handle values)) (told_of (has_of d object Timestamp values))
    (is ∙ ap (λ (k : ℕ). m + k) (sym (part_count d Receive Receive object values)))
    (told_one (has_of d object Timestamp values) ∙ sym (part_count d Receive Timestamp object values))
    ∙ by_told (has_of d object Timestamp values)
  where
    by_told : (b : Bool) → handle_noted f (option_and_then (λ rs. note_under (heading_of f serial r stamp Timestamp) rs) (told_of b)) ≡ cond b (handle_under (heading_of f serial r stamp Timestamp)) None
    by_told true = handle_of_noted f serial (heading_of f serial r stamp Timestamp).stamp
    by_told false = refl

pub few_serials : (d : Directory) (serial object : ℕ) (values : List HandleValuePair) → is_out_of_serials serial (update_sent d object values) ≡ false → serial + length (update_sent d object values) ≤ 1000000000000000001
few_serials d serial object values none = grind (arith, nat_tests)

-- ---- the copy of what a tick would give
or-second : (a b : Bool) → b ≡ true → a || b ≡ true
or-second true b is = refl
or-second false b is = is

pub copied_memory : (c : CatalogueValue) (points : List Point) (d : DeclarationsValue) (r : RegistryValue) (m : MemberTables) (f : ℕ) → AreWhole c d m → copies_content (picked_by (m.local f).row (local_pick (m.local f))) ≡ true
    → foresight_takes_memory (state_from c points d r m) (Tick f) ≡ true
copied_memory c points d r m f whole copies =
    ap (λ (p : Pick). pick_takes_memory p || copies_content (picked_by (m.local f).row p)) (ap (λ (b : ℕ). pick (m.local f).controls (m.local f).row (m.local f).ro (m.local f).tso b) (bound_of c points d r m f whole))
    ∙ or-second (pick_takes_memory (local_pick (m.local f))) (copies_content (picked_by (m.local f).row (local_pick (m.local f)))) copies
