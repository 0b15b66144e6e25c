-- What a creation and a destruction do to all executions
use Rattle.std.proofs.Common.{◌≡◌, ℕ, ◌+◌, ◌-◌, ◌<◌, cond, arith, Bool, true, false, not, List, [], ◌∷◌, ◌++◌, Option, Some, None, is_some, refl, sym, ◌∙◌, ap, subst, filter, set}
use Rattle.std.specs.Prelude.{ltb, ◌||◌}
use Rattle.std.specs.Str.{bytes_eq}
use Rattle.std.proofs.lemmas.Bool.Decides.{nat_tests}
use Rattle.hla_base.specs.Limits.{max_executions, max_creates}
use Rattle.hla_base.specs.RowRefusals.{first_fault, test_for}
use Rattle.hla_base.specs.declared.fault.Fault.TheVariants as fault
use Rattle.hla_catalogue.specs.CatalogueValue.{CatalogueValue}
use Rattle.hla_machine.specs.Central.{Central, new_central}
use Rattle.hla_machine.specs.Runs.{destroy_fault, after_create, after_destroy, is_joined_by_any}
use Rattle.hla_checker.specs.declared.table.NamedExecution.{NamedExecution}
use Rattle.hla_verdicts.specs.Kept.{IsConsistent, central_of}
use Rattle.hla_checker.specs.Creating.{creation_tests}
use Rattle.hla_checker.specs.Table.{AreConsistent, central_named, centrals_of}
use Rattle.std.proofs.lemmas.List.Elements.{All-filter, All-push, All-set}
use Rattle.hla_checker.proofs.Executions.TablePlaces.{set_central, table_pushed, table_removed}

pub named_is : (x : NamedExecution) (c : Central) → central_of x.execution ≡ c → central_named x ≡ c
unfolding central_named
named_is x c is = is

-- ---- why not
-- there is room for one that may be created
pub creation_room : (there read : Bool) (creates present : ℕ) → creation_tests there read creates present ≡ None → (creates < max_creates) × (present < max_executions)
creation_room true read creates present is = cc
creation_room false false creates present is = cc
creation_room false true creates present is = by (ltb present max_executions) (ltb creates max_creates) refl refl is
  where
    by : (a b : Bool) → ltb present max_executions ≡ a → ltb creates max_creates ≡ b → cond (not a || not b) (Some fault.LimitReached) None ≡ None → (creates < max_creates) × (present < max_executions)
    by true true p c none = (grind (arith, nat_tests), grind (arith, nat_tests))
    by true false p c none = cc
    by false b p c none = cc

-- an execution that may be created is not there
pub creation_absent : (o : Option Central) (read : Bool) (creates present : ℕ) → creation_tests (is_some o) read creates present ≡ None → o ≡ None
creation_absent None read creates present is = refl
creation_absent (Some c) read creates present is = cc

pub destruction_nowhere : (o : Option Central) → o ≡ None → destroy_fault o ≡ Some fault.FederationExecutionDoesNotExist
destruction_nowhere o is = ap destroy_fault is

pub destruction_there : (o : Option Central) (x : NamedExecution) (b : Bool) → o ≡ Some (central_named x) → is_joined_by_any (central_of x.execution) ≡ b
    → destroy_fault o ≡ cond b (Some fault.FederatesCurrentlyJoined) None
unfolding central_named
destruction_there o x b is joined = ap destroy_fault is ∙ ap (λ (t : Bool). first_fault (test_for fault.FederatesCurrentlyJoined t ∷ [])) joined

-- ---- the executions after it
pub created : (creates present : ℕ) (xs ys : List NamedExecution) (x : NamedExecution) (name : List ℕ) (c : CatalogueValue)
    → ys ≡ xs ++ x ∷ [] → x.name ≡ name → central_of x.execution ≡ new_central c → centrals_of xs name ≡ None
    → record { creates = creates + 1; present = present + 1; execution = centrals_of ys } ≡ after_create (record { creates = creates; present = present; execution = centrals_of xs }) name (Some c)
created creates present xs ys x name c pushed same fresh absent =
    let table : centrals_of ys ≡ set_central (centrals_of xs) name (Some (new_central c)) =
    ap centrals_of pushed ∙ table_pushed xs name x absent same ∙ ap (λ (h : Central). set_central (centrals_of xs) name (Some h)) (named_is x (new_central c) fresh) in
    λ i. record { creates = creates + 1; present = present + 1; execution = table i }

pub destroyed : (creates present less : ℕ) (xs ys : List NamedExecution) (name : List ℕ)
    → ys ≡ filter (λ (x : NamedExecution). not (bytes_eq name x.name)) xs → less ≡ present - 1
    → record { creates = creates; present = less; execution = centrals_of ys } ≡ after_destroy (record { creates = creates; present = present; execution = centrals_of xs }) name
destroyed creates present less xs ys name removed fewer =
    let table : centrals_of ys ≡ set_central (centrals_of xs) name None = ap centrals_of removed ∙ table_removed xs name in
    λ i. record { creates = creates; present = fewer i; execution = table i }

-- ---- each is still consistent
pub consistent_set : (xs : List NamedExecution) (k : ℕ) (x : NamedExecution) → IsConsistent x.execution → AreConsistent xs → AreConsistent (set xs k x)
consistent_set xs k x is all = All-set (λ (y : NamedExecution). IsConsistent y.execution) xs k x is all

pub consistent_removed : (xs ys : List NamedExecution) (name : List ℕ) → ys ≡ filter (λ (x : NamedExecution). not (bytes_eq name x.name)) xs → AreConsistent xs → AreConsistent ys
consistent_removed xs ys name removed all =
    subst (λ (zs : List NamedExecution). AreConsistent zs) (sym removed) (All-filter (λ (x : NamedExecution). not (bytes_eq name x.name)) (λ (y : NamedExecution). IsConsistent y.execution) xs all)

pub consistent_pushed : (xs ys : List NamedExecution) (x : NamedExecution) → ys ≡ xs ++ x ∷ [] → IsConsistent x.execution → AreConsistent xs → AreConsistent ys
consistent_pushed xs ys x pushed is all =
    subst (λ (zs : List NamedExecution). AreConsistent zs) (sym pushed) (All-push (λ (y : NamedExecution). IsConsistent y.execution) xs x all is)
