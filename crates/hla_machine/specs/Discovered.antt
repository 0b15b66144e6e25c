-- That each object is discovered first, and once, and by the name under which it was registered
use Rattle.std.specs.Prelude.{ℕ, ◌≡◌, ◌≢◌, ◌⊎◌, true, Option, List, [], ◌∷◌, ◌++◌}
use Rattle.std.specs.List.{All}
use Rattle.hla_base.specs.declared.content.Discovery.{Discovery}
use Rattle.hla_catalogue.specs.CatalogueValue.{CatalogueValue}
use Rattle.hla_catalogue.specs.Lookup.{contains_number, object_lineage}
use Rattle.hla_callbacks.specs.declared.callback.Callback.{Callback}
use Rattle.hla_callbacks.specs.declared.callback.Callback.TheVariants as callback
use Rattle.hla_machine.specs.declared.service.Service.TheVariants as service
use Rattle.hla_machine.specs.declared.step.Step.TheVariants.{Call}
use Rattle.hla_machine.specs.declared.step.Answer.TheVariants as answer
use Rattle.hla_machine.specs.declared.step.Outcome.TheVariants as outcome
use Rattle.hla_machine.specs.Central.{Central}
use Rattle.hla_machine.specs.Runs.{Happening}
use Rattle.hla_machine.specs.History.{GivesCallback, SpeaksOf}

-- f is given the discovery of an object
pub record Discovers (h : Happening) (f object : ℕ) : Type 0 where
  pub class : ℕ
  pub name : List ℕ
  pub gives : GivesCallback h.step h.outcome f (callback.DiscoverObjectInstance object class name)

-- at one of the happenings it is
abbrev pub IsDiscoveredAmong : List Happening → ℕ → ℕ → Type 0
IsDiscoveredAmong [] f object = ⊥
IsDiscoveredAmong (h ∷ hs) f object = Discovers h f object ⊎ IsDiscoveredAmong hs f object

-- f has discovered an object: it knows it, and no discovery of it waits
pub record HasDiscovered (c : Central) (f object : ℕ) : Type 0 where
  pub known : c.directory.known object f ≡ true
  pub given : (g : ℕ) → All (λ (d : Discovery). d.object ≢ object) (c.discoveries g f)

-- of the happenings from c on
pub record IsDiscoveredInTurn (c : Central) (happenings : List Happening) : Type 0 where
  -- before a federate is given an update or the removal of an object, it is given the discovery of that object, or had discovered it before
  pub first : (before : List Happening) (h : Happening) (rest : List Happening) (f : ℕ) (k : Callback) (object : ℕ) → happenings ≡ before ++ (h ∷ rest) →
      GivesCallback h.step h.outcome f k → SpeaksOf k object → HasDiscovered c f object ⊎ IsDiscoveredAmong before f object
  -- no federate is given the discovery of an object twice
  pub once : (before : List Happening) (h : Happening) (between : List Happening) (i : Happening) (rest : List Happening) (f object : ℕ) → happenings ≡ before ++ (h ∷ (between ++ (i ∷ rest))) →
      Discovers h f object → Discovers i f object → ⊥
  -- nor one that it had discovered before
  pub never_again : (before : List Happening) (h : Happening) (rest : List Happening) (f object : ℕ) → happenings ≡ before ++ (h ∷ rest) →
      HasDiscovered c f object → Discovers h f object → ⊥

-- another than f registers the object: under this name, and as one of the class or of a class derived from it
pub record RegistersFor (catalogue : CatalogueValue) (h : Happening) (f object class : ℕ) (name : List ℕ) : Type 0 where
  pub owner : ℕ
  pub other : owner ≢ f
  pub registered : ℕ  -- the object's own class
  pub asked : Option (List ℕ)
  pub step : h.step ≡ Call owner (service.RegisterObjectInstance registered asked)
  pub outcome : h.outcome ≡ outcome.Done (answer.Registered object name)
  pub derived : contains_number class (object_lineage catalogue registered) ≡ true

-- at one of these happenings that is done
abbrev pub IsRegisteredFor : CatalogueValue → List Happening → ℕ → ℕ → ℕ → List ℕ → Type 0
IsRegisteredFor catalogue [] f object class name = ⊥
IsRegisteredFor catalogue (h ∷ hs) f object class name = RegistersFor catalogue h f object class name ⊎ IsRegisteredFor catalogue hs f object class name
