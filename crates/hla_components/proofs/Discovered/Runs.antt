-- Each object is discovered first, and once, over lists of steps
use Rattle.std.proofs.Common.{◌≡◌, ◌≢◌, ◌⊎◌, ⊎_elim, ℕ, false, true, refl, sym, subst, ap, inl, inr, ◌∙◌, List, [], ◌∷◌, ◌++◌}
use Rattle.hla_base.specs.declared.content.Content.{Content}
use Rattle.hla_base.specs.declared.content.Content.TheVariants as content
use Rattle.hla_base.specs.declared.content.Discovery.{Discovery}
use Rattle.hla_base.specs.declared.number.EventHandle.{EventHandle}
use Rattle.hla_catalogue.specs.CatalogueValue.{CatalogueValue}
use Rattle.hla_callbacks.specs.declared.callback.Callback.{Callback}
use Rattle.hla_callbacks.specs.declared.callback.Callback.TheVariants as callback
use Rattle.hla_callbacks.specs.declared.callback.Delivery.{Delivery}
use Rattle.hla_callbacks.specs.declared.callback.Delivery.TheVariants as delivery
use Rattle.hla_machine.specs.declared.step.Step.{Step}
use Rattle.hla_machine.specs.declared.step.Choice.{Choice}
use Rattle.hla_machine.specs.Central.{Central, new_central}
use Rattle.hla_machine.specs.Callbacks.{MayDeliver, MayPickUp, IsNextDiscovery}
use Rattle.hla_machine.specs.Runs.{Happening, IsRun}
use Rattle.hla_machine.specs.History.{GivesCallback, SpeaksOf, Names, next_state, central_after, Happens, HasHistory}
use Rattle.hla_machine.specs.Discovered.{Discovers, IsDiscoveredAmong, HasDiscovered, IsDiscoveredInTurn}
use Rattle.hla_machine.proofs.Upkeep.Ahead.{given_of}
use Rattle.hla_machine.proofs.Copies.Deliveries.{heard_from_another, discovered_before}
use Rattle.hla_machine.proofs.Upkeep.Runs.{first_run}
use Rattle.hla_machine.proofs.Histories.Lawful.{occurs_happens}
use Rattle.hla_components.specs.Components.{Components, new_components}
use Rattle.hla_components.specs.CentralOf.{central}
use Rattle.hla_components.specs.Invariant.{IsKnownOf, IsTold, Inv}
use Rattle.hla_components.specs.Next.{next}
use Rattle.hla_components.specs.Headline.{IsLedTo, happening, happenings, state_after}
use Rattle.hla_components.proofs.Refinement.Runs.{each_step, is_run, inv_start, central_start}
use Rattle.hla_components.proofs.Refinement.LedTo.{led_start, led_inv, led_history}
use Rattle.hla_components.proofs.Discovered.Lists.{Among, not_both, each_from_all, all_from_each}
use Rattle.hla_components.proofs.Discovered.Told.{Informed, kept_informed}
use Rattle.hla_components.proofs.Discovered.Changes.{Discovering, in_other_words}
use Rattle.hla_components.proofs.Discovered.Steps.{step_discovers}

-- ---- each state of a run
abbrev AreInformed : Central → List Happening → Type 0
AreInformed c [] = Informed c
AreInformed c (h ∷ hs) = Informed c × AreInformed (next_state c h) hs

first_informed : (c : Central) (xs ys : List Happening) → AreInformed c (xs ++ ys) → AreInformed c xs
first_informed c [] [] i = i
first_informed c [] (y ∷ ys) i = i.0
first_informed c (h ∷ xs) ys i = (i.0, first_informed (next_state c h) xs ys i.1)

rest_informed : (c : Central) (xs ys : List Happening) → AreInformed c (xs ++ ys) → AreInformed (central_after c xs) ys
rest_informed c [] ys i = i
rest_informed c (h ∷ xs) ys i = rest_informed (next_state c h) xs ys i.1

each_informed : (s : Components) (steps : List Step) → Inv s → AreInformed (central s) (happenings s steps)
each_informed s [] inv = kept_informed s inv.kept
each_informed s (step ∷ steps) inv =
    let one = each_step s step inv in
    (kept_informed s inv.kept, subst (λ (c : Central). AreInformed c (happenings (next s step).state steps)) one.machine.follows (each_informed (next s step).state steps one.kept))

run_end : (c : Central) (hs : List Happening) (d : Central) → IsRun c hs d → central_after c hs ≡ d
run_end c [] d run = run
run_end c (h ∷ hs) d run = run_end (next_state c h) hs d run.1

-- ---- runs
run_discovers : (P : ℕ → ℕ → Type 0) (c : Central) (hs : List Happening) (d : Central) → IsRun c hs d → AreInformed c hs → Discovering P c → Discovering (λ f o. P f o ⊎ IsDiscoveredAmong hs f o) (central_after c hs)
run_discovers P c [] d run i k = in_other_words P (λ f o. P f o ⊎ IsDiscoveredAmong [] f o) c (λ f o p. inl p) (λ f o w. ⊎_elim (λ (p : P f o). p) (λ (n : IsDiscoveredAmong [] f o). absurd n) w) k
run_discovers P c (h ∷ hs) d run i k =
    let now : ℕ → ℕ → Type 0 = λ f o. P f o ⊎ Discovers h f o in
    in_other_words (λ f o. now f o ⊎ IsDiscoveredAmong hs f o) (λ f o. P f o ⊎ IsDiscoveredAmong (h ∷ hs) f o) (central_after c (h ∷ hs)) to back
    (run_discovers now (next_state c h) hs d run.1 i.1 (step_discovers P c k i.0 h.step h.outcome h.choice run.0.0))
  where
    to : (f o : ℕ) → (P f o ⊎ Discovers h f o) ⊎ IsDiscoveredAmong hs f o → P f o ⊎ (Discovers h f o ⊎ IsDiscoveredAmong hs f o)
    to f o (inl (inl p)) = inl p
    to f o (inl (inr y)) = inr (inl y)
    to f o (inr a) = inr (inr a)

    back : (f o : ℕ) → P f o ⊎ (Discovers h f o ⊎ IsDiscoveredAmong hs f o) → (P f o ⊎ Discovers h f o) ⊎ IsDiscoveredAmong hs f o
    back f o (inl p) = inl (inl p)
    back f o (inr (inl y)) = inl (inr y)
    back f o (inr (inr a)) = inr a

-- what was given is discovered
has_discovered : (P : ℕ → ℕ → Type 0) (c : Central) → Discovering P c → Discovering (HasDiscovered c) c
has_discovered P c k = record {
  heard = λ f o j known other. ⊎_elim
      (λ (w : (g : ℕ) × Among o (c.discoveries g f)). inl w)
      (λ (p : P f o). inr (record { known = k.fresh f o p; given = λ g. all_from_each (λ (d : Discovery). d.object ≢ o) (c.discoveries g f) (k.gone f o g p) }))
      (k.heard f o j known other);
  fresh = λ f o p. p.known;
  gone = λ f o g p. each_from_all (λ (d : Discovery). d.object ≢ o) (c.discoveries g f) (p.given g);
  apart = k.apart;
  unknown = k.unknown;
}

start_discovers : (catalogue : CatalogueValue) → Discovering (λ _ _. ⊥) (new_central catalogue)
start_discovers catalogue = record {
  heard = λ f o j known other. absurd (cc);
  fresh = λ f o p. absurd p;
  gone = λ f o g p. absurd p;
  apart = λ g f. tt;
  unknown = λ f o high. refl;
}

led_discovers : (s : Components) → IsLedTo s → Discovering (HasDiscovered (central s)) (central s)
led_discovers s is =
    let start = new_components is.catalogue in
    let run = is_run start is.steps (inv_start is.catalogue) in
    let k = run_discovers (λ _ _. ⊥) (central start) (happenings start is.steps) (central (state_after start is.steps)) run (each_informed start is.steps (inv_start is.catalogue))
    (subst (λ (c : Central). Discovering (λ _ _. ⊥) c) (sym (central_start is.catalogue)) (start_discovers is.catalogue)) in
    let end : central_after (central start) (happenings start is.steps) ≡ central s = run_end (central start) (happenings start is.steps) (central (state_after start is.steps)) run ∙ ap central (sym is.state) in
    has_discovered _ (central s) (subst (λ (c : Central). Discovering (λ f o. ⊥ ⊎ IsDiscoveredAmong (happenings start is.steps) f o) c) end k)

-- ---- what is said of an object
-- who is told what e says of it
record IsTalk (c : Central) (f : ℕ) (k : Callback) (object : ℕ) : Type 0 where
  pub event : EventHandle
  pub names : Names k event
  pub known : IsKnownOf c.directory event.sender f object

copy_known : (c : Central) (f : ℕ) (x : Content) (e : EventHandle) (d : Delivery) → Informed c → MayDeliver c f x e d → IsTold c.directory e.sender f x
copy_known c f x e delivery.Receive told may = told.says e.sender e.serial f _ may.2
copy_known c f x e (delivery.Demoted s) told may = told.says e.sender e.serial f _ may.2
copy_known c f x e (delivery.TimeStamp s) told may = told.says e.sender e.serial f _ may.2

talk : (c : Central) (f : ℕ) (k : Callback) (object : ℕ) (o : Choice) → Informed c → MayPickUp c f k o → SpeaksOf k object → IsTalk c f k object
talk c f (callback.ReflectAttributeValues object values event d) o choice told may is = record {
  event = event;
  names = refl;
  known = subst (λ (o : ℕ). IsKnownOf c.directory event.sender f o) is (copy_known c f (content.Reflection object values) event d told may);
}
talk c f (callback.RemoveObjectInstance object event d) o choice told may is = record {
  event = event;
  names = refl;
  known = subst (λ (o : ℕ). IsKnownOf c.directory event.sender f o) is (copy_known c f (content.Removal object) event d told may);
}
talk c f k object choice told may is = absurd is

-- what is given as a discovery waited
first_among : (ds : List Discovery) (d : Discovery) → IsNextDiscovery ds d → Among d.object ds
first_among [] d next = absurd next
first_among (x ∷ xs) d next = inl (ap (λ (d : Discovery). d.object) next)

discovery_waited : (c : Central) (h : Happening) (f object : ℕ) → Happens c h → Discovers h f object → (g : ℕ) × Among object (c.discoveries g f)
discovery_waited c h f object is y =
    let w = given_of c h f (callback.DiscoverObjectInstance object y.class y.name) is.allowed.0 y.gives in
    let g = (c.directory.object object).owner in
    (g, first_among (c.discoveries g f) (record { object = object; class = y.class; name = y.name }) w.may)

module _ (c : Central) (hs : List Happening) (end : Central) (history : HasHistory c) (run : IsRun c hs end) (informed : AreInformed c hs) (k : Discovering (HasDiscovered c) c) where
  -- the state where h happens, and what was discovered until then
  record Moment (before : List Happening) (h : Happening) (rest : List Happening) : Type 0 where
    pub happens : Happens (central_after c before) h
    pub told : AreInformed (central_after c before) (h ∷ rest)
    pub found : Discovering (λ f o. HasDiscovered c f o ⊎ IsDiscoveredAmong before f o) (central_after c before)

  moment : (before : List Happening) (h : Happening) (rest : List Happening) → hs ≡ before ++ (h ∷ rest) → Moment before h rest
  moment before h rest whole =
      let all = subst (λ (hs : List Happening). IsRun c hs end) whole run in
      let told = subst (AreInformed c) whole informed in
      record {
        happens = occurs_happens c hs end history run (central_after c before) h (record { before = before; rest = rest; whole = whole; state = refl });
        told = rest_informed c before (h ∷ rest) told;
        found = run_discovers (HasDiscovered c) c before (central_after c before) (first_run c before (h ∷ rest) end all) (first_informed c before (h ∷ rest) told) k;
      }

  never_again : (before : List Happening) (h : Happening) (rest : List Happening) (f object : ℕ) → hs ≡ before ++ (h ∷ rest) → HasDiscovered c f object → Discovers h f object → ⊥
  never_again before h rest f object whole has y =
      let m = moment before h rest whole in
      let w = discovery_waited (central_after c before) h f object m.happens y in
      not_both object _ w.1 (m.found.gone f object w.0 (inl has))

  once : (before : List Happening) (h : Happening) (between : List Happening) (i : Happening) (rest : List Happening) (f object : ℕ) → hs ≡ before ++ (h ∷ (between ++ (i ∷ rest)))
      → Discovers h f object → Discovers i f object → ⊥
  once before h between i rest f object whole first second =
      let m = moment (before ++ (h ∷ between)) i rest (whole ∙ regroup before) in
      let w = discovery_waited (central_after c (before ++ (h ∷ between))) i f object m.happens second in
      not_both object _ w.1 (m.found.gone f object w.0 (inr (among_middle before)))
    where
      regroup : (xs : List Happening) → xs ++ (h ∷ (between ++ (i ∷ rest))) ≡ (xs ++ (h ∷ between)) ++ (i ∷ rest)
      regroup [] = refl
      regroup (x ∷ xs) = ap (λ (ys : List Happening). x ∷ ys) (regroup xs)

      among_middle : (xs : List Happening) → IsDiscoveredAmong (xs ++ (h ∷ between)) f object
      among_middle [] = inl first
      among_middle (x ∷ xs) = inr (among_middle xs)

  first : (before : List Happening) (h : Happening) (rest : List Happening) (f : ℕ) (x : Callback) (object : ℕ) → hs ≡ before ++ (h ∷ rest) → GivesCallback h.step h.outcome f x → SpeaksOf x object
      → HasDiscovered c f object ⊎ IsDiscoveredAmong before f object
  first before h rest f x object whole gives speaks =
      let m = moment before h rest whole in
      let now = central_after c before in
      let g = given_of now h f x m.happens.allowed.0 gives in
      let t = talk now f x object h.choice m.told.0 g.may speaks in
      let another = heard_from_another now h f t.event m.happens (record { given = x; gives = gives; names = t.names }) in
      ⊎_elim
      (λ (w : (g : ℕ) × Among object (now.discoveries g f)). absurd (not_both object _ w.1 (each_from_all (λ (d : Discovery). d.object ≢ object) (now.discoveries w.0 f) (discovered_before now h f x object m.happens gives speaks w.0))))
      (λ (p : HasDiscovered c f object ⊎ IsDiscoveredAmong before f object). p)
      (m.found.heard f object g.member t.known.known (λ e. another (sym t.known.owner ∙ e)))

  in_turn : IsDiscoveredInTurn c hs
  in_turn = record {
    first = λ before h rest f x object whole gives speaks. first before h rest f x object whole gives speaks;
    once = λ before h between i rest f object whole a b. once before h between i rest f object whole a b;
    never_again = λ before h rest f object whole has y. never_again before h rest f object whole has y;
  }

pub list_discovers_in_turn : (s : Components) (steps : List Step) → IsLedTo s → IsDiscoveredInTurn (central s) (happenings s steps)
list_discovers_in_turn s steps is =
    let inv = led_inv s is in
    in_turn (central s) (happenings s steps) (central (state_after s steps)) (led_history s is) (is_run s steps inv) (each_informed s steps inv) (led_discovers s is)

-- ---- from a new execution on
pub happenings_appended : (s : Components) (xs ys : List Step) → happenings s (xs ++ ys) ≡ happenings s xs ++ happenings (state_after s xs) ys
happenings_appended s [] ys = refl
happenings_appended s (x ∷ xs) ys = ap (λ (hs : List Happening). happening x (next s x) ∷ hs) (happenings_appended (next s x).state xs ys)

pub discovers_first : (catalogue : CatalogueValue) (before : List Step) (step : Step) (f : ℕ) (k : Callback) (object : ℕ)
    → (let now = state_after (new_components catalogue) before in GivesCallback step (next now step).outcome f k → SpeaksOf k object → IsDiscoveredAmong (happenings (new_components catalogue) before) f object)
discovers_first catalogue before step f k object gives speaks =
    let s = new_components catalogue in
    let now = state_after s before in
    let all = list_discovers_in_turn s (before ++ (step ∷ [])) (led_start catalogue) in
    ⊎_elim
    (λ (has : HasDiscovered (central s) f object). absurd (let known = has.known in let none : false ≡ true = known in cc))
    (λ (a : IsDiscoveredAmong (happenings s before) f object). a)
    (all.first (happenings s before) (happening step (next now step)) [] f k object (happenings_appended s before (step ∷ [])) gives speaks)

pub discovers_once : (catalogue : CatalogueValue) (before : List Step) (step : Step) (between : List Step) (later : Step) (f object : ℕ)
    → (let now = state_after (new_components catalogue) before in let then = state_after (next now step).state between in
    Discovers (happening step (next now step)) f object → Discovers (happening later (next then later)) f object → ⊥)
discovers_once catalogue before step between later f object first second =
    let s = new_components catalogue in
    let now = state_after s before in
    let then = state_after (next now step).state between in
    let all = list_discovers_in_turn s (before ++ (step ∷ (between ++ (later ∷ [])))) (led_start catalogue) in
    all.once (happenings s before) (happening step (next now step)) (happenings (next now step).state between) (happening later (next then later)) [] f object
    (happenings_appended s before (step ∷ (between ++ (later ∷ [])))
    ∙ ap (λ (hs : List Happening). happenings s before ++ (happening step (next now step) ∷ hs)) (happenings_appended (next now step).state between (later ∷ [])))
    first second
