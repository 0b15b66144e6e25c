-- Who is asked to take a message back, and why
use Rattle.std.proofs.Common.{◌≡◌, ℕ, ◌-◌, ◌≤◌, eqb, ◌&&◌, true, false, refl, sym, ◌∙◌, ap, subst, inl, inr, ⊎_elim, arith, eq-eqb, List, [], ◌∷◌, ◌++◌, Some, None}
use Rattle.std.proofs.lemmas.Bool.{cases_Bool}
use Rattle.std.proofs.lemmas.List.{append_assoc, append-nil}
use Rattle.hla_base.specs.declared.number.EventHandle.{EventHandle}
use Rattle.hla_base.specs.declared.fault.Fault.{Fault}
use Rattle.hla_callbacks.specs.declared.callback.Callback.{Callback}
use Rattle.hla_callbacks.specs.declared.callback.Callback.TheVariants as callback
use Rattle.hla_catalogue.specs.CatalogueValue.{CatalogueValue}
use Rattle.hla_machine.specs.declared.service.Service.{Service}
use Rattle.hla_machine.specs.declared.service.Service.TheVariants as service
use Rattle.hla_machine.specs.declared.step.Step.{Step}
use Rattle.hla_machine.specs.declared.step.Step.TheVariants.{Join, Call, Carry, Tick}
use Rattle.hla_machine.specs.declared.step.Answer.{Answer}
use Rattle.hla_machine.specs.declared.step.Answer.TheVariants as answer
use Rattle.hla_machine.specs.declared.step.Outcome.{Outcome}
use Rattle.hla_machine.specs.declared.step.Outcome.TheVariants as outcome
use Rattle.hla_machine.specs.declared.step.Choice.{Choice}
use Rattle.hla_machine.specs.Central.{Central, new_central, is_key}
use Rattle.hla_machine.specs.Callbacks.{MayPickUp, after_pick}
use Rattle.hla_machine.specs.Refusals.{refusal}
use Rattle.hla_machine.specs.Machine.{central_seen, MayAnswer, MayDo, MayEnd, after_done, after}
use Rattle.hla_machine.specs.Runs.{Happening, IsRun}
use Rattle.hla_machine.specs.History.{GivesCallback, Names, Hears, next_state}
use Rattle.hla_machine.specs.AskedBack.{IsRetractedAmong, IsHeardAmong, IsUnasked, IsAskedBack}
use Rattle.hla_machine.proofs.Basics.Bags.{at3_here}
use Rattle.hla_machine.proofs.Upkeep.Ahead.{given_of}
use Rattle.hla_machine.proofs.Copies.Fates.{handle_is}
use Rattle.hla_machine.proofs.Copies.Unasked.{same_place, at3_apart, retract_done, Stands, call_stands, carry_stands, join_stands, picked_stands}
use Rattle.hla_machine.proofs.Copies.Standing.{wider, answered}

-- ---- what a step does
module _ (R H : Type 0) where
  module _ (N P : Type 0) (g m f : ℕ) where
    -- more has happened, but f was not asked
    widened : (c : Central) → (N → P) → Stands R H N g m f c → Stands R H P g m f c
    widened c to k = wider m f R H N (c.sent g m) (c.serial g) (c.owed g m f) (c.due g m f) (c.bag g m f) (c.directory.joined f) c.directory.next_federate k R H P (λ x. x) (λ x. x) to

    -- f is asked to take it back
    asked_here : (c : Central) (o : Choice) → 1 ≤ c.due g m f → Stands R H N g m f c → Stands R H P g m f (after_pick c f (callback.RequestRetraction (record { sender = g; serial = m })) o)
    asked_here c o l k = rw (at3_here c.due g m f (c.due g m f - 1))
        (answered m f R H N (c.sent g m) (c.serial g) (c.owed g m f) (c.due g m f) (c.bag g m f) (c.directory.joined f) c.directory.next_federate k P l)

    -- somebody is asked to take a message back
    asked_stands : (c : Central) (a : ℕ) (e : EventHandle) (o : Choice) → 1 ≤ c.due e.sender e.serial a → ((a ≡ f → e ≡ record { sender = g; serial = m } → ⊥) → N → P) → Stands R H N g m f c → Stands R H P g m f (after_pick c a (callback.RequestRetraction e) o)
    asked_stands c a e o l passes k = ⊎_elim
        (λ (y : (e.sender ≡ g) × (e.serial ≡ m) × (a ≡ f)).
        subst (λ (a : ℕ). Stands R H P g m f (after_pick c a (callback.RequestRetraction e) o)) (sym y.2)
        (subst (λ (e : EventHandle). Stands R H P g m f (after_pick c f (callback.RequestRetraction e) o)) (sym (handle_is e g m y.0 y.1))
        (asked_here c o (subst (λ (a : ℕ). 1 ≤ c.due g m a) y.2 (subst (λ (n : ℕ). 1 ≤ c.due g n a) y.1 (subst (λ (h : ℕ). 1 ≤ c.due h e.serial a) y.0 l))) k)))
        (λ (n : (is_key e.sender e.serial g m && eqb a f) ≡ false).
        rw (at3_apart c.due e.sender e.serial a (c.due e.sender e.serial a - 1) g m f n)
        (widened c (passes (λ same is. let y : (is_key e.sender e.serial g m && eqb a f) ≡ true = here same is in let b : true ≡ false = sym y ∙ n in cc)) k))
        (same_place e.sender e.serial a g m f)
      where
        here : a ≡ f → e ≡ record { sender = g; serial = m } → (is_key e.sender e.serial g m && eqb a f) ≡ true
        here same is = rw (eq-eqb e.sender g (ap (λ (e : EventHandle). e.sender) is), eq-eqb e.serial m (ap (λ (e : EventHandle). e.serial) is), eq-eqb a f same) refl

    same_asked : (e x : EventHandle) → callback.RequestRetraction e ≡ callback.RequestRetraction x → e ≡ x
    same_asked e x is = cc

    pick_stands : (c : Central) (a : ℕ) (x : Callback) (o : Choice) → MayPickUp c a x o → (a ≡ f → Names x (record { sender = g; serial = m }) → H)
        → (((a ≡ f) × (x ≡ callback.RequestRetraction (record { sender = g; serial = m })) → ⊥) → N → P) → Stands R H N g m f c → Stands R H P g m f (after_pick c a x o)
    pick_stands c a (callback.RequestRetraction e) o may hears passes k = asked_stands c a e o may (λ un. passes (λ is. un is.0 (same_asked e _ is.1))) k
    pick_stands c a x o may hears passes k = picked_stands R H P g m f c a x o (λ e is. absurd (cc)) hears (widened c (passes (λ is. absurd (let e = is.1 in cc))) k)

    done_stands : (c : Central) (step : Step) (a : Answer) (o : Choice) → refusal (central_seen c) step ≡ None → MayDo c step a o
        → (step ≡ Call g (service.Retract (record { sender = g; serial = m })) → outcome.Done a ≡ outcome.Done answer.Done → R)
        → ((x : Callback) → GivesCallback step (outcome.Done a) f x → Names x (record { sender = g; serial = m }) → H)
        → ((GivesCallback step (outcome.Done a) f (callback.RequestRetraction (record { sender = g; serial = m })) → ⊥) → N → P) → Stands R H N g m f c → Stands R H P g m f (after_done c step a o)
    done_stands c (Join name) a o none may retracts hears passes k = join_stands R H P g m f c name (widened c (passes (λ is. is)) k)
    done_stands c (Call b s) a o none may retracts hears passes k = call_stands R H P g m f c b s o none
        (λ same own. retracts (ap (λ (b : ℕ). Call b s) own ∙ ap (λ (s : Service). Call g s) same) (ap outcome.Done (retract_done (record { sender = g; serial = m }) c b a o (subst (λ (s : Service). MayAnswer c b s a o) same may))))
        (widened c (passes (λ is. is)) k)
    done_stands c (Carry from to) (answer.Carried x) o none may retracts hears passes k = carry_stands R H P g m f c from to x may (widened c (passes (λ is. is)) k)
    done_stands c (Tick b) (answer.Ticked (Some x)) o none may retracts hears passes k = pick_stands c b x o may.0 (λ same names. hears x (same, refl) names) passes k
    done_stands c step a o none may retracts hears passes k = widened c (passes (λ is. is)) k

    -- a refused step gives nothing
    refused_gives : (step : Step) (x : Fault) (k : Callback) → GivesCallback step (outcome.Refused x) f k → ⊥
    refused_gives (Tick b) x k is = is
    refused_gives step x k is = is

    step_stands : (c : Central) (step : Step) (out : Outcome) (o : Choice) → MayEnd c step out o
        → (step ≡ Call g (service.Retract (record { sender = g; serial = m })) → out ≡ outcome.Done answer.Done → R)
        → ((x : Callback) → GivesCallback step out f x → Names x (record { sender = g; serial = m }) → H)
        → ((GivesCallback step out f (callback.RequestRetraction (record { sender = g; serial = m })) → ⊥) → N → P) → Stands R H N g m f c → Stands R H P g m f (after c step out o)
    step_stands c step (outcome.Done a) o may retracts hears passes k = done_stands c step a o may.0 may.1 retracts hears passes k
    step_stands c (Tick b) (outcome.Failed x) o may retracts hears passes k = pick_stands c b x o may.1.0 (λ same names. hears x (same, refl) names) passes k
    step_stands c step (outcome.Refused x) o may retracts hears passes k = widened c (passes (refused_gives step x _)) k
    step_stands c step out o may retracts hears passes k = absurd may

-- ---- what has happened, and one happening more
module _ (f : ℕ) (e : EventHandle) where
  -- what happened among the first has happened, and so has what happens now
  retracted_on : (xs ys : List Happening) → IsRetractedAmong xs e → IsRetractedAmong (xs ++ ys) e
  retracted_on [] ys is = absurd is
  retracted_on (x ∷ xs) ys (inl here) = inl here
  retracted_on (x ∷ xs) ys (inr there) = inr (retracted_on xs ys there)

  retracted_last : (xs : List Happening) (h : Happening) → h.step ≡ Call e.sender (service.Retract e) → h.outcome ≡ outcome.Done answer.Done → IsRetractedAmong (xs ++ (h ∷ [])) e
  retracted_last [] h is done = inl (is, done)
  retracted_last (x ∷ xs) h is done = inr (retracted_last xs h is done)

  heard_on : (xs ys : List Happening) → IsHeardAmong xs f e → IsHeardAmong (xs ++ ys) f e
  heard_on [] ys is = absurd is
  heard_on (x ∷ xs) ys (inl here) = inl here
  heard_on (x ∷ xs) ys (inr there) = inr (heard_on xs ys there)

  heard_last : (xs : List Happening) (h : Happening) → Hears h f e → IsHeardAmong (xs ++ (h ∷ [])) f e
  heard_last [] h hears = inl hears
  heard_last (x ∷ xs) h hears = inr (heard_last xs h hears)

  unasked_on : (xs : List Happening) (h : Happening) → (GivesCallback h.step h.outcome f (callback.RequestRetraction e) → ⊥) → IsUnasked xs f e → IsUnasked (xs ++ (h ∷ [])) f e
  unasked_on [] h un all = (un, tt)
  unasked_on (x ∷ xs) h un all = (all.0, unasked_on xs h un all.1)

  -- ---- runs
  -- the same with what the happenings say
  abbrev StandsAfter : List Happening → Central → Type 0
  StandsAfter past c = Stands (IsRetractedAmong past e) (IsHeardAmong past f e) (IsUnasked past f e) e.sender e.serial f c

  stands_step : (past : List Happening) (c : Central) (h : Happening) → MayEnd c h.step h.outcome h.choice → StandsAfter past c → StandsAfter (past ++ (h ∷ [])) (next_state c h)
  stands_step past c h may k =
      let more = past ++ (h ∷ []) in
      step_stands (IsRetractedAmong more e) (IsHeardAmong more f e) (IsUnasked past f e) (IsUnasked more f e) e.sender e.serial f c h.step h.outcome h.choice may
      (retracted_last past h) (λ x gives names. heard_last past h (record { given = x; gives = gives; names = names })) (unasked_on past h)
      (wider e.serial f (IsRetractedAmong past e) (IsHeardAmong past f e) (IsUnasked past f e) (c.sent e.sender e.serial) (c.serial e.sender) (c.owed e.sender e.serial f) (c.due e.sender e.serial f) (c.bag e.sender e.serial f) (c.directory.joined f) c.directory.next_federate k
      (IsRetractedAmong more e) (IsHeardAmong more f e) (IsUnasked past f e) (retracted_on past (h ∷ [])) (heard_on past (h ∷ [])) (λ x. x))

  stands_run : (past : List Happening) (c : Central) (hs : List Happening) (d : Central) → IsRun c hs d → StandsAfter past c → StandsAfter (past ++ hs) d
  stands_run past c [] d run k = subst (λ (d : Central). StandsAfter (past ++ []) d) run (subst (λ (hs : List Happening). StandsAfter hs c) (sym (append-nil past)) k)
  stands_run past c (h ∷ hs) d run k = subst (λ (hs : List Happening). StandsAfter hs d) (append_assoc past (h ∷ []) hs) (stands_run (past ++ (h ∷ [])) (next_state c h) hs d run.1 (stands_step past c h run.0.0 k))

  stands_start : (catalogue : CatalogueValue) → StandsAfter [] (new_central catalogue)
  stands_start catalogue = record {
    called = λ is. absurd (cc);
    used = λ is. absurd (cc);
    able = λ is. absurd (cc);
    calm = λ is. (refl, refl);
    few = omega arith;
    near = λ un is there. absurd (cc);
    coming = λ l. absurd (omega arith);
    heard = λ l. absurd (omega arith);
    asked = inl tt;
    known = λ is. absurd (cc);
    members = λ is. absurd (cc);
  }

-- what f is asked to take back was retracted and given to it, and f was never asked so before
pub asked_back_once : (catalogue : CatalogueValue) (earlier : List Happening) (now : Central) (h : Happening) (f : ℕ) (e : EventHandle) → IsRun (new_central catalogue) earlier now → MayEnd now h.step h.outcome h.choice
    → GivesCallback h.step h.outcome f (callback.RequestRetraction e) → IsAskedBack earlier f e
asked_back_once catalogue earlier now h f e run may gives =
    let k = stands_run f e [] (new_central catalogue) earlier now run (stands_start f e catalogue) in
    let due : 1 ≤ now.due e.sender e.serial f = (given_of now h f (callback.RequestRetraction e) may gives).may in
    record {
      retracted = ⊎_elim
          (λ (y : (now.sent e.sender e.serial).retracted ≡ true). k.called y)
          (λ (n : (now.sent e.sender e.serial).retracted ≡ false). absurd (let z = k.calm n in omega (arith, due, z.1)))
          (cases_Bool (now.sent e.sender e.serial).retracted);
      heard = k.heard due;
      unasked = ⊎_elim
          (λ (x : IsUnasked earlier f e). x)
          (λ (x : ((now.sent e.sender e.serial).retracted ≡ true) × (now.owed e.sender e.serial f ≡ 0) × (now.due e.sender e.serial f ≡ 0)). absurd (omega (arith, due, x.2)))
          k.asked;
    }
