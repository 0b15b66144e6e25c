-- Events of one sender with one stamp keep its order
use Rattle.std.proofs.Common.{◌≡◌, ◌≢◌, ℕ, ◌≤◌, ◌<◌, refl, sym, subst, ⊎_elim, arith, List, ◌∷◌, Some}
use Rattle.std.proofs.lemmas.Bool.{cases_eq, cases_lt}
use Rattle.hla_base.specs.declared.number.EventHandle.{EventHandle}
use Rattle.hla_callbacks.specs.declared.callback.Callback.{Callback}
use Rattle.hla_callbacks.specs.declared.callback.Callback.TheVariants as callback
use Rattle.hla_machine.specs.Central.{Central, new_central}
use Rattle.hla_machine.specs.Runs.{Happening}
use Rattle.hla_machine.specs.History.{Brings, Names, Picks, Hears, HappenAfter, next_state}
use Rattle.hla_machine.proofs.Upkeep.Ahead.{taken_of}
use Rattle.hla_machine.proofs.Copies.Deliveries.{others_run, others_start, back_run, heard_once}

names_of_brought : (k : Callback) (e : EventHandle) (s : ℕ) → Brings k e s → Names k e
names_of_brought (callback.ReflectAttributeValues object values event d) e s is = is.0
names_of_brought (callback.ReceiveInteraction class values event d) e s is = is.0
names_of_brought (callback.RemoveObjectInstance object event d) e s is = is.0
names_of_brought k e s is = absurd is

hears_of_picked : (h : Happening) (f : ℕ) (e : EventHandle) (s : ℕ) → Picks h f e s → Hears h f e
hears_of_picked h f e s p = record { given = p.given; gives = p.gives; names = names_of_brought p.given e s p.brings }

-- an event and an earlier one of its sender and stamp do not come the wrong way round
no_turn : (c : Central) (h : Happening) (between : List Happening) (d : Central) (i : Happening) (f : ℕ) (e x : EventHandle) (s : ℕ) → HappenAfter c h between d i → Picks h f e s → Picks i f x s
    → e.sender ≡ x.sender → x.serial < e.serial → ⊥
no_turn c h between d i f e x s later first second same before =
    let w = others_run (new_central later.first.catalogue) later.first.before c later.first.run (others_start later.first.catalogue) in
    let a = taken_of c h f e s later.first.allowed.0 first in
    let b = taken_of d i f x s later.allowed.0 second in
    let used = w.laws.unused e.sender e.serial f _ a.copy in
    let low : x.serial < c.serial x.sender = subst (λ (g : ℕ). x.serial < c.serial g) same (omega (arith, used, before)) in
    let old = back_run c (h ∷ between) d f x (later.first.allowed, later.run) low _ b.copy in
    let own : c.bag e.sender x.serial f ≡ Some old.0 = subst (λ (g : ℕ). c.bag g x.serial f ≡ Some old.0) (sym same) old.1 in
    a.first x.serial old.0 before own (old.2.tso refl) (sym old.2.stamp)

pub equal_stamps_in_order : (c : Central) (h : Happening) (between : List Happening) (d : Central) (i : Happening) (f : ℕ) (e x : EventHandle) (s : ℕ) → HappenAfter c h between d i → Picks h f e s → Picks i f x s
    → e.sender ≡ x.sender → e.serial < x.serial
equal_stamps_in_order c h between d i f e x s later first second same = ⊎_elim
    (λ (l : e.serial < x.serial). l)
    (λ (high : x.serial ≤ e.serial). ⊎_elim
    (λ (eq : e.serial ≡ x.serial).
    let twin : x ≡ e = λ j. record { sender = sym same j; serial = sym eq j } in
    absurd (heard_once c h between d i f e later (hears_of_picked h f e s first) (subst (λ (x : EventHandle). Hears i f x) twin (hears_of_picked i f x s second))))
    (λ (ne : e.serial ≢ x.serial). let before : x.serial < e.serial = omega (arith, high, ne) in absurd (no_turn c h between d i f e x s later first second same before))
    (cases_eq e.serial x.serial))
    (cases_lt e.serial x.serial)
