-- What carries leave on the wires
use Rattle.std.proofs.Common.{◌≡◌, ◌≢◌, ◌⊎◌, ℕ, zero, suc, ◌+◌, ◌-◌, ◌≤◌, cond, eqb, ltb, ◌&&◌, Bool, true, false, refl, sym, ap, ◌∙◌, subst, ⊎_elim, arith, eq-eqb, ne_eqb, List, [], ◌∷◌, ◌++◌, length, replicate, Option, Some, None}
use Rattle.std.proofs.lemmas.Bool.{cases_eq, cond_both, and_from}
use Rattle.std.proofs.lemmas.Bool.Decides.{nat_tests}
use Rattle.hla_base.specs.declared.fault.Fault.{Fault}
use Rattle.hla_base.specs.Tables.{one_if}
use Rattle.hla_base.proofs.Tables.{upd2_same, upd2_other, cases_pair}
use Rattle.hla_null_message.specs.declared.message.Message.{Message}
use Rattle.hla_null_message.specs.declared.message.Message.TheVariants as message
use Rattle.hla_machine.specs.declared.step.Step.{Step}
use Rattle.hla_machine.specs.declared.step.Step.TheVariants.{Join, Call, Carry, Announce, Tick}
use Rattle.hla_machine.specs.Refusals.{refusal}
use Rattle.hla_components.specs.Components.{Components}
use Rattle.hla_components.specs.Invariant.{EachOf}
use Rattle.hla_components.specs.Next.{Outcomes, next, carry_outcome, unless_refused, components_seen}
use Rattle.hla_components.specs.Headline.{state_after}
use Rattle.hla_components.proofs.Basics.Each.{EachOf-append}
use Rattle.hla_progress.specs.Rounds.{carries_from, carries_to}

abbrev pub is_carry_of : ℕ → ℕ → Step → Bool
is_carry_of g f (Join name) = false
is_carry_of g f (Call h service) = false
is_carry_of g f (Carry h l) = eqb g h && eqb f l
is_carry_of g f (Announce h) = false
is_carry_of g f (Tick h) = false

abbrev pub IsCarry : Step → Type 0
IsCarry (Join name) = ⊥
IsCarry (Call h service) = ⊥
IsCarry (Carry h l) = Unit {0}
IsCarry (Announce h) = ⊥
IsCarry (Tick h) = ⊥

-- how often the wire from g to f is carried
abbrev pub carries_of : ℕ → ℕ → List Step → ℕ
carries_of g f [] = 0
carries_of g f (step ∷ steps) = one_if (is_carry_of g f step) + carries_of g f steps

-- ---- one of them
pub record IsCarriedOn (t u : Components) : Type 0 where
  pub directory : u.directory ≡ t.directory
  pub row : u.row ≡ t.row
  pub last : u.last_announced ≡ t.last_announced

carried_on : (t : Components) (h l : ℕ) (ms : List Message) → IsCarriedOn t (carry_outcome t h l ms).state
carried_on t h l [] = record { directory = refl; row = refl; last = refl }
carried_on t h l (message.Event e ∷ ms) = record { directory = refl; row = refl; last = refl }
carried_on t h l (message.Null k v ∷ ms) = record { directory = refl; row = refl; last = refl }
carried_on t h l (message.Retraction m ∷ ms) = record { directory = refl; row = refl; last = refl }
carried_on t h l (message.Discovery d ∷ ms) = record { directory = refl; row = refl; last = refl }

other_wire : (t : Components) (h l g f : ℕ) (ms : List Message) → (h ≢ g) ⊎ (l ≢ f) → (carry_outcome t h l ms).state.wire g f ≡ t.wire g f
other_wire t h l g f [] ne = refl
other_wire t h l g f (message.Event e ∷ ms) ne = upd2_other t.wire h l ms g f ne
other_wire t h l g f (message.Null k v ∷ ms) ne = upd2_other t.wire h l ms g f ne
other_wire t h l g f (message.Retraction m ∷ ms) ne = upd2_other t.wire h l ms g f ne
other_wire t h l g f (message.Discovery d ∷ ms) ne = upd2_other t.wire h l ms g f ne

shorter : (t : Components) (h l : ℕ) (ms : List Message) → t.wire h l ≡ ms → length ((carry_outcome t h l ms).state.wire h l) ≤ length (t.wire h l) - 1
shorter t h l [] front = rw front (omega arith)
shorter t h l (message.Event e ∷ ms) front = rw (upd2_same, front) (omega arith)
shorter t h l (message.Null k v ∷ ms) front = rw (upd2_same, front) (omega arith)
shorter t h l (message.Retraction m ∷ ms) front = rw (upd2_same, front) (omega arith)
shorter t h l (message.Discovery d ∷ ms) front = rw (upd2_same, front) (omega arith)

either : (P : Components → Type 0) (t : Components) (r : Option Fault) (o : Outcomes) → P t → P o.state → P (unless_refused r t o).state
either P t None o a b = b
either P t (Some e) o a b = a

pub next_on : (t : Components) (h l : ℕ) → IsCarriedOn t (next t (Carry h l)).state
next_on t h l = either (IsCarriedOn t) t (refusal (components_seen t) (Carry h l)) (carry_outcome t h l (t.wire h l)) (record { directory = refl; row = refl; last = refl }) (carried_on t h l (t.wire h l))

next_other : (t : Components) (h l g f : ℕ) → (h ≢ g) ⊎ (l ≢ f) → (next t (Carry h l)).state.wire g f ≡ t.wire g f
next_other t h l g f ne = either (λ (u : Components). u.wire g f ≡ t.wire g f) t (refusal (components_seen t) (Carry h l)) (carry_outcome t h l (t.wire h l)) refl (other_wire t h l g f (t.wire h l) ne)

-- the wire from g to f may be carried
pub record IsOpen (t : Components) (g f : ℕ) : Type 0 where
  pub other : g ≢ f
  pub numbered : g ≢ 0
  pub below : ltb g t.directory.next_federate ≡ true
  pub member : t.directory.joined f ≡ true

next_here : (t : Components) (g f : ℕ) → IsOpen t g f → length ((next t (Carry g f)).state.wire g f) ≤ length (t.wire g f) - 1
next_here t g f o = rw (o.member, ne_eqb g f o.other, ne_eqb g 0 o.numbered, o.below) (shorter t g f (t.wire g f) refl)

-- ---- a list of them
pub all_on : (t : Components) (steps : List Step) → EachOf IsCarry steps → IsCarriedOn t (state_after t steps)
all_on t [] of = record { directory = refl; row = refl; last = refl }
all_on t (Join name ∷ steps) of = absurd of.0
all_on t (Call h x ∷ steps) of = absurd of.0
all_on t (Carry h l ∷ steps) of = let a = next_on t h l in let b = all_on (next t (Carry h l)).state steps of.1 in record { directory = b.directory ∙ a.directory; row = b.row ∙ a.row; last = b.last ∙ a.last }
all_on t (Announce h ∷ steps) of = absurd of.0
all_on t (Tick h ∷ steps) of = absurd of.0

still_open : (t u : Components) (g f : ℕ) → IsCarriedOn t u → IsOpen t g f → IsOpen u g f
still_open t u g f c o = record { other = o.other; numbered = o.numbered; below = rw c.directory o.below; member = rw c.directory o.member }

empty : (ms : List Message) → length ms ≤ 0 → ms ≡ []
empty [] l = refl
empty (m ∷ ms) l = absurd (omega (arith, l))

-- a wire that is carried as often as it is long is empty then
pub carried_away : (t : Components) (g f : ℕ) (steps : List Step) → IsOpen t g f → EachOf IsCarry steps → length (t.wire g f) ≤ carries_of g f steps → (state_after t steps).wire g f ≡ []
carried_away t g f [] o of l = empty (t.wire g f) l
carried_away t g f (Join name ∷ steps) o of l = absurd of.0
carried_away t g f (Call h x ∷ steps) o of l = absurd of.0
carried_away t g f (Announce h ∷ steps) o of l = absurd of.0
carried_away t g f (Tick h ∷ steps) o of l = absurd of.0
carried_away t g f (Carry h k ∷ steps) o of l = carried_away (next t (Carry h k)).state g f steps (still_open t (next t (Carry h k)).state g f (next_on t h k) o) of.1 (⊎_elim
    (λ (e : (h ≡ g) × (k ≡ f)). let here : length ((next t (Carry h k)).state.wire g f) ≤ length (t.wire g f) - 1 = rw (e.0, e.1) (next_here t g f o) in
    let y : (eqb g h && eqb f k) ≡ true = and_from (eqb g h) (eqb f k) (eq-eqb g h (sym e.0)) (eq-eqb f k (sym e.1)) in
    let one : one_if (eqb g h && eqb f k) ≡ 1 = ap one_if y in omega (arith, here, one, l))
    (λ (ne : (h ≢ g) ⊎ (k ≢ f)). let same : length ((next t (Carry h k)).state.wire g f) ≡ length (t.wire g f) = ap length (next_other t h k g f ne) in
    let none : one_if (eqb g h && eqb f k) ≡ 0 = ap one_if (apart g f h k ne) in omega (arith, same, none, l))
    (cases_pair h g k f))
  where
    apart : (g f h k : ℕ) → (h ≢ g) ⊎ (k ≢ f) → (eqb g h && eqb f k) ≡ false
    apart g f h k ne = grind (arith, nat_tests)

-- ---- rounds carry each wire so often
carries_of-append : (g f : ℕ) (xs ys : List Step) → carries_of g f (xs ++ ys) ≡ carries_of g f xs + carries_of g f ys
carries_of-append g f [] ys = omega arith
carries_of-append g f (x ∷ xs) ys = omega (arith, carries_of-append g f xs ys)

repeated : (k g f : ℕ) → carries_of g f (replicate k (Carry g f)) ≡ k
repeated zero g f = refl
repeated (suc k) g f = let y : (eqb g g && eqb f f) ≡ true = and_from _ _ (eq-eqb g g refl) (eq-eqb f f refl) in let one : one_if (eqb g g && eqb f f) ≡ 1 = ap one_if y in omega (arith, one, repeated k g f)

from_often : (k g f n : ℕ) → 1 ≤ f → f ≤ n → g ≢ f → k ≤ carries_of g f (carries_from g k n)
unfolding carries_from
from_often k g f zero a b ne = absurd (omega arith)
from_often k g f (suc n) a b ne = ⊎_elim
    (λ (e : f ≡ suc n). let off : eqb g (suc n) ≡ false = ne_eqb g (suc n) (λ (x : g ≡ suc n). ne (x ∙ sym e)) in
    let all : carries_of g f (cond (eqb g (suc n)) [] (replicate k (Carry g (suc n)))) ≡ k = rw (off, ← e) (repeated k g f) in
    omega (arith, carries_of-append g f (carries_from g k n) (cond (eqb g (suc n)) [] (replicate k (Carry g (suc n)))), all))
    (λ (x : f ≢ suc n). omega (arith, carries_of-append g f (carries_from g k n) (cond (eqb g (suc n)) [] (replicate k (Carry g (suc n)))), from_often k g f n a (omega arith) ne))
    (cases_eq f (suc n))

pub to_often : (k g f n j : ℕ) → 1 ≤ g → g ≤ j → 1 ≤ f → f ≤ n → g ≢ f → k ≤ carries_of g f (carries_to n k j)
unfolding carries_to
to_often k g f n zero a b c d ne = absurd (omega arith)
to_often k g f n (suc j) a b c d ne = ⊎_elim
    (λ (e : g ≡ suc j). let l : k ≤ carries_of g f (carries_from (suc j) k n) = subst (λ h. k ≤ carries_of g f (carries_from h k n)) e (from_often k g f n c d ne) in
    omega (arith, carries_of-append g f (carries_to n k j) (carries_from (suc j) k n), l))
    (λ (x : g ≢ suc j). omega (arith, carries_of-append g f (carries_to n k j) (carries_from (suc j) k n), to_often k g f n j a (omega arith) c d ne))
    (cases_eq g (suc j))

carries_repeated : (k g f : ℕ) → EachOf IsCarry (replicate k (Carry g f))
carries_repeated zero g f = tt
carries_repeated (suc k) g f = (tt, carries_repeated k g f)

from_are : (k g n : ℕ) → EachOf IsCarry (carries_from g k n)
unfolding carries_from
from_are k g zero = tt
from_are k g (suc n) = EachOf-append IsCarry (carries_from g k n) _ (from_are k g n) (cond_both (eqb g (suc n)) [] (replicate k (Carry g (suc n))) (EachOf IsCarry) (λ _. tt) (λ _. carries_repeated k g (suc n)))

pub to_are : (k n j : ℕ) → EachOf IsCarry (carries_to n k j)
unfolding carries_to
to_are k n zero = tt
to_are k n (suc j) = EachOf-append IsCarry (carries_to n k j) _ (to_are k n j) (from_are k (suc j) n)
