-- What holds of each element of a list, and the order of serials
use Rattle.std.proofs.Common.{◌≡◌, ℕ, ◌+◌, ◌≤◌, ◌<◌, Bool, true, false, ⊎_elim, arith, List, [], ◌∷◌, ◌++◌, Some, filter}
use Rattle.std.proofs.lemmas.Bool.{cond_both, cases_Bool, cases_lt}
use Rattle.std.proofs.lemmas.Bool.Decides.{nat_tests}
use Rattle.hla_base.specs.declared.content.Event.{Event}
use Rattle.hla_base.specs.Tables.{one_if}
use Rattle.hla_component_rules.specs.Queues.{is_before, insert_event, is_event, find_event, remove_event, occurrences}
use Rattle.hla_components.specs.Invariant.{EachOf, AfterSerial, IsInSerialOrder, HasRisingSerials, AreEarlier}

pub EachOf-append : {X : Type 0} (P : X → Type 0) (xs ys : List X) → EachOf P xs → EachOf P ys → EachOf P (xs ++ ys)
EachOf-append P [] ys a b = b
EachOf-append P (x ∷ xs) ys a b = (a.0, EachOf-append P xs ys a.1 b)

pub EachOf-parts : {X : Type 0} (P : X → Type 0) (xs ys : List X) → EachOf P (xs ++ ys) → EachOf P xs × EachOf P ys
EachOf-parts P [] ys a = (tt, a)
EachOf-parts P (x ∷ xs) ys a = let r = EachOf-parts P xs ys a.1 in ((a.0, r.0), r.1)

pub EachOf-weaker : {X : Type 0} (P Q : X → Type 0) (xs : List X) → ((x : X) → P x → Q x) → EachOf P xs → EachOf Q xs
EachOf-weaker P Q [] h a = tt
EachOf-weaker P Q (x ∷ xs) h a = (h x a.0, EachOf-weaker P Q xs h a.1)

pub EachOf-filter : {X : Type 0} (P : X → Type 0) (p : X → Bool) (xs : List X) → EachOf P xs → EachOf P (filter p xs)
EachOf-filter P p [] a = tt
EachOf-filter P p (x ∷ xs) a = cond_both (p x) (x ∷ filter p xs) (filter p xs) (EachOf P) (λ _. (a.0, EachOf-filter P p xs a.1)) (λ _. EachOf-filter P p xs a.1)

pub EachOf-passed : {X : Type 0} (p : X → Bool) (xs : List X) → EachOf (λ x. p x ≡ true) (filter p xs)
EachOf-passed p [] = tt
EachOf-passed p (x ∷ xs) = cond_both (p x) (x ∷ filter p xs) (filter p xs) (EachOf (λ x. p x ≡ true)) (λ y. (y, EachOf-passed p xs)) (λ _. EachOf-passed p xs)

pub EachOf-remove : (P : Event → Type 0) (g m : ℕ) (xs : List Event) → EachOf P xs → EachOf P (remove_event g m xs)
unfolding remove_event
EachOf-remove P g m [] a = tt
EachOf-remove P g m (x ∷ xs) a = cond_both (is_event g m x) xs (x ∷ remove_event g m xs) (EachOf P) (λ _. a.1) (λ _. (a.0, EachOf-remove P g m xs a.1))

pub EachOf-insert : (P : Event → Type 0) (e : Event) (xs : List Event) → P e → EachOf P xs → EachOf P (insert_event e xs)
unfolding insert_event
EachOf-insert P e [] h a = (h, tt)
EachOf-insert P e (x ∷ xs) h a = cond_both (is_before e x) (e ∷ x ∷ xs) (x ∷ insert_event e xs) (EachOf P) (λ _. (h, a)) (λ _. (a.0, EachOf-insert P e xs h a.1))

pub EachOf-find : (P : Event → Type 0) (g m : ℕ) (e : Event) (xs : List Event) → find_event g m xs ≡ Some e → EachOf P xs → P e
unfolding find_event
EachOf-find P g m e [] f a = absurd (cc)
EachOf-find P g m e (x ∷ xs) f a = ⊎_elim
    (λ (y : is_event g m x ≡ true). let same : x ≡ e = grind arith in rw (← same) a.0)
    (λ (n : is_event g m x ≡ false). EachOf-find P g m e xs (grind arith) a.1)
    (cases_Bool (is_event g m x))

-- ---- the order of serials
-- what has no place from x on has a serial below it
event_key : (g : ℕ) (e : Event) → e.sender ≡ g → is_event g e.serial e ≡ true
event_key g e s = grind (arith, nat_tests)

pub serials_below : (g x : ℕ) (xs : List Event) → ((m : ℕ) → x ≤ m → occurrences g m xs ≡ 0) → EachOf (λ (e : Event). e.sender ≡ g → e.serial < x) xs
unfolding occurrences
serials_below g x [] h = tt
serials_below g x (e ∷ es) h = (
  λ from. ⊎_elim
      (λ (l : e.serial < x). l)
      (λ (l : x ≤ e.serial). let none : one_if (is_event g e.serial e) + occurrences g e.serial es ≡ 0 = h e.serial l in let none2 : 1 + occurrences g e.serial es ≡ 0 = rw (event_key g e from) at none in absurd (omega arith))
      (cases_lt e.serial x),
  serials_below g x es (λ m l. omega (arith, h m l)),
)

pub serials-put : (g : ℕ) (e : Event) (xs : List Event) → EachOf (λ (y : Event). y.sender ≡ g → y.serial < e.serial) xs → IsInSerialOrder g xs → IsInSerialOrder g (xs ++ e ∷ [])
serials-put g e [] low h = ((λ _ _. tt), tt)
serials-put g e (x ∷ xs) low h = ((λ from plain. EachOf-append _ xs (e ∷ []) (h.0 from plain) ((λ _ _. low.0 from), tt)), serials-put g e xs low.1 h.1)

-- the back part goes
pub serials-front : (g : ℕ) (xs ys : List Event) → IsInSerialOrder g (xs ++ ys) → IsInSerialOrder g (xs ++ [])
serials-front g [] ys h = tt
serials-front g (x ∷ xs) ys h = ((λ from plain. EachOf-append _ xs [] (EachOf-parts _ xs ys (h.0 from plain)).0 tt), serials-front g xs ys h.1)

pub serials-back : (g : ℕ) (xs ys : List Event) → IsInSerialOrder g (xs ++ ys) → IsInSerialOrder g ys
serials-back g [] ys h = h
serials-back g (x ∷ xs) ys h = serials-back g xs ys h.1

-- one goes from the middle
pub serials-drop : (g : ℕ) (xs : List Event) (e : Event) (ys : List Event) → IsInSerialOrder g (xs ++ e ∷ ys) → IsInSerialOrder g (xs ++ ys)
serials-drop g [] e ys h = h.1
serials-drop g (x ∷ xs) e ys h = ((λ from plain. let r = EachOf-parts _ xs (e ∷ ys) (h.0 from plain) in EachOf-append _ xs ys r.0 r.1.1), serials-drop g xs e ys h.1)

-- what was sent in time-stamp order comes in between
free_after : (g m : ℕ) (zs : List Event) → EachOf (λ (e : Event). e.ordered ≡ true) zs → AfterSerial g m zs
free_after g m zs o = EachOf-weaker _ _ zs (λ e t _ n. absurd (cc)) o

free_order : (g : ℕ) (zs ys : List Event) → EachOf (λ (e : Event). e.ordered ≡ true) zs → IsInSerialOrder g ys → IsInSerialOrder g (zs ++ ys)
free_order g [] ys o h = h
free_order g (z ∷ zs) ys o h = ((λ _ n. absurd (let t : z.ordered ≡ true = o.0 in cc)), free_order g zs ys o.1 h)

pub serials-between : (g : ℕ) (xs zs ys : List Event) → EachOf (λ (e : Event). e.ordered ≡ true) zs → IsInSerialOrder g (xs ++ ys) → IsInSerialOrder g ((xs ++ zs) ++ ys)
serials-between g [] zs ys o h = free_order g zs ys o h
serials-between g (x ∷ xs) zs ys o h = (
  (λ from plain. let r = EachOf-parts _ xs ys (h.0 from plain) in EachOf-append _ (xs ++ zs) ys (EachOf-append _ xs zs r.0 (free_after g x.serial zs o)) r.1),
  serials-between g xs zs ys o h.1,
)

pub serials-remove : (g h m : ℕ) (xs ys : List Event) → IsInSerialOrder g (xs ++ ys) → IsInSerialOrder g (remove_event h m xs ++ ys)
unfolding remove_event
serials-remove g h m [] ys a = a
serials-remove g h m (x ∷ xs) ys a = cond_both (is_event h m x) xs (x ∷ remove_event h m xs) (λ zs. IsInSerialOrder g (zs ++ ys)) (λ _. a.1)
    (λ _. ((λ from plain. let r = EachOf-parts _ xs ys (a.0 from plain) in EachOf-append _ (remove_event h m xs) ys (EachOf-remove _ h m xs r.0) r.1), serials-remove g h m xs ys a.1))

-- ---- serials rise on a wire
-- one with a greater serial is put at the end
pub rising-put : (g : ℕ) (e : Event) (xs : List Event) → EachOf (λ (y : Event). y.sender ≡ g → y.serial < e.serial) xs → HasRisingSerials g xs → HasRisingSerials g (xs ++ e ∷ [])
rising-put g e [] low h = ((λ _. tt), tt)
rising-put g e (x ∷ xs) low h = ((λ from. EachOf-append _ xs (e ∷ []) (h.0 from) ((λ _. low.0 from), tt)), rising-put g e xs low.1 h.1)

pub earlier-put : (g : ℕ) (e : Event) (others xs : List Event) → EachOf (λ (y : Event). y.sender ≡ g → y.serial < e.serial) xs → AreEarlier g others xs → AreEarlier g (others ++ e ∷ []) xs
earlier-put g e others [] low h = tt
earlier-put g e others (x ∷ xs) low h = ((λ from. EachOf-append _ others (e ∷ []) (h.0 from) ((λ _. low.0 from), tt)), earlier-put g e others xs low.1 h.1)

-- the first goes
pub earlier-rest : (g : ℕ) (e : Event) (others xs : List Event) → AreEarlier g (e ∷ others) xs → AreEarlier g others xs
earlier-rest g e others xs h = EachOf-weaker _ _ xs (λ _ above from. (above from).1) h
