-- Notes with serials that rise: one that comes, one that goes, and the sweeping out of those without a stamp
use Rattle.std.proofs.Common.{◌≡◌, ℕ, zero, suc, ◌+◌, ◌-◌, ◌<◌, ◌≤◌, Bool, true, false, cond, eqb, ltb, get_or, set, filter, List, [], ◌∷◌, ◌++◌, length, drop, Option, Some, None, is_some, is_none, refl, sym, ap, subst, ◌∙◌, arith}
use Rattle.std.proofs.lemmas.Bool.Decides.{nat_tests}
use Rattle.std.specs.Bool.{MatchBool, OnTrue}
use Rattle.std.specs.List.{AllByRecursion, prefix_len, slice_get}
use Rattle.std.specs.Option.{option_or}
use Rattle.hla_order_queues.specs.declared.rising.StampNote.{StampNote}
use Rattle.hla_order_queues.specs.Names.{noted, AreRisingNotes, AreLess, is_note_before, is_first_note, is_first_none, Keeps, TakesNote}
use Rattle.hla_order_queues.proofs.Events.PlaceLemmas.{Falls}

-- ---- tests
other : (a b : ℕ) → a < b → eqb a b ≡ false
other a b h = grind (arith, nat_tests)

turned : (a b : ℕ) → a < b → eqb b a ≡ false
turned a b h = grind (arith, nat_tests)

pub same : (a b : ℕ) → eqb a b ≡ true → a ≡ b
same a b h = grind (arith, nat_tests)

not_less : (a b : ℕ) → ltb a b ≡ false → b ≤ a
not_less a b h = grind (arith, nat_tests)

less_as_tested : (a b : ℕ) → ltb a b ≡ true → a < b
less_as_tested a b h = grind (arith, nat_tests)

greater : (a b : ℕ) → b ≤ a → eqb a b ≡ false → b < a
greater a b h e = grind (arith, nat_tests)

fails : (a b : ℕ) → b ≤ a → ltb a b ≡ false
fails a b h = grind (arith, nat_tests)

itself : (a : ℕ) → eqb a a ≡ true
itself a = grind (arith, nat_tests)

All-implies : {P Q : StampNote → Type 0} → ((q : StampNote) → P q → Q q) → (qs : List StampNote) → AllByRecursion P qs → AllByRecursion Q qs
All-implies {P} {Q} f [] h = tt
All-implies {P} {Q} f (q ∷ qs) h = (f q h.0, All-implies f qs h.1)

-- ---- one comes
exchanged : (b c : Bool) (s : Option ℕ) (t : ℕ) (o : Option ℕ) → (b ≡ true → c ≡ true → ⊥) → cond b (option_or s (cond c (Some t) o)) (cond c (Some t) o) ≡ cond c (Some t) (cond b (option_or s o) o)
exchanged true true s t o apart = absurd (apart refl refl)
exchanged true false s t o apart = refl
exchanged false true s t o apart = refl
exchanged false false s t o apart = refl

pub noted_push : (m s t : ℕ) (qs : List StampNote) → AreLess s qs → noted m (qs ++ (record { serial = s; stamp = Some t }) ∷ []) ≡ cond (eqb s m) (Some t) (noted m qs)
unfolding noted
noted_push m s t [] h = refl
noted_push m s t (q ∷ qs) h =
    ap (λ (o : Option ℕ). cond (eqb q.serial m) (option_or q.stamp o) o) (noted_push m s t qs h.1)
    ∙ exchanged (eqb q.serial m) (eqb s m) q.stamp t (noted m qs) (λ a b. let d = h.0 in let e = same q.serial m a in let f = same s m b in omega arith)

All-push : (P : StampNote → Type 0) (qs : List StampNote) (q : StampNote) → AllByRecursion P qs → P q → AllByRecursion P (qs ++ q ∷ [])
All-push P [] q h p = (p, tt)
All-push P (r ∷ qs) q h p = (h.0, All-push P qs q h.1 p)

pub rising_push : (q : StampNote) (qs : List StampNote) → AreRisingNotes qs → AreLess q.serial qs → AreRisingNotes (qs ++ q ∷ [])
unfolding AreRisingNotes
rising_push q [] h less = (tt, tt)
rising_push q (r ∷ qs) h less = (All-push (λ t. r.serial < t.serial) qs q h.0 less.0, rising_push q qs h.1 less.1)

all_less : (m : ℕ) (qs : List StampNote) (last : StampNote) → AreRisingNotes qs → last ≡ get_or qs (length qs - 1) last → last.serial < m → AreLess m qs
unfolding AreRisingNotes
all_less m [] last h is lt = tt
all_less m (q ∷ []) last h is lt = let e : q.serial ≡ last.serial = ap (λ (r : StampNote). r.serial) (sym is) in (omega arith, tt)
all_less m (q ∷ r ∷ qs) last h is lt =
    let n : length (q ∷ r ∷ qs) - 1 ≡ suc (length (r ∷ qs) - 1) = omega arith in
    let less : AreLess m (r ∷ qs) = all_less m (r ∷ qs) last h.1 (rw n at is) lt in
    let a = h.0.0 in let b = less.0 in (omega arith, less)

-- ---- the place of a serial
pub falls_rising : (m : ℕ) (qs : List StampNote) → AreRisingNotes qs → Falls (is_note_before m) qs
unfolding AreRisingNotes Falls
falls_rising m [] h = tt
falls_rising m (q ∷ qs) h = (λ behind. All-implies (λ r lt. let le = not_less q.serial m behind in fails r.serial m (omega arith)) qs h.0, falls_rising m qs h.1)

pub none_greater : (m n : ℕ) (qs : List StampNote) → m ≤ n → AllByRecursion (λ q. n < q.serial) qs → noted m qs ≡ None
unfolding noted
none_greater m n [] le h = refl
none_greater m n (q ∷ qs) le h = let lt = h.0 in rw (turned m q.serial (omega arith)) (none_greater m n qs le h.1)

-- what a note says of a serial
abbrev pub stamp_in : ℕ → Option StampNote → Option ℕ
stamp_in m None = None
stamp_in m (Some q) = cond (eqb q.serial m) q.stamp None

pub or_none : (o : Option ℕ) → option_or o None ≡ o
or_none None = refl
or_none (Some t) = refl

here_if : (b : Bool) (o p : Option ℕ) → p ≡ None → cond b (option_or o p) p ≡ cond b o None
here_if true o p e = ap (option_or o) e ∙ or_none o
here_if false o p e = e

there_if : (b : Bool) (m : ℕ) (q : StampNote) (qs : List StampNote) → ltb q.serial m ≡ b → AreRisingNotes (q ∷ qs) → noted m qs ≡ stamp_in m (slice_get qs (prefix_len (is_note_before m) qs)) → noted m (q ∷ qs) ≡ stamp_in m (slice_get (q ∷ qs) (cond b (1 + prefix_len (is_note_before m) qs) 0))
unfolding noted AreRisingNotes
there_if true m q qs is h later =
    let n : 1 + prefix_len (is_note_before m) qs ≡ suc (prefix_len (is_note_before m) qs) = omega arith in
    rw (n, other q.serial m (less_as_tested q.serial m is)) later
there_if false m q qs is h later = here_if (eqb q.serial m) q.stamp (noted m qs) (none_greater m q.serial qs (not_less q.serial m is) h.0)

noted_there : (m : ℕ) (qs : List StampNote) → AreRisingNotes qs → noted m qs ≡ stamp_in m (slice_get qs (prefix_len (is_note_before m) qs))
unfolding noted AreRisingNotes
noted_there m [] h = refl
noted_there m (q ∷ qs) h = there_if (ltb q.serial m) m q qs refl h (noted_there m qs h.1)

-- ---- one goes
without_if : (b : Bool) (k : ℕ) (q : StampNote) (qs : List StampNote) → eqb q.serial k ≡ b → AllByRecursion (λ r. q.serial < r.serial) qs → noted k qs ≡ cond b None (cond b (option_or q.stamp (noted k qs)) (noted k qs))
without_if true k q qs is h = let e = same q.serial k is in none_greater k q.serial qs (omega arith) h
without_if false k q qs is h = refl

-- the first note goes
without_first : (q : StampNote) (qs : List StampNote) → AreRisingNotes (q ∷ qs) → TakesNote q.serial (q ∷ qs) qs q.stamp
unfolding noted AreRisingNotes
without_first q qs h = record {
  found = sym (rw (itself q.serial, none_greater q.serial q.serial qs (omega arith) h.0) (or_none q.stamp));
  rest = λ k. without_if (eqb q.serial k) k q qs refl h.0;
  rising = h.1;
}

-- a note is marked
abbrev pub gone : ℕ → StampNote
gone m = record { serial = m; stamp = None }

cleared_if : (b : Bool) (s o : Option ℕ) → (b ≡ true → o ≡ None) → cond b o o ≡ cond b None (cond b (option_or s o) o)
cleared_if true s o none = none refl
cleared_if false s o none = refl

apart_if : (b c : Bool) (s o p : Option ℕ) → (b ≡ true → c ≡ true → ⊥) → p ≡ cond c None o → cond b (option_or s p) p ≡ cond c None (cond b (option_or s o) o)
apart_if true true s o p apart e = absurd (apart refl refl)
apart_if true false s o p apart e = ap (option_or s) e
apart_if false c s o p apart e = e

-- the stamp that was found was in the note
found_here : (b : Bool) (t m : ℕ) (q : StampNote) (qs : List StampNote) → eqb q.serial m ≡ b → m ≤ q.serial → AllByRecursion (λ r. q.serial < r.serial) qs → cond b (option_or q.stamp (noted m qs)) (noted m qs) ≡ Some t → b ≡ true
found_here true t m q qs is le h found = refl
found_here false t m q qs is le h found = let e = none_greater m q.serial qs le h in absurd (cc)

All-set : (P : StampNote → Type 0) (qs : List StampNote) (i : ℕ) (q : StampNote) → AllByRecursion P qs → P q → AllByRecursion P (set qs i q)
All-set P [] i q h p = tt
All-set P (r ∷ qs) zero q h p = (p, h.1)
All-set P (r ∷ qs) (suc i) q h p = (h.0, All-set P qs i q h.1 p)

-- what a list of notes has once the one that was found is marked
marked_here : (t m : ℕ) (q : StampNote) (qs : List StampNote) → m ≤ q.serial → AreRisingNotes (q ∷ qs) → noted m (q ∷ qs) ≡ Some t → (k : ℕ) → noted k (gone m ∷ qs) ≡ cond (eqb m k) None (noted k (q ∷ qs))
unfolding noted AreRisingNotes
marked_here t m q qs le h found k =
    let e : q.serial ≡ m = same q.serial m (found_here (eqb q.serial m) t m q qs refl le h.0 found) in
    let P : ℕ → Type 0 = λ s. cond (eqb m k) (noted k qs) (noted k qs) ≡ cond (eqb m k) None (cond (eqb s k) (option_or q.stamp (noted k qs)) (noted k qs)) in
    subst P (sym e) (cleared_if (eqb m k) q.stamp (noted k qs) (λ is. let f = same m k is in none_greater k q.serial qs (omega arith) h.0))

mark_if : (b : Bool) (t m : ℕ) (q : StampNote) (qs : List StampNote) → ltb q.serial m ≡ b → AreRisingNotes (q ∷ qs) → noted m (q ∷ qs) ≡ Some t
    → (noted m qs ≡ Some t → TakesNote m qs (set qs (prefix_len (is_note_before m) qs) (gone m)) (Some t))
    → TakesNote m (q ∷ qs) (set (q ∷ qs) (cond b (1 + prefix_len (is_note_before m) qs) 0) (gone m)) (Some t)
unfolding noted AreRisingNotes
mark_if true t m q qs is h found later =
    let n : 1 + prefix_len (is_note_before m) qs ≡ suc (prefix_len (is_note_before m) qs) = omega arith in
    let lt : q.serial < m = less_as_tested q.serial m is in
    let not_here = other q.serial m lt in
    let behind : noted m qs ≡ Some t = rw not_here at found in
    let rest = later behind in
    rw n (record {
      found = sym found;
      rest = λ k. apart_if (eqb q.serial k) (eqb m k) q.stamp (noted k qs) (noted k (set qs (prefix_len (is_note_before m) qs) (gone m))) (λ a b. let e = same q.serial k a in let f = same m k b in omega arith) (rest.rest k);
      rising = (All-set (λ r. q.serial < r.serial) qs (prefix_len (is_note_before m) qs) (gone m) h.0 lt, rest.rising);
    })
mark_if false t m q qs is h found later =
    let le = not_less q.serial m is in
    let e : q.serial ≡ m = same q.serial m (found_here (eqb q.serial m) t m q qs refl le h.0 found) in
    let P : ℕ → Type 0 = λ s. AllByRecursion (λ r. s < r.serial) qs in
    record {
      found = sym found;
      rest = marked_here t m q qs le h found;
      rising = (subst P e h.0, h.1);
    }

marked : (t m : ℕ) (qs : List StampNote) → AreRisingNotes qs → noted m qs ≡ Some t → TakesNote m qs (set qs (prefix_len (is_note_before m) qs) (gone m)) (Some t)
unfolding noted AreRisingNotes
marked t m [] h found = absurd (nothing m t found)
  where
    nothing : (m t : ℕ) → noted m [] ≡ Some t → ⊥
    nothing m t e = cc
marked t m (q ∷ qs) h found = mark_if (ltb q.serial m) t m q qs refl h found (λ behind. marked t m qs h.1 behind)

-- ---- the notes without a stamp are swept out
abbrev pub is_there : StampNote → Bool
is_there q = is_some q.stamp

All-filter : (P : StampNote → Type 0) (qs : List StampNote) → AllByRecursion P qs → AllByRecursion P (filter is_there qs)
All-filter P [] h = tt
All-filter P (q ∷ qs) h = kept_if (is_there q) P q (filter is_there qs) h.0 (All-filter P qs h.1)
  where
    kept_if : (b : Bool) (P : StampNote → Type 0) (q : StampNote) (qs : List StampNote) → P q → AllByRecursion P qs → AllByRecursion P (cond b (q ∷ qs) qs)
    kept_if true P q qs p h = (p, h)
    kept_if false P q qs p h = h

swept_if : (o : Option ℕ) (q : StampNote) (qs rest : List StampNote) → q.stamp ≡ o → AreRisingNotes (q ∷ qs) → AllByRecursion (λ r. q.serial < r.serial) rest → Keeps qs rest → Keeps (q ∷ qs) (cond (is_some o) (q ∷ rest) rest)
unfolding noted AreRisingNotes
swept_if (Some t) q qs rest is h after keeps = record {
  same = λ m. ap (λ (o : Option ℕ). cond (eqb q.serial m) (option_or q.stamp o) o) (keeps.same m);
  rising = (after, keeps.rising);
}
swept_if None q qs rest is h after keeps = record {
  same = λ m. keeps.same m ∙ none_if (eqb q.serial m) q.stamp (noted m qs) is;
  rising = keeps.rising;
}
  where
    none_if : (b : Bool) (o p : Option ℕ) → o ≡ None → p ≡ cond b (option_or o p) p
    none_if true o p none = sym (ap (λ (s : Option ℕ). option_or s p) none)
    none_if false o p none = refl

pub swept : (qs : List StampNote) → AreRisingNotes qs → Keeps qs (filter is_there qs)
unfolding AreRisingNotes
swept [] h = record { same = λ m. refl; rising = tt }
swept (q ∷ qs) h = swept_if q.stamp q qs (filter is_there qs) refl h (All-filter (λ r. q.serial < r.serial) qs h.0) (swept qs h.1)

pub first_swept : (qs : List StampNote) → AreRisingNotes qs → is_first_none qs ≡ true → Keeps qs (drop 1 qs)
unfolding AreRisingNotes
first_swept [] h none = absurd (cc)
first_swept (q ∷ qs) h none = first_if q.stamp q qs refl none h
  where
    first_if : (o : Option ℕ) (q : StampNote) (qs : List StampNote) → q.stamp ≡ o → is_none o ≡ true → AreRisingNotes (q ∷ qs) → Keeps (q ∷ qs) qs
    first_if None q qs is none h = swept_if None q qs qs is h h.0 (record { same = λ m. refl; rising = h.1 })
    first_if (Some t) q qs is none h = absurd (cc)

pub keeps_then : (ps qs rs : List StampNote) → Keeps ps qs → Keeps qs rs → Keeps ps rs
keeps_then ps qs rs h g = record { same = λ m. g.same m ∙ h.same m; rising = g.rising }

-- ---- what the functions have at hand
got : (qs : List StampNote) (i : ℕ) (q : StampNote) → i < length qs → q ≡ get_or qs i q → slice_get qs i ≡ Some q
got [] i q lt is = absurd (omega arith)
got (r ∷ qs) zero q lt is = ap Some (sym is)
got (r ∷ qs) (suc i) q lt is = got qs i q (omega arith) is

got_none : (qs : List StampNote) (i : ℕ) → length qs ≤ i → slice_get qs i ≡ None
got_none [] i le = refl
got_none (r ∷ qs) zero le = absurd (omega arith)
got_none (r ∷ qs) (suc i) le = got_none qs i (omega arith)

within : (qs : List StampNote) (i : ℕ) → (slice_get qs i ≡ None → ⊥) → i < length qs
within [] i miss = absurd (miss refl)
within (r ∷ qs) zero miss = omega arith
within (r ∷ qs) (suc i) miss = omega (arith, within qs i miss)

at_place : (m : ℕ) (qs : List StampNote) (i : ℕ) (q : StampNote) → AreRisingNotes qs → i ≡ prefix_len (is_note_before m) qs → i < length qs → q ≡ get_or qs i q → noted m qs ≡ cond (eqb q.serial m) q.stamp None
at_place m qs i q h place lt is = noted_there m qs h ∙ ap (λ n. stamp_in m (slice_get qs n)) (sym place) ∙ ap (stamp_in m) (got qs i q lt is)

unequal : (a b : ℕ) → (a ≡ b → ⊥) → eqb a b ≡ false
unequal a b miss = grind (arith, nat_tests)

pub stamp_found : (m : ℕ) (qs : List StampNote) (i : ℕ) (q : StampNote) → AreRisingNotes qs → i ≡ prefix_len (is_note_before m) qs → i < length qs → q ≡ get_or qs i q → q.serial ≡ m → q.stamp ≡ noted m qs
stamp_found m qs i q h place lt is e =
    let P : ℕ → Type 0 = λ s. eqb s m ≡ true in
    let here : eqb q.serial m ≡ true = subst P (sym e) (itself m) in
    sym (at_place m qs i q h place lt is ∙ ap (λ b. cond b q.stamp None) here)

pub stamp_missed : (m : ℕ) (qs : List StampNote) (i : ℕ) (q : StampNote) → AreRisingNotes qs → i ≡ prefix_len (is_note_before m) qs → i < length qs → q ≡ get_or qs i q → (q.serial ≡ m → ⊥) → None ≡ noted m qs
stamp_missed m qs i q h place lt is miss = sym (at_place m qs i q h place lt is ∙ ap (λ b. cond b q.stamp None) (unequal q.serial m miss))

pub no_stamp : (m : ℕ) (qs : List StampNote) (i : ℕ) → AreRisingNotes qs → i ≡ prefix_len (is_note_before m) qs → length qs ≤ i → None ≡ noted m qs
no_stamp m qs i h place le = sym (noted_there m qs h ∙ ap (λ n. stamp_in m (slice_get qs n)) (sym place) ∙ ap (stamp_in m) (got_none qs i le))

pub place_within : (m : ℕ) (qs : List StampNote) (i : ℕ) (o : Option ℕ) → AreRisingNotes qs → i ≡ prefix_len (is_note_before m) qs → o ≡ noted m qs → is_some o ≡ true → i < length qs
place_within m qs i o h place is some =
    within qs i (λ none. let n : noted m qs ≡ None = noted_there m qs h ∙ ap (λ k. stamp_in m (slice_get qs k)) (sym place) ∙ ap (stamp_in m) none in let e : is_some o ≡ false = ap is_some (is ∙ n) in cc)

pub marked_at : (m : ℕ) (qs : List StampNote) (i : ℕ) (o : Option ℕ) → AreRisingNotes qs → i ≡ prefix_len (is_note_before m) qs → o ≡ noted m qs → is_some o ≡ true → TakesNote m qs (set qs i (gone m)) o
marked_at m qs i None h place is some = absurd (cc)
marked_at m qs i (Some t) h place is some =
    let P : ℕ → Type 0 = λ n. TakesNote m qs (set qs n (gone m)) (Some t) in
    subst P (sym place) (marked t m qs h (sym is))

pub pushed : (ok : Bool) (s t : ℕ) (qs rs : List StampNote) → AreRisingNotes qs → AreLess s qs → rs ≡ cond ok (qs ++ (record { serial = s; stamp = Some t }) ∷ []) qs → AreRisingNotes rs × ((m : ℕ) → ok ≡ true → noted m rs ≡ cond (eqb s m) (Some t) (noted m qs))
pushed true s t qs rs h less is =
    let P : List StampNote → Type 0 = λ zs. AreRisingNotes zs in
    (subst P (sym is) (rising_push (record { serial = s; stamp = Some t }) qs h less), λ m yes. ap (noted m) is ∙ noted_push m s t qs less)
pushed false s t qs rs h less is =
    let P : List StampNote → Type 0 = λ zs. AreRisingNotes zs in
    (subst P (sym is) h, λ m yes. absurd (cc))

pub took_first : (m : ℕ) (qs rs : List StampNote) (q : StampNote) → AreRisingNotes qs → is_first_note m qs ≡ true → q ≡ get_or qs 0 q → rs ≡ drop 1 qs → TakesNote m qs rs q.stamp
took_first m [] rs q h first is rest = absurd (cc)
took_first m (r ∷ qs) rs q h first is rest =
    let s : r.serial ≡ m = same r.serial m first in
    let P : List StampNote → Type 0 = λ zs. TakesNote m (r ∷ qs) zs q.stamp in
    let Q : ℕ → Type 0 = λ n. TakesNote n (r ∷ qs) qs q.stamp in
    let R : StampNote → Type 0 = λ p. TakesNote r.serial (r ∷ qs) qs p.stamp in
    subst P (sym rest) (subst Q s (subst R (sym is) (without_first r qs h)))

pub none_rise : AreRisingNotes []
unfolding AreRisingNotes
none_rise = tt

on_true : (b : Bool) (P : Type 0) → (b ≡ true → P) → OnTrue b P
on_true true P f = f refl
on_true false P f = tt

pub push_says : (b ok : Bool) (s t : ℕ) (qs rs now : List StampNote) → b ≡ ok → qs ≡ now → AreRisingNotes qs → AreLess s now → rs ≡ cond ok (qs ++ (record { serial = s; stamp = Some t }) ∷ []) qs → (m : ℕ) → OnTrue b (noted m rs ≡ cond (eqb s m) (Some t) (noted m now))
push_says b ok s t qs rs now same_ok view h less is m =
    let L : List StampNote → Type 0 = λ zs. AreLess s zs in
    on_true b (noted m rs ≡ cond (eqb s m) (Some t) (noted m now)) (λ yes. (pushed ok s t qs rs h (subst L (sym view) less) is).1 m (sym same_ok ∙ yes) ∙ ap (λ zs. cond (eqb s m) (Some t) (noted m zs)) view)

less_at : (m i : ℕ) (qs : List StampNote) (q : StampNote) → AreLess m qs → i < length qs → q ≡ get_or qs i q → q.serial < m
less_at m i [] q h lt is = absurd (omega arith)
less_at m zero (r ∷ qs) q h lt is = let S : StampNote → Type 0 = λ p. p.serial < m in subst S (sym is) h.0
less_at m (suc i) (r ∷ qs) q h lt is = less_at m i qs q h.1 (omega arith) is

below_if : (b : Bool) (m i : ℕ) (qs now : List StampNote) (last : StampNote) → AreRisingNotes qs → qs ≡ now → i < length qs → i ≡ length qs - 1 → last ≡ get_or qs i last → ltb last.serial m ≡ b → MatchBool b (AreLess m now) (AreLess m now → ⊥)
below_if true m i qs now last h view lt place is less =
    let L : List StampNote → Type 0 = λ zs. AreLess m zs in
    subst L view (all_less m qs last h (is ∙ ap (λ n. get_or qs n last) place) (less_as_tested last.serial m less))
below_if false m i qs now last h view lt place is less =
    λ below.
    let L : List StampNote → Type 0 = λ zs. AreLess m zs in
    let a = not_less last.serial m less in
    let b = less_at m i qs last (subst L (sym view) below) lt is in
    omega arith

pub below_says : (m i : ℕ) (qs now : List StampNote) (last : StampNote) → AreRisingNotes qs → qs ≡ now → i < length qs → i ≡ length qs - 1 → last ≡ get_or qs i last → MatchBool (ltb last.serial m) (AreLess m now) (AreLess m now → ⊥)
below_says m i qs now last h view lt place is = below_if (ltb last.serial m) m i qs now last h view lt place is refl

pub swept_at : (qs rs : List StampNote) → AreRisingNotes qs → rs ≡ filter is_there qs → Keeps qs rs
swept_at qs rs h is = let P : List StampNote → Type 0 = λ zs. Keeps qs zs in subst P (sym is) (swept qs h)

pub first_swept_at : (ps qs rs : List StampNote) → Keeps ps qs → is_first_none qs ≡ true → rs ≡ drop 1 qs → Keeps ps rs
first_swept_at ps qs rs keeps first is =
    let P : List StampNote → Type 0 = λ zs. Keeps ps zs in
    subst P (sym is) (keeps_then ps qs (drop 1 qs) keeps (first_swept qs keeps.rising first))

pub none_less : (m : ℕ) (qs : List StampNote) → AreLess m qs → None ≡ noted m qs
unfolding noted
none_less m [] h = refl
none_less m (q ∷ qs) h = let lt = h.0 in rw (other q.serial m lt) (none_less m qs h.1)
