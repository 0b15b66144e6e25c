-- Notes of which some are of events that were passed: they say nothing of these
use Rattle.std.proofs.Common.{◌≡◌, ℕ, ◌<◌, ◌≤◌, Bool, true, false, cond, not, eqb, ltb, leb, ◌&&◌, ◌||◌, filter, List, [], ◌∷◌, ◌++◌, length, get_or, drop, Option, Some, None, is_some, is_none, refl, sym, ap, subst, ◌∙◌, arith}
use Rattle.std.proofs.lemmas.Bool.Decides.{nat_tests}
use Rattle.std.specs.List.{AllByRecursion}
use Rattle.std.specs.Option.{option_or}
use Rattle.hla_order_queues.specs.declared.rising.Passed.{Passed}
use Rattle.hla_order_queues.specs.declared.rising.StampNote.{StampNote}
use Rattle.hla_order_queues.specs.Names.{noted, is_passed, passed_to, unpassed, note_unpassed, without_passed, AreRisingNotes, AreLess, IsLeastNoted, Keeps, TakesNote, is_first_none}
use Rattle.hla_order_queues.proofs.ByName.RisingLemmas.{same, none_greater, noted_push, or_none, is_there, swept_at, first_swept_at}

-- ---- the serials are the same
pub less_unpassed : (o : Option Passed) (m : ℕ) (qs : List StampNote) → AreLess m qs → AreLess m (without_passed o qs)
unfolding without_passed
less_unpassed o m [] h = tt
less_unpassed o m (q ∷ qs) h = (h.0, less_unpassed o m qs h.1)

behind_unpassed : (n : ℕ) (o : Option Passed) (qs : List StampNote) → AllByRecursion (λ r. n < r.serial) qs → AllByRecursion (λ r. n < r.serial) (without_passed o qs)
unfolding without_passed
behind_unpassed n o [] h = tt
behind_unpassed n o (q ∷ qs) h = (h.0, behind_unpassed n o qs h.1)

pub rising_unpassed : (o : Option Passed) (qs : List StampNote) → AreRisingNotes qs → AreRisingNotes (without_passed o qs)
unfolding without_passed AreRisingNotes
rising_unpassed o [] h = tt
rising_unpassed o (q ∷ qs) h = (behind_unpassed q.serial o qs h.0, rising_unpassed o qs h.1)

behind_all : (n : ℕ) (o : Option Passed) (qs : List StampNote) → AllByRecursion (λ r. n < r.serial) (without_passed o qs) → AllByRecursion (λ r. n < r.serial) qs
unfolding without_passed
behind_all n o [] h = tt
behind_all n o (q ∷ qs) h = (h.0, behind_all n o qs h.1)

pub rising_all : (o : Option Passed) (qs : List StampNote) → AreRisingNotes (without_passed o qs) → AreRisingNotes qs
unfolding without_passed AreRisingNotes
rising_all o [] h = tt
rising_all o (q ∷ qs) h = (behind_all q.serial o qs h.0, rising_all o qs h.1)

-- ---- parts
append_unpassed : (o : Option Passed) (qs : List StampNote) (q : StampNote) → without_passed o (qs ++ q ∷ []) ≡ without_passed o qs ++ note_unpassed o q ∷ []
unfolding without_passed
append_unpassed o [] q = refl
append_unpassed o (r ∷ qs) q = ap (λ rs. note_unpassed o r ∷ rs) (append_unpassed o qs q)

abbrev pub is_kept : Option Passed → StampNote → Bool
is_kept o q = is_some (unpassed o q.serial q.stamp)

filter_if : (b : Bool) (o : Option Passed) (q : StampNote) (qs rs : List StampNote) → without_passed o qs ≡ rs → without_passed o (cond b (q ∷ qs) qs) ≡ cond b (note_unpassed o q ∷ rs) rs
unfolding without_passed
filter_if true o q qs rs e = ap (λ zs. note_unpassed o q ∷ zs) e
filter_if false o q qs rs e = e

filter_unpassed : (o : Option Passed) (qs : List StampNote) → without_passed o (filter (is_kept o) qs) ≡ filter is_there (without_passed o qs)
unfolding without_passed
filter_unpassed o [] = refl
filter_unpassed o (q ∷ qs) = filter_if (is_kept o q) o q (filter (is_kept o) qs) (filter is_there (without_passed o qs)) (filter_unpassed o qs)

drop_unpassed : (o : Option Passed) (qs : List StampNote) → without_passed o (drop 1 qs) ≡ drop 1 (without_passed o qs)
unfolding without_passed
drop_unpassed o [] = refl
drop_unpassed o (q ∷ qs) = refl

-- ---- what is noted
at_serial : (b : Bool) (o : Option Passed) (k m : ℕ) (s r : Option ℕ) → (b ≡ true → k ≡ m) → (b ≡ true → r ≡ None) → cond b (option_or (unpassed o k s) (unpassed o m r)) (unpassed o m r) ≡ unpassed o m (cond b (option_or s r) r)
at_serial true o k m s r here none =
    ap (λ (p : Option ℕ). option_or (unpassed o k s) (unpassed o m p)) (none refl)
    ∙ or_none (unpassed o k s)
    ∙ ap (λ (n : ℕ). unpassed o n s) (here refl)
    ∙ ap (unpassed o m) (sym (or_none s))
    ∙ ap (λ (p : Option ℕ). unpassed o m (option_or s p)) (sym (none refl))
at_serial false o k m s r here none = refl

pub noted_unpassed : (o : Option Passed) (m : ℕ) (qs : List StampNote) → AreRisingNotes qs → noted m (without_passed o qs) ≡ unpassed o m (noted m qs)
unfolding noted AreRisingNotes without_passed
noted_unpassed o m [] h = refl
noted_unpassed o m (q ∷ qs) h =
    ap (λ (r : Option ℕ). cond (eqb q.serial m) (option_or (unpassed o q.serial q.stamp) r) r) (noted_unpassed o m qs h.1)
    ∙ at_serial (eqb q.serial m) o q.serial m q.stamp (noted m qs) (λ is. same q.serial m is) (λ is. let e = same q.serial m is in none_greater m q.serial qs (omega arith) h.0)

pub found_unpassed : (o : Option Passed) (m : ℕ) (qs now : List StampNote) (s t : Option ℕ) → AreRisingNotes qs → without_passed o qs ≡ now → s ≡ noted m qs → t ≡ unpassed o m s → t ≡ noted m now
found_unpassed o m qs now s t h view is told = told ∙ ap (unpassed o m) is ∙ sym (noted_unpassed o m qs h) ∙ ap (noted m) view

-- ---- one comes
last_unpassed : (o : Option Passed) (m t : ℕ) → is_passed o m t ≡ false → note_unpassed o (record { serial = m; stamp = Some t }) ≡ record { serial = m; stamp = Some t }
last_unpassed o m t is = let N : Bool → StampNote = λ b. record { serial = m; stamp = cond b None (Some t) } in ap N is

pub pushed_unpassed : (o : Option Passed) (m t : ℕ) (qs rs now : List StampNote) → without_passed o qs ≡ now → AreLess m qs → is_passed o m t ≡ false → rs ≡ qs ++ (record { serial = m; stamp = Some t }) ∷ [] → (k : ℕ) → noted k (without_passed o rs) ≡ cond (eqb m k) (Some t) (noted k now)
pushed_unpassed o m t qs rs now view less is added k =
    let q : StampNote = record { serial = m; stamp = Some t } in
    ap (λ zs. noted k (without_passed o zs)) added
    ∙ ap (noted k) (append_unpassed o qs q ∙ ap (λ (r : StampNote). without_passed o qs ++ r ∷ []) (last_unpassed o m t is))
    ∙ noted_push k m t (without_passed o qs) (less_unpassed o m qs less)
    ∙ ap (λ zs. cond (eqb m k) (Some t) (noted k zs)) view

-- ---- one goes
none_if : (b : Bool) (o : Option Passed) (m : ℕ) (r : Option ℕ) → unpassed o m (cond b None r) ≡ cond b None (unpassed o m r)
none_if true o m r = refl
none_if false o m r = refl

pub taken_unpassed : (o : Option Passed) (m : ℕ) (qs rs : List StampNote) (s : Option ℕ) → AreRisingNotes qs → TakesNote m qs rs s → (k : ℕ) → noted k (without_passed o rs) ≡ cond (eqb m k) None (noted k (without_passed o qs))
taken_unpassed o m qs rs s h takes k =
    noted_unpassed o k rs takes.rising
    ∙ ap (unpassed o k) (takes.rest k)
    ∙ none_if (eqb m k) o k (noted k qs)
    ∙ ap (cond (eqb m k) None) (sym (noted_unpassed o k qs h))

-- ---- one is passed
still_if : (b : Bool) (p : Passed) (m t k s : ℕ) → is_passed (Some p) k s ≡ b → is_passed (Some p) m t ≡ true → is_passed (cond b (Some p) (Some (record { stamp = s; serial = k }))) m t ≡ true
still_if true p m t k s is h = h
still_if false p m t k s is h = grind (arith, nat_tests)

still_passed : (o : Option Passed) (m t k s : ℕ) → is_passed o m t ≡ true → is_passed (passed_to o k s) m t ≡ true
still_passed None m t k s h = absurd (cc)
still_passed (Some p) m t k s h = still_if (is_passed (Some p) k s) p m t k s refl h

itself : (m t : ℕ) → ltb t t || (eqb t t && leb m m) ≡ true
itself m t = grind (arith, nat_tests)

here_if : (b : Bool) (o : Option Passed) (m t : ℕ) → b ≡ false → is_passed (cond b o (Some (record { stamp = t; serial = m }))) m t ≡ true
here_if true o m t is = absurd (cc)
here_if false o m t is = itself m t

apart_if : (b : Bool) (o : Option Passed) (m t k s : ℕ) → is_passed o m t ≡ false → (ltb t s || (eqb t s && ltb m k)) ≡ false → eqb k m ≡ false → is_passed (cond b o (Some (record { stamp = s; serial = k }))) m t ≡ false
apart_if true o m t k s is least other = is
apart_if false o m t k s is least other = grind (arith, nat_tests)

both_none : (b : Bool) (n : Option ℕ) → n ≡ None → None ≡ cond b None n
both_none true n e = refl
both_none false n e = sym e

hidden : (c : Bool) (t : ℕ) → c ≡ true → cond c None (Some t) ≡ None
hidden true t h = refl
hidden false t h = absurd (cc)

shown : (c : Bool) (t : ℕ) → c ≡ false → cond c None (Some t) ≡ Some t
shown true t h = absurd (cc)
shown false t h = refl

alive_if : (b : Bool) (o : Option Passed) (m t k s : ℕ) → eqb k m ≡ b → is_passed o m t ≡ false → (ltb t s || (eqb t s && ltb m k)) ≡ false → (b ≡ true → t ≡ s) → cond (is_passed (passed_to o k s) m t) None (Some t) ≡ cond b None (Some t)
alive_if true o m t k s here is least only =
    let e : k ≡ m = same k m here in
    let f : t ≡ s = only refl in
    let P : ℕ → ℕ → Type 0 = λ j u. is_passed (passed_to o j u) m t ≡ true in
    let now : is_passed (passed_to o m t) m t ≡ true = here_if (is_passed o m t) o m t is in
    let moved : P m s = subst (λ (u : ℕ). P m u) f now in
    hidden (is_passed (passed_to o k s) m t) t (subst (λ (j : ℕ). P j s) (sym e) moved)
alive_if false o m t k s here is least only = shown (is_passed (passed_to o k s) m t) t (apart_if (is_passed o k s) o m t k s is least here)

passing_if : (c : Bool) (o : Option Passed) (m t k s : ℕ) → is_passed o m t ≡ c → (c ≡ false → (ltb t s || (eqb t s && ltb m k)) ≡ false) → (c ≡ false → eqb k m ≡ true → t ≡ s) → unpassed (passed_to o k s) m (Some t) ≡ cond (eqb k m) None (unpassed o m (Some t))
passing_if true o m t k s is least only =
    hidden (is_passed (passed_to o k s) m t) t (still_passed o m t k s is)
    ∙ both_none (eqb k m) None refl
    ∙ ap (cond (eqb k m) None) (sym (hidden (is_passed o m t) t is))
passing_if false o m t k s is least only =
    alive_if (eqb k m) o m t k s refl is (least refl) (only refl)
    ∙ ap (cond (eqb k m) None) (sym (shown (is_passed o m t) t is))

passing : (o : Option Passed) (m k s : ℕ) (r : Option ℕ) → ((t : ℕ) → unpassed o m r ≡ Some t → (ltb t s || (eqb t s && ltb m k)) ≡ false) → (eqb k m ≡ true → (t : ℕ) → unpassed o m r ≡ Some t → t ≡ s) → unpassed (passed_to o k s) m r ≡ cond (eqb k m) None (unpassed o m r)
passing o m k s None least only = both_none (eqb k m) None refl
passing o m k s (Some t) least only =
    passing_if (is_passed o m t) o m t k s refl (λ is. least t (shown (is_passed o m t) t is)) (λ is here. only here t (shown (is_passed o m t) t is))

pub passed_by : (o : Option Passed) (k s : ℕ) (qs : List StampNote) → AreRisingNotes qs → IsLeastNoted k s (without_passed o qs) → (m : ℕ) → noted m (without_passed (passed_to o k s) qs) ≡ cond (eqb k m) None (noted m (without_passed o qs))
passed_by o k s qs h first m =
    noted_unpassed (passed_to o k s) m qs h
    ∙ passing o m k s (noted m qs)
    (λ t is. first.least m t (noted_unpassed o m qs h ∙ is))
    (λ here t is. first.only t (ap (λ (n : ℕ). noted n (without_passed o qs)) (same k m here) ∙ noted_unpassed o m qs h ∙ is))
    ∙ ap (cond (eqb k m) None) (sym (noted_unpassed o m qs h))

-- ---- the notes of events that are gone are swept out
pub swept_unpassed : (o : Option Passed) (qs rs : List StampNote) → AreRisingNotes (without_passed o qs) → rs ≡ filter (is_kept o) qs → Keeps (without_passed o qs) (without_passed o rs)
swept_unpassed o qs rs h is = swept_at (without_passed o qs) (without_passed o rs) h (ap (without_passed o) is ∙ filter_unpassed o qs)

pub first_swept_unpassed : (o : Option Passed) (ps qs rs : List StampNote) → Keeps ps (without_passed o qs) → is_first_none (without_passed o qs) ≡ true → rs ≡ drop 1 qs → Keeps ps (without_passed o rs)
first_swept_unpassed o ps qs rs keeps first is = first_swept_at ps (without_passed o qs) (without_passed o rs) keeps first (ap (without_passed o) is ∙ drop_unpassed o qs)

-- ---- the first note, and none
pub none_unpassed : (o : Option Passed) (qs : List StampNote) → qs ≡ [] → without_passed o qs ≡ []
unfolding without_passed
none_unpassed o qs e = ap (without_passed o) e

none_by_some : (b : Bool) (p : Option ℕ) → is_some p ≡ not b → b ≡ is_none p
none_by_some true None e = refl
none_by_some false None e = absurd (cc)
none_by_some true (Some t) e = absurd (cc)
none_by_some false (Some t) e = refl

pub first_none : (o : Option Passed) (qs : List StampNote) (q : StampNote) (p : Option ℕ) (b : Bool) → 0 < length qs → q ≡ get_or qs 0 q → p ≡ unpassed o q.serial q.stamp → is_some p ≡ not b → b ≡ is_first_none (without_passed o qs)
unfolding without_passed
first_none o [] q p b some is told none = absurd (omega arith)
first_none o (r ∷ qs) q p b some is told none = none_by_some b p none ∙ ap is_none told ∙ ap (λ (s : StampNote). is_none (unpassed o s.serial s.stamp)) is

pub no_first : (o : Option Passed) (qs : List StampNote) → length qs ≤ 0 → false ≡ is_first_none (without_passed o qs)
unfolding without_passed
no_first o [] none = refl
no_first o (q ∷ qs) none = absurd (omega arith)

pub some_first : (o : Option Passed) (qs rs : List StampNote) → is_first_none (without_passed o qs) ≡ true → rs ≡ drop 1 qs → length rs < length qs
unfolding without_passed
some_first o [] rs first rest = absurd (cc)
some_first o (q ∷ qs) rs first rest = omega (arith, ap length rest)

pub swept_first : (o : Option Passed) (qs : List StampNote) → AreRisingNotes qs → Keeps (without_passed o qs) (without_passed o qs)
swept_first o qs h = record { same = λ m. refl; rising = rising_unpassed o qs h }
