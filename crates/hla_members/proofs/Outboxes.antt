-- The messages of an outbox, for each federate
use Rattle.std.proofs.Common.{◌≡◌, ◌≢◌, ◌⊎◌, ℕ, zero, suc, ◌+◌, ◌<◌, ◌≤◌, List, [], ◌∷◌, ◌++◌, length, get_or, cond, eqb, true, false, filter, map, refl, sym, ap, ◌∙◌, arith, length-append, ⊎_elim}
use Rattle.std.proofs.Math.Path.{fun_ext}
use Rattle.std.proofs.lemmas.Bool.{cases_Bool, cases_eq, cases_lt}
use Rattle.std.proofs.lemmas.Bool.Decides.{nat_tests}
use Rattle.std.proofs.lemmas.List.{append-nil, map-append}
use Rattle.std.proofs.lemmas.List.Elements.{filter-append}
use Rattle.hla_base.specs.Limits.{max_joins}
use Rattle.hla_base.specs.Tables.{upd}
use Rattle.hla_base.proofs.Tables.{upd_same, upd_other}
use Rattle.hla_null_message.specs.declared.message.Message.{Message}
use Rattle.hla_members.specs.declared.addressed.Addressed.{Addressed}
use Rattle.hla_execution.specs.MemberValue.{item}
use Rattle.hla_members.specs.Members.{AreQuiet}
use Rattle.hla_members.specs.Outboxes.{messages_for, lists_from, by_peer}

-- ---- the messages for one
abbrev pub one_for : ℕ → Addressed → List Message
one_for h a = cond (eqb a.peer h) (a.message ∷ []) []

pub for_one : (h : ℕ) (a : Addressed) → messages_for h (a ∷ []) ≡ one_for h a
for_one h a = ⊎_elim (λ (y : eqb a.peer h ≡ true). rw y refl) (λ (n : eqb a.peer h ≡ false). rw n refl) (cases_Bool (eqb a.peer h))

pub for-append : (h : ℕ) (all more : List Addressed) → messages_for h (all ++ more) ≡ messages_for h all ++ messages_for h more
for-append h all more =
    ap (map (λ (a : Addressed). a.message)) (filter-append (λ (a : Addressed). eqb a.peer h) all more)
    ∙ map-append (λ (a : Addressed). a.message) (filter (λ (a : Addressed). eqb a.peer h) all) (filter (λ (a : Addressed). eqb a.peer h) more)

pub for_more : (h : ℕ) (all : List Addressed) (a : Addressed) → messages_for h (all ++ a ∷ []) ≡ messages_for h all ++ one_for h a
for_more h all a = for-append h all (a ∷ []) ∙ ap (λ (ms : List Message). messages_for h all ++ ms) (for_one h a)

pub one_is : (h : ℕ) (a : Addressed) → a.peer ≡ h → messages_for h (a ∷ []) ≡ a.message ∷ []
one_is h a e = let y : eqb a.peer h ≡ true = grind (arith, nat_tests) in rw y refl

pub one_not : (h : ℕ) (a : Addressed) → a.peer ≢ h → messages_for h (a ∷ []) ≡ []
one_not h a ne = let n : eqb a.peer h ≡ false = grind (arith, nat_tests) in rw n refl

pub parts_length : (h : ℕ) (a : Addressed) (rest : List Addressed) → length (messages_for h (a ∷ rest)) ≡ length (messages_for h (a ∷ [])) + length (messages_for h rest)
parts_length h a rest = ap (λ (ms : List Message). length ms) (for-append h (a ∷ []) rest) ∙ length-append (messages_for h (a ∷ [])) (messages_for h rest)

-- ---- the lists
get_from : (n peer k : ℕ) (all : List Addressed) → k < n → get_or (lists_from n peer all) k [] ≡ messages_for (peer + k) all
unfolding lists_from
get_from zero peer k all b = absurd (omega (arith, b))
get_from (suc n) peer zero all b = let e : peer + 0 ≡ peer = omega arith in rw e refl
get_from (suc n) peer (suc k) all b =
    let e : peer + 1 + k ≡ peer + suc k = omega arith in
    get_from n (peer + 1) k all (omega (arith, b)) ∙ ap (λ h. messages_for h all) e

get_past : (n peer k : ℕ) (all : List Addressed) → n ≤ k → get_or (lists_from n peer all) k [] ≡ []
unfolding lists_from
get_past zero peer k all b = refl
get_past (suc n) peer zero all b = absurd (omega (arith, b))
get_past (suc n) peer (suc k) all b = get_past n (peer + 1) k all (omega (arith, b))

pub item_within : (all : List Addressed) (h : ℕ) → 0 < h → h ≤ max_joins → item [] (by_peer all) h ≡ messages_for h all
item_within all zero some within = absurd (omega (arith, some))
item_within all (suc k) some within =
    let e : 1 + k ≡ suc k = omega arith in
    get_from max_joins 1 k all (omega (arith, within)) ∙ ap (λ h. messages_for h all) e

item_past : (all : List Addressed) (h : ℕ) → max_joins < h → item [] (by_peer all) h ≡ []
item_past all zero past = absurd (omega (arith, past))
item_past all (suc k) past = get_past max_joins 1 k all (omega (arith, past))

cases_le : (a b : ℕ) → (a ≤ b) ⊎ (b < a)
cases_le a b = grind (arith, cases_lt)

pub by_peer_none : AreQuiet (by_peer [])
by_peer_none zero = refl
by_peer_none (suc k) = ⊎_elim
    (λ (b : suc k ≤ max_joins). item_within [] (suc k) (omega arith) b)
    (λ (n : max_joins < suc k). item_past [] (suc k) n)
    (cases_le (suc k) max_joins)

pub by_peer_more : (all : List Addressed) (a : Addressed) → 0 < a.peer → a.peer ≤ max_joins
    → item [] (by_peer (all ++ a ∷ [])) ≡ upd (item [] (by_peer all)) a.peer (item [] (by_peer all) a.peer ++ a.message ∷ [])
by_peer_more all a some within = fun_ext (λ h. ⊎_elim
    (λ (e : a.peer ≡ h). here h e)
    (λ (ne : a.peer ≢ h). there h ne ∙ sym (upd_other (item [] (by_peer all)) a.peer (item [] (by_peer all) a.peer ++ a.message ∷ []) h ne))
    (cases_eq a.peer h))
  where
    here : (h : ℕ) → a.peer ≡ h → item [] (by_peer (all ++ a ∷ [])) h ≡ upd (item [] (by_peer all)) a.peer (item [] (by_peer all) a.peer ++ a.message ∷ []) h
    here h e =
        let self : eqb a.peer a.peer ≡ true = grind (arith, nat_tests) in
        let one : one_for a.peer a ≡ a.message ∷ [] = rw self refl in
        rw (← e) (item_within (all ++ a ∷ []) a.peer some within
        ∙ for_more a.peer all a
        ∙ ap (λ (ms : List Message). messages_for a.peer all ++ ms) one
        ∙ ap (λ (ms : List Message). ms ++ a.message ∷ []) (sym (item_within all a.peer some within))
        ∙ sym (upd_same (item [] (by_peer all)) a.peer (item [] (by_peer all) a.peer ++ a.message ∷ [])))

    there : (h : ℕ) → a.peer ≢ h → item [] (by_peer (all ++ a ∷ [])) h ≡ item [] (by_peer all) h
    there zero ne = refl
    there (suc k) ne = ⊎_elim
        (λ (b : suc k ≤ max_joins).
        let no : eqb a.peer (suc k) ≡ false = grind (arith, nat_tests) in
        let none : one_for (suc k) a ≡ [] = rw no refl in
        item_within (all ++ a ∷ []) (suc k) (omega arith) b
        ∙ for_more (suc k) all a
        ∙ ap (λ (ms : List Message). messages_for (suc k) all ++ ms) none
        ∙ append-nil (messages_for (suc k) all)
        ∙ sym (item_within all (suc k) (omega arith) b))
        (λ (n : max_joins < suc k). item_past (all ++ a ∷ []) (suc k) n ∙ sym (item_past all (suc k) n))
        (cases_le (suc k) max_joins)
