-- What is put into an outbox for each receiver is what the service sends to it
use Rattle.std.specs.Prelude.{find}
use Rattle.std.proofs.Common.{◌≡◌, ◌≢◌, ℕ, zero, suc, ◌+◌, ◌<◌, ◌≤◌, List, [], ◌∷◌, ◌++◌, length, get_or, filter, cond, eqb, ltb, not, ◌&&◌, true, false, Bool, Option, None, Some, option_map, refl, sym, ap, ◌∙◌, arith, ⊎_elim, drop}
use Rattle.std.specs.Option.{option_and_then}
use Rattle.std.proofs.Math.Bool.{and-false}
use Rattle.std.proofs.lemmas.Bool.{cases_Bool}
use Rattle.std.proofs.lemmas.Bool.Decides.{nat_tests}
use Rattle.std.proofs.lemmas.List.{append-nil, append_assoc, get_or_past, at_drop_more}
use Rattle.hla_base.specs.declared.content.Content.{Content}
use Rattle.hla_base.specs.declared.content.Content.TheVariants as content
use Rattle.hla_base.specs.declared.content.HandleValuePair.{HandleValuePair}
use Rattle.hla_base.specs.Tables.{when, is_other, upd}
use Rattle.hla_catalogue.specs.CatalogueValue.{CatalogueValue}
use Rattle.hla_catalogue.specs.Lookup.{has_parameter}
use Rattle.hla_declaration.specs.declared.receiver.Receiver.{Receiver}
use Rattle.hla_null_message.specs.declared.message.Message.{Message}
use Rattle.hla_machine.specs.Directory.{Directory, Body, ADeletion, reflection_of, subscribed_values}
use Rattle.hla_federation.specs.declared.heading.Heading.{Heading}
use Rattle.hla_federation.specs.FederationValue.{FederationValue}
use Rattle.hla_execution.specs.MemberValue.{item, MemberValue, no_member, members_of}
use Rattle.hla_members.specs.Members.{is_number}
use Rattle.hla_federation.specs.Steps.Sending.{HasAdded, said_messages, message_to, messages_among, null_to}
use Rattle.hla_federation.specs.Steps.State.{state_of}
use Rattle.hla_base.proofs.Tables.{upd_same, upd_other}

-- ---- Messages that are made for receivers, one by one
-- what is put for one of them comes before the rest
pub put_first : {X : Type 0} (o : ℕ → List X) (p : ℕ) (ms rest : List X) (h : ℕ) → upd o p (o p ++ ms) h ++ rest ≡ o h ++ (cond (eqb p h) ms [] ++ rest)
unfolding upd
put_first o p ms rest h = ⊎_elim
    (λ (y : eqb p h ≡ true). let e : p ≡ h = grind (arith, nat_tests) in rw (y, e) (append_assoc (o h) ms rest))
    (λ (n : eqb p h ≡ false). rw n refl)
    (cases_Bool (eqb p h))

pub put_more : (o new : ℕ → List Message) (rs : List Receiver) (i : ℕ) (d : Receiver) (made : Receiver → List Message) (ms : List Message) → i < length rs
    → new ≡ upd o (get_or rs i d).federate (o (get_or rs i d).federate ++ ms) → ms ≡ made (get_or rs i d) → (h : ℕ)
    → new h ++ messages_among made (drop (i + 1) rs) h ≡ o h ++ messages_among made (drop i rs) h
put_more o new rs i d made ms below is same h =
    ap (λ (t : ℕ → List Message). t h ++ messages_among made (drop (i + 1) rs) h) is
    ∙ put_first o (get_or rs i d).federate ms (messages_among made (drop (i + 1) rs) h) h
    ∙ ap (λ (m : List Message). o h ++ (cond (eqb (get_or rs i d).federate h) m [] ++ messages_among made (drop (i + 1) rs) h)) same
    ∙ sym (at_drop_more (λ xs. o h ++ messages_among made xs h) rs i d below)

cond-same : {X : Type 0} (b : Bool) (x : X) → cond b x x ≡ x
cond-same true x = refl
cond-same false x = refl

-- ---- who is joined has a number, and who is not is served nothing
pub joined_number : (ms : List MemberValue) (h : ℕ) → (item no_member ms h).joined ≡ true → is_number (length ms + 1) h ≡ true
joined_number ms zero y = absurd (cc)
joined_number ms (suc k) y = ⊎_elim
    (λ (b : ltb k (length ms) ≡ true). grind (arith, nat_tests))
    (λ (n : ltb k (length ms) ≡ false). let past : length ms ≤ k = grind (arith, nat_tests) in let none = rw (get_or_past ms k no_member past) at y in absurd (cc))
    (cases_Bool (ltb k (length ms)))

pub joined_within : (ms : List MemberValue) (h : ℕ) → (item no_member ms h).joined ≡ true → h < length ms + 1
joined_within ms h y = let number = joined_number ms h y in grind (arith, nat_tests)

pub find_none : (p : ℕ → Bool) (xs : List ℕ) → ((x : ℕ) → p x ≡ false) → find p xs ≡ None
find_none p [] none = refl
find_none p (x ∷ xs) none = rw (none x) (find_none p xs none)

-- ---- one more message in an outbox
pub added_more : (added : ℕ → List Message) (initial old new : List (List Message)) (to : ℕ) (x : Message) → HasAdded added initial old
    → item [] new ≡ upd (item [] old) to (item [] old to ++ x ∷ []) → HasAdded (λ h. added h ++ cond (eqb to h) (x ∷ []) []) initial new
added_more added initial old new to x before put h =
    ap (λ (t : ℕ → List Message). t h) put
    ∙ ⊎_elim
    (λ (y : eqb to h ≡ true).
    let e : to ≡ h = grind (arith, nat_tests) in
    let here : eqb h h ≡ true = grind (arith, nat_tests) in
    rw (e, here, upd_same (item [] old) h (item [] old h ++ x ∷ []), before h) (append_assoc (item [] initial h) (added h) (x ∷ [])))
    (λ (n : eqb to h ≡ false).
    let ne : to ≢ h = grind (arith, nat_tests) in
    rw (n, upd_other (item [] old) to (item [] old to ++ x ∷ []) h ne, append-nil (added h)) (before h))
    (cases_Bool (eqb to h))

-- ---- interactions and updates
abbrev pub interaction_at : CatalogueValue → List HandleValuePair → ℕ → ℕ → Option Content
interaction_at c values h k = Some (content.Interaction k (filter (λ (v : HandleValuePair). has_parameter c k v.handle) values))

abbrev pub reflection_at : Directory → ℕ → List HandleValuePair → ℕ → ℕ → Option Content
reflection_at d object values h k = reflection_of object (subscribed_values d h k values)

pub map_then : {X Y : Type 0} (f : X → Y) (o : Option X) → option_and_then (λ x. Some (f x)) o ≡ option_map f o
map_then f None = refl
map_then f (Some x) = refl

-- a reflection says something where there are values
pub reflection_some : (object : ℕ) (values : List HandleValuePair) → length values ≢ 0 → reflection_of object values ≡ Some (content.Reflection object values)
reflection_some object [] some = absurd (some refl)
reflection_some object (v ∷ vs) some = refl

pub reflection_none : (object : ℕ) (values : List HandleValuePair) → length values ≡ 0 → reflection_of object values ≡ None
reflection_none object [] none = refl
reflection_none object (v ∷ vs) none = absurd (omega arith)

-- ---- removals, federate by federate
module _ (added : ℕ → List Message) (peer : ℕ) (h : ℕ) where
  -- what was added for those below a number, and for it
  pub added_at : cond (ltb h peer) (added h) [] ++ cond (eqb peer h) (added peer) [] ≡ cond (ltb h (peer + 1)) (added h) []
  added_at = ⊎_elim
      (λ (y : eqb peer h ≡ true).
      let e : peer ≡ h = grind (arith, nat_tests) in
      let here : eqb h h ≡ true = grind (arith, nat_tests) in
      let before : ltb h h ≡ false = grind (arith, nat_tests) in
      let now : ltb h (h + 1) ≡ true = grind (arith, nat_tests) in
      rw (e, here, before, now) refl)
      (λ (n : eqb peer h ≡ false).
      let same : ltb h (peer + 1) ≡ ltb h peer = grind (arith, nat_tests) in
      rw (n, same) (append-nil (cond (ltb h peer) (added h) [])))
      (cases_Bool (eqb peer h))

  pub added_none : added peer ≡ [] → cond (ltb h peer) (added h) [] ≡ cond (ltb h (peer + 1)) (added h) []
  added_none none =
      sym (append-nil (cond (ltb h peer) (added h) []))
      ∙ ap (λ (ms : List Message). cond (ltb h peer) (added h) [] ++ ms) (sym (cond-same (eqb peer h) []) ∙ ap (λ (ms : List Message). cond (eqb peer h) ms []) (sym none))
      ∙ added_at

removal_at : (head : Heading) (object : ℕ) (o known : Bool) → cond o (said_messages head (when known (Some (content.Removal object)))) [] ≡ cond (o && known) (said_messages head (Some (content.Removal object))) []
removal_at head object true true = refl
removal_at head object true false = refl
removal_at head object false known = refl

-- to whom a removal goes
pub removal_to : (v : FederationValue) (head : Heading) (object h : ℕ) → message_to (state_of v).directory head (ADeletion object) h
    ≡ cond (is_other (state_of v).directory.joined head.sender h && (state_of v).directory.known object h) (said_messages head (Some (content.Removal object))) []
removal_to v head object h = removal_at head object (is_other (state_of v).directory.joined head.sender h) ((state_of v).directory.known object h)

-- what is said to those below a number, from nobody to all
module _ (v : FederationValue) (head : Heading) (body : Body) where
  pub said_first : (h : ℕ) → cond (ltb h 1) (message_to (state_of v).directory head body h) [] ≡ []
  said_first zero = let nobody : is_other (state_of v).directory.joined head.sender 0 ≡ false = and-false (not (eqb head.sender 0)) in rw nobody (cond-same (ltb 0 1) [])
  said_first (suc k) = let past : ltb (suc k) 1 ≡ false = grind (arith, nat_tests) in rw past refl

  pub said_last : (end h : ℕ) → length v.members + 1 ≤ end
      → cond (ltb h end) (message_to (state_of v).directory head body h) [] ≡ message_to (state_of v).directory head body h
  said_last end h all = ⊎_elim
      (λ (y : (members_of v.members).joined h ≡ true). let b = joined_within v.members h y in let below : h < end = omega (arith, b, all) in let now : ltb h end ≡ true = grind (arith, nat_tests) in rw now refl)
      (λ (n : (members_of v.members).joined h ≡ false). rw (n, and-false (not (eqb head.sender h))) (cond-same (ltb h end) []))
      (cases_Bool ((members_of v.members).joined h))

-- ---- null messages, federate by federate
module _ (v : FederationValue) (sender epoch bound : ℕ) where
  pub null_first : (h : ℕ) → cond (ltb h 1) (null_to (state_of v).directory sender epoch bound h) [] ≡ []
  null_first zero = let nobody : is_other (state_of v).directory.joined sender 0 ≡ false = and-false (not (eqb sender 0)) in rw nobody (cond-same (ltb 0 1) [])
  null_first (suc k) = let past : ltb (suc k) 1 ≡ false = grind (arith, nat_tests) in rw past refl

  pub null_last : (end h : ℕ) → length v.members + 1 ≤ end → cond (ltb h end) (null_to (state_of v).directory sender epoch bound h) [] ≡ null_to (state_of v).directory sender epoch bound h
  null_last end h all = ⊎_elim
      (λ (y : (members_of v.members).joined h ≡ true). let b = joined_within v.members h y in let below : h < end = omega (arith, b, all) in let now : ltb h end ≡ true = grind (arith, nat_tests) in rw now refl)
      (λ (n : (members_of v.members).joined h ≡ false). rw (n, and-false (not (eqb sender h))) (cond-same (ltb h end) []))
      (cases_Bool ((members_of v.members).joined h))
