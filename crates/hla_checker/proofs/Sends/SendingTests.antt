-- What an update is cut into, and with which fault a service that sends is refused
use Rattle.std.proofs.Common.{◌≡◌, ℕ, ◌+◌, List, [], ◌∷◌, ◌++◌, length, filter, cond, eqb, ltb, not, ◌||◌, true, false, Bool, Option, None, Some, refl, sym, ap, ◌∙◌, arith, ⊎_elim, length-append}
use Rattle.std.specs.List.{list_any}
use Rattle.std.proofs.lemmas.Bool.{cases_Bool}
use Rattle.std.proofs.lemmas.Bool.Decides.{nat_tests}
use Rattle.hla_base.specs.declared.content.HandleValuePair.{HandleValuePair}
use Rattle.hla_base.specs.declared.fault.Fault.{Fault}
use Rattle.hla_base.specs.declared.fault.Fault.TheVariants as fault
use Rattle.hla_catalogue.specs.declared.declared.Order.{Order}
use Rattle.hla_catalogue.specs.declared.declared.Order.TheVariants.{Receive, Timestamp}
use Rattle.hla_base.specs.RowRefusals.{first_fault}
use Rattle.hla_machine.specs.Directory.{Directory, Outgoing, put_pair, put_pairs, by_handle, is_of_order, part_sent, values_of_order, update_sent, deletions_sent, objects_of, order_of_attribute}
use Rattle.hla_machine.specs.Machine.{central_seen}
use Rattle.hla_machine.specs.Refusals.{call_tests, is_out_of_serials}
use Rattle.hla_machine.specs.declared.service.Service.TheVariants as service
use Rattle.hla_machine.specs.declared.service.ResignAction.{ResignAction}
use Rattle.hla_machine.specs.declared.service.ResignAction.TheVariants.{DeleteObjects}
use Rattle.hla_accounts.specs.Accounts.{account_at}
use Rattle.hla_verdicts.specs.Kept.{KeptValue, central_of, directory_of}

-- ---- a test of handles holds of some value by handle where it does of some value
module _ (asked : ℕ → Bool) where
  abbrev asks : HandleValuePair → Bool
  asks v = asked v.handle

  or-swap : (a b c : Bool) → a || (b || c) ≡ b || (a || c)
  or-swap true true c = refl
  or-swap true false c = refl
  or-swap false true c = refl
  or-swap false false c = refl

  or-twice : (a c : Bool) → a || c ≡ a || (a || c)
  or-twice true c = refl
  or-twice false c = refl

  or-later : (a b c : Bool) → (a || b) || c ≡ b || (a || c)
  or-later true true c = refl
  or-later true false c = refl
  or-later false true c = refl
  or-later false false c = refl

  any-put : (v : HandleValuePair) (xs : List HandleValuePair) → list_any asks (put_pair v xs) ≡ asked v.handle || list_any asks xs
  any-put v [] = refl
  any-put v (x ∷ xs) = ⊎_elim
      (λ (y : ltb v.handle x.handle ≡ true). rw y refl)
      (λ (n : ltb v.handle x.handle ≡ false). ⊎_elim
      (λ (y : eqb v.handle x.handle ≡ true).
      let e : x.handle ≡ v.handle = grind (arith, nat_tests) in
      rw (n, y) (or-twice (asked v.handle) (list_any asks xs) ∙ ap (λ (k : ℕ). asked v.handle || (asked k || list_any asks xs)) (sym e)))
      (λ (m : eqb v.handle x.handle ≡ false). rw (n, m) (ap (λ (b : Bool). asked x.handle || b) (any-put v xs) ∙ or-swap (asked x.handle) (asked v.handle) (list_any asks xs)))
      (cases_Bool (eqb v.handle x.handle)))
      (cases_Bool (ltb v.handle x.handle))

  any-puts : (vs done : List HandleValuePair) → list_any asks (put_pairs done vs) ≡ list_any asks done || list_any asks vs
  any-puts [] done = or-none (list_any asks done)
    where
      or-none : (b : Bool) → b ≡ b || false
      or-none true = refl
      or-none false = refl
  any-puts (v ∷ vs) done = any-puts vs (put_pair v done) ∙ ap (λ (b : Bool). b || list_any asks vs) (any-put v done) ∙ or-later (asked v.handle) (list_any asks done) (list_any asks vs)

  pub any-by_handle : (values : List HandleValuePair) → list_any asks (by_handle values) ≡ list_any asks values
  any-by_handle values = any-puts values []

-- ---- a part makes a message where it has a value
pub length-part : (order : Order) (object : ℕ) (p : HandleValuePair → Bool) (xs : List HandleValuePair) → length (part_sent order object (filter p xs)) ≡ cond (list_any p xs) 1 0
length-part order object p [] = refl
length-part order object p (x ∷ xs) = ⊎_elim
    (λ (y : p x ≡ true). rw y refl)
    (λ (n : p x ≡ false). rw n (length-part order object p xs))
    (cases_Bool (p x))

pub length-update : (d : Directory) (object : ℕ) (values : List HandleValuePair) → length (update_sent d object values)
    ≡ cond (list_any (λ (v : HandleValuePair). is_of_order Receive (order_of_attribute d object v.handle)) values) 1 0
    + cond (list_any (λ (v : HandleValuePair). is_of_order Timestamp (order_of_attribute d object v.handle)) values) 1 0
length-update d object values =
    let one = part_sent Receive object (values_of_order d object Receive (by_handle values)) in
    let two = part_sent Timestamp object (values_of_order d object Timestamp (by_handle values)) in
    let first : length one ≡ cond (list_any (λ (v : HandleValuePair). is_of_order Receive (order_of_attribute d object v.handle)) values) 1 0
    = length-part Receive object (λ v. is_of_order Receive (order_of_attribute d object v.handle)) (by_handle values)
    ∙ ap (λ (b : Bool). cond b 1 0) (any-by_handle (λ h. is_of_order Receive (order_of_attribute d object h)) values) in
    let second : length two ≡ cond (list_any (λ (v : HandleValuePair). is_of_order Timestamp (order_of_attribute d object v.handle)) values) 1 0
    = length-part Timestamp object (λ v. is_of_order Timestamp (order_of_attribute d object v.handle)) (by_handle values)
    ∙ ap (λ (b : Bool). cond b 1 0) (any-by_handle (λ h. is_of_order Timestamp (order_of_attribute d object h)) values) in
    length-append one two ∙ rw (first, second) refl

-- ---- some part of an update goes in time-stamp order where some attribute does
abbrev pub is_stamped : Outgoing → Bool
is_stamped out = is_of_order Timestamp out.order

any_append : (xs ys : List Outgoing) → list_any is_stamped (xs ++ ys) ≡ list_any is_stamped xs || list_any is_stamped ys
any_append [] ys = refl
any_append (x ∷ xs) ys = rw (any_append xs ys) (or_assoc (is_stamped x) (list_any is_stamped xs) (list_any is_stamped ys))
  where
    or_assoc : (a b c : Bool) → a || (b || c) ≡ (a || b) || c
    or_assoc true b c = refl
    or_assoc false b c = refl

none_received : (object : ℕ) (values : List HandleValuePair) → list_any is_stamped (part_sent Receive object values) ≡ false
none_received object [] = refl
none_received object (v ∷ vs) = refl

any_part : (object : ℕ) (p : HandleValuePair → Bool) (xs : List HandleValuePair) → list_any is_stamped (part_sent Timestamp object (filter p xs)) ≡ list_any p xs
any_part object p [] = refl
any_part object p (x ∷ xs) = ⊎_elim
    (λ (y : p x ≡ true). rw y refl)
    (λ (n : p x ≡ false). rw n (any_part object p xs))
    (cases_Bool (p x))

pub any_stamped : (d : Directory) (object : ℕ) (values : List HandleValuePair) → list_any is_stamped (update_sent d object values)
    ≡ list_any (λ (v : HandleValuePair). is_of_order Timestamp (order_of_attribute d object v.handle)) values
any_stamped d object values =
    let one = values_of_order d object Receive (by_handle values) in
    any_append (part_sent Receive object one) (part_sent Timestamp object (values_of_order d object Timestamp (by_handle values)))
    ∙ ap (λ (b : Bool). b || list_any is_stamped (part_sent Timestamp object (values_of_order d object Timestamp (by_handle values)))) (none_received object one)
    ∙ any_part object (λ v. is_of_order Timestamp (order_of_attribute d object v.handle)) (by_handle values)
    ∙ any-by_handle (λ h. is_of_order Timestamp (order_of_attribute d object h)) values

pub one_stamped : (out : Outgoing) → list_any is_stamped (out ∷ []) ≡ is_stamped out
one_stamped out = or_none (is_stamped out)
  where
    or_none : (b : Bool) → b || false ≡ b
    or_none true = refl
    or_none false = refl

-- ---- the faults of services that send, test by test, where the tests before the last two do not apply
pub sum_is : (a b c d : ℕ) → a ≡ c → b ≡ d → a + b ≡ c + d
sum_is a b c d e g = omega arith

pub interaction_rest : (defined unknown published : Bool) (rest : Option Fault) → defined ≡ true → unknown ≡ false → published ≡ true
    → rest ≡ cond (not defined) (Some fault.InteractionClassNotDefined) (cond unknown (Some fault.InteractionParameterNotDefined) (cond (not published) (Some fault.InteractionClassNotPublished) rest))
interaction_rest defined unknown published rest is_defined is_known is_published = rw (is_defined, is_known, is_published) refl

pub deletion_rest : (known owned : Bool) (rest : Option Fault) → known ≡ true → owned ≡ true
    → rest ≡ cond (not known) (Some fault.ObjectNotKnown) (cond (not owned) (Some fault.DeletePrivilegeNotHeld) rest)
deletion_rest known owned rest is_known is_owned = rw (is_known, is_owned) refl

pub update_rest : (known undefined unowned unpublished b : Bool) (rest : Option Fault) → known ≡ true → undefined ≡ false → unowned ≡ false → unpublished ≡ b
    → cond b (Some fault.AttributeNotPublished) rest
    ≡ cond (not known) (Some fault.ObjectNotKnown) (cond undefined (Some fault.AttributeNotDefined) (cond unowned (Some fault.AttributeNotOwned) (cond unpublished (Some fault.AttributeNotPublished) rest)))
update_rest known undefined unowned unpublished b rest is_known is_defined is_owned is_published = rw (is_known, is_defined, is_owned, is_published) refl

-- ---- a federate that resigns with its objects sends a deletion of each
pub count_deletions : (hs : List ℕ) → length (deletions_sent hs) ≡ length hs
count_deletions [] = refl
count_deletions (h ∷ hs) = rw (count_deletions hs) refl

pub resign_told : (v w : KeptValue) (f : ℕ) (given : ResignAction) (b : Bool) → v ≡ w → given ≡ DeleteObjects → is_out_of_serials (account_at v.accounts f).next_serial (deletions_sent (objects_of (directory_of v) f)) ≡ b
    → cond b (Some fault.LimitReached) None ≡ first_fault (call_tests (central_seen (central_of w)) f (service.Resign given))
resign_told v w f given b same is over =
    ap (λ (x : Bool). cond x (Some fault.LimitReached) None) (sym over)
    ∙ ap (λ (u : KeptValue). first_fault (call_tests (central_seen (central_of u)) f (service.Resign DeleteObjects))) same
    ∙ ap (λ (way : ResignAction). first_fault (call_tests (central_seen (central_of w)) f (service.Resign way))) (sym is)
