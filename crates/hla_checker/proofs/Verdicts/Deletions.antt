-- What tests of a deletion and of a resignation tell
use Rattle.std.proofs.Common.{◌≡◌, ℕ, zero, suc, ◌+◌, ◌<◌, ◌≤◌, List, [], ◌∷◌, ◌++◌, length, take, get_or, ltb, ◌&&◌, arith, Bool, true, false, Option, None, refl, sym, ◌∙◌, ap, ⊎_elim}
use Rattle.std.proofs.lemmas.Bool.{cases_lt}
use Rattle.std.proofs.lemmas.Bool.Decides.{nat_tests}
use Rattle.std.proofs.lemmas.List.{take_more, length-take-le}
use mathlib.Core.Bool.{false≢true}
use Rattle.hla_base.specs.Limits.{max_serial}
use Rattle.hla_base.specs.RowRefusals.{first_fault}
use Rattle.hla_catalogue.specs.declared.declared.Order.{Order}
use Rattle.hla_catalogue.specs.declared.declared.Order.TheVariants.{Receive}
use Rattle.hla_declaration.specs.Lists.{DeclarationLists}
use Rattle.hla_declaration.specs.Declarations.{DeclarationsValue, declarations_of}
use Rattle.hla_machine.specs.Registered.{Registered, RegistryValue, registry_of, unregistered_object}
use Rattle.hla_object_registry.specs.Queries.{without_owned}
use Rattle.hla_object_registry.proofs.Items.{item-none}
use Rattle.hla_machine.specs.declared.service.Service.TheVariants as service
use Rattle.hla_machine.specs.declared.service.ResignAction.{ResignAction}
use Rattle.hla_machine.specs.declared.service.ResignAction.TheVariants.{ReleaseAttributes, DeleteObjects, DeleteObjectsAndReleaseAttributes, NoAction}
use Rattle.hla_machine.specs.declared.step.Answer.{Answer}
use Rattle.hla_machine.specs.declared.step.Answer.TheVariants as answer
use Rattle.hla_machine.specs.declared.step.Choice.{Choice}
use Rattle.hla_synchronization.specs.declared.open_points.OpenPoint.{OpenPoint}
use Rattle.hla_synchronization.specs.OpenPoints.{points_of}
use Rattle.hla_machine.specs.Directory.{Directory, Outgoing, ADeletion, deletion_sent, deletions_sent, objects_of, with_points, without_member}
use Rattle.hla_machine.specs.Central.{Central}
use Rattle.hla_machine.specs.Refusals.{Seen, call_tests, is_known}
use Rattle.hla_machine.specs.Sends.{after_message, after_messages}
use Rattle.hla_machine.specs.Machine.{MayAnswer, after_leaving, after_resign, central_seen, with_points_closed}
use Rattle.hla_machine.proofs.Basics.Tests.{all_clear, not-is-false}
use Rattle.hla_accounts.specs.declared.account.Account.{Account}
use Rattle.hla_accounts.specs.Notices.{without_federate}
use Rattle.hla_accounts.specs.Accounts.{central_with}
use Rattle.hla_verdicts.specs.Kept.{KeptValue, IsConsistent, central_of, directory_with, directory_of}
use Rattle.hla_verdicts.proofs.Steps.Services.{IsPlainService}
use Rattle.hla_checker.proofs.Sends.SendingTests.{count_deletions}
use Rattle.hla_checker.proofs.Sends.Updates.{after_append, after_directory, after_serial, serials_left}

-- ---- services that answer that they are done
deletion_done : (object : ℕ) (stamp : Option ℕ) (c : Central) (f : ℕ) (a : Answer) (o : Choice) → MayAnswer c f (service.DeleteObjectInstance object stamp) a o → a ≡ answer.Done
deletion_done object stamp c f answer.Done o may = refl
deletion_done object stamp c f a o may = absurd may

pub deletion_plain : (object : ℕ) (stamp : Option ℕ) → IsPlainService (service.DeleteObjectInstance object stamp)
deletion_plain object stamp = record { answers = λ c f o. tt; only = deletion_done object stamp; plain = λ o is. is; chooses = λ o is. is }

resign_done : (way : ResignAction) (c : Central) (f : ℕ) (a : Answer) (o : Choice) → MayAnswer c f (service.Resign way) a o → a ≡ answer.Done
resign_done way c f answer.Done o may = refl
resign_done way c f a o may = absurd may

pub resign_plain : (way : ResignAction) → IsPlainService (service.Resign way)
resign_plain way = record { answers = λ c f o. tt; only = resign_done way; plain = λ o is. is; chooses = λ o is. is }

-- ---- an object that exists was registered
pub exists_within : (rs : List Registered) (h : ℕ) → ((registry_of rs).object h).exists ≡ true → (0 < h) × (h < length rs + 1)
exists_within rs zero is = absurd (false≢true is)
exists_within rs (suc k) is = (
  omega arith,
  ⊎_elim
      (λ (past : length rs < suc k). absurd (false≢true (sym (ap (λ (r : Registered). r.object.exists) (item-none unregistered_object rs (suc k) past)) ∙ is)))
      (λ (within : suc k ≤ length rs). let below : suc k < length rs + 1 = omega (arith, within) in below)
      (cases_lt (length rs) (suc k)),
)

left : (a b : Bool) → (a && b) ≡ true → a ≡ true
left true b is = refl
left false b is = is

module _ (s : Seen) (f object : ℕ) (stamp : Option ℕ) (none : first_fault (call_tests s f (service.DeleteObjectInstance object stamp)) ≡ None) where
  pub deletion_exists : (s.directory.object object).exists ≡ true
  deletion_exists = left (s.directory.object object).exists (s.directory.known object f) (not-is-false (is_known s.directory f object) (all_clear (call_tests s f (service.DeleteObjectInstance object stamp)) none).0)

  pub deletion_room : s.serial f ≤ max_serial
  deletion_room =
      let room = serials_left (s.serial f) (deletion_sent s.directory object) (all_clear (call_tests s f (service.DeleteObjectInstance object stamp)) none).1.1.1.0 in
      let room_is : s.serial f + 1 ≤ max_serial + 1 = room in omega (arith, room_is)

-- ---- a federate that leaves
module _ (v : KeptValue) (decl : DeclarationLists) (objects : List Registered) (accounts : List Account) (f : ℕ) (withdrawn : declarations_of decl ≡ record (declarations_of v.declarations) {
  published = (without_member (directory_of v) f).published;
  subscribed = (without_member (directory_of v) f).subscribed;
  published_interaction = (without_member (directory_of v) f).published_interaction;
  subscribed_interaction = (without_member (directory_of v) f).subscribed_interaction;
  interaction_orders = (without_member (directory_of v) f).interaction_orders;
}) (left_ : (d : Directory) → central_with (without_member d f) accounts ≡ without_federate (central_with d v.accounts) f) where
  abbrev withdrawn_from : DeclarationsValue
  withdrawn_from = record (declarations_of v.declarations) {
    published = (without_member (directory_of v) f).published;
    subscribed = (without_member (directory_of v) f).subscribed;
    published_interaction = (without_member (directory_of v) f).published_interaction;
    subscribed_interaction = (without_member (directory_of v) f).subscribed_interaction;
    interaction_orders = (without_member (directory_of v) f).interaction_orders;
  }

  pub left_central : registry_of objects ≡ without_owned (registry_of v.objects) f → central_of (record v { declarations = decl; objects = objects; accounts = accounts }) ≡ without_federate (central_of v) f
  left_central gone =
      ap (λ (x : DeclarationsValue). central_with (directory_with v x (registry_of objects)) accounts) withdrawn
      ∙ ap (λ (r : RegistryValue). central_with (directory_with v withdrawn_from r) accounts) gone
      ∙ left_ (directory_of v)

  pub left_consistent : IsConsistent v → IsConsistent (record v { declarations = decl; objects = objects; accounts = accounts })
  left_consistent k =
      let next : length accounts + 1 ≡ length v.accounts + 1 = ap (λ (c : Central). c.directory.next_federate) (left_ (directory_of v)) in
      record {
        federates = ap (λ (x : DeclarationsValue). x.federates) withdrawn ∙ k.federates ∙ same (length v.accounts) (length accounts) next;
        object_classes = ap (λ (x : DeclarationsValue). x.object_classes) withdrawn ∙ k.object_classes;
        interaction_classes = ap (λ (x : DeclarationsValue). x.interaction_classes) withdrawn ∙ k.interaction_classes;
      }
    where
      same : (n m : ℕ) → m + 1 ≡ n + 1 → n ≡ m
      same n m is = omega (arith, is)

-- and points close
module _ (v : KeptValue) (accounts : List Account) (points : List OpenPoint) (closed : (d : Directory) → d.points ≡ points_of v.points → central_with (with_points d (points_of points)) accounts ≡ with_points_closed (central_with d v.accounts)) where
  pub closed_central : (c : Central) (f : ℕ) → central_of v ≡ without_federate c f → central_of (record v { accounts = accounts; points = points }) ≡ after_leaving c f
  closed_central c f is = closed (directory_of v) refl ∙ ap with_points_closed is

  pub closed_consistent : IsConsistent v → IsConsistent (record v { accounts = accounts; points = points })
  closed_consistent k =
      let next : length accounts + 1 ≡ length v.accounts + 1 = ap (λ (c : Central). c.directory.next_federate) (closed (directory_of v) refl) in
      record {
        federates = k.federates ∙ same (length v.accounts) (length accounts) next;
        object_classes = k.object_classes;
        interaction_classes = k.interaction_classes;
      }
    where
      same : (n m : ℕ) → m + 1 ≡ n + 1 → n ≡ m
      same n m is = omega (arith, is)

-- ---- deletions one after another
deletions_append : (xs ys : List ℕ) → deletions_sent (xs ++ ys) ≡ deletions_sent xs ++ deletions_sent ys
deletions_append [] ys = refl
deletions_append (x ∷ xs) ys = ap (λ (outs : List Outgoing). record { order = Receive; body = ADeletion x } ∷ outs) (deletions_append xs ys)

abbrev pub deletion_out : ℕ → Outgoing
deletion_out h = record { order = Receive; body = ADeletion h }

module _ (c d : Central) (f : ℕ) (hs : List ℕ) (i : ℕ) (within : i < length hs) (is : d ≡ after_messages c f None (deletions_sent (take i hs))) where
  pub deletions_joined : d.directory.joined f ≡ c.directory.joined f
  deletions_joined = ap (λ (s : Central). s.directory.joined f) is ∙ ap (λ (x : Directory). x.joined f) (after_directory f None (deletions_sent (take i hs)) c)

  pub deletions_serial : d.serial f ≡ c.serial f + i
  deletions_serial =
      ap (λ (s : Central). s.serial f) is ∙ after_serial f None (deletions_sent (take i hs)) c
      ∙ ap (λ (n : ℕ). c.serial f + n) (count_deletions (take i hs) ∙ length-take-le i hs (omega (arith, within)))

  pub deletions_more : (e : Central) (h none : ℕ) → h ≡ get_or hs i none → e ≡ after_message d f None (deletion_out h) → e ≡ after_messages c f None (deletions_sent (take (i + 1) hs))
  deletions_more e h none at sent =
      sent ∙ ap (λ (k : ℕ). after_message d f None (deletion_out k)) at
      ∙ ap (λ (s : Central). after_messages s f None (deletion_out (get_or hs i none) ∷ [])) is
      ∙ sym (after_append f None (deletions_sent (take i hs)) (deletion_out (get_or hs i none) ∷ []) c)
      ∙ ap (λ (outs : List Outgoing). after_messages c f None outs) (sym (deletions_append (take i hs) (get_or hs i none ∷ [])))
      ∙ ap (λ (ks : List ℕ). after_messages c f None (deletions_sent ks)) (sym (take_more hs i none within))

-- ---- a resignation that is not refused
none_there : (hs : List ℕ) → ltb 0 (length hs) ≡ false → hs ≡ []
none_there [] is = refl
none_there (h ∷ hs) is = absurd (let some : ltb 0 (suc (length hs)) ≡ false = is in grind (arith, nat_tests))

pub resign_room : (s : Seen) (f : ℕ) (way : ResignAction) → first_fault (call_tests s f (service.Resign way)) ≡ None → (k : ℕ) → k < length (objects_of s.directory f) → s.serial f + k ≤ max_serial
resign_room s f NoAction none k below =
    let nothing : length (objects_of s.directory f) ≡ 0 = ap (λ (hs : List ℕ). length hs) (none_there (objects_of s.directory f) (all_clear (call_tests s f (service.Resign NoAction)) none).0) in
    absurd (omega (arith, nothing, below))
resign_room s f DeleteObjects none k below =
    let room = serials_left (s.serial f) (deletions_sent (objects_of s.directory f)) (all_clear (call_tests s f (service.Resign DeleteObjects)) none).0 in
    let count = count_deletions (objects_of s.directory f) in
    omega (arith, room, count, below)
resign_room s f ReleaseAttributes none k below = absurd (cc)
resign_room s f DeleteObjectsAndReleaseAttributes none k below = absurd (cc)

pub resign_ways : (c : Central) (f : ℕ) (way : ResignAction) → first_fault (call_tests (central_seen c) f (service.Resign way)) ≡ None
    → after_leaving (after_messages c f None (deletions_sent (objects_of c.directory f))) f ≡ after_resign c f way
resign_ways c f NoAction none =
    ap (λ (hs : List ℕ). after_leaving (after_messages c f None (deletions_sent hs)) f) (none_there (objects_of c.directory f) (all_clear (call_tests (central_seen c) f (service.Resign NoAction)) none).0)
resign_ways c f DeleteObjects none = refl
resign_ways c f ReleaseAttributes none = absurd (cc)
resign_ways c f DeleteObjectsAndReleaseAttributes none = absurd (cc)

-- the deletion of an object, as what is sent
abbrev pub out_of_order : ℕ → Order → List Outgoing
out_of_order h order = record { order = order; body = ADeletion h } ∷ []

-- where the next number of an object is the same
pub still_registered : (h n m : ℕ) → h < n → m ≡ n → h < m
still_registered h n m below same = omega (arith, below, same)
