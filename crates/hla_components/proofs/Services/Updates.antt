-- Updates and deletions of objects
use Rattle.std.proofs.Common.{◌≡◌, ◌≢◌, ℕ, ◌≤◌, eqb, not, true, false, refl, sym, ap, ◌∙◌, subst, eqb-true, eq-eqb, List, [], ◌∷◌, Option, Some, None, unwrap_or}
use Rattle.std.proofs.lemmas.Bool.{and_parts, or_parts}
use Rattle.std.specs.List.{list_any}
use Rattle.std.specs.Option.{option_and_then}
use Rattle.hla_base.specs.declared.content.Content.{Content}
use Rattle.hla_base.specs.declared.content.Content.TheVariants as content
use Rattle.hla_base.specs.declared.content.HandleValuePair.{HandleValuePair}
use Rattle.hla_base.specs.Tables.{is_other}
use Rattle.hla_base.specs.Rows.{least_stamp}
use Rattle.hla_catalogue.specs.declared.declared.Order.{Order}
use Rattle.hla_catalogue.specs.declared.declared.Order.TheVariants.{Receive, Timestamp}
use Rattle.hla_machine.specs.declared.service.Service.TheVariants as service
use Rattle.hla_machine.specs.declared.step.Step.TheVariants.{Call}
use Rattle.hla_machine.specs.Directory.{Directory, Outgoing, AnUpdate, ADeletion, content_for, reflection_of, subscribed_values, served_object, part_sent, values_of_order, by_handle, update_sent, deletion_sent, without_object, order_of_deletion}
use Rattle.hla_machine.specs.Central.{Central}
use Rattle.hla_machine.specs.Sends.{is_ordered}
use Rattle.hla_machine.specs.Refusals.{refusal, is_owned}
use Rattle.hla_components.specs.Components.{Components}
use Rattle.hla_components.specs.Next.{components_seen, step_outcome, with_messages_sent}
use Rattle.hla_components.specs.Invariant.{EachOf, IsKnownOf, IsTold, DirectoryInv, Kept}
use Rattle.hla_components.specs.Headline.{IsKeptStep}
use Rattle.hla_components.proofs.Basics.Each.{EachOf-append}
use Rattle.hla_components.proofs.Upkeep.Directories.{directory_deleted, grows_deleted}
use Rattle.hla_components.proofs.Services.Discoveries.{when_some}
use Rattle.hla_machine.proofs.Basics.Tests.{clear_call, caller_joined, not-is-false}
use Rattle.hla_components.proofs.Services.Steps.{IsSendable, kept_directory, kept_sent_all, central_sent_all, high_stamps}

and_then_some : {X Y : Type 0} (h : X → Option Y) (o : Option X) (y : Y) → option_and_then h o ≡ Some y → (x : X) × (o ≡ Some x) × (h x ≡ Some y)
and_then_some h None y e = absurd (cc)
and_then_some h (Some x) y e = (x, refl, e)

-- what is to be told to each receiver
abbrev pub Told : Directory → ℕ → Outgoing → Type 0
Told d f out = (k : ℕ) (x : Content) → is_other d.joined f k ≡ true → content_for d out.body k ≡ Some x → IsTold d f k x

pub sendable : (s : Components) (f : ℕ) (stamp : Option ℕ) (outs : List Outgoing) → EachOf (λ (out : Outgoing). is_ordered (s.row f) stamp out ≡ true → least_stamp (s.row f) ≤ unwrap_or stamp 0) outs → EachOf (Told s.directory f) outs
    → EachOf (IsSendable s f stamp) outs
sendable s f stamp [] high told = tt
sendable s f stamp (out ∷ outs) high told = (record { high = high.0; told = told.0 }, sendable s f stamp outs high.1 told.1)

-- ---- updates
reflection_told : (d : Directory) (f k object : ℕ) (values : List HandleValuePair) (x : Content) → IsKnownOf d f k object → reflection_of object values ≡ Some x → IsTold d f k x
reflection_told d f k object [] x known is = absurd (cc)
reflection_told d f k object (v ∷ vs) x known is = let same : content.Reflection object (v ∷ vs) ≡ x = cc in subst (IsTold d f k) same known

module _ (d : Directory) (inv : DirectoryInv d) (f object : ℕ) (exists : (d.object object).exists ≡ true) (owner : (d.object object).owner ≡ f) where
  update_told : (values : List HandleValuePair) (k : ℕ) (x : Content) → is_other d.joined f k ≡ true → content_for d (AnUpdate object values) k ≡ Some x → IsTold d f k x
  update_told values k x other is =
      let w = and_then_some (λ c. reflection_of object (subscribed_values d k c values)) (served_object d k (d.object object).class) x is in
      let p = and_parts _ _ other in
      let ne : (d.object object).owner ≢ k = λ same. not_self f k (sym owner ∙ same) p.0 in
      reflection_told d f k object (subscribed_values d k w.0 values) x
      (record { owner = owner; known = inv.served k object p.1 exists ne (rw w.1 refl); registered = (inv.owners object exists).1 }) w.2
    where
      not_self : (a b : ℕ) → a ≡ b → not (eqb a b) ≡ true → ⊥
      not_self a b same n = let e : eqb a b ≡ true = eq-eqb a b same in cc

  part_told : (order : Order) (values : List HandleValuePair) → EachOf (Told d f) (part_sent order object values)
  part_told order [] = tt
  part_told order (v ∷ vs) = (update_told (v ∷ vs), tt)

  updates_told : (values : List HandleValuePair) → EachOf (Told d f) (update_sent d object values)
  updates_told values = EachOf-append (Told d f) (part_sent Receive object (values_of_order d object Receive (by_handle values))) (part_sent Timestamp object (values_of_order d object Timestamp (by_handle values)))
      (part_told Receive (values_of_order d object Receive (by_handle values))) (part_told Timestamp (values_of_order d object Timestamp (by_handle values)))

  pub deletion_told : (order : Order) → Told d f (record { order = order; body = ADeletion object })
  deletion_told order k x other is =
      let w = when_some (d.known object k) (Some (content.Removal object)) x is in
      let same : content.Removal object ≡ x = cc in
      subst (IsTold d f k) same (record { owner = owner; known = w.0; registered = (inv.owners object exists).1 })

pub step_update : (s : Components) (f object : ℕ) (values : List HandleValuePair) (stamp : Option ℕ) → Kept s → refusal (components_seen s) (Call f (service.UpdateAttributeValues object values stamp)) ≡ None
    → IsKeptStep s (Call f (service.UpdateAttributeValues object values stamp)) (step_outcome s (Call f (service.UpdateAttributeValues object values stamp)))
step_update s f object values stamp kept none =
    let outs = update_sent s.directory object values in
    let member = caller_joined (components_seen s) f (service.UpdateAttributeValues object values stamp) none in
    let clear = clear_call (components_seen s) f (service.UpdateAttributeValues object values stamp) none in
    let c1 = clear.1 in let c2 = c1.1 in let c3 = c2.1 in let c4 = c3.1 in
    let exists : (s.directory.object object).exists ≡ true = (and_parts _ _ (not-is-false _ clear.0)).0 in
    let told : EachOf (Told s.directory f) outs = told_by values exists c2.0 in
    let may = sendable s f stamp outs (high_stamps (s.row f) stamp outs c4.0) told in
    record {
      kept = kept_sent_all s f stamp outs kept member may;
      allowed = (none, refl);
      follows = central_sent_all s f stamp outs kept member may;
    }
  where
    told_by : (values : List HandleValuePair) → (s.directory.object object).exists ≡ true → list_any (λ (v : HandleValuePair). not (is_owned s.directory f object v.handle)) values ≡ false → EachOf (Told s.directory f) (update_sent s.directory object values)
    told_by [] exists owned = tt
    told_by (v ∷ vs) exists owned = updates_told s.directory kept.directory f object exists (eqb-true _ _ (and_parts _ _ (not-is-false _ (or_parts _ _ owned).0)).0) (v ∷ vs)

-- ---- deletions
pub step_delete : (s : Components) (f object : ℕ) (stamp : Option ℕ) → Kept s → refusal (components_seen s) (Call f (service.DeleteObjectInstance object stamp)) ≡ None
    → IsKeptStep s (Call f (service.DeleteObjectInstance object stamp)) (step_outcome s (Call f (service.DeleteObjectInstance object stamp)))
step_delete s f object stamp kept none =
    let outs = deletion_sent s.directory object in
    let t = with_messages_sent s f stamp outs in
    let member = caller_joined (components_seen s) f (service.DeleteObjectInstance object stamp) none in
    let clear = clear_call (components_seen s) f (service.DeleteObjectInstance object stamp) none in
    let c1 = clear.1 in let c2 = c1.1 in
    let exists : (s.directory.object object).exists ≡ true = (and_parts _ _ (not-is-false _ clear.0)).0 in
    let owner : (s.directory.object object).owner ≡ f = eqb-true _ _ (not-is-false _ c1.0) in
    let told : EachOf (Told s.directory f) outs = (deletion_told s.directory kept.directory f object exists owner (order_of_deletion s.directory object), tt) in
    let may = sendable s f stamp outs (high_stamps (s.row f) stamp outs c2.0) told in
    let sent = kept_sent_all s f stamp outs kept member may in
    record {
      kept = kept_directory t (without_object s.directory object) sent (directory_deleted s.directory object kept.directory) (grows_deleted s.directory object) refl refl;
      allowed = (none, tt);
      follows = ap (λ (c : Central). record c { directory = without_object c.directory object }) (central_sent_all s f stamp outs kept member may);
    }
