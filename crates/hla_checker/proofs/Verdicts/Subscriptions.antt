-- What tests of a subscription of an object class tell
use Rattle.std.proofs.Common.{◌≡◌, ℕ, List, ◌++◌, Some, None, refl, sym, ◌∙◌, ap}
use Rattle.hla_base.specs.Tables.{upd, upd2}
use Rattle.hla_declaration.specs.Lists.{DeclarationLists}
use Rattle.hla_declaration.specs.Declarations.{DeclarationsValue, declarations_of}
use Rattle.hla_machine.specs.Registered.{Registered, registry_of}
use Rattle.hla_machine.specs.Directory.{Directory, with_discoveries_made}
use Rattle.hla_machine.specs.Central.{Central}
use Rattle.hla_machine.specs.Machine.{after_subscribe}
use Rattle.hla_machine.specs.declared.service.Service.TheVariants as service
use Rattle.hla_machine.specs.declared.step.Answer.TheVariants as answer
use Rattle.hla_accounts.specs.declared.account.Account.{Account}
use Rattle.hla_accounts.specs.declared.offers.Offer.{Offer}
use Rattle.hla_accounts.specs.Accounts.{central_with, offers_from}
use Rattle.hla_accounts.proofs.AfterSteps.Counts.{same_size}
use Rattle.hla_verdicts.specs.Calls.{AnswersDone}
use Rattle.hla_verdicts.specs.Kept.{KeptValue, IsConsistent, central_of, directory_with}
use Rattle.hla_checker.specs.Offering.{wanted_discoveries}

pub subscribing_only : (class : ℕ) (attributes : List ℕ) → AnswersDone (service.SubscribeObjectClassAttributes class attributes)
subscribing_only class attributes c f answer.Done o may = refl
subscribing_only class attributes c f a o may = absurd may

-- ---- after a subscription
module _ (v : KeptValue) (dd : DeclarationLists) (r : List Registered) (accounts : List Account) (offers : List Offer) (f class : ℕ) (a : List ℕ)
    (declared : declarations_of dd ≡ record (declarations_of v.declarations) { subscribed = upd2 (declarations_of v.declarations).subscribed f class (Some a) })
    (offered : (g : ℕ) → offers_from g offers ≡ wanted_discoveries (directory_with v (declarations_of dd) (registry_of v.objects)) None g f)
    (added : (d : Directory) → central_with d accounts ≡ record (central_with d v.accounts) { discoveries = λ g. upd ((central_with d v.accounts).discoveries g) f ((central_with d v.accounts).discoveries g f ++ offers_from g offers) })
    (known : registry_of r ≡ record (registry_of v.objects) { known = (with_discoveries_made (directory_with v (declarations_of dd) (registry_of v.objects)) f).known }) where
  pub subscribed_central : central_of (record v { declarations = dd; objects = r; accounts = accounts }) ≡ after_subscribe (central_of v) f class (Some a)
  subscribed_central =
      added (directory_with v (declarations_of dd) (registry_of r))
      ∙ (λ i. record (central_with (directory_with v (declarations_of dd) (known i)) v.accounts) {
        discoveries = λ g. upd ((central_of v).discoveries g) f ((central_of v).discoveries g f ++ offered g i);
      })
      ∙ ap (λ (t : DeclarationsValue). record (central_with (directory_with v t (record (registry_of v.objects) { known = (with_discoveries_made (directory_with v t (registry_of v.objects)) f).known })) v.accounts) {
        discoveries = λ g. upd ((central_of v).discoveries g) f ((central_of v).discoveries g f ++ wanted_discoveries (directory_with v t (registry_of v.objects)) None g f);
      }) declared

  pub subscribed_consistent : IsConsistent v → IsConsistent (record v { declarations = dd; objects = r; accounts = accounts })
  subscribed_consistent k = record {
    federates = ap (λ (x : DeclarationsValue). x.federates) declared ∙ k.federates ∙ sym (same_size v.accounts accounts (λ d. ap (λ (c : Central). c.directory.next_federate) (added d)));
    object_classes = ap (λ (x : DeclarationsValue). x.object_classes) declared ∙ k.object_classes;
    interaction_classes = ap (λ (x : DeclarationsValue). x.interaction_classes) declared ∙ k.interaction_classes;
  }
