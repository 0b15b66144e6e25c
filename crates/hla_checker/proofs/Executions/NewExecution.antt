-- Nobody has joined, and nothing is declared
use Rattle.std.proofs.Common.{◌≡◌, ℕ, List, [], None, option_map, false, refl, ◌∙◌, ap}
use Rattle.hla_base.specs.Rows.{new_row}
use Rattle.hla_catalogue.specs.CatalogueValue.{CatalogueValue}
use Rattle.hla_retraction.specs.SentEvents.{no_event}
use Rattle.hla_retraction.specs.SentRows.{sent_of}
use Rattle.hla_declaration.specs.Declarations.{DeclarationsValue}
use Rattle.hla_machine.specs.Registered.{RegistryValue, new_registry}
use Rattle.hla_synchronization.specs.Points.{Point}
use Rattle.hla_machine.specs.Directory.{Directory, with_points}
use Rattle.hla_machine.specs.Central.{new_central}
use Rattle.hla_accounts.specs.declared.account.Account.{Account}
use Rattle.hla_accounts.specs.Accounts.{central_with, copy_at, copy_of, offers_from, times_listed}
use Rattle.hla_accounts.proofs.AfterSteps.Accounts.{nothing_sent, account_at-nil}
use Rattle.hla_bags.proofs.Bags.Contents.{waiting_at-nil}
use Rattle.hla_verdicts.specs.Kept.{directory_kept}

-- nobody has declared anything
abbrev pub undeclared : ℕ → ℕ → DeclarationsValue
undeclared object_classes interaction_classes = record {
  federates = 0;
  object_classes = object_classes;
  interaction_classes = interaction_classes;
  published = λ _ _. None;
  subscribed = λ _ _. None;
  published_interaction = λ _ _. false;
  subscribed_interaction = λ _ _. false;
  interaction_orders = λ _ _. None;
}

empty_bag : (g m : ℕ) → copy_at [] g m ≡ None
empty_bag g m = ap (λ t. option_map copy_of (t g m)) waiting_at-nil

none_listed : (g m : ℕ) → times_listed [] g m ≡ 0
unfolding times_listed
none_listed g m = refl

no_central : (d : Directory) → central_with d [] ≡ record {
  directory = record d { next_federate = 1; joined = λ _. false; name = λ _. [] };
  row = λ _. new_row;
  serial = λ _. 1;
  bag = λ _ _ _. None;
  discoveries = λ _ _. [];
  sent = λ _ _. no_event;
  owed = λ _ _ _. 0;
  due = λ _ _ _. 0;
  notices = λ _. [];
}
no_central d = λ i. record {
  directory = record d { next_federate = 1; joined = λ f. (account_at-nil f i).is_joined; name = λ f. (account_at-nil f i).name };
  row = λ f. (account_at-nil f i).state;
  serial = λ f. (account_at-nil f i).next_serial;
  bag = λ g m f. (ap (λ (a : Account). copy_at a.bag g m) (account_at-nil f) ∙ empty_bag g m) i;
  discoveries = λ g f. ap (λ (a : Account). offers_from g a.offers) (account_at-nil f) i;
  sent = λ g m. (ap (λ (a : Account). sent_of a.sent m) (account_at-nil g) ∙ nothing_sent m) i;
  owed = λ g m f. (ap (λ (a : Account). times_listed a.owed g m) (account_at-nil f) ∙ none_listed g m) i;
  due = λ g m f. (ap (λ (a : Account). times_listed a.due g m) (account_at-nil f) ∙ none_listed g m) i;
  notices = λ f. (account_at-nil f i).notices;
}

pub new_execution : (c : CatalogueValue) (objects interactions : ℕ) (d : DeclarationsValue) (r : RegistryValue) (accounts : List Account) (points : List Point) → d ≡ undeclared objects interactions → r ≡ new_registry → accounts ≡ [] → points ≡ []
    → central_with (with_points (directory_kept c d r) points) accounts ≡ new_central c
new_execution c objects interactions d r accounts points declared registered nobody none =
    ap (λ (ps : List Point). central_with (with_points (directory_kept c d r) ps) accounts) none
    ∙ ap (λ (xs : List Account). central_with (directory_kept c d r) xs) nobody
    ∙ ap (λ (x : DeclarationsValue). central_with (directory_kept c x r) []) declared
    ∙ ap (λ (x : RegistryValue). central_with (directory_kept c (undeclared objects interactions) x) []) registered
    ∙ no_central (directory_kept c (undeclared objects interactions) new_registry)
