-- What a federate declares of a class by its number alone
use Rattle.std.specs.Prelude.{ℕ, ◌<◌, ◌≤◌, not, true, false, is_some, Option, Some, None, List, [], ◌∷◌}
use Rattle.hla_base.specs.declared.fault.Fault.TheVariants as fault
use Rattle.hla_base.specs.RowRefusals.{Test, test_for}
use Rattle.hla_base.specs.Tables.{upd2}
use Rattle.hla_declaration.specs.Declarations.{DeclarationsValue}
use Rattle.hla_machine.specs.declared.service.Service.{Service}
use Rattle.hla_machine.specs.declared.service.Service.TheVariants as service
use Rattle.hla_machine.specs.Directory.{Directory}
use Rattle.hla_machine.specs.Refusals.{no_object_class, no_interaction_class}
use Rattle.hla_checker.specs.declared.declaring.ClassDeclaration.{ClassDeclaration}
use Rattle.hla_checker.specs.declared.declaring.ClassDeclaration.TheVariants.{UnpublishObject, UnsubscribeObject, PublishInteraction, UnpublishInteraction, SubscribeInteraction, UnsubscribeInteraction}

abbrev pub declaration_of : Service → Option ClassDeclaration
declaration_of (service.UnpublishObjectClass class) = Some (UnpublishObject class)
declaration_of (service.UnsubscribeObjectClass class) = Some (UnsubscribeObject class)
declaration_of (service.PublishInteractionClass class) = Some (PublishInteraction class)
declaration_of (service.UnpublishInteractionClass class) = Some (UnpublishInteraction class)
declaration_of (service.SubscribeInteractionClass class) = Some (SubscribeInteraction class)
declaration_of (service.UnsubscribeInteractionClass class) = Some (UnsubscribeInteraction class)
declaration_of s = None

-- the tests of the service that declares it
abbrev pub declaration_tests : Directory → ℕ → ClassDeclaration → List Test
declaration_tests d f (UnpublishObject class) = no_object_class d class ∷ test_for fault.ObjectClassNotPublished (not (is_some (d.published f class))) ∷ []
declaration_tests d f (UnsubscribeObject class) = no_object_class d class ∷ test_for fault.ObjectClassNotSubscribed (not (is_some (d.subscribed f class))) ∷ []
declaration_tests d f (PublishInteraction class) = no_interaction_class d class ∷ []
declaration_tests d f (UnpublishInteraction class) = no_interaction_class d class ∷ test_for fault.InteractionClassNotPublished (not (d.published_interaction f class)) ∷ []
declaration_tests d f (SubscribeInteraction class) = no_interaction_class d class ∷ []
declaration_tests d f (UnsubscribeInteraction class) = no_interaction_class d class ∷ test_for fault.InteractionClassNotSubscribed (not (d.subscribed_interaction f class)) ∷ []

-- its class is one of those of the declarations
abbrev pub IsOfClass : DeclarationsValue → ClassDeclaration → Type 0
IsOfClass t (UnpublishObject class) = (0 < class) × (class ≤ t.object_classes)
IsOfClass t (UnsubscribeObject class) = (0 < class) × (class ≤ t.object_classes)
IsOfClass t (PublishInteraction class) = (0 < class) × (class ≤ t.interaction_classes)
IsOfClass t (UnpublishInteraction class) = (0 < class) × (class ≤ t.interaction_classes)
IsOfClass t (SubscribeInteraction class) = (0 < class) × (class ≤ t.interaction_classes)
IsOfClass t (UnsubscribeInteraction class) = (0 < class) × (class ≤ t.interaction_classes)

abbrev pub with_declaration : DeclarationsValue → ℕ → ClassDeclaration → DeclarationsValue
with_declaration t f (UnpublishObject class) = record t { published = upd2 t.published f class None }
with_declaration t f (UnsubscribeObject class) = record t { subscribed = upd2 t.subscribed f class None }
with_declaration t f (PublishInteraction class) = record t { published_interaction = upd2 t.published_interaction f class true }
with_declaration t f (UnpublishInteraction class) = record t { published_interaction = upd2 t.published_interaction f class false }
with_declaration t f (SubscribeInteraction class) = record t { subscribed_interaction = upd2 t.subscribed_interaction f class true }
with_declaration t f (UnsubscribeInteraction class) = record t { subscribed_interaction = upd2 t.subscribed_interaction f class false }
