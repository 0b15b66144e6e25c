-- When a step is refused, and with which fault: the first of its list that applies
use Rattle.std.specs.Prelude.{ℕ, ◌+◌, eqb, ltb, not, ◌&&◌, ◌||◌, Bool, true, false, Option, is_some, unwrap_or, List, [], ◌∷◌, length}
use Rattle.std.specs.List.{list_any}
use Rattle.std.specs.Option.{option_map_or}
use Rattle.std.specs.Str.{bytes_eq}
use Rattle.hla_base.specs.Limits.{max_federate_name, max_joins, max_name, max_objects, max_open_points, max_point_label, max_serial, max_time}
use Rattle.hla_base.specs.declared.fault.Fault.{Fault}
use Rattle.hla_base.specs.declared.fault.Fault.TheVariants as fault
use Rattle.hla_base.specs.declared.content.HandleValuePair.{HandleValuePair}
use Rattle.hla_base.specs.declared.row.TimeRow.{TimeRow}
use Rattle.hla_base.specs.Tables.{numbers_below}
use Rattle.hla_base.specs.Rows.{least_stamp}
use Rattle.hla_base.specs.RowRefusals.{Test, test_for, first_fault, request_tests, regulation_tests, unregulate_tests, constrain_tests, unconstrain_tests, lookahead_tests, asynchronous_on_tests, asynchronous_off_tests}
use Rattle.hla_catalogue.specs.Lookup.{is_object_class, is_interaction_class, has_attribute, has_parameter, contains_number, object_class_named, interaction_class_named, attribute_named, parameter_named}
use Rattle.hla_retraction.specs.SentEvents.{SentEvent, may_retract}
use Rattle.hla_synchronization.specs.Points.{Point, is_open, may_achieve}
use Rattle.hla_machine.specs.declared.service.Service.{Service}
use Rattle.hla_machine.specs.declared.service.Service.TheVariants as service
use Rattle.hla_machine.specs.declared.service.ResignAction.{ResignAction}
use Rattle.hla_machine.specs.declared.service.ResignAction.TheVariants.{ReleaseAttributes, DeleteObjects, DeleteObjectsAndReleaseAttributes, NoAction}
use Rattle.hla_machine.specs.declared.step.Step.{Step}
use Rattle.hla_machine.specs.declared.step.Step.TheVariants.{Join, Call, Carry, Announce, Tick}
use Rattle.hla_machine.specs.Directory.{Directory, Outgoing, name_or_default, objects_of, interaction_sent, update_sent, deletion_sent, deletions_sent}
use Rattle.hla_machine.specs.Central.{low_entry}
use Rattle.hla_machine.specs.Sends.{is_some_ordered}

-- what the tests read
pub record Seen : Type 0 where
  pub directory : Directory
  pub row : ℕ → TimeRow
  pub serial : ℕ → ℕ
  pub sent : ℕ → ℕ → SentEvent

-- ---- names
abbrev pub is_name_joined : Directory → List ℕ → Bool
is_name_joined d name = list_any (λ f. d.joined f && bytes_eq (d.name f) name) (numbers_below d.next_federate)

-- was the name ever given to an object; their numbers begin with 1
abbrev pub is_name_used : Directory → List ℕ → Bool
is_name_used d name = list_any (λ h. not (eqb h 0) && bytes_eq (d.object h).name name) (numbers_below d.next_object)

abbrev pub is_length_in : ℕ → ℕ → List ℕ → Bool
is_length_in least most name = not (ltb (length name) least) && not (ltb most (length name))

-- ---- objects
-- the federate knows the object, and it was not deleted
abbrev pub is_known : Directory → ℕ → ℕ → Bool
is_known d f h = (d.object h).exists && d.known h f

abbrev pub is_owned : Directory → ℕ → ℕ → ℕ → Bool
is_owned d f h attribute = eqb (d.object h).owner f && contains_number attribute (d.object h).attributes

abbrev pub is_published : Directory → ℕ → ℕ → ℕ → Bool
is_published d f class attribute = option_map_or (contains_number attribute) (d.published f class) false

-- ---- stamps and serials
abbrev pub is_bad_stamp : TimeRow → Option ℕ → List Outgoing → Bool
is_bad_stamp r stamp outs = ltb max_time (unwrap_or stamp 0) || (is_some_ordered r stamp outs && ltb (unwrap_or stamp 0) (least_stamp r))

-- the messages would need a serial above the largest
abbrev pub is_out_of_serials : ℕ → List Outgoing → Bool
is_out_of_serials serial outs = ltb (max_serial + 1) (serial + length outs)

-- ---- the tests of each service, in their order
abbrev pub resign_tests : Seen → ℕ → ResignAction → List Test
resign_tests s f DeleteObjects = test_for fault.LimitReached (is_out_of_serials (s.serial f) (deletions_sent (objects_of s.directory f))) ∷ []
resign_tests s f NoAction = test_for fault.FederateOwnsAttributes (ltb 0 (length (objects_of s.directory f))) ∷ []
resign_tests s f ReleaseAttributes = test_for fault.InvalidResignAction true ∷ []
resign_tests s f DeleteObjectsAndReleaseAttributes = test_for fault.InvalidResignAction true ∷ []

abbrev pub update_tests : Directory → TimeRow → ℕ → ℕ → ℕ → List HandleValuePair → Option ℕ → List Test
update_tests d r serial f h values stamp =
    test_for fault.ObjectNotKnown (not (is_known d f h))
    ∷ test_for fault.AttributeNotDefined (list_any (λ (v : HandleValuePair). not (has_attribute d.catalogue (d.object h).class v.handle)) values)
    ∷ test_for fault.AttributeNotOwned (list_any (λ (v : HandleValuePair). not (is_owned d f h v.handle)) values)
    ∷ test_for fault.AttributeNotPublished (list_any (λ (v : HandleValuePair). not (is_published d f (d.object h).class v.handle)) values)
    ∷ test_for fault.InvalidFederationTime (is_bad_stamp r stamp (update_sent d h values))
    ∷ test_for fault.LimitReached (is_out_of_serials serial (update_sent d h values))
    ∷ []

abbrev pub interaction_tests : Directory → TimeRow → ℕ → ℕ → ℕ → List HandleValuePair → Option ℕ → List Test
interaction_tests d r serial f class values stamp =
    test_for fault.InteractionClassNotDefined (not (is_interaction_class d.catalogue class))
    ∷ test_for fault.InteractionParameterNotDefined (list_any (λ (v : HandleValuePair). not (has_parameter d.catalogue class v.handle)) values)
    ∷ test_for fault.InteractionClassNotPublished (not (d.published_interaction f class))
    ∷ test_for fault.InvalidFederationTime (is_bad_stamp r stamp (interaction_sent d f class values))
    ∷ test_for fault.LimitReached (is_out_of_serials serial (interaction_sent d f class values))
    ∷ []

abbrev pub deletion_tests : Directory → TimeRow → ℕ → ℕ → ℕ → Option ℕ → List Test
deletion_tests d r serial f h stamp =
    test_for fault.ObjectNotKnown (not (is_known d f h))
    ∷ test_for fault.DeletePrivilegeNotHeld (not (eqb (d.object h).owner f))
    ∷ test_for fault.InvalidFederationTime (is_bad_stamp r stamp (deletion_sent d h))
    ∷ test_for fault.LimitReached (is_out_of_serials serial (deletion_sent d h))
    ∷ []

abbrev pub register_tests : Directory → ℕ → ℕ → Option (List ℕ) → List Test
register_tests d f class name =
    test_for fault.ObjectClassNotDefined (not (is_object_class d.catalogue class))
    ∷ test_for fault.ObjectClassNotPublished (not (is_some (d.published f class)))
    ∷ test_for fault.ObjectAlreadyRegistered (is_name_used d (name_or_default d.next_object name))
    ∷ test_for fault.LimitReached (ltb max_objects d.next_object || not (is_length_in 1 max_name (name_or_default d.next_object name)))
    ∷ []

-- a point more would be open, and there is no room for it
abbrev pub is_full_for : List ℕ → List Point → Bool
is_full_for label points = not (is_open label points) && not (ltb (length points) max_open_points)

abbrev pub no_object_class : Directory → ℕ → Test
no_object_class d class = test_for fault.ObjectClassNotDefined (not (is_object_class d.catalogue class))

abbrev pub no_interaction_class : Directory → ℕ → Test
no_interaction_class d class = test_for fault.InteractionClassNotDefined (not (is_interaction_class d.catalogue class))

abbrev pub no_attribute : Directory → ℕ → List ℕ → Test
no_attribute d class attributes = test_for fault.AttributeNotDefined (list_any (λ a. not (has_attribute d.catalogue class a)) attributes)

-- an attribute of the object that the federate does not own
abbrev pub attribute_order_tests : Directory → ℕ → ℕ → List ℕ → List Test
attribute_order_tests d f h attributes =
    test_for fault.ObjectNotKnown (not (is_known d f h))
    ∷ no_attribute d (d.object h).class attributes
    ∷ test_for fault.AttributeNotOwned (list_any (λ a. not (is_owned d f h a)) attributes)
    ∷ []

abbrev pub not_found : Option ℕ → Test
not_found number = test_for fault.NameNotFound (not (is_some number))

-- does a joined federate know an existing object of that name
abbrev pub is_object_named : Directory → ℕ → List ℕ → Bool
is_object_named d f name = list_any (λ h. is_known d f h && bytes_eq (d.object h).name name) (numbers_below d.next_object)

abbrev pub call_tests : Seen → ℕ → Service → List Test
call_tests s f (service.Resign way) = resign_tests s f way
call_tests s f (service.PublishObjectClass class attributes) = no_object_class s.directory class ∷ no_attribute s.directory class attributes ∷ []
call_tests s f (service.UnpublishObjectClass class) = no_object_class s.directory class ∷ test_for fault.ObjectClassNotPublished (not (is_some (s.directory.published f class))) ∷ []
call_tests s f (service.SubscribeObjectClassAttributes class attributes) = no_object_class s.directory class ∷ no_attribute s.directory class attributes ∷ []
call_tests s f (service.UnsubscribeObjectClass class) = no_object_class s.directory class ∷ test_for fault.ObjectClassNotSubscribed (not (is_some (s.directory.subscribed f class))) ∷ []
call_tests s f (service.PublishInteractionClass class) = no_interaction_class s.directory class ∷ []
call_tests s f (service.UnpublishInteractionClass class) = no_interaction_class s.directory class ∷ test_for fault.InteractionClassNotPublished (not (s.directory.published_interaction f class)) ∷ []
call_tests s f (service.SubscribeInteractionClass class) = no_interaction_class s.directory class ∷ []
call_tests s f (service.UnsubscribeInteractionClass class) = no_interaction_class s.directory class ∷ test_for fault.InteractionClassNotSubscribed (not (s.directory.subscribed_interaction f class)) ∷ []
call_tests s f (service.RegisterObjectInstance class name) = register_tests s.directory f class name
call_tests s f (service.UpdateAttributeValues object values stamp) = update_tests s.directory (s.row f) (s.serial f) f object values stamp
call_tests s f (service.SendInteraction class values stamp) = interaction_tests s.directory (s.row f) (s.serial f) f class values stamp
call_tests s f (service.DeleteObjectInstance object stamp) = deletion_tests s.directory (s.row f) (s.serial f) f object stamp
call_tests s f (service.ChangeAttributeOrderType object attributes order) = attribute_order_tests s.directory f object attributes
call_tests s f (service.ChangeInteractionOrderType class order) = no_interaction_class s.directory class ∷ test_for fault.InteractionClassNotPublished (not (s.directory.published_interaction f class)) ∷ []
call_tests s f (service.Retract event) = test_for fault.InvalidRetractionHandle (not (eqb event.sender f && may_retract (s.row f) (s.sent f event.serial))) ∷ []
call_tests s f (service.RegisterFederationSynchronizationPoint label) =
    test_for fault.LimitReached (not (is_length_in 1 max_point_label label) || is_full_for label s.directory.points) ∷ []
call_tests s f (service.SynchronizationPointAchieved label) =
    test_for fault.SynchronizationPointLabelWasNotAnnounced (not (may_achieve f label s.directory.points)) ∷ []
call_tests s f (service.EnableTimeRegulation time lookahead) = regulation_tests (s.row f) (low_entry s.directory s.row (time + lookahead)) time lookahead
call_tests s f service.DisableTimeRegulation = unregulate_tests (s.row f)
call_tests s f service.EnableTimeConstrained = constrain_tests (s.row f)
call_tests s f service.DisableTimeConstrained = unconstrain_tests (s.row f)
call_tests s f (service.TimeAdvanceRequest time) = request_tests (s.row f) time
call_tests s f (service.TimeAdvanceRequestAvailable time) = request_tests (s.row f) time
call_tests s f (service.NextEventRequest time) = request_tests (s.row f) time
call_tests s f (service.NextEventRequestAvailable time) = request_tests (s.row f) time
call_tests s f (service.FlushQueueRequest time) = request_tests (s.row f) time
call_tests s f (service.ModifyLookahead lookahead) = lookahead_tests (s.row f) lookahead
call_tests s f service.EnableAsynchronousDelivery = asynchronous_on_tests (s.row f)
call_tests s f service.DisableAsynchronousDelivery = asynchronous_off_tests (s.row f)
call_tests s f service.QueryLbts = []
call_tests s f service.QueryFederateTime = []
call_tests s f service.QueryMinNextEventTime = []
call_tests s f service.QueryLookahead = []
call_tests s f (service.GetObjectClassHandle name) = not_found (object_class_named s.directory.catalogue name) ∷ []
call_tests s f (service.GetInteractionClassHandle name) = not_found (interaction_class_named s.directory.catalogue name) ∷ []
call_tests s f (service.GetAttributeHandle name class) = no_object_class s.directory class ∷ not_found (attribute_named s.directory.catalogue class name) ∷ []
call_tests s f (service.GetParameterHandle name class) = no_interaction_class s.directory class ∷ not_found (parameter_named s.directory.catalogue class name) ∷ []
call_tests s f (service.GetObjectInstanceHandle name) = test_for fault.ObjectNotKnown (not (is_object_named s.directory f name)) ∷ []
call_tests s f (service.GetObjectInstanceName object) = test_for fault.ObjectNotKnown (not (is_known s.directory f object)) ∷ []

abbrev pub joined_test : Directory → ℕ → Test
joined_test d f = test_for fault.FederateNotExecutionMember (not (d.joined f))

abbrev pub tests : Seen → Step → List Test
tests s (Join name) =
    test_for fault.FederateAlreadyExecutionMember (is_name_joined s.directory name)
    ∷ test_for fault.LimitReached (ltb max_joins s.directory.next_federate || not (is_length_in 1 max_federate_name name))
    ∷ []
tests s (Call f service) = joined_test s.directory f ∷ call_tests s f service
-- a wire leads to a joined federate from one that has ever joined
tests s (Carry from to) =
    test_for fault.FederateNotExecutionMember (not (s.directory.joined to) || eqb from to || eqb from 0 || not (ltb from s.directory.next_federate)) ∷ []
tests s (Announce f) = joined_test s.directory f ∷ []
tests s (Tick f) = joined_test s.directory f ∷ []

-- the fault with which a step is refused, if it is
abbrev pub refusal : Seen → Step → Option Fault
refusal s step = first_fault (tests s step)
