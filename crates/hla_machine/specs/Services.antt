-- `==` of services tells them apart: a service at a time, since the search over all pairs of services is too long,
-- and those of other names by computation
use Rattle.std.specs.Prelude.{◌≡◌, ℕ, false, ◌⊎◌, List, Option}
use Rattle.std.proofs.Common.{rules, inl, refl}
use Rattle.hla_base.specs.declared.content.HandleValuePair.{HandleValuePair}
use Rattle.hla_base.specs.declared.number.EventHandle.{EventHandle}
use Rattle.hla_base.specs.contracts.content.HandleValuePairPlain.TheImpl.Laws.{lists-law as same_pairs}
use Rattle.hla_catalogue.specs.declared.declared.Order.{Order}
use Rattle.hla_machine.specs.declared.service.ResignAction.{ResignAction}
use Rattle.hla_machine.specs.declared.service.Service.{Service}
use Rattle.hla_machine.specs.declared.service.Service.TheVariants.{Resign, PublishObjectClass, UnpublishObjectClass, SubscribeObjectClassAttributes, UnsubscribeObjectClass, PublishInteractionClass, UnpublishInteractionClass, SubscribeInteractionClass, UnsubscribeInteractionClass, RegisterObjectInstance, UpdateAttributeValues, SendInteraction, DeleteObjectInstance, ChangeAttributeOrderType, ChangeInteractionOrderType, Retract, RegisterFederationSynchronizationPoint, SynchronizationPointAchieved, EnableTimeRegulation, DisableTimeRegulation, EnableTimeConstrained, DisableTimeConstrained, TimeAdvanceRequest, TimeAdvanceRequestAvailable, NextEventRequest, NextEventRequestAvailable, FlushQueueRequest, ModifyLookahead, EnableAsynchronousDelivery, DisableAsynchronousDelivery, QueryLbts, QueryFederateTime, QueryMinNextEventTime, QueryLookahead, GetObjectClassHandle, GetInteractionClassHandle, GetAttributeHandle, GetParameterHandle, GetObjectInstanceHandle, GetObjectInstanceName}
use Rattle.hla_machine.specs.contracts.service.ServicePartialEq.TheImpl.{ghosts as services}

-- a service is told from every other
abbrev pub IsToldApart : Service → Service → Type 0
IsToldApart x other = (services.eq x other ≡ false) ⊎ (x ≡ other)

abbrev pub Known : Service → Type 0
Known x = (other : Service) → IsToldApart x other

at_resign : (chosen : ResignAction) → Known (Resign chosen)
at_resign chosen other = elim other as (λ o. IsToldApart (Resign chosen) o) [ Resign a ↦ search rules | _ ↦ inl refl ]

at_publish_object_class : (class : ℕ) (attributes : List ℕ) → Known (PublishObjectClass class attributes)
at_publish_object_class class attributes other = elim other as (λ o. IsToldApart (PublishObjectClass class attributes) o) [ PublishObjectClass a b ↦ search rules | _ ↦ inl refl ]

at_unpublish_object_class : (class : ℕ) → Known (UnpublishObjectClass class)
at_unpublish_object_class class other = elim other as (λ o. IsToldApart (UnpublishObjectClass class) o) [ UnpublishObjectClass a ↦ search rules | _ ↦ inl refl ]

at_subscribe_object_class_attributes : (class : ℕ) (attributes : List ℕ) → Known (SubscribeObjectClassAttributes class attributes)
at_subscribe_object_class_attributes class attributes other = elim other as (λ o. IsToldApart (SubscribeObjectClassAttributes class attributes) o) [ SubscribeObjectClassAttributes a b ↦ search rules | _ ↦ inl refl ]

at_unsubscribe_object_class : (class : ℕ) → Known (UnsubscribeObjectClass class)
at_unsubscribe_object_class class other = elim other as (λ o. IsToldApart (UnsubscribeObjectClass class) o) [ UnsubscribeObjectClass a ↦ search rules | _ ↦ inl refl ]

at_publish_interaction_class : (class : ℕ) → Known (PublishInteractionClass class)
at_publish_interaction_class class other = elim other as (λ o. IsToldApart (PublishInteractionClass class) o) [ PublishInteractionClass a ↦ search rules | _ ↦ inl refl ]

at_unpublish_interaction_class : (class : ℕ) → Known (UnpublishInteractionClass class)
at_unpublish_interaction_class class other = elim other as (λ o. IsToldApart (UnpublishInteractionClass class) o) [ UnpublishInteractionClass a ↦ search rules | _ ↦ inl refl ]

at_subscribe_interaction_class : (class : ℕ) → Known (SubscribeInteractionClass class)
at_subscribe_interaction_class class other = elim other as (λ o. IsToldApart (SubscribeInteractionClass class) o) [ SubscribeInteractionClass a ↦ search rules | _ ↦ inl refl ]

at_unsubscribe_interaction_class : (class : ℕ) → Known (UnsubscribeInteractionClass class)
at_unsubscribe_interaction_class class other = elim other as (λ o. IsToldApart (UnsubscribeInteractionClass class) o) [ UnsubscribeInteractionClass a ↦ search rules | _ ↦ inl refl ]

at_register_object_instance : (class : ℕ) (name : Option (List ℕ)) → Known (RegisterObjectInstance class name)
at_register_object_instance class name other = elim other as (λ o. IsToldApart (RegisterObjectInstance class name) o) [ RegisterObjectInstance a b ↦ search rules | _ ↦ inl refl ]

at_update_attribute_values : (object : ℕ) (values : List HandleValuePair) (stamp : Option ℕ) → Known (UpdateAttributeValues object values stamp)
at_update_attribute_values object values stamp other = elim other as (λ o. IsToldApart (UpdateAttributeValues object values stamp) o) [ UpdateAttributeValues a b c ↦ search (rules, same_pairs) | _ ↦ inl refl ]

at_send_interaction : (class : ℕ) (values : List HandleValuePair) (stamp : Option ℕ) → Known (SendInteraction class values stamp)
at_send_interaction class values stamp other = elim other as (λ o. IsToldApart (SendInteraction class values stamp) o) [ SendInteraction a b c ↦ search (rules, same_pairs) | _ ↦ inl refl ]

at_delete_object_instance : (object : ℕ) (stamp : Option ℕ) → Known (DeleteObjectInstance object stamp)
at_delete_object_instance object stamp other = elim other as (λ o. IsToldApart (DeleteObjectInstance object stamp) o) [ DeleteObjectInstance a b ↦ search rules | _ ↦ inl refl ]

at_change_attribute_order_type : (object : ℕ) (attributes : List ℕ) (order : Order) → Known (ChangeAttributeOrderType object attributes order)
at_change_attribute_order_type object attributes order other = elim other as (λ o. IsToldApart (ChangeAttributeOrderType object attributes order) o) [ ChangeAttributeOrderType a b c ↦ search rules | _ ↦ inl refl ]

at_change_interaction_order_type : (class : ℕ) (order : Order) → Known (ChangeInteractionOrderType class order)
at_change_interaction_order_type class order other = elim other as (λ o. IsToldApart (ChangeInteractionOrderType class order) o) [ ChangeInteractionOrderType a b ↦ search rules | _ ↦ inl refl ]

at_retract : (event : EventHandle) → Known (Retract event)
at_retract event other = elim other as (λ o. IsToldApart (Retract event) o) [ Retract a ↦ search rules | _ ↦ inl refl ]

at_register_federation_synchronization_point : (label : List ℕ) → Known (RegisterFederationSynchronizationPoint label)
at_register_federation_synchronization_point label other = elim other as (λ o. IsToldApart (RegisterFederationSynchronizationPoint label) o) [ RegisterFederationSynchronizationPoint a ↦ search rules | _ ↦ inl refl ]

at_synchronization_point_achieved : (label : List ℕ) → Known (SynchronizationPointAchieved label)
at_synchronization_point_achieved label other = elim other as (λ o. IsToldApart (SynchronizationPointAchieved label) o) [ SynchronizationPointAchieved a ↦ search rules | _ ↦ inl refl ]

at_enable_time_regulation : (time : ℕ) (lookahead : ℕ) → Known (EnableTimeRegulation time lookahead)
at_enable_time_regulation time lookahead other = elim other as (λ o. IsToldApart (EnableTimeRegulation time lookahead) o) [ EnableTimeRegulation a b ↦ search rules | _ ↦ inl refl ]

at_disable_time_regulation : Known DisableTimeRegulation
at_disable_time_regulation other = elim other as (λ o. IsToldApart DisableTimeRegulation o) [ DisableTimeRegulation ↦ search rules | _ ↦ inl refl ]

at_enable_time_constrained : Known EnableTimeConstrained
at_enable_time_constrained other = elim other as (λ o. IsToldApart EnableTimeConstrained o) [ EnableTimeConstrained ↦ search rules | _ ↦ inl refl ]

at_disable_time_constrained : Known DisableTimeConstrained
at_disable_time_constrained other = elim other as (λ o. IsToldApart DisableTimeConstrained o) [ DisableTimeConstrained ↦ search rules | _ ↦ inl refl ]

at_time_advance_request : (time : ℕ) → Known (TimeAdvanceRequest time)
at_time_advance_request time other = elim other as (λ o. IsToldApart (TimeAdvanceRequest time) o) [ TimeAdvanceRequest a ↦ search rules | _ ↦ inl refl ]

at_time_advance_request_available : (time : ℕ) → Known (TimeAdvanceRequestAvailable time)
at_time_advance_request_available time other = elim other as (λ o. IsToldApart (TimeAdvanceRequestAvailable time) o) [ TimeAdvanceRequestAvailable a ↦ search rules | _ ↦ inl refl ]

at_next_event_request : (time : ℕ) → Known (NextEventRequest time)
at_next_event_request time other = elim other as (λ o. IsToldApart (NextEventRequest time) o) [ NextEventRequest a ↦ search rules | _ ↦ inl refl ]

at_next_event_request_available : (time : ℕ) → Known (NextEventRequestAvailable time)
at_next_event_request_available time other = elim other as (λ o. IsToldApart (NextEventRequestAvailable time) o) [ NextEventRequestAvailable a ↦ search rules | _ ↦ inl refl ]

at_flush_queue_request : (time : ℕ) → Known (FlushQueueRequest time)
at_flush_queue_request time other = elim other as (λ o. IsToldApart (FlushQueueRequest time) o) [ FlushQueueRequest a ↦ search rules | _ ↦ inl refl ]

at_modify_lookahead : (lookahead : ℕ) → Known (ModifyLookahead lookahead)
at_modify_lookahead lookahead other = elim other as (λ o. IsToldApart (ModifyLookahead lookahead) o) [ ModifyLookahead a ↦ search rules | _ ↦ inl refl ]

at_enable_asynchronous_delivery : Known EnableAsynchronousDelivery
at_enable_asynchronous_delivery other = elim other as (λ o. IsToldApart EnableAsynchronousDelivery o) [ EnableAsynchronousDelivery ↦ search rules | _ ↦ inl refl ]

at_disable_asynchronous_delivery : Known DisableAsynchronousDelivery
at_disable_asynchronous_delivery other = elim other as (λ o. IsToldApart DisableAsynchronousDelivery o) [ DisableAsynchronousDelivery ↦ search rules | _ ↦ inl refl ]

at_query_lbts : Known QueryLbts
at_query_lbts other = elim other as (λ o. IsToldApart QueryLbts o) [ QueryLbts ↦ search rules | _ ↦ inl refl ]

at_query_federate_time : Known QueryFederateTime
at_query_federate_time other = elim other as (λ o. IsToldApart QueryFederateTime o) [ QueryFederateTime ↦ search rules | _ ↦ inl refl ]

at_query_min_next_event_time : Known QueryMinNextEventTime
at_query_min_next_event_time other = elim other as (λ o. IsToldApart QueryMinNextEventTime o) [ QueryMinNextEventTime ↦ search rules | _ ↦ inl refl ]

at_query_lookahead : Known QueryLookahead
at_query_lookahead other = elim other as (λ o. IsToldApart QueryLookahead o) [ QueryLookahead ↦ search rules | _ ↦ inl refl ]

at_get_object_class_handle : (name : List ℕ) → Known (GetObjectClassHandle name)
at_get_object_class_handle name other = elim other as (λ o. IsToldApart (GetObjectClassHandle name) o) [ GetObjectClassHandle a ↦ search rules | _ ↦ inl refl ]

at_get_interaction_class_handle : (name : List ℕ) → Known (GetInteractionClassHandle name)
at_get_interaction_class_handle name other = elim other as (λ o. IsToldApart (GetInteractionClassHandle name) o) [ GetInteractionClassHandle a ↦ search rules | _ ↦ inl refl ]

at_get_attribute_handle : (name : List ℕ) (class : ℕ) → Known (GetAttributeHandle name class)
at_get_attribute_handle name class other = elim other as (λ o. IsToldApart (GetAttributeHandle name class) o) [ GetAttributeHandle a b ↦ search rules | _ ↦ inl refl ]

at_get_parameter_handle : (name : List ℕ) (class : ℕ) → Known (GetParameterHandle name class)
at_get_parameter_handle name class other = elim other as (λ o. IsToldApart (GetParameterHandle name class) o) [ GetParameterHandle a b ↦ search rules | _ ↦ inl refl ]

at_get_object_instance_handle : (name : List ℕ) → Known (GetObjectInstanceHandle name)
at_get_object_instance_handle name other = elim other as (λ o. IsToldApart (GetObjectInstanceHandle name) o) [ GetObjectInstanceHandle a ↦ search rules | _ ↦ inl refl ]

at_get_object_instance_name : (object : ℕ) → Known (GetObjectInstanceName object)
at_get_object_instance_name object other = elim other as (λ o. IsToldApart (GetObjectInstanceName object) o) [ GetObjectInstanceName a ↦ search rules | _ ↦ inl refl ]

pub same_service : (x : Service) → Known x
same_service (Resign chosen) = at_resign chosen
same_service (PublishObjectClass class attributes) = at_publish_object_class class attributes
same_service (UnpublishObjectClass class) = at_unpublish_object_class class
same_service (SubscribeObjectClassAttributes class attributes) = at_subscribe_object_class_attributes class attributes
same_service (UnsubscribeObjectClass class) = at_unsubscribe_object_class class
same_service (PublishInteractionClass class) = at_publish_interaction_class class
same_service (UnpublishInteractionClass class) = at_unpublish_interaction_class class
same_service (SubscribeInteractionClass class) = at_subscribe_interaction_class class
same_service (UnsubscribeInteractionClass class) = at_unsubscribe_interaction_class class
same_service (RegisterObjectInstance class name) = at_register_object_instance class name
same_service (UpdateAttributeValues object values stamp) = at_update_attribute_values object values stamp
same_service (SendInteraction class values stamp) = at_send_interaction class values stamp
same_service (DeleteObjectInstance object stamp) = at_delete_object_instance object stamp
same_service (ChangeAttributeOrderType object attributes order) = at_change_attribute_order_type object attributes order
same_service (ChangeInteractionOrderType class order) = at_change_interaction_order_type class order
same_service (Retract event) = at_retract event
same_service (RegisterFederationSynchronizationPoint label) = at_register_federation_synchronization_point label
same_service (SynchronizationPointAchieved label) = at_synchronization_point_achieved label
same_service (EnableTimeRegulation time lookahead) = at_enable_time_regulation time lookahead
same_service DisableTimeRegulation = at_disable_time_regulation
same_service EnableTimeConstrained = at_enable_time_constrained
same_service DisableTimeConstrained = at_disable_time_constrained
same_service (TimeAdvanceRequest time) = at_time_advance_request time
same_service (TimeAdvanceRequestAvailable time) = at_time_advance_request_available time
same_service (NextEventRequest time) = at_next_event_request time
same_service (NextEventRequestAvailable time) = at_next_event_request_available time
same_service (FlushQueueRequest time) = at_flush_queue_request time
same_service (ModifyLookahead lookahead) = at_modify_lookahead lookahead
same_service EnableAsynchronousDelivery = at_enable_asynchronous_delivery
same_service DisableAsynchronousDelivery = at_disable_asynchronous_delivery
same_service QueryLbts = at_query_lbts
same_service QueryFederateTime = at_query_federate_time
same_service QueryMinNextEventTime = at_query_min_next_event_time
same_service QueryLookahead = at_query_lookahead
same_service (GetObjectClassHandle name) = at_get_object_class_handle name
same_service (GetInteractionClassHandle name) = at_get_interaction_class_handle name
same_service (GetAttributeHandle name class) = at_get_attribute_handle name class
same_service (GetParameterHandle name class) = at_get_parameter_handle name class
same_service (GetObjectInstanceHandle name) = at_get_object_instance_handle name
same_service (GetObjectInstanceName object) = at_get_object_instance_name object
