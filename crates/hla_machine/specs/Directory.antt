-- Who has joined, what each publishes and subscribes, which objects there are and who knows them
-- (HLA 1.3, federation management, declaration management, object management)
use Rattle.std.specs.Prelude.{ℕ, ◌+◌, cond, eqb, ltb, not, ◌&&◌, Bool, true, false, Option, Some, None, is_some, option_map, unwrap_or, List, [], ◌∷◌, ◌++◌, filter, find, map, codes}
use Rattle.std.specs.List.{filter_map}
use Rattle.std.specs.Option.{option_map_or, option_and_then}
use Rattle.std.specs.Fmt.{decimal}
use Rattle.hla_base.specs.declared.content.HandleValuePair.{HandleValuePair}
use Rattle.hla_base.specs.declared.content.Content.{Content}
use Rattle.hla_base.specs.declared.content.Content.TheVariants as content
use Rattle.hla_base.specs.declared.content.Discovery.{Discovery}
use Rattle.hla_base.specs.Tables.{upd, upd2, is_other, numbers_below, when}
use Rattle.hla_catalogue.specs.CatalogueValue.{CatalogueValue}
use Rattle.hla_catalogue.specs.declared.declared.Order.{Order}
use Rattle.hla_catalogue.specs.declared.declared.Order.TheVariants.{Receive, Timestamp}
use Rattle.hla_catalogue.specs.Lookup.{contains_number, object_lineage, interaction_lineage, has_parameter, attribute_order, interaction_order, deletion_privilege}
use Rattle.hla_orders.specs.Orders.{orders_given}
use Rattle.hla_base.specs.declared.notice.Notice.{Notice}
use Rattle.hla_base.specs.declared.notice.NoticeKind.TheVariants as kind
use Rattle.hla_synchronization.specs.Points.{Point, new_point, is_open, with_point, achieved_by, closing, left_open, notice, announcement_of, closing_of}

-- an object that was registered; a deleted one no longer exists
pub record Object : Type 0 where
  pub class : ℕ
  pub name : List ℕ
  pub owner : ℕ  -- the federate that registered it
  pub attributes : List ℕ  -- those that its owner owns
  pub exists : Bool

pub record Directory : Type 0 where
  pub catalogue : CatalogueValue
  pub next_federate : ℕ  -- the number of the federate that joins next; numbers begin with 1
  pub joined : ℕ → Bool
  pub name : ℕ → List ℕ
  pub published : ℕ → ℕ → Option (List ℕ)  -- the attributes that a federate publishes of an object class
  pub subscribed : ℕ → ℕ → Option (List ℕ)
  pub published_interaction : ℕ → ℕ → Bool
  pub subscribed_interaction : ℕ → ℕ → Bool
  pub interaction_orders : ℕ → ℕ → Option Order  -- in which order a federate's interactions of a class go, where it changed it
  pub next_object : ℕ  -- the number of the object that is registered next; numbers begin with 1
  pub object : ℕ → Object
  pub known : ℕ → ℕ → Bool  -- to which federates an object is known
  pub attribute_orders : ℕ → ℕ → Option Order  -- in which order updates of an object's attribute go, where it was changed
  pub points : List Point  -- the open synchronization points, in order of opening

abbrev pub no_object : Object
no_object = record { class = 0; name = []; owner = 0; attributes = []; exists = false }

-- an execution that was just created
abbrev pub new_directory : CatalogueValue → Directory
new_directory catalogue = record {
  catalogue = catalogue;
  next_federate = 1;
  joined = λ _. false;
  name = λ _. [];
  published = λ _ _. None;
  subscribed = λ _ _. None;
  published_interaction = λ _ _. false;
  subscribed_interaction = λ _ _. false;
  interaction_orders = λ _ _. None;
  next_object = 1;
  object = λ _. no_object;
  known = λ _ _. false;
  attribute_orders = λ _ _. None;
  points = [];
}

-- ---- at which class a federate is served: the most derived one that it subscribes
abbrev pub served_object : Directory → ℕ → ℕ → Option ℕ
served_object d f class = find (λ k. is_some (d.subscribed f k)) (object_lineage d.catalogue class)

abbrev pub served_interaction : Directory → ℕ → ℕ → Option ℕ
served_interaction d f class = find (λ k. d.subscribed_interaction f k) (interaction_lineage d.catalogue class)

-- ---- in which order messages go now: as it was changed last, and as the FED file says where it never was
abbrev pub order_of_interaction : Directory → ℕ → ℕ → Order
order_of_interaction d f class = unwrap_or (d.interaction_orders f class) (interaction_order d.catalogue class)

abbrev pub order_of_attribute : Directory → ℕ → ℕ → Order
order_of_attribute d object attribute = unwrap_or (d.attribute_orders object attribute) (attribute_order d.catalogue attribute)

-- a deletion goes as an update of the attribute would that stands for the right to delete
abbrev pub order_of_deletion : Directory → ℕ → Order
order_of_deletion d object = option_map_or (order_of_attribute d object) (deletion_privilege d.catalogue (d.object object).class) Receive

-- ---- what a service sends
-- Values by rising handle; where one is named twice, the later value counts
abbrev pub put_pair : HandleValuePair → List HandleValuePair → List HandleValuePair
put_pair v [] = v ∷ []
put_pair v (x ∷ xs) = cond (ltb v.handle x.handle) (v ∷ x ∷ xs) (cond (eqb v.handle x.handle) (v ∷ xs) (x ∷ put_pair v xs))

abbrev pub put_pairs : List HandleValuePair → List HandleValuePair → List HandleValuePair
put_pairs done [] = done
put_pairs done (v ∷ vs) = put_pairs (put_pair v done) vs

abbrev pub by_handle : List HandleValuePair → List HandleValuePair
by_handle values = put_pairs [] values

pub data Body : Type 0 where
  AnInteraction : (class : ℕ) (values : List HandleValuePair) → Body
  AnUpdate : (object : ℕ) (values : List HandleValuePair) → Body
  ADeletion : (object : ℕ) → Body

-- one message of a service, before it is cut to what each receiver is shown
pub record Outgoing : Type 0 where
  pub order : Order
  pub body : Body

abbrev pub interaction_sent : Directory → ℕ → ℕ → List HandleValuePair → List Outgoing
interaction_sent d f class values = record { order = order_of_interaction d f class; body = AnInteraction class (by_handle values) } ∷ []

abbrev pub is_of_order : Order → Order → Bool
is_of_order Receive Receive = true
is_of_order Receive Timestamp = false
is_of_order Timestamp Receive = false
is_of_order Timestamp Timestamp = true

abbrev pub part_sent : Order → ℕ → List HandleValuePair → List Outgoing
part_sent order object [] = []
part_sent order object (v ∷ vs) = record { order = order; body = AnUpdate object (v ∷ vs) } ∷ []

abbrev pub values_of_order : Directory → ℕ → Order → List HandleValuePair → List HandleValuePair
values_of_order d object order values = filter (λ v. is_of_order order (order_of_attribute d object v.handle)) values

-- an update is cut by the orders of its attributes now, the part in receive order first
abbrev pub update_sent : Directory → ℕ → List HandleValuePair → List Outgoing
update_sent d object values =
    part_sent Receive object (values_of_order d object Receive (by_handle values)) ++ part_sent Timestamp object (values_of_order d object Timestamp (by_handle values))

abbrev pub deletion_sent : Directory → ℕ → List Outgoing
deletion_sent d object = record { order = order_of_deletion d object; body = ADeletion object } ∷ []

-- a federate's objects that exist, by rising number
abbrev pub objects_of : Directory → ℕ → List ℕ
objects_of d f = filter (λ h. (d.object h).exists && eqb (d.object h).owner f) (numbers_below d.next_object)

-- the deletions of a federate that resigns
abbrev pub deletions_sent : List ℕ → List Outgoing
deletions_sent [] = []
deletions_sent (h ∷ hs) = record { order = Receive; body = ADeletion h } ∷ deletions_sent hs

-- ---- what a message says to a federate, if it says anything
abbrev pub reflection_of : ℕ → List HandleValuePair → Option Content
reflection_of object [] = None
reflection_of object (v ∷ vs) = Some (content.Reflection object (v ∷ vs))

abbrev pub subscribed_values : Directory → ℕ → ℕ → List HandleValuePair → List HandleValuePair
subscribed_values d f class values = filter (λ v. option_map_or (contains_number v.handle) (d.subscribed f class) false) values

abbrev pub content_for : Directory → Body → ℕ → Option Content
content_for d (AnInteraction class values) f =
    option_map (λ k. content.Interaction k (filter (λ v. has_parameter d.catalogue k v.handle) values)) (served_interaction d f class)
content_for d (AnUpdate object values) f =
    option_and_then (λ k. reflection_of object (subscribed_values d f k values)) (served_object d f (d.object object).class)
content_for d (ADeletion object) f = when (d.known object f) (Some (content.Removal object))

-- the receivers of a message; nobody receives its own
abbrev pub is_receiver : Directory → ℕ → Body → ℕ → Bool
is_receiver d g body f = is_other d.joined g f && is_some (content_for d body f)

-- ---- discoveries
abbrev pub discovery_at : Directory → ℕ → ℕ → Discovery
discovery_at d h class = record { object = h; class = class; name = (d.object h).name }

-- the discovery of an object that a federate is to make now: it exists, is another's, is not known to it, and fits its subscriptions
abbrev pub discovery_of : Directory → ℕ → ℕ → Option Discovery
discovery_of d f h =
    when ((d.object h).exists && not (eqb (d.object h).owner f) && not (d.known h f)) (option_map (discovery_at d h) (served_object d f (d.object h).class))

-- the discoveries of g's objects that f is to make now, by rising number
abbrev pub discoveries_of : Directory → ℕ → ℕ → List Discovery
discoveries_of d g f = filter_map (λ h. when (eqb (d.object h).owner g) (discovery_of d f h)) (numbers_below d.next_object)

-- each discovery that f is to make now is made
abbrev pub with_discoveries_made : Directory → ℕ → Directory
with_discoveries_made d f = record d { known = λ h k. cond (eqb f k && is_some (discovery_of d f h)) true (d.known h k) }

-- the discovery of h that each other joined federate is to make now is made
abbrev pub with_object_discovered : Directory → ℕ → Directory
with_object_discovered d h = record d { known = λ j k. cond (eqb h j && d.joined k && is_some (discovery_of d k h)) true (d.known j k) }

-- ---- synchronization points
-- the members of each open point: who is joined, by rising number
abbrev pub joined_federates : Directory → List ℕ
joined_federates d = filter d.joined (numbers_below d.next_federate)

abbrev pub with_points : Directory → List Point → Directory
with_points d points = record d { points = points }

-- a point opens, where none of its label is open
abbrev pub with_point_registered : Directory → List ℕ → Directory
with_point_registered d label = with_points d (cond (is_open label d.points) d.points (d.points ++ new_point label ∷ []))

-- f is told that it has registered the point, and then each member, f too, that it is open; or f alone, that one of its label was open
abbrev pub registration_notices : Directory → ℕ → List ℕ → ℕ → List Notice
registration_notices d f label g = cond (is_open label d.points)
    (cond (eqb f g) (notice kind.RegistrationFailed label ∷ []) [])
    (cond (eqb f g) (notice kind.RegistrationSucceeded label ∷ []) [] ++ cond (d.joined g) (notice kind.Announced label ∷ []) [])

abbrev pub with_point_achieved : Directory → ℕ → List ℕ → Directory
with_point_achieved d f label = with_points d (with_point (achieved_by f) label d.points)

-- each point closes that all its members have achieved, and each member is told so, in order of opening
abbrev pub with_points_left : Directory → Directory
with_points_left d = with_points d (left_open (joined_federates d) d.points)

abbrev pub closing_notices : Directory → ℕ → List Notice
closing_notices d g = cond (d.joined g) (map closing_of (closing (joined_federates d) d.points)) []

-- a newcomer is told of each open point, in order of opening
abbrev pub joining_notices : Directory → ℕ → List Notice
joining_notices d g = cond (eqb d.next_federate g) (map announcement_of d.points) []

-- ---- the directory after a service
abbrev pub default_name : ℕ → List ℕ
default_name h = codes "object-" ++ decimal h

abbrev pub name_or_default : ℕ → Option (List ℕ) → List ℕ
name_or_default h None = default_name h
name_or_default h (Some name) = name

abbrev pub with_member : Directory → List ℕ → Directory
with_member d name = record d {
  next_federate = d.next_federate + 1;
  joined = upd d.joined d.next_federate true;
  name = upd d.name d.next_federate name;
}

abbrev pub without_objects_of : Directory → ℕ → Directory
without_objects_of d f = record d { object = λ h. record (d.object h) { exists = (d.object h).exists && not (eqb (d.object h).owner f) } }

-- a federate that has resigned declares nothing, has changed no order and has no objects
abbrev pub without_member : Directory → ℕ → Directory
without_member d f = record (without_objects_of d f) {
  joined = upd d.joined f false;
  published = upd d.published f (λ _. None);
  subscribed = upd d.subscribed f (λ _. None);
  published_interaction = upd d.published_interaction f (λ _. false);
  subscribed_interaction = upd d.subscribed_interaction f (λ _. false);
  interaction_orders = upd d.interaction_orders f (λ _. None);
}

abbrev pub with_published : Directory → ℕ → ℕ → Option (List ℕ) → Directory
with_published d f class attributes = record d { published = upd2 d.published f class attributes }

abbrev pub with_subscribed : Directory → ℕ → ℕ → Option (List ℕ) → Directory
with_subscribed d f class attributes = record d { subscribed = upd2 d.subscribed f class attributes }

abbrev pub with_published_interaction : Directory → ℕ → ℕ → Bool → Directory
with_published_interaction d f class b = record d { published_interaction = upd2 d.published_interaction f class b }

abbrev pub with_subscribed_interaction : Directory → ℕ → ℕ → Bool → Directory
with_subscribed_interaction d f class b = record d { subscribed_interaction = upd2 d.subscribed_interaction f class b }

-- the owner knows its object, and owns the attributes that it publishes there
abbrev pub with_object : Directory → ℕ → ℕ → List ℕ → Directory
with_object d f class name = record d {
  next_object = d.next_object + 1;
  object = upd d.object d.next_object (record { class = class; name = name; owner = f; attributes = option_map_or (λ xs. xs) (d.published f class) []; exists = true });
  known = upd2 d.known d.next_object f true;
}

-- the federate's interactions of just this class go in this order from now on
abbrev pub with_interaction_order : Directory → ℕ → ℕ → Order → Directory
with_interaction_order d f class order = record d { interaction_orders = upd2 d.interaction_orders f class (Some order) }

-- updates of these attributes of just this object go in this order from now on
abbrev pub with_attribute_orders : Directory → ℕ → List ℕ → Order → Directory
with_attribute_orders d h attributes order = record d { attribute_orders = upd d.attribute_orders h (orders_given (d.attribute_orders h) attributes order) }

abbrev pub without_object : Directory → ℕ → Directory
without_object d h = record d { object = upd d.object h (record (d.object h) { exists = false }) }
