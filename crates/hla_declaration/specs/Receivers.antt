-- Who receives what is sent of a class, and at which class
use Rattle.std.specs.Prelude.{◌≡◌, ℕ, ◌+◌, ◌<◌, ◌≤◌, ◌≢◌, eqb, not, Bool, Option, is_some, option_map, List, find}
use Rattle.std.specs.List.{filter_map}
use Rattle.hla_base.specs.Limits.{max_joins}
use Rattle.hla_base.specs.Tables.{numbers_below, when}
use Rattle.hla_catalogue.specs.CatalogueValue.{CatalogueValue}
use Rattle.hla_catalogue.specs.Lookup.{object_lineage, interaction_lineage}
use Rattle.hla_declaration.specs.Subscribers.{has_federate}
use Rattle.hla_declaration.specs.declared.receiver.Receiver.{Receiver}
use Rattle.hla_declaration.specs.declared.subscribing.Subscribers.{Subscribers}

-- at which class a federate is served: the most derived one that it subscribes
abbrev pub object_class_served : CatalogueValue → (ℕ → ℕ → Option (List ℕ)) → ℕ → ℕ → Option ℕ
object_class_served c subscribed f class = find (λ k. is_some (subscribed f k)) (object_lineage c class)

abbrev pub interaction_class_served : CatalogueValue → (ℕ → ℕ → Bool) → ℕ → ℕ → Option ℕ
interaction_class_served c subscribed f class = find (λ k. subscribed f k) (interaction_lineage c class)

-- the subscribers are those who are served
abbrev pub AreServed : Subscribers → (ℕ → Option ℕ) → Type 0
AreServed subscribers served = (f : ℕ) → f ≤ max_joins → has_federate subscribers.bits f ≡ is_some (served f)

-- who but the sender is served, at which class, by rising number
abbrev pub receivers_of : (ℕ → Option ℕ) → ℕ → ℕ → List Receiver
receivers_of served federates sender =
    filter_map (λ g. when (not (eqb sender g)) (option_map (λ k. record { federate = g; class = k }) (served g))) (numbers_below (federates + 1))

-- a receiver among this many federates: one of them, and not the sender
pub record IsReceiver (federates sender : ℕ) (r : Receiver) : Type 0 where
  pub some : 0 < r.federate
  pub joined : r.federate ≤ federates
  pub other : sender ≢ r.federate
