-- In which order the messages of a call go
use Rattle.std.proofs.Common.{◌≡◌, ◌≢◌, ℕ, true, List, [], ◌∷◌, ◌++◌, refl, ap}
use Rattle.std.specs.List.{All, list_any}
use Rattle.std.proofs.lemmas.List.Elements.{All-nil, All-cons}
use Rattle.hla_base.specs.declared.content.HandleValuePair.{HandleValuePair}
use Rattle.hla_catalogue.specs.declared.declared.Order.{Order}
use Rattle.hla_catalogue.specs.declared.declared.Order.TheVariants.{Receive, Timestamp}
use Rattle.hla_machine.specs.declared.service.Service.{Service}
use Rattle.hla_machine.specs.declared.service.Service.TheVariants as service
use Rattle.hla_machine.specs.declared.service.ResignAction.TheVariants.{DeleteObjects}
use Rattle.hla_machine.specs.Directory.{Directory, Outgoing, AnInteraction, AnUpdate, ADeletion, order_of_interaction, order_of_deletion, by_handle, is_of_order, part_sent, objects_of, deletions_sent}
use Rattle.hla_machine.specs.History.{GoesInItsOrder, values_in}

abbrev values_of : Order → List HandleValuePair → List HandleValuePair → List HandleValuePair
values_of Receive vs ws = vs
values_of Timestamp vs ws = ws

-- the messages of an update
module _ (d : Directory) (object : ℕ) (values : List HandleValuePair) where
  abbrev HasAllOfItsOrder : Outgoing → Type 0
  HasAllOfItsOrder out = out.body ≡ AnUpdate object (values_in d object out.order (by_handle values))

  part_has_all : (order : Order) (vs : List HandleValuePair) (outs : List Outgoing) → vs ≡ values_in d object order (by_handle values) → All HasAllOfItsOrder outs
      → All HasAllOfItsOrder (part_sent order object vs ++ outs)
  part_has_all order [] outs is rest = rest
  part_has_all order (v ∷ vs) outs is rest = All-cons HasAllOfItsOrder (record { order = order; body = AnUpdate object (v ∷ vs) }) outs (ap (AnUpdate object) is) rest

  last_has_all : (order : Order) (vs : List HandleValuePair) → vs ≡ values_in d object order (by_handle values) → All HasAllOfItsOrder (part_sent order object vs)
  last_has_all order [] is = All-nil HasAllOfItsOrder
  last_has_all order (v ∷ vs) is = All-cons HasAllOfItsOrder (record { order = order; body = AnUpdate object (v ∷ vs) }) [] (ap (AnUpdate object) is) (All-nil HasAllOfItsOrder)

  some_of : (order : Order) (vs ws : List HandleValuePair) → values_of order vs ws ≢ []
      → list_any (λ (out : Outgoing). is_of_order order out.order) (part_sent Receive object vs ++ part_sent Timestamp object ws) ≡ true
  some_of Receive [] ws some = absurd (some refl)
  some_of Receive (v ∷ vs) ws some = refl
  some_of Timestamp vs [] some = absurd (some refl)
  some_of Timestamp [] (w ∷ ws) some = refl
  some_of Timestamp (v ∷ vs) (w ∷ ws) some = refl

abbrev GoesIn : Order → Outgoing → Type 0
GoesIn order out = out.order ≡ order

all_receive : (hs : List ℕ) → All (GoesIn Receive) (deletions_sent hs)
all_receive [] = All-nil (GoesIn Receive)
all_receive (h ∷ hs) = All-cons (GoesIn Receive) (record { order = Receive; body = ADeletion h }) (deletions_sent hs) refl (all_receive hs)

one_goes_in : (out : Outgoing) → All (GoesIn out.order) (out ∷ [])
one_goes_in out = All-cons (GoesIn out.order) out [] refl (All-nil (GoesIn out.order))

pub goes_in_its_order : (d : Directory) (f : ℕ) (s : Service) → GoesInItsOrder d f s
goes_in_its_order d f (service.UpdateAttributeValues object values stamp) =
    let received = values_in d object Receive (by_handle values) in
    let stamped = values_in d object Timestamp (by_handle values) in
    record {
      just = part_has_all d object values Receive received (part_sent Timestamp object stamped) refl (last_has_all d object values Timestamp stamped refl);
      each = λ order some. some_of d object values order received stamped (is_some order some);
    }
  where
    is_some : (order : Order) → values_in d object order (by_handle values) ≢ [] → values_of order (values_in d object Receive (by_handle values)) (values_in d object Timestamp (by_handle values)) ≢ []
    is_some Receive some = some
    is_some Timestamp some = some
goes_in_its_order d f (service.SendInteraction class values stamp) = one_goes_in (record { order = order_of_interaction d f class; body = AnInteraction class (by_handle values) })
goes_in_its_order d f (service.DeleteObjectInstance object stamp) = one_goes_in (record { order = order_of_deletion d object; body = ADeletion object })
goes_in_its_order d f (service.Resign DeleteObjects) = all_receive (objects_of d f)
goes_in_its_order d f s = All-nil (GoesIn Receive)
