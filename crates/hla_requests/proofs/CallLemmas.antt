-- What declares nothing, and is no resignation, is asked of objects, messages, synchronization points or time
use Rattle.std.proofs.Common.{◌≡◌, ℕ, List, Option, Ok, refl}
use Rattle.hla_catalogue.specs.CatalogueValue.{CatalogueValue}
use Rattle.hla_catalogue.specs.declared.declared.Order.{Order}
use Rattle.hla_machine.specs.declared.service.ResignAction.{ResignAction}
use Rattle.hla_commands.specs.declared.lines.Call.{Call}
use Rattle.hla_commands.specs.declared.lines.Call.TheVariants as call
use Rattle.hla_commands.specs.declared.lines.Declaration.{Declaration}
use Rattle.hla_commands.specs.declared.lines.NameValuePair.{NameValuePair}
use Rattle.hla_requests.specs.Requests.{service_of, object_service_of, time_service_of}

pub asked_of_objects : (c : CatalogueValue) (x : Call) → ((way : ResignAction) → x ≡ call.Resign way → ⊥)
    → ((d : Declaration) (name : List ℕ) (names : List (List ℕ)) → x ≡ call.DeclareObject d name names → ⊥) → ((d : Declaration) (name : List ℕ) → x ≡ call.WithdrawObject d name → ⊥)
    → ((d : Declaration) (name : List ℕ) → x ≡ call.DeclareInteraction d name → ⊥) → ((d : Declaration) (name : List ℕ) → x ≡ call.WithdrawInteraction d name → ⊥)
    → service_of c x ≡ object_service_of c x
asked_of_objects c (call.Resign way) resign object object_gone interaction interaction_gone = absurd (resign way refl)
asked_of_objects c (call.DeclareObject d name names) resign object object_gone interaction interaction_gone = absurd (object d name names refl)
asked_of_objects c (call.WithdrawObject d name) resign object object_gone interaction interaction_gone = absurd (object_gone d name refl)
asked_of_objects c (call.DeclareInteraction d name) resign object object_gone interaction interaction_gone = absurd (interaction d name refl)
asked_of_objects c (call.WithdrawInteraction d name) resign object object_gone interaction interaction_gone = absurd (interaction_gone d name refl)
asked_of_objects c call.Tick resign object object_gone interaction interaction_gone = refl
asked_of_objects c (call.Register class name) resign object object_gone interaction interaction_gone = refl
asked_of_objects c (call.Update number class values stamp) resign object object_gone interaction interaction_gone = refl
asked_of_objects c (call.Send class values stamp) resign object object_gone interaction interaction_gone = refl
asked_of_objects c (call.Delete number stamp) resign object object_gone interaction interaction_gone = refl
asked_of_objects c (call.ChangeAttributeOrder number class order attributes) resign object object_gone interaction interaction_gone = refl
asked_of_objects c (call.ChangeInteractionOrder class order) resign object object_gone interaction interaction_gone = refl
asked_of_objects c (call.RegisterPoint label) resign object object_gone interaction interaction_gone = refl
asked_of_objects c (call.AchievePoint label) resign object object_gone interaction interaction_gone = refl
asked_of_objects c (call.ObjectHandle name) resign object object_gone interaction interaction_gone = refl
asked_of_objects c (call.ObjectName number) resign object object_gone interaction interaction_gone = refl
asked_of_objects c (call.EnableTimeRegulation time lookahead) resign object object_gone interaction interaction_gone = refl
asked_of_objects c call.DisableTimeRegulation resign object object_gone interaction interaction_gone = refl
asked_of_objects c call.EnableTimeConstrained resign object object_gone interaction interaction_gone = refl
asked_of_objects c call.DisableTimeConstrained resign object object_gone interaction interaction_gone = refl
asked_of_objects c (call.RequestAdvance kind time) resign object object_gone interaction interaction_gone = refl
asked_of_objects c (call.ModifyLookahead lookahead) resign object object_gone interaction interaction_gone = refl
asked_of_objects c call.EnableAsynchronousDelivery resign object object_gone interaction interaction_gone = refl
asked_of_objects c call.DisableAsynchronousDelivery resign object object_gone interaction interaction_gone = refl
asked_of_objects c (call.Retract sender serial) resign object object_gone interaction interaction_gone = refl
asked_of_objects c call.QueryLbts resign object object_gone interaction interaction_gone = refl
asked_of_objects c call.QueryFederateTime resign object object_gone interaction interaction_gone = refl
asked_of_objects c call.QueryMinNextEventTime resign object object_gone interaction interaction_gone = refl
asked_of_objects c call.QueryLookahead resign object object_gone interaction interaction_gone = refl

-- what asks nothing of objects, messages and synchronization points is asked of time
pub asked_of_time : (c : CatalogueValue) (x : Call) → ((class : List ℕ) (name : Option (List ℕ)) → x ≡ call.Register class name → ⊥)
    → ((number : ℕ) (class : List ℕ) (values : List NameValuePair) (stamp : Option ℕ) → x ≡ call.Update number class values stamp → ⊥)
    → ((class : List ℕ) (values : List NameValuePair) (stamp : Option ℕ) → x ≡ call.Send class values stamp → ⊥)
    → ((number : ℕ) (stamp : Option ℕ) → x ≡ call.Delete number stamp → ⊥)
    → ((number : ℕ) (class : List ℕ) (order : Order) (attributes : List (List ℕ)) → x ≡ call.ChangeAttributeOrder number class order attributes → ⊥)
    → ((class : List ℕ) (order : Order) → x ≡ call.ChangeInteractionOrder class order → ⊥)
    → ((label : List ℕ) → x ≡ call.RegisterPoint label → ⊥)
    → ((label : List ℕ) → x ≡ call.AchievePoint label → ⊥)
    → ((name : List ℕ) → x ≡ call.ObjectHandle name → ⊥)
    → ((number : ℕ) → x ≡ call.ObjectName number → ⊥)
    → object_service_of c x ≡ Ok (time_service_of x)
asked_of_time c (call.Register class name) register update send delete attribute interaction point achieve handle named = absurd (register class name refl)
asked_of_time c (call.Update number class values stamp) register update send delete attribute interaction point achieve handle named = absurd (update number class values stamp refl)
asked_of_time c (call.Send class values stamp) register update send delete attribute interaction point achieve handle named = absurd (send class values stamp refl)
asked_of_time c (call.Delete number stamp) register update send delete attribute interaction point achieve handle named = absurd (delete number stamp refl)
asked_of_time c (call.ChangeAttributeOrder number class order attributes) register update send delete attribute interaction point achieve handle named = absurd (attribute number class order attributes refl)
asked_of_time c (call.ChangeInteractionOrder class order) register update send delete attribute interaction point achieve handle named = absurd (interaction class order refl)
asked_of_time c (call.RegisterPoint label) register update send delete attribute interaction point achieve handle named = absurd (point label refl)
asked_of_time c (call.AchievePoint label) register update send delete attribute interaction point achieve handle named = absurd (achieve label refl)
asked_of_time c (call.ObjectHandle name) register update send delete attribute interaction point achieve handle named = absurd (handle name refl)
asked_of_time c (call.ObjectName number) register update send delete attribute interaction point achieve handle named = absurd (named number refl)
asked_of_time c (call.Resign way) register update send delete attribute interaction point achieve handle named = refl
asked_of_time c (call.DeclareObject d name names) register update send delete attribute interaction point achieve handle named = refl
asked_of_time c (call.WithdrawObject d name) register update send delete attribute interaction point achieve handle named = refl
asked_of_time c (call.DeclareInteraction d name) register update send delete attribute interaction point achieve handle named = refl
asked_of_time c (call.WithdrawInteraction d name) register update send delete attribute interaction point achieve handle named = refl
asked_of_time c call.Tick register update send delete attribute interaction point achieve handle named = refl
asked_of_time c (call.EnableTimeRegulation time lookahead) register update send delete attribute interaction point achieve handle named = refl
asked_of_time c call.DisableTimeRegulation register update send delete attribute interaction point achieve handle named = refl
asked_of_time c call.EnableTimeConstrained register update send delete attribute interaction point achieve handle named = refl
asked_of_time c call.DisableTimeConstrained register update send delete attribute interaction point achieve handle named = refl
asked_of_time c (call.RequestAdvance kind time) register update send delete attribute interaction point achieve handle named = refl
asked_of_time c (call.ModifyLookahead lookahead) register update send delete attribute interaction point achieve handle named = refl
asked_of_time c call.EnableAsynchronousDelivery register update send delete attribute interaction point achieve handle named = refl
asked_of_time c call.DisableAsynchronousDelivery register update send delete attribute interaction point achieve handle named = refl
asked_of_time c (call.Retract sender serial) register update send delete attribute interaction point achieve handle named = refl
asked_of_time c call.QueryLbts register update send delete attribute interaction point achieve handle named = refl
asked_of_time c call.QueryFederateTime register update send delete attribute interaction point achieve handle named = refl
asked_of_time c call.QueryMinNextEventTime register update send delete attribute interaction point achieve handle named = refl
asked_of_time c call.QueryLookahead register update send delete attribute interaction point achieve handle named = refl
