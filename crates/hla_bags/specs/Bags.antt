-- What waits for one federate, as a table by sender and serial
use Rattle.std.specs.Prelude.{ℕ, ◌≡◌, ◌≤◌, cond, eqb, ◌&&◌, Bool, Option, Some, None, option_map, List, [], ◌∷◌, find}
use Rattle.std.specs.List.{list_any, All}
use Rattle.hla_base.specs.declared.number.EventHandle.{EventHandle}
use Rattle.hla_callbacks.specs.declared.callback.Delivery.{Delivery}
use Rattle.hla_callbacks.specs.declared.callback.Delivery.TheVariants.{Receive, Demoted, TimeStamp}
use Rattle.hla_bags.specs.declared.bag.Waiting.{Waiting}

-- is it the message of this sender with this serial
abbrev pub is_of : ℕ → ℕ → Waiting → Bool
is_of g m w = eqb w.event.sender g && eqb w.event.serial m

-- the message of a sender with a serial
unfoldable pub waiting_at : List Waiting → ℕ → ℕ → Option Waiting
waiting_at ws g m = find (is_of g m) ws

-- no two have one sender and one serial
abbrev pub AreApart : List Waiting → Type 0
AreApart [] = Unit {0}
AreApart (w ∷ ws) = (waiting_at ws w.event.sender w.event.serial ≡ None) × AreApart ws

-- ---- lower bounds: what goes in time-stamp order has a stamp from the first on, what was moved to receive order from the second on
abbrev pub IsNotBelow : ℕ → ℕ → Delivery → Type 0
IsNotBelow ordered demoted Receive = Unit {0}
IsNotBelow ordered demoted (Demoted stamp) = demoted ≤ stamp
IsNotBelow ordered demoted (TimeStamp stamp) = ordered ≤ stamp

abbrev pub AreNotBelow : ℕ → ℕ → List Waiting → Type 0
AreNotBelow ordered demoted ws = All (λ (w : Waiting). IsNotBelow ordered demoted w.delivery) ws

-- the stamp of what goes in time-stamp order
abbrev pub ordered_stamp : Delivery → Option ℕ
ordered_stamp Receive = None
ordered_stamp (Demoted stamp) = None
ordered_stamp (TimeStamp stamp) = Some stamp

-- ---- demotion: what was sent in time-stamp order is to be given in receive order
abbrev pub demoted_delivery : Delivery → Delivery
demoted_delivery Receive = Receive
demoted_delivery (Demoted stamp) = Demoted stamp
demoted_delivery (TimeStamp stamp) = Demoted stamp

abbrev pub demoted_waiting : Waiting → Waiting
demoted_waiting w = record w { delivery = demoted_delivery w.delivery }

-- is the event in the list
abbrev pub is_listed : List EventHandle → ℕ → ℕ → Bool
is_listed events g m = list_any (λ (e : EventHandle). eqb g e.sender && eqb m e.serial) events

-- these messages are demoted
abbrev pub with_listed_demoted : List EventHandle → (ℕ → ℕ → Option Waiting) → ℕ → ℕ → Option Waiting
with_listed_demoted events table = λ g m. cond (is_listed events g m) (option_map demoted_waiting (table g m)) (table g m)
