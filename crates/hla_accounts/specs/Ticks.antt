-- What a federate may be given at a tick, as tests of accounts (HLA 1.3, time management)
use Rattle.std.specs.Prelude.{ℕ, eqb, leb, ltb, not, min, length, ◌&&◌, ◌||◌, Bool, true, false, Option, List}
use Rattle.std.specs.List.{list_all}
use Rattle.std.specs.Option.{option_map_or}
use Rattle.hla_base.specs.declared.row.AdvanceRequest.{AdvanceRequest}
use Rattle.hla_base.specs.declared.row.TimeRow.{TimeRow}
use Rattle.hla_base.specs.Rows.{is_strict, is_next, is_flush, is_constrained, is_advancing, is_pending, least_of, grant_time, reach}
use Rattle.hla_base.specs.declared.number.EventHandle.{EventHandle}
use Rattle.hla_base.specs.declared.content.Content.{Content}
use Rattle.hla_base.specs.declared.content.Content.TheVariants as content
use Rattle.hla_callbacks.specs.declared.callback.Delivery.{Delivery}
use Rattle.hla_callbacks.specs.declared.callback.Delivery.TheVariants.{Receive, Demoted, TimeStamp}
use Rattle.hla_accounts.specs.declared.account.Account.{Account}
use Rattle.hla_accounts.specs.declared.offers.Offer.{Offer}
use Rattle.hla_bags.specs.declared.bag.Waiting.{Waiting}
use Rattle.hla_bags.specs.Bags.{waiting_at, is_listed, ordered_stamp}
use Rattle.hla_accounts.specs.Accounts.{account_at}
use Rattle.hla_accounts.specs.Bounds.{is_retracted, is_below_all_tso, is_below_bound, has_reached}

-- ---- in turn
-- f is to be told nothing of synchronization points, and to be asked to take no message back
abbrev pub is_nothing_due : List Account → ℕ → Bool
is_nothing_due accounts f = let a = account_at accounts f in eqb (length a.notices) 0 && eqb (length a.due) 0

-- f does not wait for a grant, or does so constrained and not in a flush
abbrev pub is_advance_held : List Account → ℕ → Bool
is_advance_held accounts f = let r = (account_at accounts f).state in option_map_or (λ (q : AdvanceRequest). is_constrained r && not (is_flush q.kind)) r.advance true

-- a tick may give f nothing
abbrev pub may_tick_in_vain : List Account → ℕ → Bool
may_tick_in_vain accounts f = is_nothing_due accounts f && not (is_pending (account_at accounts f).state.regulating) && is_advance_held accounts f

-- ---- grants
-- a flush is granted a time that nothing picked up or waiting is below, and at least the least of what it asked for, its bar, and what
-- it picked up
abbrev pub is_flush_granted : List Account → ℕ → AdvanceRequest → ℕ → Bool
is_flush_granted accounts f q t = let r = (account_at accounts f).state in
    leb r.time t && leb t q.asked && option_map_or (leb t) r.flushed true && leb (least_of (min q.asked r.bar) r.flushed) t && is_below_bound accounts f t && is_below_all_tso accounts f t

-- by whether the federate is constrained and whether it flushes
abbrev pub is_granted_as : Bool → Bool → List Account → ℕ → AdvanceRequest → ℕ → Bool
is_granted_as false flush accounts f q t = eqb t q.asked
is_granted_as true true accounts f q t = is_flush_granted accounts f q t
is_granted_as true false accounts f q t = eqb t (grant_time (account_at accounts f).state q) && has_reached accounts f q.kind t

-- f may be granted t
abbrev pub may_grant : List Account → ℕ → ℕ → Bool
may_grant accounts f t = let r = (account_at accounts f).state in option_map_or (λ q. is_granted_as (is_constrained r) (is_flush q.kind) accounts f q t) r.advance false

-- ---- messages
abbrev pub may_receive : TimeRow → Bool
may_receive r = not (is_constrained r) || is_advancing r || r.asynchronous

abbrev pub is_sent_in_receive_order : Delivery → Bool
is_sent_in_receive_order Receive = true
is_sent_in_receive_order (Demoted stamp) = false
is_sent_in_receive_order (TimeStamp stamp) = false

-- a message is no earlier one of the same sender in receive order
abbrev pub is_not_earlier : ℕ → ℕ → Waiting → Bool
is_not_earlier g m w = not (is_sent_in_receive_order w.delivery && eqb w.event.sender g && ltb w.event.serial m)

abbrev pub is_first_ro : List Account → ℕ → ℕ → ℕ → Bool
is_first_ro accounts f g m = list_all (is_not_earlier g m) (account_at accounts f).bag

-- a message is no earlier one of the same sender in time-stamp order with this stamp
abbrev pub is_not_earlier_of_stamp : ℕ → ℕ → ℕ → Waiting → Bool
is_not_earlier_of_stamp g m s w = option_map_or (λ x. not (eqb x s)) (ordered_stamp w.delivery) true || not (eqb w.event.sender g && ltb w.event.serial m)

abbrev pub is_first_of_stamp : List Account → ℕ → ℕ → ℕ → ℕ → Bool
is_first_of_stamp accounts f g m s = list_all (is_not_earlier_of_stamp g m s) (account_at accounts f).bag

-- a next-event request takes only stamps equal to its first pick
abbrev pub is_at_first_pick : TimeRow → AdvanceRequest → ℕ → Bool
is_at_first_pick r q s = not (is_next q.kind) || option_map_or (eqb s) r.first_pick true

-- of events with one stamp, g's with serial m is not behind h's with serial n
abbrev pub is_key_le : ℕ → ℕ → ℕ → ℕ → Bool
is_key_le g m h n = ltb g h || (eqb g h && leb m n)

-- a message does not go before g's with serial m and stamp s
abbrev pub is_not_before : List Account → ℕ → ℕ → ℕ → Waiting → Bool
is_not_before accounts g m s w =
    is_retracted accounts w.event.sender w.event.serial || option_map_or (λ x. not (eqb x s)) (ordered_stamp w.delivery) true || is_key_le g m w.event.sender w.event.serial

abbrev pub is_first_key : List Account → ℕ → ℕ → ℕ → ℕ → Bool
is_first_key accounts f g m s = list_all (is_not_before accounts g m s) (account_at accounts f).bag

-- a message does not go before g's with serial m and stamp s, nor is it an earlier one of g with this stamp
abbrev pub is_behind : List Account → ℕ → ℕ → ℕ → Waiting → Bool
is_behind accounts g m s w = is_not_before accounts g m s w && is_not_earlier_of_stamp g m s w

-- all that waits for f is behind
abbrev pub is_first_in_turn : List Account → ℕ → ℕ → ℕ → ℕ → Bool
is_first_in_turn accounts f g m s = list_all (is_behind accounts g m s) (account_at accounts f).bag

-- of equal stamps a strict request takes the least key
abbrev pub is_least_key : List Account → ℕ → AdvanceRequest → ℕ → ℕ → ℕ → Bool
is_least_key accounts f q g m s = not (is_strict q.kind) || is_first_key accounts f g m s

-- what an advance picks up in time-stamp order
abbrev pub may_pick : List Account → ℕ → AdvanceRequest → ℕ → ℕ → ℕ → Bool
may_pick accounts f q g m s =
    not (is_retracted accounts g m) && leb s q.asked && is_at_first_pick (account_at accounts f).state q s
    && is_below_bound accounts f (reach q.kind s) && is_below_all_tso accounts f s && is_least_key accounts f q g m s

-- a flush picks up all that is not in the federate's past
abbrev pub may_pick_as : Bool → List Account → ℕ → AdvanceRequest → ℕ → ℕ → ℕ → Bool
may_pick_as true accounts f q g m s = leb (account_at accounts f).state.time s
may_pick_as false accounts f q g m s = may_pick accounts f q g m s

-- f may pick up g's message with serial m and stamp s in time-stamp order, if it waits so
abbrev pub may_pick_now : List Account → ℕ → ℕ → ℕ → ℕ → Bool
may_pick_now accounts f g m s = option_map_or (λ q. may_pick_as (is_flush q.kind) accounts f q g m s) (account_at accounts f).state.advance false

-- and none of g's earlier messages with this stamp waits for f
abbrev pub may_pick_in_turn : List Account → ℕ → ℕ → ℕ → ℕ → Bool
may_pick_in_turn accounts f g m s = may_pick_now accounts f g m s && is_first_of_stamp accounts f g m s

-- no discovery of the object waits
abbrev pub has_no_offer : List Offer → ℕ → Bool
has_no_offer offers object = list_all (λ (o : Offer). not (eqb o.discovery.object object)) offers

-- the discovery of what a message speaks of was given before
abbrev pub is_discovered : List Account → ℕ → Content → Bool
is_discovered accounts f (content.Interaction class values) = true
is_discovered accounts f (content.Reflection object values) = has_no_offer (account_at accounts f).offers object
is_discovered accounts f (content.Removal object) = has_no_offer (account_at accounts f).offers object

-- f may be given g's message with serial m and this content; waits says whether it waits to be given so
abbrev pub may_deliver : List Account → ℕ → ℕ → ℕ → Content → Delivery → Bool → Bool
may_deliver accounts f g m x Receive waits = may_receive (account_at accounts f).state && is_discovered accounts f x && waits && is_first_ro accounts f g m
may_deliver accounts f g m x (Demoted stamp) waits = may_receive (account_at accounts f).state && is_discovered accounts f x && waits
may_deliver accounts f g m x (TimeStamp stamp) waits = is_constrained (account_at accounts f).state && is_discovered accounts f x && waits && may_pick_in_turn accounts f g m stamp

-- ---- becoming constrained
-- the event waits in time-stamp order, with a stamp below the time
abbrev pub is_moved_below : ℕ → Option Waiting → Bool
is_moved_below t o = option_map_or (λ (w : Waiting). option_map_or (λ s. ltb s t) (ordered_stamp w.delivery) false) o false

-- a message is among the events if it waits in time-stamp order, is not retracted, and has a stamp below the time
abbrev pub is_among_if_below : List Account → ℕ → List EventHandle → Waiting → Bool
is_among_if_below accounts t events w =
    is_retracted accounts w.event.sender w.event.serial || option_map_or (λ s. not (ltb s t)) (ordered_stamp w.delivery) true || is_listed events w.event.sender w.event.serial

abbrev pub are_below : List Account → ℕ → ℕ → List EventHandle → Bool
are_below accounts f t events =
    list_all (λ (e : EventHandle). is_moved_below t (waiting_at (account_at accounts f).bag e.sender e.serial)) events && list_all (is_among_if_below accounts t events) (account_at accounts f).bag

abbrev pub may_constrain : List Account → ℕ → ℕ → List EventHandle → Bool
may_constrain accounts f t events = let r = (account_at accounts f).state in
    eqb t r.time && is_pending r.constrained && not (is_pending r.regulating) && is_below_bound accounts f t && are_below accounts f t events
