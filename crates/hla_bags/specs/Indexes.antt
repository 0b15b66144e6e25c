-- What an index of the messages that wait for one federate keeps
use Rattle.std.specs.Prelude.{ℕ, ◌≡◌, Bool, false, Option, is_some, option_map, List, length, take, drop, ◌≤◌, IfSome, MatchOption}
use Rattle.std.specs.Option.{option_map_or}
use Rattle.std.specs.BTreeMap as tree
use Rattle.std.specs.BTreeSet as sorted
use Rattle.std.specs.BTreeSet.{BTreeSet}
use Rattle.std.specs.BTreeMap.Range.{range_contains}
use Rattle.std.specs.declared.cmp.Ordering.{Ordering}
use Rattle.std.specs.declared.ops.Bound.TheVariants.{Included, Excluded}
use Rattle.std.specs.Ordering.{nat_cmp, ordering_then, is_eq}
use Rattle.hla_base.specs.declared.number.EventHandle.{EventHandle}
use Rattle.hla_callbacks.specs.declared.callback.Delivery.{Delivery}
use Rattle.hla_callbacks.specs.declared.callback.Delivery.TheVariants as delivery
use Rattle.hla_bags.specs.declared.bag.Waiting.{Waiting}
use Rattle.hla_bags.specs.declared.index.Rank.{Rank}
use Rattle.hla_bags.specs.declared.index.Rank.TheVariants.{Receive, Demoted, TimeStamp}
use Rattle.hla_bags.specs.declared.index.Key.{Key}
use Rattle.hla_bags.specs.declared.index.Name.{Name}
use Rattle.hla_bags.specs.declared.index.Index.{Index}
use Rattle.hla_bags.specs.declared.indexing.Indexing.{Indexing}
use Rattle.hla_bags.specs.Bags.{waiting_at, is_listed, AreApart, AreNotBelow}

-- ---- keys: by rank, then by stamp, sender and serial
abbrev pub rank_no : Rank → ℕ
rank_no Receive = 0
rank_no Demoted = 1
rank_no TimeStamp = 2

abbrev pub rank_of : Delivery → Rank
rank_of delivery.Receive = Receive
rank_of (delivery.Demoted stamp) = Demoted
rank_of (delivery.TimeStamp stamp) = TimeStamp

-- 0 in receive order
abbrev pub delivery_stamp : Delivery → ℕ
delivery_stamp delivery.Receive = 0
delivery_stamp (delivery.Demoted stamp) = stamp
delivery_stamp (delivery.TimeStamp stamp) = stamp

abbrev pub key_at : ℕ → ℕ → Delivery → Key
key_at g m d = record { rank = rank_of d; stamp = delivery_stamp d; sender = g; serial = m }

abbrev pub waiting_key_cmp : Key → Key → Ordering
waiting_key_cmp a b = ordering_then (nat_cmp (rank_no a.rank) (rank_no b.rank)) (ordering_then (nat_cmp a.stamp b.stamp) (ordering_then (nat_cmp a.sender b.sender) (nat_cmp a.serial b.serial)))

abbrev pub waiting_name_cmp : Name → Name → Ordering
waiting_name_cmp a b = ordering_then (nat_cmp a.sender b.sender) (nat_cmp a.serial b.serial)

-- the key is from one on and below another
abbrev pub is_key_between : Key → Key → Key → Bool
is_key_between from to k = range_contains waiting_key_cmp (Included from) (Excluded to) k

-- what goes in time-stamp order, with a stamp below a time
abbrev pub is_ordered_below : ℕ → Key → Bool
is_ordered_below time k = is_key_between (key_at 0 0 (delivery.TimeStamp 0)) (key_at 0 0 (delivery.TimeStamp time)) k

-- what was moved to receive order, with a stamp below a time
abbrev pub is_demoted_below : ℕ → Key → Bool
is_demoted_below time k = is_key_between (key_at 0 0 (delivery.Demoted 0)) (key_at 0 0 (delivery.Demoted time)) k

-- what goes in time-stamp order with this stamp, before the message of a sender with a serial
abbrev pub is_ordered_before : ℕ → ℕ → ℕ → Key → Bool
is_ordered_before g m stamp k = is_key_between (key_at 0 0 (delivery.TimeStamp stamp)) (key_at g m (delivery.TimeStamp stamp)) k

-- what goes in time-stamp order with this stamp, sent by the same sender before the message with a serial
abbrev pub is_stamped_before : ℕ → ℕ → ℕ → Key → Bool
is_stamped_before g m stamp k = is_key_between (key_at g 0 (delivery.TimeStamp stamp)) (key_at g m (delivery.TimeStamp stamp)) k

-- what was sent in receive order by the same sender, before the message with a serial
abbrev pub is_received_before : ℕ → ℕ → Key → Bool
is_received_before g m k = is_key_between (key_at g 0 delivery.Receive) (key_at g m delivery.Receive) k

-- ---- how each message is to be given, by sender and serial
abbrev pub delivery_at : List Waiting → ℕ → ℕ → Option Delivery
delivery_at ws = λ g m. option_map (λ (w : Waiting). w.delivery) (waiting_at ws g m)

-- what was found has this key
abbrev pub has_key : Key → Option Delivery → Bool
has_key k o = option_map_or (λ d. is_eq (waiting_key_cmp (key_at k.sender k.serial d) k)) o false

-- the index has the keys of these messages and no others, and a number for each of them and no others
pub record IsIndexOf (i : Index) (table : ℕ → ℕ → Option Delivery) : Type 0 where
  pub keys : (k : Key) → sorted.contains waiting_key_cmp i.keys k ≡ has_key k (table k.sender k.serial)
  pub names : (n : Name) → is_some (tree.get waiting_name_cmp i.arrivals n) ≡ is_some (table n.sender n.serial)

-- an index of the first k messages; where there is none k is 0
abbrev pub IsHead : Option Index → ℕ → List Waiting → Type 0
IsHead index k head = MatchOption index (k ≡ 0) (λ i. IsIndexOf i (delivery_at head))

-- what a bag keeps of the messages that wait: an index of the first of them, and lower bounds of the stamps of the others
pub record IsIndexingOf (ws : List Waiting) (x : Indexing) : Type 0 where
  pub apart : AreApart ws
  pub within : x.count ≤ length ws
  pub head : IsHead x.index x.count (take x.count ws)
  pub tail : AreNotBelow x.least_ordered x.least_demoted (drop x.count ws)

-- the index, where there is one, has all messages
abbrev pub IsCaughtUp : List Waiting → Indexing → Type 0
IsCaughtUp ws x = IfSome x.index (λ _. x.count ≡ length ws)

-- the set has the names of these events and no others
abbrev pub HasNamesOf : BTreeSet Name → List EventHandle → Type 0
HasNamesOf s events = (n : Name) → sorted.contains waiting_name_cmp s n ≡ is_listed events n.sender n.serial
