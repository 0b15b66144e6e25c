-- What services and wires may answer, as tests of accounts (HLA 1.3, time management)
use Rattle.std.specs.Prelude.{ℕ, zero, suc, ◌+◌, ◌≤◌, ◌⊎◌, length, eqb, leb, not, ◌&&◌, ◌||◌, Bool, true, false, Option, List, [], ◌∷◌}
use Rattle.std.specs.List.{list_all, list_any}
use Rattle.std.specs.Option.{option_map_or}
use Rattle.hla_base.specs.declared.number.EventHandle.{EventHandle}
use Rattle.hla_base.specs.Limits.{max_time}
use Rattle.hla_base.specs.Rows.{is_constrained, is_regulator, is_enabled, next_request, bar_of}
use Rattle.hla_base.specs.Tables.{greatest, is_other}
use Rattle.hla_retraction.specs.SentRows.{sent_of}
use Rattle.hla_machine.specs.declared.step.Carried.{Carried}
use Rattle.hla_machine.specs.declared.step.Carried.TheVariants as carried
use Rattle.hla_machine.specs.Machine.{is_removal}
use Rattle.hla_accounts.specs.declared.account.Account.{Account}
use Rattle.hla_accounts.specs.declared.offers.Offer.{Offer}
use Rattle.hla_bags.specs.declared.bag.Waiting.{Waiting}
use Rattle.hla_bags.specs.Bags.{waiting_at, is_listed, ordered_stamp}
use Rattle.hla_accounts.specs.Accounts.{account_at}
use Rattle.hla_accounts.specs.Bounds.{is_retracted, demoted_stamp, is_below_all_tso, is_below_wake, is_below_bound, is_below_out}

-- ---- queries
-- Query LBTS: at most the bound, and for a constrained federate at least its bar
abbrev pub may_bound : List Account → ℕ → ℕ → Bool
may_bound accounts f v = let r = (account_at accounts f).state in is_below_bound accounts f v && (not (is_constrained r) || leb r.bar v)

-- v is at most the stamp of a message, if it was moved to receive order and is not retracted
abbrev pub is_at_most_demoted : List Account → ℕ → Waiting → Bool
is_at_most_demoted accounts v w = is_retracted accounts w.event.sender w.event.serial || option_map_or (leb v) (demoted_stamp w.delivery) true

abbrev pub is_below_all_demoted : List Account → ℕ → ℕ → Bool
is_below_all_demoted accounts f v = list_all (is_at_most_demoted accounts v) (account_at accounts f).bag

-- Query Minimum Next Event Time
abbrev pub may_be_next : List Account → ℕ → ℕ → Bool
may_be_next accounts f v = let r = (account_at accounts f).state in
    is_below_bound accounts f v && is_below_all_tso accounts f v && (is_constrained r || is_below_all_demoted accounts f v) && (not (is_constrained r) || leb r.time v)

-- ---- ceasing to be constrained
-- what was found waits in time-stamp order
abbrev pub waits_in_order : Option Waiting → Bool
waits_in_order o = option_map_or (λ (w : Waiting). option_map_or (λ s. true) (ordered_stamp w.delivery) false) o false

abbrev pub may_cease : List Account → ℕ → List EventHandle → Bool
may_cease accounts f events = list_all (λ (e : EventHandle). waits_in_order (waiting_at (account_at accounts f).bag e.sender e.serial)) events

-- no event is there twice
abbrev pub are_distinct : List EventHandle → Bool
are_distinct [] = true
are_distinct (e ∷ es) = not (is_listed es e.sender e.serial) && are_distinct es

-- ---- wires
-- what was found is a removal, or else it is none
abbrev pub is_carried : Bool → Option Waiting → Bool
is_carried true o = option_map_or (λ (w : Waiting). is_removal w.content) o false
is_carried false o = option_map_or (λ (w : Waiting). not (is_removal w.content)) o false

-- a discovery of the object from g waits
abbrev pub is_offered : List Offer → ℕ → ℕ → Bool
is_offered offers g object = list_any (λ (o : Offer). eqb o.from g && eqb o.discovery.object object) offers

-- ---- promises
-- at most what f may still send, and at least its floor
abbrev pub may_announce : List Account → ℕ → ℕ → Bool
may_announce accounts f v = let r = (account_at accounts f).state in is_regulator r && leb r.floor v && is_below_out accounts f v

-- what was taken from the wire from g to f
abbrev pub may_carry : List Account → ℕ → ℕ → Carried → Bool
may_carry accounts g f carried.Nothing = true
may_carry accounts g f (carried.Null bound) = true
may_carry accounts g f (carried.Event e) = eqb e.sender g && is_carried false (waiting_at (account_at accounts f).bag e.sender e.serial)
may_carry accounts g f (carried.Removal e) = eqb e.sender g && is_carried true (waiting_at (account_at accounts f).bag e.sender e.serial)
may_carry accounts g f (carried.Retraction e) = eqb e.sender g && is_listed (account_at accounts f).owed g e.serial
may_carry accounts g f (carried.Discovery object) = is_offered (account_at accounts f).offers g object

-- ---- the entry of a newcomer among the regulators
-- e is at most the wake of g, another regulating constrained federate in a next-event request
abbrev pub is_below_wake_of : List Account → ℕ → ℕ → ℕ → Bool
is_below_wake_of accounts f e g = let a = account_at accounts g in
    a.is_joined && not (eqb g f) && is_enabled a.state.regulating && option_map_or (λ q. is_below_wake accounts g q a.state.first_pick e) (next_request a.state) false

-- it is so of one of the first n numbers
unfoldable pub is_below_some_wake : List Account → ℕ → ℕ → ℕ → Bool
is_below_some_wake accounts f e zero = false
is_below_some_wake accounts f e (suc n) = is_below_wake_of accounts f e n || is_below_some_wake accounts f e n

-- at least its own time and lookahead and every bar, and above them at most some other's wake
abbrev pub may_enter : List Account → ℕ → ℕ → ℕ → Bool
may_enter accounts f earliest e = let low = greatest (length accounts + 1) earliest (λ g. bar_of (account_at accounts g).state) in
    leb low e && (leb e low || is_below_some_wake accounts f e (length accounts + 1))

-- what bounds an entry: the greatest of a time and of all bars, or the largest time
pub record IsEntryWithin (accounts : List Account) (earliest e : ℕ) : Type 0 where
  pub above : earliest ≤ e
  pub low : (x : ℕ) → earliest ≤ x → max_time + 1 ≤ x → greatest (length accounts + 1) earliest (λ g. bar_of (account_at accounts g).state) ≤ x
  pub below : (e ≤ greatest (length accounts + 1) earliest (λ g. bar_of (account_at accounts g).state)) ⊎ (e ≤ max_time)

-- ---- retraction
-- the retraction of g's message with serial m goes to f: f is joined, is not g, and the message was sent to it
abbrev pub is_told_of : List Account → ℕ → ℕ → ℕ → Bool
is_told_of accounts g m f = is_other (λ k. (account_at accounts k).is_joined) g f && (sent_of (account_at accounts g).sent m).receivers f
