-- The bounds of the central machine, as tests of accounts, each as 'is x at most it'
use Rattle.std.specs.Prelude.{ℕ, zero, suc, ◌+◌, ◌-◌, eqb, leb, not, length, ◌&&◌, ◌||◌, Bool, true, false, Option, Some, None, List}
use Rattle.std.specs.List.{list_all}
use Rattle.std.specs.Option.{option_map_or}
use Rattle.hla_base.specs.Limits.{forever}
use Rattle.hla_base.specs.declared.row.AdvanceKind.{AdvanceKind}
use Rattle.hla_base.specs.declared.row.AdvanceRequest.{AdvanceRequest}
use Rattle.hla_base.specs.declared.row.TimeRow.{TimeRow}
use Rattle.hla_base.specs.Rows.{next_request, width, is_regulator, reach}
use Rattle.hla_callbacks.specs.declared.callback.Delivery.{Delivery}
use Rattle.hla_callbacks.specs.declared.callback.Delivery.TheVariants.{Receive, Demoted, TimeStamp}
use Rattle.hla_retraction.specs.SentRows.{sent_of}
use Rattle.hla_bags.specs.Bags.{ordered_stamp}
use Rattle.hla_accounts.specs.declared.account.Account.{Account}
use Rattle.hla_bags.specs.declared.bag.Waiting.{Waiting}
use Rattle.hla_accounts.specs.Accounts.{account_at}

abbrev pub is_retracted : List Account → ℕ → ℕ → Bool
is_retracted accounts g m = (sent_of (account_at accounts g).sent m).retracted

-- the stamp of what was sent in time-stamp order and goes in receive order
abbrev pub demoted_stamp : Delivery → Option ℕ
demoted_stamp Receive = None
demoted_stamp (Demoted stamp) = Some stamp
demoted_stamp (TimeStamp stamp) = None

-- the least stamp of the unretracted messages that wait for f and go in time-stamp order
abbrev pub is_at_most_waiting : List Account → ℕ → Waiting → Bool
is_at_most_waiting accounts x w = is_retracted accounts w.event.sender w.event.serial || option_map_or (leb x) (ordered_stamp w.delivery) true

abbrev pub is_below_all_tso : List Account → ℕ → ℕ → Bool
is_below_all_tso accounts f x = list_all (is_at_most_waiting accounts x) (account_at accounts f).bag

-- the wake of f in a next-event request: its first pick, or else the lesser of the asked time and the least stamp
abbrev pub is_below_wake : List Account → ℕ → AdvanceRequest → Option ℕ → ℕ → Bool
is_below_wake accounts f q (Some p) x = leb x p
is_below_wake accounts f q None x = leb x q.asked && is_below_all_tso accounts f x

-- what f may send after a next-event request: from its wake on, by the width
abbrev pub is_below_request : List Account → ℕ → TimeRow → Option AdvanceRequest → ℕ → Bool
is_below_request accounts f r None v = false
is_below_request accounts f r (Some q) v = is_below_wake accounts f q r.first_pick (v - width r.lookahead q.kind)

-- what f may still send
abbrev pub is_below_out : List Account → ℕ → ℕ → Bool
is_below_out accounts f v = let r = (account_at accounts f).state in leb v r.floor || is_below_request accounts f r (next_request r) v

-- another federate is not joined, or sends nothing, or nothing below v
abbrev pub leaves_below : List Account → ℕ → ℕ → ℕ → Bool
leaves_below accounts f v g = let a = account_at accounts g in not a.is_joined || eqb g f || not (is_regulator a.state) || is_below_out accounts g v

-- so does each of the first n numbers
unfoldable pub all_leave : List Account → ℕ → ℕ → ℕ → Bool
all_leave accounts f v zero = true
all_leave accounts f v (suc n) = leaves_below accounts f v n && all_leave accounts f v n

-- the lower bound on time stamp (LBTS) of f
abbrev pub is_below_bound : List Account → ℕ → ℕ → Bool
is_below_bound accounts f v = all_leave accounts f v (length accounts + 1) && leb v forever

-- nothing can come to f any more, and nothing waits for it, before the reach of t
abbrev pub has_reached : List Account → ℕ → AdvanceKind → ℕ → Bool
has_reached accounts f kind t = is_below_bound accounts f (reach kind t) && is_below_all_tso accounts f (reach kind t)
