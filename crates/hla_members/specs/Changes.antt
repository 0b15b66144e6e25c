-- What services change of the components of federates
use Rattle.std.specs.Prelude.{ℕ, ◌+◌, ◌*◌, ◌≡◌, ◌≤◌, ◌<◌, ◌++◌, [], cond, eqb, min, false, Bool}
use Rattle.hla_base.specs.Limits.{max_time, max_enablings, largest_number}
use Rattle.hla_base.specs.declared.row.Role.TheVariants.{Disabled, Pending}
use Rattle.hla_base.specs.Rows.{is_constrained, bar_of, row_after_request, row_with_entry}
use Rattle.hla_base.specs.Tables.{forever, upd, is_other}
use Rattle.hla_lbts.specs.Peers.{PeersValue, peers_of}
use Rattle.hla_component_rules.specs.LocalValue.{LocalValue}
use Rattle.hla_component_rules.specs.Promising.{entry_for}
use Rattle.hla_members.specs.declared.change.Change.{Change}
use Rattle.hla_members.specs.declared.change.Change.TheVariants as change

-- ---- one component, where that takes no memory
abbrev pub changed_local : Change → LocalValue → LocalValue
changed_local (change.Request kind asked) l = record l { row = row_after_request l.row kind asked }
changed_local change.AskConstraint l = record l { row = record l.row { constrained = Pending } }
changed_local (change.SetLookahead lookahead) l = record l { row = record l.row { lookahead = lookahead } }
changed_local (change.SetAsynchronousDelivery is_on) l = record l { row = record l.row { asynchronous = is_on } }
changed_local (change.RegulateFrom lookahead entry) l = record l { row = row_with_entry l.row lookahead entry; last_announced = entry; epoch = l.epoch + 1 }
changed_local change.CeaseRegulation l = record l { row = record l.row { regulating = Disabled }; last_announced = forever }
changed_local (change.Announce bound) l = record l { last_announced = bound }

-- an entry that a federate may regulate from
pub record MayRegulate (l : LocalValue) (lookahead entry : ℕ) : Type 0 where
  pub small : lookahead ≤ max_time
  pub within : entry ≤ 2 * max_time
  pub above : lookahead ≤ entry
  pub start : is_constrained l.row ≡ false → entry ≤ max_time + lookahead
  pub few : l.row.enablings < max_enablings
  pub epochs : l.epoch < largest_number

-- the numbers of the change are within their limits
abbrev pub MayChange : Change → LocalValue → Type 0
MayChange (change.Request kind asked) l = asked ≤ max_time
MayChange (change.SetLookahead lookahead) l = lookahead ≤ max_time
MayChange (change.RegulateFrom lookahead entry) l = MayRegulate l lookahead entry
MayChange c l = Unit {0}

-- what waits in stamp order is given in receive order from now on
abbrev pub local_unconstrained : LocalValue → LocalValue
local_unconstrained l = record l { row = record l.row { constrained = Disabled }; tso = []; ro = l.ro ++ l.tso }

-- ---- a federate f begins to regulate, in an epoch and from an entry on
abbrev pub peers_lowered : ℕ → ℕ → ℕ → PeersValue → PeersValue
peers_lowered f epoch entry p = record { bound = upd p.bound f (min (p.bound f) entry); known_epoch = upd p.known_epoch f epoch }

-- each other joined federate learns of it
abbrev pub AreLowered : ℕ → ℕ → ℕ → (ℕ → Bool) → (ℕ → LocalValue) → (ℕ → LocalValue) → Type 0
AreLowered f epoch entry joined old new =
    (g : ℕ) → (new g ≡ record (old g) { peers = (new g).peers })
    × (peers_of (new g).peers ≡ cond (is_other joined f g) (peers_lowered f epoch entry (peers_of (old g).peers)) (peers_of (old g).peers))

-- ---- where a federate may begin to regulate
abbrev pub entry_by : (ℕ → LocalValue) → ℕ → ℕ → ℕ
entry_by local f g = cond (eqb f g) (bar_of (local g).row) (entry_for (local g).row (local g).last_announced)
