-- What the functions that do the lines one after another say of each other
use Rattle.std.specs.Prelude.{map, ◌≡◌, ◌⊎◌, ◌+◌, ◌≤◌, ◌<◌, ℕ, List, [], ◌++◌, length, Option, None, Some, codes, slice_get, slice_set}
use Rattle.std.specs.Io.KnownBytes.{Appends}
use Rattle.hla_base.specs.declared.fault.Fault.TheVariants as fault
use Rattle.hla_catalogue.specs.CatalogueValue.{CatalogueValue}
use Rattle.hla_commands.specs.declared.lines.Command.{Command}
use Rattle.hla_commands.specs.declared.lines.Line.{Line}
use Rattle.hla_machine.specs.declared.step.Outcome.{Outcome}
use Rattle.hla_machine.specs.declared.step.Outcome.TheVariants as outcome
use Rattle.hla_machine.specs.declared.step.Record.{Record}
use Rattle.hla_callers.specs.Callers.{Caller, FederateCaller, Leaver, Office}
use Rattle.hla_requests.specs.declared.members.NamedFederate.{NamedFederate}
use Rattle.hla_requests.specs.declared.steps.Request.{Request}
use Rattle.hla_requests.specs.declared.steps.Request.TheVariants as request
use Rattle.hla_requests.specs.Members.{members, with_change, with_create, change_of}
use Rattle.hla_in_order.specs.InOrder.{RequestEnds, LineComesOut, Does, callers, HasJust}
use Rattle.hla_outcomes.specs.Running.{told_text, IsCutText}
use Rattle.hla_in_order.specs.declared.in_order.Cast.{Cast}
use Rattle.hla_in_order.specs.Players.{Stand, IsBook}
use Rattle.hla_players.specs.Deeds.{DoesDeed, IsGoneBy}
use Rattle.hla_players.specs.declared.player.Player.{Player}
use Rattle.hla_players.specs.declared.player.Player.TheVariants as player
use Rattle.hla_players.specs.declared.player.Deed.{Deed}
use Rattle.hla_outcomes.specs.declared.fault.RunFault.{RunFault}
use Rattle.hla_outcomes.specs.declared.fault.RunFault.TheVariants as stop

-- ---- a federate among those of a script
-- the federate of a number is here, joined
abbrev pub IsJoinedAs : {L B P H : Type 0} → ℕ → Option (Player L B P H) → Type 0
IsJoinedAs f None = ⊥
IsJoinedAs f (Some (player.Joined m)) = m.federate ≡ f
IsJoinedAs f (Some (player.Gone l)) = ⊥

-- it is at this place
abbrev pub IsJoinedAt : {L B P H : Type 0} → List (Option (Player L B P H)) → ℕ → ℕ → Type 0
IsJoinedAt {L = L} {B = B} {P = P} {H = H} players k f = (p : Option (Player L B P H)) × (slice_get players k ≡ Some p) × IsJoinedAs f p

-- nobody is here that is joined
abbrev pub IsUnjoined : {L B P H : Type 0} → Option (Player L B P H) → Type 0
IsUnjoined slot = (m : FederateCaller) → slot ≡ Some (player.Joined m) → ⊥

-- the federate that is here has done a deed, and is gone only by that; or none is here that is joined
abbrev pub DoesIn : {L B P H : Type 0} → Option (Player L B P H) → Deed → Outcome → Option (Player L B P H) → Type 0
DoesIn {L = L} {B = B} {P = P} {H = H} old what out new =
    ((m : FederateCaller) × (p : Player L B P H) × (old ≡ Some (player.Joined m)) × DoesDeed m what out p × IsGoneBy what out p × (new ≡ Some p))
    ⊎ ((out ≡ outcome.Refused fault.FederateNotExecutionMember) × (new ≡ old) × IsUnjoined old)

-- the federate of a number has done a deed, at its place; or there is none that is joined
abbrev pub DoesAt : {L B P H : Type 0} → List (Option (Player L B P H)) → ℕ → Deed → Outcome → List (Option (Player L B P H)) → Type 0
DoesAt {L = L} {B = B} {P = P} {H = H} old f what out new =
    ((k : ℕ) × (m : FederateCaller) × (p : Player L B P H) × (slice_get old k ≡ Some (Some (player.Joined m))) × (m.federate ≡ f) × DoesDeed m what out p × IsGoneBy what out p × (new ≡ slice_set old k (Some p)))
    ⊎ ((out ≡ outcome.Refused fault.FederateNotExecutionMember) × (new ≡ old) × ((k : ℕ) → IsJoinedAt old k f → ⊥))

-- ---- the callers behind a step
-- what was asked has come out behind some records, and the callers stand behind them and the record that it adds
abbrev pub Led : {L B P H : Type 0} → List ℕ → List Record → Request → Outcome → Caller → Caller → List (Option (Player L B P H)) → Type 0
Led fed rs asked out own courier players = (added : List Record) × (RequestEnds fed rs asked out added × Stand (rs ++ added) own courier players)

-- those who joined, after an outcome of what was asked
abbrev pub members_noted : List NamedFederate → Request → Outcome → List NamedFederate
members_noted ms request.Create out = with_create ms out
members_noted ms request.Destroy out = ms
members_noted ms (request.Step s) out = with_change ms (change_of s) out

-- ---- what all leave behind
-- the caller of this number is among them, with its part of these records
abbrev pub HasLeft : List Record → List Leaver → ℕ → Type 0
HasLeft rs lefts n = (j : ℕ) × (l : Leaver) × (slice_get lefts j ≡ Some l) × IsBook rs n l.caller

-- the callers from one number on up to another are
abbrev pub HaveLeft : List Record → List Leaver → ℕ → ℕ → Type 0
HaveLeft rs lefts low high = (n : ℕ) → low ≤ n → n < high → HasLeft rs lefts n

-- ---- the functions
-- all callers stand behind these records
pub record IsSet {L B P H : Type 0} (rs : List Record) (office : Office) (cast : Cast L B P H) : Type 0 where
  pub stands : Stand rs office.own cast.courier cast.players.items
  pub counts : office.handed ≡ length cast.players.items + 1
  pub plays : cast.execution ≡ codes "play"

-- what was asked leads from any records behind which all stand to those with the record that it adds
abbrev pub RequestLeads : {L B P H : Type 0} → List ℕ → Request → Outcome → Office → Cast L B P H → Office → Cast L B P H → Type 0
RequestLeads fed asked out office cast office' cast' =
    (rs : List Record) → IsSet rs office cast → (added : List Record) × RequestEnds fed rs asked out added × IsSet (rs ++ added) office' cast'

-- the same of a line, with those who have joined
abbrev pub LineLeads : {L B P H : Type 0} → CatalogueValue → List ℕ → Command → Outcome → Office → Cast L B P H → Office → Cast L B P H → Type 0
LineLeads c fed command out office cast office' cast' =
    (rs : List Record) → IsSet rs office cast → cast.members.items ≡ members rs
    → (added : List Record) × LineComesOut c fed rs command out added × IsSet (rs ++ added) office' cast' × (cast'.members.items ≡ members (rs ++ added))

-- lines have led from no records to some behind which all stand, and came out so
pub record HaveLed {L B P H : Type 0} (c : CatalogueValue) (fed : List ℕ) (lines : List Line) (told : List (Option Outcome)) (office : Office) (cast : Cast L B P H) : Type 0 where
  pub outcomes : List Outcome
  pub records : List Record
  pub does : Does c fed [] lines outcomes records
  pub tells : told ≡ map (λ o. Some o) outcomes
  pub set : IsSet records office cast
  pub joined : cast.members.items ≡ members records

-- the same, and all have left
pub record HaveEnded (c : CatalogueValue) (fed : List ℕ) (lines : List Line) (told : List (Option Outcome)) (office : Office) (lefts : List Leaver) : Type 0 where
  pub outcomes : List Outcome
  pub records : List Record
  pub does : Does c fed [] lines outcomes records
  pub tells : told ≡ map (λ o. Some o) outcomes
  pub own : IsBook records 0 office.own
  pub left : HaveLeft records lefts 1 (callers records)
  pub counts : office.handed + 1 ≡ callers records

-- lines have done so and were told, and the history has just their records of each caller
pub record AreDone (c : CatalogueValue) (fed : List ℕ) (lines : List Line) (old new : Option (List ℕ)) (history : List Record) : Type 0 where
  pub outcomes : List Outcome
  pub records : List Record
  pub does : Does c fed [] lines outcomes records
  pub kept : HasJust history records
  pub writes : Appends old new (told_text c lines (map (λ o. Some o) outcomes))

-- lines have done so, and how they came out was written as is said of that text
pub record AreDoneAs (c : CatalogueValue) (fed : List ℕ) (lines : List Line) (IsWritten : List ℕ → Type 0) : Type 0 where
  pub outcomes : List Outcome
  pub records : List Record
  pub does : Does c fed [] lines outcomes records
  pub writes : IsWritten (told_text c lines (map (λ o. Some o) outcomes))

-- how lines end in order that do not end well, once both texts are read and there are ambassadors enough
abbrev pub StopsDoing : CatalogueValue → List ℕ → List Line → Option (List ℕ) → Option (List ℕ) → RunFault → Type 0
StopsDoing c fed lines old new (stop.Fed e) = ⊥
StopsDoing c fed lines old new (stop.Script e) = ⊥
StopsDoing c fed lines old new stop.Ambassadors = ⊥
StopsDoing c fed lines old new stop.Write = AreDoneAs c fed lines (IsCutText old new)
StopsDoing c fed lines old new stop.Memory = Appends old new []
StopsDoing c fed lines old new (stop.Close e) = AreDoneAs c fed lines (Appends old new)
StopsDoing c fed lines old new stop.Monitor = AreDoneAs c fed lines (Appends old new)
