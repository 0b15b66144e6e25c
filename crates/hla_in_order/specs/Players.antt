-- What is seen of the callers of a script behind some records
use Rattle.std.specs.Prelude.{◌≡◌, ◌+◌, ◌≤◌, ℕ, List, [], ◌∷◌, Option, None, Some, codes}
use Rattle.hla_machine.specs.declared.step.Record.{Record}
use Rattle.hla_history.specs.Closing.{records_by}
use Rattle.hla_callers.specs.Callers.{Caller}
use Rattle.hla_in_order.specs.InOrder.{HasResigning, callers, entrants}
use Rattle.hla_players.specs.Deeds.{caller_of}
use Rattle.hla_players.specs.declared.player.Player.{Player}
use Rattle.hla_players.specs.declared.player.Player.TheVariants as player

-- while it is joined it is the federate of this number in the execution, and where it is gone, that has resigned
abbrev pub IsAs : {L B P H : Type 0} → ℕ → Player L B P H → Type 0
IsAs f (player.Joined m) = (m.federate ≡ f) × (m.execution ≡ codes "play")
IsAs f (player.Gone l) = HasResigning l.caller.transcript f

-- the caller has this number, and its transcript is its part of these records
abbrev pub IsBook : List Record → ℕ → Caller → Type 0
IsBook rs n c = (c.number ≡ n) × (c.transcript ≡ records_by n rs)

abbrev pub IsPlayer : {L B P H : Type 0} → List Record → ℕ → ℕ → Option (Player L B P H) → Type 0
IsPlayer rs n f (Some p) = IsBook rs n (caller_of p) × IsAs f p
IsPlayer rs n f None = ⊥

-- they are the federates of these numbers, and as callers are numbered from this number on
abbrev pub ArePlayers : {L B P H : Type 0} → List Record → ℕ → List ℕ → List (Option (Player L B P H)) → Type 0
ArePlayers rs n [] [] = Unit {0}
ArePlayers rs n [] (p ∷ ps) = ⊥
ArePlayers rs n (f ∷ fs) [] = ⊥
ArePlayers rs n (f ∷ fs) (p ∷ ps) = IsPlayer rs n f p × ArePlayers rs (n + 1) fs ps

-- all callers behind these records: the infrastructure itself, the courier and the federates
pub record Stand {L B P H : Type 0} (rs : List Record) (own courier : Caller) (players : List (Option (Player L B P H))) : Type 0 where
  pub itself : IsBook rs 0 own
  pub carrier : IsBook rs 1 courier
  pub federates : ArePlayers rs 2 (entrants rs) players
  pub others : (n : ℕ) → callers rs ≤ n → records_by n rs ≡ []
