-- The messages of an outbox, by the federate that each is for
use Rattle.std.specs.Prelude.{ℕ, zero, suc, ◌+◌, ◌≡◌, ◌≤◌, eqb, List, [], ◌∷◌, filter, map, length, get_or}
use Rattle.hla_base.specs.Limits.{max_joins}
use Rattle.hla_null_message.specs.declared.message.Message.{Message}
use Rattle.hla_members.specs.declared.addressed.Addressed.{Addressed}

-- those for one
abbrev pub messages_for : ℕ → List Addressed → List Message
messages_for peer addressed = map (λ (a : Addressed). a.message) (filter (λ (a : Addressed). eqb a.peer peer) addressed)

-- those for each of so many, by number from one on
unfoldable pub lists_from : ℕ → ℕ → List Addressed → List (List Message)
lists_from zero peer addressed = []
lists_from (suc n) peer addressed = messages_for peer addressed ∷ lists_from n (peer + 1) addressed

-- those for each that may join
abbrev pub by_peer : List Addressed → List (List Message)
by_peer addressed = lists_from max_joins 1 addressed

-- how many there are for each
abbrev pub AreCounted : List ℕ → List Addressed → Type 0
AreCounted counts addressed = (g : ℕ) → g ≤ max_joins → get_or counts g 0 ≡ length (messages_for g addressed)
