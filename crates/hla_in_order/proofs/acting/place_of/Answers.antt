use Rattle.std.proofs.Common.{◌≡◌, ℕ, Option, Some, length, below_more, refl, sym, subst, ◌∙◌, arith}
use Rattle.std.proofs.lemmas.Bool.{both_ways}
use Rattle.std.proofs.lemmas.Option.{slice_get_read, slice_get_within}
use Rattle.hla_in_order.specs.Turns.{IsJoinedAs, IsJoinedAt}
use Rattle.hla_players.specs.declared.player.Player.{Player}
use Rattle.hla_in_order.proofs.acting.place_of.Goals as goal

pub loop-place-preserved : goal.loop-place-preserved
loop-place-preserved g c =
    let players = c.args.players.now in
    let place = c.loop-place.place in
    let Nobody : ℕ → Type 0 = λ k. IsJoinedAt players k c.args.number → ⊥ in
    let here : Nobody place = λ at.
    let read = slice_get_read players (length players) place c.index-players-place.result refl c.loop-place-test.true c.index-players-place.is in
    let same : at.0 ≡ c.index-players-place.result = (let both : Some at.0 ≡ Some c.index-players-place.result = sym at.1 ∙ read in cc) in
    let joined = subst (λ (o : Option (Player g.row.L.Denot g.row.B.Denot g.row.P.Denot g.row.H.Denot)). IsJoinedAs c.args.number o) same at.2 in
    both_ways c.is_joined_as.result c.if-is_joined_as.false (c.is_joined_as.ensures.1 joined) in
    below_more Nobody place c.loop-place.invariant here

pub returns-clause-none : goal.returns-clause-none
returns-clause-none g c = λ none k joined.
    let within = slice_get_within c.args.players.now k joined.0 joined.1 in
    c.loop-place.invariant k (omega (arith, within, c.loop-place-test.false)) joined
