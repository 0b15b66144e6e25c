use Rattle.std.proofs.Common.{◌≡◌, ℕ, List, Option, arith, false, inr, length, refl, subst, true}
use Rattle.std.proofs.lemmas.Option.{slice_get_within, slice_get_read}
use Rattle.hla_in_order.specs.Turns.{IsJoinedAt}
use Rattle.hla_players.specs.declared.player.Player.{Player}
use Rattle.hla_in_order.proofs.TurnLemmas.{does_at, no_place}
use Rattle.hla_in_order.proofs.acting.act.Goals as goal

pub returns-in-Some-get_mut : goal.returns-in-Some-get_mut
returns-in-Some-get_mut g c =
    let joined = subst (λ (ps : List (Option (Player g.row.L.Denot g.row.B.Denot g.row.P.Denot g.row.H.Denot))). IsJoinedAt ps c.in-Some.place c.args.number) c.as_slice.ensures.value c.in-Some.ensures.found in
    let within = slice_get_within c.args.players.now.items c.in-Some.place joined.0 joined.1 in
    let at = slice_get_read c.args.players.now.items (length c.args.players.now.items) c.in-Some.place c.in-Some-get_mut.slot.now refl within c.in-Some-get_mut.ensures.value in
    does_at c.args.players.now.items _ c.in-Some.place c.args.number c.args.deed c.act_in.result c.in-Some-get_mut.slot.now c.act_in.new.slot joined at c.act_in.ensures refl

pub returns-in_default : goal.returns-in_default
returns-in_default g c =
    let nobody = c.place_of.ensures.none (no_place c.place_of.result c.in_default.not-Some) in
    inr (refl, refl, subst (λ (ps : List (Option (Player g.row.L.Denot g.row.B.Denot g.row.P.Denot g.row.H.Denot))). (k : ℕ) → IsJoinedAt ps k c.args.number → ⊥) c.as_slice.ensures.value nobody)

pub returns-in-None : goal.returns-in-None
returns-in-None g c =
    let joined = subst (λ (ps : List (Option (Player g.row.L.Denot g.row.B.Denot g.row.P.Denot g.row.H.Denot))). IsJoinedAt ps c.in-Some.place c.args.number) c.as_slice.ensures.value c.in-Some.ensures.found in
    let within = slice_get_within c.args.players.now.items c.in-Some.place joined.0 joined.1 in
    let clash : false ≡ true = c.in-None.ensures.variant.1 (omega (arith, within, c.args.players.now.ok.0)) in
    absurd (cc)
