use Rattle.std.proofs.Common.{ℕ, ◌+◌, ◌++◌, ◌∷◌, [], List, Option, Some, length, refl, sym, ap, subst, ◌∙◌, arith}
use Rattle.std.proofs.lemmas.Iterator.Adapters.{YieldsList-from_vec}
use Rattle.std.proofs.lemmas.Iterator.Consumers.{YieldsList-turn, YieldsList-end}
use Rattle.std.proofs.lemmas.List.{length_push}
use Rattle.std.proofs.lemmas.Option.{slice_get_read}
use Rattle.hla_callers.specs.Callers.{Leaver}
use Rattle.hla_in_order.specs.Turns.{HaveLeft}
use Rattle.hla_players.specs.declared.player.Player.{Player}
use Rattle.hla_in_order.proofs.LeadLemmas.{courier_left, player_left, slot_there, all_left}
use Rattle.hla_in_order.proofs.in_order.Cast.leave.Goals as goal

pub loop-slot-init : goal.loop-slot-init
loop-slot-init g c rs office set =
    courier_left rs office c.args.self c.push.new.self.items c.leave.result set (c.in-Ok.ensures.items ∙ ap (λ (xs : List Leaver). xs ++ c.leave.result ∷ []) c.new-lefts.ensures.items) (ap (λ (l : Leaver). l.caller) c.leave.ensures.left)

pub loop-slot-preserved-in-Ok-push-2 : goal.loop-slot-preserved-in-Ok-push-2
loop-slot-preserved-in-Ok-push-2 g c rs office set =
    let t = YieldsList-turn (YieldsList-from_vec {s = c.into_iter-slot-iterator.result} c.args.self.players.items (cc) (cc)) c.loop-slot.yielded c.loop-slot.slot-iterator c.loop-slot.yielded_by c.next.result c.next.new.self c.in-Some.slot c.in-Some.is c.next.ensures.steps in
    let at = slice_get_read c.args.self.players.items (length c.args.self.players.items) (length c.loop-slot.yielded) c.in-Some.slot refl t.0 t.1 in
    subst (λ (n : ℕ). HaveLeft rs c.push-in-Some-slot.new.self.items 1 (n + 2)) (sym (length_push c.loop-slot.yielded c.in-Some.slot))
    (player_left rs office c.args.self c.loop-slot.lefts.items c.push-in-Some-slot.new.self.items c.leave-in-Some-slot.result (length c.loop-slot.yielded) c.in-Some-slot.player set (c.loop-slot.invariant rs office set)
    (at ∙ ap (λ (o : Option (Player g.row.L.Denot g.row.B.Denot g.row.P.Denot g.row.H.Denot)). Some o) c.in-Some-slot.is) c.leave-in-Some-slot.ensures c.in-Ok-push.ensures.items)

pub loop-slot-preserved : goal.loop-slot-preserved
loop-slot-preserved g c rs office set n low high =
    let t = YieldsList-turn (YieldsList-from_vec {s = c.into_iter-slot-iterator.result} c.args.self.players.items (cc) (cc)) c.loop-slot.yielded c.loop-slot.slot-iterator c.loop-slot.yielded_by c.next.result c.next.new.self c.in-Some.slot c.in-Some.is c.next.ensures.steps in
    let at = slice_get_read c.args.self.players.items (length c.args.self.players.items) (length c.loop-slot.yielded) c.in-Some.slot refl t.0 t.1 in
    absurd (slot_there rs office c.args.self (length c.loop-slot.yielded) c.in-Some.slot set at c.in_default-slot.not-Some)

pub returns : goal.returns
returns g c rs office set =
    let t = YieldsList-end (YieldsList-from_vec {s = c.into_iter-slot-iterator.result} c.args.self.players.items (cc) (cc)) c.loop-slot.yielded c.loop-slot.slot-iterator c.loop-slot.yielded_by c.next.result c.next.new.self c.in-None.is c.next.ensures.steps in
    all_left rs office c.args.self c.loop-slot.lefts.items (length c.loop-slot.yielded) set (c.loop-slot.invariant rs office set) (omega (arith, t.1))
