use Rattle.std.proofs.Common.{arith, length, refl, sym, subst}
use Rattle.std.proofs.lemmas.Option.{slice_get_read}
use Rattle.hla_callers.specs.Close.{IsKnownUntil}
use Rattle.hla_callers.proofs.Known.{known_next, unknown_at}
use Rattle.hla_callers.proofs.locked.Locked.first_unknown.Goals as goal

pub returns-then-not-knows-clause-some : goal.returns-then-not-knows-clause-some
returns-then-not-knows-clause-some g c = (
  omega (arith, c.loop-k-test.true),
  λ there. unknown_at c.args.self.now.posted.shown c.args.lefts.now c.args.own.now c.loop-k.k c.index-lefts-k.result (slice_get_read c.args.lefts.now (length c.args.lefts.now) c.loop-k.k c.index-lefts-k.result refl (omega (arith, c.loop-k-test.true)) c.index-lefts-k.is)
      (λ known. cc (c.knows.ensures.unknown there (subst (IsKnownUntil c.args.self.now.posted.shown) (sym c.seat.ensures) known), c.if-not-knows.true)),
)

pub loop-k-preserved : goal.loop-k-preserved
loop-k-preserved g c =
    known_next c.args.self.now.held.history c.args.lefts.now c.loop-k.k c.index-lefts-k.result
    (slice_get_read c.args.lefts.now (length c.args.lefts.now) c.loop-k.k c.index-lefts-k.result refl (omega (arith, c.loop-k-test.true)) c.index-lefts-k.is) c.loop-k.invariant
    (subst (IsKnownUntil c.args.self.now.held.history) c.seat.ensures (c.knows.ensures.known (cc c.if-not-knows.false)))
