use Rattle.std.proofs.Common.{◌∙◌, [], inr, subst, sym}
use Rattle.std.proofs.lemmas.List.{append-nil}
use Rattle.hla_players.specs.Deeds.{caller_of}
use Rattle.hla_run.specs.Recorded.{AddsCall, IsPlayerAs}
use Rattle.hla_players.specs.declared.player.Player.{Player}
use Rattle.hla_run.proofs.AnswerLemmas.{added_call_of, added_deed, added_ticks, nothing_spent}
use Rattle.hla_run.proofs.RecordLemmas.{player_stays, unjoined}
use Rattle.hla_run.proofs.life.do_call.Goals as goal

pub returns-in-Tick-clause-same : goal.returns-in-Tick-clause-same
returns-in-Tick-clause-same g c = λ execution f before.
    let was = subst (λ (p : Player g.row.L.Denot g.row.B.Denot g.row.P.Denot g.row.H.Denot). IsPlayerAs execution f p) c.in-Joined.is before in
    (c.tick_until_called-outcome.ensures.execution ∙ was.0, c.tick_until_called-outcome.ensures.federate ∙ was.1)

pub returns-in-Tick-clause-added : goal.returns-in-Tick-clause-added
returns-in-Tick-clause-added g c = λ execution f before.
    let was = subst (λ (p : Player g.row.L.Denot g.row.B.Denot g.row.P.Denot g.row.H.Denot). IsPlayerAs execution f p) c.in-Joined.is before in
    let m = c.in-Joined.federate in
    let catalogue = c.args.stage.now.catalogue.now in
    let new = c.tick_until_called-outcome.new.federate.caller in
    let own = added_ticks catalogue m.execution m.federate c.args.call.now c.tick_until_called-outcome.result m.caller new c.in-Tick.ensures c.tick_until_called-outcome.ensures.added in
    let adds : AddsCall catalogue execution f c.args.call.now c.tick_until_called-outcome.result (caller_of c.args.player) new =
    rw c.in-Joined.is (added_call_of catalogue m.execution execution m.federate f c.args.call.now c.tick_until_called-outcome.result m.caller new was.0 was.1 own) in
    adds

pub returns-in_default : goal.returns-in_default
returns-in_default g c =
    let m = c.in-Joined.federate in
    let catalogue = c.args.stage.now.catalogue.now in
    let new = c.do_deed.result.player in
    record {
      same = λ execution f before. player_stays execution f m c.of.result c.do_deed.result.outcome new c.do_deed.ensures.done c.do_deed.ensures.gone (subst (λ (p : Player g.row.L.Denot g.row.B.Denot g.row.P.Denot g.row.H.Denot). IsPlayerAs execution f p) c.in-Joined.is before);
      added = λ execution f before.
          let was = subst (λ (p : Player g.row.L.Denot g.row.B.Denot g.row.P.Denot g.row.H.Denot). IsPlayerAs execution f p) c.in-Joined.is before in
          let own = added_deed catalogue c.args.call.now m c.of.result c.do_deed.result.outcome new c.in_default.not-Tick c.of.ensures c.do_deed.ensures.done in
          let adds : AddsCall catalogue execution f c.args.call.now c.do_deed.result.outcome (caller_of c.args.player) (caller_of new) =
          rw c.in-Joined.is (added_call_of catalogue m.execution execution m.federate f c.args.call.now c.do_deed.result.outcome m.caller (caller_of new) was.0 was.1 own) in
          adds;
    }

pub returns-in-Gone-clause-added : goal.returns-in-Gone-clause-added
returns-in-Gone-clause-added g c = λ execution f before.
    let gone = subst (λ (p : Player g.row.L.Denot g.row.B.Denot g.row.P.Denot g.row.H.Denot). IsPlayerAs execution f p) c.in-Gone.is before in
    let left = c.in-Gone.left.caller in
    let catalogue = c.args.stage.now.catalogue.now in
    rw c.in-Gone.is ([], nothing_spent catalogue execution f c.args.call.now, inr (sym (append-nil left.transcript), unjoined catalogue left.transcript execution f c.args.call.now gone))

pub returns-in-Gone-clause-same : goal.returns-in-Gone-clause-same
returns-in-Gone-clause-same g c = λ execution f before. subst (λ (p : Player g.row.L.Denot g.row.B.Denot g.row.P.Denot g.row.H.Denot). IsPlayerAs execution f p) c.in-Gone.is before
