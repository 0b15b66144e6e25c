use Rattle.std.proofs.Common.{◌≡◌, ◌∙◌, sym}
use Rattle.std.proofs.lemmas.List.{map-id}
use Rattle.std.proofs.lemmas.Iterator.Adapters.{YieldsList-from_vec}
use Rattle.std.proofs.lemmas.Iterator.Consumers.{YieldsList-end}
use Rattle.hla_players.specs.Deeds.{caller_of}
use Rattle.hla_run.proofs.RecordLemmas.{gathered_all_of, gathered_more, pair_behind}
use Rattle.hla_run.proofs.StrangerLemmas.{calls_more, calls_of}
use Rattle.hla_run.proofs.TurnLemmas.{callers_more, callers_of, turns_more, turns_of}
use Rattle.hla_run.proofs.runner.gather_all.Goals as goal

pub loop-life-preserved : goal.loop-life-preserved
loop-life-preserved g c = record {
  each = c.gather.ensures.each ∙ c.loop-life.invariant.each;
  recorded = gathered_more c.loop-life.yielded c.in-Some.life c.loop-life.lefts.items c.gather.new.lefts.items c.args.outcomes.now c.loop-life.outcomes c.gather.new.outcomes c.loop-life.invariant.recorded c.gather.ensures.told
      (pair_behind c.loop-life.lefts.items c.gather.new.lefts.items (caller_of c.in-Some.life.player) c.in_ok-gather.ensures.left);
  calls = calls_more c.loop-life.yielded c.in-Some.life c.args.outcomes.now c.loop-life.outcomes c.gather.new.outcomes c.loop-life.invariant.calls c.gather.ensures.told;
  turns = turns_more c.loop-life.yielded c.in-Some.life c.loop-life.lefts.items c.gather.new.lefts.items c.loop-life.outcomes c.gather.new.outcomes c.loop-life.invariant.turns c.gather.ensures.told c.in_ok-gather.ensures.whole
      (pair_behind c.loop-life.lefts.items c.gather.new.lefts.items (caller_of c.in-Some.life.player) c.in_ok-gather.ensures.left);
  callers = callers_more c.loop-life.yielded c.in-Some.life c.loop-life.lefts.items c.gather.new.lefts.items c.loop-life.invariant.callers c.in_ok-gather.ensures.whole c.in_ok-gather.ensures.left;
}

pub returns-clause-recorded : goal.returns-clause-recorded
returns-clause-recorded g c =
    let lives = c.args.lives.items in
    let given = YieldsList-end (YieldsList-from_vec {s = c.into_iter-life-iterator.result} lives (cc) (cc)) c.loop-life.yielded c.loop-life.life-iterator c.loop-life.yielded_by c.next.result c.next.new.self c.in-None.is c.next.ensures.steps in
    let all : c.loop-life.yielded ≡ lives = sym (map-id c.loop-life.yielded) ∙ given.0 in
    gathered_all_of c.loop-life.yielded lives c.loop-life.lefts.items c.args.outcomes.now c.loop-life.outcomes all c.loop-life.invariant.recorded

pub returns-clause-calls : goal.returns-clause-calls
returns-clause-calls g c =
    let lives = c.args.lives.items in
    let given = YieldsList-end (YieldsList-from_vec {s = c.into_iter-life-iterator.result} lives (cc) (cc)) c.loop-life.yielded c.loop-life.life-iterator c.loop-life.yielded_by c.next.result c.next.new.self c.in-None.is c.next.ensures.steps in
    let all : c.loop-life.yielded ≡ lives = sym (map-id c.loop-life.yielded) ∙ given.0 in
    calls_of c.loop-life.yielded lives c.args.outcomes.now c.loop-life.outcomes all c.loop-life.invariant.calls

pub returns-clause-turns : goal.returns-clause-turns
returns-clause-turns g c =
    let lives = c.args.lives.items in
    let given = YieldsList-end (YieldsList-from_vec {s = c.into_iter-life-iterator.result} lives (cc) (cc)) c.loop-life.yielded c.loop-life.life-iterator c.loop-life.yielded_by c.next.result c.next.new.self c.in-None.is c.next.ensures.steps in
    let all : c.loop-life.yielded ≡ lives = sym (map-id c.loop-life.yielded) ∙ given.0 in
    turns_of c.loop-life.yielded lives c.loop-life.lefts.items c.loop-life.outcomes all c.loop-life.invariant.turns

pub returns-clause-callers : goal.returns-clause-callers
returns-clause-callers g c =
    let lives = c.args.lives.items in
    let given = YieldsList-end (YieldsList-from_vec {s = c.into_iter-life-iterator.result} lives (cc) (cc)) c.loop-life.yielded c.loop-life.life-iterator c.loop-life.yielded_by c.next.result c.next.new.self c.in-None.is c.next.ensures.steps in
    let all : c.loop-life.yielded ≡ lives = sym (map-id c.loop-life.yielded) ∙ given.0 in
    callers_of c.loop-life.yielded lives c.loop-life.lefts.items all c.loop-life.invariant.callers
