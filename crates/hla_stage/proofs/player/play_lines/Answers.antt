use Rattle.std.specs.Prelude.{not, ◌&&◌}
use Rattle.std.proofs.Common.{refl, Bool, true, false, ◌||◌, ◌≡◌, ◌++◌, ◌∷◌, [], ◌+◌, List, take, sym, ◌∙◌, ap, subst}
use Rattle.std.proofs.lemmas.List.{take_more, take_all}
use Rattle.hla_commands.specs.declared.lines.Line.{Line}
use Rattle.hla_stage.specs.Playing.{IsPlayedAs, IsLeftAt, IsLeftIn}
use Rattle.hla_stage.proofs.PlayLemmas.{played_nothing, played_more}
use Rattle.hla_stage.proofs.KeepLemmas.{keeps_nothing, follows_kept}
use Rattle.hla_stage.proofs.BreakLemmas.{left_at, left_first, left_in_line}
use Rattle.hla_stage.proofs.player.play_lines.Goals as goal

or_none : (b : Bool) → (b || false) ≡ b
or_none true = refl
or_none false = refl

goes_on : (whole remembered : Bool) → (whole && not remembered) ≡ false → whole ≡ true → remembered ≡ true
goes_on true true none is = refl
goes_on true false none is = sym none
goes_on false b none is = cc

pub loop-line-init : goal.loop-line-init
loop-line-init g c = record {
  name = c.new-execution.ensures.name ∙ c.in-Ok.ensures.ok;
  catalogue = c.new-execution.ensures.catalogue;
  kept = rw (c.no_records-records.ensures, c.new-execution.ensures.creates, c.new-execution.ensures.federation, c.new-execution.ensures.members) keeps_nothing;
  played = rw c.no_records-records.ensures (played_nothing c.args.is_whole c.args.catalogue (g.W.Write.contents c.args.out.now.inner));
  sound = refl;
}

pub loop-line-preserved : goal.loop-line-preserved
loop-line-preserved g c =
    let items = c.as_slice-line-items.result.now in
    let i = c.loop-line.line-index in
    let line : Line = c.line-item.result in
    let kept = c.loop-line.invariant in
    let more : take (i + 1) items ≡ take i items ++ line ∷ [] = take_more items i line c.loop-line-test.true ∙ ap (λ (l : Line). take i items ++ l ∷ []) (sym c.line-item.is) in
    record {
      name = c.in-Ok-play_line.ensures.name ∙ kept.name;
      catalogue = c.in-Ok-play_line.ensures.catalogue ∙ kept.catalogue;
      kept = c.in-Ok-play_line.ensures.kept;
      played = rw more
          (played_more c.args.is_whole c.in-Ok-play_line.is_remembered (goes_on c.args.is_whole c.in-Ok-play_line.is_remembered (sym c.ends_play.ensures ∙ c.if-ends_play.false)) c.args.catalogue c.loop-line.execution.catalogue (take i items) line c.loop-line.records.items _ c.clear.new.self c.play_line.new.text c.as_slice.result.now _ _ _ kept.catalogue c.clear.ensures kept.played c.in-Ok-play_line.ensures.answered
          c.as_slice.ensures c.in-Ok-write_whole.ensures.ok);
      sound = c.in-Ok-write_whole.ensures.failure ∙ or_none _ ∙ kept.sound;
    }

pub returns-clause-played : goal.returns-clause-played
returns-clause-played g c =
    let items = c.as_slice-line-items.result.now in
    let all : take c.loop-line.line-index items ≡ c.args.script.now = take_all c.loop-line.line-index items c.loop-line-test.false ∙ c.as_slice-line-items.ensures in
    let played = subst (λ (ls : List Line). IsPlayedAs c.args.is_whole c.args.catalogue ls (g.W.Write.contents c.args.out.now.inner) (g.W.Write.contents c.loop-line.out.inner) c.loop-line.records.items) all c.loop-line.invariant.played in
    rw c.without_spare_room.ensures played

pub returns-in_default-play_line-clause-failure : goal.returns-in_default-play_line-clause-failure
returns-in_default-play_line-clause-failure g c = c.loop-line.invariant.sound ∙ sym (or_none _)

pub returns-clause-failure : goal.returns-clause-failure
returns-clause-failure g c = c.loop-line.invariant.sound ∙ sym (or_none _)

pub returns-in_default-clause-broken : goal.returns-in_default-clause-broken
returns-in_default-clause-broken g c = left_first c.args.is_whole c.args.catalogue c.args.script.now _

pub returns-in_default-play_line-clause-broken : goal.returns-in_default-play_line-clause-broken
returns-in_default-play_line-clause-broken g c =
    subst (λ (ls : List Line). IsLeftAt c.args.is_whole c.args.catalogue ls (g.W.Write.contents c.args.out.now.inner) (g.W.Write.contents c.loop-line.out.inner)) c.as_slice-line-items.ensures
    (left_at c.args.is_whole c.args.catalogue c.as_slice-line-items.result.now c.loop-line.line-index c.loop-line.records.items _ _ c.loop-line.invariant.played (follows_kept _ _ _ c.loop-line.invariant.kept))

pub returns-then-ends_play-clause-broken : goal.returns-then-ends_play-clause-broken
returns-then-ends_play-clause-broken g c =
    subst (λ (ls : List Line). IsLeftAt c.args.is_whole c.args.catalogue ls (g.W.Write.contents c.args.out.now.inner) (g.W.Write.contents c.loop-line.out.inner)) c.as_slice-line-items.ensures
    (left_at c.args.is_whole c.args.catalogue c.as_slice-line-items.result.now c.loop-line.line-index c.loop-line.records.items _ _ c.loop-line.invariant.played (follows_kept _ _ _ c.loop-line.invariant.kept))

pub returns-in_default-write_whole-clause-broken : goal.returns-in_default-write_whole-clause-broken
returns-in_default-write_whole-clause-broken g c =
    let items = c.as_slice-line-items.result.now in
    let i = c.loop-line.line-index in
    let line : Line = c.line-item.result in
    let kept = c.loop-line.invariant in
    let more : take (i + 1) items ≡ take i items ++ line ∷ [] = take_more items i line c.loop-line-test.true ∙ ap (λ (l : Line). take i items ++ l ∷ []) (sym c.line-item.is) in
    subst (λ (ls : List Line). IsLeftIn c.args.is_whole c.args.catalogue ls (g.W.Write.contents c.args.out.now.inner) (g.W.Write.contents c.write_whole.new.out.inner)) c.as_slice-line-items.ensures
    (left_in_line c.args.is_whole c.in-Ok-play_line.is_remembered c.args.catalogue c.loop-line.execution.catalogue items i line c.loop-line.records.items _ c.clear.new.self c.play_line.new.text c.as_slice.result.now _ _ _
    kept.catalogue c.clear.ensures more kept.played (follows_kept _ _ _ kept.kept) c.in-Ok-play_line.ensures.answered (follows_kept _ _ _ c.in-Ok-play_line.ensures.kept) c.as_slice.ensures c.in_default-write_whole.ensures.err)
