-- The block at the place of the separator keeps one half.
use Rattle.std.proofs.Common.{◌≡◌, Some, sym, ap, ◌∙◌}
use Rattle.std.specs.BTreeMap.{is_at}
use Rattle.std.proofs.lemmas.Map.Steps.{set_value_same}
use Rattle.hla_order_queues.specs.Kept.{key_cmp, block_at, set_block}
use Rattle.hla_order_queues.proofs.UnderSeparators.PlacesLemmas.{there_is, now_is}
use Rattle.hla_order_queues.proofs.separators.Separators.halve.Goals as goal
use Rattle.hla_order_queues.proofs.separators.Separators.halve.Goals.{in-Ok, in-Err}

pub split-requires : goal.split-requires
split-requires c =
    let there = c.in_ok-block.ensures.value ∙ there_is c.args.separator c.in_ok-place.field-0.now c.self.invariant c.self.view_is c.in_ok-place.ensures.value in
    rw (← there) at c.requires

pub returns : goal.returns
returns c =
    let there : Some c.in_ok-block.block.now ≡ block_at c.args.separator c.args.self.now = c.in_ok-block.ensures.value ∙ there_is c.args.separator c.in_ok-place.field-0.now c.self.invariant c.self.view_is c.in_ok-place.ensures.value in
    let now = now_is c.args.separator c.in_ok-place.field-0.now c.split.new.self c.self.invariant c.self.view_is c.in_ok-place.ensures.value in
    elim c.match-split.branch [
      | in-Ok w ↦
          rw w.result-is (record {
            block = c.in_ok-block.block.now;
            lesser = c.split.new.self;
            was = sym there;
            parts = w.in-Ok.ensures.ok;
            kept = w.in-Ok.ensures.kept;
            given = w.in-Ok.ensures.middle;
            now = now;
          })
      | in-Err w ↦
          rw w.result-is (now ∙ ap (set_block c.args.separator c.args.self.now) w.in-Err.ensures.err ∙ set_value_same (is_at (key_cmp c.args.separator)) c.args.self.now c.in_ok-block.block.now (sym there))
    ]
