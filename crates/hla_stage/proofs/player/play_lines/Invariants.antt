use Rattle.std.proofs.Common.{◌≡◌, take, codes, option_map}
use Rattle.hla_stage.specs.Playing.{IsPlayedAs}
use Rattle.hla_stage.specs.Keeping.{standing, IsKept}
use Rattle.hla_stage.proofs.player.play_lines.Given as goal

abbrev pub invariant-loop-line : goal.invariant-loop-line
invariant-loop-line g l = record {
  name : l.execution.name ≡ codes "play";
  catalogue : l.execution.catalogue ≡ l.fn.catalogue;
  kept : IsKept l.records.items (standing l.execution.creates (option_map g.F.Execution.value l.execution.federation)) l.execution.members.items;
  played : IsPlayedAs l.fn.is_whole l.fn.catalogue (take l.line-index l.line-items) (g.W.Write.contents l.fn.out.inner) (g.W.Write.contents l.out.inner) l.records.items;
  sound : l.out.has_failed ≡ l.fn.out.has_failed;
}
