-- So far those that were passed stand behind the controls, and there is room for the others.
use Rattle.std.proofs.Common.{◌≡◌, ◌≤◌, ◌+◌, ◌++◌, length, map, take}
use Rattle.std.specs.VecDeque.{deque_len, deque_capacity}
use Rattle.hla_component_rules.specs.declared.control.Control.TheVariants.{ToTell}
use Rattle.hla_local.proofs.telling.put_notices.Given as goal

abbrev pub invariant-loop-notice : goal.invariant-loop-notice
invariant-loop-notice l = record {
  put : l.controls.items ≡ l.initial.controls.items ++ map ToTell (take l.notice-index l.notices);
  room : deque_len l.controls + length l.notices ≤ deque_capacity l.controls + l.notice-index;
}
