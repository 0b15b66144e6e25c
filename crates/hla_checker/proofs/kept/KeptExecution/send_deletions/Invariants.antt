use Rattle.std.proofs.Common.{◌≡◌, None, take}
use Rattle.hla_machine.specs.Directory.{deletions_sent}
use Rattle.hla_machine.specs.Sends.{after_messages}
use Rattle.hla_verdicts.specs.Kept.{IsConsistent, central_of}
use Rattle.hla_checker.proofs.kept.KeptExecution.send_deletions.Given as goal

-- the deletions of the objects so far are sent
abbrev pub invariant-loop-object : goal.invariant-loop-object
invariant-loop-object l = record {
  sent : central_of l.self ≡ after_messages (central_of l.initial.self) l.federate None (deletions_sent (take l.object-index l.objects));
  consistent : IsConsistent l.self;
}
