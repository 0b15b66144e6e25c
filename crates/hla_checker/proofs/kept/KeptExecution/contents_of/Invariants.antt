use Rattle.std.proofs.Common.{◌≡◌, ◌+◌, length}
use Rattle.hla_verdicts.specs.Kept.{directory_of}
use Rattle.hla_checker.specs.Sending.{body_said, AreContents}
use Rattle.hla_checker.proofs.kept.KeptExecution.contents_of.Given as goal

-- what it says to those so far, and that it says the same still
abbrev pub invariant-loop-federate : goal.invariant-loop-federate
invariant-loop-federate l = record {
  next : l.federate ≡ length l.contents.items + 1;
  said : AreContents (directory_of l.self) (body_said l.initial.body) (length l.contents.items) l.contents.items;
  kept : body_said l.body ≡ body_said l.initial.body;
}
