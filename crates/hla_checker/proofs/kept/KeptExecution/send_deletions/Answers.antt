use Rattle.std.proofs.Common.{◌≤◌, ℕ, arith, refl, sym, subst, ◌∙◌}
use Rattle.hla_base.specs.Limits.{max_serial}
use Rattle.hla_verdicts.specs.Kept.{central_of}
use Rattle.hla_checker.proofs.Verdicts.Deletions.{deletions_joined, deletions_serial, deletions_more}
use Rattle.hla_checker.proofs.kept.KeptExecution.send_deletions.Goals as goal

pub send-requires-clause-joined : goal.send-requires-clause-joined
send-requires-clause-joined c =
    deletions_joined (central_of c.args.self.now) (central_of c.loop-object.self) c.args.federate c.args.objects.now c.loop-object.object-index (omega arith) c.loop-object.invariant.sent ∙ c.requires.joined

pub send-requires-clause-room : goal.send-requires-clause-room
send-requires-clause-room c =
    subst (λ (n : ℕ). n ≤ max_serial) (sym (deletions_serial (central_of c.args.self.now) (central_of c.loop-object.self) c.args.federate c.args.objects.now c.loop-object.object-index (omega arith) c.loop-object.invariant.sent))
    (c.requires.room c.loop-object.object-index (omega arith))

pub loop-object-preserved : goal.loop-object-preserved
loop-object-preserved c = record {
  sent = deletions_more (central_of c.args.self.now) (central_of c.loop-object.self) c.args.federate c.args.objects.now c.loop-object.object-index (omega arith) c.loop-object.invariant.sent
      (central_of c.send.new.self) _ _ refl c.in_ok-send.ensures.sent;
  consistent = c.in_ok-send.ensures.consistent;
}
