use Rattle.std.proofs.Common.{◌∙◌}
use Rattle.hla_requests.proofs.MemberLemmas.{one_left, one_stayed}
use Rattle.hla_requests.proofs.members.resign.Goals as goal
use Rattle.hla_requests.proofs.members.resign.Goals.{then-member-federate, else-member-federate}

pub loop-member-preserved : goal.loop-member-preserved
loop-member-preserved c =
    let xs = c.args.members.now in
    let ys = c.loop-member.members in
    let i = c.loop-member.member-index in
    let m = c.member-item.result in
    elim c.if-member-federate.branch [
      | then-member-federate w ↦ w.members-is ∙ one_left c.args.federate xs ys i m c.loop-member-test.true c.loop-member.invariant c.member-item.is w.if-member-federate.true
      | else-member-federate w ↦ w.members-is ∙ one_stayed c.args.federate xs ys i m c.loop-member-test.true c.loop-member.invariant c.member-item.is w.if-member-federate.false
    ]
