use Rattle.std.proofs.Common.{ap}
use Rattle.hla_history.specs.Creating.{is_accepted}
use Rattle.hla_shared.proofs.Heard.Ears.{cleared, cleared_tags}
use Rattle.hla_shared.proofs.seating.unseat.Goals as goal

pub returns-in-Some-clause-heard : goal.returns-in-Some-clause-heard
returns-in-Some-clause-heard g c =
    cleared c.args.ears.now.items c.args.federate c.ear_out.new.place (is_accepted c.args.answer.now) c.ear_out.ensures.after (ap is_accepted c.in-Done.is)

pub returns-in-Some-clause-tags : goal.returns-in-Some-clause-tags
returns-in-Some-clause-tags g c =
    cleared_tags c.args.ears.now.items c.args.federate c.ear_out.new.place (is_accepted c.args.answer.now) c.ear_out.ensures.after (ap is_accepted c.in-Done.is)
