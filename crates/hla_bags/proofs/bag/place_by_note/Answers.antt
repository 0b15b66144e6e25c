-- What stands at the place that was noted has the name, and no other has it.
use Rattle.std.proofs.Common.{sym, ◌∙◌}
use Rattle.hla_bags.proofs.Bags.Places.{stands_there}
use Rattle.hla_bags.proofs.bag.place_by_note.Goals as goal

pub returns-in-Some : goal.returns-in-Some
returns-in-Some c = sym (stands_there c.args.waiting.now c.args.event.sender c.args.event.serial c.requires c.in-Some.noted (sym c.stands_at.ensures ∙ c.if-stands_at.true))
