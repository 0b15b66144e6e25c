-- Nobody has the number 0.
use Rattle.std.proofs.Common.{◌∙◌}
use Rattle.hla_members.proofs.Tidings.{none_left_out}
use Rattle.hla_members.proofs.members.Members.joined.Goals as goal

pub returns : goal.returns
returns c = c.joined_but.ensures ∙ none_left_out c.args.self.now.shown
