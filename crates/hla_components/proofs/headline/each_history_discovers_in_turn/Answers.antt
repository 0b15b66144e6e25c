use Rattle.hla_components.proofs.Discovered.Histories.{history_in_turn}
use Rattle.hla_components.proofs.headline.each_history_discovers_in_turn.Goals as goal

pub returns : goal.returns
returns c = λ records x next. history_in_turn records x next
