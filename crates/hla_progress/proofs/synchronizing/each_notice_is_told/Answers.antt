use Rattle.hla_progress.proofs.Telling.Controls.{told_in_turn}
use Rattle.hla_progress.proofs.synchronizing.each_notice_is_told.Goals as goal

pub returns : goal.returns
returns c = λ s steps f ahead behind n member at few. told_in_turn f n steps s ahead behind member at few
