use Rattle.hla_progress.proofs.Computed.{granted_in_the_second_round, granted_in_the_fourth_round, never_granted}
use Rattle.hla_progress.proofs.examples.in_rounds.Goals as goal

pub returns : goal.returns
returns c = record { fourth = granted_in_the_fourth_round; held = never_granted; second = granted_in_the_second_round }
