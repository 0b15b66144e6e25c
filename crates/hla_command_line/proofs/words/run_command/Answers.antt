use Rattle.std.proofs.Common.{◌∙◌, ap₂}
use Rattle.std.proofs.lemmas.Result.{IfOk-weaker}
use Rattle.clap.specs.Simple.{with_rule}
use Rattle.hla_command_line.proofs.words.run_command.Goals as goal

pub returns-clause-app : goal.returns-clause-app
returns-clause-app c = IfOk-weaker c.arg.result _ _ (λ m adds. adds.shape c.watching.ensures.local ∙ ap₂ with_rule c.in-Ok.ensures.app c.watching.ensures.rule) c.arg.ensures
