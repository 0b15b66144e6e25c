use Rattle.std.proofs.Common.{◌∙◌, ap, ap₂}
use Rattle.std.proofs.lemmas.Result.{IfOk-weaker}
use Rattle.clap.specs.Simple.{app_of_fields, with_rule}
use Rattle.hla_command_line.proofs.words.script_command.Goals as goal

pub returns-clause-app : goal.returns-clause-app
returns-clause-app c =
    let with_fed = c.in_ok-arg.ensures.shape c.file.ensures.local ∙ ap₂ with_rule (ap app_of_fields c.about.ensures ∙ c.new.ensures.app) c.file.ensures.rule in
    IfOk-weaker c.arg-2.result _ _ (λ m adds. adds.shape c.file-2.ensures.local ∙ ap₂ with_rule with_fed c.file-2.ensures.rule) c.arg-2.ensures
