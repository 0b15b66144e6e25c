use Rattle.std.proofs.Common.{◌≡◌, ◌∙◌, true, ap, ap₂}
use Rattle.std.proofs.lemmas.Result.{IfOk-weaker}
use Rattle.clap.specs.Simple.{App, app_of, app_of_fields, on_top, with_subcommand}
use Rattle.hla_command_line.specs.Words.{command_line}
use Rattle.hla_command_line.proofs.words.command.Goals as goal

pub returns : goal.returns
unfolding command_line
returns c =
    let top_is : app_of c.subcommand_required.result ≡ _ =
    ap app_of_fields c.subcommand_required.ensures ∙ ap (on_top (λ s. record s { subcommand_required = true })) (ap app_of_fields c.about.ensures ∙ c.new.ensures.app) in
    let with_play = c.in_ok-command.ensures.shape c.in_ok-play.ensures.local ∙ ap₂ with_subcommand top_is (ap (λ (a : App). a.top) c.in_ok-play.ensures.app) in
    let with_check = c.in_ok-command-2.ensures.shape c.in-Ok.ensures.local ∙ ap₂ with_subcommand with_play (ap (λ (a : App). a.top) c.in-Ok.ensures.app) in
    let with_run = c.in_ok-command-3.ensures.shape c.in-Ok-run_command.ensures.local ∙ ap₂ with_subcommand with_check (ap (λ (a : App). a.top) c.in-Ok-run_command.ensures.app) in
    IfOk-weaker c.subcommand-4.result _ _ (λ m adds. adds.shape c.in-Ok-fed_command.ensures.local ∙ ap₂ with_subcommand with_run (ap (λ (a : App). a.top) c.in-Ok-fed_command.ensures.app)) c.subcommand-4.ensures
