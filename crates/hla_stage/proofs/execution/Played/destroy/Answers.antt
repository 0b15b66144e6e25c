use Rattle.std.proofs.Common.{refl, ◌∙◌}
use Rattle.hla_stage.proofs.KeepLemmas.{acted_destroy}
use Rattle.hla_stage.proofs.execution.Played.destroy.Goals as goal

pub returns-clause-ok : goal.returns-clause-ok
returns-clause-ok g c = acted_destroy c.args.self.now.creates _ _ c.args.self.now.members.items c.destroy_unless_joined-outcome.result c.script_record.result c.destroy_unless_joined-outcome.ensures (c.script_record.ensures ∙ rw c.requires refl)
