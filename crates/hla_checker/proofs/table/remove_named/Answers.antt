use Rattle.std.proofs.Common.{not, rules}
use Rattle.std.specs.Str.{bytes_eq}
use Rattle.std.proofs.lemmas.Fn.{filter_same}
use Rattle.hla_checker.specs.declared.table.NamedExecution.{NamedExecution}
use Rattle.hla_checker.proofs.table.remove_named.Goals as goal

pub returns : goal.returns
returns c = filter_same _ (λ (x : NamedExecution). not (bytes_eq c.args.name.now x.name)) _ (λ h b f called. search rules) _ _ c.retain.ensures.filtered
