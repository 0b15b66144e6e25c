use Rattle.std.proofs.Common.{not, rules}
use Rattle.std.specs.Str.{bytes_eq}
use Rattle.std.proofs.lemmas.Fn.{filter_same}
use Rattle.hla_history.specs.Hosting.{HostedValue}
use Rattle.hla_shared.proofs.creating.remove_named.Goals as goal

pub returns : goal.returns
returns g c = filter_same _ (λ (h : HostedValue). not (bytes_eq c.args.name.now h.name)) _ (λ h b f called. search rules) _ _ c.retain.ensures.filtered
