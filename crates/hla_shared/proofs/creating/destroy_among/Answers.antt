use Rattle.std.proofs.Common.{refl, ap}
use Rattle.hla_machine.specs.declared.step.Record.{Record}
use Rattle.hla_shared.proofs.Executions.Creations.{destroyed_hosts, destroyed_tags}
use Rattle.hla_shared.proofs.creating.destroy_among.Goals as goal

pub returns-in_ok-made-in-None-clause-hosts : goal.returns-in_ok-made-in-None-clause-hosts
returns-in_ok-made-in-None-clause-hosts g c =
    destroyed_hosts c.args.counts.now.creates c.args.counts.now.present _ _ c.args.executions.now.items _ c.args.name _
    c.remove_named.ensures refl c.saturating_sub-counts.ensures (ap (λ (r : Record). r.outcome) c.in_ok-made-in-None.ensures.record)

pub returns-in_ok-made-in-None-clause-tags : goal.returns-in_ok-made-in-None-clause-tags
returns-in_ok-made-in-None-clause-tags g c =
    destroyed_tags c.args.executions.now.items _ c.args.name _ c.remove_named.ensures (ap (λ (r : Record). r.outcome) c.in_ok-made-in-None.ensures.record)
