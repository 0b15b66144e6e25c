use Rattle.std.proofs.Common.{sym, ap, ◌∙◌}
use Rattle.std.specs.Prelude.{option_copied}
use Rattle.hla_component_rules.specs.declared.picked.Picked.TheVariants as picked
use Rattle.hla_local.proofs.Foreseen.{ordered_ahead}
use Rattle.hla_local.proofs.local.Local.next_picked.Goals as goal

pub returns-in_ok-copy-in-Some-first_ordered-clause-ok : goal.returns-in_ok-copy-in-Some-first_ordered-clause-ok
returns-in_ok-copy-in-Some-first_ordered-clause-ok c =
    ap picked.Ordered c.in_ok-copy-in-Some-first_ordered.ensures.ok
    ∙ sym (ordered_ahead c.args.self.now c.in-Some-first_ordered.event.now (sym c.next_pick.ensures ∙ c.in-Ordered.is) (sym c.first_ordered.ensures ∙ ap option_copied c.in-Some-first_ordered.is))
