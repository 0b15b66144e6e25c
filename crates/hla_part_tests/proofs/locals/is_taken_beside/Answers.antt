use Rattle.std.proofs.Common.{◌∙◌, List, length, sym, ap, refl}
use Rattle.std.proofs.lemmas.Bool.{ne_eqb}
use Rattle.std.specs.Prelude.{option_copied}
use Rattle.hla_base.specs.declared.content.Event.{Event}
use Rattle.hla_base.specs.declared.number.EventHandle.{EventHandle}
use Rattle.hla_component_rules.specs.Queues.{find_event}
use Rattle.hla_part_tests.proofs.Waiting.{other_waits}
use Rattle.hla_part_tests.proofs.locals.is_taken_beside.Goals as goal

pub accept-requires-clause-may_come : goal.accept-requires-clause-may_come
accept-requires-clause-may_come c =
    let one = sym (ap (λ (hs : List EventHandle). length hs) (c.in-Ok.ensures.all refl)) ∙ sym c.in-Ok.handles.ok.0 ∙ sym c.len-count.ensures ∙ c.if-count-ne1.false in
    ap (λ (x : Event). find_event x.sender x.serial c.args.local.now.tso) c.in-Ok-new.ensures.ok
    ∙ other_waits c.args.local.now.tso c.in-Some.first.now _ _ one (sym c.first_ordered.ensures ∙ ap option_copied c.in-Some.is) (ne_eqb _ _ c.if-sender-other.false)
