use Rattle.std.proofs.Common.{◌≡◌, Bool, cond, true, false, refl, ap, sym, ◌∙◌}
use mir.Val.{bool_byte}
use Rattle.hla_federation.specs.Steps.State.{state_of}
use Rattle.hla_federation.proofs.Steps.Updates.{sum_is, length-update}
use Rattle.hla_federation.proofs.parts.Parts.count_parts.Goals as goal

byte_is : (b : Bool) → bool_byte b ≡ cond b 1 0
byte_is true = refl
byte_is false = refl

pub returns-clause-count : goal.returns-clause-count
returns-clause-count c =
    sum_is c.from.result c.from-2.result _ _
    (c.from.ensures ∙ byte_is c.has_order-received.result ∙ ap (λ (b : Bool). cond b 1 0) c.has_order-received.ensures)
    (c.from-2.ensures ∙ byte_is c.has_order-stamped.result ∙ ap (λ (b : Bool). cond b 1 0) c.has_order-stamped.ensures)
    ∙ sym (length-update (state_of c.args.self.now).directory c.args.object c.args.values.now)
