use Rattle.std.proofs.Common.{◌≡◌, ℕ, ◌-◌, ◌++◌, [], ◌∷◌, set, true, ap, sym, ◌∙◌}
use Rattle.hla_null_message.specs.Wires.{WireValue, ends_with_null, without_last_null}
use Rattle.hla_null_message.specs.declared.message.Message.TheVariants as message
use Rattle.hla_null_message.proofs.Wires.{renewed}
use Rattle.hla_null_message.proofs.wire.Wire.renew_last_null.Goals as goal

pub returns-clause-messages : goal.returns-clause-messages
returns-clause-messages c =
    let ms = c.self.inside.messages.items in
    let n = message.Null c.args.epoch c.args.bound in
    let same = ap (λ (w : WireValue). w.messages) c.self.view_is in
    let ends : ends_with_null c.args.epoch ms ≡ true = ap (ends_with_null c.args.epoch) same ∙ sym c.ends_with_null.ensures ∙ c.if-not-ends_with_null.false in
    ap (λ (k : ℕ). set ms (k - 1) n) (c.len-last.ensures ∙ c.self.inside.messages.ok.0)
    ∙ renewed c.args.epoch ms n ends
    ∙ ap (λ (xs : _). without_last_null c.args.epoch xs ++ n ∷ []) same
