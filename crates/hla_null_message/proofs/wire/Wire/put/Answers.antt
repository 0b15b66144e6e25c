use Rattle.std.proofs.Common.{◌≡◌, List, false, ◌++◌, [], ◌∷◌, cond, ap, sym, ◌∙◌}
use Rattle.hla_null_message.specs.declared.message.Message.{Message}
use Rattle.hla_null_message.specs.Wires.{WireValue, put_behind}
use Rattle.hla_null_message.proofs.Wires.{put_at_end}
use Rattle.hla_null_message.proofs.wire.Wire.put.Goals as goal

pub returns-then-not-joins_last_null-clause-messages : goal.returns-then-not-joins_last_null-clause-messages
returns-then-not-joins_last_null-clause-messages c =
    let ms = c.args.self.now.messages in
    let joins : c.joins_last_null.result ≡ false = c.if-not-joins_last_null.true in
    let kept = c.joins_last_null.ensures.messages ∙ ap (λ b. cond b (put_behind c.args.message ms) ms) joins in
    c.push_back_reserved.ensures.items
    ∙ ap (λ (w : WireValue). w.messages ++ c.args.message ∷ []) c.self.view_is
    ∙ ap (λ (xs : List Message). xs ++ c.args.message ∷ []) kept
    ∙ sym (put_at_end c.args.message ms (sym c.joins_last_null.ensures.joined ∙ joins))
