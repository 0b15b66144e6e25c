use Rattle.std.proofs.Common.{ℕ, ◌-◌, slice_index_or, sym, ap, ◌∙◌, rules}
use Rattle.hla_null_message.specs.Wires.{WireValue, ends_with_null}
use Rattle.hla_null_message.proofs.Wires.{ends_at}
use Rattle.hla_null_message.proofs.wire.Wire.ends_with_null.Goals as goal

pub returns-in-Some : goal.returns-in-Some
returns-in-Some c =
    let ms = c.self.inside.messages.items in
    let last = c.in-Some.last.now in
    let counted = c.self.inside.messages.ok.0 in
    let same = ap (λ (w : WireValue). w.messages) c.self.view_is in
    let is = ap (λ (n : ℕ). slice_index_or ms (n - 1) last) (sym counted) ∙ sym c.in-Some.ensures.lookup in
    c.is_null_of.ensures
    ∙ ends_at c.args.epoch ms last (search rules) is
    ∙ ap (ends_with_null c.args.epoch) same
