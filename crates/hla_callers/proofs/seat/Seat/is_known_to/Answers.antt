use Rattle.std.proofs.Common.{◌≡◌, ◌==◌, ◌∙◌, true, false, List, [], length, ap, subst, sym}
use mathlib.Core.List.{IsPrefix}
use Rattle.hla_machine.specs.declared.step.Record.{Record}
use Rattle.hla_callers.specs.Callers.{Caller}
use Rattle.hla_callers.specs.Close.{IsKnownUntil}
use Rattle.hla_callers.proofs.Known.{last_known}
use Rattle.hla_callers.proofs.seat.Seat.is_known_to.Goals as goal

-- a list with a length that is not zero is not empty
has_some : (rs : List Record) → false ≡ (length rs == 0) → rs ≡ [] → ⊥
has_some rs some none = let clash : false ≡ true = some ∙ ap (λ (xs : List Record). length xs == 0) none in cc

pub returns-in-Some-clause-unknown : goal.returns-in-Some-clause-unknown
returns-in-Some-clause-unknown g c known =
    let own : Caller = record { number = c.self.inside.number; transcript = c.self.inside.transcript.items; share = c.self.inside.share.amount; until = c.self.inside.until } in
    let (h, told, begins) = last_known c.args.board.now.shown own (has_some c.self.inside.transcript.items (c.if-is_empty.ensures ∙ ap (λ (rs : List Record). length rs == 0) c.as_slice.ensures.value)) (subst (IsKnownUntil c.args.board.now.shown) (sym c.self.view_is) known) in
    let same : h ≡ c.in-Some.told = cc (told, c.in-Some.is) in
    c.begins_with.ensures.1 (subst (λ (x : List Record). IsPrefix x c.args.board.now.shown) same begins)

pub returns-in-None-clause-unknown : goal.returns-in-None-clause-unknown
returns-in-None-clause-unknown g c known =
    let own : Caller = record { number = c.self.inside.number; transcript = c.self.inside.transcript.items; share = c.self.inside.share.amount; until = c.self.inside.until } in
    let (h, told, begins) = last_known c.args.board.now.shown own (has_some c.self.inside.transcript.items (c.if-is_empty.ensures ∙ ap (λ (rs : List Record). length rs == 0) c.as_slice.ensures.value)) (subst (IsKnownUntil c.args.board.now.shown) (sym c.self.view_is) known) in
    absurd (cc (told, c.in-None.is))
