-- The new message stands behind the others, none of which has its key.
use Rattle.std.proofs.Common.{◌≡◌, ◌++◌, ◌∷◌, [], List, Some, None, refl, subst, sym, ap, ◌∙◌}
use Rattle.hla_base.specs.Tables.{upd2}
use Rattle.hla_bags.specs.declared.bag.Waiting.{Waiting}
use Rattle.hla_bags.specs.Bags.{waiting_at, AreApart}
use Rattle.hla_bags.specs.Indexes.{IsIndexingOf}
use Rattle.hla_bags.proofs.Bags.Contents.{waiting_at-push, apart-push}
use Rattle.hla_bags.proofs.bag.Bag.put.Goals as goal

free : (ws value : List Waiting) (w : Waiting) → ws ≡ value → waiting_at value w.event.sender w.event.serial ≡ None → waiting_at ws w.event.sender w.event.serial ≡ None
free ws value w same none = ap (λ (vs : List Waiting). waiting_at vs w.event.sender w.event.serial) same ∙ none

apart : (ws value grown : List Waiting) (w : Waiting) → ws ≡ value → waiting_at value w.event.sender w.event.serial ≡ None → AreApart ws → grown ≡ ws ++ w ∷ [] → AreApart grown
apart ws value grown w same none was now = subst AreApart (sym now) (apart-push ws w (free ws value w same none) was)

pub invariant_of-self-2 : goal.invariant_of-self-2
invariant_of-self-2 c =
    let ws = c.self.inside.waiting in
    let w = c.args.waiting in
    let grown = c.in_ok-push.ensures in
    let kept = c.put.ensures ws w c.self.invariant (free ws c.args.self.now w c.self.view_is c.requires) refl in
    subst (λ (vs : List Waiting). IsIndexingOf vs c.put.new.self) (sym grown.ok) kept

pub returns-clause-ok : goal.returns-clause-ok
returns-clause-ok c =
    let ws = c.self.inside.waiting in
    let w = c.args.waiting in
    let grown = c.in_ok-push.ensures in
    ap waiting_at (c.note_place.ensures ∙ grown.ok) ∙ waiting_at-push ws w (free ws c.args.self.now w c.self.view_is c.requires) ∙ ap (λ (vs : List Waiting). upd2 (waiting_at vs) w.event.sender w.event.serial (Some w)) c.self.view_is

pub returns-clause-apart : goal.returns-clause-apart
returns-clause-apart c =
    let grown = c.in_ok-push.ensures in
    apart c.self.inside.waiting c.args.self.now c.note_place.new.self c.args.waiting c.self.view_is c.requires c.self.invariant.apart (c.note_place.ensures ∙ grown.ok)
