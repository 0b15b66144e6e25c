use Rattle.std.proofs.Common.{◌≡◌, []}
use Rattle.std.proofs.lemmas.List.Elements.{All-same, All-drop}
use Rattle.hla_outcomes.proofs.joining.Ambassadors.take_first.Goals as goal

pub invariant_of-self : goal.invariant_of-self
invariant_of-self g c =
    let P : g.row.B.Denot → Type 0 = λ b. g.B.FederateAmbassador.heard b ≡ [] in
    All-same P _ _ c.pop_front.ensures.rest (All-drop P 1 _ c.self.invariant)
