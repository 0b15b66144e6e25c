use Rattle.std.proofs.Common.{◌≡◌, ◌||◌, ℕ, List, true, false, eqb, is_some, sym, arith}
use Rattle.std.specs.Prelude.{find}
use Rattle.std.proofs.lemmas.Bool.Decides.{nat_tests}
use Rattle.hla_catalogue.specs.Lookup.{object_lineage}
use Rattle.hla_machine.specs.Directory.{Directory}
use Rattle.hla_federation.specs.contracts.parts.Parts.{the_view}
use Rattle.hla_federation.specs.Steps.State.{state_of}
use Rattle.hla_federation.proofs.Steps.FoundObjects.{class_at}
use Rattle.hla_federation.proofs.parts.Parts.discovery_class.Goals as goal

pub returns : goal.returns
returns c =
    let d : Directory = (state_of (the_view c.self.inside)).directory in
    let f = c.args.federate in
    let h = c.args.object in
    let exists : (d.object h).exists ≡ true = cc in
    let other : eqb (d.object h).owner f ≡ false = grind (arith, nat_tests) in
    let unknown : d.known h f ≡ false = sym c.if-was_made_known.ensures in
    let served : c.serving_class_with.result ≡ find (λ k. eqb k c.args.class || is_some (d.subscribed f k)) (object_lineage d.catalogue (d.object h).class) = rw (c.class_of.ensures, ← c.self.view_is) at c.serving_class_with.ensures in
    rw (← c.self.view_is) (λ (a : List ℕ). class_at d f c.args.class h c.serving_class_with.result a exists other unknown served)
