-- What tests of a discovery tell
use Rattle.std.proofs.Common.{◌≡◌, ℕ, List, drop, subst}
use Rattle.hla_base.specs.declared.content.Discovery.{Discovery}
use Rattle.hla_base.specs.Tables.{upd2}
use Rattle.hla_callbacks.specs.declared.callback.Callback.TheVariants as callback
use Rattle.hla_machine.specs.Central.{Central}
use Rattle.hla_machine.specs.Callbacks.{IsNextDiscovery}
use Rattle.hla_machine.specs.declared.step.Choice.{Choice}
use Rattle.hla_machine.specs.declared.step.Choice.TheVariants as choice
use Rattle.hla_verdicts.specs.declared.verdict.Verdict.{Verdict}
use Rattle.hla_verdicts.specs.Verdicts.{Judged}
use Rattle.hla_verdicts.specs.Accounted.{JudgedPick}

abbrev JudgedOffer : Central → ℕ → ℕ → Discovery → Choice → Central → Verdict → Type 0
JudgedOffer c f g x o d v = Judged (IsNextDiscovery (c.discoveries g f) x × (o ≡ choice.None)) (d ≡ record c { discoveries = upd2 c.discoveries g f (drop 1 (c.discoveries g f)) }) v

pub discovered_of : (c d : Central) (f g : ℕ) (object class : ℕ) (name given : List ℕ) (o : Choice) (v : Verdict) → given ≡ name → g ≡ (c.directory.object object).owner
    → Judged (IsNextDiscovery (c.discoveries g f) (record { object = object; class = class; name = given }) × (o ≡ choice.None)) (d ≡ record c { discoveries = upd2 c.discoveries g f (drop 1 (c.discoveries g f)) }) v
    → JudgedPick c f (callback.DiscoverObjectInstance object class name) o d v
discovered_of c d f g object class name given o v same owner judged =
    subst (λ (h : ℕ). JudgedOffer c f h (record { object = object; class = class; name = name }) o d v) owner
    (subst (λ (n : List ℕ). JudgedOffer c f g (record { object = object; class = class; name = n }) o d v) same judged)
