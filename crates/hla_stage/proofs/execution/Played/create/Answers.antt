use Rattle.std.proofs.Common.{◌≡◌, ◌<◌, refl, sym, ◌∙◌, arith}
use Rattle.hla_base.specs.Limits.{max_creates}
use Rattle.hla_stage.specs.Keeping.{components_of}
use Rattle.hla_stage.proofs.KeepLemmas.{creation, creation_acts, excess, excess_acts, none_left, opened_components}
use Rattle.hla_stage.proofs.execution.Played.create.Goals as goal

pub returns-then-self-ge-MAX_CREATES-clause-ok : goal.returns-then-self-ge-MAX_CREATES-clause-ok
returns-then-self-ge-MAX_CREATES-clause-ok g c =
    let none = none_left g.F.Execution.value components_of c.args.self.now.federation (sym c.is_some.ensures ∙ c.if-is_some.false) in
    let same : c.script_record-then-self-ge-MAX_CREATES.result ≡ excess c.args.self.now.catalogue = c.script_record-then-self-ge-MAX_CREATES.ensures ∙ rw (c.requires, c.in_ok-held.ensures.ok) refl in
    excess_acts c.args.self.now.catalogue c.args.self.now.creates _ c.args.self.now.members.items c.script_record-then-self-ge-MAX_CREATES.result c.if-self-ge-MAX_CREATES.true none same

pub returns-clause-ok : goal.returns-clause-ok
returns-clause-ok g c =
    let none = none_left g.F.Execution.value components_of c.args.self.now.federation (sym c.is_some.ensures ∙ c.if-is_some.false) in
    let same : c.script_record-2.result ≡ creation c.args.self.now.catalogue = c.script_record-2.ensures ∙ rw (c.requires, c.in_ok-held.ensures.ok) refl in
    let few : c.args.self.now.creates < max_creates = omega (arith, c.if-self-ge-MAX_CREATES.false) in
    rw c.replace.ensures.after
    (creation_acts c.args.self.now.catalogue c.args.self.now.creates _ _ c.args.self.now.members.items _ _ c.script_record-2.result few refl none (opened_components _ _ (rw c.in_ok-used.ensures.ok at c.new.ensures)) same c.clear.ensures.items)
