use Rattle.std.proofs.Common.{◌≡◌, ℕ, List, Option, Some, eqb, sym, ap, ◌∙◌}
use Rattle.hla_base.specs.declared.content.Discovery.{Discovery}
use Rattle.hla_base.specs.Tables.{when}
use Rattle.hla_declaration.specs.Declarations.{declarations_of}
use Rattle.hla_machine.specs.Directory.{Directory}
use Rattle.hla_machine.specs.Registered.{registry_of}
use Rattle.hla_accounts.specs.declared.offers.Offer.{Offer}
use Rattle.hla_accounts.specs.Accounts.{offers_from}
use Rattle.hla_verdicts.specs.Kept.{directory_kept}
use Rattle.hla_checker.specs.Offering.{is_wanted, wanted_of}
use Rattle.hla_checker.proofs.Objects.FoundObjects.{found_first, offer_more, offer_none, wanted_none, wanted_some, when_none}
use Rattle.hla_checker.proofs.offering.offers_to.Goals as goal
use Rattle.hla_checker.proofs.offering.offers_to.Goals.{in-Some+in_ok-name+in-Ok, in_default}

pub loop-object-init : goal.loop-object-init
loop-object-init c = λ g.
    let d : Directory = directory_kept c.args.catalogue.now (declarations_of c.args.declarations.now) (registry_of c.args.registry.now) in
    ap (offers_from g) c.new-offers.ensures.items
    ∙ sym (found_first (λ h. when (eqb (d.object h).owner g) (wanted_of d c.args.of c.args.federate h)) (ap (λ (o : Option Discovery). when (eqb 0 g) o) (when_none {X = Discovery} (is_wanted c.args.of 0)) ∙ when_none (eqb 0 g)))

pub loop-object-preserved : goal.loop-object-preserved
loop-object-preserved c = λ g.
    let f = c.args.federate in
    let n = c.loop-object.object in
    let d : Directory = directory_kept c.args.catalogue.now (declarations_of c.args.declarations.now) (registry_of c.args.registry.now) in
    let p : ℕ → Option Discovery = λ h. when (eqb (d.object h).owner g) (wanted_of d c.args.of c.args.federate h) in
    elim c.match-wanted_class.branch [
      | in-Some+in_ok-name+in-Ok w ↦
          let k = w.in-Some.class in
          let found = wanted_some d c.args.of f n k (sym c.wanted_class.ensures ∙ w.in-Some.is) in
          let owner : w.owner-from.result ≡ (d.object n).owner = w.owner-from.ensures in
          let name : w.in_ok-name.name ≡ (d.object n).name = w.in_ok-name.ensures.ok ∙ w.name_of.ensures in
          let offer : Offer = record { from = w.owner-from.result; discovery = record { object = c.loop-object.object; class = w.in-Some.class; name = w.in_ok-name.name } } in
          ap (λ (o : List Offer). offers_from g o) (ap (λ v. v.items) w.offers-is ∙ w.in-Ok.ensures.items)
          ∙ offer_more g c.loop-object.offers.items offer p n (c.loop-object.invariant g)
          ((λ i. when (eqb (owner i) g) (Some (record { object = n; class = k; name = name i }))) ∙ ap (λ (o : Option Discovery). when (eqb (d.object n).owner g) o) (sym found))
      | in_default w ↦
          let none = wanted_none d c.args.of f n (sym c.wanted_class.ensures ∙ w.in_default.is) in
          ap (λ (o : List Offer). offers_from g o) (ap (λ v. v.items) w.offers-is)
          ∙ offer_none g c.loop-object.offers.items p n (c.loop-object.invariant g) (ap (λ (o : Option Discovery). when (eqb (d.object n).owner g) o) none ∙ when_none (eqb (d.object n).owner g))
    ]
