use Rattle.std.proofs.Common.{◌+◌, sym, ◌∷◌, [], length, filter, ap, ◌∙◌, refl, arith}
use Rattle.std.proofs.lemmas.List.{length-append}
use Rattle.hla_base.specs.Tables.{numbers_below}
use Rattle.hla_machine.specs.Registered.{registry_of}
use Rattle.hla_object_registry.specs.Queries.{is_object_of}
use Rattle.hla_object_registry.proofs.Numbers.{filter_first, filter_more, filter_same}
use Rattle.hla_object_registry.proofs.registry.Registry.count_owned_by.Goals as goal
use Rattle.hla_object_registry.proofs.registry.Registry.count_owned_by.Goals.{then-is_object_of, else-is_object_of}

pub loop-object-init : goal.loop-object-init
loop-object-init c = record {
  few = omega arith;
  counted = ap length (sym (filter_first (is_object_of (registry_of c.args.self.now) c.args.federate) refl));
}

pub loop-object-preserved : goal.loop-object-preserved
loop-object-preserved c =
    let p = is_object_of (registry_of c.args.self.now) c.args.federate in
    let h = c.loop-object.object in
    let before = c.loop-object.invariant in
    elim c.if-is_object_of.branch [
      | then-is_object_of w ↦ record {
        few = omega (arith, w.count-is, before.few);
        counted = w.count-is ∙ ap (λ n. n + 1) before.counted ∙ sym (ap length (filter_more p h (sym w.if-is_object_of.ensures)) ∙ length-append (filter p (numbers_below h)) (h ∷ []));
      }
      | else-is_object_of w ↦ record {
        few = omega (arith, w.count-is, before.few);
        counted = w.count-is ∙ before.counted ∙ ap length (sym (filter_same p h (sym w.if-is_object_of.ensures)));
      }
    ]
