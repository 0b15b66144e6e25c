use Rattle.std.proofs.Common.{sym, ◌++◌, ◌∷◌, [], ap, ◌∙◌, refl}
use Rattle.hla_machine.specs.Registered.{registry_of}
use Rattle.hla_object_registry.specs.Queries.{is_object_of}
use Rattle.hla_object_registry.proofs.Numbers.{filter_first, filter_more, filter_same}
use Rattle.hla_object_registry.proofs.registry.Registry.objects_owned_by.Goals as goal
use Rattle.hla_object_registry.proofs.registry.Registry.objects_owned_by.Goals.{then-is_object_of+in_ok-push, else-is_object_of}

pub loop-object-init : goal.loop-object-init
loop-object-init c = c.new-objects.ensures ∙ sym (filter_first (is_object_of (registry_of c.args.self.now) c.args.federate) refl)

pub loop-object-preserved : goal.loop-object-preserved
loop-object-preserved c =
    let p = is_object_of (registry_of c.args.self.now) c.args.federate in
    let h = c.loop-object.object in
    elim c.if-is_object_of.branch [
      | then-is_object_of+in_ok-push w ↦ w.objects-is ∙ w.in_ok-push.ensures.ok ∙ ap (λ hs. hs ++ h ∷ []) c.loop-object.invariant ∙ sym (filter_more p h (sym w.if-is_object_of.ensures))
      | else-is_object_of w ↦ w.objects-is ∙ c.loop-object.invariant ∙ sym (filter_same p h (sym w.if-is_object_of.ensures))
    ]
