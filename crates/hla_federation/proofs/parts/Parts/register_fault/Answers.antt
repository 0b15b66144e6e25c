use Rattle.std.proofs.Common.{◌≡◌, ◌||◌, not, ltb, true, false, refl, sym, ap, ◌∙◌, arith}
use Rattle.std.proofs.lemmas.Bool.Decides.{nat_tests}
use Rattle.hla_base.specs.Limits.{max_name, max_objects}
use Rattle.hla_machine.specs.Directory.{name_or_default}
use Rattle.hla_machine.specs.Refusals.{is_length_in}
use Rattle.hla_machine.specs.Registered.{registry_of}
use Rattle.hla_federation.proofs.parts.Parts.register_fault.Goals as goal
use Rattle.hla_federation.proofs.parts.Parts.register_fault.Goals.{in-Some, in-None}

pub returns-then-is_name_used : goal.returns-then-is_name_used
returns-then-is_name_used c =
    let next = (registry_of c.self.inside.registry).next_object in
    let named = rw (← c.self.view_is) at (c.requires.sound.whole.named c.args.federate c.requires.joined) in
    let given : c.match-name.given.now ≡ name_or_default (registry_of c.self.inside.registry).next_object c.args.name.now =
    elim c.match-name.branch [
      | in-Some w ↦ ap (λ g. g.now) w.given-is ∙ w.as_slice-given.ensures ∙ sym (ap (name_or_default next) w.in-Some.is)
      | in-None w ↦ ap (λ g. g.now) w.given-is ∙ w.as_slice-given-in-None.ensures ∙ named ∙ sym (ap (name_or_default next) w.in-None.is)
    ] in
    let joined = rw (← c.self.view_is) at c.requires.joined in
    let class = sym c.is_object_class.ensures ∙ c.if-not-is_object_class.false in
    let published = sym c.publishes_object_class.ensures ∙ c.if-not-publishes_object_class.false in
    let used = rw given at (sym c.is_name_used.ensures ∙ c.if-is_name_used.true) in
    rw (← c.self.view_is) (rw (joined, class, published, used) refl)

pub returns-then-not-fits_name : goal.returns-then-not-fits_name
returns-then-not-fits_name c =
    let over : ltb max_objects (registry_of c.self.inside.registry).next_object || not (is_length_in 1 max_name c.match-name.given.now) ≡ true = grind (arith, nat_tests) in
    let next = (registry_of c.self.inside.registry).next_object in
    let named = rw (← c.self.view_is) at (c.requires.sound.whole.named c.args.federate c.requires.joined) in
    let given : c.match-name.given.now ≡ name_or_default (registry_of c.self.inside.registry).next_object c.args.name.now =
    elim c.match-name.branch [
      | in-Some w ↦ ap (λ g. g.now) w.given-is ∙ w.as_slice-given.ensures ∙ sym (ap (name_or_default next) w.in-Some.is)
      | in-None w ↦ ap (λ g. g.now) w.given-is ∙ w.as_slice-given-in-None.ensures ∙ named ∙ sym (ap (name_or_default next) w.in-None.is)
    ] in
    let joined = rw (← c.self.view_is) at c.requires.joined in
    let class = sym c.is_object_class.ensures ∙ c.if-not-is_object_class.false in
    let published = sym c.publishes_object_class.ensures ∙ c.if-not-publishes_object_class.false in
    let unused = rw given at (sym c.is_name_used.ensures ∙ c.if-is_name_used.false) in
    rw (← c.self.view_is) (rw (joined, class, published, unused) (rw (rw given at over) refl))

pub returns-else-not-fits_name : goal.returns-else-not-fits_name
returns-else-not-fits_name c =
    let over : ltb max_objects (registry_of c.self.inside.registry).next_object || not (is_length_in 1 max_name c.match-name.given.now) ≡ false = grind (arith, nat_tests) in
    let next = (registry_of c.self.inside.registry).next_object in
    let named = rw (← c.self.view_is) at (c.requires.sound.whole.named c.args.federate c.requires.joined) in
    let given : c.match-name.given.now ≡ name_or_default (registry_of c.self.inside.registry).next_object c.args.name.now =
    elim c.match-name.branch [
      | in-Some w ↦ ap (λ g. g.now) w.given-is ∙ w.as_slice-given.ensures ∙ sym (ap (name_or_default next) w.in-Some.is)
      | in-None w ↦ ap (λ g. g.now) w.given-is ∙ w.as_slice-given-in-None.ensures ∙ named ∙ sym (ap (name_or_default next) w.in-None.is)
    ] in
    let joined = rw (← c.self.view_is) at c.requires.joined in
    let class = sym c.is_object_class.ensures ∙ c.if-not-is_object_class.false in
    let published = sym c.publishes_object_class.ensures ∙ c.if-not-publishes_object_class.false in
    let unused = rw given at (sym c.is_name_used.ensures ∙ c.if-is_name_used.false) in
    rw (← c.self.view_is) (rw (joined, class, published, unused) (rw (rw given at over) refl))
