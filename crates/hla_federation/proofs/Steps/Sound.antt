-- What the code does is a step of the machine, and keeps what always holds
use Rattle.std.proofs.Common.{◌≡◌, ℕ, zero, suc, List, [], length, false, Result, Ok, Err, IfOk, IfErr, OnOk, OnErr, refl, sym, ap, subst, ◌∙◌, arith}
use Rattle.std.proofs.Math.Path.{fun_ext}
use Rattle.hla_base.specs.declared.fault.Fault.{Fault}
use Rattle.hla_null_message.specs.declared.message.Message.{Message}
use Rattle.hla_catalogue.specs.CatalogueValue.{CatalogueValue}
use Rattle.hla_declaration.specs.Declarations as declared
use Rattle.hla_declaration.specs.Declarations.{DeclarationsValue}
use Rattle.hla_machine.specs.Registered.{registry_of, new_registry}
use Rattle.hla_machine.specs.declared.step.Step.{Step}
use Rattle.hla_machine.specs.declared.step.Answer.{Answer}
use Rattle.hla_machine.specs.declared.step.Outcome.TheVariants as outcome
use Rattle.hla_machine.specs.Runs.{IsMachineStep}
use Rattle.hla_components.specs.CentralOf.{central}
use Rattle.hla_components.specs.Components.{Components, new_components}
use Rattle.hla_synchronization.specs.OpenPoints.{points_of}
use Rattle.hla_federation.specs.FederationValue.{FederationValue}
use Rattle.hla_components.specs.Headline.{IsLedTo, happening}
use Rattle.hla_components.specs.Invariant.{Inv}
use Rattle.hla_execution.specs.MemberValue.{item, MemberValue, no_member, members_of}
use Rattle.hla_components.specs.Next.{next}
use Rattle.hla_federation.specs.Steps.Memory.{IsRefusedWith}
use Rattle.hla_federation.specs.Steps.Soundness.{IsSound}
use Rattle.hla_lbts.specs.Peers.{peers_of}
use Rattle.hla_retraction.specs.SentEvents.{no_event}
use Rattle.hla_retraction.specs.SentRows.{sent_of}
use Rattle.hla_federation.specs.Steps.State.{state_of, state_from, IsWhole, IsUnmet, nothing_declared, EndsChosen}
use Rattle.hla_components.proofs.Refinement.Runs.{each_step, inv_start}
use Rattle.hla_components.proofs.Refinement.LedTo.{led_start, led_next}

-- ---- what a step keeps, however it ended
module _ (old : FederationValue) (step : Step) (is : IsSound old) where
  pub ends_sound : (r : Result Answer Fault) (new : FederationValue) → IsWhole new → EndsChosen old step r new → IsSound new
  ends_sound (Ok a) new whole ends = record {
    whole = whole;
    kept = subst Inv ends.1 (each_step (state_of old) step is.kept).kept;
    led = subst IsLedTo ends.1 (led_next (state_of old) step is.led);
  }
  ends_sound (Err e) new whole ends = subst IsSound (sym ends.1) is

  pub ends_outcome : (r : Result Answer Fault) (new : FederationValue) → EndsChosen old step r new → IfOk r (λ a. (next (state_of old) step).outcome ≡ outcome.Done a)
  ends_outcome (Ok a) new ends = ends.0
  ends_outcome (Err e) new ends = tt

  pub ends_state : (r : Result Answer Fault) (new : FederationValue) → EndsChosen old step r new → OnOk r (state_of new ≡ (next (state_of old) step).state)
  ends_state (Ok a) new ends = sym ends.1
  ends_state (Err e) new ends = tt

  pub ends_machine : (r : Result Answer Fault) (new : FederationValue) → EndsChosen old step r new
      → OnOk r (IsMachineStep (central (state_of old)) (happening step (next (state_of old) step)) (central (state_of new)))
  ends_machine (Ok a) new ends = subst (λ (s : Components). IsMachineStep (central (state_of old)) (happening step (next (state_of old) step)) (central s)) ends.1 (each_step (state_of old) step is.kept).machine
  ends_machine (Err e) new ends = tt

  pub ends_refused : (r : Result Answer Fault) (new : FederationValue) → EndsChosen old step r new → IfErr r (IsRefusedWith (state_of old) step)
  ends_refused (Ok a) new ends = tt
  ends_refused (Err e) new ends = ends.0

  pub ends_unchanged : (r : Result Answer Fault) (new : FederationValue) → EndsChosen old step r new → OnErr r (new ≡ old)
  ends_unchanged (Ok a) new ends = tt
  ends_unchanged (Err e) new ends = ends.1

-- ---- an execution that no federate has joined
nobody : (g : ℕ) → item no_member [] g ≡ no_member
nobody zero = refl
nobody (suc k) = refl

no_wire : (g : ℕ) → item {X = List Message} [] [] g ≡ []
no_wire zero = refl
no_wire (suc k) = refl

nothing_sent : sent_of [] ≡ (λ _. no_event)
unfolding sent_of
nothing_sent = fun_ext (λ m. refl)

module _ (c : CatalogueValue) (v : FederationValue) (catalogue : v.catalogue ≡ c) (members : v.members ≡ [])
    (declarations : declared.declarations_of v.declarations ≡ nothing_declared (length c.object_classes) (length c.interaction_classes)) (objects : registry_of v.objects ≡ new_registry) (points : points_of v.points ≡ []) where
  pub state_new : state_of v ≡ new_components c
  state_new = (λ i. state_from (catalogue i) (points i) (declarations i) (objects i) (members_of (members i))) ∙ (λ i. record (new_components c) {
    directory = record (new_components c).directory {
      joined = fun_ext (λ g. ap (λ (m : MemberValue). m.joined) (nobody g)) i;
      name = fun_ext (λ g. ap (λ (m : MemberValue). m.name) (nobody g)) i;
    };
    serial = fun_ext (λ g. ap (λ (m : MemberValue). m.next_serial) (nobody g)) i;
    row = fun_ext (λ g. ap (λ (m : MemberValue). m.local.row) (nobody g)) i;
    ro = fun_ext (λ g. ap (λ (m : MemberValue). m.local.ro) (nobody g)) i;
    tso = fun_ext (λ g. ap (λ (m : MemberValue). m.local.tso) (nobody g)) i;
    controls = fun_ext (λ g. ap (λ (m : MemberValue). m.local.controls) (nobody g)) i;
    bound = fun_ext (λ g. ap (λ (m : MemberValue). (peers_of m.local.peers).bound) (nobody g)) i;
    known_epoch = fun_ext (λ g. ap (λ (m : MemberValue). (peers_of m.local.peers).known_epoch) (nobody g)) i;
    last_announced = fun_ext (λ g. ap (λ (m : MemberValue). m.local.last_announced) (nobody g)) i;
    epoch = fun_ext (λ g. ap (λ (m : MemberValue). m.local.epoch) (nobody g)) i;
    wire = fun_ext (λ h. fun_ext (λ g. ap (λ (m : MemberValue). item [] m.incoming h) (nobody g) ∙ no_wire h)) i;
    sent = fun_ext (λ g. ap (λ (m : MemberValue). sent_of m.sent) (nobody g) ∙ nothing_sent) i;
  })

  not_joined : (g : ℕ) → (members_of v.members).joined g ≡ false
  not_joined g = ap (λ (ms : List MemberValue). (members_of ms).joined g) members ∙ ap (λ (m : MemberValue). m.joined) (nobody g)

  member_of : (g : ℕ) → item no_member v.members g ≡ no_member
  member_of g = ap (λ (ms : List MemberValue). item no_member ms g) members ∙ nobody g

  pub sound_new : IsSound v
  sound_new = record {
    whole = record {
      parts = record {
        few = omega (arith, ap (λ (ms : List MemberValue). length ms) members);
        federates = omega (arith, ap (λ (ms : List MemberValue). length ms) members, ap (λ (d : DeclarationsValue). d.federates) declarations);
        object_classes = ap (λ (d : DeclarationsValue). d.object_classes) declarations ∙ ap (λ (t : CatalogueValue). length t.object_classes) (sym catalogue);
        interaction_classes = ap (λ (d : DeclarationsValue). d.interaction_classes) declarations ∙ ap (λ (t : CatalogueValue). length t.interaction_classes) (sym catalogue);
        unmet = λ f g beyond. subst (λ (m : MemberValue). IsUnmet (peers_of m.local.peers) g) (sym (member_of f)) (record { bound = refl; epoch = refl });
        silent = λ g k no. record { objects = ap (λ (d : DeclarationsValue). d.subscribed g k) declarations; interactions = ap (λ (d : DeclarationsValue). d.subscribed_interaction g k) declarations };
      };
      named = λ g y. let no = not_joined g in absurd (cc);
    };
    kept = subst Inv (sym state_new) (inv_start c);
    led = subst IsLedTo (sym state_new) (led_start c);
  }
