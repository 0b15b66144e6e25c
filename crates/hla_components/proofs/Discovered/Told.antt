-- Who is told what: each copy and each discovery is of an object that its receiver knows
use Rattle.std.proofs.Common.{◌≡◌, ⊎_elim, ℕ, eqb, sym, subst, eqb-true, List, [], ◌∷◌, Some, option_map}
use Rattle.std.proofs.lemmas.Bool.{cond_both}
use Rattle.hla_base.specs.declared.content.Discovery.{Discovery}
use Rattle.hla_base.specs.declared.content.Event.{Event}
use Rattle.hla_base.specs.Tables.{or_else}
use Rattle.hla_null_message.specs.declared.message.Message.{Message}
use Rattle.hla_null_message.specs.declared.message.Message.TheVariants as message
use Rattle.hla_null_message.specs.Wires.{events, discoveries}
use Rattle.hla_component_rules.specs.declared.control.Control.{Control}
use Rattle.hla_component_rules.specs.declared.control.Control.TheVariants.{ToDiscover, ToRetract, ToTell}
use Rattle.hla_component_rules.specs.Controls.{discoveries_from}
use Rattle.hla_component_rules.specs.Queues.{find_event}
use Rattle.hla_machine.specs.Directory.{Directory}
use Rattle.hla_machine.specs.Central.{Central, Copy}
use Rattle.hla_components.specs.Components.{Components}
use Rattle.hla_components.specs.CentralOf.{central, wire_copy, tso_copy, ro_copy, bag_of}
use Rattle.hla_components.specs.Invariant.{EachOf, DirectoryInv, IsKnownOf, IsTold, Tells, IsWaiting, IsControl, Kept}
use Rattle.hla_machine.proofs.Basics.Bags.{or_else-cases, option_map-some}
use Rattle.hla_components.proofs.Basics.Each.{EachOf-append, EachOf-find}
use Rattle.hla_components.proofs.Wiring.Queues.{find-key}

pub record Informed (c : Central) : Type 0 where
  pub directory : DirectoryInv c.directory
  pub waits : (g f : ℕ) → EachOf (λ (d : Discovery). IsKnownOf c.directory g f d.object) (c.discoveries g f)
  pub says : (g m f : ℕ) (k : Copy) → c.bag g m f ≡ Some k → IsTold c.directory g f k.content

module _ (d : Directory) (g f : ℕ) where
  wire_discoveries : (ms : List Message) → Tells d g f ms → EachOf (λ (x : Discovery). IsKnownOf d g f x.object) (discoveries ms)
  unfolding discoveries
  wire_discoveries [] t = tt
  wire_discoveries (message.Event e ∷ ms) t = wire_discoveries ms t.2
  wire_discoveries (message.Null k v ∷ ms) t = wire_discoveries ms t
  wire_discoveries (message.Retraction m ∷ ms) t = wire_discoveries ms t
  wire_discoveries (message.Discovery x ∷ ms) t = (t.0, wire_discoveries ms t.1)

  wire_events : (ms : List Message) → Tells d g f ms → EachOf (λ (e : Event). IsTold d g f e.content) (events ms)
  unfolding events
  wire_events [] t = tt
  wire_events (message.Event e ∷ ms) t = (t.0, wire_events ms t.2)
  wire_events (message.Null k v ∷ ms) t = wire_events ms t
  wire_events (message.Retraction m ∷ ms) t = wire_events ms t
  wire_events (message.Discovery x ∷ ms) t = wire_events ms t.1

  control_discoveries : (ks : List Control) → EachOf (IsControl d f) ks → EachOf (λ (x : Discovery). IsKnownOf d g f x.object) (discoveries_from g ks)
  unfolding discoveries_from
  control_discoveries [] c = tt
  control_discoveries (ToDiscover from x ∷ ks) c = cond_both (eqb g from) (x ∷ discoveries_from g ks) (discoveries_from g ks) (EachOf (λ (x : Discovery). IsKnownOf d g f x.object))
      (λ e. (subst (λ (h : ℕ). IsKnownOf d h f x.object) (sym (eqb-true g from e)) c.0, control_discoveries ks c.1))
      (λ _. control_discoveries ks c.1)
  control_discoveries (ToRetract e ∷ ks) c = control_discoveries ks c.1
  control_discoveries (ToTell n ∷ ks) c = control_discoveries ks c.1

-- what waits in a queue
queued_event : (s : Components) (g m f : ℕ) (e : Event) (es : List Event) → EachOf (IsWaiting s.directory s.wire f) es → find_event g m es ≡ Some e → IsTold s.directory g f e.content
queued_event s g m f e es each is = let w = EachOf-find (IsWaiting s.directory s.wire f) g m e es is each in subst (λ (h : ℕ). IsTold s.directory h f e.content) (find-key g m e es is).0 w.0

copy_told : (s : Components) (g m f : ℕ) (k : Copy) → Kept s → bag_of s g m f ≡ Some k → IsTold s.directory g f k.content
copy_told s g m f k kept is = ⊎_elim
    (λ (a : option_map wire_copy (find_event g m (events (s.wire g f))) ≡ Some k).
    let w = option_map-some wire_copy (find_event g m (events (s.wire g f))) k a in
    subst (λ (k : Copy). IsTold s.directory g f k.content) w.2 (EachOf-find (λ (e : Event). IsTold s.directory g f e.content) g m w.0 (events (s.wire g f)) w.1 (wire_events s.directory g f (s.wire g f) (kept.objects.tells g f))))
    (λ (b : or_else (option_map tso_copy (find_event g m (s.tso f))) (option_map ro_copy (find_event g m (s.ro f))) ≡ Some k). ⊎_elim
    (λ (t : option_map tso_copy (find_event g m (s.tso f)) ≡ Some k).
    let w = option_map-some tso_copy (find_event g m (s.tso f)) k t in
    subst (λ (k : Copy). IsTold s.directory g f k.content) w.2 (queued_event s g m f w.0 (s.tso f) (kept.objects.ordered f) w.1))
    (λ (r : option_map ro_copy (find_event g m (s.ro f)) ≡ Some k).
    let w = option_map-some ro_copy (find_event g m (s.ro f)) k r in
    subst (λ (k : Copy). IsTold s.directory g f k.content) w.2 (queued_event s g m f w.0 (s.ro f) (kept.objects.plain f) w.1))
    (or_else-cases _ _ k b))
    (or_else-cases _ _ k is)

pub kept_informed : (s : Components) → Kept s → Informed (central s)
kept_informed s kept = record {
  directory = kept.directory;
  waits = λ g f. EachOf-append _ (discoveries_from g (s.controls f)) (discoveries (s.wire g f)) (control_discoveries s.directory g f (s.controls f) (kept.objects.due f)) (wire_discoveries s.directory g f (s.wire g f) (kept.objects.tells g f));
  says = λ g m f k is. copy_told s g m f k kept is;
}
