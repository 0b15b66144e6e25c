-- Discoveries come before what is said of their objects, after each change of wires and queues
use Rattle.std.proofs.Common.{◌≡◌, ◌≢◌, ℕ, ◌≤◌, ◌<◌, cond, eqb, true, false, refl, sym, subst, ap, ◌∙◌, le_trans, arith, List, [], ◌∷◌, ◌++◌, map}
use Rattle.std.proofs.lemmas.Bool.{cond_both}
use Rattle.hla_base.specs.declared.content.Content.{Content}
use Rattle.hla_base.specs.declared.content.Content.TheVariants as content
use Rattle.hla_base.specs.declared.content.Event.{Event}
use Rattle.hla_base.specs.declared.content.Discovery.{Discovery}
use Rattle.hla_null_message.specs.declared.message.Message.{Message}
use Rattle.hla_null_message.specs.declared.message.Message.TheVariants as message
use Rattle.hla_base.specs.Tables.{upd, upd2}
use Rattle.hla_machine.specs.Directory.{Directory}
use Rattle.hla_component_rules.specs.declared.control.Control.{Control}
use Rattle.hla_component_rules.specs.declared.control.Control.TheVariants.{ToDiscover, ToRetract, ToTell}
use Rattle.hla_null_message.specs.Wires.{discoveries, put_behind, without_last_null}
use Rattle.hla_component_rules.specs.Queues.{insert_event, remove_event}
use Rattle.hla_components.specs.Components.{Components}
use Rattle.hla_components.specs.Next.{put_discoveries, with_event_accepted, with_discovery_accepted, with_retraction_accepted}
use Rattle.hla_component_rules.specs.Arriving.{is_kept_in_order}
use Rattle.hla_components.specs.Invariant.{EachOf, IsKnownOf, IsTold, IsBehind, Tells, IsWaiting, IsControl, ObjectInv}
use Rattle.hla_base.proofs.Tables.{upd_each, upd2_each, upd2_same}
use Rattle.hla_components.proofs.Basics.Each.{EachOf-append, EachOf-weaker, EachOf-remove, EachOf-insert}
use Rattle.hla_components.proofs.Wiring.Wires.{discoveries-put_event, discoveries-without, discoveries-null_behind, discoveries-put_retraction, discoveries-put_discoveries, discoveries-event, discoveries-null, discoveries-retraction, discoveries-discovery}

abbrev pub AreObjects : Components → Type 0
AreObjects s = ObjectInv s.directory s.wire s.tso s.ro s.controls

-- ---- later directories
-- objects keep their owners, and what is known stays known
pub record KeepsOwners (d e : Directory) : Type 0 where
  pub same_owner : (h : ℕ) → h < d.next_object → (e.object h).owner ≡ (d.object h).owner
  pub same_known : (h f : ℕ) → d.known h f ≡ true → e.known h f ≡ true
  pub more : d.next_object ≤ e.next_object

pub grows_same : (d : Directory) → KeepsOwners d d
grows_same d = record { same_owner = λ _ _. refl; same_known = λ _ _ k. k; more = omega arith }

known_grows : (d e : Directory) (g f h : ℕ) → KeepsOwners d e → IsKnownOf d g f h → IsKnownOf e g f h
known_grows d e g f h up k = record { owner = up.same_owner h k.registered ∙ k.owner; known = up.same_known h f k.known; registered = le_trans k.registered up.more }

pub told_grows : (d e : Directory) (g f : ℕ) (x : Content) → KeepsOwners d e → IsTold d g f x → IsTold e g f x
told_grows d e g f (content.Interaction class values) up k = tt
told_grows d e g f (content.Reflection object values) up k = known_grows d e g f object up k
told_grows d e g f (content.Removal object) up k = known_grows d e g f object up k

pub tells_grows : (d e : Directory) (g f : ℕ) (ms : List Message) → KeepsOwners d e → Tells d g f ms → Tells e g f ms
tells_grows d e g f [] up t = tt
tells_grows d e g f (message.Event x ∷ ms) up t = (told_grows d e g f x.content up t.0, t.1, tells_grows d e g f ms up t.2)
tells_grows d e g f (message.Null k v ∷ ms) up t = tells_grows d e g f ms up t
tells_grows d e g f (message.Retraction m ∷ ms) up t = tells_grows d e g f ms up t
tells_grows d e g f (message.Discovery x ∷ ms) up t = (known_grows d e g f x.object up t.0, tells_grows d e g f ms up t.1)

control_grows : (d e : Directory) (f : ℕ) (k : Control) → KeepsOwners d e → IsControl d f k → IsControl e f k
control_grows d e f (ToDiscover from x) up k = known_grows d e from f x.object up k
control_grows d e f (ToRetract x) up k = tt
control_grows d e f (ToTell n) up k = tt

-- ---- what stands behind
pub behind_nil : (x : Content) → IsBehind x []
behind_nil (content.Interaction class values) = tt
behind_nil (content.Reflection object values) = tt
behind_nil (content.Removal object) = tt

behind_tail : (x : Content) (d : Discovery) (ds : List Discovery) → IsBehind x (d ∷ ds) → IsBehind x ds
behind_tail (content.Interaction class values) d ds b = tt
behind_tail (content.Reflection object values) d ds b = b.1
behind_tail (content.Removal object) d ds b = b.1

-- a discovery that is put later is of an object that was not known
abbrev pub AreNew : Directory → ℕ → List Discovery → Type 0
AreNew d f ds = EachOf (λ (x : Discovery). d.known x.object f ≡ false) ds

apart : (d : Directory) (f object : ℕ) (ds : List Discovery) → d.known object f ≡ true → AreNew d f ds → EachOf (λ (x : Discovery). x.object ≢ object) ds
apart d f object ds known new = EachOf-weaker _ _ ds (λ (x : Discovery) n same. let k : d.known x.object f ≡ true = subst (λ h. d.known h f ≡ true) (sym same) known in absurd (cc)) new

pub behind_put : (d : Directory) (g f : ℕ) (x : Content) (ds es : List Discovery) → IsTold d g f x → AreNew d f es → IsBehind x ds → IsBehind x (ds ++ es)
behind_put d g f (content.Interaction class values) ds es told new b = tt
behind_put d g f (content.Reflection object values) ds es told new b = EachOf-append _ ds es b (apart d f object es told.known new)
behind_put d g f (content.Removal object) ds es told new b = EachOf-append _ ds es b (apart d f object es told.known new)

-- ---- what is put on a wire
pub tells_send : (d : Directory) (g f : ℕ) (ms : List Message) (e : Event) → IsTold d g f e.content → Tells d g f ms → Tells d g f (put_behind (message.Event e) ms)
unfolding discoveries
tells_send d g f [] e told t = (told, behind_nil e.content, tt)
tells_send d g f (message.Event x ∷ ms) e told t = (t.0, subst (IsBehind x.content) (sym (discoveries-put_event e ms)) t.1, tells_send d g f ms e told t.2)
tells_send d g f (message.Null k v ∷ ms) e told t = tells_send d g f ms e told t
tells_send d g f (message.Retraction m ∷ ms) e told t = tells_send d g f ms e told t
tells_send d g f (message.Discovery x ∷ ms) e told t = (t.0, tells_send d g f ms e told t.1)

tells_without : (d : Directory) (g f k : ℕ) (ms : List Message) → Tells d g f ms → Tells d g f (without_last_null k ms)
tells_without d g f k [] t = tt
tells_without d g f k (message.Event x ∷ ms) t = (t.0, subst (IsBehind x.content) (sym (discoveries-without k ms)) t.1, tells_without d g f k ms t.2)
tells_without d g f k (message.Null j v ∷ []) t = cond_both (eqb j k) [] (message.Null j v ∷ []) (Tells d g f) (λ _. tt) (λ _. tt)
tells_without d g f k (message.Null j v ∷ m ∷ ms) t = tells_without d g f k (m ∷ ms) t
tells_without d g f k (message.Retraction m ∷ ms) t = tells_without d g f k ms t
tells_without d g f k (message.Discovery x ∷ ms) t = (t.0, tells_without d g f k ms t.1)

null_behind : (d : Directory) (g f : ℕ) (ms : List Message) (j w : ℕ) → Tells d g f ms → Tells d g f (ms ++ message.Null j w ∷ [])
null_behind d g f [] j w t = tt
null_behind d g f (message.Event x ∷ ms) j w t = (t.0, subst (IsBehind x.content) (sym (discoveries-null_behind j w ms)) t.1, null_behind d g f ms j w t.2)
null_behind d g f (message.Null k v ∷ ms) j w t = null_behind d g f ms j w t
null_behind d g f (message.Retraction m ∷ ms) j w t = null_behind d g f ms j w t
null_behind d g f (message.Discovery x ∷ ms) j w t = (t.0, null_behind d g f ms j w t.1)

pub tells_null : (d : Directory) (g f : ℕ) (ms : List Message) (j w : ℕ) → Tells d g f ms → Tells d g f (put_behind (message.Null j w) ms)
tells_null d g f ms j w t = null_behind d g f (without_last_null j ms) j w (tells_without d g f j ms t)

pub tells_retraction : (d : Directory) (g f : ℕ) (ms : List Message) (n : ℕ) → Tells d g f ms → Tells d g f (put_behind (message.Retraction n) ms)
tells_retraction d g f [] n t = tt
tells_retraction d g f (message.Event x ∷ ms) n t = (t.0, subst (IsBehind x.content) (sym (discoveries-put_retraction n ms)) t.1, tells_retraction d g f ms n t.2)
tells_retraction d g f (message.Null k v ∷ ms) n t = tells_retraction d g f ms n t
tells_retraction d g f (message.Retraction m ∷ ms) n t = tells_retraction d g f ms n t
tells_retraction d g f (message.Discovery x ∷ ms) n t = (t.0, tells_retraction d g f ms n t.1)

tells_all : (e : Directory) (g f : ℕ) (ds : List Discovery) → EachOf (λ (x : Discovery). IsKnownOf e g f x.object) ds → Tells e g f (map message.Discovery ds)
tells_all e g f [] k = tt
tells_all e g f (d ∷ ds) k = (k.0, tells_all e g f ds k.1)

pub tells_discover : (d e : Directory) (g f : ℕ) (ms : List Message) (ds : List Discovery) → KeepsOwners d e → EachOf (λ (x : Discovery). IsKnownOf e g f x.object) ds → AreNew d f ds
    → Tells d g f ms → Tells e g f (put_discoveries ds ms)
tells_discover d e g f [] ds up known new t = tells_all e g f ds known
tells_discover d e g f (message.Event x ∷ ms) ds up known new t =
    (told_grows d e g f x.content up t.0, subst (IsBehind x.content) (sym (discoveries-put_discoveries ds ms)) (behind_put d g f x.content (discoveries ms) ds t.0 new t.1), tells_discover d e g f ms ds up known new t.2)
tells_discover d e g f (message.Null k v ∷ ms) ds up known new t = tells_discover d e g f ms ds up known new t
tells_discover d e g f (message.Retraction m ∷ ms) ds up known new t = tells_discover d e g f ms ds up known new t
tells_discover d e g f (message.Discovery x ∷ ms) ds up known new t = (known_grows d e g f x.object up t.0, tells_discover d e g f ms ds up known new t.1)

-- ---- changes of the tables
-- of the directory and the wires
pub objects_shift : (d e : Directory) (wire to : ℕ → ℕ → List Message) (tso ro : ℕ → List Event) (controls : ℕ → List Control) → KeepsOwners d e
    → ((g f : ℕ) → Tells e g f (to g f)) → ((g f : ℕ) (x : Content) → IsTold d g f x → IsBehind x (discoveries (wire g f)) → IsBehind x (discoveries (to g f)))
    → ObjectInv d wire tso ro controls → ObjectInv e to tso ro controls
objects_shift d e wire to tso ro controls up tells behind o = record {
  tells = tells;
  ordered = λ f. EachOf-weaker (IsWaiting d wire f) (IsWaiting e to f) (tso f) (moved f) (o.ordered f);
  plain = λ f. EachOf-weaker (IsWaiting d wire f) (IsWaiting e to f) (ro f) (moved f) (o.plain f);
  due = λ f. EachOf-weaker (IsControl d f) (IsControl e f) (controls f) (λ k. control_grows d e f k up) (o.due f);
}
  where
    moved : (f : ℕ) (x : Event) → IsWaiting d wire f x → IsWaiting e to f x
    moved f x w = (told_grows d e x.sender f x.content up w.0, behind x.sender f x.content w.0 w.1)

-- of the directory alone
pub objects_grow : (d e : Directory) (wire : ℕ → ℕ → List Message) (tso ro : ℕ → List Event) (controls : ℕ → List Control) → KeepsOwners d e
    → ObjectInv d wire tso ro controls → ObjectInv e wire tso ro controls
objects_grow d e wire tso ro controls up o = objects_shift d e wire wire tso ro controls up (λ g f. tells_grows d e g f (wire g f) up (o.tells g f)) (λ g f x _ b. b) o

-- of wires with the same discoveries
pub objects_wires : (d : Directory) (wire to : ℕ → ℕ → List Message) (tso ro : ℕ → List Event) (controls : ℕ → List Control)
    → ((g f : ℕ) → Tells d g f (to g f)) → ((g f : ℕ) → discoveries (wire g f) ≡ discoveries (to g f)) → ObjectInv d wire tso ro controls → ObjectInv d to tso ro controls
objects_wires d wire to tso ro controls tells same o = objects_shift d d wire to tso ro controls (grows_same d) tells (λ g f x _ b. subst (IsBehind x) (same g f) b) o

-- of one component's queues
pub objects_queues : (d : Directory) (wire : ℕ → ℕ → List Message) (tso ro : ℕ → List Event) (controls : ℕ → List Control) (f : ℕ) (here there : List Event)
    → EachOf (IsWaiting d wire f) here → EachOf (IsWaiting d wire f) there → ObjectInv d wire tso ro controls → ObjectInv d wire (upd tso f here) (upd ro f there) controls
objects_queues d wire tso ro controls f here there a b o = record {
  tells = o.tells;
  ordered = upd_each tso f here (λ k q. EachOf (IsWaiting d wire k) q) a (λ k _. o.ordered k);
  plain = upd_each ro f there (λ k q. EachOf (IsWaiting d wire k) q) b (λ k _. o.plain k);
  due = o.due;
}

pub objects_controls : (d : Directory) (wire : ℕ → ℕ → List Message) (tso ro : ℕ → List Event) (controls : ℕ → List Control) (f : ℕ) (ks : List Control)
    → EachOf (IsControl d f) ks → ObjectInv d wire tso ro controls → ObjectInv d wire tso ro (upd controls f ks)
objects_controls d wire tso ro controls f ks a o = record {
  tells = o.tells;
  ordered = o.ordered;
  plain = o.plain;
  due = upd_each controls f ks (λ k q. EachOf (IsControl d k) q) a (λ k _. o.due k);
}

-- ---- a message is taken from a wire
pub objects_taken : (s : Components) (g f : ℕ) (ms : List Message) → AreObjects s → Tells s.directory g f ms
    → ((x : Content) → IsBehind x (discoveries (s.wire g f)) → IsBehind x (discoveries ms)) → ObjectInv s.directory (upd2 s.wire g f ms) s.tso s.ro s.controls
objects_taken s g f ms o tells behind = objects_shift s.directory s.directory s.wire (upd2 s.wire g f ms) s.tso s.ro s.controls (grows_same s.directory)
    (upd2_each s.wire g f ms (Tells s.directory) tells o.tells)
    (upd2_each s.wire g f ms (λ g f ns. (x : Content) → IsTold s.directory g f x → IsBehind x (discoveries (s.wire g f)) → IsBehind x (discoveries ns)) (λ x _. behind x) (λ g f x _ b. b)) o

pub objects_event_came : (s : Components) (g f : ℕ) (e : Event) (ms : List Message) → AreObjects s → s.wire g f ≡ message.Event e ∷ ms → e.sender ≡ g → AreObjects (with_event_accepted s g f e ms)
objects_event_came s g f e ms o front from =
    let at : IsTold s.directory g f e.content × IsBehind e.content (discoveries ms) × Tells s.directory g f ms = rw front at (o.tells g f) in
    let t = objects_taken s g f ms o at.2 (λ x b. subst (IsBehind x) (ap discoveries front ∙ discoveries-event e ms) b) in
    let b = is_kept_in_order (s.row f) e in
    let new : IsWaiting s.directory (upd2 s.wire g f ms) f e = rw from (at.0, rw upd2_same at.1) in
    objects_queues s.directory (upd2 s.wire g f ms) s.tso s.ro s.controls f (cond b (insert_event e (s.tso f)) (s.tso f)) (cond b (s.ro f) (s.ro f ++ e ∷ []))
    (cond_both b (insert_event e (s.tso f)) (s.tso f) (EachOf (IsWaiting s.directory (upd2 s.wire g f ms) f)) (λ _. EachOf-insert _ e (s.tso f) new (t.ordered f)) (λ _. t.ordered f))
    (cond_both b (s.ro f) (s.ro f ++ e ∷ []) (EachOf (IsWaiting s.directory (upd2 s.wire g f ms) f)) (λ _. t.plain f) (λ _. EachOf-append _ (s.ro f) (e ∷ []) (t.plain f) (new, tt)))
    t

pub objects_null_taken : (s : Components) (g f k v : ℕ) (ms : List Message) → AreObjects s → s.wire g f ≡ message.Null k v ∷ ms → ObjectInv s.directory (upd2 s.wire g f ms) s.tso s.ro s.controls
objects_null_taken s g f k v ms o front = objects_taken s g f ms o (rw front at (o.tells g f)) (λ x b. subst (IsBehind x) (ap discoveries front ∙ discoveries-null k v ms) b)

pub objects_discovery_came : (s : Components) (g f : ℕ) (d : Discovery) (ms : List Message) → AreObjects s → s.wire g f ≡ message.Discovery d ∷ ms → AreObjects (with_discovery_accepted s g f d ms)
objects_discovery_came s g f d ms o front =
    let at : IsKnownOf s.directory g f d.object × Tells s.directory g f ms = rw front at (o.tells g f) in
    let t = objects_taken s g f ms o at.1 (λ x b. behind_tail x d (discoveries ms) (subst (IsBehind x) (ap discoveries front ∙ discoveries-discovery d ms) b)) in
    objects_controls s.directory (upd2 s.wire g f ms) s.tso s.ro s.controls f (s.controls f ++ ToDiscover g d ∷ []) (EachOf-append _ (s.controls f) (ToDiscover g d ∷ []) (o.due f) (at.0, tt)) t

pub objects_retraction_came : (s : Components) (g f m : ℕ) (ms : List Message) → AreObjects s → s.wire g f ≡ message.Retraction m ∷ ms → AreObjects (with_retraction_accepted s g f m ms)
objects_retraction_came s g f m ms o front =
    let t = objects_taken s g f ms o (rw front at (o.tells g f)) (λ x b. subst (IsBehind x) (ap discoveries front ∙ discoveries-retraction m ms) b) in
    let q = objects_queues s.directory (upd2 s.wire g f ms) s.tso s.ro s.controls f (remove_event g m (s.tso f)) (remove_event g m (s.ro f)) (EachOf-remove _ g m (s.tso f) (t.ordered f)) (EachOf-remove _ g m (s.ro f) (t.plain f)) t in
    objects_controls s.directory (upd2 s.wire g f ms) (upd s.tso f (remove_event g m (s.tso f))) (upd s.ro f (remove_event g m (s.ro f))) s.controls f _
    (cond_both _ (s.controls f ++ ToRetract (record { sender = g; serial = m }) ∷ []) (s.controls f) (EachOf (IsControl s.directory f)) (λ _. EachOf-append _ (s.controls f) _ (o.due f) (tt, tt)) (λ _. o.due f)) q
