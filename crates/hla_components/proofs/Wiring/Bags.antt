-- What the bag is after each change of a federation
use Rattle.std.proofs.Common.{◌≡◌, ◌≢◌, ◌⊎◌, ℕ, ◌+◌, ◌≤◌, cond, true, false, refl, sym, ap, ◌∙◌, inl, inr, ⊎_elim, arith, eq-eqb, List, [], ◌∷◌, ◌++◌, Option, Some, None, option_map}
use Rattle.std.proofs.lemmas.Bool.{cond_both, and_parts, and_cases, and_from, cases_Bool, not-true, not-false}
use Rattle.std.proofs.lemmas.Bool.Decides.{nat_tests}
use Rattle.hla_base.specs.declared.content.Content.{Content}
use Rattle.hla_base.specs.declared.content.Event.{Event}
use Rattle.hla_null_message.specs.declared.message.Message.{Message}
use Rattle.hla_null_message.specs.declared.message.Message.TheVariants as message
use Rattle.hla_base.specs.Tables.{or_else, is_other, upd, upd2}
use Rattle.hla_base.specs.Rows.{is_disabled}
use Rattle.hla_machine.specs.Directory.{Outgoing, content_for}
use Rattle.hla_machine.specs.Central.{Copy, Ro, Tso, is_key, at_key, with_copies, demoted_copy}
use Rattle.hla_machine.specs.Sends.{is_ordered, kept_stamp, copy_for}
use Rattle.hla_component_rules.specs.Queues.{is_event, find_event, occurrences, insert_event}
use Rattle.hla_null_message.specs.Wires.{events}
use Rattle.hla_components.specs.Components.{Components}
use Rattle.hla_components.specs.Next.{put_event, event_of, with_message_sent, with_event_accepted}
use Rattle.hla_component_rules.specs.Arriving.{is_kept_in_order}
use Rattle.hla_components.specs.CentralOf.{wire_copy, tso_copy, ro_copy, bag_of}
use Rattle.hla_machine.proofs.Basics.Bags.{bag_ext, or_else-none, by_key, copies_here, copies_else, at_key_here, at_key_else, at_key_self, key_other_number, key_other_sender}
use Rattle.hla_base.proofs.Tables.{by_number, upd_same, upd_other, upd_row_here, upd_row_self, upd_row_other, upd2_same, upd2_other}
use Rattle.hla_components.proofs.Wiring.Queues.{find-none, find-append, find-insert, find-cons, occurs-cons, find-occurs}
use Rattle.hla_components.proofs.Wiring.Wires.{events-put_event, find-front, occurs-event}
use Rattle.hla_components.proofs.Wiring.Copies.{AreCopies, places}

pub find-one : (g m : ℕ) (e : Event) → find_event g m (e ∷ []) ≡ cond (is_event g m e) (Some e) None
unfolding find_event
find-one g m e = refl

-- is_event and is_key are one test
pub event_key : (g m : ℕ) (e : Event) → is_event g m e ≡ is_key e.sender e.serial g m
event_key g m e = grind (arith, nat_tests)

pub event_self : (e : Event) → is_event e.sender e.serial e ≡ true
event_self e = and_from _ _ (eq-eqb e.sender e.sender refl) (eq-eqb e.serial e.serial refl)

-- ---- where a copy is once
module _ (s : Components) (c : AreCopies s) (g m f : ℕ) where
  -- a key with no place has no copy
  pub no_copy : places s g m f ≡ 0 → (find_event g m (events (s.wire g f)) ≡ None) × (find_event g m (s.tso f) ≡ None) × (find_event g m (s.ro f) ≡ None)
  no_copy h = (find-none g m _ (omega arith), find-none g m _ (omega arith), find-none g m _ (omega arith))

  pub alone_tso : (e : Event) → find_event g m (s.tso f) ≡ Some e → (find_event g m (events (s.wire g f)) ≡ None) × (find_event g m (s.ro f) ≡ None)
  alone_tso e is = (find-none g m _ (omega (arith, find-occurs g m e (s.tso f) is, c.once g m f)), find-none g m _ (omega (arith, find-occurs g m e (s.tso f) is, c.once g m f)))

  pub alone_ro : (e : Event) → find_event g m (s.ro f) ≡ Some e → (find_event g m (events (s.wire g f)) ≡ None) × (find_event g m (s.tso f) ≡ None)
  alone_ro e is = (find-none g m _ (omega (arith, find-occurs g m e (s.ro f) is, c.once g m f)), find-none g m _ (omega (arith, find-occurs g m e (s.ro f) is, c.once g m f)))

  -- the copy of what waits
  pub copy_tso : (e : Event) → find_event g m (s.tso f) ≡ Some e → bag_of s g m f ≡ Some (tso_copy e)
  copy_tso e is = rw ((alone_tso e is).0, is) refl

  pub copy_ro : (e : Event) → find_event g m (s.ro f) ≡ Some e → bag_of s g m f ≡ Some (ro_copy e)
  copy_ro e is = rw ((alone_ro e is).0, (alone_ro e is).1, is) refl

pub find_first : (e : Event) (es rest : List Event) → es ≡ e ∷ rest → find_event e.sender e.serial es ≡ Some e
find_first e es rest front = rw (front, find-cons, event_self e) refl

-- ---- sending
module _ (s : Components) (f : ℕ) (stamp : Option ℕ) (out : Outgoing) where
  abbrev put_for : ℕ → List Message → List Message
  put_for g = put_event f (s.serial f) (s.row f) stamp out (content_for s.directory out.body g)

  -- what is found at the new key, and at another
  found_new : (o : Option Content) (ms : List Message) → find_event f (s.serial f) (events ms) ≡ None
      → find_event f (s.serial f) (events (put_event f (s.serial f) (s.row f) stamp out o ms)) ≡ option_map (event_of f (s.serial f) (s.row f) stamp out) o
  found_new None ms none = none
  found_new (Some x) ms none = let e = event_of f (s.serial f) (s.row f) stamp out x in
      rw (events-put_event e ms, find-append, find-one) (rw none (rw (event_self e) refl))

  found_other : (g m : ℕ) (o : Option Content) (ms : List Message) → is_key f (s.serial f) g m ≡ false
      → find_event g m (events (put_event f (s.serial f) (s.row f) stamp out o ms)) ≡ find_event g m (events ms)
  found_other g m None ms other = refl
  found_other g m (Some x) ms other = let e = event_of f (s.serial f) (s.row f) stamp out x in
      let key : is_event g m e ≡ false = rw (event_key g m e) other in
      rw (events-put_event e ms, find-append, find-one) (rw key (or_else-none (find_event g m (events ms))))

  copy_new : (o : Option Content) → option_map wire_copy (option_map (event_of f (s.serial f) (s.row f) stamp out) o)
      ≡ option_map (λ x. record { order = cond (is_ordered (s.row f) stamp out) Tso Ro; stamp = kept_stamp (s.row f) stamp out; content = x }) o
  copy_new None = refl
  copy_new (Some x) = refl

  pub bag_sent : AreCopies s → bag_of (with_message_sent s f stamp out) ≡ with_copies s.directory.joined (bag_of s) f (s.serial f) (copy_for s.directory (s.row f) stamp out)
  bag_sent c = bag_ext _ _ (by_number f _
      (λ m k. ⊎_elim
      (λ (other : is_other s.directory.joined f k ≡ true). by_number (s.serial f) (λ m. bag_of (with_message_sent s f stamp out) f m k ≡ with_copies s.directory.joined (bag_of s) f (s.serial f) (copy_for s.directory (s.row f) stamp out) f m k)
      (let n = no_copy s c f (s.serial f) k (c.unused f (s.serial f) k (omega arith)) in
      rw (upd_row_here, found_new (content_for s.directory out.body k) (s.wire f k) n.0, copies_here) (rw (n.0, n.1, n.2) (ap (λ o. or_else o None) (copy_new (content_for s.directory out.body k)))))
      (λ m ne.
      let key = key_other_number f (s.serial f) m ne in
      let k2 : (is_key f (s.serial f) f m ≡ false) ⊎ (is_other s.directory.joined f k ≡ false) = inl key in
      rw (upd_row_here, found_other f m (content_for s.directory out.body k) (s.wire f k) key, copies_else) refl) m)
      (λ (self : is_other s.directory.joined f k ≡ false).
      let k2 : (is_key f (s.serial f) f m ≡ false) ⊎ (is_other s.directory.joined f k ≡ false) = inr self in
      rw (upd_row_self, copies_else) refl)
      (cases_Bool (is_other s.directory.joined f k)))
      (λ g ne m k.
      let k2 : (is_key f (s.serial f) g m ≡ false) ⊎ (is_other s.directory.joined f k ≡ false) = inl (key_other_sender f g (s.serial f) m ne) in
      rw (upd_row_other, copies_else) refl))

-- ---- wires with the same events
pub bag_same_wires : (s : Components) (wire : ℕ → ℕ → List Message) → ((g k : ℕ) → events (wire g k) ≡ events (s.wire g k)) → bag_of (record s { wire = wire }) ≡ bag_of s
bag_same_wires s wire same = bag_ext _ _ (λ g m k. ap (λ es. or_else (option_map wire_copy (find_event g m es)) (or_else (option_map tso_copy (find_event g m (s.tso k))) (option_map ro_copy (find_event g m (s.ro k))))) (same g k))

-- ---- an event goes from the wire to a queue
module _ (s : Components) (g f : ℕ) (e : Event) (ms : List Message) (c : AreCopies s) (front : s.wire g f ≡ message.Event e ∷ ms) (from : e.sender ≡ g) where
  came_once : (occurrences g e.serial (events ms) ≡ 0) × (occurrences g e.serial (s.tso f) ≡ 0) × (occurrences g e.serial (s.ro f) ≡ 0)
  came_once =
      let o : cond (is_event g e.serial e) 1 0 + occurrences g e.serial (events ms) + (occurrences g e.serial (s.tso f) + occurrences g e.serial (s.ro f)) ≤ 1 = rw (front, occurs-event) at (c.once g e.serial f) in
      let key : is_event g e.serial e ≡ true = and_from _ _ (eq-eqb g e.sender (sym from)) (eq-eqb e.serial e.serial refl) in
      let o2 : 1 + occurrences g e.serial (events ms) + (occurrences g e.serial (s.tso f) + occurrences g e.serial (s.ro f)) ≤ 1 = rw key at o in
      (omega arith, omega arith, omega arith)

  pub copy_came : bag_of s g e.serial f ≡ Some (wire_copy e)
  copy_came =
      let key : is_event g e.serial e ≡ true = and_from _ _ (eq-eqb g e.sender (sym from)) (eq-eqb e.serial e.serial refl) in
      rw (front, find-front) (rw key refl)

  came_key : (h m : ℕ) → is_key g e.serial h m ≡ false → is_event h m e ≡ false
  came_key h m other = rw (event_key h m e, from) other

  rest_find : (h m : ℕ) → is_key g e.serial h m ≡ false → find_event h m (events (upd2 s.wire g f ms h f)) ≡ find_event h m (events (s.wire h f))
  rest_find = λ h m. by_number g (λ h. is_key g e.serial h m ≡ false → find_event h m (events (upd2 s.wire g f ms h f)) ≡ find_event h m (events (s.wire h f)))
      (λ no. rw (upd2_same, front, find-front, came_key g m no) refl)
      (λ k ne no. let w : (g ≢ k) ⊎ (f ≢ f) = inl ne in rw upd2_other refl) h

  -- the queues tso and ro are those of f with e added to one of them
  pub bag_came : (tso ro : List Event) (k : Copy) → ((h m : ℕ) → is_event h m e ≡ false → (find_event h m tso ≡ find_event h m (s.tso f)) × (find_event h m ro ≡ find_event h m (s.ro f)))
      → or_else (option_map tso_copy (find_event g e.serial tso)) (option_map ro_copy (find_event g e.serial ro)) ≡ Some k
      → bag_of (record s { wire = upd2 s.wire g f ms; tso = upd s.tso f tso; ro = upd s.ro f ro }) ≡ at_key (bag_of s) g e.serial f (Some k)
  bag_came tso ro k others here = bag_ext _ _ (by_key g e.serial _
      (by_number f _
      (rw (upd2_same, upd_same, upd_same, at_key_here, find-none g e.serial (events ms) came_once.0) here)
      (λ l ne. let k2 : (is_key g e.serial g e.serial ≡ false) ⊎ (f ≢ l) = inr ne in let w : (g ≢ g) ⊎ (f ≢ l) = inr ne in rw (upd2_other, upd_other, upd_other, at_key_else) refl))
      (λ h m no. by_number f _
      (let o = others h m (came_key h m no) in
      let k2 : (is_key g e.serial h m ≡ false) ⊎ (f ≢ f) = inl no in
      rw (rest_find h m no, upd_same, upd_same, at_key_else) (rw (o.0, o.1) refl))
      (λ l ne. let k2 : (is_key g e.serial h m ≡ false) ⊎ (f ≢ l) = inr ne in let w : (g ≢ h) ⊎ (f ≢ l) = inr ne in rw (upd2_other, upd_other, upd_other, at_key_else) refl)))

tso_copy_is : (e : Event) → e.ordered ≡ true → wire_copy e ≡ tso_copy e
tso_copy_is e t = rw t refl

ro_copy_is : (e : Event) → e.ordered ≡ false → wire_copy e ≡ ro_copy e
ro_copy_is e t = rw t refl

demoted_copy_same : (e : Event) → demoted_copy (wire_copy e) ≡ ro_copy e
demoted_copy_same e = ⊎_elim (λ (t : e.ordered ≡ true). rw t refl) (λ (t : e.ordered ≡ false). rw t refl) (cases_Bool e.ordered)

pub bag_event : (s : Components) (g f : ℕ) (e : Event) (ms : List Message) → AreCopies s → s.wire g f ≡ message.Event e ∷ ms → e.sender ≡ g
    → bag_of (with_event_accepted s g f e ms) ≡ cond (is_disabled (s.row f).constrained) (at_key (bag_of s) g e.serial f (option_map demoted_copy (bag_of s g e.serial f))) (bag_of s)
bag_event s g f e ms c front from =
    let b = is_kept_in_order (s.row f) e in
    let once = came_once s g f e ms c front from in
    let was = copy_came s g f e ms c front from in
    let key : is_event g e.serial e ≡ true = and_from _ _ (eq-eqb g e.sender (sym from)) (eq-eqb e.serial e.serial refl) in
    let fresh_tso : occurrences e.sender e.serial (s.tso f) ≡ 0 = rw from once.1 in
    ⊎_elim
    (λ (y : b ≡ true). let p = and_parts _ _ y in
    rw y (bag_came s g f e ms c front from (insert_event e (s.tso f)) (s.ro f) (tso_copy e)
    (λ h m other. (rw (find-insert h m e (s.tso f) fresh_tso, other) refl, refl))
    (rw (find-insert g e.serial e (s.tso f) fresh_tso, key) refl)
    ∙ (at_key_self (bag_of s) g e.serial f (Some (tso_copy e)) (was ∙ ap Some (tso_copy_is e p.0))
    ∙ ap (λ b. cond b (at_key (bag_of s) g e.serial f (option_map demoted_copy (bag_of s g e.serial f))) (bag_of s)) (sym (not-true (is_disabled (s.row f).constrained) p.1)))))
    (λ (n : b ≡ false).
    rw n (bag_came s g f e ms c front from (s.tso f) (s.ro f ++ e ∷ []) (ro_copy e)
    (λ h m other. (refl, rw (find-append, find-one, other) (or_else-none _)))
    (rw (find-append, find-one, find-none g e.serial (s.tso f) once.1, find-none g e.serial (s.ro f) once.2, key) refl)
    ∙ cond_both (is_disabled (s.row f).constrained) (at_key (bag_of s) g e.serial f (option_map demoted_copy (bag_of s g e.serial f))) (bag_of s)
    (λ x. at_key (bag_of s) g e.serial f (Some (ro_copy e)) ≡ x)
    (λ _. ap (at_key (bag_of s) g e.serial f) (rw was (ap Some (sym (demoted_copy_same e)))))
    (λ free. at_key_self (bag_of s) g e.serial f (Some (ro_copy e)) (was ∙ ap Some (ro_copy_is e (⊎_elim (λ t. t) (λ i. let u : is_disabled (s.row f).constrained ≡ true = not-false _ i in absurd (cc)) (and_cases _ _ n)))))))
    (cases_Bool b)

-- ---- one component's queues lose a copy
pub bag_removed : (s : Components) (f g m : ℕ) (tso ro : List Event)
    → ((h k : ℕ) → is_key g m h k ≡ false → (find_event h k tso ≡ find_event h k (s.tso f)) × (find_event h k ro ≡ find_event h k (s.ro f)))
    → find_event g m (events (s.wire g f)) ≡ None → find_event g m tso ≡ None → find_event g m ro ≡ None
    → bag_of (record s { tso = upd s.tso f tso; ro = upd s.ro f ro }) ≡ at_key (bag_of s) g m f None
bag_removed s f g m tso ro others a b c = bag_ext _ _ (by_key g m _
    (by_number f _
    (rw (upd_same, upd_same, at_key_here) (rw (a, b, c) refl))
    (λ l ne. let k2 : (is_key g m g m ≡ false) ⊎ (f ≢ l) = inr ne in rw (upd_other, upd_other, at_key_else) refl))
    (λ h k other. by_number f _
    (let o = others h k other in let k2 : (is_key g m h k ≡ false) ⊎ (f ≢ f) = inl other in rw (upd_same, upd_same, at_key_else) (rw (o.0, o.1) refl))
    (λ l ne. let k2 : (is_key g m h k ≡ false) ⊎ (f ≢ l) = inr ne in rw (upd_other, upd_other, at_key_else) refl)))

find_rest : (g m : ℕ) (e : Event) (rest : List Event) → is_key e.sender e.serial g m ≡ false → find_event g m rest ≡ find_event g m (e ∷ rest)
find_rest g m e rest other = let k : is_event g m e ≡ false = rw (event_key g m e) other in rw (find-cons, k) refl

-- behind the first with a key there is no other
rest_none : (g m : ℕ) (e : Event) (es rest : List Event) → es ≡ e ∷ rest → is_event g m e ≡ true → occurrences g m es ≤ 1 → find_event g m rest ≡ None
rest_none g m e es rest front key o =
    let o2 : cond (is_event g m e) 1 0 + occurrences g m rest ≤ 1 = rw (front, occurs-cons) at o in
    let o3 : 1 + occurrences g m rest ≤ 1 = rw key at o2 in find-none g m rest (omega arith)

pub bag_ro_picked : (s : Components) (f : ℕ) (e : Event) (rest : List Event) → AreCopies s → s.ro f ≡ e ∷ rest → bag_of (record s { tso = upd s.tso f (s.tso f); ro = upd s.ro f rest }) ≡ at_key (bag_of s) e.sender e.serial f None
bag_ro_picked s f e rest c front =
    let a = alone_ro s c e.sender e.serial f e (find_first e (s.ro f) rest front) in
    bag_removed s f e.sender e.serial (s.tso f) rest (λ h k other. (refl, rw front (find_rest h k e rest other))) a.0 a.1
    (rest_none e.sender e.serial e (s.ro f) rest front (event_self e) (omega (arith, c.once e.sender e.serial f)))

pub bag_tso_picked : (s : Components) (f : ℕ) (e : Event) (rest : List Event) → AreCopies s → s.tso f ≡ e ∷ rest → bag_of (record s { tso = upd s.tso f rest; ro = upd s.ro f (s.ro f) }) ≡ at_key (bag_of s) e.sender e.serial f None
bag_tso_picked s f e rest c front =
    let a = alone_tso s c e.sender e.serial f e (find_first e (s.tso f) rest front) in
    bag_removed s f e.sender e.serial rest (s.ro f) (λ h k other. (rw front (find_rest h k e rest other), refl)) a.0
    (rest_none e.sender e.serial e (s.tso f) rest front (event_self e) (omega (arith, c.once e.sender e.serial f))) a.1
