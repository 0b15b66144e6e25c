-- A federation while interactions and updates are put on the wires, one receiver after another
use Rattle.std.proofs.Common.{◌≡◌, ℕ, zero, suc, ◌+◌, ◌<◌, ◌≤◌, List, [], ◌∷◌, ◌++◌, length, filter, cond, eqb, ltb, not, ◌&&◌, Bool, true, false, Option, None, Some, is_some, refl, sym, ap, subst, ◌∙◌, arith, ⊎_elim}
use Rattle.std.specs.Prelude.{IsTrue}
use Rattle.std.specs.Option.{option_map_or, option_and_then}
use Rattle.std.proofs.Math.Bool.{and-false}
use Rattle.std.proofs.Math.Path.{fun_ext}
use Rattle.std.proofs.lemmas.Bool.{cases_Bool}
use Rattle.std.proofs.lemmas.Bool.Decides.{nat_tests}
use Rattle.std.proofs.lemmas.List.{append-nil, append_assoc}
use Rattle.hla_base.specs.declared.content.Content.{Content}
use Rattle.hla_base.specs.declared.content.Content.TheVariants as content
use Rattle.hla_base.specs.declared.content.Event.{Event}
use Rattle.hla_base.specs.declared.content.HandleValuePair.{HandleValuePair}
use Rattle.hla_base.specs.Limits.{max_joins}
use Rattle.hla_base.specs.Tables.{upd, upd2, is_other, when}
use Rattle.hla_catalogue.specs.Lookup.{has_parameter, object_lineage, interaction_lineage}
use Rattle.hla_declaration.specs.Declarations as declared
use Rattle.hla_declaration.specs.Receivers.{AreServed}
use Rattle.hla_declaration.specs.Subscribers.{has_federate}
use Rattle.hla_declaration.specs.declared.subscribing.Subscribers.{Subscribers}
use Rattle.hla_null_message.specs.declared.message.Message.{Message}
use Rattle.hla_null_message.specs.declared.message.Message.TheVariants as message
use Rattle.hla_machine.specs.Directory.{Directory, Body, AnInteraction, AnUpdate, default_name, is_receiver, served_interaction, served_object}
use Rattle.hla_machine.specs.Registered.{registry_of}
use Rattle.hla_synchronization.specs.OpenPoints.{points_of}
use Rattle.hla_members.specs.Putting.{wires_with}
use Rattle.hla_members.proofs.MemberTables.{upd-self}
use Rattle.hla_execution.specs.MemberValue.{MemberValue, MemberTables, members_of}
use Rattle.hla_federation.specs.FederationValue.{FederationValue}
use Rattle.hla_federation.specs.declared.heading.Heading.{Heading}
use Rattle.hla_federation.specs.Steps.Sending.{HasSent, message_to, only_to, part_to, said_messages}
use Rattle.hla_federation.specs.Steps.State.{AreWhole, IsWhole, directory_from, state_of}
use Rattle.hla_federation.proofs.Steps.Receiving.{has_message, told_are}
use Rattle.hla_federation.proofs.Steps.Addressing.{added_at, find_none, interaction_at, joined_within, map_then, reflection_at}

-- ---- wires with messages behind the others
module _ (f : ℕ) (wire : ℕ → ℕ → List Message) where
  pub with_nothing : wires_with f (λ _. []) wire ≡ wire
  with_nothing = fun_ext (λ g. fun_ext (λ h. ⊎_elim
      (λ (y : eqb f g ≡ true). rw y (append-nil (wire g h)))
      (λ (n : eqb f g ≡ false). rw n refl)
      (cases_Bool (eqb f g))))

  pub with_both : (a b : ℕ → List Message) → wires_with f b (wires_with f a wire) ≡ wires_with f (λ h. a h ++ b h) wire
  with_both a b = fun_ext (λ g. fun_ext (λ h. ⊎_elim
      (λ (y : eqb f g ≡ true). rw y (append_assoc (wire g h) (a h) (b h)))
      (λ (n : eqb f g ≡ false). rw n refl)
      (cases_Bool (eqb f g))))

  pub with_one : (to : ℕ) (ms : List Message) → upd2 wire f to (wire f to ++ ms) ≡ wires_with f (λ h. cond (eqb to h) ms []) wire
  unfolding upd2
  with_one to ms = fun_ext (λ g. fun_ext (λ h. ⊎_elim
      (λ (y : eqb f g ≡ true). ⊎_elim
      (λ (z : eqb to h ≡ true).
      let e : f ≡ g = grind (arith, nat_tests) in
      let k : to ≡ h = grind (arith, nat_tests) in
      rw (y, z) (λ i. wire (e i) (k i) ++ ms))
      (λ (n : eqb to h ≡ false). rw (y, n) (sym (append-nil (wire g h))))
      (cases_Bool (eqb to h)))
      (λ (n : eqb f g ≡ false). rw n refl)
      (cases_Bool (eqb f g))))

-- ---- the federation with them
module _ (f : ℕ) where
  pub sent_same : (a b : ℕ → List Message) (v w : FederationValue) → ((h : ℕ) → a h ≡ b h) → HasSent f a v w → HasSent f b v w
  sent_same a b v w same sent = subst (λ (ms : ℕ → List Message). HasSent f ms v w) (fun_ext same) sent

  pub sent_nothing : (v : FederationValue) → HasSent f (λ _. []) v v
  sent_nothing v = (refl, ap (λ (x : ℕ → ℕ → List Message). record (members_of v.members) { wire = x }) (sym (with_nothing f (members_of v.members).wire)))

  pub sent_more : (a b : ℕ → List Message) (u v w : FederationValue) → HasSent f a u v → HasSent f b v w → HasSent f (λ h. a h ++ b h) u w
  sent_more a b u v w first second = (
    second.0 ∙ ap (λ (x : FederationValue). record x { members = w.members }) first.0,
    second.1 ∙ ap (λ (t : MemberTables). record t { wire = wires_with f b t.wire }) first.1
        ∙ ap (λ (x : ℕ → ℕ → List Message). record (members_of u.members) { wire = x }) (with_both f (members_of u.members).wire a b),
  )

  module _ (a : ℕ → List Message) (v w : FederationValue) (sent : HasSent f a v w) where
    -- what has not changed
    pub sent_directory : (state_of w).directory ≡ (state_of v).directory
    sent_directory =
        ap (λ (x : FederationValue). (state_of x).directory) sent.0
        ∙ ap (λ (t : MemberTables). directory_from v.catalogue (points_of v.points) (declared.declarations_of v.declarations) (registry_of v.objects) t) sent.1

    pub sent_row : (g : ℕ) → (state_of w).row g ≡ (state_of v).row g
    sent_row g = ap (λ (t : MemberTables). (t.local g).row) sent.1

    pub sent_parts : IsWhole v → IsWhole w
    sent_parts whole = subst (λ (x : FederationValue). IsWhole x) (sym sent.0) (record {
      parts = subst (λ (t : MemberTables). AreWhole v.catalogue (declared.declarations_of v.declarations) t) (sym sent.1) (record {
        few = whole.parts.few;
        federates = whole.parts.federates;
        object_classes = whole.parts.object_classes;
        interaction_classes = whole.parts.interaction_classes;
        silent = whole.parts.silent;
        unmet = whole.parts.unmet;
      });
      named = subst (λ (t : MemberTables). (g : ℕ) → t.joined g ≡ true → v.next_name ≡ default_name (registry_of v.objects).next_object) (sym sent.1) whole.named;
    })

    -- and all is as it was where the members are
    pub sent_undone : (members : List MemberValue) → members ≡ v.members → record w { members = members } ≡ v
    sent_undone members same = ap (λ (x : FederationValue). record x { members = members }) sent.0 ∙ ap (λ (ms : List MemberValue). record v { members = ms }) same

-- ---- one receiver
module _ (f peer : ℕ) (messages : ℕ → List Message) (v : FederationValue) where
  -- to whom nothing goes
  pub sent_none : messages peer ≡ [] → HasSent f (only_to peer messages) v v
  sent_none none = sent_same f (λ _. []) (only_to peer messages) v v (λ h. sym (ap (λ (ms : List Message). cond (eqb peer h) ms []) none ∙ either (eqb peer h))) (sent_nothing f v)
    where
      either : (b : Bool) → ◌≡◌ {A = List Message} (cond b [] []) []
      either true = refl
      either false = refl

  -- to whom an event goes
  pub sent_event : (e : Event) (members : List MemberValue) → messages peer ≡ message.Event e ∷ []
      → members_of members ≡ record (members_of v.members) { wire = upd2 (members_of v.members).wire f peer ((members_of v.members).wire f peer ++ message.Event e ∷ []) }
      → HasSent f (only_to peer messages) v (record v { members = members })
  sent_event e members one is = (
    refl,
    is ∙ ap (λ (x : ℕ → ℕ → List Message). record (members_of v.members) { wire = x }) (with_one f (members_of v.members).wire peer (message.Event e ∷ [])
        ∙ ap (λ (ms : List Message). wires_with f (λ h. cond (eqb peer h) ms []) (members_of v.members).wire) (sym one)),
  )

-- a part of an update that has values goes as any update does
pub sent_part : (head : Heading) (object : ℕ) (values : List HandleValuePair) (v w : FederationValue) (empty : Bool) → (length values ≡ 0 → IsTrue empty) → empty ≡ false
    → HasSent head.sender (message_to (state_of v).directory head (AnUpdate object values)) v w → HasSent head.sender (part_to (state_of v).directory head object values) v w
sent_part head object [] v w empty none some sent = let yes : empty ≡ true = none refl in absurd (cc)
sent_part head object (x ∷ xs) v w empty none some sent =
    let d = (state_of v).directory in
    sent_same head.sender (message_to d head (AnUpdate object (x ∷ xs))) (part_to d head object (x ∷ xs)) v w (λ h. refl) sent

-- who is told
pub told_none : (told : ℕ → Bool) (peer : ℕ) (receives : Bool) → told peer ≡ false → receives ≡ false → told ≡ upd told peer receives
told_none told peer receives untold none = sym (upd-self told peer receives (none ∙ sym untold))

none_is : (o : Option ℕ) → is_some o ≡ false → o ≡ None
none_is None none = refl
none_is (Some k) none = absurd (cc)

-- what goes to a federate is what is said at the class at which it is served
served_is : (head : Heading) (said_at : ℕ → Option Content) (own joined : Bool) (served : Option ℕ) → (joined ≡ false → served ≡ None)
    → cond (not own && joined) (said_messages head (option_and_then said_at served)) [] ≡ option_map_or (λ k. said_messages head (said_at k)) (when (not own) served) []
served_is head said_at true joined served silent = refl
served_is head said_at false true None silent = refl
served_is head said_at false true (Some k) silent = refl
served_is head said_at false false None silent = refl
served_is head said_at false false (Some k) silent = let no = silent refl in absurd (cc)

module _ (v : FederationValue) (whole : IsWhole v) (head : Heading) (peer : ℕ) where
  pub interaction_said : (class : ℕ) (values : List HandleValuePair) → message_to (state_of v).directory head (AnInteraction class values) peer
      ≡ option_map_or (λ k. said_messages head (interaction_at v.catalogue values peer k)) (when (not (eqb head.sender peer)) (served_interaction (state_of v).directory peer class)) []
  interaction_said class values =
      let d = (state_of v).directory in
      ap (λ (x : Option Content). cond (is_other d.joined head.sender peer) (said_messages head x) [])
      (sym (map_then (λ k. content.Interaction k (filter (λ (p : HandleValuePair). has_parameter v.catalogue k p.handle) values)) (served_interaction d peer class)))
      ∙ served_is head (interaction_at v.catalogue values peer) (eqb head.sender peer) (d.joined peer) (served_interaction d peer class)
      (λ no. find_none (λ k. d.subscribed_interaction peer k) (interaction_lineage v.catalogue class) (λ k. (whole.parts.silent peer k no).interactions))

  pub update_said : (object class : ℕ) (values : List HandleValuePair) → class ≡ ((state_of v).directory.object object).class
      → message_to (state_of v).directory head (AnUpdate object values) peer
      ≡ option_map_or (λ k. said_messages head (reflection_at (state_of v).directory object values peer k)) (when (not (eqb head.sender peer)) (served_object (state_of v).directory peer class)) []
  update_said object class values is =
      let d = (state_of v).directory in
      ap (λ (k : ℕ). cond (is_other d.joined head.sender peer) (said_messages head (option_and_then (reflection_at d object values peer) (served_object d peer k))) []) (sym is)
      ∙ served_is head (reflection_at d object values peer) (eqb head.sender peer) (d.joined peer) (served_object d peer class)
      (λ no. find_none (λ k. is_some (d.subscribed peer k)) (object_lineage v.catalogue class) (λ k. ap (λ (o : Option (List ℕ)). is_some o) (whole.parts.silent peer k no).objects))

  -- nothing where it is served at no class
  says_nothing : (b : Bool) (says : ℕ → List Message) → option_map_or says (when b None) [] ≡ []
  says_nothing true says = refl
  says_nothing false says = refl

  pub interaction_unserved : (class : ℕ) (values : List HandleValuePair) → is_some (served_interaction (state_of v).directory peer class) ≡ false
      → message_to (state_of v).directory head (AnInteraction class values) peer ≡ []
  interaction_unserved class values none =
      interaction_said class values
      ∙ ap (λ (o : Option ℕ). option_map_or (λ k. said_messages head (interaction_at v.catalogue values peer k)) (when (not (eqb head.sender peer)) o) []) (none_is _ none)
      ∙ says_nothing (not (eqb head.sender peer)) (λ k. said_messages head (interaction_at v.catalogue values peer k))

  pub update_unserved : (object class : ℕ) (values : List HandleValuePair) → class ≡ ((state_of v).directory.object object).class
      → is_some (served_object (state_of v).directory peer class) ≡ false → message_to (state_of v).directory head (AnUpdate object values) peer ≡ []
  update_unserved object class values is none =
      let d = (state_of v).directory in
      update_said object class values is
      ∙ ap (λ (o : Option ℕ). option_map_or (λ k. said_messages head (reflection_at d object values peer k)) (when (not (eqb head.sender peer)) o) []) (none_is _ none)
      ∙ says_nothing (not (eqb head.sender peer)) (λ k. said_messages head (reflection_at d object values peer k))

-- ---- one receiver after another
module _ (v : FederationValue) (head : Heading) (body : Body) where
  abbrev messages : ℕ → List Message
  messages = message_to (state_of v).directory head body

  abbrev receives : ℕ → Bool
  receives = is_receiver (state_of v).directory head.sender body

  -- those for the federates below a number
  abbrev pub messages_below : ℕ → ℕ → List Message
  messages_below peer h = cond (ltb h peer) (messages h) []

  pub posted_next : (peer : ℕ) (now new : FederationValue) → HasSent head.sender (messages_below peer) v now
      → HasSent head.sender (only_to peer (message_to (state_of now).directory head body)) now new → HasSent head.sender (messages_below (peer + 1)) v new
  posted_next peer now new before one =
      let here = subst (λ (d : Directory). HasSent head.sender (only_to peer (message_to d head body)) now new) (sent_directory head.sender (messages_below peer) v now before) one in
      sent_same head.sender (λ h. messages_below peer h ++ only_to peer messages h) (messages_below (peer + 1)) v new (λ h. added_at messages peer h)
      (sent_more head.sender (messages_below peer) (only_to peer messages) v now new before here)

  -- and who was told
  abbrev pub told_below : ℕ → ℕ → Bool
  told_below peer g = ltb g peer && receives g

  pub told_not_yet : (peer : ℕ) → told_below peer peer ≡ false
  told_not_yet peer = let past : ltb peer peer ≡ false = grind (arith, nat_tests) in rw past refl

  pub told_next : (peer : ℕ) (told new : ℕ → Bool) (d : Directory) → d ≡ (state_of v).directory → ((g : ℕ) → told g ≡ told_below peer g)
      → new ≡ upd told peer (is_receiver d head.sender body peer) → (g : ℕ) → new g ≡ told_below (peer + 1) g
  unfolding upd
  told_next peer told new d same before is g = ap (λ (t : ℕ → Bool). t g) is ∙ ap (λ (x : Directory). cond (eqb peer g) (is_receiver x head.sender body peer) (told g)) same ∙ ⊎_elim
      (λ (y : eqb peer g ≡ true).
      let e : peer ≡ g = grind (arith, nat_tests) in
      let now : ltb g (peer + 1) ≡ true = grind (arith, nat_tests) in
      rw (y, now) (ap receives e))
      (λ (n : eqb peer g ≡ false).
      let same : ltb g (peer + 1) ≡ ltb g peer = grind (arith, nat_tests) in
      rw (n, same) (before g))
      (cases_Bool (eqb peer g))

  -- nothing goes to a number that no federate has, so that who is served tells the others
  pub nothing_to : (h : ℕ) → (0 < h → h < length v.members + 1 → messages h ≡ []) → messages h ≡ []
  nothing_to zero within = let nobody : is_other (state_of v).directory.joined head.sender 0 ≡ false = and-false (not (eqb head.sender 0)) in rw nobody refl
  nothing_to (suc k) within = ⊎_elim
      (λ (y : (members_of v.members).joined (suc k) ≡ true). within (omega arith) (joined_within v.members (suc k) y))
      (λ (n : (members_of v.members).joined (suc k) ≡ false). rw (n, and-false (not (eqb head.sender (suc k)))) refl)
      (cases_Bool ((members_of v.members).joined (suc k)))

  unreceived : (h : ℕ) → messages h ≡ [] → receives h ≡ false
  unreceived h none = sym (told_are (state_of v).directory head body h) ∙ ap has_message none

  module _ (first : ℕ) (none : (h : ℕ) → h < first → messages h ≡ []) where
    pub posted_from : HasSent head.sender (messages_below first) v v
    posted_from = sent_same head.sender (λ _. []) (messages_below first) v v (λ h. ⊎_elim
        (λ (y : ltb h first ≡ true). let below : h < first = grind (arith, nat_tests) in rw (y, none h below) refl)
        (λ (n : ltb h first ≡ false). rw n refl)
        (cases_Bool (ltb h first))) (sent_nothing head.sender v)

    pub told_from : (g : ℕ) → false ≡ told_below first g
    told_from g = ⊎_elim
        (λ (y : ltb g first ≡ true). let below : g < first = grind (arith, nat_tests) in rw (y, unreceived g (none g below)) refl)
        (λ (n : ltb g first ≡ false). rw n refl)
        (cases_Bool (ltb g first))

  module _ (end : ℕ) (none : (h : ℕ) → end ≤ h → messages h ≡ []) where
    pub posted_to : (new : FederationValue) → HasSent head.sender (messages_below end) v new → HasSent head.sender messages v new
    posted_to new sent = sent_same head.sender (messages_below end) messages v new (λ h. ⊎_elim
        (λ (y : ltb h end ≡ true). rw y refl)
        (λ (n : ltb h end ≡ false). let past : end ≤ h = grind (arith, nat_tests) in rw (n, none h past) refl)
        (cases_Bool (ltb h end))) sent

    pub told_to : (g : ℕ) → told_below end g ≡ receives g
    told_to g = ⊎_elim
        (λ (y : ltb g end ≡ true). rw y refl)
        (λ (n : ltb g end ≡ false). let past : end ≤ g = grind (arith, nat_tests) in rw (n, unreceived g (none g past)) refl)
        (cases_Bool (ltb g end))

-- nothing goes to who is not among the subscribers
module _ (v : FederationValue) (whole : IsWhole v) (head : Heading) (subscribers : Subscribers) where
  abbrev IsNone : ℕ → Type 0
  IsNone h = 0 < h → h < length v.members + 1 → has_federate subscribers.bits h ≡ false

  joined_few : (h : ℕ) → h < length v.members + 1 → h ≤ max_joins
  joined_few h few = let all : length v.members + 1 ≤ max_joins + 1 = whole.parts.few in omega (arith, few, all)

  pub interaction_unsubscribed : (class : ℕ) (values : List HandleValuePair) → AreServed subscribers (λ f. served_interaction (state_of v).directory f class)
      → (h : ℕ) → IsNone h → message_to (state_of v).directory head (AnInteraction class values) h ≡ []
  interaction_unsubscribed class values served h none = nothing_to v head (AnInteraction class values) h
      (λ some few. interaction_unserved v whole head h class values (sym (served h (joined_few h few)) ∙ none some few))

  pub update_unsubscribed : (object class : ℕ) (values : List HandleValuePair) → class ≡ ((state_of v).directory.object object).class
      → AreServed subscribers (λ f. served_object (state_of v).directory f class)
      → (h : ℕ) → IsNone h → message_to (state_of v).directory head (AnUpdate object values) h ≡ []
  update_unsubscribed object class values is served h none = nothing_to v head (AnUpdate object values) h
      (λ some few. update_unserved v whole head h object class values is (sym (served h (joined_few h few)) ∙ none some few))
