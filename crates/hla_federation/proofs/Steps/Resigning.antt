-- Resigning is what the next-state function says
use Rattle.hla_base.specs.Limits.{largest_number, max_serial}
use Rattle.std.proofs.Common.{◌≡◌, ⊎_elim, ℕ, zero, suc, ◌+◌, ◌<◌, ◌≤◌, cond, eqb, ltb, not, Bool, true, false, None, Some, List, [], ◌∷◌, ◌++◌, length, map, take, get_or, refl, sym, ap, ◌∙◌, arith}
use Rattle.std.proofs.lemmas.Bool.{cases_Bool}
use Rattle.std.proofs.lemmas.Bool.Decides.{nat_tests}
use Rattle.std.proofs.lemmas.List.{append-nil, append_assoc, take_more, get_or_past}
use Rattle.std.proofs.Math.Path.{fun_ext}
use Rattle.hla_base.specs.declared.fault.Fault.{Fault}
use Rattle.hla_base.specs.declared.fault.Fault.TheVariants as fault
use Rattle.hla_base.specs.Tables.{forever, upd, upd_row, upd_whole_column, is_other}
use Rattle.hla_base.specs.Rows.{is_regulator, new_row}
use Rattle.hla_lbts.specs.Peers.{peers_of}
use Rattle.hla_component_rules.specs.LocalValue.{LocalValue, resigned_local}
use Rattle.hla_null_message.specs.declared.message.Message.TheVariants as message
use Rattle.hla_catalogue.specs.CatalogueValue.{CatalogueValue}
use Rattle.hla_base.specs.declared.row.TimeRow.{TimeRow}
use Rattle.hla_declaration.specs.Declarations.{DeclarationsValue}
use Rattle.hla_machine.specs.Registered.{RegistryValue}
use Rattle.hla_object_registry.specs.Queries.{without_owned}
use Rattle.hla_null_message.specs.declared.message.Message.{Message}
use Rattle.hla_machine.specs.Directory.{Directory, Outgoing, ADeletion, deletions_sent, objects_of, without_member, joined_federates}
use Rattle.hla_machine.specs.declared.service.Service.TheVariants as service
use Rattle.hla_machine.specs.declared.service.ResignAction.{ResignAction}
use Rattle.hla_machine.specs.declared.service.ResignAction.TheVariants.{ReleaseAttributes, DeleteObjects, DeleteObjectsAndReleaseAttributes, NoAction}
use Rattle.hla_machine.specs.declared.step.Step.TheVariants.{Call}
use Rattle.hla_machine.specs.Refusals.{Seen, refusal}
use Rattle.hla_members.specs.declared.direction.Direction.TheVariants.{From}
use Rattle.hla_components.specs.Components.{Components}
use Rattle.hla_execution.specs.MemberValue.{item, MemberValue, no_member, MemberTables, members_of}
use Rattle.hla_members.specs.Members.{is_number, wires_posted_below, with_member_withdrawn}
use Rattle.hla_null_message.specs.Wires.{put_behind, put_all_behind}
use Rattle.hla_null_message.proofs.Wires.{HasNoNull, put_all-append, put_all-no_null}
use Rattle.hla_synchronization.specs.Points.{Point, closing, left_open, closing_of}
use Rattle.hla_federation.proofs.Steps.NoNulls.{messages_no_null}
use Rattle.hla_components.specs.Next.{with_last_null, with_complete_closed, with_federate_gone, with_messages_sent, with_federate_resigned, components_seen}
use Rattle.hla_members.specs.Noting.{IsUnsentFrom}
use Rattle.hla_members.specs.Telling.{with_all_told}
use Rattle.hla_federation.proofs.Steps.Notifying.{closed_state, withdrawn_told}
use Rattle.hla_federation.specs.Steps.Sending.{HasAdded, heading_of, message_to, messages_to, last_null_to}
use Rattle.hla_federation.specs.Steps.State.{state_from, directory_from}
use Rattle.hla_members.proofs.MemberTables.{upd-self, upd-field}
use Rattle.hla_federation.proofs.Steps.SendingAll.{sent_wire, sends_all}
use Rattle.hla_federation.proofs.Steps.Noting.{deletions_noted}
use Rattle.hla_federation.proofs.Steps.Declaring.{and-false}

-- ---- The deletions of a federate that resigns
-- there is one for each object
pub count_deletions : (hs : List ℕ) → length (deletions_sent hs) ≡ length hs
count_deletions [] = refl
count_deletions (h ∷ hs) = rw (count_deletions hs) refl

-- resigning with them is refused where there are no serials for them
pub delete_refusal : (s : Seen) (f : ℕ) (b : Bool) → s.directory.joined f ≡ true → ltb (max_serial + 1) (s.serial f + length (objects_of s.directory f)) ≡ b
    → refusal s (Call f (service.Resign DeleteObjects)) ≡ cond b (Some fault.LimitReached) None
delete_refusal s f b joined over = rw (joined, count_deletions (objects_of s.directory f), over) refl

-- ---- removals one after another
messages-append : (d : Directory) (f m : ℕ) (r : TimeRow) (xs ys : List Outgoing) (h : ℕ) → messages_to d f m r None (xs ++ ys) h ≡ messages_to d f m r None xs h ++ messages_to d f (m + length xs) r None ys h
messages-append d f m r [] ys h = ap (λ (n : ℕ). messages_to d f n r None ys h) (omega arith)
messages-append d f m r (x ∷ xs) ys h =
    let serials : m + 1 + length xs ≡ m + length (x ∷ xs) = omega arith in
    let one = message_to d (heading_of f m r None x.order) x.body h in
    ap (λ (ms : List Message). one ++ ms) (messages-append d f (m + 1) r xs ys h ∙ ap (λ (n : ℕ). messages_to d f (m + 1) r None xs h ++ messages_to d f n r None ys h) serials)
    ∙ sym (append_assoc one (messages_to d f (m + 1) r None xs h) (messages_to d f (m + length (x ∷ xs)) r None ys h))

deletions-append : (xs ys : List ℕ) → deletions_sent (xs ++ ys) ≡ deletions_sent xs ++ deletions_sent ys
deletions-append [] ys = refl
deletions-append (x ∷ xs) ys = rw (deletions-append xs ys) refl

deletions-length : (xs : List ℕ) → length (deletions_sent xs) ≡ length xs
deletions-length [] = refl
deletions-length (x ∷ xs) = rw (deletions-length xs) refl

take-length : (xs : List ℕ) (k : ℕ) → k ≤ length xs → length (take k xs) ≡ k
take-length xs zero b = refl
take-length [] (suc k) b = absurd (omega (arith, b))
take-length (x ∷ xs) (suc k) b = let rest = take-length xs k (omega (arith, b)) in omega (arith, rest)

-- those of one object more
pub removals_more : (d : Directory) (f serial : ℕ) (r : TimeRow) (k : ℕ) (hs : List ℕ) (h next : ℕ) (first old new : List (List Message)) → k < length hs → h ≡ get_or hs k 0 → next ≡ serial + k
    → HasAdded (messages_to d f serial r None (deletions_sent (take k hs))) first old
    → HasAdded (message_to d (record { sender = f; serial = next; stamp = None }) (ADeletion h)) old new
    → HasAdded (messages_to d f serial r None (deletions_sent (take (k + 1) hs))) first new
removals_more d f serial r k hs h next first old new b read next_is before more g =
    let one = deletions_sent (h ∷ []) in
    let last = message_to d (record { sender = f; serial = next; stamp = None }) (ADeletion h) g in
    let so_far = messages_to d f serial r None (deletions_sent (take k hs)) g in
    let all : deletions_sent (take (k + 1) hs) ≡ deletions_sent (take k hs) ++ one = ap deletions_sent (take_more hs k 0 b ∙ ap (λ (x : ℕ). take k hs ++ x ∷ []) (sym read)) ∙ deletions-append (take k hs) (h ∷ []) in
    let count : serial + length (deletions_sent (take k hs)) ≡ next = omega (arith, next_is, deletions-length (take k hs), take-length hs k (omega (arith, b))) in
    let last_sent : messages_to d f (serial + length (deletions_sent (take k hs))) r None one g ≡ last = ap (λ (n : ℕ). messages_to d f n r None one g) count ∙ append-nil last in
    more g ∙ ap (λ (ms : List Message). ms ++ last) (before g)
    ∙ append_assoc (item [] first g) so_far last
    ∙ ap (λ (ms : List Message). item [] first g ++ ms) (ap (λ (ms : List Message). so_far ++ ms) (sym last_sent)
    ∙ sym (messages-append d f serial r (deletions_sent (take k hs)) one g) ∙ ap (λ (outs : List Outgoing). messages_to d f serial r None outs g) (sym all))

-- ---- who is joined has a number
pub joined_below : (members : List MemberValue) (f : ℕ) → (members_of members).joined f ≡ true → is_number (length members + 1) f ≡ true
joined_below members zero y = absurd (cc)
joined_below members (suc k) y = ⊎_elim
    (λ (l : ltb (suc k) (length members + 1) ≡ true). let some : eqb (suc k) 0 ≡ false = grind (arith, nat_tests) in rw (some, l) refl)
    (λ (n : ltb (suc k) (length members + 1) ≡ false).
    let past : length members ≤ k = grind (arith, nat_tests, n) in
    let none : (members_of members).joined (suc k) ≡ false = ap (λ (m : MemberValue). m.joined) (get_or_past members k no_member past) in
    absurd (cc))
    (cases_Bool (ltb (suc k) (length members + 1)))

-- ---- what is posted is what is sent
messages_none : (d : Directory) (f m : ℕ) (r : TimeRow) (outs : List Outgoing) (h : ℕ) → d.joined h ≡ false → messages_to d f m r None outs h ≡ []
messages_none d f m r [] h away = refl
messages_none d f m r (out ∷ outs) h away = rw (away, and-false, messages_none d f (m + 1) r outs h away) refl

-- who is another is joined
pub other_joined : (joined : ℕ → Bool) (f h : ℕ) → is_other joined f h ≡ true → joined h ≡ true
other_joined joined f h y = ⊎_elim
    (λ (j : joined h ≡ true). j)
    (λ (n : joined h ≡ false). let t = rw (n, and-false) at y in absurd (cc))
    (cases_Bool (joined h))

-- the last null behind the messages
null_behind : (reg : Bool) (k v : ℕ) (ws ms : List Message) → HasNoNull ms
    → put_all_behind (ms ++ cond reg (message.Null k v ∷ []) []) ws ≡ cond reg (put_behind (message.Null k v) (ws ++ ms)) (ws ++ ms)
null_behind true k v ws ms none = put_all-append ms (message.Null k v ∷ []) ws ∙ ap (put_behind (message.Null k v)) (put_all-no_null ms ws none)
null_behind false k v ws ms none = put_all-append ms [] ws ∙ put_all-no_null ms ws none

nothing_behind : (reg : Bool) (ws ms : List Message) → HasNoNull ms → put_all_behind (ms ++ cond reg [] []) ws ≡ ws ++ ms
nothing_behind true ws ms none = put_all-append ms [] ws ∙ put_all-no_null ms ws none
nothing_behind false ws ms none = put_all-append ms [] ws ∙ put_all-no_null ms ws none

-- what is posted is the messages, and behind them the last null
pub posted_last : (s : Components) (f m : ℕ) (outs : List Outgoing) (next : ℕ) (o : ℕ → List Message) → ((h : ℕ) → o h ≡ messages_to s.directory f m (s.row f) None outs h ++ last_null_to s f h)
    → ((h : ℕ) → s.directory.joined h ≡ true → is_number next h ≡ true)
    → wires_posted_below (From f) o next s.wire ≡ upd_row (sent_wire s.directory f m (s.row f) None outs s.wire) s.directory.joined f (λ _. with_last_null s f)
unfolding upd_row
posted_last s f m outs next o is numbers = fun_ext (λ g. fun_ext (λ h. at g h))
  where
    at : (g h : ℕ) → wires_posted_below (From f) o next s.wire g h ≡ upd_row (sent_wire s.directory f m (s.row f) None outs s.wire) s.directory.joined f (λ _. with_last_null s f) g h
    at g h = ⊎_elim
        (λ (y : eqb f g ≡ true). ⊎_elim
        (λ (z : is_other s.directory.joined f h ≡ true).
        let number = numbers h (other_joined s.directory.joined f h z) in
        rw (y, z, number) (ap (λ (ms : List Message). put_all_behind ms (s.wire g h)) (is h ∙ ap (λ (b : Bool). messages_to s.directory f m (s.row f) None outs h ++ cond (is_regulator (s.row f)) (cond b (message.Null (s.epoch f) forever ∷ []) []) []) z)
        ∙ null_behind (is_regulator (s.row f)) (s.epoch f) forever (s.wire g h) (messages_to s.directory f m (s.row f) None outs h) (messages_no_null s.directory f m (s.row f) None outs h)))
        (λ (z : is_other s.directory.joined f h ≡ false). ⊎_elim
        (λ (b : is_number next h ≡ true).
        rw (y, z, b) (ap (λ (ms : List Message). put_all_behind ms (s.wire g h)) (is h ∙ ap (λ (b : Bool). messages_to s.directory f m (s.row f) None outs h ++ cond (is_regulator (s.row f)) (cond b (message.Null (s.epoch f) forever ∷ []) []) []) z)
        ∙ nothing_behind (is_regulator (s.row f)) (s.wire g h) (messages_to s.directory f m (s.row f) None outs h) (messages_no_null s.directory f m (s.row f) None outs h)))
        (λ (b : is_number next h ≡ false).
        let away : s.directory.joined h ≡ false = ⊎_elim (λ (j : s.directory.joined h ≡ true). let t = numbers h j in absurd (cc)) (λ (n : s.directory.joined h ≡ false). n) (cases_Bool (s.directory.joined h)) in
        rw (y, z, b, messages_none s.directory f m (s.row f) outs h away) (sym (append-nil (s.wire g h))))
        (cases_Bool (is_number next h)))
        (cases_Bool (is_other s.directory.joined f h)))
        (λ (n : eqb f g ≡ false). rw n refl)
        (cases_Bool (eqb f g))

-- ---- leaving
module _ (c : CatalogueValue) (points : List Point) (d : DeclarationsValue) (r : RegistryValue) (m : MemberTables) (f : ℕ) where
  abbrev pub withdrawn_declarations : DeclarationsValue
  withdrawn_declarations = record d { published = upd d.published f (λ _. None); subscribed = upd d.subscribed f (λ _. None); published_interaction = upd d.published_interaction f (λ _. false); subscribed_interaction = upd d.subscribed_interaction f (λ _. false); interaction_orders = upd d.interaction_orders f (λ _. None) }

  abbrev left_member : LocalValue
  left_member = resigned_local (m.local f)

  -- before points close
  abbrev gone : Components → Components
  gone s = record s {
    directory = without_member s.directory f;
    row = upd s.row f new_row;
    last_announced = upd s.last_announced f forever;
    tso = upd s.tso f [];
    ro = upd s.ro f [];
    controls = upd s.controls f [];
    wire = upd_whole_column (upd_row s.wire s.directory.joined f (λ _. with_last_null s f)) f [];
  }

  pub left_state : (wire : ℕ → ℕ → List Message) → wire ≡ upd_row m.wire m.joined f (λ _. with_last_null (state_from c points d r m) f)
      → gone (state_from c points d r m) ≡ state_from c points withdrawn_declarations (without_owned r f) (with_member_withdrawn (record m { wire = wire }) f)
  left_state wire is = λ i. record (state_from c points withdrawn_declarations (without_owned r f) (with_member_withdrawn m f)) {
    row = sym (upd-field (λ (l : LocalValue). l.row) m.local f left_member) i;
    ro = sym (upd-field (λ (l : LocalValue). l.ro) m.local f left_member) i;
    tso = sym (upd-field (λ (l : LocalValue). l.tso) m.local f left_member) i;
    controls = sym (upd-field (λ (l : LocalValue). l.controls) m.local f left_member) i;
    last_announced = sym (upd-field (λ (l : LocalValue). l.last_announced) m.local f left_member) i;
    bound = sym (upd-field (λ (l : LocalValue). (peers_of l.peers).bound) m.local f left_member ∙ upd-self (λ g. (peers_of (m.local g).peers).bound) f (peers_of (m.local f).peers).bound refl) i;
    known_epoch = sym (upd-field (λ (l : LocalValue). (peers_of l.peers).known_epoch) m.local f left_member ∙ upd-self (λ g. (peers_of (m.local g).peers).known_epoch) f (peers_of (m.local f).peers).known_epoch refl) i;
    epoch = sym (upd-field (λ (l : LocalValue). l.epoch) m.local f left_member ∙ upd-self (λ g. (m.local g).epoch) f (m.local f).epoch refl) i;
    wire = upd_whole_column (sym is i) f [];
  }

-- with the deletions before
module _ (c : CatalogueValue) (points : List Point) (d : DeclarationsValue) (r : RegistryValue) (m : MemberTables) (f : ℕ) (hs : List ℕ) (o : ℕ → List Message)
    (is : (h : ℕ) → o h ≡ messages_to (directory_from c points d r m) f (m.serial f) (m.local f).row None (deletions_sent hs) h ++ last_null_to (state_from c points d r m) f h)
    (numbers : (h : ℕ) → m.joined h ≡ true → is_number m.next_federate h ≡ true) (unsent : IsUnsentFrom (m.sent f) (m.serial f)) where
  abbrev sent_members : MemberTables
  sent_members = record m { serial = upd m.serial f (m.serial f + length (deletions_sent hs)); wire = sent_wire (directory_from c points d r m) f (m.serial f) (m.local f).row None (deletions_sent hs) m.wire }

  deletions_state : with_messages_sent (state_from c points d r m) f None (deletions_sent hs) ≡ state_from c points d r sent_members
  deletions_state = sends_all (state_from c points d r m) f None (deletions_sent hs)
      ∙ (λ i. state_from c points d r (record sent_members { sent = deletions_noted (directory_from c points d r m) f (m.serial f) (m.local f).row hs m.sent unsent i }))

  gone_state : gone c points d r m f (with_messages_sent (state_from c points d r m) f None (deletions_sent hs))
      ≡ state_from c points (withdrawn_declarations c points d r m f) (without_owned r f) (with_member_withdrawn (record m { serial = upd m.serial f (m.serial f + length hs); wire = wires_posted_below (From f) o m.next_federate m.wire }) f)
  gone_state =
      ap (gone c points d r m f) deletions_state
      ∙ left_state c points d r sent_members f (wires_posted_below (From f) o m.next_federate m.wire) (posted_last (state_from c points d r m) f (m.serial f) (deletions_sent hs) m.next_federate o is numbers)
      ∙ (λ i. state_from c points (withdrawn_declarations c points d r m f) (without_owned r f) (with_member_withdrawn (record m {
        serial = upd m.serial f (m.serial f + deletions-length hs i);
        wire = wires_posted_below (From f) o m.next_federate m.wire;
      }) f))

  -- and points close
  abbrev posted_members : MemberTables
  posted_members = record m { serial = upd m.serial f (m.serial f + length hs); wire = wires_posted_below (From f) o m.next_federate m.wire }

  pub resigned_state : (ms : List ℕ) → ms ≡ joined_federates (directory_from c points (withdrawn_declarations c points d r m f) (without_owned r f) (with_member_withdrawn posted_members f))
      → with_federate_gone (with_messages_sent (state_from c points d r m) f None (deletions_sent hs)) f
      ≡ state_from c (left_open ms points) (withdrawn_declarations c points d r m f) (without_owned r f) (with_member_withdrawn (with_all_told (map closing_of (closing ms points)) posted_members) f)
  resigned_state ms listed =
      ap with_complete_closed gone_state
      ∙ sym (closed_state c points (withdrawn_declarations c points d r m f) (without_owned r f) (with_member_withdrawn posted_members f) ms listed)
      ∙ ap (λ (t : MemberTables). state_from c (left_open ms points) (withdrawn_declarations c points d r m f) (without_owned r f) t) (withdrawn_told (map closing_of (closing ms points)) posted_members f)

-- ---- in which way it may resign
no_objects : (hs : List ℕ) → ltb 0 (length hs) ≡ false → hs ≡ []
no_objects [] e = refl
no_objects (h ∷ hs) e = absurd (grind (arith, nat_tests))

refused_way : (b : Bool) (e : Fault) → cond (not b) (Some fault.FederateNotExecutionMember) (Some e) ≡ None → ⊥
refused_way true e none = absurd (cc)
refused_way false e none = absurd (cc)

no_action : (b owns : Bool) → cond (not b) (Some fault.FederateNotExecutionMember) (cond owns (Some fault.FederateOwnsAttributes) None) ≡ None → owns ≡ false
no_action true true none = absurd (cc)
no_action true false none = refl
no_action false owns none = absurd (cc)

-- without objects there is nothing to delete
pub resign_ways : (s : Components) (f : ℕ) (way : ResignAction) → refusal (components_seen s) (Call f (service.Resign way)) ≡ None
    → with_federate_resigned s f way ≡ with_federate_gone (with_messages_sent s f None (deletions_sent (objects_of s.directory f))) f
resign_ways s f DeleteObjects none = refl
resign_ways s f NoAction none = ap (λ (hs : List ℕ). with_federate_gone (with_messages_sent s f None (deletions_sent hs)) f)
    (sym (no_objects (objects_of s.directory f) (no_action (s.directory.joined f) (ltb 0 (length (objects_of s.directory f))) none)))
resign_ways s f ReleaseAttributes none = absurd (refused_way (s.directory.joined f) fault.InvalidResignAction none)
resign_ways s f DeleteObjectsAndReleaseAttributes none = absurd (refused_way (s.directory.joined f) fault.InvalidResignAction none)

-- who is not among the joined any more was before
pub joined_before : (joined : ℕ → Bool) (f g : ℕ) → upd joined f false g ≡ true → joined g ≡ true
unfolding upd
joined_before joined f g y = ⊎_elim
    (λ (e : eqb f g ≡ true). let t = rw e at y in absurd (cc))
    (λ (n : eqb f g ≡ false). rw n at y)
    (cases_Bool (eqb f g))

-- the serials that it needs are there
not_over : (b over : Bool) → cond (not b) (Some fault.FederateNotExecutionMember) (cond over (Some fault.LimitReached) None) ≡ None → over ≡ false
not_over true true none = absurd (cc)
not_over true false none = refl
not_over false over none = absurd (cc)

within_serials : (serial n : ℕ) → ltb (max_serial + 1) (serial + n) ≡ false → serial + n ≤ largest_number
within_serials serial n under = grind (arith, nat_tests)

pub resign_serials : (s : Seen) (f : ℕ) (way : ResignAction) → s.serial f ≤ largest_number → refusal s (Call f (service.Resign way)) ≡ None
    → s.serial f + length (objects_of s.directory f) ≤ largest_number
resign_serials s f DeleteObjects small none =
    let under = not_over (s.directory.joined f) (ltb (max_serial + 1) (s.serial f + length (deletions_sent (objects_of s.directory f)))) none in
    within_serials (s.serial f) (length (objects_of s.directory f)) (ap (λ (n : ℕ). ltb (max_serial + 1) (s.serial f + n)) (sym (deletions-length (objects_of s.directory f))) ∙ under)
resign_serials s f NoAction small none =
    let empty = no_objects (objects_of s.directory f) (no_action (s.directory.joined f) (ltb 0 (length (objects_of s.directory f))) none) in
    omega (arith, small, ap (λ (hs : List ℕ). length hs) empty)
resign_serials s f ReleaseAttributes small none = absurd (refused_way (s.directory.joined f) fault.InvalidResignAction none)
resign_serials s f DeleteObjectsAndReleaseAttributes small none = absurd (refused_way (s.directory.joined f) fault.InvalidResignAction none)
