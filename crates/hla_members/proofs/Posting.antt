-- Messages put along the wires from one federate, or to one
use Rattle.std.proofs.Common.{◌≡◌, ◌≢◌, ◌⊎◌, ⊎_elim, inl, inr, ℕ, ◌+◌, ◌<◌, ◌≤◌, List, [], ◌∷◌, ◌++◌, length, cond, ◌&&◌, Bool, true, false, refl, sym, ap, ◌∙◌, arith}
use Rattle.std.proofs.lemmas.Bool.{cases_Bool, cases_eq}
use Rattle.std.proofs.lemmas.Bool.Decides.{nat_tests}
use Rattle.std.proofs.Math.Path.{fun_ext}
use Rattle.hla_base.specs.Tables.{upd2}
use Rattle.hla_base.proofs.Tables.{upd2_same, upd2_other, cases_pair}
use Rattle.hla_null_message.specs.declared.message.Message.{Message}
use Rattle.hla_null_message.specs.Wires.{put_behind, put_all_behind}
use Rattle.hla_null_message.proofs.Wires.{put_all-append}
use Rattle.hla_members.specs.declared.direction.Direction.{Direction}
use Rattle.hla_members.specs.declared.direction.Direction.TheVariants.{From, To}
use Rattle.hla_members.specs.Rooms.{room_in}
use Rattle.hla_members.specs.Members.{IsEnd, HasRoom, IsLessRoom, wires_posted_below, is_number}
use Rattle.hla_members.specs.declared.addressed.Addressed.{Addressed}
use Rattle.hla_base.specs.Limits.{max_joins}
use Rattle.hla_execution.specs.MemberValue.{item}
use Rattle.hla_members.specs.Outboxes.{by_peer, messages_for}
use Rattle.hla_members.proofs.Outboxes.{item_within, one_is, one_not, parts_length}
use Rattle.hla_members.specs.Wiring.{source, target, is_along, peer_along}

-- both ends of a wire have joined
pub record AreJoined (next g h : ℕ) : Type 0 where
  pub some_source : 0 < g
  pub source : g < next
  pub some_target : 0 < h
  pub target : h < next

pub joined_ends : (along : Direction) (next peer : ℕ) → IsEnd along next → 0 < peer → peer < next → AreJoined next (source along peer) (target along peer)
joined_ends (From f) next peer end some below = record { some_source = end.0; source = end.1; some_target = some; target = below }
joined_ends (To f) next peer end some below = record { some_source = some; source = below; some_target = end.0; target = end.1 }

-- a wire along the direction is the one with its peer
ends_are : (along : Direction) (g h : ℕ) → is_along along g h ≡ true → (g ≡ source along (peer_along along g h)) × (h ≡ target along (peer_along along g h))
ends_are (From f) g h y = (grind (arith, nat_tests), refl)
ends_are (To f) g h y = (refl, grind (arith, nat_tests))

peer_is : (along : Direction) (peer : ℕ) → peer_along along (source along peer) (target along peer) ≡ peer
peer_is (From f) peer = refl
peer_is (To f) peer = refl

along_is : (along : Direction) (peer : ℕ) → is_along along (source along peer) (target along peer) ≡ true
along_is (From f) peer = grind (arith, nat_tests)
along_is (To f) peer = grind (arith, nat_tests)

-- ---- room
pub room_none : (along : Direction) (messages : ℕ → List Message) (rooms : List (List ℕ)) → HasRoom along messages 1 1 rooms
room_none along messages rooms g h y low high = absurd (omega (arith, low, high))

pub room_more : (along : Direction) (messages : ℕ → List Message) (peer : ℕ) (old new : List (List ℕ)) → HasRoom along messages 1 peer old
    → ((g h : ℕ) → room_in old g h ≤ room_in new g h) → length (messages peer) ≤ room_in new (source along peer) (target along peer)
    → HasRoom along messages 1 (peer + 1) new
room_more along messages peer old new before grow here g h y low high = ⊎_elim
    (λ (e : peer_along along g h ≡ peer).
    let is = ends_are along g h y in
    let g_is : g ≡ source along peer = is.0 ∙ ap (source along) e in
    let h_is : h ≡ target along peer = is.1 ∙ ap (target along) e in
    rw (e, g_is, h_is) here)
    (λ (ne : peer_along along g h ≢ peer).
    let have = before g h y low (omega (arith, high, ne)) in let more = grow g h in omega (arith, have, more))
    (cases_eq (peer_along along g h) peer)

pub room_same : (along : Direction) (messages : ℕ → List Message) (end : ℕ) (old new : List (List ℕ)) → ((g h : ℕ) → room_in new g h ≡ room_in old g h) → HasRoom along messages 1 end old → HasRoom along messages 1 end new
room_same along messages end old new same room g h y low high = let have = room g h y low high in let is = same g h in omega (arith, have, is)

-- the messages of an outbox as they were made
pub room_made : (along : Direction) (end : ℕ) (rooms : List (List ℕ)) (made : List Addressed) → end ≤ max_joins + 1
    → HasRoom along (item [] (by_peer made)) 1 end rooms → HasRoom along (λ h. messages_for h made) 1 end rooms
room_made along end rooms made few room g h y low high =
    let is = item_within made (peer_along along g h) (omega (arith, low)) (omega (arith, high, few)) in
    rw (← is) (room g h y low high)

-- where a list is a first message and the rest, there is room for the first
pub room_first : (along : Direction) (end : ℕ) (rooms : List (List ℕ)) (a : Addressed) (rest : List Addressed)
    → HasRoom along (λ h. messages_for h (a ∷ rest)) 1 end rooms → HasRoom along (λ h. messages_for h (a ∷ [])) 1 end rooms
room_first along end rooms a rest room g h y low high =
    let have = room g h y low high in
    let split = parts_length (peer_along along g h) a rest in
    omega (arith, have, split)

-- and, once that is put, for the rest
pub room_rest : (along : Direction) (end : ℕ) (old new : List (List ℕ)) (a : Addressed) (rest : List Addressed)
    → HasRoom along (λ h. messages_for h (a ∷ rest)) 1 end old → IsLessRoom along (λ h. messages_for h (a ∷ [])) old new → HasRoom along (λ h. messages_for h rest) 1 end new
room_rest along end old new a rest room less g h y low high =
    let have = room g h y low high in
    let split = parts_length (peer_along along g h) a rest in
    let left = less g h y in
    omega (arith, have, split, left)

-- there is room for the one message
pub room_here : (along : Direction) (end : ℕ) (rooms : List (List ℕ)) (a : Addressed) → 0 < a.peer → a.peer < end
    → HasRoom along (λ h. messages_for h (a ∷ [])) 1 end rooms → 0 < room_in rooms (source along a.peer) (target along a.peer)
room_here along end rooms a some below room =
    let is = peer_is along a.peer in
    let at = room (source along a.peer) (target along a.peer) (along_is along a.peer) in
    let here = rw is at at in
    let have = here (omega (arith, some)) below in
    let one = ap (λ (ms : List Message). length ms) (one_is a.peer a refl) in
    omega (arith, have, one)

-- and that wire alone has less of it then, by no more than one
pub less_room : (along : Direction) (old new : List (List ℕ)) (a : Addressed)
    → room_in old (source along a.peer) (target along a.peer) ≤ room_in new (source along a.peer) (target along a.peer) + 1
    → ((g h : ℕ) → (source along a.peer ≢ g) ⊎ (target along a.peer ≢ h) → room_in new g h ≡ room_in old g h)
    → IsLessRoom along (λ h. messages_for h (a ∷ [])) old new
less_room along old new a here stay g h y = ⊎_elim
    (λ (e : peer_along along g h ≡ a.peer).
    let is = ends_are along g h y in
    let g_is : g ≡ source along a.peer = is.0 ∙ ap (source along) e in
    let h_is : h ≡ target along a.peer = is.1 ∙ ap (target along) e in
    let one = ap (λ (ms : List Message). length ms) (one_is a.peer a refl) in
    rw (e, g_is, h_is, one) (omega (arith, here)))
    (λ (ne : peer_along along g h ≢ a.peer). let same = stay g h (others along g h ne) in omega (arith, same))
    (cases_eq (peer_along along g h) a.peer)
  where
    others : (along : Direction) (g h : ℕ) → peer_along along g h ≢ a.peer → (source along a.peer ≢ g) ⊎ (target along a.peer ≢ h)
    others (From f) g h ne = inr (λ e. ne (sym e))
    others (To f) g h ne = inl (λ e. ne (sym e))

-- ---- the wires
-- after some messages, and then more
pub posted_after : (along : Direction) (first second : ℕ → List Message) (end : ℕ) (wire : ℕ → ℕ → List Message)
    → wires_posted_below along second end (wires_posted_below along first end wire) ≡ wires_posted_below along (λ h. first h ++ second h) end wire
posted_after along first second end wire = fun_ext (λ g. fun_ext (λ h. each (is_along along g h && is_number end (peer_along along g h)) (wire g h) (first (peer_along along g h)) (second (peer_along along g h))))
  where
    each : (b : Bool) (ws fs ss : List Message) → cond b (put_all_behind ss (cond b (put_all_behind fs ws) ws)) (cond b (put_all_behind fs ws) ws) ≡ cond b (put_all_behind (fs ++ ss) ws) ws
    each true ws fs ss = sym (put_all-append fs ss ws)
    each false ws fs ss = refl

-- the messages for those below the end alone count
pub posted_same : (along : Direction) (messages others : ℕ → List Message) (end : ℕ) (wire : ℕ → ℕ → List Message)
    → ((h : ℕ) → 0 < h → h < end → messages h ≡ others h) → wires_posted_below along messages end wire ≡ wires_posted_below along others end wire
posted_same along messages others end wire same = fun_ext (λ g. fun_ext (λ h. ⊎_elim
    (λ (y : is_number end (peer_along along g h) ≡ true).
    let some : 0 < peer_along along g h = grind (arith, nat_tests) in
    let below : peer_along along g h < end = grind (arith, nat_tests) in
    ap (λ (ms : List Message). cond (is_along along g h && is_number end (peer_along along g h)) (put_all_behind ms (wire g h)) (wire g h)) (same (peer_along along g h) some below))
    (λ (n : is_number end (peer_along along g h) ≡ false). rw n (neither (is_along along g h) (put_all_behind (messages (peer_along along g h)) (wire g h)) (put_all_behind (others (peer_along along g h)) (wire g h)) (wire g h)))
    (cases_Bool (is_number end (peer_along along g h)))))
  where
    neither : (b : Bool) (x y z : List Message) → cond (b && false) x z ≡ cond (b && false) y z
    neither true x y z = refl
    neither false x y z = refl

pub posted_none : (along : Direction) (end : ℕ) (wire : ℕ → ℕ → List Message) → wires_posted_below along (λ _. []) end wire ≡ wire
posted_none along end wire = fun_ext (λ g. fun_ext (λ h. nothing (is_along along g h && is_number end (peer_along along g h)) (wire g h)))
  where
    nothing : (b : Bool) (ws : List Message) → cond b ws ws ≡ ws
    nothing true ws = refl
    nothing false ws = refl

-- a message for nobody below the end is put nowhere
pub posted_nothing : (along : Direction) (a : Addressed) (end : ℕ) (wire : ℕ → ℕ → List Message) → (a.peer ≡ 0) ⊎ (end ≤ a.peer)
    → wires_posted_below along (λ h. messages_for h (a ∷ [])) end wire ≡ wire
posted_nothing along a end wire past =
    posted_same along (λ h. messages_for h (a ∷ [])) (λ _. []) end wire (λ h some below. one_not h a (⊎_elim
    (λ (z : a.peer ≡ 0). λ (e : a.peer ≡ h). absurd (omega (arith, z, e, some)))
    (λ (l : end ≤ a.peer). λ (e : a.peer ≡ h). absurd (omega (arith, l, e, below)))
    past))
    ∙ posted_none along end wire

-- one message is put
pub posted_one : (along : Direction) (a : Addressed) (end : ℕ) (wire : ℕ → ℕ → List Message) → 0 < a.peer → a.peer < end
    → upd2 wire (source along a.peer) (target along a.peer) (put_behind a.message (wire (source along a.peer) (target along a.peer)))
    ≡ wires_posted_below along (λ h. messages_for h (a ∷ [])) end wire
posted_one along a end wire some below = fun_ext (λ g. fun_ext (λ h. ⊎_elim
    (λ (e : (source along a.peer ≡ g) × (target along a.peer ≡ h)).
    let number : is_number end a.peer ≡ true = grind (arith, nat_tests) in
    let one = one_is a.peer a refl in
    rw (← e.0, ← e.1, along_is along a.peer, peer_is along a.peer, number, one) (upd2_same wire (source along a.peer) (target along a.peer) (put_behind a.message (wire (source along a.peer) (target along a.peer)))))
    (λ (ne : (source along a.peer ≢ g) ⊎ (target along a.peer ≢ h)).
    upd2_other wire (source along a.peer) (target along a.peer) (put_behind a.message (wire (source along a.peer) (target along a.peer))) g h ne ∙ sym (elsewhere g h ne))
    (cases_pair (source along a.peer) g (target along a.peer) h)))
  where
    nothing : (b : Bool) (ws : List Message) → cond b ws ws ≡ ws
    nothing true ws = refl
    nothing false ws = refl

    elsewhere : (g h : ℕ) → (source along a.peer ≢ g) ⊎ (target along a.peer ≢ h) → wires_posted_below along (λ k. messages_for k (a ∷ [])) end wire g h ≡ wire g h
    elsewhere g h ne = ⊎_elim
        (λ (y : is_along along g h ≡ true).
        let is = ends_are along g h y in
        let differ : a.peer ≢ peer_along along g h = λ e. ⊎_elim
        (λ (n : source along a.peer ≢ g). n (ap (source along) e ∙ sym is.0))
        (λ (n : target along a.peer ≢ h). n (ap (target along) e ∙ sym is.1))
        ne in
        let none = one_not (peer_along along g h) a differ in
        rw (y, none) (nothing (is_number end (peer_along along g h)) (wire g h)))
        (λ (n : is_along along g h ≡ false). rw n refl)
        (cases_Bool (is_along along g h))
