-- The members of a federation and the room on their wires, after one of them changed
use Rattle.std.proofs.Common.{◌≡◌, ◌≢◌, ◌⊎◌, ⊎_elim, ℕ, ◌+◌, ◌-◌, ◌<◌, ◌≤◌, List, [], length, get_or, set, map, Result, Ok, Err, IfOk, OnOk, OnErr, sym, ap, ◌∙◌, arith}
use Rattle.std.proofs.Math.Seq.{map-set_same}
use Rattle.std.proofs.lemmas.List.{map-set, length-map}
use Rattle.std.proofs.lemmas.Bool.{cases_eq}
use Rattle.hla_base.specs.Tables.{upd}
use Rattle.hla_execution.specs.MemberValue.{item, no_member}
use Rattle.hla_members.specs.Rooms.{RoomyMember, RoomyMembers, roomy_members, room_in}
use Rattle.hla_base.proofs.Tables.{upd_same, upd_other}
use Rattle.hla_members.proofs.Wires.{item-map, item-map-set}

pub on_ok : {X E P Q : Type 0} (r : Result X E) → (P → Q) → OnOk r P → OnOk r Q
on_ok (Ok x) f p = f p
on_ok (Err e) f p = tt

pub if_ok : {X E : Type 0} {P Q : X → Type 0} (r : Result X E) → ((x : X) → P x → Q x) → IfOk r P → IfOk r Q
if_ok (Ok x) f p = f x p
if_ok (Err e) f p = tt

pub on_err : {X E P Q : Type 0} (r : Result X E) → (P → Q) → OnErr r P → OnErr r Q
on_err (Ok x) f p = tt
on_err (Err e) f p = f p

pub on_both : {X E P Q R : Type 0} (r : Result X E) → (P → Q → R) → OnOk r P → OnOk r Q → OnOk r R
on_both (Ok x) f p q = f p q
on_both (Err e) f p q = tt

module _ {n : ℕ} (ms : List RoomyMember) (v : RoomyMembers) (is : roomy_members ms n ≡ v) where
  pub same_length : length v.shown ≡ length ms
  same_length = ap (λ (x : RoomyMembers). length x.shown) (sym is) ∙ length-map ms (λ (m : RoomyMember). m.shown)

  module _ (f : ℕ) (some : 0 < f) (below : f < length v.shown + 1) where
    pub within : f ≤ length ms
    within = omega (arith, below, same_length)

    pub within_shown : f ≤ length v.shown
    within_shown = omega (arith, below)

    pub read_shown : (y : RoomyMember) → y ≡ get_or ms (f - 1) y → y.shown ≡ item no_member v.shown f
    read_shown y read = sym (item-map (λ (m : RoomyMember). m.shown) ms f y no_member some within read) ∙ ap (λ (x : RoomyMembers). item no_member x.shown f) is

    pub read_rooms : (y : RoomyMember) → y ≡ get_or ms (f - 1) y → y.rooms ≡ item [] v.rooms f
    read_rooms y read = sym (item-map (λ (m : RoomyMember). m.rooms) ms f y [] some within read) ∙ ap (λ (x : RoomyMembers). item [] x.rooms f) is

    pub set_shown : (x : RoomyMember) → map (λ (m : RoomyMember). m.shown) (set ms (f - 1) x) ≡ set v.shown (f - 1) x.shown
    set_shown x = map-set (λ (m : RoomyMember). m.shown) ms (f - 1) x ∙ ap (λ (w : RoomyMembers). set w.shown (f - 1) x.shown) is

    pub set_rooms : (x : RoomyMember) → item [] (map (λ (m : RoomyMember). m.rooms) (set ms (f - 1) x)) ≡ upd (item [] v.rooms) f x.rooms
    set_rooms x = item-map-set (λ (m : RoomyMember). m.rooms) ms f x [] some within ∙ ap (λ (w : RoomyMembers). upd (item [] w.rooms) f x.rooms) is

    -- one that shows the same
    pub same_shown : (y x : RoomyMember) → y ≡ get_or ms (f - 1) y → x.shown ≡ y.shown → map (λ (m : RoomyMember). m.shown) (set ms (f - 1) x) ≡ v.shown
    same_shown y x read same = map-set_same (λ (m : RoomyMember). m.shown) ms (f - 1) x y (same ∙ ap (λ (m : RoomyMember). m.shown) read) ∙ ap (λ (w : RoomyMembers). w.shown) is

    -- the room on a wire
    pub room_here : (x : RoomyMember) (g : ℕ) → room_in (map (λ (m : RoomyMember). m.rooms) (set ms (f - 1) x)) g f ≡ item 0 x.rooms g
    room_here x g = ap (λ (t : ℕ → List ℕ). item 0 (t f) g) (set_rooms x) ∙ ap (λ (r : List ℕ). item 0 r g) (upd_same (item [] v.rooms) f x.rooms)

    pub room_there : (x : RoomyMember) (g h : ℕ) → f ≢ h → room_in (map (λ (m : RoomyMember). m.rooms) (set ms (f - 1) x)) g h ≡ room_in v.rooms g h
    room_there x g h ne = ap (λ (t : ℕ → List ℕ). item 0 (t h) g) (set_rooms x) ∙ ap (λ (r : List ℕ). item 0 r g) (upd_other (item [] v.rooms) f x.rooms h ne)

    -- what grows of one member's rooms grows of all, and what stays of them stays
    pub rooms_grow : (y x : RoomyMember) → y ≡ get_or ms (f - 1) y → ((g : ℕ) → item 0 y.rooms g ≤ item 0 x.rooms g)
        → (g h : ℕ) → room_in v.rooms g h ≤ room_in (map (λ (m : RoomyMember). m.rooms) (set ms (f - 1) x)) g h
    rooms_grow y x read more g h = ⊎_elim
        (λ (e : f ≡ h). rw (← e, room_here x g, ← read_rooms y read) (more g))
        (λ (ne : f ≢ h). rw (room_there x g h ne) (omega arith))
        (cases_eq f h)

    pub rooms_same : (y x : RoomyMember) → y ≡ get_or ms (f - 1) y → x.rooms ≡ y.rooms → (g h : ℕ) → room_in (map (λ (m : RoomyMember). m.rooms) (set ms (f - 1) x)) g h ≡ room_in v.rooms g h
    rooms_same y x read same g h = ⊎_elim
        (λ (e : f ≡ h). rw (← e) (room_here x g ∙ ap (λ (r : List ℕ). item 0 r g) (same ∙ read_rooms y read)))
        (λ (ne : f ≢ h). room_there x g h ne)
        (cases_eq f h)

    pub rooms_stay : (from : ℕ) (y x : RoomyMember) → y ≡ get_or ms (f - 1) y → ((g : ℕ) → from ≢ g → item 0 x.rooms g ≡ item 0 y.rooms g)
        → (g h : ℕ) → (from ≢ g) ⊎ (f ≢ h) → room_in (map (λ (m : RoomyMember). m.rooms) (set ms (f - 1) x)) g h ≡ room_in v.rooms g h
    rooms_stay from y x read stay g h ne = ⊎_elim
        (λ (e : f ≡ h). ⊎_elim
        (λ (other : from ≢ g). rw (← e) (room_here x g ∙ stay g other ∙ ap (λ (r : List ℕ). item 0 r g) (read_rooms y read)))
        (λ (other : f ≢ h). absurd (other e))
        ne)
        (λ (other : f ≢ h). room_there x g h other)
        (cases_eq f h)
