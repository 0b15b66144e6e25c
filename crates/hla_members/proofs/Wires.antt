-- The wires to one member, after one of them changed
use Rattle.std.proofs.Common.{◌≡◌, ℕ, zero, suc, ◌+◌, ◌-◌, ◌<◌, ◌≤◌, Bool, true, false, cond, List, [], ◌∷◌, length, get_or, set, map, Some, None, slice_get, refl, sym, ap, ◌∙◌, arith}
use Rattle.std.proofs.lemmas.List.{map-set, length-map, get_or-map}
use Rattle.hla_base.specs.Tables.{upd}
use Rattle.hla_null_message.specs.Wires.{WireValue}
use Rattle.hla_null_message.specs.declared.message.Message.{Message}
use Rattle.hla_machine.specs.declared.step.Carried.TheVariants as carried
use Rattle.hla_components.specs.Locals.{carried_by}
use Rattle.hla_execution.specs.MemberValue.{item}
use Rattle.hla_members.specs.Rooms.{incoming_of, IncomingValue}
use Rattle.hla_members.specs.Members.{carried_of}
use Rattle.hla_members.proofs.MemberTables.{item-set}

-- an item of a list, read through a function of it
pub item-map : {X Y : Type 0} (p : X → Y) (xs : List X) (g : ℕ) (x : X) (d : Y) → 0 < g → g ≤ length xs → x ≡ get_or xs (g - 1) x → item d (map p xs) g ≡ p x
item-map p xs zero x d some within read = absurd (omega (arith, some))
item-map p xs (suc k) x d some within read =
    let at : suc k - 1 ≡ k = omega arith in
    let is = rw at at read in
    get_or-map p xs k x d (omega (arith, within)) ∙ ap p (sym is)

pub item-map-set : {X Y : Type 0} (p : X → Y) (xs : List X) (g : ℕ) (x : X) (d : Y) → 0 < g → g ≤ length xs → item d (map p (set xs (g - 1) x)) ≡ upd (item d (map p xs)) g (p x)
item-map-set p xs g x d some within = ap (item d) (map-set p xs (g - 1) x) ∙ item-set d (map p xs) g (p x) some (let e = length-map xs p in omega (arith, e, within))

module _ (ws : List WireValue) (v : IncomingValue) (is : incoming_of ws ≡ v) (g : ℕ) (some : 0 < g) (within : g ≤ length ws) where
  pub read_messages : (w : WireValue) → w ≡ get_or ws (g - 1) w → w.messages ≡ item [] v.wires g
  read_messages w read = sym (item-map (λ (x : WireValue). x.messages) ws g w [] some within read) ∙ ap (λ (x : IncomingValue). item [] x.wires g) is

  pub read_room : (w : WireValue) → w ≡ get_or ws (g - 1) w → w.room ≡ item 0 v.rooms g
  read_room w read = sym (item-map (λ (x : WireValue). x.room) ws g w 0 some within read) ∙ ap (λ (x : IncomingValue). item 0 x.rooms g) is

  pub set_messages : (w : WireValue) → item [] (map (λ (x : WireValue). x.messages) (set ws (g - 1) w)) ≡ upd (item [] v.wires) g w.messages
  set_messages w = item-map-set (λ (x : WireValue). x.messages) ws g w [] some within ∙ ap (λ (x : IncomingValue). upd (item [] x.wires) g w.messages) is

  pub set_rooms : (w : WireValue) → item 0 (map (λ (x : WireValue). x.room) (set ws (g - 1) w)) ≡ upd (item 0 v.rooms) g w.room
  set_rooms w = item-map-set (λ (x : WireValue). x.room) ws g w 0 some within ∙ ap (λ (x : IncomingValue). upd (item 0 x.rooms) g w.room) is

-- the room on a wire that one message was put on
pub less_by_one : (takes : Bool) (old new : ℕ) → new ≡ cond takes (old - 1) old → old ≤ new + 1
less_by_one true old new is = omega (arith, is)
less_by_one false old new is = omega (arith, is)

-- wires with nothing on them
pub quiet-map : (ws : List WireValue) → ((k : ℕ) → k < length ws → (get_or ws k (record { messages = []; room = 0 })).messages ≡ []) → (g : ℕ) → item [] (map (λ (x : WireValue). x.messages) ws) g ≡ []
quiet-map ws all zero = refl
quiet-map [] all (suc k) = refl
quiet-map (w ∷ ws) all (suc zero) = all 0 (omega arith)
quiet-map (w ∷ ws) all (suc (suc k)) = quiet-map ws (λ j b. all (suc j) (omega (arith, b))) (suc k)

-- the first message on a wire
pub first_carried : (g : ℕ) (ms : List Message) (m : Message) → Some m ≡ slice_get ms 0 → carried_by g m ≡ carried_of g ms
first_carried g [] m is = absurd (cc)
first_carried g (x ∷ xs) m is = let one : m ≡ x = cc in ap (carried_by g) one

pub none_carried : (g : ℕ) (ms : List Message) → None ≡ slice_get ms 0 → carried.Nothing ≡ carried_of g ms
none_carried g [] is = refl
none_carried g (x ∷ xs) is = absurd (cc)
