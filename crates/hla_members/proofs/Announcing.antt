-- Null messages put on the wires from one federate, one after another
use Rattle.std.proofs.Common.{◌≡◌, ◌≢◌, ◌⊎◌, ⊎_elim, inr, ℕ, ◌+◌, ◌<◌, ◌≤◌, List, cond, eqb, ltb, not, ◌&&◌, Bool, true, false, refl, sym, ap, ◌∙◌, arith}
use Rattle.std.proofs.Math.Bool.{and-false}
use Rattle.std.proofs.Math.Path.{fun_ext}
use Rattle.std.proofs.lemmas.Bool.{cases_Bool, cases_eq}
use Rattle.std.proofs.lemmas.Bool.Decides.{nat_tests}
use Rattle.hla_base.specs.Tables.{upd2, upd_row, is_other}
use Rattle.hla_base.proofs.Tables.{upd2_same, upd2_other, cases_pair}
use Rattle.hla_null_message.specs.declared.message.Message.TheVariants as message
use Rattle.hla_null_message.specs.Wires.{put_behind}
use Rattle.hla_execution.specs.MemberValue.{MemberTables}
use Rattle.hla_members.specs.Rooms.{room_in}
use Rattle.hla_members.specs.Members.{HasRoomForOthers, nulls_below, with_null_sent}

-- ---- room
pub room_none : (joined : ℕ → Bool) (f : ℕ) (rooms : List (List ℕ)) → HasRoomForOthers joined f 1 1 rooms
room_none joined f rooms h low high other = absurd (omega (arith, low, high))

-- for one more, on whose wire room was made where it is another one
pub room_more : (joined : ℕ → Bool) (f peer : ℕ) (old new : List (List ℕ)) → HasRoomForOthers joined f 1 peer old
    → ((g h : ℕ) → room_in old g h ≤ room_in new g h) → (is_other joined f peer ≡ true → 0 < room_in new f peer)
    → HasRoomForOthers joined f 1 (peer + 1) new
room_more joined f peer old new before grow here h low high other = ⊎_elim
    (λ (e : peer ≡ h). let at : is_other joined f peer ≡ true = ap (is_other joined f) e ∙ other in rw (← e) (here at))
    (λ (ne : peer ≢ h). let have = before h low (omega (arith, high, ne)) other in let more = grow f h in omega (arith, have, more))
    (cases_eq peer h)

-- and for those behind one whose wire alone has less
pub room_behind : (joined : ℕ → Bool) (f peer end : ℕ) (old new : List (List ℕ)) → HasRoomForOthers joined f peer end old
    → ((g h : ℕ) → (f ≢ g) ⊎ (peer ≢ h) → room_in new g h ≡ room_in old g h) → HasRoomForOthers joined f (peer + 1) end new
room_behind joined f peer end old new before stay h low high other =
    let have = before h (omega (arith, low)) high other in
    let apart : peer ≢ h = λ e. absurd (omega (arith, low, e)) in
    let same = stay f h (inr apart) in
    omega (arith, have, same)

pub room_later : (joined : ℕ → Bool) (f peer end : ℕ) (rooms : List (List ℕ)) → HasRoomForOthers joined f peer end rooms → HasRoomForOthers joined f (peer + 1) end rooms
room_later joined f peer end rooms before h low high other = before h (omega (arith, low)) high other

-- ---- the wires
-- a test that fails fails with another one behind it, and one that holds leaves that one
fails_more : (x y z : Bool) → x && y ≡ false → x && (y && z) ≡ false
fails_more true true z is = absurd (cc)
fails_more true false z is = refl
fails_more false y z is = refl

holds_more : (x y z : Bool) → x && y ≡ true → x && (y && z) ≡ z
holds_more true true z is = refl
holds_more true false z is = absurd (cc)
holds_more false y z is = absurd (cc)

module _ (m : MemberTables) (f epoch bound : ℕ) where
  -- is a federate below a number sent it
  is_sent : ℕ → ℕ → Bool
  is_sent end h = not (eqb f h) && (m.joined h && ltb h end)

  at : (end g h : ℕ) → nulls_below m f epoch bound end g h ≡ cond (eqb f g && is_sent end h) (put_behind (message.Null epoch bound) (m.wire g h)) (m.wire g h)
  unfolding upd_row is_sent
  at end g h = refl

  at_both : (one other g h : ℕ) → is_sent one h ≡ is_sent other h → nulls_below m f epoch bound one g h ≡ nulls_below m f epoch bound other g h
  at_both one other g h same = at one g h
      ∙ ap (λ (b : Bool). cond (eqb f g && b) (put_behind (message.Null epoch bound) (m.wire g h)) (m.wire g h)) same
      ∙ sym (at other g h)

  elsewhere : (peer h : ℕ) → peer ≢ h → is_sent peer h ≡ is_sent (peer + 1) h
  unfolding is_sent
  elsewhere peer h ne = let same : ltb h peer ≡ ltb h (peer + 1) = grind (arith, nat_tests, ne) in ap (λ (b : Bool). not (eqb f h) && (m.joined h && b)) same

  not_sent : (end h : ℕ) → is_other m.joined f h ≡ false → is_sent end h ≡ false
  unfolding is_sent
  not_sent end h apart = fails_more (not (eqb f h)) (m.joined h) (ltb h end) apart

  sent_below : (end h : ℕ) → is_other m.joined f h ≡ true → is_sent end h ≡ ltb h end
  unfolding is_sent
  sent_below end h other = holds_more (not (eqb f h)) (m.joined h) (ltb h end) other

  none_below : (h : ℕ) → m.joined 0 ≡ false → is_sent 1 h ≡ false
  unfolding is_sent
  none_below h nobody = ⊎_elim
      (λ (e : 0 ≡ h). let away : m.joined h ≡ false = ap m.joined (sym e) ∙ nobody in rw (away, and-false (not (eqb f h))) refl)
      (λ (ne : 0 ≢ h). let past : ltb h 1 ≡ false = grind (arith, nat_tests, ne) in rw (past, and-false (m.joined h), and-false (not (eqb f h))) refl)
      (cases_eq 0 h)

  pub nulls_first : m.joined 0 ≡ false → nulls_below m f epoch bound 1 ≡ m.wire
  nulls_first nobody = fun_ext (λ g. fun_ext (λ h. at 1 g h ∙ rw (none_below h nobody, and-false (eqb f g)) refl))

  pub nulls_same : (peer : ℕ) → is_other m.joined f peer ≡ false → nulls_below m f epoch bound peer ≡ nulls_below m f epoch bound (peer + 1)
  nulls_same peer apart = fun_ext (λ g. fun_ext (λ h. at_both peer (peer + 1) g h (⊎_elim
      (λ (e : peer ≡ h). let here : is_other m.joined f h ≡ false = ap (is_other m.joined f) (sym e) ∙ apart in not_sent peer h here ∙ sym (not_sent (peer + 1) h here))
      (λ (ne : peer ≢ h). elsewhere peer h ne)
      (cases_eq peer h))))

  pub nulls_more : (peer : ℕ) → is_other m.joined f peer ≡ true
      → upd2 (nulls_below m f epoch bound peer) f peer (put_behind (message.Null epoch bound) (nulls_below m f epoch bound peer f peer)) ≡ nulls_below m f epoch bound (peer + 1)
  nulls_more peer other = fun_ext (λ g. fun_ext (λ h. ⊎_elim
      (λ (e : (f ≡ g) × (peer ≡ h)). rw (← e.0, ← e.1) (upd2_same _ f peer _ ∙ ap (put_behind (message.Null epoch bound)) before ∙ sym after))
      (λ (ne : (f ≢ g) ⊎ (peer ≢ h)). upd2_other _ f peer _ g h ne ∙ ⊎_elim
      (λ (row : f ≢ g). let no : eqb f g ≡ false = grind (arith, nat_tests) in at peer g h ∙ rw no (sym (at (peer + 1) g h ∙ rw no refl)))
      (λ (column : peer ≢ h). at_both peer (peer + 1) g h (elsewhere peer h column))
      ne)
      (cases_pair f g peer h)))
    where
      own : eqb f f ≡ true
      own = grind (arith, nat_tests)

      before : nulls_below m f epoch bound peer f peer ≡ m.wire f peer
      before = let no : ltb peer peer ≡ false = grind (arith, nat_tests) in at peer f peer ∙ rw (sent_below peer peer other, no, own) refl

      after : nulls_below m f epoch bound (peer + 1) f peer ≡ put_behind (message.Null epoch bound) (m.wire f peer)
      after = let yes : ltb peer (peer + 1) ≡ true = grind (arith, nat_tests) in at (peer + 1) f peer ∙ rw (sent_below (peer + 1) peer other, yes, own) refl

  -- in the end each other joined one was sent it
  pub nulls_all : (end : ℕ) → ((h : ℕ) → end ≤ h → m.joined h ≡ false) → nulls_below m f epoch bound end ≡ (with_null_sent m f epoch bound).wire
  unfolding upd_row
  nulls_all end nobody = fun_ext (λ g. fun_ext (λ h. at end g h ∙ ap (λ (b : Bool). cond (eqb f g && b) (put_behind (message.Null epoch bound) (m.wire g h)) (m.wire g h)) (whole h)))
    where
      whole : (h : ℕ) → is_sent end h ≡ is_other m.joined f h
      whole h = ⊎_elim
          (λ (y : is_other m.joined f h ≡ true). ⊎_elim
          (λ (below : ltb h end ≡ true). sent_below end h y ∙ below ∙ sym y)
          (λ (n : ltb h end ≡ false).
          let beyond : end ≤ h = grind (arith, nat_tests, n) in
          let away = nobody h beyond in
          let none : is_other m.joined f h ≡ false = rw (away, and-false (not (eqb f h))) refl in absurd (cc))
          (cases_Bool (ltb h end)))
          (λ (n : is_other m.joined f h ≡ false). not_sent end h n ∙ sym n)
          (cases_Bool (is_other m.joined f h))
