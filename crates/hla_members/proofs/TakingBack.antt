-- Events that are put on wires, and are taken back
use Rattle.std.proofs.Common.{◌≡◌, ◌≢◌, ℕ, zero, suc, ◌+◌, ◌-◌, ◌<◌, ◌≤◌, List, [], ◌∷◌, ◌++◌, length, take, get_or, set, cond, ltb, ◌&&◌, Bool, true, false, refl, sym, ap, ◌∙◌, arith, length-append, ⊎_elim}
use Rattle.std.proofs.Math.Seq.{take-append_seam}
use Rattle.std.proofs.lemmas.Bool.{cases_eq}
use Rattle.std.proofs.lemmas.Bool.Decides.{nat_tests}
use Rattle.hla_base.specs.Tables.{upd}
use Rattle.hla_base.proofs.Tables.{upd_same, upd_other}
use Rattle.hla_null_message.specs.declared.message.Message.{Message}
use Rattle.hla_execution.specs.MemberValue.{MemberValue, item}
use Rattle.std.proofs.lemmas.List.{length-map}
use Rattle.hla_null_message.specs.Wires.{WireValue}
use Rattle.hla_members.specs.Rooms.{incoming_of, IncomingValue}
use Rattle.hla_members.specs.Putting.{without_last, member_without_last, taken_back_from, taken_back}
use Rattle.hla_members.proofs.MemberTables.{item-set}
use Rattle.hla_members.proofs.Tidings.{set_back}

-- ---- the wires to one member
-- a list without the one that stands at its end
last_off : (ms : List Message) (m : Message) → take (length (ms ++ m ∷ []) - 1) (ms ++ m ∷ []) ≡ ms
last_off ms m = let n : length (ms ++ m ∷ []) - 1 ≡ length ms = omega (arith, length-append ms (m ∷ [])) in rw n (take-append_seam ms (m ∷ []))

-- an item stands at its place
pub item_is : {X : Type 0} (d : X) (xs : List X) (f : ℕ) (x : X) → 0 < f → f ≤ length xs → x ≡ item d xs f → x ≡ get_or xs (f - 1) x
item_is d xs zero x some within is = absurd (omega (arith, some))
item_is d [] (suc k) x some within is = absurd (omega (arith, within))
item_is d (y ∷ ys) (suc zero) x some within is = is
item_is d (y ∷ ys) (suc (suc k)) x some within is =
    let here : suc (suc k) - 1 ≡ suc k = omega arith in
    let below : suc k - 1 ≡ k = omega arith in
    rw here (rw below at (item_is d ys (suc k) x (omega arith) (omega (arith, within)) is))

pub within_wires : (ws : List WireValue) (v : IncomingValue) → incoming_of ws ≡ v → (f : ℕ) → f ≤ length ws → f ≤ length v.wires
within_wires ws v is f within = let same = length-map ws (λ (w : WireValue). w.messages) in let seen = ap (λ (x : IncomingValue). length x.wires) is in omega (arith, within, same, seen)

-- one message more on a wire, and one less
pub put_off : (wires : List (List Message)) (f : ℕ) (ms : List Message) (m : Message) → 0 < f → f ≤ length wires → ms ≡ item [] wires f
    → without_last f (set wires (f - 1) (ms ++ m ∷ [])) ≡ wires
put_off wires f ms m some within is =
    let there : item [] (set wires (f - 1) (ms ++ m ∷ [])) f ≡ ms ++ m ∷ []
    = ap (λ (t : ℕ → List Message). t f) (item-set [] wires f (ms ++ m ∷ []) some within) ∙ upd_same (item [] wires) f (ms ++ m ∷ []) in
    ap (λ (xs : List Message). set (set wires (f - 1) (ms ++ m ∷ [])) (f - 1) (take (length xs - 1) xs)) there
    ∙ ap (set (set wires (f - 1) (ms ++ m ∷ [])) (f - 1)) (last_off ms m)
    ∙ set_back wires (f - 1) (ms ++ m ∷ []) ms (item_is [] wires f ms some within is)

-- ---- all members
module _ (f : ℕ) where
  -- only those who are there count
  pub taken_same : (n : ℕ) (a b : ℕ → Bool) (ms : List MemberValue) → ((h : ℕ) → n ≤ h → h < n + length ms → a h ≡ b h) → taken_back_from n f a ms ≡ taken_back_from n f b ms
  unfolding taken_back_from
  taken_same n a b [] same = refl
  taken_same n a b (m ∷ ms) same =
      let here : a n ≡ b n = same n (omega arith) (omega arith) in
      let rest = taken_same (n + 1) a b ms (λ h low high. same h (omega (arith, low)) (omega (arith, high))) in
      (λ i. cond (here i) (member_without_last f m) m ∷ rest i)

  pub taken_none : (n : ℕ) (ms : List MemberValue) → taken_back_from n f (λ _. false) ms ≡ ms
  unfolding taken_back_from
  taken_none n [] = refl
  taken_none n (m ∷ ms) = ap (λ (xs : List MemberValue). m ∷ xs) (taken_none (n + 1) ms)

  -- one more is told, and it is taken back
  pub taken_put : (n k p : ℕ) (told : ℕ → Bool) (ms : List MemberValue) (x y : MemberValue) → n + k ≡ p → k < length ms → member_without_last f x ≡ y → y ≡ get_or ms k y → told p ≡ false
      → taken_back_from n f (upd told p true) (set ms k x) ≡ taken_back_from n f told ms
  unfolding taken_back_from
  taken_put n k p told [] x y at within is read untold = absurd (omega (arith, within))
  taken_put n zero p told (m ∷ ms) x y at within is read untold =
      let e : p ≡ n = omega (arith, at) in
      let here : upd told p true n ≡ true = ap (upd told p true) (sym e) ∙ upd_same told p true in
      let away : told n ≡ false = ap told (sym e) ∙ untold in
      let rest = taken_same (n + 1) (upd told p true) told ms (λ h low high. upd_other told p true h (λ same. absurd (omega (arith, low, e, same)))) in
      rw (here, away) (λ i. (is ∙ read) i ∷ rest i)
  taken_put n (suc k) p told (m ∷ ms) x y at within is read untold =
      let here : upd told p true n ≡ told n = upd_other told p true n (λ same. absurd (omega (arith, at, same))) in
      let rest = taken_put (n + 1) k p told ms x y (omega (arith, at)) (omega (arith, within)) is read untold in
      (λ i. cond (here i) (member_without_last f m) m ∷ rest i)

  -- and one after another
  pub taken_more : (n k : ℕ) (told : ℕ → Bool) (ms now : List MemberValue) (y x : MemberValue) → k < length ms → now ≡ taken_back_from n f (λ h. told h && ltb h (n + k)) ms
      → y ≡ get_or now k y → x ≡ member_without_last f y → told (n + k) ≡ true → set now k x ≡ taken_back_from n f (λ h. told h && ltb h (n + k + 1)) ms
  unfolding taken_back_from
  taken_more n k told [] now y x within is read taken there = absurd (omega (arith, within))
  taken_more n zero told (m ∷ ms) now y x within is read taken there =
      let start : n + 0 ≡ n = omega arith in
      let told_here : told n ≡ true = ap told (sym start) ∙ there in
      let before : ltb n (n + 0) ≡ false = grind (arith, nat_tests) in
      let after : ltb n (n + 0 + 1) ≡ true = grind (arith, nat_tests) in
      let none = taken_same (n + 1) (λ h. told h && ltb h (n + 0)) (λ h. told h && ltb h (n + 0 + 1)) ms (λ h low high.
      let a : ltb h (n + 0) ≡ false = grind (arith, nat_tests, low) in
      let b : ltb h (n + 0 + 1) ≡ false = grind (arith, nat_tests, low) in
      rw (a, b) refl) in
      let whole : now ≡ m ∷ taken_back_from (n + 1) f (λ h. told h && ltb h (n + 0)) ms = is ∙ rw (told_here, before) refl in
      let own : y ≡ m = read ∙ ap (λ (l : List MemberValue). get_or l 0 y) whole in
      ap (λ (l : List MemberValue). set l 0 x) whole
      ∙ rw (told_here, after) (λ i. (taken ∙ ap (member_without_last f) own) i ∷ none i)
  taken_more n (suc k) told (m ∷ ms) now y x within is read taken there =
      let at : n + 1 + k ≡ n + suc k = omega arith in
      let before : ltb n (n + suc k) ≡ true = grind (arith, nat_tests) in
      let after : ltb n (n + suc k + 1) ≡ true = grind (arith, nat_tests) in
      let rest : List MemberValue = taken_back_from (n + 1) f (λ h. told h && ltb h (n + 1 + k)) ms in
      let whole : now ≡ cond (told n) (member_without_last f m) m ∷ rest
      = is ∙ (λ i. cond (told n && before i) (member_without_last f m) m ∷ taken_back_from (n + 1) f (λ h. told h && ltb h (sym at i)) ms) ∙ ap (λ (b : Bool). cond b (member_without_last f m) m ∷ rest) (and-true (told n)) in
      let more = taken_more (n + 1) k told ms rest y x (omega (arith, within)) refl (read ∙ ap (λ (l : List MemberValue). get_or l (suc k) y) whole) taken (ap told at ∙ there) in
      ap (λ (l : List MemberValue). set l (suc k) x) whole
      ∙ (λ i. cond (sym (and-true (told n)) i) (member_without_last f m) m ∷ more i)
      ∙ (λ i. cond (told n && sym after i) (member_without_last f m) m ∷ taken_back_from (n + 1) f (λ h. told h && ltb h (at i + 1)) ms)
    where
      and-true : (b : Bool) → b && true ≡ b
      and-true true = refl
      and-true false = refl

  -- by the number of the one that comes next
  pub taken_next : (peer : ℕ) (told : ℕ → Bool) (ms now : List MemberValue) (y x : MemberValue) → 0 < peer → peer ≤ length ms → now ≡ taken_back f (λ h. told h && ltb h peer) ms
      → y ≡ get_or now (peer - 1) y → x ≡ member_without_last f y → told peer ≡ true → set now (peer - 1) x ≡ taken_back f (λ h. told h && ltb h (peer + 1)) ms
  taken_next peer told ms now y x some within is read taken there =
      let at : 1 + (peer - 1) ≡ peer = omega (arith, some) in
      let before : now ≡ taken_back f (λ h. told h && ltb h (1 + (peer - 1))) ms = is ∙ ap (λ (n : ℕ). taken_back f (λ h. told h && ltb h n) ms) (sym at) in
      taken_more 1 (peer - 1) told ms now y x (omega (arith, some, within)) before read taken (ap told at ∙ there)
      ∙ ap (λ (n : ℕ). taken_back f (λ h. told h && ltb h (n + 1)) ms) at

  -- of one that was not told nothing is
  pub taken_not : (peer : ℕ) (told : ℕ → Bool) (ms : List MemberValue) → told peer ≡ false → taken_back f (λ h. told h && ltb h peer) ms ≡ taken_back f (λ h. told h && ltb h (peer + 1)) ms
  taken_not peer told ms untold = taken_same 1 (λ h. told h && ltb h peer) (λ h. told h && ltb h (peer + 1)) ms (λ h low high. ⊎_elim
      (λ (e : peer ≡ h). let none : told h ≡ false = ap told (sym e) ∙ untold in rw none refl)
      (λ (ne : peer ≢ h). let same : ltb h peer ≡ ltb h (peer + 1) = grind (arith, nat_tests, ne) in ap (λ (b : Bool). told h && b) same)
      (cases_eq peer h))

  pub taken_length : (n : ℕ) (told : ℕ → Bool) (ms : List MemberValue) → length (taken_back_from n f told ms) ≡ length ms
  unfolding taken_back_from
  taken_length n told [] = refl
  taken_length n told (m ∷ ms) = let rest = taken_length (n + 1) told ms in omega (arith, rest)
