-- Who is told, and what is taken back of it
use Rattle.std.proofs.Common.{◌≡◌, ℕ, zero, suc, ◌+◌, ◌-◌, ◌<◌, ◌≤◌, List, [], ◌∷◌, ◌++◌, length, map, take, drop, get_or, set, cond, eqb, ltb, ◌&&◌, Bool, true, false, refl, sym, ap, ◌∙◌, add-one, length-append, get_or-set_same, ⊎_elim, Result, Ok, Err, OnOk, OnErr, is_err, arith}
use Rattle.std.proofs.Math.Bool.{and-false}
use Rattle.std.proofs.Math.Path.{fun_ext}
use Rattle.std.proofs.Math.Seq.{take-append_seam}
use Rattle.std.proofs.lemmas.Bool.{cases_Bool}
use Rattle.std.proofs.lemmas.Bool.Decides.{nat_tests}
use Rattle.std.proofs.lemmas.List.{length-map}
use Rattle.hla_base.specs.declared.fault.Fault.{Fault}
use Rattle.hla_base.specs.declared.notice.Notice.{Notice}
use Rattle.hla_base.specs.Tables.{upd, is_other}
use Rattle.hla_component_rules.specs.declared.control.Control.{Control}
use Rattle.hla_component_rules.specs.declared.control.Control.TheVariants.{ToTell}
use Rattle.hla_component_rules.specs.LocalValue.{LocalValue}
use Rattle.hla_component_rules.specs.Telling.{local_told, local_untold}
use Rattle.hla_retraction.specs.SentRows.{sent_of}
use Rattle.hla_execution.specs.MemberValue.{item, MemberValue, no_member, members_of}
use Rattle.hla_members.specs.Rooms.{RoomyMember}
use Rattle.hla_members.proofs.MemberTables.{past, upd-self}
use Rattle.hla_members.specs.Telling.{member_told, member_untold, with_all_told}

-- ---- what is taken back is what was told
taken_back : (cs ks : List Control) → take (length (cs ++ ks) - length ks) (cs ++ ks) ≡ cs
taken_back cs ks = let n : length (cs ++ ks) - length ks ≡ length cs = omega (arith, length-append cs ks) in rw n (take-append_seam cs ks)

untold_back : (notices : List Notice) (l : LocalValue) → local_untold (length notices) (local_told notices l) ≡ l
untold_back notices l = rw (← length-map notices ToTell) (ap (λ (cs : List Control). record l { controls = cs }) (taken_back l.controls (map ToTell notices)))

pub untold_told : (notices : List Notice) (m : RoomyMember) → member_untold (length notices) (member_told notices m) ≡ m
untold_told notices m = ap (λ (l : LocalValue). record m { shown = record m.shown { local = l } }) (by m.shown.joined m.shown.local)
  where
    by : (b : Bool) (l : LocalValue) → cond b (local_untold (length notices) (cond b (local_told notices l) l)) (cond b (local_told notices l) l) ≡ l
    by true l = untold_back notices l
    by false l = refl

pub undone : (notices : List Notice) (ms : List RoomyMember) (k : ℕ) → map (member_untold (length notices)) (take k (map (member_told notices) (take k ms) ++ drop k ms)) ++ drop k (map (member_told notices) (take k ms) ++ drop k ms) ≡ ms
undone notices ms zero = refl
undone notices [] (suc k) = refl
undone notices (m ∷ ms) (suc k) = λ i. untold_told notices m i ∷ undone notices ms k i

-- ---- one more in a row
module _ (change : RoomyMember → RoomyMember) where
  changed_suc : (ms : List RoomyMember) (k : ℕ) (x : RoomyMember) → k < length ms → x ≡ get_or (map change (take k ms) ++ drop k ms) k x →
      set (map change (take k ms) ++ drop k ms) k (change x) ≡ map change (take (suc k) ms) ++ drop (suc k) ms
  changed_suc [] k x within read = absurd (omega arith)
  changed_suc (m ∷ ms) zero x within read = ap (λ y. change y ∷ ms) read
  changed_suc (m ∷ ms) (suc k) x within read = ap (λ rest. change m ∷ rest) (changed_suc ms k x (omega arith) read)

  pub changed_more : (ms now : List RoomyMember) (k : ℕ) (x y : RoomyMember) → k < length ms → now ≡ map change (take k ms) ++ drop k ms → x ≡ get_or now k x → y ≡ change x →
      set now k y ≡ map change (take (k + 1) ms) ++ drop (k + 1) ms
  changed_more ms now k x y within is read changed =
      ap (set now k) changed ∙ ap (λ (l : List RoomyMember). set l k (change x)) is
      ∙ rw (add-one k) (changed_suc ms k x within (read ∙ ap (λ (l : List RoomyMember). get_or l k x) is))

-- one that is put back
pub set_back : {X : Type 0} (xs : List X) (k : ℕ) (x y : X) → y ≡ get_or xs k y → set (set xs k x) k y ≡ xs
set_back [] k x y read = refl
set_back (z ∷ zs) zero x y read = ap (λ w. w ∷ zs) read
set_back (z ∷ zs) (suc k) x y read = ap (λ ws. z ∷ ws) (set_back zs k x y read)

pub set_kept : {X : Type 0} (xs : List X) (k : ℕ) (y : X) → y ≡ get_or xs k y → set xs k y ≡ xs
set_kept [] k y read = refl
set_kept (z ∷ zs) zero y read = ap (λ w. w ∷ zs) read
set_kept (z ∷ zs) (suc k) y read = ap (λ ws. z ∷ ws) (set_kept zs k y read)

-- one is told, and what it was told is taken back
pub put_back : (notices : List Notice) (xs ys : List RoomyMember) (k : ℕ) (y x z w : RoomyMember) → k < length xs → y ≡ get_or xs k y → x ≡ member_told notices y → ys ≡ set xs k x → z ≡ get_or ys k z → w ≡ member_untold (length notices) z → set ys k w ≡ xs
put_back notices xs ys k y x z w within read told is again untold =
    let there : z ≡ x = again ∙ ap (λ (l : List RoomyMember). get_or l k z) is ∙ get_or-set_same xs k x z within in
    let back : w ≡ y = untold ∙ ap (member_untold (length notices)) (there ∙ told) ∙ untold_told notices y in
    ap (set ys k) back ∙ ap (λ (l : List RoomyMember). set l k y) is ∙ set_back xs k x y read

-- ---- what holds of a result that is known
pub held_ok : {X E P : Type 0} (r : Result X E) → is_err r ≡ false → OnOk r P → P
held_ok (Ok x) is p = p
held_ok (Err e) is p = absurd (cc)

pub held_err : {X E P : Type 0} (r : Result X E) → is_err r ≡ true → OnErr r P → P
held_err (Ok x) is p = absurd (cc)
held_err (Err e) is p = p

-- ---- all that are joined, as tables
mapped_at : (change : MemberValue → MemberValue) (ms : List MemberValue) (k : ℕ) → change no_member ≡ no_member → get_or (map change ms) k no_member ≡ change (get_or ms k no_member)
mapped_at change [] k none = sym none
mapped_at change (m ∷ ms) zero none = refl
mapped_at change (m ∷ ms) (suc k) none = mapped_at change ms k none

mapped : (change : MemberValue → MemberValue) (ms : List MemberValue) → change no_member ≡ no_member → item no_member (map change ms) ≡ (λ f. change (item no_member ms f))
mapped change ms none = fun_ext (λ f. each f)
  where
    each : (f : ℕ) → item no_member (map change ms) f ≡ change (item no_member ms f)
    each zero = sym none
    each (suc k) = mapped_at change ms k none

module _ (notices : List Notice) where
  abbrev told : MemberValue → MemberValue
  told m = record m { local = cond m.joined (local_told notices m.local) m.local }

  all_told : (ms : List MemberValue) → members_of (map told ms) ≡ with_all_told notices (members_of ms)
  all_told ms = λ i. record {
    next_federate = length-map ms told i + 1;
    joined = λ f. (mapped told ms refl i f).joined;
    name = λ f. (mapped told ms refl i f).name;
    serial = λ f. (mapped told ms refl i f).next_serial;
    local = λ f. (mapped told ms refl i f).local;
    wire = λ g f. item [] (mapped told ms refl i f).incoming g;
    sent = λ f. sent_of (mapped told ms refl i f).sent;
  }

  shown_told : (ms : List RoomyMember) → map (λ (m : RoomyMember). m.shown) (map (member_told notices) ms) ≡ map told (map (λ (m : RoomyMember). m.shown) ms)
  shown_told [] = refl
  shown_told (m ∷ ms) = ap (λ rest. told m.shown ∷ rest) (shown_told ms)

  pub tables_told : (ms : List RoomyMember) → members_of (map (λ (m : RoomyMember). m.shown) (map (member_told notices) ms)) ≡ with_all_told notices (members_of (map (λ (m : RoomyMember). m.shown) ms))
  tables_told ms = ap members_of (shown_told ms) ∙ all_told (map (λ (m : RoomyMember). m.shown) ms)

  -- one that is joined
  pub one_told : (y : RoomyMember) (m : MemberValue) → y.shown ≡ m → m.joined ≡ true → (member_told notices y).shown ≡ record m { local = local_told notices m.local }
  one_told y m is joined = ap told is ∙ ap (λ (b : Bool). record m { local = cond b (local_told notices m.local) m.local }) joined

  pub rooms_told : (ms : List RoomyMember) → map (λ (m : RoomyMember). m.rooms) (map (member_told notices) ms) ≡ map (λ (m : RoomyMember). m.rooms) ms
  rooms_told [] = refl
  rooms_told (m ∷ ms) = ap (λ rest. m.rooms ∷ rest) (rooms_told ms)

  pub rooms_kept : (r : Result (Unit {0}) Fault) (ms now : List RoomyMember) → OnOk r (now ≡ map (member_told notices) ms) → OnErr r (now ≡ ms) → map (λ (m : RoomyMember). m.rooms) now ≡ map (λ (m : RoomyMember). m.rooms) ms
  rooms_kept (Ok x) ms now told same = ap (map (λ (m : RoomyMember). m.rooms)) told ∙ rooms_told ms
  rooms_kept (Err e) ms now told same = ap (map (λ (m : RoomyMember). m.rooms)) same

-- ---- those below a number that pass a test
module _ (test : ℕ → Bool) where
  abbrev pub passing_below : ℕ → ℕ → Bool
  passing_below n g = ltb g n && test g

  pub passing_none : test 0 ≡ false → (λ _. false) ≡ passing_below 1
  passing_none zero_fails = fun_ext (λ g. each g)
    where
      each : (g : ℕ) → false ≡ ltb g 1 && test g
      each zero = sym zero_fails
      each (suc k) = let n : ltb (suc k) 1 ≡ false = grind (arith, nat_tests) in rw n refl

  pub passing_more : (n : ℕ) → test n ≡ true → upd (passing_below n) n true ≡ passing_below (n + 1)
  unfolding upd
  passing_more n passes = fun_ext (λ g. ⊎_elim
      (λ (y : eqb n g ≡ true). let e : n ≡ g = grind (arith, nat_tests) in let now : ltb g (n + 1) ≡ true = grind (arith, nat_tests) in let too : test g ≡ true = ap test (sym e) ∙ passes in rw (y, now, too) refl)
      (λ (x : eqb n g ≡ false). let same : ltb g (n + 1) ≡ ltb g n = grind (arith, nat_tests) in rw (x, same) refl)
      (cases_Bool (eqb n g)))

  pub passing_same : (n : ℕ) → test n ≡ false → passing_below n ≡ passing_below (n + 1)
  passing_same n fails = fun_ext (λ g. ⊎_elim
      (λ (y : eqb n g ≡ true). let e : n ≡ g = grind (arith, nat_tests) in let too : test g ≡ false = ap test (sym e) ∙ fails in rw (too, and-false, and-false) refl)
      (λ (x : eqb n g ≡ false). let same : ltb g (n + 1) ≡ ltb g n = grind (arith, nat_tests) in rw same refl)
      (cases_Bool (eqb n g)))

-- ---- who is joined but for one
others_passing : (joined : ℕ → Bool) (f end : ℕ) → ((g : ℕ) → end ≤ g → joined g ≡ false) → (g : ℕ) → passing_below (is_other joined f) end g ≡ upd joined f false g
unfolding upd
others_passing joined f end past g = ⊎_elim
    (λ (y : eqb f g ≡ true). rw (y, and-false) refl)
    (λ (x : eqb f g ≡ false). ⊎_elim
    (λ (below : ltb g end ≡ true). rw (x, below) refl)
    (λ (above : ltb g end ≡ false). let beyond : end ≤ g = grind (arith, nat_tests, above) in rw (x, above, past g beyond) refl)
    (cases_Bool (ltb g end)))
    (cases_Bool (eqb f g))

pub others_joined : (members : List MemberValue) (f end : ℕ) → length members + 1 ≤ end → passing_below (is_other (members_of members).joined f) end ≡ upd (members_of members).joined f false
others_joined members f end all = fun_ext (others_passing (members_of members).joined f end (λ g beyond. ap (λ (m : MemberValue). m.joined) (past members g (omega (arith, all, beyond)))))

pub none_left_out : (members : List MemberValue) → upd (members_of members).joined 0 false ≡ (members_of members).joined
none_left_out members = upd-self (members_of members).joined 0 false refl
