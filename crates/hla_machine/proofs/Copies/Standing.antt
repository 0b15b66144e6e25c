-- What is kept of a message, of its copy for a federate and of the requests to take it back, and what may become of that
use Rattle.std.proofs.Common.{◌≡◌, ◌⊎◌, ℕ, ◌+◌, ◌-◌, ◌≤◌, ◌<◌, Bool, true, false, refl, sym, ◌∙◌, le_trans, inl, inr, ⊎_elim, arith, is_some, Option, Some, None}
use Rattle.std.proofs.lemmas.Bool.{cases_Bool, cond_both}
use Rattle.hla_base.specs.Tables.{one_if}
use Rattle.hla_base.specs.Rows.{is_none_of}
use Rattle.hla_retraction.specs.SentEvents.{SentEvent}
use Rattle.hla_machine.specs.Central.{Copy}

-- what is kept of a message with serial m, of its copy for f and of the requests to f to take it back; R says that it was retracted, H that f
-- was given it, N that f was never asked to take it back
pub record Standing (m f : ℕ) (R H N : Type 0) (event : SentEvent) (serial owed due : ℕ) (o : Option Copy) (member : Bool) (next : ℕ) : Type 0 where
  pub called : event.retracted ≡ true → R
  pub used : event.retracted ≡ true → m < serial
  pub able : event.retractable ≡ true → m < serial
  pub calm : event.retracted ≡ false → (owed ≡ 0) × (due ≡ 0)
  pub few : owed + due ≤ 1
  pub near : event.retracted ≡ false → event.receivers f ≡ true → member ≡ true → (is_some o ≡ true) ⊎ H
  pub coming : 1 ≤ owed → (is_some o ≡ true) ⊎ H
  pub heard : 1 ≤ due → H
  pub asked : N ⊎ ((event.retracted ≡ true) × (owed ≡ 0) × (due ≡ 0))
  pub known : event.receivers f ≡ true → f < next
  pub members : member ≡ true → f < next

-- ---- what may become of it
module _ (m f : ℕ) (R H N : Type 0) (event : SentEvent) (serial owed due : ℕ) (o : Option Copy) (member : Bool) (next : ℕ) (k : Standing m f R H N event serial owed due o member next) where
  -- more has happened
  pub wider : (P G M : Type 0) → (R → P) → (H → G) → (N → M) → Standing m f P G M event serial owed due o member next
  wider P G M r h n = record {
    called = λ e. r (k.called e);
    used = k.used;
    able = k.able;
    calm = k.calm;
    few = k.few;
    near = λ e to is. ⊎_elim (λ (l : is_some o ≡ true). inl l) (λ (x : H). inr (h x)) (k.near e to is);
    coming = λ l. ⊎_elim (λ (l : is_some o ≡ true). inl l) (λ (x : H). inr (h x)) (k.coming l);
    heard = λ l. h (k.heard l);
    asked = ⊎_elim (λ (x : N). inl (n x)) (λ (x : (event.retracted ≡ true) × (owed ≡ 0) × (due ≡ 0)). inr x) k.asked;
    known = k.known;
    members = k.members;
  }

  -- the copy moves, or f is given it
  pub moved : (p : Option Copy) → (is_some o ≡ true → (is_some p ≡ true) ⊎ H) → Standing m f R H N event serial owed due p member next
  moved p to = record {
    called = k.called;
    used = k.used;
    able = k.able;
    calm = k.calm;
    few = k.few;
    near = λ e r is. ⊎_elim to (λ (x : H). inr x) (k.near e r is);
    coming = λ l. ⊎_elim to (λ (x : H). inr x) (k.coming l);
    heard = k.heard;
    asked = k.asked;
    known = k.known;
    members = k.members;
  }

  -- its sender sends more
  pub passed : (s : ℕ) → serial ≤ s → Standing m f R H N event s owed due o member next
  passed s up = record {
    called = k.called;
    used = λ e. le_trans (k.used e) up;
    able = λ e. le_trans (k.able e) up;
    calm = k.calm;
    few = k.few;
    near = k.near;
    coming = k.coming;
    heard = k.heard;
    asked = k.asked;
    known = k.known;
    members = k.members;
  }

  -- a federate joins
  pub joined : (is : Bool) (to : ℕ) → next ≤ to → (is ≡ true → (member ≡ true) ⊎ ((next ≡ f) × (f < to))) → Standing m f R H N event serial owed due o is to
  joined is to up new = record {
    called = k.called;
    used = k.used;
    able = k.able;
    calm = k.calm;
    few = k.few;
    near = λ e r there. ⊎_elim
        (λ (old : member ≡ true). k.near e r old)
        (λ (new : (next ≡ f) × (f < to)). absurd (omega (arith, k.known r, new.0)))
        (new there);
    coming = k.coming;
    heard = k.heard;
    asked = k.asked;
    known = λ r. le_trans (k.known r) up;
    members = λ there. ⊎_elim (λ (old : member ≡ true). le_trans (k.members old) up) (λ (new : (next ≡ f) × (f < to)). new.1) (new there);
  }

  -- f resigns
  pub left : Standing m f R H N event serial 0 0 None false next
  left = record {
    called = k.called;
    used = k.used;
    able = k.able;
    calm = λ e. (refl, refl);
    few = omega arith;
    near = λ e r is. absurd (cc);
    coming = λ l. absurd (omega arith);
    heard = λ l. absurd (omega arith);
    asked = ⊎_elim (λ (x : N). inl x) (λ (x : (event.retracted ≡ true) × (owed ≡ 0) × (due ≡ 0)). inr (x.0, refl, refl)) k.asked;
    known = k.known;
    members = λ is. absurd (cc);
  }

  -- it is retracted where it is owed
  back : 1 ≤ owed + due → event.retracted ≡ true
  back l = ⊎_elim
      (λ (y : event.retracted ≡ true). y)
      (λ (n : event.retracted ≡ false). absurd (let z = k.calm n in omega (arith, l, z.0, z.1)))
      (cases_Bool event.retracted)

  -- it is sent
  pub begun : (e : SentEvent) (s : ℕ) (p : Option Copy) → serial ≤ m → m < s → e.retracted ≡ false → (e.receivers f ≡ true → (is_some p ≡ true) × (member ≡ true)) → Standing m f R H N e s owed due p member next
  begun e s p new low fresh to = record {
    called = λ r. absurd (let b : true ≡ false = sym r ∙ fresh in cc);
    used = λ _. low;
    able = λ _. low;
    calm = λ _. k.calm unretracted;
    few = k.few;
    near = λ _ r _. inl (to r).0;
    coming = λ l. absurd (let z = k.calm unretracted in omega (arith, l, z.0));
    heard = k.heard;
    asked = ⊎_elim (λ (x : N). inl x) (λ (x : (event.retracted ≡ true) × (owed ≡ 0) × (due ≡ 0)). absurd (let b : true ≡ false = sym x.0 ∙ unretracted in cc)) k.asked;
    known = λ r. k.members (to r).1;
    members = k.members;
  }
    where
      unretracted : event.retracted ≡ false
      unretracted = ⊎_elim (λ (y : event.retracted ≡ true). absurd (omega (arith, k.used y, new))) (λ (n : event.retracted ≡ false). n) (cases_Bool event.retracted)

  -- it is retracted
  pub recalled : (told : Bool) → event.retracted ≡ false → event.retractable ≡ true → R → (told ≡ true → (event.receivers f ≡ true) × (member ≡ true)) → Standing m f R H N (record event { retracted = true }) serial (owed + one_if told) due o member next
  recalled told un may called to = record {
    called = λ _. called;
    used = λ _. k.able may;
    able = k.able;
    calm = λ e. absurd (cc);
    few = let z = k.calm un in cond_both told 1 0 (λ n. owed + n + due ≤ 1) (λ _. omega (arith, z.0, z.1)) (λ _. omega (arith, z.0, z.1));
    near = λ e. absurd (cc);
    coming = λ l. ⊎_elim
        (λ (y : told ≡ true). k.near un (to y).0 (to y).1)
        (λ (n : told ≡ false). absurd (let l2 = rw n at l in let z = k.calm un in omega (arith, l2, z.0)))
        (cases_Bool told);
    heard = k.heard;
    asked = ⊎_elim (λ (x : N). inl x) (λ (x : (event.retracted ≡ true) × (owed ≡ 0) × (due ≡ 0)). absurd (let b : true ≡ false = sym x.0 ∙ un in cc)) k.asked;
    known = k.known;
    members = k.members;
  }

  -- its retraction arrives
  pub arrived : 1 ≤ owed → Standing m f R H N event serial (owed - 1) (due + one_if (is_none_of o)) None member next
  arrived l = record {
    called = k.called;
    used = k.used;
    able = k.able;
    calm = λ n. absurd (let z = k.calm n in omega (arith, l, z.0));
    few = cond_both (is_none_of o) 1 0 (λ n. owed - 1 + (due + n) ≤ 1) (λ _. omega (arith, l, k.few)) (λ _. omega (arith, l, k.few));
    near = λ n r is. absurd (let z = k.calm n in omega (arith, l, z.0));
    coming = λ more. absurd (omega (arith, l, more, k.few));
    heard = λ due. of o (k.coming l) due;
    asked = ⊎_elim (λ (x : N). inl x) (λ (x : (event.retracted ≡ true) × (owed ≡ 0) × (due ≡ 0)). absurd (omega (arith, l, x.1))) k.asked;
    known = k.known;
    members = k.members;
  }
    where
      of : (o : Option Copy) → (is_some o ≡ true) ⊎ H → 1 ≤ due + one_if (is_none_of o) → H
      of (Some x) there is = k.heard (omega (arith, is))
      of None (inl there) is = absurd (cc)
      of None (inr h) is = h

  -- f is asked to take it back
  pub answered : (M : Type 0) → 1 ≤ due → Standing m f R H M event serial owed (due - 1) o member next
  answered M l = record {
    called = k.called;
    used = k.used;
    able = k.able;
    calm = λ n. absurd (let z = k.calm n in omega (arith, l, z.1));
    few = omega (arith, k.few);
    near = k.near;
    coming = k.coming;
    heard = λ more. k.heard l;
    asked = inr (back (omega (arith, l)), omega (arith, l, k.few), omega (arith, l, k.few));
    known = k.known;
    members = k.members;
  }
