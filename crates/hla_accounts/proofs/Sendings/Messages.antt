-- A message's copies, one federate after another
use mathlib.Core.Bool.{true≢false, false≢true}
use Rattle.std.proofs.Common.{eqb-true, ◌≡◌, ◌≢◌, ℕ, zero, suc, ◌+◌, ◌<◌, ◌≤◌, cond, eqb, ltb, not, ◌&&◌, Bool, true, false, List, [], ◌∷◌, ◌++◌, map, length, length-append, get_or, Option, Some, None, is_some, option_map, unwrap_or, refl, sym, ap, ◌∙◌, subst, ⊎_elim, arith}
use Rattle.std.proofs.Math.ListN.{get_or-append}
use Rattle.std.proofs.Math.Seq.{get_or-append_seam}
use Rattle.std.proofs.lemmas.Bool.{cases_lt, and_parts}
use Rattle.std.proofs.lemmas.Bool.Decides.{nat_tests}
use Rattle.std.proofs.lemmas.List.{get_or_past, map-id}
use Rattle.std.proofs.Math.Path.{fun_ext}
use Rattle.hla_base.specs.declared.content.Content.{Content}
use Rattle.hla_base.specs.Rows.{is_enabled}
use Rattle.hla_base.specs.Tables.{upd, upd2, is_other, or_else, when}
use Rattle.hla_base.proofs.Tables.{upd_same}
use Rattle.hla_callbacks.specs.declared.callback.Delivery.{Delivery}
use Rattle.hla_catalogue.specs.CatalogueValue.{empty_catalogue}
use Rattle.hla_catalogue.specs.declared.declared.Order.{Order}
use Rattle.hla_catalogue.specs.declared.declared.Order.TheVariants.{Timestamp}
use Rattle.hla_retraction.specs.SentEvents.{SentEvent, no_event}
use Rattle.hla_machine.specs.Directory.{Directory, Outgoing, new_directory, content_for, is_of_order}
use Rattle.hla_machine.specs.Central.{Central, Copy, Ro, Tso, at_key, with_copies, is_key}
use Rattle.hla_machine.specs.Sends.{is_ordered, kept_stamp, is_deletion, copy_for, sent_event, after_message}
use Rattle.hla_machine.proofs.Basics.Bags.{bag_ext, key_parts, or_else-none, at_key_self}
use Rattle.hla_accounts.specs.declared.account.Account.{Account}
use Rattle.hla_accounts.specs.Accounts.{account_at, central_with, copy_at, copy_given}
use Rattle.hla_accounts.specs.Sendings.{item_for, copy_sent, sent_delivery, stamp_in_order, noted_stamp, kept_event, IsCutTo}
use Rattle.hla_accounts.proofs.AfterSteps.Accounts.{account_at-past}

-- ---- lists by federate
pub item_for-past : {X : Type 0} (xs : List (Option X)) (f : ℕ) → length xs < f → item_for xs f ≡ None
item_for-past xs zero past = refl
item_for-past xs (suc k) past = get_or_past xs k None (omega arith)

pub item_for-push : {X : Type 0} (xs : List (Option X)) (x : Option X) (f : ℕ) → item_for (xs ++ x ∷ []) f ≡ cond (eqb (length xs + 1) f) x (item_for xs f)
item_for-push xs x zero = let n : eqb (length xs + 1) 0 ≡ false = grind (arith, nat_tests) in rw n refl
item_for-push xs x (suc k) = ⊎_elim
    (λ (low : k < length xs). let n : eqb (length xs + 1) (suc k) ≡ false = grind (arith, nat_tests) in rw n (get_or-append xs (x ∷ []) None k low))
    (λ (high : length xs ≤ k). ⊎_elim
    (λ (past : length xs < k). let n : eqb (length xs + 1) (suc k) ≡ false = grind (arith, nat_tests) in
    let over : item_for (xs ++ x ∷ []) (suc k) ≡ None = item_for-past (xs ++ x ∷ []) (suc k) (beyond past) in
    rw n (over ∙ sym (item_for-past xs (suc k) (omega (arith, past)))))
    (λ (at : k ≤ length xs). let e : length xs ≡ k = omega (arith, at, high) in let y : eqb (length xs + 1) (suc k) ≡ true = grind (arith, nat_tests) in
    rw y (ap (λ j. get_or (xs ++ x ∷ []) j None) (sym e) ∙ get_or-append_seam xs x [] None))
    (cases_lt (length xs) k))
    (cases_lt k (length xs))
  where
    beyond : length xs < k → length (xs ++ x ∷ []) < suc k
    beyond past = simp length-append (omega (arith, past))

-- ---- one copy
pub when_none : {X : Type 0} (b : Bool) → when {X = X} b None ≡ None
when_none true = refl
when_none false = refl

pub when_untold : {X : Type 0} (b : Bool) (o : Option X) → b ≡ false → when b o ≡ None
when_untold true o e = absurd (true≢false e)
when_untold false o e = refl

pub when_told : {X : Type 0} (b : Bool) (o : Option X) → b ≡ true → when b o ≡ o
when_told true o e = refl
when_told false o e = absurd (false≢true e)

pub nothing_said : (b : Bool) (dl : Delivery) (o : Option Content) → o ≡ None → when b (option_map (copy_given dl) o) ≡ None
nothing_said b dl o e = subst (λ (o : Option Content). when b (option_map (copy_given dl) o) ≡ None) (sym e) (when_none b)

pub other_self : (joined : ℕ → Bool) (g f : ℕ) → g ≡ f → is_other joined g f ≡ false
other_self joined g f e = let y : eqb g f ≡ true = grind (arith, nat_tests) in rw y refl

pub other_unjoined : (joined : ℕ → Bool) (g f : ℕ) → joined f ≡ false → is_other joined g f ≡ false
other_unjoined joined g f e = rw e (by (not (eqb g f)))
  where
    by : (a : Bool) → (a && false) ≡ false
    by true = refl
    by false = refl

pub other_joined : (joined : ℕ → Bool) (g f : ℕ) → g ≢ f → joined f ≡ true → is_other joined g f ≡ true
other_joined joined g f ne e = let n : eqb g f ≡ false = grind (arith, nat_tests) in rw (n, e) refl

-- no copy where there was none
pub none_put : (d : Directory) (accounts : List Account) (g m f : ℕ) (o : Option Copy) → copy_at (account_at accounts f).bag g m ≡ None → o ≡ None → central_with d accounts ≡ record (central_with d accounts) { bag = at_key (central_with d accounts).bag g m f o }
none_put d accounts g m f o free none = ap (λ (bag : ℕ → ℕ → ℕ → Option Copy). record (central_with d accounts) { bag = bag }) (sym (at_key_self (central_with d accounts).bag g m f o (free ∙ sym none)))

-- who is joined has a number
pub joined_within : (accounts : List Account) (f : ℕ) → (account_at accounts f).is_joined ≡ true → f ≤ length accounts
joined_within accounts f is = ⊎_elim
    (λ (past : length accounts < f). absurd (false≢true (sym (ap (λ (a : Account). a.is_joined) (account_at-past accounts f past)) ∙ is)))
    (λ (l : f ≤ length accounts). l)
    (cases_lt (length accounts) f)

-- ---- to whom a message goes
-- the numbers below n that pass the test
abbrev pub told_below : (ℕ → Bool) → ℕ → ℕ → Bool
told_below told n = λ f. told f && ltb f n

and_false : (a : Bool) → (a && false) ≡ false
and_false true = refl
and_false false = refl

pub told_none : (told : ℕ → Bool) → told 0 ≡ false → (λ _. false) ≡ told_below told 1
told_none told nobody = fun_ext at
  where
    at : (f : ℕ) → false ≡ (told f && ltb f 1)
    at zero = rw nobody refl
    at (suc f) = let far : ltb (suc f) 1 ≡ false = grind (arith, nat_tests) in rw far (sym (and_false (told (suc f))))

pub told_more : (told : ℕ → Bool) (n : ℕ) → told n ≡ true → upd (told_below told n) n true ≡ told_below told (n + 1)
unfolding upd
told_more told n is = fun_ext (λ f. at f (eqb n f) refl)
  where
    at : (f : ℕ) (e : Bool) → eqb n f ≡ e → cond e true (told f && ltb f n) ≡ (told f && ltb f (n + 1))
    at f true z = let q : n ≡ f = eqb-true n f z in let high : ltb f (n + 1) ≡ true = grind (arith, nat_tests) in rw (high, ← q, is) refl
    at f false z = let same : ltb f n ≡ ltb f (n + 1) = grind (arith, nat_tests) in ap (λ b. told f && b) same

pub told_same : (told : ℕ → Bool) (n : ℕ) → told n ≡ false → told_below told n ≡ told_below told (n + 1)
told_same told n is = fun_ext (λ f. at f (eqb n f) refl)
  where
    at : (f : ℕ) (e : Bool) → eqb n f ≡ e → (told f && ltb f n) ≡ (told f && ltb f (n + 1))
    at f true z = let q : n ≡ f = eqb-true n f z in rw (← q, is) refl
    at f false z = let same : ltb f n ≡ ltb f (n + 1) = grind (arith, nat_tests) in ap (λ b. told f && b) same

pub told_all : (told : ℕ → Bool) (n : ℕ) → ((f : ℕ) → told f ≡ true → f < n) → told_below told n ≡ told
told_all told n within = fun_ext (λ f. at f (told f) refl)
  where
    at : (f : ℕ) (b : Bool) → told f ≡ b → (b && ltb f n) ≡ b
    at f true e = let l = within f e in grind (arith, nat_tests)
    at f false e = refl

-- ---- all copies
pub item_for-nil : {X : Type 0} (f : ℕ) → item_for {X = X} [] f ≡ None
item_for-nil zero = refl
item_for-nil (suc k) = refl

said_none : (b : Bool) (dl : Delivery) (o : Option Content) (x : Option Copy) → o ≡ None → x ≡ or_else (when b (option_map (copy_given dl) o)) x
said_none b dl o x e = rw (nothing_said b dl o e) refl

copies_none : (joined : ℕ → Bool) (bag : ℕ → ℕ → ℕ → Option Copy) (g m : ℕ) (dl : Delivery) → bag ≡ with_copies joined bag g m (copy_sent dl [])
unfolding with_copies
copies_none joined bag g m dl = bag_ext _ _ (λ h k f. said_none (is_key g m h k && is_other joined g f) dl (item_for [] f) (bag h k f) (item_for-nil f))

module _ (joined : ℕ → Bool) (bag : ℕ → ℕ → ℕ → Option Copy) (g m : ℕ) (dl : Delivery) (xs : List (Option Content)) (x : Option Content) where
  pub copies_push : bag g m (length xs + 1) ≡ None →
      at_key (with_copies joined bag g m (copy_sent dl xs)) g m (length xs + 1) (when (is_other joined g (length xs + 1)) (option_map (copy_given dl) x)) ≡ with_copies joined bag g m (copy_sent dl (xs ++ x ∷ []))
  unfolding with_copies at_key
  copies_push free = bag_ext _ _ (λ h k f. at h k f)
    where
      at : (h k f : ℕ) → cond (is_key g m h k && eqb (length xs + 1) f) (when (is_other joined g (length xs + 1)) (option_map (copy_given dl) x)) (or_else (when (is_key g m h k && is_other joined g f) (option_map (copy_given dl) (item_for xs f))) (bag h k f))
          ≡ or_else (when (is_key g m h k && is_other joined g f) (option_map (copy_given dl) (item_for (xs ++ x ∷ []) f))) (bag h k f)
      at h k f = by (is_key g m h k) (eqb (length xs + 1) f) refl refl
        where
          by : (b e : Bool) → is_key g m h k ≡ b → eqb (length xs + 1) f ≡ e → cond (b && e) (when (is_other joined g (length xs + 1)) (option_map (copy_given dl) x)) (or_else (when (b && is_other joined g f) (option_map (copy_given dl) (item_for xs f))) (bag h k f))
              ≡ or_else (when (b && is_other joined g f) (option_map (copy_given dl) (item_for (xs ++ x ∷ []) f))) (bag h k f)
          by false e y z = refl
          by true false y z = let item : item_for (xs ++ x ∷ []) f ≡ item_for xs f = item_for-push xs x f ∙ rw z refl in rw item refl
          by true true y z =
              let p = key_parts g m h k y in let q : length xs + 1 ≡ f = eqb-true (length xs + 1) f z in
              let item : item_for (xs ++ x ∷ []) f ≡ x = item_for-push xs x f ∙ rw z refl in
              let none : bag h k f ≡ None = (λ i. bag (sym p.0 i) (sym p.1 i) (sym q i)) ∙ free in
              rw (item, none, or_else-none, q) refl

-- what waits for each
abbrev pub copies_in : List Account → ℕ → ℕ → ℕ → Option Copy
copies_in accounts = λ g m f. copy_at (account_at accounts f).bag g m

abbrev pub joined_in : List Account → ℕ → Bool
joined_in accounts = λ f. (account_at accounts f).is_joined

-- those for whom the contents begin with these have their copies
pub record ArePut (old new : List Account) (g m : ℕ) (dl : Delivery) (xs : List (Option Content)) : Type 0 where
  pub so_far : (d : Directory) → central_with d new ≡ record (central_with d old) { bag = with_copies (joined_in old) (copies_in old) g m (copy_sent dl xs) }

pub puts_none : (accounts : List Account) (g m : ℕ) (dl : Delivery) → ArePut accounts accounts g m dl []
puts_none accounts g m dl = record {
  so_far = λ d. ap (λ (bag : ℕ → ℕ → ℕ → Option Copy). record (central_with d accounts) { bag = bag }) (copies_none (joined_in accounts) (copies_in accounts) g m dl);
}

module _ (old new next : List Account) (g m : ℕ) (dl : Delivery) (xs : List (Option Content)) (h : ArePut old new g m dl xs) where
  nowhere : Directory
  nowhere = new_directory empty_catalogue

  pub puts_serial : (account_at new g).next_serial ≡ (account_at old g).next_serial
  puts_serial = ap (λ (c : Central). c.serial g) (h.so_far nowhere)

  -- none waits yet for the next
  pub puts_free : (f : ℕ) → copies_in old g m f ≡ None → length xs < f → copies_in new g m f ≡ None
  unfolding with_copies
  puts_free f free past = ap (λ (c : Central). c.bag g m f) (h.so_far nowhere)
      ∙ sym (said_none (is_key g m g m && is_other (joined_in old) g f) dl (item_for xs f) (copies_in old g m f) (item_for-past xs f past)) ∙ free

  pub puts_more : (n : ℕ) → n ≡ length xs + 1 → (x : Option Content) → copies_in old g m n ≡ None →
      ((d : Directory) → central_with d next ≡ record (central_with d new) { bag = at_key (copies_in new) g m n (when (is_other (joined_in new) g n) (option_map (copy_given dl) x)) }) → ArePut old next g m dl (xs ++ x ∷ [])
  puts_more n at x free more = record {
    so_far = λ d. more d ∙ ap (λ n. record (central_with d new) { bag = at_key (copies_in new) g m n (when (is_other (joined_in new) g n) (option_map (copy_given dl) x)) }) at ∙ ap (λ (c : Central). record c { bag = at_key c.bag g m (length xs + 1) (when (is_other c.directory.joined g (length xs + 1)) (option_map (copy_given dl) x)) }) (h.so_far d)
        ∙ ap (λ (bag : ℕ → ℕ → ℕ → Option Copy). record (central_with d old) { bag = bag }) (copies_push (joined_in old) (copies_in old) g m dl xs x (ap (λ n. copies_in old g m n) (sym at) ∙ free));
  }

-- all contents were taken
pub puts_all : (old new : List Account) (g m : ℕ) (dl : Delivery) (xs ys : List (Option Content)) → ArePut old new g m dl xs → map (λ x. x) xs ≡ ys → (d : Directory) →
    central_with d new ≡ record (central_with d old) { bag = with_copies (joined_in old) (copies_in old) g m (copy_sent dl ys) }
puts_all old new g m dl xs ys h all d = h.so_far d ∙ ap (λ (xs : List (Option Content)). record (central_with d old) { bag = with_copies (joined_in old) (copies_in old) g m (copy_sent dl xs) }) (sym (map-id xs) ∙ all)

-- ---- a message as the machine sends it
upd2_itself : {X : Type 0} (t : ℕ → ℕ → X) (i j : ℕ) (x : X) → x ≡ t i j → t ≡ upd2 t i j x
unfolding upd2
upd2_itself t i j x same = fun_ext (λ k. fun_ext (λ l. by k l (eqb i k) (eqb j l) refl refl))
  where
    by : (k l : ℕ) (a b : Bool) → eqb i k ≡ a → eqb j l ≡ b → t k l ≡ cond (a && b) x (t k l)
    by k l true true y z = let p = eqb-true i k y in let q = eqb-true j l z in (λ e. t (sym p e) (sym q e)) ∙ sym same
    by k l true false y z = refl
    by k l false b y z = refl

-- nothing is kept of a message that may not be retracted
pub unkept : (c : Central) (g : ℕ) (o : Option ℕ) (rs : ℕ → Bool) → o ≡ None → c.sent g (c.serial g) ≡ no_event →
    record c { serial = upd c.serial g (c.serial g + 1) } ≡ record c { serial = upd c.serial g (c.serial g + 1); sent = upd2 c.sent g (c.serial g) (kept_event o rs) }
unkept c g o rs none unsent = ap (λ (t : ℕ → ℕ → SentEvent). record c { serial = upd c.serial g (c.serial g + 1); sent = t })
    (upd2_itself c.sent g (c.serial g) (kept_event o rs) (ap (λ (o : Option ℕ). kept_event o rs) none ∙ sym unsent))

pub kept_as : (o : Option ℕ) (s : ℕ) (rs qs : ℕ → Bool) → o ≡ Some s → rs ≡ qs → record { stamp = s; retractable = true; retracted = false; receivers = rs } ≡ kept_event o qs
kept_as o s rs qs is same = ap (λ (rs : ℕ → Bool). kept_event (Some s) rs) same ∙ ap (λ (o : Option ℕ). kept_event o qs) (sym is)

kept_same : (o reg del : Bool) (stamp : Option ℕ) (rs qs : ℕ → Bool) → rs ≡ qs → kept_event (when (not del) (when (o && is_some stamp && reg) stamp)) rs
    ≡ cond ((o && is_some stamp && reg) && not del) (record { stamp = cond (o && is_some stamp && reg) (unwrap_or stamp 0) 0; retractable = true; retracted = false; receivers = qs }) no_event
kept_same true true false (Some s) rs qs e = ap (λ (rs : ℕ → Bool). kept_event (Some s) rs) e
kept_same true true true (Some s) rs qs e = refl
kept_same true false del (Some s) rs qs e = rw when_none refl
kept_same false reg del (Some s) rs qs e = rw when_none refl
kept_same true reg del None rs qs e = rw when_none refl
kept_same false reg del None rs qs e = rw when_none refl

given_same : (o reg : Bool) (stamp : Option ℕ) (x : Content) → copy_given (sent_delivery (when (o && is_some stamp && reg) stamp)) x
    ≡ record { order = cond (o && is_some stamp && reg) Tso Ro; stamp = cond (o && is_some stamp && reg) (unwrap_or stamp 0) 0; content = x }
given_same true true (Some s) x = refl
given_same true false (Some s) x = refl
given_same false reg (Some s) x = refl
given_same true reg None x = refl
given_same false reg None x = refl

option_map_same : {X Y : Type 0} (p q : X → Y) → ((x : X) → p x ≡ q x) → (o : Option X) → option_map p o ≡ option_map q o
option_map_same p q same None = refl
option_map_same p q same (Some x) = ap Some (same x)

copies_agree : (joined : ℕ → Bool) (bag : ℕ → ℕ → ℕ → Option Copy) (g m : ℕ) (p q : ℕ → Option Copy) → ((f : ℕ) → is_other joined g f ≡ true → p f ≡ q f) → with_copies joined bag g m p ≡ with_copies joined bag g m q
unfolding with_copies
copies_agree joined bag g m p q same = bag_ext _ _ (λ h k f. by h k f (is_key g m h k) (is_other joined g f) refl)
  where
    by : (h k f : ℕ) (a b : Bool) → is_other joined g f ≡ b → or_else (when (a && b) (p f)) (bag h k f) ≡ or_else (when (a && b) (q f)) (bag h k f)
    by h k f true true e = rw (same f e) refl
    by h k f true false e = refl
    by h k f false b e = refl

receivers_agree : (joined : ℕ → Bool) (g : ℕ) (p q : ℕ → Option Content) → ((f : ℕ) → is_other joined g f ≡ true → p f ≡ q f) → ◌≡◌ {A = ℕ → Bool} (λ f. is_other joined g f && is_some (p f)) (λ f. is_other joined g f && is_some (q f))
receivers_agree joined g p q same = fun_ext (λ f. by f (is_other joined g f) refl)
  where
    by : (f : ℕ) (b : Bool) → is_other joined g f ≡ b → (b && is_some (p f)) ≡ (b && is_some (q f))
    by f true e = rw (same f e) refl
    by f false e = refl

module _ (c : Central) (g : ℕ) (stamp : Option ℕ) (out : Outgoing) (contents : List (Option Content)) where
  own : ((f : ℕ) → is_other c.directory.joined g f ≡ true → item_for contents f ≡ content_for c.directory out.body f) → (m : ℕ) → m ≡ c.serial g →
      (dl : Delivery) → dl ≡ sent_delivery (stamp_in_order (c.row g) out.order stamp) → (noted : Option ℕ) → noted ≡ noted_stamp (is_deletion out.body) (stamp_in_order (c.row g) out.order stamp) →
      record c {
        serial = upd c.serial g (c.serial g + 1);
        sent = upd2 c.sent g (c.serial g) (kept_event noted (λ f. is_other c.directory.joined g f && is_some (item_for contents f)));
        bag = with_copies c.directory.joined c.bag g m (copy_sent dl contents);
      } ≡ after_message c g stamp out
  own same m at dl is noted may = λ i. record c {
    serial = upd c.serial g (c.serial g + 1);
    sent = upd2 c.sent g (c.serial g) (event i);
    bag = bags i;
  }
    where
      event : kept_event noted (λ f. is_other c.directory.joined g f && is_some (item_for contents f)) ≡ sent_event c.directory (c.row g) g stamp out
      event = ap (λ (n : Option ℕ). kept_event n (λ f. is_other c.directory.joined g f && is_some (item_for contents f))) may
          ∙ kept_same (is_of_order Timestamp out.order) (is_enabled (c.row g).regulating) (is_deletion out.body) stamp _ _ (receivers_agree c.directory.joined g (item_for contents) (content_for c.directory out.body) same)

      copies : (f : ℕ) → is_other c.directory.joined g f ≡ true → copy_sent dl contents f ≡ copy_for c.directory (c.row g) stamp out f
      copies f other = ap (λ (dl : Delivery). copy_sent dl contents f) is
          ∙ option_map_same _ _ (given_same (is_of_order Timestamp out.order) (is_enabled (c.row g).regulating) stamp) (item_for contents f)
          ∙ ap (λ (x : Option Content). option_map (λ (x : Content). record { order = cond (is_ordered (c.row g) stamp out) Tso Ro; stamp = kept_stamp (c.row g) stamp out; content = x }) x) (same f other)

      bags : with_copies c.directory.joined c.bag g m (copy_sent dl contents) ≡ with_copies c.directory.joined c.bag g (c.serial g) (copy_for c.directory (c.row g) stamp out)
      bags = ap (λ m. with_copies c.directory.joined c.bag g m (copy_sent dl contents)) at
          ∙ copies_agree c.directory.joined c.bag g (c.serial g) (copy_sent dl contents) (copy_for c.directory (c.row g) stamp out) copies

  pub sent_so : (order : Order) (deletes : Bool) → IsCutTo c g out order deletes contents → (m : ℕ) → m ≡ c.serial g → (shown : List (Option Content)) → shown ≡ contents →
      (dl : Delivery) → dl ≡ sent_delivery (stamp_in_order (c.row g) order stamp) → (noted : Option ℕ) → noted ≡ noted_stamp deletes (stamp_in_order (c.row g) order stamp) →
      record c {
        serial = upd c.serial g (c.serial g + 1);
        sent = upd2 c.sent g (c.serial g) (kept_event noted (λ f. is_other c.directory.joined g f && is_some (item_for shown f)));
        bag = with_copies c.directory.joined c.bag g m (copy_sent dl contents);
      } ≡ after_message c g stamp out
  sent_so order deletes cut m at shown same dl is noted may = ap (λ (xs : List (Option Content)). record c {
    serial = upd c.serial g (c.serial g + 1);
    sent = upd2 c.sent g (c.serial g) (kept_event noted (λ f. is_other c.directory.joined g f && is_some (item_for xs f)));
    bag = with_copies c.directory.joined c.bag g m (copy_sent dl contents);
  }) same ∙ own cut.same_contents m at
      dl (is ∙ ap (λ (o : Order). sent_delivery (stamp_in_order (c.row g) o stamp)) (sym cut.same_order))
      noted (may ∙ (λ i. noted_stamp (sym cut.same_deletion i) (stamp_in_order (c.row g) (sym cut.same_order i) stamp)))

pub noted_none : (deletes : Bool) (stamp noted : Option ℕ) → deletes ≡ true → noted ≡ None → noted ≡ noted_stamp deletes stamp
noted_none deletes stamp noted e none = none ∙ rw e refl

pub noted_some : (deletes : Bool) (stamp noted : Option ℕ) → deletes ≡ false → noted ≡ stamp → noted ≡ noted_stamp deletes stamp
noted_some deletes stamp noted e same = same ∙ rw e refl

-- the machine's state after the serial was taken, and then after the copies were put
pub copies_unused : (old new : List Account) (g m : ℕ) (t : ℕ → ℕ) (e : ℕ → ℕ → SentEvent) → ((d : Directory) → central_with d new ≡ record (central_with d old) { serial = t; sent = e }) →
    ((f : ℕ) → copies_in old g m f ≡ None) → (f : ℕ) → copies_in new g m f ≡ None
copies_unused old new g m t e is none f = ap (λ (c : Central). c.bag g m f) (is (new_directory empty_catalogue)) ∙ none f

pub serial_used : (old new : List Account) (g m : ℕ) (e : ℕ → ℕ → SentEvent) → ((d : Directory) → central_with d new ≡ record (central_with d old) { serial = upd (central_with d old).serial g ((central_with d old).serial g + 1); sent = e }) →
    m ≡ (account_at old g).next_serial → m < (account_at new g).next_serial
serial_used old new g m e is at =
    let taken : (account_at new g).next_serial ≡ (account_at old g).next_serial + 1 = ap (λ (c : Central). c.serial g) (is (new_directory empty_catalogue)) ∙ upd_same _ g _ in
    omega (arith, taken, at)

-- a message goes to those that are joined, are not the sender, and have a content
abbrev pub receives : List Account → ℕ → List (Option Content) → ℕ → Bool
receives accounts g contents = λ f. is_other (joined_in accounts) g f && is_some (item_for contents f)

pub receives_none : (accounts : List Account) (g : ℕ) (contents : List (Option Content)) → receives accounts g contents 0 ≡ false
receives_none accounts g contents = and_false (is_other (joined_in accounts) g 0)

pub receives_within : (accounts : List Account) (g : ℕ) (contents : List (Option Content)) (f : ℕ) → receives accounts g contents f ≡ true → f < length accounts + 1
receives_within accounts g contents f is =
    let p = and_parts _ _ is in let q = and_parts _ _ p.0 in let l = joined_within accounts f q.1 in omega (arith, l)
