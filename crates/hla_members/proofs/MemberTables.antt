-- The tables that a list of members stands for, after a change of the list
use Rattle.std.proofs.Common.{◌≡◌, ◌≢◌, ℕ, zero, suc, ◌+◌, ◌-◌, ◌<◌, ◌≤◌, List, [], ◌∷◌, ◌++◌, length, get_or, set, cond, eqb, ltb, ◌&&◌, Bool, true, false, Some, refl, sym, ap, ◌∙◌, arith, length-set, length-append, get_or-set_same, get_or-set_other, ⊎_elim}
use Rattle.std.proofs.lemmas.Bool.{cases_Bool, cases_eq}
use Rattle.std.proofs.lemmas.Bool.Decides.{nat_tests}
use Rattle.std.proofs.lemmas.List.{get_or_default, get_or_past}
use Rattle.std.proofs.Math.Path.{fun_ext}
use Rattle.hla_base.specs.Tables.{upd, upd2, upd_whole_column}
use Rattle.hla_base.proofs.Tables.{upd_same}
use Rattle.hla_null_message.specs.declared.message.Message.{Message}
use Rattle.hla_retraction.specs.SentEvents.{SentEvent, no_event}
use Rattle.hla_retraction.specs.SentRows.{sent_of}
use Rattle.hla_retraction.specs.declared.sent.SentRow.{SentRow}
use Rattle.hla_members.specs.declared.note.Note.{Note}
use Rattle.hla_members.specs.Noting.{noted_event, with_noted}
use Rattle.hla_component_rules.specs.LocalValue.{LocalValue, new_local, resigned_local}
use Rattle.hla_execution.specs.MemberValue.{item, MemberValue, no_member, MemberTables, members_of}
use Rattle.hla_members.specs.Members.{new_member, resigned_member, AreQuiet, with_member_admitted, with_member_withdrawn, with_component}

-- a list with another item is a table with another item
pub item-set : {X : Type 0} (d : X) (xs : List X) (f : ℕ) (x : X) → 0 < f → f ≤ length xs → item d (set xs (f - 1) x) ≡ upd (item d xs) f x
unfolding upd
item-set d xs zero x some within = absurd (omega arith)
item-set d xs (suc k) x some within = let at : suc k - 1 ≡ k = omega arith in rw at (fun_ext (λ g. each g))
  where
    each : (g : ℕ) → item d (set xs k x) g ≡ cond (eqb (suc k) g) x (item d xs g)
    each zero = let n : eqb (suc k) 0 ≡ false = grind (arith, nat_tests) in rw n refl
    each (suc j) = ⊎_elim
        (λ (e : k ≡ j). let y : eqb (suc k) (suc j) ≡ true = grind (arith, nat_tests) in rw (y, ← e) (get_or-set_same xs k x d (omega (arith, within))))
        (λ (ne : k ≢ j). let n : eqb (suc k) (suc j) ≡ false = grind (arith, nat_tests) in let back : j ≢ k = λ e. ne (sym e) in rw n (get_or-set_other xs k j x d back))
        (cases_eq k j)

-- a list with one more item
get_or-push : {X : Type 0} (xs : List X) (x d : X) (k : ℕ) → get_or (xs ++ x ∷ []) k d ≡ cond (eqb (length xs) k) x (get_or xs k d)
get_or-push [] x d zero = refl
get_or-push [] x d (suc k) = let n : eqb 0 (suc k) ≡ false = grind (arith, nat_tests) in rw n refl
get_or-push (y ∷ ys) x d zero = let n : eqb (suc (length ys)) 0 ≡ false = grind (arith, nat_tests) in rw n refl
get_or-push (y ∷ ys) x d (suc k) = get_or-push ys x d k ∙ (let e : eqb (suc (length ys)) (suc k) ≡ eqb (length ys) k = grind (arith, nat_tests) in rw e refl)

pub item-push : {X : Type 0} (d : X) (xs : List X) (x : X) → item d (xs ++ x ∷ []) ≡ upd (item d xs) (length xs + 1) x
unfolding upd
item-push d xs x = fun_ext (λ g. each g)
  where
    each : (g : ℕ) → item d (xs ++ x ∷ []) g ≡ cond (eqb (length xs + 1) g) x (item d xs g)
    each zero = let n : eqb (length xs + 1) 0 ≡ false = grind (arith, nat_tests) in rw n refl
    each (suc k) = get_or-push xs x d k ∙ (let e : eqb (length xs + 1) (suc k) ≡ eqb (length xs) k = grind (arith, nat_tests) in rw e refl)

-- an item outside the list
pub item-past : {X : Type 0} (d : X) (xs : List X) → item d xs (length xs + 1) ≡ d
item-past d xs = let e : length xs + 1 ≡ suc (length xs) = omega arith in rw e (get_or_past xs (length xs) d (omega arith))

-- a field of the items of a table with another item
pub upd-field : {X Y : Type 0} (p : X → Y) (t : ℕ → X) (f : ℕ) (x : X) → (λ g. p (upd t f x g)) ≡ upd (λ g. p (t g)) f (p x)
unfolding upd
upd-field p t f x = fun_ext (λ g. ⊎_elim (λ (y : eqb f g ≡ true). rw y refl) (λ (n : eqb f g ≡ false). rw n refl) (cases_Bool (eqb f g)))

-- a table that is written what it has
pub upd-self : {X : Type 0} (t : ℕ → X) (f : ℕ) (x : X) → x ≡ t f → upd t f x ≡ t
unfolding upd
upd-self t f x same = fun_ext (λ g. ⊎_elim
    (λ (y : eqb f g ≡ true). let e : f ≡ g = grind (arith, nat_tests) in rw y (same ∙ ap t e))
    (λ (n : eqb f g ≡ false). rw n refl)
    (cases_Bool (eqb f g)))

-- what a read of the list gives is the item with the number
pub item_read : {X : Type 0} (d : X) (xs : List X) (f : ℕ) (y : X) → 0 < f → f ≤ length xs → y ≡ get_or xs (f - 1) y → y ≡ item d xs f
item_read d xs zero y some within e = absurd (omega (arith, some))
item_read d xs (suc k) y some within e =
    let at : suc k - 1 ≡ k = omega arith in
    let read = rw at at e in read ∙ get_or_default xs k y d (omega (arith, within))

-- ---- one member changes
module _ (members : List MemberValue) (f : ℕ) (x : MemberValue) (some : 0 < f) (within : f ≤ length members) where
  field : {Y : Type 0} (p : MemberValue → Y) → (λ g. p (item no_member (set members (f - 1) x) g)) ≡ upd (λ g. p (item no_member members g)) f (p x)
  field p = (λ i. λ g. p (item-set no_member members f x some within i g)) ∙ upd-field p (item no_member members) f x

  pub changed : members_of (set members (f - 1) x) ≡ record {
    next_federate = length members + 1;
    joined = upd (members_of members).joined f x.joined;
    name = upd (members_of members).name f x.name;
    serial = upd (members_of members).serial f x.next_serial;
    local = upd (members_of members).local f x.local;
    wire = λ g. upd ((members_of members).wire g) f (item [] x.incoming g);
    sent = upd (members_of members).sent f (sent_of x.sent);
  }
  changed = λ i. record {
    next_federate = length-set members (f - 1) x i + 1;
    joined = field (λ m. m.joined) i;
    name = field (λ m. m.name) i;
    serial = field (λ m. m.next_serial) i;
    local = field (λ m. m.local) i;
    wire = λ g. field (λ m. item [] m.incoming g) i;
    sent = field (λ m. sent_of m.sent) i;
  }

  pub set_local : (members_of (set members (f - 1) x)).local f ≡ x.local
  set_local = ap (λ (t : MemberTables). t.local f) changed ∙ upd_same (members_of members).local f x.local

-- one wire of a table of wires
pub upd-wire : {X : Type 0} (t : ℕ → ℕ → X) (g f : ℕ) (x : X) → (λ h. upd (t h) f (upd (λ k. t k f) g x h)) ≡ upd2 t g f x
unfolding upd upd2
upd-wire t g f x = fun_ext (λ h. fun_ext (λ k. at h k))
  where
    at : (h k : ℕ) → cond (eqb f k) (cond (eqb g h) x (t h f)) (t h k) ≡ cond (eqb g h && eqb f k) x (t h k)
    at h k = ⊎_elim
        (λ (y : eqb f k ≡ true). let e : f ≡ k = grind (arith, nat_tests) in ⊎_elim
        (λ (z : eqb g h ≡ true). rw (y, z) refl)
        (λ (z : eqb g h ≡ false). rw (y, z) (ap (t h) e))
        (cases_Bool (eqb g h)))
        (λ (n : eqb f k ≡ false). ⊎_elim
        (λ (z : eqb g h ≡ true). rw (n, z) refl)
        (λ (z : eqb g h ≡ false). rw (n, z) refl)
        (cases_Bool (eqb g h)))
        (cases_Bool (eqb f k))

-- one entry of one table
upd-entry : {X : Type 0} (t : ℕ → ℕ → X) (f k : ℕ) (x : X) → upd t f (upd (t f) k x) ≡ upd2 t f k x
unfolding upd upd2
upd-entry t f k x = fun_ext (λ g. fun_ext (λ j. at g j))
  where
    at : (g j : ℕ) → cond (eqb f g) (λ l. cond (eqb k l) x (t f l)) (t g) j ≡ cond (eqb f g && eqb k j) x (t g j)
    at g j = ⊎_elim
        (λ (y : eqb f g ≡ true). let e : f ≡ g = grind (arith, nat_tests) in ⊎_elim
        (λ (z : eqb k j ≡ true). rw (y, z) refl)
        (λ (z : eqb k j ≡ false). rw (y, z) (ap (λ (h : ℕ). t h j) e))
        (cases_Bool (eqb k j)))
        (λ (n : eqb f g ≡ false). rw n refl)
        (cases_Bool (eqb f g))

pub upd-clear : {X : Type 0} (t : ℕ → ℕ → X) (f : ℕ) (x : X) → (λ h. upd (t h) f x) ≡ upd_whole_column t f x
unfolding upd upd_whole_column
upd-clear t f x = refl

module _ (members : List MemberValue) (f : ℕ) (some : 0 < f) (within : f ≤ length members) where
  abbrev m : MemberValue
  m = item no_member members f

  abbrev t : MemberTables
  t = members_of members

  keep : {Y : Type 0} (p : MemberValue → Y) → upd (λ g. p (item no_member members g)) f (p m) ≡ (λ g. p (item no_member members g))
  keep p = upd-self (λ g. p (item no_member members g)) f (p m) refl

  keep_wire : (λ g. upd (t.wire g) f (item [] m.incoming g)) ≡ t.wire
  keep_wire = fun_ext (λ g. upd-self (t.wire g) f (item [] m.incoming g) refl)

  pub counted : (n : ℕ) → members_of (set members (f - 1) (record m { next_serial = n })) ≡ record t { serial = upd t.serial f n }
  counted n = changed members f (record m { next_serial = n }) some within ∙ (λ i. record {
    next_federate = t.next_federate;
    joined = keep (λ x. x.joined) i;
    name = keep (λ x. x.name) i;
    serial = upd t.serial f n;
    local = keep (λ x. x.local) i;
    wire = keep_wire i;
    sent = keep (λ x. sent_of x.sent) i;
  })

  pub picked_up : (l : LocalValue) → members_of (set members (f - 1) (record m { local = l })) ≡ with_component t f l
  picked_up l = changed members f (record m { local = l }) some within ∙ (λ i. record {
    next_federate = t.next_federate;
    joined = keep (λ x. x.joined) i;
    name = keep (λ x. x.name) i;
    serial = keep (λ x. x.next_serial) i;
    local = upd t.local f l;
    wire = keep_wire i;
    sent = keep (λ x. sent_of x.sent) i;
  })

  pub written : (k : ℕ) (e : SentEvent) (sent : List SentRow) → sent_of sent ≡ upd (sent_of m.sent) k e
      → members_of (set members (f - 1) (record m { sent = sent })) ≡ record t { sent = upd2 t.sent f k e }
  written k e sent is = changed members f (record m { sent = sent }) some within ∙ (λ i. record {
    next_federate = t.next_federate;
    joined = keep (λ x. x.joined) i;
    name = keep (λ x. x.name) i;
    serial = keep (λ x. x.next_serial) i;
    local = keep (λ x. x.local) i;
    wire = keep_wire i;
    sent = ((λ j. upd t.sent f (is j)) ∙ upd-entry t.sent f k e) i;
  })

  pub noted : (note : Note) (sent : List SentRow) → sent_of sent ≡ upd (sent_of m.sent) note.serial (noted_event note)
      → members_of (set members (f - 1) (record m { sent = sent })) ≡ record t { sent = with_noted t.sent f (Some note) }
  noted note sent is = written note.serial (noted_event note) sent is

  wires_after : (g : ℕ) (incoming : List (List Message)) (ms : List Message) → item [] incoming ≡ upd (item [] m.incoming) g ms
      → (λ h. upd (t.wire h) f (item [] incoming h)) ≡ upd2 t.wire g f ms
  wires_after g incoming ms is = (λ i. λ h. upd (t.wire h) f (is i h)) ∙ upd-wire t.wire g f ms

  pub put : (g : ℕ) (incoming : List (List Message)) (ms : List Message) → item [] incoming ≡ upd (item [] m.incoming) g ms
      → members_of (set members (f - 1) (record m { incoming = incoming })) ≡ record t { wire = upd2 t.wire g f ms }
  put g incoming ms is = changed members f (record m { incoming = incoming }) some within ∙ (λ i. record {
    next_federate = t.next_federate;
    joined = keep (λ x. x.joined) i;
    name = keep (λ x. x.name) i;
    serial = keep (λ x. x.next_serial) i;
    local = keep (λ x. x.local) i;
    wire = wires_after g incoming ms is i;
    sent = keep (λ x. sent_of x.sent) i;
  })

  pub arrived : (g : ℕ) (l : LocalValue) (incoming : List (List Message)) (ms : List Message) → item [] incoming ≡ upd (item [] m.incoming) g ms
      → members_of (set members (f - 1) (record m { local = l; incoming = incoming })) ≡ record t { local = upd t.local f l; wire = upd2 t.wire g f ms }
  arrived g l incoming ms is = changed members f (record m { local = l; incoming = incoming }) some within ∙ (λ i. record {
    next_federate = t.next_federate;
    joined = keep (λ x. x.joined) i;
    name = keep (λ x. x.name) i;
    serial = keep (λ x. x.next_serial) i;
    local = upd t.local f l;
    wire = wires_after g incoming ms is i;
    sent = keep (λ x. sent_of x.sent) i;
  })

  pub left_all : (incoming : List (List Message)) → AreQuiet incoming
      → members_of (set members (f - 1) (resigned_member m incoming)) ≡ with_member_withdrawn t f
  left_all incoming quiet = changed members f (resigned_member m incoming) some within ∙ (λ i. record {
    next_federate = t.next_federate;
    joined = upd t.joined f false;
    name = keep (λ x. x.name) i;
    serial = keep (λ x. x.next_serial) i;
    local = upd t.local f (resigned_local m.local);
    wire = ((λ j. λ h. upd (t.wire h) f (quiet h j)) ∙ upd-clear t.wire f []) i;
    sent = keep (λ x. sent_of x.sent) i;
  })

-- ---- one more member
module _ (members : List MemberValue) (name : List ℕ) (local : LocalValue) (sent : List SentRow) (incoming : List (List Message)) (unsent : sent_of sent ≡ (λ _. no_event)) (quiet : AreQuiet incoming) where
  abbrev n : ℕ
  n = length members + 1

  abbrev x : MemberValue
  x = record (new_member name [] incoming) { local = local; sent = sent }

  pushed : {Y : Type 0} (p : MemberValue → Y) → (λ g. p (item no_member (members ++ x ∷ []) g)) ≡ upd (λ g. p (item no_member members g)) n (p x)
  pushed p = (λ i. λ g. p (item-push no_member members x i g)) ∙ upd-field p (item no_member members) n x

  same : {Y : Type 0} (p : MemberValue → Y) → p x ≡ p no_member → ◌≡◌ {A = ℕ → Y} (λ g. p (item no_member (members ++ x ∷ []) g)) (λ g. p (item no_member members g))
  same p is = pushed p ∙ upd-self (λ g. p (item no_member members g)) n (p x) (is ∙ sym (ap p (item-past no_member members)))

  no_wires : (g : ℕ) → item {X = List Message} [] [] g ≡ []
  no_wires zero = refl
  no_wires (suc k) = refl

  nothing_sent : sent_of [] ≡ (λ _. no_event)
  unfolding sent_of
  nothing_sent = fun_ext (λ k. refl)

  pub joined : members_of (members ++ x ∷ []) ≡ with_member_admitted (members_of members) name local
  joined = λ i. record {
    next_federate = length-append members (x ∷ []) i + 1;
    joined = pushed (λ m. m.joined) i;
    name = pushed (λ m. m.name) i;
    serial = same (λ m. m.next_serial) refl i;
    local = pushed (λ m. m.local) i;
    wire = λ g. same (λ m. item [] m.incoming g) (quiet g ∙ sym (no_wires g)) i;
    sent = same (λ m. sent_of m.sent) (unsent ∙ sym nothing_sent) i;
  }

-- who has not joined yet
pub nobody_at : (members : List MemberValue) → (members_of members).local (members_of members).next_federate ≡ new_local []
nobody_at members = ap (λ (m : MemberValue). m.local) (item-past no_member members)

pub past : (members : List MemberValue) (g : ℕ) → length members + 1 ≤ g → item no_member members g ≡ no_member
past members zero beyond = absurd (omega (arith, beyond))
past members (suc k) beyond = get_or_past members k no_member (omega (arith, beyond))

-- ---- meeting one after another
pub met_more : {X : Type 0} (t b : ℕ → X) (d : X) (peer : ℕ) (x : X) → x ≡ t peer → ((g : ℕ) → b g ≡ cond (ltb g peer) (t g) d) → (g : ℕ) → upd b peer x g ≡ cond (ltb g (peer + 1)) (t g) d
unfolding upd
met_more t b d peer x is before g = ⊎_elim
    (λ (y : eqb peer g ≡ true). let e : peer ≡ g = grind (arith, nat_tests) in let now : ltb g (peer + 1) ≡ true = grind (arith, nat_tests) in rw (y, now) (is ∙ ap t e))
    (λ (n : eqb peer g ≡ false). let same : ltb g (peer + 1) ≡ ltb g peer = grind (arith, nat_tests) in rw (n, same) (before g))
    (cases_Bool (eqb peer g))

-- nobody has the number 0
pub met_none : {X : Type 0} (p : LocalValue → X) (members : List MemberValue) (g : ℕ) → cond (ltb g 1) (p ((members_of members).local g)) (p (new_local [])) ≡ p (new_local [])
met_none p members zero = refl
met_none p members (suc k) = let n : ltb (suc k) 1 ≡ false = grind (arith, nat_tests) in ap (λ (b : Bool). cond b (p ((members_of members).local (suc k))) (p (new_local []))) n

pub met_all : {X : Type 0} (p : LocalValue → X) (members : List MemberValue) (end g : ℕ) → length members + 1 ≤ end → cond (ltb g end) (p ((members_of members).local g)) (p (new_local [])) ≡ p ((members_of members).local g)
met_all p members end g all = ⊎_elim
    (λ (y : ltb g end ≡ true). rw y refl)
    (λ (n : ltb g end ≡ false). let beyond : length members + 1 ≤ g = grind (arith, nat_tests) in rw n (sym (ap (λ (m : MemberValue). p m.local) (past members g beyond))))
    (cases_Bool (ltb g end))
