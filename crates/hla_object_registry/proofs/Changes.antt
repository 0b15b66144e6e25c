-- The tables that a registry's list stands for, after a change of the list
use Rattle.std.proofs.Common.{◌≡◌, ◌≢◌, ℕ, zero, suc, ◌+◌, ◌-◌, ◌<◌, ◌≤◌, List, [], ◌∷◌, ◌++◌, length, set, Bool, true, false, Option, not, eqb, ◌&&◌, refl, sym, ap, subst, ◌∙◌, arith, length-set, ⊎_elim}
use Rattle.std.proofs.Math.Path.{fun_ext}
use Rattle.std.proofs.lemmas.Bool.{cases_eq, cases_lt}
use Rattle.std.proofs.lemmas.List.{length-append}
use Rattle.hla_base.specs.Tables.{upd, upd2}
use Rattle.hla_catalogue.specs.declared.declared.Order.{Order}
use Rattle.hla_orders.specs.Orders.{order_at}
use Rattle.hla_machine.specs.Directory.{Object}
use Rattle.hla_machine.specs.Registered.{Registered, RegistryValue, unregistered_object, item_at, is_in, registry_of}
use Rattle.hla_object_registry.specs.Queries.{without_owned}
use Rattle.hla_object_registry.proofs.Items.{upd_same, upd_other, upd2_row, upd2_other, by_number, item-set, item-append, item-none, is_in-nothing}

registry_ext : {n n' : ℕ} {object object' : ℕ → Object} {known known' : ℕ → ℕ → Bool} {orders orders' : ℕ → ℕ → Option Order}
    → n ≡ n' → ((h : ℕ) → object h ≡ object' h) → ((h f : ℕ) → known h f ≡ known' h f) → ((h a : ℕ) → orders h a ≡ orders' h a)
    → ◌≡◌ {A = RegistryValue} (record { next_object = n; object = object; known = known; orders = orders }) (record { next_object = n'; object = object'; known = known'; orders = orders' })
registry_ext n object known orders = λ i. record { next_object = n i; object = fun_ext object i; known = fun_ext (λ h. fun_ext (known h)) i; orders = fun_ext (λ h. fun_ext (orders h)) i }

-- a field of the items
upd-field : {X Y : Type 0} (p : X → Y) (t : ℕ → X) (f : ℕ) (x : X) (g : ℕ) → p (upd t f x g) ≡ upd (λ h. p (t h)) f (p x) g
upd-field p t f x = by_number f (λ g. p (upd t f x g) ≡ upd (λ h. p (t h)) f (p x) g)
    (ap p (upd_same t f x) ∙ sym (upd_same (λ h. p (t h)) f (p x)))
    (λ g ne. ap p (upd_other t f x g ne) ∙ sym (upd_other (λ h. p (t h)) f (p x) g ne))

-- a table that is written what it has
upd-self : {X : Type 0} (t : ℕ → X) (f : ℕ) (x : X) → x ≡ t f → (g : ℕ) → upd t f x g ≡ t g
upd-self t f x same = by_number f (λ g. upd t f x g ≡ t g) (upd_same t f x ∙ same) (λ g ne. upd_other t f x g ne)

-- the row of a table of pairs
upd-row : {X : Type 0} (t : ℕ → ℕ → X) (i j : ℕ) (x : X) (row : ℕ → X) → row ≡ upd (t i) j x → (k l : ℕ) → upd t i row k l ≡ upd2 t i j x k l
upd-row t i j x row same k l = by_number i (λ k. upd t i row k l ≡ upd2 t i j x k l)
    (ap (λ r. r l) (upd_same t i row ∙ same) ∙ sym (upd2_row t i j x l))
    (λ g ne. ap (λ r. r l) (upd_other t i row g ne) ∙ sym (upd2_other t i j x g l ne))
    k

module _ (rs : List Registered) where
  items : ℕ → Registered
  items = item_at unregistered_object rs

  -- one more object, known to its owner
  pub one_more : (x : Registered) (owner : ℕ) → is_in x.known ≡ upd (λ _. false) owner true → x.orders ≡ []
      → registry_of (rs ++ x ∷ []) ≡ record (registry_of rs) { next_object = length rs + 1 + 1; object = upd (registry_of rs).object (length rs + 1) x.object; known = upd2 (registry_of rs).known (length rs + 1) owner true }
  one_more x owner known orders =
      let n = length rs + 1 in
      let unknown : (registry_of rs).known n ≡ (λ _. false) = fun_ext (λ f. ap (λ (r : Registered). is_in r.known f) (item-none unregistered_object rs n (omega arith)) ∙ is_in-nothing f) in
      registry_ext
      (omega (arith, length-append rs (x ∷ [])))
      (λ h. ap (λ (r : Registered). r.object) (item-append unregistered_object rs x h) ∙ upd-field (λ (r : Registered). r.object) (item_at unregistered_object rs) n x h)
      (λ h f. ap (λ (r : Registered). is_in r.known f) (item-append unregistered_object rs x h)
      ∙ ap (λ k. k f) (upd-field (λ (r : Registered). is_in r.known) (item_at unregistered_object rs) n x h)
      ∙ upd-row (registry_of rs).known n owner true (is_in x.known) (known ∙ ap (λ t. upd t owner true) (sym unknown)) h f)
      (λ h a. ap (λ (r : Registered). order_at r.orders a) (item-append unregistered_object rs x h)
      ∙ ap (λ k. k a) (upd-field (λ (r : Registered). order_at r.orders) (item_at unregistered_object rs) n x h)
      ∙ ap (λ t. t a) (upd-self (registry_of rs).orders n (order_at x.orders) (ap order_at orders ∙ sym (ap (λ (r : Registered). order_at r.orders) (item-none unregistered_object rs n (omega arith)))) h))

  module _ (h : ℕ) (some : 0 < h) (within : h ≤ length rs) where
    -- one object changes
    pub one_known : (flags : List Bool) (f : ℕ) → is_in flags ≡ upd (is_in (item_at unregistered_object rs h).known) f true
        → registry_of (set rs (h - 1) (record (item_at unregistered_object rs h) { known = flags })) ≡ record (registry_of rs) { known = upd2 (registry_of rs).known h f true }
    one_known flags f same =
        let x : Registered = record (item_at unregistered_object rs h) { known = flags } in
        registry_ext
        (ap (λ n. n + 1) (length-set rs (h - 1) x))
        (λ g. ap (λ (r : Registered). r.object) (item-set unregistered_object rs h x some within g) ∙ upd-field (λ (r : Registered). r.object) (item_at unregistered_object rs) h x g ∙ upd-self (registry_of rs).object h _ refl g)
        (λ g k. ap (λ (r : Registered). is_in r.known k) (item-set unregistered_object rs h x some within g)
        ∙ ap (λ t. t k) (upd-field (λ (r : Registered). is_in r.known) (item_at unregistered_object rs) h x g)
        ∙ upd-row (registry_of rs).known h f true (is_in flags) same g k)
        (λ g a. ap (λ (r : Registered). order_at r.orders a) (item-set unregistered_object rs h x some within g)
        ∙ ap (λ t. t a) (upd-field (λ (r : Registered). order_at r.orders) (item_at unregistered_object rs) h x g)
        ∙ ap (λ t. t a) (upd-self (registry_of rs).orders h _ refl g))

    pub one_changed : (object : Object)
        → registry_of (set rs (h - 1) (record (item_at unregistered_object rs h) { object = object })) ≡ record (registry_of rs) { object = upd (registry_of rs).object h object }
    one_changed object =
        let x : Registered = record (item_at unregistered_object rs h) { object = object } in
        registry_ext
        (ap (λ n. n + 1) (length-set rs (h - 1) x))
        (λ g. ap (λ (r : Registered). r.object) (item-set unregistered_object rs h x some within g) ∙ upd-field (λ (r : Registered). r.object) (item_at unregistered_object rs) h x g)
        (λ g k. ap (λ (r : Registered). is_in r.known k) (item-set unregistered_object rs h x some within g)
        ∙ ap (λ t. t k) (upd-field (λ (r : Registered). is_in r.known) (item_at unregistered_object rs) h x g)
        ∙ ap (λ t. t k) (upd-self (registry_of rs).known h _ refl g))
        (λ g a. ap (λ (r : Registered). order_at r.orders a) (item-set unregistered_object rs h x some within g)
        ∙ ap (λ t. t a) (upd-field (λ (r : Registered). order_at r.orders) (item_at unregistered_object rs) h x g)
        ∙ ap (λ t. t a) (upd-self (registry_of rs).orders h _ refl g))

    pub one_reordered : (orders : List (Option Order)) (given : ℕ → Option Order) → order_at orders ≡ given
        → registry_of (set rs (h - 1) (record (item_at unregistered_object rs h) { orders = orders })) ≡ record (registry_of rs) { orders = upd (registry_of rs).orders h given }
    one_reordered orders given same =
        let x : Registered = record (item_at unregistered_object rs h) { orders = orders } in
        registry_ext
        (ap (λ n. n + 1) (length-set rs (h - 1) x))
        (λ g. ap (λ (r : Registered). r.object) (item-set unregistered_object rs h x some within g) ∙ upd-field (λ (r : Registered). r.object) (item_at unregistered_object rs) h x g ∙ upd-self (registry_of rs).object h _ refl g)
        (λ g k. ap (λ (r : Registered). is_in r.known k) (item-set unregistered_object rs h x some within g)
        ∙ ap (λ t. t k) (upd-field (λ (r : Registered). is_in r.known) (item_at unregistered_object rs) h x g)
        ∙ ap (λ t. t k) (upd-self (registry_of rs).known h _ refl g))
        (λ g a. ap (λ (r : Registered). order_at r.orders a) (item-set unregistered_object rs h x some within g)
        ∙ ap (λ t. t a) (upd-field (λ (r : Registered). order_at r.orders) (item_at unregistered_object rs) h x g)
        ∙ ap (λ (o : ℕ → Option Order). upd (registry_of rs).orders h o g a) same)

-- the object, deleted if it is the federate's
abbrev pub object_after_withdrawal : ℕ → Registered → Registered
object_after_withdrawal f x = record x { object = record x.object { exists = x.object.exists && not (eqb x.object.owner f) } }

-- the first n objects are as they were, and deleted if they are the federate's; the others are as they were
pub record IsWithdrawn (f n : ℕ) (old new : List Registered) : Type 0 where
  pub length_same : length new ≡ length old
  pub before : (k : ℕ) → k < n → item_at unregistered_object new (suc k) ≡ object_after_withdrawal f (item_at unregistered_object old (suc k))
  pub after : (k : ℕ) → n ≤ k → item_at unregistered_object new (suc k) ≡ item_at unregistered_object old (suc k)

pub none_withdrawn : (f : ℕ) (rs : List Registered) → IsWithdrawn f 0 rs rs
none_withdrawn f rs = record { length_same = refl; before = λ k below. absurd (omega arith); after = λ k _. refl }

pub one_withdrawn : (f n : ℕ) (old new : List Registered) → IsWithdrawn f n old new → n < length new → IsWithdrawn f (n + 1) old (set new n (object_after_withdrawal f (item_at unregistered_object new (suc n))))
one_withdrawn f n old new h within =
    let x = object_after_withdrawal f (item_at unregistered_object new (suc n)) in
    let same : length new ≡ length old = h.length_same in
    let back : suc n - 1 ≡ n = omega arith in
    let written = λ (g : ℕ). ap (λ m. item_at unregistered_object (set new m x) g) (sym back) ∙ item-set unregistered_object new (suc n) x (omega arith) (omega arith) g in
    record {
      length_same = length-set new n x ∙ same;
      before = λ k below. ⊎_elim
          (λ (e : k ≡ n). subst (λ m. item_at unregistered_object (set new n x) (suc m) ≡ object_after_withdrawal f (item_at unregistered_object old (suc m))) (sym e)
          (written (suc n) ∙ upd_same (item_at unregistered_object new) (suc n) x ∙ ap (object_after_withdrawal f) (h.after n (omega arith))))
          (λ (ne : k ≢ n). written (suc k) ∙ upd_other (item_at unregistered_object new) (suc n) x (suc k) (λ e. ne (omega arith)) ∙ h.before k (omega arith))
          (cases_eq k n);
      after = λ k above. written (suc k) ∙ upd_other (item_at unregistered_object new) (suc n) x (suc k) (λ e. absurd (omega arith)) ∙ h.after k (omega arith);
    }

pub all_withdrawn : (f n : ℕ) (old new : List Registered) → IsWithdrawn f n old new → length old ≤ n → registry_of new ≡ without_owned (registry_of old) f
all_withdrawn f n old new h all = registry_ext
    (ap (λ m. m + 1) h.length_same)
    (λ g. ap (λ (r : Registered). r.object) (each g))
    (λ g k. ap (λ (r : Registered). is_in r.known k) (each g))
    (λ g a. ap (λ (r : Registered). order_at r.orders a) (each g))
  where
    each : (g : ℕ) → item_at unregistered_object new g ≡ object_after_withdrawal f (item_at unregistered_object old g)
    each zero = refl
    each (suc k) = ⊎_elim
        (λ (below : k < n). h.before k below)
        (λ (above : n ≤ k).
        let same : length new ≡ length old = h.length_same in
        item-none unregistered_object new (suc k) (omega arith) ∙ ap (object_after_withdrawal f) (sym (item-none unregistered_object old (suc k) (omega arith))))
        (cases_lt k n)
