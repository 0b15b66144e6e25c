-- The tables after a change of the lists that they are read from
use Rattle.std.proofs.Common.{◌≡◌, ◌≢◌, ℕ, ◌+◌, ◌-◌, ◌<◌, ◌≤◌, List, [], ◌∷◌, ◌++◌, length, get_or, set, eqb, cond, ◌&&◌, true, false, Bool, None, Some, Option, refl, sym, ap, ◌∙◌, subst, arith, ⊎_elim, length-set, length-append}
use Rattle.std.specs.Option.{option_map_or}
use Rattle.std.proofs.lemmas.Bool.{cases_eq}
use Rattle.std.proofs.lemmas.Bool.Decides.{nat_tests}
use Rattle.std.proofs.lemmas.List.Elements.{All-get_or}
use Rattle.std.proofs.Math.Path.{fun_ext}
use Rattle.hla_base.specs.Tables.{upd, upd2}
use Rattle.hla_declaration.specs.Entries.{entry_at}
use Rattle.hla_declaration.specs.Members.{IsMember, IsCleared, new_declarer}
use Rattle.hla_declaration.specs.Lists.{AreListsWhole}
use Rattle.hla_declaration.specs.Declarations.{DeclarationsValue, table, declarations_of}
use Rattle.hla_declaration.specs.declared.member.Declarer.{Declarer}
use Rattle.hla_declaration.proofs.EntryLemmas.{item_numbered_read, item_numbered-push, item_numbered-push_last, entry-set, entry-replicate, entry_absent}
use Rattle.hla_catalogue.specs.declared.declared.Order.{Order}
use Rattle.hla_catalogue.proofs.ItemLemmas.{item_numbered-set_same, item_numbered-set_other, item_numbered_past}

-- what holds at f, and at each other number, holds at each
by_number : (f : ℕ) (P : ℕ → Type 0) → P f → ((g : ℕ) → f ≢ g → P g) → (g : ℕ) → P g
by_number f P here there g = ⊎_elim (λ (e : f ≡ g). subst P e here) (λ (ne : f ≢ g). there g ne) (cases_eq f g)

-- ---- one table
module _ {X : Type 0} (absent : X) (row : Declarer → List X) (members : List Declarer) where
  module _ (f : ℕ) (m new : Declarer) (some : 0 < f) (within : f ≤ length members) (is : m ≡ get_or members (f - 1) m) where
    changed_here : (k : ℕ) → table absent row (set members (f - 1) new) f k ≡ entry_at absent (row new) k
    changed_here k = ap (λ o. option_map_or (λ m. entry_at absent (row m) k) o absent) (item_numbered-set_same members f new some within)

    changed_there : (g : ℕ) → f ≢ g → (k : ℕ) → table absent row (set members (f - 1) new) g k ≡ table absent row members g k
    changed_there g ne k = ap (λ o. option_map_or (λ m. entry_at absent (row m) k) o absent) (item_numbered-set_other members f g new some ne)

    before_here : (k : ℕ) → table absent row members f k ≡ entry_at absent (row m) k
    before_here k = ap (λ o. option_map_or (λ m. entry_at absent (row m) k) o absent) (item_numbered_read members f m some within is)

    -- a row that stays
    pub table_kept : row new ≡ row m → table absent row (set members (f - 1) new) ≡ table absent row members
    table_kept same = fun_ext (λ g. fun_ext (λ k. by_number f (λ g. table absent row (set members (f - 1) new) g k ≡ table absent row members g k)
        (changed_here k ∙ ap (λ xs. entry_at absent xs k) same ∙ sym (before_here k))
        (λ g ne. changed_there g ne k) g))

    -- a row that reads otherwise at one number
    pub table_written : (class : ℕ) (x : X) → ((k : ℕ) → entry_at absent (row new) k ≡ cond (eqb class k) x (entry_at absent (row m) k))
        → table absent row (set members (f - 1) new) ≡ upd2 (table absent row members) f class x
    unfolding upd2
    table_written class x written = fun_ext (λ g. fun_ext (λ k. by_number f (λ g. table absent row (set members (f - 1) new) g k ≡ cond (eqb f g && eqb class k) x (table absent row members g k))
        (let y : eqb f f ≡ true = grind (arith, nat_tests) in
        changed_here k ∙ written k ∙ rw y (ap (λ o. cond (eqb class k) x o) (sym (before_here k))))
        (λ g ne. let n : eqb f g ≡ false = grind (arith, nat_tests) in changed_there g ne k ∙ rw n refl) g))

    -- a row with another entry
    pub table_put : (class : ℕ) (x : X) → 0 < class → class ≤ length (row m) → row new ≡ set (row m) (class - 1) x
        → table absent row (set members (f - 1) new) ≡ upd2 (table absent row members) f class x
    table_put class x first last put = table_written class x (λ k. ap (λ xs. entry_at absent xs k) put ∙ entry-set absent (row m) class x first last k)

    -- a row with nothing
    pub table_cleared : ((class : ℕ) → entry_at absent (row new) class ≡ absent) → table absent row (set members (f - 1) new) ≡ upd (table absent row members) f (λ _. absent)
    unfolding upd
    table_cleared nothing = fun_ext (λ g. fun_ext (λ k. by_number f (λ g. table absent row (set members (f - 1) new) g k ≡ cond (eqb f g) (λ (_ : ℕ). absent) (table absent row members g) k)
        (let y : eqb f f ≡ true = grind (arith, nat_tests) in
        changed_here k ∙ nothing k ∙ sym (ap (λ (b : Bool). cond b (λ (_ : ℕ). absent) (table absent row members f) k) y))
        (λ g ne. let n : eqb f g ≡ false = grind (arith, nat_tests) in
        changed_there g ne k ∙ sym (ap (λ (b : Bool). cond b (λ (_ : ℕ). absent) (table absent row members g) k) n)) g))

  -- one more row, with nothing
  pub table_more : (new : Declarer) → ((class : ℕ) → entry_at absent (row new) class ≡ absent) → table absent row (members ++ new ∷ []) ≡ table absent row members
  table_more new nothing = fun_ext (λ g. fun_ext (λ k. by_number (length members + 1) (λ g. table absent row (members ++ new ∷ []) g k ≡ table absent row members g k)
      (ap (λ o. option_map_or (λ m. entry_at absent (row m) k) o absent) (item_numbered-push_last members new) ∙ nothing k
      ∙ sym (ap (λ o. option_map_or (λ m. entry_at absent (row m) k) o absent) (item_numbered_past members (length members + 1) (omega arith))))
      (λ g ne. ap (λ o. option_map_or (λ m. entry_at absent (row m) k) o absent) (item_numbered-push members new g (λ e. ne (sym e)))) g))

-- ---- all tables
abbrev tables_with : ℕ → ℕ → ℕ → (ℕ → ℕ → Option (List ℕ)) → (ℕ → ℕ → Option (List ℕ)) → (ℕ → ℕ → Bool) → (ℕ → ℕ → Bool) → (ℕ → ℕ → Option Order) → DeclarationsValue
tables_with n objects interactions published subscribed published_interaction subscribed_interaction orders = record {
  federates = n;
  object_classes = objects;
  interaction_classes = interactions;
  published = published;
  subscribed = subscribed;
  published_interaction = published_interaction;
  subscribed_interaction = subscribed_interaction;
  interaction_orders = orders;
}

same_tables : (objects interactions : ℕ) {n n' : ℕ} {p p' s s' : ℕ → ℕ → Option (List ℕ)} {pi pi' si si' : ℕ → ℕ → Bool} {o o' : ℕ → ℕ → Option Order}
    → n ≡ n' → p ≡ p' → s ≡ s' → pi ≡ pi' → si ≡ si' → o ≡ o' → tables_with n objects interactions p s pi si o ≡ tables_with n' objects interactions p' s' pi' si' o'
same_tables objects interactions a b c d e g = λ i. tables_with (a i) objects interactions (b i) (c i) (d i) (e i) (g i)

abbrev published_row : Declarer → List (Option (List ℕ))
published_row m = m.published

abbrev subscribed_row : Declarer → List (Option (List ℕ))
subscribed_row m = m.subscribed

abbrev published_flags : Declarer → List Bool
published_flags m = m.published_interactions

abbrev subscribed_flags : Declarer → List Bool
subscribed_flags m = m.subscribed_interactions

abbrev orders_row : Declarer → List (Option Order)
orders_row m = m.interaction_orders

-- the tables of lists with these counts
abbrev pub tables : ℕ → ℕ → List Declarer → DeclarationsValue
tables objects interactions members = declarations_of (record { object_classes = objects; interaction_classes = interactions; members = members })

module _ (objects interactions : ℕ) (members : List Declarer) (whole : AreListsWhole objects interactions members) where
  module _ (f : ℕ) (m : Declarer) (some : 0 < f) (within : f ≤ length members) (is : m ≡ get_or members (f - 1) m) where
    pub room : IsMember objects interactions m
    room = subst (IsMember objects interactions) (sym is) (All-get_or (IsMember objects interactions) members (f - 1) m (omega arith) whole.each)

    module _ (class : ℕ) (first : 0 < class) where
      pub published_put : (x : Option (List ℕ)) → class ≤ objects
          → tables objects interactions (set members (f - 1) (record m { published = set m.published (class - 1) x }))
          ≡ record (tables objects interactions members) { published = upd2 (table None published_row members) f class x }
      published_put x last =
          let new : Declarer = record m { published = set m.published (class - 1) x } in
          let fits : class ≤ length m.published = omega (arith, room.published) in
          same_tables objects interactions (length-set members (f - 1) new) (table_put None published_row members f m new some within is class x first fits refl)
          (table_kept None subscribed_row members f m new some within is refl) (table_kept false published_flags members f m new some within is refl)
          (table_kept false subscribed_flags members f m new some within is refl) (table_kept None orders_row members f m new some within is refl)

      pub subscribed_put : (x : Option (List ℕ)) → class ≤ objects
          → tables objects interactions (set members (f - 1) (record m { subscribed = set m.subscribed (class - 1) x }))
          ≡ record (tables objects interactions members) { subscribed = upd2 (table None subscribed_row members) f class x }
      subscribed_put x last =
          let new : Declarer = record m { subscribed = set m.subscribed (class - 1) x } in
          let fits : class ≤ length m.subscribed = omega (arith, room.subscribed) in
          same_tables objects interactions (length-set members (f - 1) new) (table_kept None published_row members f m new some within is refl)
          (table_put None subscribed_row members f m new some within is class x first fits refl) (table_kept false published_flags members f m new some within is refl)
          (table_kept false subscribed_flags members f m new some within is refl) (table_kept None orders_row members f m new some within is refl)

      pub published_interaction_put : (x : Bool) → class ≤ interactions
          → tables objects interactions (set members (f - 1) (record m { published_interactions = set m.published_interactions (class - 1) x }))
          ≡ record (tables objects interactions members) { published_interaction = upd2 (table false published_flags members) f class x }
      published_interaction_put x last =
          let new : Declarer = record m { published_interactions = set m.published_interactions (class - 1) x } in
          let fits : class ≤ length m.published_interactions = omega (arith, room.published_interactions) in
          same_tables objects interactions (length-set members (f - 1) new) (table_kept None published_row members f m new some within is refl)
          (table_kept None subscribed_row members f m new some within is refl) (table_put false published_flags members f m new some within is class x first fits refl)
          (table_kept false subscribed_flags members f m new some within is refl) (table_kept None orders_row members f m new some within is refl)

      pub subscribed_interaction_put : (x : Bool) → class ≤ interactions
          → tables objects interactions (set members (f - 1) (record m { subscribed_interactions = set m.subscribed_interactions (class - 1) x }))
          ≡ record (tables objects interactions members) { subscribed_interaction = upd2 (table false subscribed_flags members) f class x }
      subscribed_interaction_put x last =
          let new : Declarer = record m { subscribed_interactions = set m.subscribed_interactions (class - 1) x } in
          let fits : class ≤ length m.subscribed_interactions = omega (arith, room.subscribed_interactions) in
          same_tables objects interactions (length-set members (f - 1) new) (table_kept None published_row members f m new some within is refl)
          (table_kept None subscribed_row members f m new some within is refl) (table_kept false published_flags members f m new some within is refl)
          (table_put false subscribed_flags members f m new some within is class x first fits refl) (table_kept None orders_row members f m new some within is refl)

      pub orders_put : (orders : List (Option Order)) (order : Order) → entry_at None orders ≡ upd (entry_at None m.interaction_orders) class (Some order)
          → tables objects interactions (set members (f - 1) (record m { interaction_orders = orders }))
          ≡ record (tables objects interactions members) { interaction_orders = upd2 (table None orders_row members) f class (Some order) }
      unfolding upd
      orders_put orders order given =
          let new : Declarer = record m { interaction_orders = orders } in
          same_tables objects interactions (length-set members (f - 1) new) (table_kept None published_row members f m new some within is refl)
          (table_kept None subscribed_row members f m new some within is refl) (table_kept false published_flags members f m new some within is refl)
          (table_kept false subscribed_flags members f m new some within is refl) (table_written None orders_row members f m new some within is class (Some order) (λ k. ap (λ t. t k) given))

    -- a federate that declares nothing any more
    pub member_cleared : (new : Declarer) → IsCleared m new
        → tables objects interactions (set members (f - 1) new)
        ≡ record (tables objects interactions members) {
          published = upd (table None published_row members) f (λ _. None);
          subscribed = upd (table None subscribed_row members) f (λ _. None);
          published_interaction = upd (table false published_flags members) f (λ _. false);
          subscribed_interaction = upd (table false subscribed_flags members) f (λ _. false);
          interaction_orders = upd (table None orders_row members) f (λ _. None);
        }
    member_cleared new cleared = same_tables objects interactions (length-set members (f - 1) new)
        (table_cleared None published_row members f m new some within is cleared.published) (table_cleared None subscribed_row members f m new some within is cleared.subscribed)
        (table_cleared false published_flags members f m new some within is cleared.published_interactions)
        (table_cleared false subscribed_flags members f m new some within is cleared.subscribed_interactions)
        (table_cleared None orders_row members f m new some within is cleared.interaction_orders)

nothing_given : (n : ℕ) → entry_at {X = Option Order} None [] n ≡ None
nothing_given = entry_absent None [] (λ k within. absurd (omega arith))

-- one more federate, which declares nothing
pub member_more : (objects interactions : ℕ) (members : List Declarer)
    → tables objects interactions (members ++ new_declarer objects interactions ∷ []) ≡ record (tables objects interactions members) { federates = length members + 1 }
member_more objects interactions members =
    let new : Declarer = new_declarer objects interactions in
    same_tables objects interactions (length-append members (new ∷ []))
    (table_more None published_row members new (entry-replicate None objects)) (table_more None subscribed_row members new (entry-replicate None objects))
    (table_more false published_flags members new (entry-replicate false interactions)) (table_more false subscribed_flags members new (entry-replicate false interactions))
    (table_more None orders_row members new nothing_given)
