-- The lists and the sets are whole after each change
use Rattle.std.proofs.Common.{◌≡◌, ℕ, ◌+◌, ◌-◌, ◌<◌, ◌≤◌, ◌&&◌, List, [], ◌∷◌, ◌++◌, length, get_or, set, eqb, cond, true, false, Bool, None, Some, Option, is_some, refl, sym, ap, ◌∙◌, subst, arith, length-set, length-append}
use Rattle.std.proofs.lemmas.List.{length-replicate}
use Rattle.std.proofs.lemmas.List.Elements.{All-set, All-append, All-cons, All-nil}
use Rattle.hla_base.specs.Limits.{max_joins}
use Rattle.hla_base.specs.Tables.{upd, upd2}
use Rattle.hla_declaration.specs.Entries.{entry_at}
use Rattle.hla_declaration.specs.Members.{IsMember, IsCleared, new_declarer}
use Rattle.hla_declaration.specs.Lists.{AreListsWhole}
use Rattle.hla_declaration.specs.Declarations.{table}
use Rattle.hla_declaration.specs.Subscribers.{is_in_set_of, AreSetsWhole, AreDeclarationsWhole}
use Rattle.hla_declaration.specs.declared.member.Declarer.{Declarer}
use Rattle.hla_declaration.proofs.TableLemmas.{room, published_put, subscribed_put, published_interaction_put, subscribed_interaction_put, orders_put, member_cleared, member_more}
use Rattle.hla_declaration.proofs.SubscriberLemmas.{sets_put, sets_withdrawn, sets_same}
use Rattle.hla_catalogue.specs.declared.declared.Order.{Order}

-- whether a federate subscribes some attributes of an object class
abbrev object_table : List Declarer → ℕ → ℕ → Bool
object_table members f class = is_some (table None (λ (m : Declarer). m.subscribed) members f class)

-- whether a federate subscribes an interaction class
abbrev interaction_table : List Declarer → ℕ → ℕ → Bool
interaction_table members f class = table false (λ (m : Declarer). m.subscribed_interactions) members f class

-- what is there on condition is some on condition
some_cond : (b : Bool) (o p : Option (List ℕ)) → is_some (cond b o p) ≡ cond b (is_some o) (is_some p)
some_cond true o p = refl
some_cond false o p = refl

-- a row that is emptied on condition, at one entry
none_row : (b : Bool) (row : ℕ → Option (List ℕ)) (k : ℕ) → is_some (cond b (λ (_ : ℕ). None) row k) ≡ cond b false (is_some (row k))
none_row true row k = refl
none_row false row k = refl

-- likewise a row of flags
false_row : (b : Bool) (row : ℕ → Bool) (k : ℕ) → cond b (λ (_ : ℕ). false) row k ≡ cond b false (row k)
false_row true row k = refl
false_row false row k = refl

module _ (objects interactions : ℕ) (members : List Declarer) (object_sets interaction_sets : List ℕ) (whole : AreDeclarationsWhole objects interactions members object_sets interaction_sets) where
  -- there is more room in the sets
  pub whole_roomier : (o i : List ℕ) → ((class : ℕ) → entry_at 0 o class ≡ entry_at 0 object_sets class) → length object_sets ≤ length o
      → ((class : ℕ) → entry_at 0 i class ≡ entry_at 0 interaction_sets class) → length interaction_sets ≤ length i
      → AreDeclarationsWhole objects interactions members o i
  whole_roomier o i same_o more_o same_i more_i = record {
    lists = whole.lists;
    objects = sets_same objects (length members) object_sets o (object_table members) (object_table members) whole.objects (length members)
        (λ some. let before = whole.objects.room some in omega arith) same_o (λ f k. refl);
    interactions = sets_same interactions (length members) interaction_sets i (interaction_table members) (interaction_table members) whole.interactions (length members)
        (λ some. let before = whole.interactions.room some in omega arith) same_i (λ f k. refl);
  }

  -- one more federate, where there is room for each class
  pub whole_more : length members < max_joins → objects ≤ length object_sets → interactions ≤ length interaction_sets
      → AreDeclarationsWhole objects interactions (members ++ new_declarer objects interactions ∷ []) object_sets interaction_sets
  whole_more few room_o room_i =
      let new : Declarer = new_declarer objects interactions in
      let tables = member_more objects interactions members in
      let count : length (members ++ new ∷ []) ≡ length members + 1 = length-append members (new ∷ []) in
      let is_member : IsMember objects interactions new = record {
        published = length-replicate objects None;
        subscribed = length-replicate objects None;
        published_interactions = length-replicate interactions false;
        subscribed_interactions = length-replicate interactions false;
      } in
      record {
        lists = record {
          few_objects = whole.lists.few_objects;
          few_interactions = whole.lists.few_interactions;
          few = omega arith;
          each = All-append (IsMember objects interactions) members (new ∷ []) whole.lists.each
              (All-cons (IsMember objects interactions) new [] is_member (All-nil (IsMember objects interactions)));
        };
        objects = sets_same objects (length members) object_sets object_sets (object_table members) (object_table (members ++ new ∷ [])) whole.objects (length (members ++ new ∷ []))
            (λ some. room_o) (λ class. refl) (λ f k. ap (λ v. is_some (v.subscribed f k)) tables);
        interactions = sets_same interactions (length members) interaction_sets interaction_sets (interaction_table members) (interaction_table (members ++ new ∷ [])) whole.interactions
            (length (members ++ new ∷ [])) (λ some. room_i) (λ class. refl) (λ f k. ap (λ v. v.subscribed_interaction f k) tables);
      }

  -- one federate declares something else
  module _ (f : ℕ) (m : Declarer) (first_federate : 0 < f) (within : f ≤ length members) (is : m ≡ get_or members (f - 1) m) where
    -- the federate had room for each class
    before : IsMember objects interactions m
    before = room objects interactions members whole.lists f m first_federate within is

    module _ (new : Declarer) where
      -- there are as many federates as before
      count : length (set members (f - 1) new) ≡ length members
      count = length-set members (f - 1) new

      -- the lists are whole
      lists_put : IsMember objects interactions new → AreListsWhole objects interactions (set members (f - 1) new)
      lists_put is_member = record {
        few_objects = whole.lists.few_objects;
        few_interactions = whole.lists.few_interactions;
        few = rw count whole.lists.few;
        each = All-set (IsMember objects interactions) members (f - 1) new is_member whole.lists.each;
      }

      -- nobody subscribes other object classes
      objects_kept : ((g k : ℕ) → object_table (set members (f - 1) new) g k ≡ object_table members g k)
          → AreSetsWhole objects (length (set members (f - 1) new)) object_sets (object_table (set members (f - 1) new))
      objects_kept tables = sets_same objects (length members) object_sets object_sets (object_table members) (object_table (set members (f - 1) new)) whole.objects (length (set members (f - 1) new))
          (λ some. whole.objects.room (rw count at some)) (λ class. refl) tables

      -- nobody subscribes other interaction classes
      interactions_kept : ((g k : ℕ) → interaction_table (set members (f - 1) new) g k ≡ interaction_table members g k)
          → AreSetsWhole interactions (length (set members (f - 1) new)) interaction_sets (interaction_table (set members (f - 1) new))
      interactions_kept tables = sets_same interactions (length members) interaction_sets interaction_sets (interaction_table members) (interaction_table (set members (f - 1) new)) whole.interactions
          (length (set members (f - 1) new)) (λ some. whole.interactions.room (rw count at some)) (λ class. refl) tables

    module _ (class : ℕ) (first : 0 < class) where
      -- it publishes an object class, or not any more
      pub whole_published : (x : Option (List ℕ)) → class ≤ objects
          → AreDeclarationsWhole objects interactions (set members (f - 1) (record m { published = set m.published (class - 1) x })) object_sets interaction_sets
      whole_published x last =
          let new : Declarer = record m { published = set m.published (class - 1) x } in
          let tables = published_put objects interactions members whole.lists f m first_federate within is class first x last in
          record {
            lists = lists_put new (record { published = length-set m.published (class - 1) x ∙ before.published; subscribed = before.subscribed; published_interactions = before.published_interactions; subscribed_interactions = before.subscribed_interactions });
            objects = objects_kept new (λ g k. ap (λ v. is_some (v.subscribed g k)) tables);
            interactions = interactions_kept new (λ g k. ap (λ v. v.subscribed_interaction g k) tables);
          }

      -- it publishes an interaction class, or not any more
      pub whole_published_interaction : (x : Bool) → class ≤ interactions
          → AreDeclarationsWhole objects interactions (set members (f - 1) (record m { published_interactions = set m.published_interactions (class - 1) x })) object_sets interaction_sets
      whole_published_interaction x last =
          let new : Declarer = record m { published_interactions = set m.published_interactions (class - 1) x } in
          let tables = published_interaction_put objects interactions members whole.lists f m first_federate within is class first x last in
          record {
            lists = lists_put new (record { published = before.published; subscribed = before.subscribed; published_interactions = length-set m.published_interactions (class - 1) x ∙ before.published_interactions; subscribed_interactions = before.subscribed_interactions });
            objects = objects_kept new (λ g k. ap (λ v. is_some (v.subscribed g k)) tables);
            interactions = interactions_kept new (λ g k. ap (λ v. v.subscribed_interaction g k) tables);
          }

      -- it subscribes an object class, or not any more
      pub whole_subscribed : (x : Option (List ℕ)) → class ≤ objects → (o : List ℕ) → length o ≡ length object_sets
          → ((g k : ℕ) → g ≤ max_joins → is_in_set_of o g k ≡ cond (eqb f g && eqb class k) (is_some x) (is_in_set_of object_sets g k))
          → AreDeclarationsWhole objects interactions (set members (f - 1) (record m { subscribed = set m.subscribed (class - 1) x })) o interaction_sets
      unfolding upd2
      whole_subscribed x last o same listed =
          let new : Declarer = record m { subscribed = set m.subscribed (class - 1) x } in
          let tables = subscribed_put objects interactions members whole.lists f m first_federate within is class first x last in
          record {
            lists = lists_put new (record { published = before.published; subscribed = length-set m.subscribed (class - 1) x ∙ before.subscribed; published_interactions = before.published_interactions; subscribed_interactions = before.subscribed_interactions });
            objects = subst (λ n. AreSetsWhole objects n o (object_table (set members (f - 1) new))) (sym (count new))
                (sets_put objects (length members) object_sets o (object_table members) (object_table (set members (f - 1) new)) whole.objects f class (is_some x) same listed
                (λ g k. ap (λ v. is_some (v.subscribed g k)) tables ∙ some_cond (eqb f g && eqb class k) x (table None (λ (m : Declarer). m.subscribed) members g k)));
            interactions = interactions_kept new (λ g k. ap (λ v. v.subscribed_interaction g k) tables);
          }

      -- it subscribes an interaction class, or not any more
      pub whole_subscribed_interaction : (x : Bool) → class ≤ interactions → (i : List ℕ) → length i ≡ length interaction_sets
          → ((g k : ℕ) → g ≤ max_joins → is_in_set_of i g k ≡ cond (eqb f g && eqb class k) x (is_in_set_of interaction_sets g k))
          → AreDeclarationsWhole objects interactions (set members (f - 1) (record m { subscribed_interactions = set m.subscribed_interactions (class - 1) x })) object_sets i
      unfolding upd2
      whole_subscribed_interaction x last i same listed =
          let new : Declarer = record m { subscribed_interactions = set m.subscribed_interactions (class - 1) x } in
          let tables = subscribed_interaction_put objects interactions members whole.lists f m first_federate within is class first x last in
          record {
            lists = lists_put new (record { published = before.published; subscribed = before.subscribed; published_interactions = before.published_interactions; subscribed_interactions = length-set m.subscribed_interactions (class - 1) x ∙ before.subscribed_interactions });
            objects = objects_kept new (λ g k. ap (λ v. is_some (v.subscribed g k)) tables);
            interactions = subst (λ n. AreSetsWhole interactions n i (interaction_table (set members (f - 1) new))) (sym (count new))
                (sets_put interactions (length members) interaction_sets i (interaction_table members) (interaction_table (set members (f - 1) new)) whole.interactions f class x same listed
                (λ g k. ap (λ v. v.subscribed_interaction g k) tables));
          }

    -- it changed the order of an interaction class, and so others than before are given
    pub whole_ordered : (class : ℕ) → 0 < class → (orders : List (Option Order)) (order : Order) → entry_at None orders ≡ upd (entry_at None m.interaction_orders) class (Some order)
        → AreDeclarationsWhole objects interactions (set members (f - 1) (record m { interaction_orders = orders })) object_sets interaction_sets
    whole_ordered class first orders order given =
        let new : Declarer = record m { interaction_orders = orders } in
        let tables = orders_put objects interactions members whole.lists f m first_federate within is class first orders order given in
        record {
          lists = lists_put new (record { published = before.published; subscribed = before.subscribed; published_interactions = before.published_interactions; subscribed_interactions = before.subscribed_interactions });
          objects = objects_kept new (λ g k. ap (λ v. is_some (v.subscribed g k)) tables);
          interactions = interactions_kept new (λ g k. ap (λ v. v.subscribed_interaction g k) tables);
        }

    -- a federate that declares nothing any more has room as before
    cleared_member : (new : Declarer) → IsCleared m new → IsMember objects interactions new
    cleared_member new cleared =
        subst (λ n. IsMember objects n new) before.published_interactions (subst (λ n. IsMember n (length m.published_interactions) new) before.published
        (cleared.room (record {
          published = refl;
          subscribed = before.subscribed ∙ sym before.published;
          published_interactions = refl;
          subscribed_interactions = before.subscribed_interactions ∙ sym before.published_interactions;
        })))

    -- it declares nothing any more
    pub whole_cleared : (new : Declarer) → IsCleared m new → (o i : List ℕ) → length o ≡ length object_sets → length i ≡ length interaction_sets
        → ((g k : ℕ) → g ≤ max_joins → is_in_set_of o g k ≡ cond (eqb f g) false (is_in_set_of object_sets g k))
        → ((g k : ℕ) → g ≤ max_joins → is_in_set_of i g k ≡ cond (eqb f g) false (is_in_set_of interaction_sets g k))
        → AreDeclarationsWhole objects interactions (set members (f - 1) new) o i
    unfolding upd
    whole_cleared new cleared o i same_o same_i listed_o listed_i =
        let tables = member_cleared objects interactions members whole.lists f m first_federate within is new cleared in
        record {
          lists = lists_put new (cleared_member new cleared);
          objects = subst (λ n. AreSetsWhole objects n o (object_table (set members (f - 1) new))) (sym (count new))
              (sets_withdrawn objects (length members) object_sets o (object_table members) (object_table (set members (f - 1) new)) whole.objects f same_o listed_o
              (λ g k. ap (λ v. is_some (v.subscribed g k)) tables ∙ none_row (eqb f g) (table None (λ (m : Declarer). m.subscribed) members g) k));
          interactions = subst (λ n. AreSetsWhole interactions n i (interaction_table (set members (f - 1) new))) (sym (count new))
              (sets_withdrawn interactions (length members) interaction_sets i (interaction_table members) (interaction_table (set members (f - 1) new)) whole.interactions f same_i listed_i
              (λ g k. ap (λ v. v.subscribed_interaction g k) tables ∙ false_row (eqb f g) (table false (λ (m : Declarer). m.subscribed_interactions) members g) k));
        }
