-- The parts stay of one execution
use Rattle.std.proofs.Common.{◌≡◌, ◌≢◌, ⊎_elim, ℕ, ◌+◌, ◌≤◌, cond, ltb, ◌||◌, Bool, true, false, Option, Some, None, List, sym, ap, ◌∙◌, arith, inl}
use Rattle.std.proofs.lemmas.Bool.{cases_Bool, cases_eq}
use Rattle.std.proofs.lemmas.Bool.Decides.{nat_tests}
use Rattle.hla_base.specs.declared.fault.Fault.TheVariants as fault
use Rattle.hla_base.specs.Tables.{upd, upd2}
use Rattle.hla_catalogue.specs.CatalogueValue.{CatalogueValue}
use Rattle.hla_catalogue.specs.declared.declared.Order.{Order}
use Rattle.hla_declaration.specs.Declarations.{DeclarationsValue}
use Rattle.hla_lbts.specs.Peers.{peers_of}
use Rattle.hla_component_rules.specs.LocalValue.{LocalValue, resigned_local}
use Rattle.hla_execution.specs.MemberValue.{MemberValue, MemberTables, members_of}
use Rattle.hla_members.specs.Members.{with_member_admitted}
use Rattle.hla_members.proofs.MemberTables.{past}
use Rattle.hla_federation.specs.Steps.State.{AreWhole, IsUnmet}
use Rattle.hla_base.proofs.Tables.{upd_other, upd_same, upd2_other, upd_each}

-- who is joined is not one who is not
apart : (joined : ℕ → Bool) (f g : ℕ) → joined f ≡ true → joined g ≡ false → f ≢ g
apart joined f g y n e = let t : joined g ≡ true = ap joined (sym e) ∙ y in absurd (cc)

module _ (c : CatalogueValue) (d : DeclarationsValue) (m : MemberTables) (whole : AreWhole c d m) (f class : ℕ) (joined : m.joined f ≡ true) where
  pub whole_subscribed : (o : Option (List ℕ)) → AreWhole c (record d { subscribed = upd2 d.subscribed f class o }) m
  whole_subscribed o = record {
    few = whole.few;
    federates = whole.federates;
    object_classes = whole.object_classes;
    interaction_classes = whole.interaction_classes;
    unmet = whole.unmet;
    silent = λ g k n. record { objects = upd2_other d.subscribed f class o g k (inl (apart m.joined f g joined n)) ∙ (whole.silent g k n).objects; interactions = (whole.silent g k n).interactions };
  }

  pub whole_subscribed_interaction : (b : Bool) → AreWhole c (record d { subscribed_interaction = upd2 d.subscribed_interaction f class b }) m
  whole_subscribed_interaction b = record {
    few = whole.few;
    federates = whole.federates;
    object_classes = whole.object_classes;
    interaction_classes = whole.interaction_classes;
    unmet = whole.unmet;
    silent = λ g k n. record { objects = (whole.silent g k n).objects; interactions = upd2_other d.subscribed_interaction f class b g k (inl (apart m.joined f g joined n)) ∙ (whole.silent g k n).interactions };
  }

-- nor does another component, if it knows nothing of who has never joined
pub unmet_with : (local : ℕ → LocalValue) (f : ℕ) (l : LocalValue) (g : ℕ) → IsUnmet (peers_of l.peers) g → ((k : ℕ) → IsUnmet (peers_of (local k).peers) g) → (k : ℕ) → IsUnmet (peers_of (upd local f l k).peers) g
unmet_with local f l g here there k = upd_each local f l (λ j x. IsUnmet (peers_of x.peers) g) here (λ j ne. there j) k

-- publishing changes nothing of that
pub whole_published : (c : CatalogueValue) (d : DeclarationsValue) (m : MemberTables) → AreWhole c d m → (published : ℕ → ℕ → Option (List ℕ)) (interactions : ℕ → ℕ → Bool)
    → AreWhole c (record d { published = published; published_interaction = interactions }) m
whole_published c d m whole published interactions = record {
  few = whole.few;
  federates = whole.federates;
  object_classes = whole.object_classes;
  interaction_classes = whole.interaction_classes;
  silent = λ g k no. record { objects = (whole.silent g k no).objects; interactions = (whole.silent g k no).interactions };
  unmet = whole.unmet;
}

-- nor does an order that changed
pub whole_ordered : (c : CatalogueValue) (d : DeclarationsValue) (m : MemberTables) → AreWhole c d m → (orders : ℕ → ℕ → Option Order)
    → AreWhole c (record d { interaction_orders = orders }) m
whole_ordered c d m whole orders = record {
  few = whole.few;
  federates = whole.federates;
  object_classes = whole.object_classes;
  interaction_classes = whole.interaction_classes;
  silent = λ g k no. record { objects = (whole.silent g k no).objects; interactions = (whole.silent g k no).interactions };
  unmet = whole.unmet;
}

-- nor do messages and serials
pub whole_same : (c : CatalogueValue) (d : DeclarationsValue) (m n : MemberTables) → AreWhole c d m → n.next_federate ≡ m.next_federate → n.joined ≡ m.joined
    → ((f g : ℕ) → m.next_federate ≤ g → IsUnmet (peers_of (n.local f).peers) g) → AreWhole c d n
whole_same c d m n whole next joined unmet = record {
  few = rw next whole.few;
  federates = whole.federates ∙ sym next;
  object_classes = whole.object_classes;
  interaction_classes = whole.interaction_classes;
  silent = λ g k no. whole.silent g k (ap (λ (j : ℕ → Bool). j g) (sym joined) ∙ no);
  unmet = λ f g beyond. unmet f g (rw (sym next) beyond);
}

-- one more federate
pub whole_admitted : (c : CatalogueValue) (d : DeclarationsValue) (m : MemberTables) (name : List ℕ) (local : LocalValue) → AreWhole c d m → m.next_federate ≤ 16
    → ((g : ℕ) → m.next_federate + 1 ≤ g → IsUnmet (peers_of local.peers) g) → AreWhole c (record d { federates = d.federates + 1 }) (with_member_admitted m name local)
whole_admitted c d m name local whole few own = record {
  few = omega (arith, few);
  federates = let e = whole.federates in omega (arith, e);
  object_classes = whole.object_classes;
  interaction_classes = whole.interaction_classes;
  silent = λ g k no. ⊎_elim
      (λ (e : m.next_federate ≡ g). let y : upd m.joined m.next_federate true g ≡ true = ap (upd m.joined m.next_federate true) (sym e) ∙ upd_same m.joined m.next_federate true in absurd (cc))
      (λ (ne : m.next_federate ≢ g).
      let was = whole.silent g k (sym (upd_other m.joined m.next_federate true g ne) ∙ no) in record { objects = was.objects; interactions = was.interactions })
      (cases_eq m.next_federate g);
  unmet = λ f g beyond. unmet_with m.local m.next_federate local g (own g beyond) (λ k. whole.unmet k g (omega (arith, beyond))) f;
}

-- one federate fewer
pub whole_withdrawn : (c : CatalogueValue) (d : DeclarationsValue) (m n : MemberTables) (f : ℕ) → AreWhole c d m → n.next_federate ≡ m.next_federate → n.joined ≡ upd m.joined f false → n.local ≡ upd m.local f (resigned_local (m.local f))
    → AreWhole c (record d { published = upd d.published f (λ _. None); subscribed = upd d.subscribed f (λ _. None); published_interaction = upd d.published_interaction f (λ _. false); subscribed_interaction = upd d.subscribed_interaction f (λ _. false); interaction_orders = upd d.interaction_orders f (λ _. None) }) n
whole_withdrawn c d m n f whole next joined local = record {
  few = rw next whole.few;
  federates = whole.federates ∙ sym next;
  object_classes = whole.object_classes;
  interaction_classes = whole.interaction_classes;
  silent = λ g k no. ⊎_elim
      (λ (e : f ≡ g). record {
        objects = ap (λ (h : ℕ). upd d.subscribed f (λ _. None) h k) (sym e) ∙ ap (λ (t : ℕ → Option (List ℕ)). t k) (upd_same d.subscribed f (λ _. None));
        interactions = ap (λ (h : ℕ). upd d.subscribed_interaction f (λ _. false) h k) (sym e) ∙ ap (λ (t : ℕ → Bool). t k) (upd_same d.subscribed_interaction f (λ _. false));
      })
      (λ (ne : f ≢ g).
      let was : m.joined g ≡ false = sym (upd_other m.joined f false g ne) ∙ ap (λ (j : ℕ → Bool). j g) (sym joined) ∙ no in
      record {
        objects = ap (λ (t : ℕ → Option (List ℕ)). t k) (upd_other d.subscribed f (λ _. None) g ne) ∙ (whole.silent g k was).objects;
        interactions = ap (λ (t : ℕ → Bool). t k) (upd_other d.subscribed_interaction f (λ _. false) g ne) ∙ (whole.silent g k was).interactions;
      })
      (cases_eq f g);
  unmet = λ k g beyond. rw local (unmet_with m.local f (resigned_local (m.local f)) g (whole.unmet f g (rw (sym next) beyond)) (λ j. whole.unmet j g (rw (sym next) beyond)) k);
}

-- who may join is one of the first sixteen
pub few_joined : (b l : Bool) (next : ℕ) → cond b (Some fault.FederateAlreadyExecutionMember) (cond (ltb 16 next || l) (Some fault.LimitReached) None) ≡ None → next ≤ 16
few_joined true l next none = absurd (cc)
few_joined false l next none = ⊎_elim
    (λ (y : ltb 16 next ≡ true). let full = rw y at none in absurd (cc))
    (λ (n : ltb 16 next ≡ false). grind (arith, nat_tests))
    (cases_Bool (ltb 16 next))

-- nothing is known yet of who has not joined
pub nobody_yet : (members : List MemberValue) (g : ℕ) → (members_of members).next_federate + 1 ≤ g
    → IsUnmet (record { bound = λ h. ((members_of members).local h).last_announced; known_epoch = λ h. ((members_of members).local h).epoch }) g
nobody_yet members g beyond = let none = past members g (omega (arith, beyond)) in record {
  bound = ap (λ (m : MemberValue). m.local.last_announced) none;
  epoch = ap (λ (m : MemberValue). m.local.epoch) none;
}
