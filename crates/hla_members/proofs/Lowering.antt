-- What each joined federate learns of one that begins to regulate, one after another
use Rattle.std.proofs.Common.{◌≡◌, ◌≢◌, ◌≤◌, ◌+◌, ℕ, List, cond, eqb, ltb, not, ◌&&◌, Bool, true, false, refl, sym, ap, subst, ◌∙◌, ⊎_elim, arith}
use Rattle.std.proofs.Math.Bool.{and-false}
use Rattle.std.proofs.lemmas.Bool.{cases_Bool, cases_eq}
use Rattle.std.proofs.lemmas.Bool.Decides.{nat_tests}
use Rattle.hla_base.specs.Tables.{upd, is_other}
use Rattle.hla_base.proofs.Tables.{upd_each}
use Rattle.hla_lbts.specs.declared.row.PeerRow.{PeerRow}
use Rattle.hla_lbts.specs.Peers.{PeersValue, peers_of}
use Rattle.hla_component_rules.specs.LocalValue.{LocalValue}
use Rattle.hla_members.specs.Changes.{peers_lowered}
use Rattle.hla_execution.specs.MemberValue.{MemberTables}
use Rattle.hla_members.specs.Members.{with_component}

module _ (f epoch entry : ℕ) (old : MemberTables) where
  -- what a component knows of its peers, where those below a number have learned of it
  abbrev pub lowered_below : ℕ → ℕ → PeersValue
  lowered_below end g = cond (ltb g end && is_other old.joined f g) (peers_lowered f epoch entry (peers_of (old.local g).peers)) (peers_of (old.local g).peers)

  another : (b : Bool) (peer g : ℕ) → peer ≢ g → ltb g (peer + 1) && b ≡ ltb g peer && b
  another b peer g ne = let same : ltb g (peer + 1) ≡ ltb g peer = grind (arith, nat_tests, ne) in rw same refl

  -- one that does not learn of it
  pub not_lowered : (peer g : ℕ) → is_other old.joined f peer ≡ false → lowered_below peer g ≡ lowered_below (peer + 1) g
  not_lowered peer g apart = ⊎_elim
      (λ (e : peer ≡ g). let here : is_other old.joined f g ≡ false = ap (is_other old.joined f) (sym e) ∙ apart in rw (here, and-false, and-false) refl)
      (λ (ne : peer ≢ g). ap (λ (b : Bool). cond b (peers_lowered f epoch entry (peers_of (old.local g).peers)) (peers_of (old.local g).peers)) (sym (another (is_other old.joined f g) peer g ne)))
      (cases_eq peer g)

  -- one that does
  module _ (t n : MemberTables) (peer : ℕ) (rows : List PeerRow) (is : n ≡ with_component t peer (record (t.local peer) { peers = rows })) where
    pub lowered_same : t ≡ record old { local = t.local } → n ≡ record old { local = n.local }
    lowered_same before = is ∙ ap (λ (x : MemberTables). record x { local = upd t.local peer (record (t.local peer) { peers = rows }) }) before
        ∙ ap (λ (x : ℕ → LocalValue). record old { local = x }) (sym (ap (λ (x : MemberTables). x.local) is))

    pub lowered_own : ((g : ℕ) → t.local g ≡ record (old.local g) { peers = (t.local g).peers }) → (g : ℕ) → n.local g ≡ record (old.local g) { peers = (n.local g).peers }
    lowered_own before g = subst (λ (x : MemberTables). x.local g ≡ record (old.local g) { peers = (x.local g).peers }) (sym is)
        (upd_each t.local peer (record (t.local peer) { peers = rows }) (λ (h : ℕ) (x : LocalValue). x ≡ record (old.local h) { peers = x.peers })
        (ap (λ (x : LocalValue). record x { peers = rows }) (before peer)) (λ h ne. before h) g)

    pub lowered_peers : is_other old.joined f peer ≡ true → peers_of rows ≡ peers_lowered f epoch entry (peers_of (t.local peer).peers)
        → ((g : ℕ) → peers_of (t.local g).peers ≡ lowered_below peer g) → (g : ℕ) → peers_of (n.local g).peers ≡ lowered_below (peer + 1) g
    lowered_peers learns learned before g =
        let not_yet : ltb peer peer ≡ false = grind (arith, nat_tests) in
        let now : ltb peer (peer + 1) ≡ true = grind (arith, nat_tests) in
        let was : peers_of (t.local peer).peers ≡ peers_of (old.local peer).peers = before peer ∙ rw not_yet refl in
        let here : peers_of rows ≡ lowered_below (peer + 1) peer = learned ∙ ap (λ (p : PeersValue). peers_lowered f epoch entry p) was ∙ rw (now, learns) refl in
        subst (λ (x : MemberTables). peers_of (x.local g).peers ≡ lowered_below (peer + 1) g) (sym is)
        (upd_each t.local peer (record (t.local peer) { peers = rows }) (λ (h : ℕ) (x : LocalValue). peers_of x.peers ≡ lowered_below (peer + 1) h)
        here (λ h ne. before h ∙ ap (λ (b : Bool). cond b (peers_lowered f epoch entry (peers_of (old.local h).peers)) (peers_of (old.local h).peers)) (sym (another (is_other old.joined f h) peer h ne))) g)

  -- in the end all joined ones have
  pub lowered_all : (end g : ℕ) → (end ≤ g → old.joined g ≡ false)
      → lowered_below end g ≡ cond (is_other old.joined f g) (peers_lowered f epoch entry (peers_of (old.local g).peers)) (peers_of (old.local g).peers)
  lowered_all end g nobody = ⊎_elim
      (λ (y : ltb g end ≡ true). rw y refl)
      (λ (n : ltb g end ≡ false). let beyond : end ≤ g = grind (arith, nat_tests, n) in let away = nobody beyond in rw (n, away, and-false (not (eqb f g))) refl)
      (cases_Bool (ltb g end))
