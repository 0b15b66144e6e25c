-- Null messages, and what each learns of who begins to regulate
use Rattle.std.proofs.Common.{◌≡◌, ◌≢◌, ◌≤◌, ◌+◌, ℕ, min, cond, eqb, ltb, ◌&&◌, Bool, true, false, None, Some, List, refl, sym, ap, subst, ◌∙◌, ⊎_elim, arith}
use Rattle.std.proofs.Math.Bool.{and-false}
use Rattle.std.proofs.lemmas.Bool.{cases_Bool}
use Rattle.std.proofs.lemmas.Bool.Decides.{nat_tests}
use Rattle.std.proofs.Math.Path.{fun_ext}
use Rattle.hla_base.specs.Limits.{max_time, max_enablings}
use Rattle.hla_base.specs.declared.row.TimeRow.{TimeRow}
use Rattle.hla_base.specs.Tables.{upd, upd_column, is_other, greatest}
use Rattle.hla_base.specs.Rows.{is_regulator, is_constrained, row_with_entry, RowNumbers}
use Rattle.hla_base.specs.RowRefusals.{first_fault, regulation_tests}
use Rattle.hla_base.proofs.Tables.{upd_same, upd_other}
use Rattle.hla_catalogue.specs.CatalogueValue.{CatalogueValue}
use Rattle.hla_declaration.specs.Declarations.{DeclarationsValue}
use Rattle.hla_machine.specs.Registered.{RegistryValue}
use Rattle.hla_lbts.specs.declared.row.PeerRow.{PeerRow}
use Rattle.hla_lbts.specs.Peers.{PeersValue, peers_of}
use Rattle.hla_component_rules.specs.LocalValue.{LocalValue}
use Rattle.hla_machine.specs.declared.service.Service.TheVariants as service
use Rattle.hla_machine.specs.declared.step.Answer.TheVariants as answer
use Rattle.hla_machine.specs.declared.step.Step.TheVariants.{Call, Announce}
use Rattle.hla_machine.specs.Refusals.{refusal}
use Rattle.hla_components.specs.Components.{Components}
use Rattle.hla_components.specs.Component.{promise, regulation_entry}
use Rattle.hla_components.specs.Invariant.{Inv}
use Rattle.hla_components.specs.Next.{Outcomes, next, answer_outcome, announce_outcome, with_null_announced, with_regulation_enabled, components_seen}
use Rattle.hla_components.proofs.Refinement.Runs.{each_step}
use Rattle.hla_members.specs.Changes.{MayRegulate, AreLowered, peers_lowered, entry_by}
use Rattle.hla_execution.specs.MemberValue.{MemberValue, MemberTables, members_of}
use Rattle.hla_members.specs.Members.{with_component, with_null_sent}
use Rattle.hla_synchronization.specs.Points.{Point}
use Rattle.hla_federation.specs.Steps.Memory.{takes_memory}
use Rattle.hla_federation.specs.Steps.Sending.{announcement}
use Rattle.hla_federation.specs.FederationValue.{FederationValue}
use Rattle.hla_federation.specs.Steps.State.{state_from, IsWhole, IsUnmet}
use Rattle.hla_federation.proofs.Steps.Changing.{kept, announced_changed}
use Rattle.hla_federation.proofs.Steps.Doing.{does_next}
use Rattle.hla_members.proofs.MemberTables.{upd-self, upd-field}
use Rattle.hla_federation.proofs.Steps.Wholes.{whole_same, unmet_with}

-- ---- an announcement
pub announces : (s : Components) (f p : ℕ) → announcement s f ≡ Some p → announce_outcome s f ≡ answer_outcome (answer.Announced (Some p)) (with_null_announced s f p)
announces s f p = either (is_regulator (s.row f) && ltb (s.last_announced f) (promise s f)) (promise s f)
  where
    either : (b : Bool) (v : ℕ) → cond b (Some v) None ≡ Some p → cond b (answer_outcome (answer.Announced (Some v)) (with_null_announced s f v)) (answer_outcome (answer.Announced None) s) ≡ answer_outcome (answer.Announced (Some p)) (with_null_announced s f p)
    either true v is = let e : v ≡ p = cc in ap (λ (x : ℕ). answer_outcome (answer.Announced (Some x)) (with_null_announced s f x)) e
    either false v is = absurd (cc)

pub announces_nothing : (s : Components) (f : ℕ) → announcement s f ≡ None → announce_outcome s f ≡ answer_outcome (answer.Announced None) s
announces_nothing s f = either (is_regulator (s.row f) && ltb (s.last_announced f) (promise s f)) (promise s f)
  where
    either : (b : Bool) (v : ℕ) → cond b (Some v) None ≡ None → cond b (answer_outcome (answer.Announced (Some v)) (with_null_announced s f v)) (answer_outcome (answer.Announced None) s) ≡ answer_outcome (answer.Announced None) s
    either true v is = absurd (cc)
    either false v is = refl

-- it is made where it is more than the last one
pub announced_by : (s : Components) (f : ℕ) (b : Bool) (v p : ℕ) → is_regulator (s.row f) ≡ true → v ≡ s.last_announced f → p ≡ promise s f → ltb v p ≡ b → cond b (Some p) None ≡ announcement s f
announced_by s f b v p regulates last is which =
    ap (λ (x : Bool). cond x (Some p) None) (sym which)
    ∙ (λ i. cond (ltb (last i) (is i)) (Some (is i)) None)
    ∙ sym (ap (λ (r : Bool). cond (r && ltb (s.last_announced f) (promise s f)) (Some (promise s f)) None) regulates)

pub not_announced : (s : Components) (f : ℕ) → is_regulator (s.row f) ≡ false → None ≡ announcement s f
not_announced s f idle = sym (ap (λ (r : Bool). cond (r && ltb (s.last_announced f) (promise s f)) (Some (promise s f)) None) idle)

pub announcement_takes : (s : Components) (f p : ℕ) → announcement s f ≡ Some p → takes_memory s (Announce f) ≡ true
announcement_takes s f p = either (is_regulator (s.row f) && ltb (s.last_announced f) (promise s f))
  where
    either : (b : Bool) → cond b (Some (promise s f)) None ≡ Some p → b ≡ true
    either true is = refl
    either false is = absurd (cc)

-- the parts behind a null message and another row
module _ (c : CatalogueValue) (points : List Point) (d : DeclarationsValue) (r : RegistryValue) (m : MemberTables) (f : ℕ) where
  pub null_state : (row : TimeRow) (v : ℕ) → with_null_announced (record (state_from c points d r m) { row = upd (state_from c points d r m).row f row }) f v
      ≡ state_from c points d r (with_component (with_null_sent m f (m.local f).epoch v) f (record (m.local f) { row = row; last_announced = v }))
  null_state row v = sym (announced_changed c points d r (with_null_sent m f (m.local f).epoch v) f row v)

  pub announced_state : (v : ℕ) → with_null_announced (state_from c points d r m) f v ≡ state_from c points d r (with_component (with_null_sent m f (m.local f).epoch v) f (record (m.local f) { last_announced = v }))
  announced_state v = (λ i. record (with_null_announced (state_from c points d r m) f v) { row = sym (upd-self (state_from c points d r m).row f (m.local f).row refl) i }) ∙ null_state (m.local f).row v

-- ---- the parts behind a null message and another component
pub null_whole : (v : FederationValue) (f k b : ℕ) (l : LocalValue) (ms : List MemberValue) → IsWhole v → members_of ms ≡ with_component (with_null_sent (members_of v.members) f k b) f l → l.peers ≡ ((members_of v.members).local f).peers
    → IsWhole (record v { members = ms })
null_whole v f k b l ms whole is same = record {
  parts = whole_same _ _ (members_of v.members) (members_of ms) whole.parts (ap (λ (t : MemberTables). t.next_federate) is) (ap (λ (t : MemberTables). t.joined) is)
      (λ j g beyond. subst (λ (t : MemberTables). IsUnmet (peers_of (t.local j).peers) g) (sym is)
      (unmet_with (members_of v.members).local f l g (rw same (whole.parts.unmet f g beyond)) (λ i. whole.parts.unmet i g beyond) j));
  named = λ g y. whole.named g (ap (λ (t : MemberTables). t.joined g) (sym is) ∙ y);
}

-- ---- a federate begins to regulate
-- the least entry that bars allow matters only where time and lookahead are within their limits
pub regulation_same : (r : TimeRow) (low other t l : ℕ) → (t ≤ max_time → l ≤ max_time → low ≡ other) → first_fault (regulation_tests r low t l) ≡ first_fault (regulation_tests r other t l)
regulation_same r low other t l same = ⊎_elim
    (λ (y : ltb max_time t ≡ true). rw y refl)
    (λ (n : ltb max_time t ≡ false). ⊎_elim
    (λ (y : ltb max_time l ≡ true). rw y refl)
    (λ (k : ltb max_time l ≡ false). let small : t ≤ max_time = grind (arith, nat_tests, n) in let little : l ≤ max_time = grind (arith, nat_tests, k) in
    ap (λ (x : ℕ). first_fault (regulation_tests r x t l)) (same small little))
    (cases_Bool (ltb max_time l)))
    (cases_Bool (ltb max_time t))

pub entry_is : (s : Components) (f earliest : ℕ) (local : ℕ → LocalValue) → s.row ≡ (λ g. (local g).row) → s.last_announced ≡ (λ g. (local g).last_announced)
    → regulation_entry s f earliest ≡ greatest s.directory.next_federate earliest (entry_by local f)
unfolding regulation_entry
entry_is s f earliest local rows announced = rw (rows, announced) refl

-- the numbers of a federate that has begun to regulate
pub may_regulate : (s : Components) (f t lookahead entry : ℕ) (l : LocalValue) → Inv s → s.directory.joined f ≡ true → l.row ≡ s.row f → l.epoch ≡ s.epoch f → lookahead ≤ max_time
    → refusal (components_seen s) (Call f (service.EnableTimeRegulation t lookahead)) ≡ None → regulation_entry s f (t + lookahead) ≡ entry → t + lookahead ≤ entry → MayRegulate l lookahead entry
may_regulate s f t lookahead entry l inv joined row_is epoch_is small none is above =
    let after = each_step s (Call f (service.EnableTimeRegulation t lookahead)) inv in
    let row = ap (λ (x : Components). x.row f) (enabled none) ∙ upd_same s.row f _ ∙ ap (λ (e : ℕ). row_with_entry (s.row f) lookahead e) is in
    let n : RowNumbers (row_with_entry (s.row f) lookahead entry) = subst RowNumbers row (after.kept.numbers f) in
    let few : (s.row f).enablings + 1 ≤ max_enablings = n.enablings in
    let counted = inv.epochs.counted f joined in
    record {
      small = small;
      within = n.floor;
      above = omega (arith, above);
      start = λ free. let here : is_constrained (s.row f) ≡ false = ap is_constrained (sym row_is) ∙ free in let begins = rw here at n.regulation in omega (arith, begins, above);
      few = omega (arith, few, ap (λ (x : TimeRow). x.enablings) row_is);
      epochs = omega (arith, few, epoch_is, counted);
    }
  where
    enabled : refusal (components_seen s) (Call f (service.EnableTimeRegulation t lookahead)) ≡ None → (next s (Call f (service.EnableTimeRegulation t lookahead))).state ≡ with_regulation_enabled s f lookahead (regulation_entry s f (t + lookahead))
    enabled none = ap (λ (o : Outcomes). o.state) (does_next s (Call f (service.EnableTimeRegulation t lookahead)) none)

-- each other joined one has another entry in its column
column : {X : Type 0} (t : ℕ → ℕ → X) (joined : ℕ → Bool) (f : ℕ) (change : X → X) (rows : ℕ → ℕ → X)
    → ((g : ℕ) → rows g ≡ cond (is_other joined f g) (upd (t g) f (change (t g f))) (t g)) → rows ≡ upd_column t joined f change
unfolding upd upd_column
column {X = X} t joined f change rows is = fun_ext (λ g. fun_ext (λ h. ap (λ (row : ℕ → X). row h) (is g) ∙ at g h))
  where
    at : (g h : ℕ) → cond (is_other joined f g) (upd (t g) f (change (t g f))) (t g) h ≡ cond (eqb f h && is_other joined f g) (change (t g h)) (t g h)
    at g h = ⊎_elim
        (λ (z : is_other joined f g ≡ true). ⊎_elim
        (λ (y : eqb f h ≡ true). let e : f ≡ h = grind (arith, nat_tests) in rw (z, y) (ap (λ (k : ℕ). change (t g k)) e))
        (λ (n : eqb f h ≡ false). rw (z, n) refl)
        (cases_Bool (eqb f h)))
        (λ (z : is_other joined f g ≡ false). rw (z, and-false (eqb f h)) refl)
        (cases_Bool (is_other joined f g))

-- nobody learns anything of who has never joined
pub lowered_unmet : (f epoch entry : ℕ) (joined : ℕ → Bool) (old new : ℕ → LocalValue) (g : ℕ) → AreLowered f epoch entry joined old new → f ≢ g
    → ((j : ℕ) → IsUnmet (peers_of (old j).peers) g) → (j : ℕ) → IsUnmet (peers_of (new j).peers) g
lowered_unmet f epoch entry joined old new g lowered ne unmet j = subst (λ (p : PeersValue). IsUnmet p g) (sym (lowered j).1) (either (is_other joined f j))
  where
    either : (b : Bool) → IsUnmet (cond b (peers_lowered f epoch entry (peers_of (old j).peers)) (peers_of (old j).peers)) g
    either true = record { bound = upd_other (peers_of (old j).peers).bound f _ g ne ∙ (unmet j).bound; epoch = upd_other (peers_of (old j).peers).known_epoch f _ g ne ∙ (unmet j).epoch }
    either false = unmet j

module _ (c : CatalogueValue) (points : List Point) (d : DeclarationsValue) (r : RegistryValue) (m : MemberTables) (f lookahead entry : ℕ) where
  abbrev s : Components
  s = state_from c points d r m

  abbrev l : LocalValue
  l = record (m.local f) { row = row_with_entry (m.local f).row lookahead entry; last_announced = entry; epoch = (m.local f).epoch + 1 }

  abbrev pub entered : MemberTables
  entered = with_component (with_null_sent m f ((m.local f).epoch + 1) entry) f l

  pub enabled_state : (local : ℕ → LocalValue) → AreLowered f ((m.local f).epoch + 1) entry m.joined entered.local local
      → with_regulation_enabled s f lookahead entry ≡ state_from c points d r (record entered { local = local })
  enabled_state local lowered = λ i. record (state_from c points d r (record entered { local = local })) {
    row = sym (own (λ (x : LocalValue). x.row) (λ x rows. refl) ∙ upd-field (λ (x : LocalValue). x.row) m.local f l) i;
    ro = sym (own (λ (x : LocalValue). x.ro) (λ x rows. refl) ∙ kept c points d r m f (λ (x : LocalValue). x.ro) l refl) i;
    tso = sym (own (λ (x : LocalValue). x.tso) (λ x rows. refl) ∙ kept c points d r m f (λ (x : LocalValue). x.tso) l refl) i;
    controls = sym (own (λ (x : LocalValue). x.controls) (λ x rows. refl) ∙ kept c points d r m f (λ (x : LocalValue). x.controls) l refl) i;
    last_announced = sym (own (λ (x : LocalValue). x.last_announced) (λ x rows. refl) ∙ upd-field (λ (x : LocalValue). x.last_announced) m.local f l) i;
    epoch = sym (own (λ (x : LocalValue). x.epoch) (λ x rows. refl) ∙ upd-field (λ (x : LocalValue). x.epoch) m.local f l) i;
    bound = sym (column s.bound m.joined f (λ b. min b entry) (λ g. (peers_of (local g).peers).bound) (λ g. ap (λ (p : PeersValue). p.bound) (learned g) ∙ fields_bound g (is_other m.joined f g))) i;
    known_epoch = sym (column s.known_epoch m.joined f (λ _. (m.local f).epoch + 1) (λ g. (peers_of (local g).peers).known_epoch) (λ g. ap (λ (p : PeersValue). p.known_epoch) (learned g) ∙ fields_epoch g (is_other m.joined f g))) i;
  }
    where
      own : {X : Type 0} (p : LocalValue → X) → ((x : LocalValue) (rows : List PeerRow) → p (record x { peers = rows }) ≡ p x) → ◌≡◌ {A = ℕ → X} (λ g. p (local g)) (λ g. p (entered.local g))
      own p same = fun_ext (λ g. ap p (lowered g).0 ∙ same (entered.local g) (local g).peers)

      learned : (g : ℕ) → peers_of (local g).peers ≡ cond (is_other m.joined f g) (peers_lowered f ((m.local f).epoch + 1) entry (peers_of (m.local g).peers)) (peers_of (m.local g).peers)
      learned g = (lowered g).1 ∙ ap (λ (t : ℕ → PeersValue). cond (is_other m.joined f g) (peers_lowered f ((m.local f).epoch + 1) entry (t g)) (t g)) (kept c points d r m f (λ (x : LocalValue). peers_of x.peers) l refl)

      fields_bound : (g : ℕ) (b : Bool) → (cond b (peers_lowered f ((m.local f).epoch + 1) entry (peers_of (m.local g).peers)) (peers_of (m.local g).peers)).bound ≡ cond b (upd (s.bound g) f (min (s.bound g f) entry)) (s.bound g)
      fields_bound g true = refl
      fields_bound g false = refl

      fields_epoch : (g : ℕ) (b : Bool) → (cond b (peers_lowered f ((m.local f).epoch + 1) entry (peers_of (m.local g).peers)) (peers_of (m.local g).peers)).known_epoch ≡ cond b (upd (s.known_epoch g) f ((m.local f).epoch + 1)) (s.known_epoch g)
      fields_epoch g true = refl
      fields_epoch g false = refl
