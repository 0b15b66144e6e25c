-- The state after federates are to be told of synchronization points, and after points opened or closed
use Rattle.std.proofs.Common.{◌≡◌, ◌≢◌, ℕ, zero, suc, ◌+◌, ◌≤◌, List, [], ◌∷◌, ◌++◌, map, filter, cond, eqb, Bool, true, false, Some, Result, Ok, Err, OnOk, OnErr, refl, sym, ap, subst, ◌∙◌, append_assoc, ⊎_elim, arith}
use Rattle.std.proofs.Math.Path.{fun_ext}
use Rattle.std.proofs.lemmas.Bool.{cases_Bool, cases_eq}
use Rattle.std.proofs.lemmas.Bool.Decides.{nat_tests}
use Rattle.std.proofs.lemmas.List.{append-nil, map-append}
use Rattle.std.proofs.lemmas.List.Elements.{filter-append}
use Rattle.hla_base.specs.Limits.{max_joins}
use Rattle.hla_base.specs.FederateSets.{federate_set}
use Rattle.hla_base.specs.Tables.{numbers_below, upd}
use Rattle.hla_base.specs.declared.content.Content.{Content}
use Rattle.hla_base.specs.declared.content.Content.TheVariants as content
use Rattle.hla_base.specs.declared.number.EventHandle.{EventHandle}
use Rattle.hla_base.specs.declared.notice.Notice.{Notice}
use Rattle.hla_base.specs.declared.notice.NoticeKind.{NoticeKind}
use Rattle.hla_base.specs.declared.notice.NoticeKind.TheVariants as kind
use Rattle.hla_callbacks.specs.declared.callback.Delivery.{Delivery}
use Rattle.hla_catalogue.specs.CatalogueValue.{CatalogueValue}
use Rattle.hla_declaration.specs.Declarations as declared
use Rattle.hla_declaration.specs.Declarations.{DeclarationsValue}
use Rattle.hla_machine.specs.Registered.{RegistryValue}
use Rattle.hla_component_rules.specs.declared.control.Control.{Control}
use Rattle.hla_component_rules.specs.declared.control.Control.TheVariants.{ToDiscover, ToRetract, ToTell}
use Rattle.hla_component_rules.specs.LocalValue.{LocalValue, resigned_local}
use Rattle.hla_component_rules.specs.Telling.{local_told}
use Rattle.hla_component_rules.specs.declared.picked.Picked.{Picked}
use Rattle.hla_component_rules.specs.declared.picked.Picked.TheVariants as picked
use Rattle.hla_synchronization.specs.Points.{Point, new_point, is_open, closing, left_open, closing_of, notice, points_after_notice}
use Rattle.hla_synchronization.specs.OpenPoints.{members_in}
use Rattle.hla_machine.specs.Directory.{joined_federates, with_points}
use Rattle.hla_components.specs.Components.{Components}
use Rattle.hla_components.specs.Next.{with_directory, with_notices, with_point_opened, with_complete_closed, notice_callback, content_callback}
use Rattle.hla_components.specs.Locals.{callback_given, points_given}
use Rattle.hla_execution.specs.MemberValue.{MemberValue, MemberTables, members_of}
use Rattle.hla_members.specs.Members.{with_member_withdrawn}
use Rattle.hla_members.specs.Telling.{with_all_told, with_one_told}
use Rattle.hla_synchronization.specs.declared.open_points.OpenPoint.{OpenPoint}
use Rattle.hla_federation.specs.FederationValue.{FederationValue}
use Rattle.hla_federation.specs.Steps.State.{state_from, directory_from, AreWhole, IsNamed, IsWhole}
use Rattle.hla_federation.specs.Steps.Synchronizing.{points_told}
use Rattle.hla_federation.proofs.Steps.Wholes.{whole_same}

-- ---- a component that is told nothing
told_nothing : (l : LocalValue) → l ≡ local_told [] l
told_nothing l = ap (λ (cs : List Control). record l { controls = cs }) (sym (append-nil l.controls))

told_by : (notices : List Notice) (b : Bool) (l : LocalValue) → cond b (local_told notices l) l ≡ local_told (cond b notices []) l
told_by notices true l = refl
told_by notices false l = told_nothing l

-- what each that is joined is to be told, and what one
abbrev pub to_joined : (ℕ → Bool) → List Notice → ℕ → List Notice
to_joined joined notices g = cond (joined g) notices []

abbrev pub to_one : ℕ → List Notice → ℕ → List Notice
to_one f notices g = cond (eqb f g) notices []

all_told_as : (notices : List Notice) (m : MemberTables) → with_all_told notices m ≡ record m { local = λ g. local_told (to_joined m.joined notices g) (m.local g) }
all_told_as notices m = ap (λ (l : ℕ → LocalValue). record m { local = l }) (fun_ext (λ g. told_by notices (m.joined g) (m.local g)))

one_told_as : (f : ℕ) (notices : List Notice) (m : MemberTables) → with_one_told f notices m ≡ record m { local = λ g. local_told (to_one f notices g) (m.local g) }
unfolding upd
one_told_as f notices m = ap (λ (l : ℕ → LocalValue). record m { local = l }) (fun_ext (λ g. ⊎_elim
    (λ (y : eqb f g ≡ true). let e : f ≡ g = grind (arith, nat_tests) in rw y (ap (λ (k : ℕ). local_told notices (m.local k)) e))
    (λ (n : eqb f g ≡ false). rw n (told_nothing (m.local g)))
    (cases_Bool (eqb f g))))

pub whole_told : (c : CatalogueValue) (d : DeclarationsValue) (m : MemberTables) (notices : List Notice) → AreWhole c d m → AreWhole c d (with_all_told notices m)
whole_told c d m notices whole = subst (λ (t : MemberTables). AreWhole c d t) (sym (all_told_as notices m)) (whole_same c d m _ whole refl refl whole.unmet)

pub whole_one_told : (c : CatalogueValue) (d : DeclarationsValue) (m : MemberTables) (f : ℕ) (notices : List Notice) → AreWhole c d m → AreWhole c d (with_one_told f notices m)
whole_one_told c d m f notices whole = subst (λ (t : MemberTables). AreWhole c d t) (sym (one_told_as f notices m)) (whole_same c d m _ whole refl refl whole.unmet)

-- the lists are whole behind it
pub whole_as : (v : FederationValue) (ms : List MemberValue) (ps : List OpenPoint) (m : MemberTables) → members_of ms ≡ m → AreWhole v.catalogue (declared.declarations_of v.declarations) m
    → ((f : ℕ) → m.joined f ≡ true → (members_of v.members).joined f ≡ true) → IsNamed v → IsWhole (record v { members = ms; points = ps })
whole_as v ms ps m is parts joined named = record {
  parts = subst (λ (t : MemberTables). AreWhole v.catalogue (declared.declarations_of v.declarations) t) (sym is) parts;
  named = λ f y. named f (joined f (ap (λ (t : MemberTables). t.joined f) (sym is) ∙ y));
}

pub either_way : {X E P R Q : Type 0} (r : Result X E) → (P → Q) → (R → Q) → OnOk r P → OnErr r R → Q
either_way (Ok x) f g p e = f p
either_way (Err e) f g p r = g r

module _ (c : CatalogueValue) (points : List Point) (d : DeclarationsValue) (r : RegistryValue) (m : MemberTables) where
  pub all_told_state : (notices : List Notice) → state_from c points d r (with_all_told notices m) ≡ with_notices (state_from c points d r m) (to_joined m.joined notices)
  all_told_state notices = ap (λ (t : MemberTables). state_from c points d r t) (all_told_as notices m)

  pub one_told_state : (f : ℕ) (notices : List Notice) → state_from c points d r (with_one_told f notices m) ≡ with_notices (state_from c points d r m) (to_one f notices)
  one_told_state f notices = ap (λ (t : MemberTables). state_from c points d r t) (one_told_as f notices m)

told_twice : (s : Components) (first more : ℕ → List Notice) → with_notices (with_notices s first) more ≡ with_notices s (λ g. first g ++ more g)
told_twice s first more = ap (λ (cs : ℕ → List Control). record s { controls = cs }) (fun_ext (λ g. append_assoc (s.controls g) (map ToTell (first g)) (map ToTell (more g)) ∙ ap (λ (ks : List Control). s.controls g ++ ks) (sym (map-append ToTell (first g) (more g)))))

-- ---- a point opens, or one was open
module _ (c : CatalogueValue) (points : List Point) (d : DeclarationsValue) (r : RegistryValue) (m : MemberTables) (f : ℕ) (label : List ℕ) where
  abbrev s : Components
  s = state_from c points d r m

  abbrev announced : List Notice
  announced = notice kind.Announced label ∷ []

  abbrev succeeded : List Notice
  succeeded = notice kind.RegistrationSucceeded label ∷ []

  abbrev failed : List Notice
  failed = notice kind.RegistrationFailed label ∷ []

  abbrev opened : Bool → Components
  opened b = with_notices (with_directory s (with_points s.directory (cond b points (points ++ new_point label ∷ []))))
      (λ g. cond b (to_one f failed g) (to_one f succeeded g ++ to_joined m.joined announced g))

  pub failed_state : is_open label points ≡ true → state_from c points d r (with_one_told f failed m) ≡ with_point_opened s f label
  failed_state there = one_told_state c points d r m f failed ∙ ap opened (sym there)

  pub opened_state : is_open label points ≡ false → state_from c (points ++ new_point label ∷ []) d r (with_all_told announced (with_one_told f succeeded m)) ≡ with_point_opened s f label
  opened_state free =
      all_told_state c (points ++ new_point label ∷ []) d r (with_one_told f succeeded m) announced
      ∙ ap (λ (t : Components). with_notices t (to_joined m.joined announced)) (one_told_state c (points ++ new_point label ∷ []) d r m f succeeded)
      ∙ told_twice (with_directory s (with_points s.directory (points ++ new_point label ∷ []))) (to_one f succeeded) (to_joined m.joined announced)
      ∙ ap opened (sym free)

-- ---- points close
members_listed : (joined : ℕ → Bool) (n k : ℕ) → n ≤ k → ((g : ℕ) → n ≤ g → joined g ≡ false) → filter joined (numbers_below k) ≡ filter joined (numbers_below n)
unfolding numbers_below
members_listed joined n zero below away = let none : n ≡ 0 = omega arith in rw none refl
members_listed joined n (suc k) below away = ⊎_elim
    (λ (e : n ≡ suc k). rw e refl)
    (λ (ne : n ≢ suc k). let within : n ≤ k = omega (arith, ne) in filter-append joined (numbers_below k) (k ∷ []) ∙ rw (away k within) (append-nil (filter joined (numbers_below k)) ∙ members_listed joined n k within away))
    (cases_eq n (suc k))

pub members_are : (c : CatalogueValue) (points : List Point) (d : DeclarationsValue) (r : RegistryValue) (m : MemberTables) (set : ℕ) → m.next_federate ≤ max_joins + 1 → ((g : ℕ) → m.next_federate ≤ g → m.joined g ≡ false)
    → federate_set set ≡ m.joined → members_in set ≡ joined_federates (directory_from c points d r m)
members_are c points d r m set few away is = ap (λ (j : ℕ → Bool). filter j (numbers_below (max_joins + 1))) is ∙ members_listed m.joined m.next_federate (max_joins + 1) few away

pub closed_state : (c : CatalogueValue) (points : List Point) (d : DeclarationsValue) (r : RegistryValue) (m : MemberTables) (ms : List ℕ) → ms ≡ joined_federates (directory_from c points d r m)
    → state_from c (left_open ms points) d r (with_all_told (map closing_of (closing ms points)) m) ≡ with_complete_closed (state_from c points d r m)
closed_state c points d r m ms is =
    let s = state_from c points d r m in
    all_told_state c (left_open ms points) d r m (map closing_of (closing ms points))
    ∙ ap (λ (xs : List ℕ). with_notices (with_directory s (with_points s.directory (left_open xs points))) (to_joined m.joined (map closing_of (closing xs points)))) is

-- ---- who resigns is told nothing more
resigned_by : (notices : List Notice) (b : Bool) (l : LocalValue) → resigned_local (cond b (local_told notices l) l) ≡ resigned_local l
resigned_by notices true l = refl
resigned_by notices false l = refl

pub withdrawn_told : (notices : List Notice) (m : MemberTables) (f : ℕ) → with_all_told notices (with_member_withdrawn m f) ≡ with_member_withdrawn (with_all_told notices m) f
unfolding upd
withdrawn_told notices m f = ap (λ (l : ℕ → LocalValue). record (with_member_withdrawn m f) { local = l }) (fun_ext (λ g. ⊎_elim
    (λ (y : eqb f g ≡ true). rw y (sym (resigned_by notices (m.joined f) (m.local f))))
    (λ (n : eqb f g ≡ false). rw n refl)
    (cases_Bool (eqb f g))))

pub withdrawn_away : (joined : ℕ → Bool) (n f : ℕ) → ((g : ℕ) → n ≤ g → joined g ≡ false) → (g : ℕ) → n ≤ g → upd joined f false g ≡ false
unfolding upd
withdrawn_away joined n f away g beyond = ⊎_elim
    (λ (y : eqb f g ≡ true). rw y refl)
    (λ (x : eqb f g ≡ false). rw x (away g beyond))
    (cases_Bool (eqb f g))

-- ---- a newcomer
pub told_newcomer : (controls : ℕ → List Control) (n : ℕ) (notices : List Notice) → controls n ≡ [] → (λ g. controls g ++ map ToTell (cond (eqb n g) notices [])) ≡ upd controls n (map ToTell notices)
unfolding upd
told_newcomer controls n notices none = fun_ext (λ g. ⊎_elim
    (λ (y : eqb n g ≡ true). let e : n ≡ g = grind (arith, nat_tests) in let here : controls g ≡ [] = ap controls (sym e) ∙ none in rw (y, here) refl)
    (λ (x : eqb n g ≡ false). rw x (append-nil (controls g)))
    (cases_Bool (eqb n g)))

-- ---- who was told, by the callback
told_kind : (f : ℕ) (k : NoticeKind) (label : List ℕ) (points : List Point) → points_told f (Some (notice_callback k label)) points ≡ points_after_notice f (record { kind = k; label = label }) points
told_kind f kind.RegistrationSucceeded label points = refl
told_kind f kind.RegistrationFailed label points = refl
told_kind f kind.Announced label points = refl
told_kind f kind.Synchronized label points = refl

told_event : (f : ℕ) (dl : Delivery) (h : EventHandle) (x : Content) (points : List Point) → points_told f (Some (content_callback dl h x)) points ≡ points
told_event f dl h (content.Interaction class values) points = refl
told_event f dl h (content.Reflection object values) points = refl
told_event f dl h (content.Removal object) points = refl

pub told_as : (f : ℕ) (p : Picked) (points : List Point) → points_told f (callback_given p) points ≡ points_given f p points
told_as f picked.Nothing points = refl
told_as f (picked.Control (ToDiscover from x)) points = refl
told_as f (picked.Control (ToRetract e)) points = refl
told_as f (picked.Control (ToTell n)) points = told_kind f n.kind n.label points
told_as f (picked.Received e) points = told_event f _ _ e.content points
told_as f (picked.Regulation t) points = refl
told_as f (picked.Constraint t) points = refl
told_as f (picked.Ordered e) points = told_event f _ _ e.content points
told_as f (picked.Grant t) points = refl
