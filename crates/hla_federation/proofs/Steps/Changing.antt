-- The parts after one component changed, and what a component would pick up
use Rattle.std.proofs.Common.{◌≡◌, ℕ, true, None, List, Result, Ok, Err, IsErr, IsErrAnd, refl, sym, ap, subst, ◌∙◌}
use Rattle.hla_base.specs.declared.content.Event.{Event}
use Rattle.hla_base.specs.declared.fault.Fault.{Fault}
use Rattle.hla_base.specs.declared.row.AdvanceKind.{AdvanceKind}
use Rattle.hla_base.specs.declared.row.AdvanceKind.TheVariants as kind
use Rattle.hla_base.specs.declared.row.TimeRow.{TimeRow}
use Rattle.hla_base.specs.Tables.{upd}
use Rattle.hla_base.specs.Rows.{row_after_request}
use Rattle.hla_base.specs.RowRefusals.{first_fault, request_tests}
use Rattle.hla_catalogue.specs.CatalogueValue.{CatalogueValue}
use Rattle.hla_declaration.specs.Declarations as declared
use Rattle.hla_declaration.specs.Declarations.{DeclarationsValue}
use Rattle.hla_machine.specs.Registered.{RegistryValue, registry_of}
use Rattle.hla_lbts.specs.Peers.{peers_of}
use Rattle.hla_component_rules.specs.LocalValue.{LocalValue}
use Rattle.hla_component_rules.specs.declared.picked.NextPick.TheVariants as following
use Rattle.hla_component_rules.specs.Picking.{Pick, NoPick, PickControl, PickRo, PickRegulates, PickConstrains, PickTso, PickGrant, next_pick_by}
use Rattle.hla_machine.specs.declared.service.Service.TheVariants as service
use Rattle.hla_machine.specs.declared.step.Choice.TheVariants as choice
use Rattle.hla_machine.specs.declared.step.Step.TheVariants.{Call}
use Rattle.hla_machine.specs.Refusals.{Seen, refusal}
use Rattle.hla_components.specs.Components.{Components}
use Rattle.hla_components.specs.Locals.{choice_given}
use Rattle.hla_components.specs.Next.{next, with_row, done_outcome, components_seen}
use Rattle.hla_synchronization.specs.OpenPoints.{points_of}
use Rattle.hla_synchronization.specs.Points.{Point}
use Rattle.hla_federation.specs.FederationValue.{FederationValue}
use Rattle.hla_execution.specs.MemberValue.{MemberValue, MemberTables, members_of}
use Rattle.hla_members.specs.Members.{with_component}
use Rattle.hla_machine.specs.Advancing.{request_service}
use Rattle.hla_federation.specs.Steps.State.{state_of, state_from, IsWhole, IsUnmet}
use Rattle.hla_members.proofs.MemberTables.{upd-self, upd-field}
use Rattle.hla_federation.proofs.Steps.Wholes.{whole_same, unmet_with}
use Rattle.hla_federation.proofs.Steps.Doing.{does_next}

-- ---- what only the row, the last announcement and the epoch of a component say
module _ (c : CatalogueValue) (points : List Point) (d : DeclarationsValue) (r : RegistryValue) (m : MemberTables) (f : ℕ) where
  abbrev s : Components
  s = state_from c points d r m

  pub kept : {X : Type 0} (p : LocalValue → X) (l : LocalValue) → p l ≡ p (m.local f) → ◌≡◌ {A = ℕ → X} (λ g. p (upd m.local f l g)) (λ g. p (m.local g))
  kept p l is = upd-field p m.local f l ∙ upd-self (λ g. p (m.local g)) f (p l) is

  pub roles_changed : (row : TimeRow) (announced epoch : ℕ) → state_from c points d r (with_component m f (record (m.local f) { row = row; last_announced = announced; epoch = epoch }))
      ≡ record s { row = upd s.row f row; last_announced = upd s.last_announced f announced; epoch = upd s.epoch f epoch }
  roles_changed row announced epoch = let l = record (m.local f) { row = row; last_announced = announced; epoch = epoch } in λ i. record s {
    row = upd-field (λ (x : LocalValue). x.row) m.local f l i;
    ro = kept (λ (x : LocalValue). x.ro) l refl i;
    tso = kept (λ (x : LocalValue). x.tso) l refl i;
    controls = kept (λ (x : LocalValue). x.controls) l refl i;
    bound = kept (λ (x : LocalValue). (peers_of x.peers).bound) l refl i;
    known_epoch = kept (λ (x : LocalValue). (peers_of x.peers).known_epoch) l refl i;
    last_announced = upd-field (λ (x : LocalValue). x.last_announced) m.local f l i;
    epoch = upd-field (λ (x : LocalValue). x.epoch) m.local f l i;
  }

  pub announced_changed : (row : TimeRow) (announced : ℕ) → state_from c points d r (with_component m f (record (m.local f) { row = row; last_announced = announced }))
      ≡ record s { row = upd s.row f row; last_announced = upd s.last_announced f announced }
  announced_changed row announced = roles_changed row announced (m.local f).epoch
      ∙ (λ i. record s { row = upd s.row f row; last_announced = upd s.last_announced f announced; epoch = upd-self s.epoch f (s.epoch f) refl i })

  pub row_changed : (row : TimeRow) → state_from c points d r (with_component m f (record (m.local f) { row = row })) ≡ with_row s f row
  row_changed row = announced_changed row (m.local f).last_announced
      ∙ (λ i. record s { row = upd s.row f row; last_announced = upd-self s.last_announced f (s.last_announced f) refl i })

  -- what waits goes from one queue to the other
  pub queues_changed : (row : TimeRow) (ro tso : List Event) → state_from c points d r (with_component m f (record (m.local f) { row = row; ro = ro; tso = tso }))
      ≡ record s { row = upd s.row f row; ro = upd s.ro f ro; tso = upd s.tso f tso }
  queues_changed row ro tso = let l = record (m.local f) { row = row; ro = ro; tso = tso } in λ i. record s {
    row = upd-field (λ (x : LocalValue). x.row) m.local f l i;
    ro = upd-field (λ (x : LocalValue). x.ro) m.local f l i;
    tso = upd-field (λ (x : LocalValue). x.tso) m.local f l i;
    controls = kept (λ (x : LocalValue). x.controls) l refl i;
    bound = kept (λ (x : LocalValue). (peers_of x.peers).bound) l refl i;
    known_epoch = kept (λ (x : LocalValue). (peers_of x.peers).known_epoch) l refl i;
    last_announced = kept (λ (x : LocalValue). x.last_announced) l refl i;
    epoch = kept (λ (x : LocalValue). x.epoch) l refl i;
  }

-- ---- the parts after one component changed that knows no more of its peers
module _ (v : FederationValue) (f : ℕ) (l : LocalValue) (ms : List MemberValue) (is : members_of ms ≡ with_component (members_of v.members) f l) where
  pub component_whole : IsWhole v → l.peers ≡ ((members_of v.members).local f).peers → IsWhole (record v { members = ms })
  component_whole whole same = record {
    parts = whole_same _ _ (members_of v.members) (members_of ms) whole.parts (ap (λ (t : MemberTables). t.next_federate) is) (ap (λ (t : MemberTables). t.joined) is)
        (λ k g beyond. subst (λ (t : MemberTables). IsUnmet (peers_of (t.local k).peers) g) (sym is)
        (unmet_with (members_of v.members).local f l g (rw same (whole.parts.unmet f g beyond)) (λ j. whole.parts.unmet j g beyond) k));
    named = λ g y. whole.named g (ap (λ (t : MemberTables). t.joined g) (sym is) ∙ y);
  }

  pub component_state : state_of (record v { members = ms }) ≡ state_from v.catalogue (points_of v.points) (declared.declarations_of v.declarations) (registry_of v.objects) (with_component (members_of v.members) f l)
  component_state = ap (λ (t : MemberTables). state_from v.catalogue (points_of v.points) (declared.declarations_of v.declarations) (registry_of v.objects) t) is

-- of a row alone
pub row_state : (v : FederationValue) (f : ℕ) (row : TimeRow) (ms : List MemberValue) → members_of ms ≡ with_component (members_of v.members) f (record ((members_of v.members).local f) { row = row })
    → with_row (state_of v) f row ≡ state_of (record v { members = ms })
row_state v f row ms is = sym (component_state v f (record ((members_of v.members).local f) { row = row }) ms is ∙ row_changed v.catalogue (points_of v.points) (declared.declarations_of v.declarations) (registry_of v.objects) (members_of v.members) f row)

-- ---- the requests
pub request_refusal : (s : Seen) (f : ℕ) (k : AdvanceKind) (a : ℕ) → s.directory.joined f ≡ true → refusal s (Call f (request_service k a)) ≡ first_fault (request_tests (s.row f) a)
request_refusal s f kind.TimeAdvance a joined = rw joined refl
request_refusal s f kind.TimeAdvanceAvailable a joined = rw joined refl
request_refusal s f kind.NextEvent a joined = rw joined refl
request_refusal s f kind.NextEventAvailable a joined = rw joined refl
request_refusal s f kind.FlushQueue a joined = rw joined refl

pub request_next : (s : Components) (f : ℕ) (k : AdvanceKind) (a : ℕ) → refusal (components_seen s) (Call f (request_service k a)) ≡ None
    → next s (Call f (request_service k a)) ≡ done_outcome (with_row s f (row_after_request (s.row f) k a))
request_next s f kind.TimeAdvance a none = does_next s (Call f (service.TimeAdvanceRequest a)) none
request_next s f kind.TimeAdvanceAvailable a none = does_next s (Call f (service.TimeAdvanceRequestAvailable a)) none
request_next s f kind.NextEvent a none = does_next s (Call f (service.NextEventRequest a)) none
request_next s f kind.NextEventAvailable a none = does_next s (Call f (service.NextEventRequestAvailable a)) none
request_next s f kind.FlushQueue a none = does_next s (Call f (service.FlushQueueRequest a)) none

-- ---- what was handed on
pub handed_on : {X : Type 0} (e : Fault) (r : Result X Fault) (P : Result X Fault → Type 0) → IsErr r × IsErrAnd r (λ x. x ≡ e) → P (Err e) → P r
handed_on e (Ok x) P is p = let no = is.0 in absurd (cc)
handed_on e (Err x) P is p = subst (λ (y : Fault). P (Err y)) (sym is.1) p

-- ---- what would be picked up
pub constrains : (p : Pick) → next_pick_by p ≡ following.Constraint → p ≡ PickConstrains
constrains PickConstrains is = refl
constrains NoPick is = absurd (cc)
constrains (PickControl k rest) is = absurd (cc)
constrains (PickRo e rest) is = absurd (cc)
constrains PickRegulates is = absurd (cc)
constrains (PickTso q e rest) is = absurd (cc)
constrains (PickGrant q t) is = absurd (cc)

pub nothing_moves : (l : LocalValue) (p : Pick) → (next_pick_by p ≡ following.Constraint → ⊥) → choice_given l p ≡ choice.None
nothing_moves l PickConstrains other = absurd (other refl)
nothing_moves l NoPick other = refl
nothing_moves l (PickControl k rest) other = refl
nothing_moves l (PickRo e rest) other = refl
nothing_moves l PickRegulates other = refl
nothing_moves l (PickTso q e rest) other = refl
nothing_moves l (PickGrant q t) other = refl
