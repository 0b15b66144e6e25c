-- What a component's stale bound says of the central state
use Rattle.std.proofs.Common.{◌≡◌, ◌≢◌, ◌⊎◌, ℕ, ◌-◌, ◌≤◌, ◌<◌, cond, Bool, true, false, refl, le_trans, inl, inr, ⊎_elim, arith, List, Option, Some, None}
use Rattle.std.proofs.lemmas.Bool.{cases_lt, and_from, and_parts, cases_Bool, ltb-true}
use Rattle.std.proofs.lemmas.Bool.Decides.{nat_tests}
use Rattle.hla_base.specs.declared.content.Event.{Event}
use Rattle.hla_base.specs.declared.row.AdvanceRequest.{AdvanceRequest}
use Rattle.hla_null_message.specs.declared.message.Message.{Message}
use Rattle.hla_base.specs.Tables.{is_other}
use Rattle.hla_base.specs.Rows.{next_request, width}
use Rattle.hla_machine.specs.Central.{Copy, Ro, Tso, Demoted, BelowAllTso, BelowWake, BelowRequest, BelowOut, BelowBound}
use Rattle.hla_component_rules.specs.Queues.{find_event, first_stamp}
use Rattle.hla_null_message.specs.Wires.{events}
use Rattle.hla_components.specs.Components.{Components}
use Rattle.hla_null_message.specs.Promise.{promise_in, least_wake}
use Rattle.hla_components.specs.Component.{promise, local_bound}
use Rattle.hla_components.specs.CentralOf.{wire_copy, tso_copy, ro_copy, copy_among, central}
use Rattle.hla_components.specs.Invariant.{stamps, Kept, IsWired, is_wire}
use Rattle.hla_machine.proofs.Basics.Bags.{or_else-cases, option_map-some}
use Rattle.hla_base.proofs.Tables.{least_le, least_le-forever}
use Rattle.hla_components.proofs.Wiring.Carries.{Carries-find, Carries-bound}
use Rattle.hla_components.proofs.Wiring.Queues.{find-first_stamp, not_in_nil}
use Rattle.hla_components.proofs.Wiring.Wires.{events-nil}

-- where a copy in the bag is
pub copy_cases : (g m : ℕ) (ms : List Message) (tso ro : List Event) (c : Copy) → copy_among g m ms tso ro ≡ Some c
    → ((e : Event) × (find_event g m (events ms) ≡ Some e) × (wire_copy e ≡ c)) ⊎ (((e : Event) × (find_event g m tso ≡ Some e) × (tso_copy e ≡ c)) ⊎ ((e : Event) × (find_event g m ro ≡ Some e) × (ro_copy e ≡ c)))
copy_cases g m ms tso ro c h = ⊎_elim
    (λ a. inl (option_map-some wire_copy (find_event g m (events ms)) c a))
    (λ b. inr (⊎_elim
    (λ a. inl (option_map-some tso_copy (find_event g m tso) c a))
    (λ a. inr (option_map-some ro_copy (find_event g m ro) c a))
    (or_else-cases _ _ c b)))
    (or_else-cases _ _ c h)

pub other_from : (joined : ℕ → Bool) (g f : ℕ) → g ≢ f → joined f ≡ true → is_other joined g f ≡ true
other_from joined g f ne l = grind (arith, nat_tests)

-- what lies on a wire comes from one that joined once
pub on_wire : (s : Components) (g f m : ℕ) (e : Event) → IsWired s.directory s.wire → find_event g m (events (s.wire g f)) ≡ Some e → is_wire s.directory g f ≡ true
on_wire s g f m e wired found = ⊎_elim
    (λ (y : is_wire s.directory g f ≡ true). y)
    (λ (n : is_wire s.directory g f ≡ false). absurd (not_in_nil g m (rw (wired g f n, events-nil) at found)))
    (cases_Bool (is_wire s.directory g f))

pub wire_from : (s : Components) (g f : ℕ) → is_wire s.directory g f ≡ true → g < s.directory.next_federate
wire_from s g f w = ltb-true _ _ (and_parts _ _ w).0

-- an event in time-stamp order on a wire is at or above the bound
pub wire_above : (s : Components) (g f m : ℕ) (e : Event) → Kept s → find_event g m (events (s.wire g f)) ≡ Some e → e.ordered ≡ true → local_bound s f ≤ e.stamp
wire_above s g f m e kept found o = le_trans (least_le s.directory.next_federate (s.bound f) g (wire_from s g f (on_wire s g f m e kept.wired found)))
    (Carries-find _ (s.last_announced g) (s.known_epoch f g) g (stamps s g) (s.serial g) (s.wire g f) (s.bound f g) m e (kept.time.wires g f) found o)

tso_when : (b : Bool) → cond b Tso Ro ≡ Tso → b ≡ true
tso_when true h = refl
tso_when false h = absurd (cc)

demoted_when : (b : Bool) → cond b Demoted Ro ≡ Tso → ⊥
demoted_when true h = cc
demoted_when false h = cc

pub tso_of_copy : (e : Event) → (wire_copy e).order ≡ Tso → e.ordered ≡ true
tso_of_copy e h = tso_when e.ordered h

pub not_ro_copy : (e : Event) → (ro_copy e).order ≡ Tso → ⊥
not_ro_copy e h = demoted_when e.ordered h

pub below_all : (s : Components) (f x : ℕ) → Kept s → x ≤ first_stamp (s.tso f) → x ≤ local_bound s f → BelowAllTso (central s) f x
below_all s f x kept q b g m c is live tso = ⊎_elim
    (λ (w : (e : Event) × (find_event g m (events (s.wire g f)) ≡ Some e) × (wire_copy e ≡ c)).
    rw (← w.2) (le_trans b (wire_above s g f m w.0 kept w.1 (tso_of_copy w.0 (rw (← w.2) at tso)))))
    (⊎_elim
    (λ (w : (e : Event) × (find_event g m (s.tso f) ≡ Some e) × (tso_copy e ≡ c)). rw (← w.2) (le_trans q (find-first_stamp g m w.0 (s.tso f) (kept.time.queues f) w.1)))
    (λ (w : (e : Event) × (find_event g m (s.ro f) ≡ Some e) × (ro_copy e ≡ c)). absurd (not_ro_copy w.0 (rw (← w.2) at tso))))
    (copy_cases g m (s.wire g f) (s.tso f) (s.ro f) c is)

-- a promise is at most what may still be sent
pub below_wake : (s : Components) (g : ℕ) (q : AdvanceRequest) (first : Option ℕ) (x : ℕ) → Kept s → x ≤ least_wake first q.asked (first_stamp (s.tso g)) (local_bound s g) → BelowWake (BelowAllTso (central s) g) q first x
below_wake s g q (Some p) x kept h = omega arith
below_wake s g q None x kept h = (omega arith, below_all s g x kept (omega arith) (omega arith))

below_request : (s : Components) (g : ℕ) (o : Option AdvanceRequest) (v : ℕ) → Kept s → v ≤ promise_in (s.row g) o (first_stamp (s.tso g)) (local_bound s g)
    → (v ≤ (s.row g).floor) ⊎ BelowRequest (BelowAllTso (central s) g) (s.row g) o v
below_request s g None v kept h = inl h
below_request s g (Some q) v kept h = ⊎_elim
    (λ (l : (s.row g).floor < v). inr (v - width (s.row g).lookahead q.kind, omega arith, below_wake s g q (s.row g).first_pick (v - width (s.row g).lookahead q.kind) kept (omega arith)))
    (λ (l : v ≤ (s.row g).floor). inl l)
    (cases_lt (s.row g).floor v)

pub below_out : (s : Components) (g v : ℕ) → Kept s → v ≤ promise s g → BelowOut (BelowAllTso (central s) g) (s.row g) v
below_out s g v kept h = below_request s g (next_request (s.row g)) v kept h

-- the local bound is at most the bound
pub below_bound : (s : Components) (f v : ℕ) → Kept s → s.directory.joined f ≡ true → v ≤ local_bound s f → BelowBound (central s) f v
below_bound s f v kept b h = (
  omega (arith, least_le-forever s.directory.next_federate (s.bound f)),
  λ g j ne reg.
      below_out s g v kept (omega (
        arith,
        least_le s.directory.next_federate (s.bound f) g (kept.directory.members g j),
        kept.time.promised g reg,
        Carries-bound _ (s.last_announced g) (s.known_epoch f g) g (stamps s g) (s.serial g) (s.wire g f) (s.bound f g) (kept.time.wires g f) (and_from _ _ reg (other_from s.directory.joined g f ne b)),
      )),
)
