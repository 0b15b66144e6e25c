-- What tests of a carry or a call tell
use Rattle.std.proofs.Common.{◌≡◌, ℕ, zero, suc, ◌+◌, ◌<◌, ◌≤◌, length, cond, ltb, not, ◌||◌, arith, Bool, true, false, List, Option, Some, None, refl, sym, ◌∙◌, ap, subst, ⊎_elim}
use Rattle.std.specs.Bool.{Decides}
use Rattle.std.proofs.lemmas.Bool.{cases_lt}
use mathlib.Core.Bool.{false≢true}
use Rattle.hla_base.specs.declared.fault.Fault.{Fault}
use Rattle.hla_base.specs.declared.fault.Fault.TheVariants as fault
use Rattle.hla_base.specs.RowRefusals.{first_fault, request_tests, lookahead_tests}
use Rattle.hla_base.specs.declared.row.AdvanceKind.TheVariants as kind
use Rattle.hla_machine.proofs.Basics.Tests.{all_clear}
use Rattle.std.proofs.lemmas.Bool.Decides.{nat_tests}
use Rattle.hla_base.specs.declared.number.EventHandle.{EventHandle}
use Rattle.hla_base.specs.declared.row.TimeRow.{TimeRow}
use Rattle.hla_base.specs.Limits.{max_time}
use Rattle.hla_machine.specs.declared.service.Service.{Service}
use Rattle.hla_machine.specs.declared.service.Service.TheVariants as service
use Rattle.hla_machine.specs.declared.step.Step.TheVariants.{Call, Carry}
use Rattle.hla_machine.specs.declared.step.Carried.{Carried}
use Rattle.hla_machine.specs.declared.step.Carried.TheVariants as carried
use Rattle.hla_machine.specs.declared.step.Answer.{Answer}
use Rattle.hla_machine.specs.declared.step.Answer.TheVariants as answer
use Rattle.hla_machine.specs.declared.step.Outcome.{Outcome}
use Rattle.hla_machine.specs.declared.step.Outcome.TheVariants as outcome
use Rattle.hla_machine.specs.declared.step.Choice.{Choice}
use Rattle.hla_machine.specs.declared.step.Choice.TheVariants as choice
use Rattle.hla_machine.specs.Directory.{Directory}
use Rattle.hla_machine.specs.Central.{Central}
use Rattle.hla_machine.specs.Refusals.{Seen, call_tests, refusal}
use Rattle.hla_machine.specs.Callbacks.{with_central_row}
use Rattle.hla_machine.specs.Machine.{Allowed, IsChoice, IsServiceChoice, MayAnswer, MayCarry, MayDo, after, after_arrival, after_retraction_arrival, after_call, after_carry, after_done, central_seen}
use Rattle.hla_accounts.specs.declared.account.Account.{Account}
use Rattle.hla_accounts.specs.declared.row_change.RowChange.{RowChange}
use Rattle.hla_accounts.specs.declared.row_change.RowChange.TheVariants.{Request, CeaseRegulation, AskConstraint, SetLookahead, SetAsynchronous}
use Rattle.hla_accounts.specs.Accounts.{account_at, central_with}
use Rattle.hla_accounts.specs.RowChanges.{changed_row, MayChangeRow}
use Rattle.hla_accounts.proofs.AfterSteps.Accounts.{account_at-past}
use Rattle.hla_verdicts.specs.declared.verdict.Verdict.{Verdict}
use Rattle.hla_verdicts.specs.declared.verdict.Verdict.TheVariants as verdict
use Rattle.hla_verdicts.specs.Verdicts.{Judged}
use Rattle.hla_verdicts.specs.Answers.{carried_in}
use Rattle.hla_verdicts.specs.RowServices.{row_change_of, row_tests}
use Rattle.hla_verdicts.proofs.Steps.Outcomes.{JudgedCentral}

-- ---- who is joined has an account
pub joined_within : (accounts : List Account) (f : ℕ) → (account_at accounts f).is_joined ≡ true → (0 < f) × (f ≤ length accounts)
joined_within accounts zero is = absurd (false≢true is)
joined_within accounts (suc k) is = (
  omega arith,
  ⊎_elim
      (λ (past : length accounts < suc k). absurd (false≢true (sym (ap (λ (a : Account). a.is_joined) (account_at-past accounts (suc k) past)) ∙ is)))
      (λ (within : suc k ≤ length accounts). within)
      (cases_lt (length accounts) (suc k)),
)

-- ---- carries
carries : (c : Central) (g f : ℕ) (a : Answer) (x : Carried) → carried_in a ≡ Some x → MayCarry c g f x → MayDo c (Carry g f) a choice.None
carries c g f (answer.Carried y) x is may = let same : y ≡ x = cc in subst (λ (z : Carried). MayCarry c g f z) (sym same) may
carries c g f a x is may = cc

carried_so : (c : Central) (g f : ℕ) (a : Answer) (x : Option Carried) → carried_in a ≡ x → MayDo c (Carry g f) a choice.None → (y : Carried) × (x ≡ Some y) × MayCarry c g f y
carried_so c g f (answer.Carried y) x is may = (y, sym is, may)
carried_so c g f a x is may = absurd may

carried_after : (c : Central) (g f : ℕ) (a : Answer) (x : Carried) → carried_in a ≡ Some x → after_done c (Carry g f) a choice.None ≡ after_carry c g f x
carried_after c g f (answer.Carried y) x is = let same : y ≡ x = cc in ap (after_carry c g f) same
carried_after c g f a x is = cc

abbrev pub JudgedCarry : Central → ℕ → ℕ → Answer → Central → Verdict → Type 0
JudgedCarry c g f a d v = Judged (MayDo c (Carry g f) a choice.None) (d ≡ after_done c (Carry g f) a choice.None) v

pub carry_else : (c d : Central) (g f : ℕ) (a : Answer) → carried_in a ≡ None → JudgedCarry c g f a d verdict.Wrong
carry_else c d g f a is = λ may. (let there = carried_so c g f a None is may in let e = there.1 in cc)

pub carry_wrong : (c d : Central) (g f : ℕ) (a : Answer) (x : Carried) (b : Bool) → carried_in a ≡ Some x → Decides b (MayCarry c g f x) → b ≡ false → JudgedCarry c g f a d verdict.Wrong
carry_wrong c d g f a x b is tests not_so =
    λ may. (let there = carried_so c g f a (Some x) is may in let e = there.1 in let same : x ≡ there.0 = cc in
    false≢true (sym not_so ∙ tests.1 (subst (λ (z : Carried). MayCarry c g f z) (sym same) there.2)))

pub carry_taken : (c d : Central) (g f : ℕ) (a : Answer) (x : Carried) → carried_in a ≡ Some x → MayCarry c g f x → d ≡ after_carry c g f x → JudgedCarry c g f a d verdict.Allowed
carry_taken c d g f a x is may after = (carries c g f a x is may, after ∙ sym (carried_after c g f a x is))

carry_by : (c d : Central) (g f : ℕ) (a : Answer) (v : Verdict) → refusal (central_seen c) (Carry g f) ≡ None → JudgedCarry c g f a d v → JudgedCentral c (Carry g f) (outcome.Done a) choice.None d v
carry_by c d g f a verdict.Allowed none is = (((none, is.0), refl), is.1)
carry_by c d g f a verdict.Wrong none is = λ allowed. is allowed.0.1

pub carry_told : (c d : Central) (g f : ℕ) (found : Option Fault) (a : Answer) (out : Outcome) (o : Choice) (v : Verdict) → found ≡ refusal (central_seen c) (Carry g f) → found ≡ None → out ≡ outcome.Done a → o ≡ choice.None
    → JudgedCarry c g f a d v → JudgedCentral c (Carry g f) out o d v
carry_told c d g f found a out o v is none ended plain judged =
    subst (λ (x : Choice). JudgedCentral c (Carry g f) out x d v) (sym plain)
    (subst (λ (t : Outcome). JudgedCentral c (Carry g f) t choice.None d v) (sym ended) (carry_by c d g f a v (sym is ∙ none) judged))

pub carry_room : (joined apart away known : Bool) → cond (not joined || apart || away || known) (Some fault.FederateNotExecutionMember) None ≡ None → joined ≡ true
carry_room true apart away known is = refl
carry_room false apart away known is = cc

-- what arrives is from the sender
pub event_arrived : (c d : Central) (g f : ℕ) (x : Carried) (e : EventHandle) → x ≡ carried.Event e → MayCarry c g f x → d ≡ after_arrival c e.sender f e.serial → d ≡ after_carry c g f x
event_arrived c d g f x e is may after =
    let sender : e.sender ≡ g = (subst (λ (y : Carried). MayCarry c g f y) is may).0 in
    after ∙ ap (λ h. after_arrival c h f e.serial) sender ∙ sym (ap (after_carry c g f) is)

pub removal_arrived : (c d : Central) (g f : ℕ) (x : Carried) (e : EventHandle) → x ≡ carried.Removal e → MayCarry c g f x → d ≡ after_arrival c e.sender f e.serial → d ≡ after_carry c g f x
removal_arrived c d g f x e is may after =
    let sender : e.sender ≡ g = (subst (λ (y : Carried). MayCarry c g f y) is may).0 in
    after ∙ ap (λ h. after_arrival c h f e.serial) sender ∙ sym (ap (after_carry c g f) is)

pub retraction_arrived : (c d : Central) (g f : ℕ) (x : Carried) (e : EventHandle) → x ≡ carried.Retraction e → MayCarry c g f x → d ≡ after_retraction_arrival c e.sender f e.serial → d ≡ after_carry c g f x
retraction_arrived c d g f x e is may after =
    let sender : e.sender ≡ g = (subst (λ (y : Carried). MayCarry c g f y) is may).0 in
    after ∙ ap (λ h. after_retraction_arrival c h f e.serial) sender ∙ sym (ap (after_carry c g f) is)

-- ---- calls of federates that are not joined
stranger_refused : (s : Seen) (f : ℕ) (x : Service) → s.directory.joined f ≡ false → refusal s (Call f x) ≡ Some fault.FederateNotExecutionMember
stranger_refused s f x is = ap (λ (b : Bool). cond (not b) (Some fault.FederateNotExecutionMember) (first_fault (call_tests s f x))) is

stranger_allowed : (c : Central) (f : ℕ) (x : Service) (out : Outcome) (o : Choice) → c.directory.joined f ≡ false → Allowed c (Call f x) out o → (out ≡ outcome.Refused fault.FederateNotExecutionMember) × (o ≡ choice.None)
stranger_allowed c f x (outcome.Done a) o is allowed = absurd (apart (sym (stranger_refused (central_seen c) f x is) ∙ allowed.0.0))
  where
    apart : Some fault.FederateNotExecutionMember ≡ None → ⊥
    apart e = cc
stranger_allowed c f x (outcome.Refused e) o is allowed =
    (let both : Some fault.FederateNotExecutionMember ≡ Some e = sym (stranger_refused (central_seen c) f x is) ∙ allowed.0 in let same : e ≡ fault.FederateNotExecutionMember = cc in ap outcome.Refused same, allowed.1)
stranger_allowed c f x (outcome.Failed k) o is allowed = absurd allowed.0

stranger_by : (c : Central) (f : ℕ) (x : Service) (out : Outcome) (o : Choice) (b : Bool) → c.directory.joined f ≡ false → Decides b ((out ≡ outcome.Refused fault.FederateNotExecutionMember) × (o ≡ choice.None))
    → JudgedCentral c (Call f x) out o c (cond b verdict.Allowed verdict.Wrong)
stranger_by c f x out o true is tests =
    subst (λ (t : Outcome). Allowed c (Call f x) t o × (c ≡ after c (Call f x) t o)) (sym (tests.0 refl).0) ((stranger_refused (central_seen c) f x is, (tests.0 refl).1), refl)
stranger_by c f x out o false is tests = λ allowed. false≢true (tests.1 (stranger_allowed c f x out o is allowed))

pub stranger_told : (c : Central) (f : ℕ) (x : Service) (out : Outcome) (o : Choice) (b : Bool) (v : Verdict) → c.directory.joined f ≡ false → Decides b ((out ≡ outcome.Refused fault.FederateNotExecutionMember) × (o ≡ choice.None))
    → v ≡ cond b verdict.Allowed verdict.Wrong → JudgedCentral c (Call f x) out o c v
stranger_told c f x out o b v is tests told = subst (λ (w : Verdict). JudgedCentral c (Call f x) out o c w) (sym told) (stranger_by c f x out o b is tests)

-- ---- services that change no more than a row
pub record IsRowService (x : Service) (change : RowChange) : Type 0 where
  pub tests : (s : Seen) (f : ℕ) → call_tests s f x ≡ row_tests (s.row f) change
  pub answers : (c : Central) (f : ℕ) (o : Choice) → MayAnswer c f x answer.Done o
  pub only : (c : Central) (f : ℕ) (a : Answer) (o : Choice) → MayAnswer c f x a o → a ≡ answer.Done
  pub plain : (o : Choice) → o ≡ choice.None → IsServiceChoice x o
  pub chooses : (o : Choice) → IsServiceChoice x o → o ≡ choice.None
  pub may : (r : TimeRow) → first_fault (row_tests r change) ≡ None → MayChangeRow change r
  pub after : (c : Central) (f : ℕ) (o : Choice) → after_call c f x o ≡ with_central_row c f (changed_row change (c.row f))

only_done : (x : Service) (change : RowChange) → row_change_of x ≡ Some change → (c : Central) (f : ℕ) (a : Answer) (o : Choice) → MayAnswer c f x a o → a ≡ answer.Done
only_done (service.TimeAdvanceRequest time) change is c f answer.Done o may = refl
only_done (service.TimeAdvanceRequest time) change is c f a o may = absurd may
only_done (service.TimeAdvanceRequestAvailable time) change is c f answer.Done o may = refl
only_done (service.TimeAdvanceRequestAvailable time) change is c f a o may = absurd may
only_done (service.NextEventRequest time) change is c f answer.Done o may = refl
only_done (service.NextEventRequest time) change is c f a o may = absurd may
only_done (service.NextEventRequestAvailable time) change is c f answer.Done o may = refl
only_done (service.NextEventRequestAvailable time) change is c f a o may = absurd may
only_done (service.FlushQueueRequest time) change is c f answer.Done o may = refl
only_done (service.FlushQueueRequest time) change is c f a o may = absurd may
only_done service.DisableTimeRegulation change is c f answer.Done o may = refl
only_done service.DisableTimeRegulation change is c f a o may = absurd may
only_done service.EnableTimeConstrained change is c f answer.Done o may = refl
only_done service.EnableTimeConstrained change is c f a o may = absurd may
only_done (service.ModifyLookahead lookahead) change is c f answer.Done o may = refl
only_done (service.ModifyLookahead lookahead) change is c f a o may = absurd may
only_done service.EnableAsynchronousDelivery change is c f answer.Done o may = refl
only_done service.EnableAsynchronousDelivery change is c f a o may = absurd may
only_done service.DisableAsynchronousDelivery change is c f answer.Done o may = refl
only_done service.DisableAsynchronousDelivery change is c f a o may = absurd may
only_done x change is c f a o may = cc

asked_low : (r : TimeRow) (asked : ℕ) → first_fault (request_tests r asked) ≡ None → asked ≤ max_time
asked_low r asked none = let low : ltb max_time asked ≡ false = (all_clear (request_tests r asked) none).1.1.1.0 in grind (arith, nat_tests)

lookahead_low : (r : TimeRow) (lookahead : ℕ) → first_fault (lookahead_tests r lookahead) ≡ None → lookahead ≤ max_time
lookahead_low r lookahead none = let low : ltb max_time lookahead ≡ false = (all_clear (lookahead_tests r lookahead) none).1.1.0 in grind (arith, nat_tests)

pub row_service_of : (x : Service) (change : RowChange) → row_change_of x ≡ Some change → IsRowService x change
row_service_of (service.TimeAdvanceRequest time) change is =
    let same : (Request kind.TimeAdvance time) ≡ change = cc in
    subst (λ (y : RowChange). IsRowService (service.TimeAdvanceRequest time) y) same (record { tests = λ s f. refl; answers = λ c f o. tt; only = only_done (service.TimeAdvanceRequest time) (Request kind.TimeAdvance time) refl; plain = λ o e. e; chooses = λ o e. e; may = λ r none. asked_low r time none; after = λ c f o. refl })
row_service_of (service.TimeAdvanceRequestAvailable time) change is =
    let same : (Request kind.TimeAdvanceAvailable time) ≡ change = cc in
    subst (λ (y : RowChange). IsRowService (service.TimeAdvanceRequestAvailable time) y) same (record { tests = λ s f. refl; answers = λ c f o. tt; only = only_done (service.TimeAdvanceRequestAvailable time) (Request kind.TimeAdvanceAvailable time) refl; plain = λ o e. e; chooses = λ o e. e; may = λ r none. asked_low r time none; after = λ c f o. refl })
row_service_of (service.NextEventRequest time) change is =
    let same : (Request kind.NextEvent time) ≡ change = cc in
    subst (λ (y : RowChange). IsRowService (service.NextEventRequest time) y) same (record { tests = λ s f. refl; answers = λ c f o. tt; only = only_done (service.NextEventRequest time) (Request kind.NextEvent time) refl; plain = λ o e. e; chooses = λ o e. e; may = λ r none. asked_low r time none; after = λ c f o. refl })
row_service_of (service.NextEventRequestAvailable time) change is =
    let same : (Request kind.NextEventAvailable time) ≡ change = cc in
    subst (λ (y : RowChange). IsRowService (service.NextEventRequestAvailable time) y) same (record { tests = λ s f. refl; answers = λ c f o. tt; only = only_done (service.NextEventRequestAvailable time) (Request kind.NextEventAvailable time) refl; plain = λ o e. e; chooses = λ o e. e; may = λ r none. asked_low r time none; after = λ c f o. refl })
row_service_of (service.FlushQueueRequest time) change is =
    let same : (Request kind.FlushQueue time) ≡ change = cc in
    subst (λ (y : RowChange). IsRowService (service.FlushQueueRequest time) y) same (record { tests = λ s f. refl; answers = λ c f o. tt; only = only_done (service.FlushQueueRequest time) (Request kind.FlushQueue time) refl; plain = λ o e. e; chooses = λ o e. e; may = λ r none. asked_low r time none; after = λ c f o. refl })
row_service_of service.DisableTimeRegulation change is =
    let same : CeaseRegulation ≡ change = cc in
    subst (λ (y : RowChange). IsRowService service.DisableTimeRegulation y) same (record { tests = λ s f. refl; answers = λ c f o. tt; only = only_done service.DisableTimeRegulation CeaseRegulation refl; plain = λ o e. e; chooses = λ o e. e; may = λ r none. tt; after = λ c f o. refl })
row_service_of service.EnableTimeConstrained change is =
    let same : AskConstraint ≡ change = cc in
    subst (λ (y : RowChange). IsRowService service.EnableTimeConstrained y) same (record { tests = λ s f. refl; answers = λ c f o. tt; only = only_done service.EnableTimeConstrained AskConstraint refl; plain = λ o e. e; chooses = λ o e. e; may = λ r none. tt; after = λ c f o. refl })
row_service_of (service.ModifyLookahead lookahead) change is =
    let same : (SetLookahead lookahead) ≡ change = cc in
    subst (λ (y : RowChange). IsRowService (service.ModifyLookahead lookahead) y) same (record { tests = λ s f. refl; answers = λ c f o. tt; only = only_done (service.ModifyLookahead lookahead) (SetLookahead lookahead) refl; plain = λ o e. e; chooses = λ o e. e; may = λ r none. lookahead_low r lookahead none; after = λ c f o. refl })
row_service_of service.EnableAsynchronousDelivery change is =
    let same : (SetAsynchronous true) ≡ change = cc in
    subst (λ (y : RowChange). IsRowService service.EnableAsynchronousDelivery y) same (record { tests = λ s f. refl; answers = λ c f o. tt; only = only_done service.EnableAsynchronousDelivery (SetAsynchronous true) refl; plain = λ o e. e; chooses = λ o e. e; may = λ r none. tt; after = λ c f o. refl })
row_service_of service.DisableAsynchronousDelivery change is =
    let same : (SetAsynchronous false) ≡ change = cc in
    subst (λ (y : RowChange). IsRowService service.DisableAsynchronousDelivery y) same (record { tests = λ s f. refl; answers = λ c f o. tt; only = only_done service.DisableAsynchronousDelivery (SetAsynchronous false) refl; plain = λ o e. e; chooses = λ o e. e; may = λ r none. tt; after = λ c f o. refl })
row_service_of x change is = cc

pub call_refusal : (s : Seen) (f : ℕ) (x : Service) → s.directory.joined f ≡ true → refusal s (Call f x) ≡ first_fault (call_tests s f x)
call_refusal s f x is = ap (λ (b : Bool). cond (not b) (Some fault.FederateNotExecutionMember) (first_fault (call_tests s f x))) is

module _ (c : Central) (f : ℕ) (x : Service) (change : RowChange) (of : IsRowService x change) (joined : c.directory.joined f ≡ true) where
  pub row_refusal : first_fault (row_tests (c.row f) change) ≡ refusal (central_seen c) (Call f x)
  row_refusal = sym (call_refusal (central_seen c) f x joined ∙ ap first_fault (of.tests (central_seen c) f))

  row_chooses : (out : Outcome) (o : Choice) → IsChoice (Call f x) out o → o ≡ choice.None
  row_chooses (outcome.Done a) o is = of.chooses o is
  row_chooses (outcome.Refused e) o is = is
  row_chooses (outcome.Failed k) o is = is

  pub row_chose : (d : Central) (out : Outcome) (o : Choice) (b : Bool) → Decides b (o ≡ choice.None) → b ≡ false → JudgedCentral c (Call f x) out o d verdict.Wrong
  row_chose d out o b tests is = λ allowed. false≢true (sym is ∙ tests.1 (row_chooses out o allowed.1))

  pub row_not_done : (d : Central) (out : Outcome) (a : Answer) (o : Choice) (b : Bool) → out ≡ outcome.Done a → Decides b (a ≡ answer.Done) → b ≡ false → JudgedCentral c (Call f x) out o d verdict.Wrong
  row_not_done d out a o b ended tests is =
      subst (λ (t : Outcome). JudgedCentral c (Call f x) t o d verdict.Wrong) (sym ended) (λ allowed. false≢true (sym is ∙ tests.1 (of.only c f a o allowed.0.1)))

  pub row_done : (d : Central) (out : Outcome) (a : Answer) (o : Choice) (found : Option Fault) → found ≡ first_fault (row_tests (c.row f) change) → found ≡ None → out ≡ outcome.Done a → a ≡ answer.Done → o ≡ choice.None
      → d ≡ with_central_row c f (changed_row change (c.row f)) → JudgedCentral c (Call f x) out o d verdict.Allowed
  row_done d out a o found is none ended done plain follows =
      subst (λ (t : Outcome). JudgedCentral c (Call f x) t o d verdict.Allowed) (sym (ended ∙ ap outcome.Done done))
      (((sym row_refusal ∙ sym is ∙ none, of.answers c f o), of.plain o plain), follows ∙ sym (of.after c f o))

-- ---- where accounts alone change, as many are joined
next_carried : (c : Central) (g f : ℕ) (out : Outcome) (o : Choice) → (after c (Carry g f) out o).directory.next_federate ≡ c.directory.next_federate
next_carried c g f (outcome.Done (answer.Carried carried.Nothing)) o = refl
next_carried c g f (outcome.Done (answer.Carried (carried.Null bound))) o = refl
next_carried c g f (outcome.Done (answer.Carried (carried.Event e))) o = refl
next_carried c g f (outcome.Done (answer.Carried (carried.Removal e))) o = refl
next_carried c g f (outcome.Done (answer.Carried (carried.Retraction e))) o = refl
next_carried c g f (outcome.Done (answer.Carried (carried.Discovery object))) o = refl
next_carried c g f (outcome.Done a) o = refl
next_carried c g f (outcome.Refused e) o = refl
next_carried c g f (outcome.Failed k) o = refl

size_from : (n m : ℕ) → n + 1 ≡ m + 1 → n ≡ m
size_from n m is = omega arith

pub size_carried : (d : Directory) (old new : List Account) (g f : ℕ) (out : Outcome) (o : Choice) (v : Verdict) → JudgedCentral (central_with d old) (Carry g f) out o (central_with d new) v → v ≡ verdict.Allowed → length new ≡ length old
size_carried d old new g f out o v judged is =
    let allowed = subst (λ (w : Verdict). JudgedCentral (central_with d old) (Carry g f) out o (central_with d new) w) is judged in
    size_from (length new) (length old) (ap (λ (c : Central). c.directory.next_federate) allowed.1 ∙ next_carried (central_with d old) g f out o)

pub size_changed : (d : Directory) (old new : List Account) (f : ℕ) (r : TimeRow) → central_with d new ≡ with_central_row (central_with d old) f r → length new ≡ length old
size_changed d old new f r is = size_from (length new) (length old) (ap (λ (c : Central). c.directory.next_federate) is)
