-- What a call makes of its caller.
use Rattle.std.proofs.Common.{◌≡◌, ℕ, ◌+◌, List, [], ◌∷◌, ◌++◌, Option, None, Some, IfSome, sym, ◌∙◌, ap, inl, ◌⊎◌, subst}
use Rattle.std.specs.Prelude.{Result, Ok, Err, IfOk, IfErr}
use mathlib.Core.List.{IsPrefix}
use Rattle.hla_base.specs.declared.fault.Fault.{Fault}
use Rattle.hla_machine.specs.declared.step.Act.{Act}
use Rattle.hla_machine.specs.declared.step.Answer.{Answer}
use Rattle.hla_machine.specs.declared.step.Answer.TheVariants as answer
use Rattle.hla_machine.specs.declared.step.Outcome.{Outcome}
use Rattle.hla_machine.specs.declared.step.Outcome.TheVariants as outcome
use Rattle.hla_machine.specs.declared.step.Choice.{Choice}
use Rattle.hla_machine.specs.declared.step.Record.{Record}
use Rattle.hla_callers.specs.Callers.{Caller, act_record, HasHappened, IsKnownBehind, HasActed, HasNotActed, answer_given, HasAnswered, HasResigned}
use Rattle.hla_history.specs.Closing.{Replays}
use Rattle.hla_history.specs.Forms.{AnswerForm, IsOfForm, EndsInForm}
use Rattle.hla_history.specs.Hosting.{held_of}
use Rattle.hla_history.specs.Hosts.{Held, with_record}
use Rattle.hla_callers.specs.Locked.{LockedValue, IsRecorded}

-- ---- what is known behind an act
-- a caller whose act was recorded, and the history that it was told behind it
pub record Acts (old new : Caller) (own : Record) : Type 0 where
  pub number : new.number ≡ old.number
  pub grows : new.transcript ≡ old.transcript ++ own ∷ []
  pub counts : new.share ≡ old.share + 1
  pub happened : HasHappened own
  pub known : IfSome new.until (IsKnownBehind old.until own)

-- the history under the lock ends with the record
happened_there : (own : Record) (old new : Held) → new ≡ with_record old own → Replays new.history → HasHappened own
happened_there own old new is replays = (new.history, replays, (old.history, ap (λ (v : Held). v.history) is))

-- and so does what is told of it
known_there : (before until : Option (List Record)) (own : Record) (old new : Held) → new ≡ with_record old own → Replays new.history → IfSome until (λ h. h ≡ new.history)
    → IfSome until (λ h. IfSome before (λ k. IsPrefix k h)) → IfSome until (IsKnownBehind before own)
known_there before None own old new is replays same later = tt
known_there before (Some h) own old new is replays same later = (subst Replays (sym same) replays, (old.history, same ∙ ap (λ (v : Held). v.history) is), later)

-- the record was written under the lock, and the history was told as it stands there then
pub acts : (old new : Caller) (mid : List Record) (own : Record) (before after there : LockedValue) → new.number ≡ old.number → mid ≡ old.transcript → new.transcript ≡ mid ++ own ∷ [] → new.share ≡ old.share + 1
    → IsRecorded before own after → there ≡ after → Replays there.held.history → IfSome new.until (λ h. h ≡ there.held.history) → IfSome new.until (λ h. IfSome old.until (λ k. IsPrefix k h))
    → Acts old new own
acts old new mid own before after there number room grows counts recorded same replays told later =
    let is : held_of there.held ≡ with_record (held_of before.held) own = ap (λ (l : LockedValue). held_of l.held) same ∙ recorded.0 in
    record {
      number = number;
      grows = grows ∙ ap (λ (rs : List Record). rs ++ own ∷ []) room;
      counts = counts;
      happened = happened_there own (held_of before.held) (held_of there.held) is replays;
      known = known_there old.until new.until own (held_of before.held) (held_of there.held) is replays told later;
    }

has_acted : (old new : Caller) (name : List ℕ) (a : Act) (own : Record) (out : Outcome) (chosen : Choice) → own ≡ act_record old name a out chosen → Acts old new own → HasActed old name a out new
has_acted old new name a own out chosen is h =
    let written = h.grows ∙ ap (λ (r : Record). old.transcript ++ r ∷ []) is in (
      chosen,
      λ i. record { number = h.number i; transcript = written i; share = h.counts i; until = new.until },
      subst HasHappened is h.happened,
      subst (λ (r : Record). IfSome new.until (IsKnownBehind old.until r)) is h.known,
    )

-- ---- an answer
pub has_answered : (old new : Caller) (name : List ℕ) (a : Act) (own : Record) (out : Outcome) (chosen : Choice) (result : Result Answer Fault)
    → own ≡ act_record old name a out chosen → result ≡ answer_given out → Acts old new own → HasAnswered old name a result new
has_answered old new name a own out chosen result is answers h = inl (out, answers, has_acted old new name a own out chosen is h)

-- ---- a joining
pub joined_acted : {E : Type 0} (old new : Caller) (name : List ℕ) (a : Act) (own : Record) (out : Outcome) (chosen : Choice) (result : Result ℕ E)
    → own ≡ act_record old name a out chosen → Acts old new own
    → IfOk result (λ n. out ≡ outcome.Done (answer.Federate n)) → IfOk result (λ n. HasActed old name a (outcome.Done (answer.Federate n)) new)
joined_acted old new name a own out chosen (Ok n) is h ends = subst (λ (o : Outcome). HasActed old name a o new) ends (has_acted old new name a own out chosen is h)
joined_acted old new name a own out chosen (Err e) is h ends = tt

pub unjoined_acted : {X : Type 0} (old new : Caller) (name : List ℕ) (a : Act) (own : Record) (out : Outcome) (chosen : Choice) (result : Result ℕ (Fault × X))
    → own ≡ act_record old name a out chosen → Acts old new own
    → IfErr result (λ e. out ≡ outcome.Refused e.0) → IfErr result (λ e. HasActed old name a (outcome.Refused e.0) new ⊎ HasNotActed old e.0 new)
unjoined_acted old new name a own out chosen (Ok n) is h ends = tt
unjoined_acted old new name a own out chosen (Err e) is h ends = inl (subst (λ (o : Outcome). HasActed old name a o new) ends (has_acted old new name a own out chosen is h))

-- ---- a resigning
pub resigned_acted : {X : Type 0} (old new : Caller) (name : List ℕ) (a : Act) (own : Record) (out : Outcome) (chosen : Choice) (result : Result X Fault)
    → own ≡ act_record old name a out chosen → Acts old new own
    → IfOk result (λ b. out ≡ outcome.Done answer.Done) → IfOk result (λ b. HasResigned old name a new)
resigned_acted old new name a own out chosen (Ok b) is h ends = subst (λ (o : Outcome). HasActed old name a o new) ends (has_acted old new name a own out chosen is h)
resigned_acted old new name a own out chosen (Err e) is h ends = tt

pub unresigned_acted : {X : Type 0} (old new : Caller) (name : List ℕ) (a : Act) (own : Record) (out : Outcome) (chosen : Choice) (result : Result X Fault)
    → own ≡ act_record old name a out chosen → Acts old new own
    → IfErr result (λ e. answer_given out ≡ Err e) → IfErr result (λ e. HasAnswered old name a (Err e) new)
unresigned_acted old new name a own out chosen (Ok b) is h ends = tt
unresigned_acted old new name a own out chosen (Err e) is h ends = inl (out, sym ends, has_acted old new name a own out chosen is h)

-- ---- an answer of its own type
in_form : (form : AnswerForm) (out : Outcome) → EndsInForm form out → IfOk (answer_given out) (λ a. IsOfForm form a)
in_form form (outcome.Done a) is = is
in_form form (outcome.Refused e) is = tt
in_form form (outcome.Failed k) is = tt

pub given_in_form : (form : AnswerForm) (out : Outcome) (result : Result Answer Fault) → EndsInForm form out → result ≡ answer_given out → IfOk result (λ a. IsOfForm form a)
given_in_form form out result is gives = subst (λ (r : Result Answer Fault). IfOk r (λ a. IsOfForm form a)) (sym gives) (in_form form out is)
