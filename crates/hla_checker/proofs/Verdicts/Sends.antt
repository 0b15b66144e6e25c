-- What tests of services that send messages tell
use Rattle.std.proofs.Common.{◌≡◌, ℕ, zero, suc, ◌+◌, ◌<◌, ◌≤◌, List, length, ◌&&◌, arith, Bool, true, false, Option, Some, None, refl, sym, ◌∙◌, ap, subst}
use Rattle.std.specs.Bool.{Decides}
use mathlib.Core.Bool.{false≢true}
use Rattle.hla_base.specs.Tables.{is_other}
use Rattle.hla_base.specs.declared.content.Content.{Content}
use Rattle.hla_base.specs.declared.content.HandleValuePair.{HandleValuePair}
use Rattle.hla_base.specs.declared.fault.Fault.{Fault}
use Rattle.hla_base.specs.declared.number.EventHandle.{EventHandle}
use Rattle.hla_machine.specs.declared.service.Service.{Service}
use Rattle.hla_machine.specs.declared.service.Service.TheVariants as service
use Rattle.hla_machine.specs.declared.step.Step.TheVariants.{Call}
use Rattle.hla_machine.specs.declared.step.Answer.{Answer}
use Rattle.hla_machine.specs.declared.step.Answer.TheVariants as answer
use Rattle.hla_machine.specs.declared.step.Outcome.{Outcome}
use Rattle.hla_machine.specs.declared.step.Outcome.TheVariants as outcome
use Rattle.hla_machine.specs.declared.step.Choice.{Choice}
use Rattle.hla_machine.specs.declared.step.Choice.TheVariants as choice
use Rattle.hla_machine.specs.Directory.{Directory, Outgoing, Body, AnInteraction, AnUpdate, ADeletion, content_for, interaction_sent, update_sent}
use Rattle.hla_machine.specs.Central.{Central}
use Rattle.hla_machine.specs.Refusals.{refusal}
use Rattle.hla_machine.specs.Sends.{after_message, after_messages, is_deletion}
use Rattle.hla_machine.specs.Machine.{IsServiceChoice, MayAnswer, after_call, central_seen, send_answer}
use Rattle.hla_accounts.specs.declared.account.Account.{Account}
use Rattle.hla_accounts.specs.Accounts.{account_at, central_with}
use Rattle.hla_accounts.specs.Sendings.{item_for, IsCutTo}
use Rattle.hla_checker.specs.declared.contents.ServiceMessage.{ServiceMessage}
use Rattle.hla_verdicts.specs.declared.verdict.Verdict.TheVariants as verdict
use Rattle.hla_verdicts.specs.Answers.{sent_in}
use Rattle.hla_verdicts.specs.Kept.{KeptValue, IsConsistent, central_of, directory_of}
use Rattle.hla_checker.specs.Sending.{body_said, outgoing, AreContents}
use Rattle.hla_verdicts.proofs.Steps.Outcomes.{JudgedCentral}
use Rattle.hla_verdicts.proofs.Steps.Calls.{joined_within}

-- ---- the contents are those of the message
content_same : (v : KeptValue) (b : Body) (f : ℕ) → content_for (directory_of v) b f ≡ content_for (central_of v).directory b f
content_same v (AnInteraction class values) f = refl
content_same v (AnUpdate object values) f = refl
content_same v (ADeletion object) f = refl

module _ (v : KeptValue) (sender : ℕ) (m : ServiceMessage) (deletes : Bool) (contents : List (Option Content)) (are : AreContents (directory_of v) (body_said m.body) (length v.accounts) contents) where
  said_to : (f : ℕ) → 0 < f → f ≤ length v.accounts → item_for contents f ≡ content_for (directory_of v) (body_said m.body) f
  said_to zero some within = absurd (omega arith)
  said_to (suc k) some within = are.each k (omega arith)

  other_joined : (f : ℕ) → is_other (central_of v).directory.joined sender f ≡ true → (account_at v.accounts f).is_joined ≡ true
  other_joined f is = right _ ((account_at v.accounts f).is_joined) is
    where
      right : (a b : Bool) → (a && b) ≡ true → b ≡ true
      right true b is = is
      right false b is = absurd (false≢true is)

  pub cut_to : is_deletion (body_said m.body) ≡ deletes → IsCutTo (central_of v) sender (outgoing m) m.order deletes contents
  cut_to same = record {
    same_order = refl;
    same_deletion = same;
    same_contents = λ f is. (let there = joined_within v.accounts f (other_joined f is) in said_to f there.0 there.1 ∙ content_same v (body_said m.body) f);
  }

-- ---- after a message
size_from : (n m : ℕ) → n + 1 ≡ m + 1 → n ≡ m
size_from n m is = omega arith

pub message_consistent : (v : KeptValue) (accounts : List Account) (f : ℕ) (stamp : Option ℕ) (out : Outgoing) → central_with (directory_of v) accounts ≡ after_message (central_of v) f stamp out → IsConsistent v → IsConsistent (record v { accounts = accounts })
message_consistent v accounts f stamp out is k =
    let long : length accounts ≡ length v.accounts = size_from (length accounts) (length v.accounts) (ap (λ (c : Central). c.directory.next_federate) is) in
    record { federates = k.federates ∙ sym long; object_classes = k.object_classes; interaction_classes = k.interaction_classes }

-- ---- services that answer with the handle of what they sent
pub record IsSending (x : Service) (stamp : Option ℕ) (outs : Directory → ℕ → List Outgoing) : Type 0 where
  pub answers : (c : Central) (f : ℕ) (a : Answer) (o : Choice) → sent_in a ≡ Some (send_answer c f stamp (outs c.directory f)) → MayAnswer c f x a o
  pub only : (c : Central) (f : ℕ) (a : Answer) (o : Choice) → MayAnswer c f x a o → sent_in a ≡ Some (send_answer c f stamp (outs c.directory f))
  pub plain : (o : Choice) → o ≡ choice.None → IsServiceChoice x o
  pub chooses : (o : Choice) → IsServiceChoice x o → o ≡ choice.None
  pub after : (c : Central) (f : ℕ) (o : Choice) → after_call c f x o ≡ after_messages c f stamp (outs c.directory f)

some_is : (h g : Option EventHandle) → Some h ≡ Some g → h ≡ g
some_is h g is = cc

module _ (class : ℕ) (values : List HandleValuePair) (stamp : Option ℕ) where
  interaction_answers : (c : Central) (f : ℕ) (a : Answer) (o : Choice) → sent_in a ≡ Some (send_answer c f stamp (interaction_sent c.directory f class values)) → MayAnswer c f (service.SendInteraction class values stamp) a o
  interaction_answers c f (answer.Sent event) o is = some_is event _ is
  interaction_answers c f a o is = absurd (cc)

  interaction_only : (c : Central) (f : ℕ) (a : Answer) (o : Choice) → MayAnswer c f (service.SendInteraction class values stamp) a o → sent_in a ≡ Some (send_answer c f stamp (interaction_sent c.directory f class values))
  interaction_only c f (answer.Sent event) o may = ap Some may
  interaction_only c f a o may = absurd may

  pub interaction_sending : IsSending (service.SendInteraction class values stamp) stamp (λ d f. interaction_sent d f class values)
  interaction_sending = record { answers = interaction_answers; only = interaction_only; plain = λ o is. is; chooses = λ o is. is; after = λ c f o. refl }

module _ (object : ℕ) (values : List HandleValuePair) (stamp : Option ℕ) where
  update_answers : (c : Central) (f : ℕ) (a : Answer) (o : Choice) → sent_in a ≡ Some (send_answer c f stamp (update_sent c.directory object values)) → MayAnswer c f (service.UpdateAttributeValues object values stamp) a o
  update_answers c f (answer.Sent event) o is = some_is event _ is
  update_answers c f a o is = absurd (cc)

  update_only : (c : Central) (f : ℕ) (a : Answer) (o : Choice) → MayAnswer c f (service.UpdateAttributeValues object values stamp) a o → sent_in a ≡ Some (send_answer c f stamp (update_sent c.directory object values))
  update_only c f (answer.Sent event) o may = ap Some may
  update_only c f a o may = absurd may

  pub update_sending : IsSending (service.UpdateAttributeValues object values stamp) stamp (λ d _. update_sent d object values)
  update_sending = record { answers = update_answers; only = update_only; plain = λ o is. is; chooses = λ o is. is; after = λ c f o. refl }

module _ (c : Central) (f : ℕ) (x : Service) (stamp : Option ℕ) (outs : Directory → ℕ → List Outgoing) (of : IsSending x stamp outs)
    (out : Outcome) (a : Answer) (o : Choice) (handle : Option EventHandle) (same : handle ≡ send_answer c f stamp (outs c.directory f)) (ended : out ≡ outcome.Done a) where
  pub sending_wrong : (d : Central) (b : Bool) → Decides b (sent_in a ≡ Some handle) → b ≡ false → JudgedCentral c (Call f x) out o d verdict.Wrong
  sending_wrong d b tests is =
      subst (λ (t : Outcome). JudgedCentral c (Call f x) t o d verdict.Wrong) (sym ended)
      (λ allowed. false≢true (sym is ∙ tests.1 (of.only c f a o allowed.0.1 ∙ ap Some (sym same))))

  pub sending_done : (d : Central) (found : Option Fault) → found ≡ refusal (central_seen c) (Call f x) → found ≡ None → sent_in a ≡ Some handle → o ≡ choice.None
      → d ≡ after_messages c f stamp (outs c.directory f) → JudgedCentral c (Call f x) out o d verdict.Allowed
  sending_done d found is none told plain follows =
      subst (λ (t : Outcome). JudgedCentral c (Call f x) t o d verdict.Allowed) (sym ended)
      (((sym is ∙ none, of.answers c f a o (told ∙ ap Some same)), of.plain o plain), follows ∙ sym (of.after c f o))
