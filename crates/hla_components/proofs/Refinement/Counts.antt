-- The epoch of a joined federate counts how often it has enabled time regulation
use Rattle.std.proofs.Common.{◌≡◌, ◌≢◌, ℕ, ◌+◌, ◌<◌, ltb, ◌&&◌, Bool, true, false, refl, sym, ap, ◌∙◌, arith, List, [], ◌∷◌, Option, Some, None}
use Rattle.std.proofs.lemmas.Bool.{cond_both}
use Rattle.hla_base.specs.declared.row.TimeRow.{TimeRow}
use Rattle.hla_base.specs.Tables.{upd}
use Rattle.hla_base.specs.Rows.{new_row, row_with_entry, is_regulator}
use Rattle.hla_base.proofs.Tables.{upd_each, upd_same, upd_other, by_number}
use Rattle.hla_catalogue.specs.CatalogueValue.{CatalogueValue}
use Rattle.hla_null_message.specs.declared.message.Message.{Message}
use Rattle.hla_null_message.specs.declared.message.Message.TheVariants as message
use Rattle.hla_component_rules.specs.declared.control.Control.TheVariants.{ToDiscover, ToRetract, ToTell}
use Rattle.hla_machine.specs.declared.service.Service.{Service}
use Rattle.hla_machine.specs.declared.service.Service.TheVariants as service
use Rattle.hla_machine.specs.declared.service.ResignAction.TheVariants.{DeleteObjects, NoAction}
use Rattle.hla_machine.specs.declared.step.Step.{Step}
use Rattle.hla_machine.specs.declared.step.Step.TheVariants.{Join, Call, Carry, Announce, Tick}
use Rattle.hla_machine.specs.declared.step.Answer.TheVariants as answer
use Rattle.hla_machine.specs.Directory.{Outgoing, deletion_sent, deletions_sent, objects_of, update_sent, interaction_sent}
use Rattle.hla_machine.specs.Refusals.{refusal}
use Rattle.hla_machine.proofs.Basics.Tests.{caller_joined}
use Rattle.hla_components.specs.Components.{Components, new_components}
use Rattle.hla_components.specs.Component.{promise, regulation_entry, local_bound}
use Rattle.hla_component_rules.specs.Picking.{pick, Pick, NoPick, PickControl, PickRo, PickRegulates, PickConstrains, PickTso, PickGrant}
use Rattle.hla_components.specs.Next.{Outcomes, answer_outcome, with_message_sent, with_messages_sent, with_regulation_enabled, with_null_announced, with_federate_gone, call_outcome, carry_outcome, pick_outcome, step_outcome, components_seen}
use Rattle.hla_components.specs.Invariant.{Kept, EpochInv}

-- epochs, members and enablings as they were
record IsSame (s t : Components) : Type 0 where
  pub epoch : t.epoch ≡ s.epoch
  pub next : t.directory.next_federate ≡ s.directory.next_federate
  pub joined : t.directory.joined ≡ s.directory.joined
  pub enablings : (f : ℕ) → (t.row f).enablings ≡ (s.row f).enablings

same_counts : (s t : Components) → IsSame s t → EpochInv s → EpochInv t
same_counts s t same k = record {
  counted = λ f j. ap (λ (e : ℕ → ℕ). e f) same.epoch ∙ k.counted f (ap (λ (m : ℕ → Bool). m f) (sym same.joined) ∙ j) ∙ sym (same.enablings f);
  unheard = λ f high. ap (λ (e : ℕ → ℕ). e f) same.epoch ∙ k.unheard f (omega (arith, high, same.next));
}

is_same : (s : Components) → IsSame s s
is_same s = record { epoch = refl; next = refl; joined = refl; enablings = λ f. refl }

-- one row has changed, and not its enablings
row_same : (row : ℕ → TimeRow) (f : ℕ) (r : TimeRow) → r.enablings ≡ (row f).enablings → (g : ℕ) → (upd row f r g).enablings ≡ (row g).enablings
row_same row f r e = upd_each row f r (λ g y. y.enablings ≡ (row g).enablings) e (λ g ne. refl)

sent_same : (s : Components) (f : ℕ) (stamp : Option ℕ) (outs : List Outgoing) → IsSame s (with_messages_sent s f stamp outs)
sent_same s f stamp [] = is_same s
sent_same s f stamp (out ∷ outs) = let rest = sent_same (with_message_sent s f stamp out) f stamp outs in record { epoch = rest.epoch; next = rest.next; joined = rest.joined; enablings = rest.enablings }

gone_counts : (s : Components) (f : ℕ) → EpochInv s → EpochInv (with_federate_gone s f)
gone_counts s f k = record {
  counted = by_number f _
      (λ j. let no : false ≡ true = sym (upd_same s.directory.joined f false) ∙ j in absurd (cc))
      (λ g ne j. k.counted g (sym (upd_other s.directory.joined f false g ne) ∙ j) ∙ ap (λ (r : TimeRow). r.enablings) (sym (upd_other s.row f new_row g ne)));
  unheard = k.unheard;
}

join_counts : (s : Components) (name : List ℕ) → EpochInv s → EpochInv (step_outcome s (Join name)).state
join_counts s name k = let n = s.directory.next_federate in record {
  counted = by_number n _
      (λ j. k.unheard n (omega arith) ∙ ap (λ (r : TimeRow). r.enablings) (sym (upd_same s.row n new_row)))
      (λ g ne j. k.counted g (sym (upd_other s.directory.joined n true g ne) ∙ j) ∙ ap (λ (r : TimeRow). r.enablings) (sym (upd_other s.row n new_row g ne)));
  unheard = λ f high. k.unheard f (omega (arith, high));
}

enter_counts : (s : Components) (f lookahead e : ℕ) → s.directory.joined f ≡ true → f < s.directory.next_federate → EpochInv s → EpochInv (with_regulation_enabled s f lookahead e)
enter_counts s f lookahead e member low k = record {
  counted = by_number f _
      (λ j. upd_same s.epoch f (s.epoch f + 1) ∙ ap (λ (n : ℕ). n + 1) (k.counted f member) ∙ ap (λ (r : TimeRow). r.enablings) (sym (upd_same s.row f (row_with_entry (s.row f) lookahead e))))
      (λ g ne j. upd_other s.epoch f (s.epoch f + 1) g ne ∙ k.counted g j ∙ ap (λ (r : TimeRow). r.enablings) (sym (upd_other s.row f (row_with_entry (s.row f) lookahead e) g ne)));
  unheard = λ g high. let ne : f ≢ g = λ same. absurd (omega (arith, same, high, low)) in upd_other s.epoch f (s.epoch f + 1) g ne ∙ k.unheard g high;
}

row_counts : (s t : Components) (f : ℕ) (r : TimeRow) → t.epoch ≡ s.epoch → t.directory ≡ s.directory → t.row ≡ upd s.row f r → r.enablings ≡ (s.row f).enablings → EpochInv s → EpochInv t
row_counts s t f r epoch directory row e k = same_counts s t (record {
  epoch = epoch;
  next = ap (λ d. d.next_federate) directory;
  joined = ap (λ d. d.joined) directory;
  enablings = λ g. ap (λ (row : ℕ → TimeRow). (row g).enablings) row ∙ row_same s.row f r e g;
}) k

call_counts : (s : Components) (f : ℕ) (x : Service) → Kept s → refusal (components_seen s) (Call f x) ≡ None → EpochInv s → EpochInv (call_outcome s f x).state
call_counts s f (service.Resign DeleteObjects) kept none k = let outs = deletions_sent (objects_of s.directory f) in gone_counts (with_messages_sent s f None outs) f (same_counts s _ (sent_same s f None outs) k)
call_counts s f (service.Resign NoAction) kept none k = gone_counts s f k
call_counts s f (service.UpdateAttributeValues object values stamp) kept none k = same_counts s _ (sent_same s f stamp (update_sent s.directory object values)) k
call_counts s f (service.SendInteraction class values stamp) kept none k = same_counts s _ (sent_same s f stamp (interaction_sent s.directory f class values)) k
call_counts s f (service.DeleteObjectInstance object stamp) kept none k = let same = sent_same s f stamp (deletion_sent s.directory object) in
    same_counts s _ (record { epoch = same.epoch; next = same.next; joined = same.joined; enablings = same.enablings }) k
call_counts s f (service.EnableTimeRegulation time lookahead) kept none k =
    let member = caller_joined (components_seen s) f (service.EnableTimeRegulation time lookahead) none in
    enter_counts s f lookahead (regulation_entry s f (time + lookahead)) member (kept.directory.members f member) k
call_counts s f service.DisableTimeRegulation kept none k = row_counts s _ f _ refl refl refl refl k
call_counts s f service.EnableTimeConstrained kept none k = row_counts s _ f _ refl refl refl refl k
call_counts s f service.DisableTimeConstrained kept none k = row_counts s _ f _ refl refl refl refl k
call_counts s f (service.TimeAdvanceRequest time) kept none k = row_counts s _ f _ refl refl refl refl k
call_counts s f (service.TimeAdvanceRequestAvailable time) kept none k = row_counts s _ f _ refl refl refl refl k
call_counts s f (service.NextEventRequest time) kept none k = row_counts s _ f _ refl refl refl refl k
call_counts s f (service.NextEventRequestAvailable time) kept none k = row_counts s _ f _ refl refl refl refl k
call_counts s f (service.FlushQueueRequest time) kept none k = row_counts s _ f _ refl refl refl refl k
call_counts s f (service.ModifyLookahead lookahead) kept none k = row_counts s _ f _ refl refl refl refl k
call_counts s f service.EnableAsynchronousDelivery kept none k = row_counts s _ f _ refl refl refl refl k
call_counts s f service.DisableAsynchronousDelivery kept none k = row_counts s _ f _ refl refl refl refl k
call_counts s f x kept none k = record { counted = k.counted; unheard = k.unheard }

carry_counts : (s : Components) (g f : ℕ) (ms : List Message) → EpochInv s → EpochInv (carry_outcome s g f ms).state
carry_counts s g f [] k = k
carry_counts s g f (message.Event e ∷ ms) k = record { counted = k.counted; unheard = k.unheard }
carry_counts s g f (message.Null j v ∷ ms) k = record { counted = k.counted; unheard = k.unheard }
carry_counts s g f (message.Retraction m ∷ ms) k = record { counted = k.counted; unheard = k.unheard }
carry_counts s g f (message.Discovery d ∷ ms) k = record { counted = k.counted; unheard = k.unheard }

announce_counts : (s : Components) (f : ℕ) → EpochInv s → EpochInv (step_outcome s (Announce f)).state
announce_counts s f k = cond_both (is_regulator (s.row f) && ltb (s.last_announced f) (promise s f))
    (answer_outcome (answer.Announced (Some (promise s f))) (with_null_announced s f (promise s f))) (answer_outcome (answer.Announced None) s)
    (λ (o : Outcomes). EpochInv o.state) (λ _. record { counted = k.counted; unheard = k.unheard }) (λ _. k)

pick_counts : (s : Components) (f : ℕ) (p : Pick) → EpochInv s → EpochInv (pick_outcome s f p).state
pick_counts s f NoPick k = k
pick_counts s f (PickControl (ToDiscover from d) rest) k = record { counted = k.counted; unheard = k.unheard }
pick_counts s f (PickControl (ToRetract e) rest) k = record { counted = k.counted; unheard = k.unheard }
pick_counts s f (PickControl (ToTell n) rest) k = record { counted = k.counted; unheard = k.unheard }
pick_counts s f (PickRo e rest) k = record { counted = k.counted; unheard = k.unheard }
pick_counts s f PickRegulates k = row_counts s _ f _ refl refl refl refl k
pick_counts s f PickConstrains k = row_counts s _ f _ refl refl refl refl k
pick_counts s f (PickTso q e rest) k = row_counts s _ f _ refl refl refl refl k
pick_counts s f (PickGrant q t) k = row_counts s _ f _ refl refl refl refl k

pub done_counts : (s : Components) (step : Step) → Kept s → refusal (components_seen s) step ≡ None → EpochInv s → EpochInv (step_outcome s step).state
done_counts s (Join name) kept none k = join_counts s name k
done_counts s (Call f x) kept none k = call_counts s f x kept none k
done_counts s (Carry g f) kept none k = carry_counts s g f (s.wire g f) k
done_counts s (Announce f) kept none k = announce_counts s f k
done_counts s (Tick f) kept none k = pick_counts s f (pick (s.controls f) (s.row f) (s.ro f) (s.tso f) (local_bound s f)) k

pub counts_start : (catalogue : CatalogueValue) → EpochInv (new_components catalogue)
counts_start catalogue = record { counted = λ f j. refl; unheard = λ f high. refl }
