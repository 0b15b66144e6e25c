-- What tests of a message that is given tell
use Rattle.std.proofs.Common.{◌≡◌, ℕ, ◌≤◌, false, Some, None, refl, sym, ◌∙◌, ap, subst}
use Rattle.hla_base.specs.declared.number.EventHandle.{EventHandle}
use Rattle.hla_base.specs.declared.content.Content.{Content}
use Rattle.hla_base.specs.declared.row.AdvanceRequest.{AdvanceRequest}
use Rattle.hla_base.specs.Rows.{is_flush}
use Rattle.hla_callbacks.specs.declared.callback.Delivery.{Delivery}
use Rattle.hla_callbacks.specs.declared.callback.Delivery.TheVariants.{Receive, Demoted, TimeStamp}
use Rattle.hla_machine.specs.Central.{Central, at_key}
use Rattle.hla_machine.specs.Callbacks.{MayDeliver, MayPickIn, after_delivery, with_central_row}
use Rattle.hla_accounts.specs.declared.row_change.RowChange.TheVariants.{Pick}
use Rattle.hla_accounts.specs.RowChanges.{changed_row}
use Rattle.hla_machine.specs.declared.step.Choice.{Choice}
use Rattle.hla_machine.specs.declared.step.Choice.TheVariants as choice
use Rattle.hla_verdicts.specs.declared.verdict.Verdict.{Verdict}
use Rattle.hla_verdicts.specs.Verdicts.{Judged}

-- no flush picks up a stamp above the asked time
pub pick_within : (c : Central) (f : ℕ) (x : Content) (e : EventHandle) (dl : Delivery) (stamp : ℕ) → MayDeliver c f x e dl → dl ≡ TimeStamp stamp
    → (q : AdvanceRequest) → (c.row f).advance ≡ Some q → is_flush q.kind ≡ false → stamp ≤ q.asked
pick_within c f x e (TimeStamp s) stamp may is q waits plain =
    let same : s ≡ stamp = cc in
    let w = may.3 in
    let both : Some w.0 ≡ Some q = sym w.1 ∙ waits in
    let one : w.0 ≡ q = cc in
    let picks : MayPickIn c f q e s = subst (λ (r : AdvanceRequest). MayPickIn c f r e s) one w.2 in
    subst (λ (n : ℕ). n ≤ q.asked) same (picks.1 plain).asked
pick_within c f x e dl stamp may is q waits plain = cc

-- in time-stamp order the row tells of the pick too
pub picked_up : (c b d : Central) (f : ℕ) (e : EventHandle) (dl : Delivery) (stamp : ℕ) → dl ≡ TimeStamp stamp → b ≡ with_central_row c f (changed_row (Pick stamp) (c.row f)) → d ≡ record b { bag = at_key b.bag e.sender e.serial f None }
    → d ≡ after_delivery c f e dl
picked_up c b d f e dl stamp is row bag =
    bag ∙ ap (λ (x : Central). record x { bag = at_key x.bag e.sender e.serial f None }) row ∙ sym (ap (after_delivery c f e) is)

-- in receive order the message alone goes
pub handed_over : (c d : Central) (f : ℕ) (e : EventHandle) (dl : Delivery) → dl ≡ Receive → d ≡ record c { bag = at_key c.bag e.sender e.serial f None } → d ≡ after_delivery c f e dl
handed_over c d f e dl is bag = bag ∙ sym (ap (after_delivery c f e) is)

pub handed_late : (c d : Central) (f : ℕ) (e : EventHandle) (dl : Delivery) (stamp : ℕ) → dl ≡ Demoted stamp → d ≡ record c { bag = at_key c.bag e.sender e.serial f None } → d ≡ after_delivery c f e dl
handed_late c d f e dl stamp is bag = bag ∙ sym (ap (after_delivery c f e) is)

pub next_given : (c : Central) (f : ℕ) (e : EventHandle) (dl : Delivery) → (after_delivery c f e dl).directory.next_federate ≡ c.directory.next_federate
next_given c f e Receive = refl
next_given c f e (Demoted stamp) = refl
next_given c f e (TimeStamp stamp) = refl

-- of a message with this content
pub judged_of : (c d : Central) (f : ℕ) (x y : Content) (e : EventHandle) (dl : Delivery) (o : Choice) (v : Verdict) → y ≡ x → Judged (MayDeliver c f y e dl × (o ≡ choice.None)) (d ≡ after_delivery c f e dl) v
    → Judged (MayDeliver c f x e dl × (o ≡ choice.None)) (d ≡ after_delivery c f e dl) v
judged_of c d f x y e dl o v is judged = subst (λ (z : Content). Judged (MayDeliver c f z e dl × (o ≡ choice.None)) (d ≡ after_delivery c f e dl) v) is judged
