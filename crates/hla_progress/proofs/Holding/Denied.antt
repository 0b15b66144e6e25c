-- Whose goal stays above its bound is not granted
use Rattle.std.proofs.Common.{◌≡◌, ℕ, ◌≤◌, sym, ◌∙◌, subst, inl, inr, ⊎_elim, List, [], ◌∷◌, Option, Some, None}
use Rattle.hla_base.specs.declared.content.Content.{Content}
use Rattle.hla_base.specs.declared.content.Content.TheVariants as content
use Rattle.hla_base.specs.declared.number.EventHandle.{EventHandle}
use Rattle.hla_base.specs.declared.fault.Fault.{Fault}
use Rattle.hla_base.specs.declared.row.AdvanceRequest.{AdvanceRequest}
use Rattle.hla_base.specs.Rows.{reach}
use Rattle.hla_base.specs.declared.notice.NoticeKind.{NoticeKind}
use Rattle.hla_base.specs.declared.notice.NoticeKind.TheVariants as notices
use Rattle.hla_callbacks.specs.declared.callback.Callback.{Callback}
use Rattle.hla_callbacks.specs.declared.callback.Callback.TheVariants as callback
use Rattle.hla_callbacks.specs.declared.callback.Delivery.{Delivery}
use Rattle.hla_component_rules.specs.declared.control.Control.TheVariants.{ToDiscover, ToRetract, ToTell}
use Rattle.hla_component_rules.specs.Picking.{Pick, NoPick, PickControl, PickRo, PickRegulates, PickConstrains, PickTso, PickGrant}
use Rattle.hla_machine.specs.declared.step.Step.{Step}
use Rattle.hla_machine.specs.declared.step.Step.TheVariants.{Join, Call, Carry, Announce, Tick}
use Rattle.hla_machine.specs.declared.step.Answer.TheVariants as answer
use Rattle.hla_machine.specs.declared.step.Outcome.{Outcome}
use Rattle.hla_machine.specs.declared.step.Outcome.TheVariants as outcome
use Rattle.hla_machine.specs.History.{GivesCallback}
use Rattle.hla_machine.specs.Refusals.{refusal}
use Rattle.hla_components.specs.Components.{Components}
use Rattle.hla_components.specs.Component.{local_bound}
use Rattle.hla_components.specs.Invariant.{EachOf}
use Rattle.hla_components.specs.Next.{next, pick_outcome, tick_outcome, unless_refused, components_seen, content_callback, notice_callback}
use Rattle.hla_components.specs.Headline.{IsLedTo, happening, happenings}
use Rattle.hla_components.proofs.Refinement.Picks.{PickFacts, GrantFacts, pick_tells}
use Rattle.hla_components.proofs.Refinement.LedTo.{led_inv, led_next}
use Rattle.hla_progress.specs.Rounds.{IsOfRounds, IsGiven, IsGivenIn}
use Rattle.hla_progress.specs.CatchingUp.{IsWaitingFor}
use Rattle.hla_progress.proofs.Waiting.Steps.{WaitsOn, step_goes, picked_at}
use Rattle.hla_progress.proofs.CatchUp.Aims.{IsGrantOf, due_or_none, waiting_next, granted_is}

-- ---- who is not granted
abbrev pub IsAnyGrant : Callback → Type 0
IsAnyGrant k = (u : ℕ) × (k ≡ callback.TimeAdvanceGrant u)

no_message : (d : Delivery) (e : EventHandle) (y : Content) (u : ℕ) → content_callback d e y ≡ callback.TimeAdvanceGrant u → ⊥
no_message d e (content.Interaction class values) u is = cc
no_message d e (content.Reflection object values) u is = cc
no_message d e (content.Removal object) u is = cc

no_notice : (n : NoticeKind) (label : List ℕ) (u : ℕ) → notice_callback n label ≡ callback.TimeAdvanceGrant u → ⊥
no_notice notices.RegistrationSucceeded label u is = cc
no_notice notices.RegistrationFailed label u is = cc
no_notice notices.Announced label u is = cc
no_notice notices.Synchronized label u is = cc

gives_own : (k f : ℕ) (out : Outcome) (x : Callback) → GivesCallback (Tick k) out f x → k ≡ f
gives_own k f (outcome.Done (answer.Ticked (Some y))) x g = g.0
gives_own k f (outcome.Failed y) x g = g.0
gives_own k f out x g = absurd g

module _ (s : Components) (f : ℕ) (q : AdvanceRequest) (t : ℕ) (is : IsLedTo s) (w : IsWaitingFor s f q t) (denied : reach q.kind t ≤ local_bound s f → ⊥) where
  no_grant_pick : (p : Pick) → PickFacts (s.controls f) (s.row f) (s.ro f) (s.tso f) (local_bound s f) p → IsGiven (happening (Tick f) (pick_outcome s f p)) f IsAnyGrant → ⊥
  no_grant_pick NoPick facts v = v.1
  no_grant_pick (PickControl (ToDiscover from d) rest) facts v = let e = v.1.1 ∙ v.2.1 in cc
  no_grant_pick (PickControl (ToRetract y) rest) facts v = let e = v.1.1 ∙ v.2.1 in cc
  no_grant_pick (PickControl (ToTell n) rest) facts v = no_notice n.kind n.label v.2.0 (v.1.1 ∙ v.2.1)
  no_grant_pick (PickRo y rest) facts v = no_message _ _ y.content v.2.0 (v.1.1 ∙ v.2.1)
  no_grant_pick PickRegulates facts v = let e = v.1.1 ∙ v.2.1 in cc
  no_grant_pick PickConstrains facts v = let e = v.1.1 ∙ v.2.1 in cc
  no_grant_pick (PickTso k y rest) facts v = no_message _ _ y.content v.2.0 (v.1.1 ∙ v.2.1)
  no_grant_pick (PickGrant k u) facts v =
      let both : Some k ≡ Some q = sym facts.1.asks ∙ w.asks in let same : k ≡ q = cc in
      let here : GrantFacts (s.row f) (s.tso f) (local_bound s f) q u = subst (λ (k : AdvanceRequest). GrantFacts (s.row f) (s.tso f) (local_bound s f) k u) same facts.1 in
      let at : u ≡ t = granted_is s f q t is w u here in
      let low : reach q.kind t ≤ local_bound s f = subst (λ u. reach q.kind u ≤ local_bound s f) at (here.reached w.constrained w.unflushed).1 in
      denied low

  no_grant_unless : (r : Option Fault) → IsGiven (happening (Tick f) (unless_refused r s (tick_outcome s f))) f IsAnyGrant → ⊥
  no_grant_unless None v = no_grant_pick (picked_at s f) (pick_tells (s.controls f) (s.row f) (s.ro f) (s.tso f) (local_bound s f)) v
  no_grant_unless (Some e) v = v.1

  pub no_grant : (step : Step) → IsOfRounds step → IsGiven (happening step (next s step)) f IsAnyGrant → ⊥
  no_grant (Join name) of v = of
  no_grant (Call k y) of v = of
  no_grant (Carry k l) of v = v.1
  no_grant (Announce k) of v = v.1
  no_grant (Tick k) of v = let e : k ≡ f = gives_own k f (next s (Tick k)).outcome v.0 v.1 in
      no_grant_unless (refusal (components_seen s) (Tick f)) (subst (λ k. IsGiven (happening (Tick k) (next s (Tick k))) f IsAnyGrant) e v)

  -- so f waits on
  pub waits_on : (step : Step) → IsOfRounds step → IsWaitingFor (next s step).state f q t
  waits_on step of = ⊎_elim
      (λ (v : IsGiven (happening step (next s step)) f (IsGrantOf t)). absurd (no_grant step of (v.0, v.1, (t, v.2))))
      (λ (on : WaitsOn s (next s step).state f t 0). waiting_next s step f t 0 q t is of on w)
      (step_goes s f t (IsGrantOf t) (led_inv s is) w.joined (due_or_none s f q t is w) step of)

-- what keeps its goal above its bound, and lasts, keeps it from its grant
pub never_in_list : (f : ℕ) (q : AdvanceRequest) (t : ℕ) (C : Components → Type 0) → ((s : Components) → IsLedTo s → IsWaitingFor s f q t → C s → reach q.kind t ≤ local_bound s f → ⊥)
    → ((s : Components) (step : Step) → IsLedTo s → IsOfRounds step → C s → C (next s step).state) → (s : Components) (steps : List Step) → IsLedTo s → IsWaitingFor s f q t → C s → EachOf IsOfRounds steps → IsGivenIn (happenings s steps) f IsAnyGrant → ⊥
never_in_list f q t C denies lasts s [] is w c of v = v
never_in_list f q t C denies lasts s (step ∷ steps) is w c of (inl v) = no_grant s f q t is w (denies s is w c) step of.0 v
never_in_list f q t C denies lasts s (step ∷ steps) is w c of (inr v) = never_in_list f q t C denies lasts (next s step).state steps (led_next s step is) (waits_on s f q t is w (denies s is w c) step of.0) (lasts s step is of.0 c) of.1 v
