-- A grant leaves nothing behind
use Rattle.std.proofs.Common.{◌≡◌, ◌⊎◌, ℕ, ◌≤◌, ◌<◌, Bool, true, false, refl, sym, ◌∙◌, le_trans, subst, inl, inr, ⊎_elim, arith, List, [], ◌∷◌, Some}
use Rattle.std.proofs.lemmas.Bool.{cases_Bool}
use Rattle.hla_base.specs.declared.number.EventHandle.{EventHandle}
use Rattle.hla_base.specs.declared.row.AdvanceRequest.{AdvanceRequest}
use Rattle.hla_base.specs.Rows.{is_constrained, is_flush, reach}
use Rattle.hla_callbacks.specs.declared.callback.Callback.TheVariants as callback
use Rattle.hla_machine.specs.Central.{Central, new_central, Copy, Tso}
use Rattle.hla_machine.specs.Callbacks.{IsCopy, MayGrant}
use Rattle.hla_machine.specs.Machine.{MayEnd}
use Rattle.hla_machine.specs.Runs.{Happening, IsRun}
use Rattle.hla_machine.specs.History.{GivesCallback, IsGranted, IsPickedOrMoved, WaitsInOrder, HappensLater, next_state}
use Rattle.hla_machine.proofs.Basics.GrantCases.{grant_flush, grant_plain}
use Rattle.hla_machine.proofs.Basics.Rows.{flush_not_strict}
use Rattle.hla_machine.proofs.Upkeep.Keeps.{IsCentralKept}
use Rattle.hla_machine.proofs.Upkeep.Runs.{step_keeps, start_keeps}
use Rattle.hla_machine.proofs.Upkeep.News.{step_change}
use Rattle.hla_machine.proofs.Upkeep.Ahead.{given_of}
use Rattle.hla_machine.proofs.Copies.Fates.{Fate, Stays, Moves, Back, Out, Taken, step_fate}
use Rattle.hla_machine.proofs.Copies.Retractions.{AreRetractionsSound, step_onward, sound_start}

pub record Whole (c : Central) : Type 0 where
  pub kept : IsCentralKept c
  pub sound : AreRetractionsSound c

whole_step : (c : Central) (h : Happening) → MayEnd c h.step h.outcome h.choice → Whole c → Whole (next_state c h)
whole_step c h may w = record { kept = step_keeps c h.step h.outcome h.choice may w.kept; sound = (step_onward c h.step h.outcome h.choice may w.sound).kept }

whole_run : (c : Central) (hs : List Happening) (d : Central) → IsRun c hs d → Whole c → Whole d
whole_run c [] d run w = subst Whole run w
whole_run c (h ∷ hs) d run w = whole_run (next_state c h) hs d run.1 (whole_step c h run.0.0 w)

retracted_run : (c : Central) (hs : List Happening) (d : Central) → IsRun c hs d → Whole c → (g m : ℕ) → (c.sent g m).retracted ≡ true → (d.sent g m).retracted ≡ true
retracted_run c [] d run w g m e = subst (λ (c : Central). (c.sent g m).retracted ≡ true) run e
retracted_run c (h ∷ hs) d run w g m e = retracted_run (next_state c h) hs d run.1 (whole_step c h run.0.0 w) g m ((step_onward c h.step h.outcome h.choice run.0.0 w.sound).stays g m e)

not_true : (b : Bool) → ((b ≡ true) → ⊥) → b ≡ false
not_true true h = absurd (h refl)
not_true false h = refl

out_run : (c : Central) (hs : List Happening) (d : Central) → IsRun c hs d → Whole c → (f : ℕ) → f < c.directory.next_federate → c.directory.joined f ≡ false → d.directory.joined f ≡ false
out_run c [] d run w f low out = subst (λ (c : Central). c.directory.joined f ≡ false) run out
out_run c (h ∷ hs) d run w f low out =
    let ch = step_change c h.step h.outcome h.choice run.0.0 w.kept in
    out_run (next_state c h) hs d run.1 (whole_step c h run.0.0 w) f (le_trans low ch.joins.up) (not_true ((next_state c h).directory.joined f) (λ j. let e = ch.joins.old f low j in cc))

-- the copy waits still, or has gone
abbrev Gone : Central → List Happening → Central → ℕ → EventHandle → Copy → Type 0
Gone c hs d f e k = IsCopy d f e k ⊎ (((d.sent e.sender e.serial).retracted ≡ true) ⊎ ((d.directory.joined f ≡ false) ⊎ IsPickedOrMoved c hs f e k.stamp))

gone_later : (c : Central) (h : Happening) (hs : List Happening) (d : Central) (f : ℕ) (e : EventHandle) (k : Copy) → Gone (next_state c h) hs d f e k → Gone c (h ∷ hs) d f e k
gone_later c h hs d f e k (inl is) = inl is
gone_later c h hs d f e k (inr (inl r)) = inr (inl r)
gone_later c h hs d f e k (inr (inr (inl out))) = inr (inr (inl out))
gone_later c h hs d f e k (inr (inr (inr p))) = inr (inr (inr (inr (inr p))))

gone_run : (c : Central) (hs : List Happening) (d : Central) (f : ℕ) (e : EventHandle) (k : Copy) → IsRun c hs d → Whole c → IsCopy c f e k → k.order ≡ Tso → Gone c hs d f e k
gone_run c [] d f e k run w is tso = inl (subst (λ (c : Central). IsCopy c f e k) run is)
gone_run c (h ∷ hs) d f e k run w is tso =
    by_fate (λ stays. gone_run (next_state c h) hs d f e k run.1 (whole_step c h run.0.0 w) stays tso) (step_fate e.sender e.serial f k tso c w.kept w.sound.owes is h.step h.outcome h.choice run.0.0)
  where
    by_fate : (IsCopy (next_state c h) f e k → Gone (next_state c h) hs d f e k) → Fate e.sender e.serial f k tso c w.kept w.sound.owes is (GivesCallback h.step h.outcome f) (next_state c h) → Gone c (h ∷ hs) d f e k
    by_fate later (Stays stays) = gone_later c h hs d f e k (later stays)
    by_fate later (Moves moves) = inr (inr (inr (inr (inl (k, is, tso, refl, moves)))))
    by_fate later (Back r) = inr (inl (retracted_run c (h ∷ hs) d run w e.sender e.serial r))
    by_fate later (Out was out) = inr (inr (inl (out_run (next_state c h) hs d run.1 (whole_step c h run.0.0 w) f (le_trans (w.kept.members f was) (step_change c h.step h.outcome h.choice run.0.0 w.kept).joins.up) out)))
    by_fate later (Taken x gives brings) = inr (inr (inr (inl (record { given = x; gives = gives; brings = brings }))))

-- what waits at a grant is not before it
grant_low : (d : Central) (f t : ℕ) (q : AdvanceRequest) → is_constrained (d.row f) ≡ true → MayGrant d f t q → (g m : ℕ) (k : Copy) → d.bag g m f ≡ Some k → (d.sent g m).retracted ≡ false → k.order ≡ Tso → reach q.kind t ≤ k.stamp
grant_low d f t q con may g m k is live tso = ⊎_elim
    (λ (y : is_flush q.kind ≡ true). let w = grant_flush d f q t may con y in let strict = flush_not_strict q.kind y in let low = w.4 g m k is live tso in rw strict low)
    (λ (n : is_flush q.kind ≡ false). let w = (grant_plain d f q t may con n).1 in w.1 g m k is live tso)
    (cases_Bool (is_flush q.kind))

pub grant_after_all : (c : Central) (between : List Happening) (d : Central) (h : Happening) (f t : ℕ) (q : AdvanceRequest) (e : EventHandle) (s : ℕ)
    → HappensLater c between d h → IsGranted h f t → is_constrained (d.row f) ≡ true → (d.row f).advance ≡ Some q
    → WaitsInOrder c f e s → s < reach q.kind t → ((d.sent e.sender e.serial).retracted ≡ true) ⊎ IsPickedOrMoved c between f e s
grant_after_all c between d h f t q e s later grants con asks waits low =
    let start : Whole (new_central later.catalogue) = record { kept = start_keeps later.catalogue; sound = sound_start later.catalogue } in
    let w = whole_run (new_central later.catalogue) later.before c later.start start in
    let k = waits.0 in
    let g = given_of d h f (callback.TimeAdvanceGrant t) later.allowed.0 grants in
    let may = g.may in
    let same : may.0 ≡ q = (let both : Some may.0 ≡ Some q = sym may.1 ∙ asks in cc) in
    let grant : MayGrant d f t q = subst (λ (q : AdvanceRequest). MayGrant d f t q) same may.2 in
    ends k waits.2 waits.3 g.member grant (gone_run c between d f e k later.run w waits.1 waits.2)
  where
    ends : (k : Copy) → k.order ≡ Tso → k.stamp ≡ s → d.directory.joined f ≡ true → MayGrant d f t q → Gone c between d f e k → ((d.sent e.sender e.serial).retracted ≡ true) ⊎ IsPickedOrMoved c between f e s
    ends k tso at member grant (inl is) = ⊎_elim
        (λ (r : (d.sent e.sender e.serial).retracted ≡ true). inl r)
        (λ (live : (d.sent e.sender e.serial).retracted ≡ false). absurd (let l = grant_low d f t q con grant e.sender e.serial k is live tso in omega (arith, at)))
        (cases_Bool (d.sent e.sender e.serial).retracted)
    ends k tso at member grant (inr (inl r)) = inl r
    ends k tso at member grant (inr (inr (inl out))) = absurd (cc)
    ends k tso at member grant (inr (inr (inr p))) = inr (subst (λ s. IsPickedOrMoved c between f e s) at p)
