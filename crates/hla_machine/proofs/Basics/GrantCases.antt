-- What a grant rests on, by whether the federate is constrained and whether it flushes
use Rattle.std.proofs.Common.{◌≡◌, ℕ, Bool, true, false, refl, subst}
use Rattle.hla_base.specs.declared.row.AdvanceRequest.{AdvanceRequest}
use Rattle.hla_base.specs.Rows.{is_flush, is_constrained, grant_time}
use Rattle.hla_machine.specs.Central.{Central, Reached}
use Rattle.hla_machine.specs.Callbacks.{MayGrantFlush, MayGrantAs, MayGrant}

pub grant_free : (c : Central) (f : ℕ) (q : AdvanceRequest) (t : ℕ) → MayGrant c f t q → is_constrained (c.row f) ≡ false → t ≡ q.asked
grant_free c f q t may free = subst (λ b. MayGrantAs b (is_flush q.kind) c f q t) free may

constrained_grant : (c : Central) (f : ℕ) (q : AdvanceRequest) (t : ℕ) → MayGrant c f t q → is_constrained (c.row f) ≡ true → MayGrantAs true (is_flush q.kind) c f q t
constrained_grant c f q t may con = subst (λ b. MayGrantAs b (is_flush q.kind) c f q t) con may

pub grant_flush : (c : Central) (f : ℕ) (q : AdvanceRequest) (t : ℕ) → MayGrant c f t q → is_constrained (c.row f) ≡ true → is_flush q.kind ≡ true → MayGrantFlush c f q t
grant_flush c f q t may con y = subst (λ b. MayGrantAs true b c f q t) y (constrained_grant c f q t may con)

pub grant_plain : (c : Central) (f : ℕ) (q : AdvanceRequest) (t : ℕ) → MayGrant c f t q → is_constrained (c.row f) ≡ true → is_flush q.kind ≡ false → (t ≡ grant_time (c.row f) q) × Reached c f q.kind t
grant_plain c f q t may con n = subst (λ b. MayGrantAs true b c f q t) n (constrained_grant c f q t may con)

-- and what makes one
may_grant_as : (b x : Bool) (c : Central) (f : ℕ) (q : AdvanceRequest) (t : ℕ) → (b ≡ true → x ≡ true → MayGrantFlush c f q t) → (b ≡ true → x ≡ false → (t ≡ grant_time (c.row f) q) × Reached c f q.kind t) → (b ≡ false → t ≡ q.asked) → MayGrantAs b x c f q t
may_grant_as false x c f q t flush plain free = free refl
may_grant_as true true c f q t flush plain free = flush refl refl
may_grant_as true false c f q t flush plain free = plain refl refl

pub grant_by_cases : (c : Central) (f : ℕ) (q : AdvanceRequest) (t : ℕ) → (is_constrained (c.row f) ≡ true → is_flush q.kind ≡ true → MayGrantFlush c f q t)
    → (is_constrained (c.row f) ≡ true → is_flush q.kind ≡ false → (t ≡ grant_time (c.row f) q) × Reached c f q.kind t) → (is_constrained (c.row f) ≡ false → t ≡ q.asked) → MayGrant c f t q
grant_by_cases c f q t flush plain free = may_grant_as (is_constrained (c.row f)) (is_flush q.kind) c f q t flush plain free
