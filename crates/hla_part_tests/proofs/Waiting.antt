-- Nothing waits in time-stamp order, or one message does.
use Rattle.std.proofs.Common.{◌≡◌, ◌∙◌, ◌&&◌, ℕ, List, [], ◌∷◌, None, Some, Bool, false, cond, eqb, length, refl, ap, subst}
use Rattle.std.specs.Option.{IsSome}
use Rattle.std.specs.Prelude.{slice_get}
use Rattle.hla_component_rules.specs.Queues.{find_event, handles_of}
use Rattle.hla_base.specs.declared.content.Event.{Event}

-- so no event of this name does
pub none_waits : (q : List Event) (g m : ℕ) → slice_get q 0 ≡ None → find_event g m q ≡ None
unfolding find_event
none_waits [] g m is = refl
none_waits (e ∷ q) g m is = absurd (cc)

-- and so it waits nowhere else where it waits there
pub none_found : (q r : List Event) (g m : ℕ) → slice_get q 0 ≡ None → IsSome (find_event g m q) → find_event g m r ≡ None
none_found q r g m is some = let clash = subst IsSome (none_waits q g m is) some in absurd (cc)

-- one message of another sender waits
pub other_waits : (q : List Event) (e : Event) (g m : ℕ) → length (handles_of q) ≡ 1 → slice_get q 0 ≡ Some e → eqb g e.sender ≡ false → find_event g m q ≡ None
unfolding find_event handles_of
other_waits [] e g m one is other = absurd (cc)
other_waits (x ∷ []) e g m one is other =
    let same : x ≡ e = cc in
    ap (λ (b : Bool). cond (b && eqb m x.serial) (Some x) None) (ap (λ (z : Event). eqb g z.sender) same ∙ other)
other_waits (x ∷ y ∷ q) e g m one is other = absurd (cc)
