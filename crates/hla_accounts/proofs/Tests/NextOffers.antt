-- The next discovery of one federate's objects
use Rattle.std.proofs.Common.{◌≡◌, ℕ, cond, eqb, Bool, true, false, List, [], ◌∷◌, Option, Some, None, sym, ap, ◌∙◌}
use Rattle.std.specs.List.{find, cons_option}
use Rattle.hla_base.specs.Tables.{when}
use Rattle.hla_base.specs.declared.content.Discovery.{Discovery}
use Rattle.hla_machine.specs.Callbacks.{IsNextDiscovery}
use Rattle.hla_accounts.specs.declared.offers.Offer.{Offer}
use Rattle.hla_accounts.specs.Accounts.{offers_from}

-- that of the first offer, if there is one
abbrev pub IsOf : Option Offer → Discovery → Type 0
IsOf None x = ⊥
IsOf (Some o) x = o.discovery ≡ x

pub next_of : (g : ℕ) (offers : List Offer) (x : Discovery) → (IsOf (find (λ (o : Offer). eqb o.from g) offers) x → IsNextDiscovery (offers_from g offers) x) × (IsNextDiscovery (offers_from g offers) x → IsOf (find (λ (o : Offer). eqb o.from g) offers) x)
next_of g [] x = (λ h. h, λ h. h)
next_of g (o ∷ os) x = by (eqb o.from g) (next_of g os x)
  where
    by : (b : Bool) → (IsOf (find (λ (o : Offer). eqb o.from g) os) x → IsNextDiscovery (offers_from g os) x) × (IsNextDiscovery (offers_from g os) x → IsOf (find (λ (o : Offer). eqb o.from g) os) x) →
        (IsOf (cond b (Some o) (find (λ (o : Offer). eqb o.from g) os)) x → IsNextDiscovery (cons_option (when b (Some o.discovery)) (offers_from g os)) x) × (IsNextDiscovery (cons_option (when b (Some o.discovery)) (offers_from g os)) x → IsOf (cond b (Some o) (find (λ (o : Offer). eqb o.from g) os)) x)
    by true rest = (λ h. h, λ h. h)
    by false rest = rest

pub of_some : (p : Option Offer) (o : Offer) (x : Discovery) → Some o ≡ p → (o.discovery ≡ x → IsOf p x) × (IsOf p x → o.discovery ≡ x)
of_some None o x e = absurd (cc)
of_some (Some q) o x e = let same : o ≡ q = cc in (λ h. ap (λ (o : Offer). o.discovery) (sym same) ∙ h, λ h. ap (λ (o : Offer). o.discovery) same ∙ h)

pub of_none : (p : Option Offer) (x : Discovery) → None ≡ p → IsOf p x → ⊥
of_none None x e h = h
of_none (Some q) x e h = absurd (cc)
