-- One more member that a resignation has passed over.
use Rattle.std.proofs.Common.{◌≡◌, ℕ, ◌+◌, ◌<◌, ◌==◌, Bool, true, false, cond, List, ◌++◌, length, map, take, drop, get_or, set, refl, ap, ◌∙◌, eq-eqb, arith}
use Rattle.std.proofs.lemmas.List.Edits.{map_over_more}
use Rattle.std.proofs.lemmas.Bool.Decides.{nat_tests}
use Rattle.hla_requests.specs.declared.members.NamedFederate.{NamedFederate}
use Rattle.hla_requests.specs.Members.{without}

left_member : (f : ℕ) (m : NamedFederate) → m.number ≡ f → record { name = m.name; number = m.number; is_joined = false } ≡ without f m
unfolding without
left_member f m e = rw (eq-eqb m.number f e) refl

kept_member : (b : Bool) (m : NamedFederate) → b ≡ false → m ≡ record { name = m.name; number = m.number; is_joined = cond b false m.is_joined }
kept_member false m e = refl
kept_member true m e = cc

stayed_member : (f : ℕ) (m : NamedFederate) → (m.number ≡ f → ⊥) → m ≡ without f m
unfolding without
stayed_member f m ne = kept_member (m.number == f) m (grind (arith, nat_tests))

module _ (f : ℕ) (xs ys : List NamedFederate) (i : ℕ) (m : NamedFederate) (lt : i < length xs) (so_far : ys ≡ map (without f) (take i xs) ++ drop i xs) (is : m ≡ get_or ys i m) where
  abbrev here : NamedFederate
  here = get_or ys i m

  pub one_left : here.number ≡ f → set ys i (record { name = here.name; number = here.number; is_joined = false }) ≡ map (without f) (take (i + 1) xs) ++ drop (i + 1) xs
  one_left e = ap (set ys i) (left_member f here e) ∙ map_over_more (without f) xs ys i here lt so_far (ap (get_or ys i) is)

  pub one_stayed : (here.number ≡ f → ⊥) → set ys i here ≡ map (without f) (take (i + 1) xs) ++ drop (i + 1) xs
  one_stayed ne = ap (set ys i) (stayed_member f here ne) ∙ map_over_more (without f) xs ys i here lt so_far (ap (get_or ys i) is)
