-- What one more record makes of what is heard, and transcripts that are matched with the history, record by record.
use Rattle.std.proofs.Common.{◌≡◌, ◌↔◌, ◌∙◌, ℕ, ◌<◌, zero, suc, cond, List, [], ◌∷◌, ◌++◌, length, Option, Some, None, set, refl, ap, subst, ⊎_elim}
use Rattle.std.specs.Prelude.{slice_get}
use Rattle.std.proofs.lemmas.Bool.{cases_eq, eq-eqb, ne_eqb}
use Rattle.std.proofs.lemmas.List.{get_or-set_same}
use Rattle.std.proofs.lemmas.List.Sums.{fold-append}
use Rattle.std.proofs.lemmas.Option.{slice_get-get_or, slice_get_within}
use Rattle.std.proofs.Math.ListN.{length-set}
use Rattle.hla_machine.specs.declared.step.Record.{Record}
use Rattle.hla_history.specs.Closing.{records_by}
use Rattle.hla_history.specs.Heard.{heard_after, heard_by}

pub heard_by-more : (name : List ℕ) (f : ℕ) (rs : List Record) (r : Record) → heard_by name f (rs ++ r ∷ []) ≡ heard_after name f (heard_by name f rs) r
unfolding heard_by
heard_by-more name f rs r = fold-append (heard_after name f) [] rs (r ∷ [])

-- ---- transcripts
pub at_set : {X : Type 0} (xs : List X) (f : ℕ) (y : X) → f < length xs → slice_get (set xs f y) f ≡ Some y
at_set xs f y lt =
    let l : f < length (set xs f y) = rw (length-set xs f y) lt in
    slice_get-get_or (set xs f y) f y l ∙ ap (λ z. Some z) (get_or-set_same xs f y y lt)

own_first : (n : ℕ) (r : Record) (rs : List Record) → r.actor ≡ n → records_by n (r ∷ rs) ≡ r ∷ records_by n rs
own_first n r rs same = ap (λ b. cond b (r ∷ records_by n rs) (records_by n rs)) (eq-eqb r.actor n same)

others_pass : (n : ℕ) (r : Record) (rs : List Record) → (r.actor ≡ n → ⊥) → records_by n (r ∷ rs) ≡ records_by n rs
others_pass n r rs apart = ap (λ b. cond b (r ∷ records_by n rs) (records_by n rs)) (ne_eqb r.actor n apart)

beside_set : {X : Type 0} (xs : List X) (k n : ℕ) (y : X) → (k ≡ n → ⊥) → slice_get (set xs k y) n ≡ slice_get xs n
beside_set [] k n y apart = refl
beside_set (x ∷ xs) zero zero y apart = absurd (apart refl)
beside_set (x ∷ xs) zero (suc n) y apart = refl
beside_set (x ∷ xs) (suc k) zero y apart = refl
beside_set (x ∷ xs) (suc k) (suc n) y apart = beside_set xs k n y (λ e. apart (ap suc e))

-- the transcript of this number awaits these records
abbrev pub Awaits : List (Option (List Record)) → ℕ → List Record → Type 0
Awaits ts n rs = slice_get ts n ≡ Some (Some rs)

-- after a record, whose caller's transcript was matched with it
pub awaited_after : (ts : List (Option (List Record))) (r : Record) (rs : List Record) (was now : Option (List Record))
    → slice_get ts r.actor ≡ Some was → ((more : List Record) → (now ≡ Some more) ↔ (was ≡ Some (r ∷ more)))
    → (n : ℕ) → Awaits (set ts r.actor now) n (records_by n rs) ↔ Awaits ts n (records_by n (r ∷ rs))
awaited_after ts r rs was now at tells n = ⊎_elim same other (cases_eq r.actor n)
  where
    same : r.actor ≡ n → Awaits (set ts r.actor now) n (records_by n rs) ↔ Awaits ts n (records_by n (r ∷ rs))
    same is =
        let first : records_by n (r ∷ rs) ≡ r ∷ records_by n rs = own_first n r rs is in
        let there : slice_get (set ts r.actor now) n ≡ Some now = subst (λ k. slice_get (set ts r.actor now) k ≡ Some now) is (at_set ts r.actor now (slice_get_within ts r.actor was at)) in
        let here : slice_get ts n ≡ Some was = subst (λ k. slice_get ts k ≡ Some was) is at in
        let to = (tells (records_by n rs)).0 in
        let from = (tells (records_by n rs)).1 in (
          (λ e. let now_is : now ≡ Some (records_by n rs) = cc in let was_is = to now_is in cc),
          (λ e. let was_is : was ≡ Some (r ∷ records_by n rs) = cc in let now_is = from was_is in cc),
        )

    other : (r.actor ≡ n → ⊥) → Awaits (set ts r.actor now) n (records_by n rs) ↔ Awaits ts n (records_by n (r ∷ rs))
    other apart =
        let pass = others_pass n r rs apart in
        let beside = beside_set ts r.actor n now apart in
        ((λ e. cc), (λ e. cc))

-- after a record whose caller has no transcript here
pub awaited_still : (ts : List (Option (List Record))) (r : Record) (rs : List Record) → slice_get ts r.actor ≡ None
    → (n : ℕ) → Awaits ts n (records_by n rs) ↔ Awaits ts n (records_by n (r ∷ rs))
awaited_still ts r rs none n = ⊎_elim same other (cases_eq r.actor n)
  where
    same : r.actor ≡ n → Awaits ts n (records_by n rs) ↔ Awaits ts n (records_by n (r ∷ rs))
    same is =
        let here : slice_get ts n ≡ None = subst (λ k. slice_get ts k ≡ None) is none in
        ((λ e. absurd (cc)), (λ e. absurd (cc)))

    other : (r.actor ≡ n → ⊥) → Awaits ts n (records_by n rs) ↔ Awaits ts n (records_by n (r ∷ rs))
    other apart = let pass = others_pass n r rs apart in ((λ e. cc), (λ e. cc))

-- the transcripts await of these records what others await of those
abbrev pub Follows : List (Option (List Record)) → List Record → List (Option (List Record)) → List Record → Type 0
Follows ts rs ss ps = (n : ℕ) → Awaits ts n (records_by n rs) ↔ Awaits ss n (records_by n ps)

pub goes_on : (first old new : List (Option (List Record))) (history left : List Record) (r : Record) (more : List Record) → left ≡ r ∷ more
    → Follows old left first history → Follows new more old (r ∷ more) → Follows new more first history
goes_on first old new history left r more is before step n =
    let now : Awaits old n (records_by n (r ∷ more)) ↔ Awaits first n (records_by n history) = subst (λ rs. Awaits old n (records_by n rs) ↔ Awaits first n (records_by n history)) is (before n) in
    ((λ e. now.0 ((step n).0 e)), (λ e. (step n).1 (now.1 e)))
