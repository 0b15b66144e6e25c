-- Among the federates that are in an advance one waits for nobody, or one has the least goal
use Rattle.std.proofs.Common.{◌≡◌, ◌≢◌, ◌⊎◌, ℕ, zero, suc, ◌≤◌, ◌<◌, not, true, false, refl, sym, subst, inl, inr, ⊎_elim, arith, Option, Some, None}
use Rattle.std.proofs.lemmas.Bool.{cases_eq, cases_lt, cases_Bool}
use Rattle.hla_base.specs.declared.row.AdvanceRequest.{AdvanceRequest}
use Rattle.hla_base.specs.Rows.{is_flush, is_constrained, is_advancing, is_none_of, reach}
use Rattle.hla_components.specs.Components.{Components}
use Rattle.hla_progress.specs.AtOnce.{is_flush_asked, WaitsForNobody}
use Rattle.hla_progress.specs.CatchingUp.{IsWaitingFor}

abbrev pub IsIn : Components → ℕ → Type 0
IsIn s g = (s.directory.joined g ≡ true) × (is_advancing (s.row g) ≡ true)

abbrev pub HasTarget : Components → ℕ → Type 0
HasTarget s g = (q : AdvanceRequest) × (t : ℕ) × IsWaitingFor s g q t

abbrev pub goal_of : (s : Components) (g : ℕ) → HasTarget s g → ℕ
goal_of s g w = reach w.0.kind w.1

-- one waits for nobody, or each has a target
module _ (s : Components) (targets : (g : ℕ) (q : AdvanceRequest) → s.directory.joined g ≡ true → is_constrained (s.row g) ≡ true → (s.row g).advance ≡ Some q → is_flush q.kind ≡ false → (t : ℕ) × IsWaitingFor s g q t) where
  abbrev pub Free : Type 0
  Free = (g : ℕ) × IsIn s g × WaitsForNobody (s.row g)

  by_request : (g : ℕ) (o : Option AdvanceRequest) → (s.row g).advance ≡ o → IsIn s g → Free ⊎ HasTarget s g
  by_request g None asks is = absurd (let no : not (is_none_of {X = AdvanceRequest} None) ≡ true = subst (λ (o : Option AdvanceRequest). not (is_none_of o) ≡ true) asks is.1 in cc)
  by_request g (Some q) asks is = ⊎_elim
      (λ (con : is_constrained (s.row g) ≡ true). ⊎_elim
      (λ (y : is_flush q.kind ≡ true). inl (g, is, inr (is.1, inr (subst (λ (o : Option AdvanceRequest). is_flush_asked o ≡ true) (sym asks) y))))
      (λ (n : is_flush q.kind ≡ false). let v = targets g q is.0 con asks n in inr (q, v.0, v.1))
      (cases_Bool (is_flush q.kind)))
      (λ (free : is_constrained (s.row g) ≡ false). inl (g, is, inr (is.1, inl free)))
      (cases_Bool (is_constrained (s.row g)))

  free_or_bound : (g : ℕ) → IsIn s g → Free ⊎ HasTarget s g
  free_or_bound g is = by_request g (s.row g).advance refl is

  is_in : (g : ℕ) → IsIn s g ⊎ (IsIn s g → ⊥)
  is_in g = ⊎_elim
      (λ (j : s.directory.joined g ≡ true). ⊎_elim (λ (a : is_advancing (s.row g) ≡ true). inl (j, a)) (λ (n : is_advancing (s.row g) ≡ false). inr (λ is. let y = is.1 in absurd (cc))) (cases_Bool (is_advancing (s.row g))))
      (λ (n : s.directory.joined g ≡ false). inr (λ is. let y = is.0 in absurd (cc)))
      (cases_Bool (s.directory.joined g))

  abbrev pub AllBound : ℕ → Type 0
  AllBound i = (g : ℕ) → g < i → IsIn s g → HasTarget s g

  pub some_free : (i : ℕ) → Free ⊎ AllBound i
  some_free zero = inr (λ g l _. absurd (omega arith))
  some_free (suc i) = ⊎_elim
      (λ (f : Free). inl f)
      (λ (all : AllBound i). ⊎_elim
      (λ (is : IsIn s i). ⊎_elim
      (λ (f : Free). inl f)
      (λ (w : HasTarget s i). inr (λ g l v. ⊎_elim (λ (e : i ≡ g). subst (λ g. HasTarget s g) e w) (λ (ne : i ≢ g). all g (omega arith) v) (cases_eq i g)))
      (free_or_bound i is))
      (λ (out : IsIn s i → ⊥). inr (λ g l v. ⊎_elim (λ (e : i ≡ g). absurd (out (subst (λ g. IsIn s g) (sym e) v))) (λ (ne : i ≢ g). all g (omega arith) v) (cases_eq i g)))
      (is_in i))
      (some_free i)

  -- ---- the least goal
  pub record Least (i : ℕ) : Type 0 where
    pub federate : ℕ
    pub is : IsIn s federate
    pub target : HasTarget s federate
    pub least : (g : ℕ) → g < i → IsIn s g → (v : HasTarget s g) × (goal_of s federate target ≤ goal_of s g v)

  abbrev pub NobodyIn : ℕ → Type 0
  NobodyIn i = (g : ℕ) → g < i → IsIn s g → ⊥

  -- one more federate
  with_one : (i : ℕ) → IsIn s i → HasTarget s i → NobodyIn i ⊎ Least i → Least (suc i)
  with_one i is w (inl none) = record {
    federate = i;
    is = is;
    target = w;
    least = λ g l v. ⊎_elim (λ (e : i ≡ g). same g e) (λ (ne : i ≢ g). absurd (none g (omega arith) v)) (cases_eq i g);
  }
    where
      same : (g : ℕ) → i ≡ g → (v : HasTarget s g) × (goal_of s i w ≤ goal_of s g v)
      same g e = subst (λ g. (v : HasTarget s g) × (goal_of s i w ≤ goal_of s g v)) e (w, omega arith)
  with_one i is w (inr old) = ⊎_elim
      (λ (l : goal_of s i w < goal_of s old.federate old.target). record {
        federate = i;
        is = is;
        target = w;
        least = λ g b v. ⊎_elim (λ (e : i ≡ g). here w (omega arith) g e) (λ (ne : i ≢ g). let o = old.least g (omega arith) v in (o.0, (let p = o.1 in omega arith))) (cases_eq i g);
      })
      (λ (l : goal_of s old.federate old.target ≤ goal_of s i w). record {
        federate = old.federate;
        is = old.is;
        target = old.target;
        least = λ g b v. ⊎_elim (λ (e : i ≡ g). here_too l g e) (λ (ne : i ≢ g). old.least g (omega arith) v) (cases_eq i g);
      })
      (cases_lt (goal_of s i w) (goal_of s old.federate old.target))
    where
      here : (w2 : HasTarget s i) → goal_of s i w ≤ goal_of s i w2 → (g : ℕ) → i ≡ g → (v : HasTarget s g) × (goal_of s i w ≤ goal_of s g v)
      here w2 l g e = subst (λ g. (v : HasTarget s g) × (goal_of s i w ≤ goal_of s g v)) e (w2, l)

      here_too : goal_of s old.federate old.target ≤ goal_of s i w → (g : ℕ) → i ≡ g → (v : HasTarget s g) × (goal_of s old.federate old.target ≤ goal_of s g v)
      here_too l g e = subst (λ g. (v : HasTarget s g) × (goal_of s old.federate old.target ≤ goal_of s g v)) e (w, l)

  without_one : (i : ℕ) → (IsIn s i → ⊥) → NobodyIn i ⊎ Least i → NobodyIn (suc i) ⊎ Least (suc i)
  without_one i out (inl none) = inl (λ g l v. ⊎_elim (λ (e : i ≡ g). out (subst (λ g. IsIn s g) (sym e) v)) (λ (ne : i ≢ g). none g (omega arith) v) (cases_eq i g))
  without_one i out (inr old) = inr (record {
    federate = old.federate;
    is = old.is;
    target = old.target;
    least = λ g l v. ⊎_elim (λ (e : i ≡ g). absurd (out (subst (λ g. IsIn s g) (sym e) v))) (λ (ne : i ≢ g). old.least g (omega arith) v) (cases_eq i g);
  })

  pub least_of_all : (i : ℕ) → AllBound i → NobodyIn i ⊎ Least i
  least_of_all zero all = inl (λ g l _. omega arith)
  least_of_all (suc i) all = let before = least_of_all i (λ g l v. all g (omega arith) v) in ⊎_elim
      (λ (is : IsIn s i). inr (with_one i is (all i (omega arith) is) before))
      (λ (out : IsIn s i → ⊥). without_one i out before)
      (is_in i)
