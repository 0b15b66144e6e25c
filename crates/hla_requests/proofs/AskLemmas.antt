-- One more name that is looked up
use Rattle.std.proofs.Common.{◌≡◌, ◌<◌, ◌≤◌, ◌+◌, suc, ℕ, take, drop, get_or, subst, arith, List, [], ◌∷◌, ◌++◌, Bool, true, false, Option, None, Some, Result, Ok, Err, length, refl, sym, ap, ◌∙◌}
use Rattle.std.proofs.lemmas.List.{take-append-drop, take_more}
use Rattle.std.proofs.lemmas.Bool.Decides.{nat_tests}
use Rattle.std.proofs.Math.Seq.{drop-cons}
use Rattle.std.specs.Prelude.{nat_lt, if◌then◌else◌}
use Rattle.hla_base.specs.Limits.{max_value}
use Rattle.hla_base.specs.declared.fault.Fault.{Fault}
use Rattle.hla_base.specs.declared.fault.Fault.TheVariants as fault
use Rattle.hla_base.specs.declared.content.HandleValuePair.{HandleValuePair}
use Rattle.hla_commands.specs.declared.lines.NameValuePair.{NameValuePair}
use Rattle.hla_requests.specs.declared.lookups.AskFault.{AskFault}
use Rattle.hla_requests.specs.declared.lookups.AskFault.TheVariants as stop
use Rattle.hla_requests.specs.Requests.{Asks, ask_then, unless_too_long, with_handle, with_last_handle, named_handles, with_pair, with_last_pair, named_pairs}

-- ---- names
unknown_stays : (found : Option ℕ) → with_handle found (Err fault.NameNotFound) ≡ Err fault.NameNotFound
unknown_stays None = refl
unknown_stays (Some n) = refl

handle_last : (found : Option ℕ) (later : Result (List ℕ) Fault) (n : ℕ) → with_handle found (with_last_handle later n) ≡ with_last_handle (with_handle found later) n
handle_last None later n = refl
handle_last (Some m) (Ok ns) n = refl
handle_last (Some m) (Err e) n = refl

module _ (find : List ℕ → Option ℕ) where
  -- a name that is not found is told, whatever stands before it or behind
  pub handles_unknown : (before behind : List (List ℕ)) (name : List ℕ) → find name ≡ None → named_handles find (before ++ name ∷ behind) ≡ Err fault.NameNotFound
  unfolding named_handles
  handles_unknown [] behind name none = rw none refl
  handles_unknown (other ∷ before) behind name none = ap (with_handle (find other)) (handles_unknown before behind name none) ∙ unknown_stays (find other)

  pub handles_more : (before : List (List ℕ)) (name : List ℕ) (n : ℕ) → find name ≡ Some n → named_handles find (before ++ name ∷ []) ≡ with_last_handle (named_handles find before) n
  unfolding named_handles
  handles_more [] name n found = rw found refl
  handles_more (other ∷ before) name n found = ap (with_handle (find other)) (handles_more before name n found) ∙ handle_last (find other) (named_handles find before) n

-- ---- names with values
unknown_pair_stays : (found : Option ℕ) (value : List ℕ) → with_pair found value (Err fault.NameNotFound) ≡ Err fault.NameNotFound
unknown_pair_stays None value = refl
unknown_pair_stays (Some n) value = refl

tests_swap : (a b : Bool) (p q : HandleValuePair) (ps : List HandleValuePair)
    → ask_then (if b then Err fault.LimitReached else Ok (ps ++ q ∷ [])) (λ rs. if a then Err fault.LimitReached else Ok (p ∷ rs))
    ≡ ask_then (if a then Err fault.LimitReached else Ok (p ∷ ps)) (λ rs. if b then Err fault.LimitReached else Ok (rs ++ q ∷ []))
tests_swap true true p q ps = refl
tests_swap true false p q ps = refl
tests_swap false true p q ps = refl
tests_swap false false p q ps = refl

pair_last : (found : Option ℕ) (value : List ℕ) (later : Result (List HandleValuePair) Fault) (n : ℕ) (last : List ℕ) → with_pair found value (with_last_pair later n last) ≡ with_last_pair (with_pair found value later) n last
pair_last None value later n last = refl
pair_last (Some m) value (Ok ps) n last = tests_swap (nat_lt max_value (length value)) (nat_lt max_value (length last)) _ _ ps
pair_last (Some m) value (Err e) n last = refl

module _ (find : List ℕ → Option ℕ) where
  pub pairs_unknown : (before behind : List NameValuePair) (p : NameValuePair) → find p.name ≡ None → named_pairs find (before ++ p ∷ behind) ≡ Err fault.NameNotFound
  unfolding named_pairs
  pairs_unknown [] behind p none = rw none refl
  pairs_unknown (other ∷ before) behind p none = ap (with_pair (find other.name) other.value) (pairs_unknown before behind p none) ∙ unknown_pair_stays (find other.name) other.value

  pub pairs_more : (before : List NameValuePair) (p : NameValuePair) (n : ℕ) → find p.name ≡ Some n → named_pairs find (before ++ p ∷ []) ≡ with_last_pair (named_pairs find before) n p.value
  unfolding named_pairs
  pairs_more [] p n found = rw found refl
  pairs_more (other ∷ before) p n found = ap (with_pair (find other.name) other.value) (pairs_more before p n found) ∙ pair_last (find other.name) other.value (named_pairs find before) n p.value

-- ---- one more step of a loop
split_at : {X : Type 0} (xs : List X) (i : ℕ) (x : X) → i < length xs → x ≡ get_or xs i x → xs ≡ take i xs ++ x ∷ drop (suc i) xs
split_at {X = X} xs i x lt is = sym (take-append-drop i xs) ∙ ap (λ (r : List X). take i xs ++ r) (drop-cons xs i x lt ∙ ap (λ (y : X). y ∷ drop (suc i) xs) (sym is))

one_more : {X : Type 0} (xs : List X) (i : ℕ) (x : X) → i < length xs → x ≡ get_or xs i x → take (i + 1) xs ≡ take i xs ++ x ∷ []
one_more {X = X} xs i x lt is = take_more xs i x lt ∙ ap (λ (y : X). take i xs ++ y ∷ []) (sym is)

module _ (find : List ℕ → Option ℕ) (xs : List (List ℕ)) (i : ℕ) (x : List ℕ) (lt : i < length xs) (is : x ≡ get_or xs i x) where
  pub handles_none : find x ≡ None → named_handles find xs ≡ Err fault.NameNotFound
  handles_none none = ap (named_handles find) (split_at xs i x lt is) ∙ handles_unknown find (take i xs) (drop (suc i) xs) x none

  pub handles_step : (n : ℕ) (old new : Result (List ℕ) AskFault) → find x ≡ Some n → ((meant : Result (List ℕ) Fault) → Asks old meant → Asks new (with_last_handle meant n))
      → Asks old (named_handles find (take i xs)) → Asks new (named_handles find (take (i + 1) xs))
  handles_step n old new found kept asks = rw (one_more xs i x lt is, handles_more find (take i xs) x n found) (kept (named_handles find (take i xs)) asks)

module _ (find : List ℕ → Option ℕ) (xs : List NameValuePair) (i : ℕ) (x : NameValuePair) (lt : i < length xs) (is : x ≡ get_or xs i x) where
  pub pairs_none : find x.name ≡ None → named_pairs find xs ≡ Err fault.NameNotFound
  pairs_none none = ap (named_pairs find) (split_at xs i x lt is) ∙ pairs_unknown find (take i xs) (drop (suc i) xs) x none

  pub pairs_step : (n : ℕ) (old new : Result (List HandleValuePair) AskFault) → find x.name ≡ Some n → ((meant : Result (List HandleValuePair) Fault) → Asks old meant → Asks new (with_last_pair meant n x.value))
      → Asks old (named_pairs find (take i xs)) → Asks new (named_pairs find (take (i + 1) xs))
  pairs_step n old new found kept asks = rw (one_more xs i x lt is, pairs_more find (take i xs) x n found) (kept (named_pairs find (take i xs)) asks)

pub handles_start : (find : List ℕ → Option ℕ) (xs : List (List ℕ)) → named_handles find (take 0 xs) ≡ Ok []
unfolding named_handles
handles_start find [] = refl
handles_start find (x ∷ xs) = refl

pub pairs_start : (find : List ℕ → Option ℕ) (xs : List NameValuePair) → named_pairs find (take 0 xs) ≡ Ok []
unfolding named_pairs
pairs_start find [] = refl
pairs_start find (x ∷ xs) = refl

-- ---- want of memory
-- where there were numbers, only memory was wanting
pub handles_starved : (old : Result (List ℕ) AskFault) (ns : List ℕ) (n : ℕ) → old ≡ Ok ns → (meant : Result (List ℕ) Fault) → Asks old meant → Asks {X = List ℕ} (Err stop.Memory) (with_last_handle meant n)
handles_starved old ns n is meant asks =
    let e : meant ≡ Ok ns = subst (λ (r : Result (List ℕ) AskFault). Asks r meant) is asks in
    (ns ++ n ∷ [], rw e refl)

too_long_starved : {X : Type 0} (value : List ℕ) (x : X) → length value ≤ max_value → Asks {X = X} (Err stop.Memory) (unless_too_long value x)
too_long_starved value x short =
    let small : nat_lt max_value (length value) ≡ false = grind (arith, nat_tests) in
    (x, rw small refl)

pub pairs_starved : (old : Result (List HandleValuePair) AskFault) (ps : List HandleValuePair) (n : ℕ) (value : List ℕ) → old ≡ Ok ps → length value ≤ max_value → (meant : Result (List HandleValuePair) Fault) → Asks old meant
    → Asks {X = List HandleValuePair} (Err stop.Memory) (with_last_pair meant n value)
pairs_starved old ps n value is short meant asks =
    let e : meant ≡ Ok ps = subst (λ (r : Result (List HandleValuePair) AskFault). Asks r meant) is asks in
    rw e (too_long_starved value _ short)
