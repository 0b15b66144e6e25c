-- The least bound of rows, step by step
use Rattle.std.proofs.Common.{◌≡◌, ℕ, zero, suc, ◌+◌, ◌<◌, ◌≤◌, Bool, true, false, cond, eqb, List, [], ◌∷◌, ◌++◌, length, get_or, set, count_by, refl, ap, inl, inr, arith}
use Rattle.std.proofs.lemmas.Bool.{cases_lt, eqb-true}
use Rattle.std.proofs.lemmas.Bool.Decides.{nat_tests}
use Rattle.std.proofs.lemmas.List.{get_or_past}
use Rattle.std.proofs.lemmas.List.Elements.{All-set, All-push}
use Rattle.std.proofs.lemmas.List.Sums.{sum_by-set, sum_by-cons, sum_by-append, count_by-le-length}
use Rattle.std.specs.List.{All}
use Rattle.hla_base.specs.Tables.{forever, least, one_if}
use Rattle.hla_lbts.specs.declared.row.PeerRow.{PeerRow}
use Rattle.hla_lbts.specs.Rows.{IsLeast}
use Rattle.hla_lbts.specs.Peers.{silent_peer}

-- ---- the least of a table
least-le : (n : ℕ) (t : ℕ → ℕ) (g : ℕ) → g < n → least n t ≤ t g
unfolding least
least-le zero t g h = absurd (omega arith)
least-le (suc n) t g h = elim (cases_lt g n) [ inl low ↦ (let e = least-le n t g low in omega arith) | inr past ↦ (let same : g ≡ n = omega arith in rw same (omega arith)) ]

least_small : (n : ℕ) (t : ℕ → ℕ) → least n t ≤ forever
unfolding least
least_small zero t = omega arith
least_small (suc n) t = let e = least_small n t in omega arith

least_above : (n v : ℕ) (t : ℕ → ℕ) → v ≤ forever → ((g : ℕ) → v ≤ t g) → v ≤ least n t
unfolding least
least_above zero v t small low = small
least_above (suc n) v t small low = let e = least_above n v t small low in let f = low n in omega arith

-- the bounds that the tables have
pub lower_table : (rows : List PeerRow) (l h g : ℕ) → IsLeast rows l h → l ≤ (get_or rows g silent_peer).bound
lower_table rows l h g is =
    elim (cases_lt g (length rows)) [
      | inl low ↦ is.lower g silent_peer low
      | inr past ↦ (let e : get_or rows g silent_peer ≡ silent_peer = get_or_past rows g silent_peer past in rw e is.small)
    ]

-- a row that passes a test, where one is counted
holder_if : (b : Bool) (p : PeerRow → Bool) (r : PeerRow) (rows : List PeerRow) → p r ≡ b → 0 < cond b 1 0 + count_by p rows → (0 < count_by p rows → (g : ℕ) × (g < length rows) × (p (get_or rows g silent_peer) ≡ true)) → (g : ℕ) × (g < length (r ∷ rows)) × (p (get_or (r ∷ rows) g silent_peer) ≡ true)
holder_if true p r rows is h later = (0, omega arith, is)
holder_if false p r rows is h later = let found = later (omega arith) in (suc found.0, omega (arith, found.1), found.2)

holder : (p : PeerRow → Bool) (rows : List PeerRow) → 0 < count_by p rows → (g : ℕ) × (g < length rows) × (p (get_or rows g silent_peer) ≡ true)
holder p [] h = absurd (omega arith)
holder p (r ∷ rows) h = holder_if (p r) p r rows refl (omega (arith, sum_by-cons (λ q. cond (p q) 1 0) r rows)) (holder p rows)

-- the least of the first n entries is the least of the rows, where the others have no bound
pub least_upto : (rows : List PeerRow) (l h n : ℕ) → IsLeast rows l h → ((g : ℕ) → n ≤ g → (get_or rows g silent_peer).bound ≡ forever) → l ≡ least n (λ g. (get_or rows g silent_peer).bound)
least_upto rows l h n is free =
    let t : ℕ → ℕ = λ g. (get_or rows g silent_peer).bound in
    let above = least_above n l t is.small (λ g. lower_table rows l h g is) in
    let one = holder (λ (r : PeerRow). eqb r.bound l) rows (omega (arith, is.counted, is.held)) in
    let has : (get_or rows one.0 silent_peer).bound ≡ l = eqb-true _ _ one.2 in
    elim (cases_lt one.0 n) [
      | inl low ↦ (let below = least-le n t one.0 low in omega arith)
      | inr past ↦ (let all = free one.0 past in let top = least_small n t in omega arith)
    ]

-- ---- all bounds are at or above the least, so that none is below it
none_equal : (v l : ℕ) (rows : List PeerRow) → v < l → All (λ (r : PeerRow). l ≤ r.bound) rows → count_by (λ (r : PeerRow). eqb r.bound v) rows ≡ 0
none_equal v l [] low all = refl
none_equal v l (r ∷ rows) low all =
    let here : l ≤ r.bound = all 0 silent_peer (omega arith) in
    let apart : eqb r.bound v ≡ false = grind (arith, nat_tests) in
    omega (arith, sum_by-cons (λ (q : PeerRow). cond (eqb q.bound v) 1 0) r rows, ap one_if apart, none_equal v l rows low (λ k d h. all (suc k) d (omega arith)))

-- ---- a row changes
counted_set : (v : ℕ) (rows : List PeerRow) (i : ℕ) (row : PeerRow) → i < length rows → count_by (λ (r : PeerRow). eqb r.bound v) (set rows i row) + cond (eqb (get_or rows i silent_peer).bound v) 1 0 ≡ count_by (λ (r : PeerRow). eqb r.bound v) rows + cond (eqb row.bound v) 1 0
counted_set v rows i row within = sum_by-set (λ (r : PeerRow). cond (eqb r.bound v) 1 0) rows i row silent_peer within

pub set_below : (rows : List PeerRow) (l h i : ℕ) (row : PeerRow) → IsLeast rows l h → i < length rows → row.bound < l → IsLeast (set rows i row) row.bound 1
set_below rows l h i row is within low =
    let old : l ≤ (get_or rows i silent_peer).bound = is.lower i silent_peer within in
    let apart : eqb (get_or rows i silent_peer).bound row.bound ≡ false = grind (arith, nat_tests) in
    let itself : eqb row.bound row.bound ≡ true = grind (arith, nat_tests) in
    record {
      small = omega (arith, is.small);
      lower = All-set (λ (r : PeerRow). row.bound ≤ r.bound) rows i row (omega arith) (λ k d h. omega (arith, is.lower k d h));
      counted = omega (arith, counted_set row.bound rows i row within, none_equal row.bound l rows low is.lower, ap one_if apart, ap one_if itself);
      held = omega arith;
    }

-- how many hold the least after a row has changed that is not below it
pub set_count : (rows : List PeerRow) (l h i : ℕ) (row : PeerRow) → IsLeast rows l h → i < length rows → count_by (λ (r : PeerRow). eqb r.bound l) (set rows i row) + cond (eqb (get_or rows i silent_peer).bound l) 1 0 ≡ h + cond (eqb row.bound l) 1 0
set_count rows l h i row is within = omega (arith, counted_set l rows i row within, is.counted)

pub set_not_below : (rows : List PeerRow) (l h i n : ℕ) (row : PeerRow) → IsLeast rows l h → i < length rows → l ≤ row.bound → n + cond (eqb (get_or rows i silent_peer).bound l) 1 0 ≡ h + cond (eqb row.bound l) 1 0 → 0 < n → IsLeast (set rows i row) l n
set_not_below rows l h i n row is within low count some = record {
  small = is.small;
  lower = All-set (λ (r : PeerRow). l ≤ r.bound) rows i row low is.lower;
  counted = omega (arith, set_count rows l h i row is within, count);
  held = some;
}

-- ---- the first rows, one after another
pub record IsLeastSoFar (rows : List PeerRow) (l h : ℕ) : Type 0 where
  pub small : l ≤ forever
  pub lower : All (λ (r : PeerRow). l ≤ r.bound) rows
  pub counted : count_by (λ (r : PeerRow). eqb r.bound l) rows ≡ h
  pub held : l < forever → 0 < h
  pub some : 0 < length rows → 0 < h

counted_push : (v : ℕ) (rows : List PeerRow) (row : PeerRow) → count_by (λ (r : PeerRow). eqb r.bound v) (rows ++ row ∷ []) ≡ count_by (λ (r : PeerRow). eqb r.bound v) rows + one_if (eqb row.bound v)
counted_push v rows row =
    let f : PeerRow → ℕ = λ r. one_if (eqb r.bound v) in
    omega (arith, sum_by-append f rows (row ∷ []), sum_by-cons f row [])

pub push_below : (rows : List PeerRow) (l h : ℕ) (row : PeerRow) → IsLeastSoFar rows l h → row.bound < l → IsLeastSoFar (rows ++ row ∷ []) row.bound 1
push_below rows l h row is low =
    let itself : eqb row.bound row.bound ≡ true = grind (arith, nat_tests) in
    record {
      small = omega (arith, is.small);
      lower = All-push (λ (r : PeerRow). row.bound ≤ r.bound) rows row (λ k d h. omega (arith, is.lower k d h)) (omega arith);
      counted = omega (arith, counted_push row.bound rows row, none_equal row.bound l rows low is.lower, ap one_if itself);
      held = λ _. omega arith;
      some = λ _. omega arith;
    }

pub push_equal : (rows : List PeerRow) (l h : ℕ) (row : PeerRow) → IsLeastSoFar rows l h → row.bound ≡ l → IsLeastSoFar (rows ++ row ∷ []) l (h + 1)
push_equal rows l h row is same =
    let here : eqb row.bound l ≡ true = grind (arith, nat_tests) in
    record {
      small = is.small;
      lower = All-push (λ (r : PeerRow). l ≤ r.bound) rows row is.lower (omega arith);
      counted = omega (arith, counted_push l rows row, is.counted, ap one_if here);
      held = λ _. omega arith;
      some = λ _. omega arith;
    }

pub push_above : (rows : List PeerRow) (l h : ℕ) (row : PeerRow) → IsLeastSoFar rows l h → l < row.bound → row.bound ≤ forever → IsLeastSoFar (rows ++ row ∷ []) l h
push_above rows l h row is low top =
    let apart : eqb row.bound l ≡ false = grind (arith, nat_tests) in
    record {
      small = is.small;
      lower = All-push (λ (r : PeerRow). l ≤ r.bound) rows row is.lower (omega arith);
      counted = omega (arith, counted_push l rows row, is.counted, ap one_if apart);
      held = is.held;
      some = λ _. is.held (omega arith);
    }

pub so_far_few : (rows : List PeerRow) (l h : ℕ) → IsLeastSoFar rows l h → h ≤ length rows
so_far_few rows l h is = omega (arith, is.counted, count_by-le-length (λ (r : PeerRow). eqb r.bound l) rows)

pub none_so_far : IsLeastSoFar [] forever 0
none_so_far = record { small = omega arith; lower = λ k d h. absurd (omega arith); counted = refl; held = λ h. absurd (omega arith); some = λ h. absurd (omega arith) }

pub whole : (rows : List PeerRow) (l h : ℕ) → IsLeastSoFar rows l h → 0 < length rows → IsLeast rows l h
whole rows l h is some = record { small = is.small; lower = is.lower; counted = is.counted; held = is.some some }

pub few_hold : (rows : List PeerRow) (l h : ℕ) → IsLeast rows l h → h ≤ length rows
few_hold rows l h is = omega (arith, is.counted, count_by-le-length (λ (r : PeerRow). eqb r.bound l) rows)
