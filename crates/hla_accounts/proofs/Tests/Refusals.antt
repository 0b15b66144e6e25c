-- What refusals read of all accounts, of a row, and of a stamp
use Rattle.std.proofs.Common.{◌≡◌, ℕ, zero, suc, ◌+◌, ◌<◌, ◌≤◌, cond, ltb, ◌&&◌, ◌||◌, Bool, true, false, List, [], ◌∷◌, length, get_or, take, Option, Some, None, is_some, unwrap_or, refl, sym, ap, ◌∙◌, ⊎_elim, arith}
use Rattle.std.specs.List.{list_any}
use Rattle.std.proofs.lemmas.Bool.{cases_Bool}
use Rattle.std.proofs.lemmas.Bool.Decides.{nat_tests}
use Rattle.std.proofs.lemmas.List.{take_more}
use Rattle.std.proofs.lemmas.List.Folds.{list_any-append}
use Rattle.std.proofs.Math.Seq.{take-length}
use Rattle.hla_base.specs.Limits.{max_time}
use Rattle.hla_base.specs.declared.row.TimeRow.{TimeRow}
use Rattle.hla_base.specs.RowRefusals.{first_fault, regulation_tests}
use Rattle.hla_base.specs.Rows.{bar_of, is_enabled, least_stamp}
use Rattle.hla_base.specs.Tables.{numbers_below, greatest}
use Rattle.hla_catalogue.specs.declared.declared.Order.TheVariants.{Timestamp}
use Rattle.hla_machine.specs.Directory.{Directory, Outgoing, is_of_order}
use Rattle.hla_machine.specs.Central.{low_entry}
use Rattle.hla_machine.specs.Sends.{is_some_ordered}
use Rattle.hla_machine.specs.Refusals.{is_bad_stamp}
use Rattle.hla_accounts.specs.declared.account.Account.{Account}
use Rattle.hla_accounts.specs.Accounts.{account_at, no_account, central_with}

-- ---- what is asked of some account is asked of some number
module _ (accounts : List Account) (asked : Account → Bool) (no : asked no_account ≡ false) where
  asked_below : (k : ℕ) → k ≤ length accounts → list_any (λ f. asked (account_at accounts f)) (numbers_below (suc k)) ≡ list_any asked (take k accounts)
  unfolding numbers_below
  asked_below zero b = rw no refl
  asked_below (suc k) b =
      let within : k < length accounts = omega (arith, b) in
      let one : suc k ≡ k + 1 = omega arith in
      list_any-append (λ f. asked (account_at accounts f)) (numbers_below (suc k)) (suc k ∷ [])
      ∙ rw (asked_below k (omega (arith, b)), one, take_more accounts k no_account within, list_any-append asked (take k accounts) (get_or accounts k no_account ∷ [])) refl

  pub asked_of_one : list_any (λ f. asked (account_at accounts f)) (numbers_below (length accounts + 1)) ≡ list_any asked accounts
  asked_of_one =
      let one : length accounts + 1 ≡ suc (length accounts) = omega arith in
      ap (λ (n : ℕ). list_any (λ f. asked (account_at accounts f)) (numbers_below n)) one ∙ asked_below (length accounts) (omega arith) ∙ ap (list_any asked) (take-length accounts)

-- ---- a federate asks to regulate
-- the least entry that bars allow matters only where time and lookahead are within their limits
entry_matters : (r : TimeRow) (low other t l : ℕ) → (t ≤ max_time → l ≤ max_time → low ≡ other) → first_fault (regulation_tests r low t l) ≡ first_fault (regulation_tests r other t l)
entry_matters r low other t l same = ⊎_elim
    (λ (y : ltb max_time t ≡ true). rw y refl)
    (λ (n : ltb max_time t ≡ false). ⊎_elim
    (λ (y : ltb max_time l ≡ true). rw y refl)
    (λ (k : ltb max_time l ≡ false). let small : t ≤ max_time = grind (arith, nat_tests, n) in let little : l ≤ max_time = grind (arith, nat_tests, k) in
    ap (λ (x : ℕ). first_fault (regulation_tests r x t l)) (same small little))
    (cases_Bool (ltb max_time l)))
    (cases_Bool (ltb max_time t))

pub entry_tested : (d : Directory) (accounts : List Account) (r : TimeRow) (low sum t l : ℕ) → low ≡ greatest (length accounts + 1) sum (λ g. bar_of (account_at accounts g).state) → (t ≤ max_time → l ≤ max_time → sum ≡ t + l) →
    first_fault (regulation_tests r low t l) ≡ first_fault (regulation_tests r (low_entry (central_with d accounts).directory (central_with d accounts).row (t + l)) t l)
unfolding low_entry
entry_tested d accounts r low sum t l is whole = entry_matters r low _ t l (λ small little. is ∙ ap (λ (x : ℕ). greatest (length accounts + 1) x (λ g. bar_of (account_at accounts g).state)) (whole small little))

-- ---- stamps
some_ordered : (r : TimeRow) (stamp : Option ℕ) (outs : List Outgoing) → is_some_ordered r stamp outs ≡ (list_any (λ (out : Outgoing). is_of_order Timestamp out.order) outs && is_some stamp && is_enabled r.regulating)
some_ordered r stamp [] = refl
some_ordered r stamp (out ∷ outs) = rw (some_ordered r stamp outs) (by (is_of_order Timestamp out.order) (list_any (λ (out : Outgoing). is_of_order Timestamp out.order) outs) (is_some stamp) (is_enabled r.regulating))
  where
    by : (a b c e : Bool) → cond (a && c && e) true (b && c && e) ≡ ((a || b) && c && e)
    by true true true true = refl
    by true true true false = refl
    by true true false e = refl
    by true false true true = refl
    by true false true false = refl
    by true false false e = refl
    by false b c e = refl

-- a stamp is tested by its own limit, and by the row where some part goes in time-stamp order
pub stamp_tested : (r : TimeRow) (stamp : Option ℕ) (outs : List Outgoing) (part : Bool) → list_any (λ (out : Outgoing). is_of_order Timestamp out.order) outs ≡ part →
    is_bad_stamp r stamp outs ≡ (ltb max_time (unwrap_or stamp 0) || ((part && is_some stamp && is_enabled r.regulating) && ltb (unwrap_or stamp 0) (least_stamp r)))
stamp_tested r stamp outs part is = rw (some_ordered r stamp outs, is) refl

pub early_part : (r : TimeRow) (stamp : Option ℕ) (outs : List Outgoing) (part : Bool) (s : ℕ) → list_any (λ (out : Outgoing). is_of_order Timestamp out.order) outs ≡ part → stamp ≡ Some s → s ≤ max_time → part ≡ true →
    (is_enabled r.regulating && ltb s (least_stamp r)) ≡ is_bad_stamp r stamp outs
early_part r stamp outs part s is there low t =
    let fine : ltb max_time s ≡ false = grind (arith, nat_tests) in
    sym (stamp_tested r stamp outs part is ∙ rw (there, t) (rw fine refl))

pub no_part : (r : TimeRow) (stamp : Option ℕ) (outs : List Outgoing) (part : Bool) (s : ℕ) → list_any (λ (out : Outgoing). is_of_order Timestamp out.order) outs ≡ part → stamp ≡ Some s → s ≤ max_time → part ≡ false →
    part ≡ is_bad_stamp r stamp outs
no_part r stamp outs part s is there low t =
    let fine : ltb max_time s ≡ false = grind (arith, nat_tests) in
    t ∙ sym (stamp_tested r stamp outs part is ∙ rw (there, t) (rw fine refl))

pub no_stamp : (r : TimeRow) (stamp : Option ℕ) (outs : List Outgoing) → stamp ≡ None → false ≡ is_bad_stamp r stamp outs
no_stamp r stamp outs none =
    let fine : ltb max_time 0 ≡ false = grind (arith, nat_tests) in
    sym (stamp_tested r stamp outs _ refl ∙ rw none (rw fine (by (list_any (λ (out : Outgoing). is_of_order Timestamp out.order) outs) (is_enabled r.regulating))))
  where
    by : (a e : Bool) → ((a && false && e) && ltb 0 (least_stamp r)) ≡ false
    by true e = refl
    by false e = refl
