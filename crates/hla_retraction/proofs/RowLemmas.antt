-- The table that rows are read as, and what a change of the rows does to it
use Rattle.std.proofs.Common.{◌≡◌, ◌≢◌, ℕ, zero, suc, ◌<◌, ◌≤◌, true, false, cond, eqb, List, [], ◌∷◌, ◌++◌, length, get_or, set, refl, sym, ap, ◌∙◌, inl, inr, ne_eqb, eq-eqb, arith}
use mathlib.Core.Bool.{false≢true}
use Rattle.std.proofs.lemmas.Bool.{cases_lt, cases_eq}
use Rattle.std.proofs.lemmas.List.{get_or_append_left, get_or_push, length_push, get_or_default}
use Rattle.std.proofs.Math.Path.{fun_ext}
use Rattle.hla_base.specs.Tables.{upd}
use Rattle.hla_retraction.specs.declared.sent.SentRow.{SentRow}
use Rattle.hla_retraction.specs.SentEvents.{SentEvent, no_event}
use Rattle.hla_retraction.specs.SentRows.{sent_of, row_event, no_row, serial_at, AreRising, IsRowAt}

-- all rows have serials below this one
abbrev pub HaveLesserSerials : List SentRow → ℕ → Type 0
HaveLesserSerials rows serial = (i : ℕ) → i < length rows → serial_at rows i < serial

rising_tail : (row : SentRow) (rows : List SentRow) → AreRising (row ∷ rows) → AreRising rows
rising_tail row rows rising i j less within = rising (suc i) (suc j) (omega arith) (omega arith)

below_tail : (row : SentRow) (rows : List SentRow) (serial : ℕ) → HaveLesserSerials (row ∷ rows) serial → HaveLesserSerials rows serial
below_tail row rows serial below i within = below (suc i) (omega arith)

-- ---- what the table has at a serial
pub sent_of-nil : sent_of [] ≡ (λ _. no_event)
unfolding sent_of
sent_of-nil = refl

pub sent_of-absent : (rows : List SentRow) (serial : ℕ) → ((i : ℕ) → i < length rows → serial_at rows i ≢ serial) → sent_of rows serial ≡ no_event
unfolding sent_of
sent_of-absent [] serial none = refl
sent_of-absent (row ∷ rows) serial none =
    let apart : eqb row.serial serial ≡ false = ne_eqb _ _ (none 0 (omega arith)) in
    rw apart (sent_of-absent rows serial (λ i within. none (suc i) (omega arith)))

pub sent_of-at : (rows : List SentRow) (serial i : ℕ) → AreRising rows → IsRowAt rows serial i → sent_of rows serial ≡ row_event (get_or rows i no_row)
unfolding sent_of
sent_of-at [] serial i rising at = absurd (omega (arith, at.in_range))
sent_of-at (row ∷ rows) serial zero rising at =
    let here : eqb row.serial serial ≡ true = eq-eqb _ _ at.has_serial in
    rw here refl
sent_of-at (row ∷ rows) serial (suc i) rising at =
    let apart : eqb row.serial serial ≡ false = ne_eqb _ _ (λ same. omega (arith, rising 0 (suc i) (omega arith) at.in_range, at.has_serial)) in
    rw apart (sent_of-at rows serial i (rising_tail row rows rising) (record { in_range = omega (arith, at.in_range); has_serial = at.has_serial }))

-- where the table has nothing from a serial on, all rows are below it
pub below_from_absent : (rows : List SentRow) (serial : ℕ) → AreRising rows → ((m : ℕ) → serial ≤ m → sent_of rows m ≡ no_event) → HaveLesserSerials rows serial
below_from_absent rows serial rising free i within = elim (cases_lt (serial_at rows i) serial) [
  | inl low ↦ low
  | inr high ↦
      let kept = sent_of-at rows (serial_at rows i) i rising (record { in_range = within; has_serial = refl }) in
      absurd (false≢true (ap (λ (e : SentEvent). e.retractable) (sym (free (serial_at rows i) high) ∙ kept)))
]

-- ---- a row behind the others
pub rising_push : (rows : List SentRow) (row : SentRow) → AreRising rows → HaveLesserSerials rows row.serial → AreRising (rows ++ row ∷ [])
rising_push rows row rising below i j less within =
    let size = length_push rows row in
    let serial : SentRow → ℕ = λ r. r.serial in
    let old : (k : ℕ) → k < length rows → serial_at (rows ++ row ∷ []) k ≡ serial_at rows k = λ k h. ap serial (get_or_append_left rows (row ∷ []) no_row k h) in
    let new : (k : ℕ) → length rows ≡ k → serial_at (rows ++ row ∷ []) k ≡ row.serial = λ k e. ap serial (get_or_push rows row no_row k e) in
    elim (cases_lt j (length rows)) [
      | inl low ↦ omega (arith, old i (omega arith), old j low, rising i j less low)
      | inr high ↦ omega (arith, old i (omega arith), new j (omega arith), below i (omega arith))
    ]

push_at : (rows : List SentRow) (row : SentRow) (m : ℕ) → HaveLesserSerials rows row.serial → sent_of (rows ++ row ∷ []) m ≡ cond (eqb row.serial m) (row_event row) (sent_of rows m)
unfolding sent_of
push_at [] row m below = refl
push_at (first ∷ rows) row m below = elim (cases_eq row.serial m) [
  | inl here ↦
      let yes : eqb row.serial m ≡ true = eq-eqb _ _ here in
      let no : eqb first.serial m ≡ false = ne_eqb _ _ (λ e. omega (arith, below 0 (omega arith))) in
      rw (no, yes) (push_at rows row m (below_tail first rows row.serial below) ∙ rw yes refl)
  | inr there ↦
      let no : eqb row.serial m ≡ false = ne_eqb _ _ there in
      rw no (ap (cond (eqb first.serial m) (row_event first)) (push_at rows row m (below_tail first rows row.serial below) ∙ rw no refl))
]

pub sent_of-push : (rows : List SentRow) (row : SentRow) → HaveLesserSerials rows row.serial → sent_of (rows ++ row ∷ []) ≡ upd (sent_of rows) row.serial (row_event row)
unfolding upd
sent_of-push rows row below = fun_ext (λ m. push_at rows row m below)

-- ---- a row in the place of one with its serial
set_at : (rows : List SentRow) (i : ℕ) (row : SentRow) (m : ℕ) → AreRising rows → IsRowAt rows row.serial i → sent_of (set rows i row) m ≡ cond (eqb row.serial m) (row_event row) (sent_of rows m)
unfolding sent_of
set_at [] i row m rising at = absurd (omega (arith, at.in_range))
set_at (first ∷ rows) zero row m rising at = elim (cases_eq row.serial m) [
  | inl here ↦ let yes : eqb row.serial m ≡ true = eq-eqb _ _ here in rw yes refl
  | inr there ↦
      let no : eqb row.serial m ≡ false = ne_eqb _ _ there in
      let no_first : eqb first.serial m ≡ false = ne_eqb _ _ (λ e. there (sym at.has_serial ∙ e)) in
      rw (no, no_first) refl
]
set_at (first ∷ rows) (suc i) row m rising at =
    let tail = rising_tail first rows rising in
    let at_tail : IsRowAt rows row.serial i = record { in_range = omega (arith, at.in_range); has_serial = at.has_serial } in
    elim (cases_eq row.serial m) [
      | inl here ↦
          let yes : eqb row.serial m ≡ true = eq-eqb _ _ here in
          let no : eqb first.serial m ≡ false = ne_eqb _ _ (λ e. omega (arith, rising 0 (suc i) (omega arith) at.in_range, at.has_serial)) in
          rw (no, yes) (set_at rows i row m tail at_tail ∙ rw yes refl)
      | inr there ↦
          let no : eqb row.serial m ≡ false = ne_eqb _ _ there in
          rw no (ap (cond (eqb first.serial m) (row_event first)) (set_at rows i row m tail at_tail ∙ rw no refl))
    ]

-- a row is marked as retracted
abbrev marked : SentRow → SentRow
marked row = record row { retracted = true }

abbrev marked_event : SentEvent → SentEvent
marked_event e = record e { retracted = true }

pub sent_of-marked : (rows : List SentRow) (serial i : ℕ) (row : SentRow) → AreRising rows → IsRowAt rows serial i → row ≡ get_or rows i row → sent_of (set rows i (marked row)) ≡ upd (sent_of rows) serial (marked_event (sent_of rows serial))
unfolding upd
sent_of-marked rows serial i row rising at is =
    let read : row ≡ get_or rows i no_row = is ∙ get_or_default rows i row no_row at.in_range in
    let has : row.serial ≡ serial = ap (λ (r : SentRow). r.serial) read ∙ at.has_serial in
    let at_row : IsRowAt rows row.serial i = record { in_range = at.in_range; has_serial = at.has_serial ∙ sym has } in
    let event : row_event row ≡ sent_of rows serial = ap row_event read ∙ sym (sent_of-at rows serial i rising at) in
    fun_ext (λ m. set_at rows i (marked row) m rising at_row ∙ ap (λ s. cond (eqb s m) (row_event (marked row)) (sent_of rows m)) has ∙ ap (λ e. cond (eqb serial m) (marked_event e) (sent_of rows m)) event)
