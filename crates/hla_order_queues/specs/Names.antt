-- How the stamps of events are kept by their names: each sender's by serials that rise
use Rattle.std.specs.Prelude.{◌≡◌, ℕ, suc, ◌-◌, ◌/◌, ◌^◌, ◌<◌, eqb, ltb, leb, ◌&&◌, ◌||◌, cond, Bool, false, Option, Some, None, is_none, get_or, List, [], ◌∷◌, ◌++◌}
use Rattle.std.specs.List.{AllByRecursion}
use Rattle.std.specs.Option.{option_or}
use Rattle.std.specs.declared.cmp.Ordering.{Ordering}
use Rattle.std.specs.Ordering.{nat_cmp, ordering_then}
use Rattle.hla_order_queues.specs.declared.key.EventKey.{EventKey}
use Rattle.hla_order_queues.specs.declared.key.EventName.{EventName}
use Rattle.hla_order_queues.specs.declared.rising.Passed.{Passed}
use Rattle.hla_order_queues.specs.declared.rising.Pushed.{Pushed}
use Rattle.hla_order_queues.specs.declared.rising.Pushed.TheVariants.{Noted, Elsewhere, Refused}
use Rattle.hla_order_queues.specs.declared.rising.StampNote.{StampNote}
use Rattle.hla_order_queues.specs.Kept.{name_eq, name_of_key, is_less}

-- the stamp that is noted at a serial
unfoldable pub noted : ℕ → List StampNote → Option ℕ
noted m [] = None
noted m (q ∷ qs) = cond (eqb q.serial m) (option_or q.stamp (noted m qs)) (noted m qs)

-- whether an event of the sender is one of those up to the last that was passed, by stamp and then by serial
abbrev pub is_passed : Option Passed → ℕ → ℕ → Bool
is_passed None m t = false
is_passed (Some p) m t = ltb t p.stamp || (eqb t p.stamp && leb m p.serial)

-- the last event that was passed, once this one is
abbrev pub passed_to : Option Passed → ℕ → ℕ → Option Passed
passed_to o m t = cond (is_passed o m t) o (Some (record { stamp = t; serial = m }))

-- the stamp at a serial, if it was not passed
abbrev pub unpassed : Option Passed → ℕ → Option ℕ → Option ℕ
unpassed o m None = None
unpassed o m (Some t) = cond (is_passed o m t) None (Some t)

-- a note says nothing of an event that was passed
abbrev pub note_unpassed : Option Passed → StampNote → StampNote
note_unpassed o q = record { serial = q.serial; stamp = unpassed o q.serial q.stamp }

unfoldable pub without_passed : Option Passed → List StampNote → List StampNote
without_passed o [] = []
without_passed o (q ∷ qs) = note_unpassed o q ∷ without_passed o qs

-- the later notes have the stamp at the serial, where it was noted; else nothing has changed
abbrev pub IsPushed : Pushed → ℕ → ℕ → List StampNote → List StampNote → Type 0
IsPushed Noted m t old new = (k : ℕ) → noted k new ≡ cond (eqb m k) (Some t) (noted k old)
IsPushed Elsewhere m t old new = new ≡ old
IsPushed Refused m t old new = new ≡ old

-- no event that is noted comes before the one with this serial and stamp, and at this serial is no other stamp
pub record IsLeastNoted (m t : ℕ) (qs : List StampNote) : Type 0 where
  pub least : (k s : ℕ) → noted k qs ≡ Some s → (ltb s t || (eqb s t && ltb k m)) ≡ false
  pub only : (s : ℕ) → noted m qs ≡ Some s → s ≡ t

-- each serial is less than all behind it
unfoldable pub AreRisingNotes : List StampNote → Type 0
AreRisingNotes [] = Unit {0}
AreRisingNotes (q ∷ qs) = AllByRecursion (λ r. q.serial < r.serial) qs × AreRisingNotes qs

-- all serials are less than this one
abbrev pub AreLess : ℕ → List StampNote → Type 0
AreLess m qs = AllByRecursion (λ q. q.serial < m) qs

abbrev pub is_note_before : ℕ → StampNote → Bool
is_note_before m q = ltb q.serial m

-- the first note has this serial
abbrev pub is_first_note : ℕ → List StampNote → Bool
is_first_note m [] = false
is_first_note m (q ∷ qs) = eqb q.serial m

-- the first note is of an event that is gone
abbrev pub is_first_none : List StampNote → Bool
is_first_none [] = false
is_first_none (q ∷ qs) = is_none q.stamp

-- there is much more room than the notes need, and half of those that were there at the last try are gone
abbrev pub is_try_due : ℕ → ℕ → ℕ → Bool
is_try_due room len tried = ltb 64 room && (ltb len (room / 4) && leb len (tried / 2))

-- how many notes there were at the last try to give room back; more than any where half of the room is used
abbrev pub tried_after : ℕ → ℕ → ℕ → ℕ
tried_after room len tried = cond (leb (room / 2) len) (2 ^ 64 - 1) (cond (is_try_due room len tried) len tried)

-- the later notes, which rise, have the same stamps
pub record Keeps (old new : List StampNote) : Type 0 where
  pub same : (m : ℕ) → noted m new ≡ noted m old
  pub rising : AreRisingNotes new

-- the later notes, which rise, have the same stamps but for one that was taken
pub record TakesNote (m : ℕ) (old new : List StampNote) (stamp : Option ℕ) : Type 0 where
  pub found : stamp ≡ noted m old
  pub rest : (k : ℕ) → noted k new ≡ cond (eqb m k) None (noted k old)
  pub rising : AreRisingNotes new

-- the stamp at a name, among the notes of all senders
abbrev pub noted_at : List (List StampNote) → EventName → Option ℕ
noted_at rising n = noted n.serial (get_or rising n.sender [])

-- the key of the event with this name and stamp
abbrev pub key_with : EventName → ℕ → EventKey
key_with n t = record { stamp = t; sender = n.sender; serial = n.serial }

-- no event that is noted comes before the one with this key, and at its name is no other stamp
pub record IsLeastAt (k : EventKey) (rising : List (List StampNote)) : Type 0 where
  pub least : (n : EventName) (t : ℕ) → noted_at rising n ≡ Some t → is_less (key_with n t) k ≡ false
  pub only : (t : ℕ) → noted_at rising (name_of_key k) ≡ Some t → t ≡ k.stamp

-- what is noted of a sender, by name
abbrev pub with_entry : EventName → Option ℕ → List (EventName × ℕ) → List (EventName × ℕ)
with_entry n None es = es
with_entry n (Some t) es = (n, t) ∷ es

unfoldable pub entries_from : ℕ → List StampNote → List (EventName × ℕ)
entries_from g [] = []
entries_from g (q ∷ qs) = with_entry (record { sender = g; serial = q.serial }) q.stamp (entries_from g qs)

-- what is noted of the senders from this one on
unfoldable pub rising_entries : ℕ → List (List StampNote) → List (EventName × ℕ)
rising_entries g [] = []
rising_entries g (qs ∷ rest) = entries_from g qs ++ rising_entries (suc g) rest

-- all stamps by name: those that are noted, and then the others
unfoldable pub entries_of : List (List StampNote) → List (EventName × ℕ) → List (EventName × ℕ)
entries_of rising others = rising_entries 0 rising ++ others

-- the order of names
abbrev pub name_cmp : EventName → EventName → Ordering
name_cmp a b = ordering_then (nat_cmp a.sender b.sender) (nat_cmp a.serial b.serial)

-- the later look-up has this at the name, and at each other name what the earlier one has
abbrev pub SetsAt : (EventName → Option ℕ) → (EventName → Option ℕ) → EventName → Option ℕ → Type 0
SetsAt old new k w = (n : EventName) → new n ≡ cond (name_eq k n) w (old n)

-- the later notes have the stamp of the event with this key, where it was noted; else nothing has changed
abbrev pub IsPushedAt : Pushed → EventKey → List (List StampNote) → List (List StampNote) → Type 0
IsPushedAt Noted k old new = SetsAt (noted_at old) (noted_at new) (name_of_key k) (Some k.stamp)
IsPushedAt Elsewhere k old new = (n : EventName) → noted_at new n ≡ noted_at old n
IsPushedAt Refused k old new = (n : EventName) → noted_at new n ≡ noted_at old n
