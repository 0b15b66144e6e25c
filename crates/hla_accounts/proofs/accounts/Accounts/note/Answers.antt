-- What the one account has sent is written.
use Rattle.std.proofs.Common.{◌≡◌, ◌≤◌, ◌-◌, ◌+◌, ℕ, true, false, length, set, subst, sym}
use Rattle.hla_base.specs.Limits.{max_serial}
use Rattle.hla_base.specs.Tables.{upd, upd2}
use Rattle.hla_retraction.specs.SentEvents.{SentEvent, no_event}
use Rattle.hla_retraction.specs.SentRows.{sent_of}
use Rattle.hla_base.specs.FederateSets.{federate_set}
use Rattle.hla_accounts.specs.declared.account.Account.{Account}
use Rattle.hla_accounts.specs.Accounts.{account_at, central_with, AreKept}
use Rattle.hla_accounts.proofs.AfterSteps.OneAccount.{account_read, account_shown}
use Rattle.hla_accounts.proofs.AfterSteps.Counts.{on_ok}
use Rattle.hla_accounts.proofs.AfterSteps.Sends.{on_both, notes_kept, note_set}
use Rattle.hla_accounts.proofs.accounts.Accounts.note.Goals as goal

inside : (c : goal.After-self-1) → c.args.federate ≤ length c.self.inside.accounts.items
inside c = rw c.self.view_is c.requires.within

read : (c : goal.After-self-1) → c.index_mut.result.now ≡ account_at c.self.inside.accounts.items c.args.federate
read c = account_read c.self.inside.accounts.items c.args.federate c.index_mut.result.now c.requires.some (inside c) c.index_mut.ensures.value

pub note-requires-clause-unsent : goal.note-requires-clause-unsent
note-requires-clause-unsent c =
    let kept : AreKept c.args.self.now = rw (← c.self.view_is) c.self.invariant in
    let is = account_shown c.self.inside.accounts.items c.args.self.now c.self.view_is c.args.federate c.index_mut.result.now c.requires.some c.requires.within c.index_mut.ensures.value in
    subst (λ (a : Account). (m : ℕ) → a.next_serial ≤ m → sent_of a.sent m ≡ no_event) (sym is) (kept.unsent c.args.federate)

pub note-requires-clause-room : goal.note-requires-clause-room
note-requires-clause-room c = let is = account_shown c.self.inside.accounts.items c.args.self.now c.self.view_is c.args.federate c.index_mut.result.now c.requires.some c.requires.within c.index_mut.ensures.value in subst (λ (a : Account). a.next_serial ≤ max_serial) (sym is) c.requires.room

pub invariant_of-self : goal.invariant_of-self
invariant_of-self c =
    let e : SentEvent = record { stamp = c.args.stamp; retractable = true; retracted = false; receivers = federate_set c.args.receivers } in
    notes_kept c.self.inside.accounts.items c.args.federate c.requires.some (inside c) c.self.invariant c.index_mut.result.now c.note.new.self e c.note.result (read c) (on_both c.note.result (λ p q. (p, q)) c.note.ensures.account c.note.ensures.sent) c.note.ensures.unchanged

pub returns-clause-ok : goal.returns-clause-ok
returns-clause-ok c =
    let e : SentEvent = record { stamp = c.args.stamp; retractable = true; retracted = false; receivers = federate_set c.args.receivers } in
    on_ok c.note.result (λ noted d. subst (λ v. central_with d (set c.self.inside.accounts.items (c.args.federate - 1) c.note.new.self) ≡ record (central_with d v) { serial = upd (central_with d v).serial c.args.federate ((central_with d v).serial c.args.federate + 1); sent = upd2 (central_with d v).sent c.args.federate ((central_with d v).serial c.args.federate) e }) c.self.view_is
    (note_set d c.self.inside.accounts.items c.args.federate c.requires.some (inside c) c.index_mut.result.now c.note.new.self e (read c) noted)) (on_both c.note.result (λ p q. (p, q)) c.note.ensures.account c.note.ensures.sent)
