-- Where a table has nothing, for the next message
use Rattle.std.proofs.Common.{◌≡◌, ℕ, ◌<◌, ◌≤◌, ap, ◌∙◌, arith}
use Rattle.hla_base.specs.Tables.{upd}
use Rattle.hla_base.proofs.Tables.{upd_other}
use Rattle.hla_retraction.specs.SentEvents.{SentEvent, no_event}

-- the table has nothing at a serial, nor above it
abbrev pub IsFreeFrom : ℕ → (ℕ → SentEvent) → Type 0
IsFreeFrom serial t = (m : ℕ) → serial ≤ m → t m ≡ no_event

-- after a message was put at a serial, there is nothing above that
pub free_from-upd : (t u : ℕ → SentEvent) (serial next : ℕ) (e : SentEvent) → u ≡ upd t serial e → IsFreeFrom serial t → serial < next → IsFreeFrom next u
free_from-upd t u serial next e is free above m high =
    ap (λ (v : ℕ → SentEvent). v m) is ∙ upd_other t serial e m (λ same. omega arith) ∙ free m (omega arith)
