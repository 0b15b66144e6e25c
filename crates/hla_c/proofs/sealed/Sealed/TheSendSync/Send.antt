-- A sealed box may go to another thread where what it holds may.
use mir.Raw.{raw}
use base.Shift.{Keyless}
use denote.Memory.{lone}
use denote.RawPtr.{Ptr}
use denote.Struct.Struct.{exits_of}
use denote.Struct.Owning.{shape, fields, to}
use denote.Param.Send.{IsSend, AllSend, owning_send, struct_send, sendable}
use Rattle.std.specs.Prelude.{Option, None, Some}
use Rattle.std.proofs.Crossing as heap
use Rattle.std_alloc.proofs.SendSync.{quiet, lies}
use Rattle.hla_c.specs.contracts.content.Content as Content
use Rattle.hla_c.proofs.content.Content.TheSendSync.{the_send as content}
use Rattle.hla_c.specs.Held.{Owned, held_by}
use Rattle.hla_c.specs.contracts.sealed.Sealed.{the_row, the_type}

held : (p : Ptr) (m : Option Owned) → Keyless (held_by p m)
held p None = tt
held p (Some x) = (lies Content.the_row content p x, heap.frees.frees (record { memory = record { seal = tt } }) (raw (lone Content.the_row.mir)) p)

pub send : IsSend the_row
send =
    let all : AllSend (fields the_type) = (search sendable, tt) in
    owning_send the_type all (λ d. held d.at d.content)
    (λ k. quiet (to the_type) (exits_of k (fields the_type)) ((struct_send (shape the_type) all).leaving k))
