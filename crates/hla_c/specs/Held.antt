-- What a sealed box owns: nothing while it is empty, else the content in its block and the right to free it.
use mir.Syntax.{Ty}
use base.Fml.{Fml, ftrue}
use denote.RawPtr.{Ptr}
use Rattle.std.specs.Prelude.{Option, None, Some}
use Rattle.std.specs.Coded.{Coded, coded_option}
use Rattle.std.specs.Box.Ownership.{box_owns}
use Rattle.std_heap.specs.contracts.GlobalAllocator.TheImpl.{ghosts}
use Rattle.hla_c.specs.contracts.content.Content.{the_row}

-- the right to free a block of the C library's heap
abbrev pub token : Ty → Ptr → Fml
token = ghosts.dealloc_token (record { memory = record { seal = tt } })

abbrev pub Owned : Type 0
Owned = the_row.Denot

abbrev pub content_coded : Coded (Option Owned)
content_coded = coded_option the_row.coded

abbrev pub held_by : Ptr → Option Owned → Fml
held_by p None = ftrue
held_by p (Some x) = box_owns token the_row p x
