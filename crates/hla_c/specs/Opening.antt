-- Opening and closing a handle
use Rattle.std.specs.Prelude.{◌≡◌, ◌⊎◌, ℕ, Option, None, Some, Ok, Err, List}
use Rattle.hla_base.specs.Fault.{number_of}
use Rattle.hla_catalogue.specs.CatalogueValue.{CatalogueValue}
use Rattle.hla_fed_file.specs.declared.fault.FedFault.{FedFault}
use Rattle.hla_fed_file.specs.Reading.{reading_of, ReadsAs}
use Rattle.hla_components.specs.Components.{new_components}
use Rattle.hla_federation.specs.Steps.State.{state_of}
use Rattle.hla_plain.specs.declared.data.FedFaultData.{FedFaultData}
use Rattle.hla_plain.specs.Faults.{fed_fault_data, fault_of_fed}
use Rattle.hla_c.specs.Held.{Owned}
use Rattle.hla_c.specs.Codes.{handle_closed, handle_open}

-- an execution that no federate has joined, of what the FED file declares
abbrev pub IsNew : List ℕ → Owned → Type 0
IsNew fed new =
    (c : CatalogueValue) × ReadsAs (Ok c) (reading_of fed) × (state_of new.session.federation ≡ new_components c)
    × (new.session.catalogue ≡ c) × (new.session.callback ≡ None)

-- the file has this fault, or reading it ran out of memory, and that is written; or memory ran out behind the reading, and nothing
-- is written
abbrev pub IsRefusedAs : List ℕ → FedFaultData → FedFaultData → ℕ → Type 0
IsRefusedAs fed before after code =
    ((f : FedFault) × ReadsAs (Err f) (reading_of fed) × (after ≡ fed_fault_data f) × (code ≡ number_of (fault_of_fed f.kind)))
    ⊎ ((c : CatalogueValue) × ReadsAs (Ok c) (reading_of fed) × (code ≡ 38) × (after ≡ before))

abbrev pub IsOpened : Option Owned → List ℕ → FedFaultData → FedFaultData → ℕ → Option Owned → Type 0
IsOpened (Some old) fed before after code new = (code ≡ handle_open) × (new ≡ Some old) × (after ≡ before)
IsOpened None fed before after code (Some new) = (code ≡ 0) × IsNew fed new × (after ≡ before)
IsOpened None fed before after code None = IsRefusedAs fed before after code

abbrev pub IsClosed : Option Owned → ℕ → Option Owned → Type 0
IsClosed None code new = (code ≡ handle_closed) × (new ≡ None)
IsClosed (Some old) code new = (code ≡ 0) × (new ≡ None)
