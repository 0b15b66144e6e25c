-- Where the bytes of a value lie
use Rattle.std.specs.Prelude.{ℕ, List}
use Rattle.std.specs.Arc.{arc_slice_items}
use Rattle.hla_base.specs.declared.value.Bytes.{Bytes}
use Rattle.hla_base.specs.declared.value.Bytes.TheVariants.{Inline, Shared}

abbrev pub bytes_of : Bytes → List ℕ
bytes_of (Inline bytes) = bytes
bytes_of (Shared items) = arc_slice_items items
