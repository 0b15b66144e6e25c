-- Values of attributes and parameters as heads and bytes
use Rattle.std.specs.Prelude.{ℕ, ◌&&◌, ltb, Bool, true, false, List, [], ◌∷◌, drop, length, not, min}
use Rattle.std.specs.List.{flat_map}
use Rattle.hla_base.specs.declared.content.HandleValuePair.{HandleValuePair}
use Rattle.hla_base.specs.Limits.{max_value, largest_number}
use Rattle.hla_plain.specs.declared.data.ValueHead.{ValueHead}

-- a value's number and length
abbrev pub head_of : HandleValuePair → ValueHead
head_of v = record { handle = v.handle; length = length v.value }

-- the bytes of all, one behind another
abbrev pub bytes_in : List HandleValuePair → List ℕ
bytes_in vs = flat_map (λ (v : HandleValuePair). v.value) vs

-- whether these heads have just these bytes: no value is too long, and the lengths add up
abbrev pub fits : List ValueHead → List ℕ → Bool
fits [] [] = true
fits [] (b ∷ bs) = false
fits (h ∷ hs) bs = not (ltb max_value h.length) && not (ltb (length bs) h.length) && fits hs (drop h.length bs)

-- a count, up to the largest number
abbrev pub counted : ℕ → ℕ
counted n = min n largest_number
