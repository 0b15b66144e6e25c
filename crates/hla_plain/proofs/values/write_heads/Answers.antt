use Rattle.std.proofs.Common.{◌≡◌, ℕ, ◌+◌, ◌<◌, List, length, get_or, map, slice_set, sym, ap, ◌∙◌, arith}
use Rattle.std.proofs.Math.Nat.{zero-add}
use Rattle.std.proofs.Math.Seq.{paste}
use Rattle.std.proofs.lemmas.List.{get_or-map, length-map}
use Rattle.std.proofs.lemmas.List.Edits.{paste_more}
use Rattle.hla_plain.specs.declared.data.ValueHead.{ValueHead}
use Rattle.hla_plain.specs.Values.{head_of}
use Rattle.hla_plain.proofs.values.write_heads.Goals as goal

pub loop-place-preserved : goal.loop-place-preserved
loop-place-preserved c =
    let vs = c.args.values.now in
    let heads = c.args.heads.now in
    let i = c.loop-place.place in
    let v = c.index-values-place.result in
    let made : ValueHead = record { handle = v.handle; length = length c.as_slice.result.now } in
    let item : made ≡ get_or (map head_of vs) i made =
    ap (λ (n : ℕ). record { handle = v.handle; length = n }) (ap length c.as_slice.ensures) ∙ ap head_of c.index-values-place.is
    ∙ sym (get_or-map head_of vs i v made c.loop-place-test.true) in
    let here : 0 + i < length heads = omega (arith, c.loop-place-test.true, c.requires) in
    let among : i < length (map head_of vs) = omega (arith, c.loop-place-test.true, length-map {B = ValueHead} vs) in
    ap (λ (hs : List ValueHead). slice_set hs i made) c.loop-place.invariant
    ∙ ap (λ (h : ValueHead). slice_set (paste heads 0 (map head_of vs) i) i h) item
    ∙ ap (λ (n : ℕ). slice_set (paste heads 0 (map head_of vs) i) n (get_or (map head_of vs) i made)) (sym (zero-add i))
    ∙ paste_more heads 0 (map head_of vs) i made here among
