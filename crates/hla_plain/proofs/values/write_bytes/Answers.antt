use Rattle.std.proofs.Common.{◌≡◌, ℕ, ◌+◌, ◌-◌, List, ◌++◌, take, length, refl, sym, ap, ◌∙◌, arith}
use Rattle.std.proofs.Math.Nat.{zero-add}
use Rattle.std.proofs.Math.Seq.{paste}
use Rattle.std.proofs.lemmas.List.{length-append}
use Rattle.std.proofs.lemmas.List.Edits.{paste-paste}
use Rattle.std.proofs.lemmas.Slice.{put_mid-paste}
use Rattle.hla_plain.specs.Values.{bytes_in}
use Rattle.hla_plain.proofs.Pieces.{more_bytes, next_within}
use Rattle.hla_plain.proofs.values.write_bytes.Goals as goal

pub slice_bounds-copy_from_slice-end : goal.slice_bounds-copy_from_slice-end
slice_bounds-copy_from_slice-end c =
    let vs = c.args.values.now in
    let i = c.loop-pair.pair-index in
    let v = c.pair-item.result in
    let long : length c.as_slice-value.result.now ≡ length v.value = ap length c.as_slice-value.ensures in
    let within = next_within vs i v c.loop-pair-test.true c.pair-item.is in
    omega (arith, long, within, c.loop-pair.invariant.start, c.requires, c.loop-pair.auto.bytes)

pub loop-pair-preserved : goal.loop-pair-preserved
loop-pair-preserved c =
    let vs = c.args.values.now in
    let old = c.args.bytes.now in
    let i = c.loop-pair.pair-index in
    let v = c.pair-item.result in
    let start = c.loop-pair.start in
    let value = c.as_slice-value.result.now in
    let done = bytes_in (take i vs) in
    let more : bytes_in (take (i + 1) vs) ≡ done ++ value =
    more_bytes vs i v c.loop-pair-test.true c.pair-item.is ∙ ap (λ (bs : List ℕ). done ++ bs) (sym c.as_slice-value.ensures) in
    let sizes : start + length value ≡ length (bytes_in (take (i + 1) vs)) =
    ap (λ (n : ℕ). n + length value) c.loop-pair.invariant.start ∙ sym (length-append done value) ∙ ap length (sym more) in
    record {
      start = sizes;
      bytes =
          put_mid-paste start (start + length value - start) c.loop-pair.bytes c.copy_from_slice.new.self value (length value) c.copy_from_slice.ensures.after (omega arith) refl
          ∙ ap (λ (bs : List ℕ). paste bs start value (length value)) c.loop-pair.invariant.bytes
          ∙ ap (λ (n : ℕ). paste (paste old 0 done start) n value (length value)) (sym (zero-add start))
          ∙ paste-paste old 0 done value start (length value) c.loop-pair.invariant.start refl (omega arith)
          ∙ ap (λ (bs : List ℕ). paste old 0 bs (start + length value)) (sym more);
    }
