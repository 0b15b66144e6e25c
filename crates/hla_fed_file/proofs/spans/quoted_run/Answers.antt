-- The lanes are held against the definition at each of the 256 bytes, by computing.
use Rattle.std.proofs.Common.{refl, arith}
use Rattle.std.proofs.lemmas.Simd.{zip2_splat, length-chunk}
use lib.Lanes.{chunk}
use Rattle.hla_fed_file.specs.Lexical.{is_quoted, is_blank, is_bad}
use Rattle.hla_fed_file.proofs.Lexical.SpanLemmas.{joined_lanes, turned, with_lanes, run_in}
use Rattle.hla_fed_file.proofs.spans.quoted_run.Goals as goal

pub returns : goal.returns
unfolding is_quoted is_blank is_bad
returns c =
    let v = chunk c.args.at 16 c.args.text.now in
    let long = length-chunk c.args.at 16 c.args.text.now c.requires in
    run_in is_quoted c.args.text.now c.args.at 16 _ _ c.requires (omega arith) c.type_inv.text c.first_set.ensures _
    (joined_lanes _ _ _ v (joined_lanes _ _ _ v (zip2_splat _ v 16 32 long) (turned _ _ v (with_lanes _ _ v c.by_low_bits.ensures))) (with_lanes _ _ v c.by_low_bits-2.ensures)) refl
