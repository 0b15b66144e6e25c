-- The lanes are held against the definition at each of the 256 bytes, by computing.
use Rattle.std.proofs.Common.{refl, arith}
use lib.Lanes.{chunk}
use Rattle.hla_fed_file.specs.Lexical.{is_blank}
use Rattle.hla_fed_file.proofs.Lexical.SpanLemmas.{turned, with_lanes, run_in}
use Rattle.hla_fed_file.proofs.spans.blank_run.Goals as goal

pub returns : goal.returns
unfolding is_blank
returns c =
    let v = chunk c.args.at 16 c.args.text.now in
    run_in is_blank c.args.text.now c.args.at 16 _ _ c.requires (omega arith) c.type_inv.text c.first_set.ensures _
    (turned _ _ v (with_lanes _ _ v c.by_low_bits.ensures)) refl
