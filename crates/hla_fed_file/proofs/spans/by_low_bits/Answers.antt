use Rattle.std.proofs.Common.{bit_and}
use Rattle.std.proofs.lemmas.Simd.{zip2_splat}
use Rattle.hla_fed_file.proofs.Lexical.SpanLemmas.{low_bits_within, looked_up}
use Rattle.hla_fed_file.proofs.spans.by_low_bits.Goals as goal

pub swizzle : goal.swizzle
swizzle c = low_bits_within c.args.bytes c.fits-bytes.0

pub returns : goal.returns
returns c = looked_up c.args.table c.args.bytes _ c.fits-bytes.0 (zip2_splat bit_and c.args.bytes 16 15 c.fits-bytes.0)
