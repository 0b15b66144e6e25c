use Rattle.std.proofs.Common.{string_bytes, append_assoc}
use Rattle.hla_files.proofs.EndLemmas.{same_text}
use Rattle.hla_files.proofs.telling.fault_line.Goals as goal

pub returns : goal.returns
returns c = same_text string_bytes c.format.result _ _ (simp append_assoc) c.format.ensures.ok
