use Rattle.std.proofs.Common.{string_bytes, append_assoc}
use Rattle.hla_files.proofs.EndLemmas.{same_text}
use Rattle.hla_files.proofs.finding.finding_text.Goals as goal

pub returns-in-Some : goal.returns-in-Some
returns-in-Some c = rw c.in-Some.is (same_text string_bytes c.format.result _ _ (rw c.in_ok-line.ensures (simp append_assoc)) c.format.ensures.ok)
