use Rattle.std.proofs.Common.{List, ℕ, refl, sym, subst, ◌∙◌}
use Rattle.hla_transcript.specs.Watching.{stream_of}
use Rattle.hla_files.specs.Program.{WritesLine, Told, Unwritten, Untold}
use Rattle.hla_files.proofs.EndLemmas.{flushed}
use Rattle.hla_files.proofs.CheckLemmas.{line_told, line_cut}
use Rattle.hla_files.proofs.finding.tell_finding.Goals as goal

pub returns-then-has_failed-clause-ends : goal.returns-then-has_failed-clause-ends
returns-then-has_failed-clause-ends g c =
    let P : List ℕ → Type 0 = λ line. WritesLine (stream_of g.W.Write.contents c.args.out.now) (stream_of g.W.Write.contents c.tell.new.errors) line in
    let cut = line_cut _ _ (stream_of g.W.Write.contents c.flush.new.self) _ (subst P (c.as_str.ensures.value ∙ c.in-Ok.ensures) c.tell.ensures) c.flush.ensures.bytes in
    Unwritten cut.0 cut.1 (sym c.has_failed.ensures ∙ c.if-has_failed.true) c.tell_unwritten.ensures.line c.tell_unwritten.ensures.status

pub returns-in_default-clause-ends : goal.returns-in_default-clause-ends
returns-in_default-clause-ends g c = Untold refl c.tell_out_of_memory.ensures.line c.tell_out_of_memory.ensures.status

pub returns-clause-ends : goal.returns-clause-ends
returns-clause-ends g c =
    let P : List ℕ → Type 0 = λ line. WritesLine (stream_of g.W.Write.contents c.args.out.now) (stream_of g.W.Write.contents c.tell.new.errors) line in
    let none = sym c.has_failed.ensures ∙ c.if-has_failed.false in
    Told (line_told _ _ (stream_of g.W.Write.contents c.flush.new.self) _ _ (subst P (c.as_str.ensures.value ∙ c.in-Ok.ensures) c.tell.ensures) c.flush.ensures.bytes c.flush.ensures.failure none) none refl c.finding_status.ensures

pub returns-clause-handed_on : goal.returns-clause-handed_on
returns-clause-handed_on g c = λ _. flushed _ _ _ _ c.flush.ensures.failure (sym c.has_failed.ensures ∙ c.if-has_failed.false) c.flush.ensures.handed_on
