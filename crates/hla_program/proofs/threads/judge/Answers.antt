use Rattle.std.proofs.Common.{refl, subst}
use Rattle.hla_transcript.specs.Watching.{stream_of}
use Rattle.hla_files.specs.declared.finding.Finding.{Finding}
use Rattle.hla_files.specs.Program.{EndsTelling, finding_text, finding_status}
use Rattle.hla_program.specs.Program.{Judged, Unjudged}
use Rattle.hla_program.proofs.threads.judge.Goals as goal

pub returns-in-Some-clause-ends : goal.returns-in-Some-clause-ends
returns-in-Some-clause-ends g c =
    let P : Finding → Type 0 = λ finding. EndsTelling (finding_text finding c.args.seen) (finding_status finding) (stream_of g.W.Write.contents c.args.out.now) (stream_of g.W.Write.contents c.tell_finding.new.out) (stream_of g.E.Write.contents c.args.errors.now) (stream_of g.E.Write.contents c.tell_finding.new.errors) c.tell_finding.result in
    Judged (subst P c.in-Some.ensures.found c.tell_finding.ensures.ends)

pub returns-in-None-clause-ends : goal.returns-in-None-clause-ends
returns-in-None-clause-ends g c = Unjudged refl c.tell_out_of_memory.ensures.line c.tell_out_of_memory.ensures.status
