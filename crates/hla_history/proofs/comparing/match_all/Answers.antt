use Rattle.std.proofs.lemmas.Option.{slice_get-get_or, slice_get_past}
use Rattle.hla_history.proofs.Records.{awaited_after, awaited_still, goes_on}
use Rattle.hla_history.proofs.comparing.match_all.Goals as goal

pub loop-record-preserved-then-place-transcripts : goal.loop-record-preserved-then-place-transcripts
loop-record-preserved-then-place-transcripts c =
    goes_on c.args.transcripts.now c.loop-record.transcripts _ c.args.history.now c.loop-record.left.now c.in-Some.record.now c.in-Some.more.now
    c.in-Some.ensures.cases.0 c.loop-record.invariant
    (awaited_after c.loop-record.transcripts c.in-Some.record.now c.in-Some.more.now _ c.match_next.new.self
    (slice_get-get_or c.loop-record.transcripts c.in-Some.record.now.actor c.index-transcripts-place.result c.if-place-transcripts.true) c.match_next.ensures)

pub loop-record-preserved : goal.loop-record-preserved
loop-record-preserved c =
    goes_on c.args.transcripts.now c.loop-record.transcripts _ c.args.history.now c.loop-record.left.now c.in-Some.record.now c.in-Some.more.now
    c.in-Some.ensures.cases.0 c.loop-record.invariant
    (awaited_still c.loop-record.transcripts c.in-Some.record.now c.in-Some.more.now
    (slice_get_past c.loop-record.transcripts c.in-Some.record.now.actor c.if-place-transcripts.false))
