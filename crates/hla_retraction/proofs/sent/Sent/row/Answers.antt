-- The row with the serial is read.
use Rattle.std.proofs.Common.{◌∙◌, sym, ap}
use Rattle.std.proofs.lemmas.List.{get_or_default}
use Rattle.hla_retraction.specs.SentRows.{IsRowAt, row_event, no_row}
use Rattle.hla_retraction.proofs.RowLemmas.{sent_of-at}
use Rattle.hla_retraction.proofs.sent.Sent.row.Goals as goal

pub returns : goal.returns
returns c =
    let rows = c.self.inside.rows.items in
    let at : IsRowAt rows c.args.serial c.in_ok-place.place = rw c.self.view_is c.in_ok-place.ensures in
    let read = c.index.ensures ∙ get_or_default rows c.in_ok-place.place c.index.result.now no_row at.in_range in
    rw (← c.self.view_is) (sent_of-at rows c.args.serial c.in_ok-place.place c.self.invariant at ∙ ap row_event (sym read))
