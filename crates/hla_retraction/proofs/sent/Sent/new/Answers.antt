-- There is no row.
use Rattle.std.proofs.Common.{◌∙◌, ap}
use Rattle.hla_retraction.specs.SentRows.{sent_of}
use Rattle.hla_retraction.proofs.RowLemmas.{sent_of-nil}
use Rattle.hla_retraction.proofs.sent.Sent.new.Goals as goal

pub returns : goal.returns
returns c = ap sent_of c.new.ensures.items ∙ sent_of-nil
