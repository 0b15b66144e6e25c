use Rattle.std.proofs.Common.{◌∙◌, sym, ap}
use Rattle.std.specs.Prelude.{option_copied}
use Rattle.hla_part_tests.proofs.Waiting.{none_waits}
use Rattle.hla_part_tests.proofs.locals.is_taken.Goals as goal

pub accept-requires-clause-may_come : goal.accept-requires-clause-may_come
accept-requires-clause-may_come c = none_waits c.args.local.now.tso _ _ (sym c.first_ordered.ensures ∙ ap option_copied c.in-None.is)
