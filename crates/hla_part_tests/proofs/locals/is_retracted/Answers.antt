use Rattle.std.proofs.Common.{◌∙◌, sym, ap}
use Rattle.std.specs.Prelude.{option_copied}
use Rattle.hla_part_tests.proofs.Waiting.{none_found}
use Rattle.hla_part_tests.proofs.locals.is_retracted.Goals as goal

pub accept-requires-clause-may_come : goal.accept-requires-clause-may_come
accept-requires-clause-may_come c = none_found c.args.local.now.tso c.args.local.now.ro _ _ (sym c.first_ordered.ensures ∙ ap option_copied c.in-None.is)
