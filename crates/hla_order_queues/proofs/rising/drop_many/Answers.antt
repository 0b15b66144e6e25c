-- What is kept are the notes of events that are not gone.
use Rattle.std.proofs.Common.{rules}
use Rattle.std.proofs.lemmas.Fn.{filter_same}
use Rattle.hla_order_queues.proofs.ByName.PassedLemmas.{is_kept, swept_unpassed}
use Rattle.hla_order_queues.proofs.rising.drop_many.Goals as goal

pub returns-then-saturating_sub : goal.returns-then-saturating_sub
returns-then-saturating_sub c =
    swept_unpassed c.args.passed c.args.notes.now.items c.retain.new.self.items c.requires (filter_same _ (is_kept c.args.passed) _ (λ x b f' k. search rules) _ _ c.retain.ensures.filtered)
