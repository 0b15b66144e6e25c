-- A name is there where its event is.
use Rattle.std.proofs.Common.{◌≡◌, List, None, subst}
use Rattle.std.specs.Bool.{MatchBool}
use Rattle.std.specs.Option.{IsSome}
use Rattle.hla_base.specs.declared.content.Event.{Event}
use Rattle.hla_component_rules.specs.Queues.{find_event}
use Rattle.hla_order_queues.proofs.ByName.StampLemmas.{has_name}
use Rattle.hla_order_queues.proofs.tso.TsoQueue.has_event.Goals as goal

pub returns : goal.returns
returns c =
    let Tells : List Event → Type 0 = λ xs. MatchBool c.has.result (IsSome (find_event c.args.sender c.args.serial xs)) (find_event c.args.sender c.args.serial xs ≡ None) in
    subst Tells c.self.view_is (has_name c.self.inside.names c.self.inside.events c.args.sender c.args.serial c.has.result c.self.invariant c.has.ensures)
