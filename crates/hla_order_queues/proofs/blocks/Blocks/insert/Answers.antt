-- The event goes into its block, unless that is full.
use Rattle.std.proofs.Common.{◌≡◌, List, Ok, sym, subst}
use Rattle.hla_base.specs.declared.content.Event.{Event}
use Rattle.hla_component_rules.specs.Queues.{insert_event}
use Rattle.hla_order_queues.specs.declared.key.EventKey.{EventKey}
use Rattle.hla_order_queues.specs.Kept.{events_of, AreBelowBlocks}
use Rattle.hla_order_queues.proofs.UnderSeparators.PutLemmas.{IsPut, put_home}
use Rattle.hla_order_queues.proofs.blocks.Blocks.insert.Goals as goal
use Rattle.hla_order_queues.proofs.blocks.Blocks.insert.Goals.{In-Put}

put : (c : In-Put) → IsPut c.args.event c.self.inside.separators c.place.new.self (Ok tt)
put c = put_home c.args.event 64 c.self.inside.separators c.place.new.self c.self.invariant c.in-Put.ensures

pub invariant_of-self : goal.invariant_of-self
invariant_of-self c = (put_home c.args.event 64 c.self.inside.separators c.place.new.self c.self.invariant c.in-Put.ensures).blocks

pub returns-in-Put-clause-ok : goal.returns-in-Put-clause-ok
returns-in-Put-clause-ok c =
    subst (λ (es : List (EventKey × List Event)). events_of c.place.new.self ≡ insert_event c.args.event (events_of es)) c.self.view_is (put c).ok

pub returns-in-Put-clause-below : goal.returns-in-Put-clause-below
returns-in-Put-clause-below c = λ xs q. (put c).below xs (subst (AreBelowBlocks xs) (sym c.self.view_is) q)
