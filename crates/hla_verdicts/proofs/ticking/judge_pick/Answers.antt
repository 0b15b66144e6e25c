use Rattle.hla_callbacks.specs.declared.callback.Callback.TheVariants as callbacks
use Rattle.hla_accounts.specs.Accounts.{central_with}
use Rattle.hla_verdicts.proofs.Picks.Ticks.{picked_as}
use Rattle.hla_verdicts.proofs.ticking.judge_pick.Goals as goal

pub returns-in_ok-verdict-in-ReflectAttributeValues-clause-ok : goal.returns-in_ok-verdict-in-ReflectAttributeValues-clause-ok
returns-in_ok-verdict-in-ReflectAttributeValues-clause-ok c d same =
    picked_as (central_with d c.args.accounts.now) (central_with d c.judge_reflection.new.accounts) c.args.federate (callbacks.ReflectAttributeValues c.in-ReflectAttributeValues.object c.in-ReflectAttributeValues.values c.in-ReflectAttributeValues.event c.in-ReflectAttributeValues.delivery) c.args.callback.now c.args.choice.now c.in_ok-verdict-in-ReflectAttributeValues.verdict
    c.in-ReflectAttributeValues.is (c.in_ok-verdict-in-ReflectAttributeValues.ensures.ok d)

pub returns-in_ok-verdict-in-ReceiveInteraction-clause-ok : goal.returns-in_ok-verdict-in-ReceiveInteraction-clause-ok
returns-in_ok-verdict-in-ReceiveInteraction-clause-ok c d same =
    picked_as (central_with d c.args.accounts.now) (central_with d c.judge_interaction.new.accounts) c.args.federate (callbacks.ReceiveInteraction c.in-ReceiveInteraction.class c.in-ReceiveInteraction.values c.in-ReceiveInteraction.event c.in-ReceiveInteraction.delivery) c.args.callback.now c.args.choice.now c.in_ok-verdict-in-ReceiveInteraction.verdict
    c.in-ReceiveInteraction.is (c.in_ok-verdict-in-ReceiveInteraction.ensures.ok d)

pub returns-in_ok-verdict-in-DiscoverObjectInstance-clause-ok : goal.returns-in_ok-verdict-in-DiscoverObjectInstance-clause-ok
returns-in_ok-verdict-in-DiscoverObjectInstance-clause-ok c d same =
    picked_as (central_with d c.args.accounts.now) (central_with d c.judge_discovery.new.accounts) c.args.federate (callbacks.DiscoverObjectInstance c.in-DiscoverObjectInstance.object c.in-DiscoverObjectInstance.class c.in-DiscoverObjectInstance.name) c.args.callback.now c.args.choice.now c.in_ok-verdict-in-DiscoverObjectInstance.verdict
    c.in-DiscoverObjectInstance.is (c.in_ok-verdict-in-DiscoverObjectInstance.ensures.ok d same)

pub returns-in-RemoveObjectInstance-clause-ok : goal.returns-in-RemoveObjectInstance-clause-ok
returns-in-RemoveObjectInstance-clause-ok c d same = c.judge_plain_pick.ensures.judged d
