use Rattle.std.proofs.lemmas.Option.{slice_get_within}
use Rattle.hla_shared.proofs.Heard.Ears.{gives, same_tags}
use Rattle.hla_shared.proofs.delivering.give_at.Goals as goal

pub returns-clause-heard : goal.returns-clause-heard
returns-clause-heard g c =
    gives c.args.ears.now.items c.args.federate c.index_mut.result.now c.in-Some.ear c.give.new.self c.args.callback
    (slice_get_within _ _ _ c.requires.1) c.in-Some.is c.index_mut.ensures.value c.give.ensures.heard

pub returns-clause-tags : goal.returns-clause-tags
returns-clause-tags g c =
    same_tags c.args.ears.now.items c.args.federate c.index_mut.result.now c.in-Some.ear c.give.new.self c.in-Some.is c.index_mut.ensures.value c.give.ensures.tag
