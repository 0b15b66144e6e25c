use Rattle.std.proofs.Common.{◌∙◌}
use Rattle.hla_transcript.specs.Listed.{own_attribute_text}
use Rattle.hla_transcript.proofs.ListLemmas.{made_more, made_all}
use Rattle.hla_transcript.proofs.listing.attribute_texts.Goals as goal

pub loop-place-preserved : goal.loop-place-preserved
loop-place-preserved c = record {
  many = c.in_ok-note_attribute.ensures.ok.many ∙ c.loop-place.invariant.many;
  made = made_more own_attribute_text c.args.classes c.loop-place.texts.items _ c.args.attributes.now c.loop-place.place c.index-attributes-place.result c.loop-place-test.true c.index-attributes-place.is c.loop-place.invariant.many c.loop-place.invariant.made c.in_ok-note_attribute.ensures.ok;
}

pub returns-clause-ok : goal.returns-clause-ok
returns-clause-ok c = made_all own_attribute_text c.args.classes c.loop-place.texts.items c.args.attributes.now c.loop-place.place c.loop-place-test.false c.loop-place.invariant.many c.loop-place.invariant.made
