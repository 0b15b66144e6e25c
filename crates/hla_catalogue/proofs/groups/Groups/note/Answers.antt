use Rattle.std.proofs.Common.{nat_eq, ap, ◌∙◌}
use Rattle.indexmap.specs.IndexMap.{insert_entry}
use Rattle.hla_catalogue.proofs.GroupLemmas.{noted_more, noted_first, set_same, on_ok, on_err}
use Rattle.hla_catalogue.proofs.groups.Groups.note.Goals as goal

pub returns-in-Some-clause-ok : goal.returns-in-Some-clause-ok
returns-in-Some-clause-ok c =
    let es = c.self.inside.groups.entries in
    let written = (c.get_mut.follows.holds c.push.new.self).0 in
    rw (← c.self.view_is)
    (on_ok c.push.result (λ e. noted_more es _ c.args.hash c.in-Some.group.now c.push.new.self c.args.place c.in-Some.ensures.value written e) c.push.ensures.ok)

pub returns-in-Some-clause-unchanged : goal.returns-in-Some-clause-unchanged
returns-in-Some-clause-unchanged c =
    let es = c.self.inside.groups.entries in
    let written = (c.get_mut.follows.holds c.push.new.self).0 in
    on_err c.push.result (λ e. set_same es _ c.args.hash c.in-Some.group.now c.push.new.self c.in-Some.ensures.value written e ∙ c.self.view_is) c.push.ensures.unchanged

pub returns-clause-ok : goal.returns-clause-ok
returns-clause-ok c =
    let es = c.self.inside.groups.entries in
    let added = c.in-Ok.ensures.entries ∙ ap (λ m. insert_entry nat_eq m.entries c.args.hash c.new-group.result) c.get_mut.follows.holds-at-none in
    rw (← c.self.view_is) (noted_first es _ c.args.hash c.new-group.result c.args.place c.in_default.ensures.value added c.new-group.ensures)
