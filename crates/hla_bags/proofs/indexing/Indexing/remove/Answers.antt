-- The message goes from the index, or from the tail.
use Rattle.std.proofs.Common.{◌≡◌, get_or, List, subst}
use Rattle.hla_bags.specs.declared.bag.Waiting.{Waiting}
use Rattle.hla_bags.specs.Indexes.{delivery_at, IsCaughtUp}
use Rattle.hla_bags.proofs.Bags.Places.{delivered_at}
use Rattle.hla_bags.proofs.Indexes.Indexing.{head_of, whole, own_place, kept_less, kept_less_none}
use Rattle.hla_bags.proofs.indexing.Indexing.remove.Goals as goal

pub returns-in_default : goal.returns-in_default
returns-in_default c =
    let w = c.index-as_slice-place.result in
    let read = subst (λ (vs : List Waiting). w ≡ get_or vs c.args.place w) c.as_slice.ensures c.index-as_slice-place.is in
    kept_less_none c.args.waiting.now c.args.self.now c.args.place w c.requires.kept c.in_default.is c.requires.within read

pub returns : goal.returns
returns c =
    let ws = c.args.waiting.now in
    let x = c.args.self.now in
    let w = c.index-as_slice-place.result in
    let read = subst (λ (vs : List Waiting). w ≡ get_or vs c.args.place w) c.as_slice.ensures c.index-as_slice-place.is in
    let all = subst (λ o. IsCaughtUp ws (record x { index = o })) c.in-Some.is c.requires.all in
    let known = whole ws c.in-Some.index x.count (head_of ws x c.in-Some.index c.requires.kept c.in-Some.is) all in
    let found = own_place ws c.args.place w c.requires.kept.apart c.requires.within read in
    let less = c.remove.ensures (delivery_at ws) known (delivered_at ws w.event.sender w.event.serial c.args.place w found read) in
    kept_less ws c.remove.new.self c.args.place x.count x.least_ordered x.least_demoted x.is_refused w c.requires.kept.apart c.requires.within read less all
