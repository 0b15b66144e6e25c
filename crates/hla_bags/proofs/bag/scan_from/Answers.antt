-- The message stands in the tail, or nowhere.
use Rattle.std.proofs.Common.{◌≡◌, ◌-◌, List, Some, None, length, take, drop, subst, sym, arith, length-drop}
use Rattle.std.specs.List.{position}
use Rattle.std.proofs.lemmas.List.{take_all}
use Rattle.hla_bags.specs.declared.bag.Waiting.{Waiting}
use Rattle.hla_bags.specs.Bags.{is_of}
use Rattle.hla_bags.proofs.Bags.Places.{found_none, none_found}
use Rattle.hla_bags.proofs.Indexes.Indexing.{found_behind, none_in_both}
use Rattle.hla_bags.proofs.bag.scan_from.Goals as goal

pub returns-in-Some : goal.returns-in-Some
returns-in-Some c =
    let ws = c.args.waiting.now in
    let k = c.args.count in
    let g = c.args.event.sender in
    let m = c.args.event.serial in
    let tail : take (length ws - k) (drop k ws) ≡ drop k ws = take_all (length ws - k) (drop k ws) (omega (arith, length-drop k ws)) in
    sym (found_behind ws k g m c.in-Some.place c.requires.apart (subst (λ (vs : List Waiting). Some c.in-Some.place ≡ position (is_of g m) vs) tail c.in-Some.ensures))

pub returns-in-None : goal.returns-in-None
returns-in-None c =
    let ws = c.args.waiting.now in
    let k = c.args.count in
    let g = c.args.event.sender in
    let m = c.args.event.serial in
    let tail : take (length ws - k) (drop k ws) ≡ drop k ws = take_all (length ws - k) (drop k ws) (omega (arith, length-drop k ws)) in
    sym (none_found ws g m (none_in_both ws k g m c.requires.none (found_none (drop k ws) g m (subst (λ (vs : List Waiting). None ≡ position (is_of g m) vs) tail c.in-None.ensures))))
