-- The keys below the time are retracted or among the events.
use Rattle.std.proofs.Common.{◌∙◌, ◌||◌, Bool, sym, take, rules, tests}
use Rattle.std.specs.BTreeSet as sorted
use Rattle.std.specs.Map.Iter.{deref}
use Rattle.std.proofs.lemmas.Iterator.Consumers.{YieldsList-from_rest}
use Rattle.std.proofs.lemmas.Iterator.Search.{all_from_yields_List}
use Rattle.hla_bags.specs.declared.index.Key.{Key}
use Rattle.hla_bags.specs.Indexes.{waiting_name_cmp}
use Rattle.hla_accounts.proofs.Tests.Queries.{is_key_retracted, is_key_among, among_keys, among_names}
use Rattle.hla_bags.proofs.Indexes.Indexing.{apart_take, head_of}
use Rattle.hla_accounts.proofs.accounts.Accounts.are_indexed_among.Goals as goal

pub returns-in-None : goal.returns-in-None
returns-in-None c ws kept =
    let x = c.args.indexing.now in
    let counted = all_from_yields_List (is_key_among c.args.self.now c.args.events.now) _ _ c.all-in-None.result c.all-in-None.ensures.ran (YieldsList-from_rest {shows = deref} _ c.ordered_below-in-None.ensures.keys) (λ x b q k. search (rules, tests)) in
    counted ∙ sym (among_keys c.args.self.now c.args.time c.args.events.now c.in-Some.index (take x.count ws) (head_of ws x c.in-Some.index kept c.in-Some.is) (apart_take ws x.count kept.apart))

pub returns-in-Some-names_if_many_below : goal.returns-in-Some-names_if_many_below
returns-in-Some-names_if_many_below c ws kept =
    let x = c.args.indexing.now in
    let names = c.in-Some-names_if_many_below.names in
    let test : Key → Bool = λ k. is_key_retracted c.args.self.now k || sorted.contains waiting_name_cmp names (record { sender = k.sender; serial = k.serial }) in
    let counted = all_from_yields_List test _ _ c.all.result c.all.ensures.ran (YieldsList-from_rest {shows = deref} _ c.ordered_below.ensures.keys) (λ x b q k. search (rules, tests)) in
    counted
    ∙ among_names c.args.self.now c.args.events.now names _ c.in-Some-names_if_many_below.ensures
    ∙ sym (among_keys c.args.self.now c.args.time c.args.events.now c.in-Some.index (take x.count ws) (head_of ws x c.in-Some.index kept c.in-Some.is) (apart_take ws x.count kept.apart))
