-- The message is demoted in the index, or in the tail, where its stamp is not below the bounds.
use Rattle.std.proofs.Common.{◌≡◌, get_or, true, List, Some, None, Result, Ok, Err, OnOk, subst, sym, ap, ◌∙◌}
use Rattle.std.specs.Result.{is_ok}
use Rattle.hla_base.specs.Tables.{upd2}
use Rattle.hla_bags.specs.declared.bag.Waiting.{Waiting}
use Rattle.hla_bags.specs.declared.indexing.Indexing.{Indexing}
use Rattle.hla_bags.specs.Bags.{demoted_delivery, IsNotBelow}
use Rattle.hla_bags.specs.Indexes.{delivery_at, IsIndexOf, IsIndexingOf, IsCaughtUp}
use Rattle.hla_bags.proofs.Bags.Places.{delivered_at}
use Rattle.hla_bags.proofs.Indexes.Indexing.{head_of, whole, own_place, kept_demoted, kept_demoted_none}
use Rattle.hla_bags.proofs.indexing.Indexing.demote.Goals as goal
use Rattle.hla_bags.proofs.indexing.Indexing.demote.Goals.{in-Some+else-is_ok, in_default}

where_ok : {A E : Type 0} (r : Result A E) (P : Type 0) → is_ok r ≡ true → OnOk r P → P
where_ok (Ok a) P is given = given
where_ok (Err e) P is given = absurd (cc)

pub returns-then-is_ok : goal.returns-then-is_ok
returns-then-is_ok c d =
    let ws = c.args.waiting.now in
    let x = c.args.self.now in
    let place = c.args.place in
    let w = c.index-messages-place.result in
    let read = subst (λ (vs : List Waiting). w ≡ get_or vs place w) c.as_slice-messages.ensures c.index-messages-place.is in
    let all = subst (λ o. IsCaughtUp ws (record x { index = o })) c.in-Some.is c.requires.all in
    let known = whole ws c.in-Some.index x.count (head_of ws x c.in-Some.index c.requires.kept c.in-Some.is) all in
    let found = own_place ws place w c.requires.kept.apart c.requires.within read in
    let given = c.change.ensures (delivery_at ws) known (delivered_at ws w.event.sender w.event.serial place w found read) in
    let after : c.args.after ≡ demoted_delivery w.delivery = c.requires.after w ∙ ap (λ (y : Waiting). demoted_delivery y.delivery) (sym read) in
    let now : IsIndexOf c.change.new.self (upd2 (delivery_at ws) w.event.sender w.event.serial (Some (demoted_delivery w.delivery))) =
    subst (λ y. IsIndexOf c.change.new.self (upd2 (delivery_at ws) w.event.sender w.event.serial (Some y))) after (where_ok c.change.result _ (sym c.is_ok.ensures.value ∙ c.if-is_ok.true) given) in
    kept_demoted ws c.change.new.self place x.count x.least_ordered x.least_demoted x.is_refused w d c.requires.kept.apart c.requires.within read now all

pub returns : goal.returns
returns c d =
    let ws = c.args.waiting.now in
    let place = c.args.place in
    let x = c.match-self.self in
    let w = c.index-messages-place.result in
    let read = subst (λ (vs : List Waiting). w ≡ get_or vs place w) c.as_slice-messages.ensures c.index-messages-place.is in
    let after : c.args.after ≡ demoted_delivery w.delivery = c.requires.after w ∙ ap (λ (y : Waiting). demoted_delivery y.delivery) (sym read) in
    let state : IsIndexingOf ws x × (x.index ≡ None) = elim c.match-self.branch [
      | in-Some+else-is_ok w ↦
          let gone = w.give_up.ensures in
          let kept = subst (λ (vs : List Waiting). IsIndexingOf vs w.give_up.new.self) c.as_slice-messages.ensures gone.kept in
          subst (λ (y : Indexing). IsIndexingOf ws y × (y.index ≡ None)) (sym w.self-is) (kept, gone.none)
      | in_default w ↦ subst (λ (y : Indexing). IsIndexingOf ws y × (y.index ≡ None)) (sym w.self-is) (c.requires.kept, w.in_default.is)
    ] in
    let lowered = c.lower.ensures in
    kept_demoted_none ws x place c.lower.new.ordered c.lower.new.demoted w d state.0 state.1 c.requires.within read lowered.ordered lowered.demoted (subst (IsNotBelow c.lower.new.ordered c.lower.new.demoted) after lowered.kept)
