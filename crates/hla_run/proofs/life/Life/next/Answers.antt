use Rattle.std.proofs.Common.{◌≡◌, List, [], ◌∙◌, refl, sym, ap, subst, inl, inr, ⊎_elim, true, false}
use Rattle.std.specs.Prelude.{not}
use Rattle.std.specs.Result.{is_ok}
use Rattle.std.proofs.lemmas.Bool.{cases_Bool, cond-true, cond-false}
use Rattle.std.proofs.lemmas.List.Elements.{All-push}
use Rattle.hla_players.specs.Deeds.{caller_of}
use Rattle.hla_run.specs.Recorded.{AreAnsweredInTurn, AreOwnTellings, IsOwnTelling}
use Rattle.hla_run.specs.declared.life.Life.{Life}
use Rattle.hla_outcomes.specs.declared.outcomes.LineOutcome.{LineOutcome}
use Rattle.hla_run.proofs.AnswerLemmas.{added_recorded, told_one, turn_added}
use Rattle.hla_run.proofs.RecordLemmas.{grown_within, own_tellings_in}
use Rattle.hla_run.proofs.life.Life.next.Goals.{then-lacks_memory, else-lacks_memory}
use Rattle.hla_run.proofs.life.Life.next.Goals as goal

pub returns-clause-recorded : goal.returns-clause-recorded
returns-clause-recorded g c = λ execution recorded.
    let life = c.args.self in
    let catalogue = c.args.stage.now.catalogue.now in
    let lines = c.args.stage.now.lines.now in
    let now = (caller_of c.do_call-player.result.player).transcript in
    let told : LineOutcome = record { place = c.args.place; outcome = c.do_call-player.result.outcome } in
    let adds = c.do_call-player.ensures.added execution life.number recorded.0 in
    let both = added_recorded catalogue execution life.number c.args.call.now c.do_call-player.result.outcome (caller_of life.player) (caller_of c.do_call-player.result.player) adds in
    let within = grown_within (caller_of life.player) (caller_of c.do_call-player.result.player) both.0 in
    let before = own_tellings_in catalogue lines now (caller_of life.player).transcript execution life.number life.name life.told.items within recorded.1 in
    let telling : IsOwnTelling catalogue lines now execution life.number life.name told = (c.args.call.now, c.requires, both.1) in
    let old = caller_of life.player in
    let new = caller_of c.do_call-player.result.player in
    let lacking : is_ok c.push.result ≡ false → c.if-lacks_memory.result ≡ true = λ n.
    elim c.if-lacks_memory.branch [ then-lacks_memory w ↦ w.result-is ∙ w.if-lacks_memory.true | else-lacks_memory w ↦ w.result-is ∙ ap not (c.is_ok-is_kept.ensures.value ∙ n) ] in
    let keeps : life.lacks_memory ≡ true → c.if-lacks_memory.result ≡ true = λ lacks.
    elim c.if-lacks_memory.branch [ then-lacks_memory w ↦ w.result-is ∙ w.if-lacks_memory.true | else-lacks_memory w ↦ (let clash : false ≡ true = sym w.if-lacks_memory.false ∙ lacks in absurd (cc)) ] in
    let InTurn : List LineOutcome → Type 0 = λ all. AreAnsweredInTurn catalogue lines [] execution life.number life.name now all in
    let Recorded : List LineOutcome → Type 0 = λ all. AreOwnTellings catalogue lines now execution life.number life.name all in (
      c.do_call-player.ensures.same execution life.number recorded.0,
      ⊎_elim
          (λ (y : is_ok c.push.result ≡ true). subst Recorded (sym (c.push.ensures.items ∙ cond-true _ _ _ y)) (All-push (IsOwnTelling catalogue lines now execution life.number life.name) life.told.items told before telling))
          (λ (n : is_ok c.push.result ≡ false). subst Recorded (sym (c.push.ensures.items ∙ cond-false _ _ _ n)) before)
          (cases_Bool (is_ok c.push.result)),
      elim recorded.2 [
        | inl lacks ↦ inl (keeps lacks)
        | inr turns ↦
            let added = turn_added catalogue lines execution life.number life.name old new life.told.items told c.args.call.now turns c.requires adds in
            elim (cases_Bool (is_ok c.push.result)) [ inl y ↦ inr (subst InTurn (sym (c.push.ensures.items ∙ cond-true _ _ _ y)) added) | inr n ↦ inl (lacking n) ]
      ],
    )

pub returns-clause-told : goal.returns-clause-told
returns-clause-told g c = λ before.
    let told : LineOutcome = record { place = c.args.place; outcome = c.do_call-player.result.outcome } in
    let lacking : is_ok c.push.result ≡ false → c.if-lacks_memory.result ≡ true = λ n.
    elim c.if-lacks_memory.branch [ then-lacks_memory w ↦ w.result-is ∙ w.if-lacks_memory.true | else-lacks_memory w ↦ w.result-is ∙ ap not (c.is_ok-is_kept.ensures.value ∙ n) ] in
    let keeps : c.args.self.lacks_memory ≡ true → c.if-lacks_memory.result ≡ true = λ lacks.
    elim c.if-lacks_memory.branch [ then-lacks_memory w ↦ w.result-is ∙ w.if-lacks_memory.true | else-lacks_memory w ↦ (let clash : false ≡ true = sym w.if-lacks_memory.false ∙ lacks in absurd (cc)) ] in
    let life = c.args.self in
    let new : Life g.row.L.Denot g.row.B.Denot g.row.P.Denot g.row.H.Denot =
    record { name = life.name; number = life.number; player = life.player; courier = life.courier; told = c.push.new.self; lacks_memory = c.if-lacks_memory.result } in
    told_one c.args.stage.now.lines.now c.args.place life new told refl refl
    (⊎_elim (λ (y : is_ok c.push.result ≡ true). inl (c.push.ensures.items ∙ cond-true _ _ _ y)) (λ (n : is_ok c.push.result ≡ false). inr (c.push.ensures.items ∙ cond-false _ _ _ n, lacking n)) (cases_Bool (is_ok c.push.result))) keeps before
