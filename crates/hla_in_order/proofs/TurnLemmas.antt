-- What the act of a caller adds.
use Rattle.std.proofs.Common.{◌≡◌, ◌+◌, ◌<◌, ◌≤◌, suc, arith, ℕ, List, [], ◌∷◌, ◌++◌, ◌⊎◌, inl, inr, Option, None, Some, Result, Ok, Err, length, refl, sym, ap, subst, ◌∙◌, codes}
use Rattle.std.specs.Prelude.{slice_get, slice_set, zero, IfOk, IfErr}
use Rattle.std.specs.List.{Contains}
use Rattle.std.proofs.lemmas.List.Elements.{Contains-push}
use Rattle.std.proofs.lemmas.Option.{slice_get_within}
use Rattle.hla_base.specs.Limits.{max_callers}
use Rattle.hla_base.specs.declared.fault.Fault.{Fault}
use Rattle.hla_base.specs.declared.fault.Fault.TheVariants as fault
use Rattle.hla_callbacks.specs.declared.callback.Callback.{Callback}
use Rattle.hla_catalogue.specs.CatalogueValue.{CatalogueValue}
use Rattle.hla_commands.specs.declared.lines.Line.{Line}
use Rattle.hla_machine.specs.declared.service.ResignAction.{ResignAction}
use Rattle.hla_machine.specs.declared.service.Service.{Service}
use Rattle.hla_machine.specs.declared.service.Service.TheVariants as service
use Rattle.hla_machine.specs.declared.step.Act.TheVariants as act
use Rattle.hla_machine.specs.declared.step.Answer.{Answer}
use Rattle.hla_machine.specs.declared.step.Answer.TheVariants as answer
use Rattle.hla_machine.specs.declared.step.Outcome.{Outcome}
use Rattle.hla_machine.specs.declared.step.Outcome.TheVariants as outcome
use Rattle.hla_machine.specs.declared.step.Record.{Record}
use Rattle.hla_machine.specs.declared.step.Step.{Step}
use Rattle.hla_machine.specs.declared.step.Step.TheVariants as step
use Rattle.hla_requests.specs.declared.members.NamedFederate.{NamedFederate}
use Rattle.hla_requests.specs.declared.members.MemberChange.{MemberChange}
use Rattle.hla_requests.specs.declared.members.MemberChange.TheVariants as change
use Rattle.hla_requests.specs.declared.steps.Request.{Request}
use Rattle.hla_requests.specs.declared.steps.Request.TheVariants as request
use Rattle.hla_requests.specs.Members.{members, members_from, member_after, with_change, with_create, change_of}
use Rattle.hla_history.specs.Closing.{records_by}
use Rattle.hla_callers.specs.Callers.{Caller, FederateCaller, Leaver, HasActed, HasNotActed, answer_given, said, nothing, new_caller}
use Rattle.hla_callers.specs.Close.{AllAgree, AreOfCallers}
use Rattle.hla_in_order.specs.InOrder.{RequestEnds, Unrecorded, Recorded, LineComesOut, Does, IsUnrecorded, IsCaller, IsStepper, IsEntrant, HasResigning, act_asked, number_joined, entrants, callers, HasJust}
use Rattle.hla_in_order.specs.Players.{IsAs, IsBook, Stand}
use Rattle.hla_in_order.specs.Turns.{DoesIn, IsJoinedAs, IsJoinedAt, IsUnjoined, DoesAt, Led, members_noted, HasLeft, HaveLeft}
use Rattle.hla_players.specs.Deeds.{caller_of, DoesDeed, HasDone, HasTold, IsGoneBy}
use Rattle.hla_players.specs.declared.player.Player.{Player}
use Rattle.hla_players.specs.declared.player.Player.TheVariants as player
use Rattle.hla_players.specs.declared.player.Deed.{Deed}
use Rattle.hla_players.specs.declared.player.Deed.TheVariants as deed
use Rattle.hla_in_order.proofs.StandLemmas.{itself_acted, courier_acted, player_acted, federate_joined, have_resigned, nothing_added, player_at, players_count, players_kept}

pub not_acted : (rs : List Record) (asked : Request) (e : Fault) → (e ≡ fault.HistoryFull) ⊎ (e ≡ fault.OutOfMemory) → IsUnrecorded rs asked e
not_acted rs request.Create e why = why
not_acted rs request.Destroy e why = why
not_acted rs (request.Step s) e why = inl why

pub no_place : (o : Option ℕ) → ((k : ℕ) → o ≡ Some k → ⊥) → o ≡ None
no_place None other = refl
no_place (Some k) other = absurd (other k refl)

-- an outcome that answers this was done
done_only : (o : Outcome) (a : Answer) → answer_given o ≡ Ok a → o ≡ outcome.Done a
done_only (outcome.Done b) a is = let same : b ≡ a = cc in ap (λ (x : Answer). outcome.Done x) same
done_only (outcome.Refused e) a is = absurd (cc)
done_only (outcome.Failed k) a is = absurd (cc)

-- a resigning that is told as done is in the transcript
told_resigning : (old new : Caller) (execution : List ℕ) (f : ℕ) (way : ResignAction) (out : Outcome) → out ≡ outcome.Done answer.Done → HasTold old execution (act.Step (step.Call f (service.Resign way))) out new → HasResigning new.transcript f
told_resigning old new execution f way out is told = elim told [
  | inl acted ↦
      let r : Record = record { actor = old.number; execution = execution; act = act.Step (step.Call f (service.Resign way)); outcome = acted.0; choice = acted.2.0 } in
      (way, r, subst (λ (xs : List Record). Contains xs r) (sym (ap (λ (c : Caller). c.transcript) acted.2.1)) (Contains-push old.transcript r), refl, done_only acted.0 answer.Done (sym acted.1 ∙ ap answer_given is))
  | inr not ↦ let clash : outcome.Done answer.Done ≡ outcome.Refused not.0 = sym is ∙ not.1 in absurd (cc)
]

set_here : {X : Type 0} (xs : List X) (k : ℕ) (x : X) → slice_get xs k ≡ Some x → slice_set xs k x ≡ xs
set_here [] k x at = refl
set_here {X = X} (y ∷ xs) zero x at = let same : y ≡ x = cc in ap (λ (z : X). z ∷ xs) (sym same)
set_here {X = X} (y ∷ xs) (suc k) x at = ap (λ (zs : List X). y ∷ zs) (set_here xs k x at)

module _ {L B P H : Type 0} where
  unjoined_not : (f : ℕ) (slot : Option (Player L B P H)) → IsUnjoined slot → IsJoinedAs f slot → ⊥
  unjoined_not f None none joined = joined
  unjoined_not f (Some (player.Joined m)) none joined = none m refl
  unjoined_not f (Some (player.Gone l)) none joined = joined

  -- at its place
  pub does_at : (ps qs : List (Option (Player L B P H))) (k f : ℕ) (what : Deed) (out : Outcome) (old new : Option (Player L B P H)) → IsJoinedAt ps k f → slice_get ps k ≡ Some old → DoesIn old what out new → qs ≡ slice_set ps k new → DoesAt ps f what out qs
  does_at ps qs k f what out old new joined at does sets =
      let same : joined.0 ≡ old = let e : Some joined.0 ≡ Some old = sym joined.1 ∙ at in cc in
      let here : IsJoinedAs f old = subst (λ (o : Option (Player L B P H)). IsJoinedAs f o) same joined.2 in
      elim does [
        | inl done ↦
            let named : done.0.federate ≡ f = subst (λ (o : Option (Player L B P H)). IsJoinedAs f o) done.2 here in
            inl (k, done.0, done.1, at ∙ ap (λ (o : Option (Player L B P H)). Some o) done.2, named, done.3, done.4, sets ∙ ap (λ (o : Option (Player L B P H)). slice_set ps k o) done.5)
        | inr none ↦ absurd (unjoined_not f old none.2 here)
      ]

  -- ---- what a caller's act leads to
  -- of the infrastructure itself
  pub itself_led : (fed : List ℕ) (rs : List Record) (asked : Request) (out : Outcome) (own new courier : Caller) (ps : List (Option (Player L B P H))) → Stand rs own courier ps → IsCaller rs asked own.number
      → ((o : Outcome) → number_joined (act_asked fed asked) o ≡ []) → HasTold own (codes "play") (act_asked fed asked) out new → Led fed rs asked out new courier ps
  itself_led fed rs asked out own new courier ps s caller none told = elim told [
    | inl acted ↦
        let r : Record = record { actor = own.number; execution = codes "play"; act = act_asked fed asked; outcome = acted.0; choice = acted.2.0 } in
        (r ∷ [], (Recorded own.number acted.0 acted.2.0 caller acted.1 refl, itself_acted rs r own new courier ps s refl acted.2.1 (none acted.0)))
    | inr not ↦ ([], (Unrecorded not.0 (not_acted rs asked not.0 not.2.0) not.1 refl, subst (λ (c : Caller). Stand (rs ++ []) c courier ps) (sym not.2.1) (nothing_added rs own courier ps s)))
  ]

  -- of the courier
  pub courier_led : (fed : List ℕ) (rs : List Record) (asked : Request) (out : Outcome) (own courier new : Caller) (ps : List (Option (Player L B P H))) → Stand rs own courier ps → IsCaller rs asked courier.number
      → ((o : Outcome) → number_joined (act_asked fed asked) o ≡ []) → HasTold courier (codes "play") (act_asked fed asked) out new → Led fed rs asked out own new ps
  courier_led fed rs asked out own courier new ps s caller none told = elim told [
    | inl acted ↦
        let r : Record = record { actor = courier.number; execution = codes "play"; act = act_asked fed asked; outcome = acted.0; choice = acted.2.0 } in
        (r ∷ [], (Recorded courier.number acted.0 acted.2.0 caller acted.1 refl, courier_acted rs r own courier new ps s refl acted.2.1 (none acted.0)))
    | inr not ↦ ([], (Unrecorded not.0 (not_acted rs asked not.0 not.2.0) not.1 refl, subst (λ (c : Caller). Stand (rs ++ []) own c ps) (sym not.2.1) (nothing_added rs own courier ps s)))
  ]

  -- a federate stays the same while it is joined, and is gone once it has resigned
  stays_as : (m : FederateCaller) (what : Deed) (out : Outcome) (p : Player L B P H) → DoesDeed m what out p → IsGoneBy what out p → (f : ℕ) → IsAs {L = L} {B = B} {P = P} {H = H} f (player.Joined m) → IsAs f p
  stays_as m what out (player.Joined new) does gone f is = (does.1.0 ∙ is.0, does.1.1 ∙ is.1)
  stays_as m what out (player.Gone l) does gone f is =
      let told : HasTold m.caller m.execution (act.Step (step.Call m.federate (service.Resign gone.0))) out l.caller = subst (λ (d : Deed). HasDone m.caller m.execution m.federate d out l.caller) gone.1 does.0 in
      subst (λ (g : ℕ). HasResigning l.caller.transcript g) is.0 (told_resigning m.caller l.caller m.execution m.federate gone.0 out gone.2 told)

  -- of a federate
  federate_led : (fed : List ℕ) (rs : List Record) (asks : Step) (f k : ℕ) (out : Outcome) (own courier : Caller) (ps : List (Option (Player L B P H))) (m : FederateCaller) (p : Player L B P H) → Stand rs own courier ps
      → slice_get ps k ≡ Some (Some (player.Joined m)) → m.federate ≡ f → HasTold m.caller m.execution (act.Step asks) out (caller_of p)
      → ((g : ℕ) → IsAs {L = L} {B = B} {P = P} {H = H} g (player.Joined m) → IsAs g p) → ((n : ℕ) → IsEntrant rs f n → IsStepper rs asks n) → ((o : Outcome) → number_joined (act.Step asks) o ≡ []) → Led fed rs (request.Step asks) out own courier (slice_set ps k (Some p))
  federate_led fed rs asks f k out own courier ps m p s at named told keeps stepper none =
      let there = player_at rs 2 k (entrants rs) ps (Some (player.Joined m)) s.federates at in
      let place : m.caller.number ≡ k + 2 = omega (arith, there.2.0.0) in
      let entered : slice_get (entrants rs) k ≡ Some f = there.1 ∙ ap (λ (n : ℕ). Some n) (sym there.2.1.0 ∙ named) in
      elim told [
        | inl acted ↦
            let r : Record = record { actor = m.caller.number; execution = m.execution; act = act.Step asks; outcome = acted.0; choice = acted.2.0 } in
            let same : r ∷ [] ≡ record { actor = m.caller.number; execution = codes "play"; act = act.Step asks; outcome = acted.0; choice = acted.2.0 } ∷ [] =
            ap (λ (name : List ℕ). let x : Record = record { actor = m.caller.number; execution = name; act = act.Step asks; outcome = acted.0; choice = acted.2.0 } in x ∷ []) there.2.1.1 in (
              r ∷ [],
              (
                Recorded m.caller.number acted.0 acted.2.0 (stepper m.caller.number (k, place, entered)) acted.1 same,
                player_acted rs r own courier ps k (player.Joined m) p s at refl acted.2.1 keeps (none acted.0),
              ),
            )
        | inr not ↦ ([], (Unrecorded not.0 (inl not.2.0) not.1 refl, nothing_added rs own courier (slice_set ps k (Some p)) (players_kept rs own courier ps k (player.Joined m) p s at not.2.1 keeps)))
      ]

  -- of the federate of a number, or of none
  pub call_led : (fed : List ℕ) (rs : List Record) (x : Service) (f : ℕ) (out : Outcome) (own courier : Caller) (ps new : List (Option (Player L B P H))) → Stand rs own courier ps → DoesAt ps f (deed.Serve x) out new
      → Led fed rs (request.Step (step.Call f x)) out own courier new
  call_led fed rs x f out own courier ps new s does = elim does [
    | inl at ↦
        let told = subst (λ (g : ℕ). HasTold at.1.caller at.1.execution (act.Step (step.Call g x)) out (caller_of at.2)) at.4 at.5.0 in
        subst (λ (qs : List (Option (Player L B P H))). Led fed rs (request.Step (step.Call f x)) out own courier qs) (sym at.7)
        (federate_led fed rs (step.Call f x) f at.0 out own courier ps at.1 at.2 s at.3 at.4 told (stays_as at.1 (deed.Serve x) out at.2 at.5 at.6) (λ n is. is) (λ o. refl))
    | inr none ↦ ([], (Unrecorded fault.FederateNotExecutionMember (inr (refl, have_resigned rs own courier ps f s none.2)) none.0 refl, subst (λ (qs : List (Option (Player L B P H))). Stand (rs ++ []) own courier qs) (sym none.1) (nothing_added rs own courier ps s)))
  ]

  pub tick_led : (fed : List ℕ) (rs : List Record) (f : ℕ) (out : Outcome) (own courier : Caller) (ps new : List (Option (Player L B P H))) → Stand rs own courier ps → DoesAt ps f deed.Tick out new
      → Led fed rs (request.Step (step.Tick f)) out own courier new
  tick_led fed rs f out own courier ps new s does = elim does [
    | inl at ↦
        let told = subst (λ (g : ℕ). HasTold at.1.caller at.1.execution (act.Step (step.Tick g)) out (caller_of at.2)) at.4 at.5.0 in
        subst (λ (qs : List (Option (Player L B P H))). Led fed rs (request.Step (step.Tick f)) out own courier qs) (sym at.7)
        (federate_led fed rs (step.Tick f) f at.0 out own courier ps at.1 at.2 s at.3 at.4 told (stays_as at.1 deed.Tick out at.2 at.5 at.6) (λ n is. is) (λ o. refl))
    | inr none ↦ ([], (Unrecorded fault.FederateNotExecutionMember (inr (refl, have_resigned rs own courier ps f s none.2)) none.0 refl, subst (λ (qs : List (Option (Player L B P H))). Stand (rs ++ []) own courier qs) (sym none.1) (nothing_added rs own courier ps s)))
  ]

  -- of one who joins
  pub join_led : (fed : List ℕ) (rs : List Record) (name : List ℕ) (handed : ℕ) (own new courier : Caller) (ps : List (Option (Player L B P H))) (m : FederateCaller) → Stand rs own courier ps → handed ≡ length ps + 1
      → HasActed own (codes "play") (act.Step (step.Join name)) (outcome.Done (answer.Federate m.federate)) new → m.caller ≡ new_caller (handed + 1) → m.execution ≡ codes "play"
      → Led fed rs (request.Step (step.Join name)) (outcome.Done (answer.Federate m.federate)) new courier (ps ++ Some (player.Joined m) ∷ [])
  join_led fed rs name handed own new courier ps m s many acted is_new plays =
      let r : Record = record { actor = own.number; execution = codes "play"; act = act.Step (step.Join name); outcome = outcome.Done (answer.Federate m.federate); choice = acted.0 } in (
        r ∷ [],
        (
          Recorded own.number (outcome.Done (answer.Federate m.federate)) acted.0 s.itself.0 refl refl,
          federate_joined rs r own new courier ps m.federate (handed + 1) (player.Joined m) s refl acted.1 refl (omega (arith, many)) is_new (refl, plays),
        ),
      )

  pub unjoined_led : (fed : List ℕ) (rs : List Record) (name : List ℕ) (e : Fault) (handed : ℕ) (own new courier : Caller) (ps : List (Option (Player L B P H))) → Stand rs own courier ps
      → (HasActed own (codes "play") (act.Step (step.Join name)) (outcome.Refused e) new ⊎ HasNotActed own e new) ⊎ ((e ≡ fault.LimitReached) × (max_callers ≤ handed) × (new ≡ own))
      → handed ≡ length ps + 1 → Led fed rs (request.Step (step.Join name)) (outcome.Refused e) new courier ps
  unjoined_led fed rs name e handed own new courier ps s refused counts = elim refused [
    | inl told ↦ elim told [
      | inl acted ↦
          let r : Record = record { actor = own.number; execution = codes "play"; act = act.Step (step.Join name); outcome = outcome.Refused e; choice = acted.0 } in
          (r ∷ [], (Recorded own.number (outcome.Refused e) acted.0 s.itself.0 refl refl, itself_acted rs r own new courier ps s refl acted.1 refl))
      | inr not ↦ ([], (Unrecorded e (inl not.0) refl refl, subst (λ (c : Caller). Stand (rs ++ []) c courier ps) (sym not.1) (nothing_added rs own courier ps s)))
    ]
    | inr many ↦
        let joined = players_count rs 2 (entrants rs) ps s.federates in
        let all : max_callers < callers rs = omega (arith, many.1, counts, joined) in
        ([], (Unrecorded e (inr (many.0, all)) refl refl, subst (λ (c : Caller). Stand (rs ++ []) c courier ps) (sym many.2) (nothing_added rs own courier ps s)))
  ]

-- ---- who has joined
members_more : (rs : List Record) (ms : List NamedFederate) (r : Record) → members_from ms (rs ++ r ∷ []) ≡ member_after (members_from ms rs) r.act r.outcome
unfolding members_from
members_more [] ms r = refl
members_more (q ∷ rs) ms r = members_more rs (member_after ms q.act q.outcome) r

pub append_nil : {X : Type 0} (xs : List X) → xs ++ [] ≡ xs
append_nil [] = refl
append_nil {X = X} (x ∷ xs) = ap (λ (ys : List X). x ∷ ys) (append_nil xs)

refused_change : (ms : List NamedFederate) (ch : MemberChange) (e : Fault) → with_change ms ch (outcome.Refused e) ≡ ms
refused_change ms (change.Joins name) e = refl
refused_change ms (change.Resigns f) e = refl
refused_change ms change.Stays e = refl

failed_change : (ms : List NamedFederate) (ch : MemberChange) (k : Callback) → with_change ms ch (outcome.Failed k) ≡ ms
failed_change ms (change.Joins name) k = refl
failed_change ms (change.Resigns f) k = refl
failed_change ms change.Stays k = refl

-- what is told makes the same of them as what is recorded
changes_alike : (ms : List NamedFederate) (ch : MemberChange) (out ended : Outcome) → answer_given out ≡ answer_given ended → with_change ms ch out ≡ with_change ms ch ended
changes_alike ms ch (outcome.Done a) (outcome.Done b) same = let is : a ≡ b = cc in ap (λ (x : Answer). with_change ms ch (outcome.Done x)) is
changes_alike ms ch (outcome.Done a) (outcome.Refused e) same = cc
changes_alike ms ch (outcome.Done a) (outcome.Failed k) same = cc
changes_alike ms ch (outcome.Refused e) (outcome.Done b) same = cc
changes_alike ms ch (outcome.Refused e) (outcome.Refused d) same = refused_change ms ch e ∙ sym (refused_change ms ch d)
changes_alike ms ch (outcome.Refused e) (outcome.Failed k) same = refused_change ms ch e ∙ sym (failed_change ms ch k)
changes_alike ms ch (outcome.Failed k) (outcome.Done b) same = cc
changes_alike ms ch (outcome.Failed k) (outcome.Refused d) same = failed_change ms ch k ∙ sym (refused_change ms ch d)
changes_alike ms ch (outcome.Failed k) (outcome.Failed j) same = failed_change ms ch k ∙ sym (failed_change ms ch j)

creates_alike : (ms : List NamedFederate) (out ended : Outcome) → answer_given out ≡ answer_given ended → with_create ms out ≡ with_create ms ended
creates_alike ms (outcome.Done a) (outcome.Done b) same = refl
creates_alike ms (outcome.Done a) (outcome.Refused e) same = cc
creates_alike ms (outcome.Done a) (outcome.Failed k) same = cc
creates_alike ms (outcome.Refused e) (outcome.Done b) same = cc
creates_alike ms (outcome.Refused e) (outcome.Refused d) same = refl
creates_alike ms (outcome.Refused e) (outcome.Failed k) same = refl
creates_alike ms (outcome.Failed k) (outcome.Done b) same = cc
creates_alike ms (outcome.Failed k) (outcome.Refused d) same = refl
creates_alike ms (outcome.Failed k) (outcome.Failed j) same = refl

-- who has joined after a create, by what it answers
pub created_members : (ms after : List NamedFederate) (given : Result (Unit {0}) Fault) (out : Outcome) → answer_given out ≡ said nothing given → IfOk given (λ u. after ≡ []) → IfErr given (λ e. after ≡ ms) → after ≡ with_create ms out
created_members ms after (Ok u) (outcome.Done a) told done refused = done
created_members ms after (Ok u) (outcome.Refused e) told done refused = cc
created_members ms after (Ok u) (outcome.Failed k) told done refused = cc
created_members ms after (Err e) (outcome.Done a) told done refused = cc
created_members ms after (Err e) (outcome.Refused d) told done refused = refused
created_members ms after (Err e) (outcome.Failed k) told done refused = refused

noted_alike : (ms : List NamedFederate) (asked : Request) (out ended : Outcome) → answer_given out ≡ answer_given ended → members_noted ms asked out ≡ members_noted ms asked ended
noted_alike ms request.Create out ended same = creates_alike ms out ended same
noted_alike ms request.Destroy out ended same = refl
noted_alike ms (request.Step s) out ended same = changes_alike ms (change_of s) out ended same

noted_refused : (ms : List NamedFederate) (asked : Request) (e : Fault) → members_noted ms asked (outcome.Refused e) ≡ ms
noted_refused ms request.Create e = refl
noted_refused ms request.Destroy e = refl
noted_refused ms (request.Step s) e = refused_change ms (change_of s) e

noted_after : (fed : List ℕ) (ms : List NamedFederate) (asked : Request) (ended : Outcome) → members_noted ms asked ended ≡ member_after ms (act_asked fed asked) ended
noted_after fed ms request.Create ended = refl
noted_after fed ms request.Destroy ended = refl
noted_after fed ms (request.Step s) ended = refl

-- who has joined behind the record that is added
pub members_ended : (fed : List ℕ) (rs : List Record) (asked : Request) (out : Outcome) (added : List Record) → RequestEnds fed rs asked out added → members_noted (members rs) asked out ≡ members (rs ++ added)
members_ended fed rs asked out added (Unrecorded e why is none) =
    ap (λ (o : Outcome). members_noted (members rs) asked o) is ∙ noted_refused (members rs) asked e ∙ ap members (sym (append_nil rs)) ∙ ap (λ (xs : List Record). members (rs ++ xs)) (sym none)
members_ended fed rs asked out added (Recorded n ended chosen caller same is) =
    let r : Record = record { actor = n; execution = codes "play"; act = act_asked fed asked; outcome = ended; choice = chosen } in
    noted_alike (members rs) asked out ended same ∙ noted_after fed (members rs) asked ended ∙ sym (members_more rs [] r) ∙ ap (λ (xs : List Record). members (rs ++ xs)) (sym is)

-- ---- one more line
pub does_more : (c : CatalogueValue) (fed : List ℕ) (before : List Record) (ls : List Line) (os : List Outcome) (mid : List Record) (l : Line) (o : Outcome) (added : List Record) → Does c fed before ls os mid → LineComesOut c fed mid l.command o added
    → Does c fed before (ls ++ l ∷ []) (os ++ o ∷ []) (mid ++ added)
does_more c fed before [] [] mid l o added does ends = (added, (subst (λ (rs : List Record). LineComesOut c fed rs l.command o added) (sym does) ends, ap (λ (rs : List Record). rs ++ added) does))
does_more c fed before [] (p ∷ os) mid l o added does ends = absurd does
does_more c fed before (k ∷ ls) [] mid l o added does ends = absurd does
does_more c fed before (k ∷ ls) (p ∷ os) mid l o added does ends = (does.0, (does.1.0, does_more c fed (before ++ does.0) ls os mid l o added does.1.1 ends))

-- ---- what all leave behind
get_front : {X : Type 0} (xs : List X) (y : X) (j : ℕ) (x : X) → slice_get xs j ≡ Some x → slice_get (xs ++ y ∷ []) j ≡ Some x
get_front [] y j x at = cc
get_front (z ∷ xs) y zero x at = at
get_front (z ∷ xs) y (suc j) x at = get_front xs y j x at

get_last : {X : Type 0} (xs : List X) (y : X) → slice_get (xs ++ y ∷ []) (length xs) ≡ Some y
get_last [] y = refl
get_last (z ∷ xs) y = get_last xs y

pub left_front : (rs : List Record) (lefts : List Leaver) (x : Leaver) (n : ℕ) → HasLeft rs lefts n → HasLeft rs (lefts ++ x ∷ []) n
left_front rs lefts x n left = (left.0, left.1, get_front lefts x left.0 left.1 left.2, left.3)

pub left_last : (rs : List Record) (lefts : List Leaver) (x : Leaver) (n : ℕ) → IsBook rs n x.caller → HasLeft rs (lefts ++ x ∷ []) n
left_last rs lefts x n book = (length lefts, x, get_last lefts x, book)

-- where all transcripts are the history's, the history has just these records of each
books_of : (history rs : List Record) (lefts : List Leaver) (own : Caller) → AllAgree history lefts own → IsBook rs 0 own → HaveLeft rs lefts 1 (callers rs) → (n : ℕ) → n < callers rs → records_by n history ≡ records_by n rs
books_of history rs lefts own agree book left zero below =
    sym (agree.1 ∙ ap (λ (n : ℕ). records_by n history) book.0) ∙ book.1
books_of history rs lefts own agree book left (suc n) below =
    let there = left (suc n) (omega arith) below in
    sym (agree.0 there.0 there.1 (slice_get_within lefts there.0 there.1 there.2) there.2 ∙ ap (λ (m : ℕ). records_by m history) there.3.0) ∙ there.3.1

-- and there are no others, as no more callers were handed out
pub has_just : (history rs : List Record) (lefts : List Leaver) (own : Caller) (handed : ℕ) → AllAgree history lefts own → IsBook rs 0 own → HaveLeft rs lefts 1 (callers rs) → AreOfCallers handed history → handed + 1 ≡ callers rs → HasJust history rs
has_just history rs lefts own handed agree book left theirs counts = (books_of history rs lefts own agree book left, λ k d below. omega (arith, counts, theirs k d below))
