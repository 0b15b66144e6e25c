-- What the functions that do the lines one after another lead to.
use Rattle.hla_players.specs.Deeds.{caller_of, HasTold}
use Rattle.std.proofs.Common.{◌≡◌, ◌+◌, ◌<◌, ◌≤◌, suc, arith, ℕ, List, [], ◌∷◌, ◌++◌, ◌⊎◌, inl, inr, Option, None, Some, Result, Ok, Err, length, take, get_or, refl, sym, ap, subst, ◌∙◌, codes}
use Rattle.std.specs.Prelude.{slice_get, slice_set, zero, IfOk, OnOk}
use Rattle.std.proofs.lemmas.List.{length-append}
use Rattle.hla_base.specs.Limits.{max_callers}
use Rattle.hla_base.specs.declared.fault.Fault.{Fault}
use Rattle.hla_base.specs.declared.fault.Fault.TheVariants as fault
use Rattle.hla_catalogue.specs.CatalogueValue.{CatalogueValue}
use Rattle.hla_commands.specs.declared.lines.Command.{Command}
use Rattle.hla_commands.specs.declared.lines.Line.{Line}
use Rattle.hla_commands.specs.Script.{script_of}
use Rattle.hla_fed_file.specs.Grammar.{Describes}
use Rattle.hla_machine.specs.declared.service.Service.{Service}
use Rattle.hla_machine.specs.declared.step.Act.TheVariants as act
use Rattle.hla_machine.specs.declared.step.Answer.{Answer}
use Rattle.hla_machine.specs.declared.step.Answer.TheVariants as answer
use Rattle.hla_machine.specs.declared.step.Outcome.{Outcome}
use Rattle.hla_machine.specs.declared.step.Outcome.TheVariants as outcome
use Rattle.hla_machine.specs.declared.step.Record.{Record}
use Rattle.hla_machine.specs.declared.step.Step.{Step}
use Rattle.hla_machine.specs.declared.step.Step.TheVariants as step
use Rattle.hla_requests.specs.declared.members.NamedFederate.{NamedFederate}
use Rattle.hla_requests.specs.declared.steps.Request.{Request}
use Rattle.hla_requests.specs.declared.steps.Request.TheVariants as request
use Rattle.hla_requests.specs.Members.{members, members_from, with_change, change_of}
use Rattle.hla_requests.specs.Requests.{request_of, Asks}
use Rattle.hla_requests.specs.declared.lookups.AskFault.{AskFault}
use Rattle.hla_requests.specs.declared.lookups.AskFault.TheVariants as stop
use Rattle.hla_callers.specs.Callers.{Caller, FederateCaller, Leaver, Office, HasActed, HasNotActed, HasAnswered, answer_given, new_caller}
use Rattle.hla_in_order.specs.InOrder.{WithoutStep, Asked, Unrecorded, IsCaller, Does, IsRunInOrder, act_asked, number_joined, entrants, callers}
use Rattle.hla_outcomes.specs.Running.{told_text}
use Rattle.hla_callers.specs.Close.{AllAgree, AreOfCallers}
use Rattle.hla_in_order.specs.Players.{Stand, IsBook}
use Rattle.std.specs.Io.KnownBytes.{Appends}
use Rattle.std.proofs.lemmas.Bool.{cases_order}
use Rattle.std.proofs.lemmas.List.{take_more, take_all, map-append}
use Rattle.hla_in_order.specs.Turns.{DoesAt, IsSet, RequestLeads, LineLeads, HaveLed, HaveEnded, AreDone, HasLeft, HaveLeft, members_noted}
use Rattle.hla_in_order.specs.declared.in_order.Cast.{Cast}
use Rattle.hla_players.specs.declared.player.Player.{Player}
use Rattle.hla_players.specs.declared.player.Player.TheVariants as player
use Rattle.hla_players.specs.declared.watching.Ran.{Ran}
use Rattle.hla_players.specs.declared.player.Deed.{Deed}
use Rattle.hla_players.specs.declared.player.Deed.TheVariants as deed
use Rattle.hla_in_order.proofs.TurnLemmas.{itself_led, courier_led, call_led, tick_led, join_led, unjoined_led, members_ended, append_nil, not_acted, does_more, left_front, left_last, has_just}
use Rattle.hla_players.proofs.DeedLemmas.{answer_told}
use Rattle.hla_in_order.proofs.StandLemmas.{player_at, players_count}

-- ---- what a line asks for
pub asks_ok : (given : Result Request AskFault) (meant : Result Request Fault) (x : Request) → Asks given meant → given ≡ Ok x → meant ≡ Ok x
asks_ok given meant x asks is = subst (λ (r : Result Request AskFault). Asks r meant) is asks

pub asks_refused : (given : Result Request AskFault) (meant : Result Request Fault) (e : Fault) → Asks given meant → given ≡ Err (stop.Refused e) → meant ≡ Err e
asks_refused given meant e asks is = subst (λ (r : Result Request AskFault). Asks r meant) is asks

pub asks_memory : (given : Result Request AskFault) (meant : Result Request Fault) → Asks given meant → given ≡ Err stop.Memory → (x : Request) × (meant ≡ Ok x)
asks_memory given meant asks is = subst (λ (r : Result Request AskFault). Asks r meant) is asks

length_set : {X : Type 0} (xs : List X) (k : ℕ) (x : X) → length (slice_set xs k x) ≡ length xs
length_set [] k x = refl
length_set (y ∷ xs) zero x = refl
length_set (y ∷ xs) (suc k) x = ap suc (length_set xs k x)

length_push : {X : Type 0} (xs : List X) (x : X) → length (xs ++ x ∷ []) ≡ length xs + 1
length_push xs x = length-append xs (x ∷ [])

module _ {L B P H : Type 0} where
  -- the same callers stand
  stand_same : (rs : List Record) (own : Caller) (cast cast' : Cast L B P H) → cast'.courier ≡ cast.courier → cast'.players.items ≡ cast.players.items → Stand rs own cast.courier cast.players.items → Stand rs own cast'.courier cast'.players.items
  stand_same rs own cast cast' courier players s =
      subst (λ (c : Caller). Stand rs own c cast'.players.items) (sym courier) (subst (λ (ps : List (Option (Player L B P H))). Stand rs own cast.courier ps) (sym players) s)

  -- the infrastructure itself
  pub itself_leads : (fed : List ℕ) (asked : Request) (given : Result Answer Fault) (out : Outcome) (office office' : Office) (cast cast' : Cast L B P H) → ((rs : List Record) (n : ℕ) → n ≡ 0 → IsCaller rs asked n)
      → ((o : Outcome) → number_joined (act_asked fed asked) o ≡ []) → HasAnswered office.own cast.execution (act_asked fed asked) given office'.own → answer_given out ≡ given → office'.handed ≡ office.handed
      → cast'.courier ≡ cast.courier → cast'.players.items ≡ cast.players.items → cast'.execution ≡ cast.execution → RequestLeads fed asked out office cast office' cast'
  itself_leads fed asked given out office office' cast cast' caller none answered same handed courier players plays = λ rs set.
      let told = answer_told office.own office'.own cast.execution (act_asked fed asked) given out answered same in
      let named = subst (λ (name : List ℕ). HasTold office.own name (act_asked fed asked) out office'.own) set.plays told in
      let led = itself_led fed rs asked out office.own office'.own cast.courier cast.players.items set.stands (caller rs office.own.number set.stands.itself.0) none named in (
        led.0,
        led.1.0,
        record {
          stands = stand_same (rs ++ led.0) office'.own cast cast' courier players led.1.1;
          counts = handed ∙ set.counts ∙ ap (λ (ps : List (Option (Player L B P H))). length ps + 1) (sym players);
          plays = plays ∙ set.plays;
        },
      )

  -- the courier
  pub courier_leads : (fed : List ℕ) (asked : Request) (given : Result Answer Fault) (out : Outcome) (office : Office) (cast cast' : Cast L B P H) → ((rs : List Record) (n : ℕ) → n ≡ 1 → IsCaller rs asked n)
      → ((o : Outcome) → number_joined (act_asked fed asked) o ≡ []) → HasAnswered cast.courier cast.execution (act_asked fed asked) given cast'.courier → answer_given out ≡ given
      → cast'.players.items ≡ cast.players.items → cast'.execution ≡ cast.execution → RequestLeads fed asked out office cast office cast'
  courier_leads fed asked given out office cast cast' caller none answered same players plays = λ rs set.
      let told = answer_told cast.courier cast'.courier cast.execution (act_asked fed asked) given out answered same in
      let named = subst (λ (name : List ℕ). HasTold cast.courier name (act_asked fed asked) out cast'.courier) set.plays told in
      let led = courier_led fed rs asked out office.own cast.courier cast'.courier cast.players.items set.stands (caller rs cast.courier.number set.stands.carrier.0) none named in (
        led.0,
        led.1.0,
        record {
          stands = subst (λ (ps : List (Option (Player L B P H))). Stand (rs ++ led.0) office.own cast'.courier ps) (sym players) led.1.1;
          counts = set.counts ∙ ap (λ (ps : List (Option (Player L B P H))). length ps + 1) (sym players);
          plays = plays ∙ set.plays;
        },
      )

  does_count : (ps qs : List (Option (Player L B P H))) (f : ℕ) (what : Deed) (out : Outcome) → DoesAt ps f what out qs → length qs ≡ length ps
  does_count ps qs f what out does = elim does [
    | inl at ↦ ap (λ (rs : List (Option (Player L B P H))). length rs) at.7 ∙ length_set ps at.0 (Some at.2)
    | inr none ↦ ap (λ (rs : List (Option (Player L B P H))). length rs) none.1
  ]

  -- a federate
  pub call_leads : (fed : List ℕ) (x : Service) (f : ℕ) (out : Outcome) (office : Office) (cast cast' : Cast L B P H) → DoesAt cast.players.items f (deed.Serve x) out cast'.players.items → cast'.courier ≡ cast.courier → cast'.execution ≡ cast.execution
      → RequestLeads fed (request.Step (step.Call f x)) out office cast office cast'
  call_leads fed x f out office cast cast' does courier plays = λ rs set.
      let led = call_led fed rs x f out office.own cast.courier cast.players.items cast'.players.items set.stands does in (
        led.0,
        led.1.0,
        record {
          stands = subst (λ (c : Caller). Stand (rs ++ led.0) office.own c cast'.players.items) (sym courier) led.1.1;
          counts = set.counts ∙ ap (λ (n : ℕ). n + 1) (sym (does_count cast.players.items cast'.players.items f (deed.Serve x) out does));
          plays = plays ∙ set.plays;
        },
      )

  pub tick_leads : (fed : List ℕ) (f : ℕ) (out : Outcome) (office : Office) (cast cast' : Cast L B P H) → DoesAt cast.players.items f deed.Tick out cast'.players.items → cast'.courier ≡ cast.courier → cast'.execution ≡ cast.execution
      → RequestLeads fed (request.Step (step.Tick f)) out office cast office cast'
  tick_leads fed f out office cast cast' does courier plays = λ rs set.
      let led = tick_led fed rs f out office.own cast.courier cast.players.items cast'.players.items set.stands does in (
        led.0,
        led.1.0,
        record {
          stands = subst (λ (c : Caller). Stand (rs ++ led.0) office.own c cast'.players.items) (sym courier) led.1.1;
          counts = set.counts ∙ ap (λ (n : ℕ). n + 1) (sym (does_count cast.players.items cast'.players.items f deed.Tick out does));
          plays = plays ∙ set.plays;
        },
      )

  -- one who joins
  pub join_leads : (fed name : List ℕ) (office office' : Office) (cast cast' : Cast L B P H) (m : FederateCaller)
      → HasActed office.own cast.execution (act.Step (step.Join name)) (outcome.Done (answer.Federate m.federate)) office'.own → m ≡ record { execution = cast.execution; federate = m.federate; caller = new_caller office'.handed }
      → office'.handed ≡ office.handed + 1 → cast'.courier ≡ cast.courier → cast'.players.items ≡ cast.players.items ++ Some (player.Joined m) ∷ [] → cast'.execution ≡ cast.execution
      → RequestLeads fed (request.Step (step.Join name)) (outcome.Done (answer.Federate m.federate)) office cast office' cast'
  join_leads fed name office office' cast cast' m acted is handed courier players plays = λ rs set.
      let named = subst (λ (x : List ℕ). HasActed office.own x (act.Step (step.Join name)) (outcome.Done (answer.Federate m.federate)) office'.own) set.plays acted in
      let is_new : m.caller ≡ new_caller (office.handed + 1) = ap (λ (x : FederateCaller). x.caller) is ∙ ap new_caller handed in
      let led = join_led fed rs name office.handed office.own office'.own cast.courier cast.players.items m set.stands set.counts named is_new (ap (λ (x : FederateCaller). x.execution) is ∙ set.plays) in (
        led.0,
        led.1.0,
        record {
          stands = subst (λ (c : Caller). Stand (rs ++ led.0) office'.own c cast'.players.items) (sym courier)
              (subst (λ (ps : List (Option (Player L B P H))). Stand (rs ++ led.0) office'.own cast.courier ps) (sym players) led.1.1);
          counts = handed ∙ ap (λ (n : ℕ). n + 1) (set.counts ∙ sym (length_push cast.players.items (Some (player.Joined m))) ∙ ap (λ (ps : List (Option (Player L B P H))). length ps) (sym players));
          plays = plays ∙ set.plays;
        },
      )

  pub unjoined_leads : (fed name : List ℕ) (e : Fault) (office office' : Office) (cast cast' : Cast L B P H)
      → (HasActed office.own cast.execution (act.Step (step.Join name)) (outcome.Refused e) office'.own ⊎ HasNotActed office.own e office'.own) ⊎ ((e ≡ fault.LimitReached) × (max_callers ≤ office.handed) × (office'.own ≡ office.own))
      → office'.handed ≡ office.handed → cast'.courier ≡ cast.courier → cast'.players.items ≡ cast.players.items → cast'.execution ≡ cast.execution
      → RequestLeads fed (request.Step (step.Join name)) (outcome.Refused e) office cast office' cast'
  unjoined_leads fed name e office office' cast cast' refused handed courier players plays = λ rs set.
      let told : (HasActed office.own (codes "play") (act.Step (step.Join name)) (outcome.Refused e) office'.own ⊎ HasNotActed office.own e office'.own) ⊎ ((e ≡ fault.LimitReached) × (max_callers ≤ office.handed) × (office'.own ≡ office.own)) = elim refused [
        | inl acts ↦ elim acts [
          | inl acted ↦ inl (inl (subst (λ (x : List ℕ). HasActed office.own x (act.Step (step.Join name)) (outcome.Refused e) office'.own) set.plays acted))
          | inr not ↦ inl (inr not)
        ]
        | inr many ↦ inr many
      ] in
      let led = unjoined_led fed rs name e office.handed office.own office'.own cast.courier cast.players.items set.stands told set.counts in (
        led.0,
        led.1.0,
        record {
          stands = stand_same (rs ++ led.0) office'.own cast cast' courier players led.1.1;
          counts = handed ∙ set.counts ∙ ap (λ (ps : List (Option (Player L B P H))). length ps + 1) (sym players);
          plays = plays ∙ set.plays;
        },
      )

  -- ---- a line
  -- it asks for something
  pub line_asked : (c : CatalogueValue) (fed : List ℕ) (asks : Command) (asked : Request) (out : Outcome) (office office' : Office) (cast cast' : Cast L B P H) → request_of c cast.members.items asks ≡ Ok asked
      → RequestLeads fed asked out office cast office' cast' → cast'.members.items ≡ members_noted cast.members.items asked out → LineLeads c fed asks out office cast office' cast'
  line_asked c fed asks asked out office office' cast cast' is leads notes = λ rs set joined.
      let led = leads rs set in
      let asks_behind : request_of c (members rs) asks ≡ Ok asked = subst (λ (ms : List NamedFederate). request_of c ms asks ≡ Ok asked) joined is in
      (led.0, Asked asked asks_behind led.1, led.2, notes ∙ ap (λ (ms : List NamedFederate). members_noted ms asked out) joined ∙ members_ended fed rs asked out led.0 led.1)

  pub line_stepped : {E : Type 0} (c : CatalogueValue) (fed : List ℕ) (asks : Command) (x : Step) (office office' : Office) (cast cast' : Cast L B P H) (given : Result Outcome E) → request_of c cast.members.items asks ≡ Ok (request.Step x)
      → IfOk given (λ out. (file : List ℕ) → RequestLeads file (request.Step x) out office cast office' cast') → IfOk given (λ out. cast'.members.items ≡ with_change cast.members.items (change_of x) out) → IfOk given (λ out. LineLeads c fed asks out office cast office' cast')
  line_stepped c fed asks x office office' cast cast' (Ok out) is leads notes = line_asked c fed asks (request.Step x) out office office' cast cast' is (leads fed) notes
  line_stepped c fed asks x office office' cast cast' (Err e) is leads notes = tt

  -- nothing is done
  set_same : (rs : List Record) (office : Office) (cast cast' : Cast L B P H) → cast'.courier ≡ cast.courier → cast'.players.items ≡ cast.players.items → cast'.execution ≡ cast.execution → IsSet rs office cast → IsSet (rs ++ []) office cast'
  set_same rs office cast cast' courier players plays set =
      subst (λ (xs : List Record). IsSet xs office cast') (sym (append_nil rs)) (record {
        stands = stand_same rs office.own cast cast' courier players set.stands;
        counts = set.counts ∙ ap (λ (ps : List (Option (Player L B P H))). length ps + 1) (sym players);
        plays = plays ∙ set.plays;
      })

  -- it makes no step
  pub line_refused : (c : CatalogueValue) (fed : List ℕ) (asks : Command) (e : Fault) (office : Office) (cast cast' : Cast L B P H) → request_of c cast.members.items asks ≡ Err e
      → cast'.courier ≡ cast.courier → cast'.players.items ≡ cast.players.items → cast'.execution ≡ cast.execution → cast'.members.items ≡ cast.members.items → LineLeads c fed asks (outcome.Refused e) office cast office cast'
  line_refused c fed asks e office cast cast' is courier players plays same = λ rs set joined.
      let behind : request_of c (members rs) asks ≡ Err e = subst (λ (ms : List NamedFederate). request_of c ms asks ≡ Err e) joined is in
      ([], WithoutStep e behind refl refl, set_same rs office cast cast' courier players plays set, same ∙ joined ∙ ap members (sym (append_nil rs)))

  -- there was no memory to ask
  pub line_forgotten : (c : CatalogueValue) (fed : List ℕ) (asks : Command) (office : Office) (cast cast' : Cast L B P H) → (asked : Request) × (request_of c cast.members.items asks ≡ Ok asked)
      → cast'.courier ≡ cast.courier → cast'.players.items ≡ cast.players.items → cast'.execution ≡ cast.execution → cast'.members.items ≡ cast.members.items → LineLeads c fed asks (outcome.Refused fault.OutOfMemory) office cast office cast'
  line_forgotten c fed asks office cast cast' meant courier players plays same = λ rs set joined.
      let behind : request_of c (members rs) asks ≡ Ok meant.0 = subst (λ (ms : List NamedFederate). request_of c ms asks ≡ Ok meant.0) joined meant.1 in
      ([], Asked meant.0 behind (Unrecorded fault.OutOfMemory (not_acted rs meant.0 fault.OutOfMemory (inr refl)) refl refl), set_same rs office cast cast' courier players plays set, same ∙ joined ∙ ap members (sym (append_nil rs)))

  -- ---- all lines
  pub led_first : (c : CatalogueValue) (fed : List ℕ) (lines : List Line) (told : List (Option Outcome)) (office : Office) (cast : Cast L B P H) → told ≡ [] → IsSet [] office cast → cast.members.items ≡ [] → HaveLed c fed (take 0 lines) told office cast
  unfolding members_from
  led_first c fed [] told office cast none set nobody = record { outcomes = []; records = []; does = refl; tells = none; set = set; joined = nobody }
  led_first c fed (l ∷ lines) told office cast none set nobody = record { outcomes = []; records = []; does = refl; tells = none; set = set; joined = nobody }

  pub led_more : (c : CatalogueValue) (fed : List ℕ) (lines : List Line) (i : ℕ) (l : Line) (told told' : List (Option Outcome)) (out : Outcome) (office office' : Office) (cast cast' : Cast L B P H) → HaveLed c fed (take i lines) told office cast
      → i < length lines → l ≡ get_or lines i l → LineLeads c fed l.command out office cast office' cast' → told' ≡ told ++ Some out ∷ [] → HaveLed c fed (take (i + 1) lines) told' office' cast'
  led_more c fed lines i l told told' out office office' cast cast' led within is leads adds =
      let behind = leads led.records led.set led.joined in
      let longer : take (i + 1) lines ≡ take i lines ++ l ∷ [] = take_more lines i l within ∙ ap (λ (x : Line). take i lines ++ x ∷ []) (sym is) in
      record {
        outcomes = led.outcomes ++ out ∷ [];
        records = led.records ++ behind.0;
        does = subst (λ (ls : List Line). Does c fed [] ls (led.outcomes ++ out ∷ []) (led.records ++ behind.0)) (sym longer)
            (does_more c fed [] (take i lines) led.outcomes led.records l out behind.0 led.does behind.1);
        tells = adds ∙ ap (λ (os : List (Option Outcome)). os ++ Some out ∷ []) led.tells ∙ sym (map-append (λ (o : Outcome). Some o) led.outcomes (out ∷ []));
        set = behind.2;
        joined = behind.3;
      }

  pub led_all : (c : CatalogueValue) (fed : List ℕ) (lines : List Line) (i : ℕ) (told : List (Option Outcome)) (office : Office) (cast : Cast L B P H) → HaveLed c fed (take i lines) told office cast → length lines ≤ i → HaveLed c fed lines told office cast
  led_all c fed lines i told office cast led whole = subst (λ (ls : List Line). HaveLed c fed ls told office cast) (take_all i lines whole) led

  -- ---- the end
  -- the courier has left
  pub courier_left : (rs : List Record) (office : Office) (cast : Cast L B P H) (lefts : List Leaver) (x : Leaver) → IsSet rs office cast → lefts ≡ x ∷ [] → x.caller ≡ cast.courier → HaveLeft rs lefts 1 2
  courier_left rs office cast lefts x set is same n low high =
      let here : n ≡ 1 = omega (arith, low, high) in
      (0, x, ap (λ (ls : List Leaver). slice_get ls 0) is, subst (λ (c : Caller). IsBook rs n c) (sym same) (subst (λ (m : ℕ). IsBook rs m cast.courier) (sym here) set.stands.carrier))

  -- one more federate has
  pub player_left : (rs : List Record) (office : Office) (cast : Cast L B P H) (lefts after : List Leaver) (x : Leaver) (i : ℕ) (p : Player L B P H) → IsSet rs office cast → HaveLeft rs lefts 1 (i + 2) → slice_get cast.players.items i ≡ Some (Some p) → x.caller ≡ caller_of p → after ≡ lefts ++ x ∷ []
      → HaveLeft rs after 1 (i + 1 + 2)
  player_left rs office cast lefts after x i p set left at same adds n low high =
      let there = player_at rs 2 i (entrants rs) cast.players.items (Some p) set.stands.federates at in
      let place : 2 + i ≡ i + 2 = omega arith in
      let book : IsBook rs (i + 2) x.caller = subst (λ (c : Caller). IsBook rs (i + 2) c) (sym same) (subst (λ (m : ℕ). IsBook rs m (caller_of p)) place there.2.0) in
      let main : HasLeft rs (lefts ++ x ∷ []) n = elim (cases_order n (i + 2)) [
        | inl here ↦ left_last rs lefts x n (subst (λ (m : ℕ). IsBook rs m x.caller) (sym here) book)
        | inr apart ↦ elim apart [
          | inl below ↦ left_front rs lefts x n (left n low below)
          | inr above ↦ absurd (let no : ⊥ = omega (arith, above, high) in no)
        ]
      ] in
      subst (λ (ls : List Leaver). HasLeft rs ls n) (sym adds) main

  -- each place of a federate has one
  pub player_there : (rs : List Record) (office : Office) (cast : Cast L B P H) (i : ℕ) → IsSet rs office cast → slice_get cast.players.items i ≡ Some None → ⊥
  player_there rs office cast i set at = (player_at rs 2 i (entrants rs) cast.players.items None set.stands.federates at).2

  pub slot_there : (rs : List Record) (office : Office) (cast : Cast L B P H) (i : ℕ) (slot : Option (Player L B P H)) → IsSet rs office cast → slice_get cast.players.items i ≡ Some slot → ((p : Player L B P H) → slot ≡ Some p → ⊥) → ⊥
  slot_there rs office cast i None set at other = player_there rs office cast i set at
  slot_there rs office cast i (Some p) set at other = other p refl

  pub all_left : (rs : List Record) (office : Office) (cast : Cast L B P H) (lefts : List Leaver) (i : ℕ) → IsSet rs office cast → HaveLeft rs lefts 1 (i + 2) → length cast.players.items ≤ i → HaveLeft rs lefts 1 (callers rs)
  all_left rs office cast lefts i set left whole n low high =
      let counted = players_count rs 2 (entrants rs) cast.players.items set.stands.federates in
      left n low (omega (arith, high, counted, whole))

  pub have_ended : (c : CatalogueValue) (fed : List ℕ) (lines : List Line) (told : List (Option Outcome)) (office : Office) (cast : Cast L B P H) (lefts : List Leaver) → HaveLed c fed lines told office cast
      → ((rs : List Record) (o : Office) → IsSet rs o cast → HaveLeft rs lefts 1 (callers rs)) → HaveEnded c fed lines told office lefts
  have_ended c fed lines told office cast lefts led leaves =
      record { outcomes = led.outcomes; records = led.records; does = led.does; tells = led.tells; own = led.set.stands.itself; left = leaves led.records office led.set; counts = omega (arith, led.set.counts, players_count led.records 2 (entrants led.records) cast.players.items led.set.stands.federates) }

pub leave_ended : {L B P H V E : Type 0} (c : CatalogueValue) (fed : List ℕ) (lines : List Line) (told : List (Option Outcome)) (office : Office) (cast : Cast L B P H) (items : V → List Leaver) (left : Result V E) → HaveLed c fed lines told office cast
    → IfOk left (λ v. (rs : List Record) (o : Office) → IsSet rs o cast → HaveLeft rs (items v) 1 (callers rs)) → IfOk left (λ v. HaveEnded c fed lines told office (items v))
leave_ended c fed lines told office cast items (Ok v) led leaves = have_ended c fed lines told office cast (items v) led leaves
leave_ended c fed lines told office cast items (Err e) led leaves = tt

pub are_done : (c : CatalogueValue) (fed : List ℕ) (lines : List Line) (told : List (Option Outcome)) (office : Office) (lefts : List Leaver) (old new : Option (List ℕ)) (history : List Record) → HaveEnded c fed lines told office lefts
    → Appends old new (told_text c lines told) → AllAgree history lefts office.own → AreOfCallers office.handed history → AreDone c fed lines old new history
are_done c fed lines told office lefts old new history ended writes agree theirs = record {
  outcomes = ended.outcomes;
  records = ended.records;
  does = ended.does;
  kept = has_just history ended.records lefts office.own office.handed agree ended.own ended.left theirs ended.counts;
  writes = subst (λ (os : List (Option Outcome)). Appends old new (told_text c lines os)) ended.tells writes;
}

-- what was read, and what its lines did
pub run_done : (fed script : List ℕ) (c : CatalogueValue) (lines : List Line) (old new : Option (List ℕ)) (history : List Record) → Describes fed c → script_of script ≡ Ok lines → AreDone c fed lines old new history → IsRunInOrder fed script old new history
run_done fed script c lines old new history describes says done = record {
  catalogue = c;
  lines = lines;
  outcomes = done.outcomes;
  records = done.records;
  describes = describes;
  says = says;
  does = done.does;
  kept = done.kept;
  writes = done.writes;
}

-- of a run that may have stopped
pub ended_done : {E : Type 0} (c : CatalogueValue) (fed : List ℕ) (lines : List Line) (told : List (Option Outcome)) (office : Office) (lefts : List Leaver) (old new : Option (List ℕ)) (ran : Result Ran E) → HaveEnded c fed lines told office lefts
    → OnOk ran (Appends old new (told_text c lines told)) → IfOk ran (λ r. AllAgree r.closed lefts office.own) → IfOk ran (λ r. AreOfCallers office.handed r.closed) → IfOk ran (λ r. AreDone c fed lines old new r.closed)
ended_done c fed lines told office lefts old new (Ok r) ended writes agree theirs = are_done c fed lines told office lefts old new r.closed ended writes agree theirs
ended_done c fed lines told office lefts old new (Err e) ended writes agree theirs = tt

pub runs_done : {E : Type 0} (fed script : List ℕ) (c : CatalogueValue) (lines : List Line) (old new : Option (List ℕ)) (ran : Result Ran E) → Describes fed c → script_of script ≡ Ok lines → IfOk ran (λ r. AreDone c fed lines old new r.closed)
    → IfOk ran (λ r. IsRunInOrder fed script old new r.closed)
runs_done fed script c lines old new (Ok r) describes says done = run_done fed script c lines old new r.closed describes says done
runs_done fed script c lines old new (Err e) describes says done = tt
