-- The happenings of each run keep all laws
use Rattle.std.proofs.Common.{◌≡◌, ℕ, true, Some, None, List, [], ◌∷◌, ◌++◌, sym, subst}
use Rattle.hla_base.specs.declared.number.EventHandle.{EventHandle}
use Rattle.hla_machine.specs.declared.service.Service.{Service}
use Rattle.hla_machine.specs.declared.step.Step.{Step}
use Rattle.hla_machine.specs.declared.step.Step.TheVariants.{Call, Tick}
use Rattle.hla_machine.specs.declared.step.Answer.TheVariants as answer
use Rattle.hla_machine.specs.declared.step.Outcome.{Outcome}
use Rattle.hla_machine.specs.declared.step.Outcome.TheVariants as outcome
use Rattle.hla_machine.specs.declared.step.Choice.{Choice}
use Rattle.hla_machine.specs.Central.{Central, new_central}
use Rattle.hla_machine.specs.Callbacks.{MayTickInVain}
use Rattle.hla_machine.specs.Machine.{MayEnd, after}
use Rattle.hla_machine.specs.Runs.{Happening, IsRun}
use Rattle.hla_machine.specs.History.{Happens, HappenAfter, HappensLater, next_state, WaitsInOrder, HasHistory, central_after, Occurs, OccurAfter, OccursLater}
use Rattle.hla_machine.specs.Lawful.{IsLawful}
use Rattle.hla_machine.proofs.Upkeep.Runs.{first_run, rest_run, run_safe}
use Rattle.hla_machine.proofs.Upkeep.Ahead.{given_of, run_ahead}
use Rattle.hla_machine.proofs.Histories.Orders.{stamps_never_fall, keys_rise}
use Rattle.hla_machine.proofs.Histories.Stamps.{equal_stamps_in_order}
use Rattle.hla_machine.proofs.Histories.Asked.{granted_as_asked}
use Rattle.hla_machine.proofs.Histories.Discoveries.{discovered_as_registered}
use Rattle.hla_machine.proofs.Copies.Sending.{sent_waits}
use Rattle.hla_machine.proofs.Histories.Grants.{grant_after_all}
use Rattle.hla_machine.proofs.Copies.Deliveries.{heard_from_another, heard_once, heard_on_its_way, given_to_a_member, heard_in_order, discovered_before, told_as_sent}
use Rattle.hla_machine.proofs.Copies.Addressing.{sent_by_call}
use Rattle.hla_machine.proofs.Copies.Requests.{asked_back_once}
use Rattle.hla_machine.proofs.Copies.Ordering.{goes_in_its_order}
use Rattle.hla_machine.proofs.Copies.Reaching.{settled_or_on_its_way, reliable_at}
use Rattle.hla_machine.proofs.Histories.Registrations.{registered_apart}
use Rattle.hla_machine.proofs.Points.Dues.{run_due}
use Rattle.hla_machine.proofs.Points.Reached.{reached, achieved_by_all, told_after_all}
use Rattle.hla_machine.proofs.Points.Awaited.{waits_for_some}

-- ---- parts of a run
pub joined_run : (c : Central) (xs : List Happening) (d : Central) (ys : List Happening) (e : Central) → IsRun c xs d → IsRun d ys e → IsRun c (xs ++ ys) e
joined_run c [] d ys e first rest = subst (λ (x : Central). IsRun x ys e) (sym first) rest
joined_run c (h ∷ xs) d ys e first rest = (first.0, joined_run (next_state c h) xs d ys e first.1 rest)

-- what is led to from a state with a history has a history
pub later_history : (c : Central) (hs : List Happening) (d : Central) → HasHistory c → IsRun c hs d → HasHistory d
later_history c hs d is run = record { catalogue = is.catalogue; before = is.before ++ hs; run = joined_run (new_central is.catalogue) is.before c hs d is.run run }

-- what was sent by a call waits
sent_at : (c : Central) (step : Step) (out : Outcome) (o : Choice) (f : ℕ) (service : Service) (e : EventHandle) (g : ℕ) → step ≡ Call f service → out ≡ outcome.Done (answer.Sent (Some e)) → MayEnd c step out o
    → (let d = after c step out o in (d.sent e.sender e.serial).receivers g ≡ true → WaitsInOrder d g e (d.sent e.sender e.serial).stamp)
sent_at c step out o f service e g is_call is_sent =
    subst (λ (step : Step). MayEnd c step out o → (let d = after c step out o in (d.sent e.sender e.serial).receivers g ≡ true → WaitsInOrder d g e (d.sent e.sender e.serial).stamp)) (sym is_call)
    (subst (λ (out : Outcome). MayEnd c (Call f service) out o → (let d = after c (Call f service) out o in (d.sent e.sender e.serial).receivers g ≡ true → WaitsInOrder d g e (d.sent e.sender e.serial).stamp)) (sym is_sent)
    (λ may told. sent_waits c f service e o g may.1 told))

-- a tick that gives nothing waits for others
waits_at : (c : Central) (step : Step) (out : Outcome) (o : Choice) (f : ℕ) → step ≡ Tick f → out ≡ outcome.Done (answer.Ticked None) → MayEnd c step out o → MayTickInVain c f
waits_at c step out o f is_tick is_nothing may =
    let at : MayEnd c (Tick f) (outcome.Done (answer.Ticked None)) o = subst (λ (out : Outcome). MayEnd c (Tick f) out o) is_nothing (subst (λ (step : Step). MayEnd c step out o) is_tick may) in
    at.1

module _ (c : Central) (happenings : List Happening) (end : Central) (is : HasHistory c) (run : IsRun c happenings end) where
  pub occurs_happens : (now : Central) (h : Happening) → Occurs c happenings now h → Happens now h
  occurs_happens now h o =
      let all = subst (λ (hs : List Happening). IsRun c hs end) o.whole run in
      let rest = rest_run c o.before (h ∷ o.rest) end all in
      let start = later_history c o.before (central_after c o.before) is (first_run c o.before (h ∷ o.rest) end all) in
      subst (λ (d : Central). Happens d h) (sym o.state) (record { catalogue = start.catalogue; before = start.before; run = start.run; allowed = rest.0 })

  occur_after : (now : Central) (h : Happening) (between : List Happening) (then : Central) (i : Happening) → OccurAfter c happenings now h between then i → HappenAfter now h between then i
  occur_after now h between then i o =
      let first = occurs_happens now h (record { before = o.before; rest = between ++ (i ∷ o.rest); whole = o.whole; state = o.state }) in
      let all = subst (λ (hs : List Happening). IsRun c hs end) o.whole run in
      let rest = subst (λ (d : Central). IsRun d (h ∷ (between ++ (i ∷ o.rest))) end) (sym o.state) (rest_run c o.before (h ∷ (between ++ (i ∷ o.rest))) end all) in
      let then_is = sym o.later in
      record {
        first = first;
        run = subst (λ (d : Central). IsRun (next_state now h) between d) then_is (first_run (next_state now h) between (i ∷ o.rest) end rest.1);
        allowed = (subst (λ (d : Central). IsRun d (i ∷ o.rest) end) then_is (rest_run (next_state now h) between (i ∷ o.rest) end rest.1)).0;
      }

  occurs_later : (now : Central) (between : List Happening) (then : Central) (h : Happening) → OccursLater c happenings now between then h → HappensLater now between then h
  occurs_later now between then h o =
      let all = subst (λ (hs : List Happening). IsRun c hs end) o.whole run in
      let start = subst HasHistory (sym o.state) (later_history c o.before (central_after c o.before) is (first_run c o.before (between ++ (h ∷ o.rest)) end all)) in
      let rest = subst (λ (d : Central). IsRun d (between ++ (h ∷ o.rest)) end) (sym o.state) (rest_run c o.before (between ++ (h ∷ o.rest)) end all) in
      let then_is = sym o.later in
      record {
        catalogue = start.catalogue;
        before = start.before;
        start = start.run;
        run = subst (λ (d : Central). IsRun now between d) then_is (first_run now between (h ∷ o.rest) end rest);
        allowed = (subst (λ (d : Central). IsRun d (h ∷ o.rest) end) then_is (rest_run now between (h ∷ o.rest) end rest)).0;
      }

  pub each_lawful : IsLawful c happenings
  each_lawful = record {
    others = λ now h f e o hears. heard_from_another now h f e (occurs_happens now h o) hears;
    once = λ now h between then i f e o first second. heard_once now h between then i f e (occur_after now h between then i o) first second;
    joined = λ now h f k o gives. given_to_a_member now h f k (occurs_happens now h o) gives;
    in_order = λ now h between then i f e x o first second same. heard_in_order now h between then i f e x (occur_after now h between then i o) first second same;
    sent = λ now h f service a o is_call is_done. sent_by_call now h.step h.outcome h.choice f service a (reliable_at now h (occurs_happens now h o)) is_call is_done;
    ordered = λ now h f service o is_call. goes_in_its_order now.directory f service;
    reaches = λ now between then h f e o way. let l = occurs_later now between then h o in settled_or_on_its_way now between then f e (record { catalogue = l.catalogue; before = l.before; run = l.start }) l.run way;
    from = λ now h f e o hears. heard_on_its_way now h f e (occurs_happens now h o) hears;
    tells = λ now between then h f e k x o way gives names. told_as_sent now between then h f e k x (occurs_later now between then h o) way gives names;
    asked_back = λ now h f e catalogue earlier o first gives. asked_back_once catalogue earlier now h f e first (occurs_happens now h o).allowed.0 gives;
    in_turn = λ now h f k o gives. (given_of now h f k (occurs_happens now h o).allowed.0 gives).turn;
    in_vain = λ now h f o is_tick is_nothing. waits_at now h.step h.outcome h.choice f is_tick is_nothing (occurs_happens now h o).allowed.0;
    differ = λ now h between then i a b n p o first second. registered_apart now h between then i a b n p (occur_after now h between then i o) first second;
    discovered = λ now h f k object o gives speaks g. discovered_before now h f k object (occurs_happens now h o) gives speaks g;
    registered = λ now h f object class name catalogue earlier o first gives. discovered_as_registered catalogue earlier now h f object class name first (occurs_happens now h o).allowed.0 gives;
    closed = λ now h label g catalogue earlier o first closes member. achieved_by_all catalogue earlier now h label g first (occurs_happens now h o).allowed.0 closes member;
    synchronized = λ now h f label catalogue earlier o first gives. told_after_all catalogue earlier now h f label first (occurs_happens now h o).allowed.0 gives;
    awaited = λ before rest label catalogue earlier whole first opened. waits_for_some catalogue earlier (central_after c before) label first opened;
    strangers = λ before rest f whole stranger.
        let start = later_history c before (central_after c before) is (first_run c before rest end (subst (λ (hs : List Happening). IsRun c hs end) whole run)) in
        (reached start.catalogue start.before (central_after c before) start.run).kept.absent f stranger;
    told = λ before between rest f whole member.
        let all = subst (λ (hs : List Happening). IsRun c hs end) whole run in
        let start = later_history c before (central_after c before) is (first_run c before (between ++ rest) end all) in
        let later = first_run (central_after c before) between rest end (rest_run c before (between ++ rest) end all) in
        run_due (central_after c before) between (central_after (central_after c before) between) f later (reached start.catalogue start.before (central_after c before) start.run).kept member;
    safe = λ before rest whole.
        let start = later_history c before (central_after c before) is (first_run c before rest end (subst (λ (hs : List Happening). IsRun c hs end) whole run)) in
        run_safe start.catalogue start.before (central_after c before) start.run;
    ahead = λ now h f o. run_ahead now h f (occurs_happens now h o);
    stamps = λ now h between then i f e x s t o calm first second. stamps_never_fall now h between then i f e x s t (occur_after now h between then i o) calm first second;
    keys = λ now h between then i f e x s t o strict one first second. keys_rise now h between then i f e x s t (occur_after now h between then i o) strict one first second;
    equal_stamps = λ now h between then i f e x s o first second same. equal_stamps_in_order now h between then i f e x s (occur_after now h between then i o) first second same;
    asked_for = λ now h f t catalogue earlier o first is. granted_as_asked catalogue earlier now h f t first (occurs_happens now h o).allowed.0 is;
    waits = λ now h f service e g o is_call is_sent told. sent_at now h.step h.outcome h.choice f service e g is_call is_sent (occurs_happens now h o).allowed.0 told;
    granted = λ now between then h f t q e s o grants con asks waits low. grant_after_all now between then h f t q e s (occurs_later now between then h o) grants con asks waits low;
  }
