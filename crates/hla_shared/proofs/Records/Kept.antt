-- How a record keeps what the lock keeps.
use Rattle.std.proofs.Common.{◌≡◌, ℕ, ◌+◌, ◌-◌, Bool, true, false, cond, List, [], ◌∷◌, ◌++◌, map, Option, Some, None, option_map, refl, sym, ◌∙◌, ap, subst, arith, length-append}
use Rattle.std.specs.Str.{bytes_eq}
use Rattle.std.proofs.lemmas.List.{map-append}
use Rattle.std.proofs.lemmas.Slice.Eq.{bytes_eq-Decides}
use Rattle.hla_base.specs.declared.fault.Fault.{Fault}
use Rattle.hla_catalogue.specs.CatalogueValue.{CatalogueValue}
use Rattle.hla_callbacks.specs.declared.callback.Callback.{Callback}
use Rattle.hla_machine.specs.Runs.{create_fault, destroy_fault}
use Rattle.hla_machine.specs.declared.step.Step.{Step}
use Rattle.hla_machine.specs.declared.step.Act.{Act}
use Rattle.hla_machine.specs.declared.step.Act.TheVariants as act
use Rattle.hla_machine.specs.declared.step.Answer.TheVariants as answer
use Rattle.hla_machine.specs.declared.step.Outcome.{Outcome}
use Rattle.hla_machine.specs.declared.step.Outcome.TheVariants as outcome
use Rattle.hla_machine.specs.declared.step.Choice.{Choice}
use Rattle.hla_machine.specs.declared.step.Record.{Record}
use Rattle.hla_components.specs.CentralOf.{central}
use Rattle.hla_components.specs.Components.{Components}
use Rattle.hla_components.specs.Executions.{Federations, no_federations, central_executions, with_created, with_destroyed, ending_unless, step_in, next_act, after_record, IsNext, AreNext}
use Rattle.hla_history.specs.Heard.{given_outcome, given_record, heard_then, heard_after_act, heard_after, heard_by}
use Rattle.hla_history.specs.Hosting.{EndsIn}
use Rattle.hla_history.specs.Hosts.{Host, HostTable, Hosts, with_record, no_hosts, new_host, set_host, host_after, hosts_after_step, hosts_after, federations_of, HasAmbassadors, HearsAll, IsLockKept}
use Rattle.hla_history.proofs.Records.{heard_by-more}
use Rattle.hla_shared.proofs.Heard.Ambassadors.{given_done, given_refused, hears_then, has_after}

-- ---- the executions that stand for the components
components_there : Option Host → Option Components
components_there o = option_map (λ (h : Host). h.components) o

there_cond : (b : Bool) (o p : Option Host) → cond b (option_map (λ (h : Host). h.components) o) (option_map (λ (h : Host). h.components) p) ≡ option_map (λ (h : Host). h.components) (cond b o p)
there_cond true o p = refl
there_cond false o p = refl

set_there : (creates present : ℕ) (x : Hosts) (name : List ℕ) (o : Option Host)
    → record { creates = creates; present = present; execution = λ (other : List ℕ). cond (bytes_eq name other) (option_map (λ (h : Host). h.components) o) (option_map (λ (h : Host). h.components) (x.host other)) }
    ≡ federations_of (record { creates = creates; present = present; host = set_host x.host name o })
set_there creates present x name o =
    λ i. record { creates = creates; present = present; execution = λ other. there_cond (bytes_eq name other) o (x.host other) i }

step_leads : (x : Hosts) (name : List ℕ) (step : Step) (out : Outcome) (o : Option Host)
    → (step_in (federations_of x) name (option_map (λ (h : Host). h.components) o) step).executions ≡ federations_of (record { creates = x.creates; present = x.present; host = hosts_after_step x.host name o step out })
step_leads x name step out None = refl
step_leads x name step out (Some h) = set_there x.creates x.present x name (Some (host_after h step out))

create_leads : (x : Hosts) (name : List ℕ) (catalogue : Option CatalogueValue) (f : Option Fault) (out : Outcome)
    → given_outcome out ≡ (ending_unless f (federations_of x) (with_created (federations_of x) name catalogue)).outcome
    → (ending_unless f (federations_of x) (with_created (federations_of x) name catalogue)).executions ≡ federations_of (hosts_after x name (act.Create catalogue) out)
create_leads x name None None out gives = let is : out ≡ outcome.Done answer.Done = given_done out gives in ap (λ (o : Outcome). federations_of (hosts_after x name (act.Create None) o)) (sym is)
create_leads x name (Some catalogue) None out gives =
    let is : out ≡ outcome.Done answer.Done = given_done out gives in
    set_there (x.creates + 1) (x.present + 1) x name (Some (new_host catalogue)) ∙ ap (λ (o : Outcome). federations_of (hosts_after x name (act.Create (Some catalogue)) o)) (sym is)
create_leads x name None (Some e) out gives =
    let is : out ≡ outcome.Refused e = given_refused out e gives in ap (λ (o : Outcome). federations_of (hosts_after x name (act.Create None) o)) (sym is)
create_leads x name (Some catalogue) (Some e) out gives =
    let is : out ≡ outcome.Refused e = given_refused out e gives in ap (λ (o : Outcome). federations_of (hosts_after x name (act.Create (Some catalogue)) o)) (sym is)

destroy_leads : (x : Hosts) (name : List ℕ) (f : Option Fault) (out : Outcome)
    → given_outcome out ≡ (ending_unless f (federations_of x) (with_destroyed (federations_of x) name)).outcome
    → (ending_unless f (federations_of x) (with_destroyed (federations_of x) name)).executions ≡ federations_of (hosts_after x name act.Destroy out)
destroy_leads x name None out gives =
    let is : out ≡ outcome.Done answer.Done = given_done out gives in
    set_there x.creates (x.present - 1) x name None ∙ ap (λ (o : Outcome). federations_of (hosts_after x name act.Destroy o)) (sym is)
destroy_leads x name (Some e) out gives =
    let is : out ≡ outcome.Refused e = given_refused out e gives in ap (λ (o : Outcome). federations_of (hosts_after x name act.Destroy o)) (sym is)

act_leads : (x : Hosts) (name : List ℕ) (a : Act) (out : Outcome) → given_outcome out ≡ (next_act (federations_of x) name a).outcome
    → (next_act (federations_of x) name a).executions ≡ federations_of (hosts_after x name a out)
act_leads x name (act.Create catalogue) out gives = create_leads x name catalogue (create_fault (central_executions (federations_of x)) name catalogue) out gives
act_leads x name act.Destroy out gives = destroy_leads x name (destroy_fault (option_map central (option_map (λ (h : Host). h.components) (x.host name)))) out gives
act_leads x name (act.Step step) out gives = step_leads x name step out (x.host name)

-- ---- the history replays
replays_more : (rs : List Record) (x y : Federations) (r : Record) → AreNext x rs y → IsNext y r → AreNext x (rs ++ r ∷ []) (after_record y r)
replays_more [] x y r run is = (subst (λ (z : Federations). IsNext z r) (sym run) is, ap (λ (z : Federations). after_record z r) run)
replays_more (q ∷ rs) x y r run is = (run.0, replays_more rs (after_record x q) y r run.1 is)

replay_grows : (rs : List Record) (x : Hosts) (r : Record) → AreNext no_federations (map given_record rs) (federations_of x) → IsNext (federations_of x) (given_record r)
    → AreNext no_federations (map given_record (rs ++ r ∷ [])) (federations_of (hosts_after x r.execution r.act r.outcome))
replay_grows rs x r run is =
    rw map-append (subst (λ (y : Federations). AreNext no_federations (map given_record rs ++ given_record r ∷ []) y) (act_leads x r.execution r.act r.outcome is.outcome)
    (replays_more (map given_record rs) no_federations (federations_of x) (given_record r) run is))

-- ---- what the ambassadors have heard
same_cond : {X : Type 0} (b : Bool) (x : X) → cond b x x ≡ x
same_cond true x = refl
same_cond false x = refl

-- what each execution's ambassadors are to each other and to the history
abbrev pub HearsThroughout : List Record → (List ℕ → Option Host) → Type 0
HearsThroughout rs host = (name : List ℕ) (h : Host) → host name ≡ Some h → HearsAll rs name h

abbrev pub Have : (List ℕ → Option Host) → Type 0
Have host = (name : List ℕ) (h : Host) → host name ≡ Some h → HasAmbassadors h

-- a record of another execution tells this one's federates nothing
other_hears : (rs : List Record) (r : Record) (name : List ℕ) (h : Host) → bytes_eq r.execution name ≡ false → HearsAll rs name h → HearsAll (rs ++ r ∷ []) name h
other_hears rs r name h other hears f ks is =
    hears f ks is
    ∙ sym (ap (λ (b : Bool). cond b (heard_after_act f (heard_by name f rs) r.act r.outcome) (heard_by name f rs)) other)
    ∙ sym (heard_by-more name f rs r)

-- nor does a record that changes nothing
still_hears : (rs : List Record) (r : Record) (name : List ℕ) (h : Host) → ((f : ℕ) (ks : List Callback) → heard_after_act f ks r.act r.outcome ≡ ks) → HearsAll rs name h → HearsAll (rs ++ r ∷ []) name h
still_hears rs r name h silent hears f ks is =
    hears f ks is
    ∙ sym (same_cond (bytes_eq r.execution name) (heard_by name f rs))
    ∙ sym (ap (λ (xs : List Callback). cond (bytes_eq r.execution name) xs (heard_by name f rs)) (silent f (heard_by name f rs)))
    ∙ sym (heard_by-more name f rs r)

-- a step's record tells its federates what the table says
step_hears : (rs : List Record) (by : ℕ) (name : List ℕ) (step : Step) (out : Outcome) (chosen : Choice) (h : Host) → HearsAll rs name h
    → HearsAll (rs ++ record { actor = by; execution = name; act = act.Step step; outcome = out; choice = chosen } ∷ []) name (host_after h step out)
step_hears rs by name step out chosen h hears f ks is =
    hears_then h.heard (λ (g : ℕ). heard_by name g rs) step out hears f ks is
    ∙ sym (ap (λ (b : Bool). cond b (heard_then f (heard_by name f rs) step out) (heard_by name f rs)) ((bytes_eq-Decides name name).1 refl))
    ∙ sym (heard_by-more name f rs (record { actor = by; execution = name; act = act.Step step; outcome = out; choice = chosen }))

-- ---- each execution, after an act
each_set : (P : List ℕ → Host → Type 0) (x : Hosts) (name : List ℕ) (o : Option Host) → ((h : Host) → o ≡ Some h → P name h)
    → ((other : List ℕ) (h : Host) → bytes_eq name other ≡ false → x.host other ≡ Some h → P other h)
    → (other : List ℕ) (h : Host) → set_host x.host name o other ≡ Some h → P other h
each_set P x name o here there other h = go (bytes_eq name other) refl
  where
    go : (b : Bool) → bytes_eq name other ≡ b → cond b o (x.host other) ≡ Some h → P other h
    go true test is = subst (λ (n : List ℕ). P n h) ((bytes_eq-Decides name other).0 test) (here h is)
    go false test is = there other h test is

module _ (rs : List Record) (x : Hosts) (by : ℕ) (name : List ℕ) (chosen : Choice) (hears : HearsThroughout rs x.host) where
  abbrev recorded : Act → Outcome → List Record
  recorded a out = rs ++ record { actor = by; execution = name; act = a; outcome = out; choice = chosen } ∷ []

  silent_hears : (a : Act) (out : Outcome) → ((f : ℕ) (ks : List Callback) → heard_after_act f ks a out ≡ ks) → HearsThroughout (recorded a out) x.host
  silent_hears a out silent other h is = still_hears rs (record { actor = by; execution = name; act = a; outcome = out; choice = chosen }) other h silent (hears other h is)

  new_hears : (a : Act) (out : Outcome) (c : CatalogueValue) → HearsAll (recorded a out) name (new_host c)
  new_hears a out c f ks is = cc

  create_hears : (catalogue : Option CatalogueValue) (out : Outcome) → HearsThroughout (recorded (act.Create catalogue) out) (hosts_after x name (act.Create catalogue) out).host
  create_hears None (outcome.Done a) = silent_hears (act.Create None) (outcome.Done a) (λ f ks. refl)
  create_hears None (outcome.Refused e) = silent_hears (act.Create None) (outcome.Refused e) (λ f ks. refl)
  create_hears None (outcome.Failed k) = silent_hears (act.Create None) (outcome.Failed k) (λ f ks. refl)
  create_hears (Some c) (outcome.Done a) = each_set (HearsAll (recorded (act.Create (Some c)) (outcome.Done a))) x name (Some (new_host c))
      (λ h is. let new : new_host c ≡ h = cc in subst (λ (g : Host). HearsAll (recorded (act.Create (Some c)) (outcome.Done a)) name g) new (new_hears (act.Create (Some c)) (outcome.Done a) c))
      (λ other h apart is. silent_hears (act.Create (Some c)) (outcome.Done a) (λ f ks. refl) other h is)
  create_hears (Some c) (outcome.Refused e) = silent_hears (act.Create (Some c)) (outcome.Refused e) (λ f ks. refl)
  create_hears (Some c) (outcome.Failed k) = silent_hears (act.Create (Some c)) (outcome.Failed k) (λ f ks. refl)

  destroy_hears : (out : Outcome) → HearsThroughout (recorded act.Destroy out) (hosts_after x name act.Destroy out).host
  destroy_hears (outcome.Done a) = each_set (HearsAll (recorded act.Destroy (outcome.Done a))) x name None (λ h is. cc)
      (λ other h apart is. silent_hears act.Destroy (outcome.Done a) (λ f ks. refl) other h is)
  destroy_hears (outcome.Refused e) = silent_hears act.Destroy (outcome.Refused e) (λ f ks. refl)
  destroy_hears (outcome.Failed k) = silent_hears act.Destroy (outcome.Failed k) (λ f ks. refl)

  abbrev step_record_of : Step → Outcome → Record
  step_record_of step out = record { actor = by; execution = name; act = act.Step step; outcome = out; choice = chosen }

  absent_hears : (step : Step) (out : Outcome) → x.host name ≡ None → HearsThroughout (recorded (act.Step step) out) x.host
  absent_hears step out none other h is = go (bytes_eq name other) refl
    where
      go : (b : Bool) → bytes_eq name other ≡ b → HearsAll (recorded (act.Step step) out) other h
      go true test = absurd (let same : name ≡ other = (bytes_eq-Decides name other).0 test in let clash : Option.None ≡ Some h = sym none ∙ ap x.host same ∙ is in cc)
      go false test = other_hears rs (step_record_of step out) other h test (hears other h is)

  present_hears : (step : Step) (out : Outcome) (o : Option Host) → x.host name ≡ o → HearsThroughout (recorded (act.Step step) out) (hosts_after_step x.host name o step out)
  present_hears step out None is = absent_hears step out is
  present_hears step out (Some g) is = each_set (HearsAll (recorded (act.Step step) out)) x name (Some (host_after g step out))
      (λ h there. let new : host_after g step out ≡ h = cc in subst (λ (k : Host). HearsAll (recorded (act.Step step) out) name k) new (step_hears rs by name step out chosen g (hears name g is)))
      (λ other h apart there. other_hears rs (step_record_of step out) other h apart (hears other h there))

  act_hears : (a : Act) (out : Outcome) → HearsThroughout (recorded a out) (hosts_after x name a out).host
  act_hears (act.Create catalogue) out = create_hears catalogue out
  act_hears act.Destroy out = destroy_hears out
  act_hears (act.Step step) out = present_hears step out (x.host name) refl

module _ (x : Hosts) (name : List ℕ) (have : Have x.host) where
  create_have : (catalogue : Option CatalogueValue) (out : Outcome) → Have (hosts_after x name (act.Create catalogue) out).host
  create_have None (outcome.Done a) = have
  create_have None (outcome.Refused e) = have
  create_have None (outcome.Failed k) = have
  create_have (Some c) (outcome.Done a) = each_set (λ n. HasAmbassadors) x name (Some (new_host c)) (λ h is. let new : new_host c ≡ h = cc in subst HasAmbassadors new (λ f. refl)) (λ other h apart is. have other h is)
  create_have (Some c) (outcome.Refused e) = have
  create_have (Some c) (outcome.Failed k) = have

  destroy_have : (out : Outcome) → Have (hosts_after x name act.Destroy out).host
  destroy_have (outcome.Done a) = each_set (λ n. HasAmbassadors) x name None (λ h is. cc) (λ other h apart is. have other h is)
  destroy_have (outcome.Refused e) = have
  destroy_have (outcome.Failed k) = have

  step_have : (step : Step) (out : Outcome) (o : Option Host) → x.host name ≡ o
      → given_outcome out ≡ (step_in (federations_of x) name (option_map (λ (h : Host). h.components) o) step).outcome → Have (hosts_after_step x.host name o step out)
  step_have step out None is gives = have
  step_have step out (Some g) is gives = each_set (λ n. HasAmbassadors) x name (Some (host_after g step out))
      (λ h there. let new : host_after g step out ≡ h = cc in subst HasAmbassadors new (has_after g step out (have name g is) gives))
      (λ other h apart there. have other h there)

  act_have : (a : Act) (out : Outcome) → given_outcome out ≡ (next_act (federations_of x) name a).outcome → Have (hosts_after x name a out).host
  act_have (act.Create catalogue) out gives = create_have catalogue out
  act_have act.Destroy out gives = destroy_have out
  act_have (act.Step step) out gives = step_have step out (x.host name) refl gives

-- ---- what the lock keeps
pub kept_start : (total : ℕ) → total ≡ 0 → IsLockKept [] no_hosts total
kept_start total none = record {
  replays = refl;
  ambassadors = λ name h is. cc;
  hears = λ name h is. cc;
  counted = sym none;
}

-- one record more, with what it makes of the executions
pub kept_more : (rs : List Record) (x : Hosts) (total total' : ℕ) (r : Record) → IsLockKept rs x total → IsNext (federations_of x) (given_record r) → total' ≡ total + 1
    → IsLockKept (rs ++ r ∷ []) (hosts_after x r.execution r.act r.outcome) total'
kept_more rs x total total' r k is counts = record {
  replays = replay_grows rs x r k.replays is;
  ambassadors = act_have x r.execution k.ambassadors r.act r.outcome is.outcome;
  hears = act_hears rs x r.actor r.execution r.choice k.hears r.act r.outcome;
  counted = let c = k.counted in omega (arith, length-append rs (r ∷ []));
}

-- ---- a step
ends_next : (x : Hosts) (name : List ℕ) (step : Step) (out : Outcome) (chosen : Choice) (o : Option Host) → EndsIn o step out chosen
    → (given_outcome out ≡ (step_in (federations_of x) name (option_map (λ (h : Host). h.components) o) step).outcome) × (chosen ≡ (step_in (federations_of x) name (option_map (λ (h : Host). h.components) o) step).choice)
ends_next x name step out chosen None ends = (ap given_outcome ends.0, ends.1)
ends_next x name step out chosen (Some h) ends = (ends.0, ends.1)

pub kept_step : (rs rs' : List Record) (x : Hosts) (t' : HostTable) (total total' by : ℕ) (name : List ℕ) (step : Step) (r : Record) → IsLockKept rs x total
    → r ≡ record { actor = by; execution = name; act = act.Step step; outcome = r.outcome; choice = r.choice }
    → EndsIn (x.host name) step r.outcome r.choice
    → t' ≡ hosts_after_step x.host name (x.host name) step r.outcome
    → rs' ≡ rs ++ r ∷ []
    → total' ≡ total + 1
    → IsLockKept rs' (record { creates = x.creates; present = x.present; host = t' }) total'
kept_step rs rs' x t' total total' by name step r k is ends table grows counts =
    let here = ends_next x name step r.outcome r.choice (x.host name) ends in
    let made : Record = record { actor = by; execution = name; act = act.Step step; outcome = r.outcome; choice = r.choice } in
    let kept : IsLockKept (rs ++ made ∷ []) (hosts_after x name (act.Step step) r.outcome) total' = kept_more rs x total total' made k (record { outcome = here.0; choice = here.1 }) counts in
    subst (λ (t : HostTable). IsLockKept rs' (record { creates = x.creates; present = x.present; host = t }) total') (sym table)
    (subst (λ (qs : List Record). IsLockKept qs (hosts_after x name (act.Step step) r.outcome) total') (sym (grows ∙ ap (λ (q : Record). rs ++ q ∷ []) is)) kept)

-- what contracts see of it
pub held_step : (rs rs' : List Record) (limit creates present : ℕ) (t t' : HostTable) (by : ℕ) (name : List ℕ) (step : Step) (r : Record)
    → r ≡ record { actor = by; execution = name; act = act.Step step; outcome = r.outcome; choice = r.choice }
    → t' ≡ hosts_after_step t name (t name) step r.outcome
    → rs' ≡ rs ++ r ∷ []
    → record { history = rs'; limit = limit; hosts = record { creates = creates; present = present; host = t' } }
    ≡ with_record (record { history = rs; limit = limit; hosts = record { creates = creates; present = present; host = t } }) r
held_step rs rs' limit creates present t t' by name step r is table grows =
    (λ i. record { history = grows i; limit = limit; hosts = record { creates = creates; present = present; host = table i } })
    ∙ ap (λ (q : Record). record { history = rs ++ r ∷ []; limit = limit; hosts = hosts_after (record { creates = creates; present = present; host = t }) q.execution q.act q.outcome }) (sym is)
