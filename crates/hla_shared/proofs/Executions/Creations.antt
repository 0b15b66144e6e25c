-- How a creation and a destruction change the executions.
use Rattle.std.proofs.Common.{◌≡◌, ℕ, zero, suc, ◌+◌, ◌-◌, Bool, true, false, not, cond, List, [], ◌∷◌, ◌++◌, Option, Some, None, option_map, is_some, refl, sym, ◌∙◌, ap, subst, filter}
use Rattle.std.specs.Prelude.{find, ltb, ◌||◌}
use Rattle.std.specs.Option.{option_or}
use Rattle.std.specs.Str.{bytes_eq}
use Rattle.std.proofs.lemmas.List.Folds.{find-append}
use Rattle.std.proofs.lemmas.Slice.Eq.{bytes_eq-Decides}
use Rattle.hla_base.specs.Limits.{max_executions, max_creates}
use Rattle.hla_base.specs.RowRefusals.{first_fault, test_for}
use Rattle.hla_base.specs.declared.fault.Fault.{Fault}
use Rattle.hla_base.specs.declared.fault.Fault.TheVariants as fault
use Rattle.hla_catalogue.specs.CatalogueValue.{CatalogueValue}
use Rattle.hla_callbacks.specs.declared.callback.Callback.{Callback}
use Rattle.hla_machine.specs.Runs.{EndsAs, create_fault, destroy_fault, is_joined_by_any}
use Rattle.hla_machine.specs.declared.step.Act.{Act}
use Rattle.hla_machine.specs.declared.step.Act.TheVariants as act
use Rattle.hla_machine.specs.declared.step.Answer.TheVariants as answer
use Rattle.hla_machine.specs.declared.step.Outcome.{Outcome}
use Rattle.hla_machine.specs.declared.step.Outcome.TheVariants as outcome
use Rattle.hla_machine.specs.declared.step.Choice.TheVariants as choice
use Rattle.hla_machine.specs.declared.step.Record.{Record}
use Rattle.hla_components.specs.CentralOf.{central}
use Rattle.hla_components.specs.Components.{Components, new_components}
use Rattle.hla_components.specs.Executions.{Federations, ending_unless, with_created, with_destroyed, central_executions, IsNext}
use Rattle.hla_execution.specs.FederationValue.{FederationValue}
use Rattle.hla_execution.specs.StateOf.{state_of}
use Rattle.hla_history.specs.Creating.{creation_fault, destruction_fault}
use Rattle.hla_history.specs.Heard.{given_outcome, given_record}
use Rattle.hla_history.specs.Hosts.{Host, Hosts, new_host, set_host, hosts_after, federations_of, IsLockKept}
use Rattle.hla_history.specs.Hosting.{HostedValue, components_hosted, heard_table, host_of, hosts_of, table_of}
use Rattle.hla_history.specs.Tags.{no_tags, tag_table, tags_in, tags_among, tags_after_act}
use Rattle.hla_shared.proofs.Records.Kept.{kept_more}
use Rattle.hla_shared.proofs.Executions.Places.{apart_back}

-- ---- a new execution
none_heard : (f : ℕ) → heard_table (None ∷ []) f ≡ None
none_heard zero = refl
none_heard (suc f) = refl

pub new_hosted : (f : FederationValue) (heard : List (Option (List Callback))) (c : CatalogueValue) → state_of f ≡ new_components c → heard ≡ None ∷ []
    → record { components = components_hosted f; heard = heard_table heard } ≡ new_host c
unfolding components_hosted
new_hosted f heard c is silent = λ i. record { components = is i; heard = (ap heard_table silent ∙ (λ j f. none_heard f j)) i }

none_tagged : (f : ℕ) → tag_table (None ∷ []) f ≡ None
none_tagged zero = refl
none_tagged (suc f) = refl

pub new_tags : (tags : List (Option ℕ)) → tags ≡ None ∷ [] → tag_table tags ≡ no_tags
new_tags tags is = ap tag_table is ∙ (λ i f. none_tagged f i)

pub new_length : (f : FederationValue) (c : CatalogueValue) → state_of f ≡ new_components c → (components_hosted f).directory.next_federate ≡ 1
unfolding components_hosted
new_length f c is = ap (λ (s : Components). s.directory.next_federate) is

pub joined_there : (f : FederationValue) (b : Bool) → b ≡ is_joined_by_any (central (state_of f)) → b ≡ is_joined_by_any (central (components_hosted f))
unfolding components_hosted
joined_there f b is = is

-- ---- one more in the list
map_none : (o : Option HostedValue) → option_map host_of o ≡ None → o ≡ None
map_none None is = refl
map_none (Some h) is = cc

or_none : (o : Option HostedValue) → option_or o None ≡ o
or_none None = refl
or_none (Some h) = refl

module _ (hs : List HostedValue) (name : List ℕ) (new : HostedValue) (absent : table_of hs name ≡ None) (same : new.name ≡ name) where
  abbrev among : List ℕ → Option HostedValue
  among other = find (λ (h : HostedValue). bytes_eq other h.name) hs

  pushed_point : (other : List ℕ) (b : Bool) → bytes_eq name other ≡ b
      → option_map host_of (option_or (among other) (cond (bytes_eq other new.name) (Some new) None)) ≡ cond b (Some (host_of new)) (option_map host_of (among other))
  pushed_point other true test =
      let here : name ≡ other = (bytes_eq-Decides name other).0 test in
      let there : bytes_eq other new.name ≡ true = (bytes_eq-Decides other new.name).1 (sym here ∙ sym same) in
      let none : among other ≡ None = ap among (sym here) ∙ map_none (among name) absent in
      ap (λ (o : Option HostedValue). option_map host_of (option_or o (cond (bytes_eq other new.name) (Some new) None))) none
      ∙ ap (λ (b : Bool). option_map host_of (cond b (Some new) None)) there
  pushed_point other false test =
      let off : bytes_eq other new.name ≡ false = ap (λ (n : List ℕ). bytes_eq other n) same ∙ apart_back name other (bytes_eq other name) refl test in
      ap (λ (b : Bool). option_map host_of (option_or (among other) (cond b (Some new) None))) off
      ∙ ap (λ (o : Option HostedValue). option_map host_of o) (or_none (among other))

  pub table_pushed : table_of (hs ++ new ∷ []) ≡ set_host (table_of hs) name (Some (host_of new))
  table_pushed = λ i other. (
      ap (λ (o : Option HostedValue). option_map host_of o) (find-append (λ (h : HostedValue). bytes_eq other h.name) hs (new ∷ []))
      ∙ pushed_point other (bytes_eq name other) refl) i

untagged_point : (new : HostedValue) (o : Option HostedValue) (b : Bool) → tag_table new.tags ≡ no_tags → tags_in (option_or o (cond b (Some new) None)) ≡ tags_in o
untagged_point new (Some h) b untagged = refl
untagged_point new None true untagged = untagged
untagged_point new None false untagged = refl

pub created_tags : (hs hs' : List HostedValue) (new : HostedValue) → hs' ≡ hs ++ new ∷ [] → tag_table new.tags ≡ no_tags → tags_among hs' ≡ tags_among hs
created_tags hs hs' new pushed untagged = ap tags_among pushed ∙ (λ i other. (
    ap tags_in (find-append (λ (h : HostedValue). bytes_eq other h.name) hs (new ∷ []))
    ∙ untagged_point new (find (λ (h : HostedValue). bytes_eq other h.name) hs) (bytes_eq other new.name) untagged) i)

-- ---- those of one name taken out
module _ (name other : List ℕ) where
  removed_true : bytes_eq name other ≡ true → (hs : List HostedValue) → find (λ (h : HostedValue). bytes_eq other h.name) (filter (λ (h : HostedValue). not (bytes_eq name h.name)) hs) ≡ None
  removed_true test [] = refl
  removed_true test (h ∷ hs) = go (removed_true test hs) (bytes_eq name h.name) refl
    where
      go : find (λ (x : HostedValue). bytes_eq other x.name) (filter (λ (x : HostedValue). not (bytes_eq name x.name)) hs) ≡ None → (t : Bool) → bytes_eq name h.name ≡ t
          → find (λ (x : HostedValue). bytes_eq other x.name) (cond (not t) (h ∷ filter (λ (x : HostedValue). not (bytes_eq name x.name)) hs) (filter (λ (x : HostedValue). not (bytes_eq name x.name)) hs)) ≡ None
      go rest true is = rest
      go rest false is =
          let here : name ≡ other = (bytes_eq-Decides name other).0 test in
          let off : bytes_eq other h.name ≡ false = ap (λ (n : List ℕ). bytes_eq n h.name) (sym here) ∙ is in
          ap (λ (b : Bool). cond b (Some h) (find (λ (x : HostedValue). bytes_eq other x.name) (filter (λ (x : HostedValue). not (bytes_eq name x.name)) hs))) off
          ∙ rest

  removed_false : bytes_eq name other ≡ false → (hs : List HostedValue)
      → find (λ (h : HostedValue). bytes_eq other h.name) (filter (λ (h : HostedValue). not (bytes_eq name h.name)) hs) ≡ find (λ (h : HostedValue). bytes_eq other h.name) hs
  removed_false test [] = refl
  removed_false test (h ∷ hs) = go (removed_false test hs) (bytes_eq name h.name) refl
    where
      go : find (λ (x : HostedValue). bytes_eq other x.name) (filter (λ (x : HostedValue). not (bytes_eq name x.name)) hs) ≡ find (λ (x : HostedValue). bytes_eq other x.name) hs → (t : Bool) → bytes_eq name h.name ≡ t
          → find (λ (x : HostedValue). bytes_eq other x.name) (cond (not t) (h ∷ filter (λ (x : HostedValue). not (bytes_eq name x.name)) hs) (filter (λ (x : HostedValue). not (bytes_eq name x.name)) hs))
          ≡ cond (bytes_eq other h.name) (Some h) (find (λ (x : HostedValue). bytes_eq other x.name) hs)
      go rest true is =
          let here : name ≡ h.name = (bytes_eq-Decides name h.name).0 is in
          let off : bytes_eq other h.name ≡ false = ap (λ (n : List ℕ). bytes_eq other n) (sym here) ∙ apart_back name other (bytes_eq other name) refl test in
          rest ∙ sym (ap (λ (b : Bool). cond b (Some h) (find (λ (x : HostedValue). bytes_eq other x.name) hs)) off)
      go rest false is = ap (λ (o : Option HostedValue). cond (bytes_eq other h.name) (Some h) o) rest

  removed_point : (hs : List HostedValue) (b : Bool) → bytes_eq name other ≡ b
      → option_map host_of (find (λ (h : HostedValue). bytes_eq other h.name) (filter (λ (h : HostedValue). not (bytes_eq name h.name)) hs))
      ≡ cond b None (option_map host_of (find (λ (h : HostedValue). bytes_eq other h.name) hs))
  removed_point hs true test = ap (λ (o : Option HostedValue). option_map host_of o) (removed_true test hs)
  removed_point hs false test = ap (λ (o : Option HostedValue). option_map host_of o) (removed_false test hs)

  untagged_removed : (hs : List HostedValue) (b : Bool) → bytes_eq name other ≡ b
      → tags_in (find (λ (h : HostedValue). bytes_eq other h.name) (filter (λ (h : HostedValue). not (bytes_eq name h.name)) hs))
      ≡ cond b no_tags (tags_in (find (λ (h : HostedValue). bytes_eq other h.name) hs))
  untagged_removed hs true test = ap tags_in (removed_true test hs)
  untagged_removed hs false test = ap tags_in (removed_false test hs)

pub destroyed_tags : (hs hs' : List HostedValue) (name : List ℕ) (out : Outcome)
    → hs' ≡ filter (λ (h : HostedValue). not (bytes_eq name h.name)) hs → out ≡ outcome.Done answer.Done
    → tags_among hs' ≡ tags_after_act (tags_among hs) name act.Destroy out None
destroyed_tags hs hs' name out removed done =
    ap tags_among removed ∙ (λ i other. untagged_removed name other hs (bytes_eq name other) refl i)
    ∙ sym (ap (λ (o : Outcome). tags_after_act (tags_among hs) name act.Destroy o None) done)

pub table_removed : (hs : List HostedValue) (name : List ℕ) → table_of (filter (λ (h : HostedValue). not (bytes_eq name h.name)) hs) ≡ set_host (table_of hs) name None
table_removed hs name = λ i other. removed_point name other hs (bytes_eq name other) refl i

-- ---- why not
some_mapped : {X Y : Type 0} (f : X → Y) (o : Option X) → is_some (option_map f o) ≡ is_some o
some_mapped f None = refl
some_mapped f (Some x) = refl

abbrev creation_fault_of : Bool → Bool → ℕ → ℕ → Option Fault
creation_fault_of there read creates present = first_fault
    (test_for fault.FederationExecutionAlreadyExists there
    ∷ test_for fault.ErrorReadingFED (not read)
    ∷ test_for fault.LimitReached (not (ltb present max_executions) || not (ltb creates max_creates))
    ∷ [])

pub creation_is : (x : Hosts) (name : List ℕ) (catalogue : Option CatalogueValue) (there read : Bool) → there ≡ is_some (x.host name) → read ≡ is_some catalogue
    → creation_fault x name catalogue ≡ creation_fault_of there read x.creates x.present
unfolding creation_fault
creation_is x name catalogue there read found reads =
    ap (λ (b : Bool). creation_fault_of b (is_some catalogue) x.creates x.present) (some_mapped central (option_map (λ (h : Host). h.components) (x.host name)) ∙ some_mapped (λ (h : Host). h.components) (x.host name) ∙ sym found)
    ∙ ap (λ (b : Bool). creation_fault_of there b x.creates x.present) (sym reads)

pub destruction_nowhere : (o : Option Host) → o ≡ None → destruction_fault o ≡ Some fault.FederationExecutionDoesNotExist
unfolding destruction_fault
destruction_nowhere o is = ap (λ (x : Option Host). destroy_fault (option_map central (option_map (λ (h : Host). h.components) x))) is

pub destruction_there : (o : Option Host) (h : Host) (b : Bool) → o ≡ Some h → is_joined_by_any (central h.components) ≡ b
    → destruction_fault o ≡ cond b (Some fault.FederatesCurrentlyJoined) None
unfolding destruction_fault
destruction_there o h b is joined =
    ap (λ (x : Option Host). destroy_fault (option_map central (option_map (λ (h : Host). h.components) x))) is
    ∙ ap (λ (t : Bool). first_fault (test_for fault.FederatesCurrentlyJoined t ∷ [])) joined

-- an execution that may be created is not there
pub creation_absent : (o : Option Host) (b c d : Bool) → first_fault (test_for fault.FederationExecutionAlreadyExists b ∷ test_for fault.ErrorReadingFED c ∷ test_for fault.LimitReached d ∷ []) ≡ None → b ≡ is_some o → o ≡ None
creation_absent None b c d is found = refl
creation_absent (Some h) true c d is found = cc
creation_absent (Some h) false c d is found = absurd (let clash : false ≡ true = found in cc)

-- ---- the executions after it
pub refused_create : (x : Hosts) (name : List ℕ) (catalogue : Option CatalogueValue) (e : Fault) (out : Outcome) → out ≡ outcome.Refused e → x ≡ hosts_after x name (act.Create catalogue) out
refused_create x name None e out is = ap (λ (o : Outcome). hosts_after x name (act.Create None) o) (sym is)
refused_create x name (Some c) e out is = ap (λ (o : Outcome). hosts_after x name (act.Create (Some c)) o) (sym is)

pub refused_destroy : (x : Hosts) (name : List ℕ) (e : Fault) (out : Outcome) → out ≡ outcome.Refused e → x ≡ hosts_after x name act.Destroy out
refused_destroy x name e out is = ap (λ (o : Outcome). hosts_after x name act.Destroy o) (sym is)

created_hosts : (creates present creates' present' : ℕ) (hs hs' : List HostedValue) (new : HostedValue) (name : List ℕ) (catalogue : Option CatalogueValue) (c : CatalogueValue) (out : Outcome)
    → catalogue ≡ Some c → hs' ≡ hs ++ new ∷ [] → new.name ≡ name → host_of new ≡ new_host c → table_of hs name ≡ None
    → creates' ≡ creates + 1 → present' ≡ present + 1 → out ≡ outcome.Done answer.Done
    → hosts_of creates' present' hs' ≡ hosts_after (hosts_of creates present hs) name (act.Create catalogue) out
created_hosts creates present creates' present' hs hs' new name catalogue c out read pushed same fresh absent more more_now done =
    let table : table_of hs' ≡ set_host (table_of hs) name (Some (new_host c)) = ap table_of pushed ∙ table_pushed hs name new absent same ∙ ap (λ (h : Host). set_host (table_of hs) name (Some h)) fresh in
    (λ i. record { creates = more i; present = more_now i; host = table i })
    ∙ ap (λ (o : Outcome). hosts_after (hosts_of creates present hs) name (act.Create (Some c)) o) (sym done)
    ∙ ap (λ (k : Option CatalogueValue). hosts_after (hosts_of creates present hs) name (act.Create k) out) (sym read)

pub created_recorded : (creates present creates' present' : ℕ) (hs hs' : List HostedValue) (new : HostedValue) (name : List ℕ) (catalogue : Option CatalogueValue) (out : Outcome)
    → hs' ≡ hs ++ new ∷ [] → new.name ≡ name → option_map new_host catalogue ≡ Some (host_of new) → table_of hs name ≡ None
    → creates' ≡ creates + 1 → present' ≡ present + 1 → out ≡ outcome.Done answer.Done
    → hosts_of creates' present' hs' ≡ hosts_after (hosts_of creates present hs) name (act.Create catalogue) out
created_recorded creates present creates' present' hs hs' new name None out pushed same fresh absent more more_now done = cc
created_recorded creates present creates' present' hs hs' new name (Some c) out pushed same fresh absent more more_now done =
    let made : new_host c ≡ host_of new = cc in
    created_hosts creates present creates' present' hs hs' new name (Some c) c out refl pushed same (sym made) absent more more_now done

pub destroyed_hosts : (creates present creates' present' : ℕ) (hs hs' : List HostedValue) (name : List ℕ) (out : Outcome)
    → hs' ≡ filter (λ (h : HostedValue). not (bytes_eq name h.name)) hs → creates' ≡ creates → present' ≡ present - 1 → out ≡ outcome.Done answer.Done
    → hosts_of creates' present' hs' ≡ hosts_after (hosts_of creates present hs) name act.Destroy out
destroyed_hosts creates present creates' present' hs hs' name out removed more more_now done =
    let table : table_of hs' ≡ set_host (table_of hs) name None = ap table_of removed ∙ table_removed hs name in
    (λ i. record { creates = more i; present = more_now i; host = table i })
    ∙ ap (λ (o : Outcome). hosts_after (hosts_of creates present hs) name act.Destroy o) (sym done)

-- ---- what the lock keeps
pub ends_refused : (f : Option Fault) (e : Fault) (out : Outcome) → f ≡ Some e → out ≡ outcome.Refused e → EndsAs f out
ends_refused f e out is ended = subst (λ (o : Option Fault). EndsAs o out) (sym is) ended

pub ends_done : (f : Option Fault) (out : Outcome) → f ≡ None → out ≡ outcome.Done answer.Done → EndsAs f out
ends_done f out is ended = subst (λ (o : Option Fault). EndsAs o out) (sym is) ended

ends_given : (f : Option Fault) (x y : Federations) (out : Outcome) → EndsAs f out
    → (given_outcome out ≡ (ending_unless f x y).outcome) × (choice.None ≡ (ending_unless f x y).choice)
ends_given None x y out ends = (ap given_outcome ends, refl)
ends_given (Some e) x y out ends = (ap given_outcome ends, refl)

abbrev act_record : ℕ → List ℕ → Act → Outcome → Record
act_record by name a out = record { actor = by; execution = name; act = a; outcome = out; choice = choice.None }

pub kept_act : (rs rs' : List Record) (x x' : Hosts) (total total' by : ℕ) (name : List ℕ) (a : Act) (r : Record) → IsLockKept rs x total → r ≡ act_record by name a r.outcome
    → IsNext (federations_of x) (given_record (act_record by name a r.outcome)) → x' ≡ hosts_after x name a r.outcome → rs' ≡ rs ++ r ∷ [] → total' ≡ total + 1
    → IsLockKept rs' x' total'
kept_act rs rs' x x' total total' by name a r k is next after grows counts =
    subst (λ (y : Hosts). IsLockKept rs' y total') (sym after)
    (subst (λ (qs : List Record). IsLockKept qs (hosts_after x name a r.outcome) total') (sym (grows ∙ ap (λ (q : Record). rs ++ q ∷ []) is))
    (kept_more rs x total total' (act_record by name a r.outcome) k next counts))

pub kept_create : (rs rs' : List Record) (x x' : Hosts) (total total' by : ℕ) (name : List ℕ) (catalogue : Option CatalogueValue) (r : Record) → IsLockKept rs x total
    → r ≡ act_record by name (act.Create catalogue) r.outcome → EndsAs (creation_fault x name catalogue) r.outcome
    → x' ≡ hosts_after x name (act.Create catalogue) r.outcome → rs' ≡ rs ++ r ∷ [] → total' ≡ total + 1
    → IsLockKept rs' x' total'
unfolding creation_fault
kept_create rs rs' x x' total total' by name catalogue r k is ends after grows counts =
    let given = ends_given (create_fault (central_executions (federations_of x)) name catalogue) (federations_of x) (with_created (federations_of x) name catalogue) r.outcome ends in
    kept_act rs rs' x x' total total' by name (act.Create catalogue) r k is (record { outcome = given.0; choice = given.1 }) after grows counts

pub kept_destroy : (rs rs' : List Record) (x x' : Hosts) (total total' by : ℕ) (name : List ℕ) (r : Record) → IsLockKept rs x total
    → r ≡ act_record by name act.Destroy r.outcome → EndsAs (destruction_fault (x.host name)) r.outcome
    → x' ≡ hosts_after x name act.Destroy r.outcome → rs' ≡ rs ++ r ∷ [] → total' ≡ total + 1
    → IsLockKept rs' x' total'
unfolding destruction_fault
kept_destroy rs rs' x x' total total' by name r k is ends after grows counts =
    let given = ends_given (destroy_fault (option_map central (option_map (λ (h : Host). h.components) (x.host name)))) (federations_of x) (with_destroyed (federations_of x) name) r.outcome ends in
    kept_act rs rs' x x' total total' by name act.Destroy r k is (record { outcome = given.0; choice = given.1 }) after grows counts
