-- The place of an execution, and what its name means.
use Rattle.std.proofs.Common.{◌≡◌, ℕ, suc, ◌<◌, ◌≤◌, ◌+◌, Bool, not, true, false, cond, List, [], ◌∷◌, length, Option, Some, None, option_map, is_some, set, get_or, refl, sym, ◌∙◌, ap, arith, subst}
use Rattle.std.specs.Prelude.{find, slice_get, nat_lt, IfSome}
use Rattle.std.proofs.lemmas.Bool.Decides.{nat_tests}
use Rattle.std.proofs.lemmas.Option.{get_or_from_slice_get}
use Rattle.std.specs.List.{position, position_or_len}
use Rattle.std.specs.Str.{bytes_eq}
use Rattle.std.proofs.lemmas.Slice.Eq.{bytes_eq-Decides}
use Rattle.hla_base.specs.declared.fault.Fault.{Fault}
use Rattle.hla_base.specs.declared.fault.Fault.TheVariants as fault
use Rattle.hla_callbacks.specs.declared.callback.Callback.{Callback}
use Rattle.hla_machine.specs.declared.step.Step.{Step}
use Rattle.hla_machine.specs.declared.step.Step.TheVariants.{Join, Call}
use Rattle.hla_machine.specs.declared.service.Service.TheVariants as service
use Rattle.hla_machine.specs.declared.service.ResignAction.{ResignAction}
use Rattle.hla_machine.specs.declared.step.Act.{Act}
use Rattle.hla_machine.specs.declared.step.Act.TheVariants as act
use Rattle.hla_machine.specs.declared.step.Outcome.{Outcome}
use Rattle.hla_machine.specs.declared.step.Outcome.TheVariants as outcome
use Rattle.hla_machine.specs.declared.step.Choice.{Choice}
use Rattle.hla_machine.specs.declared.step.Choice.TheVariants as choice
use Rattle.hla_machine.specs.declared.step.Record.{Record}
use Rattle.hla_components.specs.Next.{next}
use Rattle.hla_history.specs.Creating.{heard_from}
use Rattle.hla_history.specs.Heard.{given_outcome}
use Rattle.hla_history.specs.Hosts.{Host, HostTable, set_host, host_after, hosts_after_step}
use Rattle.hla_history.specs.Hosting.{HostedValue, host_of, table_of, EndsIn}
use Rattle.hla_history.specs.Tags.{TagTable, Tags, tag_table, tags_in, tags_among, tag_table_after, set_tags, tags_after_act, tags_after}
use Rattle.hla_shared.proofs.Steps.NextLaws.{next_real}

-- two names are equal the same way round
pub apart_back : (a b : List ℕ) (t : Bool) → bytes_eq b a ≡ t → bytes_eq a b ≡ false → t ≡ false
apart_back a b true is apart = absurd (let same : b ≡ a = (bytes_eq-Decides b a).0 is in let there : bytes_eq a b ≡ true = (bytes_eq-Decides a b).1 (sym same) in let clash : true ≡ false = sym there ∙ apart in cc)
apart_back a b false is apart = refl

one_more : (n : ℕ) → 1 + n ≡ suc n
one_more n = omega arith

module _ (name : List ℕ) where
  abbrev named : HostedValue → Bool
  named h = bytes_eq name h.name

  -- ---- the first of that name
  find_none : (hs : List HostedValue) → length hs ≤ position_or_len named hs → find named hs ≡ None
  find_none [] is = refl
  find_none (h ∷ hs) is = go (find_none hs) (named h) refl is
    where
      go : (length hs ≤ position_or_len named hs → find named hs ≡ None) → (b : Bool) → named h ≡ b → suc (length hs) ≤ cond (not b) (1 + position_or_len named hs) 0 → cond b (Some h) (find named hs) ≡ None
      go rest true test same = absurd (omega (arith, same))
      go rest false test same = rest (omega (arith, same))

  find_there : (hs : List HostedValue) → position_or_len named hs < length hs → (h : HostedValue) × (slice_get hs (position_or_len named hs) ≡ Some h) × (find named hs ≡ Some h) × (h.name ≡ name)
  find_there [] lt = absurd (omega (arith, lt))
  find_there (h ∷ hs) lt = go (find_there hs) (named h) refl lt
    where
      go : (position_or_len named hs < length hs → (x : HostedValue) × (slice_get hs (position_or_len named hs) ≡ Some x) × (find named hs ≡ Some x) × (x.name ≡ name)) → (b : Bool) → named h ≡ b → cond (not b) (1 + position_or_len named hs) 0 < suc (length hs)
          → (x : HostedValue) × (slice_get (h ∷ hs) (cond (not b) (1 + position_or_len named hs) 0) ≡ Some x) × (cond b (Some h) (find named hs) ≡ Some x) × (x.name ≡ name)
      go rest true test less = (h, refl, refl, sym ((bytes_eq-Decides name h.name).0 test))
      go rest false test less =
          let there = rest (omega (arith, less)) in
          (there.0, ap (λ n. slice_get (h ∷ hs) n) (one_more (position_or_len named hs)) ∙ there.1, there.2, there.3)

  -- ---- another in its place
  module _ (other : List ℕ) (new : HostedValue) (same : new.name ≡ name) where
    set_first : (b : Bool) → bytes_eq name other ≡ b → (h : HostedValue) (hs : List HostedValue) → h.name ≡ name
        → cond (bytes_eq other new.name) (Some new) (find (λ (x : HostedValue). bytes_eq other x.name) hs) ≡ cond b (Some new) (cond (bytes_eq other h.name) (Some h) (find (λ (x : HostedValue). bytes_eq other x.name) hs))
    set_first true test h hs is =
        let here : bytes_eq other new.name ≡ true = (bytes_eq-Decides other new.name).1 (sym ((bytes_eq-Decides name other).0 test) ∙ sym same) in
        ap (λ (b : Bool). cond b (Some new) (find (λ (x : HostedValue). bytes_eq other x.name) hs)) here
    set_first false test h hs is =
        let off : bytes_eq other name ≡ false = apart_back name other (bytes_eq other name) refl test in
        ap (λ (n : List ℕ). cond (bytes_eq other n) (Some new) (find (λ (x : HostedValue). bytes_eq other x.name) hs)) same
        ∙ ap (λ (b : Bool). cond b (Some new) (find (λ (x : HostedValue). bytes_eq other x.name) hs)) off
        ∙ sym (ap (λ (n : List ℕ). cond (bytes_eq other n) (Some h) (find (λ (x : HostedValue). bytes_eq other x.name) hs)) is ∙ ap (λ (b : Bool). cond b (Some h) (find (λ (x : HostedValue). bytes_eq other x.name) hs)) off)

    pass_over : (b d : Bool) (h : HostedValue) (rest : Option HostedValue) → (b ≡ true → d ≡ false) → cond b (Some h) (cond d (Some new) rest) ≡ cond d (Some new) (cond b (Some h) rest)
    pass_over true true h rest apart = absurd (let clash : true ≡ false = apart refl in cc)
    pass_over true false h rest apart = refl
    pass_over false d h rest apart = refl

    find_set : (hs : List HostedValue) → position_or_len named hs < length hs
        → find (λ (x : HostedValue). bytes_eq other x.name) (set hs (position_or_len named hs) new) ≡ cond (bytes_eq name other) (Some new) (find (λ (x : HostedValue). bytes_eq other x.name) hs)
    find_set [] lt = absurd (omega (arith, lt))
    find_set (h ∷ hs) lt = go (find_set hs) (named h) refl lt
      where
        go : (position_or_len named hs < length hs → find (λ (x : HostedValue). bytes_eq other x.name) (set hs (position_or_len named hs) new) ≡ cond (bytes_eq name other) (Some new) (find (λ (x : HostedValue). bytes_eq other x.name) hs)) → (b : Bool) → named h ≡ b → cond (not b) (1 + position_or_len named hs) 0 < suc (length hs)
            → find (λ (x : HostedValue). bytes_eq other x.name) (set (h ∷ hs) (cond (not b) (1 + position_or_len named hs) 0) new) ≡ cond (bytes_eq name other) (Some new) (cond (bytes_eq other h.name) (Some h) (find (λ (x : HostedValue). bytes_eq other x.name) hs))
        go rest true test less = set_first (bytes_eq name other) refl h hs (sym ((bytes_eq-Decides name h.name).0 test))
        go rest false test less =
            ap (λ n. find (λ (x : HostedValue). bytes_eq other x.name) (set (h ∷ hs) n new)) (one_more (position_or_len named hs))
            ∙ ap (λ (o : Option HostedValue). cond (bytes_eq other h.name) (Some h) o) (rest (omega (arith, less)))
            ∙ pass_over (bytes_eq other h.name) (bytes_eq name other) h (find (λ (x : HostedValue). bytes_eq other x.name) hs)
            (λ is. (let here : other ≡ h.name = (bytes_eq-Decides other h.name).0 is in subst (λ (n : List ℕ). bytes_eq name n ≡ false) (sym here) test))

-- ---- where the code finds an execution
map_cond : (b : Bool) (new : HostedValue) (o : Option HostedValue) → option_map host_of (cond b (Some new) o) ≡ cond b (Some (host_of new)) (option_map host_of o)
map_cond true new o = refl
map_cond false new o = refl

tags_cond : (b : Bool) (new : HostedValue) (o : Option HostedValue) → tags_in (cond b (Some new) o) ≡ cond b (tag_table new.tags) (tags_in o)
tags_cond true new o = refl
tags_cond false new o = refl

-- an execution's own tags in their place
set_back_point : (t : Tags) (name other : List ℕ) (b : Bool) → bytes_eq name other ≡ b → cond b (t name) (t other) ≡ t other
set_back_point t name other true test = ap t ((bytes_eq-Decides name other).0 test)
set_back_point t name other false test = refl

set_back : (t : Tags) (name : List ℕ) → set_tags t name (t name) ≡ t
set_back t name = λ i other. set_back_point t name other (bytes_eq name other) refl i

placed : (hs : List HostedValue) (k p n : ℕ) (b : Bool) → nat_lt p n ≡ b → cond b (Some p) None ≡ Some k → (k ≡ p) × (p < n)
placed hs k p n true test is = (let e : p ≡ k = cc in sym e, let t = test in grind (arith, nat_tests))
placed hs k p n false test is = cc

unplaced : (hs : List HostedValue) (name : List ℕ) (b : Bool) → nat_lt (position_or_len (λ (h : HostedValue). bytes_eq name h.name) hs) (length hs) ≡ b
    → cond b (Some (position_or_len (λ (h : HostedValue). bytes_eq name h.name) hs)) None ≡ None → length hs ≤ position_or_len (λ (h : HostedValue). bytes_eq name h.name) hs
unplaced hs name true test is = cc
unplaced hs name false test is = grind (arith, nat_tests)

-- no place, no execution
pub no_place : (hs : List HostedValue) (name : List ℕ) → position (λ (h : HostedValue). bytes_eq name h.name) hs ≡ None → table_of hs name ≡ None
no_place hs name is =
    ap (λ (o : Option HostedValue). option_map host_of o) (find_none name hs (unplaced hs name (nat_lt (position_or_len (λ (h : HostedValue). bytes_eq name h.name) hs) (length hs)) refl is))

-- a place is an execution
pub place_there : (hs : List HostedValue) (name : List ℕ) (o : Option ℕ) → position (λ (h : HostedValue). bytes_eq name h.name) hs ≡ o → is_some o ≡ is_some (table_of hs name)
place_there hs name None is = sym (ap is_some (no_place hs name is))
place_there hs name (Some k) is =
    let lt = (placed hs k _ _ (nat_lt (position_or_len (λ (h : HostedValue). bytes_eq name h.name) hs) (length hs)) refl is).1 in
    let there = find_there name hs lt in
    sym (ap (λ (o : Option HostedValue). is_some (option_map host_of o)) there.2)

module _ (hs : List HostedValue) (name : List ℕ) (k : ℕ) (v : HostedValue) (is : position (λ (h : HostedValue). bytes_eq name h.name) hs ≡ Some k) (at : v ≡ get_or hs k v) where
  place_is : (k ≡ position_or_len (λ (h : HostedValue). bytes_eq name h.name) hs) × (position_or_len (λ (h : HostedValue). bytes_eq name h.name) hs < length hs)
  place_is = placed hs k _ _ (nat_lt (position_or_len (λ (h : HostedValue). bytes_eq name h.name) hs) (length hs)) refl is

  pub found_there : (table_of hs name ≡ Some (host_of v)) × (v.name ≡ name)
  found_there =
      let there = find_there name hs place_is.1 in
      let same : v ≡ there.0 = at ∙ get_or_from_slice_get hs k there.0 v (ap (λ n. slice_get hs n) place_is.0 ∙ there.1) in
      (ap (λ (o : Option HostedValue). option_map host_of o) (there.2 ∙ ap (λ (x : HostedValue). Some x) (sym same)), ap (λ (x : HostedValue). x.name) same ∙ there.3)

  pub table_with : (new : HostedValue) → new.name ≡ name → table_of (set hs k new) ≡ set_host (table_of hs) name (Some (host_of new))
  table_with new same = λ i other. (
      ap (λ n. option_map host_of (find (λ (x : HostedValue). bytes_eq other x.name) (set hs n new))) place_is.0
      ∙ ap (λ (o : Option HostedValue). option_map host_of o) (find_set name other new same hs place_is.1)
      ∙ map_cond (bytes_eq name other) new (find (λ (x : HostedValue). bytes_eq other x.name) hs)) i

  -- ---- and its tags
  tags_there : tags_among hs name ≡ tag_table v.tags
  tags_there =
      let there = find_there name hs place_is.1 in
      let same : v ≡ there.0 = at ∙ get_or_from_slice_get hs k there.0 v (ap (λ n. slice_get hs n) place_is.0 ∙ there.1) in
      ap tags_in (there.2 ∙ ap (λ (x : HostedValue). Some x) (sym same))

  tags_with : (new : HostedValue) → new.name ≡ name → tags_among (set hs k new) ≡ set_tags (tags_among hs) name (tag_table new.tags)
  tags_with new same = λ i other. (
      ap (λ n. tags_in (find (λ (x : HostedValue). bytes_eq other x.name) (set hs n new))) place_is.0
      ∙ ap tags_in (find_set name other new same hs place_is.1)
      ∙ tags_cond (bytes_eq name other) new (find (λ (x : HostedValue). bytes_eq other x.name) hs)) i

  pub tags_step : (new : HostedValue) (step : Step) (out : Outcome) (given : Option ℕ) → new.name ≡ name → tag_table new.tags ≡ tag_table_after (tag_table v.tags) step out given
      → tags_among (set hs k new) ≡ tags_after_act (tags_among hs) name (act.Step step) out given
  tags_step new step out given same after =
      tags_with new same
      ∙ ap (λ (t : TagTable). set_tags (tags_among hs) name t) (after ∙ ap (λ (t : TagTable). tag_table_after t step out given) (sym tags_there))

  pub tags_stay : (new : HostedValue) → new.name ≡ name → new.tags ≡ v.tags → tags_among (set hs k new) ≡ tags_among hs
  tags_stay new same stay =
      tags_with new same ∙ ap (λ (t : TagTable). set_tags (tags_among hs) name t) (ap tag_table stay ∙ sym tags_there) ∙ set_back (tags_among hs) name

  -- the ambassador that comes out
  pub tag_there : {B : Type 0} (f : ℕ) (tag : B → ℕ) (back : Option B) → IfSome back (λ b. tag_table v.tags f ≡ Some (tag b)) → IfSome back (λ b. tags_among hs name f ≡ Some (tag b))
  tag_there f tag None there = there
  tag_there f tag (Some b) there = ap (λ (t : TagTable). t f) tags_there ∙ there

pub tags_unjoined : (t : Tags) (name called : List ℕ) (out : Outcome) (e : Fault) (given : Option ℕ) → out ≡ outcome.Refused e → t ≡ tags_after_act t name (act.Step (Join called)) out given
tags_unjoined t name called out e given is =
    sym (ap (λ (o : Outcome). tags_after_act t name (act.Step (Join called)) o given) is ∙ set_back t name)

pub tags_unresigned : (t : Tags) (name : List ℕ) (f : ℕ) (way : ResignAction) (out : Outcome) (e : Fault) (given : Option ℕ) → out ≡ outcome.Refused e
    → t ≡ tags_after_act t name (act.Step (Call f (service.Resign way))) out given
tags_unresigned t name f way out e given is =
    sym (ap (λ (o : Outcome). tags_after_act t name (act.Step (Call f (service.Resign way))) o given) is ∙ set_back t name)

pub tags_recorded : (t t' : Tags) (r own : Record) (actor : ℕ) (name : List ℕ) (a : Act) (chosen : Choice) (given : Option ℕ) → t' ≡ tags_after_act t name a r.outcome given
    → r ≡ record { actor = actor; execution = name; act = a; outcome = r.outcome; choice = chosen } → own ≡ r → t' ≡ tags_after t own given
tags_recorded t t' r own actor name a chosen given after is same = after ∙ sym (ap (λ (x : Record). tags_after t x given) (same ∙ is))

-- ---- a step of one among several
pub record_named : (r : Record) (actor : ℕ) (n name : List ℕ) (a : Act) (chosen : Choice) → r ≡ record { actor = actor; execution = n; act = a; outcome = r.outcome; choice = chosen } → n ≡ name
    → r ≡ record { actor = actor; execution = name; act = a; outcome = r.outcome; choice = r.choice }
record_named r actor n name a chosen is same =
    let chose : chosen ≡ r.choice = sym (ap (λ (x : Record). x.choice) is) in
    is ∙ (λ i. record { actor = actor; execution = same i; act = a; outcome = r.outcome; choice = chose i })

pub ends_there : (o : Option Host) (h : Host) (step : Step) (out : Outcome) (chosen : Choice) → o ≡ Some h → given_outcome out ≡ (next h.components step).outcome → chosen ≡ (next h.components step).choice
    → EndsIn o step out chosen
ends_there o h step out chosen is given chose = subst (λ (x : Option Host). EndsIn x step out chosen) (sym is) (given, chose)

pub ends_nowhere : (o : Option Host) (step : Step) (out : Outcome) (chosen : Choice) → o ≡ None → out ≡ outcome.Refused fault.FederationExecutionDoesNotExist → chosen ≡ choice.None → EndsIn o step out chosen
ends_nowhere o step out chosen is refused chose = subst (λ (x : Option Host). EndsIn x step out chosen) (sym is) (refused, chose)

pub hosts_there : (t t' : HostTable) (name : List ℕ) (h h' : Host) (step : Step) (out : Outcome) → t' ≡ set_host t name (Some h') → t name ≡ Some h → h' ≡ host_after h step out
    → t' ≡ hosts_after_step t name (t name) step out
hosts_there t t' name h h' step out set there after =
    set ∙ ap (λ (x : Host). set_host t name (Some x)) after ∙ ap (λ (o : Option Host). hosts_after_step t name o step out) (sym there)

pub hosts_nowhere : (t : HostTable) (name : List ℕ) (step : Step) (out : Outcome) → t name ≡ None → t ≡ hosts_after_step t name (t name) step out
hosts_nowhere t name step out is = ap (λ (o : Option Host). hosts_after_step t name o step out) (sym is)

-- ---- a joining and a resigning, whose outcome is the one foreseen
pub record_foreseen : (r : Record) (actor : ℕ) (n name : List ℕ) (a : Act) (out : Outcome) (chosen : Choice) → r ≡ record { actor = actor; execution = n; act = a; outcome = out; choice = chosen } → n ≡ name
    → r ≡ record { actor = actor; execution = name; act = a; outcome = r.outcome; choice = r.choice }
record_foreseen r actor n name a out chosen is same =
    let ended : out ≡ r.outcome = sym (ap (λ (x : Record). x.outcome) is) in
    let chose : chosen ≡ r.choice = sym (ap (λ (x : Record). x.choice) is) in
    is ∙ (λ i. record { actor = actor; execution = same i; act = a; outcome = ended i; choice = chose i })

pub ends_foreseen : (o : Option Host) (h : Host) (step : Step) (out : Outcome) (chosen : Choice) → o ≡ Some h → out ≡ (next h.components step).outcome → chosen ≡ (next h.components step).choice
    → EndsIn o step out chosen
ends_foreseen o h step out chosen is made chose = ends_there o h step out chosen is (ap given_outcome made ∙ next_real h.components step) chose

pub heard_there : {B : Type 0} (o : Option Host) (h : Host) (f : ℕ) (heard : B → List Callback) (back : Option B) → o ≡ Some h → IfSome back (λ b. heard_from (Some h) f ≡ Some (heard b))
    → IfSome back (λ b. heard_from o f ≡ Some (heard b))
heard_there o h f heard None is there = there
heard_there o h f heard (Some b) is there = ap (λ (x : Option Host). heard_from x f) is ∙ there
