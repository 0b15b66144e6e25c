-- Which federates have joined, by what the records say
use Rattle.std.specs.Prelude.{ℕ, ◌==◌, ◌&&◌, false, true, List, [], ◌∷◌, ◌++◌, map, reverse, find, Option, option_map, cond}
use Rattle.std.specs.Str.{bytes_eq}
use Rattle.hla_machine.specs.declared.service.Service.TheVariants as service
use Rattle.hla_machine.specs.declared.step.Step.{Step}
use Rattle.hla_machine.specs.declared.step.Step.TheVariants as step
use Rattle.hla_machine.specs.declared.step.Act.{Act}
use Rattle.hla_machine.specs.declared.step.Act.TheVariants as act
use Rattle.hla_machine.specs.declared.step.Answer.{Answer}
use Rattle.hla_machine.specs.declared.step.Answer.TheVariants as answer
use Rattle.hla_machine.specs.declared.step.Outcome.{Outcome}
use Rattle.hla_machine.specs.declared.step.Outcome.TheVariants as outcome
use Rattle.hla_machine.specs.declared.step.Record.{Record}
use Rattle.hla_requests.specs.declared.members.NamedFederate.{NamedFederate}
use Rattle.hla_requests.specs.declared.members.MemberChange.{MemberChange}
use Rattle.hla_requests.specs.declared.members.MemberChange.TheVariants as change

-- ---- who joins and who resigns
-- a member of that number is no longer joined
unfoldable pub without : ℕ → NamedFederate → NamedFederate
without f m = record { name = m.name; number = m.number; is_joined = cond (m.number == f) false m.is_joined }

abbrev pub with_answer : List NamedFederate → List ℕ → Answer → List NamedFederate
with_answer ms name (answer.Federate n) = ms ++ record { name = name; number = n; is_joined = true } ∷ []
with_answer ms name a = ms

-- what a step that was done changes
abbrev pub with_change : List NamedFederate → MemberChange → Outcome → List NamedFederate
with_change ms (change.Joins name) (outcome.Done a) = with_answer ms name a
with_change ms (change.Resigns f) (outcome.Done a) = map (without f) ms
with_change ms ch out = ms

-- what a step changes, if it is done
abbrev pub change_of : Step → MemberChange
change_of (step.Join name) = change.Joins name
change_of (step.Call f (service.Resign way)) = change.Resigns f
change_of s = change.Stays

abbrev pub with_create : List NamedFederate → Outcome → List NamedFederate
with_create ms (outcome.Done a) = []
with_create ms out = ms

-- those that have joined since the last create that was accepted, in order
abbrev pub member_after : List NamedFederate → Act → Outcome → List NamedFederate
member_after ms (act.Create catalogue) out = with_create ms out
member_after ms act.Destroy out = ms
member_after ms (act.Step s) out = with_change ms (change_of s) out

unfoldable pub members_from : List NamedFederate → List Record → List NamedFederate
members_from ms [] = ms
members_from ms (r ∷ rs) = members_from (member_after ms r.act r.outcome) rs

abbrev pub members : List Record → List NamedFederate
members records = members_from [] records

-- ---- names
-- the federate that joined last under a name, also where it has resigned since
unfoldable pub federate_named : List NamedFederate → List ℕ → Option ℕ
federate_named ms name = option_map (λ (m : NamedFederate). m.number) (find (λ (m : NamedFederate). bytes_eq m.name name) (reverse ms))

-- the federate that is joined under a name
unfoldable pub joined_federate_named : List NamedFederate → List ℕ → Option ℕ
joined_federate_named ms name = option_map (λ (m : NamedFederate). m.number) (find (λ (m : NamedFederate). m.is_joined && bytes_eq m.name name) (reverse ms))
