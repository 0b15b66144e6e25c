-- Whose ambassador stands at each federate: what is heard does not tell two apart that have heard the same
use Rattle.std.specs.Prelude.{ℕ, cond, List, Option, None, Some, find, get_or}
use Rattle.std.specs.Str.{bytes_eq}
use Rattle.hla_base.specs.Tables.{upd}
use Rattle.hla_machine.specs.declared.service.Service.TheVariants as service
use Rattle.hla_machine.specs.declared.step.Step.{Step}
use Rattle.hla_machine.specs.declared.step.Step.TheVariants.{Join, Call}
use Rattle.hla_machine.specs.declared.step.Act.{Act}
use Rattle.hla_machine.specs.declared.step.Act.TheVariants as act
use Rattle.hla_machine.specs.declared.step.Answer.TheVariants as answer
use Rattle.hla_machine.specs.declared.step.Outcome.{Outcome}
use Rattle.hla_machine.specs.declared.step.Outcome.TheVariants as outcome
use Rattle.hla_machine.specs.declared.step.Record.{Record}
use Rattle.hla_history.specs.Hosting.{HostedValue, HeldValue}

-- the tag of the ambassador of each federate that has one, by number
abbrev pub TagTable : Type 0
TagTable = ℕ → Option ℕ

-- by the name of the execution
abbrev pub Tags : Type 0
Tags = List ℕ → TagTable

abbrev pub no_tags : TagTable
no_tags = λ f. None

abbrev pub tag_table : List (Option ℕ) → TagTable
tag_table tags = λ f. get_or tags f None

abbrev pub tags_in : Option HostedValue → TagTable
tags_in None = no_tags
tags_in (Some h) = tag_table h.tags

abbrev pub tags_among : List HostedValue → Tags
tags_among hs = λ name. tags_in (find (λ (h : HostedValue). bytes_eq name h.name) hs)

-- those under the lock
abbrev pub tags_held : HeldValue → Tags
tags_held v = tags_among v.executions

-- ---- what an act makes of them
-- a federate that joins has the ambassador that was given, by its tag, and one that resigns takes its own along; every other federate
-- keeps its own
abbrev pub tag_table_after : TagTable → Step → Outcome → Option ℕ → TagTable
tag_table_after t (Join name) (outcome.Done (answer.Federate n)) given = upd t n given
tag_table_after t (Call f (service.Resign way)) (outcome.Done a) given = upd t f None
tag_table_after t step out given = t

abbrev pub set_tags : Tags → List ℕ → TagTable → Tags
set_tags t name new = λ other. cond (bytes_eq name other) new (t other)

-- the federates of every other execution keep theirs, and those of one that is destroyed are gone
abbrev pub tags_after_act : Tags → List ℕ → Act → Outcome → Option ℕ → Tags
tags_after_act t name (act.Step step) out given = set_tags t name (tag_table_after (t name) step out given)
tags_after_act t name act.Destroy (outcome.Done a) given = set_tags t name no_tags
tags_after_act t name a out given = t

abbrev pub tags_after : Tags → Record → Option ℕ → Tags
tags_after t r given = tags_after_act t r.execution r.act r.outcome given
