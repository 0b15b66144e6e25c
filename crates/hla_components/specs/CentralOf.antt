-- The central state that components and wires stand for
use Rattle.std.specs.Prelude.{ℕ, cond, Option, List, ◌++◌, option_map}
use Rattle.hla_base.specs.declared.content.Event.{Event}
use Rattle.hla_null_message.specs.declared.message.Message.{Message}
use Rattle.hla_base.specs.Tables.{or_else}
use Rattle.hla_machine.specs.Central.{Central, Copy, Ro, Tso, Demoted}
use Rattle.hla_component_rules.specs.Queues.{find_event}
use Rattle.hla_null_message.specs.Wires.{events, discoveries, retractions}
use Rattle.hla_component_rules.specs.Controls.{discoveries_from, dues, notices_in}
use Rattle.hla_components.specs.Components.{Components}

-- a copy on a wire goes as it was sent, one that waits in key order in time-stamp order, and one in the other queue in receive order
abbrev pub wire_copy : Event → Copy
wire_copy e = record { order = cond e.ordered Tso Ro; stamp = e.stamp; content = e.content }

abbrev pub tso_copy : Event → Copy
tso_copy e = record { order = Tso; stamp = e.stamp; content = e.content }

abbrev pub ro_copy : Event → Copy
ro_copy e = record { order = cond e.ordered Demoted Ro; stamp = e.stamp; content = e.content }

-- the copy with a key on a wire and in the two queues
abbrev pub copy_among : ℕ → ℕ → List Message → List Event → List Event → Option Copy
copy_among g m ms tso ro = or_else (option_map wire_copy (find_event g m (events ms)))
    (or_else (option_map tso_copy (find_event g m tso)) (option_map ro_copy (find_event g m ro)))

abbrev pub bag_of : Components → ℕ → ℕ → ℕ → Option Copy
bag_of s g m f = copy_among g m (s.wire g f) (s.tso f) (s.ro f)

abbrev pub central : Components → Central
central s = record {
  directory = s.directory;
  row = s.row;
  serial = s.serial;
  bag = bag_of s;
  discoveries = λ g f. discoveries_from g (s.controls f) ++ discoveries (s.wire g f);
  sent = s.sent;
  owed = λ g m f. retractions m (s.wire g f);
  due = λ g m f. dues g m (s.controls f);
  notices = λ f. notices_in (s.controls f);
}
