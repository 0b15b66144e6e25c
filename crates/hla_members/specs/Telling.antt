-- What the joined federates are to be told of synchronization points
use Rattle.std.specs.Prelude.{ℕ, cond, List, []}
use Rattle.hla_base.specs.declared.notice.Notice.{Notice}
use Rattle.hla_component_rules.specs.Telling.{local_told, local_untold}
use Rattle.hla_members.specs.Rooms.{RoomyMember}
use Rattle.hla_execution.specs.MemberValue.{MemberTables, no_member}
use Rattle.hla_members.specs.Members.{with_component}

-- a joined federate is to be told these, and then the last of what it is to be given are taken back
abbrev pub member_told : List Notice → RoomyMember → RoomyMember
member_told notices m = record m { shown = record m.shown { local = cond m.shown.joined (local_told notices m.shown.local) m.shown.local } }

abbrev pub member_untold : ℕ → RoomyMember → RoomyMember
member_untold count m = record m { shown = record m.shown { local = cond m.shown.joined (local_untold count m.shown.local) m.shown.local } }

-- stands past the last member, where lists are read by place
abbrev pub nobody : RoomyMember
nobody = record { shown = no_member; rooms = [] }

-- each that is joined is to be told these
abbrev pub with_all_told : List Notice → MemberTables → MemberTables
with_all_told notices m = record m { local = λ g. cond (m.joined g) (local_told notices (m.local g)) (m.local g) }

-- and one that is joined
abbrev pub with_one_told : ℕ → List Notice → MemberTables → MemberTables
with_one_told f notices m = with_component m f (local_told notices (m.local f))
