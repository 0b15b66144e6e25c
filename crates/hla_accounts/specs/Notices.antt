-- What federates are told of synchronization points (HLA 1.3, federation management)
use Rattle.std.specs.Prelude.{ℕ, cond, eqb, None, List, [], ◌∷◌}
use Rattle.hla_base.specs.declared.notice.Notice.{Notice}
use Rattle.hla_base.specs.Rows.{new_row}
use Rattle.hla_base.specs.Tables.{upd}
use Rattle.hla_machine.specs.Directory.{Directory, without_member}
use Rattle.hla_machine.specs.Central.{Central}

-- one federate is told
abbrev pub told_alone : ℕ → Notice → ℕ → List Notice
told_alone f n g = cond (eqb f g) (n ∷ []) []

-- each joined federate is told
abbrev pub told_to_all : Directory → Notice → ℕ → List Notice
told_to_all d n g = cond (d.joined g) (n ∷ []) []

-- each joined federate is told these, one after another
abbrev pub told_each_to_all : Directory → List Notice → ℕ → List Notice
told_each_to_all d ns g = cond (d.joined g) ns []

-- a federate has left, and no point has closed yet for that: what is for it is gone, and what it sent stays
abbrev pub without_federate : Central → ℕ → Central
without_federate c f = record c {
  directory = without_member c.directory f;
  row = upd c.row f new_row;
  bag = λ g m. upd (c.bag g m) f None;
  discoveries = λ g. upd (c.discoveries g) f [];
  owed = λ g m. upd (c.owed g m) f 0;
  due = λ g m. upd (c.due g m) f 0;
  notices = upd c.notices f [];
}
