-- Codes of the interface's own
use Rattle.std.specs.Prelude.{ℕ}

-- the handle was not opened, or was closed
abbrev pub handle_closed : ℕ
handle_closed = 101

-- what was handed in has too little room
abbrev pub no_room : ℕ
no_room = 102

-- a number stands for nothing
abbrev pub no_such_number : ℕ
no_such_number = 103

-- the handle is open already
abbrev pub handle_open : ℕ
handle_open = 104
