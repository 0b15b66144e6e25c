-- The most bytes that lie in a value itself
use Rattle.std.specs.Prelude.{ℕ}

abbrev pub max_inline : ℕ
max_inline = 14
