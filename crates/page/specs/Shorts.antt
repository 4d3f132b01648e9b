-- Bytes held by value.
use Rattle.std.specs.Prelude.{ℕ, List, take}
use Rattle.page.specs.declared.short.Short.{Short}

abbrev pub held : Short → List ℕ
held s = take s.len s.bytes
