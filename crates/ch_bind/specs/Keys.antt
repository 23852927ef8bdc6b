-- Marks of the keys of a group.
use Rattle.std.specs.Prelude.{Bool, List, length, map}
use Rattle.ch_sql_grammar.specs.declared.query.Tail.{Tail}
use Rattle.ch_sql_grammar.specs.declared.query.Tail.TheVariants as tail
use Rattle.ch_bind.specs.Marks.{AreMarks}
use Rattle.ch_bind.specs.References.{mere}
use Rattle.ch_bind.specs.declared.scope.Scope.{Scope}

abbrev pub AreKeys : List Bool → Scope → Tail → Type 0
AreKeys marks scope tail.Nothing = Unit {0}
AreKeys marks scope (tail.Top by descending limit) = Unit {0}
AreKeys marks scope (tail.Group keys having) = AreMarks marks (length scope.first.header) 0 (map (mere scope) keys)
AreKeys marks scope (tail.Skyline dims) = Unit {0}
