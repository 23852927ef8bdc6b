use Rattle.std.proofs.Common.{◌≡◌, ◌++◌, map, take}
use Rattle.std.specs.Prelude.{flat_map}
use Rattle.ch_audit_laws.specs.Said.{row_line}
use Rattle.ch_audit_runs.specs.Arrivals.{name_of}
use Rattle.ch_audit_runs.proofs.said.accepted.Given as goal

abbrev pub invariant-loop-row : goal.invariant-loop-row
invariant-loop-row l = l.text.items ≡ l.initial.text.items ++ flat_map row_line (map name_of (take l.row-index l.rows))
