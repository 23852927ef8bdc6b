use Rattle.std.proofs.Common.{◌≡◌, ℕ, ◌<◌, ◌||◌, false, length, get_or, drop}
use Rattle.ch_bind.specs.References.{is_named}
use Rattle.ch_bind.proofs.carried.marks_of.Given as goal

-- the marks so far, and the references left
abbrev pub invariant-loop-reference : goal.invariant-loop-reference
invariant-loop-reference l = record {
  size : length l.marks.items ≡ l.len;
  each : (at : ℕ) → at < l.len → (get_or l.marks.items at false || is_named (drop l.reference-index l.refs) l.side at) ≡ is_named l.refs l.side at;
}
