use Rattle.std.proofs.Common.{◌≡◌, ◌++◌, drop, map}
use Rattle.std.specs.List.{AllByRecursion}
use Rattle.ch_asm_lines.specs.Range.{IsAccess}
use Rattle.ch_asm_lines.specs.declared.line.Line.TheVariants as line
use Rattle.ch_asm.specs.Text.{spelled}
use Rattle.ch_asm.proofs.write.push_accesses.Given as goal

abbrev pub invariant-loop-access : goal.invariant-loop-access
invariant-loop-access l = record {
  text : l.text.items ++ spelled (map line.Access (drop l.access-index l.accesses)) ≡ l.fn.text.items ++ spelled (map line.Access l.accesses);
  fits : AllByRecursion IsAccess (drop l.access-index l.accesses) → AllByRecursion IsAccess l.accesses;
}
