use Rattle.std.proofs.Common.{◌≡◌, ◌++◌, drop, map}
use Rattle.std.specs.List.{AllByRecursion}
use Rattle.ch_asm_lines.specs.Range.{IsArray}
use Rattle.ch_asm_lines.specs.declared.line.Line.TheVariants as line
use Rattle.ch_asm.specs.Text.{spelled}
use Rattle.ch_asm.proofs.write.push_arrays.Given as goal

abbrev pub invariant-loop-array : goal.invariant-loop-array
invariant-loop-array l = record {
  text : l.text.items ++ spelled (map line.Array (drop l.array-index l.arrays)) ≡ l.fn.text.items ++ spelled (map line.Array l.arrays);
  fits : AllByRecursion IsArray (drop l.array-index l.arrays) → AllByRecursion IsArray l.arrays;
}
