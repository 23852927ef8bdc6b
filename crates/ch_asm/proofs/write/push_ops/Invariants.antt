use Rattle.std.proofs.Common.{◌≡◌, ◌++◌, drop, map}
use Rattle.std.specs.List.{AllByRecursion}
use Rattle.ch_asm_lines.specs.Range.{IsOp}
use Rattle.ch_asm_lines.specs.declared.line.Line.TheVariants as line
use Rattle.ch_asm.specs.Text.{spelled}
use Rattle.ch_asm.proofs.write.push_ops.Given as goal

abbrev pub invariant-loop-op : goal.invariant-loop-op
invariant-loop-op l = record {
  text : l.text.items ++ spelled (map line.Op (drop l.op-index l.ops)) ≡ l.fn.text.items ++ spelled (map line.Op l.ops);
  fits : AllByRecursion IsOp (drop l.op-index l.ops) → AllByRecursion IsOp l.ops;
}
