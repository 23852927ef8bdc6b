use Rattle.std.proofs.Common.{◌≡◌, ◌++◌, drop}
use Rattle.std.specs.List.{flat_map, AllByRecursion}
use Rattle.ch_asm.specs.Text.{spelled, stage_lines, IsStage}
use Rattle.ch_asm.proofs.write.push_stages.Given as goal

abbrev pub invariant-loop-stage : goal.invariant-loop-stage
invariant-loop-stage l = record {
  text : l.text.items ++ spelled (flat_map stage_lines (drop l.stage-index l.stages)) ≡ l.fn.text.items ++ spelled (flat_map stage_lines l.stages);
  fits : AllByRecursion IsStage (drop l.stage-index l.stages) → AllByRecursion IsStage l.stages;
}
