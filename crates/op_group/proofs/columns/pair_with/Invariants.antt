use Rattle.std.proofs.Common.{◌≡◌, ◌∷◌, pos, take}
use Rattle.ch_ir.specs.declared.program.Operand.TheVariants.{Const}
use Rattle.ch_ir.specs.declared.program.Update.TheVariants.{Put}
use Rattle.op_group.specs.Program.{put_words}
use Rattle.op_group.proofs.columns.pair_with.Given as goal

abbrev pub invariant-loop-word : goal.invariant-loop-word
invariant-loop-word l = l.updates ≡ Put (Const (pos 1)) ∷ put_words (take l.word-index l.words)
