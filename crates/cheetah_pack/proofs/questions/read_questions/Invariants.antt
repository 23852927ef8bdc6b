use Rattle.std.proofs.Common.{map, take}
use Rattle.cheetah_pack.proofs.questions.read_questions.Given as goal
use Rattle.cheetah_pack.specs.Reading.{AreQuestions}

abbrev pub invariant-loop-number : goal.invariant-loop-number
invariant-loop-number l = AreQuestions (take l.number (map (λ text. text.now) l.texts)) l.tables l.bounds
