use Rattle.std.proofs.Common.{◌≡◌, ◌++◌, drop, map}
use Rattle.cheetah_words.specs.Tables.{part_word}
use Rattle.cheetah_inputs.specs.Parts.{named_texts, part_text}
use Rattle.cheetah_inputs.proofs.parts.name_texts.Given as goal

-- with those of the words and texts left they are all parts
abbrev pub invariant-loop-word : goal.invariant-loop-word
invariant-loop-word l =
    map part_text l.parts.items ++ named_texts (map part_word (drop l.word-index l.words)) l.texts.items ≡ named_texts (map part_word l.words) l.fn.texts.items
