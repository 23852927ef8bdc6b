use Rattle.std.proofs.Common.{◌≡◌, ◌∷◌, ◌++◌, filter, length, map}
use Rattle.cheetah_inputs.specs.Parts.{part_text, texts_of}
use Rattle.cheetah_inputs.proofs.Grouping.{is_others}
use Rattle.cheetah_inputs.proofs.parts.choose.Given as goal

-- with what the parts left give they are all
abbrev pub invariant-loop-part : goal.invariant-loop-part
invariant-loop-part l = record {
  texts : l.texts ++ texts_of l.name (map part_text l.left.items) ≡ (part_text l.fn.first).text ∷ texts_of l.name (map part_text l.fn.left.items);
  others : map part_text l.others.items ++ filter (is_others l.name) (map part_text l.left.items) ≡ filter (is_others l.name) (map part_text l.fn.left.items);
}

abbrev pub decreases-loop-part : goal.decreases-loop-part
decreases-loop-part l = length l.left.items
