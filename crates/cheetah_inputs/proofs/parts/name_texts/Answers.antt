use Rattle.std.proofs.Common.{◌≡◌, ◌∙◌, ◌∷◌, [], ap, map, sym}
use Rattle.std.proofs.lemmas.List.{map-append}
use Rattle.ch_cells.specs.declared.bytes.Bytes.{Bytes}
use Rattle.cheetah_inputs.specs.Parts.{part_text}
use Rattle.cheetah_inputs.proofs.Naming.{all_named, one_named}
use Rattle.cheetah_inputs.proofs.Queues.{none_popped}
use Rattle.cheetah_inputs.proofs.parts.name_texts.Goals as goal

pub returns-in-None : goal.returns-in-None
returns-in-None c = all_named _ _ _ _ (none_popped _ _ c.in-None.ensures.items c.in-None.ensures.rest) c.loop-word.invariant

pub loop-word-preserved : goal.loop-word-preserved
loop-word-preserved c =
    rw (c.in_ok-push_back-in-Some.ensures.items, map-append part_text c.loop-word.parts.items _)
    (one_named _ c.args.words.now c.loop-word.word-index _ _ _ _ _ c.loop-word-test.true c.in-Some.ensures.items c.loop-word.invariant)
