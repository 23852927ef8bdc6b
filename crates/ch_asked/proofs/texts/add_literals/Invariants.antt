use Rattle.std.proofs.Common.{◌≡◌, drop}
use Rattle.std.specs.Prelude.{flat_map}
use Rattle.ch_asked.specs.Texts.{literal_texts}
use Rattle.ch_tables.specs.Texts.{with_texts}
use Rattle.ch_asked.proofs.texts.add_literals.Given as goal

-- those of the literals left are still to be added
abbrev pub invariant-loop-literal : goal.invariant-loop-literal
invariant-loop-literal l = with_texts l.gathered.texts (flat_map literal_texts (drop l.literal-index l.literals)) ≡ with_texts l.fn.gathered.texts (flat_map literal_texts l.literals)
