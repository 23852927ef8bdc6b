use Rattle.std.proofs.Common.{SFits, rules, subst, sym, to_z-of_z, w64, ℤ}
use Rattle.ch_tables.specs.Texts.{IsWordOf, cell_at, texts_of}
use Rattle.ch_tables.proofs.ViewLemmas.{below-column, word-of}
use Rattle.ch_tables.proofs.table.Table.word.Goals as goal

pub word_in-requires : goal.word_in-requires
word_in-requires c =
    below-column c.self.inside c.args.self.now c.args.part c.args.row c.args.col c.index.result.now c.index-2.result.now c.self.invariant c.self.view_is
    c.requires.part c.requires.row c.requires.col c.index.ensures c.index-2.ensures

pub returns : goal.returns
returns c =
    let fits : SFits w64 c.word_in.result = search rules in
    subst (λ (word : ℤ). IsWordOf (texts_of c.args.self.now) (cell_at c.args.self.now c.args.part c.args.row c.args.col) word) (sym (to_z-of_z fits))
    (word-of c.self.inside c.args.self.now c.args.part c.args.row c.args.col c.index.result.now c.index-2.result.now c.word_in.result c.self.invariant c.self.view_is
    c.requires.part c.requires.row c.requires.col c.index.ensures c.index-2.ensures c.word_in.ensures)
