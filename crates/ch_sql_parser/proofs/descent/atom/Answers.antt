use Rattle.std.proofs.Common.{◌≡◌, ◌∙◌, refl, true, false, arith}
use Rattle.ch_sql_grammar.specs.declared.terminal.Mark.TheVariants as mark
use Rattle.ch_sql_places.specs.Machine.{First}
use Rattle.ch_sql_grammar.specs.Tokens.{marked}
use Rattle.ch_sql_parser.proofs.Rules.{atom_rule}
use Rattle.ch_sql_parser.proofs.Moving.{exits, along}
use Rattle.ch_sql_parser.proofs.descent.atom.Goals as goal

pub returns-in_err-col-clause-moves : goal.returns-in_err-col-clause-moves
returns-in_err-col-clause-moves c = λ around.
    exits _ _ _ _ _ c.from_residual.ensures.1 refl (c.in_err-col.ensures.moves (First around))

pub returns-in-Some-clause-moves : goal.returns-in-Some-clause-moves
returns-in-Some-clause-moves c = λ around.
    along _ _ _ _ (c.in_ok-col.ensures.moves (First around) ∙ rw (atom_rule, ← c.in-Some.ensures.value) refl) (c.compared.ensures.moves around)

pub returns-then-mark_at-clause-moves : goal.returns-then-mark_at-clause-moves
returns-then-mark_at-clause-moves c = λ around.
    let m : marked mark.Between c.args.tokens.now c.in_ok-col.next ≡ true = grind arith in
    along _ _ _ _ (c.in_ok-col.ensures.moves (First around) ∙ rw (atom_rule, ← c.in_default.ensures.value, m) refl) (c.between.ensures.moves around)

pub returns-then-mark_at-2-clause-moves : goal.returns-then-mark_at-2-clause-moves
returns-then-mark_at-2-clause-moves c = λ around.
    let l : marked mark.Between c.args.tokens.now c.in_ok-col.next ≡ false = grind arith in
    let m : marked mark.In c.args.tokens.now c.in_ok-col.next ≡ true = grind arith in
    along _ _ _ _ (c.in_ok-col.ensures.moves (First around) ∙ rw (atom_rule, ← c.in_default.ensures.value, l, m) refl) (c.within.ensures.moves around)

pub returns-then-mark_at-3-clause-moves : goal.returns-then-mark_at-3-clause-moves
returns-then-mark_at-3-clause-moves c = λ around.
    let k : marked mark.Between c.args.tokens.now c.in_ok-col.next ≡ false = grind arith in
    let l : marked mark.In c.args.tokens.now c.in_ok-col.next ≡ false = grind arith in
    let m : marked mark.Like c.args.tokens.now c.in_ok-col.next ≡ true = grind arith in
    along _ _ _ _ (c.in_ok-col.ensures.moves (First around) ∙ rw (atom_rule, ← c.in_default.ensures.value, k, l, m) refl) (c.like.ensures.moves around)
