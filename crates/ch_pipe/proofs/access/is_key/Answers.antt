use Rattle.std.proofs.Common.{◌≡◌, ◌<◌, ◌+◌, ℕ, ℤ, true, false, List, ◌∷◌, pos, length, get_or, drop, refl, sym, ◌∙◌, ap₂, arith, subst, rules, w64}
use Rattle.std.specs.Prelude.{◌&&◌}
use Rattle.std.specs.Ordering.{int_eq}
use Rattle.std.proofs.lemmas.List.{drop_more}
use Rattle.std.proofs.lemmas.Int.{to_z-of_z}
use Rattle.ch_ir.specs.declared.program.Operand.{Operand}
use Rattle.ch_ir.specs.declared.program.Operand.TheVariants.{Word}
use Rattle.ch_ir.specs.Machine.{same_words}
use Rattle.ch_pipe.specs.Total.{value_at}
use Rattle.ch_pipe.specs.Total.{values_of}
use Rattle.ch_pipe.specs.Entry.{KeyRoom}
use mir.Val.{SFits}
use Rattle.ch_pipe.proofs.access.is_key.Goals as goal
use Rattle.ch_pipe.proofs.access.is_key.Goals.{After-is_same}

step : (words cells : List ℤ) (key : List Operand) (at : ℕ) (x : ℤ) (a : Operand) → at < length key → length key ≡ length cells
    → same_words (drop at cells) (values_of words (drop at key))
    ≡ (int_eq (get_or cells at x) (value_at words (get_or key at a)) && same_words (drop (at + 1) cells) (values_of words (drop (at + 1) key)))
step words cells key at x a lt e =
    ap₂ (λ (c : List ℤ) (k : List Operand). same_words c (values_of words k)) (drop_more cells at x (omega arith)) (drop_more key at a lt)

-- what the test says
tested : (c : After-is_same) → c.is_same.result ≡ int_eq (get_or c.args.cells.now c.loop-at.at (pos 0)) (value_at c.args.words.now (get_or c.args.key.now c.loop-at.at (Word 0)))
tested c =
    let fits : SFits w64 c.value_of.result = record { sfits = c.value_of.type_inv } in
    let cell : SFits w64 (get_or c.args.cells.now c.loop-at.at (pos 0)) = search rules in
    c.is_same.ensures ∙ ap₂ int_eq (to_z-of_z w64 (get_or c.args.cells.now c.loop-at.at (pos 0)) cell) (to_z-of_z w64 c.value_of.result fits ∙ c.value_of.ensures)

pub returns-then-not-is_same : goal.returns-then-not-is_same
returns-then-not-is_same c =
    let t = tested ((goal.at.returns-then-not-is_same c).After-is_same) in
    let no : int_eq (get_or c.args.cells.now c.loop-at.at (pos 0)) (value_at c.args.words.now (get_or c.args.key.now c.loop-at.at (Word 0))) ≡ false = sym t ∙ c.if-not-is_same.true in
    sym (sym c.loop-at.invariant.same ∙ step c.args.words.now c.args.cells.now c.args.key.now c.loop-at.at (pos 0) (Word 0) c.loop-at-test.true c.requires.each ∙ rw no refl)

pub loop-at-preserved : goal.loop-at-preserved
loop-at-preserved c =
    let t = tested ((goal.at.loop-at-preserved c).After-is_same) in
    let same : int_eq (get_or c.args.cells.now c.loop-at.at (pos 0)) (value_at c.args.words.now (get_or c.args.key.now c.loop-at.at (Word 0))) ≡ true = sym t ∙ c.if-not-is_same.false in
    let more : KeyRoom (length c.args.words.now) (get_or c.args.key.now c.loop-at.at (Word 0) ∷ drop (c.loop-at.at + 1) c.args.key.now) =
    subst (KeyRoom (length c.args.words.now)) (drop_more c.args.key.now c.loop-at.at (Word 0) c.loop-at-test.true) c.loop-at.invariant.room in
    let went : same_words (drop c.loop-at.at c.args.cells.now) (values_of c.args.words.now (drop c.loop-at.at c.args.key.now))
    ≡ same_words (drop (c.loop-at.at + 1) c.args.cells.now) (values_of c.args.words.now (drop (c.loop-at.at + 1) c.args.key.now)) =
    step c.args.words.now c.args.cells.now c.args.key.now c.loop-at.at (pos 0) (Word 0) c.loop-at-test.true c.requires.each ∙ rw same refl in
    record { room = more.1; same = sym went ∙ c.loop-at.invariant.same }
