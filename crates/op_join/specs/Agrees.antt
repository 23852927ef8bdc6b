-- The program's verdicts are the policy's.
use Rattle.std.proofs.Common.{◌≡◌, ◌<◌, ℕ, ◌*◌, Bool, true, false, List, [], ◌∷◌, refl, sym, ◌∙◌, ap, Some, None}
use Rattle.std.specs.Prelude.{◌||◌, ◌==◌, not}
use Rattle.std.specs.Option.{option_and_then}
use Rattle.std.proofs.lemmas.Bool.{ltb-true}
use Rattle.std.proofs.lemmas.List.{append-nil}
use Rattle.ch_cover.specs.Rows.{Row}
use Rattle.ch_ir.specs.Machine.{Words, Registers, given, machine, ends, cleared}
use Rattle.ch_verdicts.specs.Agrees.{Agrees}
use Rattle.op_moves.specs.Moves.{Compute, moves_made}
use Rattle.op_moves.specs.Made.{machine_made, moves_then}
use Rattle.op_moves.specs.Values.{row_words, finished}
use Rattle.op_moves.specs.Sheets.{sheets_cleared, array_at}
use Rattle.op_moves.specs.Steps.{Steps, steps_agree}
use Rattle.op_bloom.specs.declared.sizes.Sizes.{Sizes}
use Rattle.op_bloom.specs.Fine.{IsFine}
use Rattle.op_bloom.specs.Policy.{passes_bloom}
use Rattle.op_bloom.specs.Program.{bad_word, end_of, bloom_moves, bloom_arrays}
use Rattle.op_bloom.specs.Filter.{OfTwoSides, has_side, sides_of}
use Rattle.op_bloom.specs.Run.{filters, bloomed}
use Rattle.op_join.specs.Policy.{prunes}
use Rattle.op_join.specs.Program.{verdict_op, moves_of, program}

verdict_is : (bit first bad fails : Bool) → (bit ≡ true → first ≡ false → bad ≡ fails) → not bit || (first || bad) ≡ first || (not bit || fails)
verdict_is false true bad fails h = refl
verdict_is false false bad fails h = refl
verdict_is true true bad fails h = refl
verdict_is true false bad fails h = h refl refl

-- one row
step_is : (d : Sizes) → IsFine d → (before : List (ℕ × Row)) (x : ℕ × Row) → OfTwoSides before → x.1.side < 2
    → machine (program d) (filters d before) (row_words x) ≡ Some (record { prune = prunes d before x; registers = filters d (x ∷ before) })
step_is d fine before x sides side =
    let arrays = bloom_arrays d in
    let ws : Words = given d.width (row_words x) in
    let run = bloomed d fine x before arrays [] (λ a h. (array_at d.hashes (2 * d.cells) a h).1) sides side in
    let first : Bool = x.0 == 1 in
    let made : moves_made arrays (bloom_moves d) (record { words = ws; registers = filters d before }) ≡ Some (record { words = run.words; registers = filters d (x ∷ before) }) =
    ap (λ (r : Registers). moves_made arrays (bloom_moves d) (record { words = ws; registers = r })) (sym (append-nil (filters d before)))
    ∙ (run.is ∙ ap (λ (r : Registers). Some (record { words = run.words; registers = r })) (append-nil (filters d (x ∷ before)))) in
    machine_made d.width arrays (moves_of d) (end_of d) (filters d before) (row_words x)
    ∙ (ap (option_and_then (ends (end_of d))) (moves_then arrays (bloom_moves d) (Compute (verdict_op d) ∷ []) (record { words = ws; registers = filters d before }) (record { words = run.words; registers = filters d (x ∷ before) }) made)
    ∙ (finished arrays (end_of d) d.width (bad_word d) run.words (filters d (x ∷ before)) x.1.bit (first || run.fails_) run.bit_is run.bad_is
    ∙ ap (λ (b : Bool). Some (record { prune = b; registers = filters d (x ∷ before) })) (verdict_is x.1.bit first run.fails_ (not (passes_bloom d before x.1)) run.says)))

join_steps : (d : Sizes) → IsFine d → Steps has_side (program d) (prunes d) (filters d)
join_steps d fine = record {
  begun = sheets_cleared d.hashes 0 (2 * d.cells);
  step = λ before x h t. step_is d fine before x (sides_of before h) (ltb-true x.1.side 2 t.1);
}

-- from cleared registers the program's verdicts are the policy's
pub join_agrees : (d : Sizes) → IsFine d → Agrees has_side (program d) None (cleared (program d).arrays) (prunes d)
join_agrees d fine = steps_agree has_side (program d) (prunes d) (filters d) (join_steps d fine)
