-- The run of the hashes, one by one.
use Rattle.std.proofs.Common.{◌≡◌, ◌<◌, ◌≤◌, ℕ, zero, suc, ◌+◌, Bool, List, [], ◌∷◌, ◌++◌, ℤ, pos, ◌+ℤ◌, refl, sym, ◌∙◌, ap, arith, Some, length, map}
use Rattle.std.specs.Prelude.{if◌then◌else◌, ◌||◌, int_le}
use Rattle.std.specs.Int.{w64, saturate_signed}
use Rattle.std.proofs.lemmas.List.{append_assoc, length_push}
use Rattle.ch_cover.specs.Rows.{Row}
use Rattle.ch_ir.specs.declared.program.Operand.TheVariants.{Word}
use Rattle.ch_ir.specs.declared.program.Op.{Op}
use Rattle.ch_ir.specs.declared.program.Update.TheVariants as update
use Rattle.ch_ir.specs.declared.program.Array.{Array}
use Rattle.ch_ir.specs.Hash.{hash_of, hash_of-below}
use Rattle.ch_ir.specs.Machine.{Words, Registers, put_all, truth, cells_of}
use Rattle.op_moves.specs.Moves.{Move, Compute, Reach, moves_made}
use Rattle.op_moves.specs.Values.{places_are, word_at, row_words, Shows, shows_later, read_places, put_all_below, put_all_at, computed, or_any, or_truth}
use Rattle.op_moves.specs.Sheets.{sheet, sheets, changed, cell_moved}
use Rattle.op_having.specs.declared.sizes.Sizes.{Sizes}
use Rattle.op_having.specs.Fine.{IsFine}
use Rattle.op_having.specs.Program.{hash_op, sum_access, low_op, bad_op, sweep, bad_after}

-- the cells of a row's key, what is made of them, and whether their sums are low
abbrev pub places : Sizes → ℕ × Row → ℕ → ℕ
places d x i = hash_of i (map (word_at x.1) d.keys) d.cells

abbrev pub added_to : Sizes → ℕ × Row → ℤ → (ℕ → ℕ → ℤ) → ℕ → ℤ
added_to d x added value i = saturate_signed w64 (value i (places d x i) +ℤ added)

abbrev pub is_low : Sizes → ℕ × Row → (ℕ → ℕ → ℤ) → ℕ → Bool
is_low d x value i = int_le (if x.1.bit then value i (places d x i) else pos 0) d.above

-- what a sweep leaves
pub record Swept (d : Sizes) (x : ℕ × Row) (arrays : List Array) (left i base bad : ℕ) (ws : Words) (front : Registers) (value : ℕ → ℕ → ℤ) (was : Bool) (added : ℤ) : Type 0 where
  pub words : Words
  pub is : moves_made arrays (sweep d left i base bad) (record { words = ws; registers = front ++ sheets left i d.cells value })
      ≡ Some (record { words = words; registers = front ++ sheets left i d.cells (changed x.1.bit (places d x) (added_to d x added value) value) })
  pub bad_is : words (bad_after left base bad) ≡ Some (truth (or_any left i was (is_low d x value)))
  pub kept : (w : ℕ) → w < base → words w ≡ ws w

pub swept : (d : Sizes) → IsFine d → (x : ℕ × Row) (arrays : List Array) (left i base bad : ℕ) (ws : Words) (front : Registers) (value : ℕ → ℕ → ℤ) (was : Bool) (added : ℤ)
    → ((a : ℕ) → i ≤ a → a < i + left → cells_of arrays a ≡ 1) → length front ≡ i → d.width + 2 < base → bad < base
    → Shows d.width (row_words x) ws → ws d.width ≡ Some (truth x.1.bit) → ws (d.width + 2) ≡ Some added → ws bad ≡ Some (truth was)
    → Swept d x arrays left i base bad ws front value was added
swept d fine x arrays zero i base bad ws front value was added ce lf wb bb shows open_ more_ bad_ = record { words = ws; is = refl; bad_is = bad_; kept = λ w h. refl }
swept d fine x arrays (suc left) i base bad ws front value was added ce lf wb bb shows open_ more_ bad_ =
    let k : List ℤ = map (word_at x.1) d.keys in
    let at : ℕ → ℕ = places d x in
    let new : ℕ → ℤ = added_to d x added value in
    let old : ℤ = if x.1.bit then value i (at i) else pos 0 in
    let low : Bool = is_low d x value i in
    let h : ℤ = pos (at i) in
    let t : ℤ = truth x.1.bit in
    let tail : List Move = sweep d left (i + 1) (base + 5) (base + 4) in
    let hash : Op = hash_op d i base in
    let reach : Move = Reach (sum_access d i base) in
    let is_sum_low : Op = low_op d base in
    let is_bad : Op = bad_op base bad in
    let regs : Registers = front ++ sheets (suc left) i d.cells value in
    let made : List (List ℤ) = sheet d.cells (changed x.1.bit at new value i) in
    let rest : Registers = sheets left (i + 1) d.cells value in
    let regs' : Registers = front ++ made ∷ rest in
    let inside : at i < d.cells = hash_of-below i k d.cells fine.some in
    let ws1 : Words = put_all ws base (h ∷ []) in
    let ws3 : Words = put_all ws base (h ∷ old ∷ t ∷ []) in
    let ws4 : Words = put_all ws base (h ∷ old ∷ t ∷ truth low ∷ []) in
    let ws5 : Words = put_all ws base (h ∷ old ∷ t ∷ truth low ∷ truth (was || low) ∷ []) in
    let keys = read_places d.width x ws d.keys (places_are d.width d.keys fine.keys) shows in
    let step1 = computed arrays hash (reach ∷ Compute is_sum_low ∷ Compute is_bad ∷ tail) ws base [] h regs (omega arith) (rw keys refl) in
    let step2 = cell_moved arrays base d.width (update.AddSat (Word (d.width + 2))) (Compute is_sum_low ∷ Compute is_bad ∷ tail) ws base (h ∷ []) (base + 1) front rest i d.cells value x.1.bit at new
    (ce i (omega arith) (omega arith)) lf inside refl (put_all_below ws base (h ∷ []) d.width (omega arith) ∙ open_)
    (put_all_at ws base (h ∷ []) 0 base (omega arith) (omega arith))
    (rw (put_all_below ws base (h ∷ []) (d.width + 2) (omega arith) ∙ more_) refl) in
    let step3 = computed arrays is_sum_low (Compute is_bad ∷ tail) ws base (h ∷ old ∷ t ∷ []) (truth low) regs' refl
    (rw (put_all_at ws base (h ∷ old ∷ t ∷ []) 1 (base + 1) refl (omega arith)) refl) in
    let step4 = computed arrays is_bad tail ws base (h ∷ old ∷ t ∷ truth low ∷ []) (truth (was || low)) regs' refl
    (rw (put_all_below ws base (h ∷ old ∷ t ∷ truth low ∷ []) bad bb ∙ bad_, put_all_at ws base (h ∷ old ∷ t ∷ truth low ∷ []) 3 (base + 3) refl (omega arith), or_truth was low) refl) in
    let below : (w : ℕ) → w < base → ws5 w ≡ ws w = λ w p. put_all_below ws base (h ∷ old ∷ t ∷ truth low ∷ truth (was || low) ∷ []) w p in
    let more = swept d fine x arrays left (i + 1) (base + 5) (base + 4) ws5 (front ++ made ∷ []) value (was || low) added
    (λ a p q. ce a (omega arith) (omega arith)) (length_push front made ∙ omega arith) (omega arith) (omega arith)
    (shows_later d.width (row_words x) ws base (h ∷ old ∷ t ∷ truth low ∷ truth (was || low) ∷ []) (omega arith) shows)
    (below d.width (omega arith) ∙ open_) (below (d.width + 2) (omega arith) ∙ more_)
    (put_all_at ws base (h ∷ old ∷ t ∷ truth low ∷ truth (was || low) ∷ []) 4 (base + 4) refl (omega arith)) in
    record {
      words = more.words;
      is = step1 ∙ (step2 ∙ (step3 ∙ (step4 ∙ (ap (λ (r : Registers). moves_made arrays tail (record { words = ws5; registers = r })) (sym (append_assoc front (made ∷ []) rest))
          ∙ (more.is ∙ ap (λ (r : Registers). Some (record { words = more.words; registers = r })) (append_assoc front (made ∷ []) (sheets left (i + 1) d.cells (changed x.1.bit at new value))))))));
      bad_is = more.bad_is;
      kept = λ w p. more.kept w (omega arith) ∙ below w p;
    }
