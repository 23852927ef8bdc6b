-- The run of the Bloom filters, hash by hash.
use Rattle.std.proofs.Common.{◌≡◌, ◌<◌, ◌≤◌, ℕ, zero, suc, ◌+◌, ◌*◌, ◌^◌, Bool, true, false, List, [], ◌∷◌, ◌++◌, ℤ, pos, ◌+ℤ◌, refl, sym, ◌∙◌, ap, arith, Some, length, w64}
use Rattle.std.specs.Prelude.{if◌then◌else◌, ◌||◌, ◌==◌, not}
use Rattle.std.specs.Int.{saturate_signed, int_bit_and, int_bit_or}
use Rattle.std.specs.List.{list_any}
use Rattle.std.specs.Ordering.{int_eq}
use Rattle.std.proofs.lemmas.Bool.{lt-ltb}
use Rattle.std.proofs.lemmas.Int.{ints}
use Rattle.std.proofs.lemmas.List.{append_assoc, length_push}
use Rattle.ch_cover.specs.Rows.{Row}
use Rattle.ch_ir.specs.declared.program.Operand.TheVariants.{Word}
use Rattle.ch_ir.specs.declared.program.Op.{Op}
use Rattle.ch_ir.specs.declared.program.Update.TheVariants as update
use Rattle.ch_ir.specs.declared.program.Array.{Array}
use Rattle.ch_ir.specs.Machine.{Words, Registers, put_all, given, truth, is_set, cells_of}
use Rattle.op_bloom.specs.Policy.{key_of, passes_bloom, meets}
use Rattle.op_moves.specs.Moves.{Move, Compute, Reach, moves_made}
use Rattle.op_moves.specs.Values.{word_at, row_words, word_given, Shows, shows_later, given_at, put_all_below, put_all_at, computed, set_truth, pos_eq, or_any, or_truth, or_all, any_below, any_same}
use Rattle.op_moves.specs.Sheets.{sheet, sheets, sheets_same, changed, cell_moved}
use Rattle.op_bloom.specs.declared.sizes.Sizes.{Sizes}
use Rattle.op_bloom.specs.Fine.{IsFine}
use Rattle.op_bloom.specs.Program.{set_op, first_op, key_op, half_op, offset_op, hash_op, bit_op, cell_op, entry_op, put_op, filter_access, mask_op, clear_op, bad_op, sweep, bad_after, bad_word, bloom_moves}
use Rattle.op_bloom.specs.Filter.{key, cell, bit, spot, offset, place, other, filter_word, OfTwoSides, bit_small, cell_small, word_small, below_word, cell_made, own, told, clear_is, meets_is, puts, fails}

-- the bit that a row puts into its entry, what the entry becomes, and whether the entry lacks the bit
abbrev pub bit_put : Sizes → ℕ × Row → ℕ → ℤ
bit_put d x i = if x.0 == 1 then pos (2 ^ bit d x i) else pos 0

abbrev pub bit_added : Sizes → ℕ × Row → (ℕ → ℕ → ℤ) → ℕ → ℤ
bit_added d x value i = int_bit_or w64 (value i (place d x i)) (bit_put d x i)

abbrev pub is_clear : Sizes → ℕ × Row → (ℕ → ℕ → ℤ) → ℕ → Bool
is_clear d x value i = int_eq (int_bit_and w64 (if x.1.bit then value i (place d x i) else pos 0) (pos (2 ^ bit d x i))) (pos 0)

added : (a b : ℕ) → a + b < 2 ^ 62 → saturate_signed w64 (pos a +ℤ pos b) ≡ pos (a + b)
added a b h = grind (arith, ints)

picked_truth : (t : Bool) (a b : ℤ) → (if is_set (truth t) then a else b) ≡ (if t then a else b)
picked_truth t a b = rw (set_truth t) refl

offset_small : (b : Bool) (cells c : ℕ) → c < cells → (if b then cells else 0) + c < 2 * cells
offset_small true cells c h = omega arith
offset_small false cells c h = omega arith

pub place_small : (d : Sizes) → IsFine d → (x : ℕ × Row) (i : ℕ) → place d x i < 2 * d.cells
place_small d fine x i = offset_small (int_eq (pos x.1.side) (truth (x.0 == 1))) d.cells (cell d x i) (cell_small d fine x i)

-- what a sweep leaves
pub record Swept (d : Sizes) (x : ℕ × Row) (arrays : List Array) (left i base bad : ℕ) (ws : Words) (front more : Registers) (value : ℕ → ℕ → ℤ) (was : Bool) : Type 0 where
  pub words : Words
  pub is : moves_made arrays (sweep d left i base bad) (record { words = ws; registers = front ++ (sheets left i (2 * d.cells) value ++ more) })
      ≡ Some (record { words = words; registers = front ++ (sheets left i (2 * d.cells) (changed x.1.bit (place d x) (bit_added d x value) value) ++ more) })
  pub bad_is : words (bad_after left base bad) ≡ Some (truth (or_any left i was (is_clear d x value)))
  pub kept : (w : ℕ) → w < base → words w ≡ ws w

pub swept : (d : Sizes) → IsFine d → (x : ℕ × Row) (arrays : List Array) (left i base bad : ℕ) (ws : Words) (front more : Registers) (value : ℕ → ℕ → ℤ) (was : Bool)
    → ((a : ℕ) → i ≤ a → a < i + left → cells_of arrays a ≡ 1) → length front ≡ i → d.width + 4 < base → bad < base
    → ws d.width ≡ Some (truth x.1.bit) → ws (d.width + 1) ≡ Some (truth (x.0 == 1)) → ws (d.width + 2) ≡ Some (key d x) → ws (d.width + 4) ≡ Some (pos (offset d x)) → ws bad ≡ Some (truth was)
    → Swept d x arrays left i base bad ws front more value was
swept d fine x arrays zero i base bad ws front more value was ce lf wb bb bit_ first_ key_ offset_ bad_ = record { words = ws; is = refl; bad_is = bad_; kept = λ w h. refl }
swept d fine x arrays (suc left) i base bad ws front more value was ce lf wb bb bit_ first_ key_ offset_ bad_ =
    let at : ℕ → ℕ = place d x in
    let new : ℕ → ℤ = bit_added d x value in
    let old : ℤ = if x.1.bit then value i (at i) else pos 0 in
    let clear : Bool = is_clear d x value i in
    let mask : ℤ = int_bit_and w64 old (pos (2 ^ bit d x i)) in
    let h : ℤ = pos (bit d x i) in
    let p : ℤ = pos (2 ^ bit d x i) in
    let c : ℤ = pos (cell d x i) in
    let e : ℤ = pos (at i) in
    let u : ℤ = bit_put d x i in
    let t : ℤ = truth x.1.bit in
    let tail : List Move = sweep d left (i + 1) (base + 10) (base + 9) in
    let op1 : Op = hash_op d i base in
    let op2 : Op = bit_op base in
    let op3 : Op = cell_op d i base in
    let op4 : Op = entry_op d base in
    let op5 : Op = put_op d base in
    let reach : Move = Reach (filter_access d i base) in
    let op7 : Op = mask_op base in
    let op8 : Op = clear_op base in
    let op9 : Op = bad_op base bad in
    let made : List (List ℤ) = sheet (2 * d.cells) (changed x.1.bit at new value i) in
    let rest : Registers = sheets left (i + 1) (2 * d.cells) value ++ more in
    let regs : Registers = front ++ sheet (2 * d.cells) (value i) ∷ rest in
    let regs' : Registers = front ++ made ∷ rest in
    let moves8 : List Move = Compute op9 ∷ tail in
    let moves7 : List Move = Compute op8 ∷ moves8 in
    let moves6 : List Move = Compute op7 ∷ moves7 in
    let moves5 : List Move = reach ∷ moves6 in
    let moves4 : List Move = Compute op5 ∷ moves5 in
    let moves3 : List Move = Compute op4 ∷ moves4 in
    let moves2 : List Move = Compute op3 ∷ moves3 in
    let moves1 : List Move = Compute op2 ∷ moves2 in
    let small = bit_small d x i in
    let inside = place_small d fine x i in
    let few = fine.small in
    let all : List ℤ = h ∷ p ∷ c ∷ e ∷ u ∷ old ∷ t ∷ mask ∷ truth clear ∷ truth (was || clear) ∷ [] in
    let ws9 : Words = put_all ws base all in
    let low : (vs : List ℤ) (w : ℕ) (v : ℤ) → w < base → ws w ≡ Some v → put_all ws base vs w ≡ Some v = λ vs w v k s. put_all_below ws base vs w k ∙ s in
    let step1 = computed arrays op1 moves1 ws base [] h regs (omega arith) (rw key_ refl) in
    let step2 = computed arrays op2 moves2 ws base (h ∷ []) p regs refl
    (rw (put_all_at ws base (h ∷ []) 0 base (omega arith) (omega arith), lt-ltb (bit d x i) 62 (omega arith)) refl) in
    let step3 = computed arrays op3 moves3 ws base (h ∷ p ∷ []) c regs refl (rw (low (h ∷ p ∷ []) (d.width + 2) (key d x) (omega arith) key_) refl) in
    let step4 = computed arrays op4 moves4 ws base (h ∷ p ∷ c ∷ []) e regs refl
    (rw (low (h ∷ p ∷ c ∷ []) (d.width + 4) (pos (offset d x)) (omega arith) offset_, put_all_at ws base (h ∷ p ∷ c ∷ []) 2 (base + 2) refl (omega arith)) (ap Some (added (offset d x) (cell d x i) (omega arith)))) in
    let step5 = computed arrays op5 moves5 ws base (h ∷ p ∷ c ∷ e ∷ []) u regs refl
    (rw (low (h ∷ p ∷ c ∷ e ∷ []) (d.width + 1) (truth (x.0 == 1)) (omega arith) first_, put_all_at ws base (h ∷ p ∷ c ∷ e ∷ []) 1 (base + 1) refl (omega arith)) (ap Some (picked_truth (x.0 == 1) p (pos 0)))) in
    let step6 = cell_moved arrays (base + 3) d.width (update.Or (Word (base + 4))) moves6 ws base (h ∷ p ∷ c ∷ e ∷ u ∷ []) (base + 5) front rest i (2 * d.cells) value x.1.bit at new
    (ce i (omega arith) (omega arith)) lf inside refl (low (h ∷ p ∷ c ∷ e ∷ u ∷ []) d.width t (omega arith) bit_)
    (put_all_at ws base (h ∷ p ∷ c ∷ e ∷ u ∷ []) 3 (base + 3) refl (omega arith))
    (rw (put_all_at ws base (h ∷ p ∷ c ∷ e ∷ u ∷ []) 4 (base + 4) refl (omega arith)) refl) in
    let step7 = computed arrays op7 moves7 ws base (h ∷ p ∷ c ∷ e ∷ u ∷ old ∷ t ∷ []) mask regs' refl
    (rw (put_all_at ws base (h ∷ p ∷ c ∷ e ∷ u ∷ old ∷ t ∷ []) 5 (base + 5) refl (omega arith), put_all_at ws base (h ∷ p ∷ c ∷ e ∷ u ∷ old ∷ t ∷ []) 1 (base + 1) refl (omega arith)) refl) in
    let step8 = computed arrays op8 moves8 ws base (h ∷ p ∷ c ∷ e ∷ u ∷ old ∷ t ∷ mask ∷ []) (truth clear) regs' refl
    (rw (put_all_at ws base (h ∷ p ∷ c ∷ e ∷ u ∷ old ∷ t ∷ mask ∷ []) 7 (base + 7) refl (omega arith)) refl) in
    let step9 = computed arrays op9 tail ws base (h ∷ p ∷ c ∷ e ∷ u ∷ old ∷ t ∷ mask ∷ truth clear ∷ []) (truth (was || clear)) regs' refl
    (rw (low (h ∷ p ∷ c ∷ e ∷ u ∷ old ∷ t ∷ mask ∷ truth clear ∷ []) bad (truth was) bb bad_, put_all_at ws base (h ∷ p ∷ c ∷ e ∷ u ∷ old ∷ t ∷ mask ∷ truth clear ∷ []) 8 (base + 8) refl (omega arith), or_truth was clear) refl) in
    let run = swept d fine x arrays left (i + 1) (base + 10) (base + 9) ws9 (front ++ made ∷ []) more value (was || clear)
    (λ a k l. ce a (omega arith) (omega arith)) (length_push front made ∙ omega arith) (omega arith) (omega arith)
    (low all d.width t (omega arith) bit_) (low all (d.width + 1) (truth (x.0 == 1)) (omega arith) first_) (low all (d.width + 2) (key d x) (omega arith) key_) (low all (d.width + 4) (pos (offset d x)) (omega arith) offset_)
    (put_all_at ws base all 9 (base + 9) refl (omega arith)) in
    record {
      words = run.words;
      is = step1 ∙ (step2 ∙ (step3 ∙ (step4 ∙ (step5 ∙ (step6 ∙ (step7 ∙ (step8 ∙ (step9
          ∙ (ap (λ (r : Registers). moves_made arrays tail (record { words = ws9; registers = r })) (sym (append_assoc front (made ∷ []) rest))
          ∙ (run.is ∙ ap (λ (r : Registers). Some (record { words = run.words; registers = r })) (append_assoc front (made ∷ []) (sheets left (i + 1) (2 * d.cells) (changed x.1.bit at new value) ++ more))))))))))));
      bad_is = run.bad_is;
      kept = λ w k. run.kept w (omega arith) ∙ put_all_below ws base all w k;
    }

-- the registers after some rows
abbrev pub filters : Sizes → List (ℕ × Row) → Registers
filters d before = sheets d.hashes 0 (2 * d.cells) (λ i e. pos (filter_word d before i e))

-- what the moves of the Bloom filters leave
pub record Bloomed (d : Sizes) (x : ℕ × Row) (before : List (ℕ × Row)) (arrays : List Array) (more : Registers) : Type 0 where
  pub words : Words
  pub fails_ : Bool
  pub is : moves_made arrays (bloom_moves d) (record { words = given d.width (row_words x); registers = filters d before ++ more })
      ≡ Some (record { words = words; registers = filters d (x ∷ before) ++ more })
  pub bit_is : words d.width ≡ Some (truth x.1.bit)
  pub key_is : words (d.width + 2) ≡ Some (key d x)
  pub bad_is : words (bad_word d) ≡ Some (truth ((x.0 == 1) || fails_))
  pub says : x.1.bit ≡ true → (x.0 == 1) ≡ false → fails_ ≡ not (passes_bloom d before x.1)
  pub shows : Shows d.width (row_words x) words

flipped : (b : Bool) (a c : ℤ) → (if not b then a else c) ≡ (if b then c else a)
flipped true a c = refl
flipped false a c = refl

key_picked : (d : Sizes) (r : Row) → (if is_set (pos r.side) then word_at r d.right else word_at r d.left) ≡ key_of d r
key_picked d r = ap (λ (b : Bool). if not b then word_at r d.right else word_at r d.left) (pos_eq r.side 0) ∙ flipped (r.side == 0) (word_at r d.right) (word_at r d.left)

pos_if : (b : Bool) (n : ℕ) → (if b then pos n else pos 0) ≡ pos (if b then n else 0)
pos_if true n = refl
pos_if false n = refl

-- in the second pass the entry lacks the bit where no row of the other side shares the cell and the bit
clear_means : (d : Sizes) → IsFine d → (x : ℕ × Row) (before : List (ℕ × Row)) (i : ℕ) → OfTwoSides before → x.1.side < 2 → x.1.bit ≡ true → (x.0 == 1) ≡ false
    → is_clear d x (λ j e. pos (filter_word d before j e)) i ≡ not (meets d before x.1 i)
clear_means d fine x before i sides side set later =
    let e : place d x i ≡ other d x i = ap (λ (b : Bool). (if int_eq (pos x.1.side) (truth b) then d.cells else 0) + cell d x i) later in
    ap (λ (b : Bool). int_eq (int_bit_and w64 (if b then pos (filter_word d before i (place d x i)) else pos 0) (pos (2 ^ bit d x i))) (pos 0)) set
    ∙ (clear_is (filter_word d before i (place d x i)) (bit d x i) (word_small d before i (place d x i)) (bit_small d x i)
    ∙ (told d before i (place d x i) (bit d x i)
    ∙ (ap (λ (n : ℕ). not (list_any (puts d i n (bit d x i)) before)) e ∙ ap not (meets_is d fine before x i sides side))))

pub bloomed : (d : Sizes) → IsFine d → (x : ℕ × Row) (before : List (ℕ × Row)) (arrays : List Array) (more : Registers)
    → ((a : ℕ) → a < d.hashes → cells_of arrays a ≡ 1) → OfTwoSides before → x.1.side < 2 → Bloomed d x before arrays more
bloomed d fine x before arrays more ce sides side =
    let w : ℕ = d.width in
    let value : ℕ → ℕ → ℤ = λ i e. pos (filter_word d before i e) in
    let regs : Registers = filters d before ++ more in
    let ws : Words = given w (row_words x) in
    let shows : Shows w (row_words x) ws = λ v h. given_at w (row_words x) v h in
    let first : Bool = x.0 == 1 in
    let t : ℤ = truth x.1.bit in
    let f : ℤ = truth first in
    let k : ℤ = key d x in
    let half : Bool = int_eq (pos x.1.side) f in
    let o : ℤ = pos (offset d x) in
    let wide = fine.wide in
    let rest : List Move = sweep d d.hashes 0 (w + 5) (w + 1) in
    let op1 : Op = set_op d in
    let op2 : Op = first_op d in
    let op3 : Op = key_op d in
    let op4 : Op = half_op d in
    let op5 : Op = offset_op d in
    let later : (vs : List ℤ) → Shows w (row_words x) (put_all ws w vs) = λ vs. shows_later w (row_words x) ws w vs (omega arith) shows in
    let step1 = computed arrays op1 (Compute op2 ∷ Compute op3 ∷ Compute op4 ∷ Compute op5 ∷ rest) ws w [] t regs (omega arith) (rw (shows 2 (omega arith)) (ap (λ (b : Bool). Some (truth b)) (set_truth x.1.bit))) in
    let step2 = computed arrays op2 (Compute op3 ∷ Compute op4 ∷ Compute op5 ∷ rest) ws w (t ∷ []) f regs refl (rw (later (t ∷ []) 0 (omega arith)) (ap (λ (b : Bool). Some (truth b)) (pos_eq x.0 1))) in
    let step3 = computed arrays op3 (Compute op4 ∷ Compute op5 ∷ rest) ws w (t ∷ f ∷ []) k regs refl
    (rw (later (t ∷ f ∷ []) 1 (omega arith), later (t ∷ f ∷ []) d.right fine.right.1, later (t ∷ f ∷ []) d.left fine.left.1, word_given x d.right fine.right.0, word_given x d.left fine.left.0) (ap Some (key_picked d x.1))) in
    let step4 = computed arrays op4 (Compute op5 ∷ rest) ws w (t ∷ f ∷ k ∷ []) (truth half) regs refl
    (rw (later (t ∷ f ∷ k ∷ []) 1 (omega arith), put_all_at ws w (t ∷ f ∷ k ∷ []) 1 (w + 1) refl (omega arith)) refl) in
    let step5 = computed arrays op5 rest ws w (t ∷ f ∷ k ∷ truth half ∷ []) o regs refl
    (rw (put_all_at ws w (t ∷ f ∷ k ∷ truth half ∷ []) 3 (w + 3) refl (omega arith)) (ap Some (picked_truth half (pos d.cells) (pos 0) ∙ pos_if half d.cells))) in
    let all : List ℤ = t ∷ f ∷ k ∷ truth half ∷ o ∷ [] in
    let ws5 : Words = put_all ws w all in
    let run = swept d fine x arrays d.hashes 0 (w + 5) (w + 1) ws5 [] more value first
    (λ a p q. ce a (omega arith)) refl (omega arith) (omega arith)
    (put_all_at ws w all 0 w (omega arith) (omega arith)) (put_all_at ws w all 1 (w + 1) refl (omega arith)) (put_all_at ws w all 2 (w + 2) refl (omega arith))
    (put_all_at ws w all 4 (w + 4) refl (omega arith)) (put_all_at ws w all 1 (w + 1) refl (omega arith)) in
    let new : sheets d.hashes 0 (2 * d.cells) (changed x.1.bit (place d x) (bit_added d x value) value) ≡ filters d (x ∷ before) =
    sheets_same d.hashes 0 (2 * d.cells) (changed x.1.bit (place d x) (bit_added d x value) value) (λ i e. pos (filter_word d (x ∷ before) i e))
    (λ i e p. cell_made first x.1.bit e (place d x i) (spot d x i) (2 ^ bit d x i) (filter_word d before i) (own d x i side) (word_small d before i e) (below_word (bit d x i) (bit_small d x i))) in
    record {
      words = run.words;
      fails_ = any_below d.hashes (is_clear d x value);
      is = step1 ∙ (step2 ∙ (step3 ∙ (step4 ∙ (step5 ∙ (run.is ∙ ap (λ (r : Registers). Some (record { words = run.words; registers = r ++ more })) new)))));
      bit_is = run.kept w (omega arith) ∙ put_all_at ws w all 0 w (omega arith) (omega arith);
      key_is = run.kept (w + 2) (omega arith) ∙ put_all_at ws w all 2 (w + 2) refl (omega arith);
      bad_is = run.bad_is ∙ ap (λ (b : Bool). Some (truth b)) (or_all d.hashes first (is_clear d x value));
      says = λ set later_. any_same d.hashes (is_clear d x value) (λ i. not (meets d before x.1 i)) (λ i p. clear_means d fine x before i sides side set later_)
          ∙ fails d before x.1 d.hashes;
      shows = λ v h. run.kept v (omega arith) ∙ later all v h;
    }
