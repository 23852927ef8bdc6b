-- The program's verdicts are the policy's.
use Rattle.std.proofs.Common.{◌≡◌, ◌<◌, ◌≤◌, ℕ, zero, suc, ◌+◌, ◌*◌, Bool, true, false, List, [], ◌∷◌, ◌++◌, ℤ, pos, inl, inr, refl, sym, ◌∙◌, ap, ap₂, arith, Some, None, length, replicate}
use Rattle.std.specs.Prelude.{if◌then◌else◌, ◌||◌, ◌&&◌, ◌==◌, not}
use Rattle.std.specs.Option.{option_and_then}
use Rattle.std.proofs.lemmas.Bool.{and_parts, ltb-true}
use Rattle.std.proofs.lemmas.List.{append-nil}
use Rattle.ch_cover.specs.Rows.{Row}
use Rattle.ch_ir.specs.declared.program.Array.{Array}
use Rattle.ch_ir.specs.Hash.{hash_of-below}
use Rattle.ch_ir.specs.Machine.{Words, Registers, put_all, given, machine, ends, truth, is_set, cleared}
use Rattle.ch_verdicts.specs.Handed.{IsPass}
use Rattle.ch_verdicts.specs.Agrees.{Agrees}
use Rattle.ch_words.specs.Policies.{Key, touched}
use Rattle.op_moves.specs.Moves.{Move, Compute, moves_made}
use Rattle.op_moves.specs.Made.{machine_made, moves_then}
use Rattle.op_moves.specs.Values.{row_words, put_all_below, put_all_at, computed, finished, set_truth, pos_eq}
use Rattle.op_moves.specs.Sheets.{sheets, sheets_cleared, arrays_at}
use Rattle.op_moves.specs.Steps.{Steps, steps_agree}
use Rattle.op_bloom.specs.Policy.{key_of, passes_bloom}
use Rattle.op_bloom.specs.Program.{end_of, bloom_moves, bloom_arrays}
use Rattle.op_bloom.specs.Order.{bad_below}
use Rattle.op_bloom.specs.Filter.{OfTwoSides, has_side, sides_of}
use Rattle.op_bloom.specs.Run.{filters, bloomed}
use Rattle.op_cache.specs.Lists.{changed, encoded, encoded_cleared, encoded_same, made, made_gated, still, still_is}
use Rattle.op_cache.specs.Run.{lt_truth, moved}
use Rattle.op_cache.specs.InOrder.{columns_there, gate_below}
use Rattle.op_semi.specs.declared.sizes.Sizes.{Sizes}
use Rattle.op_semi.specs.Fine.{IsFine}
use Rattle.op_semi.specs.Policy.{is_passed, passed, inner_key, hash_row, inner_keys, is_listed, prunes}
use Rattle.op_semi.specs.Lists.{short, formed, one_more}
use Rattle.op_semi.specs.Program.{key_word, carried_of, ok_op, row_op, inner_op, list_moves, last_of, listed_op, verdict_op, after_lists, after_bloom, list_arrays, arrays_of, moves_of, program}

-- bit, first: the row's; fails, passes: the Bloom test; inner: its side is 1; kept, has: the gate after the columns, and whether the key is listed
verdict_is : (bit first fails passes inner kept has : Bool) → (bit ≡ true → first ≡ false → fails ≡ not passes) → ((bit && not (first || fails)) && inner ≡ true → kept ≡ not has)
    → not (bit && not (first || fails)) || (((bit && not (first || fails)) && inner) && not kept) ≡ first || (not bit || (not passes || (inner && has)))
verdict_is false true fails passes inner kept has f g = refl
verdict_is false false fails passes inner kept has f g = refl
verdict_is true true fails passes inner kept has f g = refl
verdict_is true false true true inner kept has f g = let bad : true ≡ false = f refl refl in cc
verdict_is true false true false inner kept has f g = refl
verdict_is true false false false inner kept has f g = let bad : false ≡ true = f refl refl in cc
verdict_is true false false true false kept has f g = refl
verdict_is true false false true true kept true f g = let e : kept ≡ false = g refl in rw e refl
verdict_is true false false true true kept false f g = let e : kept ≡ true = g refl in rw e refl

passed_is : (bit first fails passes inner : Bool) → (bit ≡ true → first ≡ false → fails ≡ not passes) → (bit && not (first || fails)) && inner ≡ not first && (inner && (bit && passes))
passed_is false true fails passes inner f = refl
passed_is false false fails passes true f = refl
passed_is false false fails passes false f = refl
passed_is true true fails passes inner f = refl
passed_is true false true true inner f = let bad : true ≡ false = f refl refl in cc
passed_is true false true false true f = refl
passed_is true false true false false f = refl
passed_is true false false false inner f = let bad : false ≡ true = f refl refl in cc
passed_is true false false true true f = refl
passed_is true false false true false f = refl

second_is : (pass : ℕ) → IsPass pass → not (pass == 1) ≡ (pass == 2)
second_is pass (inl e) = rw e refl
second_is pass (inr e) = rw e refl

side_is : (side : ℕ) → side < 2 → not (side == 0) ≡ (side == 1)
side_is zero h = refl
side_is (suc zero) h = refl
side_is (suc (suc s)) h = absurd (omega arith)

and_truth : (a b : Bool) (v : ℤ) → is_set v ≡ b → truth (is_set (truth a) && is_set v) ≡ truth (a && b)
and_truth a b v e = rw (set_truth a, e) refl

filters_length : (left i cells : ℕ) (value : ℕ → ℕ → ℤ) → length (sheets left i cells value) ≡ left
filters_length zero i cells value = refl
filters_length (suc left) i cells value = let e = filters_length left (i + 1) cells value in omega arith

abbrev pub registers_after : Sizes → List (ℕ × Row) → Registers
registers_after d before = filters d.bloom before ++ encoded 1 d.cols d.rows (inner_keys d before)

-- an inner row that passed has its bit set
passed_set : (d : Sizes) (before : List (ℕ × Row)) (x : ℕ × Row) → is_passed d before x ≡ true → x.1.bit ≡ true
passed_set d before x h = (and_parts x.1.bit _ (and_parts (x.1.side == 1) _ (and_parts (x.0 == 2) _ h).1).1).0

-- one row
step_is : (d : Sizes) → IsFine d → (before : List (ℕ × Row)) (x : ℕ × Row) → OfTwoSides before → x.1.side < 2 → IsPass x.0
    → machine (program d) (registers_after d before) (row_words x) ≡ Some (record { prune = prunes d before x; registers = registers_after d (x ∷ before) })
step_is d fine before x sides side pass =
    let arrays : List Array = arrays_of d in
    let w : ℕ = d.bloom.width in
    let e : ℕ = end_of d.bloom in
    let k : Key = inner_key d x.1 in
    let r : ℕ = hash_row d k in
    let lists : ℕ → List Key = inner_keys d before in
    let caches : Registers = encoded 1 d.cols d.rows lists in
    let front : Registers = filters d.bloom (x ∷ before) in
    let first : Bool = x.0 == 1 in
    let passes : Bool = passes_bloom d.bloom before x.1 in
    let run = bloomed d.bloom fine.bloom x before arrays caches (λ a h. (arrays_at d.bloom.hashes (2 * d.bloom.cells) a (list_arrays d) h).1) sides side in
    let ws : Words = run.words in
    let ok : Bool = x.1.bit && not (first || run.fails_) in
    let inside_ : Bool = not (x.1.side == 0) in
    let inner : Bool = ok && inside_ in
    let listed : Bool = is_listed d before x.1 in
    let kept : Bool = still d.cols inner k (lists r) in
    let bad = bad_below d.bloom.hashes (w + 5) (w + 1) (omega arith) in
    let gate_ = gate_below 1 d.cols (e + 3) (e + 2) (omega arith) in
    let all : List ℤ = truth ok ∷ pos r ∷ truth inner ∷ [] in
    let ws3 : Words = put_all ws e all in
    let moves3 : List Move = list_moves d ++ after_lists d in
    let moves2 : List Move = Compute (inner_op d) ∷ moves3 in
    let moves1 : List Move = Compute (row_op d) ∷ moves2 in
    let regs : Registers = front ++ caches in
    let step1 = computed arrays (ok_op d) moves1 ws e [] (truth ok) regs (omega arith) (rw (run.bad_is, run.bit_is) (ap (λ (t : Bool). Some (truth t)) (lt_truth (first || run.fails_) x.1.bit))) in
    let step2 = computed arrays (row_op d) moves2 ws e (truth ok ∷ []) (pos r) regs refl (rw (put_all_below ws e (truth ok ∷ []) (w + 2) (omega arith) ∙ run.key_is) refl) in
    let step3 = computed arrays (inner_op d) moves3 ws e (truth ok ∷ pos r ∷ []) (truth inner) regs refl
    (rw (put_all_at ws e (truth ok ∷ pos r ∷ []) 0 e (omega arith) (omega arith), put_all_below ws e (truth ok ∷ pos r ∷ []) 1 (omega arith) ∙ run.shows 1 (omega arith))
    (ap Some (and_truth ok inside_ (pos x.1.side) (ap not (pos_eq x.1.side 0))))) in
    let key_there : ws3 (w + 2) ≡ Some (key_of d.bloom x.1) = put_all_below ws e all (w + 2) (omega arith) ∙ run.key_is in
    let cols = moved arrays d.cols d.bloom.hashes (e + 3) (e + 2) (e + 1) (key_word d ∷ []) (carried_of d) ws3 front [] d.rows r lists inner k (Some k)
    (λ a p s. (columns_there d.bloom.hashes (record { entries = 2 * d.bloom.cells; cells = 1 }) d.cols d.rows 1 a p s).1)
    (filters_length d.bloom.hashes 0 (2 * d.bloom.cells) _) (omega arith) (omega arith) (omega arith, tt) (hash_of-below 0 k d.rows fine.some)
    (put_all_at ws e all 2 (e + 2) refl (omega arith)) (put_all_at ws e all 1 (e + 1) refl (omega arith)) (rw key_there refl) refl
    (formed d.cols (hash_row d) (inner_key d) (λ y. refl) (passed d before) r)
    (λ t. rw key_there refl) (λ t n. cc) in
    let after : Registers = encoded 1 d.cols d.rows (changed r (made d.cols inner k (Some k) (lists r)) lists) in
    let regs' : Registers = front ++ after in
    let made_ : moves_made arrays (list_moves d) (record { words = ws3; registers = regs }) ≡ Some (record { words = cols.after; registers = regs' }) =
    ap (λ (y : Registers). moves_made arrays (list_moves d) (record { words = ws3; registers = front ++ y })) (sym (append-nil caches))
    ∙ (cols.is ∙ ap (λ (y : Registers). Some (record { words = cols.after; registers = front ++ y })) (append-nil after)) in
    let step4 = moves_then arrays (list_moves d) (after_lists d) (record { words = ws3; registers = regs }) (record { words = cols.after; registers = regs' }) made_ in
    let inner_is : cols.after (e + 2) ≡ Some (truth inner) = cols.kept (e + 2) (omega arith) ∙ put_all_at ws e all 2 (e + 2) refl (omega arith) in
    let ok_is : cols.after e ≡ Some (truth ok) = cols.kept e (omega arith) ∙ put_all_at ws e all 0 e (omega arith) (omega arith) in
    let step5 = computed arrays (listed_op d) (Compute (verdict_op d) ∷ []) cols.after (last_of d) [] (truth (inner && not kept)) regs' (omega arith)
    (rw (cols.gate_is, inner_is) (ap (λ (t : Bool). Some (truth t)) (lt_truth kept inner))) in
    let ws5 : Words = put_all cols.after (last_of d) (truth (inner && not kept) ∷ []) in
    let end_ = finished arrays (last_of d + 1) e (last_of d) ws5 regs' ok (inner && not kept)
    (put_all_below cols.after (last_of d) (truth (inner && not kept) ∷ []) e (omega arith) ∙ ok_is) (put_all_at cols.after (last_of d) (truth (inner && not kept) ∷ []) 0 (last_of d) (omega arith) (omega arith)) in
    let start = moves_then arrays (bloom_moves d.bloom) (after_bloom d) (record { words = given w (row_words x); registers = filters d.bloom before ++ caches }) (record { words = ws; registers = regs }) run.is in
    let few : length (lists r) ≤ d.cols = short d.cols (hash_row d) (inner_key d) (passed d before) r in
    let kept_is : inner ≡ true → kept ≡ not listed = λ t. still_is d.cols inner k (lists r) few ∙ ap (λ (u : Bool). u && not listed) t in
    let verdict : not ok || (inner && not kept) ≡ prunes d before x =
    verdict_is x.1.bit first run.fails_ passes inside_ kept listed run.says kept_is
    ∙ ap (λ (s : Bool). first || (not x.1.bit || (not passes || (s && listed)))) (side_is x.1.side side) in
    let inner_means : inner ≡ is_passed d before x =
    passed_is x.1.bit first run.fails_ passes inside_ run.says
    ∙ ap₂ (λ (p s : Bool). p && (s && (x.1.bit && passes))) (second_is x.0 pass) (side_is x.1.side side) in
    let new : after ≡ encoded 1 d.cols d.rows (inner_keys d (x ∷ before)) =
    encoded_same 1 d.cols d.rows (changed r (made d.cols inner k (Some k) (lists r)) lists) (inner_keys d (x ∷ before))
    (λ q. ap (λ (l : List Key). changed r l lists q) (made_gated d.cols inner k (lists r) few ∙ ap (λ (t : Bool). if t then touched d.cols k (lists r) else lists r) inner_means)
    ∙ one_more d.cols (hash_row d) (inner_key d) x (passed d before) (is_passed d before x) (passed_set d before x) q) in
    machine_made w arrays (moves_of d) (last_of d + 1) (filters d.bloom before ++ caches) (row_words x)
    ∙ (ap (option_and_then (ends (last_of d + 1))) (start ∙ (step1 ∙ (step2 ∙ (step3 ∙ (step4 ∙ step5)))))
    ∙ (end_ ∙ ap₂ (λ (t : Bool) (y : Registers). Some (record { prune = t; registers = front ++ y })) verdict new))

cleared_both : (xs ys : List Array) → cleared (xs ++ ys) ≡ cleared xs ++ cleared ys
cleared_both [] ys = refl
cleared_both (x ∷ xs) ys = ap (λ (rest : Registers). replicate x.entries (replicate x.cells (pos 0)) ∷ rest) (cleared_both xs ys)

semi_steps : (d : Sizes) → IsFine d → Steps has_side (program d) (prunes d) (registers_after d)
semi_steps d fine = record {
  begun = ap₂ (λ (a b : Registers). a ++ b) (sheets_cleared d.bloom.hashes 0 (2 * d.bloom.cells)) (encoded_cleared 1 d.cols d.rows) ∙ sym (cleared_both (bloom_arrays d.bloom) (list_arrays d));
  step = λ before x h t. step_is d fine before x (sides_of before h) (ltb-true x.1.side 2 t.1) t.0;
}

-- from cleared registers the program's verdicts are the policy's
pub semi_agrees : (d : Sizes) → IsFine d → Agrees has_side (program d) None (cleared (program d).arrays) (prunes d)
semi_agrees d fine = steps_agree has_side (program d) (prunes d) (registers_after d) (semi_steps d fine)
