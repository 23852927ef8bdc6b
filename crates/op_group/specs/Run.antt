-- The run of the columns.
use Rattle.std.proofs.Common.{◌≡◌, ◌<◌, ◌≤◌, ℕ, zero, suc, ◌+◌, ◌^◌, Bool, true, false, List, [], ◌∷◌, ◌++◌, ℤ, pos, ◌+ℤ◌, ◌≤ℤ◌, int_le, refl, sym, ◌∙◌, ap, ap₂, arith, Option, Some, None, length, length-append, get_or, set, nat_eq, replicate}
use Rattle.std.specs.Prelude.{if◌then◌else◌, ◌&&◌, ◌||◌, not}
use Rattle.std.proofs.lemmas.List.{append_assoc, length_push, length-replicate}
use Rattle.ch_ir.specs.declared.program.Op.{Op}
use Rattle.ch_ir.specs.declared.program.Array.{Array}
use Rattle.ch_ir.specs.Machine.{Words, Registers, State, cells_of, exec_access, is_set, op_to, op_value, put, put_all, truth}
use Rattle.ch_words.specs.Policies.{Key}
use Rattle.op_moves.specs.Entries.{entries, entries_at, entries_set, entries_length}
use Rattle.op_moves.specs.Moves.{Move, Compute, Reach, moves_made}
use Rattle.op_moves.specs.Values.{computed, or_truth, put_all_at, put_all_below, put_all_push, reached, set_truth}
use Rattle.op_cache.specs.Run.{AllBelow, IsKept, below_later, lt_truth}
use Rattle.op_group.specs.Policy.{Pair}
use Rattle.op_group.specs.Program.{bad_after, bad_op, beat_op, column, columns, least_op, open_op, told}
use Rattle.op_group.specs.Lists.{AreFormed}
use Rattle.op_group.specs.Encoding.{best_cell, changed, encoded, encoded_made, entry_of, first_of, is_hit, new_cell, opens, rest_of, settled, some_beat}
use Rattle.op_group.specs.Column.{IsFormed, Reads, best_at, column_runs, entry_long, zero_best}

-- values behind some cells

get_behind : (cells more : List ℤ) (j : ℕ) → get_or (cells ++ more) (length cells + j) (pos 0) ≡ get_or more j (pos 0)
get_behind [] more j = ap (λ (i : ℕ). get_or more i (pos 0)) (omega arith)
get_behind (x ∷ cells) more j = let e : suc (length cells) + j ≡ suc (length cells + j) = omega arith in rw e (get_behind cells more j)

get_front : (cells more : List ℤ) (i : ℕ) → i < length cells → get_or (cells ++ more) i (pos 0) ≡ get_or cells i (pos 0)
get_front [] more i h = absurd (omega arith)
get_front (x ∷ cells) more zero h = refl
get_front (x ∷ cells) more (suc i) h = get_front cells more i (omega arith)

behind : (ws : Words) (to : ℕ) (cells more : List ℤ) (j w : ℕ) → w ≡ to + length cells + j → j < length more → put_all ws to (cells ++ more) w ≡ Some (get_or more j (pos 0))
behind ws to cells more j w e h = put_all_at ws to (cells ++ more) (length cells + j) w (omega arith) (omega (arith, length-append cells more)) ∙ ap Some (get_behind cells more j)

in_front : (ws : Words) (to : ℕ) (cells more : List ℤ) (i w : ℕ) → w ≡ to + i → i < length cells → put_all ws to (cells ++ more) w ≡ Some (get_or cells i (pos 0))
in_front ws to cells more i w e h = put_all_at ws to (cells ++ more) i w e (omega (arith, length-append cells more)) ∙ ap Some (get_front cells more i h)

computed_behind : (arrays : List Array) (op : Op) (moves : List Move) (ws : Words) (to : ℕ) (cells more : List ℤ) (v : ℤ) (regs : Registers)
    → op_to op ≡ to + length cells + length more → op_value (put_all ws to (cells ++ more)) op ≡ Some v
    → moves_made arrays (Compute op ∷ moves) (record { words = put_all ws to (cells ++ more); registers = regs })
    ≡ moves_made arrays moves (record { words = put_all ws to (cells ++ (more ++ v ∷ [])); registers = regs })
computed_behind arrays op moves ws to cells more v regs e o =
    computed arrays op moves ws to (cells ++ more) v regs (omega (arith, length-append cells more, e)) o
    ∙ ap (λ (vs : List ℤ). moves_made arrays moves (record { words = put_all ws to vs; registers = regs })) (append_assoc cells more (v ∷ []))

and_truth : (a b : Bool) → truth (is_set (truth a) && is_set (truth b)) ≡ truth (a && b)
and_truth a b = rw (set_truth a, set_truth b) refl

pub first_formed : (n : ℕ) (l : List Pair) → AreFormed n l → IsFormed n (first_of l)
first_formed n [] f = tt
first_formed n (p ∷ ps) f = f.0

rest_formed : (n : ℕ) (l : List Pair) → AreFormed n l → AreFormed n (rest_of l)
rest_formed n [] f = tt
rest_formed n (p ∷ ps) f = f.1

pub reads_kept : (base : ℕ) (ws after : Words) (words : List ℕ) (vs : List ℤ) → IsKept base ws after → AllBelow base words → Reads ws words vs → Reads after words vs
reads_kept base ws after [] [] h b r = tt
reads_kept base ws after [] (v ∷ vs) h b r = absurd r
reads_kept base ws after (w ∷ words) [] h b r = absurd r
reads_kept base ws after (w ∷ words) (v ∷ vs) h b r = (h w b.0 ∙ r.0, reads_kept base ws after words vs h b.1 r.1)

cells_long : (n : ℕ) (c : Option Pair) (g : Bool) → IsFormed n c → length (if g then entry_of n c else replicate (n + 2) (pos 0)) ≡ n + 2
cells_long n c true f = entry_long n c f
cells_long n c false f = length-replicate (n + 2) (pos 0)

cells_best : (n : ℕ) (c : Option Pair) (g : Bool) → IsFormed n c → get_or (if g then entry_of n c else replicate (n + 2) (pos 0)) (n + 1) (pos 0) ≡ (if g then best_cell c else pos 0)
cells_best n c true f = best_at n c f
cells_best n c false f = zero_best n

turned : (a b c : Bool) → ((a || b) || c) ≡ (a || (b || c))
turned true b c = refl
turned false b c = refl

no_more : (x : Bool) → x ≡ (x || false)
no_more true = refl
no_more false = refl

-- the four ops behind an access: cells, hit, and then these
told_moved : (arrays : List Array) (n base gate value bad : ℕ) (moves : List Move) (ws : Words) (cells : List ℤ) (u best : ℤ) (hit b g : Bool) (regs : Registers)
    → length cells ≡ n + 2 → gate < base → value < base → bad < base → ws gate ≡ Some (truth g) → ws value ≡ Some u → ws bad ≡ Some (truth b) → get_or cells (n + 1) (pos 0) ≡ best
    → moves_made arrays (told n base gate value bad ++ moves) (record { words = put_all ws base (cells ++ truth hit ∷ []); registers = regs })
    ≡ moves_made arrays moves (record {
      words = put_all ws base (cells ++ (truth hit ∷ truth (int_le u best) ∷ truth (hit && int_le u best) ∷ truth (b || (hit && int_le u best)) ∷ truth (g && not hit) ∷ []));
      registers = regs;
    })
told_moved arrays n base gate value bad moves ws cells u best hit b g regs long gb vb bb eg eu eb ec =
    let le : Bool = int_le u best in
    let one : List ℤ = truth hit ∷ [] in
    let two : List ℤ = truth hit ∷ truth le ∷ [] in
    let three : List ℤ = truth hit ∷ truth le ∷ truth (hit && le) ∷ [] in
    let four : List ℤ = truth hit ∷ truth le ∷ truth (hit && le) ∷ truth (b || (hit && le)) ∷ [] in
    let moves3 : List Move = Compute (open_op n base gate) ∷ moves in
    let moves2 : List Move = Compute (bad_op n base bad) ∷ moves3 in
    let moves1 : List Move = Compute (beat_op n base) ∷ moves2 in
    computed_behind arrays (least_op n base value) moves1 ws base cells one (truth le) regs (omega arith)
    (rw (put_all_below ws base (cells ++ one) value vb ∙ eu, in_front ws base cells one (n + 1) (base + n + 1) (omega arith) (omega arith) ∙ ap Some ec) refl)
    ∙ (computed_behind arrays (beat_op n base) moves2 ws base cells two (truth (hit && le)) regs (omega arith)
    (rw (behind ws base cells two 0 (base + n + 2) (omega arith) (omega arith), behind ws base cells two 1 (base + n + 3) (omega arith) (omega arith)) (ap Some (and_truth hit le)))
    ∙ (computed_behind arrays (bad_op n base bad) moves3 ws base cells three (truth (b || (hit && le))) regs (omega arith)
    (rw (put_all_below ws base (cells ++ three) bad bb ∙ eb, behind ws base cells three 2 (base + n + 4) (omega arith) (omega arith)) (ap Some (or_truth b (hit && le))))
    ∙ computed_behind arrays (open_op n base gate) moves ws base cells four (truth (g && not hit)) regs (omega arith)
    (rw (behind ws base cells four 0 (base + n + 2) (omega arith) (omega arith), put_all_below ws base (cells ++ four) gate gb ∙ eg) (ap (λ (x : Bool). Some (truth x)) (lt_truth hit g)))))

-- what columns leave
pub record Settled (arrays : List Array) (left array base gate row value bad : ℕ) (words : List ℕ) (ws : Words) (front more : Registers) (rows r : ℕ) (lists : ℕ → List Pair) (g b : Bool) (k : Key) (v : ℤ) : Type 0 where
  pub after : Words
  pub is : moves_made arrays (columns left array base gate row value bad words) (record { words = ws; registers = front ++ (encoded (length words) left rows lists ++ more) })
      ≡ Some (record { words = after; registers = front ++ (encoded (length words) left rows (changed r (settled left g k v (lists r)) lists) ++ more) })
  pub bad_is : after (bad_after (length words) left base bad) ≡ Some (truth (b || some_beat left g k v (lists r)))
  pub kept : IsKept base ws after

pub settles : (arrays : List Array) (left array base gate row value bad : ℕ) (words : List ℕ) (ws : Words) (front more : Registers) (rows r : ℕ) (lists : ℕ → List Pair) (g b : Bool) (k : Key) (v : ℤ)
    → ((a : ℕ) → array ≤ a → a < array + left → cells_of arrays a ≡ length words + 2) → length front ≡ array → gate < base → row < base → value < base → bad < base → AllBelow base words → r < rows
    → ws gate ≡ Some (truth g) → ws row ≡ Some (pos r) → ws value ≡ Some (pos (2 ^ 61) +ℤ v) → ws bad ≡ Some (truth b) → Reads ws words k → AreFormed (length words) (lists r)
    → pos 0 ≤ℤ (pos (2 ^ 61) +ℤ v)
    → Settled arrays left array base gate row value bad words ws front more rows r lists g b k v
settles arrays zero array base gate row value bad words ws front more rows r lists g b k v ce lf gb rb vb bb kb inside eg er ev eb reads formed above =
    record { after = ws; is = refl; bad_is = eb ∙ ap (λ (x : Bool). Some (truth x)) (no_more b); kept = λ w h. refl }
settles arrays (suc left) array base gate row value bad words ws front more rows r lists g b k v ce lf gb rb vb bb kb inside eg er ev eb reads formed above =
    let n : ℕ = length words in
    let l : List Pair = lists r in
    let c : Option Pair = first_of l in
    let f = first_formed n l formed in
    let u : ℤ = pos (2 ^ 61) +ℤ v in
    let hit : Bool = g && is_hit k c in
    let cells : List ℤ = if g then entry_of n c else replicate (n + 2) (pos 0) in
    let best : ℤ = if g then best_cell c else pos 0 in
    let long : length cells ≡ n + 2 = cells_long n c g f in
    let beat : Bool = hit && int_le u best in
    let all : List ℤ = truth hit ∷ truth (int_le u best) ∷ truth beat ∷ truth (b || beat) ∷ truth (g && not hit) ∷ [] in
    let tail : List Move = columns left (array + 1) (base + n + 7) (base + n + 6) row value (base + n + 5) words in
    let heads : ℕ → List ℤ = λ q. entry_of n (first_of (lists q)) in
    let made : List ℤ = entry_of n (new_cell left g k v c) in
    let col : List (List ℤ) = entries rows heads in
    let new : List (List ℤ) = entries rows (λ q. if nat_eq q r then made else heads q) in
    let rest : Registers = encoded n left rows (λ q. rest_of (lists q)) in
    let regs : Registers = front ++ (col ∷ rest ++ more) in
    let regs' : Registers = front ++ (new ∷ rest ++ more) in
    let s : State = record { words = ws; registers = regs } in
    let t : State = record { words = put (put_all ws base cells) (base + n + 2) (truth hit); registers = front ++ (set col r made ∷ rest ++ more) } in
    let access : exec_access (n + 2) (column left array base gate row value words) s ≡ Some t =
    column_runs ws words k value v reads ev left array base gate row front (rest ++ more) col r c g lf eg er (omega (arith, entries_length rows heads, inside)) (entries_at rows heads r inside) f above in
    let step1 = reached arrays (column left array base gate row value words) (told n base gate value bad ++ tail) s t
    (ap (λ (m : ℕ). exec_access m (column left array base gate row value words) s) (ce array (omega arith) (omega arith)) ∙ access)
    ∙ ap₂ (λ (w : Words) (x : List (List ℤ)). moves_made arrays (told n base gate value bad ++ tail) (record { words = w; registers = front ++ (x ∷ rest ++ more) }))
    (put_all_push ws base cells (truth hit) (base + n + 2) (omega arith)) (entries_set rows heads r made inside) in
    let step2 = told_moved arrays n base gate value bad tail ws cells u best hit b g regs' long gb vb bb eg ev eb (cells_best n c g f) in
    let ws' : Words = put_all ws base (cells ++ all) in
    let below : IsKept base ws ws' = λ w h. put_all_below ws base (cells ++ all) w h in
    let run = settles arrays left (array + 1) (base + n + 7) (base + n + 6) row value (base + n + 5) words ws' (front ++ new ∷ []) more rows r (λ q. rest_of (lists q)) (g && not hit) (b || beat) k v
    (λ a p q. ce a (omega arith) (omega arith)) (length_push front new ∙ omega arith) (omega arith) (omega arith) (omega arith) (omega arith) (below_later base (base + n + 7) words (omega arith) kb) inside
    (behind ws base cells all 4 (base + n + 6) (omega arith) (omega arith)) (below row rb ∙ er) (below value vb ∙ ev) (behind ws base cells all 3 (base + n + 5) (omega arith) (omega arith))
    (reads_kept base ws ws' words k below kb reads) (rest_formed n l formed) above in
    let after : Registers = encoded n left rows (changed r (settled left (g && not hit) k v (rest_of l)) (λ q. rest_of (lists q))) in
    record {
      after = run.after;
      is = step1 ∙ (step2 ∙ (ap (λ (x : Registers). moves_made arrays tail (record { words = ws'; registers = x })) (sym (append_assoc front (new ∷ []) (rest ++ more)))
          ∙ (run.is ∙ (ap (λ (x : Registers). Some (record { words = run.after; registers = x })) (append_assoc front (new ∷ []) (after ++ more))
          ∙ ap (λ (x : Registers). Some (record { words = run.after; registers = front ++ (x ++ more) })) (encoded_made n left rows lists r g k v)))));
      bad_is = run.bad_is ∙ ap (λ (x : Bool). Some (truth x)) (turned b beat (some_beat left (g && not hit) k v (rest_of l)));
      kept = λ w h. run.kept w (omega arith) ∙ below w h;
    }
