-- The run of the columns.
use Rattle.std.proofs.Common.{◌≡◌, ◌<◌, ◌≤◌, ℕ, zero, suc, ◌+◌, Bool, true, false, List, [], ◌∷◌, ◌++◌, ℤ, pos, inl, inr, refl, sym, ◌∙◌, ap, ap₂, arith, Option, Some, None, length, get_or, set, nat_eq, map, replicate, take}
use Rattle.std.specs.Prelude.{if◌then◌else◌, ◌&&◌, not, int_lt}
use Rattle.std.specs.Ordering.{int_cmp, int_eq, is_eq}
use Rattle.std.specs.Cmp.Lexicographic.{slice_cmp}
use Rattle.std.proofs.lemmas.Bool.{cases_Bool, lt-ltb, false_from_ne_true}
use Rattle.std.proofs.lemmas.Bool.Decides.{Decides-int_eq}
use Rattle.std.proofs.lemmas.List.{get_or_at, set_at, append_assoc, length_push, length-replicate, take_all}
use Rattle.ch_lists.proofs.Orders.{eq_exact, eq_itself, ints_exact, lists_exact}
use Rattle.ch_ir.specs.declared.program.Operand.{Operand}
use Rattle.ch_ir.specs.declared.program.Operand.TheVariants.{Word}
use Rattle.ch_ir.specs.declared.program.Test.TheVariants.{KeyEq}
use Rattle.ch_ir.specs.declared.program.Array.{Array}
use Rattle.ch_ir.specs.Machine.{Words, Registers, State, put, put_all, read, read_all, read_words, exec_access, holds_at, same_words, truth, cells_of, update_all, cons_read}
use Rattle.ch_words.specs.Policies.{Key}
use Rattle.op_moves.specs.Entries.{entries, entries_at, entries_set, entries_length}
use Rattle.op_moves.specs.Moves.{Move, Compute, moves_made}
use Rattle.op_moves.specs.Values.{put_all_below, put_all_at, put_all_push, put_same, computed, reached}
use Rattle.op_cache.specs.Emitted.{column, gate_op, columns, gate_after, words_from, put_each}
use Rattle.op_cache.specs.Lists.{first_of, rest_of, entry_of, entry_long, encoded, encoded_same, encoded_made, changed, unchanged, is_first, made, made_shut, still, IsFormed, AreFormed, first_formed, rest_formed}

pub same_is : (xs ys : List ℤ) → same_words xs ys ≡ is_eq (slice_cmp int_cmp xs ys)
same_is xs ys = elim (cases_Bool (is_eq (slice_cmp int_cmp xs ys))) [
  | inl t ↦ ap (same_words xs) (sym (eq_exact (slice_cmp int_cmp) (lists_exact int_cmp ints_exact) xs ys t)) ∙ (itself xs ∙ sym t)
  | inr f ↦ false_from_ne_true (same_words xs ys) (λ h. cc (f, ap (λ (z : List ℤ). is_eq (slice_cmp int_cmp xs z)) (sym (alike xs ys h)) ∙ eq_itself (slice_cmp int_cmp) (lists_exact int_cmp ints_exact) xs)) ∙ sym f
]
  where
    itself : (zs : List ℤ) → same_words zs zs ≡ true
    itself [] = refl
    itself (z ∷ zs) = rw ((Decides-int_eq z z).1 refl) (itself zs)

    alike : (xs ys : List ℤ) → same_words xs ys ≡ true → xs ≡ ys
    alike [] [] h = refl
    alike [] (b ∷ ys) h = cc
    alike (a ∷ xs) [] h = cc
    alike (a ∷ xs) (b ∷ ys) h = go (int_eq a b) refl h (alike xs ys)
      where
        go : (t : Bool) → int_eq a b ≡ t → (t && same_words xs ys) ≡ true → (same_words xs ys ≡ true → xs ≡ ys) → a ∷ xs ≡ b ∷ ys
        go true e h ih = ap₂ (λ (z : ℤ) (zs : List ℤ). z ∷ zs) ((Decides-int_eq a b).0 e) (ih h)
        go false e h ih = cc

pub hit_is : (n : ℕ) (k : Key) (o : Option Key) → IsFormed n o → holds_at (KeyEq n) k (entry_of n o) ≡ is_first k o
hit_is n k None f = refl
hit_is n k (Some x) f = ap (λ (xs : List ℤ). same_words xs k) (take_all n x (omega arith)) ∙ same_is x k

pub lt_truth : (a b : Bool) → int_lt (truth a) (truth b) ≡ b && not a
lt_truth true true = refl
lt_truth true false = refl
lt_truth false true = refl
lt_truth false false = refl

pub read_each : (ws : Words) (words : List ℕ) → read_all ws (map Word words) ≡ read_words ws words
read_each ws [] = refl
read_each ws (w ∷ words) = ap (λ (o : Option (List ℤ)). cons_read (ws w) o) (read_each ws words)

-- the carried values on the old ones
puts : (ws : Words) (carried : List Operand) (cells new : List ℤ) → length cells ≡ length carried → read_all ws carried ≡ Some new → update_all ws (put_each carried) cells ≡ Some new
puts ws [] [] new l e = e
puts ws [] (x ∷ cells) new l e = absurd (omega arith)
puts ws (a ∷ carried) [] new l e = absurd (omega arith)
puts ws (a ∷ carried) (x ∷ cells) new l e = go (read ws a) (read_all ws carried) e (λ vs f. puts ws carried cells vs (omega arith) f)
  where
    go : (o : Option ℤ) (os : Option (List ℤ)) → cons_read o os ≡ Some new → ((vs : List ℤ) → os ≡ Some vs → update_all ws (put_each carried) cells ≡ Some vs)
        → cons_read o (update_all ws (put_each carried) cells) ≡ Some new
    go None os e ih = cc
    go (Some v) None e ih = cc
    go (Some v) (Some vs) e ih = rw (ih vs refl) e

-- values just put are read again
pub read_from : (ws : Words) (to : ℕ) (cells more : List ℤ) → read_all (put_all ws to (cells ++ more)) (words_from to (length cells)) ≡ Some cells
read_from ws to [] more = refl
read_from ws to (v ∷ cells) more =
    rw (put_all_below (put ws to v) (to + 1) (cells ++ more) to (omega arith), put_same ws to v to refl, read_from (put ws to v) (to + 1) cells more) refl

-- a shut column
column_shut : (array base gate row : ℕ) (words : List ℕ) (carried : List Operand) (ws : Words) (regs : Registers) → ws gate ≡ Some (truth false)
    → exec_access (length words + 1) (column array base gate row words carried) (record { words = ws; registers = regs })
    ≡ Some (record { words = put (put_all ws base (replicate (length words + 1) (pos 0))) (base + length words + 1) (truth false); registers = regs })
column_shut array base gate row words carried ws regs e = rw e refl

-- an open one, at an entry of a mark and a key
column_open : (array base gate row : ℕ) (words : List ℕ) (carried : List Operand) (ws : Words) (regs : Registers) (r : ℕ) (col : List (List ℤ)) (k : Key) (new cells : List ℤ) (hit : Bool)
    → ws gate ≡ Some (truth true) → ws row ≡ Some (pos r) → read_words ws words ≡ Some k → read_all ws carried ≡ Some new → length cells ≡ length carried
    → get_or regs array [] ≡ col → get_or col r [] ≡ cells → r < length col → holds_at (KeyEq (length words)) k cells ≡ hit
    → exec_access (length words + 1) (column array base gate row words carried) (record { words = ws; registers = regs })
    ≡ Some (record { words = put (put_all ws base cells) (base + length words + 1) (truth hit); registers = set regs array (set col r new) })
column_open array base gate row words carried ws regs r col k new cells true eg er ek em lc eo ee lt eh =
    rw (eg, er, eo, lt-ltb r (length col) lt, read_each ws words ∙ ek, eo, ee, eh, puts ws carried cells new lc em) refl
column_open array base gate row words carried ws regs r col k new cells false eg er ek em lc eo ee lt eh =
    rw (eg, er, eo, lt-ltb r (length col) lt, read_each ws words ∙ ek, eo, ee, eh, puts ws carried cells new lc em) refl

none_first : (l : List Key) → first_of l ≡ None → rest_of l ≡ []
none_first [] h = refl
none_first (x ∷ xs) h = cc

pub from_long : (to n : ℕ) → length (words_from to n) ≡ n
from_long to zero = refl
from_long to (suc n) = ap suc (from_long (to + 1) n)

abbrev pub AllBelow : ℕ → List ℕ → Type 0
AllBelow n [] = Unit {0}
AllBelow n (w ∷ words) = (w < n) × AllBelow n words

pub below_later : (n m : ℕ) (words : List ℕ) → n ≤ m → AllBelow n words → AllBelow m words
below_later n m [] h b = tt
below_later n m (w ∷ words) h b = let first = b.0 in (omega arith, below_later n m words h b.1)

pub from_push : (to n : ℕ) → words_from to (n + 1) ≡ words_from to n ++ Word (to + n) ∷ []
from_push to zero = ap (λ (w : ℕ). Word w ∷ []) (omega arith)
from_push to (suc n) = let e : suc n + 1 ≡ suc (n + 1) = omega arith in rw e (ap (λ (rest : List Operand). Word to ∷ rest) (from_push (to + 1) n ∙ ap (λ (w : ℕ). words_from (to + 1) n ++ Word w ∷ []) (omega arith)))

-- words in front of a number stay
abbrev pub IsKept : ℕ → Words → Words → Type 0
IsKept base ws after = (w : ℕ) → w < base → after w ≡ ws w

read_kept : (base : ℕ) (ws after : Words) (words : List ℕ) → IsKept base ws after → AllBelow base words → read_words after words ≡ read_words ws words
read_kept base ws after [] h b = refl
read_kept base ws after (w ∷ words) h b = ap₂ cons_read (h w b.0) (read_kept base ws after words h b.1)

-- what columns leave
pub record Moved (arrays : List Array) (left array base gate row : ℕ) (words : List ℕ) (carried : List Operand) (ws : Words) (front more : Registers) (rows r : ℕ) (lists : ℕ → List Key) (bit : Bool) (k : Key) (c : Option Key) : Type 0 where
  pub after : Words
  pub is : moves_made arrays (columns left array base gate row words carried) (record { words = ws; registers = front ++ (encoded (length words) left rows lists ++ more) })
      ≡ Some (record { words = after; registers = front ++ (encoded (length words) left rows (changed r (made left bit k c (lists r)) lists) ++ more) })
  pub gate_is : after (gate_after (length words) left base gate) ≡ Some (truth (still left bit k (lists r)))
  pub kept : IsKept base ws after

pub moved : (arrays : List Array) (left array base gate row : ℕ) (words : List ℕ) (carried : List Operand) (ws : Words) (front more : Registers) (rows r : ℕ) (lists : ℕ → List Key) (bit : Bool) (k : Key) (c : Option Key)
    → ((a : ℕ) → array ≤ a → a < array + left → cells_of arrays a ≡ length words + 1) → length front ≡ array → gate < base → row < base → AllBelow base words → r < rows
    → ws gate ≡ Some (truth bit) → ws row ≡ Some (pos r) → read_words ws words ≡ Some k → length carried ≡ length words + 1 → AreFormed (length words) (lists r)
    → (bit ≡ true → read_all ws carried ≡ Some (entry_of (length words) c)) → (bit ≡ true → c ≡ None → lists r ≡ [])
    → Moved arrays left array base gate row words carried ws front more rows r lists bit k c
moved arrays zero array base gate row words carried ws front more rows r lists bit k c ce lf gb rb kb inside eg er ek lc formed em none =
    record { after = ws; is = refl; gate_is = eg; kept = λ w h. refl }
moved arrays (suc left) array base gate row words carried ws front more rows r lists false k c ce lf gb rb kb inside eg er ek lc formed em none =
    let n : ℕ = length words in
    let cells : List ℤ = replicate (n + 1) (pos 0) in
    let long : length cells ≡ n + 1 = length-replicate (n + 1) (pos 0) in
    let old : List ℤ = cells ++ truth false ∷ [] in
    let all : List ℤ = old ++ truth false ∷ [] in
    let long_old : length old ≡ n + 2 = length_push cells (truth false) ∙ omega arith in
    let long_all : length all ≡ n + 3 = length_push old (truth false) ∙ omega arith in
    let tail : List Move = columns left (array + 1) (base + n + 3) (base + n + 2) row words (words_from base (n + 1)) in
    let col : List (List ℤ) = entries rows (λ q. entry_of n (first_of (lists q))) in
    let rest : Registers = encoded n left rows (λ q. rest_of (lists q)) in
    let regs : Registers = front ++ (col ∷ rest ++ more) in
    let s : State = record { words = ws; registers = regs } in
    let t : State = record { words = put (put_all ws base cells) (base + n + 1) (truth false); registers = regs } in
    let step1 = reached arrays (column array base gate row words carried) (Compute (gate_op n base gate) ∷ tail) s t
    (ap (λ (m : ℕ). exec_access m (column array base gate row words carried) s) (ce array (omega arith) (omega arith)) ∙ column_shut array base gate row words carried ws regs eg)
    ∙ ap (λ (w : Words). moves_made arrays (Compute (gate_op n base gate) ∷ tail) (record { words = w; registers = regs })) (put_all_push ws base cells (truth false) (base + n + 1) (omega arith)) in
    let hit_word : put_all ws base old (base + n + 1) ≡ Some (truth false) = put_all_at ws base old (n + 1) (base + n + 1) (omega arith) (omega arith) ∙ ap Some (get_or_at cells (truth false) [] (pos 0) (n + 1) long) in
    let step2 = computed arrays (gate_op n base gate) tail ws base old (truth false) regs (omega arith)
    (rw (hit_word, put_all_below ws base old gate gb ∙ eg) refl) in
    let gate_word : put_all ws base all (base + n + 2) ≡ Some (truth false) = put_all_at ws base all (n + 2) (base + n + 2) (omega arith) (omega arith) ∙ ap Some (get_or_at old (truth false) [] (pos 0) (n + 2) long_old) in
    let below : IsKept base ws (put_all ws base all) = λ w h. put_all_below ws base all w h in
    let run = moved arrays left (array + 1) (base + n + 3) (base + n + 2) row words (words_from base (n + 1)) (put_all ws base all) (front ++ col ∷ []) more rows r (λ q. rest_of (lists q)) false k (first_of (lists r))
    (λ a p q. ce a (omega arith) (omega arith)) (length_push front col ∙ omega arith) (omega arith) (omega arith) (below_later base (base + n + 3) words (omega arith) kb) inside
    gate_word (below row rb ∙ er) (read_kept base ws (put_all ws base all) words below kb ∙ ek) (from_long base (n + 1)) (rest_formed n (lists r) formed) (λ f. cc) (λ f. cc) in
    let same : encoded n left rows (changed r (made left false k (first_of (lists r)) (rest_of (lists r))) (λ q. rest_of (lists q))) ≡ rest =
    encoded_same n left rows (changed r (made left false k (first_of (lists r)) (rest_of (lists r))) (λ q. rest_of (lists q))) (λ q. rest_of (lists q))
    (λ q. ap (λ (l : List Key). changed r l (λ q. rest_of (lists q)) q) (made_shut left k (first_of (lists r)) (rest_of (lists r))) ∙ unchanged r (λ q. rest_of (lists q)) q) in
    let whole : col ∷ rest ≡ encoded n (suc left) rows (changed r (lists r) lists) = encoded_same n (suc left) rows lists (changed r (lists r) lists) (λ q. sym (unchanged r lists q)) in
    record {
      after = run.after;
      is = step1 ∙ (step2 ∙ (ap (λ (x : Registers). moves_made arrays tail (record { words = put_all ws base all; registers = x })) (sym (append_assoc front (col ∷ []) (rest ++ more)))
          ∙ (run.is ∙ (ap (λ (x : Registers). Some (record { words = run.after; registers = (front ++ col ∷ []) ++ (x ++ more) })) same
          ∙ (ap (λ (x : Registers). Some (record { words = run.after; registers = x })) (append_assoc front (col ∷ []) (rest ++ more))
          ∙ ap (λ (x : Registers). Some (record { words = run.after; registers = front ++ (x ++ more) })) whole)))));
      gate_is = run.gate_is;
      kept = λ w h. run.kept w (omega arith) ∙ below w h;
    }
moved arrays (suc left) array base gate row words carried ws front more rows r lists true k c ce lf gb rb kb inside eg er ek lc formed em none =
    let n : ℕ = length words in
    let l : List Key = lists r in
    let hit : Bool = is_first k (first_of l) in
    let cells : List ℤ = entry_of n (first_of l) in
    let long : length cells ≡ n + 1 = entry_long n (first_of l) (first_formed n l formed) in
    let old : List ℤ = cells ++ truth hit ∷ [] in
    let all : List ℤ = old ++ truth (not hit) ∷ [] in
    let long_old : length old ≡ n + 2 = length_push cells (truth hit) ∙ omega arith in
    let long_all : length all ≡ n + 3 = length_push old (truth (not hit)) ∙ omega arith in
    let tail : List Move = columns left (array + 1) (base + n + 3) (base + n + 2) row words (words_from base (n + 1)) in
    let heads : ℕ → List ℤ = λ q. entry_of n (first_of (lists q)) in
    let col : List (List ℤ) = entries rows heads in
    let new : List (List ℤ) = entries rows (λ q. if nat_eq q r then entry_of n c else entry_of n (first_of (lists q))) in
    let rest : Registers = encoded n left rows (λ q. rest_of (lists q)) in
    let regs : Registers = front ++ (col ∷ rest ++ more) in
    let regs' : Registers = front ++ (new ∷ rest ++ more) in
    let s : State = record { words = ws; registers = regs } in
    let t : State = record { words = put (put_all ws base cells) (base + n + 1) (truth hit); registers = set regs array (set col r (entry_of n c)) } in
    let put_in : set regs array (set col r (entry_of n c)) ≡ regs' =
    set_at front col (rest ++ more) (set col r (entry_of n c)) array lf ∙ ap (λ (x : List (List ℤ)). front ++ (x ∷ rest ++ more)) (entries_set rows heads r (entry_of n c) inside) in
    let step1 = reached arrays (column array base gate row words carried) (Compute (gate_op n base gate) ∷ tail) s t
    (ap (λ (m : ℕ). exec_access m (column array base gate row words carried) s) (ce array (omega arith) (omega arith))
    ∙ column_open array base gate row words carried ws regs r col k (entry_of n c) cells hit eg er ek (em refl) (long ∙ sym lc)
    (get_or_at front col (rest ++ more) [] array lf) (entries_at rows heads r inside) (omega (arith, entries_length rows heads, inside)) (hit_is n k (first_of l) (first_formed n l formed)))
    ∙ ap₂ (λ (w : Words) (x : Registers). moves_made arrays (Compute (gate_op n base gate) ∷ tail) (record { words = w; registers = x })) (put_all_push ws base cells (truth hit) (base + n + 1) (omega arith)) put_in in
    let hit_word : put_all ws base old (base + n + 1) ≡ Some (truth hit) = put_all_at ws base old (n + 1) (base + n + 1) (omega arith) (omega arith) ∙ ap Some (get_or_at cells (truth hit) [] (pos 0) (n + 1) long) in
    let step2 = computed arrays (gate_op n base gate) tail ws base old (truth (not hit)) regs' (omega arith)
    (rw (hit_word, put_all_below ws base old gate gb ∙ eg) (ap (λ (x : Bool). Some (truth x)) (lt_truth hit true))) in
    let gate_word : put_all ws base all (base + n + 2) ≡ Some (truth (not hit)) = put_all_at ws base all (n + 2) (base + n + 2) (omega arith) (omega arith) ∙ ap Some (get_or_at old (truth (not hit)) [] (pos 0) (n + 2) long_old) in
    let below : IsKept base ws (put_all ws base all) = λ w h. put_all_below ws base all w h in
    let again : read_all (put_all ws base all) (words_from base (n + 1)) ≡ Some cells =
    ap₂ (λ (x : List ℤ) (m : ℕ). read_all (put_all ws base x) (words_from base m)) (append_assoc cells (truth hit ∷ []) (truth (not hit) ∷ [])) (sym long) ∙ read_from ws base cells (truth hit ∷ truth (not hit) ∷ []) in
    let run = moved arrays left (array + 1) (base + n + 3) (base + n + 2) row words (words_from base (n + 1)) (put_all ws base all) (front ++ new ∷ []) more rows r (λ q. rest_of (lists q)) (not hit) k (first_of l)
    (λ a p q. ce a (omega arith) (omega arith)) (length_push front new ∙ omega arith) (omega arith) (omega arith) (below_later base (base + n + 3) words (omega arith) kb) inside
    gate_word (below row rb ∙ er) (read_kept base ws (put_all ws base all) words below kb ∙ ek) (from_long base (n + 1)) (rest_formed n l formed) (λ f. again) (λ f m. none_first l m) in
    let after : Registers = encoded n left rows (changed r (made left (not hit) k (first_of l) (rest_of l)) (λ q. rest_of (lists q))) in
    record {
      after = run.after;
      is = step1 ∙ (step2 ∙ (ap (λ (x : Registers). moves_made arrays tail (record { words = put_all ws base all; registers = x })) (sym (append_assoc front (new ∷ []) (rest ++ more)))
          ∙ (run.is ∙ (ap (λ (x : Registers). Some (record { words = run.after; registers = x })) (append_assoc front (new ∷ []) (after ++ more))
          ∙ ap (λ (x : Registers). Some (record { words = run.after; registers = front ++ (x ++ more) })) (encoded_made n left rows lists r k c (none refl))))));
      gate_is = run.gate_is;
      kept = λ w h. run.kept w (omega arith) ∙ below w h;
    }
