-- An access to one column.
use Rattle.std.proofs.Common.{◌≡◌, ◌<◌, ℕ, zero, suc, ◌+◌, ◌^◌, Bool, true, false, List, [], ◌∷◌, ◌++◌, ℤ, pos, ◌+ℤ◌, nat_lt, refl, sym, ◌∙◌, ap, ap₂, arith, Option, Some, None, length, get_or, set, map, replicate, length-append, inl, inr, ◌≤ℤ◌}
use Rattle.std.specs.Prelude.{if◌then◌else◌, ◌&&◌}
use Rattle.std.specs.Int.{int_max}
use Rattle.std.proofs.lemmas.Bool.{cases_Bool, lt-ltb}
use Rattle.std.proofs.lemmas.Int.{ints, clamps}
use Rattle.std.proofs.lemmas.List.{get_or_at, set_at, set-get_or, take_at, length-replicate}
use Rattle.ch_ir.specs.declared.program.Operand.TheVariants.{Word}
use Rattle.ch_ir.specs.declared.program.Test.TheVariants.{KeyEqOrFree}
use Rattle.ch_ir.specs.declared.program.Update.{Update}
use Rattle.ch_ir.specs.declared.program.Update.TheVariants as update
use Rattle.ch_ir.specs.Machine.{Words, Registers, put, put_all, read_all, exec_access, truth, holds_at, same_words, update_all}
use Rattle.ch_words.specs.Policies.{Key}
use Rattle.op_cache.specs.Run.{same_is}
use Rattle.op_group.specs.Policy.{Pair}
use Rattle.op_group.specs.Program.{put_words, raise_pair, other_pair, column}
use Rattle.op_group.specs.Encoding.{best_cell, entry_of, is_hit, raised_cell, other_cell, new_cell}
use Rattle.op_group.specs.Lists.{key_is}

-- the words hold the values
abbrev pub Reads : Words → List ℕ → List ℤ → Type 0
Reads ws [] [] = Unit {0}
Reads ws [] (v ∷ vs) = ⊥
Reads ws (w ∷ words) [] = ⊥
Reads ws (w ∷ words) (v ∷ vs) = (ws w ≡ Some v) × Reads ws words vs

pub reads_all : (ws : Words) (words : List ℕ) (vs : List ℤ) → Reads ws words vs → read_all ws (map Word words) ≡ Some vs
reads_all ws [] [] r = refl
reads_all ws [] (v ∷ vs) r = absurd r
reads_all ws (w ∷ words) [] r = absurd r
reads_all ws (w ∷ words) (v ∷ vs) r = rw (r.0, reads_all ws words vs r.1) refl

-- the pair of an entry has a key of n words
abbrev pub IsFormed : ℕ → Option Pair → Type 0
IsFormed n None = Unit {0}
IsFormed n (Some p) = length p.key ≡ n

pub hit_is : (n : ℕ) (k : Key) (c : Option Pair) → IsFormed n c → holds_at (KeyEqOrFree n) k (entry_of n c) ≡ is_hit k c
hit_is n k None f = refl
hit_is n k (Some p) f = ap (λ (xs : List ℤ). same_words xs k) (take_at p.key ((pos (2 ^ 61) +ℤ p.best) ∷ []) n f) ∙ same_is p.key k

pub entry_long : (n : ℕ) (c : Option Pair) → IsFormed n c → length (entry_of n c) ≡ n + 2
entry_long n None f = omega (arith, length-replicate n (pos 0))
entry_long n (Some p) f = omega (arith, f, length-append p.key ((pos (2 ^ 61) +ℤ p.best) ∷ []))

zeros_pushed : (n : ℕ) → pos 0 ∷ replicate n (pos 0) ≡ replicate n (pos 0) ++ pos 0 ∷ []
zeros_pushed zero = refl
zeros_pushed (suc n) = ap (λ (xs : List ℤ). pos 0 ∷ xs) (zeros_pushed n)

zero_at : (n i : ℕ) → get_or (replicate n (pos 0)) i (pos 0) ≡ pos 0
zero_at zero i = refl
zero_at (suc n) zero = refl
zero_at (suc n) (suc i) = zero_at n i

pub best_at : (n : ℕ) (c : Option Pair) → IsFormed n c → get_or (entry_of n c) (n + 1) (pos 0) ≡ best_cell c
best_at n None f = zero_at (suc (suc n)) (n + 1)
best_at n (Some p) f =
    let e : n + 1 ≡ suc n = omega arith in
    rw e (get_or_at p.key (pos (2 ^ 61) +ℤ p.best) [] (pos 0) n f)

pub zero_best : (n : ℕ) → get_or (replicate (n + 2) (pos 0)) (n + 1) (pos 0) ≡ pos 0
zero_best n = zero_at (n + 2) (n + 1)

-- the key is put on the old key
puts : (ws : Words) (words : List ℕ) (k xs ys zs : List ℤ) (us : List Update) → Reads ws words k → length xs ≡ length words → update_all ws us ys ≡ Some zs
    → update_all ws (put_words words ++ us) (xs ++ ys) ≡ Some (k ++ zs)
puts ws [] [] [] ys zs us r l u = u
puts ws [] [] (x ∷ xs) ys zs us r l u = absurd (omega arith)
puts ws [] (v ∷ k) xs ys zs us r l u = absurd r
puts ws (w ∷ words) [] xs ys zs us r l u = absurd r
puts ws (w ∷ words) (v ∷ k) [] ys zs us r l u = absurd (omega arith)
puts ws (w ∷ words) (v ∷ k) (x ∷ xs) ys zs us r l u = rw (r.0, puts ws words k xs ys zs us r.1 (omega arith) u) refl

keeps : (ws : Words) (cells : List ℤ) (n : ℕ) → length cells ≡ n → update_all ws (replicate n update.Keep) cells ≡ Some cells
keeps ws [] zero h = refl
keeps ws [] (suc n) h = absurd (omega arith)
keeps ws (x ∷ cells) zero h = absurd (omega arith)
keeps ws (x ∷ cells) (suc n) h = rw (keeps ws cells n (omega arith)) refl

raise_both : (a b : ℤ) → int_max (pos (2 ^ 61) +ℤ a) (pos (2 ^ 61) +ℤ b) ≡ pos (2 ^ 61) +ℤ int_max a b
raise_both a b = omega (arith, ints, clamps)

module _ (ws : Words) (words : List ℕ) (k : Key) (s : ℕ) (v : ℤ) (reads : Reads ws words k) (value : ws s ≡ Some (pos (2 ^ 61) +ℤ v)) where
  put_last : (b : ℤ) → update_all ws (update.Put (Word s) ∷ []) (b ∷ []) ≡ Some ((pos (2 ^ 61) +ℤ v) ∷ [])
  put_last b = rw value refl

  raise_last : (b : ℤ) → update_all ws (update.Max (Word s) ∷ []) (b ∷ []) ≡ Some (int_max b (pos (2 ^ 61) +ℤ v) ∷ [])
  raise_last b = rw value refl

  raises : (c : Option Pair) → IsFormed (length words) c → pos 0 ≤ℤ (pos (2 ^ 61) +ℤ v) → is_hit k c ≡ true
      → update_all ws (raise_pair words s) (entry_of (length words) c) ≡ Some (entry_of (length words) (Some (raised_cell k v c)))
  raises None f above hit =
      let top : int_max (pos 0) (pos (2 ^ 61) +ℤ v) ≡ pos (2 ^ 61) +ℤ v = omega (arith, ints, clamps, above) in
      rw (zeros_pushed (length words), puts ws words k (replicate (length words) (pos 0)) (pos 0 ∷ []) (int_max (pos 0) (pos (2 ^ 61) +ℤ v) ∷ []) (update.Max (Word s) ∷ []) reads (length-replicate (length words) (pos 0)) (raise_last (pos 0)))
      (ap (λ (b : ℤ). Some (pos 1 ∷ k ++ b ∷ [])) top)
  raises (Some p) f above hit =
      rw (puts ws words k p.key ((pos (2 ^ 61) +ℤ p.best) ∷ []) (int_max (pos (2 ^ 61) +ℤ p.best) (pos (2 ^ 61) +ℤ v) ∷ []) (update.Max (Word s) ∷ []) reads f (raise_last (pos (2 ^ 61) +ℤ p.best)))
      (ap₂ (λ (key : List ℤ) (b : ℤ). Some (pos 1 ∷ key ++ b ∷ [])) (sym (key_is k p.key hit)) (raise_both p.best v))

  others : (left : ℕ) (c : Option Pair) → IsFormed (length words) c → is_hit k c ≡ false
      → update_all ws (other_pair left words s) (entry_of (length words) c) ≡ Some (entry_of (length words) (other_cell left k v c))
  others zero None f hit = absurd (cc)
  others zero (Some p) f hit =
      rw (puts ws words k p.key ((pos (2 ^ 61) +ℤ p.best) ∷ []) ((pos (2 ^ 61) +ℤ v) ∷ []) (update.Put (Word s) ∷ []) reads f (put_last (pos (2 ^ 61) +ℤ p.best))) refl
  others (suc left) c f hit = keeps ws (entry_of (length words) c) (length words + 2) (entry_long (length words) c f)

  -- open or shut, hit or not
  pub column_runs : (left array base gate h : ℕ) (front rest : Registers) (col : List (List ℤ)) (r : ℕ) (c : Option Pair) (g : Bool)
      → length front ≡ array → ws gate ≡ Some (truth g) → ws h ≡ Some (pos r) → r < length col → get_or col r [] ≡ entry_of (length words) c
      → IsFormed (length words) c → pos 0 ≤ℤ (pos (2 ^ 61) +ℤ v)
      → exec_access (length words + 2) (column left array base gate h s words) (record { words = ws; registers = front ++ col ∷ rest })
      ≡ Some (record {
        words = put (put_all ws base (if g then entry_of (length words) c else replicate (length words + 2) (pos 0))) (base + length words + 2) (truth (g && is_hit k c));
        registers = front ++ set col r (entry_of (length words) (new_cell left g k v c)) ∷ rest;
      })
  column_runs left array base gate h front rest col r c false lf eg eh inside ee f above =
      rw eg (ap (λ (x : List (List ℤ)). Some (record { words = put (put_all ws base (replicate (length words + 2) (pos 0))) (base + length words + 2) (pos 0); registers = front ++ x ∷ rest }))
      (sym (ap (set col r) (sym ee) ∙ set-get_or col r [])))
  column_runs left array base gate h front rest col r c true lf eg eh inside ee f above =
      let within : nat_lt r (length col) ≡ true = lt-ltb r (length col) inside in
      let at_array = get_or_at front col rest [] array lf in
      let key = reads_all ws words k reads in
      let test = hit_is (length words) k c f in
      elim (cases_Bool (is_hit k c)) [
        | inl t ↦ rw (eg, eh, at_array, within, key, at_array, ee, test, t, raises c f above t, set_at front col rest (set col r (entry_of (length words) (Some (raised_cell k v c)))) array lf) refl
        | inr t ↦ rw (eg, eh, at_array, within, key, at_array, ee, test, t, others left c f t, set_at front col rest (set col r (entry_of (length words) (other_cell left k v c))) array lf) refl
      ]
