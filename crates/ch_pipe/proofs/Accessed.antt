-- What an access to one part of the flat registers makes of the arrays, and what a row makes of the words.
use Rattle.std.proofs.Common.{◌≡◌, ◌<◌, ◌≤◌, ◌+◌, ◌*◌, ◌-◌, ◌++◌, ℕ, suc, true, List, [], ◌∷◌, ℤ, pos, refl, sym, ◌∙◌, ap, arith, length, get_or, set, take, drop, replicate, inl, inr}
use Rattle.std.proofs.lemmas.Bool.{cases_Bool, cases_lt}
use Rattle.std.proofs.lemmas.Int.{to_z-of_z}
use Rattle.std.proofs.lemmas.List.{get_or_append_left, get_or-append_right, get_or-replicate, get_or-take, get_or_past, length-replicate, length-take-le}
use borrow.Rule.Slice.PartMut.{put_mid}
use mir.Val.{SFits}
use Rattle.std.proofs.Common.{Bool, w64, to_z, of_z}
use Rattle.ch_ir.specs.declared.program.Array.{Array}
use Rattle.ch_ir.specs.declared.program.Update.{Update}
use Rattle.ch_ir.specs.declared.program.Access.{Access}
use Rattle.ch_ir.specs.Machine.{cells_of, is_set}
use Rattle.ch_ir.specs.Rules.{entries_of}
use Rattle.ch_pipe.specs.Total.{value_at, nat_of, total_store, total_updates}
use Rattle.ch_pipe.specs.Entry.{AccessRoom, hit_on, words_on, cells_on, total_registers, total_words}
use Rattle.ch_pipe.specs.Flat.{cut, all_cells, base_of}
use Rattle.ch_pipe.proofs.Cuts.{cut_at, cut_set, inside, length_part}

length_updates : (words : List ℤ) (us : List Update) (cells : List ℤ) → length us ≡ length cells → length (total_updates words us cells) ≡ length cells
length_updates words [] [] e = refl
length_updates words [] (x ∷ xs) e = absurd (omega arith)
length_updates words (u ∷ us) [] e = absurd (omega arith)
length_updates words (u ∷ us) (x ∷ xs) e = ap suc (length_updates words us xs (omega arith))

cells_many : (n : ℕ) (x : Access) (words cells : List ℤ) (k : ℕ) → AccessRoom n k x → length cells ≡ k → length (cells_on x words cells) ≡ k
cells_many n x words cells k r e = elim (cases_Bool (hit_on x words cells)) [
  | inl t ↦ rw t (length_updates words x.yes cells (r.yes_many ∙ sym e) ∙ e)
  | inr t ↦ rw t (length_updates words x.no cells (r.no_many ∙ sym e) ∙ e)
]

-- where the entry of an access begins
abbrev pub place_of : List Array → Access → List ℤ → ℕ
place_of arrays x words = base_of arrays x.array + nat_of (value_at words x.index) * cells_of arrays x.array

pub words_accessed : (arrays : List Array) (flat words new : List ℤ) (x : Access) → is_set (value_at words x.guard) ≡ true → nat_of (value_at words x.index) < entries_of arrays x.array
    → new ≡ words_on x words (take (cells_of arrays x.array) (drop (place_of arrays x words) flat)) → new ≡ total_words (cells_of arrays x.array) x words (cut arrays flat)
words_accessed arrays flat words new x g i e = rw g (e ∙ ap (words_on x words) (sym (cut_at arrays flat x.array (nat_of (value_at words x.index)) i)))

pub registers_accessed : (n : ℕ) (arrays : List Array) (flat words new : List ℤ) (x : Access) → is_set (value_at words x.guard) ≡ true → nat_of (value_at words x.index) < entries_of arrays x.array
    → AccessRoom n (cells_of arrays x.array) x → all_cells arrays ≤ length flat
    → new ≡ total_store (place_of arrays x words) (cells_on x words (take (cells_of arrays x.array) (drop (place_of arrays x words) flat))) flat
    → cut arrays new ≡ total_registers x words (cut arrays flat)
registers_accessed n arrays flat words new x g i r l e =
    let entry : List ℤ = take (cells_of arrays x.array) (drop (place_of arrays x words) flat) in
    let within = inside arrays x.array (nat_of (value_at words x.index)) i in
    let many = cells_many n x words entry (cells_of arrays x.array) r (length_part flat (place_of arrays x words) (cells_of arrays x.array) (omega arith)) in
    let at = cut_at arrays flat x.array (nat_of (value_at words x.index)) i in
    rw g (ap (cut arrays) e ∙ cut_set arrays flat (cells_on x words entry) x.array (nat_of (value_at words x.index)) i many l
    ∙ ap (λ (c : List ℤ). set (cut arrays flat) x.array (set (get_or (cut arrays flat) x.array []) (nat_of (value_at words x.index)) (cells_on x words c))) (sym at))

-- the words of a row, and 0 behind them
pub row_padded : (row words zs : List ℤ) (width w : ℕ) → ((v : ℕ) → v < length row → get_or words v (pos 0) ≡ get_or row v (pos 0)) → length row ≤ width → width ≤ length words
    → zs ≡ replicate (width - length row) (pos 0) → w < width → get_or (put_mid (length row) (width - length row) words zs) w (pos 0) ≡ get_or row w (pos 0)
row_padded row words zs width w each h room z lt =
    let front : List ℤ = take (length row) words in
    let rest : List ℤ = drop (width - length row) (drop (length row) words) in
    let many : length front ≡ length row = length-take-le (length row) words (omega arith) in
    let zeros = length-replicate (width - length row) (pos 0) in
    ap (λ (xs : List ℤ). get_or (front ++ (xs ++ rest)) w (pos 0)) z ∙ elim (cases_lt w (length row)) [
      | inl below ↦ get_or_append_left front (replicate (width - length row) (pos 0) ++ rest) (pos 0) w (omega arith) ∙ get_or-take (length row) words w (pos 0) below ∙ each w below
      | inr past ↦ get_or-append_right front (replicate (width - length row) (pos 0) ++ rest) (length row) w (pos 0) many past
          ∙ get_or_append_left (replicate (width - length row) (pos 0)) rest (pos 0) (w - length row) (omega arith)
          ∙ get_or-replicate (width - length row) (w - length row) (pos 0) (pos 0) (omega arith) ∙ sym (get_or_past row w (pos 0) past)
    ]

-- the guard as it is tested
pub guard_set : (v w : ℤ) (b : Bool) → SFits w64 v → v ≡ w → b ≡ is_set (to_z w64 (of_z w64 v)) → b ≡ true → is_set w ≡ true
guard_set v w b f e t h = ap is_set (sym (to_z-of_z w64 v f ∙ e)) ∙ sym t ∙ h
