-- The word of a text is found by its place.
use Rattle.std.proofs.Common.{◌≡◌, ℕ, zero, suc, ◌<◌, true, cond, List, [], ◌∷◌, length, Some, None, slice_get, All, take, ◌+◌, ◌++◌, subst, sym, ◌∙◌, ap, arith}
use Rattle.std.specs.Prelude.{ℤ, pos, bytes_eq, slice_index_or}
use Rattle.std.specs.List.{list_any}
use Rattle.std.proofs.lemmas.List.{map-append}
use Rattle.std.proofs.lemmas.List.Elements.{All-head, All-tail}
use Rattle.ch_ranks.specs.Dictionary.{rank_in, rank_of}
use Rattle.ch_table_words.specs.RowWords.{ranks_of}

pub rank_there : (dictionary : List (List ℕ)) (text : List ℕ) → list_any (bytes_eq text) dictionary ≡ true → rank_of dictionary text ≡ Some (rank_in dictionary text)
rank_there dictionary text e = ap (λ b. cond b (Some (rank_in dictionary text)) None) e

pub place_below : (dictionary texts : List (List ℕ)) (at : ℕ) (text : List ℕ) → slice_get texts at ≡ Some text → at < length (ranks_of dictionary texts)
place_below dictionary [] at text e = cc
place_below dictionary (t ∷ texts) zero text e = omega arith
place_below dictionary (t ∷ texts) (suc at) text e = omega (arith, place_below dictionary texts at text e)

pub placed_rank : (dictionary texts : List (List ℕ)) (at : ℕ) (text : List ℕ) (other : ℤ) → slice_get texts at ≡ Some text → slice_index_or (ranks_of dictionary texts) at other ≡ pos (rank_in dictionary text)
placed_rank dictionary [] at text other e = cc
placed_rank dictionary (t ∷ texts) zero text other e = let same : t ≡ text = cc in ap (λ (u : List ℕ). pos (rank_in dictionary u)) same
placed_rank dictionary (t ∷ texts) (suc at) text other e = placed_rank dictionary texts at text other e

pub all_at : (P : List ℕ → Type 0) (texts : List (List ℕ)) (at : ℕ) (text : List ℕ) → All P texts → slice_get texts at ≡ Some text → P text
all_at P [] at text h e = cc
all_at P (t ∷ texts) zero text h e = let same : t ≡ text = cc in subst P same (All-head P t texts h)
all_at P (t ∷ texts) (suc at) text h e = all_at P texts at text (All-tail P t texts h) e

take_more : (texts : List (List ℕ)) (at : ℕ) (text : List ℕ) → slice_get texts at ≡ Some text → take (suc at) texts ≡ take at texts ++ text ∷ []
take_more [] at text e = cc
take_more (t ∷ texts) zero text e = let same : t ≡ text = cc in ap (λ (u : List ℕ). u ∷ []) same
take_more (t ∷ texts) (suc at) text e = ap (λ (us : List (List ℕ)). t ∷ us) (take_more texts at text e)

-- the rank of one text more
pub one_more : (dictionary texts : List (List ℕ)) (places : List ℤ) (at : ℕ) (text : List ℕ) (rank : ℕ) → slice_get texts at ≡ Some text → rank ≡ rank_in dictionary text
    → places ≡ ranks_of dictionary (take at texts) → places ++ pos rank ∷ [] ≡ ranks_of dictionary (take (at + 1) texts)
one_more dictionary texts places at text rank e f g =
    let next : at + 1 ≡ suc at = omega arith in
    let more = sym (map-append (λ t. pos (rank_in dictionary t)) (take at texts) (text ∷ [])) in
    (λ i. g i ++ pos (f i) ∷ []) ∙ (more ∙ sym (ap (ranks_of dictionary) (ap (λ n. take n texts) next ∙ take_more texts at text e)))
