-- A reading by a dictionary rises in each column, and reads the word of a cell as that cell.
use Rattle.std.proofs.Common.{◌≡◌, ℕ, zero, suc, ◌<◌, cond, List, [], ◌∷◌, ◌++◌, replicate, nat_lt, lt-ltb, refl, sym, ◌∙◌, ap, inl, inr, arith, subst}
use Rattle.std.specs.Prelude.{ℤ, pos, negsuc}
use Rattle.std.specs.declared.cmp.Ordering.TheVariants.{Less, Equal, Greater}
use Rattle.std.specs.Ordering.{nat_cmp, int_cmp, ordering_then, ordering_reverse}
use Rattle.std.specs.Cmp.Lexicographic.{slice_cmp}
use Rattle.std.proofs.lemmas.Cmp.{nat_cmp_total, nat_list_cmp_total, tied_itself}
use Rattle.std.proofs.lemmas.Bool.{cases_lt, cases_eq, le-ltb}
use Rattle.ch_cells.specs.declared.Cell.{Cell}
use Rattle.ch_cells.specs.declared.Cell.TheVariants as cell
use Rattle.ch_cells.specs.declared.Kind.{Kind}
use Rattle.ch_cells.specs.declared.Kind.TheVariants as kind
use Rattle.ch_cells.specs.Cell.{cell_cmp}
use Rattle.ch_lists.specs.Members.{In}
use Rattle.ch_ranks.specs.Dictionary.{Ascends, rank_in}
use Rattle.ch_ranks.proofs.Ascending.{tail_ascends, first_rank, later_rank}
use Rattle.ch_words.specs.Ranks.{text_at, text_cell, column_cell, word_of}
use Rattle.ch_words.specs.Packets.{FitsKind}

nat_itself : (n : ℕ) → nat_cmp n n ≡ Equal
nat_itself n = tied_itself nat_cmp_total n

-- a text is below each longer one that begins with it
below_longer : (t : List ℕ) (x : ℕ) (xs : List ℕ) → slice_cmp nat_cmp t (t ++ x ∷ xs) ≡ Less
below_longer [] x xs = refl
below_longer (y ∷ t) x xs = ap (λ o. ordering_then o (slice_cmp nat_cmp t (t ++ x ∷ xs))) (nat_itself y) ∙ below_longer t x xs

one_more : (t : List ℕ) (k : ℕ) → slice_cmp nat_cmp (t ++ replicate k 0) (t ++ replicate (suc k) 0) ≡ Less
one_more [] zero = refl
one_more [] (suc k) = one_more [] k
one_more (y ∷ t) k = ap (λ o. ordering_then o (slice_cmp nat_cmp (t ++ replicate k 0) (t ++ replicate (suc k) 0))) (nat_itself y) ∙ one_more t k

step : (last : List ℕ) (texts : List (List ℕ)) (r : ℕ) → Ascends texts → slice_cmp nat_cmp (text_at last texts r) (text_at last texts (suc r)) ≡ Less
step last [] r h = one_more last (suc r)
step last (t ∷ []) zero h = below_longer t 0 []
step last (t ∷ []) (suc r) h = one_more t (suc r)
step last (t ∷ u ∷ ts) zero h = h.0
step last (t ∷ u ∷ ts) (suc r) h = step t (u ∷ ts) r h.1

module _ (texts : List (List ℕ)) (h : Ascends texts) where
  climbs : (a b : ℕ) → a < b → slice_cmp nat_cmp (text_at [] texts a) (text_at [] texts b) ≡ Less
  climbs a zero l = absurd (omega (arith, l))
  climbs a (suc b) l = elim (cases_eq a b) [
    | inl e ↦ subst (λ (n : ℕ). slice_cmp nat_cmp (text_at [] texts n) (text_at [] texts (suc b)) ≡ Less) (sym e) (step [] texts b h)
    | inr n ↦ nat_list_cmp_total.trans (text_at [] texts a) (text_at [] texts b) (text_at [] texts (suc b)) (climbs a b (omega arith)) (step [] texts b h)
  ]

  text_rises : (a b : ℕ) → slice_cmp nat_cmp (text_at [] texts a) (text_at [] texts b) ≡ int_cmp (pos a) (pos b)
  text_rises a b = elim (cases_lt a b) [
    | inl l ↦ climbs a b l ∙ less a b l
    | inr g ↦ elim (cases_eq a b) [
      | inl e ↦ subst (λ (n : ℕ). slice_cmp nat_cmp (text_at [] texts n) (text_at [] texts b) ≡ int_cmp (pos n) (pos b)) (sym e) (tied_itself nat_list_cmp_total (text_at [] texts b) ∙ same b)
      | inr n ↦ nat_list_cmp_total.antisymm (text_at [] texts a) (text_at [] texts b) ∙ (ap ordering_reverse (climbs b a (omega arith)) ∙ greater a b (omega arith))
    ]
  ]
    where
      less : (a b : ℕ) → a < b → Less ≡ int_cmp (pos a) (pos b)
      less a b l = sym (ap (λ t. cond t Less (cond (nat_lt b a) Greater Equal)) (lt-ltb a b l))

      same : (b : ℕ) → Equal ≡ int_cmp (pos b) (pos b)
      same b = sym (tied_itself Rattle.std.proofs.lemmas.Cmp.int_cmp_total (pos b))

      greater : (a b : ℕ) → b < a → Greater ≡ int_cmp (pos a) (pos b)
      greater a b l = sym ((λ i. cond ((le-ltb a b (omega arith)) i) Less (cond ((lt-ltb b a l) i) Greater Equal)))

  cell_rises : (x y : ℤ) → cell_cmp (text_cell texts x) (text_cell texts y) ≡ int_cmp x y
  cell_rises (pos a) (pos b) = text_rises a b
  cell_rises (pos a) (negsuc n) = refl
  cell_rises (negsuc m) (pos b) = refl
  cell_rises (negsuc m) (negsuc n) = refl

  pub column_rises : (k : Kind) (x y : ℤ) → cell_cmp (column_cell texts k x) (column_cell texts k y) ≡ int_cmp x y
  column_rises kind.Number x y = refl
  column_rises kind.Text x y = cell_rises x y
  column_rises kind.Void x y = refl

pub rank_read : (last : List ℕ) (texts : List (List ℕ)) (t : List ℕ) → Ascends texts → In t texts → text_at last texts (rank_in texts t) ≡ t
rank_read last [] t h i = absurd i
rank_read last (u ∷ ts) t h (inl e) = ap (text_at last (u ∷ ts)) (ap (rank_in (u ∷ ts)) e ∙ first_rank u ts h) ∙ sym e
rank_read last (u ∷ ts) t h (inr i) = ap (text_at last (u ∷ ts)) (later_rank u ts t h i) ∙ rank_read u ts t (tail_ascends u ts h) i

-- the word of a cell stands for it
pub word_read : (texts : List (List ℕ)) → Ascends texts → (k : Kind) (c : Cell) → FitsKind texts k c → c ≡ column_cell texts k (word_of texts c)
word_read texts h kind.Number (cell.Number n) f = refl
word_read texts h kind.Number (cell.Text t) f = absurd f
word_read texts h kind.Text (cell.Number n) f = absurd f
word_read texts h kind.Text (cell.Text t) f = ap cell.Text (sym (rank_read [] texts t h f))
word_read texts h kind.Void c f = absurd f
