-- What workers send of a query's tables passes the test of its rows.
use Rattle.std.proofs.Common.{◌≡◌, ℕ, true, eqb, eq-eqb, List, [], ◌∷◌, map, length, refl, sym, subst, inl, inr}
use Rattle.std.specs.Prelude.{ℤ, pos, slice_index_or}
use Rattle.std.specs.List.{list_all}
use Rattle.std.proofs.lemmas.Bool.{and_from}
use Rattle.std.proofs.lemmas.List.{length-map}
use Rattle.ch_cells.specs.declared.Cell.{Cell}
use Rattle.ch_cells.specs.declared.Cell.TheVariants as cell
use Rattle.ch_cells.specs.declared.Kind.{Kind}
use Rattle.ch_lists.specs.Members.{In, Each}
use Rattle.ch_lists.proofs.Members.{In-append, In-map}
use Rattle.ch_cover.specs.Rows.{AreRows, Row}
use Rattle.ch_pred.specs.declared.bound.Bound.{Bound}
use Rattle.ch_words.specs.Packets.{AreSound, all_sent, packed, sent_row, sent_rows, table_of}
use Rattle.ch_words.specs.Ranks.{word_of}
use Rattle.ch_pred.specs.Sound.{carried_of}
use Rattle.ch_words.specs.Rows.{Gate}
use Rattle.ch_words.proofs.Packets.{sent_are}
use Rattle.ch_prune.specs.Sent.{is_cell_word, is_countable, is_sent}
use Rattle.ch_survival.specs.InRange.{AreInRange}

mapped_pass : {X : Type 0} (f : X → ℤ) (xs : List X) → Each (λ x. is_cell_word (f x) ≡ true) xs → list_all is_cell_word (map f xs) ≡ true
mapped_pass f [] h = refl
mapped_pass f (x ∷ xs) h = and_from (is_cell_word (f x)) (list_all is_cell_word (map f xs)) (h x (inl refl)) (mapped_pass f xs (λ y i. h y (inr i)))

-- as many words as carried columns, each in the cell range
abbrev IsWhole : Bound → Row → Type 0
IsWhole b r = (eqb (length r.words) (length (carried_of b r.side)) ≡ true) × (list_all is_cell_word r.words ≡ true)

whole_side : (texts : List (List ℕ)) (b : Bound) (tables : List (List (List Cell))) (gate : Gate) → AreInRange texts b tables
    → (side : ℕ) (r : Row) → In r (sent_rows texts gate b side (table_of tables side)) → IsWhole b r
whole_side texts b tables gate fits side r h =
    let q = In-map (sent_row texts gate b side) r (table_of tables side) h in
    subst (λ (r : Row). IsWhole b r) (sym q.2) (
      eq-eqb (length (packed texts b side q.0)) (length (carried_of b side)) (length-map (carried_of b side) (λ at. word_of texts (slice_index_or q.0 at (cell.Number (pos 0))))),
      mapped_pass (λ at. word_of texts (slice_index_or q.0 at (cell.Number (pos 0)))) (carried_of b side) (fits side q.0 q.1),
    )

pub sent_pass : (texts : List (List ℕ)) (kinds : ℕ → ℕ → Kind) (b : Bound) (tables : List (List (List Cell))) (gate : Gate) → AreSound texts kinds b tables → AreInRange texts b tables
    → Each (λ r. is_countable b r b.shape ≡ true) (all_sent texts gate b tables) → AreRows (is_sent gate b) (all_sent texts gate b tables)
sent_pass texts kinds b tables gate sound fits counts r h =
    let whole : IsWhole b r = elim (In-append r (sent_rows texts gate b 0 (table_of tables 0)) (sent_rows texts gate b 1 (table_of tables 1)) h) [
      | inl i ↦ whole_side texts b tables gate fits 0 r i
      | inr i ↦ whole_side texts b tables gate fits 1 r i
    ] in
    and_from _ _ (sent_are texts kinds b tables gate sound r h) (and_from _ _ whole.0 (and_from _ _ whole.1 (counts r h)))
