-- A draft that gains parts.
use Rattle.std.proofs.Common.{◌≡◌, ℕ, zero, suc, ◌+◌, ◌<◌, List, [], ◌∷◌, ◌++◌, length, get_or, map, take, drop, Some, None, refl, sym, ap, ◌∙◌, arith, length-append, drop-cons, append_assoc, add-one, ap₂}
use Rattle.std.specs.Prelude.{sum_by}
use Rattle.std.proofs.lemmas.List.{append-nil, map-append, take_more}
use Rattle.std.proofs.lemmas.List.Sums.{sum_by-append}
use Rattle.ch_tables.specs.Draft.{AddsPart, IsDraftOf, all_rows, spans_from, with_row, with_rows}
use Rattle.ch_tables.specs.Refusal.{body_of, header_of, first_refusal, later_refusal, part_refusal, refusal}
use Rattle.ch_tables.specs.declared.draft.Draft.{Draft}
use Rattle.ch_tables.specs.declared.draft.Span.{Span}
use Rattle.ch_tables.specs.declared.error.Room.{Room}
use Rattle.ch_tables.specs.declared.error.TableError.{TableError}

with_rows-append : (cs xs ys : List (List (List ℕ))) → with_rows cs (xs ++ ys) ≡ with_rows (with_rows cs xs) ys
with_rows-append cs [] ys = refl
with_rows-append cs (x ∷ xs) ys = with_rows-append (with_row cs x) xs ys

pub all_rows-push : (bodies : List (List (List (List ℕ)))) (body : List (List (List ℕ))) → all_rows (bodies ++ body ∷ []) ≡ all_rows bodies ++ body
all_rows-push [] body = append-nil body
all_rows-push (b ∷ bodies) body = ap (λ rows. b ++ rows) (all_rows-push bodies body) ∙ sym (append_assoc b (all_rows bodies) body)

spans_from-push : (from : ℕ) (bodies : List (List (List (List ℕ)))) (body : List (List (List ℕ)))
    → spans_from from (bodies ++ body ∷ [])
    ≡ spans_from from bodies ++ record { from = from + length (all_rows bodies); to = from + length (all_rows bodies) + length body } ∷ []
spans_from-push from [] body =
    let at : from ≡ from + 0 = omega arith in
    ap (λ n. record { from = n; to = n + length body } ∷ []) at
spans_from-push from (b ∷ bodies) body =
    let at : from + length b + length (all_rows bodies) ≡ from + length (b ++ all_rows bodies) = omega (arith, length-append b (all_rows bodies)) in
    ap (λ spans. record { from = from; to = from + length b } ∷ spans)
    (spans_from-push (from + length b) bodies body ∙ ap (λ n. spans_from (from + length b) bodies ++ record { from = n; to = n + length body } ∷ []) at)

abbrev new_span : ℕ → ℕ → Span
new_span from to = record { from = from; to = to }

pub adds_part : (old new : Draft) (header : List (List ℕ)) (bodies : List (List (List (List ℕ)))) (body : List (List (List ℕ)))
    → IsDraftOf old header bodies → AddsPart old new body → IsDraftOf new header (bodies ++ body ∷ [])
adds_part old new header bodies body d a =
    let from : old.rows ≡ 0 + length (all_rows bodies) = d.rows ∙ omega arith in
    let to : new.rows ≡ 0 + length (all_rows bodies) + length body = a.rows ∙ ap (λ n. n + length body) from in
    let span : new_span old.rows new.rows ≡ new_span (0 + length (all_rows bodies)) (0 + length (all_rows bodies) + length body) = ap₂ new_span from to in
    record {
      named = a.header ∙ d.named;
      columns = a.columns ∙ (ap (λ cs. with_rows cs body) d.columns ∙ (sym (with_rows-append (map (λ (name : List ℕ). []) header) (all_rows bodies) body) ∙ ap (with_rows (map (λ (name : List ℕ). []) header)) (sym (all_rows-push bodies body))));
      spans = a.spans ∙ (ap₂ (λ spans n. spans ++ n ∷ []) d.spans span ∙ sym (spans_from-push 0 bodies body));
      rows = rw (all_rows-push) (a.rows ∙ (ap (λ n. n + length body) d.rows ∙ sym (length-append (all_rows bodies) body)));
      cells = rw (all_rows-push) (a.cells ∙ (ap (λ n. n + sum_by length body) d.cells ∙ sym (sum_by-append length (all_rows bodies) body)));
    }

drop_here : {X : Type 0} (xs : List X) (i : ℕ) (d : X) → i < length xs → drop i xs ≡ get_or xs i d ∷ drop (i + 1) xs
drop_here xs i d h = drop-cons xs i d h ∙ ap (λ n. get_or xs i d ∷ drop n xs) (sym (add-one i))

take_here : {X : Type 0} (xs : List X) (i : ℕ) (d : X) → i < length xs → take (i + 1) xs ≡ take i xs ++ get_or xs i d ∷ []
take_here xs i d h = take_more xs i d h

-- `read` gives a part's records
module _ (read : List ℕ → List (List (List ℕ))) where
  -- a part that isn't refused
  pub later_step : (room : Room) (header : List (List ℕ)) (part rows cells : ℕ) (parts : List (List ℕ)) (i : ℕ) → i < length parts
      → part_refusal room header part rows cells (read (get_or parts i [])) ≡ None
      → later_refusal room header part rows cells (map read (drop i parts))
      ≡ later_refusal room header (part + 1) (rows + length (body_of (read (get_or parts i [])))) (cells + sum_by length (body_of (read (get_or parts i []))))
      (map read (drop (i + 1) parts))
  later_step room header part rows cells parts i h e = rw (drop_here parts i [] h, e) refl

  -- a part that is
  pub later_stop : (room : Room) (header : List (List ℕ)) (part rows cells : ℕ) (parts : List (List ℕ)) (i : ℕ) (refused : TableError) → i < length parts
      → part_refusal room header part rows cells (read (get_or parts i [])) ≡ Some refused
      → later_refusal room header part rows cells (map read (drop i parts)) ≡ Some refused
  later_stop room header part rows cells parts i refused h e = rw (drop_here parts i [] h, e) refl

  -- part 0
  pub first_step : (room : Room) (header : List (List ℕ)) (rows cells : ℕ) (parts : List (List ℕ)) → 0 < length parts
      → first_refusal room (read (get_or parts 0 [])) ≡ None → header ≡ header_of (read (get_or parts 0 []))
      → rows ≡ length (body_of (read (get_or parts 0 []))) → cells ≡ sum_by length (body_of (read (get_or parts 0 [])))
      → refusal room (map read parts) ≡ later_refusal room header 1 rows cells (map read (drop 1 parts))
  first_step room header rows cells [] h e n r c = absurd (omega arith)
  first_step room header rows cells (p ∷ parts) h e n r c = rw (e, n, r, c) refl

  pub first_stop : (room : Room) (parts : List (List ℕ)) (refused : TableError) → 0 < length parts
      → first_refusal room (read (get_or parts 0 [])) ≡ Some refused → refusal room (map read parts) ≡ Some refused
  first_stop room [] refused h e = absurd (omega arith)
  first_stop room (p ∷ parts) refused h e = rw e refl

  -- the rows of the parts so far
  pub bodies-more : (parts : List (List ℕ)) (i : ℕ) → i < length parts
      → map body_of (map read (take (i + 1) parts)) ≡ map body_of (map read (take i parts)) ++ body_of (read (get_or parts i [])) ∷ []
  bodies-more parts i h = rw (take_here parts i [] h) (ap (map body_of) (map-append read (take i parts) _) ∙ map-append body_of (map read (take i parts)) _)

-- what is left to refuse after a part
pub moved : (room : Room) (old new : Draft) (part : ℕ) (body : List (List (List ℕ))) (left : List (List (List (List ℕ)))) → AddsPart old new body
    → later_refusal room old.header part (old.rows + length body) (old.cells + sum_by length body) left ≡ later_refusal room new.header part new.rows new.cells left
moved room old new part body left a = rw (a.header, a.rows, a.cells) refl
