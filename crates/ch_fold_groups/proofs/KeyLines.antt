-- Keys picked from rows, and what is printed of them.
use Rattle.std.proofs.Common.{◌≡◌, ℕ, suc, ◌==◌, ◌&&◌, Bool, true, false, cond, List, [], ◌∷◌, ◌++◌, map, filter, length, refl, ap, sym, ◌∙◌, inl, inr, eqb-true, eq-eqb, arith, ℤ, pos}
use Rattle.std.specs.Prelude.{◌⊎◌, slice_index_or, int_lt}
use Rattle.std.proofs.lemmas.Bool.{and_parts}
use Rattle.std.proofs.lemmas.List.{length-map}
use Rattle.ch_lists.specs.Members.{In}
use Rattle.ch_lists.proofs.Members.{In-map}
use Rattle.ch_lists.proofs.Different.{among-In, among-from}
use Rattle.ch_pred.specs.Meaning.{at_each, key_seen, line}
use Rattle.ch_pred.specs.Values.{View}
use Rattle.ch_pred.specs.declared.bound.Bound.{Bound}
use Rattle.ch_pred.specs.declared.bound.Printed.{Printed}
use Rattle.ch_pred.specs.declared.bound.Printed.TheVariants as printed
use Rattle.ch_pred.specs.declared.pred.Col.{Col}
use Rattle.ch_words.specs.Readings.{AllPrinted, IsCol}
use Rattle.ch_words.specs.Rows.{words_seen}
use Rattle.ch_flat.specs.Flat.{pick}
use Rattle.ch_fold_groups.specs.Kept.{KeepsGroups, Valued}
use Rattle.ch_fold_groups.specs.Lines.{group_place, key_lines, key_place, keys_above, place_of, value_lines}
use Rattle.ch_fold_groups.proofs.Steps.{exact, kept_among, key_cmp}

-- the picked words of a key are the key
pub pick_key : (b : Bound) (ws : List ℤ) (cols : List Col) → pick ws (map (place_of b) cols) ≡ at_each (words_seen b ws) cols
pick_key b ws [] = refl
pick_key b ws (c ∷ cs) = ap (λ vs. words_seen b ws c.side c.at ∷ vs) (pick_key b ws cs)

key_word : (keys : List Col) (key : List ℤ) (v : ℤ) (c : Col) → length key ≡ length keys → slice_index_or (key ++ v ∷ []) (key_place keys c) (pos 0) ≡ key_seen (pos 0) keys key c.side c.at
key_word [] [] v c e = refl
key_word [] (w ∷ ws) v c e = absurd (omega (arith, e))
key_word (k ∷ ks) [] v c e = absurd (omega (arith, e))
key_word (k ∷ ks) (w ∷ ws) v c e = go ((k.side == c.side) && (k.at == c.at)) (key_word ks ws v c (omega (arith, e)))
  where
    go : (t : Bool) → slice_index_or (ws ++ v ∷ []) (key_place ks c) (pos 0) ≡ key_seen (pos 0) ks ws c.side c.at
        → slice_index_or (w ∷ (ws ++ v ∷ [])) (cond t 0 (suc (key_place ks c))) (pos 0) ≡ cond t w (key_seen (pos 0) ks ws c.side c.at)
    go true ih = refl
    go false ih = ih

last_word : (key : List ℤ) (v : ℤ) → slice_index_or (key ++ v ∷ []) (length key) (pos 0) ≡ v
last_word [] v = refl
last_word (w ∷ ws) v = last_word ws v

-- the picked words of a key with a value behind it are what is printed of both
pub pick_group : (keys : List Col) (key : List ℤ) (v : ℤ) → length key ≡ length keys → (items : List Printed) → pick (key ++ v ∷ []) (map (group_place keys) items) ≡ line items v (key_seen (pos 0) keys key)
pick_group keys key v e [] = refl
pick_group keys key v e (printed.Column c ∷ items) = λ i. key_word keys key v c e i ∷ pick_group keys key v e items i
pick_group keys key v e (printed.Best ∷ items) = λ i. (ap (λ n. slice_index_or (key ++ v ∷ []) n (pos 0)) (sym e) ∙ last_word key v) i ∷ pick_group keys key v e items i

pub value_lines_are : (keys : List Col) (items : List Printed) (f : List ℤ → ℤ) (ks : List (List ℤ)) → ((k : List ℤ) → In k ks → length k ≡ length keys)
    → value_lines (map (group_place keys) items) ks (map f ks) ≡ map (λ k. line items (f k) (key_seen (pos 0) keys k)) ks
value_lines_are keys items f [] long = refl
value_lines_are keys items f (k ∷ ks) long = λ i. pick_group keys k (f k) (long k (inl refl)) items i ∷ value_lines_are keys items f ks (λ j m. long j (inr m)) i

pub key_lines_are : (keys : List Col) (items : List Printed) (ks : List (List ℤ)) → ((k : List ℤ) → In k ks → length k ≡ length keys)
    → key_lines (map (group_place keys) items) ks ≡ map (λ k. line items (pos 0) (key_seen (pos 0) keys k)) ks
key_lines_are keys items [] long = refl
key_lines_are keys items (k ∷ ks) long = λ i. pick_group keys k (pos 0) (long k (inl refl)) items i ∷ key_lines_are keys items ks (λ j m. long j (inr m)) i

pub keys_above_are : (above : ℤ) (f : List ℤ → ℤ) (ks : List (List ℤ)) → keys_above above ks (map f ks) ≡ filter (λ k. int_lt above (f k)) ks
keys_above_are above f [] = refl
keys_above_are above f (k ∷ ks) = ap (λ ls. cond (int_lt above (f k)) (k ∷ ls) ls) (keys_above_are above f ks)

-- each column of a key is that of a row with this key
key_is : (keys : List Col) (v : View ℤ) (side at : ℕ) → IsCol keys side at → key_seen (pos 0) keys (at_each v keys) side at ≡ v side at
key_is [] v side at i = absurd i
key_is (c ∷ cs) v side at i = go ((c.side == side) && (c.at == at)) refl i (key_is cs v side at)
  where
    go : (t : Bool) → ((c.side == side) && (c.at == at)) ≡ t → ((c.side ≡ side) × (c.at ≡ at)) ⊎ IsCol cs side at → (IsCol cs side at → key_seen (pos 0) cs (at_each v cs) side at ≡ v side at)
        → cond t (v c.side c.at) (key_seen (pos 0) cs (at_each v cs) side at) ≡ v side at
    go true e i ih = let p = and_parts (c.side == side) (c.at == at) e in λ j. v (eqb-true c.side side p.0 j) (eqb-true c.at at p.1 j)
    go false e (inl h) ih = let t : ((c.side == side) && (c.at == at)) ≡ true = λ j. (eq-eqb c.side side h.0 j) && (eq-eqb c.at at h.1 j) in absurd (cc (t, e))
    go false e (inr h) ih = ih h

pub line_keys : (keys : List Col) (v : View ℤ) (best : ℤ) (items : List Printed) → AllPrinted (IsCol keys) items → line items best (key_seen (pos 0) keys (at_each v keys)) ≡ line items best v
line_keys keys v best [] names = refl
line_keys keys v best (printed.Column c ∷ items) names = λ i. key_is keys v c.side c.at names.0 i ∷ line_keys keys v best items names.1 i
line_keys keys v best (printed.Best ∷ items) names = ap (λ ls. best ∷ ls) (line_keys keys v best items names.1)

-- a key that is kept is that of a row
pub kept_row : {V : Type 0} (made : List ℤ → V) (keys : List Col) (f : View ℤ → ℤ) (rows : List (View ℤ)) (kept : Valued V) → KeepsGroups made (map (λ r. (at_each r keys, f r)) rows) kept
    → (k : List ℤ) → In k kept.keys → (v : View ℤ) × In v rows × (k ≡ at_each v keys)
kept_row made keys f rows kept s k i =
    let groups = map (λ (r : View ℤ). (at_each r keys, f r)) rows in
    let a = among-In key_cmp exact k (map (λ (g : List ℤ × ℤ). g.0) groups) (kept_among made groups kept s k (among-from key_cmp exact k kept.keys i)) in
    let g = In-map (λ (g : List ℤ × ℤ). g.0) k groups a in
    let v = In-map (λ (r : View ℤ). (at_each r keys, f r)) g.0 rows g.1 in
    (v.0, v.1, g.2 ∙ ap (λ (g : List ℤ × ℤ). g.0) v.2)

pub kept_length : {V : Type 0} (made : List ℤ → V) (keys : List Col) (f : View ℤ → ℤ) (rows : List (View ℤ)) (kept : Valued V) → KeepsGroups made (map (λ r. (at_each r keys, f r)) rows) kept
    → (k : List ℤ) → In k kept.keys → length k ≡ length keys
kept_length made keys f rows kept s k i = let v = kept_row made keys f rows kept s k i in ap length v.2 ∙ length-map keys _
