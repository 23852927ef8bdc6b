-- A list cut at a byte, and joined again.
use Rattle.std.proofs.Common.{◌≡◌, ◌∙◌, ℕ, ◌+◌, ◌-◌, ◌<◌, Bool, true, false, cond, List, [], ◌∷◌, length, take, drop, Some, None, refl, sym, ap, arith, length-drop}
use Rattle.std.specs.Prelude.{◌==◌, nat_lt}
use Rattle.std.specs.List.{list_all, join_with_byte, slice_split, position, position_or_len}
use Rattle.std.proofs.lemmas.Bool.{ltb-true, ltb-false}
use Rattle.std.proofs.lemmas.List.{take_all}
use Rattle.std.proofs.lemmas.List.Elements.{All-from_get_or}
use Rattle.std.proofs.lemmas.List.Splits.{slice_split_at, slice_split_none, slice_split_first, length-slice_split}
use Rattle.std.proofs.lemmas.List.Sums.{fails_before_first}
use Rattle.ch_trace_lines.proofs.Bytes.{is_field_byte, no_spaces}

-- each field is of bytes above the space
abbrev pub AreFields : List (List ℕ) → Type 0
AreFields [] = Unit {0}
AreFields (f ∷ fs) = (list_all is_field_byte f ≡ true) × AreFields fs

pub fields_split : (f : List ℕ) (fs : List (List ℕ)) → AreFields (f ∷ fs) → slice_split (λ b. b == 32) (join_with_byte 32 (f ∷ fs)) ≡ f ∷ fs
fields_split f [] h = slice_split_none (λ b. b == 32) f (no_spaces f h.0)
fields_split f (g ∷ gs) h =
    slice_split_at (λ b. b == 32) f 32 (join_with_byte 32 (g ∷ gs)) (no_spaces f h.0) refl
    ∙ ap (λ (ts : List (List ℕ)). f ∷ ts) (fields_split g gs h.1)

-- where no byte passes, and where one does
module _ (p : ℕ → Bool) (text : List ℕ) where
  there : (b : Bool) (at : ℕ) → cond b (Some (position_or_len p text)) None ≡ Some at → (b ≡ true) × (position_or_len p text ≡ at)
  there true at e = let k : position_or_len p text ≡ at = cc in (refl, k)
  there false at e = cc

  nowhere : (b : Bool) → cond b (Some (position_or_len p text)) None ≡ None → b ≡ false
  nowhere true e = cc
  nowhere false e = refl

  pub place_within : (at : ℕ) → position p text ≡ Some at → at < length text
  place_within at e =
      let t = there (nat_lt (position_or_len p text) (length text)) at e in
      let l = ltb-true (position_or_len p text) (length text) t.0 in
      omega (arith, l, t.1)

  pub split_there : (at : ℕ) → position p text ≡ Some at → slice_split p text ≡ take at text ∷ slice_split p (take (length text - (at + 1)) (drop (at + 1) text))
  split_there at e =
      let t = there (nat_lt (position_or_len p text) (length text)) at e in
      let l = ltb-true (position_or_len p text) (length text) t.0 in
      let all : take (length text - (at + 1)) (drop (at + 1) text) ≡ drop (at + 1) text = take_all (length text - (at + 1)) (drop (at + 1) text) (omega (arith, length-drop (at + 1) text)) in
      slice_split_first p text 0 l
      ∙ ap (λ (n : ℕ). take n text ∷ slice_split p (drop (n + 1) text)) t.1
      ∙ ap (λ (xs : List ℕ). take at text ∷ slice_split p xs) (sym all)

  pub split_nowhere : position p text ≡ None → slice_split p text ≡ text ∷ []
  split_nowhere e =
      let n = nowhere (nat_lt (position_or_len p text) (length text)) e in
      let l = ltb-false (position_or_len p text) (length text) n in
      slice_split_none p text (All-from_get_or (λ x. p x ≡ false) text 0 (λ i h. fails_before_first p text i 0 (omega arith)))

  -- there is a part
  pub split_some : 0 < length (slice_split p text)
  split_some = omega (arith, length-slice_split p text)
