-- A text has at most one bad line.
use Rattle.std.proofs.Common.{◌≡◌, ◌<◌, ℕ, ◌+◌, List, [], ◌∷◌, ◌++◌, length, refl, sym, ap, ◌∙◌, append_assoc, inl, inr, arith, length-append}
use Rattle.std.specs.Prelude.{◌==◌}
use Rattle.std.specs.List.{slice_split}
use Rattle.std.proofs.lemmas.Bool.{cases_order}
use Rattle.ch_asm_lines.proofs.Bytes.{cut_back, cut_none}
use Rattle.ch_asm_lines.proofs.Lists.{split_cut, split_whole}
use Rattle.ch_asm_lines.proofs.ListLaws.{split_some}
use Rattle.ch_asm.specs.Refusal.{IsBadLine}
use Rattle.ch_asm.proofs.Refusals.{split_bad}

some_length : (xs : List (List ℕ)) → (xs ≡ [] → ⊥) → 0 < length xs
some_length [] some = absurd (some refl)
some_length (x ∷ xs) some = omega arith

-- a longer front of one list goes on from a shorter one and the next element
longer_front : (a b xs ys : List (List ℕ)) (x : List ℕ) → a ++ x ∷ xs ≡ b ++ ys → length a < length b → (others : List (List ℕ)) × (b ≡ (a ++ x ∷ []) ++ others)
longer_front a [] xs ys x e l = absurd (omega arith)
longer_front [] (z ∷ b) xs ys x e l = let same : z ≡ x = cc in (b, ap (λ y. y ∷ b) same)
longer_front (y ∷ a) (z ∷ b) xs ys x e l =
    let same : z ≡ y = cc in
    let tails : a ++ x ∷ xs ≡ b ++ ys = cc in
    let more = longer_front a b xs ys x tails (omega arith) in
    let tail = more.1 in
    (more.0, cc)

none_later : (text : List ℕ) (m n : ℕ) → IsBadLine text m → IsBadLine text n → m < n → ⊥
none_later text m n a b l =
    let longer : length a.before < length b.before = let p = a.place in let q = b.place in omega arith in
    let parts = sym (split_bad text m a) ∙ split_bad text n b in
    elim a.ends [
      | inl other ↦
          let tail : List (List ℕ) = slice_split (λ x. x == 10) other.more in
          let comes : slice_split (λ x. x == 10) a.rest ≡ other.line ∷ tail =
          ap (slice_split (λ x. x == 10)) other.comes
          ∙ split_cut 10 (other.line ++ 10 ∷ other.more) (other.line, other.more) (cut_back 10 other.line other.more other.inner) in
          let front = longer_front a.before b.before tail (slice_split (λ x. x == 10) b.rest) other.line
          (ap (λ (ts : List (List ℕ)). a.before ++ ts) (sym comes) ∙ parts) longer in
          other.begins_none (record {
            program = b.begins.program;
            is_program = b.begins.is_program;
            others = front.0 ++ b.begins.others;
            whole = b.begins.whole ∙ ap (λ (ts : List (List ℕ)). ts ++ b.begins.others) front.1
                ∙ append_assoc (a.before ++ other.line ∷ []) front.0 b.begins.others;
          })
      | inr last ↦
          let one : slice_split (λ x. x == 10) a.rest ≡ a.rest ∷ [] = split_whole 10 a.rest (cut_none 10 a.rest last.inner) in
          let some = some_length (slice_split (λ x. x == 10) b.rest) (split_some 10 b.rest) in
          let lengths : length a.before + 1 ≡ length b.before + length (slice_split (λ x. x == 10) b.rest) =
          sym (length-append a.before (a.rest ∷ []))
          ∙ ap length (ap (λ (ts : List (List ℕ)). a.before ++ ts) (sym one) ∙ parts)
          ∙ length-append b.before (slice_split (λ x. x == 10) b.rest) in
          omega arith
    ]

pub told_once : (text : List ℕ) (m n : ℕ) → IsBadLine text m → IsBadLine text n → m ≡ n
told_once text m n a b = elim (cases_order m n) [
  | inl same ↦ same
  | inr other ↦ elim other [
    | inl below ↦ absurd (none_later text m n a b below)
    | inr above ↦ absurd (none_later text n m b a above)
  ]
]
