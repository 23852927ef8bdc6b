-- Where the first line of a text ends.
use Rattle.std.proofs.Common.{◌≡◌, ◌≢◌, ◌<◌, ℕ, zero, suc, ◌+◌, Bool, true, false, List, [], ◌∷◌, ◌++◌, refl, ◌∙◌, ap, arith, length, get_or, take, inl, inr, nat_eq}
use Rattle.std.specs.Prelude.{◌&&◌, if◌then◌else◌}
use Rattle.std.specs.List.{list_all}
use Rattle.std.proofs.lemmas.Bool.{cases_Bool, and_parts}
use Rattle.std.proofs.lemmas.Bool.Decides.{nat_tests}
use Rattle.ch_lines.specs.Lines.{lines_of, without_cr, is_inner, is_feed, onto_first}

inner : (b : ℕ) (bs : List ℕ) → list_all is_inner (b ∷ bs) ≡ true → (is_feed b ≡ false) × (list_all is_inner bs ≡ true)
inner b bs h = let p = and_parts (is_inner b) (list_all is_inner bs) h in (grind (arith, nat_tests), p.1)

-- no line feed follows
kept : (test : Bool) (a b : List (List ℕ)) → test ≡ false → (if true && test then a else b) ≡ b
kept test a b h = rw h refl

-- a line that a line feed ends
pub lines_of-feed : (line rest : List ℕ) → list_all is_inner line ≡ true → lines_of (line ++ 10 ∷ rest) ≡ without_cr line ∷ lines_of rest
lines_of-feed [] rest h = refl
lines_of-feed (b ∷ []) rest h = let i = inner b [] h in elim (cases_Bool (nat_eq b 13)) [
  | inl t ↦ rw (i.0, t) refl
  | inr t ↦ rw (i.0, t) refl
]
lines_of-feed (b ∷ c ∷ cs) rest h =
    let i = inner b (c ∷ cs) h in
    let j = inner c cs i.1 in
    let more = ap (onto_first b) (lines_of-feed (c ∷ cs) rest i.1) in
    elim (cases_Bool (nat_eq b 13)) [
      | inl t ↦ rw (i.0, t) (kept (is_feed c) _ _ j.0 ∙ more)
      | inr t ↦ rw (i.0, t) more
    ]

-- a last line that lacks its line feed
pub lines_of-last : (b : ℕ) (line : List ℕ) → list_all is_inner (b ∷ line) ≡ true → lines_of (b ∷ line) ≡ (b ∷ line) ∷ []
lines_of-last b [] h = let i = inner b [] h in elim (cases_Bool (nat_eq b 13)) [
  | inl t ↦ rw (i.0, t) refl
  | inr t ↦ rw (i.0, t) refl
]
lines_of-last b (c ∷ cs) h =
    let i = inner b (c ∷ cs) h in
    let j = inner c cs i.1 in
    let more = ap (onto_first b) (lines_of-last c cs i.1) in
    elim (cases_Bool (nat_eq b 13)) [
      | inl t ↦ rw (i.0, t) (kept (is_feed c) _ _ j.0 ∙ more)
      | inr t ↦ rw (i.0, t) more
    ]

pub lines_of-some : (text : List ℕ) → 0 < length text → list_all is_inner text ≡ true → lines_of text ≡ text ∷ []
lines_of-some [] h i = absurd (omega arith)
lines_of-some (b ∷ line) h i = lines_of-last b line i

-- a carriage return at the end
pub without_cr-cut : (line : List ℕ) (n : ℕ) → length line ≡ n + 1 → get_or line n 0 ≡ 13 → take n line ≡ without_cr line
without_cr-cut [] n l h = absurd (omega arith)
without_cr-cut (b ∷ []) zero l h = rw h refl
without_cr-cut (b ∷ []) (suc n) l h = absurd (omega arith)
without_cr-cut (b ∷ c ∷ cs) zero l h = absurd (omega arith)
without_cr-cut (b ∷ c ∷ cs) (suc n) l h = ap (λ xs. b ∷ xs) (without_cr-cut (c ∷ cs) n (omega arith) h)

pub without_cr-kept : (line : List ℕ) (n : ℕ) → length line ≡ n + 1 → get_or line n 0 ≢ 13 → line ≡ without_cr line
without_cr-kept [] n l h = absurd (omega arith)
without_cr-kept (b ∷ []) zero l h = let t : nat_eq b 13 ≡ false = grind (arith, nat_tests) in rw t refl
without_cr-kept (b ∷ []) (suc n) l h = absurd (omega arith)
without_cr-kept (b ∷ c ∷ cs) zero l h = absurd (omega arith)
without_cr-kept (b ∷ c ∷ cs) (suc n) l h = ap (λ xs. b ∷ xs) (without_cr-kept (c ∷ cs) n (omega arith) h)
