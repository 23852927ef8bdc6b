-- A pruned row comes after an open row of its key that is no worse.
use Rattle.std.proofs.Common.{◌≡◌, ℕ, zero, suc, ◌-◌, Bool, true, false, cond, not, ◌&&◌, ◌||◌, List, [], ◌∷◌, ◌++◌, map, filter, take, length, ltb, refl, sym, ◌∙◌, ap, ap₂, inl, inr, arith, nat_eq, ℤ, int_lt, int_le}
use Rattle.std.specs.Prelude.{◌⊎◌}
use Rattle.std.specs.declared.cmp.Ordering.TheVariants.{Less, Equal, Greater}
use Rattle.std.specs.Ordering.{int_cmp, is_lt}
use Rattle.std.proofs.lemmas.Bool.{and_parts, or_cases}
use Rattle.std.proofs.lemmas.Int.{ints}
use Rattle.ch_lists.specs.Members.{In}
use Rattle.ch_lists.specs.Ordered.{directed}
use Rattle.ch_cover.specs.Rows.{Row}
use Rattle.ch_words.specs.Policies.{Key}
use Rattle.ch_words.specs.Prunable.{PrunesMatched, open_rows}
use Rattle.op_moves.specs.Values.{word_at}
use Rattle.op_group.specs.Sizes.{Sizes}
use Rattle.op_group.specs.Policy.{Pair, group_policy, hash_row, is_beaten, is_key, is_listed, key_of, oriented, pairs_after, placed, raised, value_of}
use Rattle.op_group.specs.Lists.{key_is}

-- the key and value of the new pair beat
abbrev Beats : Key → ℤ → Key → ℤ → Type 0
Beats k v j u = (j ≡ k) × (int_le v u ≡ true)

raised_gives : (k j : Key) (v u : ℤ) (ps : List Pair) → is_beaten k v (map (raised j u) ps) ≡ true → is_beaten k v ps ≡ true ⊎ Beats k v j u
raised_gives k j v u [] h = inl h
raised_gives k j v u (p ∷ ps) h = go (is_key j p.key) (int_lt p.best u) refl h (raised_gives k j v u ps)
  where
    pushed : is_beaten k v ps ≡ true ⊎ Beats k v j u → is_beaten k v (p ∷ ps) ≡ true ⊎ Beats k v j u
    pushed e = elim e [
      | inl b ↦ inl (later (is_key k p.key && int_le v p.best) b)
      | inr b ↦ inr b
    ]
      where
        later : (t : Bool) → is_beaten k v ps ≡ true → (t || is_beaten k v ps) ≡ true
        later true b = refl
        later false b = b

    kept : (is_key k p.key && int_le v p.best) ≡ true → is_beaten k v (p ∷ ps) ≡ true
    kept e = ap (λ (t : Bool). t || is_beaten k v ps) e

    go : (a b : Bool) → is_key j p.key ≡ a → is_beaten k v ((cond {A = Pair} (a && b) (record { key = p.key; best = u }) p) ∷ map (raised j u) ps) ≡ true
        → (is_beaten k v (map (raised j u) ps) ≡ true → is_beaten k v ps ≡ true ⊎ Beats k v j u) → is_beaten k v (p ∷ ps) ≡ true ⊎ Beats k v j u
    go true true e h ih = elim (or_cases (is_key k p.key && int_le v u) (is_beaten k v (map (raised j u) ps)) h) [
      | inl first ↦ let t = and_parts (is_key k p.key) (int_le v u) first in inr (sym (key_is j p.key e) ∙ key_is k p.key t.0, t.1)
      | inr rest ↦ pushed (ih rest)
    ]
    go true false e h ih = elim (or_cases (is_key k p.key && int_le v p.best) (is_beaten k v (map (raised j u) ps)) h) [
      | inl first ↦ inl (kept first)
      | inr rest ↦ pushed (ih rest)
    ]
    go false b e h ih = elim (or_cases (is_key k p.key && int_le v p.best) (is_beaten k v (map (raised j u) ps)) h) [
      | inl first ↦ inl (kept first)
      | inr rest ↦ pushed (ih rest)
    ]

pushed_gives : (k j : Key) (v u : ℤ) (ps : List Pair) → is_beaten k v (ps ++ record { key = j; best = u } ∷ []) ≡ true → is_beaten k v ps ≡ true ⊎ Beats k v j u
pushed_gives k j v u [] h = elim (or_cases (is_key k j && int_le v u) false h) [
  | inl e ↦ let t = and_parts (is_key k j) (int_le v u) e in inr (key_is k j t.0, t.1)
  | inr e ↦ inl e
]
pushed_gives k j v u (p ∷ ps) h = elim (or_cases (is_key k p.key && int_le v p.best) (is_beaten k v (ps ++ record { key = j; best = u } ∷ [])) h) [
  | inl e ↦ inl (ap (λ (t : Bool). t || is_beaten k v ps) e)
  | inr e ↦ elim (pushed_gives k j v u ps e) [
    | inl b ↦ inl (later (is_key k p.key && int_le v p.best) b)
    | inr b ↦ inr b
  ]
]
  where
    later : (t : Bool) → is_beaten k v ps ≡ true → (t || is_beaten k v ps) ≡ true
    later true b = refl
    later false b = b

taken_gives : (k : Key) (v : ℤ) (n : ℕ) (ps : List Pair) → is_beaten k v (take n ps) ≡ true → is_beaten k v ps ≡ true
taken_gives k v zero ps h = absurd cc
taken_gives k v (suc n) [] h = h
taken_gives k v (suc n) (p ∷ ps) h = elim (or_cases (is_key k p.key && int_le v p.best) (is_beaten k v (take n ps)) h) [
  | inl e ↦ ap (λ (t : Bool). t || is_beaten k v ps) e
  | inr e ↦ later (is_key k p.key && int_le v p.best) (taken_gives k v n ps e)
]
  where
    later : (t : Bool) → is_beaten k v ps ≡ true → (t || is_beaten k v ps) ≡ true
    later true b = refl
    later false b = b

placed_gives : (cols : ℕ) (k j : Key) (v u : ℤ) (ps : List Pair) → is_beaten k v (placed cols j u ps) ≡ true → is_beaten k v ps ≡ true ⊎ Beats k v j u
placed_gives cols k j v u ps h = go (is_listed j ps) (ltb (length ps) cols) h
  where
    last : Pair
    last = record { key = j; best = u }

    go : (a b : Bool) → is_beaten k v (cond a (map (raised j u) ps) (cond b (ps ++ last ∷ []) (take (cols - 1) ps ++ last ∷ []))) ≡ true → is_beaten k v ps ≡ true ⊎ Beats k v j u
    go true b h = raised_gives k j v u ps h
    go false true h = pushed_gives k j v u ps h
    go false false h = elim (pushed_gives k j v u (take (cols - 1) ps) h) [
      | inl e ↦ inl (taken_gives k v (cols - 1) ps e)
      | inr e ↦ inr e
    ]

-- a pair that beats is of an open row before
beaten_came : (s : Sizes) (k : Key) (v : ℤ) (i : ℕ) (before : List Row) → is_beaten k v (pairs_after s (map (λ y. (1, y)) before) i) ≡ true
    → (x : Row) × In x (open_rows before) × (key_of s x ≡ k) × (int_le v (value_of s x) ≡ true)
beaten_came s k v i [] h = absurd cc
beaten_came s k v i (y ∷ before) h = go y.bit (nat_eq (hash_row s (key_of s y)) i) h (beaten_came s k v i before)
  where
    lists : List Pair
    lists = pairs_after s (map (λ z. (1, z)) before) i

    Came : List Row → Type 0
    Came rows = (x : Row) × In x rows × (key_of s x ≡ k) × (int_le v (value_of s x) ≡ true)

    go : (t e : Bool) → is_beaten k v (cond (t && e) (placed s.cols (key_of s y) (value_of s y) lists) lists) ≡ true
        → (is_beaten k v lists ≡ true → Came (open_rows before)) → Came (cond t (y ∷ open_rows before) (open_rows before))
    go true true h ih = elim (placed_gives s.cols k (key_of s y) v (value_of s y) lists h) [
      | inl e ↦ let c = ih e in (c.0, inr c.1, c.2, c.3)
      | inr e ↦ (y, inl refl, e.0, e.1)
    ]
    go true false h ih = let c = ih h in (c.0, inr c.1, c.2, c.3)
    go false e h ih = ih h

not_less : (a c : ℤ) → int_lt a c ≡ false → is_lt (int_cmp a c) ≡ false
not_less a c e = ap (λ t. is_lt (cond t Less (cond (int_lt c a) Greater Equal))) e ∙ go (int_lt c a)
  where
    go : (t : Bool) → is_lt (cond t Greater Equal) ≡ false
    go true = refl
    go false = refl

no_worse : (max : Bool) (v w : ℤ) → int_le (oriented max v) (oriented max w) ≡ true → is_lt (directed max int_cmp v w) ≡ false
no_worse true v w e = not_less w v (grind (arith, ints))
no_worse false v w e = not_less v w (grind (arith, ints))

pub group_fact : (s : Sizes) (key : Row → List ℤ) (value : Row → ℤ) → ((r x : Row) → key_of s x ≡ key_of s r → key x ≡ key r) → ((r : Row) → word_at r s.value ≡ value r)
    → PrunesMatched s.is_max key value (group_policy s)
group_fact s key value same own r before set p = elim (or_cases (not r.bit) (is_beaten (key_of s r) (value_of s r) (pairs_after s (map (λ y. (1, y)) before) (hash_row s (key_of s r)))) p) [
  | inl shut ↦ absurd (cc (shut, set))
  | inr low ↦
      let c = beaten_came s (key_of s r) (value_of s r) (hash_row s (key_of s r)) before low in
      (c.0, c.1, same r c.0 c.2, ap₂ (λ (x y : ℤ). is_lt (directed s.is_max int_cmp x y)) (sym (own r)) (sym (own c.0)) ∙ no_worse s.is_max (word_at r s.value) (word_at c.0 s.value) c.3)
]
