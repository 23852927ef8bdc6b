-- Texts that are added one after another.
use Rattle.std.proofs.Common.{◌≡◌, ℕ, zero, suc, ◌+◌, ◌≤◌, Bool, true, false, cond, ◌||◌, List, [], ◌∷◌, ◌++◌, length, take, Some, slice_get, All, refl, sym, ◌∙◌, ap, arith}
use Rattle.std.specs.Prelude.{bytes_eq}
use Rattle.std.specs.List.{list_any}
use Rattle.std.proofs.lemmas.List.{length-append}
use Rattle.std.proofs.lemmas.List.Elements.{All-nil, All-cons}
use Rattle.std.proofs.lemmas.Slice.Eq.{bytes_eq-Decides}
use Rattle.ch_lists.proofs.Members.{All-from_Each, Each-from_All}
use Rattle.ch_tables.specs.Texts.{with_text, with_texts}

list_any-append : (p : List ℕ → Bool) (xs ys : List (List ℕ)) → list_any p (xs ++ ys) ≡ (list_any p xs || list_any p ys)
list_any-append p [] ys = refl
list_any-append p (x ∷ xs) ys = go (p x) (list_any-append p xs ys)
  where
    go : (b : Bool) → list_any p (xs ++ ys) ≡ (list_any p xs || list_any p ys) → (b || list_any p (xs ++ ys)) ≡ ((b || list_any p xs) || list_any p ys)
    go true e = refl
    go false e = e

with_more : (texts more : List (List ℕ)) (at : ℕ) (text : List ℕ) → slice_get more at ≡ Some text → with_texts texts (take (suc at) more) ≡ with_text (with_texts texts (take at more)) text
with_more texts [] at text e = cc
with_more texts (t ∷ more) zero text e = let same : t ≡ text = cc in ap (with_text texts) same
with_more texts (t ∷ more) (suc at) text e = with_more (with_text texts t) more at text e

-- one text more
pub one_added : (texts more now : List (List ℕ)) (at : ℕ) (text : List ℕ) → slice_get more at ≡ Some text → now ≡ with_texts texts (take at more) → with_text now text ≡ with_texts texts (take (at + 1) more)
one_added texts more now at text e h =
    let next : at + 1 ≡ suc at = omega arith in
    ap (λ ts. with_text ts text) h ∙ (sym (with_more texts more at text e) ∙ sym (ap (λ n. with_texts texts (take n more)) next))

pub one_longer : (texts : List (List ℕ)) (text : List ℕ) (n : ℕ) → length texts ≤ n → length (with_text texts text) ≤ n + 1
one_longer texts text n l = go (list_any (bytes_eq text) texts)
  where
    go : (b : Bool) → length (cond b texts (texts ++ text ∷ [])) ≤ n + 1
    go true = omega arith
    go false = let e = length-append texts (text ∷ []) in omega arith

-- a text that is there stays, and one that is added is there
stays : (texts : List (List ℕ)) (text other : List ℕ) → list_any (bytes_eq text) texts ≡ true → list_any (bytes_eq text) (with_text texts other) ≡ true
stays texts text other h = go (list_any (bytes_eq other) texts)
  where
    go : (b : Bool) → list_any (bytes_eq text) (cond b texts (texts ++ other ∷ [])) ≡ true
    go true = h
    go false = list_any-append (bytes_eq text) texts (other ∷ []) ∙ ap (λ t. t || list_any (bytes_eq text) (other ∷ [])) h

itself : (text : List ℕ) → bytes_eq text text ≡ true
itself text = (bytes_eq-Decides text text).1 refl

or_true : (b : Bool) → (b || true) ≡ true
or_true true = refl
or_true false = refl

there : (texts : List (List ℕ)) (text : List ℕ) → list_any (bytes_eq text) (with_text texts text) ≡ true
there texts text = go (list_any (bytes_eq text) texts) refl
  where
    go : (b : Bool) → list_any (bytes_eq text) texts ≡ b → list_any (bytes_eq text) (cond b texts (texts ++ text ∷ [])) ≡ true
    go true e = e
    go false e = list_any-append (bytes_eq text) texts (text ∷ []) ∙ (ap (λ t. list_any (bytes_eq text) texts || (t || false)) (itself text) ∙ or_true (list_any (bytes_eq text) texts))

all_stay : (texts more : List (List ℕ)) (text : List ℕ) → list_any (bytes_eq text) texts ≡ true → list_any (bytes_eq text) (with_texts texts more) ≡ true
all_stay texts [] text h = h
all_stay texts (t ∷ more) text h = all_stay (with_text texts t) more text (stays texts text t h)

pub all_there : (texts more : List (List ℕ)) → All (λ text. list_any (bytes_eq text) (with_texts texts more) ≡ true) more
all_there texts [] = All-nil (λ text. list_any (bytes_eq text) (with_texts texts []) ≡ true)
all_there texts (t ∷ more) = All-cons (λ text. list_any (bytes_eq text) (with_texts texts (t ∷ more)) ≡ true) t more (all_stay (with_text texts t) more t (there texts t)) (all_there (with_text texts t) more)

-- a dictionary with the same texts has them too
pub ranked_texts : (ranks built more : List (List ℕ)) → ((text : List ℕ) → list_any (bytes_eq text) ranks ≡ list_any (bytes_eq text) built) → built ≡ with_texts [] more
    → All (λ text. list_any (bytes_eq text) ranks ≡ true) more
ranked_texts ranks built more h e = All-from_Each (λ text. list_any (bytes_eq text) ranks ≡ true) more
    (λ text i. h text ∙ (ap (λ (ts : List (List ℕ)). list_any (bytes_eq text) ts) e ∙ Each-from_All (λ t. list_any (bytes_eq t) (with_texts [] more) ≡ true) more (all_there [] more) text i))
