-- Texts that are added to a dictionary.
use Rattle.std.proofs.Common.{◌≡◌, ℕ, ◌+◌, ◌<◌, ◌≤◌, All, Bool, true, false, cond, ◌||◌, List, [], ◌∷◌, ◌++◌, length, refl, sym, subst, ◌∙◌, ap, arith}
use Rattle.std.specs.Prelude.{bytes_eq}
use Rattle.std.specs.List.{list_any}
use Rattle.std.proofs.lemmas.List.{length-append}
use Rattle.std.proofs.lemmas.List.Sums.{fold-append}
use Rattle.std.proofs.lemmas.List.Folds.{list_any-append}
use Rattle.std.proofs.lemmas.List.Elements.{All-nil, All-cons}
use Rattle.std.proofs.lemmas.Slice.Eq.{bytes_eq-Decides}
use Rattle.ch_lists.specs.Ordered.{ordered}
use Rattle.ch_ranks.specs.Dictionary.{text_cmp}
use Rattle.ch_tables.specs.Texts.{with_text, with_texts}
use Rattle.ch_asked.specs.Texts.{dictionary_of}

pub one_longer : (texts : List (List ℕ)) (t : List ℕ) → length (with_text texts t) ≤ length texts + 1
one_longer texts t = go (list_any (bytes_eq t) texts)
  where
    go : (b : Bool) → length (cond b texts (texts ++ t ∷ [])) ≤ length texts + 1
    go true = omega arith
    go false = let one = length-append texts (t ∷ []) in omega (arith, one)

pub no_longer : (texts more : List (List ℕ)) → length (with_texts texts more) ≤ length texts + length more
no_longer texts [] = omega arith
no_longer texts (t ∷ more) = let rest = no_longer (with_text texts t) more in let one = one_longer texts t in omega (arith, rest, one)

-- those left are added behind
pub some_added : (start whole now some left next : List (List ℕ)) → with_texts now (some ++ left) ≡ with_texts start whole → next ≡ with_texts now some → with_texts next left ≡ with_texts start whole
some_added start whole now some left next h e = ap (λ ts. with_texts ts left) e ∙ (sym (fold-append with_text now some left) ∙ h)

pub added_both : (start low high now next : List (List ℕ)) → now ≡ with_texts start low → next ≡ with_texts now high → next ≡ with_texts start (low ++ high)
added_both start low high now next a b = b ∙ (ap (λ ts. with_texts ts high) a ∙ sym (fold-append with_text start low high))

or_moves : (a b c d : Bool) → a ≡ (b || c) → (a || d) ≡ (b || (c || d))
or_moves a true c d e = ap (λ x. x || d) e
or_moves a false c d e = ap (λ x. x || d) e

is_or : (texts : List (List ℕ)) (t text : List ℕ) → list_any (bytes_eq text) (with_text texts t) ≡ (list_any (bytes_eq text) texts || bytes_eq text t)
is_or texts t text = go (list_any (bytes_eq t) texts) refl
  where
    one : list_any (bytes_eq text) (t ∷ []) ≡ bytes_eq text t
    one = or_false (bytes_eq text t)
      where
        or_false : (b : Bool) → (b || false) ≡ b
        or_false true = refl
        or_false false = refl

    there : (b : Bool) → list_any (bytes_eq t) texts ≡ true → bytes_eq text t ≡ b → list_any (bytes_eq text) texts ≡ (list_any (bytes_eq text) texts || b)
    there true e s = let same : text ≡ t = (bytes_eq-Decides text t).0 s in rw same (rw e refl)
    there false e s = back (list_any (bytes_eq text) texts)
      where
        back : (b : Bool) → b ≡ (b || false)
        back true = refl
        back false = refl

    go : (b : Bool) → list_any (bytes_eq t) texts ≡ b → list_any (bytes_eq text) (with_text texts t) ≡ (list_any (bytes_eq text) texts || bytes_eq text t)
    go true e = ap (λ c. list_any (bytes_eq text) (cond c texts (texts ++ t ∷ []))) e ∙ there (bytes_eq text t) e refl
    go false e = ap (λ c. list_any (bytes_eq text) (cond c texts (texts ++ t ∷ []))) e ∙ (list_any-append (bytes_eq text) texts (t ∷ []) ∙ ap (λ b. list_any (bytes_eq text) texts || b) one)

-- what is there after texts were added
pub holds_both : (texts more : List (List ℕ)) (text : List ℕ) → list_any (bytes_eq text) (with_texts texts more) ≡ (list_any (bytes_eq text) texts || list_any (bytes_eq text) more)
holds_both texts [] text = back (list_any (bytes_eq text) texts)
  where
    back : (b : Bool) → b ≡ (b || false)
    back true = refl
    back false = refl
holds_both texts (t ∷ more) text =
    holds_both (with_text texts t) more text
    ∙ or_moves (list_any (bytes_eq text) (with_text texts t)) (list_any (bytes_eq text) texts) (bytes_eq text t) (list_any (bytes_eq text) more) (is_or texts t text)

pub dictionary_is : (ranks built filtered tabled : List (List ℕ)) → ranks ≡ ordered text_cmp built → built ≡ with_texts (with_texts [] filtered) tabled → ranks ≡ dictionary_of (filtered ++ tabled)
dictionary_is ranks built filtered tabled h e = h ∙ ap (ordered text_cmp) (e ∙ sym (fold-append with_text [] filtered tabled))

pub first_there : (numbers : List ℕ) (n : ℕ) → numbers ≡ 0 ∷ [] → 0 < n → All (λ k. k < n) numbers
first_there numbers n e some = subst (All (λ k. k < n)) (sym e) (All-cons (λ k. k < n) 0 [] some (All-nil (λ k. k < n)))
