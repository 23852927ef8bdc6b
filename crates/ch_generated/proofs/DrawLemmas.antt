-- Words that are drawn one behind the other.
use Rattle.std.proofs.Common.{◌≡◌, ℕ, zero, suc, ◌+◌, ◌*◌, [], ◌∷◌, ◌++◌, refl, ap, ◌∙◌, arith, zero-add, suc-add}
use Rattle.std.proofs.lemmas.List.FromFn.{map-range_with_len_more}
use Rattle.rand_pcg.specs.Lcg.{Lcg, next_state, state_after}
use Rattle.rand_pcg.specs.Pcg.{multiplier_64, pcg32}
use Rattle.ch_generated.specs.Draws.{after, word}
use Rattle.ch_generated.specs.TableText.{t_row, t_rows, u_row, u_rows}

states_after : (w m p a b s : ℕ) → state_after w m p b (state_after w m p a s) ≡ state_after w m p (a + b) s
unfolding state_after
states_after w m p zero b s = rw zero-add refl
states_after w m p (suc a) b s = rw suc-add (states_after w m p a b (next_state w m p s))

-- some words and then more
pub after_after : (a b : ℕ) (g : Lcg) → after b (after a g) ≡ after (a + b) g
unfolding after
after_after a b g = ap (λ (s : ℕ). let r : Lcg = record { state = s; increment = g.increment } in r) (states_after 64 multiplier_64 g.increment a b g.state)

pub after_none : (g : Lcg) → after 0 g ≡ g
unfolding after state_after
after_none g = refl

-- a step of the generator gives its word, and leaves it after one
pub pcg32_is : (g : Lcg) → pcg32 g ≡ (word g, after 1 g)
unfolding after state_after word
pcg32_is g = refl

-- one more row
pub t_rows_more : (n : ℕ) (g : Lcg) → t_rows (n + 1) g ≡ t_rows n g ++ t_row (after (3 * n) g) ∷ []
unfolding t_rows
t_rows_more n g = map-range_with_len_more (λ r. t_row (after (3 * r) g)) 0 n n (zero-add n)

pub t_rows_none : (g : Lcg) → t_rows 0 g ≡ []
unfolding t_rows
t_rows_none g = refl

pub u_rows_more : (n : ℕ) (g : Lcg) → u_rows (n + 1) g ≡ u_rows n g ++ u_row (after (2 * n) g) ∷ []
unfolding u_rows
u_rows_more n g = map-range_with_len_more (λ r. u_row (after (2 * r) g)) 0 n n (zero-add n)

pub after_row : (n : ℕ) (width : ℕ) (g : Lcg) → after width (after (width * n) g) ≡ after (width * (n + 1)) g
after_row n width g = let same : width * n + width ≡ width * (n + 1) = omega arith in after_after (width * n) width g ∙ ap (λ (k : ℕ). after k g) same

pub u_rows_none : (g : Lcg) → u_rows 0 g ≡ []
unfolding u_rows
u_rows_none g = refl
