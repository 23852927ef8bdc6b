-- The printed tokens of a predicate that is derived derive it again, and no deeper.
use Rattle.std.proofs.Common.{◌≡◌, ℕ, ◌+◌, ◌-◌, ◌<◌, ◌≤◌, Bool, true, false, not, ◌&&◌, ◌==◌, List, [], ◌∷◌, ◌++◌, map, length, take, drop, get_or, nat_lt, refl, sym, ap, ap₂, ◌∙◌, append_assoc, append-nil, arith, subst, length-append, if◌then◌else◌}
use Rattle.std.specs.List.{list_all}
use Rattle.std.proofs.lemmas.Grind.{common_steps}
use Rattle.std.proofs.lemmas.Bool.Decides.{nat_tests}
use Rattle.std.proofs.lemmas.List.{take-append-drop}
use Rattle.std.proofs.Math.Seq.{take-append_seam}
use Rattle.ch_sql_tokens.proofs.Bools.{both, same}
use Rattle.ch_sql_tokens.proofs.QuoteRules.{dropped}
use Rattle.ch_pred.specs.declared.pred.Literal.{Literal}
use Rattle.ch_sql_grammar.specs.declared.terminal.Mark.TheVariants as mark
use Rattle.ch_sql_grammar.specs.declared.terminal.Terminal.{Terminal}
use Rattle.ch_sql_grammar.specs.declared.terminal.Terminal.TheVariants as terminal
use Rattle.ch_sql_grammar.specs.declared.query.ColumnRef.{ColumnRef}
use Rattle.ch_sql_grammar.specs.Tree.{Plain, Plains, Within, Like, And, Or, Not, plains, all_of, any_of}
use Rattle.ch_sql_grammar.specs.Grammar as grammar
use Rattle.ch_sql_grammar.specs.Grammar.{Pred, conj, or, Conj, neg, and, Neg, parens, atom, col_tokens, pred_tokens, conj_tokens, neg_tokens, atom_tokens, atom_tree, conj_trees, neg_trees, neg_tree, pred_tree, conj_tree}
use Rattle.ch_sql_places.specs.Machine.{is_pattern}
use Rattle.ch_sql_limits.specs.Limits.{pred_depth, conj_depth, neg_depth, AtomFits, PredAtomsFit, ConjAtomsFit, NegAtomsFit}
use Rattle.ch_sql_text.specs.Printed.{joined, in_parens, is_or, is_and_or, filter_tokens, and_members, or_members}
use Rattle.ch_sql_text.proofs.Listing.{HasFirst, HasFirst-append, joined_push, joined_literals, no_parens}

-- A derivation of a tree and of tokens, of at most a depth. Its atoms fit where a premise holds.

pub record NegFor (A : Type 0) (tree : Plain) (tokens : List Terminal) (depth : ℕ) : Type 0 where
  pub form : Neg
  pub has_tree : neg_tree form ≡ tree
  pub has_tokens : neg_tokens form ≡ tokens
  pub has_depth : neg_depth form ≤ depth
  pub fits : A → NegAtomsFit form

pub record ConjFor (A : Type 0) (tree : Plain) (tokens : List Terminal) (depth : ℕ) : Type 0 where
  pub form : Conj
  pub has_tree : conj_tree form ≡ tree
  pub has_tokens : conj_tokens form ≡ tokens
  pub has_depth : conj_depth form ≤ depth
  pub fits : A → ConjAtomsFit form

pub record PredFor (A : Type 0) (tree : Plain) (tokens : List Terminal) (depth : ℕ) : Type 0 where
  pub form : Pred
  pub has_tree : pred_tree form ≡ tree
  pub has_tokens : pred_tokens form ≡ tokens
  pub has_depth : pred_depth form ≤ depth
  pub fits : A → PredAtomsFit form

neg_for : (A : Type 0) (t : Plain) (x y : List Terminal) (d e : ℕ) → NegFor A t x d → x ≡ y → d ≤ e → NegFor A t y e
neg_for A t x y d e n s le = record { form = n.form; has_tree = n.has_tree; has_tokens = n.has_tokens ∙ s; has_depth = (let h = n.has_depth in omega arith); fits = n.fits }

conj_for : (A : Type 0) (t : Plain) (x y : List Terminal) (d e : ℕ) → ConjFor A t x d → x ≡ y → d ≤ e → ConjFor A t y e
conj_for A t x y d e n s le = record { form = n.form; has_tree = n.has_tree; has_tokens = n.has_tokens ∙ s; has_depth = (let h = n.has_depth in omega arith); fits = n.fits }

pred_for : (A : Type 0) (t : Plain) (x y : List Terminal) (d e : ℕ) → PredFor A t x d → x ≡ y → d ≤ e → PredFor A t y e
pred_for A t x y d e n s le = record { form = n.form; has_tree = n.has_tree; has_tokens = n.has_tokens ∙ s; has_depth = (let h = n.has_depth in omega arith); fits = n.fits }

conj_from_neg : (A : Type 0) (t : Plain) (x : List Terminal) (d : ℕ) → NegFor A t x d → ConjFor A t x d
conj_from_neg A t x d n = record { form = neg n.form; has_tree = n.has_tree; has_tokens = n.has_tokens; has_depth = n.has_depth; fits = n.fits }

pred_from_conj : (A : Type 0) (t : Plain) (x : List Terminal) (d : ℕ) → ConjFor A t x d → PredFor A t x d
pred_from_conj A t x d c = record { form = conj c.form; has_tree = c.has_tree; has_tokens = c.has_tokens; has_depth = c.has_depth; fits = c.fits }

neg_in_parens : (A : Type 0) (t : Plain) (x : List Terminal) (d : ℕ) → PredFor A t x d → NegFor A t (in_parens true x) (d + 1)
neg_in_parens A t x d p = record {
  form = parens p.form;
  has_tree = p.has_tree;
  has_tokens = ap (in_parens true) p.has_tokens;
  has_depth = (let h = p.has_depth in omega arith);
  fits = p.fits;
}

-- the three ways in which a tree is printed, with a depth for each
pub record Shown (A : Type 0) (t : Plain) (d e f : ℕ) : Type 0 where
  pub as_pred : PredFor A t (filter_tokens t) d
  pub as_conj : ConjFor A t (in_parens (is_or t) (filter_tokens t)) e
  pub as_neg : NegFor A t (in_parens (is_and_or t) (filter_tokens t)) f

weaker : (A : Type 0) (t : Plain) (d e f x y z : ℕ) → Shown A t d e f → d ≤ x → e ≤ y → f ≤ z → Shown A t x y z
weaker A t d e f x y z s p q r = record {
  as_pred = pred_for A t _ _ d x s.as_pred refl p;
  as_conj = conj_for A t _ _ e y s.as_conj refl q;
  as_neg = neg_for A t _ _ f z s.as_neg refl r;
}

show_single : (A : Type 0) (t : Plain) (d : ℕ) → is_or t ≡ false → is_and_or t ≡ false → NegFor A t (filter_tokens t) d → Shown A t d d d
show_single A t d no_or no_and n = record {
  as_pred = pred_from_conj A t _ d (conj_from_neg A t _ d n);
  as_conj = conj_for A t _ _ d d (conj_from_neg A t _ d n) (sym (no_parens (is_or t) (filter_tokens t) no_or)) (omega arith);
  as_neg = neg_for A t _ _ d d n (sym (no_parens (is_and_or t) (filter_tokens t) no_and)) (omega arith);
}

show_and : (A : Type 0) (ms : Plains) (d : ℕ) → ConjFor A (And ms) (filter_tokens (And ms)) d → Shown A (And ms) d d (d + 1)
show_and A ms d c =
    let p = pred_from_conj A (And ms) _ d c in
    record {
      as_pred = p;
      as_conj = conj_for A (And ms) _ _ d d c (sym (no_parens false (filter_tokens (And ms)) refl)) (omega arith);
      as_neg = neg_in_parens A (And ms) _ d p;
    }

show_or : (A : Type 0) (ms : Plains) (d : ℕ) → PredFor A (Or ms) (filter_tokens (Or ms)) d → Shown A (Or ms) d (d + 1) (d + 1)
show_or A ms d p =
    let n = neg_in_parens A (Or ms) _ d p in
    record {
      as_pred = p;
      as_conj = conj_from_neg A (Or ms) _ (d + 1) n;
      as_neg = n;
    }

-- atoms

all_but_last : (xs : List ℕ) (x : ℕ) → take (length (xs ++ (x ∷ [])) - 1) (xs ++ (x ∷ [])) ≡ xs
all_but_last xs x =
    let l : length (xs ++ (x ∷ [])) ≡ length xs + 1 = length-append xs (x ∷ []) in
    let n : length (xs ++ (x ∷ [])) - 1 ≡ length xs = omega arith in
    ap (λ k. take k (xs ++ (x ∷ []))) n ∙ take-append_seam xs (x ∷ [])

with_last : (s : List ℕ) → 0 < length s → take (length s - 1) s ++ (get_or s (length s - 1) 0 ∷ []) ≡ s
with_last s some =
    let within : length s - 1 < length s = omega arith in
    let end : drop (length s - 1 + 1) s ≡ [] = grind (arith, common_steps) in
    ap (λ v. take (length s - 1) s ++ v) (sym (dropped s (length s - 1) 0 within ∙ ap (λ v. get_or s (length s - 1) 0 ∷ v) end)) ∙ take-append-drop (length s - 1) s

prefix_by : (s : List ℕ) (b : Bool) → nat_lt 0 (length s) ≡ b → (if b then list_all (λ k. not (k == 37) && not (k == 95)) (take (length s - 1) s) && (get_or s (length s - 1) 0 == 37) else false) ≡ true → take (length s - 1) s ++ (37 ∷ []) ≡ s
prefix_by s false e h = cc
prefix_by s true e h =
    let some : 0 < length s = grind (arith, nat_tests) in
    ap (λ k. take (length s - 1) s ++ (k ∷ [])) (sym (same _ 37 (both _ (get_or s (length s - 1) 0 == 37) h).1)) ∙ with_last s some

prefix_kept : (s : List ℕ) → is_pattern s ≡ true → is_pattern (take (length s - 1) s ++ (37 ∷ [])) ≡ true
prefix_kept s h = ap is_pattern (prefix_by s (nat_lt 0 (length s)) refl h) ∙ h

show_like : (col : ColumnRef) (text : List ℕ) → NegFor (is_pattern text ≡ true) (Like col (take (length text - 1) text)) (filter_tokens (Like col (take (length text - 1) text))) 0
show_like col text = record {
  form = atom (grammar.like col (take (length text - 1) text ++ (37 ∷ [])));
  has_tree = ap (Like col) (all_but_last (take (length text - 1) text) 37);
  has_tokens = refl;
  has_depth = omega arith;
  fits = prefix_kept text;
}

pub within_tokens : (col : ColumnRef) (front : List Literal) (last : Literal) → atom_tokens (grammar.within col front last) ≡ filter_tokens (Within col (front ++ (last ∷ [])))
within_tokens col front last =
    ap (λ v. col_tokens col ++ (terminal.Mark mark.In ∷ terminal.Mark mark.LeftParen ∷ v)) (sym (append_assoc _ (_ ∷ []) (terminal.Mark mark.RightParen ∷ [])) ∙ ap (λ v. v ++ (terminal.Mark mark.RightParen ∷ [])) (sym (joined_literals front last)))

show_within : (col : ColumnRef) (front : List Literal) (last : Literal) →
    NegFor (length (front ++ (last ∷ [])) ≤ 16) (Within col (front ++ (last ∷ []))) (filter_tokens (Within col (front ++ (last ∷ [])))) 0
show_within col front last = record {
  form = atom (grammar.within col front last);
  has_tree = refl;
  has_tokens = within_tokens col front last;
  has_depth = omega arith;
  fits = λ h. h;
}

show_atom : (a : grammar.Atom) → Shown (AtomFits a) (atom_tree a) 0 0 0
show_atom (grammar.compare col c s) = show_single _ _ 0 refl refl (record { form = atom (grammar.compare col c s); has_tree = refl; has_tokens = refl; has_depth = omega arith; fits = λ h. h })
show_atom (grammar.between col low high) = show_single _ _ 0 refl refl (record { form = atom (grammar.between col low high); has_tree = refl; has_tokens = refl; has_depth = omega arith; fits = λ h. h })
show_atom (grammar.within col front last) = show_single _ _ 0 refl refl (show_within col front last)
show_atom (grammar.like col text) = show_single _ _ 0 refl refl (show_like col text)

show_not : (A : Type 0) (t : Plain) (d : ℕ) → NegFor A t (in_parens (is_and_or t) (filter_tokens t)) d → Shown A (Not t) (d + 1) (d + 1) (d + 1)
show_not A t d n = show_single A (Not t) (d + 1) refl refl (record {
  form = grammar.not n.form;
  has_tree = ap Not n.has_tree;
  has_tokens = ap (λ v. terminal.Mark mark.Not ∷ v) n.has_tokens;
  has_depth = (let h = n.has_depth in omega arith);
  fits = n.fits;
})

-- chains

abbrev pub and_part : Plain → List Terminal
and_part t = in_parens (is_and_or t) (filter_tokens t)

abbrev pub or_part : Plain → List Terminal
or_part t = in_parens (is_or t) (filter_tokens t)

pub and_members_map : (ts : List Plain) → and_members (plains ts) ≡ map and_part ts
and_members_map [] = refl
and_members_map (t ∷ ts) = ap (λ v. and_part t ∷ v) (and_members_map ts)

pub or_members_map : (ts : List Plain) → or_members (plains ts) ≡ map or_part ts
or_members_map [] = refl
or_members_map (t ∷ ts) = ap (λ v. or_part t ∷ v) (or_members_map ts)

pub neg_trees_first : (c : Conj) → HasFirst (neg_trees c)
neg_trees_first (neg n) = tt
neg_trees_first (and c n) = HasFirst-append (neg_trees c) (neg_tree n ∷ []) (neg_trees_first c)

pub conj_trees_first : (p : Pred) → HasFirst (conj_trees p)
conj_trees_first (conj c) = tt
conj_trees_first (or p c) = HasFirst-append (conj_trees p) (conj_tree c ∷ []) (conj_trees_first p)

pub all_of_more : (ts : List Plain) (t : Plain) → HasFirst ts → all_of (ts ++ (t ∷ [])) ≡ And (plains (ts ++ (t ∷ [])))
all_of_more [] t h = absurd h
all_of_more (x ∷ []) t h = refl
all_of_more (x ∷ y ∷ ys) t h = refl

pub any_of_more : (ts : List Plain) (t : Plain) → HasFirst ts → any_of (ts ++ (t ∷ [])) ≡ Or (plains (ts ++ (t ∷ [])))
any_of_more [] t h = absurd h
any_of_more (x ∷ []) t h = refl
any_of_more (x ∷ y ∷ ys) t h = refl

pub record ConjChain (c : Conj) : Type 0 where
  pub form : Conj
  pub has_trees : neg_trees form ≡ neg_trees c
  pub has_tokens : conj_tokens form ≡ joined mark.And (map and_part (neg_trees c))
  pub has_depth : conj_depth form ≤ conj_depth c
  pub fits : ConjAtomsFit c → ConjAtomsFit form

pub record PredChain (p : Pred) : Type 0 where
  pub form : Pred
  pub has_trees : conj_trees form ≡ conj_trees p
  pub has_tokens : pred_tokens form ≡ joined mark.Or (map or_part (conj_trees p))
  pub has_depth : pred_depth form ≤ pred_depth p
  pub fits : PredAtomsFit p → PredAtomsFit form

first_conj : (n : Neg) → NegFor (NegAtomsFit n) (neg_tree n) (and_part (neg_tree n)) (neg_depth n) → ConjChain (neg n)
first_conj n s = record {
  form = neg s.form;
  has_trees = ap (λ v. v ∷ []) s.has_tree;
  has_tokens = s.has_tokens ∙ sym (append-nil (and_part (neg_tree n)));
  has_depth = s.has_depth;
  fits = s.fits;
}

next_conj : (c : Conj) (n : Neg) → ConjChain c → NegFor (NegAtomsFit n) (neg_tree n) (and_part (neg_tree n)) (neg_depth n) → ConjChain (and c n)
next_conj c n k s = record {
  form = and k.form s.form;
  has_trees = ap₂ (λ xs x. xs ++ (x ∷ [])) k.has_trees s.has_tree;
  has_tokens = ap₂ (λ xs x. xs ++ (terminal.Mark mark.And ∷ x)) k.has_tokens s.has_tokens ∙ sym (joined_push and_part mark.And (neg_trees c) (neg_tree n) (neg_trees_first c));
  has_depth = (let h = k.has_depth in let l = s.has_depth in omega arith);
  fits = λ (a, b). (k.fits a, s.fits b);
}

first_pred : (c : Conj) → ConjFor (ConjAtomsFit c) (conj_tree c) (or_part (conj_tree c)) (conj_depth c) → PredChain (conj c)
first_pred c s = record {
  form = conj s.form;
  has_trees = ap (λ v. v ∷ []) s.has_tree;
  has_tokens = s.has_tokens ∙ sym (append-nil (or_part (conj_tree c)));
  has_depth = s.has_depth;
  fits = s.fits;
}

next_pred : (p : Pred) (c : Conj) → PredChain p → ConjFor (ConjAtomsFit c) (conj_tree c) (or_part (conj_tree c)) (conj_depth c) → PredChain (or p c)
next_pred p c k s = record {
  form = or k.form s.form;
  has_trees = ap₂ (λ xs x. xs ++ (x ∷ [])) k.has_trees s.has_tree;
  has_tokens = ap₂ (λ xs x. xs ++ (terminal.Mark mark.Or ∷ x)) k.has_tokens s.has_tokens ∙ sym (joined_push or_part mark.Or (conj_trees p) (conj_tree c) (conj_trees_first p));
  has_depth = (let h = k.has_depth in let l = s.has_depth in omega arith);
  fits = λ (a, b). (k.fits a, s.fits b);
}

show_chain : (c : Conj) (n : Neg) → ConjChain (and c n) → Shown (ConjAtomsFit (and c n)) (conj_tree (and c n)) (conj_depth (and c n)) (conj_depth (and c n)) (conj_depth (and c n) + 1)
show_chain c n k =
    let d = conj_depth (and c n) in
    let ts = neg_trees (and c n) in
    let e = all_of_more (neg_trees c) (neg_tree n) (neg_trees_first c) in
    subst (λ t. Shown (ConjAtomsFit (and c n)) t d d (d + 1)) (sym e) (show_and _ (plains ts) d (record {
      form = k.form;
      has_tree = ap all_of k.has_trees ∙ e;
      has_tokens = k.has_tokens ∙ ap (joined mark.And) (sym (and_members_map ts));
      has_depth = k.has_depth;
      fits = k.fits;
    }))

show_any : (p : Pred) (c : Conj) → PredChain (or p c) → Shown (PredAtomsFit (or p c)) (pred_tree (or p c)) (pred_depth (or p c)) (pred_depth (or p c) + 1) (pred_depth (or p c) + 1)
show_any p c k =
    let d = pred_depth (or p c) in
    let ts = conj_trees (or p c) in
    let e = any_of_more (conj_trees p) (conj_tree c) (conj_trees_first p) in
    subst (λ t. Shown (PredAtomsFit (or p c)) t d (d + 1) (d + 1)) (sym e) (show_or _ (plains ts) d (record {
      form = k.form;
      has_tree = ap any_of k.has_trees ∙ e;
      has_tokens = k.has_tokens ∙ ap (joined mark.Or) (sym (or_members_map ts));
      has_depth = k.has_depth;
      fits = k.fits;
    }))

-- every derivation

mutual
  pub show_pred : (p : Pred) → Shown (PredAtomsFit p) (pred_tree p) (pred_depth p) (pred_depth p + 1) (pred_depth p + 1)
  show_pred (conj c) = weaker _ _ _ _ _ _ _ _ (show_conj c) (omega arith) (omega arith) (omega arith)
  show_pred (or p c) = show_any p c (next_pred p c (chain_pred p) (show_conj c).as_conj)

  chain_pred : (p : Pred) → PredChain p
  chain_pred (conj c) = first_pred c (show_conj c).as_conj
  chain_pred (or p c) = next_pred p c (chain_pred p) (show_conj c).as_conj

  pub show_conj : (c : Conj) → Shown (ConjAtomsFit c) (conj_tree c) (conj_depth c) (conj_depth c) (conj_depth c + 1)
  show_conj (neg n) = weaker _ _ _ _ _ _ _ _ (show_neg n) (omega arith) (omega arith) (omega arith)
  show_conj (and c n) = show_chain c n (next_conj c n (chain_conj c) (show_neg n).as_neg)

  chain_conj : (c : Conj) → ConjChain c
  chain_conj (neg n) = first_conj n (show_neg n).as_neg
  chain_conj (and c n) = next_conj c n (chain_conj c) (show_neg n).as_neg

  show_neg : (n : Neg) → Shown (NegAtomsFit n) (neg_tree n) (neg_depth n) (neg_depth n) (neg_depth n)
  show_neg (grammar.not n) = show_not _ _ _ (show_neg n).as_neg
  show_neg (parens p) = weaker _ _ _ _ _ _ _ _ (show_pred p) (omega arith) (omega arith) (omega arith)
  show_neg (atom a) = show_atom a
