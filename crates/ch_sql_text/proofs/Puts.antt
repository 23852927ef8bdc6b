-- Writing tokens behind tokens.
use Rattle.std.proofs.Common.{◌≡◌, ℕ, ◌+◌, ◌<◌, ◌==◌, Bool, true, false, List, [], ◌∷◌, ◌++◌, length, drop, get_or, Result, Ok, Err, OnOk, refl, sym, ap, ◌∙◌, append_assoc, append-nil, if◌then◌else◌}
use Rattle.ch_sql_tokens.specs.Spelling.{doubled, in_quotes}
use Rattle.ch_sql_tokens.proofs.QuoteRules.{dropped}
use Rattle.ch_sql_grammar.specs.declared.terminal.Mark.{Mark}
use Rattle.ch_sql_grammar.specs.declared.terminal.Mark.TheVariants as mark
use Rattle.ch_sql_grammar.specs.declared.terminal.Terminal.{Terminal}
use Rattle.ch_sql_grammar.specs.declared.query.Pred.TheVariants as pred
use Rattle.ch_sql_grammar.specs.declared.query.Pred.TheOpen as layer
use Rattle.ch_sql_grammar.specs.declared.query.Pred.TheFolds.{fold-roll-Pred}
use Rattle.ch_sql_grammar.specs.Tree.{Plain, Not, plain_of, plain_step}
use Rattle.ch_sql_text.specs.Layout.{gap, laid_out}
use Rattle.ch_sql_text.specs.Printed.{when, marked_off, in_parens}
use Rattle.ch_sql_text.specs.Writing.{Written, put, puts}

pub puts-append : (w : Written) (xs ys : List Terminal) → puts w (xs ++ ys) ≡ puts (puts w xs) ys
puts-append w [] ys = refl
puts-append w (x ∷ xs) ys = puts-append (put w x) xs ys

pub ruleset put_rules = (puts-append)

-- the text that writing tokens gives
puts_step : (w : Written) (t : Terminal) (ts : List Terminal) → (puts (put w t) ts).text ≡ (put w t).text ++ laid_out (put w t).last ts → (puts (put w t) ts).text ≡ w.text ++ laid_out w.last (t ∷ ts)
unfolding put
puts_step w t ts e = e ∙ append_assoc w.text _ _ ∙ ap (λ x. w.text ++ x) (append_assoc (gap w.last t) _ _)

pub puts_text : (w : Written) (ts : List Terminal) → (puts w ts).text ≡ w.text ++ laid_out w.last ts
puts_text w [] = sym (append-nil w.text)
puts_text w (t ∷ ts) = puts_step w t ts (puts_text (put w t) ts)

-- parentheses, or none
pub parens_written : (a b : Bool) (ts : List Terminal) (w x y z : Written) → a ≡ b → x ≡ puts w (when a mark.LeftParen) → y ≡ puts x ts → z ≡ puts y (when a mark.RightParen) → z ≡ puts w (in_parens b ts)
parens_written a b ts w x y z e f g h =
    h ∙ ap (λ v. puts v (when a mark.RightParen)) (g ∙ ap (λ v. puts v ts) f)
    ∙ sym (puts-append (puts w (when a mark.LeftParen)) ts (when a mark.RightParen))
    ∙ sym (puts-append w (when a mark.LeftParen) (ts ++ when a mark.RightParen))
    ∙ ap (λ v. puts w (in_parens v ts)) e

-- one more of a list, in the tokens that its elements give
pub list_step : {A : Type 0} → (parts : List A → List (List Terminal)) (part : A → List Terminal) → ((y : A) (ys : List A) → parts (y ∷ ys) ≡ part y ∷ parts ys) →
    (xs : List A) (i : ℕ) (item : A) (b : Bool) (m : Mark) (w x y : Written) → i < length xs → item ≡ get_or xs i item → x ≡ puts w (when b m) → y ≡ puts x (part item) →
    puts y (marked_off true m (parts (drop (i + 1) xs))) ≡ puts w (marked_off b m (parts (drop i xs)))
list_step parts part step xs i item b m w x y lt is e f =
    ap (λ v. puts v (marked_off true m (parts (drop (i + 1) xs)))) (f ∙ ap (λ v. puts v (part item)) e)
    ∙ sym (puts-append (puts w (when b m)) (part item) (marked_off true m (parts (drop (i + 1) xs))))
    ∙ sym (puts-append w (when b m) (part item ++ marked_off true m (parts (drop (i + 1) xs))))
    ∙ ap (λ v. puts w (marked_off b m v)) (sym (ap parts (dropped xs i item lt ∙ ap (λ v. v ∷ drop (i + 1) xs) (sym is)) ∙ step item (drop (i + 1) xs)))

pub on_ok : {T E : Type 0} → (r : Result T E) (P Q : Type 0) → (P → Q) → OnOk r P → OnOk r Q
on_ok (Ok x) P Q f p = f p
on_ok (Err e) P Q f p = tt

-- a percent sign stays as it is
percent_step : (b : ℕ) (x : Bool) (xs ys : List ℕ) → xs ≡ ys ++ (37 ∷ []) → (if x then 39 ∷ 39 ∷ xs else b ∷ xs) ≡ (if x then 39 ∷ 39 ∷ ys else b ∷ ys) ++ (37 ∷ [])
percent_step b true xs ys e = ap (λ v. 39 ∷ 39 ∷ v) e
percent_step b false xs ys e = ap (λ v. b ∷ v) e

percent_doubled : (prefix : List ℕ) → doubled 39 (prefix ++ (37 ∷ [])) ≡ doubled 39 prefix ++ (37 ∷ [])
percent_doubled [] = refl
percent_doubled (b ∷ bs) = percent_step b (b == 39) _ _ (percent_doubled bs)

-- the text of a prefix and a percent sign
pub pattern_text : (front prefix x y z : List ℕ) → x ≡ front ++ (39 ∷ []) → y ≡ x ++ doubled 39 prefix → z ≡ y ++ (37 ∷ 39 ∷ []) → z ≡ front ++ in_quotes 39 (prefix ++ (37 ∷ []))
pattern_text front prefix x y z e f g =
    g ∙ ap (λ v. v ++ (37 ∷ 39 ∷ [])) (f ∙ ap (λ v. v ++ doubled 39 prefix) e)
    ∙ append_assoc (front ++ (39 ∷ [])) (doubled 39 prefix) (37 ∷ 39 ∷ [])
    ∙ append_assoc front (39 ∷ []) (doubled 39 prefix ++ (37 ∷ 39 ∷ []))
    ∙ ap (λ v. front ++ (39 ∷ v)) (sym (append_assoc (doubled 39 prefix) (37 ∷ []) (39 ∷ [])) ∙ ap (λ v. v ++ (39 ∷ [])) (sym (percent_doubled prefix)))

-- the tree of a NOT
pub plain_not : (inner : _) → plain_of (pred.Not inner) ≡ Not (plain_of inner.value)
plain_not inner = ap plain_of (sym (pred.rolls-Not inner)) ∙ fold-roll-Pred Plain plain_step (layer.Not inner)
