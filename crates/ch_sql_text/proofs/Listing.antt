-- Tokens with a mark between them.
use Rattle.std.proofs.Common.{◌≡◌, Bool, true, false, List, [], ◌∷◌, ◌++◌, map, refl, sym, ap, ◌∙◌, append_assoc, append-nil}
use Rattle.ch_pred.specs.declared.pred.Literal.{Literal}
use Rattle.ch_sql_grammar.specs.declared.terminal.Mark.{Mark}
use Rattle.ch_sql_grammar.specs.declared.terminal.Mark.TheVariants as mark
use Rattle.ch_sql_grammar.specs.declared.terminal.Terminal.{Terminal}
use Rattle.ch_sql_grammar.specs.declared.terminal.Terminal.TheVariants as terminal
use Rattle.ch_sql_grammar.specs.Grammar.{each, listed_tokens, literal_token}
use Rattle.ch_sql_text.specs.Printed.{when, marked_off, joined, in_parens, literal_tokens}

-- the list has an element
abbrev pub HasFirst : {A : Type 0} → List A → Type 0
HasFirst [] = ⊥
HasFirst (x ∷ xs) = Unit {0}

pub HasFirst-append : {A : Type 0} → (xs ys : List A) → HasFirst xs → HasFirst (xs ++ ys)
HasFirst-append [] ys h = absurd h
HasFirst-append (x ∷ xs) ys h = tt

-- one more at the end
marked_push : {A : Type 0} → (f : A → List Terminal) (m : Mark) (b : Bool) (xs : List A) (last : A) → HasFirst xs → marked_off b m (map f (xs ++ (last ∷ []))) ≡ marked_off b m (map f xs) ++ (terminal.Mark m ∷ f last)
marked_push f m b [] last h = absurd h
marked_push f m b (x ∷ []) last h =
    ap (λ v. when b m ++ (f x ++ (terminal.Mark m ∷ v))) (append-nil (f last)) ∙ ap (λ v. when b m ++ (v ++ (terminal.Mark m ∷ f last))) (sym (append-nil (f x))) ∙ sym (append_assoc (when b m) (f x ++ []) (terminal.Mark m ∷ f last))
marked_push f m b (x ∷ y ∷ ys) last h =
    ap (λ v. when b m ++ (f x ++ v)) (marked_push f m true (y ∷ ys) last tt)
    ∙ ap (λ v. when b m ++ v) (sym (append_assoc (f x) (marked_off true m (map f (y ∷ ys))) (terminal.Mark m ∷ f last)))
    ∙ sym (append_assoc (when b m) (f x ++ marked_off true m (map f (y ∷ ys))) (terminal.Mark m ∷ f last))

pub joined_push : {A : Type 0} → (f : A → List Terminal) (m : Mark) (xs : List A) (last : A) → HasFirst xs → joined m (map f (xs ++ (last ∷ []))) ≡ joined m (map f xs) ++ (terminal.Mark m ∷ f last)
joined_push f m xs last h = marked_push f m false xs last h

-- a list with commas, in the grammar's way
commas_behind : {A : Type 0} → (f : A → List Terminal) (front : List A) (last : A) → marked_off true mark.Comma (map f (front ++ (last ∷ []))) ≡ terminal.Mark mark.Comma ∷ (each f front ++ f last)
commas_behind f [] last = ap (λ v. terminal.Mark mark.Comma ∷ v) (append-nil (f last))
commas_behind f (x ∷ xs) last =
    ap (λ v. terminal.Mark mark.Comma ∷ (f x ++ v)) (commas_behind f xs last) ∙ ap (λ v. terminal.Mark mark.Comma ∷ v) (sym (append_assoc (f x) (terminal.Mark mark.Comma ∷ each f xs) (f last)))

pub joined_each : {A : Type 0} → (f : A → List Terminal) (front : List A) (last : A) → joined mark.Comma (map f (front ++ (last ∷ []))) ≡ each f front ++ f last
joined_each f [] last = append-nil (f last)
joined_each f (x ∷ xs) last = ap (λ v. f x ++ v) (commas_behind f xs last) ∙ sym (append_assoc (f x) (terminal.Mark mark.Comma ∷ each f xs) (f last))

each_literal : (literals : List Literal) → each literal_tokens literals ≡ listed_tokens literals
each_literal [] = refl
each_literal (v ∷ vs) = ap (λ x. literal_token v ∷ terminal.Mark mark.Comma ∷ x) (each_literal vs)

pub joined_literals : (front : List Literal) (last : Literal) → joined mark.Comma (map literal_tokens (front ++ (last ∷ []))) ≡ listed_tokens front ++ (literal_token last ∷ [])
joined_literals front last = joined_each literal_tokens front last ∙ ap (λ v. v ++ (literal_token last ∷ [])) (each_literal front)

-- without parentheses
pub no_parens : (b : Bool) (ts : List Terminal) → b ≡ false → in_parens b ts ≡ ts
no_parens true ts e = cc
no_parens false ts e = append-nil ts
