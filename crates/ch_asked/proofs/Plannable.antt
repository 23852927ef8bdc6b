-- A query that binding gives can be planned.
use Rattle.std.proofs.Common.{◌≡◌, ◌≢◌, ℕ, ◌≤◌, Bool, true, false, cond, ◌||◌, List, [], ◌∷◌, ◌++◌, map, length, Option, Some, None, refl, sym, ◌∙◌, ap, inl, inr, subst, arith}
use Rattle.std.specs.Prelude.{ℤ, pos, negsuc, nat_abs, nat_lt, int_lt, ◌==◌}
use Rattle.std.specs.List.{All}
use Rattle.std.proofs.lemmas.Bool.{le-leb}
use Rattle.std.proofs.lemmas.Bool.Decides.{nat_tests}
use Rattle.std.proofs.lemmas.List.{length-map}
use Rattle.ch_cells.specs.Number.{greatest_magnitude}
use Rattle.ch_lists.specs.Members.{Each, In}
use Rattle.ch_lists.proofs.Members.{Each-from_All, In-left, In-map, In-map_from, In-right}
use Rattle.ch_pred.specs.Named.{inner_cols, outer_named, pred_cols, printed_cols, shape_cols}
use Rattle.ch_pred.specs.Plain.{plain_of}
use Rattle.ch_pred.specs.Sound.{AreSided, IsCarried, IsSound, has_one_table}
use Rattle.ch_pred.specs.declared.bound.Bound.{Bound}
use Rattle.ch_pred.specs.declared.bound.Shape.{Shape}
use Rattle.ch_pred.specs.declared.bound.Shape.TheVariants as shape
use Rattle.ch_pred.specs.declared.pred.Col.{Col}
use Rattle.ch_prune.specs.Sent.{is_cell_word}
use Rattle.ch_plan.specs.Kinds.{IsPlannable}
use Rattle.ch_sql_tokens.specs.Spelling.{IsToken}
use Rattle.ch_sql_tokens.specs.declared.token.Token.{Token}
use Rattle.ch_sql_tokens.specs.declared.token.Token.TheVariants as token
use Rattle.ch_sql_grammar.specs.Grammar as grammar
use Rattle.ch_sql_grammar.specs.Grammar.{Ending, Form, agg_tokens, col_tokens, each, ending_tokens, endings_tokens, endings_tree, form_tokens, form_tree, having_tokens, one_tokens, where_tokens}
use Rattle.ch_sql_grammar.specs.Tokens.{terminal_of, word_terminal}
use Rattle.ch_sql_grammar.specs.Keyword.{keyword_of}
use Rattle.ch_sql_grammar.specs.Tree.{Select}
use Rattle.ch_sql_grammar.specs.declared.query.Having.{Having}
use Rattle.ch_sql_grammar.specs.declared.query.Item.{Item}
use Rattle.ch_sql_grammar.specs.declared.query.Source.{Source}
use Rattle.ch_sql_grammar.specs.declared.query.Source.TheVariants as source
use Rattle.ch_sql_grammar.specs.declared.query.Tail.{Tail}
use Rattle.ch_sql_grammar.specs.declared.query.Tail.TheVariants as tail
use Rattle.ch_sql_grammar.specs.declared.terminal.Mark.{Mark}
use Rattle.ch_sql_grammar.specs.declared.terminal.Mark.TheVariants as mark
use Rattle.ch_sql_grammar.specs.declared.terminal.Terminal.{Terminal}
use Rattle.ch_sql_grammar.specs.declared.terminal.Terminal.TheVariants as terminal
use Rattle.ch_sql_limits.specs.Texts.{seen}
use Rattle.ch_sql.specs.Formed.{FitsSource, IsFormedTail}
use Rattle.ch_sql.specs.Parsed.{IsParsed}
use Rattle.ch_sql.proofs.Readings.{parsed_formed}
use Rattle.ch_tables.specs.TableValue.{TableValue}
use Rattle.ch_bind.specs.Binding.{PlainBound, bound_of, dim_of, group_shape, join_shape, plain_bound, plain_shape, tail_shape}
use Rattle.ch_bind.specs.Binding as binding
use Rattle.ch_bind.specs.Checks.{bind_refusal, column_refusal, dims_refusal, first_of, item_refusal, kind_refusal, limit_refusal, on_refusal, refusal_in, self_refusal, table_refusal, width_refusal}
use Rattle.ch_bind.specs.References.{references_of}
use Rattle.ch_bind.specs.Scope.{col_of, scope_of}
use Rattle.ch_bind.specs.declared.error.BindError.{BindError}
use Rattle.ch_bind.specs.declared.error.BindError.TheVariants as error
use Rattle.ch_bind.specs.declared.shape.TableShape.{TableShape}
use Rattle.ch_bind.specs.Shapes.{shape_of}
use Rattle.ch_asked.proofs.Asked.{abs_same}

-- ---- the numbers of a text

abbrev IsRanged : Terminal → Type 0
IsRanged (terminal.Mark m) = Unit {0}
IsRanged (terminal.Name n) = Unit {0}
IsRanged (terminal.Number n) = is_cell_word n ≡ true
IsRanged (terminal.Text t) = Unit {0}

word_ranged : (o : Option Mark) (w : List ℕ) → IsRanged (word_terminal o w)
word_ranged (Some m) w = tt
word_ranged None w = tt

token_ranged : (t : Token) → IsToken t → IsRanged (terminal_of t)
token_ranged (token.Word w) h = word_ranged (keyword_of w) w
token_ranged (token.Quoted name) h = tt
token_ranged (token.Number n) h = le-leb (nat_abs n) greatest_magnitude (subst (λ m. m ≤ greatest_magnitude) (abs_same n) h)
token_ranged (token.Text t) h = tt
token_ranged (token.Symbol s) h = tt

seen_ranged : (tokens : List Token) → All IsToken tokens → Each IsRanged (seen tokens)
seen_ranged tokens h t i = let m = In-map terminal_of t tokens i in subst IsRanged (sym m.2) (token_ranged m.0 (Each-from_All IsToken tokens h m.0 m.1))

-- the number of a HAVING
abbrev IsRangedTail : Tail → Type 0
IsRangedTail tail.Nothing = Unit {0}
IsRangedTail (tail.Top by descending limit) = Unit {0}
IsRangedTail (tail.Group keys None) = Unit {0}
IsRangedTail (tail.Group keys (Some having)) = is_cell_word having.above ≡ true
IsRangedTail (tail.Skyline dims) = Unit {0}

above_in : (h : Having) → In (terminal.Number h.above) (having_tokens (Some h))
above_in h = inr (In-right (terminal.Number h.above) (agg_tokens h.agg) (terminal.Mark mark.Gt ∷ terminal.Number h.above ∷ []) (inr (inl refl)))

ending_ranged : (e : Option Ending) → Each IsRanged (endings_tokens e) → IsRangedTail (endings_tree e)
ending_ranged None r = tt
ending_ranged (Some (grammar.top by direction number)) r = tt
ending_ranged (Some (grammar.group front last None)) r = tt
ending_ranged (Some (grammar.group front last (Some h))) r =
    r (terminal.Number h.above) (inr (inr (In-right (terminal.Number h.above) (each col_tokens front) (col_tokens last ++ having_tokens (Some h)) (In-right (terminal.Number h.above) (col_tokens last) (having_tokens (Some h)) (above_in h)))))
ending_ranged (Some (grammar.skyline front last)) r = tt

form_ranged : (form : Form) → Each IsRanged (form_tokens form) → IsRangedTail (form_tree form).tail
form_ranged (grammar.distinct front last table filter) r = tt
form_ranged (grammar.join front last left right first_on second_on filter) r = tt
form_ranged (grammar.semi front last outer key inner_key inner filter) r = tt
form_ranged (grammar.one front last table filter ending) r =
    ending_ranged ending (λ t i. r t (In-right t (one_tokens front last table) (where_tokens filter ++ endings_tokens ending) (In-right t (where_tokens filter) (endings_tokens ending) i)))

parsed_ranged : (q : Select) → IsParsed q → IsRangedTail q.tail
parsed_ranged q p =
    let all = seen_ranged p.tokens p.are_tokens in
    let form = p.derived.form in
    let ranged : Each IsRanged (form_tokens form) = elim p.derived.spelled [
      | inl e ↦ subst (λ (ts : List Terminal). Each IsRanged ts) e all
      | inr e ↦ λ t i. all t (subst (λ (ts : List Terminal). In t ts) (sym e) (In-left t (form_tokens form) (terminal.Mark mark.Semicolon ∷ []) i))
    ] in
    subst (λ (s : Select). IsRangedTail s.tail) (sym p.derived.stands_for) (form_ranged form ranged)

-- ---- the numbers of a kind

abbrev AreNumbers : Shape → Type 0
AreNumbers shape.Filter = Unit {0}
AreNumbers shape.Distinct = Unit {0}
AreNumbers (shape.Top by descending limit) = 1 ≤ limit
AreNumbers (shape.Group keys max value) = Unit {0}
AreNumbers (shape.Having keys sum above) = is_cell_word above ≡ true
AreNumbers (shape.Join left right) = Unit {0}
AreNumbers (shape.Skyline dims) = (1 ≤ length dims) × (length dims ≤ 4)
AreNumbers (shape.Semi key inner) = Unit {0}

not_more : (n : ℕ) → cond (nat_lt 4 n) (Some (error.TooManyDims n)) None ≡ None → n ≤ 4
not_more n = go (nat_lt 4 n) refl
  where
    go : (b : Bool) → nat_lt 4 n ≡ b → cond b (Some (error.TooManyDims n)) None ≡ None → n ≤ 4
    go true e h = cc
    go false e h = grind (arith, nat_tests)

not_less : (n : ℤ) → cond (int_lt n (pos 1) || int_lt (pos 65536) n) (Some (error.LimitRange n)) None ≡ None → 1 ≤ nat_abs n
not_less (pos n) = go (nat_lt n 1) refl
  where
    go : (b : Bool) → nat_lt n 1 ≡ b → cond (b || int_lt (pos 65536) (pos n)) (Some (error.LimitRange (pos n))) None ≡ None → 1 ≤ n
    go true e h = cc
    go false e h = grind (arith, nat_tests)
not_less (negsuc n) = λ h. cc

some_of : {X Y : Type 0} (f : X → Y) (xs : List X) → xs ≢ [] → 1 ≤ length (map f xs)
some_of f [] n = absurd (n refl)
some_of f (x ∷ xs) n = omega arith

plain_numbers : (distinct : Bool) → AreNumbers (plain_shape distinct)
plain_numbers true = tt
plain_numbers false = tt

tail_numbers : (s : Source) (shapes : List TableShape) (distinct : Bool) (items : List Item) (t : Tail) → IsFormedTail t → IsRangedTail t → dims_refusal t ≡ None → limit_refusal t ≡ None → AreNumbers (tail_shape (scope_of s shapes) distinct items t)
tail_numbers s shapes distinct items tail.Nothing f r d l = plain_numbers distinct
tail_numbers s shapes distinct items (tail.Top by descending limit) f r d l = not_less limit l
tail_numbers s shapes distinct items (tail.Group keys None) f r d l = tt
tail_numbers s shapes distinct items (tail.Group keys (Some having)) f r d l = r
tail_numbers s shapes distinct items (tail.Skyline dims) f r d l = (some_of (dim_of (scope_of s shapes)) dims f, let few = not_more (length dims) d in omega (arith, few, length-map dims (dim_of (scope_of s shapes))))

join_numbers : (a b : Col) → AreNumbers (join_shape a b)
join_numbers a b = go (a.side == 0)
  where
    go : (t : Bool) → AreNumbers (cond t (shape.Join a b) (shape.Join b a))
    go true = tt
    go false = tt

tail_formed : (table : List ℕ) (distinct : Bool) (items : List Item) (t : Tail) → FitsSource (source.One table) distinct items t → IsFormedTail t
tail_formed table true items t h = subst IsFormedTail (sym h.1) tt
tail_formed table false items t h = h

shape_numbers : (scoped : Source) (shapes : List TableShape) (q : Select) (s : Source) → FitsSource s q.distinct q.items q.tail → IsRangedTail q.tail → dims_refusal q.tail ≡ None → limit_refusal q.tail ≡ None → AreNumbers (binding.shape_of (scope_of scoped shapes) q s)
shape_numbers scoped shapes q (source.One table) f r d l = tail_numbers scoped shapes q.distinct q.items q.tail (tail_formed table q.distinct q.items q.tail f) r d l
shape_numbers scoped shapes q (source.Join left right first_on second_on) f r d l = join_numbers (col_of (scope_of scoped shapes) first_on) (col_of (scope_of scoped shapes) second_on)
shape_numbers scoped shapes q (source.Semi outer inner key inner_key) f r d l = tt

-- ---- the columns of a kind

module _ (b : Bound) (sound : IsSound b) where
  shape_carried : (s : Shape) → b.shape ≡ s → (c : Col) → In c (shape_cols s) → IsCarried b c.side c.at
  shape_carried s e c i =
      sound.columns c (In-left c (outer_named b) (inner_cols b.shape)
      (In-right c (pred_cols (plain_of b.filter) ++ printed_cols b.printed) (shape_cols b.shape) (subst (λ s. In c (shape_cols s)) (sym e) i)))

  printed_carried : (c : Col) → In c (printed_cols b.printed) → IsCarried b c.side c.at
  printed_carried c i =
      sound.columns c (In-left c (outer_named b) (inner_cols b.shape)
      (In-left c (pred_cols (plain_of b.filter) ++ printed_cols b.printed) (shape_cols b.shape) (In-right c (pred_cols (plain_of b.filter)) (printed_cols b.printed) i)))

  inner_carried : (key inner : Col) → b.shape ≡ shape.Semi key inner → IsCarried b inner.side inner.at
  inner_carried key inner e = sound.columns inner (In-right inner (outer_named b) (inner_cols b.shape) (subst (λ s. In inner (inner_cols s)) (sym e) (inl refl)))

  alone : (s : Shape) → b.shape ≡ s → has_one_table s ≡ true → length b.carried ≡ 1
  alone s e one = sound.tables.1 ∙ ap (λ c. cond c 1 2) (ap has_one_table e ∙ one)

  plannable : (s : Shape) → b.shape ≡ s → AreNumbers s → IsPlannable b s
  plannable shape.Filter e n = tt
  plannable shape.Distinct e n = (printed_carried, alone shape.Distinct e refl)
  plannable (shape.Top by descending limit) e n = (shape_carried (shape.Top by descending limit) e by (inl refl), n)
  plannable (shape.Group keys max value) e n =
      let carried = shape_carried (shape.Group keys max value) e in ((λ c i. carried c (inr i), alone (shape.Group keys max value) e refl), carried value (inl refl))
  plannable (shape.Having keys None above) e n = ((λ c i. shape_carried (shape.Having keys None above) e c i, alone (shape.Having keys None above) e refl), tt, n)
  plannable (shape.Having keys (Some value) above) e n =
      let carried = shape_carried (shape.Having keys (Some value) above) e in ((λ c i. carried c (inr i), alone (shape.Having keys (Some value) above) e refl), carried value (inl refl), n)
  plannable (shape.Join left right) e n =
      let carried = shape_carried (shape.Join left right) e in
      let sides = subst (λ s. AreSided s (outer_named b)) e sound.sides in
      (carried left (inl refl), carried right (inr (inl refl)), sides.0, sides.1)
  plannable (shape.Skyline dims) e n = ((λ k i. shape_carried (shape.Skyline dims) e k.col (In-map_from (λ d. d.col) k dims i)), n.0, n.1)
  plannable (shape.Semi key inner) e n = (shape_carried (shape.Semi key inner) e key (inl refl), inner_carried key inner e)

-- ---- the whole

none_of : (checks : List (Option BindError)) → first_of checks ≡ None → Each (λ c. c ≡ None) checks
none_of [] e c i = absurd i
none_of (None ∷ checks) e c (inl s) = s
none_of (None ∷ checks) e c (inr i) = none_of checks e c i
none_of (Some x ∷ checks) e c i = cc

pub bound_plannable : (q : Select) (b : Bound) (tables : List TableValue) → IsParsed q → bind_refusal q (map shape_of tables) ≡ None → plain_bound b ≡ bound_of q (map shape_of tables)
    → IsSound b → IsPlannable b b.shape
bound_plannable q b tables parsed e is sound =
    let shapes = map shape_of tables in
    let scope = scope_of q.source shapes in
    let refs = references_of scope q in
    let within : refusal_in scope q ≡ None = none_of (table_refusal q.source shapes ∷ self_refusal q.source ∷ refusal_in scope q ∷ []) e (refusal_in scope q) (inr (inr (inl refl))) in
    let each : Each (λ c. c ≡ None) (column_refusal 0 refs ∷ on_refusal scope q.source ∷ item_refusal scope q ∷ kind_refusal refs ∷ width_refusal scope q ∷ dims_refusal q.tail ∷ limit_refusal q.tail ∷ []) =
    none_of (column_refusal 0 refs ∷ on_refusal scope q.source ∷ item_refusal scope q ∷ kind_refusal refs ∷ width_refusal scope q ∷ dims_refusal q.tail ∷ limit_refusal q.tail ∷ []) within in
    let dims = each (dims_refusal q.tail) (inr (inr (inr (inr (inr (inl refl)))))) in
    let limit = each (limit_refusal q.tail) (inr (inr (inr (inr (inr (inr (inl refl))))))) in
    let same : b.shape ≡ binding.shape_of scope q q.source = ap (λ (x : PlainBound). x.shape) is in
    let numbers = shape_numbers q.source shapes q q.source (parsed_formed q parsed).source (parsed_ranged q parsed) dims limit in
    plannable b sound b.shape refl (subst AreNumbers (sym same) numbers)
