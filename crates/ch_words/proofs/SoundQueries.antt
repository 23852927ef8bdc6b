-- A sound query names only what it carries, and its tables fit.
use Rattle.std.proofs.Common.{◌≡◌, ℕ, ◌≤◌, Bool, true, false, cond, ◌&&◌, eqb, eqb-true, eq-eqb, List, [], ◌∷◌, ◌++◌, map, length, Some, None, refl, sym, ◌∙◌, ap, inl, inr, subst, arith}
use Rattle.std.specs.Prelude.{slice_index_or, pos}
use Rattle.std.proofs.lemmas.Bool.{and_from, and_parts, cases_eq}
use Rattle.std.proofs.lemmas.List.{get_or_past}
use Rattle.ch_cells.specs.declared.Cell.{Cell}
use Rattle.ch_cells.specs.declared.Cell.TheVariants as cell
use Rattle.ch_cells.specs.declared.Kind.{Kind}
use Rattle.ch_cells.specs.declared.Kind.TheVariants as kind
use Rattle.ch_lists.specs.Members.{In, Each}
use Rattle.ch_lists.proofs.Members.{In-left, In-right}
use Rattle.ch_pred.specs.Plain.{Plain, Plains, Truth, Compare, Between, Within, Like, And, Or, Not, nil, cons, plain_of}
use Rattle.ch_pred.specs.Names.{Names, NamesArg, AllName}
use Rattle.ch_pred.specs.Named.{all_cols, arg_cols, inner_cols, outer_named, pred_cols, printed_cols, shape_cols}
use Rattle.ch_pred.specs.Sound.{IsSound, IsCarried, AreSided, PrintsKeys, AreAlike, KeysAlike, SumsNumbers, has_one_table, kind_of, sides_of}
use Rattle.ch_pred.specs.declared.bound.Bound.{Bound}
use Rattle.ch_pred.specs.declared.bound.Dim.{Dim}
use Rattle.ch_pred.specs.declared.bound.Printed.{Printed}
use Rattle.ch_pred.specs.declared.bound.Printed.TheVariants as printed
use Rattle.ch_pred.specs.declared.bound.Shape.{Shape}
use Rattle.ch_pred.specs.declared.bound.Shape.TheVariants as shape
use Rattle.ch_pred.specs.declared.pred.Arg.{Arg}
use Rattle.ch_pred.specs.declared.pred.Arg.TheVariants as arg
use Rattle.ch_pred.specs.declared.pred.Col.{Col}
use Rattle.ch_ranks.specs.Dictionary.{Ascends}
use Rattle.ch_words.specs.Readings.{AllCols, AllDims, AllPrinted, IsCol, NamesShape, NamesOnly, left_of, right_of, rows_have}
use Rattle.ch_words.specs.Packets.{FitsKind, KindsFit, TablesFit, AreSound, column, is_col, key_kind, keys_read, kinds_read}

-- columns of which each is there are there in a predicate, a list, what is printed
module _ (has : ℕ → ℕ → Type 0) where
  abbrev There : List Col → Type 0
  There cols = Each (λ c. has c.side c.at) cols

  front : (xs ys : List Col) → There (xs ++ ys) → There xs
  front xs ys h c i = h c (In-left c xs ys i)

  back : (xs ys : List Col) → There (xs ++ ys) → There ys
  back xs ys h c i = h c (In-right c xs ys i)

  names_arg : (a : Arg) → There (arg_cols a) → NamesArg has a
  names_arg (arg.Column col) h = h col (inl refl)
  names_arg (arg.Value value) h = tt

  mutual
    names_pred : (p : Plain) → There (pred_cols p) → Names has p
    names_pred Truth h = tt
    names_pred (Compare col c other) h = (h col (inl refl), names_arg other (λ x i. h x (inr i)))
    names_pred (Between col low high) h = h col (inl refl)
    names_pred (Within col literals) h = h col (inl refl)
    names_pred (Like col prefix) h = h col (inl refl)
    names_pred (And members) h = names_all members h
    names_pred (Or members) h = names_all members h
    names_pred (Not inner) h = names_pred inner h

    names_all : (ps : Plains) → There (all_cols ps) → AllName has ps
    names_all nil h = tt
    names_all (cons p ps) h = (names_pred p (front (pred_cols p) (all_cols ps) h), names_all ps (back (pred_cols p) (all_cols ps) h))

  names_printed : (items : List Printed) → There (printed_cols items) → AllPrinted has items
  names_printed [] h = tt
  names_printed (printed.Column col ∷ items) h = (h col (inl refl), names_printed items (λ c i. h c (inr i)))
  names_printed (printed.Best ∷ items) h = (tt, names_printed items h)

  names_cols : (cols : List Col) → There cols → AllCols has cols
  names_cols [] h = tt
  names_cols (c ∷ cols) h = (h c (inl refl), names_cols cols (λ x i. h x (inr i)))

  names_dims : (dims : List Dim) → There (map (λ d. d.col) dims) → AllDims has dims
  names_dims [] h = tt
  names_dims (d ∷ dims) h = (h d.col (inl refl), names_dims dims (λ x i. h x (inr i)))

is_key : (keys : List Col) (c : Col) → In c keys → IsCol keys c.side c.at
is_key [] c i = absurd i
is_key (k ∷ keys) c (inl e) = inl (ap (λ (x : Col). x.side) (sym e), ap (λ (x : Col). x.at) (sym e))
is_key (k ∷ keys) c (inr i) = inr (is_key keys c i)

key_printed : (keys : List Col) (items : List Printed) → Each (λ c. In c keys) (printed_cols items) → AllPrinted (IsCol keys) items
key_printed keys items h = names_printed (IsCol keys) items (λ c i. is_key keys c (h c i))

-- a kind's columns, where all that the query names is there
module _ (has : ℕ → ℕ → Type 0) (p : Plain) (items : List Printed) where
  abbrev outer : Shape → List Col
  outer s = pred_cols p ++ printed_cols items ++ shape_cols s

  abbrev Told : Shape → Type 0
  Told s = Names (rows_have s has) p × NamesShape (rows_have s has) (right_of has) items s

  module _ (rows : ℕ → ℕ → Type 0) where
    of_pred : (cols : List Col) → There rows (pred_cols p ++ printed_cols items ++ cols) → Names rows p
    of_pred cols h = names_pred rows p (front rows (pred_cols p) (printed_cols items) (front rows (pred_cols p ++ printed_cols items) cols h))

    of_items : (cols : List Col) → There rows (pred_cols p ++ printed_cols items ++ cols) → AllPrinted rows items
    of_items cols h = names_printed rows items (back rows (pred_cols p) (printed_cols items) (front rows (pred_cols p ++ printed_cols items) cols h))

    of_shape : (cols : List Col) → There rows (pred_cols p ++ printed_cols items ++ cols) → There rows cols
    of_shape cols h = back rows (pred_cols p ++ printed_cols items) cols h

  abbrev Alone : Shape → Type 0
  Alone s = has_one_table s ≡ true → (side at : ℕ) → has side at → side ≡ 0

  one_table : (s : Shape) → has_one_table s ≡ true → There has (outer s ++ inner_cols s) → Alone s → There (left_of has) (outer s)
  one_table s e h alone c i = let there = h c (In-left c (outer s) (inner_cols s) i) in (there, alone e c.side c.at there)

  told : (s : Shape) → There has (outer s ++ inner_cols s) → AreSided s (outer s) → Alone s → PrintsKeys s (printed_cols items) → Told s
  told shape.Filter h sided alone keys = let o = one_table shape.Filter refl h alone in (of_pred (left_of has) [] o, of_items (left_of has) [] o)
  told shape.Distinct h sided alone keys = let o = one_table shape.Distinct refl h alone in (of_pred (left_of has) [] o, of_items (left_of has) [] o)
  told (shape.Top by descending limit) h sided alone keys =
      let o = one_table (shape.Top by descending limit) refl h alone in
      (of_pred (left_of has) (by ∷ []) o, (of_items (left_of has) (by ∷ []) o, of_shape (left_of has) (by ∷ []) o by (inl refl)))
  told (shape.Group cols max value) h sided alone keys =
      let o = one_table (shape.Group cols max value) refl h alone in
      let t = of_shape (left_of has) (value ∷ cols) o in
      (of_pred (left_of has) (value ∷ cols) o, (key_printed cols items keys, names_cols (left_of has) cols (λ c i. t c (inr i)), t value (inl refl)))
  told (shape.Having cols None above) h sided alone keys =
      let o = one_table (shape.Having cols None above) refl h alone in
      (of_pred (left_of has) cols o, (key_printed cols items keys, names_cols (left_of has) cols (of_shape (left_of has) cols o)))
  told (shape.Having cols (Some value) above) h sided alone keys =
      let o = one_table (shape.Having cols (Some value) above) refl h alone in
      let t = of_shape (left_of has) (value ∷ cols) o in
      (of_pred (left_of has) (value ∷ cols) o, (key_printed cols items keys, names_cols (left_of has) cols (λ c i. t c (inr i)), t value (inl refl)))
  told (shape.Join left right) h sided alone keys =
      let o = front has (outer (shape.Join left right)) [] h in
      let t = of_shape has (left ∷ right ∷ []) o in
      (of_pred has (left ∷ right ∷ []) o, (of_items has (left ∷ right ∷ []) o, t left (inl refl), t right (inr (inl refl))))
  told (shape.Skyline dims) h sided alone keys =
      let o = one_table (shape.Skyline dims) refl h alone in
      (of_pred (left_of has) (map (λ d. d.col) dims) o, (of_items (left_of has) (map (λ d. d.col) dims) o, names_dims (left_of has) dims (of_shape (left_of has) (map (λ d. d.col) dims) o)))
  told (shape.Semi key within) h sided alone keys =
      let all = outer (shape.Semi key within) in
      let o : There (left_of has) all = λ c i. (h c (In-left c all (within ∷ []) i), sided.1 c i) in
      let w = h within (In-right within all (within ∷ []) (inl refl)) in
      let second : (within.side ≡ 0) → ⊥ = λ z. absurd (cc (z, sided.0)) in
      (of_pred (left_of has) (key ∷ []) o, (of_items (left_of has) (key ∷ []) o, of_shape (left_of has) (key ∷ []) o key (inl refl), (w, second)))

-- with one table each column is the first side's
one_side : (b : Bound) → length b.carried ≡ sides_of b.shape → has_one_table b.shape ≡ true → (side at : ℕ) → IsCarried b side at → side ≡ 0
one_side b n e side at h = elim (cases_eq side 0) [
  | inl z ↦ z
  | inr other ↦
      let few : length b.carried ≡ 1 = n ∙ ap (λ t. cond t 1 2) e in
      absurd (subst (λ (cs : List ℕ). In at cs) (get_or_past b.carried side [] (omega arith)) h)
]

pub sound_names : (b : Bound) → IsSound b → NamesOnly (IsCarried b) b
sound_names b s =
    let t = told (IsCarried b) (plain_of b.filter) b.printed b.shape s.columns s.sides (one_side b s.tables.1) s.keys in
    record { filter = t.0; shape = t.1 }

pub sound_filter : (b : Bound) → IsSound b → Names (IsCarried b) (plain_of b.filter)
sound_filter b s =
    let cols = pred_cols (plain_of b.filter) in
    let items = printed_cols b.printed in
    let has = IsCarried b in
    names_pred has (plain_of b.filter) (front has cols items (front has (cols ++ items) (shape_cols b.shape) (front has (outer_named b) (inner_cols b.shape) s.columns)))

-- the kinds by which words are read fit
same_kinds : (k l : Kind) → AreAlike k l → key_kind k l ≡ key_kind l k
same_kinds kind.Number kind.Number a = refl
same_kinds kind.Number kind.Text (inl e) = cc
same_kinds kind.Number kind.Text (inr (inl e)) = cc
same_kinds kind.Number kind.Text (inr (inr e)) = cc
same_kinds kind.Number kind.Void a = refl
same_kinds kind.Text kind.Number (inl e) = cc
same_kinds kind.Text kind.Number (inr (inl e)) = cc
same_kinds kind.Text kind.Number (inr (inr e)) = cc
same_kinds kind.Text kind.Text a = refl
same_kinds kind.Text kind.Void a = refl
same_kinds kind.Void kind.Number a = refl
same_kinds kind.Void kind.Text a = refl
same_kinds kind.Void kind.Void a = refl

is_itself : (c : Col) → is_col c c.side c.at ≡ true
is_itself c = and_from (eqb c.side c.side) (eqb c.at c.at) (eq-eqb c.side c.side refl) (eq-eqb c.at c.at refl)

is_apart : (c other : Col) → c.side ≡ 0 → other.side ≡ 1 → is_col c other.side other.at ≡ false
is_apart c other z o = ap (λ t. t && eqb c.at other.at) ((λ i. eqb (z i) (o i)))

keys_fit : (b : Bound) (key other : Col) → key.side ≡ 0 → other.side ≡ 1 → AreAlike (kind_of b key) (kind_of b other) → keys_read b key other key.side key.at ≡ keys_read b key other other.side other.at
keys_fit b key other z o alike =
    ap (λ t. cond t (key_kind (kind_of b key) (kind_of b other)) (cond (is_col other key.side key.at) (key_kind (kind_of b other) (kind_of b key)) (kind_of b (column key.side key.at)))) (is_itself key)
    ∙ (same_kinds (kind_of b key) (kind_of b other) alike
    ∙ sym (ap (λ t. cond t (key_kind (kind_of b key) (kind_of b other)) (cond (is_col other other.side other.at) (key_kind (kind_of b other) (kind_of b key)) (kind_of b (column other.side other.at)))) (is_apart key other z o)
    ∙ ap (λ t. cond t (key_kind (kind_of b other) (kind_of b key)) (kind_of b (column other.side other.at))) (is_itself other)))

kinds_fit : (b : Bound) (s : Shape) → AreSided s (pred_cols (plain_of b.filter) ++ printed_cols b.printed ++ shape_cols s) → SumsNumbers b s → KeysAlike b s → KindsFit (kinds_read b s) s
kinds_fit b shape.Filter sided sums alike = tt
kinds_fit b shape.Distinct sided sums alike = tt
kinds_fit b (shape.Top by descending limit) sided sums alike = tt
kinds_fit b (shape.Group keys max value) sided sums alike = tt
kinds_fit b (shape.Having keys None above) sided sums alike = tt
kinds_fit b (shape.Having keys (Some value) above) sided sums alike = sums
kinds_fit b (shape.Join left right) sided sums alike = keys_fit b left right sided.0 sided.1 alike
kinds_fit b (shape.Skyline dims) sided sums alike = tt
kinds_fit b (shape.Semi key within) sided sums alike =
    let all = pred_cols (plain_of b.filter) ++ printed_cols b.printed in
    keys_fit b key within (sided.1 key (In-right key all (key ∷ []) (inl refl))) sided.0 alike

-- a cell of a kind fits the kind by which its column is read
fits_key : (texts : List (List ℕ)) (k l : Kind) (c : Cell) → FitsKind texts k c → FitsKind texts (key_kind k l) c
fits_key texts kind.Number l c f = f
fits_key texts kind.Text l c f = f
fits_key texts kind.Void l c f = absurd f

fits_keys : (texts : List (List ℕ)) (b : Bound) (key other : Col) (side at : ℕ) (c : Cell) → FitsKind texts (kind_of b (column side at)) c → FitsKind texts (keys_read b key other side at) c
fits_keys texts b key other side at c f = go (is_col key side at) refl (is_col other side at) refl
  where
    at_col : (x : Col) → is_col x side at ≡ true → FitsKind texts (kind_of b x) c
    at_col x e =
        let p = and_parts (eqb x.side side) (eqb x.at at) e in
        let same : column side at ≡ x = λ i. record { side = (sym (eqb-true x.side side p.0)) i; at = (sym (eqb-true x.at at p.1)) i } in
        subst (λ (y : Col). FitsKind texts (kind_of b y) c) same f

    go : (s : Bool) → is_col key side at ≡ s → (t : Bool) → is_col other side at ≡ t
        → FitsKind texts (cond s (key_kind (kind_of b key) (kind_of b other)) (cond t (key_kind (kind_of b other) (kind_of b key)) (kind_of b (column side at)))) c
    go true e t g = fits_key texts (kind_of b key) (kind_of b other) c (at_col key e)
    go false e true g = fits_key texts (kind_of b other) (kind_of b key) c (at_col other g)
    go false e false g = f

fits_read : (texts : List (List ℕ)) (b : Bound) (s : Shape) (side at : ℕ) (c : Cell) → FitsKind texts (kind_of b (column side at)) c → FitsKind texts (kinds_read b s side at) c
fits_read texts b shape.Filter side at c f = f
fits_read texts b shape.Distinct side at c f = f
fits_read texts b (shape.Top by descending limit) side at c f = f
fits_read texts b (shape.Group keys max value) side at c f = f
fits_read texts b (shape.Having keys sum above) side at c f = f
fits_read texts b (shape.Join left right) side at c f = fits_keys texts b left right side at c f
fits_read texts b (shape.Skyline dims) side at c f = f
fits_read texts b (shape.Semi key within) side at c f = fits_keys texts b key within side at c f

few_sides : (t : Bool) → cond t 1 2 ≤ 2
few_sides true = omega arith
few_sides false = omega arith

pub sound_tables : (texts : List (List ℕ)) (b : Bound) (tables : List (List (List Cell))) → IsSound b → Ascends texts → TablesFit texts b tables → AreSound texts (kinds_read b b.shape) b tables
sound_tables texts b tables s h f = record {
  names = sound_names b s;
  sides = let n = s.tables.1 in let k = few_sides (has_one_table b.shape) in omega (arith, n, k);
  alone = λ e. get_or_past tables 1 [] (let n : length tables ≡ 1 = f.sides ∙ ap (λ t. cond t 1 2) e in omega arith);
  ascends = h;
  kinds_fit = kinds_fit b b.shape s.sides s.sums s.alike;
  first = λ row i at c. fits_read texts b b.shape 0 at (slice_index_or row at (cell.Number (pos 0))) (f.cells 0 row i at c);
  second = λ row i at c. fits_read texts b b.shape 1 at (slice_index_or row at (cell.Number (pos 0))) (f.cells 1 row i at c);
}
