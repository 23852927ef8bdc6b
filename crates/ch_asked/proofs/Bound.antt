-- A query that binding gives is bound to the tables.
use Rattle.std.proofs.Common.{◌≡◌, ℕ, zero, suc, ◌+◌, ◌<◌, Bool, true, false, cond, ◌||◌, List, [], ◌∷◌, map, filter, length, Option, Some, None, refl, sym, ◌∙◌, ap, inl, inr, subst, arith, All}
use Rattle.std.specs.Prelude.{◌⊎◌, bytes_eq, slice_index_or, option_map, unwrap_or, is_none}
use Rattle.std.specs.List.{range_with_len}
use Rattle.std.specs.Option.{option_or}
use Rattle.std.proofs.lemmas.List.{get_or-map, length-map}
use Rattle.std.proofs.lemmas.List.Elements.{All-nil, All-cons}
use Rattle.ch_cells.specs.declared.Kind.{Kind}
use Rattle.ch_cells.specs.declared.Kind.TheVariants as kind
use Rattle.ch_lists.specs.Members.{In}
use Rattle.ch_lists.proofs.Members.{All-from_Each, In-filter}
use Rattle.ch_pred.specs.Sound.{IsSound, carried_of, kinds_of}
use Rattle.ch_pred.specs.declared.bound.Bound.{Bound}
use Rattle.ch_sql_grammar.specs.Tree.{Select}
use Rattle.ch_sql_grammar.specs.declared.query.Source.{Source}
use Rattle.ch_sql_grammar.specs.declared.query.Source.TheVariants as source
use Rattle.ch_tables.specs.TableValue.{TableValue}
use Rattle.ch_bind.specs.Binding.{PlainBound, bound_of, kinds_at, per_side, plain_bound, tables_of}
use Rattle.ch_bind.specs.Checks.{bind_refusal, first_carried, first_whole, is_unknown, second_carried, second_whole, table_refusal}
use Rattle.ch_bind.specs.First.{first_from}
use Rattle.ch_bind.specs.References.{is_named, references_of}
use Rattle.ch_bind.specs.Scope.{names_of, no_shape, number_of, scope_of, table_at, table_of}
use Rattle.ch_bind.specs.Sums.{sum_refusal}
use Rattle.ch_bind.specs.declared.error.BindError.{BindError}
use Rattle.ch_bind.specs.declared.error.BindError.TheVariants as error
use Rattle.ch_bind.specs.declared.shape.TableShape.{TableShape}
use Rattle.ch_parts.specs.Scanned as scanned
use Rattle.ch_parts.specs.Scanned.{side_table}
use Rattle.ch_asked.specs.Suits.{IsBoundTo}
use Rattle.ch_bind.specs.Shapes.{shape_of}

none_first : (a b : Option BindError) → option_or a b ≡ None → a ≡ None
none_first None b e = refl
none_first (Some x) b e = cc

-- ---- names of tables

unmapped : (o : Option ℕ) → option_map error.NoTable o ≡ None → o ≡ None
unmapped None e = refl
unmapped (Some n) e = cc

first_at : {X : Type 0} (p : X → Bool) (k : ℕ) (xs : List X) (n : ℕ) → first_from p k xs ≡ Some n → n < k + length xs
first_at p k [] n e = cc
first_at p k (x ∷ xs) n e = go (p x) e (first_at p (k + 1) xs n)
  where
    go : (b : Bool) → cond b (Some k) (first_from p (k + 1) xs) ≡ Some n → (first_from p (k + 1) xs ≡ Some n → n < (k + 1) + length xs) → n < k + suc (length xs)
    go true e h = let same : k ≡ n = cc in omega arith
    go false e h = let r = h e in omega (arith, r)

-- each name is a table's
known : {X : Type 0} (p : X → Bool) (k : ℕ) (xs : List X) → first_from p k xs ≡ None → (x : X) → In x xs → p x ≡ false
known {X = X} p k [] e x i = absurd i
known {X = X} p k (y ∷ ys) e x i = go (p y) refl e i (known p (k + 1) ys)
  where
    go : (b : Bool) → p y ≡ b → cond b (Some k) (first_from p (k + 1) ys) ≡ None → In x (y ∷ ys) → (first_from p (k + 1) ys ≡ None → (x : X) → In x ys → p x ≡ false) → p x ≡ false
    go true h e i ih = cc
    go false h e (inl s) ih = ap p s ∙ h
    go false h e (inr j) ih = ih e x j

-- a table of the query: its number is there, and what binding knows of it is the table's
pub record Stands (tables : List TableValue) (name : List ℕ) : Type 0 where
  pub number : ℕ
  pub found : number_of (map shape_of tables) name ≡ Some number
  pub there : number < length tables
  pub header : (table_of (map shape_of tables) name).header ≡ (scanned.table_at tables number).header
  pub kinds : (table_of (map shape_of tables) name).kinds ≡ (scanned.table_at tables number).kinds

stands_at : (tables : List TableValue) (name : List ℕ) (o : Option ℕ) → number_of (map shape_of tables) name ≡ o → is_none o ≡ false → Stands tables name
stands_at tables name None e h = cc
stands_at tables name (Some n) e h =
    let most = first_at (λ s. bytes_eq name s.name) 0 (map shape_of tables) n e in
    let there : n < length tables = omega (arith, most, length-map tables shape_of) in
    record {
      number = n;
      found = e;
      there = there;
      header = ap (λ o. (table_at (map shape_of tables) o).header) e ∙ ap (λ (s : TableShape). s.header) (get_or-map shape_of tables n scanned.no_table no_shape there);
      kinds = ap (λ o. (table_at (map shape_of tables) o).kinds) e ∙ ap (λ (s : TableShape). s.kinds) (get_or-map shape_of tables n scanned.no_table no_shape there);
    }

stands : (tables : List TableValue) (s : Source) → table_refusal s (map shape_of tables) ≡ None → (name : List ℕ) → In name (names_of s) → Stands tables name
stands tables s e name i =
    stands_at tables name (number_of (map shape_of tables) name) refl (known (is_unknown (map shape_of tables)) 0 (names_of s) (unmapped (first_from (is_unknown (map shape_of tables)) 0 (names_of s)) e) name i)

-- ---- one side

within_range : (a n k : ℕ) → In k (range_with_len a n) → k < a + n
within_range a zero k i = absurd i
within_range a (suc n) k (inl e) = omega (arith, e)
within_range a (suc n) k (inr i) = let r = within_range (a + 1) n k i in omega (arith, r)

-- the columns that are carried of a side, and their kinds
pub record Sided (b : Bound) (tables : List TableValue) (side : ℕ) : Type 0 where
  pub columns : All (λ at. at < length (side_table b tables side).header) (carried_of b side)
  pub kinds : kinds_of b side ≡ map (λ at. slice_index_or (side_table b tables side).kinds at kind.Void) (carried_of b side)

sided : (b : Bound) (tables : List TableValue) (side : ℕ) (header : List (List ℕ)) (kinds : List Kind) (p : ℕ → Bool)
    → header ≡ (side_table b tables side).header → kinds ≡ (side_table b tables side).kinds → carried_of b side ≡ filter p (range_with_len 0 (length header))
    → kinds_of b side ≡ map (λ at. slice_index_or kinds at kind.Void) (filter p (range_with_len 0 (length header))) → Sided b tables side
sided b tables side header kinds p e f c k = record {
  columns = All-from_Each (λ at. at < length (side_table b tables side).header) (carried_of b side) (λ at i.
      let j = (In-filter p at (range_with_len 0 (length header)) (subst (λ (cs : List ℕ). In at cs) c i)).0 in
      let lt = within_range 0 (length header) at j in
      let size = ap length e in
      omega (arith, lt, size));
  kinds = k ∙ (ap (map (λ at. slice_index_or kinds at kind.Void)) (sym c) ∙ ap (λ (ks : List Kind). map (λ at. slice_index_or ks at kind.Void) (carried_of b side)) f);
}

-- the table of a side is the one that its name says
header_is : (b : Bound) (tables : List TableValue) (side : ℕ) (name : List ℕ) → (h : Stands tables name) → slice_index_or b.tables side 0 ≡ h.number
    → (table_of (map shape_of tables) name).header ≡ (side_table b tables side).header
header_is b tables side name h e = h.header ∙ ap (λ n. (scanned.table_at tables n).header) (sym e)

kinds_is : (b : Bound) (tables : List TableValue) (side : ℕ) (name : List ℕ) → (h : Stands tables name) → slice_index_or b.tables side 0 ≡ h.number
    → (table_of (map shape_of tables) name).kinds ≡ (side_table b tables side).kinds
kinds_is b tables side name h e = h.kinds ∙ ap (λ n. (scanned.table_at tables n).kinds) (sym e)

-- ---- each side

pub record Placed (b : Bound) (tables : List TableValue) : Type 0 where
  pub there : All (λ number. number < length tables) b.tables
  pub sides : (side : ℕ) → side < length b.tables → Sided b tables side

numbered : (tables : List TableValue) (name : List ℕ) → (h : Stands tables name) → unwrap_or (number_of (map shape_of tables) name) 0 ≡ h.number
numbered tables name h = ap (λ o. unwrap_or o 0) h.found

one_placed : (b : Bound) (tables : List TableValue) (q : Select) (name : List ℕ) → Stands tables name
    → b.tables ≡ tables_of (map shape_of tables) (source.One name) → b.carried ≡ first_carried (scope_of (source.One name) (map shape_of tables)) q ∷ []
    → b.kinds ≡ kinds_at (scope_of (source.One name) (map shape_of tables)).first (first_carried (scope_of (source.One name) (map shape_of tables)) q) ∷ [] → Placed b tables
one_placed b tables q name h t c k =
    let scope = scope_of (source.One name) (map shape_of tables) in
    let is : b.tables ≡ h.number ∷ [] = t ∙ ap (λ n. n ∷ []) (numbered tables name h) in
    let size = ap length is in
    record {
      there = subst (λ (ns : List ℕ). All (λ number. number < length tables) ns) (sym is) (All-cons (λ number. number < length tables) h.number [] h.there (All-nil (λ number. number < length tables)));
      sides = λ side lt.
          let zero_is : side ≡ 0 = omega (arith, lt, size) in
          subst (Sided b tables) (sym zero_is)
          (sided b tables 0 scope.first.header scope.first.kinds (λ at. first_whole q || is_named (references_of scope q) 0 at)
          (header_is b tables 0 name h (ap (λ (ns : List ℕ). slice_index_or ns 0 0) is)) (kinds_is b tables 0 name h (ap (λ (ns : List ℕ). slice_index_or ns 0 0) is))
          (ap (λ (cs : List (List ℕ)). slice_index_or cs 0 []) c) (ap (λ (ks : List (List Kind)). slice_index_or ks 0 []) k));
    }

first_or_second : (side : ℕ) → side < 2 → (side ≡ 0) ⊎ (side ≡ 1)
first_or_second zero lt = inl refl
first_or_second (suc zero) lt = inr refl
first_or_second (suc (suc n)) lt = absurd (omega (arith, lt))

two_placed : (b : Bound) (tables : List TableValue) (q : Select) (s : Source) (left right : List ℕ) → Stands tables left → Stands tables right
    → ((scope_of s (map shape_of tables)).first.header ≡ (table_of (map shape_of tables) left).header) × ((scope_of s (map shape_of tables)).first.kinds ≡ (table_of (map shape_of tables) left).kinds)
    → ((scope_of s (map shape_of tables)).second.header ≡ (table_of (map shape_of tables) right).header) × ((scope_of s (map shape_of tables)).second.kinds ≡ (table_of (map shape_of tables) right).kinds)
    → b.tables ≡ unwrap_or (number_of (map shape_of tables) left) 0 ∷ unwrap_or (number_of (map shape_of tables) right) 0 ∷ []
    → b.carried ≡ first_carried (scope_of s (map shape_of tables)) q ∷ second_carried (scope_of s (map shape_of tables)) q ∷ []
    → b.kinds ≡ kinds_at (scope_of s (map shape_of tables)).first (first_carried (scope_of s (map shape_of tables)) q)
    ∷ kinds_at (scope_of s (map shape_of tables)).second (second_carried (scope_of s (map shape_of tables)) q) ∷ [] → Placed b tables
two_placed b tables q s left right h j one two t c k =
    let scope = scope_of s (map shape_of tables) in
    let is : b.tables ≡ h.number ∷ j.number ∷ [] = t ∙ (ap (λ n. n ∷ unwrap_or (number_of (map shape_of tables) right) 0 ∷ []) (numbered tables left h) ∙ ap (λ n. h.number ∷ n ∷ []) (numbered tables right j)) in
    let size = ap length is in
    let first : Sided b tables 0 =
    sided b tables 0 scope.first.header scope.first.kinds (λ at. first_whole q || is_named (references_of scope q) 0 at)
    (one.0 ∙ header_is b tables 0 left h (ap (λ (ns : List ℕ). slice_index_or ns 0 0) is)) (one.1 ∙ kinds_is b tables 0 left h (ap (λ (ns : List ℕ). slice_index_or ns 0 0) is))
    (ap (λ (cs : List (List ℕ)). slice_index_or cs 0 []) c) (ap (λ (ks : List (List Kind)). slice_index_or ks 0 []) k) in
    let second : Sided b tables 1 =
    sided b tables 1 scope.second.header scope.second.kinds (λ at. second_whole scope q || is_named (references_of scope q) 1 at)
    (two.0 ∙ header_is b tables 1 right j (ap (λ (ns : List ℕ). slice_index_or ns 1 0) is)) (two.1 ∙ kinds_is b tables 1 right j (ap (λ (ns : List ℕ). slice_index_or ns 1 0) is))
    (ap (λ (cs : List (List ℕ)). slice_index_or cs 1 []) c) (ap (λ (ks : List (List Kind)). slice_index_or ks 1 []) k) in
    record {
      there = subst (λ (ns : List ℕ). All (λ number. number < length tables) ns) (sym is) (All-cons (λ number. number < length tables) h.number (j.number ∷ []) h.there (All-cons (λ number. number < length tables) j.number [] j.there (All-nil (λ number. number < length tables))));
      sides = λ side lt. elim (first_or_second side (omega (arith, lt, size))) [
        | inl z ↦ subst (Sided b tables) (sym z) first
        | inr o ↦ subst (Sided b tables) (sym o) second
      ];
    }

placed : (b : Bound) (tables : List TableValue) (q : Select) (s : Source) → table_refusal s (map shape_of tables) ≡ None → b.tables ≡ tables_of (map shape_of tables) s
    → b.carried ≡ per_side s (first_carried (scope_of s (map shape_of tables)) q) (second_carried (scope_of s (map shape_of tables)) q)
    → b.kinds ≡ per_side s (kinds_at (scope_of s (map shape_of tables)).first (first_carried (scope_of s (map shape_of tables)) q))
    (kinds_at (scope_of s (map shape_of tables)).second (second_carried (scope_of s (map shape_of tables)) q)) → Placed b tables
placed b tables q (source.One name) e t c k = one_placed b tables q name (stands tables (source.One name) e name (inl refl)) t c k
placed b tables q (source.Join left right first_on second_on) e t c k =
    two_placed b tables q (source.Join left right first_on second_on) left right (stands tables (source.Join left right first_on second_on) e left (inl refl))
    (stands tables (source.Join left right first_on second_on) e right (inr (inl refl))) (refl, refl) (refl, refl) t c k
placed b tables q (source.Semi outer inner key inner_key) e t c k =
    two_placed b tables q (source.Semi outer inner key inner_key) outer inner (stands tables (source.Semi outer inner key inner_key) e outer (inl refl))
    (stands tables (source.Semi outer inner key inner_key) e inner (inr (inl refl))) (refl, refl) (refl, refl) t c k

pub bound_suit : (q : Select) (b : Bound) (tables : List TableValue) → bind_refusal q (map shape_of tables) ≡ None → plain_bound b ≡ bound_of q (map shape_of tables)
    → IsSound b → sum_refusal b tables ≡ None → IsBoundTo b tables
bound_suit q b tables e is sound sums =
    let p = placed b tables q q.source (none_first (table_refusal q.source (map shape_of tables)) _ e)
    (ap (λ (x : PlainBound). x.tables) is) (ap (λ (x : PlainBound). x.carried) is) (ap (λ (x : PlainBound). x.kinds) is) in
    record {
      sound = sound;
      there = p.there;
      columns = λ side lt. (p.sides side lt).columns;
      kinds = λ side lt. (p.sides side lt).kinds;
      sums = sums;
    }
