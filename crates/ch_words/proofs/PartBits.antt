-- The bit of a row that is sent: whether the part of its side holds on its cells.
use Rattle.std.proofs.Common.{◌≡◌, ℕ, Bool, true, false, cond, not, ◌&&◌, ◌||◌, eqb, eqb-true, List, refl, sym, ◌∙◌, ap, subst}
use Rattle.std.specs.Prelude.{pos, slice_index_or}
use Rattle.std.proofs.lemmas.Bool.{and_parts}
use Rattle.ch_cells.specs.declared.Cell.{Cell}
use Rattle.ch_cells.specs.declared.Cell.TheVariants as cell
use Rattle.ch_cells.specs.Cell.{cell_cmp}
use Rattle.ch_cells.specs.declared.Kind.{Kind}
use Rattle.ch_lists.specs.Members.{Each}
use Rattle.ch_pred.specs.Values.{View, cells_seen}
use Rattle.ch_pred.specs.Plain.{Plain, Plains, Truth, Compare, Between, Within, Like, And, Or, Not, nil, cons, plain_of}
use Rattle.ch_pred.specs.Holds.{holds_of, arg_cell, passes, is_between, is_within, is_like}
use Rattle.ch_pred.specs.Names.{Names, NamesArg, AllName}
use Rattle.ch_pred.specs.Gate.{is_of_side, of_side, part_holds, all_part, any_part}
use Rattle.ch_pred.specs.Part.{part_of}
use Rattle.ch_pred.specs.Sound.{IsSound, IsCarried, carried_of}
use Rattle.ch_pred.specs.declared.bound.Bound.{Bound}
use Rattle.ch_pred.specs.declared.pred.Arg.{Arg}
use Rattle.ch_pred.specs.declared.pred.Arg.TheVariants as arg
use Rattle.ch_pred.proofs.PartLaws.{part_is_gate}
use Rattle.ch_ranks.specs.Dictionary.{Ascends}
use Rattle.ch_words.specs.Words.{read_row}
use Rattle.ch_words.specs.Rows.{words_seen}
use Rattle.ch_words.specs.Ranks.{read_by}
use Rattle.ch_words.specs.Gates.{gate_of}
use Rattle.ch_words.specs.Packets.{FitsKind, packed}
use Rattle.ch_words.proofs.Packets.{packed_stand}
use Rattle.ch_words.proofs.SoundQueries.{sound_filter}

-- a side's part looks at no cell but those of the side that the predicate names
module _ (side : ℕ) (has : ℕ → ℕ → Type 0) (x y : View Cell) (same : (at : ℕ) → has side at → x side at ≡ y side at) where
  own_same : (b negated s t : Bool) → (b ≡ true → s ≡ t) → of_side b negated s ≡ of_side b negated t
  own_same true negated s t e = ap (λ u. cond negated (not u) u) (e refl)
  own_same false negated s t e = refl

  cell_same : (k at : ℕ) → eqb k side ≡ true → has k at → x k at ≡ y k at
  cell_same k at e h =
      let P : ℕ → Type 0 = λ n. has n at → x n at ≡ y n at in
      subst P (sym (eqb-true k side e)) (same at) h

  arg_same : (a : Arg) → NamesArg has a → is_of_side side a ≡ true → arg_cell x a ≡ arg_cell y a
  arg_same (arg.Column col) n e = cell_same col.side col.at e n
  arg_same (arg.Value v) n e = refl

  mutual
    pub part_same : (negated : Bool) (p : Plain) → Names has p → part_holds side negated x p ≡ part_holds side negated y p
    part_same negated Truth n = refl
    part_same negated (Compare col c a) n = own_same (eqb col.side side && is_of_side side a) negated (holds_of x (Compare col c a)) (holds_of y (Compare col c a))
        (λ e. let p = and_parts (eqb col.side side) (is_of_side side a) e in λ i. passes c (cell_cmp ((cell_same col.side col.at p.0 n.0) i) ((arg_same a n.1 p.1) i)))
    part_same negated (Between col low high) n = own_same (eqb col.side side) negated (holds_of x (Between col low high)) (holds_of y (Between col low high)) (λ e. ap (λ c. is_between c low high) (cell_same col.side col.at e n))
    part_same negated (Within col literals) n = own_same (eqb col.side side) negated (holds_of x (Within col literals)) (holds_of y (Within col literals)) (λ e. ap (λ c. is_within c literals) (cell_same col.side col.at e n))
    part_same negated (Like col prefix) n = own_same (eqb col.side side) negated (holds_of x (Like col prefix)) (holds_of y (Like col prefix)) (λ e. ap (λ c. is_like c prefix) (cell_same col.side col.at e n))
    part_same true (And members) n = any_same true members n
    part_same false (And members) n = all_same false members n
    part_same true (Or members) n = all_same true members n
    part_same false (Or members) n = any_same false members n
    part_same negated (Not inner) n = part_same (not negated) inner n

    all_same : (negated : Bool) (ps : Plains) → AllName has ps → all_part side negated x ps ≡ all_part side negated y ps
    all_same negated nil n = refl
    all_same negated (cons p ps) n = λ i. (part_same negated p n.0) i && (all_same negated ps n.1) i

    any_same : (negated : Bool) (ps : Plains) → AllName has ps → any_part side negated x ps ≡ any_part side negated y ps
    any_same negated nil n = refl
    any_same negated (cons p ps) n = λ i. (part_same negated p n.0) i || (any_same negated ps n.1) i

pub bit_by_part : (texts : List (List ℕ)) (kinds : ℕ → ℕ → Kind) (b : Bound) → IsSound b → Ascends texts → (side : ℕ) (row : List Cell)
    → Each (λ at. FitsKind texts (kinds side at) (slice_index_or row at (cell.Number (pos 0)))) (carried_of b side)
    → holds_of (cells_seen row) (part_of (plain_of b.filter) side) ≡ gate_of (read_by texts kinds) b side (words_seen b (packed texts b side row))
bit_by_part texts kinds b s h side row f =
    part_is_gate (cells_seen row) side false (plain_of b.filter)
    ∙ part_same side (IsCarried b) (cells_seen row) (read_row (read_by texts kinds) (words_seen b (packed texts b side row))) (packed_stand texts h kinds b side row f) false (plain_of b.filter) (sound_filter b s)
