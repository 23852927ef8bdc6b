-- The gates of a sound query fit it.
use Rattle.std.proofs.Common.{◌≡◌, ℕ, true, false, refl, sym, ◌∙◌, ap, inl, inr}
use Rattle.std.specs.Prelude.{ℤ}
use Rattle.ch_pred.specs.Values.{View}
use Rattle.ch_pred.specs.Meaning.{both}
use Rattle.ch_pred.specs.Plain.{Plain, Plains, Truth, Compare, Between, Within, Like, And, Or, Not, nil, cons, plain_of}
use Rattle.ch_pred.specs.Holds.{holds_of}
use Rattle.ch_pred.specs.Names.{Names, NamesArg, AllName}
use Rattle.ch_pred.specs.Gate.{part_holds}
use Rattle.ch_pred.proofs.GateLaws.{part_follows, part_is_all, part_is_true, part_alike}
use Rattle.ch_pred.specs.declared.bound.Bound.{Bound}
use Rattle.ch_pred.specs.declared.bound.Shape.{Shape}
use Rattle.ch_pred.specs.declared.bound.Shape.TheVariants as shape
use Rattle.ch_pred.specs.declared.pred.Arg.{Arg}
use Rattle.ch_pred.specs.declared.pred.Arg.TheVariants as arg
use Rattle.ch_words.specs.Words.{Reading, read_row, asked_of_words}
use Rattle.ch_words.specs.Readings.{NamesOnly, left_of, rows_have}
use Rattle.ch_words.specs.Rows.{GateFits}
use Rattle.ch_words.specs.Gates.{gate_of}
use Rattle.ch_pred.specs.Sound.{IsWhole}

-- a predicate that names columns of one kind names those of a wider kind
module _ (has wide : ℕ → ℕ → Type 0) (more : (side at : ℕ) → has side at → wide side at) where
  arg_wider : (a : Arg) → NamesArg has a → NamesArg wide a
  arg_wider (arg.Column c) n = more c.side c.at n
  arg_wider (arg.Value v) n = tt

  mutual
    pub names_wider : (p : Plain) → Names has p → Names wide p
    names_wider Truth n = tt
    names_wider (Compare c cmp other) n = (more c.side c.at n.0, arg_wider other n.1)
    names_wider (Between c low high) n = more c.side c.at n
    names_wider (Within c literals) n = more c.side c.at n
    names_wider (Like c prefix) n = more c.side c.at n
    names_wider (And members) n = all_wider members n
    names_wider (Or members) n = all_wider members n
    names_wider (Not inner) n = names_wider inner n

    all_wider : (ps : Plains) → AllName has ps → AllName wide ps
    all_wider nil n = tt
    all_wider (cons p ps) n = (names_wider p n.0, all_wider ps n.1)

module _ (d : Reading) (b : Bound) (has : ℕ → ℕ → Type 0) where
  abbrev filter_of : Plain
  filter_of = plain_of b.filter

  first_gate : Names (left_of has) filter_of → (v : View ℤ) → gate_of d b 0 v ≡ holds_of (read_row d v) filter_of
  first_gate n v = part_is_all 0 (read_row d v) false filter_of (names_wider (left_of has) (λ s at. s ≡ 0) (λ s at h. h.1) filter_of n)

  inner_gate : Names (left_of has) filter_of → IsWhole filter_of → (v : View ℤ) → gate_of d b 1 v ≡ true
  inner_gate n (inl e) v = ap (part_holds 1 false (read_row d v)) e
  inner_gate n (inr full) v = part_is_true 1 0 refl (read_row d v) false filter_of full (names_wider (left_of has) (λ s at. s ≡ 0) (λ s at h. h.1) filter_of n)

  join_gates : (v w : View ℤ) → holds_of (read_row d (both v w)) filter_of ≡ true → (gate_of d b 0 v ≡ true) × (gate_of d b 1 w ≡ true)
  join_gates v w h = (
    sym (part_alike 0 (read_row d (both v w)) (read_row d v) (λ at. refl) false filter_of) ∙ part_follows 0 (read_row d (both v w)) false filter_of h,
    sym (part_alike 1 (read_row d (both v w)) (read_row d w) (λ at. refl) false filter_of) ∙ part_follows 1 (read_row d (both v w)) false filter_of h,
  )

  fits_by : (s : Shape) → Names (rows_have s has) filter_of → IsWhole filter_of → GateFits (gate_of d b) (asked_of_words d b) s
  fits_by shape.Filter n w = first_gate n
  fits_by shape.Distinct n w = first_gate n
  fits_by (shape.Top by descending limit) n w = first_gate n
  fits_by (shape.Group keys max value) n w = first_gate n
  fits_by (shape.Having keys sum above) n w = first_gate n
  fits_by (shape.Join left right) n w = join_gates
  fits_by (shape.Skyline dims) n w = first_gate n
  fits_by (shape.Semi key within) n w = (first_gate n, inner_gate n w)

pub gates_fit : (d : Reading) (b : Bound) (has : ℕ → ℕ → Type 0) → NamesOnly has b → IsWhole (plain_of b.filter) → GateFits (gate_of d b) (asked_of_words d b) b.shape
gates_fit d b has names whole = fits_by d b has b.shape names.filter whole
