-- A step of the packed program on words whose selector word is a program's number is a step of that program alone, on its
-- own arrays; all others stay.
use Rattle.std.proofs.Common.{◌≡◌, ◌<◌, ◌≤◌, ℕ, zero, suc, ◌+◌, List, [], ◌∷◌, ◌++◌, ℤ, pos, refl, ◌∙◌, ap, arith, subst, Option, Some, None, length, get_or}
use Rattle.std.specs.Prelude.{slice_get}
use Rattle.std.specs.Option.{option_and_then, option_map}
use Rattle.std.proofs.lemmas.Bool.{lt-ltb, le-ltb}
use Rattle.std.proofs.lemmas.List.{append_assoc, length-append}
use Rattle.ch_ir.specs.declared.program.Array.{Array}
use Rattle.ch_ir.specs.declared.program.Program.{Program}
use Rattle.ch_ir.specs.Machine.{Registers, State, Words, cells_of, ends, exec_ops, exec_stages, given, machine, put}
use Rattle.ch_ir.specs.Rules.{BreaksNoRule, entries_of}
use Rattle.ch_pack_laws.specs.Packed.{all_arrays, all_moved, bases_from, first_free, greatest_width, joined, last_free, last_stage, packed, packed_stages, selector_of}
use Rattle.ch_pack_laws.specs.Packs.{Packs, between}
use Rattle.ch_pack_laws.specs.Moved.{Both, assigned_other, assigned_same}
use Rattle.ch_pack_laws.specs.Right.{right}
use Rattle.ch_pack_laws.specs.Plans.{AllAmong, AllFine, Ended, HasRow, IsAt, OneChosen, OneReads, exec_append, plans_run}
use Rattle.ch_pack_laws.specs.Joined.{compared_has, joined_missing, joined_one, one_chosen}

-- each program breaks no rule
abbrev pub AllUnbroken : List Program → Type 0
AllUnbroken [] = Unit {0}
AllUnbroken (p ∷ ps) = BreaksNoRule p × AllUnbroken ps

pub all_fine : (width : ℕ) (ps : List Program) → greatest_width ps ≤ width → AllUnbroken ps → AllFine width ps
all_fine width [] h u = tt
all_fine width (p ∷ ps) h u = (record { right = right p u.0; narrow = omega arith }, all_fine width ps (omega arith) u.1)

-- the arrays of each among all

cells_beside : (front arrays rest : List Array) (a n : ℕ) → length front ≡ n → a < length arrays → cells_of (front ++ (arrays ++ rest)) (n + a) ≡ cells_of arrays a
cells_beside [] [] rest a n e h = absurd (omega arith)
cells_beside [] (x ∷ arrays) rest zero n e h = let z : n + zero ≡ zero = omega arith in rw z refl
cells_beside [] (x ∷ arrays) rest (suc a) n e h = let z : n + suc a ≡ suc (0 + a) = omega arith in rw z (cells_beside [] arrays rest a 0 refl (omega arith))
cells_beside (y ∷ front) arrays rest a zero e h = absurd (omega arith)
cells_beside (y ∷ front) arrays rest a (suc n) e h = let z : suc n + a ≡ suc (n + a) = omega arith in rw z (cells_beside front arrays rest a n (omega arith) h)

entries_beside : (front arrays rest : List Array) (a n : ℕ) → length front ≡ n → a < length arrays → entries_of (front ++ (arrays ++ rest)) (n + a) ≡ entries_of arrays a
entries_beside [] [] rest a n e h = absurd (omega arith)
entries_beside [] (x ∷ arrays) rest zero n e h = let z : n + zero ≡ zero = omega arith in rw z refl
entries_beside [] (x ∷ arrays) rest (suc a) n e h = let z : n + suc a ≡ suc (0 + a) = omega arith in rw z (entries_beside [] arrays rest a 0 refl (omega arith))
entries_beside (y ∷ front) arrays rest a zero e h = absurd (omega arith)
entries_beside (y ∷ front) arrays rest a (suc n) e h = let z : suc n + a ≡ suc (n + a) = omega arith in rw z (entries_beside front arrays rest a n (omega arith) h)

among_from : (front : List Array) (base : ℕ) (ps : List Program) → length front ≡ base → AllAmong (front ++ all_arrays ps) base ps
among_from front base [] e = tt
among_from front base (p ∷ ps) e =
    let P : List Array → Type 0 = λ all. AllAmong all (base + length p.arrays) ps in (
      record { cells = λ a h. cells_beside front p.arrays (all_arrays ps) a base e h; entries = λ a h. entries_beside front p.arrays (all_arrays ps) a base e h },
      subst P (append_assoc front p.arrays (all_arrays ps)) (among_from (front ++ p.arrays) (base + length p.arrays) ps (length-append front p.arrays ∙ ap (λ (n : ℕ). n + length p.arrays) e)),
    )

pub all_among : (ps : List Program) → AllAmong (all_arrays ps) 0 ps
all_among ps = among_from [] 0 ps refl

both_end : {A B C D : Type 0} (R : A → B → Type 0) (o : Option A) (p : Option B) (f : A → Option C) (g : B → Option D) (h : C → D) → Both R o p
    → ((a : A) (b : B) → R a b → g b ≡ option_map h (f a)) → option_and_then g p ≡ option_map h (option_and_then f o)
both_end R None None f g h r k = refl
both_end R None (Some b) f g h r k = elim r [ ]
both_end R (Some a) None f g h r k = elim r [ ]
both_end R (Some a) (Some b) f g h r k = k a b r

at_below : (ps : List Program) (q : ℕ) (p : Program) → IsAt ps q p → q < length ps
at_below [] q p h = elim h [ ]
at_below (x ∷ ps) zero p h = omega arith
at_below (x ∷ ps) (suc q) p h = let e = at_below ps q p h in omega arith

-- the verdict of the last stage
last_verdict : (ps : List Program) (q : ℕ) (p : Program) (front rest : Registers) (t s u : State) (o : Option ℤ) → AllFine (selector_of ps) ps → OneChosen (selector_of ps + 1) (length ps) q u.words
    → u.registers ≡ front ++ (s.registers ++ rest) → s.words p.verdict ≡ o → OneReads (first_free ps) ps q o u.words
    → option_and_then (ends (last_free ps + length ps)) (exec_stages (all_arrays ps) (last_stage ps ∷ []) u) ≡ option_map (between front rest) (ends p.verdict s)
last_verdict ps q p front rest t s u None fine one e v r =
    let last : ℕ = last_free ps in
    let vs : Words = put u.words last (pos 0) in
    let none = joined_missing last (selector_of ps) (first_free ps) (selector_of ps + 1) last q ps u.words vs (pos 0) fine (omega arith) (omega arith) (omega arith) (omega arith)
    (λ w h. assigned_other u.words last (pos 0) w (omega arith)) one r (assigned_same u.words last (pos 0) last refl) in
    rw (none, v) refl
last_verdict ps q p front rest t s u (Some x) fine one e v r =
    let last : ℕ = last_free ps in
    let vs : Words = put u.words last (pos 0) in
    let some = joined_one last (selector_of ps) (first_free ps) (selector_of ps + 1) last q ps u.words vs (pos 0) x fine (omega arith) (omega arith) (omega arith) (omega arith)
    (λ w h. assigned_other u.words last (pos 0) w (omega arith)) one r (assigned_same u.words last (pos 0) last refl) in
    ended last (length ps) x (exec_ops (joined (first_free ps) (selector_of ps + 1) last ps) vs) some.value some.is some.holds u s e v
  where
    ended : (last many : ℕ) (x : ℤ) (o : Option Words) (us : Words) → o ≡ Some us → us (last + many) ≡ Some x → (u s : State) → u.registers ≡ front ++ (s.registers ++ rest) → s.words p.verdict ≡ Some x
        → option_and_then (ends (last + many)) (option_and_then (λ (w : State). Some w) (option_and_then (λ (ws : Words). Some (record { words = ws; registers = u.registers })) o)) ≡ option_map (between front rest) (ends p.verdict s)
    ended last many x o us eo ex u s e v = rw (eo, ex, v, e) refl

pub packed_steps : (ps : List Program) (q : ℕ) (p : Program) → AllUnbroken ps → IsAt ps q p → (front own rest : Registers) (row : List ℤ) → length front ≡ get_or (bases_from 0 ps) q 0 → length own ≡ length p.arrays
    → get_or row (selector_of ps) (pos 0) ≡ pos q → machine (packed ps) (front ++ (own ++ rest)) row ≡ option_map (between front rest) (machine p own row)
unfolding packed
packed_steps ps q p unbroken at front own rest row lf lo selected =
    let width : ℕ = selector_of ps in
    let free : ℕ = first_free ps in
    let all : List Array = all_arrays ps in
    let t0 : State = record { words = given (width + 1) row; registers = front ++ (own ++ rest) } in
    let sel : given (width + 1) row width ≡ Some (pos q) = given_sel width row q selected in
    let first = compared_has width (width + 1) 0 ps (pos q) t0.words (omega arith) sel in
    let t : State = record { words = first.value; registers = t0.registers } in
    let c = first.holds in
    let below = at_below ps q p at in
    let fine = all_fine width ps (omega arith) unbroken in
    let one : OneChosen (width + 1) (length ps) q t.words = one_chosen (width + 1) (length ps) q t0.words t.words below c in
    let row_is : HasRow width row t.words = record { word = λ w h. c.below w (omega arith) ∙ given_low (width + 1) w row (omega arith) } in
    let fresh : (w : ℕ) → free ≤ w → t.words w ≡ None = λ w h. c.above w (omega arith) ∙ given_high (width + 1) w row (omega arith) in
    let goes = plans_run all width free 0 (width + 1) q row ps p front own rest t fine (all_among ps) (omega arith) (omega arith) row_is fresh at one refl lf lo in
    let runs : exec_stages all (packed_stages ps) t0 ≡ option_and_then (exec_stages all (last_stage ps ∷ [])) (exec_stages all (all_moved free 0 (width + 1) ps) t) =
    ap (λ (o : Option Words). option_and_then (exec_stages all (all_moved free 0 (width + 1) ps ++ last_stage ps ∷ [])) (option_and_then (λ ws. Some (record { words = ws; registers = t0.registers })) o)) first.is
    ∙ exec_append all (all_moved free 0 (width + 1) ps) (last_stage ps ∷ []) t in
    ap (option_and_then (ends (last_free ps + length ps))) runs
    ∙ (assoc (exec_stages all (all_moved free 0 (width + 1) ps) t) (exec_stages all (last_stage ps ∷ [])) (ends (last_free ps + length ps))
    ∙ both_end (Ended free ps q p front rest t) (exec_stages p.arrays p.stages (record { words = given p.width row; registers = own })) (exec_stages all (all_moved free 0 (width + 1) ps) t)
    (ends p.verdict) (λ u. option_and_then (ends (last_free ps + length ps)) (exec_stages all (last_stage ps ∷ []) u)) (between front rest) goes
    (λ s u r. last_verdict ps q p front rest t s u (s.words p.verdict) fine
    (record { yes = r.below (width + 1 + q) (omega arith) ∙ one.yes; no = λ i h d. r.below (width + 1 + i) (omega arith) ∙ one.no i h d }) r.registers refl r.reads))
  where
    given_low : (width w : ℕ) (row : List ℤ) → w < width → given width row w ≡ Some (get_or row w (pos 0))
    given_low width w row h = rw (lt-ltb w width h) refl

    given_high : (width w : ℕ) (row : List ℤ) → width ≤ w → given width row w ≡ None
    given_high width w row h = rw (le-ltb w width h) refl

    given_sel : (width : ℕ) (row : List ℤ) (q : ℕ) → get_or row width (pos 0) ≡ pos q → given (width + 1) row width ≡ Some (pos q)
    given_sel width row q e = rw (lt-ltb width (width + 1) (omega arith), e) refl

    assoc : {A B C : Type 0} (o : Option A) (f : A → Option B) (g : B → Option C) → option_and_then g (option_and_then f o) ≡ option_and_then (λ a. option_and_then g (f a)) o
    assoc None f g = refl
    assoc (Some a) f g = refl

got_at : (ps : List Program) (q : ℕ) (p : Program) → slice_get ps q ≡ Some p → IsAt ps q p
got_at [] q p h = cc
got_at (x ∷ ps) zero p h = cc
got_at (x ∷ ps) (suc q) p h = got_at ps q p h

pub packed_packs : (ps : List Program) → AllUnbroken ps → Packs ps (packed ps) (selector_of ps) (bases_from 0 ps)
packed_packs ps unbroken = record {
  steps = λ q alone h front own rest row lf lo selected. packed_steps ps q alone unbroken (got_at ps q alone h) front own rest row lf lo selected;
}
