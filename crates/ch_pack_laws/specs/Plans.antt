-- The stages of all programs in turn: those of the selected one do what it does alone, and the others change nothing that
-- it or the verdict reads.
use Rattle.std.proofs.Common.{◌≡◌, ◌≢◌, ◌<◌, ◌≤◌, ℕ, zero, suc, ◌+◌, true, false, List, [], ◌∷◌, ◌++◌, ℤ, pos, refl, sym, ◌∙◌, ap, arith, inl, inr, subst, Option, Some, None, length, get_or, is_some}
use Rattle.std.specs.Option.{option_and_then}
use Rattle.std.proofs.lemmas.Bool.{cases_lt, lt-ltb, le-ltb}
use Rattle.ch_ir.specs.declared.program.Array.{Array}
use Rattle.ch_ir.specs.declared.program.Stage.{Stage}
use Rattle.ch_ir.specs.declared.program.Program.{Program}
use Rattle.ch_ir.specs.Machine.{Words, Registers, State, exec_stage, exec_stages, given}
use Rattle.ch_ir.specs.Measure.{words_of}
use Rattle.ch_ir.specs.Rules.{inputs, none_used}
use Rattle.ch_pack_laws.specs.declared.Seat.{Seat}
use Rattle.ch_pack_laws.specs.Packed.{all_moved, free_after, free_after_all, moved_stages, moved_word, seat_of, bases_from}
use Rattle.ch_pack_laws.specs.Moved.{Both, Mirrors, moved_high, moved_low}
use Rattle.ch_pack_laws.specs.Right.{Right}
use Rattle.ch_pack_laws.specs.Selected.{Beside, Sits}
use Rattle.ch_pack_laws.specs.SelectedStages.{AreAmong, stages_follow, then_assoc}
use Rattle.ch_pack_laws.specs.Shut.{Between, Has, IsThere, Knows, ShutState, Waits, some_of, stages_shut}

then_same : {A B : Type 0} (o : Option A) (f g : A → Option B) → ((a : A) → f a ≡ g a) → option_and_then f o ≡ option_and_then g o
then_same None f g h = refl
then_same (Some a) f g h = h a

pub exec_append : (all : List Array) (xs ys : List Stage) (t : State) → exec_stages all (xs ++ ys) t ≡ option_and_then (exec_stages all ys) (exec_stages all xs t)
exec_append all [] ys t = refl
exec_append all (x ∷ xs) ys t =
    then_same (exec_stage all x t) (exec_stages all (xs ++ ys)) (λ u. option_and_then (exec_stages all ys) (exec_stages all xs u)) (λ u. exec_append all xs ys u)
    ∙ then_assoc (exec_stage all x t) (exec_stages all xs) (exec_stages all ys)

-- programs that break no rule, with at most so many given words
pub record Fine (width : ℕ) (p : Program) : Type 0 where
  pub right : Right p
  pub narrow : p.width ≤ width

abbrev pub AllFine : ℕ → List Program → Type 0
AllFine width [] = Unit {0}
AllFine width (p ∷ ps) = Fine width p × AllFine width ps

-- their arrays stand one after another among all
abbrev pub AllAmong : List Array → ℕ → List Program → Type 0
AllAmong all base [] = Unit {0}
AllAmong all base (p ∷ ps) = AreAmong all p.arrays base × AllAmong all (base + length p.arrays) ps

-- where the verdict of a program stands
abbrev pub verdict_word : ℕ → Program → ℕ
verdict_word free p = moved_word (seat_of p free 0 0) p.verdict

pub verdict_low : (free : ℕ) (p : Program) → p.width ≤ free → verdict_word free p < free_after free p
verdict_low free p n = elim (cases_lt p.verdict p.width) [
  | inl a ↦ let e : verdict_word free p ≡ p.verdict = moved_low (seat_of p free 0 0) p.verdict a in omega arith
  | inr a ↦ let e : verdict_word free p ≡ p.verdict + (free + length p.stages) = moved_high (seat_of p free 0 0) p.verdict a in omega arith
]

pub verdict_anywhere : (free base chosen : ℕ) (p : Program) → moved_word (seat_of p free base chosen) p.verdict ≡ verdict_word free p
unfolding moved_word
verdict_anywhere free base chosen p = refl

-- each verdict has a value
abbrev pub AllRead : ℕ → List Program → Words → Type 0
AllRead free [] vs = Unit {0}
AllRead free (p ∷ ps) vs = IsThere (vs (verdict_word free p)) × AllRead (free_after free p) ps vs

-- so has each but one, and that is this
abbrev pub OneReads : ℕ → List Program → ℕ → Option ℤ → Words → Type 0
OneReads free [] q o vs = ⊥
OneReads free (p ∷ ps) zero o vs = (vs (verdict_word free p) ≡ o) × AllRead (free_after free p) ps vs
OneReads free (p ∷ ps) (suc q) o vs = IsThere (vs (verdict_word free p)) × OneReads (free_after free p) ps q o vs

-- the words of a row
pub record HasRow (width : ℕ) (row : List ℤ) (vs : Words) : Type 0 where
  pub word : (w : ℕ) → w < width → vs w ≡ Some (get_or row w (pos 0))

-- none of the programs is selected
pub record NoneChosen (chosen many : ℕ) (vs : Words) : Type 0 where
  pub zeros : (i : ℕ) → i < many → vs (chosen + i) ≡ Some (pos 0)

-- one is
pub record OneChosen (chosen many q : ℕ) (vs : Words) : Type 0 where
  pub yes : vs (chosen + q) ≡ Some (pos 1)
  pub no : (i : ℕ) → i < many → i ≢ q → vs (chosen + i) ≡ Some (pos 0)

pub free_grows : (free : ℕ) (ps : List Program) → free ≤ free_after_all free ps
free_grows free [] = omega arith
free_grows free (p ∷ ps) = let e = free_grows (free_after free p) ps in omega arith

-- what the stages of programs that aren't selected leave
pub record Passed (free : ℕ) (ps : List Program) (t u : State) : Type 0 where
  pub registers : u.registers ≡ t.registers
  pub between : Between free (free_after_all free ps) t.words u.words
  pub reads : AllRead free ps u.words

input_known : (width w : ℕ) → is_some (inputs width w) ≡ true → w < width
input_known width w h = elim (cases_lt w width) [
  | inl a ↦ a
  | inr a ↦ absurd (let e = le-ltb w width a in none_is (rw e at h))
]
  where
    none_is : false ≡ true → ⊥
    none_is e = cc

inputs_known : (m : Seat) (width : ℕ) (row : List ℤ) (vs : Words) → m.width ≤ width → HasRow width row vs → Knows m (inputs m.width) vs
inputs_known m width row vs n r = record {
  there = λ w h.
      let low = input_known m.width w h in
      let is : vs (moved_word m w) ≡ Some (get_or row w (pos 0)) = ap vs (moved_low m w low) ∙ r.word w (omega arith) in
      ap is_some is;
}

pub program_shut : (all : List Array) (width free base chosen : ℕ) (row : List ℤ) (p : Program) (t : State) → Fine width p → AreAmong all p.arrays base → width ≤ free → chosen < free → HasRow width row t.words
    → t.words chosen ≡ Some (pos 0) → Has (Passed free (p ∷ []) t) (exec_stages all (moved_stages (seat_of p free base chosen) free p.stages) t)
program_shut all width free base chosen row p t fine among l c r z =
    let m : Seat = seat_of p free base chosen in
    let n = fine.narrow in
    let begun : ShutState m free (free_after free p) t.words t.registers (inputs p.width) t = record {
      words = record { knows = inputs_known m width row t.words n r; between = record { below = λ w h. refl; above = λ w h. refl } };
      registers_same = refl;
    } in
    let waits : Waits m free (free_after free p) (words_of p) t.words = record { seat = omega arith; low_width = omega arith; low_shift = omega arith; room = omega arith; chosen_low = c; chosen = z } in
    let ends = stages_shut m all p.arrays 0 free (free_after free p) (words_of p) free t.words t.registers none_used (inputs p.width) p.stages t waits among (omega arith) (omega arith) fine.right.rooms fine.right.stages begun in
    record {
      value = ends.value;
      is = ends.is;
      holds = record {
        registers = ends.holds.registers_same;
        between = ends.holds.words.between;
        reads = (some_of (ends.value.words (verdict_word free p)) (ap (λ (w : ℕ). is_some (ends.value.words w)) (sym (verdict_anywhere free base chosen p)) ∙ ends.holds.words.knows.there p.verdict fine.right.verdict), tt);
      };
    }

row_later : (width free : ℕ) (row : List ℤ) (vs us : Words) → width ≤ free → ((w : ℕ) → w < free → us w ≡ vs w) → HasRow width row vs → HasRow width row us
row_later width free row vs us l same r = record { word = λ w h. same w (omega arith) ∙ r.word w h }

there_later : (vs us : Words) (w : ℕ) → us w ≡ vs w → IsThere (vs w) → IsThere (us w)
there_later vs us w e (v, h) = (v, e ∙ h)

pub plans_shut : (all : List Array) (width free base chosen : ℕ) (row : List ℤ) (ps : List Program) (t : State) → AllFine width ps → AllAmong all base ps → width ≤ free → chosen + length ps ≤ free
    → HasRow width row t.words → NoneChosen chosen (length ps) t.words → Has (Passed free ps t) (exec_stages all (all_moved free base chosen ps) t)
plans_shut all width free base chosen row [] t fine among l c r z =
    record { value = t; is = refl; holds = record { registers = refl; between = record { below = λ w h. refl; above = λ w h. refl }; reads = tt } }
plans_shut all width free base chosen row (p ∷ ps) t fine among l c r z =
    let next : ℕ = free_after free p in
    let zero_is : chosen + 0 ≡ chosen = omega arith in
    let first = program_shut all width free base chosen row p t fine.0 among.0 l (omega arith) r (ap t.words (sym zero_is) ∙ z.zeros 0 (omega arith)) in
    let u : State = first.value in
    let kept = first.holds.between.below in
    let later : NoneChosen (chosen + 1) (length ps) u.words = record {
      zeros = λ i h. let e : chosen + 1 + i ≡ chosen + suc i = omega arith in kept (chosen + 1 + i) (omega arith) ∙ (ap t.words e ∙ z.zeros (suc i) (omega arith));
    } in
    let second = plans_shut all width next (base + length p.arrays) (chosen + 1) row ps u fine.1 among.1 (omega arith) (omega arith) (row_later width free row t.words u.words l kept r) later in
    let n = fine.0.narrow in
    let low = verdict_low free p (omega arith) in
    let grows = free_grows next ps in
    let e = first.is in
    record {
      value = second.value;
      is = exec_append all (moved_stages (seat_of p free base chosen) free p.stages) (all_moved next (base + length p.arrays) (chosen + 1) ps) t ∙ rw e second.is;
      holds = record {
        registers = second.holds.registers ∙ first.holds.registers;
        between = record {
          below = λ w h. second.holds.between.below w (omega arith) ∙ kept w h;
          above = λ w h. second.holds.between.above w h ∙ first.holds.between.above w (omega arith);
        };
        reads = (there_later u.words second.value.words (verdict_word free p) (second.holds.between.below (verdict_word free p) low) first.holds.reads.0, second.holds.reads);
      };
    }

-- The selected program among the others

abbrev pub IsAt : List Program → ℕ → Program → Type 0
IsAt [] q chosen = ⊥
IsAt (p ∷ ps) zero chosen = p ≡ chosen
IsAt (p ∷ ps) (suc q) chosen = IsAt ps q chosen

-- what all stages leave, beside what the selected program leaves alone
pub record Ended (free : ℕ) (ps : List Program) (q : ℕ) (p : Program) (front rest : Registers) (t s u : State) : Type 0 where
  pub registers : u.registers ≡ front ++ (s.registers ++ rest)
  pub below : (w : ℕ) → w < free → u.words w ≡ t.words w
  pub reads : OneReads free ps q (s.words p.verdict) u.words

both_has : {A B D : Type 0} (R : A → B → Type 0) (Q : A → D → Type 0) (o : Option A) (p : Option B) (g : B → Option D) → Both R o p → ((a : A) (b : B) → R a b → Has (Q a) (g b)) → Both Q o (option_and_then g p)
both_has R Q None None g h k = tt
both_has R Q None (Some b) g h k = elim h [ ]
both_has R Q (Some a) None g h k = elim h [ ]
both_has R Q (Some a) (Some b) g h k = let x = k a b h in let e = x.is in rw e x.holds

given_in : (width w : ℕ) (row : List ℤ) → w < width → given width row w ≡ Some (get_or row w (pos 0))
given_in width w row h = rw (lt-ltb w width h) refl

given_past : (width w : ℕ) (row : List ℤ) → width ≤ w → given width row w ≡ None
given_past width w row h = rw (le-ltb w width h) refl

begins : (m : Seat) (width free : ℕ) (row : List ℤ) (vs : Words) → m.width ≤ width → free ≤ m.shift → HasRow width row vs → ((w : ℕ) → free ≤ w → vs w ≡ None) → Mirrors m (given m.width row) vs
begins m width free row vs n l r fresh = record {
  same = λ w. elim (cases_lt w m.width) [
    | inl a ↦ ap vs (moved_low m w a) ∙ (r.word w (omega arith) ∙ sym (given_in m.width w row a))
    | inr a ↦ ap vs (moved_high m w a) ∙ (fresh (w + m.shift) (omega arith) ∙ sym (given_past m.width w row a))
  ];
}

pub plans_run : (all : List Array) (width free base chosen q : ℕ) (row : List ℤ) (ps : List Program) (p : Program) (front own rest : Registers) (t : State)
    → AllFine width ps → AllAmong all base ps → width ≤ free → chosen + length ps ≤ free → HasRow width row t.words → ((w : ℕ) → free ≤ w → t.words w ≡ None)
    → IsAt ps q p → OneChosen chosen (length ps) q t.words → t.registers ≡ front ++ (own ++ rest) → length front ≡ get_or (bases_from base ps) q 0 → length own ≡ length p.arrays
    → Both (Ended free ps q p front rest t) (exec_stages p.arrays p.stages (record { words = given p.width row; registers = own })) (exec_stages all (all_moved free base chosen ps) t)
plans_run all width free base chosen q row [] p front own rest t fine among l c r fresh at one e lf lo = elim at [ ]
plans_run all width free base chosen zero row (x ∷ ps) p front own rest t fine among l c r fresh at one e lf lo =
    let P : Program → Type 0 = λ y. length own ≡ length y.arrays → Both (Ended free (x ∷ ps) 0 y front rest t) (exec_stages y.arrays y.stages (record { words = given y.width row; registers = own })) (exec_stages all (all_moved free base chosen (x ∷ ps)) t) in
    subst P at (selected_first all width free base chosen row x ps front own rest t fine among l c r fresh one e lf) lo
  where
    selected_first : (all : List Array) (width free base chosen : ℕ) (row : List ℤ) (x : Program) (ps : List Program) (front own rest : Registers) (t : State)
        → AllFine width (x ∷ ps) → AllAmong all base (x ∷ ps) → width ≤ free → chosen + length (x ∷ ps) ≤ free → HasRow width row t.words → ((w : ℕ) → free ≤ w → t.words w ≡ None)
        → OneChosen chosen (length (x ∷ ps)) 0 t.words → t.registers ≡ front ++ (own ++ rest) → length front ≡ base → length own ≡ length x.arrays
        → Both (Ended free (x ∷ ps) 0 x front rest t) (exec_stages x.arrays x.stages (record { words = given x.width row; registers = own })) (exec_stages all (all_moved free base chosen (x ∷ ps)) t)
    selected_first all width free base chosen row x ps front own rest t fine among l c r fresh one e lf lo =
        let m : Seat = seat_of x free base chosen in
        let n = fine.0.narrow in
        let next : ℕ = free_after free x in
        let s : State = record { words = given x.width row; registers = own } in
        let zero_is : chosen + 0 ≡ chosen = omega arith in
        let sits : Sits m front free t.words = record { seat = omega arith; low_shift = omega arith; base = lf; chosen_low = omega arith; chosen = ap t.words (sym zero_is) ∙ one.yes } in
        let begun : Beside m front rest (length x.arrays) free t.words s t = record {
          along = record { mirrors = begins m width free row t.words n (omega arith) r fresh; kept = λ w h. refl };
          registers = e;
          many_own = lo;
        } in
        let goes = stages_follow m front rest all x.arrays (words_of x) free t.words free x.stages s t sits among.0 (omega arith) (omega arith) (omega arith) fine.0.right.rooms begun in
        let Q : State → State → Type 0 = Ended free (x ∷ ps) 0 x front rest t in
        let others : List Stage = all_moved next (base + length x.arrays) (chosen + 1) ps in
        let S : Option State → Type 0 = λ o. Both Q (exec_stages x.arrays x.stages s) o in
        subst S (sym (exec_append all (moved_stages m free x.stages) others t))
        (both_has (Beside m front rest (length x.arrays) free t.words) Q (exec_stages x.arrays x.stages s) (exec_stages all (moved_stages m free x.stages) t) (exec_stages all others) goes
        (λ a u b.
        let later : NoneChosen (chosen + 1) (length ps) u.words = record {
          zeros = λ i h. let k : chosen + 1 + i ≡ chosen + suc i = omega arith in b.along.kept (chosen + 1 + i) (omega arith) ∙ (ap t.words k ∙ one.no (suc i) (omega arith) (omega arith));
        } in
        let second = plans_shut all width next (base + length x.arrays) (chosen + 1) row ps u fine.1 among.1 (omega arith) (omega arith) (row_later width free row t.words u.words l b.along.kept r) later in
        let low = verdict_low free x (omega arith) in
        record {
          value = second.value;
          is = second.is;
          holds = record {
            registers = second.holds.registers ∙ b.registers;
            below = λ w h. second.holds.between.below w (omega arith) ∙ b.along.kept w h;
            reads = (second.holds.between.below (verdict_word free x) low ∙ (ap u.words (sym (verdict_anywhere free base chosen x)) ∙ b.along.mirrors.same x.verdict), second.holds.reads);
          };
        }))
plans_run all width free base chosen (suc q) row (x ∷ ps) p front own rest t fine among l c r fresh at one e lf lo =
    let next : ℕ = free_after free x in
    let zero_is : chosen + 0 ≡ chosen = omega arith in
    let shut = program_shut all width free base chosen row x t fine.0 among.0 l (omega arith) r (ap t.words (sym zero_is) ∙ one.no 0 (omega arith) (omega arith)) in
    let u : State = shut.value in
    let kept = shut.holds.between.below in
    let yes_is : chosen + 1 + q ≡ chosen + suc q = omega arith in
    let many = at_many ps q p at in
    let later : OneChosen (chosen + 1) (length ps) q u.words = record {
      yes = kept (chosen + 1 + q) (omega arith) ∙ (ap t.words yes_is ∙ one.yes);
      no = λ i h d. let k : chosen + 1 + i ≡ chosen + suc i = omega arith in kept (chosen + 1 + i) (omega arith) ∙ (ap t.words k ∙ one.no (suc i) (omega arith) (omega arith));
    } in
    let goes = plans_run all width next (base + length x.arrays) (chosen + 1) q row ps p front own rest u fine.1 among.1 (omega arith) (omega arith) (row_later width free row t.words u.words l kept r)
    (λ w h. shut.holds.between.above w h ∙ fresh w (omega arith)) at later (shut.holds.registers ∙ e) lf lo in
    let others : List Stage = all_moved next (base + length x.arrays) (chosen + 1) ps in
    let begun : State = record { words = given p.width row; registers = own } in
    let S : Option State → Type 0 = λ o. Both (Ended free (x ∷ ps) (suc q) p front rest t) (exec_stages p.arrays p.stages begun) o in
    let is : exec_stages all (all_moved free base chosen (x ∷ ps)) t ≡ exec_stages all others u =
    exec_append all (moved_stages (seat_of x free base chosen) free x.stages) others t ∙ ap (option_and_then (exec_stages all others)) shut.is in
    let n = fine.0.narrow in
    let low = verdict_low free x (omega arith) in
    subst S (sym is)
    (both_more (Ended next ps q p front rest u) (Ended free (x ∷ ps) (suc q) p front rest t) (exec_stages p.arrays p.stages begun) (exec_stages all others u) goes
    (λ a v b. record {
      registers = b.registers;
      below = λ w h. b.below w (omega arith) ∙ kept w h;
      reads = (there_later u.words v.words (verdict_word free x) (b.below (verdict_word free x) low) shut.holds.reads.0, b.reads);
    }))
  where
    at_many : (ps : List Program) (q : ℕ) (p : Program) → IsAt ps q p → q < length ps
    at_many [] q p h = elim h [ ]
    at_many (x ∷ ps) zero p h = omega arith
    at_many (x ∷ ps) (suc q) p h = let e = at_many ps q p h in omega arith

    both_more : {A B : Type 0} (R S : A → B → Type 0) (o : Option A) (p : Option B) → Both R o p → ((a : A) (b : B) → R a b → S a b) → Both S o p
    both_more R S None None h k = tt
    both_more R S None (Some b) h k = elim h [ ]
    both_more R S (Some a) None h k = elim h [ ]
    both_more R S (Some a) (Some b) h k = k a b h
