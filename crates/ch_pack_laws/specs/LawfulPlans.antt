-- The packed program breaks no rule.
use Rattle.std.proofs.Common.{◌≡◌, ◌<◌, ◌≤◌, ℕ, zero, suc, ◌+◌, true, false, List, [], ◌∷◌, ◌++◌, pos, refl, sym, ◌∙◌, ap, arith, inl, inr, subst, Option, Some, None, length, is_some}
use Rattle.std.proofs.lemmas.Bool.{cases_lt, lt-ltb, le-ltb}
use Rattle.ch_ir.specs.declared.program.Array.{Array}
use Rattle.ch_ir.specs.declared.program.Op.{Op}
use Rattle.ch_ir.specs.declared.program.Op.TheVariants.{Set, Pick}
use Rattle.ch_ir.specs.declared.program.Operand.TheVariants.{Word, Const}
use Rattle.ch_ir.specs.declared.program.Stage.{Stage}
use Rattle.ch_ir.specs.declared.program.Program.{Program}
use Rattle.ch_ir.specs.declared.rules.Interval.{Interval}
use Rattle.ch_ir.specs.declared.rules.Refused.{Refused}
use Rattle.ch_ir.specs.Machine.{op_to}
use Rattle.ch_ir.specs.Measure.{words_of}
use Rattle.ch_ir.specs.Rules.{BreaksNoRule, Known, Used, after_ops, after_stage, after_stages, flag, inputs, learn, none_used, op_interval, op_refusal, ops_refusal, or_else, rule_refusal, stage_refusal, stages_refusal, whole, with_arrays}
use Rattle.ch_pack_laws.specs.declared.Seat.{Seat}
use Rattle.ch_pack_laws.specs.Packed.{all_arrays, all_moved, compared, first_free, free_after, free_after_all, joined, last_free, last_stage, moved_stages, moved_word, only_ops, packed, packed_stages, seat_of, selector_of}
use Rattle.ch_pack_laws.specs.Moved.{assigned_other, assigned_same, moved_high, moved_low}
use Rattle.ch_pack_laws.specs.Right.{or_none}
use Rattle.ch_pack_laws.specs.SelectedStages.{AreAmong}
use Rattle.ch_pack_laws.specs.Plans.{AllAmong, AllFine, Fine, free_grows, verdict_anywhere, verdict_low, verdict_word}
use Rattle.ch_pack_laws.specs.Lawful.{Beneath, Lawful, Orders, UsedAmong, stages_lawful, taken_by}
use Rattle.ch_pack_laws.specs.Steps.{AllUnbroken, all_among, all_fine}

-- each verdict is known
abbrev pub AllKnown : ℕ → List Program → Known → Type 0
AllKnown free [] ks = Unit {0}
AllKnown free (p ∷ ps) ks = (is_some (ks (verdict_word free p)) ≡ true) × AllKnown (free_after free p) ps ks

-- the words of rows are known
pub record KnowsRow (width : ℕ) (ks : Known) : Type 0 where
  pub word : (w : ℕ) → w < width → ks w ≡ Some whole

pub record KnowsChosen (chosen many : ℕ) (ks : Known) : Type 0 where
  pub told : (i : ℕ) → i < many → is_some (ks (chosen + i)) ≡ true

pub record AllLawful (all : List Array) (free high : ℕ) (base : ℕ) (ks : Known) (taken : Used) (stages : List Stage) : Type 0 where
  pub refusal : (n : ℕ) → stages_refusal all n taken ks stages ≡ None
  pub below : (w : ℕ) → w < free → after_stages all stages ks w ≡ ks w
  pub above : (w : ℕ) → high ≤ w → after_stages all stages ks w ≡ None
  pub unused : (b : ℕ) → base ≤ b → taken_by taken stages b ≡ false

input_low : (width w : ℕ) → w < width → inputs width w ≡ Some whole
input_low width w h = rw (lt-ltb w width h) refl

input_high : (width w : ℕ) → width ≤ w → inputs width w ≡ None
input_high width w h = rw (le-ltb w width h) refl

program_lawful : (all : List Array) (width free base chosen : ℕ) (p : Program) (ks : Known) (taken : Used) → Fine width p → AreAmong all p.arrays base → width ≤ free → chosen < free
    → KnowsRow width ks → is_some (ks chosen) ≡ true → ((w : ℕ) → free ≤ w → ks w ≡ None) → ((b : ℕ) → base ≤ b → taken b ≡ false)
    → Lawful (seat_of p free base chosen) all free (free + length p.stages) (free_after free p) (length p.arrays) ks (after_stages p.arrays p.stages (inputs p.width)) ks (taken_by none_used p.stages) taken
    (moved_stages (seat_of p free base chosen) free p.stages)
program_lawful all width free base chosen p ks taken fine among l c r k fresh unused =
    let m : Seat = seat_of p free base chosen in
    let n = fine.narrow in
    let orders : Orders m free (free_after free p) (words_of p) ks = record { seat = omega arith; low_width = omega arith; low_shift = omega arith; room = omega arith; chosen_low = c; chosen = k } in
    let begun : Beneath m free free (free_after free p) ks (inputs p.width) ks = record {
      mirrors = record {
        same = λ w. elim (cases_lt w p.width) [
          | inl a ↦ ap ks (moved_low m w a) ∙ (r.word w (omega arith) ∙ sym (input_low p.width w a))
          | inr a ↦ ap ks (moved_high m w a) ∙ (fresh (w + m.shift) (omega arith) ∙ sym (input_high p.width w a))
        ];
      };
      below = λ w h. refl;
      guards = λ w h x. fresh w h;
      above = λ w h. fresh w (omega arith);
    } in
    let used : UsedAmong base (length p.arrays) none_used taken = record { same = λ a. unused (base + a) (omega arith); later = λ b h. unused b (omega arith) } in
    stages_lawful m all p.arrays 0 free free (free_after free p) (words_of p) ks (inputs p.width) ks none_used taken p.stages orders among (omega arith) (omega arith) fine.right.rooms fine.right.stages begun used

-- stages one after another

or_assoc : (f g h : Option Refused) → f ≡ None → or_else g h ≡ None → or_else (or_else f g) h ≡ None
or_assoc f g h e k = rw e k

stages_append : (all : List Array) (n : ℕ) (taken : Used) (ks : Known) (xs ys : List Stage) → stages_refusal all n taken ks xs ≡ None
    → ((k : ℕ) → stages_refusal all k (taken_by taken xs) (after_stages all xs ks) ys ≡ None) → stages_refusal all n taken ks (xs ++ ys) ≡ None
stages_append all n taken ks [] ys h k = k n
stages_append all n taken ks (x ∷ xs) ys h k =
    let parts = or_none (stage_refusal all n taken ks x) (stages_refusal all (n + 1) (with_arrays taken x.accesses) (after_stage all x ks) xs) h in
    let first = parts.0 in
    let rest = stages_append all (n + 1) (with_arrays taken x.accesses) (after_stage all x ks) xs ys parts.1 k in
    joined_none (stage_refusal all n taken ks x) (stages_refusal all (n + 1) (with_arrays taken x.accesses) (after_stage all x ks) (xs ++ ys)) first rest
  where
    joined_none : (f g : Option Refused) → f ≡ None → g ≡ None → or_else f g ≡ None
    joined_none f g e h = rw e h

after_append : (all : List Array) (xs ys : List Stage) (ks : Known) → after_stages all (xs ++ ys) ks ≡ after_stages all ys (after_stages all xs ks)
after_append all [] ys ks = refl
after_append all (x ∷ xs) ys ks = after_append all xs ys (after_stage all x ks)

taken_append : (xs ys : List Stage) (taken : Used) → taken_by taken (xs ++ ys) ≡ taken_by (taken_by taken xs) ys
taken_append [] ys taken = refl
taken_append (x ∷ xs) ys taken = taken_append xs ys (with_arrays taken x.accesses)

-- all programs in turn
pub record PlansLawful (all : List Array) (free : ℕ) (ps : List Program) (ks : Known) (taken : Used) (stages : List Stage) : Type 0 where
  pub refusal : (n : ℕ) → stages_refusal all n taken ks stages ≡ None
  pub below : (w : ℕ) → w < free → after_stages all stages ks w ≡ ks w
  pub above : (w : ℕ) → free_after_all free ps ≤ w → after_stages all stages ks w ≡ None
  pub verdicts : AllKnown free ps (after_stages all stages ks)

pub plans_lawful : (all : List Array) (width free base chosen : ℕ) (ps : List Program) (ks : Known) (taken : Used) → AllFine width ps → AllAmong all base ps → width ≤ free → chosen + length ps ≤ free
    → KnowsRow width ks → KnowsChosen chosen (length ps) ks → ((w : ℕ) → free ≤ w → ks w ≡ None) → ((b : ℕ) → base ≤ b → taken b ≡ false)
    → PlansLawful all free ps ks taken (all_moved free base chosen ps)
plans_lawful all width free base chosen [] ks taken fine among l c r z fresh unused = record { refusal = λ n. refl; below = λ w h. refl; above = λ w h. fresh w h; verdicts = tt }
plans_lawful all width free base chosen (p ∷ ps) ks taken fine among l c r z fresh unused =
    let m : Seat = seat_of p free base chosen in
    let next : ℕ = free_after free p in
    let mine : List Stage = moved_stages m free p.stages in
    let others : List Stage = all_moved next (base + length p.arrays) (chosen + 1) ps in
    let zero_is : chosen + 0 ≡ chosen = omega arith in
    let first = program_lawful all width free base chosen p ks taken fine.0 among.0 l (omega arith) r (ap (λ (w : ℕ). is_some (ks w)) (sym zero_is) ∙ z.told 0 (omega arith)) fresh unused in
    let js : Known = after_stages all mine ks in
    let below : (w : ℕ) → w < free → js w ≡ ks w = first.known.below in
    let row : KnowsRow width js = record { word = λ w h. below w (omega arith) ∙ r.word w h } in
    let told : KnowsChosen (chosen + 1) (length ps) js = record {
      told = λ i h. let e : chosen + 1 + i ≡ chosen + suc i = omega arith in ap is_some (below (chosen + 1 + i) (omega arith)) ∙ (ap (λ (w : ℕ). is_some (ks w)) e ∙ z.told (suc i) (omega arith));
    } in
    let rest = plans_lawful all width next (base + length p.arrays) (chosen + 1) ps js (taken_by taken mine) fine.1 among.1 (omega arith) (omega arith) row told first.known.above first.arrays.later in
    let n = fine.0.narrow in
    let low = verdict_low free p (omega arith) in
    let is : after_stages all (mine ++ others) ks ≡ after_stages all others js = after_append all mine others ks in
    let at : (w : ℕ) → after_stages all (mine ++ others) ks w ≡ after_stages all others js w = λ w. ap (λ (k : Known). k w) is in
    let P : Known → Type 0 = λ k. AllKnown (free_after free p) ps k in
    let verdict : is_some (js (verdict_word free p)) ≡ true =
    ap (λ (w : ℕ). is_some (js w)) (sym (verdict_anywhere free base chosen p)) ∙ (ap is_some (first.known.mirrors.same p.verdict) ∙ fine.0.right.verdict) in
    record {
      refusal = λ k. stages_append all k taken ks mine others (first.refusal k) rest.refusal;
      below = λ w h. at w ∙ (rest.below w (omega arith) ∙ below w h);
      above = λ w h. at w ∙ rest.above w h;
      verdicts = (ap is_some (at (verdict_word free p) ∙ rest.below (verdict_word free p) low) ∙ verdict, subst P (sym is) rest.verdicts);
    }

-- The first stage

pub record FirstLawful (chosen many : ℕ) (ks : Known) (ops : List Op) : Type 0 where
  pub refusal : (n : ℕ) → ops_refusal n ks ops ≡ None
  pub told : KnowsChosen chosen many (after_ops ops ks)
  pub below : (w : ℕ) → w < chosen → after_ops ops ks w ≡ ks w
  pub above : (w : ℕ) → chosen + many ≤ w → after_ops ops ks w ≡ None

first_lawful : (selector chosen number : ℕ) (ps : List Program) (ks : Known) → selector < chosen → is_some (ks selector) ≡ true → ((w : ℕ) → chosen ≤ w → ks w ≡ None)
    → FirstLawful chosen (length ps) ks (compared selector chosen number ps)
first_lawful selector chosen number [] ks l k fresh = record { refusal = λ n. refl; told = record { told = λ i h. absurd (omega arith) }; below = λ w h. refl; above = λ w h. fresh w (omega arith) }
first_lawful selector chosen number (p ∷ ps) ks l k fresh =
    let js : Known = learn ks chosen flag in
    let rest = first_lawful selector (chosen + 1) (number + 1) ps js (omega arith) (ap is_some (assigned_other ks chosen flag selector (omega arith)) ∙ k)
    (λ w h. assigned_other ks chosen flag w (omega arith) ∙ fresh w (omega arith)) in
    let here : is_some (after_ops (compared selector (chosen + 1) (number + 1) ps) js chosen) ≡ true = ap is_some (rest.below chosen (omega arith) ∙ assigned_same ks chosen flag chosen refl) in
    let free : is_some (ks chosen) ≡ false = ap is_some (fresh chosen (omega arith)) in
    record {
      refusal = λ n. let second = rest.refusal n in rw (k, free) second;
      told = record { told = told chosen (length ps) (after_ops (compared selector (chosen + 1) (number + 1) ps) js) here rest.told.told };
      below = λ w h. rest.below w (omega arith) ∙ assigned_other ks chosen flag w (omega arith);
      above = λ w h. rest.above w (omega arith);
    }
  where
    told : (chosen many : ℕ) (us : Known) → is_some (us chosen) ≡ true → ((i : ℕ) → i < many → is_some (us (chosen + 1 + i)) ≡ true) → (i : ℕ) → i < suc many → is_some (us (chosen + i)) ≡ true
    told chosen many us here later zero h = let a : chosen + zero ≡ chosen = omega arith in rw a here
    told chosen many us here later (suc i) h = let a : chosen + suc i ≡ chosen + 1 + i = omega arith in rw a (later i (omega arith))

-- The last stage

pub record LastLawful (last : ℕ) (ks : Known) (ops : List Op) : Type 0 where
  pub refusal : (n : ℕ) → ops_refusal n ks ops ≡ None
  pub known : is_some (after_ops ops ks last) ≡ true

abbrev pub first_op : ℕ → ℕ → ℕ → Program → Op
first_op free chosen last p = Pick (last + 1) (Word chosen) (Word (moved_word (seat_of p free 0 chosen) p.verdict)) (Word last)

joined_lawful : (low width free chosen last : ℕ) (ps : List Program) (ks js : Known) → AllFine width ps → width ≤ free → chosen + length ps ≤ free → free_after_all free ps ≤ low → low ≤ last
    → ((w : ℕ) → w < low → js w ≡ ks w) → KnowsChosen chosen (length ps) ks → AllKnown free ps ks → is_some (js last) ≡ true → ((w : ℕ) → last < w → js w ≡ None)
    → LastLawful (last + length ps) js (joined free chosen last ps)
joined_lawful low width free chosen last [] ks js fine wf c f l s z r e fresh = record { refusal = λ n. refl; known = let k : last + 0 ≡ last = omega arith in rw k e }
joined_lawful low width free chosen last (p ∷ ps) ks js fine wf c f l s z r e fresh =
    let n = fine.0.narrow in
    let grows = free_grows (free_after free p) ps in
    let low_word = verdict_low free p (omega arith) in
    let zero_is : chosen + 0 ≡ chosen = omega arith in
    let a : is_some (js chosen) ≡ true = ap is_some (s chosen (omega arith)) ∙ (ap (λ (w : ℕ). is_some (ks w)) (sym zero_is) ∙ z.told 0 (omega arith)) in
    let b : is_some (js (moved_word (seat_of p free 0 chosen) p.verdict)) ≡ true =
    ap (λ (w : ℕ). is_some (js w)) (verdict_anywhere free 0 chosen p) ∙ (ap is_some (s (verdict_word free p) (omega arith)) ∙ r.0) in
    let g : is_some (js (last + 1)) ≡ false = ap is_some (fresh (last + 1) (omega arith)) in
    let i : Interval = op_interval js (first_op free chosen last p) in
    let next : Known = learn js (last + 1) i in
    let later : KnowsChosen (chosen + 1) (length ps) ks = record { told = λ i h. let e : chosen + 1 + i ≡ chosen + suc i = omega arith in ap (λ (w : ℕ). is_some (ks w)) e ∙ z.told (suc i) (omega arith) } in
    let rest = joined_lawful low width (free_after free p) (chosen + 1) (last + 1) ps ks next fine.1 (omega arith) (omega arith) f (omega arith)
    (λ w h. assigned_other js (last + 1) i w (omega arith) ∙ s w h) later r.1 (ap is_some (assigned_same js (last + 1) i (last + 1) refl))
    (λ w h. assigned_other js (last + 1) i w (omega arith) ∙ fresh w (omega arith)) in
    let end : last + suc (length ps) ≡ last + 1 + length ps = omega arith in
    record {
      refusal = λ n. one_more n js (first_op free chosen last p) (joined (free_after free p) (chosen + 1) (last + 1) ps) (picks n js chosen (moved_word (seat_of p free 0 chosen) p.verdict) last a b e g) (rest.refusal n);
      known = rw end rest.known;
    }
  where
    picks : (n : ℕ) (js : Known) (a b c : ℕ) → is_some (js a) ≡ true → is_some (js b) ≡ true → is_some (js c) ≡ true → is_some (js (c + 1)) ≡ false → op_refusal n js (Pick (c + 1) (Word a) (Word b) (Word c)) ≡ None
    picks n js a b c ea eb ec ed = rw (ea, eb, ec, ed) refl

    one_more : (n : ℕ) (js : Known) (op : Op) (ops : List Op) → op_refusal n js op ≡ None → ops_refusal n (learn js (op_to op) (op_interval js op)) ops ≡ None → ops_refusal n js (op ∷ ops) ≡ None
    one_more n js op ops a b = rw a b

-- The whole

unused_by : (all : List Array) (taken : Used) (ops : List Op) (rest : List Stage) (n : ℕ) (ks : Known) → ops_refusal n ks ops ≡ None → stages_refusal all (n + 1) taken (after_ops ops ks) rest ≡ None
    → stages_refusal all n taken ks (only_ops ops ∷ rest) ≡ None
unused_by all taken ops rest n ks a b = rw (a, b) refl

last_lawful : (all : List Array) (n : ℕ) (taken : Used) (ks : Known) (ops : List Op) → ops_refusal n ks ops ≡ None → stages_refusal all n taken ks (only_ops ops ∷ []) ≡ None
last_lawful all n taken ks ops a = rw a refl

pub packed_unbroken : (ps : List Program) → AllUnbroken ps → BreaksNoRule (packed ps)
unfolding packed rule_refusal
packed_unbroken ps unbroken =
    let width : ℕ = selector_of ps in
    let chosen : ℕ = width + 1 in
    let free : ℕ = first_free ps in
    let last : ℕ = last_free ps in
    let all : List Array = all_arrays ps in
    let ks0 : Known = inputs (width + 1) in
    let fine = all_fine width ps (omega arith) unbroken in
    let begin : List Op = compared width chosen 0 ps in
    let first = first_lawful width chosen 0 ps ks0 (omega arith) (ap is_some (input_low (width + 1) width (omega arith))) (λ w h. input_high (width + 1) w h) in
    let ks1 : Known = after_ops begin ks0 in
    let row : KnowsRow width ks1 = record { word = λ w h. first.below w (omega arith) ∙ input_low (width + 1) w (omega arith) } in
    let mine : List Stage = all_moved free 0 chosen ps in
    let plans = plans_lawful all width free 0 chosen ps ks1 none_used fine (all_among ps) (omega arith) (omega arith) row first.told first.above (λ b h. refl) in
    let ks2 : Known = after_stages all mine ks1 in
    let ks3 : Known = learn ks2 last (record { low = pos 0; high = pos 0 }) in
    let grows : free ≤ last = free_grows free ps in
    let fresh : is_some (ks2 last) ≡ false = ap is_some (plans.above last (omega arith)) in
    let told : KnowsChosen chosen (length ps) ks2 = record { told = λ i h. ap is_some (plans.below (chosen + i) (omega arith)) ∙ first.told.told i h } in
    let ends = joined_lawful last width free chosen last ps ks2 ks3 fine (omega arith) (omega arith) (omega arith) (omega arith)
    (λ w h. assigned_other ks2 last _ w (omega arith)) told plans.verdicts (ap is_some (assigned_same ks2 last _ last refl)) (λ w h. assigned_other ks2 last _ w (omega arith) ∙ plans.above w (omega arith)) in
    let ops : List Op = joined free chosen last ps in
    let last_none : (n : ℕ) → ops_refusal n ks2 (Set last (Const (pos 0)) ∷ ops) ≡ None = λ n. let second = ends.refusal n in rw (fresh, second) refl in
    let stages_none = unused_by all none_used begin (mine ++ last_stage ps ∷ []) 0 ks0 (first.refusal 0)
    (stages_append all 1 none_used ks1 mine (last_stage ps ∷ []) (plans.refusal 1)
    (λ k. last_lawful all k (taken_by none_used mine) ks2 (Set last (Const (pos 0)) ∷ ops) (last_none k))) in
    let after : after_stages all (packed_stages ps) ks0 ≡ after_ops ops ks3 = after_append all mine (last_stage ps ∷ []) ks1 in
    let known : is_some (after_stages all (packed_stages ps) ks0 (last + length ps)) ≡ true = ap (λ (k : Known). is_some (k (last + length ps))) after ∙ ends.known in
    rw (stages_none, known) refl
