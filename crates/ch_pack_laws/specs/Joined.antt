-- The first stage compares the selector, and the last one has the verdict of the program that it selects.
use Rattle.std.proofs.Common.{◌≡◌, ◌<◌, ◌≤◌, ℕ, zero, suc, ◌+◌, Bool, List, [], ◌∷◌, ℤ, pos, refl, sym, ◌∙◌, ap, arith, inl, inr, subst, Option, Some, None, length}
use Rattle.std.specs.Prelude.{◌==◌}
use Rattle.std.specs.Ordering.{int_eq}
use Rattle.std.proofs.lemmas.Bool.{cases_eq, eq-eqb, ne_eqb}
use Rattle.std.proofs.lemmas.Int.{ints}
use Rattle.ch_ir.specs.declared.program.Program.{Program}
use Rattle.ch_ir.specs.Machine.{Words, exec_ops, put, truth}
use Rattle.ch_pack_laws.specs.Packed.{compared, free_after, free_after_all, joined}
use Rattle.ch_pack_laws.specs.Moved.{assigned_other, assigned_same}
use Rattle.ch_pack_laws.specs.Plans.{AllFine, AllRead, NoneChosen, OneChosen, OneReads, free_grows, verdict_anywhere, verdict_low, verdict_word}
use Rattle.ch_pack_laws.specs.Shut.{Has}

-- whether the value is each number from one on
pub record Compared (chosen many number : ℕ) (v : ℤ) (vs us : Words) : Type 0 where
  pub told : (i : ℕ) → i < many → us (chosen + i) ≡ Some (truth (int_eq v (pos (number + i))))
  pub below : (w : ℕ) → w < chosen → us w ≡ vs w
  pub above : (w : ℕ) → chosen + many ≤ w → us w ≡ vs w

compares : (selector chosen number : ℕ) (ps : List Program) (p : Program) (v : ℤ) (vs : Words) → vs selector ≡ Some v
    → exec_ops (compared selector chosen number (p ∷ ps)) vs ≡ exec_ops (compared selector (chosen + 1) (number + 1) ps) (put vs chosen (truth (int_eq v (pos number))))
compares selector chosen number ps p v vs e = rw e refl

pub compared_has : (selector chosen number : ℕ) (ps : List Program) (v : ℤ) (vs : Words) → selector < chosen → vs selector ≡ Some v
    → Has (Compared chosen (length ps) number v vs) (exec_ops (compared selector chosen number ps) vs)
compared_has selector chosen number [] v vs l e = record { value = vs; is = refl; holds = record { told = λ i h. absurd (omega arith); below = λ w h. refl; above = λ w h. refl } }
compared_has selector chosen number (p ∷ ps) v vs l e =
    let b : ℤ = truth (int_eq v (pos number)) in
    let next : Words = put vs chosen b in
    let rest = compared_has selector (chosen + 1) (number + 1) ps v next (omega arith) (assigned_other vs chosen b selector (omega arith) ∙ e) in
    let us : Words = rest.value in
    let here : us chosen ≡ Some b = rest.holds.below chosen (omega arith) ∙ assigned_same vs chosen b chosen refl in
    record {
      value = us;
      is = compares selector chosen number ps p v vs e ∙ rest.is;
      holds = record {
        told = told chosen number (length ps) v us here rest.holds.told;
        below = λ w h. rest.holds.below w (omega arith) ∙ assigned_other vs chosen b w (omega arith);
        above = λ w h. rest.holds.above w (omega arith) ∙ assigned_other vs chosen b w (omega arith);
      };
    }
  where
    told : (chosen number many : ℕ) (v : ℤ) (us : Words) → us chosen ≡ Some (truth (int_eq v (pos number))) → ((i : ℕ) → i < many → us (chosen + 1 + i) ≡ Some (truth (int_eq v (pos (number + 1 + i)))))
        → (i : ℕ) → i < suc many → us (chosen + i) ≡ Some (truth (int_eq v (pos (number + i))))
    told chosen number many v us here later zero h =
        let a : chosen + zero ≡ chosen = omega arith in
        let b : number + zero ≡ number = omega arith in
        rw (a, b) here
    told chosen number many v us here later (suc i) h =
        let a : chosen + suc i ≡ chosen + 1 + i = omega arith in
        let b : number + suc i ≡ number + 1 + i = omega arith in
        rw (a, b) (later i (omega arith))

int_eq_pos : (a b : ℕ) → int_eq (pos a) (pos b) ≡ (a == b)
int_eq_pos a b = elim (cases_eq a b) [
  | inl e ↦ rw (e, eq-eqb b b refl) (grind (arith, ints))
  | inr n ↦ rw (ne_eqb a b n) (grind (arith, ints))
]

pub one_chosen : (chosen many q : ℕ) (vs us : Words) → q < many → Compared chosen many 0 (pos q) vs us → OneChosen chosen many q us
one_chosen chosen many q vs us h c = record {
  yes = c.told q h ∙ ap (λ (b : Bool). Some (truth b)) (int_eq_pos q (0 + q) ∙ eq-eqb q (0 + q) (omega arith));
  no = λ i k d. c.told i k ∙ ap (λ (b : Bool). Some (truth b)) (int_eq_pos q (0 + i) ∙ ne_eqb q (0 + i) (λ e. d (omega arith)));
}

-- the words below a number stay
abbrev pub StayBelow : ℕ → Words → Words → Type 0
StayBelow low ws vs = (w : ℕ) → w < low → vs w ≡ ws w

stay_put : (low to : ℕ) (ws vs : Words) (v : ℤ) → low ≤ to → StayBelow low ws vs → StayBelow low ws (put vs to v)
stay_put low to ws vs v l s = λ w h. assigned_other vs to v w (omega arith) ∙ s w h

-- one op: the program's verdict, or the word before
passes_on : (low free chosen last : ℕ) (ps : List Program) (p : Program) (ws vs : Words) (x v : ℤ) → p.width ≤ free → chosen < low → free_after free p ≤ low → StayBelow low ws vs
    → ws chosen ≡ Some (pos 0) → ws (verdict_word free p) ≡ Some x → vs last ≡ Some v
    → exec_ops (joined free chosen last (p ∷ ps)) vs ≡ exec_ops (joined (free_after free p) (chosen + 1) (last + 1) ps) (put vs (last + 1) v)
passes_on low free chosen last ps p ws vs x v n c f s ec ex ev =
    let low_word = verdict_low free p n in
    let a : vs chosen ≡ Some (pos 0) = s chosen c ∙ ec in
    let b : vs (verdict_word free p) ≡ Some x = s (verdict_word free p) (omega arith) ∙ ex in
    rw (a, verdict_anywhere free 0 chosen p, b, ev) refl

takes_up : (low free chosen last : ℕ) (ps : List Program) (p : Program) (ws vs : Words) (x v : ℤ) → p.width ≤ free → chosen < low → free_after free p ≤ low → StayBelow low ws vs
    → ws chosen ≡ Some (pos 1) → ws (verdict_word free p) ≡ Some x → vs last ≡ Some v
    → exec_ops (joined free chosen last (p ∷ ps)) vs ≡ exec_ops (joined (free_after free p) (chosen + 1) (last + 1) ps) (put vs (last + 1) x)
takes_up low free chosen last ps p ws vs x v n c f s ec ex ev =
    let low_word = verdict_low free p n in
    let a : vs chosen ≡ Some (pos 1) = s chosen c ∙ ec in
    let b : vs (verdict_word free p) ≡ Some x = s (verdict_word free p) (omega arith) ∙ ex in
    rw (a, verdict_anywhere free 0 chosen p, b, ev) refl

none_later : (chosen many : ℕ) (ws : Words) → NoneChosen chosen (suc many) ws → NoneChosen (chosen + 1) many ws
none_later chosen many ws z = record { zeros = λ i h. let e : chosen + 1 + i ≡ chosen + suc i = omega arith in ap ws e ∙ z.zeros (suc i) (omega arith) }

none_first : (chosen many : ℕ) (ws : Words) → NoneChosen chosen (suc many) ws → ws chosen ≡ Some (pos 0)
none_first chosen many ws z = let e : chosen + 0 ≡ chosen = omega arith in ap ws (sym e) ∙ z.zeros 0 (omega arith)

-- the word at a place has this value
abbrev pub Holds : ℕ → ℤ → Words → Type 0
Holds w v us = us w ≡ Some v

same_end : (last many : ℕ) (v : ℤ) (o : Option Words) → Has (Holds (last + 1 + many) v) o → Has (Holds (last + suc many) v) o
same_end last many v o h = let e : last + suc many ≡ last + 1 + many = omega arith in record { value = h.value; is = h.is; holds = ap h.value e ∙ h.holds }

joined_none : (low width free chosen last : ℕ) (ps : List Program) (ws vs : Words) (v : ℤ) → AllFine width ps → width ≤ free → chosen + length ps ≤ free → free_after_all free ps ≤ low → low ≤ last
    → StayBelow low ws vs → NoneChosen chosen (length ps) ws → AllRead free ps ws → vs last ≡ Some v
    → Has (Holds (last + length ps) v) (exec_ops (joined free chosen last ps) vs)
joined_none low width free chosen last [] ws vs v fine wf c f l s z r e = record { value = vs; is = refl; holds = let k : last + 0 ≡ last = omega arith in ap vs k ∙ e }
joined_none low width free chosen last (p ∷ ps) ws vs v fine wf c f l s z r e =
    let n = fine.0.narrow in
    let grows = free_grows (free_after free p) ps in
    let k = passes_on low free chosen last ps p ws vs r.0.0 v (omega arith) (omega arith) (omega arith) s (none_first chosen (length ps) ws z) r.0.1 e in
    let P : Option Words → Type 0 = Has (Holds (last + length (p ∷ ps)) v) in
    subst P (sym k) (same_end last (length ps) v _
    (joined_none low width (free_after free p) (chosen + 1) (last + 1) ps ws (put vs (last + 1) v) v fine.1 (omega arith) (omega arith) f (omega arith)
    (stay_put low (last + 1) ws vs v (omega arith) s) (none_later chosen (length ps) ws z) r.1 (assigned_same vs (last + 1) v (last + 1) refl)))

one_none : (chosen many : ℕ) (ws : Words) → OneChosen chosen (suc many) 0 ws → NoneChosen (chosen + 1) many ws
one_none chosen many ws z = record { zeros = λ i h. let e : chosen + 1 + i ≡ chosen + suc i = omega arith in ap ws e ∙ z.no (suc i) (omega arith) (omega arith) }

one_later : (chosen many q : ℕ) (ws : Words) → OneChosen chosen (suc many) (suc q) ws → OneChosen (chosen + 1) many q ws
one_later chosen many q ws z =
    let k : chosen + 1 + q ≡ chosen + suc q = omega arith in
    record {
      yes = ap ws k ∙ z.yes;
      no = λ i h d. let e : chosen + 1 + i ≡ chosen + suc i = omega arith in ap ws e ∙ z.no (suc i) (omega arith) (omega arith);
    }

one_first : (chosen many q : ℕ) (ws : Words) → OneChosen chosen (suc many) (suc q) ws → ws chosen ≡ Some (pos 0)
one_first chosen many q ws z = let e : chosen + 0 ≡ chosen = omega arith in ap ws (sym e) ∙ z.no 0 (omega arith) (omega arith)

pub joined_one : (low width free chosen last q : ℕ) (ps : List Program) (ws vs : Words) (u v : ℤ) → AllFine width ps → width ≤ free → chosen + length ps ≤ free → free_after_all free ps ≤ low → low ≤ last
    → StayBelow low ws vs → OneChosen chosen (length ps) q ws → OneReads free ps q (Some v) ws → vs last ≡ Some u
    → Has (Holds (last + length ps) v) (exec_ops (joined free chosen last ps) vs)
joined_one low width free chosen last q [] ws vs u v fine wf c f l s z r e = elim r [ ]
joined_one low width free chosen last zero (p ∷ ps) ws vs u v fine wf c f l s z r e =
    let n = fine.0.narrow in
    let grows = free_grows (free_after free p) ps in
    let zero_is : chosen + 0 ≡ chosen = omega arith in
    let k = takes_up low free chosen last ps p ws vs v u (omega arith) (omega arith) (omega arith) s (ap ws (sym zero_is) ∙ z.yes) r.0 e in
    let P : Option Words → Type 0 = Has (Holds (last + length (p ∷ ps)) v) in
    subst P (sym k) (same_end last (length ps) v _
    (joined_none low width (free_after free p) (chosen + 1) (last + 1) ps ws (put vs (last + 1) v) v fine.1 (omega arith) (omega arith) f (omega arith)
    (stay_put low (last + 1) ws vs v (omega arith) s) (one_none chosen (length ps) ws z) r.1 (assigned_same vs (last + 1) v (last + 1) refl)))
joined_one low width free chosen last (suc q) (p ∷ ps) ws vs u v fine wf c f l s z r e =
    let n = fine.0.narrow in
    let grows = free_grows (free_after free p) ps in
    let k = passes_on low free chosen last ps p ws vs r.0.0 u (omega arith) (omega arith) (omega arith) s (one_first chosen (length ps) q ws z) r.0.1 e in
    let P : Option Words → Type 0 = Has (Holds (last + length (p ∷ ps)) v) in
    subst P (sym k) (same_end last (length ps) v _
    (joined_one low width (free_after free p) (chosen + 1) (last + 1) q ps ws (put vs (last + 1) u) u v fine.1 (omega arith) (omega arith) f (omega arith)
    (stay_put low (last + 1) ws vs u (omega arith) s) (one_later chosen (length ps) q ws z) r.1 (assigned_same vs (last + 1) u (last + 1) refl)))

-- a verdict that has no value gives none
stops : (low free chosen last : ℕ) (ps : List Program) (p : Program) (ws vs : Words) (v : ℤ) → p.width ≤ free → chosen < low → free_after free p ≤ low → StayBelow low ws vs
    → ws chosen ≡ Some (pos 1) → ws (verdict_word free p) ≡ None → exec_ops (joined free chosen last (p ∷ ps)) vs ≡ None
stops low free chosen last ps p ws vs v n c f s ec ex =
    let low_word = verdict_low free p n in
    let a : vs chosen ≡ Some (pos 1) = s chosen c ∙ ec in
    let b : vs (verdict_word free p) ≡ None = s (verdict_word free p) (omega arith) ∙ ex in
    rw (a, verdict_anywhere free 0 chosen p, b) refl

pub joined_missing : (low width free chosen last q : ℕ) (ps : List Program) (ws vs : Words) (u : ℤ) → AllFine width ps → width ≤ free → chosen + length ps ≤ free → free_after_all free ps ≤ low → low ≤ last
    → StayBelow low ws vs → OneChosen chosen (length ps) q ws → OneReads free ps q None ws → vs last ≡ Some u
    → exec_ops (joined free chosen last ps) vs ≡ None
joined_missing low width free chosen last q [] ws vs u fine wf c f l s z r e = elim r [ ]
joined_missing low width free chosen last zero (p ∷ ps) ws vs u fine wf c f l s z r e =
    let n = fine.0.narrow in
    let grows = free_grows (free_after free p) ps in
    let zero_is : chosen + 0 ≡ chosen = omega arith in
    stops low free chosen last ps p ws vs u (omega arith) (omega arith) (omega arith) s (ap ws (sym zero_is) ∙ z.yes) r.0
joined_missing low width free chosen last (suc q) (p ∷ ps) ws vs u fine wf c f l s z r e =
    let n = fine.0.narrow in
    let grows = free_grows (free_after free p) ps in
    passes_on low free chosen last ps p ws vs r.0.0 u (omega arith) (omega arith) (omega arith) s (one_first chosen (length ps) q ws z) r.0.1 e
    ∙ joined_missing low width (free_after free p) (chosen + 1) (last + 1) q ps ws (put vs (last + 1) u) u fine.1 (omega arith) (omega arith) f (omega arith)
    (stay_put low (last + 1) ws vs u (omega arith) s) (one_later chosen (length ps) q ws z) r.1 (assigned_same vs (last + 1) u (last + 1) refl)
