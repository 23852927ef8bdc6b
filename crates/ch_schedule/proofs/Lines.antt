-- Lines read one after another.
use Rattle.std.proofs.Common.{◌≡◌, ◌<◌, ◌+◌, ◌++◌, ℕ, zero, suc, Bool, true, false, List, [], ◌∷◌, refl, sym, ◌∙◌, ap, ap₂, arith, length, get_or, take, drop, None, inl, inr}
use Rattle.std.specs.Prelude.{◌||◌}
use Rattle.std.proofs.lemmas.Bool.{cases_lt}
use Rattle.std.proofs.lemmas.List.{append_assoc, append-nil}
use Rattle.ch_schedule.specs.declared.step.Step.{Step}
use Rattle.ch_schedule.specs.declared.step.Schedule.{Schedule}
use Rattle.ch_schedule.specs.declared.read.Stop.{Stop}
use Rattle.ch_schedule.specs.declared.read.Stop.TheVariants as stop
use Rattle.ch_schedule.specs.Bad.{Refuses, Stops, refusal_of, Adds, said_in, steps_of, is_drain, steps_in, has_drain, line_why, why_at}

pub steps_append : (xs ys : List (List ℕ)) → steps_in (xs ++ ys) ≡ steps_in xs ++ steps_in ys
steps_append [] ys = refl
steps_append (x ∷ xs) ys = ap (λ (z : List Step). steps_of (said_in x) ++ z) (steps_append xs ys) ∙ sym (append_assoc (steps_of (said_in x)) (steps_in xs) (steps_in ys))

or_assoc : (a b c : Bool) → (a || (b || c)) ≡ ((a || b) || c)
or_assoc true b c = refl
or_assoc false b c = refl

or_false : (a : Bool) → (a || false) ≡ a
or_false true = refl
or_false false = refl

drain_append : (xs ys : List (List ℕ)) → has_drain (xs ++ ys) ≡ (has_drain xs || has_drain ys)
drain_append [] ys = refl
drain_append (x ∷ xs) ys = ap (λ (b : Bool). is_drain (said_in x) || b) (drain_append xs ys) ∙ or_assoc (is_drain (said_in x)) (has_drain xs) (has_drain ys)

-- the line at a place, and the lines behind it
pub record Front (texts rest : List (List ℕ)) (at : ℕ) (text : List ℕ) : Type 0 where
  pub there : at < length texts
  pub here : get_or texts at [] ≡ text
  pub behind : rest ≡ drop (at + 1) texts
  pub more : take (at + 1) texts ≡ take at texts ++ text ∷ []

pub front : (texts rest : List (List ℕ)) (at : ℕ) (text : List ℕ) → drop at texts ≡ text ∷ rest → Front texts rest at text
front [] rest zero text h = cc
front [] rest (suc at) text h = cc
front (x ∷ xs) rest zero text h =
    let first : x ≡ text = cc in
    let others : xs ≡ rest = cc in
    record { there = omega arith; here = first; behind = sym others; more = ap (λ (y : List ℕ). y ∷ []) first }
front (x ∷ xs) rest (suc at) text h =
    let f = front xs rest at text h in
    let e : suc at + 1 ≡ suc (at + 1) = omega arith in
    let there = f.there in
    record { there = omega arith; here = f.here; behind = rw e f.behind; more = rw e (ap (λ (ys : List (List ℕ)). x ∷ ys) f.more) }

-- what is read so far, of the lines before a place
pub record IsSoFar (texts : List (List ℕ)) (at : ℕ) (schedule : Schedule) : Type 0 where
  pub steps : schedule.steps ≡ steps_in (take at texts)
  pub drain : schedule.drain ≡ has_drain (take at texts)
  pub good : (before : ℕ) → before < at → why_at texts before ≡ None

-- why the line at this place is bad
pub why_here : (texts rest : List (List ℕ)) (at : ℕ) (text : List ℕ) (schedule : Schedule) → Front texts rest at text → schedule.steps ≡ steps_in (take at texts)
    → schedule.drain ≡ has_drain (take at texts) → why_at texts at ≡ line_why schedule.drain (length schedule.steps) text
why_here texts rest at text schedule f s d =
    ap₂ (λ (b : Bool) (n : ℕ). line_why b n (get_or texts at [])) (sym d) (ap (λ (xs : List Step). length xs) (sym s))
    ∙ ap (λ (line : List ℕ). line_why schedule.drain (length schedule.steps) line) f.here

pub line_added : (texts rest : List (List ℕ)) (at : ℕ) (text : List ℕ) (old new : Schedule) → Front texts rest at text → IsSoFar texts at old → Adds old new text → IsSoFar texts (at + 1) new
line_added texts rest at text old new f s a = record {
  steps = a.steps_are ∙ ap₂ (λ (xs ys : List Step). xs ++ ys) s.steps (sym (append-nil (steps_of (said_in text)))) ∙ sym (steps_append (take at texts) (text ∷ [])) ∙ ap steps_in (sym f.more);
  drain = a.drain_is ∙ ap₂ (λ (b c : Bool). b || c) s.drain (sym (or_false (is_drain (said_in text)))) ∙ sym (drain_append (take at texts) (text ∷ [])) ∙ ap has_drain (sym f.more);
  good = λ before h. elim (cases_lt before at) [
    | inl lt ↦ s.good before lt
    | inr past ↦ let e : before ≡ at = omega arith in ap (why_at texts) e ∙ why_here texts rest at text old f s.steps s.drain ∙ a.good
  ];
}

pub refused : (texts rest : List (List ℕ)) (at : ℕ) (text : List ℕ) (schedule : Schedule) (s : Stop) → Front texts rest at text → IsSoFar texts at schedule
    → Stops s (line_why schedule.drain (length schedule.steps) text) → Refuses texts (refusal_of (at + 1) s)
refused texts rest at text schedule (stop.Bad why) f s h = record {
  at = at;
  line_is = refl;
  there = f.there;
  bad = why_here texts rest at text schedule f s.steps s.drain ∙ h;
  others = s.good;
}
refused texts rest at text schedule stop.Memory f s h = tt
