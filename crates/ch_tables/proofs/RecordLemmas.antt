-- The records of a text, one after another.
use Rattle.std.proofs.Common.{◌≡◌, ℕ, zero, suc, ◌+◌, ◌-◌, ◌^◌, ◌<◌, ◌≤◌, Bool, true, false, cond, List, [], ◌∷◌, ◌++◌, length, Option, Some, None, ◌⊎◌, inl, inr, refl, sym, ◌∙◌, ap, arith, length-append, add-one}
use Rattle.std.specs.Prelude.{IsSome}
use Rattle.std.specs.Borrow.{Bor}
use Rattle.csv.specs.Machine.{Read, next_record, step, is_end, fields_after, field_after, ends_at_end}
use Rattle.csv.specs.Reading.{ReadRecord, Reached, default_config, is_bom, records_from, records_next, strip_bom, took_first}
use Rattle.csv.specs.declared.parser.Config.{Config}
use Rattle.csv.specs.declared.parser.State.{State}
use Rattle.csv.specs.declared.parser.State.TheVariants as st
use Rattle.csv.specs.declared.parser.Action.{Action}
use Rattle.csv.specs.declared.parser.Action.TheVariants as act
use Rattle.csv.proofs.ReadFacts.{rows-more, rows-end}
use Rattle.ch_tables.specs.Reading.{AreShort, IsReading, PartReader, Takes, records_left, unread}
use Rattle.ch_tables.specs.Records.{records_of}

-- a record takes a byte, or it is the last, empty one
abbrev pub Goes : List ℕ → Read → Type 0
Goes xs q = (length q.2 + 1 ≤ length xs) ⊎ ((xs ≡ []) × (q.1 ≡ st.StartRecord) × (q.2 ≡ []))

last_goes : (b : Bool) (fields : List (List ℕ)) (q : Read) → cond b (Some (fields, st.StartRecord, [])) None ≡ Some q → Goes [] q
last_goes true fields q e = let same : (fields, st.StartRecord, []) ≡ q = cc in inr (refl, ap (λ (r : Read). r.1) (sym same), ap (λ (r : Read). r.2) (sym same))
last_goes false fields q e = cc

chosen : (b : Bool) (x y : Option Read) (q : Read) → cond b x y ≡ Some q → ((b ≡ true) × (x ≡ Some q)) ⊎ ((b ≡ false) × (y ≡ Some q))
chosen true x y q e = inl (refl, e)
chosen false x y q e = inr (refl, e)

goes : (cfg : Config) (s : State) (fields : List (List ℕ)) (field : List ℕ) (xs : List ℕ) (q : Read) → next_record cfg s fields field xs ≡ Some q → Goes xs q
unfolding next_record
goes cfg s fields field [] q e = last_goes (ends_at_end s) (fields ++ (field ∷ [])) q e
goes cfg s fields field (c ∷ rest) q e =
    elim (chosen (is_end (step cfg s c).1) _ _ q e) [
      | inl ended ↦
          let same : (fields_after (step cfg s c).1 fields field, (step cfg s c).0, rest) ≡ q = cc ended.1 in
          let long = ap (λ (r : Read). length r.2) same in
          inl (omega arith)
      | inr later ↦ elim (goes cfg (step cfg s c).0 (fields_after (step cfg s c).1 fields field) (field_after (step cfg s c).1 c field) rest q later.1) [
        | inl shorter ↦ inl (omega arith)
        | inr last ↦ let n = ap length last.2 in inl (omega arith)
      ]
    ]

none_left : (cfg : Config) → next_record cfg st.StartRecord [] [] [] ≡ None
unfolding next_record
none_left cfg = refl

-- at the end of a text there is no more
nothing_from : (cfg : Config) (n : ℕ) → records_from cfg n st.StartRecord [] ≡ []
unfolding records_from
nothing_from cfg zero = refl
nothing_from cfg (suc n) = rw (none_left cfg) refl

-- how often one may read doesn't matter, where it is often enough
enough : (cfg : Config) (n m : ℕ) (s : State) (xs : List ℕ) → length xs < n → length xs < m → records_from cfg n s xs ≡ records_from cfg m s xs
unfolding records_from
enough cfg zero m s xs h g = absurd (omega arith)
enough cfg (suc n) zero s xs h g = absurd (omega arith)
enough cfg (suc n) (suc m) s xs h g = by (next_record cfg s [] [] xs) refl (λ t ys a b. enough cfg n m t ys a b)
  where
    by : (o : Option Read) → next_record cfg s [] [] xs ≡ o
        → ((t : State) (ys : List ℕ) → length ys < n → length ys < m → records_from cfg n t ys ≡ records_from cfg m t ys)
        → records_next (records_from cfg n) o ≡ records_next (records_from cfg m) o
    by None e more = refl
    by (Some p) e more = elim (goes cfg s [] [] xs p e) [
      | inl shorter ↦ ap (λ rs. p.0 ∷ rs) (more p.1 p.2 (omega arith) (omega arith))
      | inr last ↦ ap (λ rs. p.0 ∷ rs) (rw (last.1, last.2) (nothing_from cfg n ∙ sym (nothing_from cfg m)))
    ]

-- after a record the others are left
others : (cfg : Config) (s : State) (xs : List ℕ) (p : Read) → next_record cfg s [] [] xs ≡ Some p
    → records_from cfg (length xs + 1) s xs ≡ p.0 ∷ records_from cfg (length p.2 + 1) p.1 p.2
unfolding records_from
others cfg s xs p e =
    let rest : records_from cfg (length xs) p.1 p.2 ≡ records_from cfg (length p.2 + 1) p.1 p.2 = elim (goes cfg s [] [] xs p e) [
      | inl shorter ↦ enough cfg (length xs) (length p.2 + 1) p.1 p.2 (omega arith) (omega arith)
      | inr last ↦ rw (last.1, last.2) (nothing_from cfg (length xs) ∙ sym (nothing_from cfg 1))
    ] in
    rw (add-one, e) (ap (λ rs. p.0 ∷ rs) rest)

-- the same, for what a read tells
told : (cfg : Config) (s after : State) (xs ys : List ℕ) (fields : List (List ℕ)) (p : Read) → next_record cfg s [] [] xs ≡ Some p → fields ≡ p.0 → p.1 ≡ after → p.2 ≡ ys
    → records_from cfg (length xs + 1) s xs ≡ fields ∷ records_from cfg (length ys + 1) after ys
told cfg s after xs ys fields p e f a b = others cfg s xs p e ∙ rw (f, a, b) refl

-- where there is no record, none is left
none_more : (cfg : Config) (s : State) (xs : List ℕ) → next_record cfg s [] [] xs ≡ None → records_from cfg (length xs + 1) s xs ≡ []
unfolding records_from
none_more cfg s xs e = rw (add-one, e) refl

abbrev pub source : Bor (List ℕ) → Option (List ℕ)
source s = Some s.now

known_bytes : (o : Option (List ℕ)) → IsSome o → (xs : List ℕ) × (o ≡ Some xs)
known_bytes (Some xs) h = (xs, refl)
known_bytes None h = cc

-- a read takes the first of the records that are left
pub takes : (a b : PartReader) (found : Bool) (fields : List (List ℕ)) → IsReading a → took_first b ≡ true → ReadRecord source a b found fields → Takes (records_left a) found fields b
unfolding Reached
takes a b false fields h first r =
    let y = known_bytes (unread a) h.known in
    rw y.1 (none_more default_config a.state y.0 (rows-end source a b fields default_config y.0 h.defaults y.1 r))
takes a b true fields h first r =
    let y = known_bytes (unread a) h.known in
    let m = rows-more source a b fields default_config a.state y.0 y.0 [] h.defaults y.1 (refl, refl) r in
    let p = m.2.0 in (
      record { plain = r.3 ∙ h.plain; ready = inl first; defaults = r.2 ∙ h.defaults; known = rw m.1 refl },
      rw (y.1, m.1) (told default_config a.state b.state y.0 m.0 fields p m.2.1 m.2.2 m.2.3.0 m.2.3.1),
    )

-- an action adds at most a field
one_field : (a : Action) (fields : List (List ℕ)) (field : List ℕ) → length (fields_after a fields field) ≤ length fields + 1
one_field act.EndField fields field = omega (arith, length-append fields (field ∷ []))
one_field act.Skip fields field = omega arith
one_field act.Copy fields field = omega arith
one_field act.EndRecord fields field = omega (arith, length-append fields (field ∷ []))

-- the fields of a record take a byte each, but for the last
wide : (cfg : Config) (s : State) (fields : List (List ℕ)) (field : List ℕ) (xs : List ℕ) (q : Read) → next_record cfg s fields field xs ≡ Some q → length q.0 + length q.2 ≤ length fields + length xs + 1
unfolding next_record
wide cfg s fields field [] q e =
    elim (chosen (ends_at_end s) _ _ q e) [
      | inl ended ↦
          let same : (fields ++ (field ∷ []), st.StartRecord, []) ≡ q = cc ended.1 in
          let long = ap (λ (r : Read). length r.0 + length r.2) same in
          omega (arith, length-append fields (field ∷ []))
      | inr none ↦ cc none.1
    ]
wide cfg s fields field (c ∷ rest) q e =
    let one = one_field (step cfg s c).1 fields field in
    elim (chosen (is_end (step cfg s c).1) _ _ q e) [
      | inl ended ↦
          let same : (fields_after (step cfg s c).1 fields field, (step cfg s c).0, rest) ≡ q = cc ended.1 in
          let long = ap (λ (r : Read). length r.0 + length r.2) same in
          omega arith
      | inr later ↦ let more = wide cfg (step cfg s c).0 (fields_after (step cfg s c).1 fields field) (field_after (step cfg s c).1 c field) rest q later.1 in omega arith
    ]

no_longer : (xs : List ℕ) (q : Read) → Goes xs q → length q.2 ≤ length xs
no_longer xs q g = elim g [ inl shorter ↦ omega arith | inr last ↦ let n = ap length last.2 in omega arith ]

-- no record has more fields than the text has bytes, and one
short_from : (cfg : Config) (n : ℕ) (s : State) (xs : List ℕ) → length xs < 2 ^ 32 - 1 → AreShort (records_from cfg n s xs)
unfolding records_from
short_from cfg zero s xs le = tt
short_from cfg (suc n) s xs le = by (next_record cfg s [] [] xs) refl (λ t ys l. short_from cfg n t ys l)
  where
    by : (o : Option Read) → next_record cfg s [] [] xs ≡ o
        → ((t : State) (ys : List ℕ) → length ys < 2 ^ 32 - 1 → AreShort (records_from cfg n t ys))
        → AreShort (records_next (records_from cfg n) o)
    by None e more = tt
    by (Some p) e more =
        let w = wide cfg s [] [] xs p e in
        let l = no_longer xs p (goes cfg s [] [] xs p e) in
        (omega arith, more p.1 p.2 (omega arith))

no_mark : (xs : List ℕ) → length (strip_bom xs) ≤ length xs
unfolding strip_bom
no_mark [] = omega arith
no_mark (a ∷ []) = omega arith
no_mark (a ∷ b ∷ []) = omega arith
no_mark (a ∷ b ∷ c ∷ rest) = cut (is_bom a b c)
  where
    cut : (t : Bool) → length (cond t rest (a ∷ b ∷ c ∷ rest)) ≤ length (a ∷ b ∷ c ∷ rest)
    cut true = omega arith
    cut false = omega arith

-- a text of fewer bytes has short records
pub short_records : (bytes : List ℕ) → length bytes < 2 ^ 32 - 1 → AreShort (records_of bytes)
short_records bytes h =
    let l = no_mark bytes in
    short_from default_config (length (strip_bom bytes) + 1) st.StartRecord (strip_bom bytes) (omega arith)
