-- Which bytes the texts of a line have: no item has a space or a comma, no field a space, no line a line feed.
use Rattle.std.proofs.Common.{◌≡◌, ℕ, ◌<◌, ◌^◌, Bool, true, false, List, [], ◌∷◌, ◌++◌, Option, Some, None, refl, sym, ap, ◌∙◌, arith, suc, inl, inr}
use Rattle.std.specs.Prelude.{option_map, ◌==◌, ◌&&◌, not, nat_lt, pos, negsuc, ℤ, FitsSigned}
use Rattle.std.specs.Int.{w64}
use Rattle.std.specs.List.{list_all}
use Rattle.std.specs.Fmt.{decimal, signed_decimal}
use Rattle.std.specs.Str.{all_ascii_digits}
use Rattle.std.specs.Char.{is_ascii_digit}
use Rattle.std.proofs.lemmas.Bool.{and_parts, cases_Bool}
use Rattle.std.proofs.lemmas.List.Folds.{list_all-append}
use Rattle.std.proofs.lemmas.Bool.Decides.{nat_tests}
use Rattle.std.proofs.lemmas.Fmt.{digits_decimal}
use Rattle.std.proofs.lemmas.Int.{ints}
use Rattle.ch_asm_lines.specs.Reading.{cut_of}
use Rattle.ch_asm_lines.proofs.Options.{mapped}
use Rattle.ch_numbers.proofs.Digits.{own}

abbrev pub is_item_byte : ℕ → Bool
is_item_byte b = nat_lt 32 b && not (b == 44)

abbrev pub is_field_byte : ℕ → Bool
is_field_byte b = nat_lt 32 b

abbrev pub is_line_byte : ℕ → Bool
is_line_byte b = nat_lt 31 b

abbrev pub is_other : ℕ → ℕ → Bool
is_other byte b = not (b == byte)

pub both : (a b : Bool) → a ≡ true → b ≡ true → (a && b) ≡ true
both a b e f = rw (e, f) refl

pub all_more : (p q : ℕ → Bool) → ((b : ℕ) → p b ≡ true → q b ≡ true) → (bs : List ℕ) → list_all p bs ≡ true → list_all q bs ≡ true
all_more p q h [] e = refl
all_more p q h (b ∷ bs) e =
    let t = and_parts (p b) (list_all p bs) e in
    both (q b) (list_all q bs) (h b t.0) (all_more p q h bs t.1)

pub all_both : (p : ℕ → Bool) (a b : List ℕ) → list_all p a ≡ true → list_all p b ≡ true → list_all p (a ++ b) ≡ true
all_both p a b e f = list_all-append p a b ∙ both (list_all p a) (list_all p b) e f

item_is_field : (b : ℕ) → is_item_byte b ≡ true → is_field_byte b ≡ true
item_is_field b e = (and_parts (nat_lt 32 b) (not (b == 44)) e).0

field_is_line : (b : ℕ) → is_field_byte b ≡ true → is_line_byte b ≡ true
field_is_line b e = grind (arith, nat_tests)

item_no_comma : (b : ℕ) → is_item_byte b ≡ true → is_other 44 b ≡ true
item_no_comma b e = (and_parts (nat_lt 32 b) (not (b == 44)) e).1

field_no_space : (b : ℕ) → is_field_byte b ≡ true → is_other 32 b ≡ true
field_no_space b e = grind (arith, nat_tests)

line_no_feed : (b : ℕ) → is_line_byte b ≡ true → is_other 10 b ≡ true
line_no_feed b e = grind (arith, nat_tests)

pub items_are_fields : (bs : List ℕ) → list_all is_item_byte bs ≡ true → list_all is_field_byte bs ≡ true
items_are_fields bs e = all_more is_item_byte is_field_byte item_is_field bs e

pub fields_are_lines : (bs : List ℕ) → list_all is_field_byte bs ≡ true → list_all is_line_byte bs ≡ true
fields_are_lines bs e = all_more is_field_byte is_line_byte field_is_line bs e

pub items_no_comma : (bs : List ℕ) → list_all is_item_byte bs ≡ true → list_all (is_other 44) bs ≡ true
items_no_comma bs e = all_more is_item_byte (is_other 44) item_no_comma bs e

pub fields_no_space : (bs : List ℕ) → list_all is_field_byte bs ≡ true → list_all (is_other 32) bs ≡ true
fields_no_space bs e = all_more is_field_byte (is_other 32) field_no_space bs e

pub lines_no_feed : (bs : List ℕ) → list_all is_line_byte bs ≡ true → list_all (is_other 10) bs ≡ true
lines_no_feed bs e = all_more is_line_byte (is_other 10) line_no_feed bs e

digit_item : (b : ℕ) → is_ascii_digit b ≡ true → is_item_byte b ≡ true
digit_item b e = grind (arith, nat_tests)

digits_item : (bs : List ℕ) → all_ascii_digits bs ≡ true → list_all is_item_byte bs ≡ true
digits_item [] e = refl
digits_item (b ∷ bs) e =
    let t = and_parts (is_ascii_digit b) (all_ascii_digits bs) e in
    both (is_item_byte b) (list_all is_item_byte bs) (digit_item b t.0) (digits_item bs t.1)

pub decimal_item : (n : ℕ) → n < 2 ^ 64 → list_all is_item_byte (decimal n) ≡ true
decimal_item n h = digits_item (decimal n) (digits_decimal own n h)

pub constant_item : (v : ℤ) → FitsSigned w64 v → list_all is_item_byte (signed_decimal v) ≡ true
constant_item (pos n) h = decimal_item n (omega (arith, ints))
constant_item (negsuc n) h = decimal_item (suc n) (omega (arith, ints))

-- a text up to the first of these bytes

passed : (byte b : ℕ) (bs : List ℕ) → (b == byte) ≡ false → cut_of byte (b ∷ bs) ≡ option_map (λ c. (b ∷ c.0, c.1)) (cut_of byte bs)
unfolding cut_of
passed byte b bs t = rw t refl

other : (byte b : ℕ) → is_other byte b ≡ true → (b == byte) ≡ false
other byte b e = grind (arith, nat_tests)

pub cut_is : (byte : ℕ) (text : List ℕ) (c : List ℕ × List ℕ) → cut_of byte text ≡ Some c → text ≡ c.0 ++ byte ∷ c.1
unfolding cut_of
cut_is byte [] c e = cc
cut_is byte (x ∷ xs) c e = elim (cases_Bool (x == byte)) [
  | inl t ↦
      let k : Some ([], xs) ≡ Some c = rw t at e in
      let same : ([], xs) ≡ c = cc in
      let at : x ≡ byte = grind (arith, nat_tests) in
      ap (λ b. b ∷ xs) at ∙ ap (λ (d : List ℕ × List ℕ). d.0 ++ byte ∷ d.1) same
  | inr t ↦
      let m = mapped (λ d. (x ∷ d.0, d.1)) (cut_of byte xs) c (rw t at e) in
      ap (λ bs. x ∷ bs) (cut_is byte xs m.0 m.1) ∙ ap (λ (d : List ℕ × List ℕ). d.0 ++ byte ∷ d.1) m.2
]

pub cut_back : (byte : ℕ) (a b : List ℕ) → list_all (is_other byte) a ≡ true → cut_of byte (a ++ byte ∷ b) ≡ Some (a, b)
unfolding cut_of
cut_back byte [] b h = let t : (byte == byte) ≡ true = grind (arith, nat_tests) in rw t refl
cut_back byte (x ∷ xs) b h =
    let t = and_parts (is_other byte x) (list_all (is_other byte) xs) h in
    passed byte x (xs ++ byte ∷ b) (other byte x t.0) ∙ ap (option_map (λ c. (x ∷ c.0, c.1))) (cut_back byte xs b t.1)

pub cut_none : (byte : ℕ) (text : List ℕ) → list_all (is_other byte) text ≡ true → cut_of byte text ≡ None
unfolding cut_of
cut_none byte [] h = refl
cut_none byte (x ∷ xs) h =
    let t = and_parts (is_other byte x) (list_all (is_other byte) xs) h in
    passed byte x xs (other byte x t.0) ∙ ap (option_map (λ c. (x ∷ c.0, c.1))) (cut_none byte xs t.1)

-- the first part has no such byte
pub cut_inner : (byte : ℕ) (text : List ℕ) (c : List ℕ × List ℕ) → cut_of byte text ≡ Some c → list_all (is_other byte) c.0 ≡ true
unfolding cut_of
cut_inner byte [] c e = cc
cut_inner byte (x ∷ xs) c e = elim (cases_Bool (x == byte)) [
  | inl t ↦
      let k : Some ([], xs) ≡ Some c = rw t at e in
      let same : ([], xs) ≡ c = cc in
      ap (λ (d : List ℕ × List ℕ). list_all (is_other byte) d.0) (sym same)
  | inr t ↦
      let m = mapped (λ d. (x ∷ d.0, d.1)) (cut_of byte xs) c (rw t at e) in
      let o : is_other byte x ≡ true = rw t refl in
      ap (λ (d : List ℕ × List ℕ). list_all (is_other byte) d.0) (sym m.2) ∙ both (is_other byte x) (list_all (is_other byte) m.0.0) o (cut_inner byte xs m.0 m.1)
]

no_parts : {A B : Type 0} (f : A → B) (o : Option A) → option_map f o ≡ None → o ≡ None
no_parts f None e = refl
no_parts f (Some x) e = cc

none_behind : (byte b : ℕ) (bs : List ℕ) → cut_of byte (b ∷ bs) ≡ None → ((b == byte) ≡ false) × (cut_of byte bs ≡ None)
unfolding cut_of
none_behind byte b bs e = elim (cases_Bool (b == byte)) [
  | inl t ↦ let k : Some ([], bs) ≡ None = rw t at e in cc
  | inr t ↦ (t, no_parts (λ d. (b ∷ d.0, d.1)) (cut_of byte bs) (rw t at e))
]

-- where there is none, the text has no such byte
pub none_inner : (byte : ℕ) (text : List ℕ) → cut_of byte text ≡ None → list_all (is_other byte) text ≡ true
none_inner byte [] e = refl
none_inner byte (x ∷ xs) e =
    let n = none_behind byte x xs e in
    let o : is_other byte x ≡ true = let t = n.0 in rw t refl in
    both (is_other byte x) (list_all (is_other byte) xs) o (none_inner byte xs n.1)
