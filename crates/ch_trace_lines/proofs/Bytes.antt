-- Which bytes the fields of a line have: no space, and nothing below it.
use Rattle.std.proofs.Common.{◌≡◌, ℕ, ◌<◌, ◌^◌, Bool, true, false, List, [], ◌∷◌, ◌++◌, All, refl, ◌∙◌, arith}
use Rattle.std.specs.Prelude.{◌==◌, ◌&&◌, not, nat_lt}
use Rattle.std.specs.List.{list_all}
use Rattle.std.specs.Fmt.{decimal}
use Rattle.std.specs.Str.{all_ascii_digits}
use Rattle.std.specs.Char.{is_ascii_digit}
use Rattle.std.proofs.lemmas.Bool.{and_parts}
use Rattle.std.proofs.lemmas.Bool.Decides.{nat_tests}
use Rattle.std.proofs.lemmas.List.Elements.{All-nil, All-cons}
use Rattle.std.proofs.lemmas.List.Folds.{list_all-append}
use Rattle.std.proofs.lemmas.Fmt.{digits_decimal}
use Rattle.ch_cells.proofs.Spelling.{own}

abbrev pub is_field_byte : ℕ → Bool
is_field_byte b = nat_lt 32 b

abbrev pub is_line_byte : ℕ → Bool
is_line_byte b = nat_lt 31 b

pub both : (a b : Bool) → a ≡ true → b ≡ true → (a && b) ≡ true
both a b e f = rw (e, f) refl

pub all_more : (p q : ℕ → Bool) → ((b : ℕ) → p b ≡ true → q b ≡ true) → (bs : List ℕ) → list_all p bs ≡ true → list_all q bs ≡ true
all_more p q h [] e = refl
all_more p q h (b ∷ bs) e =
    let t = and_parts (p b) (list_all p bs) e in
    both (q b) (list_all q bs) (h b t.0) (all_more p q h bs t.1)

pub all_both : (p : ℕ → Bool) (a b : List ℕ) → list_all p a ≡ true → list_all p b ≡ true → list_all p (a ++ b) ≡ true
all_both p a b e f = list_all-append p a b ∙ both (list_all p a) (list_all p b) e f

field_is_line : (b : ℕ) → is_field_byte b ≡ true → is_line_byte b ≡ true
field_is_line b e = grind (arith, nat_tests)

line_no_feed : (b : ℕ) → is_line_byte b ≡ true → not (b == 10) ≡ true
line_no_feed b e = grind (arith, nat_tests)

pub fields_are_lines : (bs : List ℕ) → list_all is_field_byte bs ≡ true → list_all is_line_byte bs ≡ true
fields_are_lines bs e = all_more is_field_byte is_line_byte field_is_line bs e

pub lines_no_feed : (bs : List ℕ) → list_all is_line_byte bs ≡ true → list_all (λ b. not (b == 10)) bs ≡ true
lines_no_feed bs e = all_more is_line_byte (λ b. not (b == 10)) line_no_feed bs e

no_space : (b : ℕ) → is_field_byte b ≡ true → (b == 32) ≡ false
no_space b e = grind (arith, nat_tests)

no_feed : (b : ℕ) → is_line_byte b ≡ true → (b == 10) ≡ false
no_feed b e = grind (arith, nat_tests)

all_fail : (p q : ℕ → Bool) → ((b : ℕ) → p b ≡ true → q b ≡ false) → (bs : List ℕ) → list_all p bs ≡ true → All (λ b. q b ≡ false) bs
all_fail p q h [] e = All-nil (λ b. q b ≡ false)
all_fail p q h (b ∷ bs) e =
    let t = and_parts (p b) (list_all p bs) e in
    All-cons (λ x. q x ≡ false) b bs (h b t.0) (all_fail p q h bs t.1)

pub no_spaces : (bs : List ℕ) → list_all is_field_byte bs ≡ true → All (λ b. (b == 32) ≡ false) bs
no_spaces bs e = all_fail is_field_byte (λ b. b == 32) no_space bs e

pub no_feeds : (bs : List ℕ) → list_all is_line_byte bs ≡ true → All (λ b. (b == 10) ≡ false) bs
no_feeds bs e = all_fail is_line_byte (λ b. b == 10) no_feed bs e

digit_field : (b : ℕ) → is_ascii_digit b ≡ true → is_field_byte b ≡ true
digit_field b e = grind (arith, nat_tests)

digits_field : (bs : List ℕ) → all_ascii_digits bs ≡ true → list_all is_field_byte bs ≡ true
digits_field [] e = refl
digits_field (b ∷ bs) e =
    let t = and_parts (is_ascii_digit b) (all_ascii_digits bs) e in
    both (is_field_byte b) (list_all is_field_byte bs) (digit_field b t.0) (digits_field bs t.1)

pub number_field : (n : ℕ) → n < 2 ^ 32 → list_all is_field_byte (decimal n) ≡ true
number_field n h = digits_field (decimal n) (digits_decimal own n (omega arith))
