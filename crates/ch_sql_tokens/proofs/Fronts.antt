-- What stands at the front of a text: a scan finds the longest token.
use Rattle.std.proofs.Common.{◌≡◌, ℕ, ◌+◌, ◌^◌, ◌<◌, ◌≤◌, ◌==◌, ◌||◌, ◌⊎◌, inl, inr, suc, zero, Bool, true, false, not, List, [], ◌∷◌, ◌++◌, length, take, drop, Option, Some, None, refl, sym, ap, ap₂, ◌∙◌, if◌then◌else◌, arith, subst, add-one, length-append}
use Rattle.std.specs.Prelude.{ℤ, pos, negsuc, nat_le}
use Rattle.std.specs.List.{list_all}
use Rattle.std.specs.Str.{all_ascii_digits}
use Rattle.std.specs.Fmt.{decimal, signed_decimal}
use Rattle.std.specs.Int.RustNames.{unsigned_abs}
use Rattle.std.proofs.lemmas.Bool.{cases_Bool}
use Rattle.std.proofs.lemmas.Bool.Decides.{nat_tests}
use Rattle.std.proofs.lemmas.List.{take-append-drop}
use Rattle.std.proofs.lemmas.Fmt.{digits_decimal, decimal_nonempty}
use Rattle.std.proofs.Math.Seq.{take-append_seam}
use Rattle.ch_cells.specs.Number.{greatest_magnitude, is_digit, number_of}
use Rattle.ch_cells.proofs.Spelling.{law, own}
use Rattle.ch_sql_tokens.specs.declared.token.Token.{Token}
use Rattle.ch_sql_tokens.specs.declared.token.Token.TheVariants as token
use Rattle.ch_sql_tokens.specs.declared.token.Symbol.{Symbol}
use Rattle.ch_sql_tokens.specs.declared.token.Symbol.TheVariants as symbol
use Rattle.ch_sql_tokens.specs.declared.scanner.Front.{Front}
use Rattle.ch_sql_tokens.specs.declared.scanner.Front.TheVariants.{Found, OutOfRange, Nothing}
use Rattle.ch_sql_tokens.specs.Byte.{is_letter, is_word_byte, is_blank, begins_with, run}
use Rattle.ch_sql_tokens.specs.Quote.{quoted_of}
use Rattle.ch_sql_tokens.specs.Spelling.{symbol_spelling, doubled, in_quotes, spelling, is_word, IsToken, Ends, TokenAt}
use Rattle.ch_sql_tokens.specs.Lexed.{is_nonzero_digit, IsOutOfRange}
use Rattle.ch_sql_tokens.specs.Scan.{begins_nonzero, number_length, number_read, number_front, word_front, name_read, quoted_front, text_read, text_front, less_front, greater_front, symbol_front, front_of}
use Rattle.ch_sql_tokens.proofs.Bools.{if_true, if_false, both, and_true, or_true, or_true_right, same}
use Rattle.ch_sql_tokens.proofs.QuoteRules.{ReadsQuoted, reads_quoted, CoversQuoted, covers_quoted}

-- runs

take_step : (p : ℕ → Bool) (b : ℕ) (bs : List ℕ) (x : Bool) → p b ≡ x → list_all p (take (run p bs) bs) ≡ true → list_all p (take (if x then run p bs + 1 else 0) (b ∷ bs)) ≡ true
take_step p b bs true h r = rw add-one (and_true (p b) _ h r)
take_step p b bs false h r = refl

pub take_run : (p : ℕ → Bool) (s : List ℕ) → list_all p (take (run p s) s) ≡ true
take_run p [] = refl
take_run p (b ∷ bs) = take_step p b bs (p b) refl (take_run p bs)

after_step : (p : ℕ → Bool) (b : ℕ) (bs : List ℕ) (x : Bool) → p b ≡ x → begins_with p (drop (run p bs) bs) ≡ false → begins_with p (drop (if x then run p bs + 1 else 0) (b ∷ bs)) ≡ false
after_step p b bs true h r = rw add-one r
after_step p b bs false h r = h

pub after_run : (p : ℕ → Bool) (s : List ℕ) → begins_with p (drop (run p s) s) ≡ false
after_run p [] = refl
after_run p (b ∷ bs) = after_step p b bs (p b) refl (after_run p bs)

run_append : (p : ℕ → Bool) (s more : List ℕ) → list_all p s ≡ true → run p (s ++ more) ≡ length s + run p more
run_append p [] more h = omega arith
run_append p (b ∷ bs) more h =
    let t = both (p b) (list_all p bs) h in
    let r : run p (bs ++ more) ≡ length bs + run p more = run_append p bs more t.1 in
    if_true (p b) _ _ t.0 ∙ omega arith

run_none : (p : ℕ → Bool) (more : List ℕ) → begins_with p more ≡ false → run p more ≡ 0
run_none p [] h = refl
run_none p (b ∷ bs) h = if_false (p b) _ _ h

run_all : (p : ℕ → Bool) (s more : List ℕ) → list_all p s ≡ true → begins_with p more ≡ false → run p (s ++ more) ≡ length s
run_all p s more h e = let a = run_append p s more h in let b = run_none p more e in omega arith

-- the branches of a scan

front_word : (b : ℕ) (bs : List ℕ) → is_letter b ≡ true → front_of (b ∷ bs) ≡ word_front (b ∷ bs)
unfolding front_of
front_word b bs h = if_true (is_letter b) _ _ h

digit_no_letter : (b : ℕ) → is_digit b ≡ true → is_letter b ≡ false
digit_no_letter b h = let t = both (nat_le 48 b) (nat_le b 57) h in grind (arith, nat_tests)

front_number : (b : ℕ) (bs : List ℕ) → is_digit b ≡ true → front_of (b ∷ bs) ≡ number_front (b ∷ bs)
unfolding front_of
front_number b bs h = if_false (is_letter b) _ _ (digit_no_letter b h) ∙ if_true (b == 45 || is_digit b) _ _ (or_true_right (b == 45) (is_digit b) h)

front_minus : (bs : List ℕ) → front_of (45 ∷ bs) ≡ number_front (45 ∷ bs)
unfolding front_of
front_minus bs = refl

front_name : (bs : List ℕ) → front_of (34 ∷ bs) ≡ quoted_front bs
unfolding front_of
front_name bs = refl

front_text : (bs : List ℕ) → front_of (39 ∷ bs) ≡ text_front bs
unfolding front_of
front_text bs = refl

-- a number's text at the front

read_whole : (s more : List ℕ) (n : ℕ) → n ≡ length s → number_read (number_of (take n (s ++ more))) (take n (s ++ more)) ≡ number_read (number_of s) s
read_whole s more n e = ap (λ x. number_read (number_of x) x) (ap (λ m. take m (s ++ more)) e ∙ take-append_seam s more)

digits_front : (digits more : List ℕ) → begins_with is_digit digits ≡ true → list_all is_digit digits ≡ true → begins_with is_digit more ≡ false → front_of (digits ++ more) ≡ number_read (number_of digits) digits
digits_front [] more f a e = cc
digits_front (c ∷ cs) more f a e =
    let t = both (nat_le 48 c) (nat_le c 57) f in
    let minus : (c == 45) ≡ false = grind (arith, nat_tests) in
    let len : number_length (c ∷ (cs ++ more)) ≡ length (c ∷ cs) = if_false (c == 45) _ _ minus ∙ run_all is_digit (c ∷ cs) more a e in
    front_number c (cs ++ more) f ∙ read_whole (c ∷ cs) more (number_length (c ∷ (cs ++ more))) len

minus_front : (digits more : List ℕ) → list_all is_digit digits ≡ true → begins_with is_digit more ≡ false → front_of ((45 ∷ digits) ++ more) ≡ number_read (number_of (45 ∷ digits)) (45 ∷ digits)
minus_front digits more a e =
    let r : run is_digit (digits ++ more) ≡ length digits = run_all is_digit digits more a e in
    let len : run is_digit (digits ++ more) + 1 ≡ length (45 ∷ digits) = omega arith in
    front_minus (digits ++ more) ∙ read_whole (45 ∷ digits) more (run is_digit (digits ++ more) + 1) len

-- what is found stands there

abbrev pub Sound : List ℕ → Front → Type 0
Sound text (Found t n) = (more : List ℕ) × TokenAt text t more × (n ≡ length (spelling t))
Sound text OutOfRange = IsOutOfRange text
Sound text Nothing = Unit {0}

each : (text : List ℕ) (c : Bool) (f g : Front) → (c ≡ true → Sound text f) → (c ≡ false → Sound text g) → Sound text (if c then f else g)
each text true f g x y = x refl
each text false f g x y = y refl

taken_step : (p : ℕ → Bool) (b : ℕ) (bs : List ℕ) (x : Bool) → length (take (run p bs) bs) ≡ run p bs → length (take (if x then run p bs + 1 else 0) (b ∷ bs)) ≡ (if x then run p bs + 1 else 0)
taken_step p b bs true h = rw add-one (ap suc h)
taken_step p b bs false h = refl

run_taken : (p : ℕ → Bool) (s : List ℕ) → length (take (run p s) s) ≡ run p s
run_taken p [] = refl
run_taken p (b ∷ bs) = taken_step p b bs (p b) (run_taken p bs)

word_sound : (b : ℕ) (bs : List ℕ) → is_letter b ≡ true → Sound (b ∷ bs) (word_front (b ∷ bs))
word_sound b bs h =
    let w : is_word_byte b ≡ true = or_true (is_letter b) (is_digit b) h in
    let n : run is_word_byte (b ∷ bs) ≡ suc (run is_word_byte bs) = if_true (is_word_byte b) _ _ w ∙ add-one _ in
    let s : take (run is_word_byte (b ∷ bs)) (b ∷ bs) ≡ b ∷ take (run is_word_byte bs) bs = ap (λ k. take k (b ∷ bs)) n in (
      drop (run is_word_byte (b ∷ bs)) (b ∷ bs),
      record {
        is_token = ap is_word s ∙ and_true (is_letter b) _ h (take_run is_word_byte bs);
        spelled = sym (take-append-drop (run is_word_byte (b ∷ bs)) (b ∷ bs));
        ends = tt;
      },
      sym (run_taken is_word_byte (b ∷ bs)),
    )

ends_step : (b : ℕ) (bs : List ℕ) (x : Bool) → begins_with is_digit (drop (if x then run is_digit bs + 1 else run is_digit (b ∷ bs)) (b ∷ bs)) ≡ false
ends_step b bs true = rw add-one (after_run is_digit bs)
ends_step b bs false = after_run is_digit (b ∷ bs)

number_ends : (text : List ℕ) → begins_with is_digit (drop (number_length text) text) ≡ false
number_ends [] = refl
number_ends (b ∷ bs) = ends_step b bs (b == 45)

-- a number that spells no cell, with a digit but 0 in front, is out of range
far : (s : List ℕ) → number_of s ≡ None → (v : ℤ) → s ≡ signed_decimal v → greatest_magnitude < unsigned_abs v
far s none v e = elim (cases_Bool (nat_le (unsigned_abs v) greatest_magnitude)) [
  | inl h ↦ let r : unsigned_abs v ≤ greatest_magnitude = grind (arith, nat_tests) in let k : number_of s ≡ Some v = (law v s).1 (record { range = r; spelled = e }) in cc
  | inr h ↦ grind (arith, nat_tests)
]

nonzero_step : (b : ℕ) (bs : List ℕ) (x : Bool) → (b == 45) ≡ false → begins_nonzero (take (if x then run is_digit bs + 1 else 0) (b ∷ bs)) ≡ true → begins_with is_nonzero_digit (take (if x then run is_digit bs + 1 else 0) (b ∷ bs)) ≡ true
nonzero_step b bs true minus h = let g : begins_nonzero (b ∷ take (run is_digit bs) bs) ≡ true = rw add-one at h in rw add-one (sym (if_false (b == 45) _ _ minus) ∙ g)
nonzero_step b bs false minus h = cc

begins_nonzero_taken : (b : ℕ) (bs : List ℕ) → (b == 45) ≡ false → begins_nonzero (take (run is_digit (b ∷ bs)) (b ∷ bs)) ≡ true → begins_with is_nonzero_digit (take (run is_digit (b ∷ bs)) (b ∷ bs)) ≡ true
begins_nonzero_taken b bs minus h = nonzero_step b bs (is_digit b) minus h

out_plain : (b : ℕ) (bs : List ℕ) → number_of (take (run is_digit (b ∷ bs)) (b ∷ bs)) ≡ None → (b == 45) ≡ false → begins_nonzero (take (run is_digit (b ∷ bs)) (b ∷ bs)) ≡ true → IsOutOfRange (b ∷ bs)
out_plain b bs none minus nonzero =
    let d = begins_nonzero_taken b bs minus nonzero in
    record {
      sign = [];
      digits = take (run is_digit (b ∷ bs)) (b ∷ bs);
      more = drop (run is_digit (b ∷ bs)) (b ∷ bs);
      spelled = sym (take-append-drop (run is_digit (b ∷ bs)) (b ∷ bs));
      is_sign = inl refl;
      first = d;
      are_digits = take_run is_digit (b ∷ bs);
      ends = after_run is_digit (b ∷ bs);
      out = far _ none;
    }

out_minus : (bs : List ℕ) → number_of (take (run is_digit bs + 1) (45 ∷ bs)) ≡ None → begins_nonzero (take (run is_digit bs + 1) (45 ∷ bs)) ≡ true → IsOutOfRange (45 ∷ bs)
out_minus bs none nonzero =
    let t : take (run is_digit bs + 1) (45 ∷ bs) ≡ 45 ∷ take (run is_digit bs) bs = rw add-one refl in
    record {
      sign = 45 ∷ [];
      digits = take (run is_digit bs) bs;
      more = drop (run is_digit bs) bs;
      spelled = ap (λ x. 45 ∷ x) (sym (take-append-drop (run is_digit bs) bs));
      is_sign = inr refl;
      first = sym (ap begins_nonzero t) ∙ nonzero;
      are_digits = take_run is_digit bs;
      ends = after_run is_digit bs;
      out = far (45 ∷ take (run is_digit bs) bs) (sym (ap number_of t) ∙ none);
    }

out_by : (b : ℕ) (bs : List ℕ) (x : Bool) → (b == 45) ≡ x → number_of (take (if x then run is_digit bs + 1 else run is_digit (b ∷ bs)) (b ∷ bs)) ≡ None →
    begins_nonzero (take (if x then run is_digit bs + 1 else run is_digit (b ∷ bs)) (b ∷ bs)) ≡ true → IsOutOfRange (b ∷ bs)
out_by b bs false h none nonzero = out_plain b bs none h nonzero
out_by b bs true h none nonzero = subst (λ k. IsOutOfRange (k ∷ bs)) (sym (same b 45 h)) (out_minus bs
    (subst (λ k. number_of (take (run is_digit bs + 1) (k ∷ bs)) ≡ None) (same b 45 h) none)
    (subst (λ k. begins_nonzero (take (run is_digit bs + 1) (k ∷ bs)) ≡ true) (same b 45 h) nonzero))

number_out : (text : List ℕ) → number_of (take (number_length text) text) ≡ None → begins_nonzero (take (number_length text) text) ≡ true → IsOutOfRange text
number_out [] none nonzero = cc
number_out (b ∷ bs) none nonzero = out_by b bs (b == 45) refl none nonzero

number_sound : (text : List ℕ) (o : Option ℤ) → number_of (take (number_length text) text) ≡ o → Sound text (number_read o (take (number_length text) text))
number_sound text (Some v) h =
    let s = (law v (take (number_length text) text)).0 h in (
      drop (number_length text) text,
      record {
        is_token = s.range;
        spelled = sym (take-append-drop (number_length text) text) ∙ ap (λ x. x ++ drop (number_length text) text) s.spelled;
        ends = number_ends text;
      },
      ap length s.spelled,
    )
number_sound text None h = each text (begins_nonzero (take (number_length text) text)) OutOfRange Nothing (λ b. number_out text h b) (λ b. tt)

quoted_length : (q : ℕ) (content : List ℕ) (n : ℕ) → n ≡ length (doubled q content) + 1 → n + 1 ≡ length (in_quotes q content)
quoted_length q content n e = let l : length (doubled q content ++ (q ∷ [])) ≡ length (doubled q content) + 1 = length-append (doubled q content) (q ∷ []) in omega arith

name_sound : (bs : List ℕ) (o : Option (List ℕ × ℕ)) → ReadsQuoted 34 bs o → Sound (34 ∷ bs) (name_read o)
name_sound bs None r = tt
name_sound bs (Some ([], n)) r = tt
name_sound bs (Some (c ∷ cs, n)) (more, te, ne) = (more, record { is_token = λ e. cc; spelled = ap (λ x. 34 ∷ x) te; ends = tt }, quoted_length 34 (c ∷ cs) n ne)

text_sound : (bs : List ℕ) (o : Option (List ℕ × ℕ)) → ReadsQuoted 39 bs o → Sound (39 ∷ bs) (text_read o)
text_sound bs None r = tt
text_sound bs (Some r) (more, te, ne) = (more, record { is_token = tt; spelled = ap (λ x. 39 ∷ x) te; ends = tt }, quoted_length 39 r.0 r.1 ne)

-- a sign of one byte, and of two
one : (b k : ℕ) (bs : List ℕ) (s : Symbol) → (b == k) ≡ true → symbol_spelling s ≡ k ∷ [] → Sound (b ∷ bs) (Found (token.Symbol s) 1)
one b k bs s h e = (bs, record { is_token = tt; spelled = ap (λ x. x ∷ bs) (same b k h) ∙ sym (ap (λ x. x ++ bs) e); ends = tt }, sym (ap length e))

two : (b k c l : ℕ) (cs : List ℕ) (s : Symbol) → (b == k) ≡ true → (c == l) ≡ true → symbol_spelling s ≡ k ∷ l ∷ [] → Sound (b ∷ c ∷ cs) (Found (token.Symbol s) 2)
two b k c l cs s h i e = (cs, record { is_token = tt; spelled = ap₂ (λ x y. x ∷ y ∷ cs) (same b k h) (same c l i) ∙ sym (ap (λ x. x ++ cs) e); ends = tt }, sym (ap length e))

less_sound : (b : ℕ) (bs : List ℕ) → (b == 60) ≡ true → Sound (b ∷ bs) (less_front bs)
less_sound b [] h = one b 60 [] symbol.Lt h refl
less_sound b (c ∷ cs) h = each (b ∷ c ∷ cs) (c == 61) _ _ (λ i. two b 60 c 61 cs symbol.Le h i refl)
    (λ x. each (b ∷ c ∷ cs) (c == 62) _ _ (λ i. two b 60 c 62 cs symbol.Ne h i refl) (λ y. one b 60 (c ∷ cs) symbol.Lt h refl))

greater_sound : (b : ℕ) (bs : List ℕ) → (b == 62) ≡ true → Sound (b ∷ bs) (greater_front bs)
greater_sound b [] h = one b 62 [] symbol.Gt h refl
greater_sound b (c ∷ cs) h = each (b ∷ c ∷ cs) (c == 61) _ _ (λ i. two b 62 c 61 cs symbol.Ge h i refl) (λ x. one b 62 (c ∷ cs) symbol.Gt h refl)

symbol_sound : (b : ℕ) (bs : List ℕ) → Sound (b ∷ bs) (symbol_front b bs)
symbol_sound b bs =
    each (b ∷ bs) (b == 60) _ _ (less_sound b bs) (λ _.
    each (b ∷ bs) (b == 62) _ _ (greater_sound b bs) (λ _.
    each (b ∷ bs) (b == 61) _ _ (λ h. one b 61 bs symbol.Eq h refl) (λ _.
    each (b ∷ bs) (b == 40) _ _ (λ h. one b 40 bs symbol.LeftParen h refl) (λ _.
    each (b ∷ bs) (b == 41) _ _ (λ h. one b 41 bs symbol.RightParen h refl) (λ _.
    each (b ∷ bs) (b == 44) _ _ (λ h. one b 44 bs symbol.Comma h refl) (λ _.
    each (b ∷ bs) (b == 46) _ _ (λ h. one b 46 bs symbol.Dot h refl) (λ _.
    each (b ∷ bs) (b == 42) _ _ (λ h. one b 42 bs symbol.Star h refl) (λ _.
    each (b ∷ bs) (b == 59) _ _ (λ h. one b 59 bs symbol.Semicolon h refl) (λ _. tt)))))))))

pub front_sound : (text : List ℕ) → Sound text (front_of text)
unfolding front_of
front_sound [] = tt
front_sound (b ∷ bs) =
    each (b ∷ bs) (is_letter b) _ _ (word_sound b bs) (λ _.
    each (b ∷ bs) (b == 45 || is_digit b) _ _ (λ _. number_sound (b ∷ bs) _ refl) (λ _.
    each (b ∷ bs) (b == 34) _ _ (λ h. subst (λ k. Sound (k ∷ bs) (quoted_front bs)) (sym (same b 34 h)) (name_sound bs (quoted_of 34 bs) (reads_quoted 34 bs))) (λ _.
    each (b ∷ bs) (b == 39) _ _ (λ h. subst (λ k. Sound (k ∷ bs) (text_front bs)) (sym (same b 39 h)) (text_sound bs (quoted_of 39 bs) (reads_quoted 39 bs))) (λ _. symbol_sound b bs))))

-- what stands there is found, or a longer token

abbrev pub Covers : Front → Token → Type 0
Covers (Found u n) t = (length (spelling t) < n) ⊎ ((u ≡ t) × (n ≡ length (spelling t)))
Covers OutOfRange t = ⊥
Covers Nothing t = ⊥

covers_along : (f g : Front) (t : Token) → f ≡ g → Covers g t → Covers f t
covers_along f g t e h = subst (λ x. Covers x t) (sym e) h

word_covered : (w more : List ℕ) (k n : ℕ) → n ≡ length w + k → Covers (Found (token.Word (take n (w ++ more))) n) (token.Word w)
word_covered w more zero n e = let m : n ≡ length w = omega arith in inr (ap token.Word (ap (λ k. take k (w ++ more)) m ∙ take-append_seam w more), m)
word_covered w more (suc k) n e = inl (omega arith)

covers_word : (w more : List ℕ) → is_word w ≡ true → Covers (front_of (w ++ more)) (token.Word w)
covers_word [] more h = cc
covers_word (b ∷ bs) more h =
    let t = both (is_letter b) (list_all is_word_byte bs) h in
    let a : list_all is_word_byte (b ∷ bs) ≡ true = and_true (is_word_byte b) _ (or_true (is_letter b) (is_digit b) t.0) t.1 in
    covers_along _ _ _ (front_word b (bs ++ more) t.0) (word_covered (b ∷ bs) more (run is_word_byte more) _ (run_append is_word_byte (b ∷ bs) more a))

name_covered : (bs : List ℕ) (o : Option (List ℕ × ℕ)) (content : List ℕ) → (content ≡ [] → ⊥) → ReadsQuoted 34 bs o → CoversQuoted o content (length (doubled 34 content) + 1) → Covers (name_read o) (token.Quoted content)
name_covered bs None content ne r h = absurd h
name_covered bs (Some ([], n)) content ne (more, te, ne2) (inl h) = absurd (omega arith)
name_covered bs (Some ([], n)) content ne r (inr (c, e)) = absurd (ne (sym c))
name_covered bs (Some (c ∷ cs, n)) content ne r (inl h) = inl (let q = quoted_length 34 content (length (doubled 34 content) + 1) refl in omega arith)
name_covered bs (Some (c ∷ cs, n)) content ne r (inr (s, e)) = inr (ap token.Quoted s, quoted_length 34 content n e)

text_covered : (o : Option (List ℕ × ℕ)) (content : List ℕ) → CoversQuoted o content (length (doubled 39 content) + 1) → Covers (text_read o) (token.Text content)
text_covered None content h = absurd h
text_covered (Some r) content (inl h) = inl (let q = quoted_length 39 content (length (doubled 39 content) + 1) refl in omega arith)
text_covered (Some r) content (inr (s, e)) = inr (ap token.Text s, quoted_length 39 content r.1 e)

digits_list : (ds : List ℕ) → all_ascii_digits ds ≡ true → list_all is_digit ds ≡ true
digits_list [] h = refl
digits_list (c ∷ cs) h = let t = both (is_digit c) (all_ascii_digits cs) h in and_true (is_digit c) _ t.0 (digits_list cs t.1)

first_digit : (ds : List ℕ) → 0 < length ds → list_all is_digit ds ≡ true → begins_with is_digit ds ≡ true
first_digit [] l h = absurd (omega arith)
first_digit (c ∷ cs) l h = (both (is_digit c) (list_all is_digit cs) h).0

decimal_digits : (n : ℕ) → n < 2 ^ 64 → list_all is_digit (decimal n) ≡ true
decimal_digits n fits = digits_list (decimal n) (digits_decimal own n fits)

covers_number : (v : ℤ) (more : List ℕ) → unsigned_abs v ≤ greatest_magnitude → begins_with is_digit more ≡ false → front_of (signed_decimal v ++ more) ≡ Found (token.Number v) (length (signed_decimal v))
covers_number (pos n) more r e =
    let fits : n < 2 ^ 64 = omega arith in
    let a = decimal_digits n fits in
    digits_front (decimal n) more (first_digit (decimal n) (decimal_nonempty n fits) a) a e
    ∙ ap (λ o. number_read o (decimal n)) ((law (pos n) (decimal n)).1 (record { range = r; spelled = refl }))
covers_number (negsuc n) more r e =
    let fits : suc n < 2 ^ 64 = omega arith in
    minus_front (decimal (suc n)) more (decimal_digits (suc n) fits) e
    ∙ ap (λ o. number_read o (45 ∷ decimal (suc n))) ((law (negsuc n) (45 ∷ decimal (suc n))).1 (record { range = r; spelled = refl }))

less_covered : (x y : Bool) → Covers (if x then Found (token.Symbol symbol.Le) 2 else if y then Found (token.Symbol symbol.Ne) 2 else Found (token.Symbol symbol.Lt) 1) (token.Symbol symbol.Lt)
less_covered true y = inl (omega arith)
less_covered false true = inl (omega arith)
less_covered false false = inr (refl, refl)

greater_covered : (x : Bool) → Covers (if x then Found (token.Symbol symbol.Ge) 2 else Found (token.Symbol symbol.Gt) 1) (token.Symbol symbol.Gt)
greater_covered true = inl (omega arith)
greater_covered false = inr (refl, refl)

covers_symbol : (s : Symbol) (more : List ℕ) → Covers (front_of (symbol_spelling s ++ more)) (token.Symbol s)
unfolding front_of
covers_symbol symbol.Eq more = inr (refl, refl)
covers_symbol symbol.Ne more = inr (refl, refl)
covers_symbol symbol.Lt [] = inr (refl, refl)
covers_symbol symbol.Lt (c ∷ cs) = less_covered (c == 61) (c == 62)
covers_symbol symbol.Le more = inr (refl, refl)
covers_symbol symbol.Gt [] = inr (refl, refl)
covers_symbol symbol.Gt (c ∷ cs) = greater_covered (c == 61)
covers_symbol symbol.Ge more = inr (refl, refl)
covers_symbol symbol.LeftParen more = inr (refl, refl)
covers_symbol symbol.RightParen more = inr (refl, refl)
covers_symbol symbol.Comma more = inr (refl, refl)
covers_symbol symbol.Dot more = inr (refl, refl)
covers_symbol symbol.Star more = inr (refl, refl)
covers_symbol symbol.Semicolon more = inr (refl, refl)

covers_spelled : (t : Token) (more : List ℕ) → IsToken t → Ends t more → Covers (front_of (spelling t ++ more)) t
covers_spelled (token.Word w) more is e = covers_word w more is
covers_spelled (token.Quoted name) more is e = covers_along _ _ _ (front_name _) (name_covered _ _ name is (reads_quoted 34 _) (covers_quoted 34 name more refl))
covers_spelled (token.Number v) more is e = covers_along _ _ _ (covers_number v more is e) (inr (refl, refl))
covers_spelled (token.Text text) more is e = covers_along _ _ _ (front_text _) (text_covered _ text (covers_quoted 39 text more refl))
covers_spelled (token.Symbol s) more is e = covers_symbol s more

pub front_covers : (text : List ℕ) (t : Token) (more : List ℕ) → TokenAt text t more → Covers (front_of text) t
front_covers text t more h = subst (λ x. Covers (front_of x) t) (sym h.spelled) (covers_spelled t more h.is_token h.ends)

-- a number out of range is found as that

nonzero_first : (digits : List ℕ) → begins_with is_nonzero_digit digits ≡ true → begins_with is_digit digits ≡ true
nonzero_first [] h = h
nonzero_first (c ∷ cs) h = (both (is_digit c) (not (c == 48)) h).0

nonzero_begins : (digits : List ℕ) → begins_with is_nonzero_digit digits ≡ true → begins_nonzero digits ≡ true
nonzero_begins [] h = h
nonzero_begins (c ∷ cs) h =
    let d = (both (is_digit c) (not (c == 48)) h).0 in
    let t = both (nat_le 48 c) (nat_le c 57) d in
    let minus : (c == 45) ≡ false = grind (arith, nat_tests) in
    if_false (c == 45) _ _ minus ∙ h

none_far : (s : List ℕ) (o : Option ℤ) → number_of s ≡ o → ((v : ℤ) → s ≡ signed_decimal v → greatest_magnitude < unsigned_abs v) → o ≡ None
none_far s None h out = refl
none_far s (Some v) h out = let c = (law v s).0 h in let r = c.range in let f = out v c.spelled in absurd (omega arith)

out_read : (s : List ℕ) → number_of s ≡ None → begins_nonzero s ≡ true → number_read (number_of s) s ≡ OutOfRange
out_read s none b = ap (λ o. number_read o s) none ∙ if_true (begins_nonzero s) _ _ b

out_front : (sign digits more : List ℕ) → (sign ≡ []) ⊎ (sign ≡ 45 ∷ []) → begins_with is_nonzero_digit digits ≡ true → list_all is_digit digits ≡ true → begins_with is_digit more ≡ false →
    ((v : ℤ) → sign ++ digits ≡ signed_decimal v → greatest_magnitude < unsigned_abs v) → front_of ((sign ++ digits) ++ more) ≡ OutOfRange
out_front sign digits more (inl s) f a e out =
    let none = none_far (sign ++ digits) (number_of (sign ++ digits)) refl out in
    let w : sign ++ digits ≡ digits = ap (λ x. x ++ digits) s in
    ap (λ x. front_of (x ++ more)) w ∙ digits_front digits more (nonzero_first digits f) a e ∙ out_read digits (sym (ap number_of w) ∙ none) (nonzero_begins digits f)
out_front sign digits more (inr s) f a e out =
    let none = none_far (sign ++ digits) (number_of (sign ++ digits)) refl out in
    let w : sign ++ digits ≡ 45 ∷ digits = ap (λ x. x ++ digits) s in
    ap (λ x. front_of (x ++ more)) w ∙ minus_front digits more a e ∙ out_read (45 ∷ digits) (sym (ap number_of w) ∙ none) f

pub front_out : (text : List ℕ) → IsOutOfRange text → front_of text ≡ OutOfRange
front_out text r = ap front_of r.spelled ∙ out_front r.sign r.digits r.more r.is_sign r.first r.are_digits r.ends r.out

-- no token begins with a blank
at_blank : (k b : ℕ) (bs : List ℕ) → front_of (k ∷ bs) ≡ Nothing → b ≡ k → front_of (b ∷ bs) ≡ Nothing
at_blank k b bs h e = ap (λ k. front_of (k ∷ bs)) e ∙ h

blank_cases : (b : ℕ) (bs : List ℕ) (w x y z : Bool) → (b == 32) ≡ w → (b == 9) ≡ x → (b == 13) ≡ y → (b == 10) ≡ z → (w || x || y || z) ≡ true → front_of (b ∷ bs) ≡ Nothing
unfolding front_of
blank_cases b bs true x y z h i j k e = at_blank 32 b bs refl (same b 32 h)
blank_cases b bs false true y z h i j k e = at_blank 9 b bs refl (same b 9 i)
blank_cases b bs false false true z h i j k e = at_blank 13 b bs refl (same b 13 j)
blank_cases b bs false false false true h i j k e = at_blank 10 b bs refl (same b 10 k)
blank_cases b bs false false false false h i j k e = cc

pub front_blank : (b : ℕ) (bs : List ℕ) → is_blank b ≡ true → front_of (b ∷ bs) ≡ Nothing
front_blank b bs e = blank_cases b bs (b == 32) (b == 9) (b == 13) (b == 10) refl refl refl refl e

symbol_some : (s : Symbol) → 0 < length (symbol_spelling s)
symbol_some symbol.Eq = omega arith
symbol_some symbol.Ne = omega arith
symbol_some symbol.Lt = omega arith
symbol_some symbol.Le = omega arith
symbol_some symbol.Gt = omega arith
symbol_some symbol.Ge = omega arith
symbol_some symbol.LeftParen = omega arith
symbol_some symbol.RightParen = omega arith
symbol_some symbol.Comma = omega arith
symbol_some symbol.Dot = omega arith
symbol_some symbol.Star = omega arith
symbol_some symbol.Semicolon = omega arith

word_some : (w : List ℕ) → is_word w ≡ true → 0 < length w
word_some [] h = cc
word_some (b ∷ bs) h = omega arith

-- no token is empty
pub spelling_some : (t : Token) → IsToken t → 0 < length (spelling t)
spelling_some (token.Word w) is = word_some w is
spelling_some (token.Quoted name) is = omega arith
spelling_some (token.Number (pos n)) is = decimal_nonempty n (omega arith)
spelling_some (token.Number (negsuc n)) is = omega arith
spelling_some (token.Text text) is = omega arith
spelling_some (token.Symbol s) is = symbol_some s
