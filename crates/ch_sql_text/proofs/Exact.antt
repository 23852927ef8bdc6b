-- A printed token is what a scan finds at its place.
use Rattle.std.proofs.Common.{◌≡◌, ℕ, ◌+◌, ◌^◌, ◌<◌, ◌≤◌, ◌==◌, ◌||◌, inl, inr, suc, Bool, true, false, List, [], ◌∷◌, ◌++◌, length, take, Some, refl, sym, ap, ap₂, ◌∙◌, append_assoc, append-nil, if◌then◌else◌, arith, length-append}
use Rattle.std.specs.Prelude.{ℤ, pos, negsuc, nat_le}
use Rattle.std.specs.Str.{all_ascii_digits}
use Rattle.std.specs.Fmt.{decimal, signed_decimal}
use Rattle.std.specs.Int.RustNames.{unsigned_abs}
use Rattle.std.proofs.lemmas.Bool.Decides.{nat_tests}
use Rattle.std.proofs.lemmas.Fmt.{digits_decimal, decimal_nonempty}
use Rattle.std.proofs.lemmas.List.{take-append-le}
use Rattle.ch_cells.specs.Number.{greatest_magnitude, is_digit, number_of}
use Rattle.ch_cells.proofs.Spelling.{own}
use Rattle.ch_sql_tokens.specs.declared.token.Token.{Token}
use Rattle.ch_sql_tokens.specs.declared.token.Token.TheVariants as token
use Rattle.ch_sql_tokens.specs.declared.token.Symbol.{Symbol}
use Rattle.ch_sql_tokens.specs.declared.token.Symbol.TheVariants as symbol
use Rattle.ch_sql_tokens.specs.declared.scanner.Front.{Front}
use Rattle.ch_sql_tokens.specs.declared.scanner.Front.TheVariants.{Found, OutOfRange, Nothing}
use Rattle.ch_sql_tokens.specs.Byte.{is_letter, is_word_byte, begins_with, run}
use Rattle.ch_sql_tokens.specs.Quote.{quoted_of, with_byte, or_else}
use Rattle.ch_sql_tokens.specs.Spelling.{symbol_spelling, doubled, in_quotes, spelling, is_word, IsToken, Ends}
use Rattle.ch_sql_tokens.specs.Scan.{number_read, number_front, word_front, name_read, quoted_front, text_read, text_front, front_of}
use Rattle.ch_sql_tokens.proofs.Bools.{if_true, if_false, both, or_true_right, same}
use Rattle.ch_sql_tokens.proofs.QuoteRules.{plain_cons, double_cons, last_cons, NoQuote}
use Rattle.ch_sql_tokens.proofs.Fronts.{Covers, front_covers}
use Rattle.ch_sql_tokens.proofs.Lexing.{front_within}

-- the bytes that may stand behind a token: a space, `,`, `)`, `.` and `(`
abbrev pub is_stop : ℕ → Bool
is_stop b = b == 32 || b == 44 || b == 41 || b == 46 || b == 40

-- the text ends, or one of them comes
abbrev pub Stops : List ℕ → Type 0
Stops [] = Unit {0}
Stops (b ∷ bs) = is_stop b ≡ true

stop_cases : (p : ℕ → Bool) (b : ℕ) (u v w x y : Bool) → (b == 32) ≡ u → (b == 44) ≡ v → (b == 41) ≡ w → (b == 46) ≡ x → (b == 40) ≡ y →
    p 32 ≡ false → p 44 ≡ false → p 41 ≡ false → p 46 ≡ false → p 40 ≡ false → (u || v || w || x || y) ≡ true → p b ≡ false
stop_cases p b true v w x y h i j k l a c d e f s = ap p (same b 32 h) ∙ a
stop_cases p b false true w x y h i j k l a c d e f s = ap p (same b 44 i) ∙ c
stop_cases p b false false true x y h i j k l a c d e f s = ap p (same b 41 j) ∙ d
stop_cases p b false false false true y h i j k l a c d e f s = ap p (same b 46 k) ∙ e
stop_cases p b false false false false true h i j k l a c d e f s = ap p (same b 40 l) ∙ f
stop_cases p b false false false false false h i j k l a c d e f s = cc

-- a test that none of them passes
stops_test : (p : ℕ → Bool) → p 32 ≡ false → p 44 ≡ false → p 41 ≡ false → p 46 ≡ false → p 40 ≡ false → (more : List ℕ) → Stops more → begins_with p more ≡ false
stops_test p a c d e f [] s = refl
stops_test p a c d e f (b ∷ bs) s = stop_cases p b _ _ _ _ _ refl refl refl refl refl a c d e f s

-- a token alone is found

ends_alone : (t : Token) → Ends t []
ends_alone (token.Word w) = tt
ends_alone (token.Quoted name) = tt
ends_alone (token.Number v) = refl
ends_alone (token.Text text) = tt
ends_alone (token.Symbol s) = tt

alone_is : (t : Token) (f : Front) → front_of (spelling t) ≡ f → Covers f t → f ≡ Found t (length (spelling t))
alone_is t (Found u n) e (inl longer) = let w = front_within (spelling t) u n e in absurd (omega (arith, w.1))
alone_is t (Found u n) e (inr (which, len)) = ap₂ Found which len
alone_is t OutOfRange e c = absurd c
alone_is t Nothing e c = absurd c

alone : (t : Token) → IsToken t → front_of (spelling t) ≡ Found t (length (spelling t))
alone t is = alone_is t (front_of (spelling t)) refl (front_covers (spelling t) t [] (record { is_token = is; spelled = sym (append-nil (spelling t)); ends = ends_alone t }))

-- words and numbers

run_step : (p : ℕ → Bool) (b : ℕ) (x : Bool) (m n : ℕ) → m ≡ n → (if x then m + 1 else 0) ≡ (if x then n + 1 else 0)
run_step p b true m n e = ap (λ k. k + 1) e
run_step p b false m n e = refl

run_none : (p : ℕ → Bool) (more : List ℕ) → begins_with p more ≡ false → run p more ≡ 0
run_none p [] h = refl
run_none p (b ∷ bs) h = if_false (p b) _ _ h

run_apart : (p : ℕ → Bool) (s more : List ℕ) → begins_with p more ≡ false → run p (s ++ more) ≡ run p s
run_apart p [] more h = run_none p more h
run_apart p (b ∷ bs) more h = run_step p b (p b) _ _ (run_apart p bs more h)

run_within_step : (x : Bool) (n : ℕ) (bs : List ℕ) → n ≤ length bs → (if x then n + 1 else 0) ≤ suc (length bs)
run_within_step true n bs h = omega arith
run_within_step false n bs h = omega arith

run_within : (p : ℕ → Bool) (s : List ℕ) → run p s ≤ length s
run_within p [] = omega arith
run_within p (b ∷ bs) = run_within_step (p b) (run p bs) bs (run_within p bs)

taken_apart : (n m : ℕ) (s more : List ℕ) → n ≡ m → m ≤ length s → take n (s ++ more) ≡ take m s
taken_apart n m s more e h = ap (λ k. take k (s ++ more)) e ∙ take-append-le m s more h

word_apart : (s more : List ℕ) → Stops more → word_front (s ++ more) ≡ word_front s
word_apart s more h =
    let e = run_apart is_word_byte s more (stops_test is_word_byte refl refl refl refl refl more h) in
    ap₂ (λ w n. Found (token.Word w) n) (taken_apart _ _ s more e (run_within is_word_byte s)) e

front_word : (b : ℕ) (bs : List ℕ) → is_letter b ≡ true → front_of (b ∷ bs) ≡ word_front (b ∷ bs)
unfolding front_of
front_word b bs h = if_true (is_letter b) _ _ h

exact_word : (w more : List ℕ) → is_word w ≡ true → Stops more → front_of (w ++ more) ≡ Found (token.Word w) (length w)
exact_word [] more is h = cc
exact_word (b ∷ bs) more is h =
    let letter = (both (is_letter b) _ is).0 in
    front_word b (bs ++ more) letter ∙ word_apart (b ∷ bs) more h ∙ sym (front_word b bs letter) ∙ alone (token.Word (b ∷ bs)) is

length_apart_step : (x : Bool) (b : ℕ) (bs more : List ℕ) → begins_with is_digit more ≡ false →
    (if x then run is_digit (bs ++ more) + 1 else run is_digit (b ∷ (bs ++ more))) ≡ (if x then run is_digit bs + 1 else run is_digit (b ∷ bs))
length_apart_step true b bs more h = ap (λ k. k + 1) (run_apart is_digit bs more h)
length_apart_step false b bs more h = run_apart is_digit (b ∷ bs) more h

length_within_step : (x : Bool) (b : ℕ) (bs : List ℕ) → (if x then run is_digit bs + 1 else run is_digit (b ∷ bs)) ≤ suc (length bs)
length_within_step true b bs = let h = run_within is_digit bs in omega arith
length_within_step false b bs = run_within is_digit (b ∷ bs)

number_apart : (b : ℕ) (bs more : List ℕ) → Stops more → number_front ((b ∷ bs) ++ more) ≡ number_front (b ∷ bs)
number_apart b bs more h =
    let e = length_apart_step (b == 45) b bs more (stops_test is_digit refl refl refl refl refl more h) in
    ap (λ s. number_read (number_of s) s) (taken_apart _ _ (b ∷ bs) more e (length_within_step (b == 45) b bs))

front_number : (b : ℕ) (bs : List ℕ) → is_digit b ≡ true → front_of (b ∷ bs) ≡ number_front (b ∷ bs)
unfolding front_of
front_number b bs h =
    let t = both (nat_le 48 b) (nat_le b 57) h in
    let no_letter : is_letter b ≡ false = grind (arith, nat_tests) in
    if_false (is_letter b) _ _ no_letter ∙ if_true (b == 45 || is_digit b) _ _ (or_true_right (b == 45) (is_digit b) h)

front_minus : (bs : List ℕ) → front_of (45 ∷ bs) ≡ number_front (45 ∷ bs)
unfolding front_of
front_minus bs = refl

exact_digits : (digits more : List ℕ) → 0 < length digits → all_ascii_digits digits ≡ true → Stops more → front_of (digits ++ more) ≡ front_of digits
exact_digits [] more some all h = absurd (omega arith)
exact_digits (c ∷ cs) more some all h =
    let digit = (both (is_digit c) (all_ascii_digits cs) all).0 in
    front_number c (cs ++ more) digit ∙ number_apart c cs more h ∙ sym (front_number c cs digit)

exact_number : (v : ℤ) (more : List ℕ) → unsigned_abs v ≤ greatest_magnitude → Stops more → front_of (signed_decimal v ++ more) ≡ Found (token.Number v) (length (signed_decimal v))
exact_number (pos n) more range h =
    let fits : n < 2 ^ 64 = omega arith in
    exact_digits (decimal n) more (decimal_nonempty n fits) (digits_decimal own n fits) h ∙ alone (token.Number (pos n)) range
exact_number (negsuc n) more range h =
    front_minus (decimal (suc n) ++ more) ∙ number_apart 45 (decimal (suc n)) more h ∙ sym (front_minus (decimal (suc n))) ∙ alone (token.Number (negsuc n)) range

-- what stands in quotes

stops_quote : (q : ℕ) → (32 == q) ≡ false → (44 == q) ≡ false → (41 == q) ≡ false → (46 == q) ≡ false → (40 == q) ≡ false → (more : List ℕ) → Stops more → NoQuote q more
stops_quote q a c d e f [] h = tt
stops_quote q a c d e f (b ∷ bs) h = stops_test (λ k. k == q) a c d e f (b ∷ bs) h

quoted_step : (q b : ℕ) (bs more : List ℕ) (x : Bool) → (b == q) ≡ x → (q == q) ≡ true → quoted_of q (doubled q bs ++ (q ∷ more)) ≡ Some (bs, length (doubled q bs) + 1) →
    quoted_of q ((if x then q ∷ q ∷ doubled q bs else b ∷ doubled q bs) ++ (q ∷ more)) ≡ Some (b ∷ bs, length (if x then q ∷ q ∷ doubled q bs else b ∷ doubled q bs) + 1)
quoted_step q b bs more true h r e =
    double_cons q q q (doubled q bs ++ (q ∷ more)) r r ∙ ap (λ o. or_else (with_byte q 2 o) (Some ([], 1))) e
    ∙ ap₂ (λ k n. Some (k ∷ bs, n)) (sym (same b q h)) (let n : length (doubled q bs) + 1 + 2 ≡ length (q ∷ q ∷ doubled q bs) + 1 = omega arith in n)
quoted_step q b bs more false h r e =
    plain_cons q b (doubled q bs ++ (q ∷ more)) h ∙ ap (λ o. with_byte b 1 o) e
    ∙ ap (λ n. Some (b ∷ bs, n)) (let n : length (doubled q bs) + 1 + 1 ≡ length (b ∷ doubled q bs) + 1 = omega arith in n)

quoted_exact : (q : ℕ) (content more : List ℕ) → (q == q) ≡ true → NoQuote q more → quoted_of q (doubled q content ++ (q ∷ more)) ≡ Some (content, length (doubled q content) + 1)
quoted_exact q [] more r h = last_cons q q more r h
quoted_exact q (b ∷ bs) more r h = quoted_step q b bs more (b == q) refl r (quoted_exact q bs more r h)

quotes_length : (q : ℕ) (content : List ℕ) → length (doubled q content) + 1 + 1 ≡ length (in_quotes q content)
quotes_length q content = let l : length (doubled q content ++ (q ∷ [])) ≡ length (doubled q content) + 1 = length-append (doubled q content) (q ∷ []) in omega arith

front_name : (bs : List ℕ) → front_of (34 ∷ bs) ≡ quoted_front bs
unfolding front_of
front_name bs = refl

front_text : (bs : List ℕ) → front_of (39 ∷ bs) ≡ text_front bs
unfolding front_of
front_text bs = refl

exact_name : (name more : List ℕ) → (name ≡ [] → ⊥) → Stops more → front_of (in_quotes 34 name ++ more) ≡ Found (token.Quoted name) (length (in_quotes 34 name))
exact_name [] more is h = absurd (is refl)
exact_name (b ∷ bs) more is h =
    front_name _ ∙ ap quoted_front (append_assoc (doubled 34 (b ∷ bs)) (34 ∷ []) more)
    ∙ ap name_read (quoted_exact 34 (b ∷ bs) more refl (stops_quote 34 refl refl refl refl refl more h))
    ∙ ap (λ n. Found (token.Quoted (b ∷ bs)) n) (quotes_length 34 (b ∷ bs))

exact_text : (text more : List ℕ) → Stops more → front_of (in_quotes 39 text ++ more) ≡ Found (token.Text text) (length (in_quotes 39 text))
exact_text text more h =
    front_text _ ∙ ap text_front (append_assoc (doubled 39 text) (39 ∷ []) more)
    ∙ ap text_read (quoted_exact 39 text more refl (stops_quote 39 refl refl refl refl refl more h))
    ∙ ap (λ n. Found (token.Text text) n) (quotes_length 39 text)

-- signs

abbrev less_or : Bool → Bool → Front
less_or x y = if x then Found (token.Symbol symbol.Le) 2 else if y then Found (token.Symbol symbol.Ne) 2 else Found (token.Symbol symbol.Lt) 1

exact_less : (c : ℕ) → is_stop c ≡ true → less_or (c == 61) (c == 62) ≡ less_or false false
exact_less c h = ap₂ less_or (stops_test (λ b. b == 61) refl refl refl refl refl (c ∷ []) h) (stops_test (λ b. b == 62) refl refl refl refl refl (c ∷ []) h)

abbrev greater_or : Bool → Front
greater_or x = if x then Found (token.Symbol symbol.Ge) 2 else Found (token.Symbol symbol.Gt) 1

exact_greater : (c : ℕ) → is_stop c ≡ true → greater_or (c == 61) ≡ greater_or false
exact_greater c h = ap greater_or (stops_test (λ b. b == 61) refl refl refl refl refl (c ∷ []) h)

exact_symbol : (s : Symbol) (more : List ℕ) → Stops more → front_of (symbol_spelling s ++ more) ≡ Found (token.Symbol s) (length (symbol_spelling s))
unfolding front_of
exact_symbol symbol.Lt [] h = refl
exact_symbol symbol.Lt (c ∷ cs) h = exact_less c h
exact_symbol symbol.Gt [] h = refl
exact_symbol symbol.Gt (c ∷ cs) h = exact_greater c h
exact_symbol symbol.Eq more h = refl
exact_symbol symbol.Ne more h = refl
exact_symbol symbol.Le more h = refl
exact_symbol symbol.Ge more h = refl
exact_symbol symbol.LeftParen more h = refl
exact_symbol symbol.RightParen more h = refl
exact_symbol symbol.Comma more h = refl
exact_symbol symbol.Dot more h = refl
exact_symbol symbol.Star more h = refl
exact_symbol symbol.Semicolon more h = refl

-- a parenthesis and a dot, whatever comes
pub exact_paren : (more : List ℕ) → front_of (40 ∷ more) ≡ Found (token.Symbol symbol.LeftParen) 1
unfolding front_of
exact_paren more = refl

pub exact_dot : (more : List ℕ) → front_of (46 ∷ more) ≡ Found (token.Symbol symbol.Dot) 1
unfolding front_of
exact_dot more = refl

-- any token before a stop
pub exact : (t : Token) (more : List ℕ) → IsToken t → Stops more → front_of (spelling t ++ more) ≡ Found t (length (spelling t))
exact (token.Word w) more is h = exact_word w more is h
exact (token.Quoted name) more is h = exact_name name more is h
exact (token.Number v) more is h = exact_number v more is h
exact (token.Text text) more is h = exact_text text more h
exact (token.Symbol s) more is h = exact_symbol s more h
