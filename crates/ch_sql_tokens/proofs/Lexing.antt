-- The scan gives the tokens that a text stands for, or the first place where none stands.
use Rattle.std.proofs.Common.{◌≡◌, ℕ, ◌+◌, ◌-◌, ◌<◌, ◌≤◌, inl, inr, suc, zero, Bool, true, false, not, List, [], ◌∷◌, ◌++◌, length, drop, Result, Ok, Err, IfOk, IfErr, refl, sym, ap, ap₂, ◌∙◌, if◌then◌else◌, arith, subst, length-append}
use Rattle.std.specs.List.{list_all}
use Rattle.std.proofs.lemmas.Bool.{cases_Bool}
use Rattle.std.proofs.Math.Seq.{drop-append_seam}
use Rattle.ch_sql_tokens.specs.declared.token.Token.{Token}
use Rattle.ch_sql_tokens.specs.declared.error.LexError.{LexError}
use Rattle.ch_sql_tokens.specs.declared.error.LexError.TheVariants as error
use Rattle.ch_sql_tokens.specs.declared.scanner.Front.{Front}
use Rattle.ch_sql_tokens.specs.declared.scanner.Front.TheVariants.{Found, OutOfRange, Nothing}
use Rattle.ch_sql_tokens.specs.Byte.{is_blank, begins_with}
use Rattle.ch_sql_tokens.specs.Spelling.{spelling, TokenAt}
use Rattle.ch_sql_tokens.specs.Lexed.{LongestAt, Reads, IsLexed, IsQueryText, IsOutOfRange, IsLexError, Lexes}
use Rattle.ch_sql_tokens.specs.Scan.{front_of, taken, with_token, lex_from, lex_at, lex_of, Scans}
use Rattle.ch_sql_tokens.proofs.Bools.{if_true, both, and_true}
use Rattle.ch_sql_tokens.proofs.ScanRules.{scan_cons}
use Rattle.ch_sql_tokens.proofs.Fronts.{Sound, front_sound, Covers, front_covers, front_out, front_blank, spelling_some}

-- the longest token is what the scan finds

covered_length : (u t : Token) (n : ℕ) → n ≡ length (spelling t) → Covers (Found t n) u → length (spelling u) ≤ length (spelling t)
covered_length u t n l (inl h) = omega arith
covered_length u t n l (inr (same, m)) = omega (arith, ap (λ x. length (spelling x)) same)

long_enough : (u : Token) (f : Front) (t : Token) (n : ℕ) → f ≡ Found t n → n ≡ length (spelling t) → Covers f u → length (spelling u) ≤ length (spelling t)
long_enough u f t n e l h = covered_length u t n l (subst (λ x. Covers x u) e h)

found_longest : (text : List ℕ) (t : Token) (n : ℕ) (more : List ℕ) → front_of text ≡ Found t n → n ≡ length (spelling t) → TokenAt text t more → LongestAt text t more
found_longest text t n more e l h = record { here = h; longest = λ u rest at. long_enough u (front_of text) t n e l (front_covers text u rest at) }

-- the longest token is found
found_is : (text : List ℕ) (t : Token) (more : List ℕ) (f : Front) → LongestAt text t more → Sound text f → Covers f t → f ≡ Found t (length (spelling t))
found_is text t more (Found u n) l (rest, at, e) (inl h) = let k = l.longest u rest at in absurd (omega arith)
found_is text t more (Found u n) l s (inr (same, m)) = ap₂ Found same m
found_is text t more OutOfRange l s h = absurd h
found_is text t more Nothing l s h = absurd h

longest_found : (text : List ℕ) (t : Token) (more : List ℕ) → LongestAt text t more → front_of text ≡ Found t (length (spelling t))
longest_found text t more l = found_is text t more (front_of text) l (front_sound text) (front_covers text t more l.here)

-- a text stands for the tokens that a scan gives

abbrev Stuck : List ℕ → ℕ → ℕ → List ℕ → Type 0
Stuck text start at rest = (tokens : List Token) × Reads text tokens rest × (at + length rest ≡ start + length text) × (begins_with (λ b. not (is_blank b)) rest ≡ true) × ((t : Token) (more : List ℕ) → TokenAt rest t more → ⊥)

abbrev Meets : List ℕ → ℕ → Result (List Token) LexError → Type 0
Meets text start (Ok tokens) = Reads text tokens []
Meets text start (Err (error.Byte at)) = (rest : List ℕ) × Stuck text start at rest × (IsOutOfRange rest → ⊥)
Meets text start (Err (error.NumberRange at)) = (rest : List ℕ) × Stuck text start at rest × IsOutOfRange rest
Meets text start (Err (error.TooLong have)) = ⊥
Meets text start (Err error.Memory) = ⊥

reads_blank : (b : ℕ) (bs : List ℕ) (tokens : List Token) (rest : List ℕ) → is_blank b ≡ true → Reads bs tokens rest → Reads (b ∷ bs) tokens rest
reads_blank b bs [] rest h (blanks, all, e) = (b ∷ blanks, and_true (is_blank b) _ h all, ap (λ x. b ∷ x) e)
reads_blank b bs (t ∷ ts) rest h (blanks, here, more, all, e, l, r) = (b ∷ blanks, here, more, and_true (is_blank b) _ h all, ap (λ x. b ∷ x) e, l, r)

blank_meets : (b : ℕ) (bs : List ℕ) (start : ℕ) (r : Result (List Token) LexError) → is_blank b ≡ true → Meets bs (start + 1) r → Meets (b ∷ bs) start r
blank_meets b bs start (Ok tokens) h m = reads_blank b bs tokens [] h m
blank_meets b bs start (Err (error.Byte at)) h (rest, (tokens, r, e, n, free), out) = (rest, (tokens, reads_blank b bs tokens rest h r, omega arith, n, free), out)
blank_meets b bs start (Err (error.NumberRange at)) h (rest, (tokens, r, e, n, free), out) = (rest, (tokens, reads_blank b bs tokens rest h r, omega arith, n, free), out)
blank_meets b bs start (Err (error.TooLong have)) h m = m
blank_meets b bs start (Err error.Memory) h m = m

token_meets : (text more : List ℕ) (t : Token) (start : ℕ) (r : Result (List Token) LexError) → LongestAt text t more → Meets more (start + length (spelling t)) r → Meets text start (with_token t r)
token_meets text more t start (Ok tokens) l m = ([], text, more, refl, refl, l, m)
token_meets text more t start (Err (error.Byte at)) l (rest, (tokens, r, e, n, free), out) =
    let k : length text ≡ length (spelling t) + length more = ap length l.here.spelled ∙ length-append (spelling t) more in
    (rest, (t ∷ tokens, ([], text, more, refl, refl, l, r), omega arith, n, free), out)
token_meets text more t start (Err (error.NumberRange at)) l (rest, (tokens, r, e, n, free), out) =
    let k : length text ≡ length (spelling t) + length more = ap length l.here.spelled ∙ length-append (spelling t) more in
    (rest, (t ∷ tokens, ([], text, more, refl, refl, l, r), omega arith, n, free), out)
token_meets text more t start (Err (error.TooLong have)) l m = m
token_meets text more t start (Err error.Memory) l m = m

stuck_here : (b : ℕ) (bs : List ℕ) (start : ℕ) (f : Front) → is_blank b ≡ false → front_of (b ∷ bs) ≡ f → ((t : Token) → Covers f t → ⊥) → Stuck (b ∷ bs) start start (b ∷ bs)
stuck_here b bs start f h e free = ([], ([], refl, refl), refl, ap not h, λ t more at. free t (subst (λ x. Covers x t) e (front_covers (b ∷ bs) t more at)))

-- what is behind a token at the front
behind_by : (k n b : ℕ) (bs more : List ℕ) → n ≡ k → 0 < k → drop k (b ∷ bs) ≡ more → drop (n - 1) bs ≡ more
behind_by zero n b bs more e p d = absurd (omega arith)
behind_by (suc k) n b bs more e p d = ap (λ m. drop m bs) (let s : n - 1 ≡ k = omega arith in s) ∙ d

behind : (b : ℕ) (bs more : List ℕ) (t : Token) (n : ℕ) → b ∷ bs ≡ spelling t ++ more → n ≡ length (spelling t) → 0 < length (spelling t) → drop (n - 1) bs ≡ more
behind b bs more t n e l p = behind_by (length (spelling t)) n b bs more l p (ap (drop (length (spelling t))) e ∙ drop-append_seam (spelling t) more)

meets_cons : (k b : ℕ) (bs : List ℕ) (start : ℕ) → length bs ≤ k → ((text : List ℕ) (from : ℕ) → length text ≤ k → Meets text from (lex_from text from 0)) →
    (x : Bool) → is_blank b ≡ x → (f : Front) → front_of (b ∷ bs) ≡ f → Sound (b ∷ bs) f → Meets (b ∷ bs) start (if x then lex_from bs (start + 1) 0 else taken f start (λ j. lex_from (drop j bs) (start + 1 + j) 0))
meets_cons k b bs start h again true e f g s = blank_meets b bs start _ e (again bs (start + 1) h)
meets_cons k b bs start h again false e (Found t n) g (more, at, l) =
    let p = spelling_some t at.is_token in
    let d : drop (n - 1) bs ≡ more = behind b bs more t n at.spelled l p in
    let from : start + 1 + (n - 1) ≡ start + length (spelling t) = omega arith in
    let len : length (b ∷ bs) ≡ length (spelling t) + length more = ap length at.spelled ∙ length-append (spelling t) more in
    let room : length more ≤ k = omega arith in
    subst (λ r. Meets (b ∷ bs) start (with_token t r)) (sym (ap₂ (λ x m. lex_from x m 0) d from))
    (token_meets (b ∷ bs) more t start _ (found_longest (b ∷ bs) t n more g l at) (again more (start + length (spelling t)) room))
meets_cons k b bs start h again false e OutOfRange g s = (b ∷ bs, stuck_here b bs start OutOfRange e g (λ t c. c), s)
meets_cons k b bs start h again false e Nothing g s = (b ∷ bs, stuck_here b bs start Nothing e g (λ t c. c), λ out. (let o : front_of (b ∷ bs) ≡ OutOfRange = front_out (b ∷ bs) out in cc))

scan_meets : (k : ℕ) (text : List ℕ) (start : ℕ) → length text ≤ k → Meets text start (lex_from text start 0)
scan_meets k [] start h = ([], refl, refl)
scan_meets zero (b ∷ bs) start h = absurd (omega arith)
scan_meets (suc k) (b ∷ bs) start h = subst (λ r. Meets (b ∷ bs) start r) (sym (scan_cons b bs start))
    (meets_cons k b bs start (omega arith) (λ text from room. scan_meets k text from room) (is_blank b) refl (front_of (b ∷ bs)) refl (front_sound (b ∷ bs)))

-- a scan gives the tokens that a text stands for

blanks_skipped : (blanks rest : List ℕ) (start : ℕ) → list_all is_blank blanks ≡ true → lex_from (blanks ++ rest) start 0 ≡ lex_from rest (start + length blanks) 0
blanks_skipped [] rest start h = ap (λ n. lex_from rest n 0) (let e : start ≡ start + 0 = omega arith in e)
blanks_skipped (b ∷ bs) rest start h =
    let t = both (is_blank b) (list_all is_blank bs) h in
    if_true (is_blank b) _ _ t.0 ∙ blanks_skipped bs rest (start + 1) t.1 ∙ ap (λ n. lex_from rest n 0) (let e : start + 1 + length bs ≡ start + suc (length bs) = omega arith in e)

not_blank : (b : ℕ) (bs : List ℕ) (t : Token) (n : ℕ) → front_of (b ∷ bs) ≡ Found t n → is_blank b ≡ false
not_blank b bs t n e = elim (cases_Bool (is_blank b)) [ inl h ↦ (let z : front_of (b ∷ bs) ≡ Nothing = front_blank b bs h in cc) | inr h ↦ h ]

no_front : (t : Token) (n : ℕ) → front_of [] ≡ Found t n → ⊥
unfolding front_of
no_front t n e = cc

token_scanned : (here : List ℕ) (t : Token) (more : List ℕ) (ts : List Token) (start : ℕ) → LongestAt here t more → ((from : ℕ) → lex_from more from 0 ≡ Ok ts) → lex_from here start 0 ≡ Ok (t ∷ ts)
token_scanned [] t more ts start l again = absurd (no_front t _ (longest_found [] t more l))
token_scanned (b ∷ bs) t more ts start l again =
    let g = longest_found (b ∷ bs) t more l in
    let d = behind b bs more t (length (spelling t)) l.here.spelled refl (spelling_some t l.here.is_token) in
    scan_cons b bs start
    ∙ ap₂ (λ x f. if x then lex_from bs (start + 1) 0 else taken f start (λ j. lex_from (drop j bs) (start + 1 + j) 0)) (not_blank b bs t _ g) g
    ∙ ap (λ x. with_token t (lex_from x (start + 1 + (length (spelling t) - 1)) 0)) d
    ∙ ap (with_token t) (again _)

lexed_scanned : (tokens : List Token) (text : List ℕ) (start : ℕ) → Reads text tokens [] → lex_from text start 0 ≡ Ok tokens
lexed_scanned [] text start (blanks, all, e) = ap (λ x. lex_from x start 0) e ∙ blanks_skipped blanks [] start all
lexed_scanned (t ∷ ts) text start (blanks, here, more, all, e, l, r) =
    ap (λ x. lex_from x start 0) e ∙ blanks_skipped blanks here start all ∙ token_scanned here t more ts (start + length blanks) l (λ from. lexed_scanned ts more from r)

-- the clauses of lex

lex_meets : (text : List ℕ) → Meets text 0 (lex_of text)
unfolding lex_at
lex_meets text = scan_meets (length text) text 0 (omega arith)

met : (text : List ℕ) (r : Result (List Token) LexError) → lex_of text ≡ r → Meets text 0 r
met text r e = subst (λ x. Meets text 0 x) e (lex_meets text)

pub scans_tokens : (text : List ℕ) (r : Result (List Token) LexError) → IsQueryText text → Scans (lex_of text) r → IfOk r (λ tokens. IsQueryText text × IsLexed text tokens)
scans_tokens text (Ok tokens) q s = (q, met text (Ok tokens) s)
scans_tokens text (Err e) q s = tt

pub scans_refused : (text : List ℕ) (r : Result (List Token) LexError) → IsQueryText text → Scans (lex_of text) r → IfErr r (IsLexError text)
scans_refused text (Ok tokens) q s = tt
scans_refused text (Err (error.TooLong have)) q s = absurd s
scans_refused text (Err (error.Byte at)) q s = let (rest, (tokens, r, e, n, free), out) = met text _ s in (q, (rest, record { tokens = tokens; read = r; place = omega arith; no_blank = n; no_token = free }, out))
scans_refused text (Err (error.NumberRange at)) q s = let (rest, (tokens, r, e, n, free), out) = met text _ s in (q, (rest, record { tokens = tokens; read = r; place = omega arith; no_blank = n; no_token = free }, out))
scans_refused text (Err error.Memory) q s = tt

lexed : (text : List ℕ) (tokens : List Token) → IsLexed text tokens → lex_of text ≡ Ok tokens
unfolding lex_at
lexed text tokens r = lexed_scanned tokens text 0 r

pub scans_only : (text : List ℕ) (r : Result (List Token) LexError) → Scans (lex_of text) r → (tokens : List Token) → IsQueryText text → IsLexed text tokens → Lexes tokens r
scans_only text (Ok found) s tokens q l = let e : lex_of text ≡ Ok tokens = lexed text tokens l in cc
scans_only text (Err (error.TooLong have)) s tokens q l = absurd s
scans_only text (Err (error.Byte at)) s tokens q l = let e : lex_of text ≡ Ok tokens = lexed text tokens l in cc
scans_only text (Err (error.NumberRange at)) s tokens q l = let e : lex_of text ≡ Ok tokens = lexed text tokens l in cc
scans_only text (Err error.Memory) s tokens q l = refl

-- what the loop of the scan needs
pub front_within : (text : List ℕ) (t : Token) (n : ℕ) → front_of text ≡ Found t n → (0 < n) × (n ≤ length text)
front_within text t n e =
    let (more, at, l) = subst (Sound text) e (front_sound text) in
    let p = spelling_some t at.is_token in
    let len : length text ≡ length (spelling t) + length more = ap length at.spelled ∙ length-append (spelling t) more in
    (omega arith, omega arith)
