-- Scanning a printed text gives its tokens.
use Rattle.std.proofs.Common.{◌≡◌, ℕ, ◌+◌, ◌-◌, ◌<◌, ◌≢◌, suc, zero, inl, inr, Bool, true, false, List, [], ◌∷◌, ◌++◌, length, drop, map, Some, None, Ok, refl, ap, ap₂, ◌∙◌, if◌then◌else◌, arith, is_none}
use Rattle.std.proofs.lemmas.Bool.{cases_Bool}
use Rattle.std.proofs.lemmas.List.Elements.{recursion_from_All}
use Rattle.std.proofs.Math.Seq.{drop-append_seam}
use Rattle.std.specs.List.{All, AllByRecursion}
use Rattle.ch_sql_tokens.specs.declared.token.Token.{Token}
use Rattle.ch_sql_tokens.specs.declared.token.Token.TheVariants as token
use Rattle.ch_sql_tokens.specs.declared.scanner.Front.TheVariants.{Found, Nothing}
use Rattle.ch_sql_tokens.specs.Byte.{is_blank}
use Rattle.ch_sql_tokens.specs.Spelling.{spelling, is_word, IsToken}
use Rattle.ch_sql_tokens.specs.Scan.{front_of, taken, with_token, lex_from, lex_at, lex_of}
use Rattle.ch_sql_tokens.proofs.Bools.{both}
use Rattle.ch_sql_tokens.proofs.Fronts.{front_blank, spelling_some}
use Rattle.ch_sql_tokens.proofs.ScanRules.{scan_cons}
use Rattle.ch_sql_grammar.specs.declared.terminal.Mark.{Mark}
use Rattle.ch_sql_grammar.specs.declared.terminal.Mark.TheVariants as mark
use Rattle.ch_sql_grammar.specs.declared.terminal.Terminal.{Terminal}
use Rattle.ch_sql_grammar.specs.declared.terminal.Terminal.TheVariants as terminal
use Rattle.ch_sql_grammar.specs.Keyword.{keyword_of}
use Rattle.ch_sql_grammar.specs.Tokens.{terminal_of, word_terminal}
use Rattle.ch_sql_text.specs.declared.layout.Last.{Last}
use Rattle.ch_sql_text.specs.declared.layout.Last.TheVariants as last
use Rattle.ch_sql_text.specs.Spelled.{mark_token, is_bare, name_token, printed_token}
use Rattle.ch_sql_text.specs.Layout.{last_mark, last_of, is_spaced, gap, laid_out}
use Rattle.ch_sql_text.specs.Law.{IsSpellable}
use Rattle.ch_sql_text.proofs.Exact.{Stops, exact, exact_paren, exact_dot}

-- printed tokens are tokens

mark_is_token : (m : Mark) → IsToken (mark_token m)
unfolding mark_token
mark_is_token mark.Eq = tt
mark_is_token mark.Ne = tt
mark_is_token mark.Lt = tt
mark_is_token mark.Le = tt
mark_is_token mark.Gt = tt
mark_is_token mark.Ge = tt
mark_is_token mark.LeftParen = tt
mark_is_token mark.RightParen = tt
mark_is_token mark.Comma = tt
mark_is_token mark.Dot = tt
mark_is_token mark.Star = tt
mark_is_token mark.Semicolon = tt
mark_is_token m = refl

name_is_token : (name : List ℕ) (b : Bool) → is_bare name ≡ b → name ≢ [] → IsToken (if b then token.Word name else token.Quoted name)
name_is_token name true e some = (both (is_word name) _ e).0
name_is_token name false e some = some

pub printed_is_token : (t : Terminal) → IsSpellable t → IsToken (printed_token t)
printed_is_token (terminal.Mark m) is = mark_is_token m
printed_is_token (terminal.Name name) is = name_is_token name (is_bare name) refl is
printed_is_token (terminal.Number n) is = is
printed_is_token (terminal.Text text) is = tt

-- the grammar sees in a printed token what was printed

mark_seen : (m : Mark) → terminal_of (mark_token m) ≡ terminal.Mark m
unfolding mark_token keyword_of
mark_seen mark.Select = refl
mark_seen m = refl

no_keyword : {A : Type 0} → (o : _) → is_none {T = A} o ≡ true → o ≡ None
no_keyword None h = refl
no_keyword (Some m) h = cc

name_seen : (name : List ℕ) (b : Bool) → is_bare name ≡ b → terminal_of (if b then token.Word name else token.Quoted name) ≡ terminal.Name name
name_seen name true e = ap (λ o. word_terminal o name) (no_keyword (keyword_of name) (both (is_word name) _ e).1)
name_seen name false e = refl

pub printed_seen : (t : Terminal) → terminal_of (printed_token t) ≡ t
printed_seen (terminal.Mark m) = mark_seen m
printed_seen (terminal.Name name) = name_seen name (is_bare name) refl
printed_seen (terminal.Number n) = refl
printed_seen (terminal.Text text) = refl

pub all_seen : (ts : List Terminal) → map terminal_of (map printed_token ts) ≡ ts
all_seen [] = refl
all_seen (t ∷ ts) = ap₂ (λ x xs. x ∷ xs) (printed_seen t) (all_seen ts)

-- what stands behind a token that is no parenthesis and no dot

stops_mark : (l : Last) (m : Mark) (more : List ℕ) → (l ≡ last.Open → ⊥) → Stops (gap l (terminal.Mark m) ++ (spelling (mark_token m) ++ more))
unfolding mark_token
stops_mark last.Open m more n = absurd (n refl)
stops_mark last.Call mark.Comma more n = refl
stops_mark last.Call mark.RightParen more n = refl
stops_mark last.Call mark.Dot more n = refl
stops_mark last.Call mark.LeftParen more n = refl
stops_mark last.Call m more n = refl
stops_mark last.Other mark.Comma more n = refl
stops_mark last.Other mark.RightParen more n = refl
stops_mark last.Other mark.Dot more n = refl
stops_mark last.Other m more n = refl

stops_behind : (l : Last) (ts : List Terminal) → (l ≡ last.Open → ⊥) → Stops (laid_out l ts)
stops_behind l [] n = tt
stops_behind last.Open (t ∷ ts) n = absurd (n refl)
stops_behind l (terminal.Mark m ∷ ts) n = stops_mark l m _ n
stops_behind last.Call (terminal.Name name ∷ ts) n = refl
stops_behind last.Call (terminal.Number v ∷ ts) n = refl
stops_behind last.Call (terminal.Text text ∷ ts) n = refl
stops_behind last.Other (terminal.Name name ∷ ts) n = refl
stops_behind last.Other (terminal.Number v ∷ ts) n = refl
stops_behind last.Other (terminal.Text text ∷ ts) n = refl

abbrev IsExact : Token → List ℕ → Type 0
IsExact t more = front_of (spelling t ++ more) ≡ Found t (length (spelling t))

exact_mark : (m : Mark) (ts : List Terminal) → IsExact (mark_token m) (laid_out (last_mark m) ts)
unfolding mark_token
exact_mark mark.LeftParen ts = exact_paren _
exact_mark mark.Dot ts = exact_dot _
exact_mark m ts = exact (mark_token m) _ (mark_is_token m) (stops_behind (last_mark m) ts (λ e. cc))

exact_printed : (t : Terminal) (ts : List Terminal) → IsSpellable t → IsExact (printed_token t) (laid_out (last_of t) ts)
exact_printed (terminal.Mark m) ts is = exact_mark m ts
exact_printed (terminal.Name name) ts is = exact (name_token name) _ (name_is_token name (is_bare name) refl is) (stops_behind last.Other ts (λ e. cc))
exact_printed (terminal.Number n) ts is = exact (token.Number n) _ is (stops_behind last.Other ts (λ e. cc))
exact_printed (terminal.Text text) ts is = exact (token.Text text) _ tt (stops_behind last.Other ts (λ e. cc))

-- the scan

not_blank : (b : ℕ) (bs : List ℕ) (t : Token) (n : ℕ) → front_of (b ∷ bs) ≡ Found t n → is_blank b ≡ false
not_blank b bs t n e = elim (cases_Bool (is_blank b)) [ inl h ↦ (let z : front_of (b ∷ bs) ≡ Nothing = front_blank b bs h in cc) | inr h ↦ h ]

no_front : (t : Token) (n : ℕ) → front_of [] ≡ Found t n → ⊥
unfolding front_of
no_front t n e = cc

behind_by : (k b : ℕ) (bs more : List ℕ) → 0 < k → drop k (b ∷ bs) ≡ more → drop (k - 1) bs ≡ more
behind_by zero b bs more p d = absurd (omega arith)
behind_by (suc k) b bs more p d = ap (λ m. drop m bs) (let s : suc k - 1 ≡ k = omega arith in s) ∙ d

token_scanned : (text more : List ℕ) (t : Token) (ts : List Token) (start : ℕ) → text ≡ spelling t ++ more → front_of text ≡ Found t (length (spelling t)) → 0 < length (spelling t) →
    ((from : ℕ) → lex_from more from 0 ≡ Ok ts) → lex_from text start 0 ≡ Ok (t ∷ ts)
token_scanned [] more t ts start e f p again = absurd (no_front t _ f)
token_scanned (b ∷ bs) more t ts start e f p again =
    let d = behind_by (length (spelling t)) b bs more p (ap (drop (length (spelling t))) e ∙ drop-append_seam (spelling t) more) in
    scan_cons b bs start
    ∙ ap₂ (λ x g. if x then lex_from bs (start + 1) 0 else taken g start (λ j. lex_from (drop j bs) (start + 1 + j) 0)) (not_blank b bs t _ f) f
    ∙ ap (λ x. with_token t (lex_from x (start + 1 + (length (spelling t) - 1)) 0)) d
    ∙ ap (with_token t) (again _)

gap_scanned : (b : Bool) (text : List ℕ) (start : ℕ) (r : _) → ((from : ℕ) → lex_from text from 0 ≡ r) → lex_from ((if b then 32 ∷ [] else []) ++ text) start 0 ≡ r
gap_scanned true text start r again = again (start + 1)
gap_scanned false text start r again = again start

scanned : (ts : List Terminal) (l : Last) (start : ℕ) → AllByRecursion IsSpellable ts → lex_from (laid_out l ts) start 0 ≡ Ok (map printed_token ts)
scanned [] l start all = refl
scanned (t ∷ ts) l start (is, all) = gap_scanned (is_spaced l t) (spelling (printed_token t) ++ laid_out (last_of t) ts) start _ (λ from.
    token_scanned _ (laid_out (last_of t) ts) (printed_token t) (map printed_token ts) from refl (exact_printed t ts is) (spelling_some (printed_token t) (printed_is_token t is)) (λ at. scanned ts (last_of t) at all))

pub lexed : (ts : List Terminal) → All IsSpellable ts → lex_of (laid_out last.Open ts) ≡ Ok (map printed_token ts)
unfolding lex_at
lexed ts all = scanned ts last.Open 0 (recursion_from_All IsSpellable ts all)

pub are_tokens : (ts : List Terminal) → AllByRecursion IsSpellable ts → AllByRecursion IsToken (map printed_token ts)
are_tokens [] all = tt
are_tokens (t ∷ ts) (is, all) = (printed_is_token t is, are_tokens ts all)
