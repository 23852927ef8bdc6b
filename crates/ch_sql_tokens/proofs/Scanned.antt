-- A refusal that holds of a query text is what the scan gives, and so are its tokens.
use Rattle.std.proofs.Common.{◌≡◌, ◌≢◌, ℕ, ◌+◌, ◌-◌, ◌<◌, ◌≤◌, ◌⊎◌, inl, inr, suc, zero, Bool, true, false, not, nat_lt, List, [], ◌∷◌, ◌++◌, length, drop, Result, Ok, Err, refl, sym, ap, ap₂, ◌∙◌, if◌then◌else◌, arith, subst, append-nil, length-append}
use Rattle.std.specs.List.{list_all}
use Rattle.std.proofs.lemmas.Bool.{cases_Bool}
use Rattle.std.proofs.lemmas.Bool.Decides.{nat_tests}
use Rattle.std.proofs.Math.Seq.{drop-append_seam}
use Rattle.ch_sql_tokens.specs.declared.token.Token.{Token}
use Rattle.ch_sql_tokens.specs.declared.error.LexError.{LexError}
use Rattle.ch_sql_tokens.specs.declared.error.LexError.TheVariants as error
use Rattle.ch_sql_tokens.specs.declared.scanner.Front.{Front}
use Rattle.ch_sql_tokens.specs.declared.scanner.Front.TheVariants.{Found, OutOfRange, Nothing}
use Rattle.ch_sql_tokens.specs.Byte.{is_blank, begins_with}
use Rattle.ch_sql_tokens.specs.Spelling.{spelling, TokenAt}
use Rattle.ch_sql_tokens.specs.Lexed.{LongestAt, Reads, IsLexed, IsQueryText, IsStuck, IsOutOfRange, IsLexError}
use Rattle.ch_sql_tokens.specs.Scan.{front_of, taken, with_token, lex_from, lex_at, lex_of, after}
use Rattle.ch_sql_tokens.proofs.Bools.{if_true, if_false, both}
use Rattle.ch_sql_tokens.proofs.ScanRules.{scan_cons}
use Rattle.ch_sql_tokens.proofs.Fronts.{Sound, front_sound, Covers, front_covers, front_out, front_blank, spelling_some}
use Rattle.ch_sql_tokens.proofs.Lexing.{scans_tokens, scans_refused}

-- the longest token is found

found_is : (text : List ℕ) (t : Token) (more : List ℕ) (f : Front) → LongestAt text t more → Sound text f → Covers f t → f ≡ Found t (length (spelling t))
found_is text t more (Found u n) l (rest, at, e) (inl h) = let k = l.longest u rest at in absurd (omega arith)
found_is text t more (Found u n) l s (inr (same, m)) = ap₂ Found same m
found_is text t more OutOfRange l s h = absurd h
found_is text t more Nothing l s h = absurd h

longest_found : (text : List ℕ) (t : Token) (more : List ℕ) → LongestAt text t more → front_of text ≡ Found t (length (spelling t))
longest_found text t more l = found_is text t more (front_of text) l (front_sound text) (front_covers text t more l.here)

not_blank : (b : ℕ) (bs : List ℕ) (t : Token) (n : ℕ) → front_of (b ∷ bs) ≡ Found t n → is_blank b ≡ false
not_blank b bs t n e = elim (cases_Bool (is_blank b)) [ inl h ↦ (let z : front_of (b ∷ bs) ≡ Nothing = front_blank b bs h in cc) | inr h ↦ h ]

no_front : (t : Token) (n : ℕ) → front_of [] ≡ Found t n → ⊥
unfolding front_of
no_front t n e = cc

behind_by : (k b : ℕ) (bs more : List ℕ) → 0 < k → drop k (b ∷ bs) ≡ more → drop (k - 1) bs ≡ more
behind_by zero b bs more p d = absurd (omega arith)
behind_by (suc k) b bs more p d = ap (λ m. drop m bs) (let s : suc k - 1 ≡ k = omega arith in s) ∙ d

-- a scan goes on behind a token and behind blanks

token_gone : (here : List ℕ) (t : Token) (more : List ℕ) (start n : ℕ) → LongestAt here t more → n ≡ start + length (spelling t) → lex_from here start 0 ≡ with_token t (lex_from more n 0)
token_gone [] t more start n l e = absurd (no_front t _ (longest_found [] t more l))
token_gone (b ∷ bs) t more start n l e =
    let g = longest_found (b ∷ bs) t more l in
    let p = spelling_some t l.here.is_token in
    let d = behind_by (length (spelling t)) b bs more p (ap (drop (length (spelling t))) l.here.spelled ∙ drop-append_seam (spelling t) more) in
    let m : start + 1 + (length (spelling t) - 1) ≡ n = omega arith in
    scan_cons b bs start
    ∙ ap₂ (λ x f. if x then lex_from bs (start + 1) 0 else taken f start (λ j. lex_from (drop j bs) (start + 1 + j) 0)) (not_blank b bs t _ g) g
    ∙ ap₂ (λ x k. with_token t (lex_from x k 0)) d m

blanks_skipped : (blanks rest : List ℕ) (start : ℕ) → list_all is_blank blanks ≡ true → lex_from (blanks ++ rest) start 0 ≡ lex_from rest (start + length blanks) 0
blanks_skipped [] rest start h = ap (λ n. lex_from rest n 0) (let e : start ≡ start + 0 = omega arith in e)
blanks_skipped (b ∷ bs) rest start h =
    let t = both (is_blank b) (list_all is_blank bs) h in
    if_true (is_blank b) _ _ t.0 ∙ blanks_skipped bs rest (start + 1) t.1 ∙ ap (λ n. lex_from rest n 0) (let e : start + 1 + length bs ≡ start + suc (length bs) = omega arith in e)

after_nothing : (r : Result (List Token) LexError) → after [] r ≡ r
after_nothing (Ok ts) = refl
after_nothing (Err e) = refl

after_more : (t : Token) (ts : List Token) (r : Result (List Token) LexError) → with_token t (after ts r) ≡ after (t ∷ ts) r
after_more t ts (Ok us) = refl
after_more t ts (Err e) = refl

reads_gone : (tokens : List Token) (text rest : List ℕ) (start n : ℕ) → n + length rest ≡ start + length text → Reads text tokens rest → lex_from text start 0 ≡ after tokens (lex_from rest n 0)
reads_gone [] text rest start n e (blanks, all, s) =
    let k : length text ≡ length blanks + length rest = ap length s ∙ length-append blanks rest in
    let m : start + length blanks ≡ n = omega arith in
    ap (λ x. lex_from x start 0) s ∙ blanks_skipped blanks rest start all ∙ ap (λ i. lex_from rest i 0) m ∙ sym (after_nothing (lex_from rest n 0))
reads_gone (t ∷ ts) text rest start n e (blanks, here, more, all, s, l, r) =
    let k : length text ≡ length blanks + length here = ap length s ∙ length-append blanks here in
    let m : length here ≡ length (spelling t) + length more = ap length l.here.spelled ∙ length-append (spelling t) more in
    let q : n + length rest ≡ start + length blanks + length (spelling t) + length more = omega arith in
    ap (λ x. lex_from x start 0) s ∙ blanks_skipped blanks here start all
    ∙ token_gone here t more (start + length blanks) (start + length blanks + length (spelling t)) l refl
    ∙ ap (with_token t) (reads_gone ts more rest (start + length blanks + length (spelling t)) n q r)
    ∙ after_more t ts (lex_from rest n 0)

-- where no token stands

not_true : (x : Bool) → not x ≡ true → x ≡ false
not_true true h = cc
not_true false h = refl

stopped : (rest : List ℕ) (at : ℕ) (f : Front) (e : LexError) → begins_with (λ b. not (is_blank b)) rest ≡ true → front_of rest ≡ f → ((g : ℕ → Result (List Token) LexError) → taken f at g ≡ Err e) → lex_from rest at 0 ≡ Err e
stopped [] at f e h q k = cc
stopped (b ∷ bs) at f e h q k =
    scan_cons b bs at
    ∙ ap₂ (λ x g. if x then lex_from bs (at + 1) 0 else taken g at (λ j. lex_from (drop j bs) (at + 1 + j) 0)) (not_true (is_blank b) h) q
    ∙ k _

nothing_there : (rest : List ℕ) (f : Front) → Sound rest f → ((t : Token) (more : List ℕ) → TokenAt rest t more → ⊥) → (IsOutOfRange rest → ⊥) → f ≡ Nothing
nothing_there rest (Found t n) (more, at, l) free out = absurd (free t more at)
nothing_there rest OutOfRange s free out = absurd (out s)
nothing_there rest Nothing s free out = refl

stuck_given : (text rest : List ℕ) (at : ℕ) (f : Front) (e : LexError) → IsStuck text at rest → front_of rest ≡ f → ((g : ℕ → Result (List Token) LexError) → taken f at g ≡ Err e) → lex_of text ≡ Err e
unfolding lex_at
stuck_given text rest at f e s q k =
    let place = s.place in
    let n : at + length rest ≡ 0 + length text = omega arith in
    reads_gone s.tokens text rest 0 at n s.read ∙ ap (after s.tokens) (stopped rest at f e s.no_blank q k)

pub given : (text : List ℕ) (e : LexError) → e ≢ error.Memory → IsQueryText text → IsLexError text e → lex_of text ≡ Err e
given text error.Memory n q h = absurd (n refl)
given text (error.TooLong have) n q (more, h) = absurd (omega arith)
given text (error.Byte at) n q (room, (rest, s, out)) =
    stuck_given text rest at Nothing (error.Byte at) s (nothing_there rest (front_of rest) (front_sound rest) s.no_token out) (λ g. refl)
given text (error.NumberRange at) n q (room, (rest, s, out)) = stuck_given text rest at OutOfRange (error.NumberRange at) s (front_out rest out) (λ g. refl)

pub lexed : (text : List ℕ) (tokens : List Token) → IsLexed text tokens → lex_of text ≡ Ok tokens
unfolding lex_at
lexed text tokens r =
    let n : length text + 0 ≡ 0 + length text = omega arith in
    reads_gone tokens text [] 0 (length text) n r ∙ ap Ok (append-nil tokens)

pub read : (text : List ℕ) (tokens : List Token) → IsQueryText text → lex_of text ≡ Ok tokens → IsLexed text tokens
read text tokens q h = (scans_tokens text (Ok tokens) q h).1

-- a scan never runs out of memory, and takes a text of any length

abbrev IsOwn : Result (List Token) LexError → Type 0
IsOwn (Ok tokens) = Unit {0}
IsOwn (Err (error.Byte at)) = Unit {0}
IsOwn (Err (error.NumberRange at)) = Unit {0}
IsOwn (Err (error.TooLong have)) = ⊥
IsOwn (Err error.Memory) = ⊥

own_token : (t : Token) (r : Result (List Token) LexError) → IsOwn r → IsOwn (with_token t r)
own_token t (Ok tokens) h = tt
own_token t (Err e) h = h

own_taken : (f : Front) (at : ℕ) (g : ℕ → Result (List Token) LexError) → ((k : ℕ) → IsOwn (g k)) → IsOwn (taken f at g)
own_taken (Found t n) at g h = own_token t (g (n - 1)) (h (n - 1))
own_taken OutOfRange at g h = tt
own_taken Nothing at g h = tt

own_if : (x : Bool) (r s : Result (List Token) LexError) → IsOwn r → IsOwn s → IsOwn (if x then r else s)
own_if true r s h k = h
own_if false r s h k = k

own : (text : List ℕ) (at skip : ℕ) → IsOwn (lex_from text at skip)
own [] at skip = tt
own (b ∷ bs) at (suc skip) = own bs (at + 1) skip
own (b ∷ bs) at zero = own_if (is_blank b) _ _ (own bs (at + 1) 0) (own_taken (front_of (b ∷ bs)) at _ (λ k. own bs (at + 1) k))

lex_own : (text : List ℕ) → IsOwn (lex_of text)
unfolding lex_at
lex_own text = own text 0 0

pub refused : (text : List ℕ) (e : LexError) → IsQueryText text → lex_of text ≡ Err e → IsLexError text e
refused text error.Memory q h = tt
refused text (error.TooLong have) q h = absurd (subst IsOwn h (lex_own text))
refused text (error.Byte at) q h = scans_refused text (Err (error.Byte at)) q h
refused text (error.NumberRange at) q h = scans_refused text (Err (error.NumberRange at)) q h

-- one refusal or one list of tokens

abbrev pub whole : List ℕ → Result (List Token) LexError
whole text = if nat_lt 16384 (length text) then Err (error.TooLong (length text)) else lex_of text

whole_short : (text : List ℕ) (e : LexError) → e ≢ error.Memory → IsQueryText text → IsLexError text e → whole text ≡ Err e
whole_short text e n q h = if_false (nat_lt 16384 (length text)) _ _ (let k : nat_lt 16384 (length text) ≡ false = grind (arith, nat_tests) in k) ∙ given text e n q h

pub whole_given : (text : List ℕ) (e : LexError) → e ≢ error.Memory → IsLexError text e → whole text ≡ Err e
whole_given text error.Memory n h = absurd (n refl)
whole_given text (error.TooLong have) n (long, h) = if_true (nat_lt 16384 (length text)) _ _ (let k : nat_lt 16384 (length text) ≡ true = grind (arith, nat_tests) in k) ∙ ap (λ x. Err (error.TooLong x)) (sym h)
whole_given text (error.Byte at) n (q, h) = whole_short text (error.Byte at) n q (q, h)
whole_given text (error.NumberRange at) n (q, h) = whole_short text (error.NumberRange at) n q (q, h)

pub whole_lexed : (text : List ℕ) (tokens : List Token) → IsQueryText text → IsLexed text tokens → whole text ≡ Ok tokens
whole_lexed text tokens q l = if_false (nat_lt 16384 (length text)) _ _ (let k : nat_lt 16384 (length text) ≡ false = grind (arith, nat_tests) in k) ∙ lexed text tokens l

pub one_refusal : (text : List ℕ) (a b : LexError) → a ≢ error.Memory → b ≢ error.Memory → IsLexError text a → IsLexError text b → a ≡ b
one_refusal text a b m n p q = let h : whole text ≡ Err a = whole_given text a m p in let k : whole text ≡ Err b = whole_given text b n q in cc

pub one_list : (text : List ℕ) (a b : List Token) → IsLexed text a → IsLexed text b → a ≡ b
one_list text a b p q = let h : lex_of text ≡ Ok a = lexed text a p in let k : lex_of text ≡ Ok b = lexed text b q in cc

pub not_both : (text : List ℕ) (tokens : List Token) (e : LexError) → e ≢ error.Memory → IsQueryText text → IsLexed text tokens → IsLexError text e → ⊥
not_both text tokens e n q l h = let a : lex_of text ≡ Ok tokens = lexed text tokens l in let b : lex_of text ≡ Err e = given text e n q h in cc

abbrev Either : List ℕ → Type 0
Either text = ((tokens : List Token) × IsQueryText text × IsLexed text tokens) ⊎ ((e : LexError) × (e ≢ error.Memory) × IsLexError text e)

by_result : (text : List ℕ) (r : Result (List Token) LexError) → IsQueryText text → lex_of text ≡ r → Either text
by_result text (Ok tokens) q h = inl (tokens, q, read text tokens q h)
by_result text (Err e) q h = inr (e, (λ m. subst IsOwn (h ∙ ap Err m) (lex_own text)), refused text e q h)

by_length : (text : List ℕ) (x : Bool) → nat_lt 16384 (length text) ≡ x → Either text
by_length text true h = inr (error.TooLong (length text), (λ m. cc), ((let k : 16384 < length text = grind (arith, nat_tests) in k), refl))
by_length text false h = by_result text (lex_of text) (let k : length text ≤ 16384 = grind (arith, nat_tests) in k) refl

pub either : (text : List ℕ) → Either text
either text = by_length text (nat_lt 16384 (length text)) refl
