-- The scan from a byte on.
use Rattle.std.proofs.Common.{◌≡◌, ℕ, ◌+◌, ◌-◌, ◌<◌, ◌≤◌, suc, zero, true, false, List, [], ◌∷◌, ◌++◌, length, drop, get_or, Result, Ok, Err, refl, sym, ap, ap₂, ◌∙◌, append_assoc, append-nil, if◌then◌else◌, arith}
use Rattle.std.proofs.lemmas.List.{drop-drop}
use Rattle.std.proofs.lemmas.Grind.{common_steps}
use Rattle.ch_sql_tokens.specs.declared.token.Token.{Token}
use Rattle.ch_sql_tokens.specs.declared.error.LexError.{LexError}
use Rattle.ch_sql_tokens.specs.declared.error.LexError.TheVariants as error
use Rattle.ch_sql_tokens.specs.declared.scanner.Front.{Front}
use Rattle.ch_sql_tokens.specs.declared.scanner.Front.TheVariants.{Found, OutOfRange, Nothing}
use Rattle.ch_sql_tokens.specs.Byte.{is_blank}
use Rattle.ch_sql_tokens.specs.Scan.{front_of, taken, with_token, lex_from, lex_at, after}
use Rattle.ch_sql_tokens.proofs.QuoteRules.{dropped}

-- skipping is going on behind
pub skipped : (text : List ℕ) (at k : ℕ) → lex_from text at k ≡ lex_from (drop k text) (at + k) 0
skipped [] at zero = refl
skipped [] at (suc k) = refl
skipped (b ∷ bs) at zero = ap (λ n. lex_from (b ∷ bs) n 0) (let e : at ≡ at + 0 = omega arith in e)
skipped (b ∷ bs) at (suc k) = skipped bs (at + 1) k ∙ ap (λ n. lex_from (drop k bs) n 0) (let e : at + 1 + k ≡ at + suc k = omega arith in e)

pub taken_same : (f : Front) (at : ℕ) (g h : ℕ → Result (List Token) LexError) → ((k : ℕ) → g k ≡ h k) → taken f at g ≡ taken f at h
taken_same (Found t len) at g h e = ap (λ x. with_token t x) (e (len - 1))
taken_same OutOfRange at g h e = refl
taken_same Nothing at g h e = refl

pub scan_cons : (b : ℕ) (bs : List ℕ) (start : ℕ) → lex_from (b ∷ bs) start 0 ≡ (if is_blank b then lex_from bs (start + 1) 0 else taken (front_of (b ∷ bs)) start (λ k. lex_from (drop k bs) (start + 1 + k) 0))
scan_cons b bs start = ap (λ r. if is_blank b then lex_from bs (start + 1) 0 else r) (taken_same (front_of (b ∷ bs)) start (λ k. lex_from bs (start + 1) k) (λ k. lex_from (drop k bs) (start + 1 + k) 0) (λ k. skipped bs (start + 1) k))

scan_drop : (text : List ℕ) (at start : ℕ) → drop at text ≡ get_or text at 0 ∷ drop (at + 1) text →
    lex_from (drop at text) start 0 ≡ (if is_blank (get_or text at 0) then lex_from (drop (at + 1) text) (start + 1) 0 else taken (front_of (drop at text)) start (λ k. lex_from (drop k (drop (at + 1) text)) (start + 1 + k) 0))
scan_drop text at start e = ap (λ x. lex_from x start 0) e ∙ scan_cons (get_or text at 0) (drop (at + 1) text) start
    ∙ ap (λ x. if is_blank (get_or text at 0) then lex_from (drop (at + 1) text) (start + 1) 0 else taken (front_of x) start (λ k. lex_from (drop k (drop (at + 1) text)) (start + 1 + k) 0)) (sym e)

pub scan_rule : (text : List ℕ) (at : ℕ) → at < length text →
    lex_at text at ≡ (if is_blank (get_or text at 0) then lex_at text (at + 1) else taken (front_of (drop at text)) at (λ k. lex_at text (at + 1 + k)))
unfolding lex_at
scan_rule text at h = scan_drop text at at (dropped text at 0 h)
    ∙ ap (λ r. if is_blank (get_or text at 0) then lex_from (drop (at + 1) text) (at + 1) 0 else r)
    (taken_same (front_of (drop at text)) at _ _ (λ k. ap (λ x. lex_from x (at + 1 + k) 0) (drop-drop k (at + 1) text)))

scan_end : (text : List ℕ) (at : ℕ) → length text ≤ at → lex_at text at ≡ Ok []
unfolding lex_at
scan_end text at h = let e : drop at text ≡ [] = grind (arith, common_steps) in rw e refl

after_token : (front : List Token) (t : Token) (r : Result (List Token) LexError) → after front (with_token t r) ≡ after (front ++ (t ∷ [])) r
after_token front t (Ok ts) = ap Ok (sym (append_assoc front (t ∷ []) ts))
after_token front t (Err e) = refl

pub blank_rule : (text : List ℕ) (at : ℕ) → at < length text → is_blank (get_or text at 0) ≡ true → lex_at text at ≡ lex_at text (at + 1)
blank_rule text at h b = scan_rule text at h ∙ ap (λ x. if x then lex_at text (at + 1) else taken (front_of (drop at text)) at (λ k. lex_at text (at + 1 + k))) b

front_rule : (text : List ℕ) (at : ℕ) (f : Front) → at < length text → is_blank (get_or text at 0) ≡ false → front_of (drop at text) ≡ f →
    lex_at text at ≡ taken f at (λ k. lex_at text (at + 1 + k))
front_rule text at f h b e = scan_rule text at h ∙ ap₂ (λ x o. if x then lex_at text (at + 1) else taken o at (λ k. lex_at text (at + 1 + k))) b e

pub token_rule : (text : List ℕ) (front : List Token) (at : ℕ) (t : Token) (len : ℕ) → at < length text → is_blank (get_or text at 0) ≡ false → front_of (drop at text) ≡ Found t len → 0 < len →
    after front (lex_at text at) ≡ after (front ++ (t ∷ [])) (lex_at text (at + len))
token_rule text front at t len h b e some =
    ap (after front) (front_rule text at (Found t len) h b e)
    ∙ after_token front t (lex_at text (at + 1 + (len - 1)))
    ∙ ap (λ n. after (front ++ (t ∷ [])) (lex_at text n)) (let m : at + 1 + (len - 1) ≡ at + len = omega arith in m)

pub range_rule : (text : List ℕ) (at : ℕ) → at < length text → is_blank (get_or text at 0) ≡ false → front_of (drop at text) ≡ OutOfRange → lex_at text at ≡ Err (error.NumberRange at)
range_rule text at h b e = front_rule text at OutOfRange h b e

pub byte_rule : (text : List ℕ) (at : ℕ) → at < length text → is_blank (get_or text at 0) ≡ false → front_of (drop at text) ≡ Nothing → lex_at text at ≡ Err (error.Byte at)
byte_rule text at h b e = front_rule text at Nothing h b e

pub end_rule : (text : List ℕ) (front : List Token) (at : ℕ) → length text ≤ at → after front (lex_at text at) ≡ Ok front
end_rule text front at h = ap (after front) (scan_end text at h) ∙ ap Ok (append-nil front)

pub ruleset scans = (blank_rule, token_rule, range_rule, byte_rule, end_rule)
