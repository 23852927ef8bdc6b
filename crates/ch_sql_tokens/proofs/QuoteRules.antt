-- Reading behind an open quote.
use Rattle.std.proofs.Common.{◌≡◌, ℕ, ◌+◌, ◌<◌, ◌≤◌, ◌≢◌, ◌==◌, ◌⊎◌, inl, inr, Bool, true, false, List, [], ◌∷◌, ◌++◌, length, take, drop, get_or, Option, Some, None, option_map, IfSome, refl, sym, ap, ap₂, ◌∙◌, append_assoc, append-nil, if◌then◌else◌, arith, subst, add-one, drop-cons}
use Rattle.std.proofs.lemmas.Grind.{common_steps}
use Rattle.std.proofs.lemmas.Bool.Decides.{nat_tests}
use Rattle.std.proofs.lemmas.List.{take-append-le}
use Rattle.std.proofs.Math.Seq.{take-append_seam}
use Rattle.ch_sql_tokens.proofs.Bools.{if_true, if_false, same}
use Rattle.ch_sql_tokens.specs.Quote.{quoted_of, with_byte, with_front, or_else}
use Rattle.ch_sql_tokens.specs.Spelling.{doubled}

pub dropped : {A : Type 0} → (text : List A) (at : ℕ) (d : A) → at < length text → drop at text ≡ get_or text at d ∷ drop (at + 1) text
dropped text at d h = rw (add-one, drop-cons text at d) refl

-- one byte and a rest

pub plain_cons : (q b : ℕ) (bs : List ℕ) → (b == q) ≡ false → quoted_of q (b ∷ bs) ≡ with_byte b 1 (quoted_of q bs)
unfolding quoted_of
plain_cons q b [] h = if_false (b == q) _ _ h
plain_cons q b (c ∷ bs) h = if_false (b == q) _ _ h

pub double_cons : (q b c : ℕ) (bs : List ℕ) → (b == q) ≡ true → (c == q) ≡ true → quoted_of q (b ∷ c ∷ bs) ≡ or_else (with_byte q 2 (quoted_of q bs)) (Some ([], 1))
unfolding quoted_of
double_cons q b c bs h k = if_true (b == q) _ _ h ∙ if_true (c == q) _ _ k

-- no quote comes
abbrev pub NoQuote : ℕ → List ℕ → Type 0
NoQuote q [] = Unit {0}
NoQuote q (c ∷ cs) = (c == q) ≡ false

pub last_cons : (q b : ℕ) (bs : List ℕ) → (b == q) ≡ true → NoQuote q bs → quoted_of q (b ∷ bs) ≡ Some ([], 1)
unfolding quoted_of
last_cons q b [] h k = if_true (b == q) _ _ h
last_cons q b (c ∷ bs) h k = if_true (b == q) _ _ h ∙ if_false (c == q) _ _ k

-- where the text ends, what stood before the last pair
abbrev pub fallback : List ℕ → Option (ℕ × ℕ) → Option (List ℕ × ℕ)
fallback content pair = option_map (λ p. (take p.0 content, p.1)) pair

-- what is read at a byte, behind what was read before
abbrev pub quoted_on : ℕ → List ℕ → List ℕ → ℕ → Option (ℕ × ℕ) → Option (List ℕ × ℕ)
quoted_on q text content at pair = or_else (with_front content at (quoted_of q (drop at text))) (fallback content pair)

fallback_more : (content : List ℕ) (b : ℕ) (pair : Option (ℕ × ℕ)) → IfSome pair (λ p. p.0 ≤ length content) → fallback content pair ≡ fallback (content ++ (b ∷ [])) pair
fallback_more content b None h = refl
fallback_more content b (Some p) h = ap (λ x. Some (x, p.1)) (sym (take-append-le p.0 content (b ∷ []) h))

front_more : (front : List ℕ) (b n m : ℕ) (o : Option (List ℕ × ℕ)) → m ≡ n + 1 → with_front front n (with_byte b 1 o) ≡ with_front (front ++ (b ∷ [])) m o
front_more front b n m None e = refl
front_more front b n m (Some r) e = ap₂ (λ x y. Some (x, y)) (sym (append_assoc front (b ∷ []) r.0)) (let k : r.1 + 1 + n ≡ r.1 + m = omega arith in k)

pub plain_rule : (q : ℕ) (text content : List ℕ) (at : ℕ) (pair : Option (ℕ × ℕ)) → at < length text → get_or text at 0 ≢ q → IfSome pair (λ p. p.0 ≤ length content) →
    quoted_on q text content at pair ≡ quoted_on q text (content ++ (get_or text at 0 ∷ [])) (at + 1) pair
plain_rule q text content at pair h ne kept =
    let k : (get_or text at 0 == q) ≡ false = grind (arith, nat_tests) in
    ap₂ or_else
    (ap (λ x. with_front content at (quoted_of q x)) (dropped text at 0 h) ∙ ap (λ o. with_front content at o) (plain_cons q (get_or text at 0) (drop (at + 1) text) k)
    ∙ front_more content (get_or text at 0) at (at + 1) (quoted_of q (drop (at + 1) text)) refl)
    (fallback_more content (get_or text at 0) pair kept)

double_more : (content : List ℕ) (q at m : ℕ) (o old : Option (List ℕ × ℕ)) → m ≡ at + 2 →
    or_else (with_front content at (or_else (with_byte q 2 o) (Some ([], 1)))) old ≡ or_else (with_front (content ++ (q ∷ [])) m o) (Some (take (length content) (content ++ (q ∷ [])), at + 1))
double_more content q at m None old e = ap₂ (λ x y. Some (x, y)) (append-nil content ∙ sym (take-append_seam content (q ∷ []))) (let k : 1 + at ≡ at + 1 = omega arith in k)
double_more content q at m (Some r) old e = ap₂ (λ x y. Some (x, y)) (sym (append_assoc content (q ∷ []) r.0)) (let k : r.1 + 2 + at ≡ r.1 + m = omega arith in k)

pub double_rule : (q : ℕ) (text content : List ℕ) (at : ℕ) (pair : Option (ℕ × ℕ)) → at + 1 < length text → get_or text at 0 ≡ q → get_or text (at + 1) 0 ≡ q →
    quoted_on q text content at pair ≡ quoted_on q text (content ++ (q ∷ [])) (at + 2) (Some (length content, at + 1))
double_rule q text content at pair h e f =
    let k : (get_or text at 0 == q) ≡ true = grind (arith, nat_tests) in
    let l : (get_or text (at + 1) 0 == q) ≡ true = grind (arith, nat_tests) in
    let i : at < length text = omega arith in
    let m : at + 1 + 1 ≡ at + 2 = omega arith in
    ap (λ x. or_else (with_front content at (quoted_of q x)) (fallback content pair)) (dropped text at 0 i ∙ ap (λ x. get_or text at 0 ∷ x) (dropped text (at + 1) 0 h))
    ∙ ap (λ o. or_else (with_front content at o) (fallback content pair)) (double_cons q (get_or text at 0) (get_or text (at + 1) 0) (drop (at + 1 + 1) text) k l)
    ∙ ap (λ n. or_else (with_front content at (or_else (with_byte q 2 (quoted_of q (drop n text))) (Some ([], 1)))) (fallback content pair)) m
    ∙ double_more content q at (at + 2) (quoted_of q (drop (at + 2) text)) (fallback content pair) refl

no_quote_from : (q : ℕ) (xs : List ℕ) → (0 < length xs → get_or xs 0 0 ≢ q) → NoQuote q xs
no_quote_from q [] f = tt
no_quote_from q (c ∷ cs) f = let ne : c ≢ q = f (omega arith) in let k : (c == q) ≡ false = grind (arith, nat_tests) in k

no_quote : (q : ℕ) (text : List ℕ) (at : ℕ) → (at < length text → get_or text at 0 ≢ q) → NoQuote q (drop at text)
no_quote q text at f = no_quote_from q (drop at text) (λ some e.
    let r : get_or (drop at text) 0 0 ≡ get_or text at 0 = grind (arith, common_steps) in
    let n : at < length text = grind (arith, common_steps) in
    f n (sym r ∙ e))

pub close_rule : (q : ℕ) (text content : List ℕ) (at : ℕ) (pair : Option (ℕ × ℕ)) → at < length text → get_or text at 0 ≡ q → (at + 1 < length text → get_or text (at + 1) 0 ≢ q) →
    quoted_on q text content at pair ≡ Some (content, at + 1)
close_rule q text content at pair h e f =
    let k : (get_or text at 0 == q) ≡ true = grind (arith, nat_tests) in
    ap (λ x. or_else (with_front content at (quoted_of q x)) (fallback content pair)) (dropped text at 0 h)
    ∙ ap (λ o. or_else (with_front content at o) (fallback content pair)) (last_cons q (get_or text at 0) (drop (at + 1) text) k (no_quote q text (at + 1) f))
    ∙ ap₂ (λ x y. Some (x, y)) (append-nil content) (let m : 1 + at ≡ at + 1 = omega arith in m)

pub end_rule : (q : ℕ) (text content : List ℕ) (at : ℕ) (pair : Option (ℕ × ℕ)) → length text ≤ at → quoted_on q text content at pair ≡ fallback content pair
unfolding quoted_of
end_rule q text content at pair h = let e : drop at text ≡ [] = grind (arith, common_steps) in rw e refl

pub ruleset quote_rules = (plain_rule, double_rule, close_rule, end_rule)

-- what is read is what stands there

abbrev pub ReadsQuoted : ℕ → List ℕ → Option (List ℕ × ℕ) → Type 0
ReadsQuoted q text None = Unit {0}
ReadsQuoted q text (Some r) = (more : List ℕ) × (text ≡ (doubled q r.0 ++ (q ∷ [])) ++ more) × (r.1 ≡ length (doubled q r.0) + 1)

reads_empty : (q b : ℕ) (bs : List ℕ) → (b == q) ≡ true → ReadsQuoted q (b ∷ bs) (Some ([], 1))
reads_empty q b bs h = (bs, ap (λ x. x ∷ bs) (same b q h), refl)

reads_plain : (q b : ℕ) (bs : List ℕ) (o : Option (List ℕ × ℕ)) → (b == q) ≡ false → ReadsQuoted q bs o → ReadsQuoted q (b ∷ bs) (with_byte b 1 o)
reads_plain q b bs None h r = tt
reads_plain q b bs (Some r) h (more, te, ne) =
    let d : doubled q (b ∷ r.0) ≡ b ∷ doubled q r.0 = if_false (b == q) _ _ h in
    (more, ap (λ x. b ∷ x) te ∙ sym (ap (λ x. (x ++ (q ∷ [])) ++ more) d), ap (λ n. n + 1) ne ∙ (let k : length (doubled q r.0) + 1 + 1 ≡ length (b ∷ doubled q r.0) + 1 = omega arith in k) ∙ sym (ap (λ x. length x + 1) d))

reads_double : (q b c : ℕ) (bs : List ℕ) (o : Option (List ℕ × ℕ)) → (b == q) ≡ true → (c == q) ≡ true → ReadsQuoted q bs o → ReadsQuoted q (b ∷ c ∷ bs) (or_else (with_byte q 2 o) (Some ([], 1)))
reads_double q b c bs None h k r = reads_empty q b (c ∷ bs) h
reads_double q b c bs (Some r) h k (more, te, ne) =
    let refl_q : (q == q) ≡ true = grind (arith, nat_tests) in
    let d : doubled q (q ∷ r.0) ≡ q ∷ q ∷ doubled q r.0 = if_true (q == q) _ _ refl_q in (
      more,
      ap₂ (λ x y. x ∷ y ∷ bs) (same b q h) (same c q k) ∙ ap (λ x. q ∷ q ∷ x) te ∙ sym (ap (λ x. (x ++ (q ∷ [])) ++ more) d),
      ap (λ n. n + 2) ne ∙ (let k : length (doubled q r.0) + 1 + 2 ≡ length (q ∷ q ∷ doubled q r.0) + 1 = omega arith in k) ∙ sym (ap (λ x. length x + 1) d),
    )

reads_step : (q b c : ℕ) (bs : List ℕ) (x y : Bool) → (b == q) ≡ x → (c == q) ≡ y → (o p : Option (List ℕ × ℕ)) → ReadsQuoted q bs o → ReadsQuoted q (c ∷ bs) p →
    ReadsQuoted q (b ∷ c ∷ bs) (if x then (if y then or_else (with_byte q 2 o) (Some ([], 1)) else Some ([], 1)) else with_byte b 1 p)
reads_step q b c bs false y h k o p r s = reads_plain q b (c ∷ bs) p h s
reads_step q b c bs true true h k o p r s = reads_double q b c bs o h k r
reads_step q b c bs true false h k o p r s = reads_empty q b (c ∷ bs) h

reads_one : (q b : ℕ) (x : Bool) → (b == q) ≡ x → ReadsQuoted q (b ∷ []) (if x then Some ([], 1) else None)
reads_one q b true h = reads_empty q b [] h
reads_one q b false h = tt

pub reads_quoted : (q : ℕ) (text : List ℕ) → ReadsQuoted q text (quoted_of q text)
unfolding quoted_of
reads_quoted q [] = tt
reads_quoted q (b ∷ []) = reads_one q b (b == q) refl
reads_quoted q (b ∷ c ∷ bs) = reads_step q b c bs (b == q) (c == q) refl refl _ _ (reads_quoted q bs) (reads_quoted q (c ∷ bs))

-- what stands there is read, or more

abbrev pub CoversQuoted : Option (List ℕ × ℕ) → List ℕ → ℕ → Type 0
CoversQuoted None content len = ⊥
CoversQuoted (Some r) content len = (len < r.1) ⊎ ((r.0 ≡ content) × (r.1 ≡ len))

covers_plain : (b : ℕ) (content : List ℕ) (len m : ℕ) (o : Option (List ℕ × ℕ)) → m ≡ len + 1 → CoversQuoted o content len → CoversQuoted (with_byte b 1 o) (b ∷ content) m
covers_plain b content len m None e h = absurd h
covers_plain b content len m (Some r) e (inl h) = inl (omega arith)
covers_plain b content len m (Some r) e (inr (c, n)) = inr (ap (λ x. b ∷ x) c, omega arith)

covers_double : (q : ℕ) (content : List ℕ) (len m : ℕ) (o : Option (List ℕ × ℕ)) → m ≡ len + 2 → CoversQuoted o content len → CoversQuoted (or_else (with_byte q 2 o) (Some ([], 1))) (q ∷ content) m
covers_double q content len m None e h = absurd h
covers_double q content len m (Some r) e (inl h) = inl (omega arith)
covers_double q content len m (Some r) e (inr (c, n)) = inr (ap (λ x. q ∷ x) c, omega arith)

covers_close : (q : ℕ) (o : Option (List ℕ × ℕ)) → CoversQuoted (or_else (with_byte q 2 o) (Some ([], 1))) [] 1
covers_close q None = inr (refl, refl)
covers_close q (Some r) = inl (omega arith)

abbrev pub NoQuoteIs : ℕ → List ℕ → Bool → Type 0
NoQuoteIs q [] x = Unit {0}
NoQuoteIs q (c ∷ cs) x = (c == q) ≡ x

covers_empty : (q : ℕ) (more : List ℕ) (x : Bool) → (q == q) ≡ true → NoQuoteIs q more x → CoversQuoted (quoted_of q (q ∷ more)) [] 1
covers_empty q [] x r n = subst (λ o. CoversQuoted o [] 1) (sym (last_cons q q [] r tt)) (inr (refl, refl))
covers_empty q (c ∷ cs) true r n = subst (λ o. CoversQuoted o [] 1) (sym (double_cons q q c cs r n)) (covers_close q (quoted_of q cs))
covers_empty q (c ∷ cs) false r n = subst (λ o. CoversQuoted o [] 1) (sym (last_cons q q (c ∷ cs) r n)) (inr (refl, refl))

covers_any : (q : ℕ) (more : List ℕ) → (q == q) ≡ true → CoversQuoted (quoted_of q (q ∷ more)) [] 1
covers_any q [] r = covers_empty q [] true r tt
covers_any q (c ∷ cs) r = covers_empty q (c ∷ cs) (c == q) r refl

abbrev closed : ℕ → List ℕ → List ℕ → List ℕ
closed q content more = (doubled q content ++ (q ∷ [])) ++ more

covers_step : (q b : ℕ) (bs more : List ℕ) (x : Bool) → (b == q) ≡ x → (q == q) ≡ true → CoversQuoted (quoted_of q (closed q bs more)) bs (length (doubled q bs) + 1) →
    CoversQuoted (quoted_of q (((if x then q ∷ q ∷ doubled q bs else b ∷ doubled q bs) ++ (q ∷ [])) ++ more)) (b ∷ bs) (length (if x then q ∷ q ∷ doubled q bs else b ∷ doubled q bs) + 1)
covers_step q b bs more true h r c = subst (λ o. CoversQuoted o (b ∷ bs) (length (q ∷ q ∷ doubled q bs) + 1)) (sym (double_cons q q q (closed q bs more) r r))
    (subst (λ k. CoversQuoted (or_else (with_byte q 2 (quoted_of q (closed q bs more))) (Some ([], 1))) (k ∷ bs) (length (q ∷ q ∷ doubled q bs) + 1)) (sym (same b q h))
    (covers_double q bs (length (doubled q bs) + 1) _ (quoted_of q (closed q bs more)) (omega arith) c))
covers_step q b bs more false h r c = subst (λ o. CoversQuoted o (b ∷ bs) (length (b ∷ doubled q bs) + 1)) (sym (plain_cons q b (closed q bs more) h))
    (covers_plain b bs (length (doubled q bs) + 1) _ (quoted_of q (closed q bs more)) (omega arith) c)

pub covers_quoted : (q : ℕ) (content more : List ℕ) → (q == q) ≡ true → CoversQuoted (quoted_of q (closed q content more)) content (length (doubled q content) + 1)
covers_quoted q [] more r = covers_any q more r
covers_quoted q (b ∷ bs) more r = covers_step q b bs more (b == q) refl r (covers_quoted q bs more r)
