-- The places read a list of tokens exactly where a derivation within the limits spells it.
use Rattle.std.proofs.Common.{◌≡◌, ℕ, ◌+◌, Bool, true, false, not, ◌&&◌, ◌||◌, nat_lt, if◌then◌else◌, is_none, List, [], ◌∷◌, ◌++◌, length, Option, Some, None, option_map, option_and_then, Result, Ok, Err, refl, sym, ap, ◌∙◌, append-nil, ◌⊎◌, inl, inr}
use Rattle.ch_sql_grammar.specs.declared.terminal.Mark.TheVariants as mark
use Rattle.ch_sql_grammar.specs.declared.terminal.Terminal.{Terminal}
use Rattle.ch_sql_grammar.specs.declared.terminal.Terminal.TheVariants as terminal
use Rattle.ch_sql_grammar.specs.declared.error.ParseError.{ParseError}
use Rattle.ch_sql_grammar.specs.declared.error.ParseError.TheVariants as error
use Rattle.ch_sql_grammar.specs.Tree.{Select}
use Rattle.ch_pred.specs.declared.pred.Literal.{Literal}
use Rattle.ch_sql_grammar.specs.Tokens.{has_mark, literal_in, text_in}
use Rattle.ch_sql_grammar.specs.Grammar as grammar
use Rattle.ch_sql_grammar.specs.Grammar.{form_tokens, IsForm, IsQuery}
use Rattle.ch_sql_places.specs.Machine.{Place, Lead, LeadListed, Want, Listed, LikeText, depth_of, is_pattern, step, limit, answer, start, goes, ends, parse_from}
use Rattle.ch_sql_places.specs.Parsing.{parse_at}
use Rattle.ch_sql_places.proofs.Run.{Check, opens, lists, matches, noted, led, check, run, form_on}
use Rattle.ch_sql_places.proofs.Walked.{complete, spelled_walked, and_left, and_right}
use Rattle.ch_sql_places.proofs.Viable.{read_derived}
use Rattle.ch_sql_limits.specs.Limits.{IsQueryWithin}
use Rattle.ch_sql_limits.proofs.Depths.{keeps, keeping, keeping_settled, form_fits, form_kept}

-- a limit refuses what is not kept

abbrev kept : Option Check → Bool
kept None = true
kept (Some c) = keeps c

noted_kept : (o : Option Check) (r : Bool) → noted keeping o r ≡ (kept o && r)
noted_kept None r = refl
noted_kept (Some c) r = refl

passed_unless : (c : Bool) (e : ParseError) → is_none (if not c then Some e else None) ≡ c
passed_unless true e = refl
passed_unless false e = refl

opening_passed : (b : Bool) (depth : ℕ) (e : ParseError) → is_none (if b && not (nat_lt depth 32) then Some e else None) ≡ kept (if b then Some (opens depth) else None)
opening_passed true depth e = passed_unless (nat_lt depth 32) e
opening_passed false depth e = refl

lead_kept : (b : Bool) → true ≡ kept (if b then Some (opens 0) else None)
lead_kept true = refl
lead_kept false = refl

first_kept : (o : Option Literal) → true ≡ kept (option_map (λ v. lists 0) o)
first_kept (Some v) = refl
first_kept None = refl

passed_if : (b : Bool) (e : ParseError) → is_none (if b then None else Some e) ≡ b
passed_if true e = refl
passed_if false e = refl

like_passed : (o : Option (List ℕ)) (at : ℕ) → is_none (option_and_then (λ s. if is_pattern s then None else Some (error.BadLike at)) o) ≡ kept (option_map matches o)
like_passed (Some s) at = passed_if (is_pattern s) (error.BadLike at)
like_passed None at = refl

limit_passed : (place : Place) (at : ℕ) (t : Terminal) → is_none (limit place at t) ≡ kept (check place t)
limit_passed (Want around) at t = opening_passed (has_mark mark.Not t || has_mark mark.LeftParen t) (depth_of around) (error.TooDeep at)
limit_passed (Listed around col literals) at t = passed_if (nat_lt (length literals) 16) (error.InTooLong at)
limit_passed (LikeText around col) at t = like_passed (text_in t) at
limit_passed (Lead h) at t = lead_kept (has_mark mark.Not t || has_mark mark.LeftParen t)
limit_passed (LeadListed h col) at t = first_kept (literal_in t)
limit_passed place at t = refl

-- what is read is kept, token by token

read_on : (o : Option Place) (l : Option ParseError) (c : Option Check) (at : ℕ) (ts : List Terminal) (tree : Select) → is_none l ≡ kept c →
    ((next : Place) → parse_from next (at + 1) ts ≡ Ok tree → run keeping next ts ≡ true) →
    goes o l at (λ next. parse_from next (at + 1) ts) ≡ Ok tree → noted keeping c (led keeping (λ q. run keeping q ts) o) ≡ true
read_on None l c at ts tree k again h = cc
read_on (Some next) (Some e) c at ts tree k again h = cc
read_on (Some next) None c at ts tree k again h = noted_kept c (run keeping next ts) ∙ ap (λ a. a && run keeping next ts) (sym k) ∙ again next h

read_kept : (tokens : List Terminal) (place : Place) (at : ℕ) (tree : Select) → parse_from place at tokens ≡ Ok tree → run keeping place tokens ≡ true
read_kept [] place at tree h = refl
read_kept (t ∷ ts) place at tree h = read_on (step place t) (limit place at t) (check place t) at ts tree (limit_passed place at t) (λ next k. read_kept ts next (at + 1) tree k) h

-- what is answered and kept is read

kept_on : (o : Option Place) (l : Option ParseError) (c : Option Check) (at : ℕ) (ts : List Terminal) (tree : Select) → is_none l ≡ kept c →
    ((next : Place) → answer next ts ≡ Some tree → run keeping next ts ≡ true → parse_from next (at + 1) ts ≡ Ok tree) →
    option_and_then (λ q. answer q ts) o ≡ Some tree → noted keeping c (led keeping (λ q. run keeping q ts) o) ≡ true → goes o l at (λ next. parse_from next (at + 1) ts) ≡ Ok tree
kept_on None l c at ts tree k again h n = cc
kept_on (Some next) (Some e) c at ts tree k again h n = let passed : kept c ≡ true = and_left (kept c) (run keeping next ts) (sym (noted_kept c (run keeping next ts)) ∙ n) in cc
kept_on (Some next) None c at ts tree k again h n = again next h (and_right (kept c) (run keeping next ts) (sym (noted_kept c (run keeping next ts)) ∙ n))

kept_read : (tokens : List Terminal) (place : Place) (at : ℕ) (tree : Select) → answer place tokens ≡ Some tree → run keeping place tokens ≡ true → parse_from place at tokens ≡ Ok tree
kept_read [] place at tree h n = ap (λ o. ends o at) h
kept_read (t ∷ ts) place at tree h n = kept_on (step place t) (limit place at t) (check place t) at ts tree (limit_passed place at t) (λ next k m. kept_read ts next (at + 1) tree k m) h n

-- the law

spelled_kept : (tokens : List Terminal) (form : grammar.Form) → IsForm form → (tokens ≡ form_tokens form) ⊎ (tokens ≡ form_tokens form ++ (terminal.Mark mark.Semicolon ∷ [])) → run keeping start tokens ≡ form_on keeping form true
spelled_kept tokens form is spelled = spelled_walked keeping keeping_settled tokens form is spelled

pub without_limits : (tokens : List Terminal) (tree : Select) → IsQueryWithin tokens tree → IsQuery tokens tree
without_limits tokens tree q = record { form = q.form; is_form = q.is_form; spelled = q.spelled; stands_for = q.stands_for }

pub within_read : (tokens : List Terminal) (tree : Select) → IsQueryWithin tokens tree → parse_from start 0 tokens ≡ Ok tree
within_read tokens tree q = kept_read tokens start 0 tree (complete tokens tree (without_limits tokens tree q)) (spelled_kept tokens q.form q.is_form q.spelled ∙ form_kept q.form q.fits)

read_is_derived : (tokens : List Terminal) (tree : Select) → parse_from start 0 tokens ≡ Ok tree → IsQuery tokens tree
unfolding parse_at
read_is_derived tokens tree h = read_derived tokens tree h

pub read_within : (tokens : List Terminal) (tree : Select) → parse_from start 0 tokens ≡ Ok tree → IsQueryWithin tokens tree
read_within tokens tree h = let q = read_is_derived tokens tree h in record {
  form = q.form;
  is_form = q.is_form;
  fits = form_fits q.form (sym (spelled_kept tokens q.form q.is_form q.spelled) ∙ read_kept tokens start 0 tree h);
  spelled = q.spelled;
  stands_for = q.stands_for;
}

pub refused_is_not_within : (tokens : List Terminal) (e : ParseError) → parse_from start 0 tokens ≡ Err e → (tree : Select) → IsQueryWithin tokens tree → ⊥
refused_is_not_within tokens e h tree q = let k : parse_from start 0 tokens ≡ Ok tree = within_read tokens tree q in cc

refused_or_read : (r : Result Select ParseError) → ((tree : Select) → r ≡ Ok tree → ⊥) → (e : ParseError) × (r ≡ Err e)
refused_or_read (Ok tree) h = absurd (h tree refl)
refused_or_read (Err e) h = (e, refl)

pub not_within_is_refused : (tokens : List Terminal) → ((tree : Select) → IsQueryWithin tokens tree → ⊥) → (e : ParseError) × (parse_from start 0 tokens ≡ Err e)
not_within_is_refused tokens h = refused_or_read (parse_from start 0 tokens) (λ tree r. h tree (read_within tokens tree r))
