use Rattle.std.proofs.Common.{◌≡◌, ◌<◌, ◌∙◌, ◌∷◌, [], ℕ, List, ap, arith, false, get_or, length, length-append, map, option_map, sym, Some, None}
use Rattle.std.specs.Prelude.{nat_lt}
use Rattle.std.proofs.lemmas.Bool.Decides.{nat_tests}
use Rattle.std.proofs.lemmas.List.{get_or-map, length-map, map-append}
use Rattle.cheetah_words.specs.Tables.{bad_word_line, part_of, part_word}
use Rattle.cheetah_words.proofs.Bad.{bad_here, good_here, part_more}
use Rattle.cheetah_words.proofs.table_word.tables_in.Goals as goal

pub returns-in-None : goal.returns-in-None
returns-in-None c =
    let words : List (List ℕ) = map (λ s. s.now) c.args.words.now in
    let many : length words ≡ length c.args.words.now = length-map c.args.words.now (λ s. s.now) in
    let within : c.loop-at.at < length words = omega (arith, many, c.loop-at-test.true) in
    let few : nat_lt 64 (length words) ≡ false = grind (arith, nat_tests) in
    let none : part_of (get_or words c.loop-at.at []) ≡ None = ap part_of (get_or-map (λ s. s.now) c.args.words.now c.loop-at.at _ [] c.loop-at-test.true) ∙ sym c.in-None.ensures in
    let bad = bad_here words c.loop-at.at [] within none c.loop-at.invariant.bad in
    record { asks = rw few (ap (option_map bad_word_line) bad ∙ ap Some (sym c.in_ok-bad_word-in-None.ensures)); few = tt }

pub loop-at-preserved : goal.loop-at-preserved
loop-at-preserved c =
    let words : List (List ℕ) = map (λ s. s.now) c.args.words.now in
    let many : length words ≡ length c.args.words.now = length-map c.args.words.now (λ s. s.now) in
    let within : c.loop-at.at < length words = omega (arith, many, c.loop-at-test.true) in
    let some : part_of (get_or words c.loop-at.at []) ≡ Some (part_word c.in-Some.table) =
    ap part_of (get_or-map (λ s. s.now) c.args.words.now c.loop-at.at _ [] c.loop-at-test.true) ∙ sym c.in-Some.ensures in
    let pushed = c.in_ok-push-in-Some.ensures.ok in
    let more = map-append part_word c.loop-at.tables (c.in-Some.table ∷ []) in
    record {
      many = rw (pushed, length-append c.loop-at.tables (c.in-Some.table ∷ [])) (omega (arith, c.loop-at.invariant.many));
      bad = good_here words c.loop-at.at [] (part_word c.in-Some.table) within some c.loop-at.invariant.bad;
      parts = rw (pushed, more) (part_more (map part_word c.loop-at.tables) words c.loop-at.at [] (part_word c.in-Some.table) within some c.loop-at.invariant.parts);
    }
