use Rattle.std.proofs.Common.{◌≡◌, ◌+◌, ◌∙◌, ◌++◌, ◌∷◌, [], map, refl, true, false, sym, ap, nat_lt, arith}
use Rattle.std.proofs.lemmas.List.{map-append}
use Rattle.std.proofs.lemmas.Bool.Decides.{nat_tests}
use Rattle.ch_sql_grammar.specs.declared.terminal.Mark.TheVariants as mark
use Rattle.ch_sql_places.specs.Machine.{Member, Negated, Group, Negs, Conjs, Closed, depth_of}
use Rattle.ch_sql_grammar.specs.Tokens.{marked}
use Rattle.ch_sql_grammar.specs.Tree.{plain_of}
use Rattle.ch_sql_places.specs.Parsing.{parse_at}
use Rattle.ch_sql_parser.proofs.Rules.{want_rule, negs_rule, conjs_rule, group_rule}
use Rattle.ch_sql_parser.proofs.Moving.{exits, along}
use Rattle.ch_sql_parser.proofs.descent.+parsing.Goals as goal

pub conj-returns-in_err-first-clause-moves : goal.conj-returns-in_err-first-clause-moves
conj-returns-in_err-first-clause-moves t c = λ conjs level e.
    exits _ _ _ _ _ c.from_residual.ensures.1 refl (c.in_err-first.ensures.moves (Member conjs [] level) e)

pub conj-returns-in_err-next-clause-moves : goal.conj-returns-in_err-next-clause-moves
conj-returns-in_err-next-clause-moves t c = λ conjs level e.
    let m : marked mark.And c.args.tokens.now c.loop-alloc.place ≡ true = grind arith in
    exits _ _ _ _ _ c.from_residual-in_err-next.ensures.1 (c.loop-alloc.invariant.same conjs level e ∙ rw (negs_rule, m) refl) (c.in_err-next.ensures.moves (Member conjs (map plain_of c.loop-alloc.negs.items) level) e)

pub conj-loop-alloc-preserved : goal.conj-loop-alloc-preserved
conj-loop-alloc-preserved t c =
    let m : marked mark.And c.args.tokens.now c.loop-alloc.place ≡ true = grind arith in
    record {
      same = λ conjs level e. c.loop-alloc.invariant.same conjs level e ∙ rw (negs_rule, m) (c.in_ok-next.ensures.moves (Member conjs (map plain_of c.loop-alloc.negs.items) level) e) ∙ ap (λ x. parse_at c.args.tokens.now (Negs conjs x level) c.in_ok-next.end) (sym (ap (λ xs. map plain_of xs) c.in_ok-push-2.ensures.items ∙ map-append plain_of c.loop-alloc.negs.items (c.in_ok-next.next ∷ [])));
      onward = omega (arith, c.in_ok-next.ensures.onward);
    }

pub conj-returns-clause-moves : goal.conj-returns-clause-moves
conj-returns-clause-moves t c = λ conjs level e.
    let m : marked mark.And c.args.tokens.now c.loop-alloc.place ≡ false = grind arith in
    c.loop-alloc.invariant.same conjs level e ∙ rw (negs_rule, m) (ap (λ x. parse_at c.args.tokens.now (Conjs (conjs ++ (x ∷ [])) level) c.loop-alloc.place) (sym c.all.ensures))

pub pred-returns-in_err-first-clause-moves : goal.pred-returns-in_err-first-clause-moves
pred-returns-in_err-first-clause-moves t c = λ level w e.
    exits _ _ _ _ _ c.from_residual.ensures.1 refl (c.in_err-first.ensures.moves [] level e)

pub pred-returns-in_err-next-clause-moves : goal.pred-returns-in_err-next-clause-moves
pred-returns-in_err-next-clause-moves t c = λ level w e.
    let m : marked mark.Or c.args.tokens.now c.loop-alloc.place ≡ true = grind arith in
    exits _ _ _ _ _ c.from_residual-in_err-next.ensures.1 (c.loop-alloc.invariant.same level w e ∙ rw (conjs_rule, m, w) refl) (c.in_err-next.ensures.moves (map plain_of c.loop-alloc.conjs.items) level e)

pub pred-loop-alloc-preserved : goal.pred-loop-alloc-preserved
pred-loop-alloc-preserved t c =
    let m : marked mark.Or c.args.tokens.now c.loop-alloc.place ≡ true = grind arith in
    record {
      same = λ level w e. c.loop-alloc.invariant.same level w e ∙ rw (conjs_rule, m, w) (c.in_ok-next.ensures.moves (map plain_of c.loop-alloc.conjs.items) level e) ∙ ap (λ x. parse_at c.args.tokens.now (Conjs x level) c.in_ok-next.end) (sym (ap (λ xs. map plain_of xs) c.in_ok-push-2.ensures.items ∙ map-append plain_of c.loop-alloc.conjs.items (c.in_ok-next.next ∷ [])));
      onward = omega (arith, c.in_ok-next.ensures.onward);
    }

pub pred-returns-clause-moves : goal.pred-returns-clause-moves
pred-returns-clause-moves t c = λ level w e.
    let m : marked mark.Or c.args.tokens.now c.loop-alloc.place ≡ false = grind arith in
    c.loop-alloc.invariant.same level w e ∙ rw (conjs_rule, m) (ap (λ x. parse_at c.args.tokens.now (Closed x level) c.loop-alloc.place) (sym c.any.ensures))

pub neg-returns-in_err-inner-clause-moves : goal.neg-returns-in_err-inner-clause-moves
neg-returns-in_err-inner-clause-moves t c = λ around e.
    let m : marked mark.Not c.args.tokens.now c.args.at ≡ true = grind arith in
    let d : nat_lt (depth_of around) 32 ≡ true = grind (arith, nat_tests) in
    exits _ _ _ _ _ c.from_residual.ensures.1 (rw (want_rule, m, d) refl) (c.in_err-inner.ensures.moves (Negated around) (ap (λ n. n + 1) e))

pub neg-returns-then-mark_at-clause-moves : goal.neg-returns-then-mark_at-clause-moves
neg-returns-then-mark_at-clause-moves t c = λ around e.
    let m : marked mark.Not c.args.tokens.now c.args.at ≡ true = grind arith in
    let d : nat_lt (depth_of around) 32 ≡ true = grind (arith, nat_tests) in
    rw (want_rule, m, d, c.in_ok-negation.ensures) (c.in_ok-inner.ensures.moves (Negated around) (ap (λ n. n + 1) e))

pub neg-returns-in_err-inner-2-clause-moves : goal.neg-returns-in_err-inner-2-clause-moves
neg-returns-in_err-inner-2-clause-moves t c = λ around e.
    let n : marked mark.Not c.args.tokens.now c.args.at ≡ false = grind arith in
    let m : marked mark.LeftParen c.args.tokens.now c.args.at ≡ true = grind arith in
    let d : nat_lt (depth_of around) 32 ≡ true = grind (arith, nat_tests) in
    exits _ _ _ _ _ c.from_residual-in_err-inner-2.ensures.1 (rw (want_rule, n, m, d) refl) (c.in_err-inner-2.ensures.moves (Group around) refl (ap (λ n. n + 1) e))

pub neg-returns-then-not-mark_at-clause-moves : goal.neg-returns-then-not-mark_at-clause-moves
neg-returns-then-not-mark_at-clause-moves t c = λ around e.
    let n : marked mark.Not c.args.tokens.now c.args.at ≡ false = grind arith in
    let m : marked mark.LeftParen c.args.tokens.now c.args.at ≡ true = grind arith in
    let d : nat_lt (depth_of around) 32 ≡ true = grind (arith, nat_tests) in
    let r : marked mark.RightParen c.args.tokens.now c.in_ok-inner-2.end ≡ false = grind arith in
    rw (want_rule, n, m, d, c.in_ok-inner-2.ensures.moves (Group around) refl (ap (λ n. n + 1) e), group_rule, r) refl

pub neg-returns-then-mark_at-2-clause-moves : goal.neg-returns-then-mark_at-2-clause-moves
neg-returns-then-mark_at-2-clause-moves t c = λ around e.
    let n : marked mark.Not c.args.tokens.now c.args.at ≡ false = grind arith in
    let m : marked mark.LeftParen c.args.tokens.now c.args.at ≡ true = grind arith in
    let d : nat_lt (depth_of around) 32 ≡ true = grind (arith, nat_tests) in
    let r : marked mark.RightParen c.args.tokens.now c.in_ok-inner-2.end ≡ true = grind arith in
    rw (want_rule, n, m, d, c.in_ok-inner-2.ensures.moves (Group around) refl (ap (λ n. n + 1) e), group_rule, r) refl

pub neg-returns-in-Some-clause-moves : goal.neg-returns-in-Some-clause-moves
neg-returns-in-Some-clause-moves t c = λ around e.
    let n : marked mark.Not c.args.tokens.now c.args.at ≡ false = grind arith in
    let m : marked mark.LeftParen c.args.tokens.now c.args.at ≡ false = grind arith in
    along _ _ _ _ (rw (want_rule, n, m, ← c.in-Some.ensures.value) refl) (c.atom.ensures.moves around)
