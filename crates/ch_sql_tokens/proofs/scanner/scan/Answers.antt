use Rattle.std.proofs.Common.{◌≡◌, ◌+◌, ◌-◌, ◌∙◌, ap, sym, arith, get_or, false, length, take, drop}
use Rattle.std.proofs.lemmas.Grind.{common_steps}
use Rattle.ch_sql_tokens.specs.declared.scanner.Front.TheVariants.{Found, OutOfRange, Nothing}
use Rattle.ch_sql_tokens.specs.Byte.{is_blank}
use Rattle.ch_sql_tokens.specs.Scan.{after, lex_at, front_of}
use Rattle.ch_sql_tokens.proofs.ScanRules.{token_rule, range_rule, byte_rule}
use Rattle.ch_sql_tokens.proofs.Lexing.{front_within}
use Rattle.ch_sql_tokens.proofs.scanner.scan.Goals as goal

pub overflow_add-at-in-Found : goal.overflow_add-at-in-Found
overflow_add-at-in-Found c =
    let rest : take (length c.args.text.now - c.loop-at.at) (drop c.loop-at.at c.args.text.now) ≡ drop c.loop-at.at c.args.text.now = grind (arith, common_steps) in
    let found : front_of (drop c.loop-at.at c.args.text.now) ≡ Found c.in-Found.token c.in-Found.len = ap front_of (sym rest) ∙ sym c.in_ok-token.ensures ∙ c.in-Found.is in
    let w = front_within (drop c.loop-at.at c.args.text.now) c.in-Found.token c.in-Found.len found in
    grind (arith, common_steps, w.1)

pub loop-at-smaller : goal.loop-at-smaller
loop-at-smaller c =
    let rest : take (length c.args.text.now - c.loop-at.at) (drop c.loop-at.at c.args.text.now) ≡ drop c.loop-at.at c.args.text.now = grind (arith, common_steps) in
    let found : front_of (drop c.loop-at.at c.args.text.now) ≡ Found c.in-Found.token c.in-Found.len = ap front_of (sym rest) ∙ sym c.in_ok-token.ensures ∙ c.in-Found.is in
    let w = front_within (drop c.loop-at.at c.args.text.now) c.in-Found.token c.in-Found.len found in
    omega (arith, w.0)

pub loop-at-preserved : goal.loop-at-preserved
loop-at-preserved c =
    let rest : take (length c.args.text.now - c.loop-at.at) (drop c.loop-at.at c.args.text.now) ≡ drop c.loop-at.at c.args.text.now = grind (arith, common_steps) in
    let found : front_of (drop c.loop-at.at c.args.text.now) ≡ Found c.in-Found.token c.in-Found.len = ap front_of (sym rest) ∙ sym c.in_ok-token.ensures ∙ c.in-Found.is in
    let w = front_within (drop c.loop-at.at c.args.text.now) c.in-Found.token c.in-Found.len found in
    let blank : is_blank (get_or c.args.text.now c.loop-at.at 0) ≡ false = sym c.is_separator.ensures ∙ grind arith in
    record {
      within = grind (arith, common_steps, w.1);
      same = ap (λ x. after x (lex_at c.args.text.now (c.loop-at.at + c.in-Found.len))) c.in_ok-push-in-Found.ensures.ok
          ∙ sym (token_rule c.args.text.now c.loop-at.tokens c.loop-at.at c.in-Found.token c.in-Found.len c.loop-at-test.true blank found w.0)
          ∙ c.loop-at.invariant.same;
    }

pub returns-in-OutOfRange : goal.returns-in-OutOfRange
returns-in-OutOfRange c =
    let rest : take (length c.args.text.now - c.loop-at.at) (drop c.loop-at.at c.args.text.now) ≡ drop c.loop-at.at c.args.text.now = grind (arith, common_steps) in
    let found : front_of (drop c.loop-at.at c.args.text.now) ≡ OutOfRange = ap front_of (sym rest) ∙ sym c.in_ok-token.ensures ∙ c.in-OutOfRange.is in
    let blank : is_blank (get_or c.args.text.now c.loop-at.at 0) ≡ false = sym c.is_separator.ensures ∙ grind arith in
    sym c.loop-at.invariant.same ∙ ap (after c.loop-at.tokens) (range_rule c.args.text.now c.loop-at.at c.loop-at-test.true blank found)

pub returns-in-Nothing : goal.returns-in-Nothing
returns-in-Nothing c =
    let rest : take (length c.args.text.now - c.loop-at.at) (drop c.loop-at.at c.args.text.now) ≡ drop c.loop-at.at c.args.text.now = grind (arith, common_steps) in
    let found : front_of (drop c.loop-at.at c.args.text.now) ≡ Nothing = ap front_of (sym rest) ∙ sym c.in_ok-token.ensures ∙ c.in-Nothing.is in
    let blank : is_blank (get_or c.args.text.now c.loop-at.at 0) ≡ false = sym c.is_separator.ensures ∙ grind arith in
    sym c.loop-at.invariant.same ∙ ap (after c.loop-at.tokens) (byte_rule c.args.text.now c.loop-at.at c.loop-at-test.true blank found)
