use Rattle.std.proofs.Common.{◌≡◌, ◌∷◌, ◌++◌, [], ℕ, true, false, cond, Vec, Global, ◌∙◌, sym, ap}
use Rattle.std.specs.Prelude.{bytes_eq}
use Rattle.std.specs.List.{list_any}
use Rattle.ch_ranks.proofs.Sorts.{among-map, map-inserted}
use Rattle.ch_ranks.proofs.builder.RanksBuilder.add.Goals as goal

pub returns-then-contains-clause-ok : goal.returns-then-contains-clause-ok
returns-then-contains-clause-ok c =
    let there : list_any (bytes_eq c.args.text.now) c.args.self.now ≡ true =
    rw (← c.self.view_is) (among-map (λ (v : Vec ℕ Global). v.items) c.args.text.now c.self.inside.texts.keys ∙ (sym c.contains.ensures ∙ c.if-contains.true)) in
    sym (ap (λ b. cond b c.args.self.now (c.args.self.now ++ c.args.text.now ∷ [])) there)

pub returns-clause-ok : goal.returns-clause-ok
returns-clause-ok c =
    let none : list_any (λ (v : Vec ℕ Global). bytes_eq c.args.text.now v.items) c.self.inside.texts.keys ≡ false = sym c.contains.ensures ∙ c.if-contains.false in
    let absent : list_any (bytes_eq c.args.text.now) c.args.self.now ≡ false =
    rw (← c.self.view_is) (among-map (λ (v : Vec ℕ Global). v.items) c.args.text.now c.self.inside.texts.keys ∙ none) in
    map-inserted (λ (v : Vec ℕ Global). v.items) c.args.text.now c.self.inside.texts.keys c.insert.new.self.keys c.in_ok-own.own c.in_ok-own.ensures.items c.in_ok-insert.ensures.keys none
    ∙ (ap (λ ts. ts ++ c.args.text.now ∷ []) c.self.view_is ∙ sym (ap (λ b. cond b c.args.self.now (c.args.self.now ++ c.args.text.now ∷ [])) absent))
