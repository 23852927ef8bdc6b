use Rattle.std.proofs.Common.{◌≡◌, ◌+◌, ◌<◌, [], ◌∷◌, ◌++◌, length, take, sym, ap, subst, ◌∙◌, arith, true, rules}
use Rattle.std.specs.Result.{is_ok}
use Rattle.std.proofs.lemmas.List.{take_more}
use Rattle.ch_tables.specs.Columns.{ArePlaces}
use Rattle.ch_tables.specs.Texts.{with_texts}
use Rattle.ch_tables.proofs.WordLemmas.{ArePlaces-push, ArePlaces-with_text, length-with_text, places-step}
use Rattle.ch_tables.proofs.column.places_of.Goals as goal

pub loop-at-preserved : goal.loop-at-preserved
loop-at-preserved c =
    let inv = c.loop-at.invariant in
    let column = c.args.column.now in
    let at = c.loop-at.at in
    let added = c.in_ok-place.ensures.added in
    let here : at < length column = omega arith in
    let longer : ArePlaces c.place.new.self (take at column) c.loop-at.places.items =
    subst (λ texts. ArePlaces texts (take at column) c.loop-at.places.items) (sym added)
    (ArePlaces-with_text c.loop-at.texts c.get.result.now (take at column) c.loop-at.places.items inv.places) in
    let good : is_ok c.push.result ≡ true = search rules in
    let items : c.push.new.self.items ≡ c.loop-at.places.items ++ c.in_ok-place.place ∷ [] = rw good at c.push.ensures.items in
    let taken : take (at + 1) column ≡ take at column ++ c.get.result.now ∷ [] = take_more column at [] here ∙ ap (λ t. take at column ++ t ∷ []) (sym c.get.ensures) in
    record {
      places = rw (taken, items) (ArePlaces-push c.place.new.self (take at column) c.loop-at.places.items c.get.result.now c.in_ok-place.place longer c.in_ok-place.ensures.at);
      same = places-step (with_texts c.args.texts.now column) c.loop-at.texts c.place.new.self column at c.get.result.now here c.get.ensures added inv.same;
      few = let one = length-with_text c.loop-at.texts c.get.result.now in let size = ap length added in omega arith;
    }
