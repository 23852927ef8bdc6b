use Rattle.std.proofs.Common.{◌≡◌, ◌∷◌, ◌++◌, [], ℕ, true, false, length, map, Vec, Global, ◌∙◌, sym, ap}
use Rattle.std.specs.Prelude.{bytes_eq}
use Rattle.std.specs.List.{list_any}
use Rattle.std.proofs.lemmas.List.{length-map}
use Rattle.ch_tables.proofs.TextLemmas.{found_at, list_any-map, map-inserted, slice_get-last, with_text-new, with_text-there}
use Rattle.ch_tables.proofs.texts.Texts.place.Goals as goal

pub returns-in-Some-clause-added : goal.returns-in-Some-clause-added
returns-in-Some-clause-added c =
    let there : list_any (bytes_eq c.args.text.now) c.args.self.now ≡ true =
    rw (← c.self.view_is) (list_any-map (λ (v : Vec ℕ Global). v.items) c.args.text.now c.self.inside.set.keys ∙ sym c.in-Some.ensures.found) in
    sym (with_text-there c.args.self.now c.args.text.now there)

pub returns-in-Some-clause-at : goal.returns-in-Some-clause-at
returns-in-Some-clause-at c =
    rw (← c.self.view_is) (found_at (λ (v : Vec ℕ Global). v.items) c.args.text.now c.self.inside.set.keys c.in-Some.at (sym c.in-Some.ensures.index))

pub returns-in_ok-insert-in-None-clause-added : goal.returns-in_ok-insert-in-None-clause-added
returns-in_ok-insert-in-None-clause-added c =
    let absent : list_any (bytes_eq c.args.text.now) c.args.self.now ≡ false =
    rw (← c.self.view_is) (list_any-map (λ (v : Vec ℕ Global). v.items) c.args.text.now c.self.inside.set.keys ∙ sym c.in-None.ensures.found) in
    map-inserted (λ (v : Vec ℕ Global). v.items) c.args.text.now c.self.inside.set.keys c.insert.new.self.keys c.in_ok-from_slice-in-None.field-0
    c.in_ok-from_slice-in-None.ensures.items c.in_ok-insert-in-None.ensures.keys (sym c.in-None.ensures.found)
    ∙ (ap (λ ts. ts ++ c.args.text.now ∷ []) c.self.view_is ∙ sym (with_text-new c.args.self.now c.args.text.now absent))

pub returns-in_ok-insert-in-None-clause-at : goal.returns-in_ok-insert-in-None-clause-at
returns-in_ok-insert-in-None-clause-at c =
    let grown = map-inserted (λ (v : Vec ℕ Global). v.items) c.args.text.now c.self.inside.set.keys c.insert.new.self.keys c.in_ok-from_slice-in-None.field-0
    c.in_ok-from_slice-in-None.ensures.items c.in_ok-insert-in-None.ensures.keys (sym c.in-None.ensures.found) in
    let texts = map (λ (v : Vec ℕ Global). v.items) c.self.inside.set.keys in
    let size : c.len-at.result ≡ length texts = c.len-at.ensures.len ∙ sym (length-map c.self.inside.set.keys (λ (v : Vec ℕ Global). v.items)) in
    rw (grown, size) (slice_get-last texts c.args.text.now)
