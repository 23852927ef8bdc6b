use Rattle.std.proofs.Common.{◌≡◌, ◌≤◌, ◌<◌, ◌∷◌, ◌++◌, ℕ, suc, List, [], All, ap, arith, filter, length, map}
use Rattle.std.proofs.lemmas.List.{length-map}
use Rattle.std.proofs.lemmas.List.Elements.{All-cons, All-filter}
use Rattle.ch_command.specs.Reading.{most_bytes}
use Rattle.cheetah_inputs.proofs.Grouping.{is_others, kept}
use Rattle.cheetah_inputs.proofs.Reading.{first_parts, read_more}
use Rattle.cheetah_inputs.proofs.Texts.{few_texts, short_all, short_texts}
use Rattle.cheetah_inputs.proofs.tables.read_tables.Goals as goal
use Rattle.cheetah_inputs.specs.Parts.{AreShort, NamedText, part_text, texts_of}

pub read_one-requires-clause-few : goal.read_one-requires-clause-few
read_one-requires-clause-few c =
    let n = few_texts (part_text c.in-Some.first).name (map part_text c.pop_front.new.self.items) in
    let m = length-map c.pop_front.new.self.items part_text in
    let whole : length c.loop-first.left.items ≡ suc (length c.pop_front.new.self.items) = ap length c.in-Some.ensures.items in
    rw c.in_ok-texts.ensures.texts (omega (arith, n, m, whole, c.loop-first.invariant.few))

pub read_one-requires-clause-short : goal.read_one-requires-clause-short
read_one-requires-clause-short c =
    let short : AreShort (part_text c.in-Some.first ∷ map part_text c.pop_front.new.self.items) = rw c.in-Some.ensures.items at c.loop-first.invariant.short in
    let all = short_all (part_text c.in-Some.first) (map part_text c.pop_front.new.self.items) short in
    rw c.in_ok-texts.ensures.texts (All-cons (λ text. length text ≤ most_bytes) _ _ all.0 (short_texts (part_text c.in-Some.first).name (map part_text c.pop_front.new.self.items) all.1))

pub loop-first-smaller : goal.loop-first-smaller
loop-first-smaller c =
    let n = kept (is_others (part_text c.in-Some.first).name) (map part_text c.pop_front.new.self.items) in
    let m = length-map c.pop_front.new.self.items part_text in
    let l = length-map c.in_ok-texts.field-0.others.items part_text in
    let e = ap length c.in_ok-texts.ensures.others in
    let whole : length c.loop-first.left.items ≡ suc (length c.pop_front.new.self.items) = ap length c.in-Some.ensures.items in
    let fewer : length c.in_ok-texts.field-0.others.items < length c.loop-first.left.items = omega (arith, n, m, l, e, whole) in
    fewer

pub loop-first-preserved : goal.loop-first-preserved
loop-first-preserved c =
    let part = part_text c.in-Some.first in
    let rest = map part_text c.pop_front.new.self.items in
    let others = map part_text c.in_ok-texts.field-0.others.items in
    let n = kept (is_others part.name) rest in
    let m = length-map c.pop_front.new.self.items part_text in
    let l = length-map c.in_ok-texts.field-0.others.items part_text in
    let e = ap length c.in_ok-texts.ensures.others in
    let whole : length c.loop-first.left.items ≡ suc (length c.pop_front.new.self.items) = ap length c.in-Some.ensures.items in
    let short : AreShort (part ∷ rest) = rw c.in-Some.ensures.items at c.loop-first.invariant.short in
    let parts = first_parts (map part_text c.loop-first.left.items) part rest others c.in_ok-texts.field-0.texts (ap (map part_text) c.in-Some.ensures.items) c.in_ok-texts.ensures.texts c.in_ok-texts.ensures.others in
    record {
      few = omega (arith, n, m, l, e, whole, c.loop-first.invariant.few);
      short = rw c.in_ok-texts.ensures.others (All-filter (is_others part.name) (λ (p : NamedText). length p.text ≤ most_bytes) rest (short_all part rest short).1);
      same = rw (c.in_ok-push.ensures.ok, c.room_after-room.ensures)
          (read_more c.loop-first.tables c.loop-first.room (map part_text c.loop-first.left.items) part.name c.in_ok-texts.field-0.texts others c.in_ok-table.table _ parts c.in_ok-table.ensures c.loop-first.invariant.same);
    }
