use Rattle.std.proofs.Common.{◌≡◌, ◌≤◌, ◌∙◌, ℕ, List, Option, Ok, ap, arith, length, map, sym}
use Rattle.std.specs.Prelude.{option_map}
use Rattle.std.proofs.lemmas.List.{length-map}
use Rattle.cheetah_words.specs.Tables.{part_word}
use Rattle.cheetah_words.specs.Words.{Request, request_of}
use Rattle.cheetah_words.specs.declared.table_word.TableWord.{TableWord}
use Rattle.cheetah_inputs.proofs.Sharing.{parts_behind, profile_stops, tables_stop}
use Rattle.cheetah_inputs.proofs.Texts.{few_parts, few_tables, many_tables, named_short}
use Rattle.cheetah_inputs.proofs.inputs.read_shared.Goals as goal
use Rattle.cheetah_inputs.specs.Inputs.{behind, first_text, part_texts, profile_text, tables_or_line}
use Rattle.cheetah_inputs.specs.Parts.{named_texts, part_text, tables_in}
use Rattle.cheetah_inputs.specs.Tables.{room, tables_within}

pub read_tables-requires-clause-few : goal.read_tables-requires-clause-few
read_tables-requires-clause-few c =
    let n = few_parts (map part_word c.as_slice.result.now) c.take_first-text.new.texts.items in
    let m = length-map c.in_ok-named.named.items part_text in
    let w = length-map c.as_slice.result.now part_word in
    let s = ap length c.as_slice.ensures in
    let e = ap length c.in_ok-named.ensures in
    omega (arith, n, m, w, s, e, c.requires.few)

pub read_tables-requires-clause-short : goal.read_tables-requires-clause-short
read_tables-requires-clause-short c =
    rw c.in_ok-named.ensures (named_short (map part_word c.as_slice.result.now) c.take_first-text.new.texts.items c.take_first-text.ensures.others)

pub returns-clause-few : goal.returns-clause-few
returns-clause-few c =
    let parts = map part_text c.in_ok-named.named.items in
    let many = many_tables room (tables_in parts) c.in_ok-tables.tables c.in_ok-tables.ensures in
    let t = few_tables parts in
    let n = few_parts (map part_word c.as_slice.result.now) c.take_first-text.new.texts.items in
    let m = length-map c.in_ok-named.named.items part_text in
    let w = length-map c.as_slice.result.now part_word in
    let s = ap length c.as_slice.ensures in
    let e = ap length c.in_ok-named.ensures in
    omega (arith, many, t, n, m, w, s, e, c.requires.few)

pub returns-clause-reads : goal.returns-clause-reads
returns-clause-reads c =
    let request : Request = request_of c.args.asked.now in
    let contents : List (List ℕ) = c.args.contents in
    let whole : c.from-texts.result.items ≡ contents = c.from-texts.ensures.0 ∙ c.into_vec.ensures in
    let text : option_map (λ t. t.now) c.bytes_in.result ≡ profile_text request contents =
    c.bytes_in.ensures ∙ (c.take_first-text.ensures.text ∙ ap (first_text request.profile) whole) in
    let gone : c.take_first-text.new.texts.items ≡ part_texts request contents =
    parts_behind request contents c.take_first-text.new.texts.items c.requires.unscheduled (c.take_first-text.ensures.rest ∙ ap (behind request.profile) whole) in
    let parts : map part_text c.in_ok-named.named.items ≡ named_texts request.tables (part_texts request contents) =
    c.in_ok-named.ensures ∙ (ap (λ (ws : List TableWord). named_texts (map part_word ws) c.take_first-text.new.texts.items) c.as_slice.ensures ∙ ap (named_texts request.tables) gone) in
    record {
      profile_is = rw text at c.in_ok-profile.ensures;
      tables_are = sym (ap (λ ps. tables_within room (tables_in ps)) parts) ∙ c.in_ok-tables.ensures;
    }
