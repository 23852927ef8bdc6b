use Rattle.std.proofs.Common.{◌≡◌, [], ◌+◌, ◌<◌, length, get_or, map, take, drop, sym, ap, subst, ◌∙◌, arith}
use Rattle.std.proofs.lemmas.List.{get_or_default}
use Rattle.ch_tables.specs.Draft.{AddsPart, IsDraftOf}
use Rattle.ch_tables.specs.Records.{records_of}
use Rattle.ch_tables.specs.Refusal.{body_of, header_of, part_refusal}
use Rattle.ch_tables.proofs.DraftLemmas.{adds_part, bodies-more, later_step, moved}
use Rattle.ch_tables.proofs.draft.read_parts.Goals as goal

pub loop-part-preserved : goal.loop-part-preserved
loop-part-preserved c =
    let parts = c.args.parts.now in
    let at = c.loop-part.part in
    let old = c.loop-part.draft in
    let new = c.read_later.new.draft in
    let inv = c.loop-part.invariant in
    let e = c.in_ok-read_later.ensures in
    let within : at < length parts = omega arith in
    let text : c.as_slice-in-loop-part.result.now ≡ get_or parts at [] =
    c.as_slice-in-loop-part.ensures ∙ (c.index-parts-part.is ∙ get_or_default parts at c.index-parts-part.result [] within) in
    let adds = subst (λ t. AddsPart old new (body_of (records_of t))) text e.1 in
    let stays = ap (λ t. part_refusal c.args.room old.header at old.rows old.cells (records_of t)) (sym text) ∙ e.0 in
    record {
      within = e.2;
      draft =
          subst (IsDraftOf new (header_of (records_of (get_or parts 0 [])))) (sym (bodies-more records_of parts at within))
          (adds_part old new (header_of (records_of (get_or parts 0 []))) (map body_of (map records_of (take at parts))) (body_of (records_of (get_or parts at []))) inv.draft adds);
      same =
          inv.same
          ∙ (later_step records_of c.args.room old.header at old.rows old.cells parts at within stays
          ∙ moved c.args.room old new (at + 1) (body_of (records_of (get_or parts at []))) (map records_of (drop (at + 1) parts)) adds);
    }
