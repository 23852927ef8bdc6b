use Rattle.std.proofs.Common.{◌≡◌, List, length, map, take, ap, sym, ◌∙◌, arith}
use Rattle.ch_protocol.specs.Packets.{Part}
use Rattle.ch_stands.specs.Team.{sizes_of}
use Rattle.ch_parts.specs.declared.row.Source.{Source}
use Rattle.ch_parts.proofs.Listing.{sizes_are, taken_all}
use Rattle.ch_parts.proofs.parts.Parts.sizes.Goals as goal

pub returns : goal.returns
returns c =
    let i = c.self.inside in
    let all : c.loop-source.rows.items ≡ map (λ (s : Source). s.rows) c.as_slice-source-items.result.now =
    c.loop-source.invariant ∙ ap (map (λ (s : Source). s.rows)) (taken_all c.as_slice-source-items.result.now c.loop-source.source-index (omega (arith, c.loop-source-test.false))) in
    c.from_vec.ensures
    ∙ (all ∙ (ap (map (λ (s : Source). s.rows)) c.as_slice-source-items.ensures.value
    ∙ (sizes_are i.ranks.now i.bound.now i.tables.now i.sources.items c.self.invariant.sources_are ∙ ap (λ (ps : List Part). sizes_of ps) c.self.view_is)))
