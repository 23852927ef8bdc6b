use Rattle.std.proofs.Common.{◌≡◌, ◌<◌, ◌≤◌, length, refl, sym, ap, ◌∙◌, arith, subst}
use Rattle.std.proofs.lemmas.Result.{IfOk-weaker}
use Rattle.std.proofs.lemmas.List.{length-map}
use Rattle.std.specs.Prelude.{slice_index_or, []}
use Rattle.ch_packet.specs.Packet.{IsPacket}
use Rattle.ch_packet.specs.Spelling.{spelling}
use Rattle.ch_parts.specs.Scanned.{side_table, tuple_of}
use Rattle.ch_parts.proofs.Spelling.{fin_made, row_made, some_config, worker_source}
use Rattle.ch_parts.proofs.parts.Parts.packet.Goals as goal

pub write_with-requires : goal.write_with-requires
write_with-requires c =
    let i = c.self.inside in
    let s = c.index-source.result.now in
    let parts = c.args.self.now in
    let h = worker_source i.ranks.now i.bound.now i.tables.now i.sources.items parts c.args.worker s c.self.view_is c.self.invariant.sources_are c.requires.worker c.index-source.ensures in
    let made = row_made (some_config parts) parts c.args.pass c.args.worker c.args.number c.args.epoch i.ranks.now i.bound.now s.side (slice_index_or (side_table i.bound.now i.tables.now s.side).parts s.part []) c.in_ok-bit.bit c.read_row.new.words.items refl
    h.part (omega (arith, c.if-number-source.true, h.is.rows)) c.in_ok-bit.ensures.bit c.in_ok-bit.ensures.words in
    (subst IsPacket made (c.requires.spelled (some_config parts) refl)).writable

pub returns-then-number-source : goal.returns-then-number-source
returns-then-number-source c d is =
    let i = c.self.inside in
    let s = c.index-source.result.now in
    let parts = c.args.self.now in
    let h = worker_source i.ranks.now i.bound.now i.tables.now i.sources.items parts c.args.worker s c.self.view_is c.self.invariant.sources_are c.requires.worker c.index-source.ensures in
    let made = row_made d parts c.args.pass c.args.worker c.args.number c.args.epoch i.ranks.now i.bound.now s.side (slice_index_or (side_table i.bound.now i.tables.now s.side).parts s.part []) c.in_ok-bit.bit c.read_row.new.words.items is
    h.part (omega (arith, c.if-number-source.true, h.is.rows)) c.in_ok-bit.ensures.bit c.in_ok-bit.ensures.words in
    IfOk-weaker c.write_with.result _ _ (λ b e. e ∙ ap spelling (sym made)) c.write_with.ensures

pub write_with-requires-2 : goal.write_with-requires-2
write_with-requires-2 c =
    let i = c.self.inside in
    let s = c.index-source.result.now in
    let parts = c.args.self.now in
    let h = worker_source i.ranks.now i.bound.now i.tables.now i.sources.items parts c.args.worker s c.self.view_is c.self.invariant.sources_are c.requires.worker c.index-source.ensures in
    let n = length-map (slice_index_or (side_table i.bound.now i.tables.now s.side).parts s.part []) (tuple_of i.ranks.now i.bound.now s.side) in
    let most = ap (λ p. length p.tuples) h.part in
    let made = fin_made (some_config parts) parts c.args.pass c.args.worker c.args.number c.args.epoch _ c.clear.new.self.items refl
    h.part (omega (arith, c.if-number-source.false, h.is.rows, n, most, c.requires.number)) c.clear.ensures.items in
    (subst IsPacket made (c.requires.spelled (some_config parts) refl)).writable

pub returns : goal.returns
returns c d is =
    let i = c.self.inside in
    let s = c.index-source.result.now in
    let parts = c.args.self.now in
    let h = worker_source i.ranks.now i.bound.now i.tables.now i.sources.items parts c.args.worker s c.self.view_is c.self.invariant.sources_are c.requires.worker c.index-source.ensures in
    let n = length-map (slice_index_or (side_table i.bound.now i.tables.now s.side).parts s.part []) (tuple_of i.ranks.now i.bound.now s.side) in
    let most = ap (λ p. length p.tuples) h.part in
    let made = fin_made d parts c.args.pass c.args.worker c.args.number c.args.epoch _ c.clear.new.self.items is
    h.part (omega (arith, c.if-number-source.false, h.is.rows, n, most, c.requires.number)) c.clear.ensures.items in
    IfOk-weaker c.write_with-2.result _ _ (λ b e. e ∙ ap spelling (sym made)) c.write_with-2.ensures
