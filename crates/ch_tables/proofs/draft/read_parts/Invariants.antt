use Rattle.std.proofs.Common.{◌≡◌, [], drop, get_or, map, take}
use Rattle.ch_tables.specs.Draft.{IsDraftOf, IsWithin}
use Rattle.ch_tables.specs.Records.{records_of}
use Rattle.ch_tables.specs.Refusal.{body_of, header_of, later_refusal, refusal}
use Rattle.ch_tables.proofs.draft.read_parts.Given as goal

abbrev pub invariant-loop-part : goal.invariant-loop-part
invariant-loop-part l = record {
  within : IsWithin l.room l.draft;
  draft : IsDraftOf l.draft (header_of (records_of (get_or l.parts 0 []))) (map body_of (map records_of (take l.part l.parts)));
  same : refusal l.room (map records_of l.parts) ≡ later_refusal l.room l.draft.header l.part l.draft.rows l.draft.cells (map records_of (drop l.part l.parts));
}
