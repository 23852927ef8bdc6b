use Rattle.std.proofs.Common.{◌≡◌, ◌++◌, drop, map}
use Rattle.std.specs.List.{AllByRecursion}
use Rattle.ch_asm_lines.specs.Spelling.{list_text}
use Rattle.ch_asm_lines.proofs.Joins.{behind_commas}
use Rattle.ch_asm_lines.proofs.list.push_list.Given as goal

abbrev pub invariant-loop-item : goal.invariant-loop-item
invariant-loop-item g l = record {
  text : l.text.items ++ behind_commas (map g.T.Item.text_of (drop l.item-index l.others)) ≡ l.fn.text.items ++ list_text (map g.T.Item.text_of l.fn.items);
  fits : AllByRecursion g.T.Item.fits (drop l.item-index l.others) → AllByRecursion g.T.Item.fits l.fn.items;
}
