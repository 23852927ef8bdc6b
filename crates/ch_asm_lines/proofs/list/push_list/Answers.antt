use Rattle.std.proofs.Common.{◌-◌, List, length, take, drop, sym, subst}
use Rattle.std.specs.List.{AllByRecursion}
use Rattle.ch_asm_lines.proofs.Joins.{parted, begun}
use Rattle.ch_asm_lines.proofs.list.push_list.Goals as goal

pub loop-item-init : goal.loop-item-init
loop-item-init g c =
    let items : List g.row.T.Denot = c.args.items.now in
    let rest : List g.row.T.Denot = take (length items - 1) (drop 1 items) in
    let parts = parted items c.first-item.result c.in-len1-up.len_at_least c.first-item.is in
    record {
      text = begun g.T.Item.text_of c.args.text.now.items c.push-in-len1-up.new.text.items items rest c.first-item.result parts c.in_ok-push-in-len1-up.ensures.text;
      fits = λ h. subst (λ (xs : List g.row.T.Denot). AllByRecursion g.T.Item.fits xs) (sym parts) (c.in_ok-push-in-len1-up.ensures.fits, h);
    }
