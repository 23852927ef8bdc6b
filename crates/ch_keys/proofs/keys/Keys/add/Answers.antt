use Rattle.std.proofs.Common.{◌≡◌, map, ap, ◌∙◌}
use Rattle.ch_keys.specs.Keys.{items_of}
use Rattle.ch_keys.proofs.Looked.{added, unique_different, with_key}
use Rattle.ch_keys.proofs.keys.Keys.add.Goals as goal

pub invariant_of-self-2 : goal.invariant_of-self-2
invariant_of-self-2 c = unique_different c.insert.new.self.keys c.insert.ensures.unique

pub returns-clause-ok : goal.returns-clause-ok
returns-clause-ok c =
    let seen : map items_of c.self.inside.set.keys ≡ c.args.self.now = cc in
    ap (map items_of) c.in_ok-insert.ensures.keys ∙ (added c.args.key c.self.inside.set.keys ∙ ap (with_key c.args.key.items) seen)

pub returns-clause-different : goal.returns-clause-different
returns-clause-different c = unique_different c.insert.new.self.keys c.insert.ensures.unique
