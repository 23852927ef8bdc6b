use Rattle.std.proofs.Common.{subst}
use Rattle.ch_finish.specs.Fold.{StandsForKept}
use Rattle.ch_finish.specs.declared.fold.Kept.{Kept}
use Rattle.ch_words.proofs.SoundQueries.{sound_names}
use Rattle.ch_finish.proofs.fold.Fold.lines.Goals as goal

pub lines-requires-in-Join : goal.lines-requires-in-Join
lines-requires-in-Join c =
    let stands = c.requires.stands in
    record {
      sound = c.requires.sound;
      stands = (stands.0, subst (λ (k : Kept). StandsForKept c.args.ranks.now c.args.query.now k stands.0) c.in-Join.is stands.1);
    }

pub returns-in-Filter : goal.returns-in-Filter
returns-in-Filter c = λ rows s.
    c.lines.ensures c.args.ranks.now c.args.query.now rows (sound_names c.args.query.now c.requires.sound) (subst (λ (k : Kept). StandsForKept c.args.ranks.now c.args.query.now k rows) c.in-Filter.is s)

pub returns-in-Distinct : goal.returns-in-Distinct
returns-in-Distinct c = λ rows s.
    c.lines-in-Distinct.ensures c.args.ranks.now c.args.query.now rows (sound_names c.args.query.now c.requires.sound) (subst (λ (k : Kept). StandsForKept c.args.ranks.now c.args.query.now k rows) c.in-Distinct.is s)

pub returns-in-Top : goal.returns-in-Top
returns-in-Top c = λ rows s.
    c.lines-in-Top.ensures c.args.ranks.now c.args.query.now rows (sound_names c.args.query.now c.requires.sound) (subst (λ (k : Kept). StandsForKept c.args.ranks.now c.args.query.now k rows) c.in-Top.is s)

pub returns-in-Group : goal.returns-in-Group
returns-in-Group c = λ rows s.
    c.lines-in-Group.ensures c.args.ranks.now c.args.query.now rows (sound_names c.args.query.now c.requires.sound) (subst (λ (k : Kept). StandsForKept c.args.ranks.now c.args.query.now k rows) c.in-Group.is s)

pub returns-in-Having : goal.returns-in-Having
returns-in-Having c = λ rows s.
    c.lines-in-Having.ensures c.args.ranks.now c.args.query.now rows (sound_names c.args.query.now c.requires.sound) (subst (λ (k : Kept). StandsForKept c.args.ranks.now c.args.query.now k rows) c.in-Having.is s)

pub returns-in-Skyline : goal.returns-in-Skyline
returns-in-Skyline c = λ rows s.
    c.lines-in-Skyline.ensures c.args.ranks.now c.args.query.now rows (sound_names c.args.query.now c.requires.sound) (subst (λ (k : Kept). StandsForKept c.args.ranks.now c.args.query.now k rows) c.in-Skyline.is s)

pub returns-in-Semi : goal.returns-in-Semi
returns-in-Semi c = λ rows s.
    c.lines-in-Semi.ensures c.args.ranks.now c.args.query.now rows (sound_names c.args.query.now c.requires.sound) (subst (λ (k : Kept). StandsForKept c.args.ranks.now c.args.query.now k rows) c.in-Semi.is s)

pub returns-in-Join : goal.returns-in-Join
returns-in-Join c = λ rows s. c.lines-in-Join.ensures rows (subst (λ (k : Kept). StandsForKept c.args.ranks.now c.args.query.now k rows) c.in-Join.is s)
