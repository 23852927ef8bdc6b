use Rattle.std.proofs.Common.{subst}
use Rattle.ch_finish.specs.Fold.{StandsForKept}
use Rattle.ch_finish.specs.declared.fold.Kept.{Kept}
use Rattle.ch_words.proofs.SoundQueries.{sound_names}
use Rattle.ch_finish.proofs.fold.Fold.add.Goals as goal

pub add-requires-clause-names : goal.add-requires-clause-names
add-requires-clause-names c = sound_names c.args.query.now c.requires.sound

pub add-requires-in-Distinct-clause-names : goal.add-requires-in-Distinct-clause-names
add-requires-in-Distinct-clause-names c = sound_names c.args.query.now c.requires.sound

pub add-requires-in-Top-clause-names : goal.add-requires-in-Top-clause-names
add-requires-in-Top-clause-names c = sound_names c.args.query.now c.requires.sound

pub add-requires-in-Group-clause-names : goal.add-requires-in-Group-clause-names
add-requires-in-Group-clause-names c = sound_names c.args.query.now c.requires.sound

pub add-requires-in-Having-clause-names : goal.add-requires-in-Having-clause-names
add-requires-in-Having-clause-names c = sound_names c.args.query.now c.requires.sound

pub add-requires-in-Skyline-clause-names : goal.add-requires-in-Skyline-clause-names
add-requires-in-Skyline-clause-names c = sound_names c.args.query.now c.requires.sound

pub add-requires-in-Semi-clause-names : goal.add-requires-in-Semi-clause-names
add-requires-in-Semi-clause-names c = sound_names c.args.query.now c.requires.sound

pub add-requires-in-Join : goal.add-requires-in-Join
add-requires-in-Join c =
    let texts = c.args.ranks.now in
    let b = c.args.query.now in
    let room = c.requires.room in
    record { stands = (texts, b, room.0, subst (λ (k : Kept). StandsForKept texts b k room.0) c.in-Join.is room.1, c.requires.fits, room.2) }

pub returns-in-Join-clause-ok : goal.returns-in-Join-clause-ok
returns-in-Join-clause-ok c = λ rows r s side words.
    let texts = c.args.ranks.now in
    let b = c.args.query.now in
    c.add-in-Join.ensures.ok texts b rows r (subst (λ (k : Kept). StandsForKept texts b k rows) c.in-Join.is s) c.requires.fits side words
