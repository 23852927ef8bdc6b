use Rattle.std.proofs.Common.{◌≡◌, drop}
use Rattle.ch_ir.specs.Hash.{hash_from, hash_first}
use Rattle.ch_ir.proofs.hash.hash_words.Given as goal

-- the words left, after the state so far, hash as all of them do
abbrev pub invariant-loop-word : goal.invariant-loop-word
invariant-loop-word l = hash_from l.state (drop l.word-index l.words) ≡ hash_from (hash_first l.seed) l.words
