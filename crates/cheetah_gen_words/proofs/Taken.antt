-- `cheetah` takes the words that ask for a query over generated files.
use Rattle.std.proofs.Common.{◌≡◌, refl}
use Rattle.clap.specs.Faults.{defaults_fault, walk_fault}
use Rattle.clap.specs.Walk.{walked}
use Rattle.ch_generated.specs.Inputs.{command_words}
use Rattle.ch_generated.specs.declared.InputKind.{InputKind}
use Rattle.ch_generated.specs.declared.InputKind.TheVariants.{Filter, Distinct, Top, Group, Having, Join, Skyline}
use Rattle.cheetah_words.specs.Parsed.{cheetah_app, given_by, kinds_of}
use Rattle.cheetah_words.specs.Words.{Asking, wish_of}
use Rattle.cheetah_gen_words.specs.Asked.{asked_of}

pub taken : (kind : InputKind) → wish_of (command_words kind) ≡ Asking (asked_of kind)
unfolding command_words cheetah_app kinds_of given_by walk_fault walked defaults_fault
taken Filter = refl
taken Distinct = refl
taken Top = refl
taken Group = refl
taken Having = refl
taken Join = refl
taken Skyline = refl
