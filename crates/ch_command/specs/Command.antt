-- What a command comes to.
use Rattle.std.specs.Prelude.{◌≡◌, ◌≢◌, ◌⊎◌, ℕ, Bool, true, false, List, [], Contains, None, Result, Ok, Err}
use Rattle.ch_command.specs.Reading.{read_all}
use Rattle.ch_command.specs.Status.{is_usage}
use Rattle.ch_command.specs.declared.outcome.Ending.{Ending}
use Rattle.ch_command.specs.declared.outcome.Ending.TheVariants.{Done, Usage, Input}
use Rattle.ch_command.specs.declared.outcome.Outcome.{Outcome}
use Rattle.ch_outside.specs.Shelf.{Files}

-- a line on err, and nothing on out
abbrev pub refused : Ending → List ℕ → Outcome
refused ending line = record { ending = ending; out = []; err = line }

-- a text on out, and nothing on err
abbrev pub answered : List ℕ → Outcome
answered text = record { ending = Done; out = text; err = [] }

-- what some words mean
pub record Command : Type 1 where
  -- over these files they come to this. There may be several, where the text that refuses words isn't fixed
  pub comes_to : Files → Outcome → Type 0
  -- they are no command
  pub is_misuse : Bool
  -- they name this file
  pub names : List ℕ → Type 0

-- the same, but for the text that refuses words
pub record Agree (a b : Outcome) : Type 0 where
  pub ending : a.ending ≡ b.ending
  pub out : a.out ≡ b.out
  pub err : a.ending ≢ Usage → a.err ≡ b.err

-- What the meaning of any words must satisfy.
pub record IsCommand (command : Command) : Type 0 where
  -- over any files they come to something, and to one thing
  pub some : (files : Files) → (outcome : Outcome) × command.comes_to files outcome
  pub one : (files : Files) (a b : Outcome) → command.comes_to files a → command.comes_to files b → Agree a b
  -- the status is 1 exactly where the words are misused
  pub misuse : (files : Files) (outcome : Outcome) → command.comes_to files outcome → is_usage outcome.ending ≡ command.is_misuse
  -- with any status but 0 nothing stands on out
  pub quiet : (files : Files) (outcome : Outcome) → command.comes_to files outcome → outcome.ending ≢ Done → outcome.out ≡ []
  -- they name only files without which they are refused
  pub needed : (files : Files) (outcome : Outcome) (file : List ℕ) → command.names file → files file ≡ None → command.comes_to files outcome → outcome.ending ≡ Input

-- A chain of refusals.

-- a value is read, and the rest is over it
pub record Reads {X : Type 0} (reads : X → Type 0) (next : X → Outcome → Type 0) (outcome : Outcome) : Type 0 where
  pub value : X
  pub is : reads value
  pub rest : next value outcome

-- a refusal holds, and this is what it comes to
pub record Refuses {E : Type 0} (holds : E → Type 0) (says : E → Outcome) (outcome : Outcome) : Type 0 where
  pub error : E
  pub is : holds error
  pub said : outcome ≡ says error

-- what reads gives a value, over which the rest is; or it is refused
abbrev pub Then : {X : Type 0} → (X → Type 0) → (Outcome → Type 0) → (X → Outcome → Type 0) → Outcome → Type 0
Then reads refuses next outcome = Reads reads next outcome ⊎ refuses outcome

-- the same of a reader that is a function
abbrev pub ReadThen : {X E : Type 0} → Result X E → (E → Outcome) → (X → Outcome → Type 0) → Outcome → Type 0
ReadThen (Ok value) says next outcome = next value outcome
ReadThen (Err error) says next outcome = outcome ≡ says error

-- one value is read or one refusal holds, and not both
pub record IsDecided {X : Type 0} (reads : X → Type 0) (refuses : Outcome → Type 0) : Type 0 where
  pub either : ((x : X) × reads x) ⊎ ((outcome : Outcome) × refuses outcome)
  pub one_value : (x y : X) → reads x → reads y → x ≡ y
  pub one_refusal : (a b : Outcome) → refuses a → refuses b → a ≡ b
  pub not_both : (x : X) (outcome : Outcome) → reads x → refuses outcome → ⊥

-- The two kinds of words.

-- words that are refused with one of these lines
abbrev pub misused : (List ℕ → Type 0) → Command
misused lines = record {
  comes_to = λ files outcome. (line : List ℕ) × lines line × (outcome ≡ refused Usage line);
  is_misuse = true;
  names = λ file. ⊥;
}

-- words that name these files, over whose bytes they come to this
abbrev pub reading : List (List ℕ) → (List (List ℕ) → Outcome → Type 0) → Command
reading names next = record {
  comes_to = λ files outcome. ReadThen (read_all files names) (refused Input) next outcome;
  is_misuse = false;
  names = λ file. Contains names file;
}
