-- What the meaning of a command must satisfy, by the parts that it is made of.
use Rattle.std.proofs.Common.{◌≡◌, ◌≢◌, ◌∙◌, ◌<◌, ◌+◌, ◌++◌, ap, arith, false, get_or, inl, inr, length, List, [], ◌∷◌, ℕ, zero, suc, None, Result, Ok, Err, refl, subst, sym}
use Rattle.std.proofs.lemmas.List.{length-append}
use Rattle.ch_outside.specs.Shelf.{Files}
use Rattle.ch_command.specs.Command.{Agree, IsCommand, IsDecided, ReadThen, Refuses, Then, misused, reading, refused}
use Rattle.ch_command.specs.Reading.{after, contents_of, limit_after, read_all, read_on, taken}
use Rattle.ch_command.specs.Status.{is_usage}
use Rattle.ch_command.specs.declared.outcome.Ending.TheVariants.{Done, Usage, Input}
use Rattle.ch_command.specs.declared.outcome.Outcome.{Outcome}

abbrev pub Total : (Outcome → Type 0) → Type 0
Total Is = (outcome : Outcome) × Is outcome

abbrev pub Unique : (Outcome → Type 0) → Type 0
Unique Is = (a b : Outcome) → Is a → Is b → a ≡ b

-- a chain of refusals is there, and is one thing, where what follows it is

pub then_some : {X : Type 0} (reads : X → Type 0) (refuses : Outcome → Type 0) (next : X → Outcome → Type 0) → IsDecided reads refuses → ((x : X) → reads x → Total (next x)) → Total (Then reads refuses next)
then_some reads refuses next decided more = elim decided.either [
  | inl read ↦ let rest = more read.0 read.1 in (rest.0, inl (record { value = read.0; is = read.1; rest = rest.1 }))
  | inr none ↦ (none.0, inr none.1)
]

pub then_one : {X : Type 0} (reads : X → Type 0) (refuses : Outcome → Type 0) (next : X → Outcome → Type 0) → IsDecided reads refuses → ((x : X) → reads x → Unique (next x)) → Unique (Then reads refuses next)
then_one {X} reads refuses next decided more a b (inl p) (inl q) =
    more p.value p.is a b p.rest (subst (λ (x : X). next x b) (decided.one_value q.value p.value q.is p.is) q.rest)
then_one reads refuses next decided more a b (inl p) (inr q) = absurd (decided.not_both p.value b p.is q)
then_one reads refuses next decided more a b (inr p) (inl q) = absurd (decided.not_both q.value a q.is p)
then_one reads refuses next decided more a b (inr p) (inr q) = decided.one_refusal a b p q

pub read_some : {X E : Type 0} (read : Result X E) (says : E → Outcome) (next : X → Outcome → Type 0) → ((x : X) → read ≡ Ok x → Total (next x)) → Total (ReadThen read says next)
read_some (Ok x) says next more = more x refl
read_some (Err e) says next more = (says e, refl)

pub read_one : {X E : Type 0} (read : Result X E) (says : E → Outcome) (next : X → Outcome → Type 0) → ((x : X) → Unique (next x)) → Unique (ReadThen read says next)
read_one (Ok x) says next more a b p q = more x a b p q
read_one (Err e) says next more a b p q = p ∙ sym q

-- what is said of one refusal at most is one outcome
pub said_once : {E : Type 0} (holds : E → Type 0) (says : E → Outcome) → ((e f : E) → holds e → holds f → e ≡ f) → Unique (Refuses holds says)
said_once holds says one a b p q = p.said ∙ ap says (one p.error q.error p.is q.is) ∙ sym q.said

-- what holds of everything at the ends of a chain holds of what it comes to

pub then_all : {X : Type 0} (P : Outcome → Type 0) (reads : X → Type 0) (refuses : Outcome → Type 0) (next : X → Outcome → Type 0) → ((outcome : Outcome) → refuses outcome → P outcome) → ((x : X) (outcome : Outcome) → next x outcome → P outcome) → (outcome : Outcome) → Then reads refuses next outcome → P outcome
then_all P reads refuses next none more outcome (inl p) = more p.value outcome p.rest
then_all P reads refuses next none more outcome (inr p) = none outcome p

pub read_ends : {X E : Type 0} (P : Outcome → Type 0) (read : Result X E) (says : E → Outcome) (next : X → Outcome → Type 0) → ((e : E) → P (says e)) → ((x : X) → read ≡ Ok x → (outcome : Outcome) → next x outcome → P outcome) → (outcome : Outcome) → ReadThen read says next outcome → P outcome
read_ends P (Ok x) says next none more outcome p = more x refl outcome p
read_ends P (Err e) says next none more outcome p = rw p (none e)

pub said_all : {E : Type 0} (P : Outcome → Type 0) (holds : E → Type 0) (says : E → Outcome) → ((e : E) → P (says e)) → (outcome : Outcome) → Refuses holds says outcome → P outcome
said_all P holds says each outcome p = rw p.said (each p.error)

-- words that are refused

pub misused_is_command : (lines : List ℕ → Type 0) → ((line : List ℕ) × lines line) → IsCommand (misused lines)
misused_is_command lines some = record {
  some = λ files. (refused Usage some.0, (some.0, some.1, refl));
  one = λ files a b p q. record { ending = rw (p.2, q.2) refl; out = rw (p.2, q.2) refl; err = λ other. absurd (other (rw p.2 refl)) };
  misuse = λ files outcome p. rw p.2 refl;
  quiet = λ files outcome p other. rw p.2 refl;
  needed = λ files outcome file named. absurd named;
}

-- words that name files

no_value : {X E : Type 0} (x : X) (e : E) → Err e ≡ Ok x → ⊥
no_value x e q = cc

-- as many contents as names
read_length : (files : Files) (read names contents : List (List ℕ)) → read_on files read names ≡ Ok contents → length contents ≡ length read + length names
read_length files read [] contents e = let same : read ≡ contents = cc in rw same (omega arith)
read_length files read (name ∷ names) contents e = by_read (contents_of name (limit_after (taken read)) (files name)) e (λ bytes. read_length files (read ++ bytes ∷ []) names contents)
  where
    by_read : (found : Result (List ℕ) (List ℕ)) → after found (λ bytes. read_on files (read ++ bytes ∷ []) names) ≡ Ok contents
        → ((bytes : List ℕ) → read_on files (read ++ bytes ∷ []) names ≡ Ok contents → length contents ≡ length (read ++ bytes ∷ []) + length names) → length contents ≡ length read + suc (length names)
    by_read (Ok bytes) e more = more bytes e ∙ rw (length-append read (bytes ∷ [])) (omega arith)
    by_read (Err line) e more = absurd cc

pub all_are_read : (files : Files) (names contents : List (List ℕ)) → read_all files names ≡ Ok contents → length contents ≡ length names
all_are_read files names contents e = read_length files [] names contents e ∙ omega arith

-- a file that isn't there is refused
absent_stops : (files : Files) (read names contents : List (List ℕ)) (k : ℕ) (file : List ℕ) → k < length names → get_or names k file ≡ file → files file ≡ None → read_on files read names ≡ Ok contents → ⊥
absent_stops files read [] contents k file lt is none e = absurd (omega arith)
absent_stops files read (name ∷ names) contents zero file lt is none e = let gone : files name ≡ None = ap files is ∙ none in no_value _ _ (rw gone at e)
absent_stops files read (name ∷ names) contents (suc k) file lt is none e =
    by_read (contents_of name (limit_after (taken read)) (files name)) e (λ bytes. absent_stops files (read ++ bytes ∷ []) names contents k file (omega arith) is none)
  where
    by_read : (found : Result (List ℕ) (List ℕ)) → after found (λ bytes. read_on files (read ++ bytes ∷ []) names) ≡ Ok contents → ((bytes : List ℕ) → read_on files (read ++ bytes ∷ []) names ≡ Ok contents → ⊥) → ⊥
    by_read (Ok bytes) e more = more bytes e
    by_read (Err line) e more = absurd cc

-- what follows the reads is there, is one thing, and is no misuse, and nothing stands on out unless it is done
pub record IsMeaning (count : ℕ) (next : List (List ℕ) → Outcome → Type 0) : Type 0 where
  pub some : (contents : List (List ℕ)) → length contents ≡ count → Total (next contents)
  pub one : (contents : List (List ℕ)) → Unique (next contents)
  pub taken : (contents : List (List ℕ)) (outcome : Outcome) → next contents outcome → is_usage outcome.ending ≡ false
  pub quiet : (contents : List (List ℕ)) (outcome : Outcome) → next contents outcome → outcome.ending ≢ Done → outcome.out ≡ []

agree : (a b : Outcome) → a ≡ b → Agree a b
agree a b e = record { ending = ap (λ o. o.ending) e; out = ap (λ o. o.out) e; err = λ other. ap (λ o. o.err) e }

pub reading_is_command : (names : List (List ℕ)) (next : List (List ℕ) → Outcome → Type 0) → IsMeaning (length names) next → IsCommand (reading names next)
reading_is_command names next is = record {
  some = λ files. read_some (read_all files names) (refused Input) next (λ contents e. is.some contents (all_are_read files names contents e));
  one = λ files a b p q. agree a b (read_one (read_all files names) (refused Input) next is.one a b p q);
  misuse = λ files outcome p. read_ends (λ o. is_usage o.ending ≡ false) (read_all files names) (refused Input) next (λ line. refl) (λ contents e. is.taken contents) outcome p;
  quiet = λ files outcome p. read_ends (λ o. o.ending ≢ Done → o.out ≡ []) (read_all files names) (refused Input) next (λ line other. refl) (λ contents e. is.quiet contents) outcome p;
  needed = λ files outcome file named none p. read_ends (λ o. o.ending ≡ Input) (read_all files names) (refused Input) next (λ line. refl)
      (λ contents e outcome q. absurd (absent_stops files [] names contents named.0 file named.1 named.2 none e)) outcome p;
}
