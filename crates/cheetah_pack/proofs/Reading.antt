-- What reading the queries one after another comes to.
use Rattle.std.proofs.Common.{◌≡◌, ◌∙◌, ap, arith, inl, inr, refl, subst, sym, ℕ, zero, suc, ◌+◌, ◌++◌, ◌<◌, List, [], ◌∷◌, All, length, map, take, Option, Some, None, Result, Ok, Err}
use Rattle.std.specs.Prelude.{IfOk, get_or, option_map, slice_get}
use Rattle.std.proofs.lemmas.Option.{slice_get-get_or, slice_get-map}
use Rattle.std.proofs.lemmas.List.Elements.{All-cons, All-nil}
use Rattle.ch_bind.specs.Binding.{PlainBound, plain_bound}
use Rattle.ch_bind.specs.declared.error.SumError.{SumError}
use Rattle.ch_command.specs.Command.{ReadThen, refused}
use Rattle.ch_command.specs.declared.outcome.Ending.TheVariants.{Input}
use Rattle.ch_command.specs.declared.outcome.Outcome.{Outcome}
use Rattle.ch_pred.specs.declared.bound.Bound.{Bound}
use Rattle.ch_tables.specs.TableValue.{TableValue}
use Rattle.cheetah_inputs.proofs.Chains.{reads_then}
use Rattle.cheetah_inputs.specs.Inputs.{GivesSchedule, drain_alone, first_text}
use Rattle.cheetah_inputs.specs.Messages.{bind_line}
use Rattle.cheetah_inputs.specs.Question.{AfterBound, IsQuestion, bound_or_refused, or_refused, refused_sum, summed_or_refused}
use Rattle.cheetah_inputs.specs.Question as question
use Rattle.cheetah_inputs.specs.declared.inputs.Shared.{Shared}
use Rattle.cheetah_inputs.specs.declared.refusal.Refusal.{Refusal}
use Rattle.cheetah_inputs.specs.declared.refusal.Refusal.TheVariants as refusal
use Rattle.cheetah_pack_meaning.specs.Meaning.{outcome_of}
use Rattle.cheetah_pack_meaning.specs.Queries.{AfterQueries, OfBound, OfQueries, OfQuery, numbered}
use Rattle.cheetah_pack.specs.Planning.{IsAsked}
use Rattle.cheetah_pack.specs.Reading.{AreQuestions, IsRead, ReadsNumbered, ReadsQuestions, never}

-- The line of a refused query gets its number.

module _ (number : ℕ) (line : List ℕ) where
  said_so : {X E : Type 0} (read : Result X E) (says : E → List ℕ) (none next : X → Outcome → Type 0) → ((x : X) → none x (refused Input line) → next x (refused Input (numbered number line)))
      → ReadThen read (λ error. refused Input (says error)) none (refused Input line) → ReadThen read (λ error. refused Input (numbered number (says error))) next (refused Input (numbered number line))
  said_so (Ok x) says none next more p = more x p
  said_so (Err error) says none next more p = ap (λ (o : Outcome). refused Input (numbered number o.err)) p

  pub question_numbered : (text : List ℕ) (tables : List TableValue) (next : AfterBound) → question.OfQuestion text tables question.never (refused Input line) → OfQuery number text tables next (refused Input (numbered number line))
  question_numbered text tables next (inr p) = inr (record { error = p.error; is = p.is; said = ap (λ (o : Outcome). refused Input (numbered number o.err)) p.said })
  question_numbered text tables next (inl p) = inl (record {
    value = p.value;
    is = p.is;
    rest = said_so (bound_or_refused p.value tables) bind_line (question.OfBound tables question.never) (OfBound number tables next) (λ q.
        said_so (summed_or_refused q tables) (refused_sum q tables) question.never next (λ r none. absurd none)) p.rest;
  })

-- A refusal stands whatever would come behind.

before : {X E : Type 0} (read : Result X E) (says : E → Outcome) (none next : X → Outcome → Type 0) (outcome : Outcome) → ((x : X) → none x outcome → next x outcome) → ReadThen read says none outcome → ReadThen read says next outcome
before (Ok x) says none next outcome more p = more x p
before (Err error) says none next outcome more p = p

pub query_more : (number : ℕ) (text : List ℕ) (tables : List TableValue) (none next : AfterBound) (outcome : Outcome) → ((q : PlainBound) → none q outcome → next q outcome) → OfQuery number text tables none outcome
    → OfQuery number text tables next outcome
query_more number text tables none next outcome more (inr p) = inr p
query_more number text tables none next outcome more (inl p) = inl (record {
  value = p.value;
  is = p.is;
  rest = before (bound_or_refused p.value tables) (λ error. refused Input (numbered number (bind_line error))) (OfBound number tables none) (OfBound number tables next) outcome (λ q.
      before (summed_or_refused q tables) (λ error. refused Input (numbered number (refused_sum q tables error))) none next outcome more) p.rest;
})

pub queries_more : (number : ℕ) (texts : List (List ℕ)) (tables : List TableValue) (none next : AfterQueries) (outcome : Outcome) → ((qs : List PlainBound) → none qs outcome → next qs outcome)
    → OfQueries number texts tables none outcome → OfQueries number texts tables next outcome
queries_more number [] tables none next outcome more p = more [] p
queries_more number (text ∷ texts) tables none next outcome more p =
    query_more number text tables (λ q. OfQueries (number + 1) texts tables (λ qs. none (q ∷ qs))) (λ q. OfQueries (number + 1) texts tables (λ qs. next (q ∷ qs))) outcome
    (λ q. queries_more (number + 1) texts tables (λ qs. none (q ∷ qs)) (λ qs. next (q ∷ qs)) outcome (λ qs. more (q ∷ qs))) p

-- What is read is followed by what comes behind it.

pub query_read : (number : ℕ) (text : List ℕ) (tables : List TableValue) (next : AfterBound) (b : Bound) (outcome : Outcome) → IsQuestion text tables b → next (plain_bound b) outcome → OfQuery number text tables next outcome
query_read number text tables next b outcome is p =
    let q : PlainBound = plain_bound b in
    let bound : bound_or_refused is.query tables ≡ Ok q = rw is.passes (ap Ok (sym is.is_bound)) in
    let summed : summed_or_refused q tables ≡ Ok q = ap (λ (o : Option SumError). or_refused o q) is.summed in
    inl (record {
      value = is.query;
      is = is.spelled;
      rest = reads_then (bound_or_refused is.query tables) (λ error. refused Input (numbered number (bind_line error))) (OfBound number tables next) q outcome bound
          (reads_then (summed_or_refused q tables) (λ error. refused Input (numbered number (refused_sum q tables error))) next q outcome summed p);
    })

pub queries_read : (number : ℕ) (texts : List (List ℕ)) (tables : List TableValue) (next : AfterQueries) (bounds : List Bound) (outcome : Outcome) → AreQuestions texts tables bounds
    → next (map plain_bound bounds) outcome → OfQueries number texts tables next outcome
queries_read number [] tables next [] outcome are p = p
queries_read number [] tables next (b ∷ bounds) outcome are p = absurd are
queries_read number (text ∷ texts) tables next [] outcome are p = absurd are
queries_read number (text ∷ texts) tables next (b ∷ bounds) outcome are p =
    query_read number text tables (λ q. OfQueries (number + 1) texts tables (λ qs. next (q ∷ qs))) b outcome are.0
    (queries_read (number + 1) texts tables (λ qs. next (plain_bound b ∷ qs)) bounds outcome are.1 p)

-- the first that is refused stands behind those that are read
pub queries_refused : (number : ℕ) (texts : List (List ℕ)) (tables : List TableValue) (next : AfterQueries) (bounds : List Bound) (k : ℕ) (text : List ℕ) (outcome : Outcome)
    → AreQuestions (take k texts) tables bounds → slice_get texts k ≡ Some text → ((at : ℕ) (behind : AfterBound) → at ≡ number + k → OfQuery at text tables behind outcome) → OfQueries number texts tables next outcome
queries_refused number [] tables next bounds k text outcome are at none = absurd cc
queries_refused number (x ∷ texts) tables next bounds zero text outcome are at none =
    let same : text ≡ x = cc in
    subst (λ (t : List ℕ). OfQuery number t tables (λ q. OfQueries (number + 1) texts tables (λ qs. next (q ∷ qs))) outcome) same (none number (λ q. OfQueries (number + 1) texts tables (λ qs. next (q ∷ qs))) (omega arith))
queries_refused number (x ∷ texts) tables next [] (suc k) text outcome are at none = absurd are
queries_refused number (x ∷ texts) tables next (b ∷ bounds) (suc k) text outcome are at none =
    query_read number x tables (λ q. OfQueries (number + 1) texts tables (λ qs. next (q ∷ qs))) b outcome are.0
    (queries_refused (number + 1) texts tables (λ qs. next (plain_bound b ∷ qs)) bounds k text outcome are.1 at (λ m behind e. none m behind (omega (arith, e))))

pub refused_all : (texts : List (List ℕ)) (tables : List TableValue) (bounds : List Bound) (k : ℕ) (text : List ℕ) (why : Refusal) → AreQuestions (take k texts) tables bounds → slice_get texts k ≡ Some text
    → ReadsNumbered k text tables (Err why) → ReadsQuestions texts tables (Err why)
refused_all texts tables bounds k text (refusal.Line line) are at reads =
    queries_refused 0 texts tables never bounds k text (refused Input line) are at (λ m behind e.
    let same : m ≡ k = omega (arith, e) in
    subst (λ n. OfQuery n text tables behind (refused Input line)) (sym same) (query_more k text tables question.never behind (refused Input line) (λ q none. absurd none) reads))
refused_all texts tables bounds k text refusal.Memory are at reads = tt

-- a text that is read off a list
pub text_at : {A : Type 0} (xs : List A) (f : A → List ℕ) (k : ℕ) (d : A) → k < length xs → slice_get (map f xs) k ≡ Some (f (get_or xs k d))
text_at xs f k d lt = slice_get-map f xs k ∙ ap (option_map f) (slice_get-get_or xs k d lt)

-- one more is read
pub questions_more : (texts : List (List ℕ)) (tables : List TableValue) (bounds : List Bound) (k : ℕ) (text : List ℕ) (b : Bound) → AreQuestions (take k texts) tables bounds → slice_get texts k ≡ Some text
    → IsQuestion text tables b → AreQuestions (take (suc k) texts) tables (bounds ++ b ∷ [])
questions_more [] tables bounds k text b are at is = absurd cc
questions_more (x ∷ texts) tables [] zero text b are at is = let same : text ≡ x = cc in (subst (λ (t : List ℕ). IsQuestion t tables b) same is, tt)
questions_more (x ∷ texts) tables (c ∷ bounds) zero text b are at is = absurd are
questions_more (x ∷ texts) tables [] (suc k) text b are at is = absurd are
questions_more (x ∷ texts) tables (c ∷ bounds) (suc k) text b are at is = (are.0, questions_more texts tables bounds k text b are.1 at is)

pub same_count : (texts : List (List ℕ)) (tables : List TableValue) (bounds : List Bound) → AreQuestions texts tables bounds → length bounds ≡ length texts
same_count [] tables [] are = refl
same_count [] tables (b ∷ bounds) are = absurd are
same_count (text ∷ texts) tables [] are = absurd are
same_count (text ∷ texts) tables (b ∷ bounds) are = ap suc (same_count texts tables bounds are.1)

-- What is read can be asked.

no_schedule : (schedule : Option (List ℕ)) (texts : List (List ℕ)) → schedule ≡ None → GivesSchedule (first_text schedule texts) drain_alone
no_schedule None texts none = refl
no_schedule (Some file) texts none = absurd cc

pub asked_alone : (shared : Shared) (text : List ℕ) (b : Bound) → IsRead shared → IsQuestion text shared.tables b → IsAsked shared b
asked_alone shared text b read is = record {
  request = record { query = text; profile = read.request.profile; schedule = read.request.schedule; plan = read.request.plan; tables = read.request.tables };
  contents = read.contents;
  few = read.few;
  read = record {
    profile = read.are.profile_is;
    schedule = no_schedule read.request.schedule _ read.unscheduled;
    tables = read.are.tables_are;
    question = is;
  };
}

pub all_asked : (shared : Shared) (texts : List (List ℕ)) (bounds : List Bound) → IsRead shared → AreQuestions texts shared.tables bounds → All (λ b. IsAsked shared b) bounds
all_asked shared [] [] read are = All-nil (λ b. IsAsked shared b)
all_asked shared [] (b ∷ bounds) read are = absurd are
all_asked shared (text ∷ texts) [] read are = absurd are
all_asked shared (text ∷ texts) (b ∷ bounds) read are = All-cons (λ x. IsAsked shared x) b bounds (asked_alone shared text b read are.0) (all_asked shared texts bounds read are.1)

-- What all of them come to.

abbrev after_all : Shared → AfterQueries
after_all shared qs outcome = outcome ≡ outcome_of shared.profile shared.tables qs

pub texts_read : {E : Type 0} (shared : Shared) (texts : List (List ℕ)) (bounds : List Bound) (r : Result Outcome E) → AreQuestions texts shared.tables bounds → IfOk r (λ o. o ≡ outcome_of shared.profile shared.tables (map plain_bound bounds))
    → IfOk r (λ o. OfQueries 0 texts shared.tables (after_all shared) o)
texts_read shared texts bounds (Ok outcome) are comes = queries_read 0 texts shared.tables (after_all shared) bounds outcome are comes
texts_read shared texts bounds (Err memory) are comes = tt

pub texts_refused : (shared : Shared) (texts : List (List ℕ)) (outcome : Outcome) → OfQueries 0 texts shared.tables never outcome → OfQueries 0 texts shared.tables (after_all shared) outcome
texts_refused shared texts outcome = queries_more 0 texts shared.tables never (after_all shared) outcome (λ qs none. absurd none)
