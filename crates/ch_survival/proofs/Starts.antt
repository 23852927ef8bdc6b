-- A planned query may be started.
use Rattle.std.proofs.Common.{◌≡◌, ◌≤◌, ◌<◌, ℕ, zero, suc, ◌+◌, Bool, true, false, cond, eqb, eqb-true, List, [], ◌∷◌, length, refl, sym, ◌∙◌, ap, subst, arith, inl, inr, None}
use Rattle.std.specs.Prelude.{ℤ, pos, negsuc, All, FitsSigned, slice_index_or}
use Rattle.std.specs.List.{list_all}
use Rattle.std.specs.Int.{w64}
use Rattle.std.proofs.lemmas.Bool.{and_parts, leb-true}
use Rattle.std.proofs.lemmas.List.Elements.{All-nil, All-cons}
use Rattle.ch_lists.specs.Members.{In}
use Rattle.ch_cover.specs.Rows.{AreRows, Policy, Row, same_bit}
use Rattle.ch_ir.specs.Machine.{cleared}
use Rattle.ch_ir.specs.declared.profile.Profile.{Profile}
use Rattle.ch_pred.specs.declared.bound.Bound.{Bound}
use Rattle.ch_verdicts.specs.Agrees.{Agrees}
use Rattle.ch_pred.specs.Sound.{carried_of, has_one_table}
use Rattle.ch_words.specs.Rows.{Gate, GateFits, is_gated, is_sided, row_seen}
use Rattle.ch_words.specs.Words.{Reading, asked_of_words}
use Rattle.ch_prune.specs.Sent.{is_cell_word, is_sent}
use Rattle.ch_prune.specs.declared.operator.Need.{Need}
use Rattle.ch_plan.specs.Needs.{greatest_length}
use Rattle.ch_plan.specs.Kinds.{IsPlanOf, kind_policy, kind_program}
use Rattle.ch_plan.specs.declared.kind.PlanKind.{PlanKind}
use Rattle.ch_plan.proofs.KindLaws.{kind_holds}
use Rattle.ch_protocol.specs.Machine.{Config, row_at, size, workers}
use Rattle.ch_protocol.specs.Packets.{Name}
use Rattle.ch_protocol.specs.Received.{all_rows}
use Rattle.ch_protocol_laws.proofs.Names.{named_rows, names-from, names_of}
use Rattle.ch_survival.specs.Given.{AreParts, IsPlanned, given_of}

-- a word in the cell range is an i64
word_fits : (v : ℤ) → is_cell_word v ≡ true → FitsSigned w64 v
word_fits (pos n) h = let e = leb-true n 2305843009213693951 h in record { sfits = omega arith }
word_fits (negsuc n) h = let e = leb-true (suc n) 2305843009213693951 h in record { sfits = omega arith }

words_fit : (words : List ℤ) → list_all is_cell_word words ≡ true → All (FitsSigned w64) words
words_fit [] h = All-nil (FitsSigned w64)
words_fit (v ∷ words) h = let p = and_parts (is_cell_word v) (list_all is_cell_word words) h in All-cons (FitsSigned w64) v words (word_fits v p.0) (words_fit words p.1)

-- a side carries no more columns than the greatest number
carried_few : (lists : List (List ℕ)) (side : ℕ) → length (slice_index_or lists side []) ≤ greatest_length lists
carried_few [] side = omega arith
carried_few (columns ∷ lists) zero = omega arith
carried_few (columns ∷ lists) (suc side) = let m = carried_few lists side in omega arith

side_few : (side : ℕ) (one : Bool) → cond one (eqb side 0) (cond (eqb side 0) true (eqb side 1)) ≡ true → side ≤ 1
side_few side true h = let e = eqb-true side 0 h in omega arith
side_few side false h = go (eqb side 0) refl h
  where
    go : (first : Bool) → eqb side 0 ≡ first → cond first true (eqb side 1) ≡ true → side ≤ 1
    go true e k = let a = eqb-true side 0 e in omega arith
    go false e k = let a = eqb-true side 1 k in omega arith

-- what the test says of a row
record SentRow (gate : Gate) (b : Bound) (r : Row) : Type 0 where
  side : r.side ≤ 1
  many : length r.words ≤ greatest_length b.carried
  words : All (FitsSigned w64) r.words

sent_row_is : (gate : Gate) (b : Bound) (r : Row) → is_sent gate b r ≡ true → SentRow gate b r
sent_row_is gate b r h =
    let p = and_parts (is_gated gate b r) _ h in
    let q = and_parts (eqb (length r.words) (length (carried_of b r.side))) _ p.1 in
    let w = and_parts (list_all is_cell_word r.words) _ q.1 in
    let g = and_parts (is_sided b.shape r) (same_bit r.bit (gate r.side (row_seen b r))) p.0 in
    record {
      side = side_few r.side (has_one_table b.shape) g.0;
      many = let e = eqb-true (length r.words) (length (carried_of b r.side)) q.0 in let m = carried_few b.carried r.side in omega arith;
      words = words_fit r.words w.0;
    }

-- the row of a name is one of all rows
row_is : (c : Config) (is_row : Row → Bool) (x : Name) → AreRows is_row (all_rows c) → x.worker < workers c → x.number < size c x.worker → is_row (row_at c x) ≡ true
row_is c is_row x are w k = named_rows c is_row x.pass are (x ∷ []) (λ y i. elim i [ inl e ↦ subst (λ (z : Name). In z (names_of c x.pass)) (sym e) (names-from c x.pass x refl w k) | inr j ↦ elim j [ ] ]) (row_at c x) (inl refl)

pub starts : (k : PlanKind) (d : Reading) (b : Bound) (profile : Profile) (gate : Gate) → IsPlanOf k b profile → greatest_length b.carried ≤ 16 → GateFits gate (asked_of_words d b) b.shape
    → (c : Config) → AreParts c → c.prunes ≡ kind_policy k → AreRows (is_sent gate b) (all_rows c) → IsPlanned (given_of k gate b c)
starts k d b profile gate plan few fits c parts policy_is are =
    let h = kind_holds k d b gate (plan.serves d gate fits) in
    let width : (kind_program k).width ≡ greatest_length b.carried + 3 = h.width ∙ ap (λ (need : Need). need.width) plan.needs in
    let agrees : Agrees (is_sent gate b) (kind_program k) None (cleared (kind_program k).arrays) c.prunes =
    subst (λ (prunes : Policy). Agrees (is_sent gate b) (kind_program k) None (cleared (kind_program k).arrays) prunes) (sym policy_is) h.agrees in
    record {
      parts = parts;
      slotted = omega arith;
      rows = λ pass w n is_pass lt less.
          let row = row_is c (is_sent gate b) (record { pass = pass; worker = w; number = n }) are lt less in
          let r = sent_row_is gate b (row_at c (record { pass = pass; worker = w; number = n })) row in
          record { pass = is_pass; side = r.side; few = (let m = r.many in omega arith); places = (let m = r.many in omega arith); words = r.words; row = row };
      begun = agrees;
      cleared = agrees;
    }
