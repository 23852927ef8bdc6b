-- What a run of a planned query is begun with may be run.
use Rattle.std.proofs.Common.{◌≡◌, ℕ, zero, suc, ◌<◌, ◌≤◌, ◌^◌, Bool, true, false, List, [], ◌∷◌, length, map, flat_map, refl, ap, sym, ◌∙◌, arith, subst, inl, inr}
use Rattle.std.specs.Prelude.{None, Option, Some, if◌then◌else◌, slice_index_or, ◌==◌}
use Rattle.std.proofs.lemmas.List.{length-map}
use Rattle.ch_lists.specs.Members.{In, Each}
use Rattle.ch_lists.proofs.Members.{In-append, In-map, In-map_from, Each-permutation}
use Rattle.ch_cover.specs.Rows.{Row}
use Rattle.ch_ir.specs.declared.profile.Profile.{Profile}
use Rattle.ch_pred.specs.Meaning.{answer}
use Rattle.ch_pred.specs.declared.bound.Bound.{Bound}
use Rattle.ch_plan.specs.Kinds.{IsPlanOf, kind_program, kind_times}
use Rattle.ch_plan.specs.Needs.{greatest_length}
use Rattle.ch_plan.specs.declared.kind.PlanKind.{PlanKind}
use Rattle.ch_protocol.specs.Packets.{Part}
use Rattle.ch_protocol.specs.Sets.{numbers_from}
use Rattle.ch_protocol.specs.Machine.{Config, State, IsReached, passes, row_at, rows_in, size, start, stopped, workers}
use Rattle.ch_protocol.specs.Received.{all_rows, rows_arrived}
use Rattle.ch_protocol.proofs.Lists.{In-numbers}
use Rattle.ch_protocol_laws.proofs.Names.{name, names_of, names-from, names-rows}
use Rattle.ch_words.proofs.SoundQueries.{sound_tables}
use Rattle.ch_fold_lines.specs.Rows.{RowFits}
use Rattle.ch_fold_lines.proofs.WordFits.{sent_fit}
use Rattle.ch_survival.specs.Asked.{answer_arrived, asked_gate, asked_rows}
use Rattle.ch_verdicts.specs.Handed.{HasPlaces, IsPass, IsSlot}
use Rattle.ch_verdicts.specs.declared.Slot.{Slot}
use Rattle.ch_ends.specs.Packets.{no_part}
use Rattle.ch_survival.specs.Given.{AreParts, IsPlanned, given_of}
use Rattle.ch_survival.proofs.Survives.{asked_starts, asked_survives}
use Rattle.ch_ir.specs.Machine.{cleared}
use Rattle.ch_ir.specs.declared.program.Program.{Program}
use Rattle.ch_switch.specs.Switching.{Switching, fresh}
use Rattle.ch_tables.specs.TableValue.{TableValue}
use Rattle.ch_parts.specs.Scanned.{AreTables, asked_tables, part_of, parts_of, parts_of_side, parts_of_table, table_at}
use Rattle.ch_parts.proofs.Permuting.{permuted}
use Rattle.ch_parts.proofs.Reading.{few_sides}
use Rattle.ch_stands.proofs.Starting.{size_at}
use Rattle.ch_engine.specs.Stands.{AreFolded, Stands}
use Rattle.ch_engine.specs.declared.engine.Engine.{Engine}
use Rattle.ch_run.specs.Asked.{AreFew, MayBegin, begun_of, begun_over, config_of}
use Rattle.ch_run.specs.Runs.{IsRunOf}

-- a worker's row is one of all rows
row_in : (c : Config) (pass w k : ℕ) → w < workers c → k < size c w → In (row_at c (record { pass = pass; worker = w; number = k })) (all_rows c)
row_in c pass w k lt less =
    subst (λ (rows : List Row). In (row_at c (name pass w k)) rows) (names-rows c pass)
    (In-map_from (row_at c) (name pass w k) (names_of c pass) (names-from c pass (name pass w k) refl lt less))

pub folded : (texts : List (List ℕ)) (b : Bound) (tables : List TableValue) (c : Config) → AreTables texts b tables → c.parts ≡ parts_of texts b tables → AreFolded texts b c
folded texts b tables c t e =
    let a = t.asked in
    let s = sound_tables texts b (asked_tables b tables) a.sound a.ascends a.fits in
    record {
      sound = a.sound;
      fits = λ pass w k lt less.
          Each-permutation (λ (r : Row). RowFits texts b r.side r.words) (asked_rows texts b (asked_tables b tables)) (all_rows c) (permuted texts b tables t c e)
          (sent_fit texts b (asked_gate texts b) (asked_tables b tables) s) (row_at c (record { pass = pass; worker = w; number = k })) (row_in c pass w k lt less);
    }

each_flat : {X : Type 0} (P : X → Type 0) (f : ℕ → List X) (ns : List ℕ) → ((n : ℕ) → In n ns → Each P (f n)) → Each P (flat_map f ns)
each_flat P f [] h x i = absurd i
each_flat P f (n ∷ ns) h x i = elim (In-append x (f n) (flat_map f ns) i) [
  | inl j ↦ h n (inl refl) x j
  | inr j ↦ each_flat P f ns (λ m k. h m (inr k)) x j
]

side_small : (texts : List (List ℕ)) (b : Bound) (tables : List TableValue) (n side : ℕ) → side ≤ 1 → Each (λ (p : Part). p.side ≤ 1) (parts_of_side texts b tables n side)
side_small texts b tables n side le = go (slice_index_or b.tables side 0 == n)
  where
    go : (t : Bool) → Each (λ (p : Part). p.side ≤ 1) (if t then map (part_of texts b side) (table_at tables n).parts else [])
    go true p i = let m = In-map (part_of texts b side) p (table_at tables n).parts i in subst (λ (q : Part). q.side ≤ 1) (sym m.2) le
    go false p i = absurd i

sides_small : (texts : List (List ℕ)) (b : Bound) (tables : List TableValue) → AreTables texts b tables → Each (λ (p : Part). p.side ≤ 1) (parts_of texts b tables)
sides_small texts b tables t =
    each_flat (λ (p : Part). p.side ≤ 1) (parts_of_table texts b tables) (numbers_from 0 (length tables)) (λ n i.
    each_flat (λ (p : Part). p.side ≤ 1) (parts_of_side texts b tables n) (numbers_from 0 (length b.tables)) (λ side j.
    let r = In-numbers side 0 (length b.tables) j in
    let few = few_sides texts b tables t in
    side_small texts b tables n side (omega (arith, r.1, few))))

part_side : (ps : List Part) (w : ℕ) → Each (λ (p : Part). p.side ≤ 1) ps → (slice_index_or ps w no_part).side ≤ 1
part_side [] w h = omega arith
part_side (p ∷ ps) zero h = h p (inl refl)
part_side (p ∷ ps) (suc w) h = part_side ps w (λ q i. h q (inr i))

pub parts_fit : (texts : List (List ℕ)) (b : Bound) (tables : List TableValue) (k : PlanKind) (window : ℕ) → AreTables texts b tables → AreFew (parts_of texts b tables) → 1 ≤ window → window < 2 ^ 32
    → AreParts (config_of texts b tables k window)
parts_fit texts b tables k window t f low high =
    let c = config_of texts b tables k window in
    let n : workers c ≡ length c.parts = length-map c.parts rows_in in
    record {
      many = omega (arith, n, f.many);
      window = (low, high);
      sizes = λ w lt. let small = f.sizes w (omega (arith, n, lt)) in let e = size_at c w in omega (arith, small, e);
      sides = λ w. part_side c.parts w (sides_small texts b tables t);
    }

-- one pass or two
times_are : (n : ℕ) → IsPass n → (if n == 2 then 2 else 1) ≡ n
times_are n (inl e) = rw e refl
times_are n (inr e) = rw e refl

pub planned : (texts : List (List ℕ)) (b : Bound) (tables : List TableValue) (k : PlanKind) (profile : Profile) (window : ℕ) → AreTables texts b tables → IsPlanOf k b profile → greatest_length b.carried ≤ 16
    → AreFew (parts_of texts b tables) → 1 ≤ window → window < 2 ^ 32 → IsPlanned (begun_of texts b tables k window).given
planned texts b tables k profile window t p few f low high =
    let c = config_of texts b tables k window in
    asked_starts texts b (asked_tables b tables) k profile t.asked p few c (parts_fit texts b tables k window t f low high) refl (permuted texts b tables t c refl)

-- the run at its start
pub begins : (texts : List (List ℕ)) (b : Bound) (tables : List TableValue) (k : PlanKind) (profile : Profile) (window : ℕ) (x : Engine) → AreTables texts b tables → IsPlanOf k b profile → greatest_length b.carried ≤ 16
    → AreFew (parts_of texts b tables) → 1 ≤ window → window < 2 ^ 32
    → (let c = config_of texts b tables k window in AreFolded texts b c → Stands (given_of k (asked_gate texts b) b c) x (start c))
    → x.ranks.now ≡ texts → x.bound.now ≡ b
    → let q = begun_of texts b tables k window in IsRunOf q x (start q.given.config)
begins texts b tables k profile window x t p few f low high stands ranks bound =
    let c = config_of texts b tables k window in
    record {
      ranks_are = ranks;
      bound_is = bound;
      planned = planned texts b tables k profile window t p few f low high;
      reached = ([], refl);
      stands = stands (folded texts b tables c t refl);
    }

-- a new switch for the workers
pub switch_is : (texts : List (List ℕ)) (b : Bound) (tables : List TableValue) (k : PlanKind) (window n : ℕ) (checked : Program) (parts : List Part) (sw : Switching) → checked ≡ kind_program k → parts ≡ parts_of texts b tables → n ≡ length parts
    → sw ≡ fresh checked (cleared checked.arrays) None n
    → let g = (begun_of texts b tables k window).given in sw ≡ fresh g.program g.begun g.slot (workers g.config)
switch_is texts b tables k window n checked parts sw p ps l e =
    let g = (begun_of texts b tables k window).given in
    let many : n ≡ workers g.config = l ∙ (ap (λ (qs : List Part). length qs) ps ∙ sym (length-map (parts_of texts b tables) rows_in)) in
    e ∙ (ap (λ (r : Program). fresh r (cleared r.arrays) None n) p ∙ ap (λ m. fresh g.program g.begun g.slot m) many)

-- a slot that stands behind the words of rows has a place for them
slot_places : (o : Option Slot) (slot : Slot) (width place n : ℕ) → o ≡ Some slot → HasPlaces None width n → width ≤ slot.place → HasPlaces o place n
slot_places o slot width place n e h le = subst (λ (p : Option Slot). HasPlaces p place n) (sym e) (omega (arith, h, le))

slot_within : (o : Option Slot) (slot : Slot) (width wide : ℕ) → o ≡ Some slot → 3 ≤ width → width ≤ slot.place → slot.place < wide → IsSlot o wide
slot_within o slot width wide e three le lt = subst (λ (p : Option Slot). IsSlot p wide) (sym e) (omega (arith, three, le), lt)

pub planned_over : (texts : List (List ℕ)) (b : Bound) (tables : List TableValue) (k : PlanKind) (profile : Profile) (window : ℕ) (sw : Switching) → AreTables texts b tables → IsPlanOf k b profile → greatest_length b.carried ≤ 16
    → AreFew (parts_of texts b tables) → 1 ≤ window → window < 2 ^ 32 → MayBegin texts b k (length (parts_of texts b tables)) sw → IsPlanned (begun_over texts b tables k window sw).given
planned_over texts b tables k profile window sw t p few f low high may =
    let alone = planned texts b tables k profile window t p few f low high in
    let width = (kind_program k).width in
    record {
      parts = alone.parts;
      slotted = slot_within sw.slot may.slot width sw.program.width may.slot_is alone.slotted may.wide may.within;
      rows = λ pass w n is lt less. let r = alone.rows pass w n is lt less in record {
        pass = r.pass;
        side = r.side;
        few = r.few;
        places = slot_places sw.slot may.slot width sw.program.width _ may.slot_is r.places may.wide;
        words = r.words;
        row = r.row;
      };
      begun = may.begun;
      cleared = may.cleared;
    }

-- the run at its start over such a switch
pub begins_over : (texts : List (List ℕ)) (b : Bound) (tables : List TableValue) (k : PlanKind) (profile : Profile) (window : ℕ) (sw : Switching) (x : Engine) → AreTables texts b tables → IsPlanOf k b profile → greatest_length b.carried ≤ 16
    → AreFew (parts_of texts b tables) → 1 ≤ window → window < 2 ^ 32 → MayBegin texts b k (length (parts_of texts b tables)) sw
    → (let q = begun_over texts b tables k window sw in AreFolded texts b q.given.config → Stands q.given x (start q.given.config))
    → x.ranks.now ≡ texts → x.bound.now ≡ b
    → let q = begun_over texts b tables k window sw in IsRunOf q x (start q.given.config)
begins_over texts b tables k profile window sw x t p few f low high may stands ranks bound =
    let c = config_of texts b tables k window in
    record {
      ranks_are = ranks;
      bound_is = bound;
      planned = planned_over texts b tables k profile window sw t p few f low high may;
      reached = ([], refl);
      stands = stands (folded texts b tables c t refl);
    }

-- its switch is new for the workers
pub over_is : (texts : List (List ℕ)) (b : Bound) (tables : List TableValue) (k : PlanKind) (window : ℕ) (sw : Switching) → MayBegin texts b k (length (parts_of texts b tables)) sw
    → let g = (begun_over texts b tables k window sw).given in sw ≡ fresh g.program g.begun g.slot (workers g.config)
over_is texts b tables k window sw may = may.is_new ∙ ap (λ m. fresh sw.program sw.registers sw.slot m) (sym (length-map (parts_of texts b tables) rows_in))

pub answers : (texts : List (List ℕ)) (b : Bound) (tables : List TableValue) (k : PlanKind) (profile : Profile) (window : ℕ) → AreTables texts b tables → IsPlanOf k b profile → IsPass (kind_times k)
    → let c = config_of texts b tables k window in (s : State) → IsReached c s → stopped c s ≡ true
    → answer b (asked_tables b tables) ≡ answer_arrived texts b (rows_arrived c (passes c) s.received)
answers texts b tables k profile window t p times s r stop =
    let c = config_of texts b tables k window in
    asked_survives texts b (asked_tables b tables) k profile t.asked p c s refl (times_are (kind_times k) times) (permuted texts b tables t c refl) r stop
