-- Where the machine has a value, the pipeline keeps in range and has the same one.
use Rattle.std.proofs.Common.{◌≡◌, ◌<◌, ℕ, true, false, List, [], ℤ, pos, negsuc, refl, sym, ◌∙◌, ap, arith, Option, Some, None, length, get_or, set, inl, inr, replicate, nat_lt, subst}
use Rattle.std.specs.Prelude.{if◌then◌else◌}
use Rattle.std.specs.Option.{option_and_then}
use Rattle.std.proofs.lemmas.Bool.{cases_Bool, ltb-true}
use Rattle.std.proofs.lemmas.List.{length-set, length-replicate}
use Rattle.ch_ir.specs.declared.program.Access.{Access}
use Rattle.ch_ir.specs.Machine.{Registers, State, put, put_all, read, is_set, index_of, at_entry, exec_access}
use Rattle.ch_pipe.specs.Total.{value_at, total_store, nat_of}
use Rattle.ch_pipe.proofs.Agree.{Shows, Agrees, entry_agrees, shows_read, shows_put, shows_store, length_store, step_some, index_nat}
use Rattle.ch_pipe.specs.Entry.{AccessRoom, AccessCan, IsIndex, total_words, total_registers}

pub record InRange (v : ℤ) (e len : ℕ) : Type 0 where
  pub is_index : IsIndex v
  pub inside : e < len

index_range : (v : ℤ) (len e : ℕ) → index_of v len ≡ Some e → InRange v e len
index_range (negsuc n) len e h = cc
index_range (pos n) len e h = elim (cases_Bool (nat_lt n len)) [
  | inl t ↦ let same : Some n ≡ Some e = rw t at h in let eq : n ≡ e = cc in let lt = ltb-true n len t in record { is_index = tt; inside = omega arith }
  | inr t ↦ let bad : ◌≡◌ {A = Option ℕ} None (Some e) = rw t at h in cc
]

pub record Went (n cells : ℕ) (x : Access) (words : List ℤ) (registers : Registers) (s : State) : Type 0 where
  pub can : AccessCan n cells x words registers
  pub agrees : Agrees s (total_words cells x words registers) (total_registers x words registers) n

pub access_went : (n cells : ℕ) (x : Access) (s s' : State) (words : List ℤ) → Shows s.words words → length words ≡ n → AccessRoom n cells x
    → x.array < length s.registers → ((e : ℕ) → e < length (get_or s.registers x.array []) → length (get_or (get_or s.registers x.array []) e []) ≡ cells)
    → exec_access cells x s ≡ Some s' → Went n cells x words s.registers s'
access_went n cells x s s' words sh l room there each h =
    let off : State = record { words = put (put_all s.words x.old (replicate cells (pos 0))) x.hit (pos 0); registers = s.registers } in
    let on : Option State = option_and_then (λ (i : ℤ). option_and_then (at_entry x s) (index_of i (length (get_or s.registers x.array [])))) (read s.words x.index) in
    let g = step_some (λ (guard : ℤ). if is_set guard then on else Some off) (read s.words x.guard) s' h in
    let guard : value_at words x.guard ≡ g.x = shows_read s.words words sh x.guard g.x g.is in
    elim (cases_Bool (is_set g.x)) [
      | inl t ↦
          let chosen : on ≡ Some s' = rw t at g.then_is in
          let i = step_some (λ (i : ℤ). option_and_then (at_entry x s) (index_of i (length (get_or s.registers x.array [])))) (read s.words x.index) s' chosen in
          let e = step_some (at_entry x s) (index_of i.x (length (get_or s.registers x.array []))) s' i.then_is in
          let index : value_at words x.index ≡ i.x = shows_read s.words words sh x.index i.x i.is in
          let range = index_range i.x (length (get_or s.registers x.array [])) e.x e.is in
          let at : nat_of (value_at words x.index) ≡ e.x = ap nat_of index ∙ index_nat i.x (length (get_or s.registers x.array [])) e.x e.is in
          let wide = each e.x range.inside in
          let set_ : is_set (value_at words x.guard) ≡ true = ap is_set guard ∙ t in
          let made = entry_agrees x s s' words e.x n l room.hit (let o = room.old in omega arith) sh at e.then_is in
          record {
            can = record {
              there = there;
              index = λ _. subst IsIndex (sym index) range.is_index;
              inside = λ _. let r = range.inside in omega arith;
              each = each;
              room = room;
            };
            agrees = rw set_ made;
          }
      | inr t ↦
          let chosen : Some off ≡ Some s' = rw t at g.then_is in
          let same : off ≡ s' = cc in
          let unset : is_set (value_at words x.guard) ≡ false = ap is_set guard ∙ t in
          let zeros = length-replicate cells (pos 0) in
          let stored = shows_store (replicate cells (pos 0)) s.words words x.old (let o = room.old in omega arith) sh in
          let many = length_store (replicate cells (pos 0)) words x.old in
          let made : Agrees off (set (total_store x.old (replicate cells (pos 0)) words) x.hit (pos 0)) s.registers n = record {
            shows = shows_put (put_all s.words x.old (replicate cells (pos 0))) (total_store x.old (replicate cells (pos 0)) words) stored x.hit (pos 0) (let q = room.hit in omega arith);
            same = refl;
            many = length-set (total_store x.old (replicate cells (pos 0)) words) x.hit (pos 0) ∙ many ∙ l;
          } in
          let moved = subst (λ (q : State). Agrees q (set (total_store x.old (replicate cells (pos 0)) words) x.hit (pos 0)) s.registers n) same made in
          record {
            can = record {
              there = there;
              index = λ on_. let bad : true ≡ false = sym on_ ∙ unset in cc;
              inside = λ on_. let bad : true ≡ false = sym on_ ∙ unset in cc;
              each = each;
              room = room;
            };
            agrees = rw unset moved;
          }
    ]
