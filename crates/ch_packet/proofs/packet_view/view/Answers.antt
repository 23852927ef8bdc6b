use Rattle.std.proofs.Common.{◌≡◌, ◌-◌, None, Some, length, take, drop, ap, sym, ◌∙◌, arith, length-drop}
use Rattle.std.specs.Prelude.{slice_index, nat_eq}
use Rattle.std.proofs.lemmas.List.{take_all}
use Rattle.ch_packet.specs.Fault.{fault_of}
use Rattle.ch_packet.specs.Spelling.{spelling}
use Rattle.ch_packet.specs.View.{words_of}
use Rattle.ch_packet.proofs.Words.{AreBytes}
use Rattle.ch_packet.proofs.Heads.{viewed, spelling-once, IsSound-spelling, fault_of-sound}
use Rattle.ch_packet.proofs.packet_view.view.Goals as goal

pub returns-in_err-kind-clause-written : goal.returns-in_err-kind-clause-written
returns-in_err-kind-clause-written c = λ packet is same.
    let sound : fault_of (spelling packet) ≡ None = fault_of-sound packet.kind (spelling packet) (IsSound-spelling packet is) in
    let clash : Some c.in_err-kind.field-0.0 ≡ None = sym c.in_err-kind.ensures ∙ ap fault_of same ∙ sound in
    cc

pub returns-clause-answer : goal.returns-clause-answer
returns-clause-answer c =
    let are : AreBytes c.args.bytes.now = record { each = λ i. (c.type_inv.bytes i).fits } in
    let body : take (length c.args.bytes.now - 17) (drop 17 c.args.bytes.now) ≡ drop 17 c.args.bytes.now
    = take_all (length c.args.bytes.now - 17) (drop 17 c.args.bytes.now) (omega (arith, length-drop 17 c.args.bytes.now)) in
    viewed c.in_ok-kind.kind c.args.bytes.now _ are c.in_ok-kind.ensures.1
    (λ i. record {
      kind = c.in_ok-kind.kind;
      pass = slice_index c.args.bytes.now 3;
      worker = c.from_be_bytes.ensures i;
      side = slice_index c.args.bytes.now 6;
      number = c.from_be_bytes-2.ensures i;
      epoch = c.from_be_bytes-3.ensures i;
      bit = nat_eq (slice_index c.args.bytes.now 16) 1;
      words = words_of (body i);
    }) body

pub returns-clause-written : goal.returns-clause-written
returns-clause-written c = λ packet is same.
    let answer = returns-clause-answer c in
    spelling-once _ packet answer.1 is (answer.2 ∙ same)
