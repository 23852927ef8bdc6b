use Rattle.std.proofs.Common.{◌≡◌, ◌<◌, ◌++◌, ◌+◌, ℕ, List, append_assoc, sym, ◌∙◌, ap, length, get_or, drop, flat_map}
use Rattle.std.proofs.lemmas.List.{at_drop_more}
use Rattle.ch_cells.specs.declared.outcome.OpenFlow.{OpenFlow}
use Rattle.ch_print.specs.RunTexts.{flow_line}
use Rattle.ch_print.proofs.run.report_text.Goals as goal

-- one more line
step : (flows : List OpenFlow) (at : ℕ) (flow : OpenFlow) (old new all : List ℕ) → at < length flows → flow ≡ get_or flows at flow → new ≡ old ++ flow_line flow
    → old ++ flat_map flow_line (drop at flows) ≡ all → new ++ flat_map flow_line (drop (at + 1) flows) ≡ all
step flows at flow old new all lt is e h =
    let rest : List ℕ = flat_map flow_line (drop (at + 1) flows) in
    ap (λ (t : List ℕ). t ++ rest) e ∙ append_assoc old (flow_line flow) rest
    ∙ ap (λ (t : List ℕ). old ++ t) (ap (λ (f : OpenFlow). flow_line f ++ rest) is ∙ sym (at_drop_more (flat_map flow_line) flows at flow lt)) ∙ h

pub loop-flow-preserved : goal.loop-flow-preserved
loop-flow-preserved c =
    step c.args.flows.now c.loop-flow.flow-index c.flow-item.result c.loop-flow.text.items c.push_flow.new.text.items _ c.loop-flow-test.true c.flow-item.is c.in_ok-push_flow.ensures c.loop-flow.invariant
