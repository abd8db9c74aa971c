-- `try_node` meets its contract: the gates that the two tests leave, what is looked up ahead for them, and then each of
-- them. Assumes nothing.
use mathlib.Core.Path.{refl, ap, ◌∙◌}
use Prim.Native.Nat.{◌≤◌}
use native.Mathlib.Omega.{arith}
use lib.ListN.{length}
use Rattle.generators.proofs.Most.{most_enough}
use Rattle.skip_rules.specs.Skips.{unskipped}
use Rattle.candidates.proofs.Lists.{live_readable, node_formed}
use Rattle.candidates.proofs.Kept.{both_gates, unpruned_valid}
use Rattle.candidates.proofs.try_node.Goals as goal

-- there are no more generators than places
pub unpruned-size-requires-clause-room : goal.unpruned-size-requires-clause-room
unpruned-size-requires-clause-room c =
    (omega (arith, ap length c.requires.generators, most_enough c.args.limits.width c.args.limits.basis c.requires.bounds.0), refl)

pub form_node-exponent-requires-clause-readable : goal.form_node-exponent-requires-clause-readable
form_node-exponent-requires-clause-readable c =
    let p = c.requires in
    live_readable p.bounds.0 p.bounds.3 p.live p.bounds.1 (omega arith)

pub fitting-fit-requires-clause-ready : goal.fitting-fit-requires-clause-ready
fitting-fit-requires-clause-ready c =
    let p = c.requires in
    (node_formed p.bounds.0 p.bounds.3 p.live p.bounds.1 c.form_node-exponent.ensures.formed).ready

pub fitting-fit-requires-clause-room : goal.fitting-fit-requires-clause-room
fitting-fit-requires-clause-room c =
    let u = c.unpruned-size.ensures.unpruned in
    let few : length c.args.gates.now ≤ 105 = omega (arith, ap length c.requires.generators, most_enough c.args.limits.width c.args.limits.basis c.requires.bounds.0) in
    record { few = omega (arith, u.few, few); long_gates = u.long; long_prints = refl }

pub fitting-fit-requires-clause-valid : goal.fitting-fit-requires-clause-valid
fitting-fit-requires-clause-valid c =
    let p = c.requires in
    let u = c.unpruned-size.ensures.unpruned in
    let few : length c.args.gates.now ≤ 105 = omega (arith, ap length p.generators, most_enough c.args.limits.width c.args.limits.basis p.bounds.0) in
    unpruned_valid c.args.limits.width c.args.limits.basis p.bounds.0 p.generators u (omega (arith, u.few, u.long, few))

pub try_gates-requires-clause-gates : goal.try_gates-requires-clause-gates
try_gates-requires-clause-gates c =
    let u = c.unpruned-size.ensures.unpruned in
    let few : length c.args.gates.now ≤ 105 = omega (arith, ap length c.requires.generators, most_enough c.args.limits.width c.args.limits.basis c.requires.bounds.0) in
    both_gates u few c.fitting-fit.ensures.fitting ∙ ap (unskipped _) c.requires.generators

pub try_gates-requires-clause-formed : goal.try_gates-requires-clause-formed
try_gates-requires-clause-formed c =
    let p = c.requires in
    node_formed p.bounds.0 p.bounds.3 p.live p.bounds.1 c.form_node-exponent.ensures.formed

pub returns-clause-tried : goal.returns-clause-tried
returns-clause-tried c = λ h.
    let p = c.requires in
    c.try_gates.ensures.tried (node_formed p.bounds.0 p.bounds.3 h p.bounds.1 c.form_node-exponent.ensures.formed)
