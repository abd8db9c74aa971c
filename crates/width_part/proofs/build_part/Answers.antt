-- `build_part` meets its contract. Assumes nothing.
use mathlib.Core.Path.{ap}
use Prim.Native.Nat.{◌+◌, ◌*◌}
use Rattle.tables.specs.Tables.{walk_of}
use Rattle.tables.specs.Checks.{limits_of}
use Rattle.index.specs.Told.{told_by}
use Rattle.known.specs.Known.{told_mode}
use Rattle.width_part.proofs.Parts.{same_limits, row_is, prints_back, parents_back, codes_back, index_back}
use Rattle.width_part.proofs.build_part.Goals as goal

pub returns : goal.returns
returns c =
    let s = c.args in
    let b = c.build_width in
    let r = b.ensures.whole in
    let k = r.columns in
    let mode = told_mode s.mode in
    let m = s.config in
    let l = limits_of m.max_qubits m.max_gates m.max_entries_per_qubit c.bits-basis.result in
    let a = s.v * s.config.max_entries_per_qubit in
    let w = s.v + 1 in
    record {
      built = same_limits (ap (limits_of m.max_qubits m.max_gates m.max_entries_per_qubit) c.bits-basis.ensures) (record {
        row = row_is b.result (walk_of mode l w) k.count_is r.depth_is r.full_is;
        prints = prints_back mode l w a s.config.max_entries_per_qubit _ k.count_is s.fingerprints.now _ k.prints;
        parents = parents_back mode l w a s.config.max_entries_per_qubit _ k.count_is s.parents.now _ k.parents;
        codes = codes_back mode l w a s.config.max_entries_per_qubit _ k.count_is s.codes.now _ k.gates;
        index = index_back mode l w (s.v * s.size) s.size _ k.count_is s.index.now _ (told_by s.by) _ _ k.prints k.index;
      });
    }
