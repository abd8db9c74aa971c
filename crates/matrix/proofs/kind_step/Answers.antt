-- `kind_step` meets its contract: each arm is the gate of its kind. Assumes nothing.
use mathlib.Core.List.{[], ◌∷◌}
use Rattle.exact.specs.Rows.{exchange, had}
use Rattle.steps.proofs.Masks.{mask_none, one_bit, two_bits, three_bits, exchange_needs, controlled_at}
use Rattle.matrix.proofs.ByKind.{kind_told, proper_told}
use Rattle.matrix.proofs.kind_step.Goals as goal

pub h_step-requires-clause-n_bound : goal.h_step-requires-clause-n_bound
h_step-requires-clause-n_bound c =
    let w = exchange_needs [] c.row_bit-s.ensures mask_none (proper_told c.args.n c.args.a c.args.b c.args.c c.in-H.is c.requires.proper) in
    (c.requires.n_bound, w.0)

pub exchange_step-requires-clause-n_bound : goal.exchange_step-requires-clause-n_bound
exchange_step-requires-clause-n_bound c =
    let w = exchange_needs [] c.row_bit-s.ensures mask_none (proper_told c.args.n c.args.a c.args.b c.args.c c.in-X.is c.requires.proper) in
    (c.requires.n_bound, w.0)

pub exchange_step-requires-in-Cx-clause-n_bound : goal.exchange_step-requires-in-Cx-clause-n_bound
exchange_step-requires-in-Cx-clause-n_bound c =
    let w = exchange_needs (_ ∷ []) c.row_bit-t.ensures (one_bit c.mask-bit_s.ensures c.row_bit-s.ensures) (proper_told c.args.n c.args.a c.args.b c.args.c c.in-Cx.is c.requires.proper) in
    (c.requires.n_bound, w.0)

pub exchange_step-requires-in-Cx-clause-t_value : goal.exchange_step-requires-in-Cx-clause-t_value
exchange_step-requires-in-Cx-clause-t_value c =
    let w = exchange_needs (_ ∷ []) c.row_bit-t.ensures (one_bit c.mask-bit_s.ensures c.row_bit-s.ensures) (proper_told c.args.n c.args.a c.args.b c.args.c c.in-Cx.is c.requires.proper) in
    w.1

pub exchange_step-requires-in-Ccx-clause-n_bound : goal.exchange_step-requires-in-Ccx-clause-n_bound
exchange_step-requires-in-Ccx-clause-n_bound c =
    let w = exchange_needs (_ ∷ _ ∷ []) c.row_bit-u.ensures (two_bits c.mask-bit_s.ensures c.row_bit-s.ensures c.mask-bit_t.ensures c.row_bit-t.ensures) (proper_told c.args.n c.args.a c.args.b c.args.c c.in-Ccx.is c.requires.proper) in
    (c.requires.n_bound, w.0)

pub exchange_step-requires-in-Ccx-clause-t_value : goal.exchange_step-requires-in-Ccx-clause-t_value
exchange_step-requires-in-Ccx-clause-t_value c =
    let w = exchange_needs (_ ∷ _ ∷ []) c.row_bit-u.ensures (two_bits c.mask-bit_s.ensures c.row_bit-s.ensures c.mask-bit_t.ensures c.row_bit-t.ensures) (proper_told c.args.n c.args.a c.args.b c.args.c c.in-Ccx.is c.requires.proper) in
    w.1

pub returns-in-H : goal.returns-in-H
returns-in-H c = kind_told c.args.a c.args.b c.args.c c.in-H.is (controlled_at (λ t ks. had ks t) [] c.row_bit-s.ensures mask_none (proper_told c.args.n c.args.a c.args.b c.args.c c.in-H.is c.requires.proper) c.h_step.ensures)

pub returns-in-X : goal.returns-in-X
returns-in-X c = kind_told c.args.a c.args.b c.args.c c.in-X.is (controlled_at (λ t ks. exchange ks t) [] c.row_bit-s.ensures mask_none (proper_told c.args.n c.args.a c.args.b c.args.c c.in-X.is c.requires.proper) c.exchange_step.ensures)

pub returns-in-Z : goal.returns-in-Z
returns-in-Z c = kind_told c.args.a c.args.b c.args.c c.in-Z.is (c.phase_step.ensures.by (_ ∷ []) (one_bit c.mask-bit_s.ensures c.row_bit-s.ensures))

pub returns-in-S : goal.returns-in-S
returns-in-S c = kind_told c.args.a c.args.b c.args.c c.in-S.is (c.phase_step-in-S.ensures.by (_ ∷ []) (one_bit c.mask-bit_s.ensures c.row_bit-s.ensures))

pub returns-in-Sdg : goal.returns-in-Sdg
returns-in-Sdg c = kind_told c.args.a c.args.b c.args.c c.in-Sdg.is (c.phase_step-in-Sdg.ensures.by (_ ∷ []) (one_bit c.mask-bit_s.ensures c.row_bit-s.ensures))

pub returns-in-T : goal.returns-in-T
returns-in-T c = kind_told c.args.a c.args.b c.args.c c.in-T.is (c.phase_step-in-T.ensures.by (_ ∷ []) (one_bit c.mask-bit_s.ensures c.row_bit-s.ensures))

pub returns-in-Tdg : goal.returns-in-Tdg
returns-in-Tdg c = kind_told c.args.a c.args.b c.args.c c.in-Tdg.is (c.phase_step-in-Tdg.ensures.by (_ ∷ []) (one_bit c.mask-bit_s.ensures c.row_bit-s.ensures))

pub returns-in-Cx : goal.returns-in-Cx
returns-in-Cx c = kind_told c.args.a c.args.b c.args.c c.in-Cx.is (controlled_at (λ t ks. exchange ks t) (_ ∷ []) c.row_bit-t.ensures (one_bit c.mask-bit_s.ensures c.row_bit-s.ensures) (proper_told c.args.n c.args.a c.args.b c.args.c c.in-Cx.is c.requires.proper) c.exchange_step-in-Cx.ensures)

pub returns-in-Cz : goal.returns-in-Cz
returns-in-Cz c = kind_told c.args.a c.args.b c.args.c c.in-Cz.is (c.phase_step-in-Cz.ensures.by (_ ∷ _ ∷ []) (two_bits c.mask-bit_s.ensures c.row_bit-s.ensures c.mask-bit_t.ensures c.row_bit-t.ensures))

pub returns-in-Ccx : goal.returns-in-Ccx
returns-in-Ccx c = kind_told c.args.a c.args.b c.args.c c.in-Ccx.is (controlled_at (λ t ks. exchange ks t) (_ ∷ _ ∷ []) c.row_bit-u.ensures (two_bits c.mask-bit_s.ensures c.row_bit-s.ensures c.mask-bit_t.ensures c.row_bit-t.ensures) (proper_told c.args.n c.args.a c.args.b c.args.c c.in-Ccx.is c.requires.proper) c.exchange_step-in-Ccx.ensures)

pub returns-in-Ccz : goal.returns-in-Ccz
returns-in-Ccz c = kind_told c.args.a c.args.b c.args.c c.in-Ccz.is (c.phase_step-in-Ccz.ensures.by (_ ∷ _ ∷ _ ∷ []) (three_bits c.mask-bit_s.ensures c.row_bit-s.ensures c.mask-bit_t.ensures c.row_bit-t.ensures c.mask-bit_u.ensures c.row_bit-u.ensures))
