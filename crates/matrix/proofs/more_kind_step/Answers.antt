-- `more_kind_step` meets its contract: each arm is the gate of its kind. Assumes nothing.
use mathlib.Core.List.{[], ◌∷◌}
use Rattle.exact.specs.Rows.{had, turned_exchange, exchanges3}
use Rattle.steps.proofs.Masks.{mask_none, one_bit, exchange_needs, swap_needs, controlled_at, controlled_at2, sx_at}
use Rattle.matrix.proofs.ByKind.{kind_told, proper_told}
use Rattle.matrix.proofs.more_kind_step.Goals as goal

pub y_step-requires-clause-n_bound : goal.y_step-requires-clause-n_bound
y_step-requires-clause-n_bound c =
    let w = exchange_needs [] c.row_bit-s.ensures mask_none (proper_told c.args.n c.args.a c.args.b c.args.c c.in-Y.is c.requires.proper).1.0 in
    (c.requires.n_bound, w.0)

pub sx_step-requires-clause-n_bound : goal.sx_step-requires-clause-n_bound
sx_step-requires-clause-n_bound c = (c.requires.n_bound, rw c.row_bit-s.ensures (proper_told c.args.n c.args.a c.args.b c.args.c c.in-Sx.is c.requires.proper).0.0)

pub swap_step-requires-clause-s_lt_n : goal.swap_step-requires-clause-s_lt_n
swap_step-requires-clause-s_lt_n c = swap_needs [] c.row_bit-s.ensures c.row_bit-t.ensures mask_none (proper_told c.args.n c.args.a c.args.b c.args.c c.in-Swap.is c.requires.proper)

pub y_step-requires-in-Cy-clause-n_bound : goal.y_step-requires-in-Cy-clause-n_bound
y_step-requires-in-Cy-clause-n_bound c =
    let w = exchange_needs (_ ∷ []) c.row_bit-t.ensures (one_bit c.mask-bit_s.ensures c.row_bit-s.ensures) (proper_told c.args.n c.args.a c.args.b c.args.c c.in-Cy.is c.requires.proper).1.0 in
    (c.requires.n_bound, w.0)

pub y_step-requires-in-Cy-clause-t_value : goal.y_step-requires-in-Cy-clause-t_value
y_step-requires-in-Cy-clause-t_value c =
    let w = exchange_needs (_ ∷ []) c.row_bit-t.ensures (one_bit c.mask-bit_s.ensures c.row_bit-s.ensures) (proper_told c.args.n c.args.a c.args.b c.args.c c.in-Cy.is c.requires.proper).1.0 in
    w.1

pub ch_step-requires-clause-n_bound : goal.ch_step-requires-clause-n_bound
ch_step-requires-clause-n_bound c =
    let w = exchange_needs (_ ∷ []) c.row_bit-t.ensures (one_bit c.mask-bit_s.ensures c.row_bit-s.ensures) (proper_told c.args.n c.args.a c.args.b c.args.c c.in-Ch.is c.requires.proper) in
    (c.requires.n_bound, w.0)

pub ch_step-requires-clause-t_value : goal.ch_step-requires-clause-t_value
ch_step-requires-clause-t_value c =
    let w = exchange_needs (_ ∷ []) c.row_bit-t.ensures (one_bit c.mask-bit_s.ensures c.row_bit-s.ensures) (proper_told c.args.n c.args.a c.args.b c.args.c c.in-Ch.is c.requires.proper) in
    w.1

pub swap_step-requires-in-Cswap-clause-s_lt_n : goal.swap_step-requires-in-Cswap-clause-s_lt_n
swap_step-requires-in-Cswap-clause-s_lt_n c = swap_needs (_ ∷ []) c.row_bit-t.ensures c.row_bit-u.ensures (one_bit c.mask-bit_s.ensures c.row_bit-s.ensures) (proper_told c.args.n c.args.a c.args.b c.args.c c.in-Cswap.is c.requires.proper)

pub returns-in-Y : goal.returns-in-Y
returns-in-Y c = kind_told c.args.a c.args.b c.args.c c.in-Y.is (controlled_at (λ t ks. turned_exchange ks t) [] c.row_bit-s.ensures mask_none (proper_told c.args.n c.args.a c.args.b c.args.c c.in-Y.is c.requires.proper) c.y_step.ensures)

pub returns-in-Sx : goal.returns-in-Sx
returns-in-Sx c = kind_told c.args.a c.args.b c.args.c c.in-Sx.is (sx_at c.row_bit-s.ensures c.sx_step.ensures)

pub returns-in-Swap : goal.returns-in-Swap
returns-in-Swap c = kind_told c.args.a c.args.b c.args.c c.in-Swap.is (controlled_at2 (λ s t ks. exchanges3 ks s t) [] c.row_bit-s.ensures c.row_bit-t.ensures mask_none (proper_told c.args.n c.args.a c.args.b c.args.c c.in-Swap.is c.requires.proper) c.swap_step.ensures)

pub returns-in-Cy : goal.returns-in-Cy
returns-in-Cy c = kind_told c.args.a c.args.b c.args.c c.in-Cy.is (controlled_at (λ t ks. turned_exchange ks t) (_ ∷ []) c.row_bit-t.ensures (one_bit c.mask-bit_s.ensures c.row_bit-s.ensures) (proper_told c.args.n c.args.a c.args.b c.args.c c.in-Cy.is c.requires.proper) c.y_step-in-Cy.ensures)

pub returns-in-Ch : goal.returns-in-Ch
returns-in-Ch c = kind_told c.args.a c.args.b c.args.c c.in-Ch.is (controlled_at (λ t ks. had ks t) (_ ∷ []) c.row_bit-t.ensures (one_bit c.mask-bit_s.ensures c.row_bit-s.ensures) (proper_told c.args.n c.args.a c.args.b c.args.c c.in-Ch.is c.requires.proper) c.ch_step.ensures)

pub returns-in-Cswap : goal.returns-in-Cswap
returns-in-Cswap c = kind_told c.args.a c.args.b c.args.c c.in-Cswap.is (controlled_at2 (λ s t ks. exchanges3 ks s t) (_ ∷ []) c.row_bit-t.ensures c.row_bit-u.ensures (one_bit c.mask-bit_s.ensures c.row_bit-s.ensures) (proper_told c.args.n c.args.a c.args.b c.args.c c.in-Cswap.is c.requires.proper) c.swap_step-in-Cswap.ensures)
