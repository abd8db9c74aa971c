-- The seventeen kinds of gate and what each has: its number, its operands, its T charge, whether tables have it and
-- which kind then undoes it (SPECIFICATION 2.1). Assumes nothing.
use Rattle.std.specs.Prelude.{Bool, true, false, List, [], ◌∷◌, ℕ, ltb, get_or}

-- one of the seventeen kinds, or none of them; the first eleven are those of tables
pub data Kind : Type 0 where
  H X Z S Sdg T Tdg Cx Cz Ccx Ccz Y Sx Swap Cy Ch Cswap Other : Kind

-- the kinds in the order of their numbers, which are those of GateKind::ALL; `Other` stands where it has a kind that no
-- list takes, as Rz at 7
abbrev pub kinds : List Kind
kinds =
    H ∷ X ∷ Z ∷ S ∷ Sdg ∷ T ∷ Tdg ∷ Other ∷ Cx ∷ Cz ∷ Ccx ∷ Ccz ∷ Other ∷ Other ∷ Other ∷ Y ∷ Sx ∷ Other ∷ Other ∷ Swap ∷ Cy ∷ Other ∷ Other
    ∷ Other ∷ Other ∷ Ch ∷ Cswap ∷ []

unfoldable pub kind_at : ℕ → Kind
kind_at i = get_or kinds i Other

-- What a kind has: its number; how many operands; how many of its first operands stand in rising order (both of Cz, the
-- controls of Ccx, all three of Ccz); its T charge (SPECIFICATION 2.9); whether a table may have it; and the kind that
-- undoes it in a table
pub record About : Type 0 where
  pub number : ℕ
  pub arity : ℕ
  pub sorted : ℕ
  pub charge : ℕ
  pub in_tables : Bool
  pub dual : Kind

abbrev pub of_tables_with : ℕ → ℕ → ℕ → ℕ → Kind → About
of_tables_with number arity sorted charge dual = record { number = number; arity = arity; sorted = sorted; charge = charge; in_tables = true; dual = dual }

-- a kind that lists take and no table has; its operands stand in any order, it is charged nothing, and no kind of
-- tables undoes it
abbrev pub of_lists_with : ℕ → ℕ → About
of_lists_with number arity = record { number = number; arity = arity; sorted = 0; charge = 0; in_tables = false; dual = Other }

-- what is none of the seventeen has the number of Rz and no operand
abbrev pub about : Kind → About
about H = of_tables_with 0 1 0 0 H
about X = of_tables_with 1 1 0 0 X
about Z = of_tables_with 2 1 0 0 Z
about S = of_tables_with 3 1 0 0 Sdg
about Sdg = of_tables_with 4 1 0 0 S
about T = of_tables_with 5 1 0 1 Tdg
about Tdg = of_tables_with 6 1 0 1 T
about Cx = of_tables_with 8 2 0 0 Cx
about Cz = of_tables_with 9 2 2 0 Cz
about Ccx = of_tables_with 10 3 2 7 Ccx
about Ccz = of_tables_with 11 3 3 7 Ccz
about Y = of_lists_with 15 1
about Sx = of_lists_with 16 1
about Swap = of_lists_with 19 2
about Cy = of_lists_with 20 2
about Ch = of_lists_with 25 2
about Cswap = of_lists_with 26 3
about Other = of_lists_with 7 0

unfoldable pub number : Kind → ℕ
number k = (about k).number

unfoldable pub arity : Kind → ℕ
arity k = (about k).arity

unfoldable pub sorted : Kind → ℕ
sorted k = (about k).sorted

unfoldable pub dual : Kind → Kind
dual k = (about k).dual

-- a kind of the seventeen: each of them has an operand
unfoldable pub is_kind : Kind → Bool
is_kind k = ltb 0 (about k).arity

-- a kind of the eleven that tables have (SPECIFICATION 2.2)
unfoldable pub of_tables : Kind → Bool
of_tables k = (about k).in_tables

-- T and Tdg count 1, Ccx and Ccz 7, the other kinds 0 (SPECIFICATION 2.1, 2.9)
unfoldable pub kind_charge : Kind → ℕ
kind_charge k = (about k).charge
