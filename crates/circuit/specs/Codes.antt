-- A gate as one number, its code, and when a code is valid at a width (SPECIFICATION 2.3 to 2.5). Assumes nothing.
use Rattle.std.specs.Prelude.{Bool, ◌&&◌, ℕ, ◌+◌, ◌*◌, ◌/◌, ◌%◌}
use Rattle.kinds.specs.Kinds.{Kind, kind_at, arity, sorted, is_kind, of_tables}
use Rattle.operands.specs.Operands.{placed, ordered}
use Rattle.circuit.specs.Sets.{member}

abbrev pub code_of : ℕ → ℕ → ℕ → ℕ → ℕ
code_of k a b c = k * 4096 + a * 256 + b * 16 + c

-- the four parts, which every number has, whether or not it is the code of a gate
abbrev pub kind_number : ℕ → ℕ
kind_number g = g / 4096

abbrev pub kind_of : ℕ → Kind
kind_of g = kind_at (kind_number g)

abbrev pub first : ℕ → ℕ
first g = g / 256 % 16

abbrev pub second : ℕ → ℕ
second g = g / 16 % 16

abbrev pub third : ℕ → ℕ
third g = g % 16

-- the operands of g are as kind k asks at width n
unfoldable pub operands_fit : ℕ → Kind → ℕ → Bool
operands_fit n k g = placed n (arity k) (first g) (second g) (third g) && ordered (sorted k) (first g) (second g) (third g)

-- valid at width n, as lists ask: the kind is one of the seventeen, its operands are below n, pairwise different and in
-- the order that it wants, and those that it does not have are 0 (SPECIFICATION 2.4)
unfoldable pub valid : ℕ → ℕ → Bool
valid n g =
    is_kind (kind_of g)
    && (placed n (arity (kind_of g)) (first g) (second g) (third g) && ordered (sorted (kind_of g)) (first g) (second g) (third g))

-- valid for a basis at width n, as tables ask: valid there, of a kind of tables, and this kind is in the basis
-- (SPECIFICATION 2.5). A basis that is not refused has no bit of another kind, but this is said of any number
unfoldable pub valid_for : ℕ → ℕ → ℕ → Bool
valid_for n basis g = member basis (kind_number g) && (of_tables (kind_of g) && valid n g)

-- the mark: node 0 of a table has it in the place of a parent and of a code (SPECIFICATION 2.10)
abbrev pub mark : ℕ
mark = 4294967295
