-- The record of the code as that of the definitions, so that contracts speak of these alone (SPECIFICATION 12.8); and
-- what the functions that form a record give. Assumes nothing.
use Rattle.std.specs.Prelude.{[], ◌∷◌, ℕ, ◌-◌, set, replicate}
use Rattle.tables.specs.Checks.{Limits}
pub use Rattle.murm_limits.specs.Told.{told_config}
use Rattle.tables.specs.Tables.{Width, Table, not_built}
use Rattle.width_record.specs.declared.WidthTable.{WidthTable}
use Rattle.murm_config.specs.declared.Murm.{Murm}

-- a width's row (SPECIFICATION 6.10)
abbrev pub told_width : WidthTable → Width
told_width w = record { count = w.count; depth = w.depth; saturated = w.saturated }

-- the record, its rows in a list: widths 1 to 5
abbrev pub told_murm : Murm → Table
told_murm m = record {
  limits = told_config m.config;
  widths = told_width m.width1 ∷ told_width m.width2 ∷ told_width m.width3 ∷ told_width m.width4 ∷ told_width m.width5 ∷ [];
}

-- the record before any width is built
abbrev pub empty_of : Limits → Table
empty_of l = record { limits = l; widths = replicate 5 not_built }

-- the record with another row for a width
abbrev pub with_width : Table → ℕ → Width → Table
with_width t w x = record { limits = t.limits; widths = set t.widths (w - 1) x }
