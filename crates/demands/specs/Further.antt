-- What is proved beside the demands, as one record; no demand rests on it. It stands apart, so that who relies on the
-- demands need not read it: it follows from them, tells a definition a second time, or says more of built tables.
-- Assumes nothing.
use Rattle.std.specs.Prelude.{◌≡◌, true, ℕ}
use Rattle.walk.specs.Meaning.{FindRule}
use Rattle.walk.specs.IndexLaws.{Indexing}
use Rattle.tables.specs.AnswerRule.{FirstNode}
use Rattle.tables.specs.FindWrite.{FindWrite}
use Rattle.tables.specs.Checks.{Limits, in_parts}
use Rattle.tables.specs.EitherLookup.{PartSizes}
use Rattle.tables.specs.Beside.{Beside}

-- demand 3 of a find and of a write (SPECIFICATION 7.12): `find_write`. Of a width's part, whatever is lent, what a
-- find comes to and which node (7.4 to 7.6): `rule`; where no two nodes have one fingerprint it is the first that has
-- it: `first`. What an index leads to (7.13 to 7.15): `index`; its parts (7.16): `parts`. Of built tables the order of
-- nodes, what hypothesis K gives, and that they are what a build leaves unchanged (6.14, 8.11, 8.14): `beside`
pub record Further : Type 0 where
  pub find_write : FindWrite
  pub rule : FindRule
  pub first : FirstNode
  pub index : Indexing
  pub parts : (l : Limits) (places : ℕ) → in_parts l places ≡ true → PartSizes l places
  pub beside : Beside
