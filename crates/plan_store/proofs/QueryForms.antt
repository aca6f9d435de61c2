-- Queries of one table, and of the terms that we use.
use Rattle.std.proofs.Common.{ℕ, pos, negsuc, List, [], None, false}
use Rattle.sqlite_value.specs.declared.value.Value.TheVariants.{Int}
use Rattle.sqlite_value.specs.declared.keys.Collation.TheVariants.{Binary}
use Rattle.sqlite_value.specs.declared.keys.Key.{Key}
use Rattle.sqlite_value.specs.Keys.{ascending}
use Rattle.sqlite_sql.specs.declared.ops.BinaryOp.TheVariants.{Compare}
use Rattle.sqlite_sql.specs.declared.ops.CompareOp.TheVariants.{Eq}
use Rattle.sqlite_sql.specs.Term.{Term, lit, col, op2}
use Rattle.sqlite_sql.specs.Query.{Query, inner, end}
use Rattle.sqlite_schema.specs.declared.program.Program.{Program}

-- a query of one table
abbrev pub of_table : ℕ → List Term → List Term → List (Term × Key) → Query
of_table tree test shown order = record {
  from = inner tree end;
  filter = test;
  group = None;
  project = shown;
  distinct = false;
  collations = [];
  order = order;
  limit = lit (Int (negsuc 0));
  offset = lit (Int (pos 0));
}

abbrev pub alone : Query → Program
alone q = record { lets = []; body = q }

-- the column at a place is the value that was given at another place
abbrev pub is_given : ℕ → ℕ → Term
is_given column given = op2 (Compare Eq Binary) (col 1 column) (col 0 given)

-- ascending order by a column
abbrev pub by : ℕ → Term × Key
by column = (col 1 column, ascending Binary)
