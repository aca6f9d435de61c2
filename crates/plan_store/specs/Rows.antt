-- The rows of an office as rows in SQL (docs/definitions.md, "Tables").
use Rattle.std.specs.Prelude.{ℕ, ℤ, pos, negsuc, List, [], ◌∷◌, Result, Ok, Err, if◌then◌else◌, codes}
use Rattle.hex.specs.Hex.{encode_lower, decode_sized}
use Rattle.hex.specs.declared.error.FromHexError.{FromHexError}
use Rattle.sqlite_value.specs.declared.value.Value.{Value}
use Rattle.sqlite_value.specs.declared.value.Value.TheVariants.{Null, Int, Text, Blob}
use Rattle.sqlite_value.specs.Order.{Row, column}
use Rattle.plan_rows.specs.declared.kinds.Kind.{Kind}
use Rattle.plan_rows.specs.declared.kinds.PlanKind.{PlanKind}
use Rattle.plan_rows.specs.declared.kinds.Kind.TheVariants.{Crew, Machine}
use Rattle.plan_rows.specs.declared.kinds.PlanKind.TheVariants.{Project, Shop}
use Rattle.plan_rows.specs.Names.{kind_text, plan_kind_text}
use Rattle.plan_rows.specs.World as world
use Rattle.plan_rows.specs.World.{Digest, Published, Desk, Plan, Bind, Lag, World, same_text}

-- the contents of a value, if it has the type
abbrev pub text_in : Value → world.Text
text_in (Text t) = t
text_in _ = []

abbrev pub blob_in : Value → world.Text
blob_in (Blob b) = b
blob_in _ = []

abbrev pub natural : ℤ → ℕ
natural (pos n) = n
natural (negsuc n) = 0

abbrev pub number_in : Value → ℕ
number_in (Int n) = natural n
number_in _ = 0

abbrev pub kind_in : Value → Kind
kind_in v = if same_text (text_in v) (codes "crew") then Crew else Machine

abbrev pub plan_kind_in : Value → PlanKind
plan_kind_in v = if same_text (text_in v) (codes "project") then Project else Shop

abbrev pub decoded : Result Digest FromHexError → Digest
decoded (Ok digest) = digest
decoded (Err e) = []

-- the 32 bytes of 64 hexadecimal digits
abbrev pub digest_in : Value → Digest
digest_in v = decoded (decode_sized (text_in v) 32)

-- a digest as it is written
abbrev pub digest_value : Digest → Value
digest_value digest = Text (encode_lower digest)

abbrev pub number_value : ℕ → Value
number_value n = Int (pos n)

-- For each table: the columns of a row, and the row that is read from SQL, whose column 0 is the
-- rowid.
abbrev pub written_code : Published → Row
written_code row = Text row.code ∷ Text (kind_text row.kind) ∷ number_value row.capacity ∷ []

abbrev pub read_code : Row → Published
read_code row = record {
  code = text_in (column row 1);
  kind = kind_in (column row 2);
  capacity = number_in (column row 3);
}

abbrev pub written_desk : Desk → Row
written_desk row = Text row.desk ∷ digest_value row.digest ∷ number_value row.next ∷ []

abbrev pub read_desk : Row → Desk
read_desk row = record {
  desk = text_in (column row 1);
  digest = digest_in (column row 2);
  next = number_in (column row 3);
}

abbrev pub written_plan : Plan → Row
written_plan row =
    Text row.desk ∷ number_value row.n ∷ Text (plan_kind_text row.kind) ∷ Text row.name ∷ Blob row.body
    ∷ Text row.start ∷ Text row.days ∷ []

abbrev pub read_plan : Row → Plan
read_plan row = record {
  desk = text_in (column row 1);
  n = number_in (column row 2);
  kind = plan_kind_in (column row 3);
  name = text_in (column row 4);
  body = blob_in (column row 5);
  start = text_in (column row 6);
  days = text_in (column row 7);
}

abbrev pub written_bind : Bind → Row
written_bind row =
    Text row.desk ∷ number_value row.n ∷ number_value row.place ∷ Text row.code ∷ []

abbrev pub read_bind : Row → Bind
read_bind row = record {
  desk = text_in (column row 1);
  n = number_in (column row 2);
  place = number_in (column row 3);
  code = text_in (column row 4);
}

abbrev pub written_lag : Lag → Row
written_lag row =
    Text row.desk ∷ number_value row.n ∷ number_value row.source ∷ number_value row.target
    ∷ number_value row.lag ∷ []

abbrev pub read_lag : Row → Lag
read_lag row = record {
  desk = text_in (column row 1);
  n = number_in (column row 2);
  source = number_in (column row 3);
  target = number_in (column row 4);
  lag = number_in (column row 5);
}

-- the one row of the first table: version 2 of the tables, and the digest of the office's key
abbrev pub meta_row : Digest → Row
meta_row office = number_value 1 ∷ Null ∷ number_value 2 ∷ digest_value office ∷ []

abbrev pub office_in : List Row → Digest
office_in [] = []
office_in (row ∷ rows) = digest_in (column row 3)
