-- The text of all rows of an office, a line each, and the output of `plan check-office`
-- (docs/definitions.md, "Keys in files"; docs/operations.md, "Backups"). Each line ends in a line
-- feed.
use Rattle.std.specs.Prelude.{◌≡◌, ◌++◌, codes, decimal, length}
use Rattle.std.specs.List.{flat_map}
use Rattle.hex.specs.Hex.{encode_lower, encode_upper}
use Rattle.sha2.specs.Sha256.{sha256}
use Rattle.plan_rows.specs.World.{Text, Digest, Published, Desk, Plan, Bind, Lag, World}
use Rattle.plan_rows.specs.Names.{kind_text, plan_kind_text}
use Rattle.plan_rows.specs.Plans.{in_order, code_before}
use Rattle.plan_rows.specs.KeyedRows.{desk_before, plan_key_before, bind_key_before, lag_key_before}
use Rattle.plan_summary.specs.declared.summary.Summary.{Summary}

-- The values of a row are separated by blanks. Digests are in lower-case hexadecimal digits, and
-- the name and the file of a plan in upper-case ones.
abbrev pub office_line : Digest → Text
office_line digest = codes "office " ++ encode_lower digest ++ codes "\n"

abbrev pub code_line : Published → Text
code_line row =
    codes "published " ++ row.code ++ codes " " ++ kind_text row.kind ++ codes " "
    ++ decimal row.capacity ++ codes "\n"

abbrev pub desk_line : Desk → Text
desk_line row =
    codes "desk " ++ row.desk ++ codes " " ++ encode_lower row.digest ++ codes " "
    ++ decimal row.next ++ codes "\n"

abbrev pub plan_line : Plan → Text
plan_line row =
    codes "plan " ++ row.desk ++ codes " " ++ decimal row.n ++ codes " " ++ plan_kind_text row.kind
    ++ codes " " ++ encode_upper row.name ++ codes " " ++ encode_upper row.body ++ codes " "
    ++ row.start ++ codes " " ++ row.days ++ codes "\n"

abbrev pub bind_line : Bind → Text
bind_line row =
    codes "bind " ++ row.desk ++ codes " " ++ decimal row.n ++ codes " " ++ decimal row.place
    ++ codes " " ++ row.code ++ codes "\n"

abbrev pub lag_line : Lag → Text
lag_line row =
    codes "lag " ++ row.desk ++ codes " " ++ decimal row.n ++ codes " " ++ decimal row.source
    ++ codes " " ++ decimal row.target ++ codes " " ++ decimal row.lag ++ codes "\n"

-- the rows of each table, in the order of their keys
abbrev pub codes_text : World → Text
codes_text w = flat_map code_line (in_order code_before w.published)

abbrev pub desks_text : World → Text
desks_text w = flat_map desk_line (in_order desk_before w.desks)

abbrev pub plans_text : World → Text
plans_text w = flat_map plan_line (in_order plan_key_before w.plans)

abbrev pub binds_text : World → Text
binds_text w = flat_map bind_line (in_order bind_key_before w.binds)

abbrev pub lags_text : World → Text
lags_text w = flat_map lag_line (in_order lag_key_before w.lags)

-- all rows, table by table
abbrev pub rows_text : World → Text
rows_text w =
    (((office_line w.office ++ codes_text w) ++ desks_text w) ++ plans_text w)
    ++ (binds_text w ++ lags_text w)

-- the number of rows of each table, and the SHA-256 of the text of all rows
pub record IsSummary (w : World) (summary : Summary) : Type 0 where
  pub desks : summary.desks ≡ length w.desks
  pub published : summary.published ≡ length w.published
  pub plans : summary.plans ≡ length w.plans
  pub binds : summary.binds ≡ length w.binds
  pub lags : summary.lags ≡ length w.lags
  pub digest : summary.digest ≡ sha256 (rows_text w)

-- the printed text
abbrev pub text_of : Summary → Text
text_of summary =
    codes "desks " ++ decimal summary.desks ++ codes "\npublished " ++ decimal summary.published
    ++ codes "\nplans " ++ decimal summary.plans ++ codes "\nbinds " ++ decimal summary.binds
    ++ codes "\nlags " ++ decimal summary.lags ++ codes "\nsha256 " ++ encode_lower summary.digest
    ++ codes "\n"
