-- The refusals of the office (docs/definitions.md, "Desks"; docs/errors.md).
use Rattle.std.specs.Prelude.{◌++◌, codes}
use Rattle.plan_rows.specs.World.{Text}
use Rattle.plan_desk.specs.Calls.{Reply, refusal}

abbrev pub not_found : Reply
not_found = refusal 404 (codes "E02 not found")

abbrev pub bad_body : Reply
bad_body = refusal 400 (codes "E03 body")

abbrev pub desk_exists : Reply
desk_exists = refusal 409 (codes "E04 desk exists")

abbrev pub unpublished : Reply
unpublished = refusal 404 (codes "E05 code not published")

abbrev pub kind_differs : Reply
kind_differs = refusal 409 (codes "E06 kind differs")

abbrev pub other_kind : Reply
other_kind = refusal 409 (codes "E07 other kind of plan")

abbrev pub many_plans : Reply
many_plans = refusal 409 (codes "E08 100 plans")

abbrev pub numbers_spent : Reply
numbers_spent = refusal 409 (codes "E09 numbers spent")

-- a file fault
abbrev pub bad_file : Text → Reply
bad_file text = refusal 422 (codes "E10 " ++ text)

-- a schedule that can't be made
abbrev pub bad_schedule : Text → Reply
bad_schedule text = refusal 422 (codes "E11 " ++ text)

-- a calendar that can't be used
abbrev pub bad_calendar : Text → Reply
bad_calendar text = refusal 422 (codes "E12 " ++ text)
