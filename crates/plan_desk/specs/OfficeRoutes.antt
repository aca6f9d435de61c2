-- The routes of the office (docs/definitions.md, "Desks"). Each is for a request with the office's
-- key.
use Rattle.std.specs.Prelude.{Bool, false, not, is_some, List, Option, Some, None}
use Rattle.sha2.specs.Sha256.{sha256}
use Rattle.plan_rows.specs.declared.kinds.Kind.{Kind}
use Rattle.plan_rows.specs.World.{Text, Published, same_kind, code_in}
use Rattle.plan_rows.specs.Changes.{Publish, OpenDesk, SetKey}
use Rattle.plan_desk.specs.Bodies.{publish_body, desk_body, key_body}
use Rattle.plan_rows.specs.Views.{View}
use Rattle.plan_desk.specs.Outcomes.{Outcome, makes, unless, given}
use Rattle.plan_desk.specs.Refusals.{not_found, bad_body, desk_exists, kind_differs}
use Rattle.plan_desk.specs.JsonTexts.{code_text, desk_text}

-- there is a row, and it has another kind
abbrev pub is_other_kind : Kind → Option Published → Bool
is_other_kind kind None = false
is_other_kind kind (Some row) = not (same_kind row.kind kind)

-- a code is published, or a published code of the same kind gets another capacity
unfoldable pub Publishes : List Published → Text → Outcome
Publishes rows body = given (publish_body body) bad_body (λ b.
    unless (is_other_kind b.kind (code_in rows b.code)) kind_differs
    (makes 200 (code_text b.code b.kind b.capacity) (Publish b.code b.kind b.capacity)))

-- a desk is opened, unless it exists; the view is that of the desk that the body names
unfoldable pub Opens : View → Text → Outcome
Opens v body = given (desk_body body) bad_body (λ b.
    unless (is_some v.desk) desk_exists (makes 201 (desk_text b.desk) (OpenDesk (sha256 b.key))))

-- an existing desk gets another key
unfoldable pub SetsKey : View → Text → Text → Outcome
SetsKey v desk body = unless (not (is_some v.desk)) not_found
    (given (key_body body) bad_body (λ key. makes 200 (desk_text desk) (SetKey (sha256 key))))
