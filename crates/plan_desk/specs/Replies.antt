-- The replies that values of the code stand for (docs/definitions.md, "Desks").
use Rattle.std.specs.Prelude.{string_bytes}
use Rattle.plan_desk.specs.declared.reply.Body.{Body}
use Rattle.plan_desk.specs.declared.reply.Body.TheVariants.{Fixed, Owned}
use Rattle.plan_desk.specs.declared.reply.Reply as rows
use Rattle.plan_rows.specs.World.{Text}
use Rattle.plan_desk.specs.Calls.{Reply}

-- the bytes of a body
abbrev pub bytes_of : Body → Text
bytes_of (Fixed text) = text.now
bytes_of (Owned text) = string_bytes text

-- the reply that it stands for
abbrev pub reply_of : rows.Reply → Reply
reply_of r = record { status = r.status; kind = r.kind; body = bytes_of r.body }
