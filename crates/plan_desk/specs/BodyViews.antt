-- The bodies that values of the code stand for (docs/definitions.md, "Desks").
use Rattle.std.specs.Prelude.{string_bytes}
use Rattle.plan_desk.specs.Bodies as bodies
use Rattle.plan_desk.specs.declared.bodies.PublishBody.{PublishBody}
use Rattle.plan_desk.specs.declared.bodies.DeskBody.{DeskBody}
use Rattle.plan_desk.specs.declared.bodies.BindBody.{BindBody}
use Rattle.plan_desk.specs.declared.bodies.CalendarBody.{CalendarBody}
use Rattle.plan_desk.specs.declared.bodies.LagBody.{LagBody}

abbrev pub publish_in : PublishBody → bodies.PublishBody
publish_in b = record { code = string_bytes b.code; kind = b.kind; capacity = b.capacity }

abbrev pub desk_body_in : DeskBody → bodies.DeskBody
desk_body_in b = record { desk = string_bytes b.desk; key = string_bytes b.key }

abbrev pub bind_body_in : BindBody → bodies.BindBody
bind_body_in b = record { code = string_bytes b.code; place = b.place }

abbrev pub calendar_in : CalendarBody → bodies.CalendarBody
calendar_in b = record { start = string_bytes b.start; days = string_bytes b.days }

abbrev pub lag_body_in : LagBody → bodies.LagBody
lag_body_in b = record { from = b.from; to = b.to; lag = b.lag }
