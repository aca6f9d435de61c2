-- The bytes of a response (docs/definitions.md, "Connections").
use Rattle.std.specs.Prelude.{ℕ, Bool, if◌then◌else◌, [], ◌++◌, length, Option, Some, None, option_map, unwrap_or, codes}
use Rattle.std.specs.Fmt.{decimal}
use Rattle.http.specs.StatusCode.{reason_phrase}
use Rattle.plan_desk.specs.declared.reply.ReplyKind.{ReplyKind}
use Rattle.plan_desk.specs.declared.reply.ReplyKind.TheVariants.{Plain, Json}
use Rattle.plan_rows.specs.World.{Text}
use Rattle.plan_desk.specs.Calls.{Reply}
use Rattle.plan_http.specs.declared.routes.Route.{Route}
use Rattle.plan_http.specs.Routes.{method_of}

-- the phrase of a status, or an empty text if it has none
unfoldable pub phrase : ℕ → Text
phrase status = unwrap_or (reason_phrase status) []

-- a line of a head ends with CR and LF
abbrev pub line_end : Text
line_end = codes "\r\n"

abbrev pub status_line : ℕ → Text
status_line status = codes "HTTP/1.1 " ++ decimal status ++ codes " " ++ phrase status ++ line_end

abbrev pub media_type : ReplyKind → Text
media_type Plain = codes "text/plain"
media_type Json = codes "application/json"

abbrev pub type_line : ReplyKind → Text
type_line kind = codes "Content-Type: " ++ media_type kind ++ line_end

abbrev pub length_line : ℕ → Text
length_line count = codes "Content-Length: " ++ decimal count ++ line_end

-- the first lines of each head
unfoldable pub front_lines : ℕ → ReplyKind → ℕ → Text
front_lines status kind count = status_line status ++ type_line kind ++ length_line count

-- the line with the method of the route, if there is one
abbrev pub allow_line : Option Text → Text
allow_line None = []
allow_line (Some method) = codes "Allow: " ++ method ++ line_end

-- the last line, and the empty line that ends the head
abbrev pub last_lines : Text
last_lines = codes "Connection: close" ++ line_end ++ line_end

abbrev pub response_head : Reply → Option Text → Text
response_head reply allow =
    front_lines reply.status reply.kind (length reply.body) ++ allow_line allow ++ last_lines

-- the body, unless the response ends after its head
abbrev pub sent_body : Bool → Text → Text
sent_body is_head body = if is_head then [] else body

-- the response of a reply: its head, and the body
abbrev pub response_text : Reply → Option Text → Bool → Text
response_text reply allow is_head = response_head reply allow ++ sent_body is_head reply.body

-- the response of a reply, with the method of a route if one is given
abbrev pub response_on : Reply → Option Route → Bool → Text
response_on reply route is_head = response_text reply (option_map method_of route) is_head
