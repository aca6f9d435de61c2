-- Calendar files (docs/definitions.md, "Sheets"; RFC 5545, sections 3.1, 3.3.11 and 3.6.1).
use Rattle.std.specs.Prelude.{ℕ, ◌+◌, ◌==◌, Bool, true, ◌&&◌, ◌||◌, if◌then◌else◌, nat_le, nat_lt, List, [], ◌∷◌, ◌++◌, codes}
use Rattle.std.specs.List.{flat_map}
use Rattle.std.specs.Char.{encode_utf8, len_utf8}
use Rattle.std.specs.Str.{chars}
use Rattle.std.specs.Fmt.{decimal}
use Rattle.plan_sheet.specs.Escape.{shown}
use Rattle.plan_sheet.specs.declared.ics.Event as declared

-- the bytes of a character in a text value
unfoldable pub text_char : ℕ → List ℕ
text_char c =
    if c == 92 then codes "\\\\" else if c == 59 then codes "\\;" else if c == 44 then codes "\\,"
    else if c == 10 then codes "\\n" else encode_utf8 (shown c)

-- a text value
abbrev pub text_value : List ℕ → List ℕ
text_value text = flat_map text_char (chars text)

-- the end of a line
abbrev pub line_end : List ℕ
line_end = 13 ∷ 10 ∷ []

-- the line with these bytes has room for the character: a line has at most 75 bytes
abbrev pub has_room : ℕ → ℕ → Bool
has_room used c = nat_le (used + len_utf8 c) 75

-- the bytes of the line with the character; the next line begins with a space
unfoldable pub used_with : ℕ → ℕ → ℕ
used_with used c = if has_room used c then used + len_utf8 c else 1 + len_utf8 c

-- the character, on the next line if this one has no room for it
unfoldable pub folded_char : ℕ → ℕ → List ℕ
folded_char used c = if has_room used c then encode_utf8 c else line_end ++ 32 ∷ encode_utf8 c

-- the characters of a line of which so many bytes are used, folded
abbrev pub folded : ℕ → List ℕ → List ℕ
folded used [] = []
folded used (c ∷ cs) = folded_char used c ++ folded (used_with used c) cs

-- the characters of a line, folded
abbrev pub folded_text : List ℕ → List ℕ
folded_text line = folded 0 (chars line)

-- a content line
unfoldable pub content_line : List ℕ → List ℕ
content_line line = folded_text line ++ line_end

-- a property: its name with its parameters and the colon, and its value
unfoldable pub property : List ℕ → List ℕ → List ℕ
property name value = content_line (name ++ value)

-- an event, of whole days if it isn't timed; its sequence is the number of its revision
pub record Event : Type 0 where
  pub timed : Bool
  pub uid : List ℕ
  pub sequence : ℕ
  pub name : List ℕ
  pub begin : List ℕ
  pub end : List ℕ

-- the same, as the program keeps it
abbrev pub event_of : declared.Event → Event
event_of e =
    record { timed = e.timed; uid = e.uid.now; sequence = e.sequence; name = e.name.now; begin = e.begin.now; end = e.end.now }

-- the first properties of an event
abbrev pub event_head : List ℕ → List ℕ → List ℕ
event_head stamp uid =
    property (codes "BEGIN:") (codes "VEVENT") ++ property (codes "UID:") uid ++ property (codes "DTSTAMP:") stamp

-- the revision of an event; nothing for revision 0, which RFC 5545 takes if there is no number
unfoldable pub event_sequence : ℕ → List ℕ
event_sequence sequence = if nat_lt sequence 1 then [] else property (codes "SEQUENCE:") (decimal sequence)

-- the days of an event: its first one, and the one after its last one
abbrev pub event_days : List ℕ → List ℕ → List ℕ
event_days first end = property (codes "DTSTART;VALUE=DATE:") first ++ property (codes "DTEND;VALUE=DATE:") end

-- the times of day of an event: when it begins and ends, wherever that is
abbrev pub event_clocks : List ℕ → List ℕ → List ℕ
event_clocks begin end = property (codes "DTSTART:") begin ++ property (codes "DTEND:") end

-- the days or the times of an event
abbrev pub event_times : Bool → List ℕ → List ℕ → List ℕ
event_times timed begin end = if timed then event_clocks begin end else event_days begin end

-- the last properties of an event
abbrev pub event_tail : List ℕ → List ℕ
event_tail name = property (codes "SUMMARY:") (text_value name) ++ property (codes "END:") (codes "VEVENT")

-- an event
unfoldable pub event_text : List ℕ → Event → List ℕ
event_text stamp event =
    event_head stamp event.uid ++ event_sequence event.sequence
    ++ event_times event.timed event.begin event.end ++ event_tail event.name

-- the first properties of a calendar file
unfoldable pub calendar_head : List ℕ
calendar_head =
    property (codes "BEGIN:") (codes "VCALENDAR") ++ property (codes "VERSION:") (codes "2.0")
    ++ property (codes "PRODID:") (codes "-//plan//plan//EN")

-- the last property of a calendar file
unfoldable pub calendar_end : List ℕ
calendar_end = property (codes "END:") (codes "VCALENDAR")

-- no line has more than 75 bytes, the line end apart; the first one has n bytes before these
abbrev pub are_short : ℕ → List ℕ → Bool
are_short n [] = true
are_short n (b ∷ bs) = if b == 13 || b == 10 then are_short 0 bs else nat_lt n 75 && are_short (n + 1) bs
