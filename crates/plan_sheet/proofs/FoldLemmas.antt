-- The folding of content lines, and the lengths of folded lines.
use Rattle.std.proofs.Common.{◌≡◌, ℕ, ◌+◌, ◌≤◌, Bool, true, false, ◌||◌, ◌==◌, nat_lt, List, [], ◌∷◌, ◌++◌, length, flat_map, chars, codes, encode_utf8, IsUtf8}
use Rattle.std.proofs.Common.{refl, sym, ap, ◌∙◌, subst, arith, append_assoc, append-nil}
use Rattle.std.specs.Char.{len_utf8}
use Rattle.std.specs.Fmt.{decimal}
use Rattle.std.proofs.lemmas.Bool.{leb-true}
use Rattle.std.proofs.lemmas.Bool.Decides.{nat_tests}
use Rattle.std.proofs.lemmas.Str.{chars_past_char, chars-nil, length-encode, len_utf8_bounds}
use Rattle.std.proofs.lemmas.List.{nil_from_length}
use Rattle.plan_sheet.specs.Ics.{has_room, used_with, folded_char, folded, line_end, content_line, property, Event, event_head, event_sequence, event_clocks}
use Rattle.plan_sheet.specs.Ics.{event_days, event_times, event_tail, event_text, calendar_head, calendar_end, text_value, are_short}
use Rattle.plan_sheet.specs.Feed.{Feed, stamp_of, bar_event, wants, wanted_text, bar_text, ics_text}
use Rattle.plan_sheet.specs.declared.bars.Bar.{Bar}
use Rattle.plan_sheet.proofs.EscapeLemmas.{if_cases}

-- a character of the line is written
pub fold_step : (old new rest after : List ℕ) (used now : ℕ) (c : ℕ) (whole : List ℕ) →
    IsUtf8 rest → rest ≡ encode_utf8 c ++ after → new ≡ old ++ folded_char used c → now ≡ used_with used c →
    old ++ folded used (chars rest) ≡ whole → new ++ folded now (chars after) ≡ whole
fold_step old new rest after used now c whole utf8 parts step count held =
    ap (λ bytes. bytes ++ folded now (chars after)) step
    ∙ ap (λ n. (old ++ folded_char used c) ++ folded n (chars after)) count
    ∙ append_assoc old (folded_char used c) (folded (used_with used c) (chars after))
    ∙ ap (λ cs. old ++ folded used cs) (sym (chars_past_char rest after c utf8 parts))
    ∙ held

-- the whole line is written
pub fold_end : (written rest whole : List ℕ) (used : ℕ) → length rest ≡ 0 → written ++ folded used (chars rest) ≡ whole → written ≡ whole
fold_end written rest whole used none held =
    sym (append-nil written) ∙ ap (λ cs. written ++ folded used cs) (sym (ap chars (nil_from_length rest none) ∙ chars-nil)) ∙ held

-- bytes for which the line has room
short_step : (n : ℕ) (bytes rest : List ℕ) → n + length bytes ≤ 75 → ((m : ℕ) → m ≤ n + length bytes → are_short m rest ≡ true) →
    are_short n (bytes ++ rest) ≡ true
short_step n [] rest room ends = ends n (omega arith)
short_step n (b ∷ bytes) rest room ends =
    let small : nat_lt n 75 ≡ true = grind (arith, nat_tests) in
    if_cases (λ short. short ≡ true) (b == 13 || b == 10) _ _
    (λ _. short_step 0 bytes rest (omega (arith, room)) (λ m le. ends m (omega (arith, le))))
    (λ _. rw small (short_step (n + 1) bytes rest (omega (arith, room)) (λ m le. ends m (omega (arith, le)))))

-- a character, before a rest that is short behind any line with room
short_char : (b : Bool) (n used c : ℕ) (tail : ℕ → List ℕ) → has_room used c ≡ b → n ≤ used → used ≤ 75 →
    ((m u : ℕ) → m ≤ u → u ≤ 75 → are_short m (tail u) ≡ true) →
    are_short n (folded_char used c ++ tail (used_with used c)) ≡ true
unfolding folded_char used_with
short_char true n used c tail fit less room ends =
    let fits : used + len_utf8 c ≤ 75 = leb-true (used + len_utf8 c) 75 fit in
    let size : length (encode_utf8 c) ≡ len_utf8 c = length-encode c in
    rw fit (short_step n (encode_utf8 c) (tail (used + len_utf8 c)) (omega (arith, size, fits, less)) (λ m le.
    ends m (used + len_utf8 c) (omega (arith, size, le, less)) fits))
short_char false n used c tail full less room ends =
    let size : length (encode_utf8 c) ≡ len_utf8 c = length-encode c in
    let most : len_utf8 c ≤ 4 = (len_utf8_bounds c).1 in
    rw full (short_step 1 (encode_utf8 c) (tail (1 + len_utf8 c)) (omega (arith, size, most)) (λ m le.
    ends m (1 + len_utf8 c) (omega (arith, size, le)) (omega (arith, most))))

-- a folded line keeps to 75 bytes
short_folded : (n used : ℕ) (cs rest : List ℕ) → n ≤ used → used ≤ 75 → ((m : ℕ) → m ≤ 75 → are_short m rest ≡ true) →
    are_short n (folded used cs ++ rest) ≡ true
short_folded n used [] rest less room ends = ends n (omega (arith, less, room))
short_folded n used (c ∷ cs) rest less room ends =
    subst (λ bytes. are_short n bytes ≡ true) (sym (append_assoc (folded_char used c) (folded (used_with used c) cs) rest))
    (short_char (has_room used c) n used c (λ u. folded u cs ++ rest) refl less room (λ m u le small. short_folded m u cs rest le small ends))

-- short lines stay short behind these bytes
record KeepsShort (bytes : List ℕ) : Type 0 where
  keeps : (rest : List ℕ) → are_short 0 rest ≡ true → are_short 0 (bytes ++ rest) ≡ true

keeps_both : (one two : List ℕ) → KeepsShort one → KeepsShort two → KeepsShort (one ++ two)
keeps_both one two first second = record {
  keeps = λ rest short.
      subst (λ bytes. are_short 0 bytes ≡ true) (sym (append_assoc one two rest)) (first.keeps (two ++ rest) (second.keeps rest short));
}

line_keeps : (line rest : List ℕ) → are_short 0 rest ≡ true → are_short 0 (content_line line ++ rest) ≡ true
unfolding content_line
line_keeps line rest short =
    subst (λ bytes. are_short 0 bytes ≡ true) (sym (append_assoc (folded 0 (chars line)) line_end rest))
    (short_folded 0 0 (chars line) (line_end ++ rest) (omega arith) (omega arith) (λ m le. short))

keeps_line : (line : List ℕ) → KeepsShort (content_line line)
keeps_line line = record { keeps = line_keeps line }

-- a property
keeps : (name value : List ℕ) → KeepsShort (property name value)
unfolding property
keeps name value = keeps_line (name ++ value)

keeps_head : (stamp uid : List ℕ) → KeepsShort (event_head stamp uid)
keeps_head stamp uid =
    let begin = property (codes "BEGIN:") (codes "VEVENT") in
    let named = property (codes "UID:") uid in
    let stamped = property (codes "DTSTAMP:") stamp in
    keeps_both (begin ++ named) stamped
    (keeps_both begin named (keeps (codes "BEGIN:") (codes "VEVENT")) (keeps (codes "UID:") uid))
    (keeps (codes "DTSTAMP:") stamp)

keeps_days : (first last : List ℕ) → KeepsShort (event_days first last)
keeps_days first last =
    keeps_both (property (codes "DTSTART;VALUE=DATE:") first) (property (codes "DTEND;VALUE=DATE:") last)
    (keeps (codes "DTSTART;VALUE=DATE:") first) (keeps (codes "DTEND;VALUE=DATE:") last)

keeps_tail : (name : List ℕ) → KeepsShort (event_tail name)
keeps_tail name =
    keeps_both (property (codes "SUMMARY:") (text_value name)) (property (codes "END:") (codes "VEVENT"))
    (keeps (codes "SUMMARY:") (text_value name)) (keeps (codes "END:") (codes "VEVENT"))

keeps_nothing : KeepsShort []
keeps_nothing = record { keeps = λ rest short. short }

keeps_sequence : (sequence : ℕ) → KeepsShort (event_sequence sequence)
unfolding event_sequence
keeps_sequence sequence =
    if_cases KeepsShort (nat_lt sequence 1) [] (property (codes "SEQUENCE:") (decimal sequence))
    (λ _. keeps_nothing) (λ _. keeps (codes "SEQUENCE:") (decimal sequence))

keeps_clocks : (begin end : List ℕ) → KeepsShort (event_clocks begin end)
keeps_clocks begin end =
    keeps_both (property (codes "DTSTART:") begin) (property (codes "DTEND:") end)
    (keeps (codes "DTSTART:") begin) (keeps (codes "DTEND:") end)

keeps_times : (timed : Bool) (begin end : List ℕ) → KeepsShort (event_times timed begin end)
keeps_times true begin end = keeps_clocks begin end
keeps_times false begin end = keeps_days begin end

keeps_event : (stamp : List ℕ) (event : Event) → KeepsShort (event_text stamp event)
unfolding event_text
keeps_event stamp event =
    let head = event_head stamp event.uid in
    let sequence = event_sequence event.sequence in
    let days = event_times event.timed event.begin event.end in
    keeps_both ((head ++ sequence) ++ days) (event_tail event.name)
    (keeps_both (head ++ sequence) days
    (keeps_both head sequence (keeps_head stamp event.uid) (keeps_sequence event.sequence))
    (keeps_times event.timed event.begin event.end)) (keeps_tail event.name)

keeps_wanted : (feed : Feed) (bar : Bar) → KeepsShort (wanted_text feed bar)
keeps_wanted feed bar =
    if_cases KeepsShort (wants feed bar) (event_text (stamp_of feed.days) (bar_event feed bar)) []
    (λ _. keeps_event (stamp_of feed.days) (bar_event feed bar)) (λ _. keeps_nothing)

keeps_bar : (feed : Feed) (bar : Bar) → KeepsShort (bar_text feed bar)
keeps_bar feed bar =
    if_cases KeepsShort (nat_lt bar.from bar.to) (wanted_text feed bar) []
    (λ _. keeps_wanted feed bar) (λ _. keeps_nothing)

keeps_bars : (feed : Feed) (bars : List Bar) → KeepsShort (flat_map (bar_text feed) bars)
keeps_bars feed [] = keeps_nothing
keeps_bars feed (bar ∷ bars) = keeps_both (bar_text feed bar) (flat_map (bar_text feed) bars) (keeps_bar feed bar) (keeps_bars feed bars)

keeps_calendar_head : KeepsShort calendar_head
unfolding calendar_head
keeps_calendar_head =
    let begin = property (codes "BEGIN:") (codes "VCALENDAR") in
    let version = property (codes "VERSION:") (codes "2.0") in
    let product = property (codes "PRODID:") (codes "-//plan//plan//EN") in
    keeps_both (begin ++ version) product
    (keeps_both begin version (keeps (codes "BEGIN:") (codes "VCALENDAR")) (keeps (codes "VERSION:") (codes "2.0")))
    (keeps (codes "PRODID:") (codes "-//plan//plan//EN"))

keeps_calendar_end : KeepsShort calendar_end
unfolding calendar_end
keeps_calendar_end = keeps (codes "END:") (codes "VCALENDAR")

keeps_file : (feed : Feed) (bars : List Bar) → KeepsShort (ics_text feed bars)
keeps_file feed bars =
    keeps_both (calendar_head ++ flat_map (bar_text feed) bars) calendar_end
    (keeps_both calendar_head (flat_map (bar_text feed) bars) keeps_calendar_head (keeps_bars feed bars)) keeps_calendar_end

-- no line of a calendar file has more than 75 bytes
pub short_file : (feed : Feed) (bars : List Bar) → are_short 0 (ics_text feed bars) ≡ true
short_file feed bars =
    subst (λ bytes. are_short 0 bytes ≡ true) (append-nil (ics_text feed bars)) ((keeps_file feed bars).keeps [] refl)
