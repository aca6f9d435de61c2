use Rattle.std.proofs.Common.{◌≡◌, length, filter}
use Rattle.plan_psplib.specs.Lines.{last_line, last_number_or}
use Rattle.plan_psplib.specs.Sections.{is_kept, kept_lines, section, precedence_title, requests_title, availabilities_title}
use Rattle.plan_psplib.specs.Noted.{noted_or}
use Rattle.plan_psplib.proofs.sm.sections.Outline.of.Given as goal

-- the noted sections, or else the first ones among the remaining lines, are those of the text
abbrev pub invariant-loop-line : goal.invariant-loop-line
invariant-loop-line l = record {
  last : last_number_or l.last l.lines ≡ last_line l.text;
  precedence : noted_or l.precedence (section precedence_title (filter (λ line. is_kept line.text) l.lines)) ≡ section precedence_title (kept_lines l.text);
  requests : noted_or l.requests (section requests_title (filter (λ line. is_kept line.text) l.lines)) ≡ section requests_title (kept_lines l.text);
  availabilities : noted_or l.availabilities (section availabilities_title (filter (λ line. is_kept line.text) l.lines)) ≡ section availabilities_title (kept_lines l.text);
}

abbrev pub decreases-loop-line : goal.decreases-loop-line
decreases-loop-line l = length l.lines
