use Rattle.std.proofs.Common.{◌≡◌, codes, length}
use Rattle.std.specs.Option.{option_map}
use Rattle.plan_psplib.specs.Streams.{rows}
use Rattle.plan_psplib.specs.Sections.{is_kept, is_title, key_line, head_of}
use Rattle.plan_psplib.specs.Head.{numbered_line}
use Rattle.plan_psplib.specs.Noted.{noted_or}
use Rattle.plan_psplib.proofs.sm.head.key_lines.Given as goal

-- the noted lines, or else the first ones among the remaining lines of the head, are those of the
-- head
abbrev pub invariant-loop-line : goal.invariant-loop-line
invariant-loop-line l = record {
  projects : noted_or (option_map numbered_line l.projects) (key_line (codes "projects") (rows is_kept is_title l.lines)) ≡ key_line (codes "projects") (head_of l.text);
  jobs : noted_or (option_map numbered_line l.jobs) (key_line (codes "jobs") (rows is_kept is_title l.lines)) ≡ key_line (codes "jobs") (head_of l.text);
  renewable : noted_or (option_map numbered_line l.renewable) (key_line (codes "- renewable") (rows is_kept is_title l.lines)) ≡ key_line (codes "- renewable") (head_of l.text);
  nonrenewable : noted_or (option_map numbered_line l.nonrenewable) (key_line (codes "- nonrenewable") (rows is_kept is_title l.lines)) ≡ key_line (codes "- nonrenewable") (head_of l.text);
  doubly_constrained : noted_or (option_map numbered_line l.doubly_constrained)
      (key_line (codes "- doubly constrained") (rows is_kept is_title l.lines)) ≡ key_line
      (codes "- doubly constrained") (head_of l.text);
}

abbrev pub decreases-loop-line : goal.decreases-loop-line
decreases-loop-line l = length (rows is_kept is_title l.lines)
