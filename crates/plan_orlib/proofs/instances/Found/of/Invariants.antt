use Rattle.std.proofs.Common.{◌≡◌, length}
use Rattle.plan_psplib.specs.Lines.{last_line, last_number_or, lines}
use Rattle.plan_psplib.specs.Noted.{noted_or}
use Rattle.plan_orlib.specs.Instances.{block}
use Rattle.plan_orlib.proofs.instances.Found.of.Given as goal

-- the noted block, or else the first one among the remaining lines, is that of the text
abbrev pub invariant-loop-line : goal.invariant-loop-line
invariant-loop-line l = record {
  last : last_number_or l.last l.lines ≡ last_line l.text;
  words : noted_or l.words (block l.name l.lines) ≡ block l.name (lines l.text);
}

abbrev pub decreases-loop-line : goal.decreases-loop-line
decreases-loop-line l = length l.lines
