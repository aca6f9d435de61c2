use Rattle.std.proofs.Common.{◌≡◌, IsUtf8, chars}
use Rattle.std.specs.Str.Iter.{chars_rest}
use Rattle.plan_sheet.specs.Cuts.{fits}
use Rattle.plan_sheet.proofs.cuts.fits.Given as goal

-- the rest has room in what is left exactly if the whole text has room
abbrev pub invariant-loop-c : goal.invariant-loop-c
invariant-loop-c l =
    IsUtf8 (chars_rest l.c-iterator) × (fits l.left (chars (chars_rest l.c-iterator)) ≡ fits l.fn.room (chars l.text))
