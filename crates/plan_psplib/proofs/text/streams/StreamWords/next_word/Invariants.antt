use Rattle.std.proofs.Common.{◌≡◌, ◌++◌, length}
use Rattle.plan_psplib.specs.Streams.{words_at, words_of, rows}
use Rattle.plan_psplib.proofs.text.streams.StreamWords.next_word.Given as goal

-- the same words are left, and none was read
abbrev pub invariant-loop-text : goal.invariant-loop-text
invariant-loop-text g l = record {
  same : words_at l.self-inside.line l.self-inside.words ++ words_of (rows g.L.Layout.takes g.L.Layout.ends l.self-inside.lines) ≡ l.fn.self.words;
  unread : l.self-inside.last ≡ l.fn.self.last;
}

abbrev pub decreases-loop-text : goal.decreases-loop-text
decreases-loop-text g l = length (rows g.L.Layout.takes g.L.Layout.ends l.self-inside.lines)
