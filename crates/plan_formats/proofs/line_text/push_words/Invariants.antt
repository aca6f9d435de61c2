use Rattle.std.proofs.Common.{◌≡◌, ◌++◌, map, take}
use Rattle.plan_formats.specs.TableLines.{spaced_words}
use Rattle.plan_formats.proofs.line_text.push_words.Given as goal

-- the text, and behind it the words so far
abbrev pub invariant-loop-word : goal.invariant-loop-word
invariant-loop-word l = l.text.items ≡ l.fn.text.items ++ spaced_words (map (λ word. word.items) (take l.word-index l.words))
