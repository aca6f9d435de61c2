use Rattle.std.proofs.Common.{◌≡◌, ◌++◌}
use Rattle.std.specs.Prelude.{replicate}
use Rattle.plan_list_back.proofs.text.push_feeds.Given as goal

-- so many line feeds are behind the text
abbrev pub invariant-loop-feed : goal.invariant-loop-feed
invariant-loop-feed l = l.text.items ≡ l.fn.text.items ++ replicate l._feed 10
