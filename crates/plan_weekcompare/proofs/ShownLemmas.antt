-- The activities of a week that aren't done, one activity more.
use Rattle.std.proofs.Common.{◌≡◌, ℕ, ◌+◌, ◌<◌, List, ◌∷◌, ◌++◌, Option, Some, None, drop, get_or, length, map, ap, ◌∙◌}
use Rattle.std.proofs.lemmas.List.{drop_more}
use Rattle.plan_table.specs.Table.{activity_of}
use Rattle.plan_table.specs.declared.table.Activity as declared
use Rattle.plan_week.specs.declared.week.Week.{Week}
use Rattle.plan_weekcompare.specs.Shown.{shown_at, shown_from, shown_row}

-- the rows from place k on begin with that of activity k
next : (week : Week) (starts : List ℕ) (k : ℕ) (all : List declared.Activity) (d : declared.Activity) → k < length all
    → shown_from week starts k (map activity_of (drop k all))
    ≡ shown_row (activity_of (get_or all k d)).id (shown_at week starts k) ++ shown_from week starts (k + 1) (map activity_of (drop (k + 1) all))
next week starts k all d inside =
    ap (λ (xs : List declared.Activity). shown_from week starts k (map activity_of xs)) (drop_more all k d inside)

-- a start is shown
pub next_shown : (week : Week) (starts : List ℕ) (k start : ℕ) (all : List declared.Activity) (d : declared.Activity) → k < length all
    → shown_at week starts k ≡ Some start
    → shown_from week starts k (map activity_of (drop k all))
    ≡ record { id = (activity_of (get_or all k d)).id; start = start } ∷ shown_from week starts (k + 1) (map activity_of (drop (k + 1) all))
next_shown week starts k start all d inside is =
    next week starts k all d inside
    ∙ ap (λ (shown : Option ℕ). shown_row (activity_of (get_or all k d)).id shown ++ shown_from week starts (k + 1) (map activity_of (drop (k + 1) all))) is

-- none is shown
pub next_hidden : (week : Week) (starts : List ℕ) (k : ℕ) (all : List declared.Activity) (d : declared.Activity) → k < length all
    → shown_at week starts k ≡ None
    → shown_from week starts k (map activity_of (drop k all)) ≡ shown_from week starts (k + 1) (map activity_of (drop (k + 1) all))
next_hidden week starts k all d inside is =
    next week starts k all d inside
    ∙ ap (λ (shown : Option ℕ). shown_row (activity_of (get_or all k d)).id shown ++ shown_from week starts (k + 1) (map activity_of (drop (k + 1) all))) is
