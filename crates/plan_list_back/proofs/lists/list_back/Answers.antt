use Rattle.std.proofs.Common.{rules, ◌≡◌, ℕ, true, List, map, subst}
use Rattle.std.specs.Str.{bytes_eq}
use Rattle.std.proofs.lemmas.Slice.Eq.{bytes_eq-Decides}
use Rattle.plan_table.specs.Overrides.{override_of}
use Rattle.plan_spreadsheet.specs.Options.{options_of}
use Rattle.plan_list_back.specs.ListBack.{IsProjectOf}
use Rattle.plan_list_back.proofs.ListBackLemmas.{same}
use Rattle.plan_list_back.proofs.lists.list_back.Goals as goal

pub returns-clause-same : goal.returns-clause-same
returns-clause-same c =
    let o = options_of c.args.options.now in
    let given = map override_of c.args.overrides.now in
    let made = c.in_ok-made.made.items in
    let before = c.in_ok-before.before.items in
    let behind = c.in-Ok.behind.items in
    let is : bytes_eq before behind ≡ true = search rules in
    let equal : before ≡ behind = (bytes_eq-Decides before behind).0 is in
    same o given c.args.bytes.now made before behind c.in_ok-before.ensures
    (subst (λ (bytes : List ℕ). IsProjectOf o given bytes behind) c.deref.ensures.value c.in-Ok.ensures) equal
