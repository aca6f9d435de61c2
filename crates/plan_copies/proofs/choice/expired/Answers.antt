use Rattle.std.proofs.Common.{rules, arith, ap, ◌∙◌, ◌<◌, ◌≤◌, ◌≡◌, length, map, subst, string_bytes, append-nil}
use Rattle.std.specs.Prelude.{Contains, filter}
use Rattle.std.proofs.lemmas.List.{map-append, take_all}
use Rattle.plan_copies.specs.Choice.{is_expired}
use Rattle.plan_copies.proofs.ChoiceLemmas.{filter_no, filter_yes, new_stays}
use Rattle.plan_copies.proofs.choice.expired.Goals as goal
use Rattle.plan_copies.proofs.choice.expired.Goals.{then-is_expired+in_ok-add, else-is_expired}
use Rattle.std.proofs.Common.{true, false, ◌++◌, ◌∷◌, []}

pub returns-clause-spares : goal.returns-clause-spares
returns-clause-spares c =
    let names = map string_bytes c.args.names.now in
    let test = is_expired c.args.prefix.now c.args.new.now c.args.keep names in
    let done : length c.args.names.now ≤ c.loop-entry.entry-index = search rules in
    let all : map string_bytes c.loop-entry.old.items ≡ filter test names =
    c.loop-entry.invariant ∙ ap (λ ys. filter test (map string_bytes ys)) (take_all c.loop-entry.entry-index c.args.names.now done) in
    λ h. new_stays c.args.prefix.now c.args.new.now c.args.keep names (subst (λ list. Contains list c.args.new.now) all h)

pub loop-entry-preserved : goal.loop-entry-preserved
loop-entry-preserved c =
    let step = c.loop-entry in
    let names = c.args.names.now in
    let x = c.entry-item.result in
    let test = is_expired c.args.prefix.now c.args.new.now c.args.keep (map string_bytes names) in
    let inside : step.entry-index < length names = search rules in
    let listed = map string_bytes step.old.items in
    let after = map string_bytes c.if-is_expired.old.items in
    elim c.if-is_expired.branch [
      | then-is_expired+in_ok-add w ↦
          (let passed : test (string_bytes x) ≡ true = search rules in
          let added : after ≡ listed ++ string_bytes x ∷ [] = search rules in
          filter_yes string_bytes names step.entry-index x inside c.entry-item.is test listed after passed step.invariant added)
      | else-is_expired w ↦
          (let failed : test (string_bytes x) ≡ false = search rules in
          let same : after ≡ listed = search rules in
          filter_no string_bytes names step.entry-index x inside c.entry-item.is test listed after failed step.invariant same)
    ]
