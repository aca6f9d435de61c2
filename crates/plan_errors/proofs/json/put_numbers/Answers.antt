use Rattle.std.proofs.Common.{◌≡◌, length, vec_len, ap, ◌∙◌, arith}
use Rattle.serde_json.proofs.Views.{view-Array}
use Rattle.serde_json.specs.Data.{Data, put}
use Rattle.serde_json.specs.View.{members_view}
use Rattle.plan_errors.proofs.JsonLemmas.{values_put}
use Rattle.plan_errors.proofs.json.put_numbers.Goals as goal

pub returns : goal.returns
returns c =
    let size : length c.in_ok-values.values.items ≡ vec_len c.in_ok-values.values = omega (arith, c.in_ok-values.values.ok.0) in
    let before = members_view c.args.object.now.entries in
    c.in_ok-put.ensures.ok
    ∙ ap (λ (d : Data). put c.args.key.now d before) (view-Array c.in_ok-values.values)
    ∙ values_put c.args.key.now _ c.in_ok-values.values.items (vec_len c.in_ok-values.values) before c.in_ok-values.ensures size c.if-is_empty.ensures
