use Rattle.std.proofs.Common.{◌∙◌}
use Rattle.plan_rows.specs.World.{is_code}
use Rattle.plan_rows.specs.Books.{published_in}
use Rattle.plan_rows.specs.RowTests.{same_key}
use Rattle.plan_rows.proofs.LookupLemmas.{position_as, key_text}
use Rattle.plan_rows.proofs.row_tests.places.Places.code_at.Goals as goal

pub returns : goal.returns
returns c = λ o seen are. c.copied.ensures ∙ c.get.ensures.value ∙ are.codes (c.args.code, 0, 0, 0)
    ∙ position_as (λ row. same_key (c.args.code.now, 0, 0, 0) ((published_in row).code, 0, 0, 0))
    (λ row. is_code c.args.code.now (published_in row))
    (λ row. key_text c.args.code.now (published_in row).code) o.published.now
