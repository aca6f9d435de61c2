use Rattle.std.proofs.Common.{ℕ, List, inr, subst}
use Rattle.std.proofs.lemmas.Result.{err_from_is_err_and}
use Rattle.plan_errors.specs.Output.{Refuses}
use Rattle.plan_documents.specs.Documents.{IsOfSubject}
use Rattle.plan_documents.specs.Lists.{text_of}
use Rattle.plan_documents.proofs.ErrorLemmas.{if_err_weaker, refuses_as}
use Rattle.plan_documents.proofs.ListLemmas.{read_as}
use Rattle.plan_cli.specs.ListComparisons.{IsPlansView, TellsNoLists, TellsNoOld}
use Rattle.plan_cli.specs.Views.{view_of}
use Rattle.plan_cli.proofs.ListComparisonLemmas.{no_new_ids, no_old_list}
use Rattle.plan_cli.proofs.list_comparisons.list_comparison_of.Goals as goal

pub returns-in_err-check_ids-clause-refused : goal.returns-in_err-check_ids-clause-refused
returns-in_err-check_ids-clause-refused c =
    let a = c.args in
    let error = err_from_is_err_and c.from_residual.result c.from_residual.ensures.1 in
    rw (error.1, error.2) (no_new_ids a.subject a.old.now a.pair.a.now a.pair.b.now a.plan.now c.in_err-check_ids.field-0.0
    c.in_err-check_ids.ensures.refused)

pub returns-in_err-read-clause-refused : goal.returns-in_err-read-clause-refused
returns-in_err-read-clause-refused c =
    let a = c.args in
    let error = err_from_is_err_and c.from_residual-in_err-read.result c.from_residual-in_err-read.ensures.1 in
    rw (error.1, error.2) (no_old_list a.subject a.old.now a.pair.a.now a.pair.b.now a.plan.now c.in_err-read.field-0.0
    c.in_err-read.ensures.refused)

pub returns-clause-made : goal.returns-clause-made
returns-clause-made c =
    let a = c.args in
    let read = c.in_ok-read.read in
    read_as (λ k s text view. IsOfSubject s (IsPlansView a.pair.a.now a.pair.b.now a.plan.now) text (view_of view)) a.subject a.old.now read.kind read.subject
    (text_of read.made a.old.now) c.text.result.now c.compared_text.result c.in_ok-read.ensures.read c.text.ensures c.compared_text.ensures.made

pub returns-clause-refused : goal.returns-clause-refused
returns-clause-refused c =
    let a = c.args in
    let read = c.in_ok-read.read in
    if_err_weaker c.compared_text.result (Refuses (TellsNoOld read.subject c.text.result.now a.pair.a.now a.pair.b.now a.plan.now))
    (Refuses (TellsNoLists a.subject a.old.now a.pair.a.now a.pair.b.now a.plan.now))
    (λ e refused. refuses_as (TellsNoOld read.subject c.text.result.now a.pair.a.now a.pair.b.now a.plan.now)
    (TellsNoLists a.subject a.old.now a.pair.a.now a.pair.b.now a.plan.now) e
    (λ line tells. inr (inr (
      read.kind,
      read.subject,
      text_of read.made a.old.now,
      c.in_ok-read.ensures.read,
      subst (λ (b : List ℕ). TellsNoOld read.subject b a.pair.a.now a.pair.b.now a.plan.now line) c.text.ensures tells,
    ))) refused) c.compared_text.ensures.refused
