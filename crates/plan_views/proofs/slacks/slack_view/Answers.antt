use Rattle.std.proofs.Common.{ℕ, List, ◌∙◌, ap, subst}
use Rattle.plan_net.specs.Network.{Net}
use Rattle.plan_report.specs.SlackText.{IsChainAnswer}
use Rattle.plan_formats.specs.TableLines.{chain_of}
use Rattle.plan_formats.specs.Tables.{table_of}
use Rattle.plan_views.specs.SlackTables.{slack_view_of}
use Rattle.plan_views.proofs.ReportLemmas.{answer_of, slack_text}
use Rattle.plan_views.proofs.slacks.slack_view.Goals as goal

pub returns-clause-value : goal.returns-clause-value
returns-clause-value c =
    let i = c.args.instance.now in
    let s = c.args.starts.now in
    let o = c.in_ok-chain.chain in
    record {
      slacks = c.in_ok-slacks.slacks.items;
      are = c.in_ok-slacks.ensures.slacks;
      chain = chain_of o;
      answer = subst (λ (xs : List ℕ). IsChainAnswer i s xs (chain_of o)) c.deref.ensures.value (answer_of i s c.deref.result.now o c.in_ok-chain.ensures.chain c.in_ok-chain.ensures.none);
      shown = c.in_ok-table.ensures
          ∙ ap (λ (net : Net). slack_view_of net s c.deref-2.result.now (chain_of o)) c.network.ensures.network
          ∙ ap (λ (xs : List ℕ). slack_view_of i.project.network s xs (chain_of o)) c.deref-2.ensures.value;
    }

pub returns-clause-text : goal.returns-clause-text
returns-clause-text c = slack_text c.args.instance.now c.args.starts.now (table_of c.in_ok-table.table) (returns-clause-value c)
