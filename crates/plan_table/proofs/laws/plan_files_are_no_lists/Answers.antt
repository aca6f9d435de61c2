use Rattle.plan_table.proofs.KindLemmas as lemmas
use Rattle.plan_table.proofs.laws.plan_files_are_no_lists.Goals as goal

pub returns : goal.returns
returns c = record {
  projects = lemmas.projects_are_no_lists;
  shops = lemmas.shops_are_no_lists;
  single = lemmas.kinds_are_single;
}
