use Rattle.sqlite.proofs.Callers.{memory_is_clean}
use Rattle.plan_store.proofs.TransactionLemmas.{mapped_if_ok}
use Rattle.plan_store.proofs.sql_book.SqlBook+MemStore.open_in_memory.Goals as goal

pub returns-clause-made : goal.returns-clause-made
returns-clause-made c = mapped_if_ok c.create_in.result c.map_err.result _ _ _ c.map_err.ensures.cases c.create_in.ensures.made (λ book made. made (memory_is_clean book.conn))
