pub mod NameLemmas
mod PlanLemmas
mod ViewLemmas
