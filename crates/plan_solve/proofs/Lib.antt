mod BoundLemmas
mod ProgressLemmas
mod PlanAnswerLemmas
