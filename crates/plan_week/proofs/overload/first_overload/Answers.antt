use Rattle.std.proofs.Common.{◌≡◌, ◌⊎◌, ℕ, Option, inl, inr, subst}
use Rattle.plan_week.specs.declared.overload.Overload.{Overload}
use Rattle.plan_week.specs.Overloads.{IsSettled, IsLeaving, BeginsAt, IsFoundOf}
use Rattle.plan_week.proofs.OverloadLemmas.{found_any, found_some, found_none}
use Rattle.plan_week.proofs.overload.first_overload.Goals as goal

pub returns-clause-some : goal.returns-clause-some
returns-clause-some c =
    let week = c.args.week.now in
    let settled : IsFoundOf week (λ t. IsSettled week t ⊎ IsLeaving week t) c.earlier-settled.result =
    found_any week (IsSettled week) (IsLeaving week) (λ t. IsSettled week t ⊎ IsLeaving week t) c.first_at_starts.result c.first_at_absences.result
    c.earlier-settled.result c.first_at_starts.ensures c.first_at_absences.ensures c.earlier-settled.ensures (λ t either. either) in
    found_some week c.earlier-found.result
    (found_any week (λ t. t ≡ week.today) (λ t. IsSettled week t ⊎ IsLeaving week t) (BeginsAt week) c.overload_at.result c.earlier-settled.result
    c.earlier-found.result c.overload_at.ensures settled c.earlier-found.ensures (λ t either. either))

pub returns-clause-none : goal.returns-clause-none
returns-clause-none c =
    let week = c.args.week.now in
    let settled : IsFoundOf week (λ t. IsSettled week t ⊎ IsLeaving week t) c.earlier-settled.result =
    found_any week (IsSettled week) (IsLeaving week) (λ t. IsSettled week t ⊎ IsLeaving week t) c.first_at_starts.result c.first_at_absences.result
    c.earlier-settled.result c.first_at_starts.ensures c.first_at_absences.ensures c.earlier-settled.ensures (λ t either. either) in
    found_none week c.earlier-found.result
    (found_any week (λ t. t ≡ week.today) (λ t. IsSettled week t ⊎ IsLeaving week t) (BeginsAt week) c.overload_at.result c.earlier-settled.result
    c.earlier-found.result c.overload_at.ensures settled c.earlier-found.ensures (λ t either. either))
