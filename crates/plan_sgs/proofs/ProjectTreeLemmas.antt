-- The data of the tree of a project, as its turns read and write them.
use Rattle.std.proofs.Common.{ℕ, suc, max, ◌≡◌, ◌+◌, ◌-◌, ◌*◌, ◌≤◌, ◌<◌, List, get_or, take, sum, Some, refl, sym, ◌∙◌, ap, arith}
use Rattle.std.specs.List.{slice_get}
use Rattle.std.proofs.lemmas.List.{take_all}
use Rattle.std.proofs.lemmas.Nat.{mul-le}
use Rattle.plan_net.specs.Network.{Net, Net, count_of, IsActivity, duration_of}
use Rattle.plan_net.specs.Limits.{IsSound}
use Rattle.plan_psplib.specs.Project.{AreAmounts}
use Rattle.plan_cpm.specs.Lengths.{AreTails}
use Rattle.plan_cpm.proofs.BoundLemmas.{path_bound}
use Rattle.plan_sgs.specs.Problem.{duration, need, total, greatest_below}
use Rattle.plan_sgs.specs.Instances.{Planned, IsInstance, problem_of}
use Rattle.plan_sgs.specs.PathTails.{tail_of}
use Rattle.plan_sgs.specs.ProjectLaws.{TailsAreGreatest}
use Rattle.plan_sgs.proofs.InstanceLemmas.{duration-problem, need-problem}
use Rattle.plan_sgs.proofs.SumLemmas.{amounts_small}
use Rattle.plan_sgs.proofs.PathTailLemmas.{tails_are_greatest}

-- the greatest of one number more
pub greatest_next : (n : ℕ) (f : ℕ → ℕ) → greatest_below (n + 1) f ≡ max (greatest_below n f) (f n)
greatest_next n f = let next : n + 1 ≡ suc n = omega arith in ap (λ (k : ℕ). greatest_below k f) next

-- a sum over one number more
pub total_push : (n : ℕ) (f : ℕ → ℕ) → total (n + 1) f ≡ total n f + f n
total_push n f = let next : n + 1 ≡ suc n = omega arith in ap (λ (k : ℕ). total k f) next

-- the tails in a list are those of the definition
pub tail_read : (net : Net) (tails : List ℕ) (h : ℕ) → IsSound net → AreTails net tails → h < count_of net → get_or tails h 0 ≡ tail_of net (suc h)
unfolding TailsAreGreatest
tail_read net tails h sound are inside =
    let place : suc h - 1 ≡ h = omega arith in
    let read = are.greatest (suc h) (omega arith, omega (arith, inside)) in
    let defined = tails_are_greatest net (suc h) sound (omega arith, omega (arith, inside)) in
    let low = read.1 (tail_of net (suc h)) defined.0 in
    let high = defined.1 (get_or tails (suc h - 1) 0) read.0 in
    omega (arith, low, high, ap (λ (x : ℕ). get_or tails x 0) place)

-- and all are bounded
pub tail_short : (net : Net) (j : ℕ) → IsSound net → IsActivity net j → tail_of net j ≤ 6010000
unfolding TailsAreGreatest
tail_short net j sound activity =
    let path = (tails_are_greatest net j sound activity).0 in
    let most = path_bound net j path.0 sound path.1 in
    let size = sound.limits.size in
    let whole : take (count_of net) net.durations ≡ net.durations = take_all (count_of net) net.durations (omega arith) in
    let limit : sum (take (count_of net) net.durations) ≤ 1000000 = (sound.limits.durations (count_of net) (omega (arith, size.0), omega arith)).1 in
    omega (arith, path.2, most, size.1, limit, ap sum whole)

-- the work of one activity more, and how small it is
pub work_more : (i : Planned) (k h d : ℕ) (row : List ℕ) → IsInstance i → h < count_of i.project.network → d ≡ duration_of i.project.network (h + 1) → slice_get i.project.needs (h + 1 - 1) ≡ Some row
    → d * get_or row k 0 ≡ duration (problem_of i) h * need (problem_of i) h k
work_more i k h d row instance inside lasts here =
    let same : d ≡ duration (problem_of i) h = lasts ∙ sym (duration-problem i h (h + 1) refl) in
    let needs : need (problem_of i) h k ≡ get_or row k 0 = need-problem i h (h + 1) row refl here k in
    ap (λ (x : ℕ). x * get_or row k 0) same ∙ ap (λ (x : ℕ). duration (problem_of i) h * x) (sym needs)

pub work_small : (n k d : ℕ) (row : List ℕ) → d ≤ 10000 → AreAmounts n row → d * get_or row k 0 ≤ 100000000
work_small n k d row short amounts =
    let most : d * get_or row k 0 ≤ 10000 * 10000 = mul-le d (get_or row k 0) 10000 10000 short (amounts_small row amounts.1 k) in
    omega (arith, most)
