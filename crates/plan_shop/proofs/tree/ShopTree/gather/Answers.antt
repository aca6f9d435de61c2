use Rattle.std.proofs.Common.{◌≡◌, ◌+◌, ◌-◌, ◌*◌, ◌<◌, ◌≤◌, ◌∙◌, ℕ, List, suc, ap, sym, subst, get_or, min, max, arith}
use Rattle.std.specs.Prelude.{nat_eq}
use Rattle.std.proofs.lemmas.Bool.{cond-true, cond-false, eq-eqb, ne_eqb}
use Rattle.plan_shop.specs.Shop.{JobShop}
use Rattle.plan_shop.specs.declared.tree.bound.Pending.{Pending}
use Rattle.plan_shop.specs.Words.{Placed, steps_done, machine_free, raised}
use Rattle.plan_shop.specs.Bound.{head_of, tail_of}
use Rattle.plan_shop.specs.Trees.{Standing, placed, OnMachine, on_machine, IsGathered}
use Rattle.plan_shop.proofs.HeldLemmas.{held, done-read, end-read}
use Rattle.plan_shop.proofs.PendingLemmas.{end_at, at-read, at-open, at-head, at-end, head_of-is, tail_of-short, gathered-placed, gathered-at_once, gathered-more, IsWithStep, IsReplaced}
use Rattle.plan_shop.proofs.tree.ShopTree.gather.Goals as goal
use Rattle.plan_shop.proofs.tree.ShopTree.gather.Goals.{then-step-gt0, else-step-gt0}

pub loop-place-init : goal.loop-place-init
loop-place-init c =
    let h = held _ _ _ _ _ _ _ _ c.self.view_is c.self.invariant.kept in
    let done = done-read _ _ _ _ _ _ h c.args.job c.index-place.result.now c.requires.job c.index-place.ensures in
    let end = end-read _ _ _ _ _ _ h c.args.job c.index-end.result.now c.requires.job c.index-end.ensures in
    let none : 0 ≡ c.index-place.result.now - steps_done (placed c.args.self.now) c.args.job = omega (arith, done) in
    record {
      since = omega (arith, done);
      ended = end ∙ ap (λ (k : ℕ). end_at c.args.self.now.shop (placed c.args.self.now) c.args.job k) none;
      early = omega (arith, end, h.within.ends c.args.job);
      gathered = gathered-placed c.args.self.now c.args.job c.index-place.result.now c.args.pending.now c.requires.before (omega (arith, done)) (omega (arith, done, h.within.done c.args.job));
    }

pub overflow_add-end : goal.overflow_add-end
overflow_add-end c =
    let h = held _ _ _ _ _ _ _ _ c.self.view_is c.self.invariant.kept in
    let machines = ap (λ (v : Standing). v.shop.machines) c.self.view_is in
    let at = at-read c.self.inside.shop.now _ c.args.self.now c.self.view_is c.machines-machines.ensures.shop
    c.args.job c.loop-place.place c.machines-machines.result c.step-step.result c.requires.job
    c.loop-place-test.true c.machines-machines.ensures.value c.step-step.ensures.value in
    let m : ℕ = c.step-step.result.machine in
    let free : get_or c.as_slice-free.result.now m 0 ≡ machine_free c.args.self.now.shop
    (placed c.args.self.now) m = ap (λ (ys : List ℕ). get_or ys m 0) c.as_slice-free.ensures.value
    ∙ h.kept.free_is m at.on in
    let place : c.loop-place.place < c.args.self.now.shop.machines = omega (arith, machines, c.machines-machines.ensures.value, c.loop-place-test.true) in
    let within : c.max-head.result ≤ 20000000 = omega (arith, c.max-head.ensures, free, h.within.frees m, c.loop-place.invariant.early, place, h.small.few_machines) in
    omega (arith, within, at.short)

pub loop-place-preserved : goal.loop-place-preserved
loop-place-preserved c =
    let h = held _ _ _ _ _ _ _ _ c.self.view_is c.self.invariant.kept in
    let machines = ap (λ (v : Standing). v.shop.machines) c.self.view_is in
    let at = at-read c.self.inside.shop.now _ c.args.self.now c.self.view_is c.machines-machines.ensures.shop
    c.args.job c.loop-place.place c.machines-machines.result c.step-step.result c.requires.job
    c.loop-place-test.true c.machines-machines.ensures.value c.step-step.ensures.value in
    let s : JobShop = c.args.self.now.shop in
    let xs : List Placed = placed c.args.self.now in
    let m : ℕ = c.step-step.result.machine in
    let time : ℕ = c.step-step.result.time in
    let free : get_or c.as_slice-free.result.now m 0 ≡ machine_free s xs m = ap (λ (ys : List ℕ). get_or ys m 0) c.as_slice-free.ensures.value ∙ h.kept.free_is m at.on in
    let since = c.loop-place.invariant.since in
    let early = c.loop-place.invariant.early in
    let place : c.loop-place.place < s.machines = omega (arith, machines, c.machines-machines.ensures.value, c.loop-place-test.true) in
    let y : ℕ = c.args.job * c.machines-machines.result + c.loop-place.place in
    let x : ℕ = c.args.job * s.machines + c.loop-place.place in
    let number : y ≡ x = ap (λ (n : ℕ). c.args.job * n + c.loop-place.place) (c.machines-machines.ensures.value ∙ machines) in
    let next : suc x ≡ c.args.job * s.machines + (c.loop-place.place + 1) = omega arith in
    let open_ = at-open c.args.self.now c.args.job c.loop-place.place place since in
    let past : (c.if-step-gt0.end ≡ end_at s xs c.args.job
    (c.loop-place.place + 1 - steps_done xs c.args.job))
    × (c.if-step-gt0.end ≤ 10000000 + (c.loop-place.place + 1 - steps_done xs c.args.job) * 10000)
    × IsGathered c.args.self.now (suc x) c.if-step-gt0.pending = elim c.if-step-gt0.branch [
      | then-step-gt0 w ↦
          let raises : w.max-head.result ≡ raised time c.loop-place.end (machine_free s xs m) = w.max-head.ensures ∙ ap (λ (n : ℕ). max c.loop-place.end n) free
          ∙ sym (cond-false (nat_eq time 0) c.loop-place.end (max c.loop-place.end (machine_free s xs m)) (ne_eqb time 0 (λ e. omega (arith, e, w.if-step-gt0.true)))) in
          let head = at-head c.args.self.now c.args.job c.loop-place.place w.max-head.result c.loop-place.end c.step-step.result at since c.loop-place.invariant.ended raises in
          let head_is : w.max-head.result ≡ head_of s xs x = head ∙ sym (head_of-is s xs c.args.job c.loop-place.place place) in
          let within : w.max-head.result ≤ 20000000 = omega (arith, w.max-head.ensures, free, h.within.frees m, early, place, h.small.few_machines) in
          let tail : get_or c.as_slice-tails.result.now y 0 ≡ tail_of s x =
          ap (λ (ys : List ℕ). get_or ys y 0) c.as_slice-tails.ensures.value
          ∙ h.tails_are.each y (omega (arith, at.inside, number)) ∙ ap (tail_of s) number in
          let p : OnMachine = on_machine c.loop-place.pending m in
          let q : OnMachine = record { head = w.min.result; times = p.times + time; tail = w.min-then-step-gt0.result } in
          let step : IsWithStep c.args.self.now x p q = record {
            lasts = omega (arith, w.if-step-gt0.true, at.time);
            early = omega (arith, head_is, within);
            tail_early = omega (arith, tail_of-short s h.small x);
            head = w.min.ensures ∙ ap (λ (n : ℕ). min p.head n) head_is;
            times = ap (λ (n : ℕ). p.times + n) at.time;
            tail = w.min-then-step-gt0.ensures ∙ ap (λ (n : ℕ). min p.tail n) tail;
          } in
          let replaced : IsReplaced c.loop-place.pending c.if-step-gt0.pending m q =
          record {
            heads = ap (λ (v : Pending). v.heads) w.pending-is;
            times =
                ap (λ (v : Pending). v.times) w.pending-is;
            tails =
                ap (λ (v : Pending). v.tails) w.pending-is;
          } in (
            w.end-is ∙ at-end c.args.self.now c.args.job c.loop-place.place w.max-head.result c.step-step.result at since head,
            omega (arith, w.end-is, w.max-head.ensures, free, h.within.frees m, early, since, at.short),
            gathered-more c.args.self.now x c.loop-place.pending c.if-step-gt0.pending h.small c.loop-place.invariant.gathered open_ m at.on at.machine q step replaced,
          )
      | else-step-gt0 w ↦
          let none : time ≡ 0 = omega (arith, w.if-step-gt0.false) in
          let stays : c.loop-place.end ≡ raised time c.loop-place.end (machine_free s xs m) =
          sym (cond-true (nat_eq time 0) c.loop-place.end (max c.loop-place.end (machine_free s xs m))
          (eq-eqb time 0 none)) in
          let head = at-head c.args.self.now c.args.job c.loop-place.place c.loop-place.end c.loop-place.end c.step-step.result at since c.loop-place.invariant.ended stays in
          let Q : Pending → Type 0 = λ ps. IsGathered c.args.self.now (suc x) ps in (
            omega (arith, w.end-is, none, at-end c.args.self.now c.args.job c.loop-place.place c.loop-place.end c.step-step.result at since head),
            omega (arith, w.end-is, early, since),
            subst Q (sym w.pending-is) (gathered-at_once c.args.self.now x c.loop-place.pending c.loop-place.invariant.gathered (omega (arith, none, at.time))),
          )
    ] in
    let R : ℕ → Type 0 = λ n. IsGathered c.args.self.now n c.if-step-gt0.pending in
    record {
      since = omega (arith, since);
      ended = past.0;
      early = past.1;
      gathered = subst R next past.2;
    }

pub returns : goal.returns
returns c =
    let h = held _ _ _ _ _ _ _ _ c.self.view_is c.self.invariant.kept in
    let machines = ap (λ (v : Standing). v.shop.machines) c.self.view_is in
    let done = done-read _ _ _ _ _ _ h c.args.job c.index-place.result.now c.requires.job c.index-place.ensures in
    let most = h.within.done c.args.job in
    let last = c.loop-place.auto.place-end (omega (arith, done, most, machines, c.machines-machines.ensures.value)) in
    let all : c.args.job * c.args.self.now.shop.machines + c.loop-place.place ≡ suc c.args.job *
    c.args.self.now.shop.machines = omega (
      arith,
      last,
      machines,
      c.machines-machines.ensures.value,
      c.loop-place-test.false,
    ) in
    let Q : ℕ → Type 0 = λ n. IsGathered c.args.self.now n c.loop-place.pending in
    subst Q all c.loop-place.invariant.gathered
