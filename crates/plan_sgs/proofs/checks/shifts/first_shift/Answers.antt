use Rattle.std.proofs.Common.{◌≡◌, ◌+◌, ◌-◌, inl, inr, ◌∙◌, ap, rules, arith}
use Rattle.std.specs.Bool.{IsTrue}
use Rattle.std.proofs.lemmas.Bool.{cases_lt}
use Rattle.plan_net.specs.Network.{count_of}
use Rattle.plan_sgs.specs.Instances.{problem_of}
use Rattle.plan_sgs.proofs.InstanceLemmas.{count-problem}
use Rattle.plan_sgs.proofs.checks.shifts.first_shift.Goals as goal

pub profile_of-requires-clause-whole : goal.profile_of-requires-clause-whole
profile_of-requires-clause-whole c = c.requires.feasible.each_started ∙ count-problem c.args.instance.now

pub returns-then-can_shift : goal.returns-then-can_shift
returns-then-can_shift c =
    let p = problem_of c.args.instance.now in
    let s = c.args.starts.now in
    let k = c.loop-k.k in
    let yes : IsTrue c.can_shift.result = search (rules, c.if-can_shift.true) in
    let same : k + 1 - 1 ≡ k = omega arith in (
      omega arith,
      record {
        feasible = c.requires.feasible;
        shift = c.can_shift.ensures.0 yes;
        first = λ h has. elim (cases_lt h k) [
          | inl before ↦ absurd (c.loop-k.invariant h before has)
          | inr after ↦ omega (arith, after, same)
        ];
      },
    )

pub returns : goal.returns
returns c =
    let i = c.args.instance.now in
    let counted = ap count_of c.network.ensures.network in
    record {
      feasible = c.requires.feasible;
      no_shift = λ other j inside shift feasible.
          c.loop-k.invariant j (omega (
            arith,
            inside,
            c.loop-k-test.false,
            c.len-k-end.ensures.count,
            counted,
            count-problem i,
          )) (record {
            other = other;
            inside = inside;
            shift = shift;
            feasible =
                feasible;
          });
    }
