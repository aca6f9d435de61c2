-- Runs of connections, by the rows only (docs/definitions.md, "Connections").
use Rattle.std.specs.Prelude.{◌≡◌, List, [], ◌∷◌}
use Rattle.plan_rows.specs.World.{Text, World}
use Rattle.plan_desk.specs.Decisions.{IsRealStep}
use Rattle.plan_http.specs.Answers.{Decision, answered, failed, starved, IsOn}

-- the change of the rows by a decision: a handled request makes a real step, else nothing changes
abbrev pub IsMove : World → Decision → World → Type 0
IsMove w (answered request reply) after = IsRealStep w request reply after
IsMove w (failed check allow is_head) after = after ≡ w
IsMove w starved after = after ≡ w

-- connections are served one after another, each by one decision, and these are the rows after them
abbrev pub AreServed : World → List Text → List Decision → World → Type 0
AreServed w [] [] after = after ≡ w
AreServed w (bytes ∷ conns) (d ∷ decisions) after =
    (mid : World) × IsOn bytes d × IsMove w d mid × AreServed mid conns decisions after
AreServed w conns decisions after = ⊥
