use Rattle.std.proofs.Common.{◌≡◌, ◌-◌, length, take, sym, ◌∙◌, arith}
use Rattle.plan_desk.specs.KeptFiles.{files_of}
use Rattle.plan_desk.proofs.KeptLemmas.{evicted_are_kept, evicted_files, last_bytes, none_evicted}
use Rattle.plan_desk.proofs.files.Files.evict.Goals as goal
use Rattle.plan_desk.proofs.files.Files.evict.Goals.{in-Project-1, in-Shop-1}

pub overflow_sub-self : goal.overflow_sub-self
overflow_sub-self c =
    let bytes = last_bytes c.self.inside.kept.entries (c.in-Some.key, c.in-Some.field-0-1) (sym c.in-Some.ensures.value) in
    let total = c.self.invariant.bytes in
    let body = c.len.ensures in omega (arith, bytes, total, body)

pub invariant_of-self : goal.invariant_of-self
invariant_of-self c =
    rw (c.in-Some.ensures.entries, c.len.ensures)
    (evicted_are_kept c.self.inside.kept c.self.inside.bytes (c.in-Some.key, c.in-Some.field-0-1) c.self.invariant (sym c.in-Some.ensures.value))

pub invariant_of-self-in-Some-2 : goal.invariant_of-self-in-Some-2
invariant_of-self-in-Some-2 c =
    rw (c.in-Some.ensures.entries, c.len.ensures)
    (evicted_are_kept c.self.inside.kept c.self.inside.bytes (c.in-Some.key, c.in-Some.field-0-1) c.self.invariant (sym c.in-Some.ensures.value))

pub invariant_of-self-in_default : goal.invariant_of-self-in_default
invariant_of-self-in_default c =
    rw c.in_default.ensures.entries (none_evicted c.self.inside.kept c.self.inside.bytes c.self.invariant (sym c.in_default.ensures.value))

pub returns-in-Some : goal.returns-in-Some
returns-in-Some c =
    let here : files_of c.pop_lru.new.self.entries ≡ take (length c.args.self.now - 1) c.args.self.now =
    rw (← c.self.view_is) (rw c.in-Some.ensures.entries (evicted_files c.self.inside.kept.entries)) in
    elim c.match-pop_lru-2.branch [ in-Project-1 w ↦ w.self-is ∙ here | in-Shop-1 w ↦ w.self-is ∙ here ]

pub returns-in_default : goal.returns-in_default
returns-in_default c = rw (← c.self.view_is) (rw c.in_default.ensures.entries (evicted_files c.self.inside.kept.entries))
