use Rattle.std.proofs.Common.{◌+◌, ◌≤◌, ◌<◌, length, refl, sym, subst, ◌∙◌}
use Rattle.std.specs.Prelude.{Contains}
use Rattle.std.proofs.Math.Seq.{take-length}
use Rattle.plan_desk.specs.KeptFiles.{bytes_of, files_of, stored_by}
use Rattle.plan_desk.proofs.KeptLemmas.{not_taken, put_are_kept, put_adds}
use Rattle.plan_desk.proofs.files.Files.keep.Goals as goal

pub returns-then-bytes-gt-MOST_BYTES-clause-unkept : goal.returns-then-bytes-gt-MOST_BYTES-clause-unkept
returns-then-bytes-gt-MOST_BYTES-clause-unkept c = (refl, (length c.args.self.now, sym (take-length c.args.self.now)))

pub invariant_of-self : goal.invariant_of-self
invariant_of-self c =
    let first = c.make_room.ensures.dropped in
    let new : Contains (files_of c.self.inside.kept.entries) (stored_by c.args.key) → ⊥ = λ there. not_taken first.0 c.args.self.now (stored_by c.args.key) c.requires.new
    (subst (λ fs. Contains fs (stored_by c.args.key)) (c.self.view_is ∙ first.1) there) in
    let few = subst (λ fs. length fs < 1024) (sym c.self.view_is) c.make_room.ensures.files in
    let fits = subst (λ fs. bytes_of fs + length c.args.key.body.items ≤ 786432) (sym c.self.view_is)
    (subst (λ n. bytes_of c.make_room.new.self + n ≤ 786432) c.len-bytes.ensures c.make_room.ensures.bytes) in
    rw (c.in-Ok.ensures.entries, c.len-bytes.ensures)
    (put_are_kept c.self.inside.kept c.self.inside.bytes c.self.invariant c.args.key c.args.document new few fits c.requires.read)

pub returns-in-Ok-clause-kept : goal.returns-in-Ok-clause-kept
returns-in-Ok-clause-kept c =
    let first = c.make_room.ensures.dropped in
    let new : Contains (files_of c.self.inside.kept.entries) (stored_by c.args.key) → ⊥ = λ there. not_taken first.0 c.args.self.now (stored_by c.args.key) c.requires.new
    (subst (λ fs. Contains fs (stored_by c.args.key)) (c.self.view_is ∙ first.1) there) in
    let few = subst (λ fs. length fs < 1024) (sym c.self.view_is) c.make_room.ensures.files in
    rw c.in-Ok.ensures.entries
    (put_adds c.self.inside.kept c.self.inside.bytes c.self.invariant c.args.key c.args.document new few c.args.self.now first.0 c.requires.new (c.self.view_is ∙ first.1))
