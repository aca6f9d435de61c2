-- The profile of the word is there, or is made.
use Rattle.std.proofs.Common.{◌≡◌, ◌+◌, List, length, sym, ◌∙◌, ap, subst, Vec, Global, arith}
use Rattle.std.proofs.lemmas.List.{length-map, length_push}
use Rattle.plan_profile.specs.declared.profile.Profile.{Profile}
use Rattle.plan_sgs.specs.Instances.{problem_of}
use Rattle.plan_sgs.specs.Placement.{Holds}
use Rattle.plan_sgs.specs.ProjectWords.{placed_by}
use Rattle.plan_sgs.specs.ProjectTrees.{standing, word_of, AreProfiles}
use Rattle.plan_sgs.specs.declared.project_tree.Turn.{Turn}
use Rattle.plan_sgs.proofs.ProjectTurnLemmas.{facts_of, can_place, behind, held_here, profiles_more}
use Rattle.plan_sgs.proofs.project_tree.start_of.Goals as goal
use Rattle.plan_sgs.proofs.project_tree.start_of.Goals.{then-len-at+in_ok-made+in_ok-push, else-len-at}

pub profile_with-requires-clause-activity : goal.profile_with-requires-clause-activity
profile_with-requires-clause-activity c =
    let before = behind c.args.instance.now c.args.turns.now c.args.placed.now c.args.profiles.now.items
    c.requires.instance c.requires.word c.requires.placed c.requires.profiles
    (omega (arith, c.if-len-at.true, c.len.ensures, c.args.profiles.now.ok.0)) in
    before.last.activity

pub profile_with-requires-clause-partial : goal.profile_with-requires-clause-partial
profile_with-requires-clause-partial c =
    let facts = facts_of c.args.instance.now (word_of c.args.turns.now) c.args.placed.now c.requires.instance c.requires.word c.requires.placed in
    record { size = facts.size; ends = facts.ends }

pub profile_with-requires-clause-last : goal.profile_with-requires-clause-last
profile_with-requires-clause-last c =
    let before = behind c.args.instance.now c.args.turns.now c.args.placed.now c.args.profiles.now.items
    c.requires.instance c.requires.word c.requires.placed c.requires.profiles
    (omega (arith, c.if-len-at.true, c.len.ensures, c.args.profiles.now.ok.0)) in
    before.last.last

pub profile_with-requires-clause-holds : goal.profile_with-requires-clause-holds
profile_with-requires-clause-holds c =
    let before = behind c.args.instance.now c.args.turns.now c.args.placed.now c.args.profiles.now.items
    c.requires.instance c.requires.word c.requires.placed c.requires.profiles
    (omega (arith, c.if-len-at.true, c.len.ensures, c.args.profiles.now.ok.0)) in
    before.held c.index.result.now c.index.ensures

pub earliest_start-requires-clause-activity : goal.earliest_start-requires-clause-activity
earliest_start-requires-clause-activity c =
    let facts = facts_of c.args.instance.now (word_of c.args.turns.now) c.args.placed.now c.requires.instance c.requires.word c.requires.placed in
    (can_place (standing c.args.instance.now (word_of c.args.turns.now)) c.args.placed.now c.args.activity facts c.requires.letter).activity

pub earliest_start-requires-clause-partial : goal.earliest_start-requires-clause-partial
earliest_start-requires-clause-partial c =
    let facts = facts_of c.args.instance.now (word_of c.args.turns.now) c.args.placed.now c.requires.instance c.requires.word c.requires.placed in
    record { size = facts.size; ends = facts.ends }

pub earliest_start-requires-clause-holds : goal.earliest_start-requires-clause-holds
earliest_start-requires-clause-holds c =
    let are : AreProfiles c.args.instance.now (word_of c.args.turns.now) c.if-len-at.profiles.items =
    elim c.if-len-at.branch [
      | then-len-at+in_ok-made+in_ok-push w ↦
          let held : Holds w.in_ok-made.made (problem_of c.args.instance.now) (placed_by c.args.instance.now (word_of c.args.turns.now)) =
          subst (Holds w.in_ok-made.made (problem_of c.args.instance.now)) c.requires.placed w.in_ok-made.ensures in
          profiles_more c.args.instance.now (word_of c.args.turns.now) c.args.profiles.now.items c.if-len-at.profiles.items w.in_ok-made.made c.requires.profiles
          (omega (
            arith,
            w.if-len-at.true,
            c.len.ensures,
            c.args.profiles.now.ok.0,
            length-map
                c.args.turns.now (λ (t : Turn). t.letter),
          )) held
          (ap (λ (v : Vec Profile Global). v.items) w.profiles-is ∙ w.in_ok-push.ensures.items)
      | else-len-at w ↦ subst (λ (v : Vec Profile Global). AreProfiles c.args.instance.now (word_of c.args.turns.now) v.items) (sym w.profiles-is) c.requires.profiles
    ] in
    let made : length c.if-len-at.profiles.items ≡ length c.args.turns.now + 1 =
    elim c.if-len-at.branch [
      | then-len-at+in_ok-made+in_ok-push w ↦
          omega (
            arith,
            ap (λ (v : Vec Profile Global). length v.items) w.profiles-is,
            ap
                (λ (xs : List Profile). length xs) w.in_ok-push.ensures.items,
            length_push
                c.args.profiles.now.items w.in_ok-made.made,
            w.if-len-at.true,
            c.len.ensures,
            c.args.profiles.now.ok.0,
          )
      | else-len-at w ↦
          omega (
            arith,
            ap (λ (v : Vec Profile Global). length v.items) w.profiles-is,
            w.if-len-at.false,
            c.len.ensures,
            c.args.profiles.now.ok.0,
            c.requires.profiles.enough,
            c.requires.profiles.most,
            length-map c.args.turns.now (λ (t : Turn). t.letter),
          )
    ] in
    subst (Holds c.index-2.result.now (problem_of c.args.instance.now)) (sym c.requires.placed)
    (held_here c.args.instance.now (word_of c.args.turns.now)
    (length c.args.turns.now) c.if-len-at.profiles.items c.index-2.result.now are
    (sym (length-map c.args.turns.now (λ (t : Turn). t.letter))) (omega (arith, made)) c.index-2.ensures)

pub returns-clause-profiles : goal.returns-clause-profiles
returns-clause-profiles c =
    let are : AreProfiles c.args.instance.now (word_of c.args.turns.now) c.if-len-at.profiles.items =
    elim c.if-len-at.branch [
      | then-len-at+in_ok-made+in_ok-push w ↦
          let held : Holds w.in_ok-made.made (problem_of c.args.instance.now) (placed_by c.args.instance.now (word_of c.args.turns.now)) =
          subst (Holds w.in_ok-made.made (problem_of c.args.instance.now)) c.requires.placed w.in_ok-made.ensures in
          profiles_more c.args.instance.now (word_of c.args.turns.now) c.args.profiles.now.items c.if-len-at.profiles.items w.in_ok-made.made c.requires.profiles
          (omega (
            arith,
            w.if-len-at.true,
            c.len.ensures,
            c.args.profiles.now.ok.0,
            length-map
                c.args.turns.now (λ (t : Turn). t.letter),
          )) held
          (ap (λ (v : Vec Profile Global). v.items) w.profiles-is ∙ w.in_ok-push.ensures.items)
      | else-len-at w ↦ subst (λ (v : Vec Profile Global). AreProfiles c.args.instance.now (word_of c.args.turns.now) v.items) (sym w.profiles-is) c.requires.profiles
    ] in
    are

pub returns-clause-made : goal.returns-clause-made
returns-clause-made c =
    let made : length c.if-len-at.profiles.items ≡ length c.args.turns.now + 1 =
    elim c.if-len-at.branch [
      | then-len-at+in_ok-made+in_ok-push w ↦
          omega (
            arith,
            ap (λ (v : Vec Profile Global). length v.items) w.profiles-is,
            ap
                (λ (xs : List Profile). length xs) w.in_ok-push.ensures.items,
            length_push
                c.args.profiles.now.items w.in_ok-made.made,
            w.if-len-at.true,
            c.len.ensures,
            c.args.profiles.now.ok.0,
          )
      | else-len-at w ↦
          omega (
            arith,
            ap (λ (v : Vec Profile Global). length v.items) w.profiles-is,
            w.if-len-at.false,
            c.len.ensures,
            c.args.profiles.now.ok.0,
            c.requires.profiles.enough,
            c.requires.profiles.most,
            length-map c.args.turns.now (λ (t : Turn). t.letter),
          )
    ] in
    made
