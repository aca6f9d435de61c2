-- The bytes that were read from a client, one read after another.
use Rattle.std.proofs.Common.{◌≡◌, ℕ, ◌<◌, ◌≤◌, Bool, true, false, List, [], ◌++◌, length, take, Option, Some, Result, Ok, Err, IfOk, refl, sym, ap, ◌∙◌, subst, append_assoc, append-nil}
use Rattle.std.proofs.KnownBytes.{Consumes-nil, Consumes-trans}
use Rattle.std.specs.Io.KnownBytes.{Consumes}
use Rattle.plan_http.specs.Clients.{Known, Comes, Hears, OfBytes}
use Rattle.plan_http.specs.Pieces.{Reads, Fills}
use Rattle.plan_http.proofs.ReadingLemmas.{fills, consumed}
use borrow.Rule.Slice.PartMut.{put_mid}

some_same : (xs ys : List ℕ) → Some xs ≡ Some ys → xs ≡ ys
some_same xs ys same = cc

-- nothing was read
pub comes_none : (k : Known) → Comes k k []
comes_none k = record {
  grown = sym (append-nil k.heard);
  consumed = Consumes-nil k.left;
  shut = λ ended. (refl, ended);
  at_end = λ rest known before ended. known ∙ ap Some (before ended);
}

pub comes_then : (a b c : Known) (xs ys : List ℕ) → Comes a b xs → Comes b c ys → Comes a c (xs ++ ys)
comes_then a b c xs ys p q = record {
  grown = q.grown ∙ ap (λ heard. heard ++ ys) p.grown ∙ append_assoc a.heard xs ys;
  consumed = Consumes-trans a.left b.left c.left xs ys p.consumed q.consumed;
  shut = λ ended.
      let first = p.shut ended in
      let second = q.shut first.1 in
      (ap (λ zs. zs ++ ys) first.0 ∙ second.0, second.1);
  at_end = λ rest known before.
      let mid = consumed rest xs b.left (subst (λ left. Consumes left b.left xs) known p.consumed) in
      q.at_end mid.0 mid.1 (λ ended. some_same mid.0 [] (sym mid.1 ∙ p.at_end rest known before ended));
}

pub reads_none : {P : Option (List ℕ) → Option (List ℕ) → Type 0} (k : Known) → ((had : Option (List ℕ)) → P had had) → Reads k k P
reads_none k holds = record { came = []; comes = comes_none k; holds = λ more ends. holds (Some more) }

pub reads_map : {P Q : Option (List ℕ) → Option (List ℕ) → Type 0} (a b : Known) → Reads a b P
    → ((had left : Option (List ℕ)) → P had left → Q had left) → Reads a b Q
reads_map a b p step = record {
  came = p.came;
  comes = p.comes;
  holds = λ more ends. step (Some (p.came ++ more)) (Some more) (p.holds more ends);
}

pub reads_then : {P Q S : Option (List ℕ) → Option (List ℕ) → Type 0} (a b c : Known) → Reads a b P → Reads b c Q
    → ((had between left : Option (List ℕ)) → P had between → Q between left → S had left) → Reads a c S
reads_then {P} {Q} {S} a b c p q step = record {
  came = p.came ++ q.came;
  comes = comes_then a b c p.came q.came p.comes q.comes;
  holds = λ more ends.
      let shut : b.ended ≡ true → q.came ++ more ≡ [] = λ ended.
      let closed = q.comes.shut ended in ap (λ came. came ++ more) closed.0 ∙ ends closed.1 in
      subst (λ came. S (Some came) (Some more)) (sym (append_assoc p.came q.came more))
      (step (Some (p.came ++ (q.came ++ more))) (Some (q.came ++ more)) (Some more) (p.holds (q.came ++ more) shut) (q.holds more ends));
}

-- one read behind the first bytes of a buffer
pub reads_fill : {E : Type 0} (a b : Known) (old new : List ℕ) (filled k : ℕ) (r : Result ℕ E)
    → filled ≤ length old → 0 < length new → IfOk r (λ n. n ≤ length new) → Hears a b r new
    → Reads a b (λ had left. Fills old filled had (put_mid filled k old new) left r)
reads_fill {E = E} a b old new filled k (Err e) fits some bound h = record { came = []; comes = h; holds = λ more ends. tt }
reads_fill {E = E} a b old new filled k (Ok n) fits some bound h = record {
  came = take n new;
  comes = h.0;
  holds = λ more ends.
      fills {E = E} old new filled k (Some (take n new ++ more)) (Some more) (Ok n) fits some bound (refl, λ zero room. ends (h.1 zero room));
}

pub still_open : (ended : Bool) → ended ≡ false → ended ≡ true → ⊥
still_open ended is was = let no : true ≡ false = sym was ∙ is in absurd cc

-- the bytes that are left after some known bytes
pub rest_known : {old new : Known} {came : List ℕ} (bytes : List ℕ) → Comes old new came → old.left ≡ Some bytes → (old.ended ≡ true → ⊥)
    → (rest : List ℕ) × (bytes ≡ came ++ rest) × (new.ended ≡ true → rest ≡ [])
rest_known {old = old} {new = new} {came = came} bytes c known open_still =
    let left = consumed bytes came new.left (subst (λ left. Consumes left new.left came) known c.consumed) in
    (left.0, left.2, λ ended. some_same left.0 [] (sym left.1 ∙ c.at_end bytes known (λ was. absurd (open_still was)) ended))

-- the fact holds for known bytes
pub of_known : {P : List ℕ → Type 0} {old new : Known} (bytes : List ℕ) → OfBytes old new P → old.left ≡ Some bytes → (old.ended ≡ true → ⊥) → P bytes
of_known {P = P} bytes o known open_still =
    let r = rest_known bytes o.comes known open_still in subst P (sym r.1) (o.holds r.0 r.2)

pub reads_known : {P : Option (List ℕ) → Option (List ℕ) → Type 0} {old new : Known} (bytes : List ℕ) → Reads old new P → old.left ≡ Some bytes
    → (old.ended ≡ true → ⊥) → (left : Option (List ℕ)) × P (Some bytes) left
reads_known {P = P} bytes o known open_still =
    let r = rest_known bytes o.comes known open_still in (Some r.0, subst (λ all. P (Some all) (Some r.0)) (sym r.1) (o.holds r.0 r.2))

-- for a fresh client the fact holds for the bytes that were read, with any that may follow
pub of_heard : {P : List ℕ → Type 0} {old new : Known} → OfBytes old new P → old.heard ≡ [] → (more : List ℕ) → (new.ended ≡ true → more ≡ []) → P (new.heard ++ more)
of_heard {P = P} o none more ends =
    let all = o.comes.grown ∙ ap (λ heard. heard ++ o.came) none in subst (λ heard. P (heard ++ more)) (sym all) (o.holds more ends)

pub of_bytes_map : {P Q : List ℕ → Type 0} {old new : Known} → OfBytes old new P → ((bytes : List ℕ) → P bytes → Q bytes) → OfBytes old new Q
of_bytes_map o step = record { came = o.came; comes = o.comes; holds = λ more ends. step (o.came ++ more) (o.holds more ends) }

pub of_bytes : {P : List ℕ → Type 0} (old new : Known) → Reads old new (λ had _. (bytes : List ℕ) → had ≡ Some bytes → P bytes) → OfBytes old new P
of_bytes old new r = record { came = r.came; comes = r.comes; holds = λ more ends. r.holds more ends (r.came ++ more) refl }
