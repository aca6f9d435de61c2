-- The search in a table of routes finds exactly the rows whose tokens a path matches.
use Rattle.std.proofs.Common.{◌≡◌, ◌≢◌, ◌⊎◌, ℕ, zero, suc, ◌-◌, ◌<◌, ◌≤◌, ◌==◌, ◌&&◌, Bool, true, false, cond, List, [], ◌∷◌, ◌++◌, Option, Some, None, length}
use Rattle.std.proofs.Common.{drop, inl, inr, refl, sym, ap, ◌∙◌, subst, append-nil, arith}
use Rattle.std.proofs.lemmas.List.{length_push, length-append}
use Rattle.std.proofs.lemmas.Bool.{lt-ltb}
use Rattle.std.specs.Cmp.Lexicographic.{pointwise}
use Rattle.std.specs.Prelude.{ltb, nat_eq}
use Rattle.std.specs.List.{AllByRecursion, ends_with}
use Rattle.std.proofs.lemmas.Bool.{eqb-true, eq-eqb, both_ways, and_parts}
use Rattle.matchit.specs.Rows.{RowsOf}
use Rattle.matchit.specs.Seek.{segment, has_slash, same_text, cuts, better, own, step, or_else, longest_from, with_suffix, param_step, seek}

-- a Bool, and its value
pub by_bool : {P : Type 0} (b : Bool) → (b ≡ true → P) → (b ≡ false → P) → P
by_bool true hit miss = hit refl
by_bool false hit miss = miss refl

-- ---- lists, patterns and suffixes

same_head : (x y : ℕ) (t u : List ℕ) → x ∷ t ≡ y ∷ u → x ≡ y
same_head x y t u e = cc

same_tail : (x y : ℕ) (t u : List ℕ) → x ∷ t ≡ y ∷ u → t ≡ u
same_tail x y t u e = cc

-- a parameter is followed by a slash or by nothing
abbrev pub EndsSegment : List ℕ → Type 0
EndsSegment t = (t ≡ []) ⊎ ((q : List ℕ) × (t ≡ 47 ∷ q))

unfoldable pub Shaped : List ℕ → Type 0
Shaped [] = Unit {0}
Shaped (x ∷ t) = (x ≢ 257) × (x ≡ 256 → EndsSegment t) × Shaped t

-- none, or a slash that ends the segment behind some bytes
abbrev IsSuffix : List ℕ → List ℕ → Type 0
IsSuffix seg w = (w ≡ []) ⊎ ((w ≡ 47 ∷ []) × (cuts seg (47 ∷ []) ≡ true))

better_slash : (seg : List ℕ) → cuts seg (47 ∷ []) ≡ true → better seg [] (47 ∷ []) ≡ 47 ∷ []
better_slash seg e = ap (λ (c : Bool). cond c (47 ∷ []) []) e

better_none : (seg : List ℕ) → cuts seg (47 ∷ []) ≡ false → better seg [] (47 ∷ []) ≡ []
better_none seg e = ap (λ (c : Bool). cond c (47 ∷ []) []) e

-- ---- rows

module _ {K : Type 0} where
  unfoldable pub Has : RowsOf K → List ℕ → K → Type 0
  Has [] p k = ⊥
  Has ((t, key) ∷ rest) p k = ((t ≡ p) × (key ≡ k)) ⊎ Has rest p k

  same_key : (x y : K) → Path (Option K) (Some x) (Some y) → x ≡ y
  same_key x y e = cc

  own_has : (rs : RowsOf K) (k : K) → own rs ≡ Some k → Has rs [] k
  unfolding Has
  own_has [] k e = absurd (cc)
  own_has (([], key) ∷ rest) k e = inl (refl, same_key key k e)
  own_has ((x ∷ t, key) ∷ rest) k e = inr (own_has rest k e)

  has_own : (rs : RowsOf K) (k : K) → Has rs [] k → (j : K) × (own rs ≡ Some j)
  unfolding Has
  has_own [] k h = absurd h
  has_own (([], key) ∷ rest) k h = (key, refl)
  has_own ((x ∷ t, key) ∷ rest) k (inl (e, same)) = absurd (cc)
  has_own ((x ∷ t, key) ∷ rest) k (inr h) = has_own rest k h

  step_has : (b : ℕ) (rs : RowsOf K) (p : List ℕ) (k : K) → Has (step b rs) p k → Has rs (b ∷ p) k
  unfolding Has
  step_has b [] p k h = absurd h
  step_has b (([], key) ∷ rest) p k h = inr (step_has b rest p k h)
  step_has b ((x ∷ t, key) ∷ rest) p k h = by_bool (x == b)
      (λ e. elim (subst (λ (c : Bool). Has (cond c ((t, key) ∷ step b rest) (step b rest)) p k) e h) [
        | inl same ↦ inl (ap (λ y. y ∷ t) (eqb-true x b e) ∙ ap (λ u. b ∷ u) same.0, same.1)
        | inr more ↦ inr (step_has b rest p k more)
      ])
      (λ e. inr (step_has b rest p k (subst (λ (c : Bool). Has (cond c ((t, key) ∷ step b rest) (step b rest)) p k) e h)))

  has_step : (b : ℕ) (rs : RowsOf K) (p : List ℕ) (k : K) → Has rs (b ∷ p) k → Has (step b rs) p k
  unfolding Has
  has_step b [] p k h = absurd h
  has_step b (([], key) ∷ rest) p k (inl (e, same)) = absurd (cc)
  has_step b (([], key) ∷ rest) p k (inr h) = has_step b rest p k h
  has_step b ((x ∷ t, key) ∷ rest) p k (inl (e, same)) =
      subst (λ (c : Bool). Has (cond c ((t, key) ∷ step b rest) (step b rest)) p k) (sym (eq-eqb x b (same_head x b t p e)))
      (inl (same_tail x b t p e, same))
  has_step b ((x ∷ t, key) ∷ rest) p k (inr h) = by_bool (x == b)
      (λ e. subst (λ (c : Bool). Has (cond c ((t, key) ∷ step b rest) (step b rest)) p k) (sym e) (inr (has_step b rest p k h)))
      (λ e. subst (λ (c : Bool). Has (cond c ((t, key) ∷ step b rest) (step b rest)) p k) (sym e) (has_step b rest p k h))

  with_has : (w : List ℕ) (rs : RowsOf K) (p : List ℕ) (k : K) → Has (with_suffix w rs) p k → Has rs p k
  unfolding Has
  with_has w [] p k h = absurd h
  with_has w ((t, key) ∷ rest) p k h = by_bool (same_text (segment t) w)
      (λ e. elim (subst (λ (c : Bool). Has (cond c ((t, key) ∷ with_suffix w rest) (with_suffix w rest)) p k) e h) [
        | inl same ↦ inl same
        | inr more ↦ inr (with_has w rest p k more)
      ])
      (λ e. inr (with_has w rest p k (subst (λ (c : Bool). Has (cond c ((t, key) ∷ with_suffix w rest) (with_suffix w rest)) p k) e h)))

  -- rows that begin with a slash have that suffix
  has_with : (rs : RowsOf K) (q : List ℕ) (k : K) → Has rs (47 ∷ q) k → Has (with_suffix (47 ∷ []) rs) (47 ∷ q) k
  unfolding Has
  has_with [] q k h = absurd h
  has_with ((t, key) ∷ rest) q k (inl (e, same)) =
      subst (λ (c : Bool). Has (cond c ((t, key) ∷ with_suffix (47 ∷ []) rest) (with_suffix (47 ∷ []) rest)) (47 ∷ q) k)
      (sym (ap (λ (u : List ℕ). same_text (segment u) (47 ∷ [])) e)) (inl (e, same))
  has_with ((t, key) ∷ rest) q k (inr h) = by_bool (same_text (segment t) (47 ∷ []))
      (λ e. subst (λ (c : Bool). Has (cond c ((t, key) ∷ with_suffix (47 ∷ []) rest) (with_suffix (47 ∷ []) rest)) (47 ∷ q) k) (sym e) (inr (has_with rest q k h)))
      (λ e. subst (λ (c : Bool). Has (cond c ((t, key) ∷ with_suffix (47 ∷ []) rest) (with_suffix (47 ∷ []) rest)) (47 ∷ q) k) (sym e) (has_with rest q k h))

  -- ---- good rows: a parameter ends its segment, and there is no catch-all

  abbrev pub Good : RowsOf K → Type 0
  Good rs = (p : List ℕ) (k : K) → Has rs p k → Shaped p

  abbrev Follows : RowsOf K → Type 0
  Follows rs = (p : List ℕ) (k : K) → Has rs p k → EndsSegment p

  good_step : (b : ℕ) (rs : RowsOf K) → Good rs → Good (step b rs)
  unfolding Shaped
  good_step b rs good p k h = (good (b ∷ p) k (step_has b rs p k h)).2

  good_with : (w : List ℕ) (rs : RowsOf K) → Good rs → Good (with_suffix w rs)
  good_with w rs good p k h = good p k (with_has w rs p k h)

  follows_param : (rs : RowsOf K) → Good rs → Follows (step 256 rs)
  unfolding Shaped
  follows_param rs good p k h = (good (256 ∷ p) k (step_has 256 rs p k h)).1 refl

  -- ---- the suffix behind a parameter

  stays : (seg : List ℕ) (rs : RowsOf K) → Follows rs → longest_from seg (47 ∷ []) rs ≡ 47 ∷ []
  unfolding Has
  stays seg [] follows = refl
  stays seg ((t, key) ∷ rest) follows =
      ap (λ (w : List ℕ). longest_from seg w rest) (elim (follows t key (inl (refl, refl))) [
        | inl none ↦ ap (λ (u : List ℕ). better seg (47 ∷ []) (segment u)) none
        | inr some ↦ ap (λ (u : List ℕ). better seg (47 ∷ []) (segment u)) some.1
      ]) ∙ stays seg rest (λ p k h. follows p k (inr h))

  suffix_is : (seg : List ℕ) (rs : RowsOf K) → Follows rs → IsSuffix seg (longest_from seg [] rs)
  unfolding Has
  suffix_is seg [] follows = inl refl
  suffix_is seg ((t, key) ∷ rest) follows = elim (follows t key (inl (refl, refl))) [
    | inl none ↦ subst (λ (u : List ℕ). IsSuffix seg (longest_from seg (better seg [] (segment u)) rest)) (sym none) (suffix_is seg rest (λ p k h. follows p k (inr h)))
    | inr some ↦ subst (λ (u : List ℕ). IsSuffix seg (longest_from seg (better seg [] (segment u)) rest)) (sym some.1)
        (by_bool (cuts seg (47 ∷ []))
        (λ e. subst (λ (w : List ℕ). IsSuffix seg (longest_from seg w rest)) (sym (better_slash seg e)) (inr (stays seg rest (λ p k h. follows p k (inr h)), e)))
        (λ e. subst (λ (w : List ℕ). IsSuffix seg (longest_from seg w rest)) (sym (better_none seg e)) (suffix_is seg rest (λ p k h. follows p k (inr h)))))
  ]

  suffix_found : (seg : List ℕ) (rs : RowsOf K) (q : List ℕ) (k : K) → Follows rs → Has rs (47 ∷ q) k → cuts seg (47 ∷ []) ≡ true
      → longest_from seg [] rs ≡ 47 ∷ []
  unfolding Has
  suffix_found seg [] q k follows h e = absurd h
  suffix_found seg ((t, key) ∷ rest) q k follows (inl (is, same)) e =
      ap (λ (u : List ℕ). longest_from seg (better seg [] (segment u)) rest) is
      ∙ ap (λ (w : List ℕ). longest_from seg w rest) (better_slash seg e) ∙ stays seg rest (λ p k h. follows p k (inr h))
  suffix_found seg ((t, key) ∷ rest) q k follows (inr h) e = elim (follows t key (inl (refl, refl))) [
    | inl none ↦ ap (λ (u : List ℕ). longest_from seg (better seg [] (segment u)) rest) none ∙ suffix_found seg rest q k (λ p k h. follows p k (inr h)) h e
    | inr some ↦ ap (λ (u : List ℕ). longest_from seg (better seg [] (segment u)) rest) some.1
        ∙ ap (λ (w : List ℕ). longest_from seg w rest) (better_slash seg e) ∙ stays seg rest (λ p k h. follows p k (inr h))
  ]

  -- ---- a search that skips bytes, and one in no rows

  seek_drop : (n : ℕ) (rs : RowsOf K) (path : List ℕ) → seek n rs path ≡ seek 0 rs (drop n path)
  unfolding seek
  seek_drop zero rs path = refl
  seek_drop (suc n) rs [] = refl
  seek_drop (suc n) rs (b ∷ path) = seek_drop n rs path

-- ---- the first segment of a path

-- a path without a slash, or one that is cut at its first
abbrev pub Cut : List ℕ → Type 0
Cut path =
    ((has_slash path ≡ false) × (segment path ≡ path))
    ⊎ ((s : List ℕ) × (u : List ℕ) × (path ≡ s ++ 47 ∷ u) × (has_slash s ≡ false) × (segment path ≡ s ++ 47 ∷ []) × (has_slash path ≡ true))

cut_more : (b : ℕ) (path : List ℕ) → Cut path → Cut (b ∷ path)
cut_more b path rest = by_bool (b == 47) hit miss
  where
    hit : (b == 47) ≡ true → Cut (b ∷ path)
    hit e = inr (
      [],
      path,
      ap (λ x. x ∷ path) (eqb-true b 47 e),
      refl,
      ap (λ (c : Bool). cond c (b ∷ []) (b ∷ segment path)) e ∙ ap (λ x. x ∷ []) (eqb-true b 47 e),
      ap (λ (c : Bool). cond c true (has_slash path)) e,
    )

    miss : (b == 47) ≡ false → Cut (b ∷ path)
    miss e = elim rest [
      | inl none ↦ inl (ap (λ (c : Bool). cond c true (has_slash path)) e ∙ none.0, ap (λ (c : Bool). cond c (b ∷ []) (b ∷ segment path)) e ∙ ap (λ t. b ∷ t) none.1)
      | inr some ↦ inr (
        b ∷ some.0,
        some.1,
        ap (λ t. b ∷ t) some.2,
        ap (λ (c : Bool). cond c true (has_slash some.0)) e ∙ some.3,
        ap (λ (c : Bool). cond c (b ∷ []) (b ∷ segment path)) e ∙ ap (λ t. b ∷ t) some.4,
        ap (λ (c : Bool). cond c true (has_slash path)) e ∙ some.5,
      )
    ]

pub cut : (path : List ℕ) → Cut path
cut [] = inl (refl, refl)
cut (b ∷ path) = cut_more b path (cut path)

-- ---- a suffix that a slash is

less : (n : ℕ) → suc n - 1 ≡ n
less n = omega arith

ends_step : (x y : ℕ) (t : List ℕ) → ends_with nat_eq (x ∷ y ∷ t) (47 ∷ []) ≡ ends_with nat_eq (y ∷ t) (47 ∷ [])
ends_step x y t =
    ap (λ (n : ℕ). pointwise nat_eq (47 ∷ []) (drop n (x ∷ y ∷ t))) (less (suc (length t)))
    ∙ sym (ap (λ (n : ℕ). pointwise nat_eq (47 ∷ []) (drop n (y ∷ t))) (less (length t)))

ends_yes : (s : List ℕ) → ends_with nat_eq (s ++ 47 ∷ []) (47 ∷ []) ≡ true
ends_yes [] = refl
ends_yes (x ∷ []) = refl
ends_yes (x ∷ y ∷ s) = ends_step x y (s ++ 47 ∷ []) ∙ ends_yes (y ∷ s)

cuts_yes : (x : ℕ) (s : List ℕ) → cuts (x ∷ s ++ 47 ∷ []) (47 ∷ []) ≡ true
cuts_yes x s =
    let long = length_push s 47 in
    ap (λ (c : Bool). c && ends_with nat_eq (x ∷ s ++ 47 ∷ []) (47 ∷ [])) (lt-ltb 1 (length (x ∷ s ++ 47 ∷ [])) (omega (arith, long))) ∙ ends_yes (x ∷ s)

ends_slash : (path : List ℕ) → ends_with nat_eq path (47 ∷ []) ≡ true → has_slash path ≡ true
ends_slash [] e = absurd (cc)
ends_slash (x ∷ []) e = ap (λ (c : Bool). cond c true false) (eq-eqb x 47 (sym (eqb-true 47 x (and_parts (nat_eq 47 x) true e).0)))
ends_slash (x ∷ y ∷ path) e = by_bool (x == 47)
    (λ is. ap (λ (c : Bool). cond c true (has_slash (y ∷ path))) is)
    (λ is. ap (λ (c : Bool). cond c true (has_slash (y ∷ path))) is ∙ ends_slash (y ∷ path) (sym (ends_step x y path) ∙ e))

cuts_no : (path : List ℕ) → has_slash path ≡ false → cuts path (47 ∷ []) ≡ true → ⊥
cuts_no path free e = both_ways (has_slash path) free (ends_slash path (and_parts (ltb 1 (length path)) (ends_with nat_eq path (47 ∷ [])) e).1)

-- ---- tokens

-- a path matches the tokens of a pattern
unfoldable pub Tok : List ℕ → List ℕ → Type 0
Tok [] path = path ≡ []
Tok (x ∷ p) path =
    ((x ≢ 256) × (u : List ℕ) × (path ≡ x ∷ u) × Tok p u)
    ⊎ ((x ≡ 256) × (s : List ℕ) × (u : List ℕ) × (path ≡ s ++ u) × (s ≢ []) × (has_slash s ≡ false) × Tok p u)

abbrev pub AreBytes : List ℕ → Type 0
AreBytes path = AllByRecursion (λ byte. byte < 256) path

bytes_behind : (s u : List ℕ) → AreBytes (s ++ u) → AreBytes u
bytes_behind [] u h = h
bytes_behind (x ∷ s) u h = bytes_behind s u h.1

shorter : (b : ℕ) (path s u : List ℕ) → b ∷ path ≡ s ++ u → s ≢ [] → length u ≤ length path
shorter b path [] u e some = absurd (some refl)
shorter b path (x ∷ s) u e some =
    let long = ap (λ (t : List ℕ). length t) e in
    let parts = length-append s u in
    omega (arith, long, parts)

drop_all : (xs : List ℕ) → drop (length xs) xs ≡ []
drop_all [] = refl
drop_all (x ∷ xs) = drop_all xs

drop_front : (s u : List ℕ) → drop (length s) (s ++ u) ≡ u
drop_front [] u = refl
drop_front (x ∷ s) u = drop_front s u

segment_at : (s u : List ℕ) → has_slash s ≡ false → segment (s ++ 47 ∷ u) ≡ s ++ 47 ∷ []
segment_at [] u free = refl
segment_at (x ∷ s) u free = by_bool (x == 47)
    (λ e. absurd (both_ways true (sym (ap (λ (c : Bool). cond c true (has_slash s)) e) ∙ free) refl))
    (λ e. ap (λ (c : Bool). cond c (x ∷ []) (x ∷ segment (s ++ 47 ∷ u))) e
    ∙ ap (λ t. x ∷ t) (segment_at s u (sym (ap (λ (c : Bool). cond c true (has_slash s)) e) ∙ free)))

nonempty : (x : ℕ) (xs : List ℕ) → x ∷ xs ≢ []
nonempty x xs = λ e. cc

length_less : (x : ℕ) (s : List ℕ) → length (x ∷ s ++ 47 ∷ []) - 1 - 1 ≡ length s
length_less x s = let long = length_push s 47 in omega (arith, long)

cuts_empty : (seg : List ℕ) → seg ≡ 47 ∷ [] → cuts seg (47 ∷ []) ≡ true → ⊥
cuts_empty seg is e = both_ways false refl (sym (ap (λ (t : List ℕ). cuts t (47 ∷ [])) is) ∙ e)

module _ {K : Type 0} where
  param_slash : (rs : RowsOf K) (path : List ℕ) → longest_from (segment path) [] rs ≡ 47 ∷ [] → param_step rs path ≡ (length (segment path) - 1, with_suffix (47 ∷ []) rs)
  unfolding param_step
  param_slash rs path e =
      ap (λ (w : List ℕ). cond (ltb 0 (length w)) (length (segment path) - length w, with_suffix w rs) (cond (has_slash path) (0, []) (length path, rs))) e

  param_stuck : (rs : RowsOf K) (path : List ℕ) → longest_from (segment path) [] rs ≡ [] → has_slash path ≡ true → param_step rs path ≡ (0, [])
  unfolding param_step
  param_stuck rs path e slash =
      ap (λ (w : List ℕ). cond (ltb 0 (length w)) (length (segment path) - length w, with_suffix w rs) (cond (has_slash path) (0, []) (length path, rs))) e
      ∙ ap (λ (c : Bool). let r : ℕ × RowsOf K = cond c (0, []) (length path, rs) in r) slash

  param_rest : (rs : RowsOf K) (path : List ℕ) → longest_from (segment path) [] rs ≡ [] → has_slash path ≡ false → param_step rs path ≡ (length path, rs)
  unfolding param_step
  param_rest rs path e free =
      ap (λ (w : List ℕ). cond (ltb 0 (length w)) (length (segment path) - length w, with_suffix w rs) (cond (has_slash path) (0, []) (length path, rs))) e
      ∙ ap (λ (c : Bool). let r : ℕ × RowsOf K = cond c (0, []) (length path, rs) in r) free

  or_some : (a b : Option K) (k : K) → or_else a b ≡ Some k → (a ≡ Some k) ⊎ (b ≡ Some k)
  or_some None b k e = inr e
  or_some (Some x) b k e = inl e

  or_left : (a b : Option K) (j : K) → a ≡ Some j → (i : K) × (or_else a b ≡ Some i)
  or_left a b j e = (j, ap (λ (x : Option K). or_else x b) e)

  or_right : (a b : Option K) (j : K) → b ≡ Some j → (i : K) × (or_else a b ≡ Some i)
  or_right None b j e = (j, e)
  or_right (Some x) b j e = (x, refl)

  none_none : (k : K) → Path (Option K) None (Some k) → ⊥
  none_none k e = cc

  or_none : (a b : Option K) → a ≡ None → b ≡ None → or_else a b ≡ None
  or_none a b e h = ap (λ (x : Option K). or_else x b) e ∙ h

  -- the search behind a parameter
  abbrev Behind : ℕ × RowsOf K → List ℕ → Option K
  Behind r path = seek (r.0 - 1) r.1 path

  seek_none : (n : ℕ) (path : List ℕ) → seek {K = K} n [] path ≡ None
  unfolding seek
  seek_none n [] = refl
  seek_none (suc n) (b ∷ path) = seek_none n path
  seek_none zero (b ∷ path) =
      or_none _ _ (seek_none 0 path) (or_none _ _ (by_bool (has_slash (b ∷ path))
      (λ e. ap (λ (r : ℕ × RowsOf K). Behind r path) (param_stuck [] (b ∷ path) refl e) ∙ seek_none 0 path)
      (λ e. ap (λ (r : ℕ × RowsOf K). Behind r path) (param_rest [] (b ∷ path) refl e) ∙ ap (λ (n : ℕ). seek {K = K} n [] path) (less (length path)) ∙ seek_none (length path) path)) refl)

  -- what a search behind a parameter has found
  record Found (rs : RowsOf K) (path : List ℕ) (k : K) : Type 0 where
    s : List ℕ
    u : List ℕ
    is : path ≡ s ++ u
    some : s ≢ []
    free : has_slash s ≡ false
    rows : RowsOf K
    among : (p : List ℕ) (j : K) → Has rows p j → Has rs p j
    found : seek 0 rows u ≡ Some k

  behind_slash : (rs : RowsOf K) (b : ℕ) (path s u : List ℕ) (k : K) → b ∷ path ≡ s ++ 47 ∷ u → has_slash s ≡ false → segment (b ∷ path) ≡ s ++ 47 ∷ []
      → longest_from (segment (b ∷ path)) [] rs ≡ 47 ∷ [] → s ≢ [] → Behind (param_step rs (b ∷ path)) path ≡ Some k → Found rs (b ∷ path) k
  behind_slash rs b path [] u k is free seg suffix some e = absurd (some refl)
  behind_slash rs b path (x ∷ s) u k is free seg suffix some e =
      let path_is : path ≡ s ++ 47 ∷ u = same_tail b x path (s ++ 47 ∷ u) is in
      let step_is : param_step rs (b ∷ path) ≡ (length (x ∷ s ++ 47 ∷ []) - 1, with_suffix (47 ∷ []) rs) =
      param_slash rs (b ∷ path) suffix ∙ ap (λ (t : List ℕ). (length t - 1, with_suffix (47 ∷ []) rs)) seg in
      let whole : seek (length s) (with_suffix (47 ∷ []) rs) path ≡ Some k =
      sym (ap (λ (n : ℕ). seek n (with_suffix (47 ∷ []) rs) path) (length_less x s)) ∙ sym (ap (λ (r : ℕ × RowsOf K). Behind r path) step_is) ∙ e in
      record {
        s = x ∷ s;
        u = 47 ∷ u;
        is = is;
        some = some;
        free = free;
        rows = with_suffix (47 ∷ []) rs;
        among = λ p j h. with_has (47 ∷ []) rs p j h;
        found =
            sym (ap (λ (t : List ℕ). seek 0 (with_suffix (47 ∷ []) rs) t) (ap (λ (t : List ℕ). drop (length s) t) path_is ∙ drop_front s (47 ∷ u)))
            ∙ sym (seek_drop (length s) (with_suffix (47 ∷ []) rs) path) ∙ whole;
      }

  behind_rest : (rs : RowsOf K) (b : ℕ) (path : List ℕ) (k : K) → has_slash (b ∷ path) ≡ false → longest_from (segment (b ∷ path)) [] rs ≡ []
      → Behind (param_step rs (b ∷ path)) path ≡ Some k → Found rs (b ∷ path) k
  behind_rest rs b path k free suffix e = record {
    s = b ∷ path;
    u = [];
    is = sym (append-nil (b ∷ path));
    some = nonempty b path;
    free = free;
    rows = rs;
    among = λ p j h. h;
    found =
        sym (ap (λ (t : List ℕ). seek 0 rs t) (drop_all path)) ∙ sym (seek_drop (length path) rs path)
        ∙ sym (ap (λ (n : ℕ). seek n rs path) (less (length path)))
        ∙ sym (ap (λ (r : ℕ × RowsOf K). Behind r path) (param_rest rs (b ∷ path) suffix free)) ∙ e;
  }

  param_sound : (rs : RowsOf K) (b : ℕ) (path : List ℕ) (k : K) → Follows rs → Behind (param_step rs (b ∷ path)) path ≡ Some k → Found rs (b ∷ path) k
  param_sound rs b path k follows e = by_cut (cut (b ∷ path)) (suffix_is (segment (b ∷ path)) rs follows)
    where
      by_cut : Cut (b ∷ path) → IsSuffix (segment (b ∷ path)) (longest_from (segment (b ∷ path)) [] rs) → Found rs (b ∷ path) k
      by_cut (inl (free, seg)) (inl none) = behind_rest rs b path k free none e
      by_cut (inl (free, seg)) (inr (slash, cuts_so)) = absurd (cuts_no (b ∷ path) free (sym (ap (λ (t : List ℕ). cuts t (47 ∷ [])) seg) ∙ cuts_so))
      by_cut (inr (s, u, is, free, seg, slash)) (inl none) =
          absurd (none_none k (sym (ap (λ (r : ℕ × RowsOf K). Behind r path) (param_stuck rs (b ∷ path) none slash) ∙ seek_none 0 path) ∙ e))
      by_cut (inr (s, u, is, free, seg, slash)) (inr (suffix, cuts_so)) =
          behind_slash rs b path s u k is free seg suffix
          (λ none. cuts_empty (segment (b ∷ path)) (seg ∙ ap (λ (t : List ℕ). t ++ 47 ∷ []) none) cuts_so) e

  -- what is found has tokens that the path matches
  pub sound : (fuel : ℕ) (rs : RowsOf K) (path : List ℕ) (k : K) → length path ≤ fuel → Good rs → AreBytes path → seek 0 rs path ≡ Some k
      → (p : List ℕ) × Has rs p k × Tok p path
  unfolding seek Tok Shaped
  sound fuel rs [] k within good bytes e = ([], own_has rs k e, refl)
  sound zero rs (b ∷ path) k within good bytes e = absurd (omega (arith, within))
  sound (suc fuel) rs (b ∷ path) k within good bytes e =
      elim (or_some (seek 0 (step b rs) path) _ k e) [
        | inl literal ↦
            let rest = sound fuel (step b rs) path k (omega (arith, within)) (good_step b rs good) bytes.1 literal in
            let below = bytes.0 in
            (b ∷ rest.0, step_has b rs rest.0 k rest.1, inl ((λ same. omega (arith, below, same)), path, refl, rest.2))
        | inr others ↦ elim (or_some (Behind (param_step (step 256 rs) (b ∷ path)) path) (own (step 257 rs)) k others) [
          | inl param ↦
              let f = param_sound (step 256 rs) b path k (follows_param rs good) param in
              let short = shorter b path f.s f.u f.is f.some in
              let rest = sound fuel f.rows f.u k (omega (arith, within, short)) (λ p j h. good_step 256 rs good p j (f.among p j h))
              (bytes_behind f.s f.u (subst AreBytes f.is bytes)) f.found in
              (256 ∷ rest.0, step_has 256 rs rest.0 k (f.among rest.0 k rest.1), inr (refl, f.s, f.u, f.is, f.some, f.free, rest.2))
          | inr all ↦ absurd ((good (257 ∷ []) k (step_has 257 rs [] k (own_has (step 257 rs) k all))).0 refl)
        ]
      ]

  -- ---- what matches is found

  behind_parts : (rs : RowsOf K) (p : List ℕ) (k : K) (b : ℕ) (s u : List ℕ) → Follows rs → Has rs p k → has_slash (b ∷ s) ≡ false → u ≡ []
      → p ≡ [] → (j : K) × (Behind (param_step rs (b ∷ s ++ u)) (s ++ u) ≡ Some j)
  unfolding seek
  behind_parts rs p k b s u follows h free none ended =
      let whole : s ++ u ≡ s = ap (λ (t : List ℕ). s ++ t) none ∙ append-nil s in
      subst (λ (t : List ℕ). (j : K) × (Behind (param_step rs (b ∷ t)) t ≡ Some j)) (sym whole) (at_end (suffix_is (segment (b ∷ s)) rs follows))
    where
      at_end : IsSuffix (segment (b ∷ s)) (longest_from (segment (b ∷ s)) [] rs) → (j : K) × (Behind (param_step rs (b ∷ s)) s ≡ Some j)
      at_end (inl none) =
          let own_is = has_own rs k (subst (λ (q : List ℕ). Has rs q k) ended h) in (
            own_is.0,
            ap (λ (r : ℕ × RowsOf K). Behind r s) (param_rest rs (b ∷ s) none free) ∙ ap (λ (n : ℕ). seek n rs s) (less (length s))
                ∙ seek_drop (length s) rs s ∙ ap (λ (t : List ℕ). seek 0 rs t) (drop_all s) ∙ own_is.1,
          )
      at_end (inr (slash, cuts_so)) = absurd (no_cut (cut (b ∷ s)))
        where
          no_cut : Cut (b ∷ s) → ⊥
          no_cut (inl (also, seg)) = cuts_no (b ∷ s) free (sym (ap (λ (t : List ℕ). cuts t (47 ∷ [])) seg) ∙ cuts_so)
          no_cut (inr (x, y, is, f, seg, has)) = both_ways (has_slash (b ∷ s)) free has

  behind_more : (rs : RowsOf K) (q : List ℕ) (k : K) (b : ℕ) (s v : List ℕ) → Follows rs → Has rs (47 ∷ q) k → has_slash (b ∷ s) ≡ false
      → ((j : K) × (seek 0 (with_suffix (47 ∷ []) rs) (47 ∷ v) ≡ Some j)) → (j : K) × (Behind (param_step rs (b ∷ s ++ 47 ∷ v)) (s ++ 47 ∷ v) ≡ Some j)
  behind_more rs q k b s v follows h free rest =
      let seg : segment (b ∷ s ++ 47 ∷ v) ≡ b ∷ s ++ 47 ∷ [] = segment_at (b ∷ s) v free in
      let suffix : longest_from (segment (b ∷ s ++ 47 ∷ v)) [] rs ≡ 47 ∷ [] =
      suffix_found (segment (b ∷ s ++ 47 ∷ v)) rs q k follows h (ap (λ (t : List ℕ). cuts t (47 ∷ [])) seg ∙ cuts_yes b s) in
      let step_is : param_step rs (b ∷ s ++ 47 ∷ v) ≡ (length (b ∷ s ++ 47 ∷ []) - 1, with_suffix (47 ∷ []) rs) =
      param_slash rs (b ∷ s ++ 47 ∷ v) suffix ∙ ap (λ (t : List ℕ). (length t - 1, with_suffix (47 ∷ []) rs)) seg in (
        rest.0,
        ap (λ (r : ℕ × RowsOf K). Behind r (s ++ 47 ∷ v)) step_is
            ∙ ap (λ (n : ℕ). seek n (with_suffix (47 ∷ []) rs) (s ++ 47 ∷ v)) (length_less b s)
            ∙ seek_drop (length s) (with_suffix (47 ∷ []) rs) (s ++ 47 ∷ v)
            ∙ ap (λ (t : List ℕ). seek 0 (with_suffix (47 ∷ []) rs) t) (drop_front s (47 ∷ v)) ∙ rest.1,
      )

  pub complete : (fuel : ℕ) (rs : RowsOf K) (path p : List ℕ) (k : K) → length path ≤ fuel → Good rs → Has rs p k → Tok p path → (j : K) × (seek 0 rs path ≡ Some j)
  unfolding seek Tok Shaped
  complete fuel rs path [] k within good h tok =
      let own_is = has_own rs k h in (own_is.0, ap (λ (t : List ℕ). seek 0 rs t) tok ∙ own_is.1)
  complete zero rs path (x ∷ p) k within good h (inl (literal, u, is, tok)) =
      let long = ap (λ (t : List ℕ). length t) is in absurd (omega (arith, long, within))
  complete (suc fuel) rs path (x ∷ p) k within good h (inl (literal, u, is, tok)) =
      let long = ap (λ (t : List ℕ). length t) is in
      let rest = complete fuel (step x rs) u p k (omega (arith, long, within)) (good_step x rs good) (has_step x rs p k h) tok in
      let here = or_left (seek 0 (step x rs) u) (or_else (Behind (param_step (step 256 rs) (x ∷ u)) u) (own (step 257 rs))) rest.0 rest.1 in
      (here.0, ap (λ (t : List ℕ). seek 0 rs t) is ∙ here.1)
  complete fuel rs path (x ∷ p) k within good h (inr (param, [], u, is, some, free, tok)) = absurd (some refl)
  complete zero rs path (x ∷ p) k within good h (inr (param, b ∷ s, u, is, some, free, tok)) =
      let long = ap (λ (t : List ℕ). length t) is in absurd (omega (arith, long, within))
  complete (suc fuel) rs path (x ∷ p) k within good h (inr (param, b ∷ s, u, is, some, free, tok)) =
      let there : Has rs (256 ∷ p) k = subst (λ (y : ℕ). Has rs (y ∷ p) k) param h in
      let rp = step 256 rs in
      let hp : Has rp p k = has_step 256 rs p k there in
      let follows : Follows rp = follows_param rs good in
      let behind : (j : K) × (Behind (param_step rp (b ∷ s ++ u)) (s ++ u) ≡ Some j) =
      elim (follows p k hp) [
        | inl ended ↦ behind_parts rp p k b s u follows hp free (subst (λ (q : List ℕ). Tok q u) ended tok) ended
        | inr more ↦ goes_on p u k rp more.0 more.1 hp follows tok
            (λ v at t. complete fuel (with_suffix (47 ∷ []) rp) (47 ∷ v) (47 ∷ more.0) k
            (let long = ap (λ (t : List ℕ). length t) (is ∙ ap (λ (w : List ℕ). b ∷ s ++ w) at) in
            let parts = length-append s (47 ∷ v) in omega (arith, long, parts, within))
            (good_with (47 ∷ []) rp (good_step 256 rs good))
            (has_with rp more.0 k (subst (λ (q : List ℕ). Has rp q k) more.1 hp)) t)
      ] in
      let inner = or_left (Behind (param_step rp (b ∷ s ++ u)) (s ++ u)) (own (step 257 rs)) behind.0 behind.1 in
      let here = or_right (seek 0 (step b rs) (s ++ u)) (or_else (Behind (param_step rp (b ∷ s ++ u)) (s ++ u)) (own (step 257 rs))) inner.0 inner.1 in
      (here.0, ap (λ (t : List ℕ). seek 0 rs t) is ∙ here.1)
    where
      goes_on : (p u : List ℕ) (k : K) (rp : RowsOf K) (q : List ℕ) → p ≡ 47 ∷ q → Has rp p k → Follows rp → Tok p u
          → ((v : List ℕ) → u ≡ 47 ∷ v → Tok (47 ∷ q) (47 ∷ v) → (j : K) × (seek 0 (with_suffix (47 ∷ []) rp) (47 ∷ v) ≡ Some j))
          → (j : K) × (Behind (param_step rp (b ∷ s ++ u)) (s ++ u) ≡ Some j)
      goes_on p u k rp q at hp follows tok go = elim (subst (λ (r : List ℕ). Tok r u) at tok) [
        | inl literal ↦
            subst (λ (t : List ℕ). (j : K) × (Behind (param_step rp (b ∷ s ++ t)) (s ++ t) ≡ Some j)) (sym literal.2)
            (behind_more rp q k b s literal.1 follows (subst (λ (r : List ℕ). Has rp r k) at hp) free
            (go literal.1 literal.2 (inl (literal.0, literal.1, refl, literal.3))))
        | inr wrong ↦ let same = wrong.0 in absurd (omega (arith, same))
      ]
