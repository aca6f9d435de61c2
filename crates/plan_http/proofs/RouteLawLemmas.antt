-- The route of a target is the one whose segments are the target's.
use Rattle.std.proofs.Common.{◌≡◌, ◌≢◌, ◌⊎◌, ℕ, zero, suc, ◌<◌, ◌==◌, ◌&&◌, ◌||◌, Bool, true, false, not, cond, List, [], ◌∷◌, ◌++◌, Option, Some, None, Result}
use Rattle.std.proofs.Common.{Ok, length, inl, inr, refl, sym, ap, ◌∙◌, subst, append-nil, arith}
use Rattle.std.specs.Prelude.{get_or, bytes_eq, ltb, if◌then◌else◌}
use Rattle.std.specs.List.{onto_first, list_all}
use Rattle.std.specs.Option.{option_map}
use Rattle.std.proofs.lemmas.Bool.{eqb-true, eq-eqb, eqb-false, both_ways, and_parts, or_cases, ltb-true}
use Rattle.matchit.specs.Rows.{RowsOf, comes_before}
use Rattle.matchit.specs.Order.{placed}
use Rattle.matchit.specs.Route.{Scan, parse_route, scan}
use Rattle.matchit.specs.Router.{RouteOf, route_from}
use Rattle.matchit.specs.Seek.{has_slash, first, seek}
use Rattle.matchit.specs.declared.error.InsertError.{InsertError}
use Rattle.plan_http.specs.declared.routes.Route.{Route}
use Rattle.plan_http.specs.declared.routes.Route.TheVariants.{Publish, OpenDesk, SetKey, Capacities, Plans, ImportProject, ImportShop, Remove, Bind}
use Rattle.plan_http.specs.declared.routes.Route.TheVariants.{SetCalendar, SetLag, Dates, Schedule, Chart, Days, Best}
use Rattle.plan_http.specs.Routes.{Table, all_routes, text_of, with_read, with_route, with_routes, route_table, is_plain_target, route_of}
use Rattle.plan_http.specs.RouteLaws.{segments, is_name, IsSegment, AreSegments, RoutesAreThese}
use Rattle.plan_http.proofs.TokenLemmas.{by_bool, Has, Good, Shaped, EndsSegment, Tok, AreBytes, Cut, cut, sound, complete}

-- ---- segments of a text

split_free : (s : List ℕ) → has_slash s ≡ false → segments s ≡ s ∷ []
split_free [] free = refl
split_free (x ∷ s) free = by_bool (x == 47)
    (λ e. absurd (both_ways true (sym (ap (λ (c : Bool). cond c true (has_slash s)) e) ∙ free) refl))
    (λ e. ap (λ (c : Bool). cond c ([] ∷ segments s) (onto_first x (segments s))) e
    ∙ ap (onto_first x) (split_free s (sym (ap (λ (c : Bool). cond c true (has_slash s)) e) ∙ free)))

split_at : (s u : List ℕ) → has_slash s ≡ false → segments (s ++ 47 ∷ u) ≡ s ∷ segments u
split_at [] u free = refl
split_at (x ∷ s) u free = by_bool (x == 47)
    (λ e. absurd (both_ways true (sym (ap (λ (c : Bool). cond c true (has_slash s)) e) ∙ free) refl))
    (λ e. ap (λ (c : Bool). cond c ([] ∷ segments (s ++ 47 ∷ u)) (onto_first x (segments (s ++ 47 ∷ u)))) e
    ∙ ap (onto_first x) (split_at s u (sym (ap (λ (c : Bool). cond c true (has_slash s)) e) ∙ free)))

-- ---- the tokens of segments

part_tokens : List ℕ → List ℕ
part_tokens part = cond (is_name part) (256 ∷ []) part

tokens_of : List (List ℕ) → List ℕ
tokens_of [] = []
tokens_of (part ∷ []) = part_tokens part
tokens_of (part ∷ next ∷ parts) = part_tokens part ++ 47 ∷ tokens_of (next ∷ parts)

-- each byte is below 256
all_bytes : List ℕ → Bool
all_bytes text = list_all (λ byte. ltb byte 256) text

-- a segment of a route's text: a name, or bytes without a slash
is_part : List ℕ → Bool
is_part part = is_name part || (all_bytes part && not (has_slash part))

not_true : (b : Bool) → not b ≡ true → b ≡ false
not_true true e = absurd (cc)
not_true false e = refl

-- literal bytes at the front of a pattern
literal : (w p path : List ℕ) → all_bytes w ≡ true → Tok (w ++ p) path → (u : List ℕ) × (path ≡ w ++ u) × Tok p u
unfolding Tok all_bytes
literal [] p path bytes tok = (path, refl, tok)
literal (x ∷ w) p path bytes (inl (lit, u, is, tok)) =
    let rest = literal w p u (and_parts (ltb x 256) (all_bytes w) bytes).1 tok in
    (rest.0, is ∙ ap (λ t. x ∷ t) rest.1, rest.2)
literal (x ∷ w) p path bytes (inr (param, s, v, is, some, free, rest)) =
    let below = ltb-true x 256 (and_parts (ltb x 256) (all_bytes w) bytes).0 in absurd (omega (arith, param, below))

literal_back : (w p u : List ℕ) → all_bytes w ≡ true → Tok p u → Tok (w ++ p) (w ++ u)
unfolding Tok all_bytes
literal_back [] p u bytes tok = tok
literal_back (x ∷ w) p u bytes tok =
    let below = ltb-true x 256 (and_parts (ltb x 256) (all_bytes w) bytes).0 in
    inl ((λ same. omega (arith, same, below)), w ++ u, refl, literal_back w p u (and_parts (ltb x 256) (all_bytes w) bytes).1 tok)

-- a part and the rest of a pattern: a segment without a slash that is the part's, and the rest
record Parted (part p path : List ℕ) : Type 0 where
  s : List ℕ
  u : List ℕ
  is : path ≡ s ++ u
  free : has_slash s ≡ false
  segment : IsSegment part s
  rest : Tok p u

parted : (part p path : List ℕ) → is_part part ≡ true → Tok (part_tokens part ++ p) path → Parted part p path
unfolding Tok part_tokens is_part
parted part p path good tok = by_bool (is_name part) named plain
  where
    named : is_name part ≡ true → Parted part p path
    named e = elim (subst (λ (c : Bool). Tok (cond c (256 ∷ []) part ++ p) path) e tok) [
      | inl lit ↦ absurd (lit.0 refl)
      | inr param ↦ record {
        s = param.1;
        u = param.2;
        is = param.3;
        free = param.5;
        segment = subst (λ (c : Bool). cond c (param.1 ≢ []) (param.1 ≡ part)) (sym e) param.4;
        rest = param.6;
      }
    ]

    plain : is_name part ≡ false → Parted part p path
    plain e =
        let both = and_parts (all_bytes part) (not (has_slash part)) (sym (ap (λ (c : Bool). c || (all_bytes part && not (has_slash part))) e) ∙ good) in
        let lit = literal part p path both.0 (subst (λ (c : Bool). Tok (cond c (256 ∷ []) part ++ p) path) e tok) in
        record {
          s = part;
          u = lit.0;
          is = lit.1;
          free = not_true (has_slash part) both.1;
          segment = subst (λ (c : Bool). cond c (part ≢ []) (part ≡ part)) (sym e) refl;
          rest = lit.2;
        }

parted_back : (part p s u : List ℕ) → is_part part ≡ true → has_slash s ≡ false → IsSegment part s → Tok p u → Tok (part_tokens part ++ p) (s ++ u)
unfolding Tok part_tokens is_part
parted_back part p s u good free segment rest = by_bool (is_name part)
    (λ e. subst (λ (c : Bool). Tok (cond c (256 ∷ []) part ++ p) (s ++ u)) (sym e)
    (inr (refl, s, u, refl, subst (λ (c : Bool). cond c (s ≢ []) (s ≡ part)) e segment, free, rest)))
    (λ e. let both = and_parts (all_bytes part) (not (has_slash part)) (sym (ap (λ (c : Bool). c || (all_bytes part && not (has_slash part))) e) ∙ good) in
    let same : s ≡ part = subst (λ (c : Bool). cond c (s ≢ []) (s ≡ part)) e segment in
    subst (λ (c : Bool). Tok (cond c (256 ∷ []) part ++ p) (s ++ u)) (sym e)
    (subst (λ (t : List ℕ). Tok (part ++ p) (t ++ u)) (sym same) (literal_back part p u both.0 rest)))

are_parts : List (List ℕ) → Bool
are_parts parts = list_all is_part parts

slash_next : (p u : List ℕ) → Tok (47 ∷ p) u → (v : List ℕ) × (u ≡ 47 ∷ v) × Tok p v
unfolding Tok
slash_next p u (inl (lit, v, is, tok)) = (v, is, tok)
slash_next p u (inr (param, s, v, is, some, free, rest)) = absurd (omega (arith, param))

-- what has the tokens of some parts has these segments
segments_of : (part : List ℕ) (parts : List (List ℕ)) (path : List ℕ) → are_parts (part ∷ parts) ≡ true → Tok (tokens_of (part ∷ parts)) path
    → AreSegments (part ∷ parts) (segments path)
unfolding Tok are_parts tokens_of
segments_of part [] path good tok =
    let first = parted part [] path (and_parts (is_part part) true good).0 (subst (λ (p : List ℕ). Tok p path) (sym (append-nil (part_tokens part))) tok) in
    let whole : path ≡ first.s = first.is ∙ ap (λ (t : List ℕ). first.s ++ t) first.rest ∙ append-nil first.s in
    subst (λ (list : List (List ℕ)). AreSegments (part ∷ []) list) (sym (ap segments whole ∙ split_free first.s first.free)) (first.segment, tt)
segments_of part (next ∷ parts) path good tok =
    let both = and_parts (is_part part) (are_parts (next ∷ parts)) good in
    let first = parted part (47 ∷ tokens_of (next ∷ parts)) path both.0 tok in
    let slash = slash_next (tokens_of (next ∷ parts)) first.u first.rest in
    let whole : path ≡ first.s ++ 47 ∷ slash.0 = first.is ∙ ap (λ (t : List ℕ). first.s ++ t) slash.1 in
    subst (λ (list : List (List ℕ)). AreSegments (part ∷ next ∷ parts) list) (sym (ap segments whole ∙ split_at first.s slash.0 first.free))
    (first.segment, segments_of next parts slash.0 both.1 slash.2)

onto_some : (x : ℕ) (list : List (List ℕ)) → onto_first x list ≡ [] → list ≡ []
onto_some x [] e = refl
onto_some x (y ∷ list) e = absurd (cc)

some_segment : (path : List ℕ) → segments path ≡ [] → ⊥
some_segment [] e = cc
some_segment (x ∷ path) e = by_bool (x == 47)
    (λ is. none [] (segments path) (sym (ap (λ (c : Bool). cond c ([] ∷ segments path) (onto_first x (segments path))) is) ∙ e))
    (λ is. some_segment path (onto_some x (segments path) (sym (ap (λ (c : Bool). cond c ([] ∷ segments path) (onto_first x (segments path))) is) ∙ e)))
  where
    none : (y : List ℕ) (list : List (List ℕ)) → y ∷ list ≡ [] → ⊥
    none y list e = cc

none_else : (list : List (List ℕ)) → AreSegments [] list → list ≡ []
none_else [] h = refl
none_else (x ∷ list) h = absurd h

tokens_back : (part : List ℕ) (parts : List (List ℕ)) (path : List ℕ) → are_parts (part ∷ parts) ≡ true → AreSegments (part ∷ parts) (segments path)
    → Tok (tokens_of (part ∷ parts)) path
unfolding Tok are_parts tokens_of
tokens_back part [] path good h = by_cut (cut path)
  where
    by_cut : Cut path → Tok (part_tokens part) path
    by_cut (inl (free, seg)) =
        let segment = subst (λ (list : List (List ℕ)). AreSegments (part ∷ []) list) (split_free path free) h in
        subst (λ (p : List ℕ). Tok p path) (append-nil (part_tokens part)) (subst (λ (t : List ℕ). Tok (part_tokens part ++ []) t) (append-nil path)
        (parted_back part [] path [] (and_parts (is_part part) true good).0 free segment.0 refl))
    by_cut (inr (s, u, is, free, seg, slash)) =
        let both = subst (λ (list : List (List ℕ)). AreSegments (part ∷ []) list) (ap segments is ∙ split_at s u free) h in
        absurd (some_segment u (none_else (segments u) both.1))
tokens_back part (next ∷ parts) path good h =
    by_next (cut path) (λ u again. tokens_back next parts u (and_parts (is_part part) (are_parts (next ∷ parts)) good).1 again)
  where
    by_next : Cut path → ((u : List ℕ) → AreSegments (next ∷ parts) (segments u) → Tok (tokens_of (next ∷ parts)) u)
        → Tok (part_tokens part ++ 47 ∷ tokens_of (next ∷ parts)) path
    by_next (inl (free, seg)) go =
        let both = subst (λ (list : List (List ℕ)). AreSegments (part ∷ next ∷ parts) list) (split_free path free) h in absurd both.1
    by_next (inr (s, u, is, free, seg, slash)) go =
        let both = subst (λ (list : List (List ℕ)). AreSegments (part ∷ next ∷ parts) list) (ap segments is ∙ split_at s u free) h in
        let goods = and_parts (is_part part) (are_parts (next ∷ parts)) good in
        subst (λ (t : List ℕ). Tok (part_tokens part ++ 47 ∷ tokens_of (next ∷ parts)) t) (sym is)
        (parted_back part (47 ∷ tokens_of (next ∷ parts)) s (47 ∷ u) goods.0 free both.0
        (inl ((λ same. omega (arith, same)), u, refl, go u both.1)))

-- ---- routes whose segments differ

-- two lists of parts that no segments are both of
clash : List (List ℕ) → List (List ℕ) → Bool
clash [] [] = false
clash [] (q ∷ qs) = true
clash (p ∷ ps) [] = true
clash (p ∷ ps) (q ∷ qs) = (not (is_name p) && (not (is_name q) && not (bytes_eq p q))) || clash ps qs

bytes_refl : (p : List ℕ) → bytes_eq p p ≡ true
bytes_refl [] = refl
bytes_refl (x ∷ p) = ap (λ (c : Bool). c && bytes_eq p p) (eq-eqb x x refl) ∙ bytes_refl p

bytes_same : (p q : List ℕ) → p ≡ q → bytes_eq p q ≡ true
bytes_same p q e = subst (λ (t : List ℕ). bytes_eq p t ≡ true) e (bytes_refl p)

apart : (ps qs list : List (List ℕ)) → clash ps qs ≡ true → AreSegments ps list → AreSegments qs list → ⊥
unfolding clash
apart [] [] list e h k = absurd (both_ways false refl e)
apart [] (q ∷ qs) [] e h k = k
apart [] (q ∷ qs) (x ∷ list) e h k = h
apart (p ∷ ps) [] [] e h k = h
apart (p ∷ ps) [] (x ∷ list) e h k = k
apart (p ∷ ps) (q ∷ qs) [] e h k = h
apart (p ∷ ps) (q ∷ qs) (x ∷ list) e h k =
    elim (or_cases (not (is_name p) && (not (is_name q) && not (bytes_eq p q))) (clash ps qs) e) [
      | inl here ↦
          let a = and_parts (not (is_name p)) (not (is_name q) && not (bytes_eq p q)) here in
          let b = and_parts (not (is_name q)) (not (bytes_eq p q)) a.1 in
          let is_p : x ≡ p = subst (λ (c : Bool). cond c (x ≢ []) (x ≡ p)) (not_true (is_name p) a.0) h.0 in
          let is_q : x ≡ q = subst (λ (c : Bool). cond c (x ≢ []) (x ≡ q)) (not_true (is_name q) b.0) k.0 in
          both_ways (bytes_eq p q) (not_true (bytes_eq p q) b.1) (bytes_same p q (sym is_p ∙ is_q))
      | inr later ↦ apart ps qs list later h.1 k.1
    ]

index : Route → ℕ
index Publish = 0
index OpenDesk = 1
index SetKey = 2
index Capacities = 3
index Plans = 4
index ImportProject = 5
index ImportShop = 6
index Remove = 7
index Bind = 8
index SetCalendar = 9
index SetLag = 10
index Dates = 11
index Schedule = 12
index Chart = 13
index Days = 14
index Best = 15

route_at : ℕ → Route
route_at n = get_or all_routes n Best

at_index : (r : Route) → route_at (index r) ≡ r
unfolding index route_at
at_index Publish = refl
at_index OpenDesk = refl
at_index SetKey = refl
at_index Capacities = refl
at_index Plans = refl
at_index ImportProject = refl
at_index ImportShop = refl
at_index Remove = refl
at_index Bind = refl
at_index SetCalendar = refl
at_index SetLag = refl
at_index Dates = refl
at_index Schedule = refl
at_index Chart = refl
at_index Days = refl
at_index Best = refl

below_16 : (r : Route) → index r < 16
unfolding index
below_16 Publish = omega arith
below_16 OpenDesk = omega arith
below_16 SetKey = omega arith
below_16 Capacities = omega arith
below_16 Plans = omega arith
below_16 ImportProject = omega arith
below_16 ImportShop = omega arith
below_16 Remove = omega arith
below_16 Bind = omega arith
below_16 SetCalendar = omega arith
below_16 SetLag = omega arith
below_16 Dates = omega arith
below_16 Schedule = omega arith
below_16 Chart = omega arith
below_16 Days = omega arith
below_16 Best = omega arith

-- a test of all numbers below n
every : ℕ → (ℕ → Bool) → Bool
every zero test = true
every (suc n) test = test n && every n test

every_at : (n : ℕ) (test : ℕ → Bool) (i : ℕ) → every n test ≡ true → i < n → test i ≡ true
unfolding every
every_at zero test i e below = absurd (omega (arith, below))
every_at (suc n) test i e below = by_bool (i == n)
    (λ same. subst (λ (k : ℕ). test k ≡ true) (sym (eqb-true i n same)) (and_parts (test n) (every n test) e).0)
    (λ other. every_at n test i (and_parts (test n) (every n test) e).1 (let differ = eqb-false i n other in smaller i n below differ))
  where
    smaller : (i n : ℕ) → i < suc n → (i ≡ n → ⊥) → i < n
    smaller i n below differ = omega (arith, below, differ)

parts_of : Route → List (List ℕ)
parts_of r = segments (text_of r)

differ_at : ℕ → ℕ → Bool
differ_at i j = (i == j) || clash (parts_of (route_at i)) (parts_of (route_at j))

all_differ : every 16 (λ i. every 16 (differ_at i)) ≡ true
unfolding every differ_at clash parts_of route_at
all_differ = refl

one_route : (r q : Route) (list : List (List ℕ)) → AreSegments (parts_of r) list → AreSegments (parts_of q) list → r ≡ q
unfolding differ_at
one_route r q list h k =
    elim (or_cases (index r == index q) (clash (parts_of (route_at (index r))) (parts_of (route_at (index q)))) tested) [
      | inl same ↦ sym (at_index r) ∙ ap route_at (eqb-true (index r) (index q) same) ∙ at_index q
      | inr differ ↦ absurd (apart (parts_of (route_at (index r))) (parts_of (route_at (index q))) list differ
          (subst (λ (x : Route). AreSegments (parts_of x) list) (sym (at_index r)) h)
          (subst (λ (x : Route). AreSegments (parts_of x) list) (sym (at_index q)) k))
    ]
  where
    tested : ((index r == index q) || clash (parts_of (route_at (index r))) (parts_of (route_at (index q)))) ≡ true
    tested = every_at 16 (differ_at (index r)) (index q) (every_at 16 (λ i. every 16 (differ_at i)) (index r) all_differ (below_16 r)) (below_16 q)

-- ---- the rows of the table

ends_b : List ℕ → Bool
ends_b [] = true
ends_b (x ∷ t) = x == 47

shaped_b : List ℕ → Bool
shaped_b [] = true
shaped_b (x ∷ t) = not (x == 257) && ((not (x == 256) || ends_b t) && shaped_b t)

ends_segment : (t : List ℕ) → ends_b t ≡ true → EndsSegment t
unfolding ends_b
ends_segment [] e = inl refl
ends_segment (x ∷ t) e = inr (t, ap (λ y. y ∷ t) (eqb-true x 47 e))

is_shaped : (p : List ℕ) → shaped_b p ≡ true → Shaped p
unfolding shaped_b Shaped
is_shaped [] e = tt
is_shaped (x ∷ t) e =
    let a = and_parts (not (x == 257)) ((not (x == 256) || ends_b t) && shaped_b t) e in
    let b = and_parts (not (x == 256) || ends_b t) (shaped_b t) a.1 in (
      (λ same. eqb-false x 257 (not_true (x == 257) a.0) same),
      (λ same. elim (or_cases (not (x == 256)) (ends_b t) b.0) [
        | inl other ↦ absurd (eqb-false x 256 (not_true (x == 256) other) same)
        | inr ends ↦ ends_segment t ends
      ]),
      is_shaped t b.1,
    )

parts_are : (r : Route) → are_parts (parts_of r) && shaped_b (tokens_of (parts_of r)) ≡ true
unfolding are_parts is_part all_bytes parts_of shaped_b ends_b tokens_of part_tokens
parts_are Publish = refl
parts_are OpenDesk = refl
parts_are SetKey = refl
parts_are Capacities = refl
parts_are Plans = refl
parts_are ImportProject = refl
parts_are ImportShop = refl
parts_are Remove = refl
parts_are Bind = refl
parts_are SetCalendar = refl
parts_are SetLag = refl
parts_are Dates = refl
parts_are Schedule = refl
parts_are Chart = refl
parts_are Days = refl
parts_are Best = refl

read_of : (r : Route) → (s : Scan) × (parse_route (text_of r) ≡ Ok s) × (s.pattern ≡ tokens_of (parts_of r))
unfolding scan tokens_of part_tokens parts_of
read_of Publish = (_, refl, refl)
read_of OpenDesk = (_, refl, refl)
read_of SetKey = (_, refl, refl)
read_of Capacities = (_, refl, refl)
read_of Plans = (_, refl, refl)
read_of ImportProject = (_, refl, refl)
read_of ImportShop = (_, refl, refl)
read_of Remove = (_, refl, refl)
read_of Bind = (_, refl, refl)
read_of SetCalendar = (_, refl, refl)
read_of SetLag = (_, refl, refl)
read_of Dates = (_, refl, refl)
read_of Schedule = (_, refl, refl)
read_of Chart = (_, refl, refl)
read_of Days = (_, refl, refl)
read_of Best = (_, refl, refl)

module _ {K : Type 0} where
  placed_has : (t : List ℕ) (key : K) (rs : RowsOf K) (p : List ℕ) (k : K) → Has (placed (t, key) rs) p k → ((t ≡ p) × (key ≡ k)) ⊎ Has rs p k
  unfolding Has
  placed_has t key [] p k h = h
  placed_has t key ((u, other) ∷ rest) p k h = by_bool (comes_before t u)
      (λ e. subst (λ (c : Bool). Has (cond c ((t, key) ∷ (u, other) ∷ rest) ((u, other) ∷ placed (t, key) rest)) p k) e h)
      (λ e. elim (subst (λ (c : Bool). Has (cond c ((t, key) ∷ (u, other) ∷ rest) ((u, other) ∷ placed (t, key) rest)) p k) e h) [
        | inl here ↦ inr (inl here)
        | inr more ↦ elim (placed_has t key rest p k more) [
          | inl new ↦ inl new
          | inr old ↦ inr (inr old)
        ]
      ])

  has_placed : (t : List ℕ) (key : K) (rs : RowsOf K) (p : List ℕ) (k : K) → ((t ≡ p) × (key ≡ k)) ⊎ Has rs p k → Has (placed (t, key) rs) p k
  unfolding Has
  has_placed t key [] p k h = h
  has_placed t key ((u, other) ∷ rest) p k h = by_bool (comes_before t u)
      (λ e. subst (λ (c : Bool). Has (cond c ((t, key) ∷ (u, other) ∷ rest) ((u, other) ∷ placed (t, key) rest)) p k) (sym e) h)
      (λ e. subst (λ (c : Bool). Has (cond c ((t, key) ∷ (u, other) ∷ rest) ((u, other) ∷ placed (t, key) rest)) p k) (sym e) (elim h [
        | inl new ↦ inr (has_placed t key rest p k (inl new))
        | inr old ↦ elim old [
          | inl here ↦ inl here
          | inr more ↦ inr (has_placed t key rest p k (inr more))
        ]
      ]))

-- a row of a route
abbrev IsRow : List ℕ → RouteOf Route → Type 0
IsRow p k = (r : Route) × (p ≡ tokens_of (parts_of r)) × (k.value ≡ r)

row_of : Route → RouteOf Route
row_of r = route_from (read_of r).0 r

with_route_is : (r : Route) (table : Table) → with_route r table ≡ placed ((read_of r).0.pattern, row_of r) table
unfolding with_route row_of
with_route_is r table = ap (λ (read : Result Scan InsertError). with_read read r table) (read_of r).1

row_value : (r : Route) → (row_of r).value ≡ r
unfolding row_of
row_value r = refl

rows_are : (rs : List Route) (table : Table) → ((p : List ℕ) (k : RouteOf Route) → Has table p k → IsRow p k)
    → (p : List ℕ) (k : RouteOf Route) → Has (with_routes rs table) p k → IsRow p k
rows_are [] table are p k h = are p k h
rows_are (r ∷ rs) table are p k h = rows_are rs (with_route r table) more p k h
  where
    more : (p : List ℕ) (k : RouteOf Route) → Has (with_route r table) p k → IsRow p k
    more p k h = elim (placed_has (read_of r).0.pattern (row_of r) table p k (subst (λ (t : Table). Has t p k) (with_route_is r table) h)) [
      | inl new ↦ (r, sym new.0 ∙ (read_of r).2, ap (λ (x : RouteOf Route). x.value) (sym new.1) ∙ row_value r)
      | inr old ↦ are p k old
    ]

rows_stay : (rs : List Route) (table : Table) (p : List ℕ) (k : RouteOf Route) → Has table p k → Has (with_routes rs table) p k
rows_stay [] table p k h = h
rows_stay (r ∷ rs) table p k h =
    rows_stay rs (with_route r table) p k (subst (λ (t : Table). Has t p k) (sym (with_route_is r table)) (has_placed (read_of r).0.pattern (row_of r) table p k (inr h)))

Member : List Route → Route → Type 0
Member [] r = ⊥
Member (x ∷ rs) r = (x ≡ r) ⊎ Member rs r

rows_there : (rs : List Route) (table : Table) (r : Route) → Member rs r → Has (with_routes rs table) (read_of r).0.pattern (row_of r)
unfolding Member
rows_there [] table r h = absurd h
rows_there (x ∷ rs) table r (inl same) =
    subst (λ (y : Route). Has (with_routes (x ∷ rs) table) (read_of y).0.pattern (row_of y)) same
    (rows_stay rs (with_route x table) (read_of x).0.pattern (row_of x)
    (subst (λ (t : Table). Has t (read_of x).0.pattern (row_of x)) (sym (with_route_is x table))
    (has_placed (read_of x).0.pattern (row_of x) table (read_of x).0.pattern (row_of x) (inl (refl, refl)))))
rows_there (x ∷ rs) table r (inr more) = rows_there rs (with_route x table) r more

member : (r : Route) → Member all_routes r
unfolding Member
member Publish = inl refl
member OpenDesk = inr (inl refl)
member SetKey = inr (inr (inl refl))
member Capacities = inr (inr (inr (inl refl)))
member Plans = inr (inr (inr (inr (inl refl))))
member ImportProject = inr (inr (inr (inr (inr (inl refl)))))
member ImportShop = inr (inr (inr (inr (inr (inr (inl refl))))))
member Remove = inr (inr (inr (inr (inr (inr (inr (inl refl)))))))
member Bind = inr (inr (inr (inr (inr (inr (inr (inr (inl refl))))))))
member SetCalendar = inr (inr (inr (inr (inr (inr (inr (inr (inr (inl refl)))))))))
member SetLag = inr (inr (inr (inr (inr (inr (inr (inr (inr (inr (inl refl))))))))))
member Dates = inr (inr (inr (inr (inr (inr (inr (inr (inr (inr (inr (inl refl)))))))))))
member Schedule = inr (inr (inr (inr (inr (inr (inr (inr (inr (inr (inr (inr (inl refl))))))))))))
member Chart = inr (inr (inr (inr (inr (inr (inr (inr (inr (inr (inr (inr (inr (inl refl)))))))))))))
member Days = inr (inr (inr (inr (inr (inr (inr (inr (inr (inr (inr (inr (inr (inr (inl refl))))))))))))))
member Best = inr (inr (inr (inr (inr (inr (inr (inr (inr (inr (inr (inr (inr (inr (inr (inl refl)))))))))))))))

table_rows : (p : List ℕ) (k : RouteOf Route) → Has route_table p k → IsRow p k
unfolding route_table Has
table_rows p k h = rows_are all_routes [] (λ q j none. absurd none) p k h

table_has : (r : Route) → Has route_table (tokens_of (parts_of r)) (row_of r)
unfolding route_table
table_has r = subst (λ (p : List ℕ). Has (with_routes all_routes []) p (row_of r)) (read_of r).2 (rows_there all_routes [] r (member r))

good_table : Good route_table
good_table p k h =
    let row = table_rows p k h in
    subst Shaped (sym row.1) (is_shaped (tokens_of (parts_of row.0)) (and_parts (are_parts (parts_of row.0)) (shaped_b (tokens_of (parts_of row.0))) (parts_are row.0)).1)

-- ---- the law

from_tokens : (parts : List (List ℕ)) (path : List ℕ) → (parts ≡ [] → ⊥) → are_parts parts ≡ true → Tok (tokens_of parts) path → AreSegments parts (segments path)
from_tokens [] path some good tok = absurd (some refl)
from_tokens (part ∷ parts) path some good tok = segments_of part parts path good tok

to_tokens : (parts : List (List ℕ)) (path : List ℕ) → (parts ≡ [] → ⊥) → are_parts parts ≡ true → AreSegments parts (segments path) → Tok (tokens_of parts) path
to_tokens [] path some good h = absurd (some refl)
to_tokens (part ∷ parts) path some good h = tokens_back part parts path good h

parts_good : (r : Route) → are_parts (parts_of r) ≡ true
parts_good r = (and_parts (are_parts (parts_of r)) (shaped_b (tokens_of (parts_of r))) (parts_are r)).0

some_part : (r : Route) → parts_of r ≡ [] → ⊥
unfolding parts_of
some_part r e = some_segment (text_of r) e

found_row : (target : List ℕ) (row : RouteOf Route) → AreBytes target → seek 0 route_table target ≡ Some row → AreSegments (parts_of row.value) (segments target)
found_row target row bytes e =
    let found = sound (length target) route_table target row (omega arith) good_table bytes e in
    let is = table_rows found.0 row found.1 in
    subst (λ (r : Route). AreSegments (parts_of r) (segments target)) (sym is.2)
    (from_tokens (parts_of is.0) target (some_part is.0) (parts_good is.0) (subst (λ (p : List ℕ). Tok p target) is.1 found.2))

mapped : (o : Option (RouteOf Route)) (r : Route) → option_map (λ row. row.value) o ≡ Some r → (row : RouteOf Route) × (o ≡ Some row) × (row.value ≡ r)
mapped None r e = absurd (cc)
mapped (Some row) r e = (row, refl, same row.value r e)
  where
    same : (x y : Route) → Path (Option Route) (Some x) (Some y) → x ≡ y
    same x y e = cc

no_route : (r : Route) → Path (Option Route) None (Some r) → ⊥
no_route r e = cc

pub routes_are_these : RoutesAreThese
unfolding RoutesAreThese route_of parts_of
routes_are_these = λ target route bytes. (forth target route bytes, back target route bytes)
  where
    forth : (target : List ℕ) (route : Route) → AreBytes target → route_of target ≡ Some route
        → (is_plain_target target ≡ true) × AreSegments (segments (text_of route)) (segments target)
    forth target route bytes e = by_bool (is_plain_target target)
        (λ plain.
        let m = mapped (first route_table target) route
        (sym (ap (λ (c : Bool). if c then option_map (λ (row : RouteOf Route). row.value) (first route_table target) else None) plain) ∙ e) in
        (plain, subst (λ (r : Route). AreSegments (segments (text_of r)) (segments target)) m.2 (found_row target m.0 bytes m.1)))
        (λ other. absurd (no_route route
        (sym (ap (λ (c : Bool). if c then option_map (λ (row : RouteOf Route). row.value) (first route_table target) else None) other) ∙ e)))

    back : (target : List ℕ) (route : Route) → AreBytes target
        → (is_plain_target target ≡ true) × AreSegments (segments (text_of route)) (segments target) → route_of target ≡ Some route
    back target route bytes (plain, h) =
        let tok = to_tokens (parts_of route) target (some_part route) (parts_good route) h in
        let found = complete (length target) route_table target (tokens_of (parts_of route)) (row_of route) (omega arith) good_table (table_has route) tok in
        let same : found.0.value ≡ route = one_route found.0.value route (segments target) (found_row target found.0 bytes found.1) h in
        ap (λ (c : Bool). if c then option_map (λ (row : RouteOf Route). row.value) (first route_table target) else None) plain
        ∙ ap (option_map (λ (row : RouteOf Route). row.value)) found.1 ∙ ap (λ (r : Route). Some r) same
