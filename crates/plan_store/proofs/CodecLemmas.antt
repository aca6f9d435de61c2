-- Rows as they are written and read back, and tests of their keys.
use Rattle.std.proofs.Common.{◌≡◌, ℕ, zero, suc, ℤ, pos, true, false, ◌&&◌, ◌==◌, nat_lt, List, [], ◌∷◌, length, codes, Ok, refl, sym, ap, ap₂, ◌∙◌, arith}
use Rattle.std.specs.List.{list_all}
use Rattle.std.specs.Ordering.{int_eq}
use Rattle.std.proofs.lemmas.Int.{ints}
use Rattle.std.proofs.lemmas.Bool.{and_parts}
use Rattle.std.proofs.lemmas.Bool.Decides.{nat_tests}
use Rattle.std.proofs.lemmas.Map.Text.{is_eq-slice_cmp}
use Rattle.hex.specs.Hex.{encode_lower, lower_digits, decode_sized, IsBytes}
use Rattle.hex.proofs.HexLemmas.{length-encode_with, decode_pairs-encode_with, IsDigits-lower_digits}
use Rattle.sqlite_value.specs.declared.value.Value.TheVariants.{Int, Text, Blob}
use Rattle.sqlite_value.specs.declared.keys.Collation.TheVariants.{Binary}
use Rattle.sqlite_value.specs.Order.{Row}
use Rattle.sqlite_sql.specs.declared.ops.BinaryOp.TheVariants.{Compare}
use Rattle.sqlite_sql.specs.declared.ops.CompareOp.TheVariants.{Eq}
use Rattle.sqlite_sql.specs.Ops.{binary, is_true}
use Rattle.sqlite_sql.specs.Term.{holds}
use Rattle.sqlite_schema.specs.declared.schema.Kind.TheVariants.{Integer}
use Rattle.sqlite_rules.specs.Cast.{cast_all}
use Rattle.sqlite_tied.proofs.RuleLemmas.{and_assoc}
use Rattle.sqlite_typed.proofs.TestLemmas.{at_texts, at_ints, then_term, last_term}
use Rattle.plan_rows.specs.declared.kinds.Kind.{Kind}
use Rattle.plan_rows.specs.declared.kinds.PlanKind.{PlanKind}
use Rattle.plan_rows.specs.declared.kinds.Kind.TheVariants.{Crew, Machine}
use Rattle.plan_rows.specs.declared.kinds.PlanKind.TheVariants.{Project, Shop}
use Rattle.plan_rows.specs.Names.{kind_text, plan_kind_text}
use Rattle.plan_rows.specs.Names.{is_digest}
use Rattle.plan_rows.specs.World.{Digest, Published, Desk, Plan, Bind, Lag, same_text, is_code, is_desk, is_plan, is_bind_of, is_bind, is_lag_of, is_lag}
use Rattle.plan_store.specs.Tables as tables
use Rattle.plan_store.specs.TableRows.{row_at}
use Rattle.plan_store.specs.Rows.{kind_in, plan_kind_in, digest_in, digest_value, decoded, written_code, read_code, written_desk, read_desk, written_plan}
use Rattle.plan_store.specs.Rows.{read_plan, written_bind, read_bind, written_lag, read_lag}
use Rattle.plan_store.proofs.QueryForms.{is_given}
use Rattle.plan_store.proofs.EditLemmas.{cast_int}

-- ---- columns accept the written values

pub code_casts : (row : Published) → cast_all tables.published.columns (written_code row) ≡ written_code row
code_casts row = ap (λ v. Text row.code ∷ Text (kind_text row.kind) ∷ v ∷ []) (cast_int (pos row.capacity))

pub desk_casts : (row : Desk) → cast_all tables.desks.columns (written_desk row) ≡ written_desk row
desk_casts row = ap (λ v. Text row.desk ∷ digest_value row.digest ∷ v ∷ []) (cast_int (pos row.next))

pub plan_casts : (row : Plan) → cast_all tables.plans.columns (written_plan row) ≡ written_plan row
plan_casts row =
    ap (λ v. Text row.desk ∷ v ∷ Text (plan_kind_text row.kind) ∷ Text row.name ∷ Blob row.body ∷ Text row.start ∷ Text row.days ∷ []) (cast_int (pos row.n))

pub bind_casts : (row : Bind) → cast_all tables.binds.columns (written_bind row) ≡ written_bind row
bind_casts row = ap₂ (λ v w. Text row.desk ∷ v ∷ w ∷ Text row.code ∷ []) (cast_int (pos row.n)) (cast_int (pos row.place))

pub lag_casts : (row : Lag) → cast_all tables.lags.columns (written_lag row) ≡ written_lag row
lag_casts row =
    ap₂ (λ v w. Text row.desk ∷ v ∷ w ∷ cast_all (tables.filled (codes "dst") Integer ∷ tables.filled (codes "lag") Integer ∷ []) (Int (pos row.target) ∷ Int (pos row.lag) ∷ []))
    (cast_int (pos row.n)) (cast_int (pos row.source))
    ∙ ap₂ (λ v w. Text row.desk ∷ Int (pos row.n) ∷ Int (pos row.source) ∷ v ∷ w ∷ []) (cast_int (pos row.target)) (cast_int (pos row.lag))

-- ---- written rows are read back

pub kind_back : (kind : Kind) → kind_in (Text (kind_text kind)) ≡ kind
kind_back Crew = refl
kind_back Machine = refl

pub plan_kind_back : (kind : PlanKind) → plan_kind_in (Text (plan_kind_text kind)) ≡ kind
plan_kind_back Project = refl
plan_kind_back Shop = refl

bytes_from : (xs : List ℕ) → list_all (λ b. nat_lt b 256) xs ≡ true → IsBytes xs
bytes_from [] all i = omega arith
bytes_from (x ∷ xs) all zero = let it = (and_parts (nat_lt x 256) (list_all (λ b. nat_lt b 256) xs) all).0 in grind (arith, nat_tests)
bytes_from (x ∷ xs) all (suc i) = bytes_from xs (and_parts (nat_lt x 256) (list_all (λ b. nat_lt b 256) xs) all).1 i

pub digest_decoded : (digest : Digest) → is_digest digest ≡ true → decode_sized (encode_lower digest) 32 ≡ Ok digest
digest_decoded digest good =
    let parts = and_parts (length digest == 32) (list_all (λ b. nat_lt b 256) digest) good in
    let size : length digest ≡ 32 = let it = parts.0 in grind (arith, nat_tests) in
    let wide : length (encode_lower digest) ≡ 64 = let e = length-encode_with lower_digits digest in omega (arith, e, size) in
    rw wide (decode_pairs-encode_with lower_digits IsDigits-lower_digits 0 digest (bytes_from digest parts.1))

pub digest_back : (digest : Digest) → is_digest digest ≡ true → digest_in (digest_value digest) ≡ digest
digest_back digest good = ap decoded (digest_decoded digest good)

pub code_back : (row : Published) (n : ℤ) → read_code (row_at written_code (n, row)) ≡ row
code_back row n = ap (λ k. record row { kind = k }) (kind_back row.kind)

pub desk_back : (row : Desk) → is_digest row.digest ≡ true → (n : ℤ) → read_desk (row_at written_desk (n, row)) ≡ row
desk_back row good n = ap (λ d. record row { digest = d }) (digest_back row.digest good)

pub plan_back : (row : Plan) (n : ℤ) → read_plan (row_at written_plan (n, row)) ≡ row
plan_back row n = ap (λ k. record row { kind = k }) (plan_kind_back row.kind)

pub bind_back : (row : Bind) (n : ℤ) → read_bind (row_at written_bind (n, row)) ≡ row
bind_back row n = refl

pub lag_back : (row : Lag) (n : ℤ) → read_lag (row_at written_lag (n, row)) ≡ row
lag_back row n = refl

-- ---- tests of keys

pub texts_tested : (a b : List ℕ) → is_true (binary (Compare Eq Binary) (Text a) (Text b)) ≡ same_text a b
texts_tested a b = at_texts false Eq a b ∙ is_eq-slice_cmp a b

naturals_alike : (a b : ℕ) → int_eq (pos a) (pos b) ≡ (a == b)
naturals_alike a b = grind (arith, ints, nat_tests)

pub numbers_tested : (a b : ℕ) → is_true (binary (Compare Eq Binary) (Int (pos a)) (Int (pos b))) ≡ (a == b)
numbers_tested a b = at_ints false Eq (pos a) (pos b) ∙ naturals_alike a b

pub code_tested : (code : List ℕ) (more : Row) (x : ℤ × Published)
    → list_all (holds ((Text code ∷ more) ∷ row_at written_code x ∷ [])) (is_given 1 0 ∷ []) ≡ is_code code x.1
code_tested code more x = last_term (texts_tested x.1.code code)

pub desk_tested : (desk : List ℕ) (more : Row) (x : ℤ × Desk)
    → list_all (holds ((Text desk ∷ more) ∷ row_at written_desk x ∷ [])) (is_given 1 0 ∷ []) ≡ is_desk desk x.1
desk_tested desk more x = last_term (texts_tested x.1.desk desk)

pub owner_tested : (desk : List ℕ) (more : Row) (x : ℤ × Plan)
    → list_all (holds ((Text desk ∷ more) ∷ row_at written_plan x ∷ [])) (is_given 1 0 ∷ []) ≡ same_text x.1.desk desk
owner_tested desk more x = last_term (texts_tested x.1.desk desk)

pub plan_tested : (desk : List ℕ) (n : ℕ) (more : Row) (x : ℤ × Plan)
    → list_all (holds ((Text desk ∷ Int (pos n) ∷ more) ∷ row_at written_plan x ∷ [])) (is_given 1 0 ∷ is_given 2 1 ∷ []) ≡ is_plan desk n x.1
plan_tested desk n more x = then_term (texts_tested x.1.desk desk) (last_term (numbers_tested x.1.n n))

pub bind_of_tested : (desk : List ℕ) (n : ℕ) (more : Row) (x : ℤ × Bind)
    → list_all (holds ((Text desk ∷ Int (pos n) ∷ more) ∷ row_at written_bind x ∷ [])) (is_given 1 0 ∷ is_given 2 1 ∷ []) ≡ is_bind_of desk n x.1
bind_of_tested desk n more x = then_term (texts_tested x.1.desk desk) (last_term (numbers_tested x.1.n n))

pub bind_tested : (desk : List ℕ) (n place : ℕ) (more : Row) (x : ℤ × Bind)
    → list_all (holds ((Text desk ∷ Int (pos n) ∷ Int (pos place) ∷ more) ∷ row_at written_bind x ∷ [])) (is_given 1 0 ∷ is_given 2 1 ∷ is_given 3 2 ∷ []) ≡ is_bind desk n place x.1
bind_tested desk n place more x =
    then_term (texts_tested x.1.desk desk) (then_term (numbers_tested x.1.n n) (last_term (numbers_tested x.1.place place)))
    ∙ sym (and_assoc (same_text x.1.desk desk) (x.1.n == n) (x.1.place == place))

pub lag_of_tested : (desk : List ℕ) (n : ℕ) (more : Row) (x : ℤ × Lag)
    → list_all (holds ((Text desk ∷ Int (pos n) ∷ more) ∷ row_at written_lag x ∷ [])) (is_given 1 0 ∷ is_given 2 1 ∷ []) ≡ is_lag_of desk n x.1
lag_of_tested desk n more x = then_term (texts_tested x.1.desk desk) (last_term (numbers_tested x.1.n n))

pub lag_tested : (desk : List ℕ) (n source target : ℕ) (more : Row) (x : ℤ × Lag)
    → list_all (holds ((Text desk ∷ Int (pos n) ∷ Int (pos source) ∷ Int (pos target) ∷ more) ∷ row_at written_lag x ∷ [])) (is_given 1 0 ∷ is_given 2 1 ∷ is_given 3 2 ∷ is_given 4 3 ∷ [])
    ≡ is_lag desk n source target x.1
lag_tested desk n source target more x =
    then_term (texts_tested x.1.desk desk) (then_term (numbers_tested x.1.n n) (then_term (numbers_tested x.1.source source) (last_term (numbers_tested x.1.target target))))
    ∙ sym (and_assoc (same_text x.1.desk desk) (x.1.n == n) ((x.1.source == source) && (x.1.target == target)))
