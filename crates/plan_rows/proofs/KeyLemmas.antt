-- Rows with the key of a search are alike, so a row is the only one with its key.
use Rattle.std.proofs.Common.{◌≡◌, true, ℕ, sym, ◌∙◌, subst}
use Rattle.std.specs.Prelude.{◌&&◌, ◌==◌}
use Rattle.std.proofs.lemmas.Bool.{and_parts, and_from, eqb-true, eq-eqb}
use Rattle.plan_rows.specs.World.{Text, Published, Desk, Plan, Bind, Lag, same_text, is_code, is_desk, is_plan, is_bind, is_lag}
use Rattle.plan_rows.proofs.OwnerLemmas.{text_from_same, same_text_refl}

-- texts that equal a third text are equal
pub one_text : (t s u : Text) → same_text s t ≡ true → same_text u t ≡ true → same_text s u ≡ true
one_text t s u a b =
    subst (λ z. same_text s z ≡ true) (text_from_same s t a ∙ sym (text_from_same u t b)) (same_text_refl s)

-- two rows of a code
pub one_code : (code : Text) (x y : Published) → is_code code x ≡ true → is_code code y ≡ true → same_text x.code y.code ≡ true
one_code code x y a b = one_text code x.code y.code a b

-- two rows of a desk
pub one_desk : (desk : Text) (x y : Desk) → is_desk desk x ≡ true → is_desk desk y ≡ true → same_text x.desk y.desk ≡ true
one_desk desk x y a b = one_text desk x.desk y.desk a b

one_number : (n a b : ℕ) → (a == n) ≡ true → (b == n) ≡ true → (b == a) ≡ true
one_number n a b e f = eq-eqb b a (eqb-true b n f ∙ sym (eqb-true a n e))

pub one_plan_key : (desk : Text) (n : ℕ) (s t : Text) (a b : ℕ) → (same_text s desk && (a == n)) ≡ true → (same_text t desk && (b == n)) ≡ true
    → (same_text t s && (b == a)) ≡ true
one_plan_key desk n s t a b e f =
    let x = and_parts (same_text s desk) (a == n) e in
    let y = and_parts (same_text t desk) (b == n) f in
    and_from (same_text t s) (b == a) (one_text desk t s y.0 x.0) (one_number n a b x.1 y.1)

-- two rows of a plan
pub one_plan : (desk : Text) (n : ℕ) (x y : Plan) → is_plan desk n x ≡ true → is_plan desk n y ≡ true → is_plan x.desk x.n y ≡ true
one_plan desk n x y a b = one_plan_key desk n x.desk y.desk x.n y.n a b

-- two rows of a place
pub one_bind : (desk : Text) (n place : ℕ) (x y : Bind) → is_bind desk n place x ≡ true → is_bind desk n place y ≡ true → is_bind x.desk x.n x.place y ≡ true
one_bind desk n place x y a b =
    let e = and_parts (same_text x.desk desk && (x.n == n)) (x.place == place) a in
    let f = and_parts (same_text y.desk desk && (y.n == n)) (y.place == place) b in
    and_from (same_text y.desk x.desk && (y.n == x.n)) (y.place == x.place) (one_plan_key desk n x.desk y.desk x.n y.n e.0 f.0) (one_number place x.place y.place e.1 f.1)

-- two rows of an arc
pub one_lag : (desk : Text) (n source target : ℕ) (x y : Lag) → is_lag desk n source target x ≡ true → is_lag desk n source target y ≡ true
    → is_lag x.desk x.n x.source x.target y ≡ true
one_lag desk n source target x y a b =
    let e = and_parts (same_text x.desk desk && (x.n == n)) ((x.source == source) && (x.target == target)) a in
    let f = and_parts (same_text y.desk desk && (y.n == n)) ((y.source == source) && (y.target == target)) b in
    let s = and_parts (x.source == source) (x.target == target) e.1 in
    let t = and_parts (y.source == source) (y.target == target) f.1 in
    and_from (same_text y.desk x.desk && (y.n == x.n)) ((y.source == x.source) && (y.target == x.target)) (one_plan_key desk n x.desk y.desk x.n y.n e.0 f.0)
    (and_from (y.source == x.source) (y.target == x.target) (one_number source x.source y.source s.0 t.0) (one_number target x.target y.target s.1 t.1))
