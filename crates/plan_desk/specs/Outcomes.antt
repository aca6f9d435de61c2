-- The vocabulary of the routes: an outcome is a relation of replies and changes
-- (docs/definitions.md, "Desks").
use Rattle.std.specs.Prelude.{◌≡◌, ◌⊎◌, ℕ, Bool, true, false, Option, Some, None}
use Rattle.plan_rows.specs.World.{Text}
use Rattle.plan_rows.specs.Changes.{Change, Keep}
use Rattle.plan_desk.specs.Calls.{Reply, answer, page}

abbrev pub Outcome : Type 1
Outcome = Reply → Change → Type 0

-- this refusal, and nothing changes
unfoldable pub refuses : Reply → Outcome
refuses refusal reply change = (reply ≡ refusal) × (change ≡ Keep)

-- this answer in JSON, and nothing changes
unfoldable pub tells : Text → Outcome
tells text reply change = (reply ≡ answer 200 text) × (change ≡ Keep)

-- a page whose text has this property, and nothing changes
unfoldable pub shows : (Text → Type 0) → Outcome
shows IsText reply change = (text : Text) × IsText text × (reply ≡ page text) × (change ≡ Keep)

-- this answer in JSON, with a change
unfoldable pub makes : ℕ → Text → Change → Outcome
makes status text made reply change = (reply ≡ answer status text) × (change ≡ made)

-- a refusal if the test holds, else the rest
unfoldable pub unless : Bool → Reply → Outcome → Outcome
unless true refusal Rest = refuses refusal
unless false refusal Rest = Rest

-- a refusal if there is no value, else the rest for the value
unfoldable pub given : {A : Type 0} → Option A → Reply → (A → Outcome) → Outcome
given None refusal Rest = refuses refusal
given (Some x) refusal Rest = Rest x

-- the rest for a value with this property
unfoldable pub some : {A : Type 0} → (A → Type 0) → (A → Outcome) → Outcome
some {A} P Rest reply change = (x : A) × P x × Rest x reply change

-- a refusal whose text gives the cause, or the rest for a value: never both
unfoldable pub why_or : {A : Type 0} → (Text → Type 0) → (Text → Reply) → (A → Type 0)
    → (A → Outcome) → Outcome
why_or Tells refusal P Rest reply change =
    some Tells (λ line. refuses (refusal line)) reply change ⊎ some P Rest reply change
