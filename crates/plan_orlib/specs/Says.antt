-- The shop of a job shop text, independent of the order in which it is read (docs/definitions.md,
-- "Job shop files").
use Rattle.std.specs.Prelude.{◌≡◌, ℕ, List, [], ◌∷◌, ◌++◌, Some, Ok, length}
use Rattle.std.specs.List.{flat_map}
use Rattle.plan_psplib.specs.Streams.{LineWord, Stream}
use Rattle.plan_psplib.specs.Says.{Spells}
use Rattle.plan_psplib.specs.Plain.{plain}
use Rattle.plan_orlib.specs.declared.steps.Step.{Step}
use Rattle.plan_orlib.specs.Instances.{stream_of}
use Rattle.plan_orlib.specs.Shop.{Shop, IsShop}

-- the numbers of a job: the machine and the time of each of its steps
abbrev pub job_numbers : List Step → List ℕ
job_numbers steps = flat_map (λ step. step.machine ∷ step.time ∷ []) steps

-- the numbers of a shop: the count of jobs, the count of machines, and the numbers of each job
abbrev pub shop_numbers : Shop → List ℕ
shop_numbers shop = length shop.jobs ∷ shop.machines ∷ flat_map job_numbers shop.jobs

-- the words begin with these numbers, one each; others may follow
abbrev pub BeginsWith : List LineWord → List ℕ → Type 0
BeginsWith words numbers = (front rest : List LineWord) × (words ≡ front ++ rest) × Spells front numbers

-- a text describes the shop of a name: the stream of the first instance of that name begins with
-- the shop's numbers, and the shop keeps the limits
pub record Says (name text : List ℕ) (shop : Shop) : Type 0 where
  pub readable : plain text ≡ Ok tt
  pub stream : (s : Stream) × (stream_of name text ≡ Some s) × BeginsWith s.words (shop_numbers shop)
  pub limits : IsShop shop
