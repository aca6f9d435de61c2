-- Worked examples, computed from the definitions.
use Rattle.std.proofs.Common.{◌≡◌, ℕ, List, [], ◌∷◌, Ok, Err, codes, refl}
use Rattle.plan_psplib.specs.declared.text.fault.FileCode.TheVariants as code
use Rattle.plan_psplib.specs.Lines.{lines}
use Rattle.plan_psplib.specs.Streams.{words_of}
use Rattle.plan_psplib.specs.Tokens.{number_at, limited, limited_at, duration_at}
use Rattle.plan_psplib.specs.Plain.{plain}
use Rattle.plan_orlib.specs.declared.steps.Step.{Step}
use Rattle.plan_orlib.specs.Instances.{names_of}
use Rattle.plan_orlib.specs.ShopText.{machine_at, step_at, steps_at, jobs_at, shop_at, shop}

abbrev step : ℕ → ℕ → Step
step machine time = record { machine = machine; time = time }

-- ft06 among other words and instances
abbrev collection : List ℕ
collection = codes "a collection of shops\n instance ft06 again\n+++++++++++++++++++++++++++++\ninstance tiny\n+++++++++++++++++++++++++++++\n1 1\n1 1\n0 2\n+++++++++++++++++++++++++++++\ninstance ft06\n+++++++++++++++++++++++++++++\nFisher and Thompson 6x6\n6 6\n2 1 0 3 1 6 3 7 5 3 4 6\n1 8 2 5 4 10 5 10 0 10 3 4\n2 5 3 4 5 8 0 9 1 1 4 7\n1 5 0 5 2 5 3 3 4 8 5 9\n2 9 1 3 4 5 5 4 0 3 3 1\n1 3 3 3 5 9 0 10 4 4 2 1\n+++++++++++++++++++++++++++++\ninstance last\n"

ft06_read : shop (codes "ft06") collection ≡ Ok (record {
  machines = 6;
  jobs = (step 2 1 ∷ step 0 3 ∷ step 1 6 ∷ step 3 7 ∷ step 5 3 ∷ step 4 6 ∷ [])
      ∷ (step 1 8 ∷ step 2 5 ∷ step 4 10 ∷ step 5 10 ∷ step 0 10 ∷ step 3 4 ∷ [])
      ∷ (step 2 5 ∷ step 3 4 ∷ step 5 8 ∷ step 0 9 ∷ step 1 1 ∷ step 4 7 ∷ [])
      ∷ (step 1 5 ∷ step 0 5 ∷ step 2 5 ∷ step 3 3 ∷ step 4 8 ∷ step 5 9 ∷ [])
      ∷ (step 2 9 ∷ step 1 3 ∷ step 4 5 ∷ step 5 4 ∷ step 0 3 ∷ step 3 1 ∷ [])
      ∷ (step 1 3 ∷ step 3 3 ∷ step 5 9 ∷ step 0 10 ∷ step 4 4 ∷ step 2 1 ∷ []) ∷ [];
})
unfolding shop plain shop_at limited_at limited number_at jobs_at steps_at step_at machine_at duration_at
ft06_read = refl

-- a description of two numbers is a description
tiny_read : shop (codes "tiny") collection ≡ Ok (record { machines = 1; jobs = (step 0 2 ∷ []) ∷ [] })
unfolding shop plain shop_at limited_at limited number_at jobs_at steps_at step_at machine_at duration_at
tiny_read = refl

-- a block without words: a word is missing in the instance line
last_empty : shop (codes "last") collection ≡ Err (record { code = code.Count; line = 21 })
unfolding shop plain shop_at limited_at limited number_at jobs_at steps_at step_at machine_at duration_at
last_empty = refl

-- no instance of the name: the last line
other_missing : shop (codes "ft10") collection ≡ Err (record { code = code.NoInstance; line = 21 })
unfolding shop plain shop_at limited_at limited number_at jobs_at steps_at step_at machine_at duration_at
other_missing = refl

collection_names : names_of collection ≡ codes "tiny" ∷ codes "ft06" ∷ codes "last" ∷ []
collection_names = refl

-- two instances of one name: the first is taken, and both are listed
abbrev twice : List ℕ
twice = codes "words\ninstance a\n+++\n\nfirst\n1 2\n0 3 1 2\n+++\ninstance a\nsecond\n1 1\n0 7\n"

first_taken : shop (codes "a") twice ≡ Ok (record { machines = 2; jobs = (step 0 3 ∷ step 1 2 ∷ []) ∷ [] })
unfolding shop plain shop_at limited_at limited number_at jobs_at steps_at step_at machine_at duration_at
first_taken = refl

both_listed : names_of twice ≡ codes "a" ∷ codes "a" ∷ []
both_listed = refl

-- the bare form
abbrev bare : List ℕ
bare = codes "\n 2 2 \n0 3 1 2\n0 2 1 4\n"

bare_read : shop (codes "-") bare ≡ Ok (record { machines = 2; jobs = (step 0 3 ∷ step 1 2 ∷ []) ∷ (step 0 2 ∷ step 1 4 ∷ []) ∷ [] })
unfolding shop plain shop_at limited_at limited number_at jobs_at steps_at step_at machine_at duration_at
bare_read = refl

bare_names : names_of bare ≡ codes "-" ∷ []
bare_names = refl

-- only its own name finds it
bare_other : shop (codes "a") bare ≡ Err (record { code = code.NoInstance; line = 4 })
unfolding shop plain shop_at limited_at limited number_at jobs_at steps_at step_at machine_at duration_at
bare_other = refl

-- machines are numbered from 0
machine_too_great : shop (codes "-") (codes "2 2\n0 3 1 2\n0 2 2 4\n") ≡ Err (record { code = code.BadMachine; line = 3 })
unfolding shop plain shop_at limited_at limited number_at jobs_at steps_at step_at machine_at duration_at
machine_too_great = refl

number_missing : shop (codes "-") (codes "2 2\n0 3 1 2\n0 2 1\n") ≡ Err (record { code = code.Count; line = 3 })
unfolding shop plain shop_at limited_at limited number_at jobs_at steps_at step_at machine_at duration_at
number_missing = refl

-- sizes
no_jobs : shop (codes "-") (codes "0 1\n0 1\n") ≡ Err (record { code = code.Limit; line = 1 })
unfolding shop plain shop_at limited_at limited number_at jobs_at steps_at step_at machine_at duration_at
no_jobs = refl

too_many_jobs : shop (codes "-") (codes "51 1\n0 1\n") ≡ Err (record { code = code.Limit; line = 1 })
unfolding shop plain shop_at limited_at limited number_at jobs_at steps_at step_at machine_at duration_at
too_many_jobs = refl

too_many_machines : shop (codes "-") (codes "50 21\n0 1\n") ≡ Err (record { code = code.Limit; line = 1 })
unfolding shop plain shop_at limited_at limited number_at jobs_at steps_at step_at machine_at duration_at
too_many_machines = refl

-- a time
too_long : shop (codes "-") (codes "1 1\n0 10001\n") ≡ Err (record { code = code.Limit; line = 2 })
unfolding shop plain shop_at limited_at limited number_at jobs_at steps_at step_at machine_at duration_at
too_long = refl

-- the sum of all times
sum_too_great : duration_at 999999 (record { last = 1; words = words_of (lines (codes "2 x")) }) ≡ Err (record { code = code.Limit; line = 1 })
unfolding duration_at number_at
sum_too_great = refl

sum_fits : duration_at 999999 (record { last = 1; words = words_of (lines (codes "1")) }) ≡ Ok (1, record { last = 1; words = [] })
unfolding duration_at number_at
sum_fits = refl

-- the empty text has no last line
empty : shop (codes "a") (codes "") ≡ Err (record { code = code.NoInstance; line = 0 })
unfolding shop plain shop_at limited_at limited number_at jobs_at steps_at step_at machine_at duration_at
empty = refl

-- a carriage return doesn't end a line
one_line : shop (codes "a") (codes "instance a\rd\r1 1\r0 1") ≡ Err (record { code = code.NoInstance; line = 1 })
unfolding shop plain shop_at limited_at limited number_at jobs_at steps_at step_at machine_at duration_at
one_line = refl

-- carriage returns and the end mark are blanks
abbrev returns : List ℕ
returns = codes "instance a\r\nd\r\n1\u{1a}1\r\n0\t1\u{b}\u{c}\r\n"

returns_read : shop (codes "a") returns ≡ Ok (record { machines = 1; jobs = (step 0 1 ∷ []) ∷ [] })
unfolding shop plain shop_at limited_at limited number_at jobs_at steps_at step_at machine_at duration_at
returns_read = refl

-- a plus line in the bare form is a word
bare_plus : shop (codes "-") (codes "1 1\n+\n0 1\n") ≡ Err (record { code = code.BadNumber; line = 2 })
unfolding shop plain shop_at limited_at limited number_at jobs_at steps_at step_at machine_at duration_at
bare_plus = refl

-- words after the bare form are skipped, and no name finds them
abbrev bare_first : List ℕ
bare_first = codes "1 1\n0 5\n+++\ninstance a\nd\n1 1\n0 6\n"

bare_first_read : shop (codes "-") bare_first ≡ Ok (record { machines = 1; jobs = (step 0 5 ∷ []) ∷ [] })
unfolding shop plain shop_at limited_at limited number_at jobs_at steps_at step_at machine_at duration_at
bare_first_read = refl

bare_first_other : shop (codes "a") bare_first ≡ Err (record { code = code.NoInstance; line = 7 })
unfolding shop plain shop_at limited_at limited number_at jobs_at steps_at step_at machine_at duration_at
bare_first_other = refl

-- another name is missing before any fault of the words
bare_fault_unseen : shop (codes "a") (codes "1 1\nx\n") ≡ Err (record { code = code.NoInstance; line = 2 })
unfolding shop plain shop_at limited_at limited number_at jobs_at steps_at step_at machine_at duration_at
bare_fault_unseen = refl

-- an instance may have the name of the bare form
abbrev hyphen : List ℕ
hyphen = codes "instance -\nd\n1 1\n0 4\n"

hyphen_read : shop (codes "-") hyphen ≡ Ok (record { machines = 1; jobs = (step 0 4 ∷ []) ∷ [] })
unfolding shop plain shop_at limited_at limited number_at jobs_at steps_at step_at machine_at duration_at
hyphen_read = refl

hyphen_names : names_of hyphen ≡ codes "-" ∷ []
hyphen_names = refl

-- without a description the line of sizes is taken for one
size_lost : shop (codes "a") (codes "instance a\n+++\n1 1\n0 4\n") ≡ Err (record { code = code.Limit; line = 4 })
unfolding shop plain shop_at limited_at limited number_at jobs_at steps_at step_at machine_at duration_at
size_lost = refl

-- a plus line after the description ends the words
plus_ends : shop (codes "a") (codes "instance a\nd\n1 2\n0 4\n+\n1 5\n") ≡ Err (record { code = code.Count; line = 4 })
unfolding shop plain shop_at limited_at limited number_at jobs_at steps_at step_at machine_at duration_at
plus_ends = refl

-- a blank line isn't taken for one
abbrev blank_inside : List ℕ
blank_inside = codes "instance a\n\nd\n1 2\n\n0 4\n1 5 x\n"

blank_read : shop (codes "a") blank_inside ≡ Ok (record { machines = 2; jobs = (step 0 4 ∷ step 1 5 ∷ []) ∷ [] })
unfolding shop plain shop_at limited_at limited number_at jobs_at steps_at step_at machine_at duration_at
blank_read = refl

-- an instance line ends a block before its description, and isn't one
next_instance : shop (codes "a") (codes "words\ninstance a\ninstance b\nd\n1 1\n0 1\n") ≡ Err (record { code = code.Count; line = 2 })
unfolding shop plain shop_at limited_at limited number_at jobs_at steps_at step_at machine_at duration_at
next_instance = refl

-- a zero byte comes before all but the length
zero_byte : shop (codes "a") (codes "\ninstance a\n\0\n") ≡ Err (record { code = code.NotText; line = 3 })
unfolding shop plain shop_at limited_at limited number_at jobs_at steps_at step_at machine_at duration_at
zero_byte = refl
