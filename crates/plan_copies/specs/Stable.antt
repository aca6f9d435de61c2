-- A copy of a database and its log as of one moment (docs/definitions.md, "Copies of an office").
use Rattle.std.specs.Prelude.{◌≡◌, ◌⊎◌, ℕ, List, [], Option, Some, None, take, IfSome}
use Rattle.plan_copies.specs.Bytes.{AreCopied}

-- all bytes of the reader were written to the writer
abbrev pub IsCopied : {R W : Type 0} → (R → Option (List ℕ)) → (W → Option (List ℕ)) → R → W
    → Type 0
IsCopied remaining taken reader writer =
    (rest : Option (List ℕ)) × (after : Option (List ℕ))
    × AreCopied (remaining reader) rest (taken writer) after

-- the first 32 bytes of the log, if its bytes are known; none if there is no log
abbrev pub IsHeader : {R : Type 0} → (R → Option (List ℕ)) → Option R → List ℕ → Type 0
IsHeader remaining None header = header ≡ []
IsHeader remaining (Some log) header = IfSome (remaining log) (λ bytes. header ≡ take 32 bytes)

-- the log was opened and its header read
abbrev pub ReadsHeader : {O R : Type 0} → (R → Option (List ℕ)) → (O → O → Option R → Type 0)
    → O → O → List ℕ → Type 0
ReadsHeader {O} {R} remaining reads_log old new header =
    (log : Option R) × reads_log old new log × IsHeader remaining log header

module _ {O T R W : Type 0} (remaining : R → Option (List ℕ)) (taken : W → Option (List ℕ)) where
  -- the database was opened, and its bytes were written to a new file
  abbrev pub CopiesDatabase : (O → O → R → Type 0) → (T → T → W → Type 0) → O → O → T → T → Type 0
  CopiesDatabase reads makes old new empty full =
      (reader : R) × (writer : W) × reads old new reader × makes empty full writer
      × IsCopied remaining taken reader writer

  -- the log was opened, and its bytes were written to a new file
  abbrev pub CopiesLog : (O → O → Option R → Type 0) → (T → T → W → Type 0) → O → O → T → T → Type 0
  CopiesLog reads makes old new empty full =
      (reader : R) × (writer : W) × reads old new (Some reader) × makes empty full writer
      × IsCopied remaining taken reader writer

  -- The log was copied if it had a header. Else nothing was done.
  abbrev pub CopiesLogOf : (O → O → Option R → Type 0) → (T → T → W → Type 0) → List ℕ → O → O
      → T → T → Type 0
  CopiesLogOf reads makes header old new empty full =
      ((header ≡ []) × (new ≡ old) × (full ≡ empty)) ⊎ CopiesLog reads makes old new empty full

  module _ (reads_database : O → O → R → Type 0) (reads_log : O → O → Option R → Type 0)
      (makes_database makes_log : T → T → W → Type 0) where
    -- The header of the log was read, the database was copied, then the log if it has a header, and
    -- then the same header was read again.
    pub record IsStable (old new : O) (empty full : T) : Type 0 where
      pub header : List ℕ
      pub read : O
      pub half : O
      pub both : O
      pub database : T
      pub before : ReadsHeader remaining reads_log old read header
      pub first : CopiesDatabase reads_database makes_database read half empty database
      pub second : CopiesLogOf reads_log makes_log header half both database full
      pub again : ReadsHeader remaining reads_log both new header
