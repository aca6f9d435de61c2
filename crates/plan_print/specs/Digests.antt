-- The digests of files (docs/definitions.md, "Sheets"; FIPS 180-4).
use Rattle.std.specs.Prelude.{ℕ, List, ◌∷◌, ◌++◌}
use Rattle.hex.specs.Hex.{encode_lower}
use Rattle.sha2.specs.Sha256.{sha256}

-- the digest of a project file, in hexadecimal digits
abbrev pub file_digest : List ℕ → List ℕ
file_digest file = encode_lower (sha256 file)

-- the digest of an instance: that of its file, a zero byte, which no file has, and its name
abbrev pub instance_digest : List ℕ → List ℕ → List ℕ
instance_digest file instance = encode_lower (sha256 (file ++ 0 ∷ instance))
