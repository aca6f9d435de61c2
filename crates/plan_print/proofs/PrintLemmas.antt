-- Sheets that are written for the bytes that were read.
use Rattle.std.proofs.Common.{◌≡◌, ℕ, Bool, true, false, List, Option, Some, None, Result, Ok, Err, refl, subst}
use Rattle.std.specs.Prelude.{bytes_eq, codes, if◌then◌else◌}
use denote.Ref.{Bor}
use Rattle.plan_errors.specs.declared.fault.CliFault.{CliFault}
use Rattle.plan_errors.specs.declared.fault.CliFault.TheVariants as cli
use Rattle.plan_cli.specs.Tasks.{AreRead, bytes_named}
use Rattle.plan_cli.specs.NamedTexts.{DoesWith}
use Rattle.plan_documents.specs.declared.documents.Subject.{Subject}
use Rattle.plan_cli.specs.declared.origins.Origin.{Origin}
use Rattle.plan_cli.specs.declared.origins.Origin.TheVariants as origin
use Rattle.plan_spreadsheet.specs.declared.options.Options.{Options}
use Rattle.plan_print.specs.Prints.{PrintsFrom, PrintsNamed, PrintsWith, Prints, sheet_with}
use Rattle.plan_print.specs.declared.prints.NamedOrigin.{NamedOrigin}
use Rattle.plan_print.specs.declared.prints.NamedOrigin.TheVariants as named
use Rattle.plan_print.specs.declared.prints.Print.{Print}
use Rattle.plan_print.specs.declared.sheets.Sheet.{Sheet}

-- a fact about the bytes that were read, for other known bytes and a fact that it implies
does_as : (known other : Option (List ℕ)) (r : Result (Unit {0}) CliFault) (Does Other : Bor (List ℕ) → Type 0)
    → known ≡ other → ((text : Bor (List ℕ)) → Does text → Other text) → DoesWith known r Does → DoesWith other r Other
does_as known other (Ok u) Does Other same implies (text, short, read, does) = (text, short, subst (AreRead text.now) same read, implies text does)
does_as known other (Err (cli.Refused line)) Does Other same implies (text, short, read, does) =
    (text, short, subst (AreRead text.now) same read, implies text does)
does_as known other (Err cli.Memory) Does Other same implies does = tt
does_as known other (Err (cli.Input unread)) Does Other same implies does = tt
does_as known other (Err cli.Output) Does Other same implies (text, short, read, does) =
    (text, short, subst (AreRead text.now) same read, implies text does)

-- the same bytes of the files
abbrev pub AreSame : (List ℕ → Option (List ℕ)) → (List ℕ → Option (List ℕ)) → Type 0
AreSame f g = (name : List ℕ) → f name ≡ g name

from_same : (known other : Option (List ℕ)) (o : Option Options) (s : Sheet) (of : Subject) (from : Option Origin) (taken after : Option (List ℕ))
    (r : Result (Unit {0}) CliFault) → known ≡ other
    → PrintsFrom known o s of from taken after r → PrintsFrom other o s of from taken after r
from_same known other o s of from taken after r same p = subst (λ (k : Option (List ℕ)). PrintsFrom k o s of from taken after r) same p

named_same : (f g : List ℕ → Option (List ℕ)) → AreSame f g
    → (o : Option Options) (s : Sheet) (of : Subject) (from : NamedOrigin) (file : List ℕ) (taken after : Option (List ℕ)) (r : Result (Unit {0}) CliFault)
    → PrintsNamed f o s of from file taken after r → PrintsNamed g o s of from file taken after r
named_same f g same o s of (named.Rule name) file taken after r p = from_same (f file) (g file) o s of (Some (origin.Rule name)) taken after r (same file) p
named_same f g same o s of named.Default file taken after r p = from_same (f file) (g file) o s of None taken after r (same file) p
named_same f g same o s of (named.Starts name) file taken after r p =
    does_as (f name.now) (g name.now) r (λ starts. PrintsFrom (f file) o s of (Some (origin.Starts starts)) taken after r)
    (λ starts. PrintsFrom (g file) o s of (Some (origin.Starts starts)) taken after r) (same name.now)
    (λ starts q. from_same (f file) (g file) o s of (Some (origin.Starts starts)) taken after r (same file) q) p
named_same f g same o s of (named.Solved conflicts) file taken after r p = from_same (f file) (g file) o s of (Some (origin.Solved conflicts)) taken after r (same file) p

with_same : (f g : List ℕ → Option (List ℕ)) → AreSame f g
    → (print : Print) (holidays : Option (Bor (List ℕ))) (taken after : Option (List ℕ)) (r : Result (Unit {0}) CliFault)
    → PrintsWith f print holidays taken after r → PrintsWith g print holidays taken after r
with_same f g same print None taken after r p = named_same f g same print.options print.sheet print.subject print.origin print.file.now taken after r p
with_same f g same print (Some name) taken after r p =
    does_as (f name.now) (g name.now) r
    (λ text. PrintsNamed f print.options (sheet_with print.sheet text) print.subject print.origin print.file.now taken after r)
    (λ text. PrintsNamed g print.options (sheet_with print.sheet text) print.subject print.origin print.file.now taken after r) (same name.now)
    (λ text q. named_same f g same print.options (sheet_with print.sheet text) print.subject print.origin print.file.now taken after r q) p

-- a print does the same for the same bytes
pub prints_same : (f g : List ℕ → Option (List ℕ)) → AreSame f g
    → (print : Print) (taken after : Option (List ℕ)) (r : Result (Unit {0}) CliFault)
    → Prints f print taken after r → Prints g print taken after r
prints_same f g same print taken after r p = with_same f g same print print.holidays taken after r p

-- no bytes are known for either branch
either : (found : Option (List ℕ)) (b : Bool) → (if b then found else found) ≡ found
either found true = refl
either found false = refl

-- no name has known bytes if no file has
pub none_named : AreSame (bytes_named None (λ _. None)) (λ _. None)
none_named name = either None (bytes_eq name (codes "-"))
