-- Lemmas on the list that options make of a file.
use Rattle.std.proofs.Common.{◌≡◌, ◌⊎◌, inl, inr, ℕ, Bool, true, false, List, Some, Vec, Result, Ok, Err, sym, ap, ◌∙◌, subst}
use Rattle.std.specs.declared.alloc.Global.{Global}
use Rattle.plan_encoding.specs.declared.text.Decoded.{Decoded}
use Rattle.plan_encoding.specs.declared.encoding.Encoding.{Encoding}
use Rattle.plan_encoding.specs.Encodings.{encoding, utf8_of}
use Rattle.plan_encoding.specs.Texts as decoded
use Rattle.plan_table.specs.Csv.{Row}
use Rattle.plan_table.specs.Kinds.{Decides}
use Rattle.plan_table.specs.Listing.{rows_read}
use Rattle.plan_table.specs.Overrides.{Override}
use Rattle.plan_table.specs.Reading.{Fault}
use Rattle.plan_spreadsheet.specs.declared.fault.SpreadsheetFault.TheVariants as faults
use Rattle.plan_spreadsheet.specs.declared.optioned.OptionedList.{OptionedList}
use Rattle.plan_spreadsheet.specs.declared.prepared.OptionsFault.{OptionsFault}
use Rattle.plan_spreadsheet.specs.declared.prepared.OptionsFault.TheVariants as refusal
use Rattle.plan_spreadsheet.specs.OptionedLists.{IsNoneBy, IsNoneOf, IsNotOptioned, IsOptioned, IsOptionedBy, IsOptionedOf, staying}
use Rattle.plan_spreadsheet.specs.Options.{Options, prepared}
use Rattle.plan_spreadsheet.specs.PreparedLists.{HasHeaders, IsUntouched}
use Rattle.plan_spreadsheet.specs.Rows.{Spells, filled}

no_so : {A : Type 0} → true ≡ false → A
no_so h = let no : ⊥ = cc h in absurd no

decided_yes : (b : Bool) (P : Type 0) → Decides b P → b ≡ true → P
decided_yes true P is h = is
decided_yes false P is h = no_so (sym h)

decided_no : (b : Bool) (P : Type 0) → Decides b P → b ≡ false → P → ⊥
decided_no true P is h p = no_so h
decided_no false P other h p = other p

-- rows become the list of their text
pub list_made : (o : Options) (overrides : List Override) (e : Encoding) (rows new given : List Row) (text : Vec ℕ Global) (list : OptionedList)
    → HasHeaders o rows → given ≡ new → new ≡ prepared o overrides rows → Spells text.items given
    → list ≡ record { text = Some text; encoding = e } → IsOptionedOf o overrides e rows list
list_made o overrides e rows new given text list has deref is spells made =
    (has, (text, subst (Spells text.items) (deref ∙ is) spells, made))

abbrev pub IsMemory : OptionsFault → Type 0
IsMemory e = e ≡ refusal.Plain faults.Memory

-- the rows of a file
pub optioned_rows : (o : Options) (overrides : List Override) (bytes text : List ℕ) (d : Decoded) (rows all : List Row) (list : OptionedList)
    → text ≡ decoded.text_in d bytes → decoded.text_in d bytes ≡ utf8_of bytes → d.encoding ≡ encoding bytes
    → rows_read text ≡ Ok rows → all ≡ filled rows → IsOptionedOf o overrides d.encoding all list
    → IsOptionedBy o overrides bytes (rows_read (utf8_of bytes)) list
optioned_rows o overrides bytes text d rows all list has is code read full made =
    subst (λ r. IsOptionedBy o overrides bytes r list) (sym read ∙ ap rows_read (has ∙ is))
    (subst (λ e. IsOptionedOf o overrides e (filled rows) list) code (subst (λ xs. IsOptionedOf o overrides d.encoding xs list) full made))

-- a text without records
pub optioned_text : (o : Options) (overrides : List Override) (bytes text : List ℕ) (d : Decoded) (fault : Fault) (list : OptionedList)
    → text ≡ decoded.text_in d bytes → decoded.text_in d bytes ≡ utf8_of bytes → rows_read text ≡ Err fault
    → list ≡ staying → IsOptionedBy o overrides bytes (rows_read (utf8_of bytes)) list
optioned_text o overrides bytes text d fault list has is read stays =
    subst (λ r. IsOptionedBy o overrides bytes r list) (sym read ∙ ap rows_read (has ∙ is)) stays

pub no_rows : (o : Options) (bytes text : List ℕ) (d : Decoded) (rows all : List Row) (e : OptionsFault)
    → text ≡ decoded.text_in d bytes → decoded.text_in d bytes ≡ utf8_of bytes → rows_read text ≡ Ok rows → all ≡ filled rows
    → IsMemory e ⊎ IsNoneOf o all e → IsMemory e ⊎ IsNoneBy o (rows_read (utf8_of bytes)) e
no_rows o bytes text d rows all e has is read full (inl memory) = inl memory
no_rows o bytes text d rows all e has is read full (inr none) =
    inr (subst (λ r. IsNoneBy o r e) (sym read ∙ ap rows_read (has ∙ is)) (subst (λ xs. IsNoneOf o xs e) full none))

-- the list that a file becomes, or its error
pub untouched_list : (o : Options) (overrides : List Override) (bytes : List ℕ) (list : OptionedList) (is : Bool)
    → Decides is (IsUntouched o bytes) → is ≡ true → list ≡ staying → IsOptioned o overrides bytes list
untouched_list o overrides bytes list is given h stays = inl (decided_yes is (IsUntouched o bytes) given h, stays)

pub touched_list : (o : Options) (overrides : List Override) (bytes : List ℕ) (list : OptionedList) (is : Bool)
    → Decides is (IsUntouched o bytes) → is ≡ false → IsOptionedBy o overrides bytes (rows_read (utf8_of bytes)) list
    → IsOptioned o overrides bytes list
touched_list o overrides bytes list is given h made = inr (decided_no is (IsUntouched o bytes) given h, made)

pub touched_refused : (o : Options) (bytes : List ℕ) (e : OptionsFault) (is : Bool)
    → Decides is (IsUntouched o bytes) → is ≡ false → IsMemory e ⊎ IsNoneBy o (rows_read (utf8_of bytes)) e
    → IsNotOptioned o bytes e
touched_refused o bytes e is given h (inl memory) = inl memory
touched_refused o bytes e is given h (inr none) = inr (decided_no is (IsUntouched o bytes) given h, none)
