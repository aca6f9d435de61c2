-- The plain list of a file.
use Rattle.std.proofs.Common.{◌≡◌, ◌⊎◌, inl, inr, ℕ, List, [], Option, Some, None, Vec, Result, Ok, Err, map, refl, sym, ap, ◌∙◌, subst}
use Rattle.std.specs.Prelude.{IfSome, IsNone}
use Rattle.std.specs.Option.{option_map_or}
use Rattle.std.specs.String.{string_bytes}
use Rattle.std.specs.declared.alloc.Global.{Global}
use Rattle.plan_encoding.specs.declared.text.Decoded.{Decoded}
use Rattle.plan_encoding.specs.Encodings.{encoding, utf8_of}
use Rattle.plan_encoding.specs.Texts as decoded
use Rattle.plan_encoding.specs.Workbooks.{workbook}
use Rattle.plan_encoding.specs.declared.workbook.Workbook.{Workbook}
use Rattle.plan_table.specs.declared.kinds.ListKind.{ListKind}
use Rattle.plan_table.specs.Csv.{Row}
use Rattle.plan_table.specs.Kinds.{IsKind}
use Rattle.plan_table.specs.Listing.{rows_read}
use Rattle.plan_table.specs.Overrides.{Override}
use Rattle.plan_table.specs.Reading.{Fault}
use Rattle.plan_spreadsheet.specs.declared.fault.SpreadsheetFault.{SpreadsheetFault}
use Rattle.plan_spreadsheet.specs.declared.list.PlainList.{PlainList}
use Rattle.plan_spreadsheet.specs.declared.rewriting.Rewriting.{Rewriting}
use Rattle.plan_spreadsheet.specs.PlainLists.{IsDecoded, IsNoPlain, IsNoText, IsPlain, IsReadable, IsRefused, IsRewritten, IsTextOf, IsUnrewritten, IsUnwritten, KeepsAccepted, KeepsFiles, Stays, fault_of, joined, or_else, text_in, text_of}
use Rattle.plan_spreadsheet.proofs.AcceptanceLemmas.{not_refused}
use Rattle.plan_spreadsheet.specs.PlainRows.{ignored_headers, plain_rows}
use Rattle.plan_spreadsheet.specs.Rows.{Spells, filled}

-- a text that is no list
pub stays_if : (overrides : List Override) (bytes text : List ℕ) (kind : Option ListKind) (d : Decoded) (p : PlainList)
    → text ≡ decoded.text_in d bytes → decoded.text_in d bytes ≡ utf8_of bytes → IsKind text kind → kind ≡ None → Stays p
    → IsDecoded overrides bytes p
stays_if overrides bytes text kind d p has is listed none stays =
    (None, subst (λ t. IsKind t None) (has ∙ is) (subst (λ k. IsKind text k) none listed), stays)

text_joined : (new old : Option (Vec ℕ Global)) (bytes : List ℕ)
    → option_map_or (λ t. t.items) (or_else new old) bytes
    ≡ option_map_or (λ t. t.items) new (option_map_or (λ t. t.items) old bytes)
text_joined (Some t) old bytes = refl
text_joined None old bytes = refl

-- a list, decoded and rewritten
pub becomes_if : (overrides : List Override) (bytes text : List ℕ) (kind : Option ListKind) (k : ListKind) (d : Decoded)
    (r : Rewriting) (p : PlainList) → text ≡ decoded.text_in d bytes → decoded.text_in d bytes ≡ utf8_of bytes
    → d.encoding ≡ encoding bytes → IsKind text kind → kind ≡ Some k → IsTextOf k overrides text r → p ≡ joined d r
    → IsDecoded overrides bytes p
becomes_if overrides bytes text kind k d r p has is code listed some becomes made =
    subst (λ (x : PlainList). IsDecoded overrides bytes x) (sym made) (
      Some k,
      subst (λ t. IsKind t (Some k)) (has ∙ is) (subst (λ o. IsKind text o) some listed),
      (
        code,
        (
          r,
          subst (λ t. IsTextOf k overrides t r) (has ∙ is) becomes,
          text_joined r.text d.text bytes ∙ ap (λ t. text_in r t) is,
          refl,
        ),
      ),
    )

spelt_by : (new : Option (Vec ℕ Global)) (text : List ℕ) (found rows : List Row) → rows_read text ≡ Ok found
    → IfSome new (λ t. Spells t.items rows) → (IsNone new → filled found ≡ rows)
    → Spells (option_map_or (λ t. t.items) new text) rows
spelt_by (Some t) text found rows is some none = some
spelt_by None text found rows is some none = (found, is, none refl)

-- a list with rows is rewritten
pub rewritten : (overrides : List Override) (text : List ℕ) (rows : List Row) (r : Rewriting) → rows_read text ≡ Ok rows
    → IfSome r.text (λ t. Spells t.items (plain_rows overrides rows))
    → (IsNone r.text → filled rows ≡ plain_rows overrides rows)
    → map string_bytes r.ignored.items ≡ ignored_headers overrides rows
    → IsRewritten overrides text (rows_read text) r
rewritten overrides text rows r is some none ignored =
    subst (λ read. IsRewritten overrides text read r) (sym is)
    (spelt_by r.text text rows (plain_rows overrides rows) is some none, ignored)

-- a text without rows stays
pub unread : (overrides : List Override) (text : List ℕ) (fault : Fault) (r : Rewriting) → rows_read text ≡ Err fault
    → IsNone r.text → r.ignored.items ≡ [] → IsRewritten overrides text (rows_read text) r
unread overrides text fault r is none empty = subst (λ read. IsRewritten overrides text read r) (sym is) (none, empty)

-- a list with rows can't be rewritten if its plain rows can't be written
pub unrewritten : (overrides : List Override) (text : List ℕ) (rows : List Row) (fault : SpreadsheetFault) → rows_read text ≡ Ok rows
    → IsUnwritten (plain_rows overrides rows) fault → IsUnrewritten overrides (rows_read text) fault
unrewritten overrides text rows fault is none = subst (λ read. IsUnrewritten overrides read fault) (sym is) (by_fault none)
  where
    by_fault : IsUnwritten (plain_rows overrides rows) fault → IsUnrewritten overrides (Ok rows) fault
    by_fault (inl memory) = inl memory
    by_fault (inr long) = inr long

-- a list that is refused can have no text
pub no_text : (overrides : List Override) (text : List ℕ) (fault : SpreadsheetFault) → IsRefused overrides text
    → IsUnrewritten overrides (rows_read text) fault → IsNoText overrides text fault
no_text overrides text fault refused (inl memory) = inl memory
no_text overrides text fault refused (inr long) = inr (long.0, refused, long.1)

-- the same for the text of a file
pub no_text_of : (overrides : List Override) (bytes text : List ℕ) (d : Decoded) (fault : SpreadsheetFault)
    → text ≡ decoded.text_in d bytes → decoded.text_in d bytes ≡ utf8_of bytes → IsNoText overrides text fault
    → IsNoText overrides (utf8_of bytes) fault
no_text_of overrides bytes text d fault has is none = subst (λ t. IsNoText overrides t fault) (has ∙ is) none

-- a file that can be read stays
pub plain_stays : (overrides : List Override) (bytes : List ℕ) (p : PlainList) → IsReadable overrides bytes → Stays p
    → IsPlain overrides bytes p
plain_stays overrides bytes p readable stays = inl (readable, stays)

-- another one is decoded
pub plain_decoded : (overrides : List Override) (bytes : List ℕ) (p : PlainList) → (IsReadable overrides bytes → ⊥)
    → workbook bytes ≡ None → IsDecoded overrides bytes p → IsPlain overrides bytes p
plain_decoded overrides bytes p unreadable none is = inr (unreadable, none, is)

-- or refused
pub no_plain_book : (overrides : List Override) (bytes : List ℕ) (book : Workbook) (fault : SpreadsheetFault)
    → (IsReadable overrides bytes → ⊥) → workbook bytes ≡ Some book → fault ≡ fault_of book
    → IsNoPlain overrides bytes fault
no_plain_book overrides bytes book fault unreadable is names = inr (unreadable, (book, is, names))

pub no_plain_text : (overrides : List Override) (bytes : List ℕ) (fault : SpreadsheetFault)
    → IsNoText overrides (utf8_of bytes) fault → IsNoPlain overrides bytes fault
no_plain_text overrides bytes fault none = inl none

-- a file that is accepted can be read
pub keeps_accepted : (overrides : List Override) (bytes : List ℕ) (p : PlainList) → (IsReadable overrides bytes → ⊥)
    → KeepsAccepted overrides bytes p
keeps_accepted overrides bytes p unreadable t is = absurd (unreadable (inr (not_refused overrides bytes t is)))

pub keeps_files : (overrides : List Override) (bytes : List ℕ) (p : PlainList) → (IsReadable overrides bytes → ⊥)
    → KeepsFiles bytes p
keeps_files overrides bytes p unreadable file = absurd (unreadable (inl file))
