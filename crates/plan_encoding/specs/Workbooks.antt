-- Files that are workbooks, by their first bytes and the names in them. See specs/README.md.
use Rattle.std.specs.Prelude.{ℕ, ◌||◌, List, [], ◌∷◌, drop, codes, Option, Some, None, if◌then◌else◌}
use Rattle.plan_encoding.specs.Marks.{begins, occurs}
use Rattle.plan_encoding.specs.declared.workbook.Workbook.{Workbook}
use Rattle.plan_encoding.specs.declared.workbook.Workbook.TheVariants.{Excel, OldExcel, OpenDocument, Project}

-- the first bytes of a ZIP file: those of the header of its first entry (APPNOTE.TXT, 4.3.7)
abbrev pub zip_mark : List ℕ
zip_mark = 0x50 ∷ 0x4B ∷ 0x03 ∷ 0x04 ∷ []

-- the first bytes of a compound file (MS-CFB, 2.2)
abbrev pub compound_mark : List ℕ
compound_mark = 0xD0 ∷ 0xCF ∷ 0x11 ∷ 0xE0 ∷ 0xA1 ∷ 0xB1 ∷ 0x1A ∷ 0xE1 ∷ []

-- the name of the first entry of a ZIP file, and what follows it: its header has 30 bytes
abbrev pub first_entry : List ℕ → List ℕ
first_entry bytes = drop 30 bytes

-- the form of a ZIP file. An OpenDocument file begins with its media type, stored as it is
-- (OpenDocument 1.2, part 3, 3.3); a package of Office Open XML names the types of its parts (ISO
-- 29500-2)
unfoldable pub archive : List ℕ → Option Workbook
archive bytes =
    if begins (first_entry bytes) (codes "mimetypeapplication/vnd.oasis.opendocument")
    then Some OpenDocument
    else if begins (first_entry bytes) (codes "xl/") || occurs bytes (codes "[Content_Types].xml")
    then Some Excel
    else None

-- the form of a file that isn't a text
unfoldable pub workbook : List ℕ → Option Workbook
workbook bytes =
    if begins bytes zip_mark then archive bytes
    else if begins bytes compound_mark
    then Some (if occurs bytes (codes "MSProject.") then Project else OldExcel)
    else None
