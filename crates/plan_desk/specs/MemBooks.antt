-- The rows and the shelf of a book in memory (docs/definitions.md, "Books").
use Rattle.std.specs.Prelude.{◌≡◌, Some}
use Rattle.plan_desk.specs.declared.mem_book.MemBook.{MemBook}
use Rattle.plan_rows.specs.World.{World}
use Rattle.plan_rows.specs.Tables.{world_kept}
use Rattle.plan_rows.specs.Rules.{IsWorld}
use Rattle.plan_rows.specs.Books.{Shelf}
use Rattle.plan_desk.specs.Whole.{whole_of}

-- the rows of its tables
abbrev pub memory_world : MemBook → World
memory_world book = world_kept book.tables

-- The tables are always readable, a call fails only if memory runs out, no disk can fail, and a
-- crash leaves the rows.
abbrev pub memory_shelf : Shelf MemBook
memory_shelf = record {
  world = memory_world;
  stands = λ _. Unit {0};
  honest = λ _. Unit {0};
  can_refuse = ⊥;
  may_leave = λ book w. w ≡ Some (memory_world book);
  made = λ book. book.calls.made;
  refused = λ book. book.calls.refused;
  denials = λ _. 0;
  faults = λ _. 0;
}

-- it keeps the rules of rows
pub memory_whole : (book : MemBook) → IsWorld (memory_world book)
memory_whole book = whole_of (memory_world book) book.whole
