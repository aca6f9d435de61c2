-- Lines of ids and names in a project file: the project reader skips them.
use Rattle.std.specs.Prelude.{◌≡◌, ◌≢◌, ℕ, ◌≤◌, ◌||◌, Bool, true, List, ◌∷◌, ◌++◌, All, length, not}
use Rattle.std.specs.List.{list_all}
use Rattle.plan_psplib.specs.Lines.{raw_lines, trim}
use Rattle.plan_psplib.specs.Plain.{longest_text}
use Rattle.plan_psplib.specs.Project.{Project, SaysProject}
use Rattle.plan_psplib.specs.Sections.{begins_with, information_title, is_title}
use Rattle.plan_table.specs.Names.{activity_key, id_key, resource_key}

-- a line of an id or a name
abbrev pub is_name_line : List ℕ → Bool
is_name_line line = begins_with line activity_key || begins_with line resource_key || begins_with line id_key

-- the last title of lines is that of an information section
pub record EndInInformation (ls : List (List ℕ)) : Type 0 where
  pub before : List (List ℕ)
  pub title : List ℕ
  pub behind : List (List ℕ)
  pub parts : ls ≡ before ++ title ∷ behind
  pub named : begins_with (trim title) information_title ≡ true
  pub last : list_all (λ l. not (is_title (trim l))) behind ≡ true

-- a text is another one with one line more, an id or a name in an information section
pub record HasNameLine (other text : List ℕ) : Type 0 where
  pub front : List (List ℕ)
  pub line : List ℕ
  pub back : List (List ℕ)
  pub without : raw_lines other ≡ front ++ back
  pub whole : raw_lines text ≡ front ++ line ∷ back
  pub section : EndInInformation front
  pub names : is_name_line (trim line) ≡ true

-- a text is short enough to be read and has no zero byte
abbrev pub IsReadable : List ℕ → Type 0
IsReadable text = (length text ≤ longest_text) × All (λ byte. byte ≢ 0) text

-- a line of an id or a name changes nothing of the project that a text says
unfoldable pub NameLinesChangeNothing : Type 0
NameLinesChangeNothing = (other text : List ℕ) (p : Project) → HasNameLine other text → IsReadable other → IsReadable text →
    (SaysProject other p → SaysProject text p) × (SaysProject text p → SaysProject other p)
