-- Words for kinds of columns, in lower case. A letter that isn't ASCII is written as its UTF-8
-- bytes.
use Rattle.std.specs.Prelude.{ℕ, Bool, if◌then◌else◌, List, [], ◌∷◌, ◌++◌, Option, Some, None, codes}
use Rattle.plan_table.specs.declared.header.Column.{Column}
use Rattle.plan_table.specs.declared.header.Column.TheVariants as columns
use Rattle.plan_table.specs.declared.synonyms.Synonym as declared
use Rattle.std.specs.List.{list_any}
use Rattle.plan_table.specs.Cells.{same, same_name}

-- a word for a kind of column
pub record Synonym : Type 0 where
  pub kind : Column
  pub word : List ℕ

-- the same, as the program keeps it
abbrev pub synonym_of : declared.Synonym → Synonym
synonym_of s = record { kind = s.kind; word = s.word.now }

abbrev pub duration : List ℕ → Synonym
duration word = record { kind = columns.Duration; word = word }

abbrev pub id : List ℕ → Synonym
id word = record { kind = columns.Id; word = word }

abbrev pub name : List ℕ → Synonym
name word = record { kind = columns.Name; word = word }

abbrev pub predecessors : List ℕ → Synonym
predecessors word = record { kind = columns.Predecessors; word = word }

-- é, ó, â, ä and û
abbrev pub e_acute : List ℕ
e_acute = 0xC3 ∷ 0xA9 ∷ []

abbrev pub o_acute : List ℕ
o_acute = 0xC3 ∷ 0xB3 ∷ []

abbrev pub a_circumflex : List ℕ
a_circumflex = 0xC3 ∷ 0xA2 ∷ []

abbrev pub a_umlaut : List ℕ
a_umlaut = 0xC3 ∷ 0xA4 ∷ []

abbrev pub u_circumflex : List ℕ
u_circumflex = 0xC3 ∷ 0xBB ∷ []

-- the words in English, German, French and Spanish
abbrev pub synonyms : List Synonym
synonyms =
    duration (codes "days")
    ∷ duration (codes "work days")
    ∷ duration (codes "dauer")
    ∷ duration (codes "dur" ++ e_acute ++ codes "e")
    ∷ duration (codes "duree")
    ∷ duration (codes "duraci" ++ o_acute ++ codes "n")
    ∷ duration (codes "duracion")
    ∷ id (codes "nr")
    ∷ id (codes "nr.")
    ∷ id (codes "no")
    ∷ id (codes "no.")
    ∷ id (codes "number")
    ∷ id (codes "activity id")
    ∷ id (codes "task id")
    ∷ name (codes "task name")
    ∷ name (codes "activity")
    ∷ name (codes "name der aufgabe")
    ∷ name (codes "vorgangsname")
    ∷ name (codes "vorgang")
    ∷ name (codes "bezeichnung")
    ∷ name (codes "nom")
    ∷ name (codes "nom de la t" ++ a_circumflex ++ codes "che")
    ∷ name (codes "t" ++ a_circumflex ++ codes "che")
    ∷ name (codes "nombre")
    ∷ name (codes "nombre de tarea")
    ∷ name (codes "tarea")
    ∷ predecessors (codes "predecessor")
    ∷ predecessors (codes "depends")
    ∷ predecessors (codes "dependencies")
    ∷ predecessors (codes "vorg" ++ a_umlaut ++ codes "nger")
    ∷ predecessors (codes "vorgaenger")
    ∷ predecessors (codes "pr" ++ e_acute ++ codes "d" ++ e_acute ++ codes "cesseurs")
    ∷ predecessors (codes "predecesseurs")
    ∷ predecessors (codes "predecesoras")
    ∷ []

-- words for columns that a plan doesn't use
abbrev pub note_words : List (List ℕ)
note_words =
    codes "note"
    ∷ codes "notes"
    ∷ codes "remark"
    ∷ codes "remarks"
    ∷ codes "comment"
    ∷ codes "comments"
    ∷ codes "description"
    ∷ codes "details"
    ∷ codes "status"
    ∷ codes "priority"
    ∷ codes "start"
    ∷ codes "finish"
    ∷ codes "start date"
    ∷ codes "finish date"
    ∷ codes "begin date"
    ∷ codes "end date"
    ∷ codes "due date"
    ∷ codes "completion"
    ∷ codes "% complete"
    ∷ codes "cost"
    ∷ codes "coordinator"
    ∷ codes "responsible"
    ∷ codes "owner"
    ∷ codes "assignee"
    ∷ codes "web link"
    ∷ codes "bemerkung"
    ∷ codes "bemerkungen"
    ∷ codes "notiz"
    ∷ codes "notizen"
    ∷ codes "kommentar"
    ∷ codes "kommentare"
    ∷ codes "beschreibung"
    ∷ codes "anfang"
    ∷ codes "ende"
    ∷ codes "kosten"
    ∷ codes "verantwortlich"
    ∷ codes "remarque"
    ∷ codes "remarques"
    ∷ codes "commentaire"
    ∷ codes "commentaires"
    ∷ (codes "d" ++ e_acute ++ codes "but")
    ∷ codes "fin"
    ∷ (codes "co" ++ u_circumflex ++ codes "t")
    ∷ codes "responsable"
    ∷ codes "nota"
    ∷ codes "notas"
    ∷ codes "comentario"
    ∷ codes "comentarios"
    ∷ (codes "descripci" ++ o_acute ++ codes "n")
    ∷ codes "inicio"
    ∷ codes "coste"
    ∷ []

-- a header is a word for a column that a plan doesn't use
abbrev pub is_note_word : List ℕ → Bool
is_note_word key = list_any (λ word. same_name word key) note_words

-- words for a column of successors, which a list doesn't have: it has predecessors
abbrev pub successor_words : List (List ℕ)
successor_words = codes "successors" ∷ codes "nachfolger" ∷ codes "successeurs" ∷ codes "sucesoras" ∷ []

-- a header is a word for a column of successors
abbrev pub is_successor_word : List ℕ → Bool
is_successor_word key = list_any (λ word. same_name word key) successor_words

-- words for the id of the row of the capacities
abbrev pub capacity_words : List (List ℕ)
capacity_words =
    codes "capacity"
    ∷ (codes "kapazit" ++ a_umlaut ++ codes "t")
    ∷ codes "kapazitaet"
    ∷ (codes "capacit" ++ e_acute)
    ∷ codes "capacite"
    ∷ codes "capacidad"
    ∷ []

-- an id is a word for the row of the capacities
abbrev pub is_capacity_word : List ℕ → Bool
is_capacity_word id = list_any (λ word. same_name word id) capacity_words

-- the kind of the first of some synonyms with this word
abbrev pub kind_in : List ℕ → List Synonym → Option Column
kind_in key [] = None
kind_in key (s ∷ others) = if same s.word key then Some s.kind else kind_in key others

-- the kind of column that a header is a synonym for
unfoldable pub synonym_kind : List ℕ → Option Column
synonym_kind key = kind_in key synonyms
