use Rattle.std.proofs.Common.{◌≡◌, map, drop}
use Rattle.plan_table.specs.Synonyms.{kind_in, synonym_of}
use Rattle.plan_table.proofs.synonyms.kind_in.Given as goal

-- the word is among the synonyms that are left
abbrev pub invariant-loop-synonym : goal.invariant-loop-synonym
invariant-loop-synonym l = kind_in l.key (map synonym_of (drop l.synonym-index l.synonyms)) ≡ kind_in l.key (map synonym_of l.synonyms)
