-- Capacities are replaced one after the other.
use Rattle.std.proofs.Common.{◌≡◌, ◌∙◌, ◌+◌, ◌<◌, ◌≤◌, ◌++◌, ◌∷◌, [], ℕ, List, Option, Some, None, String, refl, sym, ap, subst, set, get_or, length, map, take, codes, arith}
use Rattle.std.specs.Prelude.{string_bytes}
use Rattle.std.specs.Global.{Global}
use Rattle.std.specs.List.{flat_map, join_by}
use Rattle.std.specs.Option.{option_map}
use Rattle.std.specs.Str.Lossy.{utf8_lossy}
use Rattle.std.proofs.lemmas.List.{take_more, length-set, map-append, length-map}
use Rattle.plan_table.specs.Names.{Name, first_name}
use Rattle.plan_errors.specs.Faults.{IsAbout, with_detail}
use Rattle.plan_errors.specs.Output.{Refuses}
use Rattle.plan_errors.specs.declared.context.About.{About}
use Rattle.plan_errors.specs.declared.fault.CliFault.{CliFault}
use Rattle.plan_errors.specs.declared.fault.CliFault.TheVariants as cli
use Rattle.plan_errors.proofs.RefusalLemmas.{detail_refuses, detail_about}
use Rattle.plan_documents.specs.declared.capacities.Capacity.{Capacity}
use Rattle.plan_documents.specs.Capacities.{AreShown, IsNameOf, IsResourcesText, NamesResources, Replaces, named_text, shown_name}

-- the list keeps its length
pub replaced_length : (names : List Name) (given : List Capacity) (before after : List ℕ) → Replaces names given before after
    → length after ≡ length before
replaced_length names [] before after same = ap length same
replaced_length names (first ∷ more) before after (k, within, named, rest) =
    replaced_length names more (set before k first.amount) after rest ∙ length-set before k first.amount

-- after some capacities have replaced theirs, one more does
pub replaced_next : (names : List Name) (given : List Capacity) (c : Capacity) (k : ℕ) (before mid : List ℕ)
    → Replaces names given before mid → k < length mid → IsNameOf names (length mid) k c.resource.now
    → Replaces names (given ++ c ∷ []) before (set mid k c.amount)
replaced_next names [] c k before mid same inside named = (
  k,
  subst (λ (l : List ℕ). k < length l) same inside,
  subst (λ (l : List ℕ). IsNameOf names (length l) k c.resource.now) same named,
  ap (λ (l : List ℕ). set l k c.amount) same,
)
replaced_next names (first ∷ more) c k before mid (j, within, is, rest) inside named =
    (j, within, is, replaced_next names more c k (set before j first.amount) mid rest inside named)

-- after those before an index have replaced theirs, that at the index does
pub replaced_more : (names : List Name) (given : List Capacity) (i : ℕ) (d : Capacity) (k : ℕ) (before mid : List ℕ)
    → i < length given → Replaces names (take i given) before mid → k < length mid
    → IsNameOf names (length mid) k (get_or given i d).resource.now
    → Replaces names (take (i + 1) given) before (set mid k (get_or given i d).amount)
replaced_more names given i d k before mid low so_far inside named =
    subst (λ (g : List Capacity). Replaces names g before (set mid k (get_or given i d).amount)) (sym (take_more given i d low))
    (replaced_next names (take i given) (get_or given i d) k before mid so_far inside named)

-- a name that the file gives is shown
lossy_some : (o : Option Name) (name : List ℕ) → option_map (λ f. f.name) o ≡ Some name
    → option_map (λ f. utf8_lossy f.name) o ≡ Some (utf8_lossy name)
lossy_some None name is = absurd (cc is)
lossy_some (Some f) name is = ap (λ (o : Option (List ℕ)). option_map utf8_lossy o) is

no_name : (o : Option Name) → option_map (λ f. f.name) o ≡ None → o ≡ None
no_name None is = refl
no_name (Some f) is = absurd (cc is)

pub unnamed : (names : List Name) (number : ℕ) → option_map (λ f. f.name) (first_name number names) ≡ None
    → first_name number names ≡ None
unnamed names number is = no_name (first_name number names) is

-- one more name behind others
shown_behind : (names : List Name) (number : ℕ) (shown : List (List ℕ)) (name : List ℕ)
    → AreShown names number shown → shown_name names (number + length shown) ≡ Some name
    → AreShown names number (shown ++ name ∷ [])
shown_behind names number [] name are is =
    (subst (λ (n : ℕ). shown_name names n ≡ Some name) (omega arith) is, tt)
shown_behind names number (first ∷ more) name are is = (
  are.0,
  shown_behind names (number + 1) more name are.1
      (subst (λ (n : ℕ). shown_name names n ≡ Some name) (omega arith) is),
)

-- the names of one more resource
pub shown_more : (names : List Name) (k : ℕ) (items : List (String Global)) (text : String Global) (name : List ℕ)
    → length items ≡ k → AreShown names 1 (map string_bytes items)
    → option_map (λ f. f.name) (first_name (k + 1) names) ≡ Some name → string_bytes text ≡ utf8_lossy name
    → AreShown names 1 (map string_bytes (items ++ text ∷ []))
shown_more names k items text name size are is same =
    let place : k + 1 ≡ 1 + length (map string_bytes items) = omega (arith, length-map items string_bytes) in
    let shown : shown_name names (k + 1) ≡ Some (string_bytes text) = lossy_some (first_name (k + 1) names) name is ∙ ap Some (sym same) in
    subst (λ (list : List (List ℕ)). AreShown names 1 list) (sym (map-append string_bytes items (text ∷ [])))
    (shown_behind names 1 (map string_bytes items) (string_bytes text) are
    (subst (λ (n : ℕ). shown_name names n ≡ Some (string_bytes text)) place shown))

joined_behind : (sep : List ℕ) (texts : List (String Global))
    → flat_map (λ text. sep ++ string_bytes text) texts ≡ flat_map (λ text. sep ++ text) (map string_bytes texts)
joined_behind sep [] = refl
joined_behind sep (text ∷ texts) = ap (λ (rest : List ℕ). (sep ++ string_bytes text) ++ rest) (joined_behind sep texts)

-- texts with a separator between them
pub texts_joined : (sep : List ℕ) (texts : List (String Global))
    → join_by string_bytes sep texts ≡ join_by (λ text. text) sep (map string_bytes texts)
texts_joined sep [] = refl
texts_joined sep (text ∷ texts) = ap (λ (rest : List ℕ). string_bytes text ++ rest) (joined_behind sep texts)

-- two names or more
pub names_text : (names : List (String Global)) (text : List ℕ) → 2 ≤ length names
    → text ≡ codes "the resources are " ++ join_by string_bytes (codes ", ") names
    → text ≡ named_text (map string_bytes names)
names_text [] text many is = absurd (omega (arith, many))
names_text (only ∷ []) text many is = absurd (omega (arith, many))
names_text (first ∷ second ∷ more) text many is =
    is ∙ ap (λ (list : List ℕ). codes "the resources are " ++ list) (texts_joined (codes ", ") (first ∷ second ∷ more))

-- the resources that there are don't change the line of an error
pub unknown_told : (IsLine : List ℕ → Type 0) (detail : Option (String Global)) (plain e : CliFault)
    → e ≡ with_detail detail plain → Refuses IsLine plain → Refuses IsLine e
unknown_told IsLine detail plain e is refuses = subst (λ (f : CliFault). Refuses IsLine f) (sym is) (detail_refuses IsLine detail plain refuses)

pub unknown_about : (about : About) (detail : Option (String Global)) (plain e : CliFault)
    → e ≡ with_detail detail plain → IsAbout about plain → IsAbout about e
unknown_about about detail plain e is same = subst (λ (f : CliFault). IsAbout about f) (sym is) (detail_about about detail plain same)

with_resources : (names : List Name) (count : ℕ) (about : About) (text : String Global) (plain : CliFault)
    → IsAbout about plain → IsResourcesText names count (string_bytes text)
    → NamesResources names count (with_detail (Some text) plain)
with_resources names count about text (cli.Refused refusal) same named = named
with_resources names count about text cli.Memory same named = tt
with_resources names count about text (cli.Input unread) same named = absurd same
with_resources names count about text cli.Output same named = absurd same

-- they are in it
pub unknown_named : (names : List Name) (count : ℕ) (about : About) (text : String Global) (plain e : CliFault)
    → e ≡ with_detail (Some text) plain → IsAbout about plain → IsResourcesText names count (string_bytes text)
    → NamesResources names count e
unknown_named names count about text plain e is same named =
    subst (λ (f : CliFault). NamesResources names count f) (sym is) (with_resources names count about text plain same named)
