-- An instance is found by exactly the names that are listed.
use Rattle.std.proofs.Common.{◌≡◌, ◌≢◌, ℕ, zero, suc, ◌+◌, ◌&&◌, Bool, true, false, List, [], ◌∷◌, ◌++◌, Option, Some, None, Result, Ok, Err, length, refl, sym, ap, ◌∙◌, ◌⊎◌, inl, inr, subst, arith}
use Rattle.std.specs.Prelude.{Contains, if◌then◌else◌, nat_le, nat_lt}
use Rattle.std.specs.List.{filter_map, cons_option}
use Rattle.std.specs.Str.{bytes_eq}
use Rattle.std.proofs.lemmas.Slice.Eq.{bytes_eq-Decides}
use Rattle.plan_psplib.specs.declared.text.fault.FileCode.{FileCode}
use Rattle.plan_psplib.specs.declared.text.fault.FileCode.TheVariants as code
use Rattle.plan_psplib.specs.declared.text.fault.Fault.{Fault}
use Rattle.plan_psplib.specs.declared.text.fault.FileFault.{FileFault}
use Rattle.plan_psplib.specs.declared.text.fault.ReadError.{ReadError}
use Rattle.plan_psplib.specs.declared.text.fault.ReadError.TheVariants as errors
use Rattle.plan_psplib.specs.Faults.{TellsError}
use Rattle.plan_psplib.specs.Lines.{NumberedLine, last_line, lines}
use Rattle.plan_psplib.specs.Numbers.{number}
use Rattle.plan_psplib.specs.Streams.{LineWord, Stream}
use Rattle.plan_psplib.specs.Tokens.{◌>>=◌, Fails, fault, check, as_number, number_of_words, number_at, limited, limited_at, greatest, greatest_total, duration_at}
use Rattle.plan_psplib.specs.Plain.{longest_text, zero_line, no_zero, plain}
use Rattle.plan_psplib.proofs.GoesLemmas.{then_ok}
use Rattle.plan_orlib.specs.declared.steps.Step.{Step}
use Rattle.plan_orlib.specs.Instances.{instance_name, is_name, block, block_from, is_bare, bare_name, bare_stream, stream_of, names_of}
use Rattle.plan_orlib.specs.Shop.{Shop, most_jobs, most_machines, time_of, total_time}
use Rattle.plan_orlib.specs.ShopText.{machine_at, step_at, steps_at, jobs_at, shop_at, found_stream, located, shop}
use Rattle.plan_orlib.proofs.TextLemmas.{stream_is}

abbrev all_names : List NumberedLine → List (List ℕ)
all_names all = filter_map (λ line. instance_name line.text) all

here : {X : Type 0} (x y : X) (xs : List X) → x ≡ y → Contains (x ∷ xs) y
here x y xs e = (0, omega arith, e)

later : {X : Type 0} (x y : X) (xs : List X) → Contains xs y → Contains (x ∷ xs) y
later x y xs h = let below = h.1 in (suc h.0, omega (arith, below), h.2)

first_or_later : {X : Type 0} (x y : X) (xs : List X) → Contains (x ∷ xs) y → (x ≡ y) ⊎ Contains xs y
first_or_later x y xs (zero, below, is) = inl is
first_or_later x y xs (suc k, below, is) = inr (k, omega (arith, below), is)

same_name : (other name : List ℕ) → bytes_eq other name ≡ true → other ≡ name
same_name other name e = (bytes_eq-Decides other name).0 e

name_same : (other name : List ℕ) → other ≡ name → bytes_eq other name ≡ true
name_same other name e = (bytes_eq-Decides other name).1 e

-- ---- blocks

block_listed : (name : List ℕ) (all : List NumberedLine) (s : Stream) → block name all ≡ Some s → Contains (all_names all) name
block_listed name [] s e = absurd (cc)
block_listed name (line ∷ others) s e = by_line (instance_name line.text) (block_listed name others s) e
  where
    by_name : (other : List ℕ) (b : Bool) → bytes_eq other name ≡ b →
        (block name others ≡ Some s → Contains (all_names others) name) →
        (if b then Some (block_from line.number others) else block name others) ≡ Some s →
        Contains (other ∷ all_names others) name
    by_name other true is rest e = here other name (all_names others) (same_name other name is)
    by_name other false is rest e = later other name (all_names others) (rest e)

    by_line : (o : Option (List ℕ)) → (block name others ≡ Some s → Contains (all_names others) name) →
        (if is_name name o then Some (block_from line.number others) else block name others) ≡ Some s →
        Contains (cons_option o (all_names others)) name
    by_line None rest e = rest e
    by_line (Some other) rest e = by_name other (bytes_eq other name) refl rest e

block_unlisted : (name : List ℕ) (all : List NumberedLine) → block name all ≡ None → Contains (all_names all) name → ⊥
block_unlisted name [] e h = absurd (omega (arith, h.1))
block_unlisted name (line ∷ others) e h = by_line (instance_name line.text) (block_unlisted name others) e h
  where
    by_place : (other : List ℕ) → bytes_eq other name ≡ false → (Contains (all_names others) name → ⊥) → (other ≡ name) ⊎ Contains (all_names others) name → ⊥
    by_place other is rest (inl same) = let both : true ≡ false = sym (name_same other name same) ∙ is in absurd (cc)
    by_place other is rest (inr behind) = rest behind

    by_name : (other : List ℕ) (b : Bool) → bytes_eq other name ≡ b →
        (block name others ≡ None → Contains (all_names others) name → ⊥) →
        (if b then Some (block_from line.number others) else block name others) ≡ None →
        Contains (other ∷ all_names others) name → ⊥
    by_name other true is rest e h = absurd (cc)
    by_name other false is rest e h = by_place other is (rest e) (first_or_later other name (all_names others) h)

    by_line : (o : Option (List ℕ)) → (block name others ≡ None → Contains (all_names others) name → ⊥) →
        (if is_name name o then Some (block_from line.number others) else block name others) ≡ None →
        Contains (cons_option o (all_names others)) name → ⊥
    by_line None rest e h = rest e h
    by_line (Some other) rest e h = by_name other (bytes_eq other name) refl rest e h

-- ---- texts

-- an instance that is found is listed
pub stream_listed : (name text : List ℕ) (s : Stream) → stream_of name text ≡ Some s → Contains (names_of text) name
stream_listed name text s e = by_form (is_bare text) e
  where
    by_name : (b : Bool) → bytes_eq name bare_name ≡ b → (if b then Some (bare_stream text) else None) ≡ Some s → Contains (bare_name ∷ []) name
    by_name true is e = here bare_name name [] (sym (same_name name bare_name is))
    by_name false is e = absurd (cc)

    by_form : (b : Bool) → (if b then (if bytes_eq name bare_name then Some (bare_stream text) else None) else
        block name (lines text)) ≡ Some s → Contains
        (if b then bare_name ∷ [] else all_names (lines text)) name
    by_form true e = by_name (bytes_eq name bare_name) refl e
    by_form false e = block_listed name (lines text) s e

-- an instance that isn't found isn't listed
pub stream_unlisted : (name text : List ℕ) → stream_of name text ≡ None → Contains (names_of text) name → ⊥
stream_unlisted name text e h = by_form (is_bare text) e h
  where
    by_place : bytes_eq name bare_name ≡ false → (bare_name ≡ name) ⊎ Contains [] name → ⊥
    by_place is (inl same) = let both : true ≡ false = sym (name_same name bare_name (sym same)) ∙ is in absurd (cc)
    by_place is (inr behind) = absurd (omega (arith, behind.1))

    by_name : (b : Bool) → bytes_eq name bare_name ≡ b → (if b then Some (bare_stream text) else None) ≡ None → Contains (bare_name ∷ []) name → ⊥
    by_name true is e h = absurd (cc)
    by_name false is e h = by_place is (first_or_later bare_name name [] h)

    by_form : (b : Bool) → (if b then (if bytes_eq name bare_name then Some (bare_stream text) else None) else
        block name (lines text)) ≡ None → Contains
        (if b then bare_name ∷ [] else all_names (lines text)) name → ⊥
    by_form true e h = by_name (bytes_eq name bare_name) refl e h
    by_form false e h = block_unlisted name (lines text) e h

-- ---- no other check reports a missing instance

abbrev Avoids : {A : Type 0} → Result A Fault → Type 0
Avoids read = (f : Fault) → read ≡ Err f → f.code ≢ code.NoInstance

avoids_ok : {A : Type 0} (x : A) → Avoids (Ok x)
avoids_ok x f e = absurd (cc)

avoids_fault : {A : Type 0} (c : FileCode) (n : ℕ) → c ≢ code.NoInstance → Avoids (fault {A = A} c n)
avoids_fault c n other f e same = let is : record { code = c; line = n } ≡ f = cc in other (ap (λ (g : Fault). g.code) is ∙ same)

avoids_check : (b : Bool) (c : FileCode) (n : ℕ) → c ≢ code.NoInstance → Avoids (check b c n)
avoids_check true c n other = avoids_ok tt
avoids_check false c n other = avoids_fault c n other

avoids_then : {A B : Type 0} (r : Result A Fault) (next : A → Result B Fault) → Avoids r → ((x : A) → Avoids (next x)) → Avoids (r >>= next)
avoids_then (Ok x) next first rest f e = rest x f e
avoids_then (Err g) next first rest f e = let same : g ≡ f = cc in first f (ap (λ (h : Fault). Err h) same)

avoids_number : (s : Stream) → Avoids (number_at s)
unfolding number_at
avoids_number s = by_words s.last s.words
  where
    by_number : (word : LineWord) (o : Option ℕ) (rest : Stream) → Avoids (as_number word o rest)
    by_number word None rest = avoids_fault code.BadNumber word.line (λ e. absurd (cc))
    by_number word (Some n) rest = avoids_ok _

    by_words : (last : ℕ) (words : List LineWord) → Avoids (number_of_words last words)
    by_words last [] = avoids_fault code.Count last (λ e. absurd (cc))
    by_words last (word ∷ others) = by_number word (number word.text) (record { last = word.line; words = others })

avoids_limited : (least most : ℕ) (s : Stream) → Avoids (limited_at least most s)
unfolding limited_at limited
avoids_limited least most s =
    avoids_then (number_at s) _ (avoids_number s) (λ n.
    avoids_then (limited least most n.0) _ (avoids_then
    (check (nat_le least n.0.value && nat_le n.0.value most) code.Limit n.0.line) _
    (avoids_check _ code.Limit n.0.line (λ e. absurd (cc))) (λ u. avoids_ok n.0.value)) (λ value.
    avoids_ok _))

avoids_step : (machines total : ℕ) (s : Stream) → Avoids (step_at machines total s)
unfolding step_at machine_at duration_at
avoids_step machines total s =
    avoids_then (machine_at machines s) _ (avoids_then (number_at s) _ (avoids_number s)
    (λ n. avoids_then (check (nat_lt n.0.value machines) code.BadMachine n.0.line) _
    (avoids_check _ code.BadMachine n.0.line (λ e. absurd (cc))) (λ u. avoids_ok _))) (λ machine.
    avoids_then (duration_at total machine.1) _ (avoids_then (number_at machine.1) _ (avoids_number machine.1)
    (λ n. avoids_then (check (nat_le n.0.value greatest && nat_le (total + n.0.value) greatest_total)
    code.Limit n.0.line) _ (avoids_check _ code.Limit n.0.line (λ e. absurd (cc))) (λ u. avoids_ok _)))
    (λ time.
    avoids_ok _))

avoids_steps : (machines total more : ℕ) (before : List Step) (s : Stream) → Avoids (steps_at machines total more before s)
unfolding steps_at
avoids_steps machines total zero before s = avoids_ok _
avoids_steps machines total (suc more) before s = avoids_then (step_at machines (total + time_of before) s) _
    (avoids_step machines (total + time_of before) s)
    (λ step. avoids_steps machines total more (before ++ step.0 ∷ []) step.1)

avoids_jobs : (machines more : ℕ) (before : List (List Step)) (s : Stream) → Avoids (jobs_at machines more before s)
unfolding jobs_at
avoids_jobs machines zero before s = avoids_ok _
avoids_jobs machines (suc more) before s = avoids_then (steps_at machines (total_time before) machines [] s) _
    (avoids_steps machines (total_time before) machines [] s)
    (λ job. avoids_jobs machines more (before ++ job.0 ∷ []) job.1)

avoids_shop : (s : Stream) → Avoids (shop_at s)
unfolding shop_at
avoids_shop s =
    avoids_then (limited_at 1 most_jobs s) _ (avoids_limited 1 most_jobs s) (λ jobs.
    avoids_then (limited_at 1 most_machines jobs.1) _ (avoids_limited 1 most_machines jobs.1) (λ machines.
    avoids_then (jobs_at machines.0 jobs.0 [] machines.1) _ (avoids_jobs machines.0 jobs.0 [] machines.1) (λ rows.
    avoids_ok _)))

avoids_plain : (text : List ℕ) → Avoids (plain text)
unfolding plain
avoids_plain text =
    avoids_then (check (nat_le (length text) longest_text) code.TooLong 0) _ (avoids_check _ code.TooLong 0 (λ e. absurd (cc))) (λ u. by_place (zero_line text))
  where
    by_place : (o : Option ℕ) → Avoids (no_zero o)
    by_place None = avoids_ok tt
    by_place (Some line) = avoids_fault code.NotText line (λ e. absurd (cc))

-- ---- the whole text

pub shop_listed : (name text : List ℕ) (d : Shop) → shop name text ≡ Ok d → Contains (names_of text) name
unfolding shop
shop_listed name text d e =
    then_ok (plain text) _ d e (λ u good e.
    then_ok (found_stream (last_line text) (stream_of name text)) _ d e (λ s found e.
    stream_listed name text s (stream_is (last_line text) (stream_of name text) s found)))

shop_missing : (name text : List ℕ) (f : Fault) → shop name text ≡ Err f → f.code ≡ code.NoInstance → Contains (names_of text) name → ⊥
unfolding shop
shop_missing name text f e missing listed = by_text (plain text) (avoids_plain text) e
  where
    by_stream : (o : Option Stream) → stream_of name text ≡ o → (found_stream (last_line text) o >>= λ s. shop_at s) ≡ Err f → ⊥
    by_stream None is e = stream_unlisted name text is listed
    by_stream (Some s) is e = avoids_shop s f e missing

    by_text : (read : Result (Unit {0}) Fault) → Avoids read → (read >>= λ _. found_stream (last_line text) (stream_of name text) >>= λ s. shop_at s) ≡ Err f → ⊥
    by_text (Ok u) avoids e = by_stream (stream_of name text) refl e
    by_text (Err g) avoids e = let same : g ≡ f = cc in avoids f (ap (λ (h : Fault). Err h) same) missing

located_unlisted : (name text : List ℕ) → plain text ≡ Ok tt → (Contains (names_of text) name → ⊥) → located name text ≡ Err (record { code = code.NoInstance; line = last_line text })
unfolding located
located_unlisted name text good unlisted = ap (λ read. read >>= λ _. found_stream (last_line text) (stream_of name text)) good ∙ by_stream (stream_of name text) refl
  where
    by_stream : (o : Option Stream) → stream_of name text ≡ o → found_stream (last_line text) o ≡ Err (record { code = code.NoInstance; line = last_line text })
    by_stream None is = refl
    by_stream (Some s) is = absurd (unlisted (stream_listed name text s is))

-- the same for the errors of a file
pub missing_unlisted : (name text : List ℕ) (e : ReadError) (fault : FileFault) → Fails e (shop name text) → TellsError e fault → fault.code ≡ code.NoInstance → Contains (names_of text) name → ⊥
missing_unlisted name text errors.Memory fault fails tells missing listed = let both : code.Memory ≡ code.NoInstance = sym tells.0 ∙ missing in absurd (cc)
missing_unlisted name text (errors.Fault f) fault fails tells missing listed = shop_missing name text f fails (sym tells.0 ∙ missing) listed

-- a name that isn't listed is missing, even if memory runs out
pub unlisted_missing : (name text : List ℕ) (e : ReadError) (fault : FileFault) →
    ((f : Fault) → located name text ≡ Err f → e ≡ errors.Fault f) → TellsError e fault → plain text ≡ Ok tt →
    (Contains (names_of text) name → ⊥) → (fault.code ≡ code.NoInstance) × (fault.line ≡ last_line text)
unlisted_missing name text e fault early tells good unlisted =
    let missing : Fault = record { code = code.NoInstance; line = last_line text } in
    let told = subst (λ (other : ReadError). TellsError other fault) (early missing (located_unlisted name text good unlisted)) tells in
    (told.0, told.1)

pub unlisted_unread : (name text : List ℕ) (d : Shop) → shop name text ≡ Ok d → (Contains (names_of text) name → ⊥) → ⊥
unlisted_unread name text d e unlisted = unlisted (shop_listed name text d e)
