-- The text or line for the first bytes of a file is that for the whole file.
use Rattle.std.proofs.Common.{◌≡◌, ◌⊎◌, inl, inr, ℕ, ◌+◌, ◌≤◌, ◌<◌, List, Option, Some, None, Result, Ok, Err, length, take, refl, sym, ap, ◌∙◌, subst, arith}
use Rattle.std.specs.Prelude.{IfSome}
use Rattle.std.specs.Io.KnownBytes.{Consumes}
use Rattle.std.proofs.lemmas.Bool.{lt-leb, cases_lt}
use Rattle.std.proofs.lemmas.List.{length-take, take_all}
use Rattle.plan_psplib.specs.declared.text.fault.FileCode.TheVariants as code
use Rattle.plan_psplib.specs.declared.text.fault.Fault.{Fault}
use Rattle.plan_psplib.specs.declared.text.fault.FileFault.{FileFault}
use Rattle.plan_psplib.specs.Faults.{IsWantOfMemory}
use Rattle.plan_psplib.specs.Document.{Document, document}
use Rattle.plan_psplib.specs.Plain.{longest_text, plain}
use Rattle.plan_psplib.specs.Tokens.{fault}
use Rattle.plan_psplib.specs.Says.{Says}
use Rattle.plan_psplib.specs.Project.{Project, SaysProject, IsFirstFailing}
use Rattle.plan_orlib.specs.Shop as docs
use Rattle.plan_orlib.specs.Says.{Says as ShopSays}
use Rattle.plan_orlib.specs.ShopText as reading
use Rattle.plan_gantt.specs.FirstFaults.{TellsFirstFailing, TellsFirstShopFault}
use Rattle.plan_sgs.specs.Instances.{Planned}
use Rattle.plan_shop.specs.Shop.{JobShop}
use Rattle.plan_documents.specs.Plans.{IsOfProject, RefusesFile, IsOfShop, RefusesShop}
use Rattle.plan_table.specs.Names.{Name}
use Rattle.plan_documents.specs.Documents.{IsOfSubject, RefusesSubject, ids_in}
use Rattle.plan_cli.specs.NamesRun.{AreNamesOf, TellsNotPlain}
use Rattle.plan_cli.specs.ProveRun.{IsProofTableOf, TellsWhyNoProof}
use Rattle.plan_documents.specs.declared.documents.Plan.{Plan}
use Rattle.plan_documents.specs.declared.documents.Plan.TheVariants as plan
use Rattle.plan_documents.specs.declared.documents.Subject.{Subject}
use Rattle.plan_documents.specs.declared.documents.Subject.TheVariants as subject
use Rattle.plan_documents.specs.declared.capacities.Capacity.{Capacity}
use Rattle.plan_errors.specs.declared.fault.CliFault.{CliFault}
use Rattle.plan_errors.specs.declared.fault.CliFault.TheVariants as cli
use Rattle.plan_errors.specs.Faults.{refusal_line}
use Rattle.plan_errors.specs.Output.{Writes, Refuses, Sends}
use Rattle.plan_documents.specs.Lines.{Tells}
use Rattle.plan_documents.proofs.ErrorLemmas.{refuses_as}
use Rattle.plan_cli.specs.Run.{IsDateTableOf, JudgesFront, ReadsFront}

-- a text that is too long fails its first check
too_long : (file : List ℕ) → longest_text < length file → document file ≡ fault code.TooLong 0
unfolding document plain
too_long file long = rw (lt-leb (length file) longest_text long)

-- the front of a file fails the checks that the file fails
document_front : (file : List ℕ) → document (take (longest_text + 1) file) ≡ document file
document_front file = by_length (cases_lt longest_text (length file))
  where
    by_length : (longest_text < length file) ⊎ (length file ≤ longest_text)
        → document (take (longest_text + 1) file) ≡ document file
    by_length (inr short) = ap document (take_all (longest_text + 1) file (omega (arith, short)))
    by_length (inl long) =
        let m = length-take (longest_text + 1) file in
        too_long (take (longest_text + 1) file) (omega (arith, m, long)) ∙ sym (too_long file long)

-- the document in the front of a file is that in the file
says_front : (file : List ℕ) (d : Document) → Says (take (longest_text + 1) file) d → Says file d
says_front file d says = by_length (cases_lt longest_text (length file))
  where
    by_length : (longest_text < length file) ⊎ (length file ≤ longest_text) → Says file d
    by_length (inr short) = subst (λ text. Says text d) (take_all (longest_text + 1) file (omega (arith, short))) says
    by_length (inl long) =
        let m = length-take (longest_text + 1) file in
        let few = says.short in
        absurd (omega (arith, m, few, long))

failing_front : (file : List ℕ) (first : FileFault) → IsFirstFailing (take (longest_text + 1) file) first
    → IsFirstFailing file first
failing_front file first (inl e) = inl (sym (document_front file) ∙ e.0, e.1)
failing_front file first (inr (d, e, named)) = inr (d, sym (document_front file) ∙ e, named)

-- a relation that holds for a text and the front of a file holds for the text and the file
abbrev pub HoldsByFront : (List ℕ → List ℕ → Type 0) → Type 0
HoldsByFront P = (file text : List ℕ) → P (take (longest_text + 1) file) text → P file text

-- the project in the front of a file is that in the file
pub project_front : (file : List ℕ) (p : Project) → SaysProject (take (longest_text + 1) file) p
    → SaysProject file p
project_front file p (d, says, same, project) = (d, says_front file d says, same, project)

pub table_front : HoldsByFront IsDateTableOf
table_front file text (p, says, table) = (p, project_front file p says, table)

pub line_front : HoldsByFront TellsFirstFailing
line_front file line (first, failing, e) = (first, failing_front file first failing, e)

-- the output for the front of a file is the output for the file
writes_front : (IsText IsLine : List ℕ → List ℕ → Type 0) (file : List ℕ) (taken after : Option (List ℕ))
    (r : Result (Unit {0}) CliFault)
    → HoldsByFront IsText → HoldsByFront IsLine
    → Writes (IsText (take (longest_text + 1) file)) (IsLine (take (longest_text + 1) file)) taken after r
    → Writes (IsText file) (IsLine file) taken after r
writes_front IsText IsLine file taken after (Ok u) texts lines (text, is, took) = (text, texts file text is, took)
writes_front IsText IsLine file taken after (Err (cli.Refused refusal)) texts lines (is, same) = (lines file (refusal_line refusal) is, same)
writes_front IsText IsLine file taken after (Err cli.Memory) texts lines same = same
writes_front IsText IsLine file taken after (Err (cli.Input unread)) texts lines same = same
writes_front IsText IsLine file taken after (Err cli.Output) texts lines (text, n, is, part, took) = (text, n, texts file text is, part, took)

-- the output for the bytes that were read is the output for the whole file
pub writes_known : (IsText IsLine : List ℕ → List ℕ → Type 0) (known : Option (List ℕ)) (read front : List ℕ)
    (taken after : Option (List ℕ)) (r : Result (Unit {0}) CliFault)
    → HoldsByFront IsText → HoldsByFront IsLine → front ≡ read
    → IfSome known (λ file. read ≡ take (longest_text + 1) file)
    → Writes (IsText front) (IsLine front) taken after r
    → IfSome known (λ file. Writes (IsText file) (IsLine file) taken after r)
writes_known IsText IsLine None read front taken after r texts lines same e w = tt
writes_known IsText IsLine (Some file) read front taken after r texts lines same e w =
    writes_front IsText IsLine file taken after r texts lines (subst (λ (bytes : List ℕ). Writes (IsText bytes) (IsLine bytes) taken after r) (same ∙ e) w)

-- the bytes that were read are a front of the file, and the fact holds for them
judges_front : (known rest : Option (List ℕ)) (read front : List ℕ) (Does : List ℕ → Type 0) → front ≡ read
    → length read ≤ longest_text + 1 → IfSome known (λ file. read ≡ take (longest_text + 1) file)
    → Consumes known rest read → Does front → JudgesFront known rest Does
judges_front known rest read front Does same short e taken does = (read, short, e, taken, subst Does same does)

pub reads_front : (IsText IsLine : List ℕ → List ℕ → Type 0) (known rest : Option (List ℕ))
    (read front : List ℕ) (taken after : Option (List ℕ)) (r : Result (Unit {0}) CliFault)
    → front ≡ read → length read ≤ longest_text + 1
    → IfSome known (λ file. read ≡ take (longest_text + 1) file) → Consumes known rest read
    → Writes (IsText front) (IsLine front) taken after r → ReadsFront IsText IsLine known rest taken after r
reads_front IsText IsLine known rest read front taken after (Ok u) same short e used w =
    judges_front known rest read front (λ bytes. Writes (IsText bytes) (IsLine bytes) taken after (Ok u)) same short e used w
reads_front IsText IsLine known rest read front taken after (Err (cli.Refused refusal)) same short e used w =
    judges_front known rest read front (λ bytes. Writes (IsText bytes) (IsLine bytes) taken after (Err (cli.Refused refusal))) same short e used w
reads_front IsText IsLine known rest read front taken after (Err cli.Memory) same short e used w = tt
reads_front IsText IsLine known rest read front taken after (Err (cli.Input unread)) same short e used w = tt
reads_front IsText IsLine known rest read front taken after (Err cli.Output) same short e used w =
    judges_front known rest read front (λ bytes. Writes (IsText bytes) (IsLine bytes) taken after (Err cli.Output)) same short e used w

-- a text that is sent is written
pub sent_writes : (IsText IsLine : List ℕ → Type 0) (text : List ℕ) (taken after : Option (List ℕ))
    (r : Result (Unit {0}) CliFault)
    → IsText text → Sends text taken after r → Writes IsText IsLine taken after r
sent_writes IsText IsLine text taken after (Ok u) is sent = (text, is, sent)
sent_writes IsText IsLine text taken after (Err cli.Output) is (n, part, took) = (text, n, is, part, took)
sent_writes IsText IsLine text taken after (Err (cli.Refused refusal)) is sent = absurd sent
sent_writes IsText IsLine text taken after (Err cli.Memory) is sent = absurd sent
sent_writes IsText IsLine text taken after (Err (cli.Input unread)) is sent = absurd sent

-- nothing is written for a file that is refused
pub refused_writes : (IsText IsLine : List ℕ → Type 0) (taken : Option (List ℕ)) (e : CliFault)
    → Refuses IsLine e → Writes IsText IsLine taken taken (Err e)
refused_writes IsText IsLine taken (cli.Refused refusal) refuses = (refuses, refl)
refused_writes IsText IsLine taken cli.Memory refuses = refl
refused_writes IsText IsLine taken (cli.Input unread) refuses = absurd refuses
refused_writes IsText IsLine taken cli.Output refuses = absurd refuses

-- the same, without the bytes of the source
pub judged_bytes : (IsText IsLine : List ℕ → List ℕ → Type 0) (known rest : Option (List ℕ))
    (taken after : Option (List ℕ)) (r : Result (Unit {0}) CliFault)
    → ReadsFront IsText IsLine known rest taken after r → ReadsFront IsText IsLine None None taken after r
judged_bytes IsText IsLine known rest taken after (Ok u) (front, short, e, used, does) = (front, short, tt, tt, does)
judged_bytes IsText IsLine known rest taken after (Err (cli.Refused refusal)) (front, short, e, used, does) = (front, short, tt, tt, does)
judged_bytes IsText IsLine known rest taken after (Err cli.Memory) w = tt
judged_bytes IsText IsLine known rest taken after (Err (cli.Input unread)) w = tt
judged_bytes IsText IsLine known rest taken after (Err cli.Output) (front, short, e, used, does) = (front, short, tt, tt, does)

-- what is written as a text or a line of one kind is written as one of another kind
writes_as : (IsText IsOther IsLine IsOtherLine : List ℕ → Type 0) (taken after : Option (List ℕ))
    (r : Result (Unit {0}) CliFault)
    → ((text : List ℕ) → IsText text → IsOther text) → ((line : List ℕ) → IsLine line → IsOtherLine line)
    → Writes IsText IsLine taken after r → Writes IsOther IsOtherLine taken after r
writes_as IsText IsOther IsLine IsOtherLine taken after (Ok u) texts lines (text, is, took) = (text, texts text is, took)
writes_as IsText IsOther IsLine IsOtherLine taken after (Err (cli.Refused refusal)) texts lines (is, same) = (lines (refusal_line refusal) is, same)
writes_as IsText IsOther IsLine IsOtherLine taken after (Err cli.Memory) texts lines same = same
writes_as IsText IsOther IsLine IsOtherLine taken after (Err (cli.Input unread)) texts lines same = same
writes_as IsText IsOther IsLine IsOtherLine taken after (Err cli.Output) texts lines (text, n, is, part, took) = (text, n, texts text is, part, took)

pub text_as : (IsText IsOther IsLine IsOtherLine : List ℕ → List ℕ → Type 0) (known taken after : Option (List ℕ))
    (r : Result (Unit {0}) CliFault)
    → ((file text : List ℕ) → IsText file text → IsOther file text)
    → ((file line : List ℕ) → IsLine file line → IsOtherLine file line)
    → IfSome known (λ file. Writes (IsText file) (IsLine file) taken after r)
    → IfSome known (λ file. Writes (IsOther file) (IsOtherLine file) taken after r)
text_as IsText IsOther IsLine IsOtherLine None taken after r texts lines w = tt
text_as IsText IsOther IsLine IsOtherLine (Some file) taken after r texts lines w =
    writes_as (IsText file) (IsOther file) (IsLine file) (IsOtherLine file) taken after r (texts file) (lines file) w

pub front_as : (IsText IsOther IsLine IsOtherLine : List ℕ → List ℕ → Type 0)
    (known rest taken after : Option (List ℕ)) (r : Result (Unit {0}) CliFault)
    → ((file text : List ℕ) → IsText file text → IsOther file text)
    → ((file line : List ℕ) → IsLine file line → IsOtherLine file line)
    → ReadsFront IsText IsLine known rest taken after r → ReadsFront IsOther IsOtherLine known rest taken after r
front_as IsText IsOther IsLine IsOtherLine known rest taken after (Ok u) texts lines (front, short, e, used, does) =
    (front, short, e, used, writes_as (IsText front) (IsOther front) (IsLine front) (IsOtherLine front) taken after (Ok u) (texts front) (lines front) does)
front_as IsText IsOther IsLine IsOtherLine known rest taken after (Err (cli.Refused refusal)) texts lines (front, short, e, used, does) =
    (front, short, e, used, writes_as (IsText front) (IsOther front) (IsLine front) (IsOtherLine front) taken after (Err (cli.Refused refusal)) (texts front) (lines front) does)
front_as IsText IsOther IsLine IsOtherLine known rest taken after (Err cli.Memory) texts lines w = tt
front_as IsText IsOther IsLine IsOtherLine known rest taken after (Err (cli.Input unread)) texts lines w = tt
front_as IsText IsOther IsLine IsOtherLine known rest taken after (Err cli.Output) texts lines (front, short, e, used, does) =
    (front, short, e, used, writes_as (IsText front) (IsOther front) (IsLine front) (IsOtherLine front) taken after (Err cli.Output) (texts front) (lines front) does)

-- a file that says a project isn't too long
pub project_short : (file : List ℕ) (p : Project) → SaysProject file p → length file ≤ longest_text
project_short file p (d, says, same, project) = says.short

-- a front that isn't too long is the whole file
pub whole_front : (file : List ℕ) → length (take (longest_text + 1) file) ≤ longest_text → take (longest_text + 1) file ≡ file
whole_front file few = by_length (cases_lt longest_text (length file))
  where
    by_length : (longest_text < length file) ⊎ (length file ≤ longest_text) → take (longest_text + 1) file ≡ file
    by_length (inr short) = take_all (longest_text + 1) file (omega (arith, short))
    by_length (inl long) =
        let m = length-take (longest_text + 1) file in
        absurd (omega (arith, m, few, long))

-- a shop file that is too long fails its first check
long_shop : (instance file : List ℕ) → longest_text < length file
    → reading.shop instance file ≡ fault code.TooLong 0
unfolding reading.shop plain
long_shop instance file long = rw (lt-leb (length file) longest_text long)

-- the front of a shop file fails the checks that the file fails
front_shop : (instance file : List ℕ)
    → reading.shop instance (take (longest_text + 1) file) ≡ reading.shop instance file
front_shop instance file = by_length (cases_lt longest_text (length file))
  where
    by_length : (longest_text < length file) ⊎ (length file ≤ longest_text)
        → reading.shop instance (take (longest_text + 1) file) ≡ reading.shop instance file
    by_length (inr short) = ap (reading.shop instance) (take_all (longest_text + 1) file (omega (arith, short)))
    by_length (inl long) =
        let m = length-take (longest_text + 1) file in
        long_shop instance (take (longest_text + 1) file) (omega (arith, m, long)) ∙ sym (long_shop instance file long)

-- a text that is too long isn't plain
long_plain : (text : List ℕ) → longest_text < length text → plain text ≡ fault code.TooLong 0
unfolding plain
long_plain text long = rw (lt-leb (length text) longest_text long)

-- a check that succeeded
abbrev pub IsGood : Result (Unit {0}) Fault → Type 0
IsGood (Ok u) = Unit {0}
IsGood (Err e) = ⊥

-- a plain text isn't too long
pub plain_short : (text : List ℕ) → plain text ≡ Ok tt → length text ≤ longest_text
plain_short text readable = by_length (cases_lt longest_text (length text))
  where
    by_length : (longest_text < length text) ⊎ (length text ≤ longest_text) → length text ≤ longest_text
    by_length (inr short) = short
    by_length (inl long) = absurd (subst IsGood (sym readable ∙ long_plain text long) tt)

-- the job shop in the front of a file is that in the file
says_shop_front : (instance file : List ℕ) (doc : docs.Shop)
    → ShopSays instance (take (longest_text + 1) file) doc → ShopSays instance file doc
says_shop_front instance file doc says = by_length (cases_lt longest_text (length file))
  where
    by_length : (longest_text < length file) ⊎ (length file ≤ longest_text) → ShopSays instance file doc
    by_length (inr short) = subst (λ text. ShopSays instance text doc) (take_all (longest_text + 1) file (omega (arith, short))) says
    by_length (inl long) =
        let m = length-take (longest_text + 1) file in
        let few = plain_short (take (longest_text + 1) file) says.readable in
        absurd (omega (arith, m, few, long))

-- the first error of the front of a shop file is that of the file
first_front : (instance : List ℕ) → HoldsByFront (TellsFirstShopFault instance)
first_front instance file line (first, (failing, none), e) = (first, (sym (front_shop instance file) ∙ failing, none), e)

pub proof_front : (nodes instance : List ℕ) → HoldsByFront (IsProofTableOf nodes instance)
proof_front nodes instance file text (doc, says, table) = (doc, says_shop_front instance file doc says, table)

pub no_proof_front : (nodes instance : List ℕ) → HoldsByFront (TellsWhyNoProof nodes instance)
no_proof_front nodes instance file line (inl first) = inl (first_front instance file line first)
no_proof_front nodes instance file line (inr (doc, says, tells)) = inr (doc, says_shop_front instance file doc says, tells)

-- the names in the front of a file are those in the file
pub names_front : HoldsByFront AreNamesOf
names_front file text (readable, is) = by_length (cases_lt longest_text (length file))
  where
    by_length : (longest_text < length file) ⊎ (length file ≤ longest_text) → AreNamesOf file text
    by_length (inr short) = subst (λ front. AreNamesOf front text) (take_all (longest_text + 1) file (omega (arith, short))) (readable, is)
    by_length (inl long) =
        let m = length-take (longest_text + 1) file in
        let few = plain_short (take (longest_text + 1) file) readable in
        absurd (omega (arith, m, few, long))

-- the front of a file is plain if the file is
plain_front : (file : List ℕ) → plain (take (longest_text + 1) file) ≡ plain file
plain_front file = by_length (cases_lt longest_text (length file))
  where
    by_length : (longest_text < length file) ⊎ (length file ≤ longest_text)
        → plain (take (longest_text + 1) file) ≡ plain file
    by_length (inr short) = ap plain (take_all (longest_text + 1) file (omega (arith, short)))
    by_length (inl long) =
        let m = length-take (longest_text + 1) file in
        long_plain (take (longest_text + 1) file) (omega (arith, m, long)) ∙ sym (long_plain file long)

pub not_plain_front : HoldsByFront TellsNotPlain
not_plain_front file line (first, (failing, none), e) = (first, (sym (plain_front file) ∙ failing, none), e)

-- the reported error is the reason why the file isn't plain
pub told_not_plain : (file : List ℕ) (first : FileFault) (e : CliFault)
    → IsWantOfMemory first ⊎ reading.FailsWith (plain file) first → Refuses (Tells first) e
    → Refuses (TellsNotPlain file) e
told_not_plain file first e (inl memory) t = refuses_as (Tells first) (TellsNotPlain file) e (λ line tells. absurd (tells.0 memory.0)) t
told_not_plain file first e (inr failing) t = refuses_as (Tells first) (TellsNotPlain file) e (λ line tells. (first, failing, tells.1)) t

-- the text for the shop in the front of a file is that for the file
of_shop_front : (instance : List ℕ) (IsText : JobShop → List ℕ → Type 0) → HoldsByFront (IsOfShop instance IsText)
of_shop_front instance IsText file text (doc, says, shown) = (doc, says_shop_front instance file doc says, shown)

-- the line that refuses the front of a file is that for the file
refuses_shop_front : (instance : List ℕ) (IsLine : JobShop → List ℕ → Type 0) → HoldsByFront (RefusesShop instance IsLine)
refuses_shop_front instance IsLine file line (inl first) = inl (first_front instance file line first)
refuses_shop_front instance IsLine file line (inr (doc, says, tells)) = inr (doc, says_shop_front instance file doc says, tells)

-- the text for the project or the job shop in the front of a file is that for the file
pub of_subject_front : (subject : Subject) (IsText : Plan → List ℕ → Type 0) → HoldsByFront (IsOfSubject subject IsText)
of_subject_front (subject.Project given) IsText file text (p, says, shown) =
    subst (λ (bytes : List ℕ). IsOfSubject (subject.Project given) IsText bytes text)
    (whole_front file (project_short (take (longest_text + 1) file) p says)) (p, says, shown)
of_subject_front (subject.Shop instance) IsText file text is = of_shop_front instance.now (λ s. IsText (plan.Shop s)) file text is

-- the line that refuses the front of a file is that for the file
pub refuses_subject_front : (subject : Subject) (IsLine : Plan → List ℕ → Type 0) → HoldsByFront (RefusesSubject subject IsLine)
refuses_subject_front (subject.Project given) IsLine file line (inl first) = inl (line_front file line first)
refuses_subject_front (subject.Project given) IsLine file line (inr (p, says, tells)) =
    subst (λ (bytes : List ℕ). RefusesSubject (subject.Project given) IsLine bytes line)
    (whole_front file (project_short (take (longest_text + 1) file) p says)) (inr (p, says, tells))
refuses_subject_front (subject.Shop instance) IsLine file line tells = refuses_shop_front instance.now (λ s. IsLine (plan.Shop s)) file line tells

-- the same for the slacks of a project, which its ids decide
pub of_ids_front : (given : List Capacity) (IsText : List Name → Planned → List ℕ → Type 0)
    → HoldsByFront (λ file. IsOfProject given (IsText (ids_in file)) file)
of_ids_front given IsText file text (p, says, shown) =
    subst (λ (bytes : List ℕ). IsOfProject given (IsText (ids_in bytes)) bytes text)
    (whole_front file (project_short (take (longest_text + 1) file) p says)) (p, says, shown)

pub refuses_ids_front : (given : List Capacity) (IsLine : List Name → Planned → List ℕ → Type 0)
    → HoldsByFront (λ file. RefusesFile given (IsLine (ids_in file)) file)
refuses_ids_front given IsLine file line (inl first) = inl (line_front file line first)
refuses_ids_front given IsLine file line (inr (p, says, tells)) =
    subst (λ (bytes : List ℕ). RefusesFile given (IsLine (ids_in bytes)) bytes line)
    (whole_front file (project_short (take (longest_text + 1) file) p says)) (inr (p, says, tells))
