-- The output of a command for the bytes that it reads (docs/definitions.md, "Runs").
use Rattle.std.specs.Prelude.{◌≡◌, ◌⊎◌, ℕ, ◌+◌, ◌≤◌, List, Option, Result, Err}
use Rattle.std.specs.Prelude.{IfSome, IfErr, IsErrOf, OnOk, length, take}
use Rattle.std.specs.Io.KnownBytes.{Consumes}
use Rattle.plan_io.specs.declared.traits.Sink as sinks
use Rattle.plan_io.specs.declared.traits.Source as sources
use Rattle.plan_io.specs.Devices.{most_calls}
use Rattle.plan_psplib.specs.Plain.{longest_text}
use Rattle.plan_psplib.specs.Project.{Project, SaysProject}
use Rattle.plan_gantt.specs.DateTable.{IsDateText}
use Rattle.plan_errors.specs.declared.fault.CliFault.{CliFault}
use Rattle.plan_errors.specs.declared.fault.CliFault.TheVariants as fault
use Rattle.plan_errors.specs.declared.context.About.TheVariants as about
use Rattle.plan_errors.specs.Faults.{IsUnread}
use Rattle.plan_errors.specs.Output.{HasSinkFailed, Writes}

-- a text is the date table of the project in a file
abbrev pub IsDateTableOf : List ℕ → List ℕ → Type 0
IsDateTableOf file text = (p : Project) × SaysProject file p × IsDateText p.network text

-- a run read some bytes, at most one more than the longest text has, and this holds for them
abbrev pub JudgesFront : Option (List ℕ) → Option (List ℕ) → (List ℕ → Type 0) → Type 0
JudgesFront remaining rest Does = (front : List ℕ) × (length front ≤ longest_text + 1)
    × IfSome remaining (λ file. front ≡ take (longest_text + 1) file)
    × Consumes remaining rest front × Does front

-- Unless the input fails or memory runs out, a run writes for the bytes that it read. IsText
-- relates a file to the texts that are written for it, IsLine to the lines that refuse it.
abbrev pub ReadsFront : (List ℕ → List ℕ → Type 0) → (List ℕ → List ℕ → Type 0)
    → Option (List ℕ) → Option (List ℕ) → Option (List ℕ) → Option (List ℕ)
    → Result (Unit {0}) CliFault → Type 0
ReadsFront IsText IsLine remaining rest taken after (Err fault.Memory) = Unit {0}
ReadsFront IsText IsLine remaining rest taken after (Err (fault.Input unread)) = Unit {0}
ReadsFront IsText IsLine remaining rest taken after result =
    JudgesFront remaining rest (λ front. Writes (IsText front) (IsLine front) taken after result)

-- The effect of a run on its reader and its writer. IsText relates a file to the texts that are
-- written for it, IsLine to the lines that refuse it.
module _ {R W : Type 0} (source : sources.Ghosts R) (sink : sinks.Ghosts W)
    (IsText IsLine : List ℕ → List ℕ → Type 0) where
  pub record Runs (reader reader_after : R) (writer writer_after : W)
      (result : Result (Unit {0}) CliFault) : Type 0 where
    pub reads : source.calls reader_after ≤ source.calls reader + most_calls
    pub writes : sink.calls writer_after ≤ sink.calls writer + most_calls
    -- the text for the file, or nothing and its first error; a front of the text if the output
    -- fails
    pub text : IfSome (source.remaining reader) (λ file.
        Writes (IsText file) (IsLine file) (sink.taken writer) (sink.taken writer_after) result)
    -- unless memory runs out or the input fails, the same holds for the bytes that were read,
    -- at most 1,048,577
    pub front : ReadsFront IsText IsLine (source.remaining reader) (source.remaining reader_after)
        (sink.taken writer) (sink.taken writer_after) result
    -- with any other error than that of the output, nothing is written
    pub quiet : IfErr result (λ e. (e ≡ fault.Output) ⊎ (writer_after ≡ writer))
    pub fine : OnOk result ((source.faults reader_after ≡ source.faults reader)
        × (sink.faults writer_after ≡ sink.faults writer))
    -- a call of the reader that fails is reported as the error of the input
    pub heard : IfErr result (λ e.
        (e ≡ fault.Input about.Plan) ⊎ (source.faults reader_after ≡ source.faults reader))
    pub unread : IfErr result (IsUnread about.Plan)
    pub input : IsErrOf result (fault.Input about.Plan)
        → source.faults reader_after ≡ source.faults reader + 1
    pub output : IsErrOf result fault.Output → HasSinkFailed sink writer writer_after
