use Rattle.std.proofs.Common.{◌≡◌, IfErr, rules}
use Rattle.std.proofs.lemmas.Result.{IfErr-weaker}
use Rattle.plan_holidays.specs.HolidayText.{RefusesText, without_mark}
use Rattle.plan_holidays.specs.declared.fault.HolidayFault.TheVariants as fault
use Rattle.plan_holidays.proofs.NamedLemmas.{memory_refused}
use Rattle.plan_holidays.proofs.holidays.with_holidays_in.Goals as goal

pub returns-in_err-with_holidays-clause-refused : goal.returns-in_err-with_holidays-clause-refused
returns-in_err-with_holidays-clause-refused c =
    let memory : IfErr c.from_residual-in_err-with_holidays.result (λ first. first ≡ fault.Memory) = search rules in
    IfErr-weaker c.from_residual-in_err-with_holidays.result (λ first. first ≡ fault.Memory) (RefusesText c.args.text.now)
    (λ first e. memory_refused (without_mark c.args.text.now) first e) memory
