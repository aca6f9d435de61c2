use Rattle.std.proofs.Common.{map}
use Rattle.plan_errors.proofs.RefusalLemmas.{refused_with}
use Rattle.plan_errors.specs.declared.codes.Code.TheVariants as code
use Rattle.plan_errors.specs.declared.context.About.TheVariants as subject
use Rattle.plan_table.specs.Table.{resource_of}
use Rattle.plan_weekfile.specs.Lines.{TellsOverload}
use Rattle.plan_weekfile.proofs.faults.plain_overload.Goals as goal

pub returns : goal.returns
returns c =
    refused_with (TellsOverload (map resource_of c.args.resources.now) c.args.overload.now) code.Overload subject.List
    c.overload_parts.result c.refuse.result c.overload_parts.ensures c.refuse.ensures.made c.refuse.ensures.memory
