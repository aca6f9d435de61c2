-- The output of `plan new` (docs/definitions.md, "Runs").
use Rattle.std.specs.Prelude.{ℕ, List, ◌++◌, codes}
use Rattle.plan_cli.specs.declared.templates.Template.{Template}
use Rattle.plan_cli.specs.declared.templates.Template.TheVariants as template

-- the text of a template: a header, a row for each activity or step, and the capacities
abbrev pub template_text : Template → List ℕ
template_text template.Project =
    codes "id,name,duration,predecessors,crew,digger\nA,Excavation,4,,2,1\nB,Foundation,6,A,3,\n"
    ++ codes "C,Drains,3,A,2,1\nD,\"Walls, north and south\",10,B C,4,\nE,Roof,5,D,3,\n"
    ++ codes "capacity,,,,5,1\n"
template_text template.Shop =
    codes "order,machine,time\norder 1,saw,3\norder 1,press,2\norder 1,paint,2\norder 2,saw,2\n"
    ++ codes "order 2,paint,1\norder 2,press,4\norder 3,press,4\norder 3,paint,3\n"
