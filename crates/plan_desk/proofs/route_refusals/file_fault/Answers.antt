use Rattle.plan_desk.proofs.RouteRefusalLemmas.{project_told, shop_told}
use Rattle.plan_desk.proofs.route_refusals.file_fault.Goals as goal

pub returns-in-Project-clause-fault : goal.returns-in-Project-clause-fault
returns-in-Project-clause-fault c =
    project_told c.args.kind c.args.name.now c.args.body.now c.in-Err.fault c.in-Project.is c.in-Err.ensures.refused

pub returns-clause-fault : goal.returns-clause-fault
returns-clause-fault c =
    shop_told c.args.kind c.args.name.now c.as_bytes.result.now c.args.body.now c.in-Err-read_shop.fault c.in-Shop.is
    c.as_bytes.ensures.value c.in-Err-read_shop.ensures.refused
