use Rattle.std.proofs.Common.{arith}
use Rattle.std.proofs.lemmas.List.{length-take}
use Rattle.plan_documents.proofs.spreadsheets.long_list.Goals as goal

pub slice_bounds-workbook_of-end : goal.slice_bounds-workbook_of-end
slice_bounds-workbook_of-end c =
    let m = length-take 1048576 c.args.file.now in
    omega (arith, m, c.requires)
