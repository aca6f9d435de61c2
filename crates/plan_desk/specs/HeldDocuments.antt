-- Documents that are kept elsewhere or new (docs/definitions.md, "Kept files").
use Rattle.plan_psplib.specs.Project.{Project}
use Rattle.plan_orlib.specs.Shop.{Shop}
use Rattle.plan_desk.specs.declared.document_refs.HeldProject.{HeldProject}
use Rattle.plan_desk.specs.declared.document_refs.HeldProject.TheVariants as projects
use Rattle.plan_desk.specs.declared.document_refs.HeldShop.{HeldShop}
use Rattle.plan_desk.specs.declared.document_refs.HeldShop.TheVariants as shops

-- the project, wherever it is
abbrev pub project_held : HeldProject → Project
project_held (projects.Kept document) = document.now
project_held (projects.New document) = document

-- the shop, wherever it is
abbrev pub shop_held : HeldShop → Shop
shop_held (shops.Kept document) = document.now
shop_held (shops.New document) = document
