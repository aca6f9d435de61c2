use Rattle.std.proofs.Common.{rules, ◌≡◌, Err, IfErr}
use Rattle.std.specs.Prelude.{Contains}
use Rattle.plan_psplib.specs.declared.text.fault.Fault.{Fault}
use Rattle.plan_psplib.specs.declared.text.fault.FileCode.TheVariants as code
use Rattle.plan_psplib.specs.declared.text.fault.ReadError.TheVariants as errors
use Rattle.plan_psplib.specs.Faults.{TellsError}
use Rattle.plan_psplib.specs.Tokens.{Fails}
use Rattle.plan_psplib.specs.Lines.{last_line}
use Rattle.plan_orlib.specs.Instances.{names_of}
use Rattle.plan_orlib.specs.ShopText.{shop, located}
use Rattle.plan_orlib.proofs.NameLemmas.{mapped}
use Rattle.plan_orlib.specs.Shop.{shop_of}
use Rattle.plan_orlib.proofs.FoundLemmas.{shop_listed, missing_unlisted, unlisted_missing, unlisted_unread}
use Rattle.plan_orlib.proofs.shop.read_shop.Goals as goal

pub returns-in_err-listing-clause-early : goal.returns-in_err-listing-clause-early
returns-in_err-listing-clause-early c = λ f is. let early = c.named_listing.ensures.early f is in search rules

pub returns-clause-early : goal.returns-clause-early
returns-clause-early c = λ f is. let early = c.named_listing.ensures.early f is in search rules

pub returns-clause-named : goal.returns-clause-named
returns-clause-named c = shop_listed c.args.name.now c.args.text.now (shop_of c.in_ok-listing.listing) (search rules)

pub returns-clause-unnamed : goal.returns-clause-unnamed
returns-clause-unnamed c = λ good unlisted. unlisted_unread c.args.name.now c.args.text.now (shop_of c.in_ok-listing.listing) (search rules) unlisted

pub returns-in_err-listing-clause-missing : goal.returns-in_err-listing-clause-missing
returns-in_err-listing-clause-missing c =
    let name = c.args.name.now in
    let text = c.args.text.now in
    let exact = c.named_listing.ensures.exact in
    let unlisted = mapped c.named_listing.result c.map_err.result _
    (λ told. IfErr told (λ fault. fault.code ≡ code.NoInstance → Contains (names_of text) name → ⊥))
    c.map_err.ensures.cases (λ listing is. tt)
    (λ e fault is learnt. let tells : TellsError e fault = search rules in
    let fails : Fails e (shop name text) = search rules in
    λ missing listed. missing_unlisted name text e fault fails tells missing listed) in
    search rules

pub returns-in_err-listing-clause-unnamed : goal.returns-in_err-listing-clause-unnamed
returns-in_err-listing-clause-unnamed c = λ good unlisted.
    let name = c.args.name.now in
    let text = c.args.text.now in
    let early = c.named_listing.ensures.early in
    let missing = mapped c.named_listing.result c.map_err.result _
    (λ told. IfErr told (λ fault. (fault.code ≡ code.NoInstance) × (fault.line ≡ last_line text)))
    c.map_err.ensures.cases (λ listing is. tt)
    (λ e fault is learnt. let tells : TellsError e fault = search rules in
    let first : (f : Fault) → located name text ≡ Err f → e ≡ errors.Fault f = λ f none. let at = early f none in search rules in
    unlisted_missing name text e fault first tells good unlisted) in
    search rules
