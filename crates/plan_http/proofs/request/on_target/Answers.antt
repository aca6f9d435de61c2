use Rattle.std.proofs.Common.{◌≡◌, true, false, not, None, Some, ap, sym, ◌∙◌, bytes_eq, codes}
use Rattle.plan_http.specs.declared.checks.Check.TheVariants.{Route, Method}
use Rattle.plan_http.specs.Head.{after_head}
use Rattle.plan_http.specs.Routes.{route_of, method_of}
use Rattle.plan_http.proofs.ClientLemmas.{reads_map}
use Rattle.plan_http.proofs.JudgingLemmas.{after_split, refused_told, no_route, other_method, not_same, same_then}
use Rattle.plan_http.proofs.request.on_target.Goals as goal

pub returns-in_default-of-clause-asked : goal.returns-in_default-of-clause-asked
returns-in_default-of-clause-asked g c =
    reads_map (g.R.Client.known c.args.reader.now) (g.R.Client.known c.refuse-in_default-of.new.reader) c.refuse-in_default-of.ensures.refused (λ had left behind bytes h begins at s passed.
    let head = c.is_head-is_head.ensures ∙ ap (λ method. bytes_eq method (codes "HEAD")) at.method in
    let after = after_split bytes c.args.front.now had h c.args.spans.now.len s c.requires.within.section.len_fits at.len in
    let told : Some c.in-Some.target.now ≡ Some h.target = c.in-Some.ensures.target h at in
    let target : c.in-Some.target.now ≡ h.target = cc in
    let none : route_of h.target ≡ None = ap route_of (sym target) ∙ sym c.of.ensures ∙ c.in_default-of.is in
    refused_told bytes h begins Route None c.is_head-is_head.result c.args.count c.refuse-in_default-of.result head passed (no_route bytes h begins none)
    (behind (after_head bytes h) after))

pub returns-then-ne-clause-asked : goal.returns-then-ne-clause-asked
returns-then-ne-clause-asked g c =
    reads_map (g.R.Client.known c.args.reader.now) (g.R.Client.known c.refuse-then-ne.new.reader) c.refuse-then-ne.ensures.refused (λ had left behind bytes h begins at s passed.
    let head = c.is_head-is_head.ensures ∙ ap (λ method. bytes_eq method (codes "HEAD")) at.method in
    let after = after_split bytes c.args.front.now had h c.args.spans.now.len s c.requires.within.section.len_fits at.len in
    let told : Some c.in-Some.target.now ≡ Some h.target = c.in-Some.ensures.target h at in
    let target : c.in-Some.target.now ≡ h.target = cc in
    let found : route_of h.target ≡ Some c.in-Some-of.route = ap route_of (sym target) ∙ sym c.of.ensures ∙ c.in-Some-of.is in
    let test : not (bytes_eq c.of-2.result.now c.as_bytes.result.now) ≡ true = sym c.ne.ensures ∙ c.if-ne.true in
    let named : c.as_bytes.result.now ≡ method_of c.in-Some-of.route = c.as_bytes.ensures.value ∙ c.method.ensures in
    let sent : c.of-2.result.now ≡ h.method = c.of-2.ensures ∙ at.method in
    let other : bytes_eq h.method (method_of c.in-Some-of.route) ≡ false =
    ap (λ m. bytes_eq m (method_of c.in-Some-of.route)) (sym sent) ∙ ap (bytes_eq c.of-2.result.now) (sym named) ∙ not_same (bytes_eq c.of-2.result.now c.as_bytes.result.now) test in
    refused_told bytes h begins Method (Some c.in-Some-of.route) c.is_head-is_head.result c.args.count c.refuse-then-ne.result head passed
    (other_method bytes h begins c.in-Some-of.route found other) (behind (after_head bytes h) after))

pub returns-clause-asked : goal.returns-clause-asked
returns-clause-asked g c =
    reads_map (g.R.Client.known c.args.reader.now) (g.R.Client.known c.accept.new.reader) c.accept.ensures.asked (λ had left behind bytes h begins at s passed.
    let told : Some c.in-Some.target.now ≡ Some h.target = c.in-Some.ensures.target h at in
    let target : c.in-Some.target.now ≡ h.target = cc in
    let found : route_of h.target ≡ Some c.in-Some-of.route = ap route_of (sym target) ∙ sym c.of.ensures ∙ c.in-Some-of.is in
    let test : not (bytes_eq c.of-2.result.now c.as_bytes.result.now) ≡ false = sym c.ne.ensures ∙ c.if-ne.false in
    let named : c.as_bytes.result.now ≡ method_of c.in-Some-of.route = c.as_bytes.ensures.value ∙ c.method.ensures in
    let sent : c.of-2.result.now ≡ h.method = c.of-2.ensures ∙ at.method in
    let same : bytes_eq h.method (method_of c.in-Some-of.route) ≡ true =
    ap (λ m. bytes_eq m (method_of c.in-Some-of.route)) (sym sent) ∙ ap (bytes_eq c.of-2.result.now) (sym named) ∙ same_then (bytes_eq c.of-2.result.now c.as_bytes.result.now) test in
    behind bytes h begins at s (record { passed = passed; target_is = target; found = found; method = same }))

pub returns-in_default-clause-asked : goal.returns-in_default-clause-asked
returns-in_default-clause-asked g c =
    reads_map (g.R.Client.known c.args.reader.now) (g.R.Client.known c.refuse.new.reader) c.refuse.ensures.refused (λ had left behind bytes h begins at s passed.
    let told : None ≡ Some h.target = c.in_default.ensures.target h at in
    absurd cc)
