use Rattle.std.proofs.Common.{◌≡◌, None, flat_map, sym, ap, ◌∙◌, map-id}
use Rattle.std.specs.String.{string_bytes}
use Rattle.std.specs.List.{list_any}
use Rattle.std.proofs.lemmas.Iterator.{YieldsList-from_chars}
use Rattle.std.proofs.lemmas.Iterator.Consumers.{YieldsList-end}
use Rattle.plan_sheet.specs.Escape.{escaped_char, escaped, is_markup, read_from}
use Rattle.plan_sheet.proofs.EscapeLemmas.{no_markup, reads_back}
use Rattle.plan_sheet.proofs.escape.escaped.Goals as goal

pub returns : goal.returns
returns c =
    let end = YieldsList-end (YieldsList-from_chars c.args.text.now c.utf8.text cc) c.loop-c.yielded _ c.loop-c.yielded_by _ _ c.in-None.is c.next.ensures.steps in
    let text : string_bytes c.loop-c.written ≡ escaped c.args.text.now = c.loop-c.invariant ∙ ap (flat_map escaped_char) (sym (map-id c.loop-c.yielded) ∙ end.0) in
    record {
      text = text;
      plain = ap (list_any is_markup) text ∙ no_markup c.args.text.now;
      back = ap (read_from None) text ∙ reads_back c.args.text.now;
    }
