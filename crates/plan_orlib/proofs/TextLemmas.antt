-- The whole text: reading succeeds exactly for the shop that the text describes.
use Rattle.std.proofs.Common.{◌≡◌, ℕ, List, Option, Some, None, Result, Ok, Err, ap, subst}
use Rattle.std.specs.Prelude.{IfOk}
use Rattle.plan_psplib.specs.declared.text.fault.Fault.{Fault}
use Rattle.plan_psplib.specs.declared.text.fault.ReadError.{ReadError}
use Rattle.plan_psplib.specs.Lines.{last_line}
use Rattle.plan_psplib.specs.Streams.{Stream}
use Rattle.plan_psplib.specs.Tokens.{Gives}
use Rattle.plan_psplib.specs.Plain.{plain}
use Rattle.plan_psplib.proofs.GoesLemmas.{then_ok, ok_bind, same_ok}
use Rattle.plan_orlib.specs.declared.steps.Listing as declared
use Rattle.plan_orlib.specs.Instances.{stream_of}
use Rattle.plan_orlib.specs.Shop.{Shop, shop_of}
use Rattle.plan_orlib.specs.ShopText.{found_stream, shop}
use Rattle.plan_orlib.specs.Says.{Says}
use Rattle.plan_orlib.proofs.ShopLemmas.{shop_spelled, shop_read}

pub stream_is : (last : ℕ) (o : Option Stream) (s : Stream) → found_stream last o ≡ Ok s → o ≡ Some s
stream_is last None s e = absurd (cc)
stream_is last (Some t) s e = ap (λ (x : Stream). Some x) (same_ok t s e)

-- the shop that was read is the one that the text describes
shop_said : (name text : List ℕ) (d : Shop) → shop name text ≡ Ok d → Says name text d
unfolding shop
shop_said name text d e =
    then_ok (plain text) _ d e (λ u good e.
    then_ok (found_stream (last_line text) (stream_of name text)) _ d e (λ s found e.
    let spelled = shop_spelled s d e in
    record { readable = good; stream = (s, stream_is (last_line text) (stream_of name text) s found, spelled.0); limits = spelled.1 }))

-- the shop that a text describes is read
pub said_shop : (name text : List ℕ) (d : Shop) → Says name text d → shop name text ≡ Ok d
unfolding shop
said_shop name text d h =
    let at = h.stream in
    ok_bind (plain text) _ tt d h.readable
    (ok_bind (found_stream (last_line text) (stream_of name text)) _ at.0 d (ap (found_stream (last_line text)) at.1) (shop_read at.0 d at.2 h.limits))

-- the same for a result that the reading gives
pub read_is_said : (name text : List ℕ) (r : Result declared.Listing ReadError) → Gives shop_of r (shop name text) → IfOk r (λ l. Says name text (shop_of l))
read_is_said name text (Ok l) e = shop_said name text (shop_of l) e
read_is_said name text (Err f) e = tt

pub said_is_read : (name text : List ℕ) (r : Result declared.Listing ReadError) (d : Shop) → Says name text d → Gives shop_of r (shop name text) → Gives shop_of r (Ok d)
said_is_read name text r d h e = let P : Result Shop Fault → Type 0 = λ x. Gives shop_of r x in subst P (said_shop name text d h) e
