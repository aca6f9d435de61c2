-- Phrases are short, and only codes have them.
use Rattle.std.proofs.Common.{◌≡◌, ℕ, ◌+◌, ◌<◌, ◌≤◌, ◌⊎◌, Bool, true, false, ◌&&◌, ◌==◌, leb, List, [], length, Option, Some, None, refl, if◌then◌else◌, codes, arith, inl, inr}
use denote.Ref.{Bor}
use Rattle.std.specs.Option.{unwrap_or, option_map}
use Rattle.std.proofs.lemmas.Bool.Decides.{nat_tests, eqb_tells}
use Rattle.http.specs.StatusCode.{reason_phrase, IsStatusCode}
use Rattle.plan_http.specs.Responses.{phrase}
use Rattle.plan_http.proofs.DigitLemmas.{both}

-- a part of a table: its phrases are short, and no number but a code has one
record IsTable (n : ℕ) (phrase : Option (List ℕ)) : Type 0 where
  short : length (unwrap_or phrase []) ≤ 31
  codes_alone : ¬ (IsStatusCode n) → phrase ≡ None

none : (n : ℕ) → IsTable n None
none n = record { short = omega arith; codes_alone = λ _. refl }

step : (n k : ℕ) (text : List ℕ) (others : Option (List ℕ)) (test : Bool) → ((test ≡ true) × (n ≡ k)) ⊎ (test ≡ false) → 100 ≤ k → k < 1000 → length text ≤ 31 → IsTable n others
    → IsTable n (if test then Some text else others)
step n k text others true (inl is) low high short rest = record {
  short = short;
  codes_alone = λ other. let same : n ≡ k = is.1 in absurd (other (omega arith, omega arith));
}
step n k text others true (inr is) low high short rest = cc
step n k text others false is low high short rest = rest

tells : (n k : ℕ) → (((n == k) ≡ true) × (n ≡ k)) ⊎ ((n == k) ≡ false)
tells n k = elim (eqb_tells n k) [ inl e ↦ inl (e.0, e.1) | inr e ↦ inr e.0 ]

-- one code more
more : (n k : ℕ) (text : List ℕ) {others : Option (List ℕ)} → ((leb 100 k && leb (k + 1) 1000) && leb (length text) 31) ≡ true → IsTable n others
    → IsTable n (if n == k then Some text else others)
more n k text {others} fits rest =
    let outer = both (leb 100 k && leb (k + 1) 1000) (leb (length text) 31) fits in
    let inner = both (leb 100 k) (leb (k + 1) 1000) outer.0 in
    let low : 100 ≤ k = grind (arith, nat_tests) in
    let high : k < 1000 = grind (arith, nat_tests) in
    let short : length text ≤ 31 = grind (arith, nat_tests) in
    step n k text others (n == k) (tells n k) low high short rest

table : (n : ℕ) → IsTable n (reason_phrase n)
table n = let all =
    more n 100 (codes "Continue") refl (
    more n 101 (codes "Switching Protocols") refl (
    more n 102 (codes "Processing") refl (
    more n 103 (codes "Early Hints") refl (
    more n 200 (codes "OK") refl (
    more n 201 (codes "Created") refl (
    more n 202 (codes "Accepted") refl (
    more n 203 (codes "Non Authoritative Information") refl (
    more n 204 (codes "No Content") refl (
    more n 205 (codes "Reset Content") refl (
    more n 206 (codes "Partial Content") refl (
    more n 207 (codes "Multi-Status") refl (
    more n 208 (codes "Already Reported") refl (
    more n 226 (codes "IM Used") refl (
    more n 300 (codes "Multiple Choices") refl (
    more n 301 (codes "Moved Permanently") refl (
    more n 302 (codes "Found") refl (
    more n 303 (codes "See Other") refl (
    more n 304 (codes "Not Modified") refl (
    more n 305 (codes "Use Proxy") refl (
    more n 307 (codes "Temporary Redirect") refl (
    more n 308 (codes "Permanent Redirect") refl (
    more n 400 (codes "Bad Request") refl (
    more n 401 (codes "Unauthorized") refl (
    more n 402 (codes "Payment Required") refl (
    more n 403 (codes "Forbidden") refl (
    more n 404 (codes "Not Found") refl (
    more n 405 (codes "Method Not Allowed") refl (
    more n 406 (codes "Not Acceptable") refl (
    more n 407 (codes "Proxy Authentication Required") refl (
    more n 408 (codes "Request Timeout") refl (
    more n 409 (codes "Conflict") refl (
    more n 410 (codes "Gone") refl (
    more n 411 (codes "Length Required") refl (
    more n 412 (codes "Precondition Failed") refl (
    more n 413 (codes "Payload Too Large") refl (
    more n 414 (codes "URI Too Long") refl (
    more n 415 (codes "Unsupported Media Type") refl (
    more n 416 (codes "Range Not Satisfiable") refl (
    more n 417 (codes "Expectation Failed") refl (
    more n 418 (codes "I'm a teapot") refl (
    more n 421 (codes "Misdirected Request") refl (
    more n 422 (codes "Unprocessable Entity") refl (
    more n 423 (codes "Locked") refl (
    more n 424 (codes "Failed Dependency") refl (
    more n 425 (codes "Too Early") refl (
    more n 426 (codes "Upgrade Required") refl (
    more n 428 (codes "Precondition Required") refl (
    more n 429 (codes "Too Many Requests") refl (
    more n 431 (codes "Request Header Fields Too Large") refl (
    more n 451 (codes "Unavailable For Legal Reasons") refl (
    more n 500 (codes "Internal Server Error") refl (
    more n 501 (codes "Not Implemented") refl (
    more n 502 (codes "Bad Gateway") refl (
    more n 503 (codes "Service Unavailable") refl (
    more n 504 (codes "Gateway Timeout") refl (
    more n 505 (codes "HTTP Version Not Supported") refl (
    more n 506 (codes "Variant Also Negotiates") refl (
    more n 507 (codes "Insufficient Storage") refl (
    more n 508 (codes "Loop Detected") refl (
    more n 510 (codes "Not Extended") refl (
    more n 511 (codes "Network Authentication Required") refl (
    none n)))))))))))))))))))))))))))))))))))))))))))))))))))))))))))))) in all

pub phrase_short : (n : ℕ) → length (phrase n) ≤ 31
unfolding phrase
phrase_short n = (table n).short

pub phrase_none : (n : ℕ) → ¬ (IsStatusCode n) → phrase n ≡ []
unfolding phrase
phrase_none n other = rw ((table n).codes_alone other) refl

-- the phrase that was found, or none
pub phrase_is : (n : ℕ) (found : Option (Bor (List ℕ))) (other : Bor (List ℕ)) → option_map (λ text. text.now) found ≡ reason_phrase n → other.now ≡ [] → (unwrap_or found other).now ≡ phrase n
unfolding phrase
phrase_is n None other is empty = rw (← is) empty
phrase_is n (Some text) other is empty = rw (← is) refl
