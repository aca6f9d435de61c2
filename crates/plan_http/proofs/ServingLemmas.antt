-- The end of a connection that was answered.
use Rattle.std.proofs.Common.{◌≡◌, [], Option, Some, true, subst}
use Rattle.std.specs.Io.KnownBytes.{Appends}
use Rattle.plan_rows.specs.World.{Text}
use Rattle.plan_rows.specs.Books.{Shelf}
use Rattle.plan_http.specs.declared.connection.ConnEnd.{ConnEnd}
use Rattle.plan_http.specs.declared.connection.ConnEnd.TheVariants.{Replied, ReadFailed, WriteFailed}
use Rattle.plan_http.specs.Clients.{Known, OfBytes}
use Rattle.plan_http.specs.Answers.{Answer, Decision, answer_of, IsOn}
use Rattle.plan_http.specs.Connections.{Responds, Moves, Serves, Ends, response_of}
use Rattle.plan_http.proofs.ClientLemmas.{of_known}

-- a decision was made, and its answer written
pub ends : {B : Type 0} (shelf : Shelf B) (old new : B) (before after : Known) (taken sent : Option Text) (end : ConnEnd) (d : Decision) (answer : Answer)
    → OfBytes before after (λ bytes. IsOn bytes d) → Moves shelf old new d → answer ≡ answer_of d → Responds taken sent answer end
    → Ends shelf old new before after taken sent end
ends shelf old new before after taken sent (Replied status) d answer on moves is responds = record {
  decision = d;
  on = on;
  moves = moves;
  responds = subst (λ a. Responds taken sent a (Replied status)) is responds;
}
ends shelf old new before after taken sent ReadFailed d answer on moves is responds = absurd responds
ends shelf old new before after taken sent (WriteFailed count) d answer on moves is responds = record {
  decision = d;
  on = on;
  moves = moves;
  responds = subst (λ a. Responds taken sent a (WriteFailed count)) is responds;
}

-- a connection whose bytes are known was decided by them
pub decided : {B : Type 0} {shelf : Shelf B} {old new : B} {before after : Known} {taken sent : Option Text} {end : ConnEnd} (bytes : Text)
    → Serves shelf old new before after taken sent end → before.left ≡ Some bytes → (before.ended ≡ true → ⊥)
    → (d : Decision) × IsOn bytes d × Moves shelf old new d
decided bytes s known open_still = (s.decision, of_known bytes s.on known open_still, s.moves)

-- its response is all that was written
pub replied : {B : Type 0} {shelf : Shelf B} {old new : B} {before after : Known} {taken sent : Option Text} {end : ConnEnd} (bytes response : Text)
    → (s : Serves shelf old new before after taken sent end) → Appends taken sent (response_of s.decision) → before.left ≡ Some bytes → (before.ended ≡ true → ⊥)
    → taken ≡ Some [] → sent ≡ Some response → (d : Decision) × IsOn bytes d × Moves shelf old new d × (response ≡ response_of d)
replied {taken = taken} {sent = sent} bytes response s written known open_still none all =
    let first = subst (λ t. Appends t sent (response_of s.decision)) none written in
    let whole : response ≡ response_of s.decision = subst (λ t. Appends (Some []) t (response_of s.decision)) all first in
    (s.decision, of_known bytes s.on known open_still, s.moves, whole)
