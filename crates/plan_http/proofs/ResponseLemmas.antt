-- The lines of a head, one part after another.
use Rattle.std.proofs.Common.{◌≡◌, ℕ, List, ◌++◌, codes, append_assoc}
use Rattle.std.specs.Fmt.{decimal}
use Rattle.plan_desk.specs.declared.reply.ReplyKind.{ReplyKind}
use Rattle.plan_http.specs.Responses.{front_lines, phrase, media_type, line_end}

parts : (a b c d e f g h i j k : List ℕ) → (a ++ b ++ c ++ d ++ e) ++ (f ++ g ++ h) ++ (i ++ j ++ k) ≡ a ++ b ++ c ++ d ++ e ++ f ++ g ++ h ++ i ++ j ++ k
parts a b c d e f g h i j k = simp append_assoc

pub front_parts : (status : ℕ) (kind : ReplyKind) (count : ℕ)
    → front_lines status kind count ≡ codes "HTTP/1.1 " ++ decimal status ++ codes " " ++ phrase status ++ line_end
    ++ codes "Content-Type: " ++ media_type kind ++ line_end ++ codes "Content-Length: " ++ decimal count ++ line_end
unfolding front_lines
front_parts status kind count =
    parts (codes "HTTP/1.1 ") (decimal status) (codes " ") (phrase status) line_end (codes "Content-Type: ") (media_type kind) line_end
    (codes "Content-Length: ") (decimal count) line_end

-- one text behind another
pub next : (new old x a y : List ℕ) → new ≡ old ++ x → old ≡ a → x ≡ y → new ≡ a ++ y
next new old x a y p q r = cc
