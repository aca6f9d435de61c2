-- The headline (docs/definitions.md, "The headline"): in any two worlds that agree on one desk's
-- rows, its key and the published capacities and receive the same requests from that desk and the
-- same publications, that desk's replies are equal byte for byte, whatever other desks send before
-- or between; and each date is a longest-path date, each generated schedule feasible and active,
-- each schedule reported optimal of least makespan among all feasible ones.
use Rattle.std.specs.Prelude.{◌≡◌, List, length, take}
use Rattle.plan_rows.specs.World.{Text}
use Rattle.plan_rows.specs.Rules.{IsWorld}
use Rattle.plan_rows.specs.Views.{view, Agree}
use Rattle.plan_rows.specs.Books.{Shelf}
use Rattle.plan_http.specs.Stories.{IsStoryOf, SpellTheSame}
use Rattle.plan_http.specs.Isolated.{IsToldAlone, IsApart}

-- the connections of a run that were answered: all of them, or the first ones if memory ran out
abbrev pub answered_of : List Text → List Text → List Text
answered_of conns responses = take (length responses) conns

-- two runs over books of any two kinds, from rows in which the desk's views agree
pub record Alike {A B : Type 0} (first : Shelf A) (second : Shelf B) (a : A) (b : B)
    (conns responses others answers : List Text) (desk : Text) : Type 0 where
  -- each run has a story, or a refusal in it for lack of memory or by the store
  pub first_told : IsToldAlone desk (view desk (first.world a))
      (answered_of conns responses) responses
  pub second_told : IsToldAlone desk (view desk (second.world b))
      (answered_of others answers) answers
  -- equal stories received equal responses, byte for byte
  pub equal : (story told given : List Text)
      → IsStoryOf desk (view desk (first.world a)) (answered_of conns responses) responses
      story told
      → IsStoryOf desk (view desk (second.world b)) (answered_of others answers) answers
      story given
      → told ≡ given
  -- so did stories that spell the same requests in other bytes
  pub alike : (story tale told given : List Text) → SpellTheSame story tale
      → IsStoryOf desk (view desk (first.world a)) (answered_of conns responses) responses
      story told
      → IsStoryOf desk (view desk (second.world b)) (answered_of others answers) answers
      tale given
      → told ≡ given

module _ {A B : Type 0} (first : Shelf A) (second : Shelf B) where
  -- two runs are alike if in each the desk receives the replies of an office with its rows alone
  unfoldable pub ApartRunsAreAlike : Type 0
  ApartRunsAreAlike = (a left : A) (b right : B) (conns responses others answers : List Text)
      (desk : Text)
      → IsApart first a left conns responses desk → IsApart second b right others answers desk
      → IsWorld (first.world a) → IsWorld (second.world b)
      → Agree (view desk (first.world a)) (view desk (second.world b))
      → Alike first second a b conns responses others answers desk
