-- Steps of the office, runs of steps, and the part of a run that belongs to one desk
-- (docs/definitions.md, "Desks"). The view of a call's desk determines the reply to an admitted
-- call and its change. This relation is a parameter here; all routes are in Decisions.
use Rattle.std.specs.Prelude.{◌≡◌, ◌⊎◌, Bool, true, false, ◌&&◌, ◌||◌, List, [], ◌∷◌, Option, Some, None, codes}
use Rattle.plan_rows.specs.World.{Text, World, same_text}
use Rattle.plan_rows.specs.Changes.{Change, Keep, apply}
use Rattle.plan_rows.specs.Views.{View, view, alone}
use Rattle.plan_desk.specs.Calls.{Call, Request, Reply, refusal, no_key, desk_of, subject, is_publish, admits}

abbrev pub names : Text → Option Text → Bool
names desk None = false
names desk (Some text) = same_text text desk

-- a call on a path of the desk, a call that opens it or sets its key, or a publication
abbrev pub concerns : Text → Call → Bool
concerns desk call = is_publish call || names desk (desk_of call)

-- a request of the desk's story: it concerns the desk, and has the key that its call needs in the
-- current view
abbrev pub belongs : Text → View → Request → Bool
belongs desk v r = concerns desk r.call && admits v r

-- a refusal for lack of memory, or by the store
abbrev pub IsWant : Reply → Type 0
IsWant reply =
    (reply ≡ refusal 503 (codes "E90 memory")) ⊎ (reply ≡ refusal 507 (codes "E91 store"))

-- the decision for an admitted request, or the one refusal of all others
abbrev pub decided : Bool → (Reply → Change → Type 0) → Reply → Change → Type 0
decided true Rest reply change = Rest reply change
decided false Rest reply change = (reply ≡ no_key) × (change ≡ Keep)

module _ (Answers : View → Call → Reply → Change → Type 0) where
  -- in the view, the request gets this reply and makes this change
  abbrev pub IsDecided : View → Request → Reply → Change → Type 0
  IsDecided v r reply change = decided (admits v r) (Answers v r.call) reply change

  -- decide by the view of the desk, then apply the change
  abbrev pub IsStep : World → Request → Reply → World → Type 0
  IsStep w r reply after =
      (change : Change) × IsDecided (view (subject r) w) r reply change
      × (after ≡ apply (subject r) change w)

  -- a step, or a refusal for lack of memory or by the store that leaves the rows unchanged
  abbrev pub IsRealStep : World → Request → Reply → World → Type 0
  IsRealStep w r reply after = IsStep w r reply after ⊎ (IsWant reply × (after ≡ w))

  -- the replies to requests, and the worlds after each of them
  abbrev pub IsRun : World → List Request → List Reply → List World → Type 0
  IsRun w [] [] [] = Unit {0}
  IsRun w (r ∷ requests) (reply ∷ replies) (after ∷ worlds) =
      IsRealStep w r reply after × IsRun after requests replies worlds
  IsRun w requests replies worlds = ⊥

  -- A request that doesn't belong to the desk is skipped. Any other gets the reply of an office
  -- that has the rows of the view and no others. Or it is refused for lack of memory or by the
  -- store, and nothing more is claimed.
  abbrev pub AreTold : Text → View → List Request → List Reply → Type 0
  AreTold desk v [] [] = Unit {0}
  AreTold desk v (r ∷ requests) (reply ∷ replies) =
      ((belongs desk v r ≡ false) × AreTold desk v requests replies)
      ⊎ ((belongs desk v r ≡ true) × (IsWant reply ⊎ ((after : World)
      × IsStep (alone v) r reply after × AreTold desk (view desk after) requests replies)))
  AreTold desk v requests replies = ⊥

  -- The requests of a list that belong to a desk, and their replies. Each request is in the view
  -- after the earlier requests of the story. No reply is a refusal for lack of memory or by the
  -- store.
  abbrev pub IsStoryOf : Text → View → List Request → List Reply → List Request → List Reply → Type 0
  IsStoryOf desk v [] [] story told = (story ≡ []) × (told ≡ [])
  IsStoryOf desk v (r ∷ requests) (reply ∷ replies) story told =
      ((belongs desk v r ≡ false) × IsStoryOf desk v requests replies story told)
      ⊎ ((belongs desk v r ≡ true) × ((more : List Request) × (others : List Reply)
      × (story ≡ r ∷ more) × (told ≡ reply ∷ others) × ((after : World)
      × IsStep (alone v) r reply after
      × IsStoryOf desk (view desk after) requests replies more others)))
  IsStoryOf desk v requests replies story told = ⊥

  -- a request of the desk's story was refused for lack of memory or by the store
  abbrev pub IsWanting : Text → View → List Request → List Reply → Type 0
  IsWanting desk v (r ∷ requests) (reply ∷ replies) =
      ((belongs desk v r ≡ false) × IsWanting desk v requests replies)
      ⊎ ((belongs desk v r ≡ true) × (IsWant reply ⊎ ((after : World)
      × IsStep (alone v) r reply after × IsWanting desk (view desk after) requests replies)))
  IsWanting desk v requests replies = ⊥
