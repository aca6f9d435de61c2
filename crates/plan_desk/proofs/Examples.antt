-- Worked examples of an office, computed from the definitions: names, bodies, changes, decisions.
use Rattle.std.proofs.Common.{◌≡◌, ℕ, zero, suc, true, false, List, [], ◌∷◌, ◌++◌, ◌<◌, All, Option, Some, None, codes, inl, inr, refl, sym, subst, arith}
use Rattle.std.proofs.lemmas.Bool.{both_ways}
use Rattle.std.specs.Fmt.{digits}
use Rattle.std.specs.Str.{is_utf8, chars}
use Rattle.sha2.specs.Sha256.{sha256}
use Rattle.serde_json.proofs.OnLiterals.{serde_json_on_literals}
use Rattle.plan_psplib.specs.Plain.{plain}
use Rattle.plan_psplib.specs.Tokens.{number_at, limited, limited_at, duration_at}
use Rattle.plan_orlib.specs.Instances.{bare_stream}
use Rattle.plan_orlib.specs.ShopText.{machine_at, step_at, steps_at, jobs_at, shop_at}
use Rattle.plan_orlib.specs.Shop as docs
use Rattle.plan_orlib.specs.Says.{Says, BeginsWith, shop_numbers}
use Rattle.plan_orlib.proofs.ShopLemmas.{shop_spelled}
use Rattle.plan_shop.specs.declared.rule.ShopRule.{ShopRule}
use Rattle.plan_shop.specs.declared.rule.ShopRule.TheVariants as rule
use Rattle.plan_shop.specs.declared.fault.ShopFault.TheVariants as shop_fault
use Rattle.plan_shop.specs.Names.{rule_text}
use Rattle.plan_shop.specs.Shop.{IsShop}
use Rattle.plan_shop.specs.Rules.{spt}
use Rattle.plan_shop.specs.Laws.{RuleIsActive}
use Rattle.plan_shop.proofs.WordCount.{rule_is_active, spt_chooses}
use Rattle.plan_gantt.specs.ShopText.{rule_starts}
use Rattle.plan_shop.specs.Docs.{shop_of, IsFirstClosed, NoneIsClosed}
use Rattle.plan_rows.specs.declared.kinds.Kind.TheVariants.{Crew, Machine}
use Rattle.plan_rows.specs.declared.kinds.Kind.{Kind}
use Rattle.plan_rows.specs.declared.kinds.PlanKind.{PlanKind}
use Rattle.plan_desk.specs.declared.reply.ReplyKind.{ReplyKind}
use Rattle.plan_desk.specs.declared.reply.ReplyKind.TheVariants.{Plain, Json}
use Rattle.plan_rows.specs.declared.kinds.PlanKind.TheVariants.{Project, Shop}
use Rattle.plan_rows.specs.World.{Text, Published, Desk, Plan, Bind, Lag, World}
use Rattle.plan_rows.specs.Views.{View, view}
use Rattle.plan_rows.specs.Names.{is_name, is_key}
use Rattle.plan_rows.specs.Plans.{plan_number, is_place, open_machines}
use Rattle.plan_desk.specs.Bodies.{publish_body, desk_body, desk_named, key_body, bind_body, calendar_body, lag_body}
use Rattle.plan_rows.specs.Changes.{Change, Keep, Publish, OpenDesk, SetKey, AddPlan, RemovePlan, BindPlace, SetCalendar, SetLag, apply}
use Rattle.plan_desk.specs.Calls.{Call, Request, Reply, admits}
use Rattle.plan_desk.specs.Calls as call
use Rattle.plan_desk.specs.Stories.{decided}
use Rattle.plan_desk.specs.Outcomes.{refuses, tells, makes, unless, given, some, why_or}
use Rattle.plan_desk.specs.OfficeRoutes.{Publishes, Opens, SetsKey}
use Rattle.plan_desk.specs.PlanRoutes.{of_plan, by_kind, Imports, ImportsProject, ImportsShop, Removes, Binds, Calendars, SetsLag}
use Rattle.plan_desk.specs.PageRoutes.{Dates, IsShopScheduleBy, OfShopSchedule, Schedules, Charts, OfCalendar, Days}
use Rattle.plan_desk.specs.Decisions.{Answers, IsDecision}

-- a name has small letters, digits and `-`
name_with_a_digit : is_name (codes "north-2") ≡ true
name_with_a_digit = refl

-- a name has at most 32 bytes
name_of_32 : is_name (codes "abcdefghijklmnopqrstuvwxyz012345") ≡ true
name_of_32 = refl

name_of_33 : is_name (codes "abcdefghijklmnopqrstuvwxyz0123456") ≡ false
name_of_33 = refl

-- `-` doesn't begin a name
name_after_a_dash : is_name (codes "-a") ≡ false
name_after_a_dash = refl

-- an empty text isn't a name
name_of_none : is_name (codes "") ≡ false
name_of_none = refl

-- a text with a capital letter isn't a name
name_with_a_capital : is_name (codes "North") ≡ false
name_with_a_capital = refl

-- a key has 8 to 64 characters
key_of_7 : is_key (codes "Secret1") ≡ false
key_of_7 = refl

key_of_8 : is_key (codes "Secret12") ≡ true
key_of_8 = refl

key_of_64 : is_key (codes "0123456789abcdef0123456789abcdef0123456789abcdef0123456789abcdef") ≡ true
key_of_64 = refl

key_of_65 : is_key (codes "0123456789abcdef0123456789abcdef0123456789abcdef0123456789abcdef0") ≡ false
key_of_65 = refl

-- a key has no blank
key_with_a_blank : is_key (codes "Secret 12") ≡ false
key_with_a_blank = refl

-- the number of a plan has 1 to 7 digits
plan_7 : plan_number (codes "7") ≡ Some 7
plan_7 = refl

plan_1000000 : plan_number (codes "1000000") ≡ Some 1000000
plan_1000000 = refl

plan_of_eight_digits : plan_number (codes "10000000") ≡ None
plan_of_eight_digits = refl

-- the number of a plan has no leading zero
plan_007 : plan_number (codes "007") ≡ None
plan_007 = refl

plan_0 : plan_number (codes "0") ≡ None
plan_0 = refl

-- other words aren't numbers
plan_x : plan_number (codes "x") ≡ None
plan_x = refl

-- rows of plans, binds and lags
abbrev pub plan : Text → ℕ → PlanKind → Plan
plan desk n kind =
    record { desk = desk; n = n; kind = kind; name = []; body = []; start = []; days = [] }

abbrev pub bound : Text → ℕ → ℕ → Text → Bind
bound desk n place code = record { desk = desk; n = n; place = place; code = code }

abbrev pub lagged : Text → ℕ → ℕ → ℕ → ℕ → Lag
lagged desk n source target lag =
    record { desk = desk; n = n; source = source; target = target; lag = lag }

abbrev pub desk_row : Text → ℕ → Desk
desk_row desk next = record { desk = desk; digest = []; next = next }

abbrev pub north : Text
north = codes "north"

abbrev north2 : Text
north2 = codes "north-2"

abbrev pub crew_a : Text
crew_a = codes "crew-a"

-- A code, and two desks: the name of one begins with that of the other. Plan 1 of both has binds
-- and lags, and the rows are in no order.
abbrev pub office : World
office = record {
  office = [];
  published = record { code = crew_a; kind = Crew; capacity = 2 } ∷ [];
  desks = desk_row north2 2 ∷ desk_row north 5 ∷ [];
  plans = plan north 4 Project ∷ plan north2 1 Shop ∷ plan north 1 Project ∷ plan north 2 Project ∷ [];
  binds = bound north 1 1 crew_a ∷ bound north2 1 0 (codes "m-1") ∷ bound north 2 1 crew_a ∷ [];
  lags = lagged north 2 1 2 3 ∷ lagged north 1 2 3 4 ∷ lagged north2 1 2 3 5 ∷ [];
}

-- a desk sees its own rows, and all codes
north_sees : view north office ≡ record {
  office = [];
  published = record { code = crew_a; kind = Crew; capacity = 2 } ∷ [];
  desk = Some (desk_row north 5);
  plans = plan north 4 Project ∷ plan north 1 Project ∷ plan north 2 Project ∷ [];
  binds = bound north 1 1 crew_a ∷ bound north 2 1 crew_a ∷ [];
  lags = lagged north 2 1 2 3 ∷ lagged north 1 2 3 4 ∷ [];
}
north_sees = refl

-- the front of a desk's name names another desk, which doesn't exist
nor_sees : (view (codes "nor") office).plans ≡ []
nor_sees = refl

-- a known code keeps its one row, which gets the capacity
published_again : (apply [] (Publish crew_a Crew 7) office).published ≡ record { code = crew_a; kind = Crew; capacity = 7 } ∷ []
published_again = refl

-- another code gets a row
published_besides : (apply [] (Publish (codes "m-1") Machine 1) office).published
    ≡ record { code = crew_a; kind = Crew; capacity = 2 } ∷ record { code = codes "m-1"; kind = Machine; capacity = 1 } ∷ []
published_besides = refl

-- a new desk has its name and the digest of its key, and its first plan gets number 1
opened : (apply (codes "south") (OpenDesk (3 ∷ [])) office).desks
    ≡ desk_row north2 2 ∷ desk_row north 5 ∷ record { desk = codes "south"; digest = 3 ∷ []; next = 1 } ∷ []
opened = refl

-- another key for one desk alone
key_set : (apply north (SetKey (3 ∷ [])) office).desks
    ≡ desk_row north2 2 ∷ record { desk = north; digest = 3 ∷ []; next = 5 } ∷ []
key_set = refl

-- a plan gets the desk's next number, which rises by 1, and the other desk stays
added : apply north (AddPlan Shop (codes "tiny") (codes "x")) office ≡ record office {
  desks = desk_row north2 2 ∷ desk_row north 6 ∷ [];
  plans = plan north 4 Project ∷ plan north2 1 Shop ∷ plan north 1 Project ∷ plan north 2 Project
      ∷ record { desk = north; n = 5; kind = Shop; name = codes "tiny"; body = codes "x"; start = []; days = [] } ∷ [];
}
added = refl

-- removing a plan removes its binds and lags; plan 1 of the other desk remains
removed : apply north (RemovePlan 1) office ≡ record office {
  plans = plan north 4 Project ∷ plan north2 1 Shop ∷ plan north 2 Project ∷ [];
  binds = bound north2 1 0 (codes "m-1") ∷ bound north 2 1 crew_a ∷ [];
  lags = lagged north 2 1 2 3 ∷ lagged north2 1 2 3 5 ∷ [];
}
removed = refl

-- a bound place gets another code
bound_again : (apply north (BindPlace 2 1 (codes "crew-b")) office).binds
    ≡ bound north 1 1 crew_a ∷ bound north2 1 0 (codes "m-1") ∷ bound north 2 1 (codes "crew-b") ∷ []
bound_again = refl

-- another place gets a row
bound_besides : (apply north (BindPlace 2 2 crew_a) office).binds
    ≡ bound north 1 1 crew_a ∷ bound north2 1 0 (codes "m-1") ∷ bound north 2 1 crew_a ∷ bound north 2 2 crew_a ∷ []
bound_besides = refl

-- lag 0 drops the row
lag_dropped : (apply north (SetLag 1 2 3 0) office).lags ≡ lagged north 2 1 2 3 ∷ lagged north2 1 2 3 5 ∷ []
lag_dropped = refl

-- lag 0 on an arc without a row gives it none
lag_of_none : (apply north (SetLag 4 1 2 0) office).lags ≡ office.lags
lag_of_none = refl

-- another lag on an arc that has one
lag_changed : (apply north (SetLag 1 2 3 9) office).lags
    ≡ lagged north 2 1 2 3 ∷ lagged north 1 2 3 9 ∷ lagged north2 1 2 3 5 ∷ []
lag_changed = refl

-- a calendar for one plan alone
calendar_set : (apply north2 (SetCalendar 1 (codes "2026-11-23") (codes "1111100")) office).plans
    ≡ plan north 4 Project
    ∷ record { desk = north2; n = 1; kind = Shop; name = []; body = []; start = codes "2026-11-23"; days = codes "1111100" }
    ∷ plan north 1 Project ∷ plan north 2 Project ∷ []
calendar_set = refl

-- a body that publishes
abbrev publishing : Text
publishing = codes "{\"code\": \"crew-a\", \"kind\": \"crew\", \"capacity\": 2}"

publishing_read : publish_body publishing ≡ Some (record { code = crew_a; kind = Crew; capacity = 2 })
unfolding publish_body is_utf8 chars serde_json_on_literals
publishing_read = refl

-- if two members have one name, the last one counts
last_counts : publish_body (codes "{\"code\":\"crew-a\",\"kind\":\"crew\",\"capacity\":2,\"capacity\":3}")
    ≡ Some (record { code = crew_a; kind = Crew; capacity = 3 })
unfolding publish_body is_utf8 chars serde_json_on_literals
last_counts = refl

-- other members and the order of members are ignored
others_are_read : publish_body (codes "{\"capacity\":10000,\"note\":[1.5,null],\"kind\":\"machine\",\"code\":\"m-1\"}")
    ≡ Some (record { code = codes "m-1"; kind = Machine; capacity = 10000 })
unfolding publish_body is_utf8 chars serde_json_on_literals
others_are_read = refl

-- a capacity of 10,001 is too much
capacity_too_great : publish_body (codes "{\"code\":\"crew-a\",\"kind\":\"crew\",\"capacity\":10001}") ≡ None
unfolding publish_body is_utf8 chars serde_json_on_literals
capacity_too_great = refl

-- a kind has small letters
kind_unknown : publish_body (codes "{\"code\":\"crew-a\",\"kind\":\"Crew\",\"capacity\":2}") ≡ None
unfolding publish_body is_utf8 chars serde_json_on_literals
kind_unknown = refl

-- an empty body isn't JSON
empty_body : publish_body [] ≡ None
unfolding publish_body is_utf8 chars serde_json_on_literals
empty_body = refl

-- a desk and its key
desk_read : desk_body (codes "{\"desk\":\"north\",\"key\":\"Secret12\"}")
    ≡ Some (record { desk = north; key = codes "Secret12" })
unfolding desk_body is_utf8 chars serde_json_on_literals
desk_read = refl

-- a body with a key that is too short is refused, but still names its desk
desk_of_short_key : desk_body (codes "{\"desk\":\"north\",\"key\":\"Secret1\"}") ≡ None
unfolding desk_body is_utf8 chars serde_json_on_literals
desk_of_short_key = refl

desk_is_named : desk_named (codes "{\"desk\":\"north\",\"key\":\"Secret1\"}") ≡ Some north
unfolding desk_named is_utf8 chars serde_json_on_literals
desk_is_named = refl

-- place 1 of a project with two resources
bind_read : bind_body (is_place Project 2) (codes "{\"code\":\"crew-a\",\"place\":1}")
    ≡ Some (record { code = crew_a; place = 1 })
unfolding bind_body is_utf8 chars serde_json_on_literals
bind_read = refl

-- 1.0 isn't a whole number
place_with_a_point : bind_body (is_place Project 2) (codes "{\"code\":\"crew-a\",\"place\":1.0}") ≡ None
unfolding bind_body is_utf8 chars serde_json_on_literals
place_with_a_point = refl

-- the places of a project begin at 1, and those of a shop at 0
place_0_of_project : bind_body (is_place Project 2) (codes "{\"code\":\"crew-a\",\"place\":0}") ≡ None
unfolding bind_body is_utf8 chars serde_json_on_literals
place_0_of_project = refl

place_0_of_shop : bind_body (is_place Shop 2) (codes "{\"code\":\"m-1\",\"place\":0}")
    ≡ Some (record { code = codes "m-1"; place = 0 })
unfolding bind_body is_utf8 chars serde_json_on_literals
place_0_of_shop = refl

place_2_of_shop : bind_body (is_place Shop 2) (codes "{\"code\":\"m-1\",\"place\":2}") ≡ None
unfolding bind_body is_utf8 chars serde_json_on_literals
place_2_of_shop = refl

-- the texts of a calendar are checked later
calendar_read : calendar_body (codes "{\"start\":\"never\",\"days\":\"\"}")
    ≡ Some (record { start = codes "never"; days = [] })
unfolding calendar_body is_utf8 chars serde_json_on_literals
calendar_read = refl

-- a lag of 4 from activity 2 to activity 3
lag_read : lag_body (codes "{\"from\":2,\"to\":3,\"lag\":4}") ≡ Some (record { from = 2; to = 3; lag = 4 })
unfolding lag_body is_utf8 chars serde_json_on_literals
lag_read = refl

-- a lag isn't below 0
lag_below_0 : lag_body (codes "{\"from\":2,\"to\":3,\"lag\":-1}") ≡ None
unfolding lag_body is_utf8 chars serde_json_on_literals
lag_below_0 = refl

abbrev pub asks : Option Text → Call → Request
asks key call = record { key = key; call = call }

abbrev pub said : ℕ → ReplyKind → Text → Reply
said status kind body = record { status = status; kind = kind; body = body }

abbrev key_refused : Reply
key_refused = said 403 Plain (codes "E01 key\n")

-- the answer to an admitted call is its decision
pub admitted : (v : View) (key : Option Text) (c : Call) (reply : Reply) (change : Change)
    → admits v (asks key c) ≡ true → Answers v c reply change → IsDecision v (asks key c) reply change
unfolding IsDecision
admitted v key c reply change open_ told = subst (λ b. decided b (Answers v c) reply change) (sym open_) told

-- no key
without_key : IsDecision (view north office) (asks None (call.plans north)) key_refused Keep
unfolding IsDecision
without_key = (refl, refl)

publishing_without_key : IsDecision (view [] office) (asks None (call.publish publishing)) key_refused Keep
unfolding IsDecision
publishing_without_key = (refl, refl)

-- a text that isn't a key
short_key : IsDecision (view north office) (asks (Some (codes "Secret1")) (call.plans north)) key_refused Keep
unfolding IsDecision
short_key = (refl, refl)

-- any key, for a desk that doesn't exist
unknown_desk : (key : Option Text) → IsDecision (view (codes "nor") office) (asks key (call.plans (codes "nor"))) key_refused Keep
unfolding IsDecision
unknown_desk key = (refl, refl)

-- the plans of a desk are listed by number, whatever the order of the rows
plans_listed : (key : Option Text) → admits (view north office) (asks key (call.plans north)) ≡ true
    → IsDecision (view north office) (asks key (call.plans north))
    (said 200 Json (codes "{\"plans\":[{\"kind\":\"project\",\"n\":1},{\"kind\":\"project\",\"n\":2},{\"kind\":\"project\",\"n\":4}]}\n")) Keep
unfolding tells digits
plans_listed key open_ = admitted _ key _ _ _ open_ (refl, refl)

-- the other desk has one plan
other_plans_listed : (key : Option Text) → admits (view north2 office) (asks key (call.plans north2)) ≡ true
    → IsDecision (view north2 office) (asks key (call.plans north2))
    (said 200 Json (codes "{\"plans\":[{\"kind\":\"shop\",\"n\":1}]}\n")) Keep
unfolding tells digits
other_plans_listed key open_ = admitted _ key _ _ _ open_ (refl, refl)

-- the published codes
capacities_listed : (key : Option Text) → admits (view north office) (asks key (call.capacities north)) ≡ true
    → IsDecision (view north office) (asks key (call.capacities north))
    (said 200 Json (codes "{\"capacities\":[{\"capacity\":2,\"code\":\"crew-a\",\"kind\":\"crew\"}]}\n")) Keep
unfolding tells digits
capacities_listed key open_ = admitted _ key _ _ _ open_ (refl, refl)

abbrev pub not_there : Reply
not_there = said 404 Plain (codes "E02 not found\n")

abbrev pub body_refused : Reply
body_refused = said 400 Plain (codes "E03 body\n")

abbrev pub kind_refused : Reply
kind_refused = said 409 Plain (codes "E07 other kind of plan\n")

-- a plan is removed
plan_removed : (key : Option Text) → admits (view north office) (asks key (call.remove north (codes "2"))) ≡ true
    → IsDecision (view north office) (asks key (call.remove north (codes "2"))) (said 200 Json (codes "{\"n\":2}\n")) (RemovePlan 2)
unfolding Removes of_plan given makes digits
plan_removed key open_ = admitted _ key _ _ _ open_ (refl, refl)

-- 007 isn't the number of a plan
no_plan_007 : (key : Option Text) → admits (view north office) (asks key (call.remove north (codes "007"))) ≡ true
    → IsDecision (view north office) (asks key (call.remove north (codes "007"))) not_there Keep
unfolding Removes of_plan given refuses
no_plan_007 key open_ = admitted _ key _ _ _ open_ (refl, refl)

-- the other desk has no plan 2, though this one has
no_plan_2 : (key : Option Text) → admits (view north2 office) (asks key (call.remove north2 (codes "2"))) ≡ true
    → IsDecision (view north2 office) (asks key (call.remove north2 (codes "2"))) not_there Keep
unfolding Removes of_plan given refuses
no_plan_2 key open_ = admitted _ key _ _ _ open_ (refl, refl)

-- a desk's plans 1 to n
plans_to : ℕ → List Plan
plans_to zero = []
plans_to (suc n) = plan north (suc n) Project ∷ plans_to n

abbrev desk_alone : Desk → List Plan → View
desk_alone row rows =
    record { office = []; published = []; desk = Some row; plans = rows; binds = []; lags = [] }

abbrev full : View
full = desk_alone (desk_row north 101) (plans_to 100)

-- a desk with 100 plans accepts no other, whatever the file contains
full_desk : (key : Option Text) (body : Text) → admits full (asks key (call.import_project north body)) ≡ true
    → IsDecision full (asks key (call.import_project north body)) (said 409 Plain (codes "E08 100 plans\n")) Keep
unfolding ImportsProject Imports given unless refuses plans_to
full_desk key body open_ = admitted _ key _ _ _ open_ (refl, refl)

full_desk_for_shops : (key : Option Text) (name body : Text) → admits full (asks key (call.import_shop north name body)) ≡ true
    → IsDecision full (asks key (call.import_shop north name body)) (said 409 Plain (codes "E08 100 plans\n")) Keep
unfolding ImportsShop Imports given unless refuses plans_to
full_desk_for_shops key name body open_ = admitted _ key _ _ _ open_ (refl, refl)

abbrev spent : View
spent = desk_alone (desk_row north 1000001) []

-- a desk that has used number 1,000,000 accepts no plan, even if it has none left
spent_desk : (key : Option Text) (body : Text) → admits spent (asks key (call.import_project north body)) ≡ true
    → IsDecision spent (asks key (call.import_project north body)) (said 409 Plain (codes "E09 numbers spent\n")) Keep
unfolding ImportsProject Imports given unless refuses
spent_desk key body open_ = admitted _ key _ _ _ open_ (refl, refl)

-- a shop has no dates
dates_of_shop : (key : Option Text) → admits (view north2 office) (asks key (call.dates north2 (codes "1"))) ≡ true
    → IsDecision (view north2 office) (asks key (call.dates north2 (codes "1"))) kind_refused Keep
unfolding Dates of_plan given by_kind refuses
dates_of_shop key open_ = admitted _ key _ _ _ open_ (refl, refl)

-- a shop has no lags
abbrev lag_call : Text → Text → Call
lag_call n body = call.set_lag north2 n body

lag_of_shop : (key : Option Text) → admits (view north2 office) (asks key (lag_call (codes "1") (codes "{\"from\":2,\"to\":3,\"lag\":4}"))) ≡ true
    → IsDecision (view north2 office) (asks key (lag_call (codes "1") (codes "{\"from\":2,\"to\":3,\"lag\":4}"))) kind_refused Keep
unfolding SetsLag of_plan given by_kind refuses lag_body is_utf8 chars serde_json_on_literals
lag_of_shop key open_ = admitted _ key _ _ _ open_ (refl, refl)

-- the body is checked before the kind of the plan
bad_lag_of_shop : (key : Option Text) → admits (view north2 office) (asks key (lag_call (codes "1") (codes "{}"))) ≡ true
    → IsDecision (view north2 office) (asks key (lag_call (codes "1") (codes "{}"))) body_refused Keep
unfolding SetsLag of_plan given refuses lag_body is_utf8 chars serde_json_on_literals
bad_lag_of_shop key open_ = admitted _ key _ _ _ open_ (refl, refl)

-- the number of the plan is checked before the body
bad_lag_of_none : (key : Option Text) (body : Text) → admits (view north2 office) (asks key (lag_call (codes "2") body)) ≡ true
    → IsDecision (view north2 office) (asks key (lag_call (codes "2") body)) not_there Keep
unfolding SetsLag of_plan given refuses
bad_lag_of_none key body open_ = admitted _ key _ _ _ open_ (refl, refl)

-- a body without days isn't a calendar
calendar_without_days : (key : Option Text) → admits (view north office) (asks key (call.set_calendar north (codes "1") (codes "{\"start\":\"2026-11-23\"}"))) ≡ true
    → IsDecision (view north office) (asks key (call.set_calendar north (codes "1") (codes "{\"start\":\"2026-11-23\"}"))) body_refused Keep
unfolding Calendars of_plan given refuses calendar_body is_utf8 chars serde_json_on_literals
calendar_without_days key open_ = admitted _ key _ _ _ open_ (refl, refl)

-- the call that publishes a code
abbrev publish_call : Text → Call
publish_call body = call.publish body

-- a published code is published again
crew_published : (key : Option Text) → admits (view [] office) (asks key (publish_call publishing)) ≡ true
    → IsDecision (view [] office) (asks key (publish_call publishing))
    (said 200 Json (codes "{\"capacity\":2,\"code\":\"crew-a\",\"kind\":\"crew\"}\n")) (Publish crew_a Crew 2)
unfolding Publishes given unless makes digits publish_body is_utf8 chars serde_json_on_literals
crew_published key open_ = admitted _ key _ _ _ open_ (refl, refl)

-- a published code keeps its kind
kind_kept : (key : Option Text) → admits (view [] office) (asks key (publish_call (codes "{\"code\":\"crew-a\",\"kind\":\"machine\",\"capacity\":2}"))) ≡ true
    → IsDecision (view [] office) (asks key (publish_call (codes "{\"code\":\"crew-a\",\"kind\":\"machine\",\"capacity\":2}")))
    (said 409 Plain (codes "E06 kind differs\n")) Keep
unfolding Publishes given unless refuses publish_body is_utf8 chars serde_json_on_literals
kind_kept key open_ = admitted _ key _ _ _ open_ (refl, refl)

-- the body that opens a desk
abbrev opening : Text → Text
opening desk = codes "{\"desk\":\"" ++ desk ++ codes "\",\"key\":\"Secret12\"}"

-- a desk is opened with the digest of its key
desk_opened : (key : Option Text) → admits (view (codes "nor") office) (asks key (call.open_desk (opening (codes "nor")))) ≡ true
    → IsDecision (view (codes "nor") office) (asks key (call.open_desk (opening (codes "nor"))))
    (said 201 Json (codes "{\"desk\":\"nor\"}\n")) (OpenDesk (sha256 (codes "Secret12")))
unfolding Opens given unless makes desk_body is_utf8 chars serde_json_on_literals
desk_opened key open_ = admitted _ key _ _ _ open_ (refl, refl)

-- a desk is opened only once
desk_kept : (key : Option Text) → admits (view north office) (asks key (call.open_desk (opening north))) ≡ true
    → IsDecision (view north office) (asks key (call.open_desk (opening north))) (said 409 Plain (codes "E04 desk exists\n")) Keep
unfolding Opens given unless refuses desk_body is_utf8 chars serde_json_on_literals
desk_kept key open_ = admitted _ key _ _ _ open_ (refl, refl)

-- a desk that doesn't exist gets no key, whatever the body
key_of_none : (key : Option Text) (body : Text) → admits (view (codes "nor") office) (asks key (call.set_key (codes "nor") body)) ≡ true
    → IsDecision (view (codes "nor") office) (asks key (call.set_key (codes "nor") body)) not_there Keep
unfolding SetsKey unless refuses
key_of_none key body open_ = admitted _ key _ _ _ open_ (refl, refl)

-- a key that is too short isn't set
short_key_unset : (key : Option Text) → admits (view north office) (asks key (call.set_key north (codes "{\"key\":\"Secret1\"}"))) ≡ true
    → IsDecision (view north office) (asks key (call.set_key north (codes "{\"key\":\"Secret1\"}"))) body_refused Keep
unfolding SetsKey unless given refuses key_body is_utf8 chars serde_json_on_literals
short_key_unset key open_ = admitted _ key _ _ _ open_ (refl, refl)

-- a shop of one job with one step, which uses machine 0 for 2 time units
abbrev tiny : Text
tiny = codes "1 1\n0 2\n"

abbrev tiny_shop : docs.Shop
tiny_shop = record { machines = 1; jobs = (record { machine = 0; time = 2 } ∷ []) ∷ [] }

tiny_says : Says (codes "-") tiny tiny_shop
unfolding plain shop_at limited_at limited number_at jobs_at steps_at step_at machine_at duration_at
tiny_says =
    let spelled : BeginsWith (bare_stream tiny).words (shop_numbers tiny_shop) × docs.IsShop tiny_shop =
    shop_spelled (bare_stream tiny) tiny_shop refl in
    record { readable = refl; stream = (bare_stream tiny, refl, spelled.0); limits = spelled.1 }

-- a shop is imported with the desk's next number
shop_imported : (key : Option Text) → admits (view north office) (asks key (call.import_shop north (codes "-") tiny)) ≡ true
    → IsDecision (view north office) (asks key (call.import_shop north (codes "-") tiny))
    (said 201 Json (codes "{\"kind\":\"shop\",\"n\":5}\n")) (AddPlan Shop (codes "-") tiny)
unfolding ImportsShop Imports given unless why_or some makes digits
shop_imported key open_ = admitted _ key _ _ _ open_ (inr (tiny_shop, tiny_says, (refl, refl)))

abbrev pub published : Text → Kind → ℕ → Published
published code kind capacity = record { code = code; kind = kind; capacity = capacity }

abbrev tiny_plan : Plan
tiny_plan = record { desk = north; n = 1; kind = Shop; name = codes "-"; body = tiny; start = []; days = [] }

-- a desk with this shop, whose machine is bound to a code of capacity 0
abbrev tiny_desk : View
tiny_desk = record {
  office = [];
  published = published crew_a Crew 2 ∷ published (codes "m-1") Machine 0 ∷ published (codes "m-2") Machine 1 ∷ [];
  desk = Some (desk_row north 2);
  plans = tiny_plan ∷ [];
  binds = bound north 1 0 (codes "m-1") ∷ [];
  lags = [];
}

abbrev bind_call : Text → Call
bind_call body = call.bind north (codes "1") body

-- machine 0 is bound to another code
machine_bound : (key : Option Text) → admits tiny_desk (asks key (bind_call (codes "{\"code\":\"m-2\",\"place\":0}"))) ≡ true
    → IsDecision tiny_desk (asks key (bind_call (codes "{\"code\":\"m-2\",\"place\":0}")))
    (said 200 Json (codes "{\"code\":\"m-2\",\"place\":0}\n")) (BindPlace 1 0 (codes "m-2"))
unfolding Binds of_plan given some unless makes digits bind_body is_utf8 chars serde_json_on_literals
machine_bound key open_ = admitted _ key _ _ _ open_ (1, (tiny_shop, tiny_says, refl), (refl, refl))

-- the shop has no machine 1
no_machine_1 : (key : Option Text) → admits tiny_desk (asks key (bind_call (codes "{\"code\":\"m-2\",\"place\":1}"))) ≡ true
    → IsDecision tiny_desk (asks key (bind_call (codes "{\"code\":\"m-2\",\"place\":1}"))) body_refused Keep
unfolding Binds of_plan given some refuses bind_body is_utf8 chars serde_json_on_literals
no_machine_1 key open_ = admitted _ key _ _ _ open_ (1, (tiny_shop, tiny_says, refl), (refl, refl))

-- a code that isn't published
code_unknown : (key : Option Text) → admits tiny_desk (asks key (bind_call (codes "{\"code\":\"m-3\",\"place\":0}"))) ≡ true
    → IsDecision tiny_desk (asks key (bind_call (codes "{\"code\":\"m-3\",\"place\":0}")))
    (said 404 Plain (codes "E05 code not published\n")) Keep
unfolding Binds of_plan given some unless refuses bind_body is_utf8 chars serde_json_on_literals
code_unknown key open_ = admitted _ key _ _ _ open_ (1, (tiny_shop, tiny_says, refl), (refl, refl))

-- a crew isn't a machine
crew_on_machine : (key : Option Text) → admits tiny_desk (asks key (bind_call (codes "{\"code\":\"crew-a\",\"place\":0}"))) ≡ true
    → IsDecision tiny_desk (asks key (bind_call (codes "{\"code\":\"crew-a\",\"place\":0}")))
    (said 409 Plain (codes "E06 kind differs\n")) Keep
unfolding Binds of_plan given some unless refuses bind_body is_utf8 chars serde_json_on_literals
crew_on_machine key open_ = admitted _ key _ _ _ open_ (1, (tiny_shop, tiny_says, refl), (refl, refl))

-- its machine is in use and closed
tiny_is_closed : IsFirstClosed (shop_of tiny_shop).steps (open_machines tiny_desk 1 1) 0
tiny_is_closed = (
  (omega arith, refl, (record { machine = 0; time = 2 }, (0, omega arith, refl), refl, omega arith)),
  (λ h less closed. omega (arith, less)),
)

-- a shop with a closed machine in use has no schedule
closed_schedule : (key : Option Text) → admits tiny_desk (asks key (call.schedule north (codes "1") (codes "spt"))) ≡ true
    → IsDecision tiny_desk (asks key (call.schedule north (codes "1") (codes "spt")))
    (said 422 Plain (codes "E11 S4 machine 0 closed\n")) Keep
unfolding Schedules of_plan given by_kind OfShopSchedule some why_or refuses digits
closed_schedule key open_ = admitted _ key _ _ _ open_ (
  shop_of tiny_shop,
  (tiny_shop, tiny_says, refl),
  inl (codes "S4 machine 0 closed", inr ((rule.ShortestTime, refl), (0, tiny_is_closed, refl)), (refl, refl)),
)

-- no rule has this name
no_such_rule : (r : ShopRule) → codes "lpt" ≡ rule_text r → ⊥
no_such_rule rule.ShortestTime e = grind (arith, e)
no_such_rule rule.MostWorkRemaining e = grind (arith, e)
no_such_rule rule.FirstCome e = grind (arith, e)

-- an unknown rule is reported before a closed machine
unknown_rule : (key : Option Text) → admits tiny_desk (asks key (call.chart north (codes "1") (codes "lpt"))) ≡ true
    → IsDecision tiny_desk (asks key (call.chart north (codes "1") (codes "lpt")))
    (said 422 Plain (codes "E11 S3 unknown rule\n")) Keep
unfolding Charts of_plan given by_kind OfShopSchedule some why_or refuses
unknown_rule key open_ = admitted _ key _ _ _ open_ (
  shop_of tiny_shop,
  (tiny_shop, tiny_says, refl),
  inl (codes "S3 unknown rule", inl (shop_fault.UnknownRule, (refl, no_such_rule), refl), (refl, refl)),
)

-- the same desk with no bind, so that the machine is open
abbrev open_desk : View
open_desk = record tiny_desk { binds = [] }

tiny_is_open : NoneIsClosed (shop_of tiny_shop).steps (open_machines open_desk 1 1)
tiny_is_open zero closed = absurd (both_ways true closed.1 refl)
tiny_is_open (suc m) closed = absurd (omega (arith, closed.0))

tiny_on_machines : All (λ w. w.machine < 1) (shop_of tiny_shop).steps
tiny_on_machines zero d less = omega arith
tiny_on_machines (suc k) d less = absurd (omega (arith, less))

tiny_is_shop : IsShop (shop_of tiny_shop)
tiny_is_shop = record {
  some_machine = omega arith;
  all_steps = refl;
  on_machines = tiny_on_machines;
}

-- the schedule by the rule `spt`
tiny_schedule : IsShopScheduleBy (shop_of tiny_shop) (open_machines open_desk 1 1) (codes "spt") (rule_starts rule.ShortestTime (shop_of tiny_shop))
unfolding RuleIsActive
tiny_schedule = record {
  rule = rule.ShortestTime;
  named = refl;
  opened = tiny_is_open;
  starts_are = refl;
  active = rule_is_active (shop_of tiny_shop) tiny_is_shop (spt (shop_of tiny_shop)) (spt_chooses (shop_of tiny_shop));
}

-- a plan without a calendar has no days
no_calendar : (key : Option Text) → admits open_desk (asks key (call.days north (codes "1") (codes "spt"))) ≡ true
    → IsDecision open_desk (asks key (call.days north (codes "1") (codes "spt")))
    (said 422 Plain (codes "E12 G4 no calendar\n")) Keep
unfolding Days of_plan given by_kind OfShopSchedule OfCalendar some why_or unless refuses
no_calendar key open_ = admitted _ key _ _ _ open_ (shop_of tiny_shop, (tiny_shop, tiny_says, refl), inr (rule_starts rule.ShortestTime (shop_of tiny_shop), tiny_schedule, (refl, refl)))
