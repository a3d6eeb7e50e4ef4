-- Calls of passes: where each stands, what it has added, and what its pass has seen before it.
use Rattle.std.specs.Prelude.{All, ◌≡◌, ℕ, ◌+◌, ◌==◌, ◌&&◌, Bool, false, List, ◌∷◌, ◌++◌, Contains, count_by, fold, sum_by, unwrap_or, if◌then◌else◌, Option, Some, Ok, Err}
use Rattle.ocpi_types.specs.declared.config.Config.{Config}
use Rattle.cdr_checks.specs.Admission.{IsAdmitted}
use Rattle.plain_house.specs.Laws.{adds_event}
use Rattle.plain_house.specs.Replies.{Reply, is_no_memory}
use Rattle.shared_house.specs.declared.call.Call.{Call}

-- the number of events before the call, which want of memory alone lacks
abbrev pub told_point : Reply → Option ℕ
told_point (Ok replied) = Some replied.at
told_point (Err refused) = refused.at

-- a reply without one stands before all events
abbrev pub point_of_reply : Reply → ℕ
point_of_reply (Ok replied) = replied.at
point_of_reply (Err refused) = unwrap_or refused.at 0

-- a call of one of the passes that found memory, behind these calls of its pass
pub record HaveMade (passes : List (List Call)) (earlier : List Call) (call : Call) : Type 0 where
  pub later : List Call
  pub in_pass : Contains passes (earlier ++ call ∷ later)
  pub found_memory : is_no_memory call.reply ≡ false

-- the commands of a pass are admitted, and those of all passes
abbrev pub AreAdmitted : Config → List Call → Type 0
AreAdmitted config calls = All (λ call. IsAdmitted config call.command) calls

abbrev pub AreAllAdmitted : Config → List (List Call) → Type 0
AreAllAdmitted config passes = All (AreAdmitted config) passes

-- ---- events

-- the event of this number is the one that the call added
abbrev pub owns : ℕ → Call → Bool
owns number call = adds_event call.reply && (point_of_reply call.reply == number)

-- how many calls of all passes added it
abbrev pub owners : List (List Call) → ℕ → ℕ
owners passes number = sum_by (λ calls. count_by (owns number) calls) passes

-- ---- what a pass has seen

-- behind a call it has seen the events before the call, and the call's own; want of memory shows nothing
abbrev pub seen_behind : ℕ → Call → ℕ
seen_behind front call =
    if is_no_memory call.reply then front
    else (if adds_event call.reply then point_of_reply call.reply + 1 else point_of_reply call.reply)

-- the front of a pass, the number of events that it has seen: 0 at first
abbrev pub front_behind : List Call → ℕ
front_behind calls = fold seen_behind 0 calls
