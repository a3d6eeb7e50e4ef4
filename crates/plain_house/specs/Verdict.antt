-- What a command is replied to, before the number of events is put on it, and the event that it adds, if any.
use Rattle.std.specs.Prelude.{List, [], ◌∷◌, Option, Some, None, option_map, Result, Ok, Err}
use Rattle.ocpi_types.specs.declared.refusal.Refusal.{Refusal}
use Rattle.ocpi_types.specs.declared.refusal.Refusal.TheVariants as refusal
use Rattle.ocpi_types.specs.declared.refusal.Store.{Store}
use Rattle.plain_house.specs.declared.answer.Answer.{Answer}
use Rattle.plain_house.specs.declared.event.Event.{Event}

pub record Verdict : Type 0 where
  pub reply : Result Answer Refusal
  pub event : Option Event

-- a reply that adds nothing
abbrev pub replies : Result Answer Refusal → Verdict
replies reply = record { reply = reply; event = None }

abbrev pub accepts : Answer → Event → Verdict
accepts answer event = record { reply = Ok answer; event = Some event }

-- ---- cases, of which the first that holds counts

abbrev pub Case : Type 0
Case = Option (Result Answer Refusal)

-- refused where there is a refusal
abbrev pub refused_for : Option Refusal → Case
refused_for found = option_map (λ refusal. Err refusal) found

-- refused where a store is full
abbrev pub refused_at : Option Store → Case
refused_at full = option_map (λ what. Err (refusal.Full what)) full

-- the reply of the first case that holds
abbrev pub first_reply : List Case → Case
first_reply [] = None
first_reply (None ∷ cases) = first_reply cases
first_reply (Some reply ∷ cases) = Some reply

-- the same as a verdict; where none holds, the verdict that is given
abbrev pub unless : List Case → Verdict → Verdict
unless [] verdict = verdict
unless (None ∷ cases) verdict = unless cases verdict
unless (Some reply ∷ cases) verdict = replies reply
