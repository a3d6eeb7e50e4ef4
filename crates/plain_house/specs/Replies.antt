-- A reply: an answer or a refusal, with the number of events before it.
use Rattle.std.specs.Prelude.{◌≡◌, ◌==◌, ℕ, Bool, true, false, List, [], ◌∷◌, ◌++◌, length, Option, Some, None, Result, Ok, Err, codes, decimal}
use Rattle.ocpi_types.specs.declared.refusal.Refusal.{Refusal}
use Rattle.ocpi_types.specs.declared.refusal.Refusal.TheVariants as refusal
use Rattle.ocpi_types.specs.Refusal.{refusal_number, refusal_text}
use Rattle.plain_house.specs.declared.event.Event.{Event}
use Rattle.plain_house.specs.declared.answer.Answer.{Answer}
use Rattle.plain_house.specs.declared.answer.Replied.{Replied}
use Rattle.plain_house.specs.declared.answer.Refused.{Refused}
use Rattle.plain_house.specs.Verdict.{Verdict}

abbrev pub Reply : Type 0
Reply = Result Replied Refused

-- the number of events is put on
abbrev pub stamped : ℕ → Result Answer Refusal → Reply
stamped at (Ok answer) = Ok (record { at = at; answer = answer })
stamped at (Err refusal) = Err (record { at = Some at; refusal = refusal })

abbrev pub with_event : List Event → Option Event → List Event
with_event events None = events
with_event events (Some event) = events ++ event ∷ []

-- ---- the message of a refused request: the refusal, and then the number of events if there is one

abbrev pub at_text : Option ℕ → List ℕ
at_text None = []
at_text (Some at) = codes " at " ++ decimal at

abbrev pub refused_text : Refused → List ℕ
refused_text refused = refusal_text refused.refusal ++ at_text refused.at

-- ---- want of memory

abbrev pub no_memory : Reply
no_memory = Err (record { at = None; refusal = refusal.NoMemory })

-- by the number on an answer line, which every refusal has of its own
abbrev pub is_refusal_no_memory : Refusal → Bool
is_refusal_no_memory reason = refusal_number reason == refusal_number refusal.NoMemory

abbrev pub is_no_memory : Reply → Bool
is_no_memory (Ok replied) = false
is_no_memory (Err refused) = is_refusal_no_memory refused.refusal

-- the reply is not want of memory
abbrev pub IsTold : Result Answer Refusal → Type 0
IsTold reply = (at : ℕ) → is_no_memory (stamped at reply) ≡ false

-- in one case the reply is the verdict's and the list has its event; in the other memory was refused and the list is as before
pub record Follows (verdict : Verdict) (events : List Event) (reply : Reply) (now : List Event) : Type 0 where
  pub told : is_no_memory reply ≡ false → (reply ≡ stamped (length events) verdict.reply) × (now ≡ with_event events verdict.event)
  pub refused : is_no_memory reply ≡ true → (reply ≡ no_memory) × (now ≡ events)
