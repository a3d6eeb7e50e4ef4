-- What replies tell of events.
use Rattle.std.proofs.Common.{◌≡◌, ℕ, true, false, refl, Result, Ok, Err}
use Rattle.ocpi_types.specs.declared.refusal.Refusal.{Refusal}
use Rattle.plain_house.specs.declared.answer.Answer.{Answer}
use Rattle.plain_house.specs.Laws.{adds_event, tells_event}
use Rattle.plain_house.specs.Replies.{Reply, is_no_memory, stamped}
use Rattle.shared_house.specs.Points.{point_of_reply}

-- want of memory tells of none
pub quiet : (reply : Reply) → is_no_memory reply ≡ true → adds_event reply ≡ false
quiet (Ok replied) h = absurd (cc)
quiet (Err refused) h = refl

-- a reply with its number of events tells of an event as it does without
pub adds_stamped : (at : ℕ) (reply : Result Answer Refusal) → adds_event (stamped at reply) ≡ tells_event reply
adds_stamped at (Ok answer) = refl
adds_stamped at (Err refusal) = refl

-- and it has that number
pub point_stamped : (at : ℕ) (reply : Result Answer Refusal) → point_of_reply (stamped at reply) ≡ at
point_stamped at (Ok answer) = refl
point_stamped at (Err refusal) = refl
