-- The line that answers a request: one JSON object, with its members in this order and no space, and a newline.
use Rattle.std.specs.Prelude.{ℕ, ℤ, Bool, true, false, List, [], ◌∷◌, ◌++◌, Option, Some, None, Ok, Err, codes}
use Rattle.json.specs.Token.{Token}
use Rattle.json.specs.Print.{print}
use Rattle.ocpi_json.specs.Name as name
use Rattle.ocpi_types.specs.declared.config.Config.{Config}
use Rattle.ocpi_types.specs.declared.refusal.Refusal.{Refusal}
use Rattle.ocpi_types.specs.declared.refusal.Refusal.TheVariants as refusal
use Rattle.ocpi_types.specs.Refusal.{refusal_name, store_name, refusal_number, refusal_status}
use Rattle.plain_house.specs.declared.answer.Answer.{Answer}
use Rattle.plain_house.specs.declared.answer.Answer.TheVariants.{Stored, Unchanged, Allowed, Blocked, NoCredit, Released, Accepted, Repeated, Closed, Settled, Exposure, Found, Statement}
use Rattle.plain_house.specs.declared.answer.Replied.{Replied}
use Rattle.plain_house.specs.declared.answer.Refused.{Refused}
use Rattle.plain_house.specs.Replies.{Reply}
use Rattle.request_lines.specs.Lines.{newline}
use Rattle.request_lines.specs.Members.{amount_member, flag_member, number_member, text_member}
use Rattle.request_lines.specs.TableText.{object, positions_member, rows_member}

-- where a CDR is booked
abbrev pub booked_members : ℤ → ℕ → List Token
booked_members amount period = amount_member (codes "amount") amount ++ number_member (codes "period") period

-- ---- answers

abbrev pub answer_name : Answer → List ℕ
answer_name Stored = codes "Stored"
answer_name Unchanged = codes "Unchanged"
answer_name (Allowed reference) = codes "ALLOWED"
answer_name Blocked = codes "BLOCKED"
answer_name (NoCredit over) = codes "NO_CREDIT"
answer_name (Released amount) = codes "Released"
answer_name (Accepted amount period) = codes "Accepted"
answer_name (Repeated amount period) = codes "Repeated"
answer_name (Closed period positions) = codes "Closed"
answer_name (Settled amount) = codes "Settled"
answer_name (Exposure holds debts limit) = codes "Exposure"
answer_name (Found amount period credited) = codes "Found"
answer_name (Statement rows) = codes "Statement"

abbrev pub answer_values : Config → Answer → List Token
answer_values config Stored = []
answer_values config Unchanged = []
answer_values config (Allowed reference) = text_member (codes "authorization_reference") reference
answer_values config Blocked = []
answer_values config (NoCredit over) = []
answer_values config (Released amount) = amount_member (codes "amount") amount
answer_values config (Accepted amount period) = booked_members amount period
answer_values config (Repeated amount period) = booked_members amount period
answer_values config (Closed period positions) = number_member (codes "period") period ++ positions_member config positions
answer_values config (Settled amount) = amount_member (codes "amount") amount
answer_values config (Exposure holds debts limit) =
    amount_member (codes "holds") holds ++ (amount_member (codes "debts") debts ++ amount_member (codes "limit") limit)
answer_values config (Found amount period credited) = booked_members amount period ++ flag_member (codes "credited") credited
answer_values config (Statement rows) = rows_member config rows

-- ---- refusals

-- the number of events before it, where the house refuses
abbrev pub at_member : Option ℕ → List Token
at_member None = []
at_member (Some at) = number_member (codes "at") at

abbrev pub scope_member : Bool → List Token
scope_member true = text_member (codes "scope") (codes "pair")
scope_member false = []

abbrev pub refusal_values : Refusal → List Token
refusal_values refusal.Syntax = []
refusal_values (refusal.Field called) = text_member (codes "field") (name.key_text called)
refusal_values refusal.UnknownParty = []
refusal_values refusal.NotYours = []
refusal_values refusal.WrongCurrency = []
refusal_values refusal.BadDates = []
refusal_values refusal.TariffNotGiven = []
refusal_values refusal.UnsupportedRestriction = []
refusal_values refusal.Reservation = []
refusal_values refusal.EnergyMismatch = []
refusal_values refusal.AmountTooLarge = []
refusal_values (refusal.CostMismatch rated) = amount_member (codes "rated") rated
refusal_values refusal.Conflict = []
refusal_values refusal.TariffNotRegistered = []
refusal_values refusal.UnknownToken = []
refusal_values refusal.UnknownHold = []
refusal_values refusal.UnknownOriginal = []
refusal_values refusal.CreditOfCredit = []
refusal_values refusal.AlreadyCredited = []
refusal_values refusal.CreditDiffers = []
refusal_values (refusal.NotCurrent current) = number_member (codes "current") current
refusal_values refusal.PeriodOpen = []
refusal_values refusal.AlreadySettled = []
refusal_values refusal.UnknownCdr = []
refusal_values (refusal.Full what) = text_member (codes "what") (store_name what)
refusal_values (refusal.OverLimit exposure limit pair) =
    amount_member (codes "exposure") exposure ++ (amount_member (codes "limit") limit ++ scope_member pair)
refusal_values refusal.NoMemory = []
refusal_values (refusal.TooLate original current) =
    number_member (codes "original") original ++ number_member (codes "current") current

-- ---- lines

-- the members that begin each line
unfoldable pub opening : ℕ → List ℕ → List ℕ → List Token
opening status called name = number_member (codes "status_code") status ++ text_member called name

abbrev pub replied_values : Config → Replied → List Token
replied_values config replied =
    opening 1000 (codes "answer") (answer_name replied.answer)
    ++ (number_member (codes "at") replied.at ++ answer_values config replied.answer)

abbrev pub refused_values : Refused → List Token
refused_values refused =
    opening (refusal_status refused.refusal) (codes "refusal") (refusal_name refused.refusal)
    ++ (number_member (codes "number") (refusal_number refused.refusal) ++ (at_member refused.at ++ refusal_values refused.refusal))

abbrev pub reply_values : Config → Reply → List Token
reply_values config (Ok replied) = replied_values config replied
reply_values config (Err refused) = refused_values refused

-- the object of a reply, and its line
abbrev pub reply_tokens : Config → Reply → List Token
reply_tokens config reply = object (reply_values config reply)

unfoldable pub answer_text : Config → Reply → List ℕ
answer_text config reply = print (reply_tokens config reply) ++ newline ∷ []
