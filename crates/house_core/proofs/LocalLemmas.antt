-- What decides a step, and what it changes.
use Rattle.std.proofs.Common.{◌≡◌, ℕ, count_by, List, [], ◌++◌, Bool, true, false, refl, sym, ap, ap₂, Option, None, Some, option_map, is_none, if◌then◌else◌, slice_get, length}
use Rattle.std.specs.Option.{option_and_then, option_map_or}
use Rattle.std.proofs.lemmas.Option.{none-some}
use Rattle.ocpi_types.specs.declared.config.Operator.{Operator}
use Rattle.cdr_checks.specs.declared.request.Command.{Command}
use Rattle.plain_house.specs.declared.entry.AccountEntry.{AccountEntry}
use Rattle.plain_house.specs.declared.entry.BookEntry.{BookEntry}
use Rattle.plain_house.specs.Known.{Known}
use Rattle.plain_house.specs.Replies.{stamped}
use Rattle.period_order.specs.declared.order_entry.OrderEntry.{OrderEntry}
use Rattle.period_order.specs.Order.{is_close_entry}
use Rattle.house_core.specs.declared.running_call.RunningCall.{RunningCall}
use Rattle.house_core.specs.declared.running_call.ReplyDue.{ReplyDue}
use Rattle.house_core.specs.declared.finished.Done.{Done}
use Rattle.house_core.specs.declared.finished.Done.TheVariants as done
use Rattle.house_core.specs.declared.finished.Finished.{Finished}
use Rattle.house_core.specs.declared.stage.Carried.{Carried}
use Rattle.house_core.specs.declared.stage.Stage.{Stage}
use Rattle.house_core.specs.declared.stage.Stage.TheVariants as stage
use Rattle.house_core.specs.declared.step.Action.TheVariants as action
use Rattle.house_core.specs.Calls.{begun, for_account, for_book, held_account, held_book, ready, reply_due, waiting, wanted_account, wanted_book}
use Rattle.house_core.specs.StepTable.{ChangesNoMore, HasEntries, StepsAreDecided, StepsChangeNoMore}
use Rattle.house_core.specs.Locks.{Lock, freed, held, lock_at}
use Rattle.house_core.specs.Steps.{abandon, begin, collect_at, collected, end, known_to, of_account, of_book, of_call, order, put_account, put_book, take_account, take_book}
use Rattle.house_core.proofs.PutLemmas.{due_account, due_book}
use Rattle.house_core.proofs.TimeLemmas.{made, made_then, where_free}

abbrev seen_by : List BookEntry → List AccountEntry → List OrderEntry → Known
seen_by book account kept = record { book = book; account = account; point = length kept; period = count_by is_close_entry kept }

abbrev ended_at : ℕ → RunningCall → ℕ → Done → Finished
ended_at number call point done = record { call = number; begin = call.begin; end = point; done = done }

pub decided : StepsAreDecided
decided number call action.Begin one another h = record { changes = ap (λ n. begin n call) h; ends = refl }
decided number call action.TakeBook one another h = record { changes = ap (option_and_then (take_book number call)) h; ends = refl }
decided number call action.TakeAccount one another h = record { changes = ap (option_and_then (take_account number call)) h; ends = refl }
decided number call action.Order one another h = record {
  changes = λ i. option_map (order (h.0 i) (seen_by (h.2 i) (h.3 i) (h.1 i)) call) (ready call);
  ends = refl;
}
decided number call action.PutAccount one another h = record {
  changes = ap (λ lock. option_and_then (λ (carried : Carried). option_map (put_account call carried) lock) (for_account call)) h;
  ends = refl;
}
decided number call action.PutBook one another h = record {
  changes = ap (λ lock. option_and_then (λ (carried : Carried). option_map (put_book call carried) lock) (for_book call)) h;
  ends = refl;
}
decided number call (action.Collect operator) one another h = record {
  changes = λ i. collect_at (h.0 i) operator call (slice_get (h.0 i).operators operator) (h.1 i);
  ends = refl;
}
decided number call action.Abandon one another h = record {
  changes = λ i. option_map (λ (command : Command). abandon call (h.0 i) (h.1 i)) (begun call.stage);
  ends = ap (λ n. option_map (λ (command : Command). ended_at number call n done.Abandoned) (begun call.stage)) h.2;
}
decided number call action.End one another h = record {
  changes = refl;
  ends = ap (λ n. option_map (λ (told : ReplyDue). ended_at number call n (done.Answered told.point (stamped told.point told.reply))) (reply_due call)) h;
}

-- ---- what a step changes

entries_of : {E : Type 0} (o : Option (Lock E)) (lock : Lock E) → o ≡ Some lock → lock.entries ≡ option_map_or (λ (l : Lock E). l.entries) o []
entries_of o lock e = sym (ap (λ (x : Option (Lock _)). option_map_or (λ (l : Lock _). l.entries) x []) e)

-- a lock that is given back has the entries that it had
freed_entries : {E : Type 0} (o : Option (Lock E)) → HasEntries (option_map freed o) (option_map_or (λ (l : Lock E). l.entries) o [])
freed_entries None = tt
freed_entries (Some lock) = refl

pub no_more : StepsChangeNoMore
no_more number call action.Begin world change h =
    made (λ (command : Command). of_call (record call { begin = length world.order; stage = stage.Begun command })) (waiting call.stage) change (ChangesNoMore world call action.Begin)
    (λ x e. (refl, refl, refl, refl)) h
no_more number call action.TakeBook world change h =
    made_then (take_book number call) (lock_at world.books (wanted_book call)) change (ChangesNoMore world call action.TakeBook)
    (λ lock e g. where_free (is_none lock.holder) (of_book (record call { has_book = true }) (held number lock)) change (ChangesNoMore world call action.TakeBook)
    (refl, refl, refl, entries_of (lock_at world.books (wanted_book call)) lock e) g) h
no_more number call action.TakeAccount world change h =
    made_then (take_account number call) (lock_at world.accounts (wanted_account call)) change (ChangesNoMore world call action.TakeAccount)
    (λ lock e g. where_free (is_none lock.holder) (of_account (record call { has_account = true }) (held number lock)) change (ChangesNoMore world call action.TakeAccount)
    (refl, refl, refl, entries_of (lock_at world.accounts (wanted_account call)) lock e) g) h
no_more number call action.Order world change h =
    made (order world.config (known_to world call) call) (ready call) change (ChangesNoMore world call action.Order) (λ x e. (refl, refl, refl)) h
no_more number call action.PutAccount world change h =
    made_then (λ (carried : Carried). option_map (put_account call carried) (lock_at world.accounts call.account)) (for_account call) change (ChangesNoMore world call action.PutAccount)
    (λ carried e g. made (put_account call carried) (lock_at world.accounts call.account) change (ChangesNoMore world call action.PutAccount)
    (λ lock f. (refl, refl, refl, ap₂ ◌++◌ (entries_of (lock_at world.accounts call.account) lock f) (sym (due_account call carried e)))) g) h
no_more number call action.PutBook world change h =
    made_then (λ (carried : Carried). option_map (put_book call carried) (lock_at world.books call.book)) (for_book call) change (ChangesNoMore world call action.PutBook)
    (λ carried e g. made (put_book call carried) (lock_at world.books call.book) change (ChangesNoMore world call action.PutBook)
    (λ lock f. (refl, refl, refl, ap₂ ◌++◌ (entries_of (lock_at world.books call.book) lock f) (sym (due_book call carried e)))) g) h
no_more number call (action.Collect operator) world change h =
    by (slice_get world.config.operators operator) (slice_get world.books operator) h
  where
    collecting : (free : Bool) (o : Option Stage) → (if free then option_map (λ (s : Stage). of_call (record call { stage = s })) o else None) ≡ Some change → ChangesNoMore world call (action.Collect operator) change
    collecting true o e = made (λ (s : Stage). of_call (record call { stage = s })) o change (ChangesNoMore world call (action.Collect operator)) (λ s g. (refl, refl, refl, refl)) e
    collecting false o e = absurd (none-some change e)

    by : (party : Option Operator) (lock : Option (Lock BookEntry)) → collect_at world.config operator call party lock ≡ Some change → ChangesNoMore world call (action.Collect operator) change
    by None lock e = absurd (none-some change e)
    by (Some party) None e = absurd (none-some change e)
    by (Some party) (Some lock) e = collecting (is_none lock.holder) (collected world.config operator party lock.entries call.stage) e
no_more number call action.Abandon world change h =
    made (λ (command : Command). abandon call (lock_at world.books (held_book call)) (lock_at world.accounts (held_account call))) (begun call.stage) change (ChangesNoMore world call action.Abandon)
    (λ x e. (refl, refl, freed_entries (lock_at world.books (held_book call)), freed_entries (lock_at world.accounts (held_account call)))) h
no_more number call action.End world change h =
    made (λ (t : ReplyDue). end call) (reply_due call) change (ChangesNoMore world call action.End) (λ x e. (refl, refl, refl, refl)) h
