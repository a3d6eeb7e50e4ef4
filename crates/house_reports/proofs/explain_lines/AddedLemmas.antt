-- The events that are kept after a line.
use Rattle.std.proofs.Common.{◌≡◌, ◌-◌, ℕ, List, [], ◌∷◌, ◌++◌, Bool, true, false, refl, sym, ap, ◌∙◌, arith, cond, length, slice_get, Option, Some, None, Result, Ok, Err, is_some, length-append}
use Rattle.ocpi_types.specs.declared.config.Config.{Config}
use Rattle.ocpi_types.specs.declared.refusal.Refusal.{Refusal}
use Rattle.cdr_checks.specs.declared.request.Command.{Command}
use Rattle.plain_house.specs.declared.answer.Answer.{Answer}
use Rattle.plain_house.specs.declared.event.Event.{Event}
use Rattle.plain_house.specs.House.{verdict}
use Rattle.plain_house.specs.Known.{known}
use Rattle.plain_house.specs.Laws.{RepliesTellEvents, adds_event, tells_event}
use Rattle.plain_house.specs.Replies.{Reply, stamped, with_event}
use Rattle.request_lines.specs.Script.{after, command_in, list_with, reply_in, reply_to}
use Rattle.house_reports.specs.explain_lines.Added.{kept_behind}

-- the last of a list with one more is that one
last_pushed : (xs : List Event) (x : Event) → slice_get (xs ++ x ∷ []) (length (xs ++ x ∷ []) - 1) ≡ Some x
last_pushed xs x =
    ap (slice_get (xs ++ x ∷ [])) (let n : length (xs ++ x ∷ []) - 1 ≡ length xs = omega (arith, length-append xs (x ∷ [])) in n) ∙ seam xs
  where
    seam : (xs : List Event) → slice_get (xs ++ x ∷ []) (length xs) ≡ Some x
    seam [] = refl
    seam (y ∷ ys) = seam ys

adds_stamped : (at : ℕ) (told : Result Answer Refusal) → adds_event (stamped at told) ≡ tells_event told
adds_stamped at (Ok answer) = refl
adds_stamped at (Err refusal) = refl

-- by whether there is an event
kept_with : (events kept : List Event) (event : Option Event) (adds : Bool) → is_some event ≡ adds → kept ≡ events →
    cond adds (with_event kept (slice_get (with_event events event) (length (with_event events event) - 1))) kept ≡ with_event events event
kept_with events kept None true tells same = absurd (cc)
kept_with events kept None false tells same = same
kept_with events kept (Some event) true tells same =
    ap (with_event kept) (last_pushed events event) ∙ ap (λ (l : List Event). l ++ event ∷ []) same
kept_with events kept (Some event) false tells same = absurd (cc)

-- if all events before a command were kept, all after it are
pub kept_with_command : RepliesTellEvents → (config : Config) (events now kept : List Event) (reply : Reply) (command : Result Command Refusal) →
    reply ≡ reply_to config events command → now ≡ list_with config events command → kept ≡ events → kept_behind reply now kept ≡ now
kept_with_command tells config events now kept reply (Err refusal) e f same = ap (λ (r : Reply). kept_behind r now kept) e ∙ same ∙ sym f
kept_with_command tells config events now kept reply (Ok command) e f same =
    let told = verdict config (known events) command in
    ap (λ (r : Reply). kept_behind r now kept) e
    ∙ ap (λ (n : List Event). kept_behind (stamped (length events) told.reply) n kept) f
    ∙ kept_with events kept told.event (adds_event (stamped (length events) told.reply)) (tells config (known events) command ∙ sym (adds_stamped (length events) told.reply)) same
    ∙ sym f

-- if all events before a line were kept, all after it are
pub all_kept_behind : RepliesTellEvents → (config : Config) (events now kept : List Event) (line : List ℕ) (reply : Reply) →
    reply ≡ reply_in config events line → now ≡ after config events line → kept ≡ events → kept_behind reply now kept ≡ now
unfolding reply_in after
all_kept_behind tells config events now kept line reply reply_is now_is same =
    kept_with_command tells config events now kept reply (command_in config line) reply_is now_is same
