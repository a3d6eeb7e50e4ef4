-- The values that are left, a line by its place, and what follows from a line's command.
use Rattle.std.proofs.Common.{◌≡◌, ℕ, ◌+◌, ◌≤◌, List, [], ◌∷◌, length, take, drop, append_assoc, arith, Ok, Err, Result, Option, Some, None, ◌++◌, All, IfOk, IfErr, option_to_list, ap, sym, refl, ◌∙◌, false}
use Rattle.std.proofs.Math.Seq.{take-append_seam}
use Rattle.std.proofs.lemmas.List.{length-append, length-drop}
use Rattle.std.proofs.lemmas.List.Elements.{All-rest}
use Rattle.lines_ahead.specs.ReadLines.{line_at}
use Rattle.request_lines.specs.Lines.{newline, with_newline}
use Rattle.cdr_checks.specs.Admission.{IsAdmitted}
use Rattle.cdr_checks.specs.declared.request.Command.{Command}
use Rattle.ocpi_types.specs.declared.config.Config.{Config}
use Rattle.request_lines.proofs.ScriptLegal.{is_admitted}
use Rattle.ocpi_types.specs.declared.refusal.Refusal.{Refusal}
use Rattle.plain_house.specs.declared.event.Event.{Event}
use Rattle.plain_house.specs.Replies.{Reply, is_no_memory, is_refusal_no_memory}
use Rattle.request_lines.specs.AnswerText.{answer_text}
use Rattle.request_lines.specs.Script.{after, answer_of, command_in, list_with, reply_in, reply_to}

-- what is so of all values is so of those that are left when the first is taken
pub of_others : {X : Type 0} (P : X → Type 0) (before after : List X) (taken : Option X) → before ≡ option_to_list taken ++ after → All P before → All P after
of_others P before after None is all = rw is at all
of_others P before after (Some x) is all = All-rest P x after before is all

-- ---- a line by its place

pub line_from : (bytes line others : List ℕ) (start : ℕ) → start ≤ length bytes → drop start bytes ≡ with_newline line ++ others
    → (line_at bytes start (length line) ≡ line) × (start + (length line + 1) ≤ length bytes)
line_from bytes line others start inside is =
    let begins : drop start bytes ≡ line ++ newline ∷ others = is ∙ append_assoc line (newline ∷ []) others in
    let size = sym (length-drop start bytes) ∙ ap length begins ∙ length-append line (newline ∷ others) in (
      ap (λ (xs : List ℕ). take (length line) xs) begins ∙ take-append_seam line (newline ∷ others),
      omega (arith, size, inside),
    )

-- ---- the command of a line

pub if_admitted : (config config' : Config) (line : List ℕ) (given : Result Command Refusal) → config' ≡ config → command_in config' line ≡ given → IfOk given (IsAdmitted config)
if_admitted config config' line (Ok command) same is = is_admitted config line command (rw same at is)
if_admitted config config' line (Err refusal) same is = tt

-- what is read of a line is its command, or memory ran out
is_read : (config : Config) (events : List Event) (line : List ℕ) (given : Result Command Refusal) (reply : Reply)
    → IfOk given (λ command. command_in config line ≡ Ok command) → IfErr given (λ refusal. is_refusal_no_memory refusal ≡ false → command_in config line ≡ Err refusal)
    → reply ≡ reply_to config events given → is_no_memory reply ≡ false → command_in config line ≡ given
is_read config events line (Ok command) reply ok err is some = ok
is_read config events line (Err refusal) reply ok err is some = err (rw is at some)

pub read_reply : (config config' under : Config) (events events' : List Event) (line : List ℕ) (given : Result Command Refusal) (reply : Reply) → config' ≡ config → under ≡ config → events' ≡ events
    → IfOk given (λ command. command_in under line ≡ Ok command) → IfErr given (λ refusal. is_refusal_no_memory refusal ≡ false → command_in under line ≡ Err refusal)
    → (is_no_memory reply ≡ false → reply ≡ reply_to config' events' given) → is_no_memory reply ≡ false → reply ≡ reply_in config events line
unfolding reply_in
read_reply config config' under events events' line given reply c u e ok err is some =
    let told = rw (c, e) at (is some) in told ∙ ap (λ (g : Result Command Refusal). reply_to config events g) (sym (is_read config events line given reply (rw u at ok) (rw u at err) told some))

pub read_list : (config config' under : Config) (events events' : List Event) (line : List ℕ) (given : Result Command Refusal) (reply : Reply) (now : List Event) → config' ≡ config → under ≡ config → events' ≡ events
    → IfOk given (λ command. command_in under line ≡ Ok command) → IfErr given (λ refusal. is_refusal_no_memory refusal ≡ false → command_in under line ≡ Err refusal)
    → (is_no_memory reply ≡ false → reply ≡ reply_to config' events' given) → (is_no_memory reply ≡ false → now ≡ list_with config' events' given) → is_no_memory reply ≡ false → now ≡ after config events line
unfolding after
read_list config config' under events events' line given reply now c u e ok err is list some =
    let told = rw (c, e) at (is some) in
    (rw (c, e) at (list some)) ∙ ap (λ (g : Result Command Refusal). list_with config events g) (sym (is_read config events line given reply (rw u at ok) (rw u at err) told some))

pub answer_is : (config : Config) (events : List Event) (line : List ℕ) → answer_text config (reply_in config events line) ≡ answer_of config events line
unfolding answer_of
answer_is config events line = refl
