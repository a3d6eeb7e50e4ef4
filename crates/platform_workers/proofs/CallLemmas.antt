-- The calls of a pass that answers lines.
use Rattle.std.proofs.Common.{◌≡◌, ℕ, inl, inr, false, List, [], ◌∷◌, ◌++◌, refl, sym, ap, ◌∙◌, append_assoc, append-nil, map, Result, Ok, Err}
use Rattle.std.proofs.lemmas.List.{map-append}
use Rattle.std.proofs.lemmas.List.Elements.{All-nil, All-cons, All-append}
use Rattle.ocpi_types.specs.declared.config.Config.{Config}
use Rattle.ocpi_types.specs.declared.refusal.Refusal.{Refusal}
use Rattle.cdr_checks.specs.declared.request.Command.{Command}
use Rattle.plain_house.specs.Replies.{Reply, is_no_memory, no_memory}
use Rattle.request_lines.specs.Script.{command_in}
use Rattle.shared_house.specs.declared.call.Call.{Call}
use Rattle.shared_house.specs.Calls.{Keeps}
use Rattle.shared_house.specs.PassView.{PassView}
use Rattle.platform_workers.specs.Platforms.{IsReplied, LineReplied}
use Rattle.platform_workers.specs.Laws.{CallsAreThoseOfLines, FoundMemory, HasCalled, command_before, commands_in}

not_both : (reply : Reply) → is_no_memory reply ≡ false → reply ≡ no_memory → ⊥
not_both reply found same = let both : is_no_memory no_memory ≡ false = sym (ap is_no_memory same) ∙ found in cc

-- a call that found memory is kept
kept : (command : Command) (before after : PassView) (reply : Reply) → is_no_memory reply ≡ false → Keeps before command reply after
    → after.calls ≡ before.calls ++ record { command = command; reply = reply } ∷ []
kept command before after reply found (inl same) = same
kept command before after reply found (inr nothing) = absurd (not_both reply found nothing.refused)

first_called : (config : Config) (found : Result Command Refusal) (before after : PassView) (reply : Reply) → is_no_memory reply ≡ false → IsReplied config found before reply after
    → HasCalled (command_before found []) before after
first_called config (Ok command) before after reply found call = record {
  calls = record { command = command; reply = reply } ∷ [];
  calls_are = kept command before after reply found call.calls;
  one_each = refl;
  found_memory = All-cons FoundMemory (record { command = command; reply = reply }) [] found (All-nil FoundMemory);
  number_kept = call.number;
}
first_called config (Err refusal) before after reply found h = record {
  calls = [];
  calls_are = ap (λ (p : PassView). p.calls) h.1 ∙ sym (append-nil _);
  one_each = refl;
  found_memory = All-nil FoundMemory;
  number_kept = ap (λ (p : PassView). p.number) h.1;
}

-- calls, and then more
called_more : (xs ys : List Command) (a b c : PassView) → HasCalled xs a b → HasCalled ys b c → HasCalled (xs ++ ys) a c
called_more xs ys a b c h k = record {
  calls = h.calls ++ k.calls;
  calls_are = k.calls_are ∙ ap (λ (l : List Call). l ++ k.calls) h.calls_are ∙ append_assoc a.calls h.calls k.calls;
  one_each = map-append (λ (call : Call). call.command) h.calls k.calls ∙ ap (λ (l : List Command). l ++ map (λ call. call.command) k.calls) h.one_each ∙ ap (λ (l : List Command). xs ++ l) k.one_each;
  found_memory = All-append FoundMemory h.calls k.calls h.found_memory k.found_memory;
  number_kept = k.number_kept ∙ h.number_kept;
}

-- the command of the first line, and the commands of the others
called_before : (found : Result Command Refusal) (commands : List Command) (a b c : PassView) → HasCalled (command_before found []) a b → HasCalled commands b c
    → HasCalled (command_before found commands) a c
called_before (Ok command) commands a b c h k = called_more (command ∷ []) commands a b c h k
called_before (Err refusal) commands a b c h k = called_more [] commands a b c h k

unfolding_first : (config : Config) (line : List ℕ) (before after : PassView) (reply : Reply) → is_no_memory reply ≡ false → LineReplied config line before reply after
    → HasCalled (command_before (command_in config line) []) before after
unfolding LineReplied
unfolding_first config line before after reply found h = first_called config (command_in config line) before after reply found h

pub calls_of_lines : CallsAreThoseOfLines
calls_of_lines config before after [] text h = record {
  calls = [];
  calls_are = ap (λ (p : PassView). p.calls) h.1 ∙ sym (append-nil _);
  one_each = refl;
  found_memory = All-nil FoundMemory;
  number_kept = ap (λ (p : PassView). p.number) h.1;
}
calls_of_lines config before after (line ∷ lines) text h =
    called_before (command_in config line) (commands_in config lines) before h.1 after
    (unfolding_first config line before h.1 h.3.reply h.3.found_memory h.3.replied)
    (calls_of_lines config h.1 after lines h.2 h.4)
