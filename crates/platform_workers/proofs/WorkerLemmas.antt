-- From a run over lines to a worker.
use Rattle.std.proofs.Common.{◌≡◌, ◌≤◌, ◌^◌, ℕ, inl, inr, true, false, List, refl, sym, ap, ◌∙◌, Result, Ok, Err, MatchResult, OnOk, IfErr}
use Rattle.ocpi_types.specs.declared.config.Config.{Config}
use Rattle.ocpi_types.specs.declared.refusal.Refusal.{Refusal}
use Rattle.cdr_checks.specs.declared.request.Command.{Command}
use Rattle.plain_house.specs.Replies.{Reply}
use Rattle.request_lines.specs.declared.faults.Count.{Count}
use Rattle.request_lines.specs.declared.faults.ScriptFault.{ScriptFault}
use Rattle.request_lines.specs.Answering.{AreAllAnswered, IsFault, Rule, Run, is_read_fault, is_write_fault}
use Rattle.request_lines.specs.Script.{command_in}
use Rattle.request_lines.proofs.SeenRuns.{Shows, stays, told_seen}
use Rattle.shared_house.specs.PassView.{PassView}
use Rattle.platform_workers.specs.Platforms.{GivesUp, IsReplied, LineReplied, LinesAnswered, platform_rule}
use Rattle.platform_workers.specs.Workers.{HasEnded, Streams, Work, WorkerRan, end_of, input_of, run_of}
use Rattle.platform_workers.proofs.CallLemmas.{calls_of_lines}

-- ---- the number of a pass

number_replied : (config : Config) (found : Result Command Refusal) (before after : PassView) (reply : Reply) → IsReplied config found before reply after → after.number ≡ before.number
number_replied config (Ok command) before after reply call = call.number
number_replied config (Err refusal) before after reply h = ap (λ (p : PassView). p.number) h.1

number_given_up : (config : Config) (line : List ℕ) (before after : PassView) → GivesUp config line before after → after.number ≡ before.number
unfolding LineReplied
number_given_up config line before after (inl same) = ap (λ (p : PassView). p.number) same
number_given_up config line before after (inr h) = number_replied config (command_in config line) before after h.0 h.1

-- ---- a run of what has a pass

-- the rule of a platform, where what answers has a pass and keeps the pass's name
abbrev pub rule_of : {A : Type 0} → (A → ℕ) → (A → PassView) → Config → Rule A
rule_of name pass config = record {
  answers = λ a lines text b. (name b ≡ name a) × LinesAnswered config (pass a) lines text (pass b);
  gives_up = λ a line b. (name b ≡ name a) × GivesUp config line (pass a) (pass b);
}

abbrev pub run_by : {A I O : Type 0} → A → A → Work I O → Run A
run_by start now work = record { start = start; written = work.written; now = now }

abbrev Stays : {A : Type 0} → (A → ℕ) → (A → PassView) → A → A → Type 0
Stays name pass s a = (name a ≡ name s) × ((pass a).number ≡ (pass s).number)

shows : {A : Type 0} (name : A → ℕ) (pass : A → PassView) (config : Config) (s : A) → Shows (rule_of name pass config) (platform_rule config) pass (Stays name pass s)
shows name pass config s = record {
  answers = λ a b lines text k h. ((h.0 ∙ k.0, (calls_of_lines config (pass a) (pass b) lines text h.1).number_kept ∙ k.1), h.1);
  gives_up = λ a b line k h. ((h.0 ∙ k.0, number_given_up config line (pass a) (pass b) h.1 ∙ k.1), h.1);
}

-- what is told of the result of a run is so of the end of a worker
has_ended : {I O : Type 0} (streams : Streams I O) (config : Config) (work : Work I O) (result : Result Count ScriptFault)
    → MatchResult result (λ count. AreAllAnswered (platform_rule config) work.bytes (run_of work) count) (λ fault. IsFault (platform_rule config) (input_of streams work) (run_of work) fault)
    → OnOk result (streams.reading.at_end work.reader')
    → MatchResult result (λ _. streams.reading.failed work.reader' ≡ streams.reading.failed work.reader) (λ fault. is_read_fault fault ≡ false → streams.reading.failed work.reader' ≡ streams.reading.failed work.reader)
    → OnOk result (streams.writing.failed work.writer' ≡ streams.writing.failed work.writer)
    → IfErr result (λ fault. is_write_fault fault ≡ true → streams.writing.failed work.writer' ≡ true)
    → IfErr result (λ fault. is_write_fault fault ≡ false → streams.writing.failed work.writer' ≡ streams.writing.failed work.writer)
    → HasEnded streams config work (end_of result)
has_ended streams config work (Ok count) told end reader unfailed failed kept =
    record { answered = told; ended = end; reader_kept = reader; writer_kept = unfailed }
has_ended streams config work (Err fault) told end reader unfailed failed kept =
    record { fails = told; reader_kept = reader; writer_failed_is = failed; writer_kept = kept }

pub worker_ran : {A I O : Type 0} (start now : A) (name : A → ℕ) (pass : A → PassView) (streams : Streams I O) (config : Config) (work : Work I O) (result : Result Count ScriptFault)
    → work.pass ≡ pass start
    → (name now ≡ name start → work.pass' ≡ pass now)
    → work.calls ≤ 2 ^ 40
    → streams.reading.gives work.reader work.calls work.bytes work.reader'
    → streams.writing.takes work.writer work.written work.writer'
    → MatchResult result (λ count. AreAllAnswered (rule_of name pass config) work.bytes (run_by start now work) count)
    (λ fault. IsFault (rule_of name pass config) (input_of streams work) (run_by start now work) fault)
    → OnOk result (streams.reading.at_end work.reader')
    → MatchResult result (λ _. streams.reading.failed work.reader' ≡ streams.reading.failed work.reader) (λ fault. is_read_fault fault ≡ false → streams.reading.failed work.reader' ≡ streams.reading.failed work.reader)
    → OnOk result (streams.writing.failed work.writer' ≡ streams.writing.failed work.writer)
    → IfErr result (λ fault. is_write_fault fault ≡ true → streams.writing.failed work.writer' ≡ true)
    → IfErr result (λ fault. is_write_fault fault ≡ false → streams.writing.failed work.writer' ≡ streams.writing.failed work.writer)
    → WorkerRan streams config work.pass (work.reader, work.writer) work.pass' (end_of result)
worker_ran start now name pass streams config work result before after few gave took told end reader unfailed failed kept =
    let stayed = stays _ _ _ (Stays name pass) (shows name pass config) result work.calls work.bytes _ _ start now work.written told (refl, refl) in
    let seen = told_seen _ _ _ (Stays name pass) (shows name pass config) result work.calls work.bytes _ _ start now work.written work.pass' told (refl, refl) (after stayed.0) in
    record {
      reader' = work.reader';
      writer' = work.writer';
      calls = work.calls;
      bytes = work.bytes;
      written = work.written;
      number_kept = ap (λ (p : PassView). p.number) (after stayed.0) ∙ stayed.1 ∙ ap (λ (p : PassView). p.number) (sym before);
      few = few;
      gave = gave;
      took = took;
      ended = has_ended streams config work result (rw before seen) end reader unfailed failed kept;
    }
