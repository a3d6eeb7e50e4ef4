-- The lines of calls, written one after another.
use Rattle.std.proofs.Common.{◌≡◌, ℕ, zero, suc, ◌+◌, ◌<◌, ◌≤◌, List, [], ◌∷◌, ◌++◌, length, take, get_or, refl, sym, ap, subst, ◌∙◌, arith, length-append, append_assoc, append-nil}
use Rattle.std.proofs.lemmas.List.{take-append-le}
use Rattle.std.proofs.Math.Seq.{take-append-add}
use Rattle.ocpi_types.specs.declared.config.Config.{Config}
use Rattle.house_core.specs.declared.finished.Finished.{Finished}
use Rattle.request_lines.specs.Streams.{Writing}
use Rattle.clear_cli.specs.declared.schedule_text.WriteFault.{WriteFault}
use Rattle.clear_cli.specs.declared.schedule_text.WriteFault.TheVariants.{NoMemory, Write}
use Rattle.clear_cli.specs.ScheduleText.{finished_text, trace_text}
use Rattle.clear_cli.specs.ScheduleWritten.{FailsToWrite, StopsWriting}
use Rattle.clear_cli.specs.Inner.WritingLines.{FailsInLine}

module _ (config : Config) where
  one_more : (before : List Finished) (call : Finished) → trace_text config (before ++ call ∷ []) ≡ trace_text config before ++ finished_text config call
  one_more [] call = append-nil (finished_text config call)
  one_more (first ∷ before) call = ap (λ (rest : List ℕ). finished_text config first ++ rest) (one_more before call) ∙ sym (append_assoc (finished_text config first) (trace_text config before) (finished_text config call))

  joined : (before later : List Finished) → trace_text config (before ++ later) ≡ trace_text config before ++ trace_text config later
  joined [] later = refl
  joined (first ∷ before) later = ap (λ (rest : List ℕ). finished_text config first ++ rest) (joined before later) ∙ sym (append_assoc (finished_text config first) (trace_text config before) (trace_text config later))

-- the call behind those of the first so many
split_at : (calls : List Finished) (i : ℕ) (d : Finished) → i < length calls → (later : List Finished) × (calls ≡ take i calls ++ get_or calls i d ∷ later)
split_at [] i d within = absurd (omega (arith, within))
split_at (call ∷ calls) zero d within = (calls, refl)
split_at (call ∷ calls) (suc i) d within = let rest = split_at calls i d (omega (arith, within)) in (rest.0, ap (λ (l : List Finished). call ∷ l) rest.1)

module _ {W : Type 0} (writing : Writing W) (more : (a b c : W) (xs ys : List ℕ) → writing.takes a xs b → writing.takes b ys c → writing.takes a (xs ++ ys) c) (config : Config) where
  stops : (finished before later : List Finished) (call : Finished) (a b c : W) → finished ≡ before ++ call ∷ later → writing.takes a (trace_text config before) b
      → StopsWriting writing (finished_text config call) b c → StopsWriting writing (trace_text config finished) a c
  stops finished before later call a b c split took stop =
      let whole : trace_text config finished ≡ trace_text config before ++ (finished_text config call ++ trace_text config later) = ap (trace_text config) split ∙ joined config before (call ∷ later) in
      let less : stop.sent < length (finished_text config call) = stop.some_left in
      let fits : stop.sent ≤ length (finished_text config call) = omega (arith, less) in
      let long = ap length whole ∙ length-append (trace_text config before) (finished_text config call ++ trace_text config later) in
      let longer = length-append (finished_text config call) (trace_text config later) in
      let first : take (length (trace_text config before) + stop.sent) (trace_text config finished) ≡ trace_text config before ++ take stop.sent (finished_text config call) =
      ap (take (length (trace_text config before) + stop.sent)) whole ∙ take-append-add (trace_text config before) (finished_text config call ++ trace_text config later) stop.sent
      ∙ ap (λ (l : List ℕ). trace_text config before ++ l) (take-append-le stop.sent (finished_text config call) (trace_text config later) fits) in
      record {
        sent = length (trace_text config before) + stop.sent;
        some_left = omega (arith, less, long, longer);
        took = subst (λ (l : List ℕ). writing.takes a l c) (sym first) (more a b c (trace_text config before) (take stop.sent (finished_text config call)) took stop.took);
        has_failed = stop.has_failed;
      }

  pub fails_in_line : (finished : List Finished) (i : ℕ) (d : Finished) (a b c : W) (fault : WriteFault) → i < length finished → writing.takes a (trace_text config (take i finished)) b → writing.failed b ≡ writing.failed a
      → FailsInLine writing (finished_text config (get_or finished i d)) b c fault → FailsToWrite writing config finished a c fault
  fails_in_line finished i d a b c Write within took kept stop =
      let split = split_at finished i d within in stops finished (take i finished) split.0 (get_or finished i d) a b c split.1 took stop
  fails_in_line finished i d a b c NoMemory within took kept same = record {
    told = i;
    took = subst (λ (w : W). writing.takes a (trace_text config (take i finished)) w) (sym same) took;
    kept = ap writing.failed same ∙ kept;
  }
