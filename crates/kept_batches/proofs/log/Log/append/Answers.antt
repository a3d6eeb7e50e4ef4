use Rattle.std.proofs.Common.{◌≡◌, ◌+◌, ◌≤◌, ℕ, List, length, ap, sym, ◌∙◌, subst, arith, rules}
use Rattle.kept_batches.specs.Text.{lines_in}
use Rattle.kept_batches.specs.Heads.{heads_from}
use Rattle.kept_batches.specs.Batch.{text_of}
use Rattle.kept_batches.specs.Log.{IsLog}
use Rattle.kept_batches.proofs.LogLemmas.{same_left, at_any_moment, log_after, kept_more}
use Rattle.kept_batches.proofs.log.Log.append.Goals as goal

pub returns-then-is_empty-clause-any_moment : goal.returns-then-is_empty-clause-any_moment
returns-then-is_empty-clause-any_moment g c now = same_left _ _ _ _ _ (c.requires.file now) c.requires.durable

pub returns-then-self-ge-MOST_FILE_BYTES-clause-any_moment : goal.returns-then-self-ge-MOST_FILE_BYTES-clause-any_moment
returns-then-self-ge-MOST_FILE_BYTES-clause-any_moment g c now = same_left _ _ _ _ _ (c.requires.file now) c.requires.durable

pub returns-in_err-write-clause-any_moment : goal.returns-in_err-write-clause-any_moment
returns-in_err-write-clause-any_moment g c now =
    let fits : length (text_of c.args.batch.now) ≤ 16_777_216 = omega (arith, c.if-size-gt-MOST_BATCH_BYTES.false, ap length c.text-size.ensures.text) in
    let next : c.head_after-head.result ≡ heads_from c.args.self.now.head (lines_in (text_of c.args.batch.now)) = c.head_after-head.ensures ∙ ap (λ (l : List ℕ). heads_from c.args.self.now.head (lines_in l)) c.text.ensures.text in
    at_any_moment _ c.args.self.now.end c.args.self.now.head (text_of c.args.batch.now) (c.requires.file (search rules)) c.args.batch.now.whole fits c.head_after-head.result next _ c.write.ensures.any_moment

pub returns-clause-settled : goal.returns-clause-settled
returns-clause-settled g c =
    let fits : length (text_of c.args.batch.now) ≤ 16_777_216 = omega (arith, c.if-size-gt-MOST_BATCH_BYTES.false, ap length c.text-size.ensures.text) in
    let next : c.head_after-head.result ≡ heads_from c.args.self.now.head (lines_in (text_of c.args.batch.now)) = c.head_after-head.ensures ∙ ap (λ (l : List ℕ). heads_from c.args.self.now.head (lines_in l)) c.text.ensures.text in
    record {
      durable = c.in_ok-write.ensures.durable;
      usable = c.in_ok-write.ensures.usable;
      file = λ now.
          subst (λ (n : ℕ). IsLog (g.D.Disk.seen c.write.new.disk) (c.args.self.now.end + (79 + n)) c.head_after-head.result) (ap length (sym c.text-size.ensures.text))
          (log_after _ c.args.self.now.end c.args.self.now.head (text_of c.args.batch.now) (c.requires.file (search rules)) c.args.batch.now.whole fits c.head_after-head.result next _ c.in_ok-write.ensures.file);
    }

pub returns-clause-acknowledged : goal.returns-clause-acknowledged
returns-clause-acknowledged g c now =
    let fits : length (text_of c.args.batch.now) ≤ 16_777_216 = omega (arith, c.if-size-gt-MOST_BATCH_BYTES.false, ap length c.text-size.ensures.text) in
    let next : c.head_after-head.result ≡ heads_from c.args.self.now.head (lines_in (text_of c.args.batch.now)) = c.head_after-head.ensures ∙ ap (λ (l : List ℕ). heads_from c.args.self.now.head (lines_in l)) c.text.ensures.text in
    kept_more _ c.args.self.now.end c.args.self.now.head (text_of c.args.batch.now) (c.requires.file (search rules)) c.args.batch.now.whole fits c.head_after-head.result next _ c.in_ok-write.ensures.file

pub returns-clause-any_moment : goal.returns-clause-any_moment
returns-clause-any_moment g c now =
    let fits : length (text_of c.args.batch.now) ≤ 16_777_216 = omega (arith, c.if-size-gt-MOST_BATCH_BYTES.false, ap length c.text-size.ensures.text) in
    let next : c.head_after-head.result ≡ heads_from c.args.self.now.head (lines_in (text_of c.args.batch.now)) = c.head_after-head.ensures ∙ ap (λ (l : List ℕ). heads_from c.args.self.now.head (lines_in l)) c.text.ensures.text in
    at_any_moment _ c.args.self.now.end c.args.self.now.head (text_of c.args.batch.now) (c.requires.file (search rules)) c.args.batch.now.whole fits c.head_after-head.result next _ c.write.ensures.any_moment
