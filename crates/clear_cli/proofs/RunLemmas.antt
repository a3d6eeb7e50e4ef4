-- A run, stage by stage.
use Rattle.std.proofs.Common.{◌≡◌, ◌⊎◌, inl, inr, ℕ, zero, suc, ◌+◌, ◌<◌, ◌≤◌, Bool, true, false, List, [], ◌∷◌, ◌++◌, length, take, get_or, Option, Some, None, Result, Ok, Err, MatchResult, refl, sym, ap, ap₂, subst, ◌∙◌, arith, append-nil, append_assoc, length-append}
use Rattle.std.specs.Prelude.{◌↔◌}
use Rattle.std.specs.Result.{IsErrAnd}
use Rattle.ocpi_types.specs.declared.config.Config.{Config}
use Rattle.plain_house.specs.declared.event.Event.{Event}
use Rattle.request_lines.specs.declared.faults.ScriptFault.{ScriptFault}
use Rattle.request_lines.specs.Streams.{Writing}
use Rattle.shared_house.specs.declared.finishing.FinishFault.{FinishFault}
use Rattle.shared_house.specs.declared.call.Call.{Call}
use Rattle.shared_house.specs.Finished.{IsFinished}
use Rattle.platform_workers.specs.declared.jobs.WorkerEnd.{WorkerEnd}
use Rattle.platform_workers.specs.declared.jobs.WorkerEnd.TheVariants.{Failed}
use Rattle.command_line.specs.declared.fault.Fault.{Fault}
use Rattle.command_line.specs.Fault.{IsTold, fault_line, file_line}
use Rattle.clear_cli.specs.Fault.{AreTold}
use Rattle.clear_cli.specs.Folder.{AreWritten, FolderWords}
use Rattle.clear_cli.specs.HouseRun.{HaveWorked, IsUnfinished}
use Rattle.clear_cli.specs.Inner.Running.{HasNotBegun, HasWorked, RunEnds, RunsUnder, WorkEnds}
use Rattle.clear_cli.specs.Opening.{AreOpened, Fate, GivenFile, HasFate, HaveFates, Opened, PlainNamed, Unmade, Unopened, named_among, named_in, unmade_line, unmade_lines, unopened_line, unopened_lines}
use Rattle.clear_cli.specs.Outputs.{outputs}
use Rattle.clear_cli.specs.Run.{AreAnswered, Fails, IsEnded, IsLeftOpen, IsLineLeft, IsLineWritten, IsRun, Run, RunWords, counts_of, worker_line, worker_lines, worker_streams, worker_text}
use Rattle.clear_cli.specs.Script.{config_or_fault}
use Rattle.clear_cli.proofs.ToldLines.{told_more, told_one}

pub neither : (xs ys : List (List ℕ)) → xs ++ ys ≡ [] → (xs ≡ []) × (ys ≡ [])
neither [] ys e = (refl, e)
neither (x ∷ xs) ys e = absurd cc

-- ---- workers

workers_more : (named : List PlainNamed) (ends : List WorkerEnd) (place : ℕ) (d : PlainNamed) (e : WorkerEnd) → place < length named → length named ≡ length ends →
    worker_lines (take (suc place) named) (take (suc place) ends) ≡ worker_lines (take place named) (take place ends) ++ worker_line (get_or named place d) (get_or ends place e)
workers_more [] ends place d e within same = absurd (omega (arith, within))
workers_more (one ∷ named) [] place d e within same = absurd (omega (arith, same))
workers_more (one ∷ named) (end ∷ ends) zero d e within same = append-nil (worker_line one end)
workers_more (one ∷ named) (end ∷ ends) (suc place) d e within same =
    ap (λ (l : List (List ℕ)). worker_line one end ++ l) (workers_more named ends place d e (omega (arith, within)) (omega (arith, same)))
    ∙ sym (append_assoc (worker_line one end) (worker_lines (take place named) (take place ends)) (worker_line (get_or named place d) (get_or ends place e)))

pub one_worker_more : (named : List PlainNamed) (ends : List WorkerEnd) (place : ℕ) (d : PlainNamed) (e : WorkerEnd) (one : PlainNamed) (end : WorkerEnd) →
    one ≡ get_or named place d → end ≡ get_or ends place e → place < length named → length named ≡ length ends →
    worker_lines (take (place + 1) named) (take (place + 1) ends) ≡ worker_lines (take place named) (take place ends) ++ worker_line one end
one_worker_more named ends place d e one end is same within equal =
    let next : place + 1 ≡ suc place = omega arith in
    ap (λ (n : ℕ). worker_lines (take n named) (take n ends)) next ∙ workers_more named ends place d e within equal
    ∙ ap₂ (λ (x : PlainNamed) (y : WorkerEnd). worker_lines (take place named) (take place ends) ++ worker_line x y) (sym is) (sym same)

-- the line of a worker that failed is told
pub worker_told : {S : Type 0} (writing : Writing S) (named : PlainNamed) (fault : ScriptFault) (end : WorkerEnd) (number : ℕ) (path text : List ℕ) (s t : S) →
    end ≡ Failed fault → number ≡ named.number → path ≡ named.path → text ≡ worker_text path fault → IsTold writing s (file_line number text) t → AreTold writing s (worker_line named end) t
worker_told {S} writing named fault end number path text s t is number_is path_is text_is told =
    let line : file_line number text ≡ file_line named.number (worker_text named.path fault) =
    ap₂ file_line number_is (text_is ∙ ap (λ (p : List ℕ). worker_text p fault) path_is) in
    subst (λ (e : WorkerEnd). AreTold writing s (worker_line named e) t) (sym is)
    (told_one writing (file_line named.number (worker_text named.path fault)) s t (subst (λ (l : List ℕ). IsTold writing s l t) line told))

-- ---- the opening

module _ {I O V : Type 0} (words : FolderWords O V) where
  few_in : (n : ℕ) (path : List ℕ) (fate : Fate I V) → length (named_in n path fate) ≤ 1
  few_in n path Unopened = omega arith
  few_in n path (Unmade cause) = omega arith
  few_in n path (Opened reader answers) = omega arith

  few_among : (n : ℕ) (files : List (GivenFile I)) (fates : List (Fate I V)) → length (named_among n files fates) ≤ length files
  few_among n [] fates = omega arith
  few_among n (file ∷ files) [] = omega arith
  few_among n (file ∷ files) (fate ∷ fates) =
      omega (arith, length-append (named_in n file.path fate) (named_among (suc n) files fates), few_in n file.path fate, few_among (suc n) files fates)

  one_opened : (n : ℕ) (path : List ℕ) (reader : Option I) (fate : Fate I V) (a b : O) → HasFate words n reader a fate b → length (named_in n path fate) ≡ 1 →
      (unopened_line n path reader ≡ []) × (unmade_line n fate ≡ [])
  one_opened n path None Unopened a b has one = absurd (omega (arith, one))
  one_opened n path None (Unmade cause) a b has one = absurd has
  one_opened n path None (Opened reader answers) a b has one = absurd has
  one_opened n path (Some given) Unopened a b has one = absurd has
  one_opened n path (Some given) (Unmade cause) a b has one = absurd (omega (arith, one))
  one_opened n path (Some given) (Opened reader answers) a b has one = (refl, refl)

  each_opened : (n : ℕ) (files : List (GivenFile I)) (fates : List (Fate I V)) (a b : O) → HaveFates words n files a fates b → length (named_among n files fates) ≡ length files →
      (unopened_lines n files ≡ []) × (unmade_lines n fates ≡ [])
  each_opened n [] [] a b have all = (refl, refl)
  each_opened n [] (fate ∷ fates) a b have all = absurd have
  each_opened n (file ∷ files) [] a b have all = absurd have
  each_opened n (file ∷ files) (fate ∷ fates) a b have all =
      let sum = length-append (named_in n file.path fate) (named_among (suc n) files fates) in
      let one_few = few_in n file.path fate in
      let rest_few = few_among (suc n) files fates in
      let one = one_opened n file.path file.reader fate a have.0 have.1 (omega (arith, sum, one_few, rest_few, all)) in
      let rest = each_opened (suc n) files fates have.0 b have.2 (omega (arith, sum, one_few, rest_few, all)) in
      (ap₂ (λ (x y : List (List ℕ)). x ++ y) one.0 rest.0, ap₂ (λ (x y : List (List ℕ)). x ++ y) one.1 rest.1)

  -- where all files are answered no line was told of one
  pub no_lines : (files : List (GivenFile I)) (a b : O) (named : List PlainNamed) (pairs : List (I × V)) (lines : List (List ℕ)) → AreOpened words files a b named pairs lines →
      length named ≡ length files → lines ≡ []
  no_lines files a b named pairs lines opened all =
      let none = each_opened 1 files opened.fates a b opened.have (sym (ap length opened.named_are) ∙ all) in
      opened.lines_are ∙ ap₂ (λ (x y : List (List ℕ)). x ++ y) none.0 none.1

module _ {I O V : Type 0} (words : FolderWords O V) where
  one_named : (n : ℕ) (path : List ℕ) (reader : Option I) (fate : Fate I V) (a b : O) → HasFate words n reader a fate b → unopened_line n path reader ≡ [] → unmade_line n fate ≡ [] →
      length (named_in n path fate) ≡ 1
  one_named n path None fate a b has opened made = absurd cc
  one_named n path (Some given) Unopened a b has opened made = absurd has
  one_named n path (Some given) (Unmade cause) a b has opened made = absurd cc
  one_named n path (Some given) (Opened reader answers) a b has opened made = refl

  each_named : (n : ℕ) (files : List (GivenFile I)) (fates : List (Fate I V)) (a b : O) → HaveFates words n files a fates b → unopened_lines n files ≡ [] → unmade_lines n fates ≡ [] →
      length (named_among n files fates) ≡ length files
  each_named n [] fates a b have opened made = refl
  each_named n (file ∷ files) [] a b have opened made = absurd have
  each_named n (file ∷ files) (fate ∷ fates) a b have opened made =
      let given = neither (unopened_line n file.path file.reader) (unopened_lines (suc n) files) opened in
      let answered = neither (unmade_line n fate) (unmade_lines (suc n) fates) made in
      omega (
        arith,
        length-append (named_in n file.path fate) (named_among (suc n) files fates),
        one_named n file.path file.reader fate a have.0 have.1 given.0 answered.0,
        each_named (suc n) files fates have.0 b have.2 given.1 answered.1,
      )

  -- where no line was told all files are answered
  all_named : (files : List (GivenFile I)) (a b : O) (named : List PlainNamed) (pairs : List (I × V)) (lines : List (List ℕ)) → AreOpened words files a b named pairs lines →
      lines ≡ [] → length named ≡ length files
  all_named files a b named pairs lines opened none =
      let both = neither (unopened_lines 1 files) (unmade_lines 1 opened.fates) (sym opened.lines_are ∙ none) in
      ap length opened.named_are ∙ each_named 1 files opened.fates a b opened.have both.0 both.1

-- ---- a house that finished

module _ {O V W U : Type 0} (words : FolderWords O V) (writing : Writing W) (config : Config) (calls : List (List Call)) (folder folder' : O) (writer writer' : W)
    (events : List Event) where
  -- its files are written, and the last line is or is not
  pub ended : (result : Result U Fault) → IsFinished config calls events → AreWritten words (outputs config events) folder folder' →
      MatchResult result (λ _. IsLineWritten writing (counts_of config events) writer writer') (λ fault. IsLineLeft writing (counts_of config events) writer writer' fault) →
      MatchResult result (λ _. IsEnded words writing config calls folder folder' writer writer') (λ fault. IsLeftOpen words writing config calls folder folder' writer writer' fault)
  ended (Ok unit) finished written line = record { events = events; finished = finished; written = written; counted = line }
  ended (Err fault) finished written left = inr (inr (record { events = events; finished = finished; written = written; left = left }))

-- ---- a house that was opened

module _ {I O V W S : Type 0} (words : RunWords I O V W) (writing : Writing S) (config : Config) (named : List PlainNamed) (pairs unanswered : List (I × V))
    (folder folder' : O) (writer writer' : W) (s t : S) (ends : List WorkerEnd) {X : Type 0} (events_of : X → List Event) (finished : Result X FinishFault) where
  -- the house is one of an equal configuration
  pub has_worked : (given : Config) (result : Result Bool Fault) → given ≡ config →
      (calls : List (List Call)) × HaveWorked (worker_streams words) given pairs ends calls × MatchResult finished (λ x. IsFinished given calls (events_of x)) (λ fault. IsUnfinished given calls fault) →
      AreTold writing s (worker_lines named ends) t →
      ((calls : List (List Call)) → MatchResult finished (λ x. IsFinished config calls (events_of x)) (λ fault. IsUnfinished config calls fault) →
      WorkEnds words config calls folder folder' writer writer' (worker_lines named ends) result) →
      unanswered ≡ [] →
      HasWorked words writing config named pairs unanswered folder folder' writer writer' s t result
  has_worked given result same ran told end none =
      let under = subst (λ (k : Config). (calls : List (List Call)) × HaveWorked (worker_streams words) k pairs ends calls
      × MatchResult finished (λ x. IsFinished k calls (events_of x)) (λ fault. IsUnfinished k calls fault)) same ran in
      record { calls = under.0; ends = ends; worked = under.1; told = told; end = end under.0 under.2; none_left = none }

-- ---- a run under its configuration

module _ {I O V W S : Type 0} (words : RunWords I O V W) (writing : Writing S) (config : Config) (run : Run I O V W) where
  module _ (folder : O) (named : List PlainNamed) (pairs : List (I × V)) (lines : List (List ℕ)) (s t : S) where
    answered : AreOpened words.folder run.files run.folder folder named pairs lines → (writer writer' : W) (folder' : O) (u v : S) (result : Result Bool Fault) →
        (worked : HasWorked words writing config named pairs run.unanswered folder folder' writer writer' u v result) →
        AreAnswered words config run folder worked.calls (lines ++ worker_lines named worked.ends)
    answered opened writer writer' folder' u v result worked = record {
      named = named;
      pairs = pairs;
      before = lines;
      opened = opened;
      ends = worked.ends;
      worked = worked.worked;
      lines_are = refl;
      none_left = worked.none_left;
    }

    -- the house was not made or did not end
    stops_by : (u : S) (fault : Fault) → AreOpened words.folder run.files run.folder folder named pairs lines → AreTold writing s lines t →
        HasNotBegun pairs run.unanswered folder run.folder' run.writer run.writer' t u (Err fault)
        ⊎ HasWorked words writing config named pairs run.unanswered folder run.folder' run.writer run.writer' t u (Err fault) →
        RunsUnder words writing config run s u (Err fault)
    stops_by u fault opened told (inl none) = record {
      lines = lines;
      told = subst (λ (x : S). AreTold writing s lines x) (sym none.faults_are) told;
      end = inl (
        cc,
        inr (record {
          named = named;
          opened = subst (λ (x : O). AreOpened words.folder run.files run.folder x named run.unanswered lines) (sym none.folder_is)
              (subst (λ (x : List (I × V)). AreOpened words.folder run.files run.folder folder named x lines) (sym none.pairs_are) opened);
          writer_is = none.writer_is;
        }),
      );
    }
    stops_by u fault opened told (inr worked) = record {
      lines = lines ++ worker_lines named worked.ends;
      told = told_more writing lines (worker_lines named worked.ends) s t u told worked.told;
      end = inr (record {
        folder = folder;
        calls = worked.calls;
        answered = answered opened run.writer run.writer' run.folder' t u (Err fault) worked;
        left = worked.end;
      });
    }

    pub stops : (u : S) (fault : Fault) (result : Result Bool Fault) → result ≡ Err fault → AreOpened words.folder run.files run.folder folder named pairs lines → AreTold writing s lines t →
        HasNotBegun pairs run.unanswered folder run.folder' run.writer run.writer' t u result
        ⊎ HasWorked words writing config named pairs run.unanswered folder run.folder' run.writer run.writer' t u result →
        RunsUnder words writing config run s u (Err fault)
    stops u fault result is opened told ended = stops_by u fault opened told
        (subst (λ (r : Result Bool Fault). HasNotBegun pairs run.unanswered folder run.folder' run.writer run.writer' t u r
        ⊎ HasWorked words writing config named pairs run.unanswered folder run.folder' run.writer run.writer' t u r) is ended)

    -- the house ended; the run is done where each file was opened and no worker failed
    ends_by : (u : S) (are_done is_done : Bool) → AreOpened words.folder run.files run.folder folder named pairs lines → AreTold writing s lines t →
        ((is_done ≡ true) ↔ ((length named ≡ length run.files) × (are_done ≡ true))) →
        HasNotBegun pairs run.unanswered folder run.folder' run.writer run.writer' t u (Ok are_done)
        ⊎ HasWorked words writing config named pairs run.unanswered folder run.folder' run.writer run.writer' t u (Ok are_done) →
        RunsUnder words writing config run s u (Ok is_done)
    ends_by u are_done is_done opened told all (inl none) = absurd cc
    ends_by u are_done is_done opened told all (inr worked) =
        let more : List (List ℕ) = worker_lines named worked.ends in
        let is_run : IsRun words config run (lines ++ more) = record {
          folder = folder;
          calls = worked.calls;
          answered = answered opened run.writer run.writer' run.folder' t u (Ok are_done) worked;
          ended = worked.end.0;
        } in
        record {
          lines = lines ++ more;
          told = told_more writing lines more s t u told worked.told;
          end = as_told is_done opened is_run all worked.end.1;
        } where
          as_told : {more : List (List ℕ)} (is_done : Bool) → AreOpened words.folder run.files run.folder folder named pairs lines → IsRun words config run (lines ++ more) →
              ((is_done ≡ true) ↔ ((length named ≡ length run.files) × (are_done ≡ true))) → ((are_done ≡ true) ↔ (more ≡ [])) → RunEnds words config run (lines ++ more) (Ok is_done)
          as_told {more} true opened is_run all none =
              let both = all.0 refl in
              (ap₂ (λ (x y : List (List ℕ)). x ++ y) (no_lines words.folder run.files run.folder folder named pairs lines opened both.0) (none.0 both.1), is_run)
          as_told {more} false opened is_run all none = inr (
            is_run,
            λ e.
                let both = neither lines more e in
                let done : false ≡ true = all.1 (all_named words.folder run.files run.folder folder named pairs lines opened both.0, none.1 both.1) in
                absurd cc,
          )

    pub ends : (u : S) (are_done is_done : Bool) (result : Result Bool Fault) → result ≡ Ok are_done → AreOpened words.folder run.files run.folder folder named pairs lines → AreTold writing s lines t →
        ((is_done ≡ true) ↔ ((length named ≡ length run.files) × (are_done ≡ true))) →
        HasNotBegun pairs run.unanswered folder run.folder' run.writer run.writer' t u result
        ⊎ HasWorked words writing config named pairs run.unanswered folder run.folder' run.writer run.writer' t u result →
        RunsUnder words writing config run s u (Ok is_done)
    ends u are_done is_done result is opened told all ended = ends_by u are_done is_done opened told all
        (subst (λ (r : Result Bool Fault). HasNotBegun pairs run.unanswered folder run.folder' run.writer run.writer' t u r
        ⊎ HasWorked words writing config named pairs run.unanswered folder run.folder' run.writer run.writer' t u r) is ended)

  -- no file is answered
  pub none_is_answered : (named : List PlainNamed) (lines : List (List ℕ)) (s t : S) → AreOpened words.folder run.files run.folder run.folder' named run.unanswered lines →
      AreTold writing s lines t → run.unanswered ≡ [] → run.writer' ≡ run.writer → RunsUnder words writing config run s t (Ok false)
  none_is_answered named lines s t opened told none same = record {
    lines = lines;
    told = told;
    end = inl (record { named = named; opened = opened; writer_is = same }, none);
  }

  -- ---- a run

  pub fails : (file : List ℕ) (result : Result Bool Fault) (s t : S) → result ≡ Ok false → config_or_fault file ≡ Ok config → RunsUnder words writing config run s t result →
      (lines : List (List ℕ)) × Fails words run file lines × AreTold writing s lines t
  fails file result s t not reads ran = (under.lines, inr (record { config = config; reads = reads; ended = placed under.end }), under.told) where
    under : RunsUnder words writing config run s t (Ok false)
    under = subst (λ (r : Result Bool Fault). RunsUnder words writing config run s t r) not ran

    placed : {A B C : Type 0} → A ⊎ B → A ⊎ (B ⊎ C)
    placed (inl a) = inl a
    placed (inr b) = inr (inl b)

  pub fails_by : (file : List ℕ) (fault : Fault) (result : Result Bool Fault) (s t u : S) → result ≡ Err fault → config_or_fault file ≡ Ok config → RunsUnder words writing config run s t result → IsTold writing t (fault_line fault) u →
      (lines : List (List ℕ)) × Fails words run file lines × AreTold writing s lines u
  fails_by file fault result s t u is reads ran told =
      let under : RunsUnder words writing config run s t (Err fault) = subst (λ (r : Result Bool Fault). RunsUnder words writing config run s t r) is ran in (
        under.lines ++ fault_line fault ∷ [],
        inr (record { config = config; reads = reads; ended = inr (inr (under.lines, fault, under.end, refl)) }),
        told_more writing under.lines (fault_line fault ∷ []) s t u under.told (told_one writing (fault_line fault) t u told),
      )
