use Rattle.std.proofs.Common.{◌∷◌, [], ◌++◌, refl, sym}
use Rattle.kept_batches.specs.File.{shut_mark, record_of, records, all_lines}
use Rattle.kept_batches.proofs.OpenLemmas.{first_range, second_range, by_first, by_second, second_at, opened, first_done, second_done, ke, pt, last_joined}
use Rattle.kept_batches.proofs.opening.open_again.Goals as goal

pub returns-in_err-overwrite-clause-any_moment : goal.returns-in_err-overwrite-clause-any_moment
returns-in_err-overwrite-clause-any_moment g c batches batch h f left =
    first_range _ c.args.end _ batches batch h f h.second h.two_too (h.second_open c.if-first_is_shut.true) (c.overwrite.ensures.any_moment (records [] batches) h.first (h.second ++ (record_of (all_lines batches) batch ++ shut_mark)) (by_first _ c.args.end _ batches batch h) h.end_is (sym h.two) f left)

pub returns-in_err-overwrite-2-clause-any_moment : goal.returns-in_err-overwrite-2-clause-any_moment
returns-in_err-overwrite-2-clause-any_moment g c batches batch h f left =
    second_range _ c.args.end _ batches batch h f (107 ∷ 101 ∷ []) refl (ke _ c.args.end _ batches batch h) (c.overwrite-then-first_is_shut.ensures.any_moment (records [] batches ++ (107 ∷ 101 ∷ [])) h.second (record_of (all_lines batches) batch ++ shut_mark) (first_done _ c.args.end _ batches batch h _ (c.in_ok-overwrite.ensures.file (records [] batches) h.first (h.second ++ (record_of (all_lines batches) batch ++ shut_mark)) (by_first _ c.args.end _ batches batch h) h.end_is (sym h.two))) (second_at _ c.args.end _ batches batch h (107 ∷ 101 ∷ []) refl) (sym h.two_too) f left)

pub returns-then-first_is_shut-clause-any_moment : goal.returns-then-first_is_shut-clause-any_moment
returns-then-first_is_shut-clause-any_moment g c batches batch h f left =
    second_range _ c.args.end _ batches batch h f (107 ∷ 101 ∷ []) refl (ke _ c.args.end _ batches batch h) (c.overwrite-then-first_is_shut.ensures.any_moment (records [] batches ++ (107 ∷ 101 ∷ [])) h.second (record_of (all_lines batches) batch ++ shut_mark) (first_done _ c.args.end _ batches batch h _ (c.in_ok-overwrite.ensures.file (records [] batches) h.first (h.second ++ (record_of (all_lines batches) batch ++ shut_mark)) (by_first _ c.args.end _ batches batch h) h.end_is (sym h.two))) (second_at _ c.args.end _ batches batch h (107 ∷ 101 ∷ []) refl) (sym h.two_too) f left)

pub returns-then-first_is_shut-clause-file : goal.returns-then-first_is_shut-clause-file
returns-then-first_is_shut-clause-file g c batches batch h =
    last_joined _ c.args.end _ batches batch h _ (c.in_ok-overwrite-2.ensures.file (records [] batches ++ (107 ∷ 101 ∷ [])) h.second (record_of (all_lines batches) batch ++ shut_mark) (first_done _ c.args.end _ batches batch h _ (c.in_ok-overwrite.ensures.file (records [] batches) h.first (h.second ++ (record_of (all_lines batches) batch ++ shut_mark)) (by_first _ c.args.end _ batches batch h) h.end_is (sym h.two))) (second_at _ c.args.end _ batches batch h (107 ∷ 101 ∷ []) refl) (sym h.two_too))

pub returns-in_err-overwrite-3-clause-any_moment : goal.returns-in_err-overwrite-3-clause-any_moment
returns-in_err-overwrite-3-clause-any_moment g c batches batch h f left =
    second_range _ c.args.end _ batches batch h f h.first h.two (h.first_open c.if-first_is_shut.false) (c.overwrite-2.ensures.any_moment (records [] batches ++ h.first) h.second (record_of (all_lines batches) batch ++ shut_mark) (by_second _ c.args.end _ batches batch h) (second_at _ c.args.end _ batches batch h h.first h.two) (sym h.two_too) f left)

pub returns-in_err-overwrite-4-clause-any_moment : goal.returns-in_err-overwrite-4-clause-any_moment
returns-in_err-overwrite-4-clause-any_moment g c batches batch h f left =
    first_range _ c.args.end _ batches batch h f (112 ∷ 116 ∷ []) refl (pt _ c.args.end _ batches batch h) (c.overwrite-3.ensures.any_moment (records [] batches) h.first ((112 ∷ 116 ∷ []) ++ (record_of (all_lines batches) batch ++ shut_mark)) (second_done _ c.args.end _ batches batch h _ (c.in_ok-overwrite-3.ensures.file (records [] batches ++ h.first) h.second (record_of (all_lines batches) batch ++ shut_mark) (by_second _ c.args.end _ batches batch h) (second_at _ c.args.end _ batches batch h h.first h.two) (sym h.two_too))) h.end_is (sym h.two) f left)

pub returns-clause-any_moment : goal.returns-clause-any_moment
returns-clause-any_moment g c batches batch h f left =
    first_range _ c.args.end _ batches batch h f (112 ∷ 116 ∷ []) refl (pt _ c.args.end _ batches batch h) (c.overwrite-3.ensures.any_moment (records [] batches) h.first ((112 ∷ 116 ∷ []) ++ (record_of (all_lines batches) batch ++ shut_mark)) (second_done _ c.args.end _ batches batch h _ (c.in_ok-overwrite-3.ensures.file (records [] batches ++ h.first) h.second (record_of (all_lines batches) batch ++ shut_mark) (by_second _ c.args.end _ batches batch h) (second_at _ c.args.end _ batches batch h h.first h.two) (sym h.two_too))) h.end_is (sym h.two) f left)

pub returns-clause-file : goal.returns-clause-file
returns-clause-file g c batches batch h =
    opened _ c.args.end _ batches batch h _ (c.in_ok-overwrite-4.ensures.file (records [] batches) h.first ((112 ∷ 116 ∷ []) ++ (record_of (all_lines batches) batch ++ shut_mark)) (second_done _ c.args.end _ batches batch h _ (c.in_ok-overwrite-3.ensures.file (records [] batches ++ h.first) h.second (record_of (all_lines batches) batch ++ shut_mark) (by_second _ c.args.end _ batches batch h) (second_at _ c.args.end _ batches batch h h.first h.two) (sym h.two_too))) h.end_is (sym h.two))
