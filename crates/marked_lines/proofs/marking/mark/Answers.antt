use Rattle.std.proofs.Common.{◌≡◌, ◌+◌, [], ◌∷◌, ◌++◌, take, drop, refl, sym, ◌∙◌, ap, subst}
use Rattle.std.proofs.lemmas.List.{take-append-drop}
use Rattle.marked_lines.specs.Cut.{Piece, string, number, single, spelling, marked}
use Rattle.marked_lines.proofs.Pieces.{Ahead, ahead-start, ahead-end, ahead-piece, ahead-unsound, two_pushes, token_at, empty_from_length, one_marking}
use Rattle.marked_lines.proofs.Cutting.{marking_law, unmarkable}
use Rattle.json.specs.Print.{IsNumber}
use Rattle.marked_lines.proofs.marking.mark.Goals as goal

pub loop-first-init : goal.loop-first-init
loop-first-init c = rw c.new-out.ensures.items (ahead-start _)

pub loop-first-preserved-then-first-eq34 : goal.loop-first-preserved-then-first-eq34
loop-first-preserved-then-first-eq34 c =
    let n = c.text_len.result in
    let after = c.in-Some.after.now in
    let piece : Piece = string (take n after) in
    let whole : c.loop-first.rest.now ≡ spelling piece ++ drop n after =
    c.in-Some.ensures.cases.0 ∙ ap (λ x. x ∷ after) c.if-first-eq34.true ∙ ap (λ l. 34 ∷ l) (sym (take-append-drop n after)) in
    let items : c.extend_from_slice-then-first-eq34.new.self.items ≡ c.loop-first.out.items ++ marked piece =
    two_pushes _ _ _ (34 ∷ 115 ∷ []) _ _ c.in_ok-extend_from_slice.ensures.items c.in_ok-extend_from_slice-2.ensures.items c.split_at.ensures.front in
    rw (items, c.split_at.ensures.back) (ahead-piece _ _ _ piece _ c.loop-first.invariant whole c.text_len.ensures.text tt)

pub is_number-requires : goal.is_number-requires
is_number-requires c =
    rw c.split_at-then-begins_number.ensures.front
    (token_at _ _ _ _ c.in-Some.ensures.cases.0 (sym c.begins_number.ensures ∙ c.if-begins_number.true) c.number_len.ensures.longest).alone

pub returns-then-not-is_number-clause-syntax : goal.returns-then-not-is_number-clause-syntax
returns-then-not-is_number-clause-syntax c _ =
    let n = 1 + c.number_len.result in
    let token = token_at _ _ _ _ c.in-Some.ensures.cases.0 (sym c.begins_number.ensures ∙ c.if-begins_number.true) c.number_len.ensures.longest in
    ahead-unsound _ _ _ (number (take n c.loop-first.rest.now)) (drop n c.loop-first.rest.now) c.loop-first.invariant (sym (take-append-drop n c.loop-first.rest.now)) token.piece
    (λ sound. let yes = c.is_number.ensures.1 (subst IsNumber (sym c.split_at-then-begins_number.ensures.front) sound) in cc)

pub loop-first-preserved-then-begins_number : goal.loop-first-preserved-then-begins_number
loop-first-preserved-then-begins_number c =
    let n = 1 + c.number_len.result in
    let token = token_at _ _ _ _ c.in-Some.ensures.cases.0 (sym c.begins_number.ensures ∙ c.if-begins_number.true) c.number_len.ensures.longest in
    let piece : Piece = number (take n c.loop-first.rest.now) in
    let items : c.push.new.self.items ≡ c.loop-first.out.items ++ marked piece =
    two_pushes _ _ _ (34 ∷ 110 ∷ take n c.loop-first.rest.now) (34 ∷ []) (34 ∷ [])
    (two_pushes _ _ _ (34 ∷ 110 ∷ []) _ _ c.in_ok-extend_from_slice-3.ensures.items c.in_ok-extend_from_slice-4.ensures.items c.split_at-then-begins_number.ensures.front)
    c.in_ok-push.ensures.items refl in
    let sound : IsNumber (take n c.loop-first.rest.now) = subst IsNumber c.split_at-then-begins_number.ensures.front (c.is_number.ensures.0 c.if-not-is_number.false) in
    rw (items, c.split_at-then-begins_number.ensures.back)
    (ahead-piece _ _ _ piece _ c.loop-first.invariant (sym (take-append-drop n c.loop-first.rest.now)) token.piece sound)

pub loop-first-preserved : goal.loop-first-preserved
loop-first-preserved c =
    rw c.in_ok-push-2.ensures.items
    (ahead-piece _ _ _ (single c.in-Some.first.now) _ c.loop-first.invariant c.in-Some.ensures.cases.0 (c.if-first-eq34.false, sym c.begins_number.ensures ∙ c.if-begins_number.false) tt)

pub returns-clause-marked : goal.returns-clause-marked
returns-clause-marked c = ahead-end _ _ (subst (λ l. Ahead c.args.bytes.now c.loop-first.out.items l) (empty_from_length _ c.in_default.ensures.cases) c.loop-first.invariant)

pub returns-clause-only : goal.returns-clause-only
returns-clause-only c other m =
    one_marking c.args.bytes.now _ _ m (ahead-end _ _ (subst (λ l. Ahead c.args.bytes.now c.loop-first.out.items l) (empty_from_length _ c.in_default.ensures.cases) c.loop-first.invariant))

pub returns-then-not-is_number-clause-none : goal.returns-then-not-is_number-clause-none
returns-then-not-is_number-clause-none c e = unmarkable _ (returns-then-not-is_number-clause-syntax c e)

pub returns-clause-computed : goal.returns-clause-computed
returns-clause-computed c = (marking_law _ _).0 (returns-clause-marked c)
