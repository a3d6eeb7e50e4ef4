use Rattle.std.proofs.Common.{rules, ◌≡◌, ◌+◌, ◌∷◌, ◌++◌, [], ℕ, map, sym, subst, ap, ◌∙◌, arith}
use Rattle.std.specs.List.{All, range_with_len}
use Rattle.std.proofs.lemmas.List.{map-append, map-id}
use Rattle.std.proofs.lemmas.List.Elements.{All-push}
use Rattle.std.proofs.lemmas.List.FromFn.{map-range_with_len_more}
use Rattle.shared_house.proofs.house.making.make_passes.Goals as goal

range_more : (n : ℕ) → range_with_len 0 (n + 1) ≡ range_with_len 0 n ++ n ∷ []
range_more n = sym (map-id (range_with_len 0 (n + 1))) ∙ map-range_with_len_more (λ k. k) 0 n n (omega arith) ∙ ap (λ l. l ++ n ∷ []) (map-id (range_with_len 0 n))

pub loop-number-preserved : goal.loop-number-preserved
loop-number-preserved g c = record {
  parts = search rules;
  nothing = search rules;
  len = search rules;
  places = search rules;
  fresh = subst (All (λ pass. pass.calls ≡ [])) (sym c.push_reserved.ensures.items) (All-push (λ pass. pass.calls ≡ []) c.loop-number.passes.items _ c.loop-number.invariant.fresh c.new.ensures.items);
  numbers = ap (map (λ pass. pass.number)) c.push_reserved.ensures.items ∙ map-append (λ pass. pass.number) c.loop-number.passes.items (_ ∷ [])
      ∙ ap (λ l. l ++ c.loop-number.number ∷ []) c.loop-number.invariant.numbers ∙ sym (range_more c.loop-number.number);
}
