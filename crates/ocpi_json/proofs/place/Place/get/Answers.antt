use Rattle.std.proofs.Common.{◌≡◌, Bool, true, false, cond, option_map, Some, None, refl, sym, ap, ◌∙◌, subst, arith}
use Rattle.std.specs.Str.{bytes_eq}
use Rattle.json.specs.Json.{no_members}
use Rattle.json.specs.Find.{NextMember, Finds, later_or, get_member, get}
use Rattle.ocpi_json.specs.Inner.Places.{tokens_from}
use Rattle.ocpi_json.proofs.Tokens.{get_nothing, or_none, newer}
use Rattle.ocpi_json.proofs.place.Place.get.Goals as goal

pub returns-in_err-left-clause-value : goal.returns-in_err-left-clause-value
returns-in_err-left-clause-value c j begins =
    let gone : c.from_residual.result ≡ None = grind arith in
    subst (λ r. Finds (option_map tokens_from r) (get c.args.name.now j)) (sym gone) (get_nothing c.args.name.now j (c.in_err-left.ensures.value j begins))

pub loop-key-init : goal.loop-key-init
loop-key-init c = record {
  value = λ j begins. let shape = c.in_ok-left.ensures.value j begins in
      (shape.0, None, shape.2, refl, ap (get c.args.name.now) shape.1 ∙ or_none _);
  tape = c.in_ok-left.ensures.tape;
  found = tt;
}

pub loop-key-preserved-then-eq : goal.loop-key-preserved-then-eq
loop-key-preserved-then-eq c = record {
  value = λ j begins.
      let name = c.args.name.now in
      let now = c.loop-key.invariant.value j begins in
      let f = c.in-Some.ensures.value now.0 now.2 in
      let turn = now.4 ∙ ap (λ ms. later_or (get_member name ms) now.1) f.2 in
      let pick = λ (b : Bool). later_or (later_or (get_member name f.1) (cond b (Some f.0) None)) now.1 in
      let same : bytes_eq c.in-Some.key.now name ≡ true = grind arith in
      (f.1, Some f.0, f.4, (f.0, refl, f.3), turn ∙ ap pick same ∙ newer (get_member name f.1) f.0 now.1);
  tape = c.in-Some.ensures.tape ∙ c.loop-key.invariant.tape;
  found = c.in-Some.ensures.same ∙ c.loop-key.invariant.tape;
}

pub loop-key-preserved : goal.loop-key-preserved
loop-key-preserved c = record {
  value = λ j begins.
      let name = c.args.name.now in
      let now = c.loop-key.invariant.value j begins in
      let f = c.in-Some.ensures.value now.0 now.2 in
      let turn = now.4 ∙ ap (λ ms. later_or (get_member name ms) now.1) f.2 in
      let pick = λ (b : Bool). later_or (later_or (get_member name f.1) (cond b (Some f.0) None)) now.1 in
      let other : bytes_eq c.in-Some.key.now name ≡ false = grind arith in
      (f.1, now.1, f.4, now.3, turn ∙ ap pick other ∙ ap (λ o. later_or o now.1) (sym (or_none _)));
  tape = c.in-Some.ensures.tape ∙ c.loop-key.invariant.tape;
  found = c.loop-key.invariant.found;
}

pub returns-clause-value : goal.returns-clause-value
returns-clause-value c j begins =
    let now = c.loop-key.invariant.value j begins in
    let done : now.0 ≡ no_members =
    subst (λ r. NextMember (tokens_from c.loop-key.left) (option_map (λ m. (m.0.now, tokens_from m.1)) r) (tokens_from c.next_member.new.self)) c.in_default.is c.next_member.ensures.value now.0 now.2 in
    subst (Finds (option_map tokens_from c.loop-key.found)) (sym (now.4 ∙ ap (λ ms. later_or (get_member c.args.name.now ms) now.1) done)) now.3
