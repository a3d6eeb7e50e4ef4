use Rattle.std.proofs.Common.{◌≡◌, ℕ, ◌<◌, get_or, get_or-set_same, get_or-set_other, set, option_map, true, None, refl, sym, ap, ◌∙◌, subst, ⊎_elim, arith}
use Rattle.std.proofs.lemmas.List.{get_or-replicate, length-set, length-replicate}
use Rattle.std.specs.Str.{bytes_eq}
use Rattle.json.specs.Json.{no_members}
use Rattle.json.specs.Find.{NextMember, Finds, later_or, get_member, get}
use Rattle.ocpi_json.specs.Fields.{member_at}
use Rattle.ocpi_json.specs.Inner.Picked.{name_at, index_in, noted}
use Rattle.ocpi_json.specs.Inner.Places.{tokens_from}
use Rattle.ocpi_json.specs.Name.{key_text}
use Rattle.ocpi_json.proofs.Noting.{SoFar, same_or_other, other_name, noted_at, noted_next, passed_over}
use Rattle.ocpi_json.proofs.Tokens.{get_nothing, or_none}
use Rattle.ocpi_json.proofs.picked.places_of.Goals as goal

pub returns-in_default : goal.returns-in_default
returns-in_default c j begins i lt is =
    let nothing = get_nothing (key_text (name_at c.args.names.now i)) j (c.in_default.ensures.value j begins) in
    let few : i < 17 = subst (λ n. n < 17) (sym is) (c.requires.few _) in
    subst (λ n. Finds (noted c.args.object.now n) (member_at (name_at c.args.names.now i) j)) (sym (get_or-replicate 17 i 0 0 few)) nothing

pub loop-key-init : goal.loop-key-init
loop-key-init c = record {
  tape = c.in-Some.ensures.tape;
  within = omega arith;
  long = length-replicate {A = ℕ} 17 0;
  notes = λ j begins.
      let shape = c.in-Some.ensures.value j begins in (
        shape.0,
        shape.2,
        λ i lt is.
            let few : i < 17 = subst (λ n. n < 17) (sym is) (c.requires.few _) in (
              None,
              subst (λ n. Finds (noted c.args.object.now n) None) (sym (get_or-replicate 17 i 0 0 few)) refl,
              ap (get (key_text (name_at c.args.names.now i))) shape.1 ∙ or_none _,
            ),
      );
}

pub loop-key-preserved-in-Some-index_of : goal.loop-key-preserved-in-Some-index_of
loop-key-preserved-in-Some-index_of c =
    let names = c.args.names.now in
    let slots = c.args.slots.now in
    let places = c.loop-key.places in
    let object = c.args.object.now in
    let at = c.in-Some-index_of_key.at in
    let hit = c.in-Some-index_of_key.ensures.found in
    let index = c.in-Some-index_of.index in
    let held = c.in-Some-index_of.ensures.found in
    let q = c.in-Some-next_member.member in
    let k = c.in-Some-next_member.key.now in
    let few : index < 17 = subst (λ n. n < 17) (sym held.2) (c.requires.few _) in
    record {
      tape = c.in-Some-next_member.ensures.tape ∙ c.loop-key.invariant.tape;
      within = omega (arith, hit.0);
      long = length-set places index q.at ∙ c.loop-key.invariant.long;
      notes = λ j begins.
          let now = c.loop-key.invariant.notes j begins in
          let f = c.in-Some-next_member.ensures.value now.0 now.1 in (
            f.1,
            f.4,
            λ i lt is. ⊎_elim (λ e.
                let here : get_or (set places index q.at) i 0 ≡ q.at = ap (λ n. get_or (set places index q.at) n 0) e ∙ get_or-set_same places index q.at 0 (omega (arith, few, c.loop-key.invariant.long)) in
                let same : bytes_eq k (key_text (name_at names i)) ≡ true = ap (λ n. bytes_eq k (key_text n)) (ap (name_at names) e ∙ held.1) ∙ hit.1 in
                subst (λ n. SoFar object n (key_text (name_at names i)) j f.1) (sym here)
                (noted_next object q (get_or places i 0) (key_text (name_at names i)) j now.0 k f.0 f.1 f.2 same
                (noted_at object q f.0 (c.in-Some-next_member.ensures.same ∙ c.loop-key.invariant.tape) c.in-Some-next_member.ensures.inside f.3) (now.2 i lt is))) (λ differs.
                subst (λ n. SoFar object n (key_text (name_at names i)) j f.1) (sym (get_or-set_other places index i q.at 0 differs))
                (passed_over object (get_or places i 0) (key_text (name_at names i)) j now.0 k f.0 f.1 f.2
                (other_name k (name_at names at) (name_at names i) hit.1 (λ e. differs (is ∙ ap (index_in slots) e ∙ sym held.2))) (now.2 i lt is)))
                (same_or_other i index),
          );
    }

pub loop-key-preserved-in_default-index_of : goal.loop-key-preserved-in_default-index_of
loop-key-preserved-in_default-index_of c =
    let names = c.args.names.now in
    let slots = c.args.slots.now in
    let object = c.args.object.now in
    let at = c.in-Some-index_of_key.at in
    let hit = c.in-Some-index_of_key.ensures.found in
    let k = c.in-Some-next_member.key.now in
    record {
      tape = c.in-Some-next_member.ensures.tape ∙ c.loop-key.invariant.tape;
      within = omega (arith, hit.0);
      long = c.loop-key.invariant.long;
      notes = λ j begins.
          let now = c.loop-key.invariant.notes j begins in
          let f = c.in-Some-next_member.ensures.value now.0 now.1 in (
            f.1,
            f.4,
            λ i lt is.
                passed_over object (get_or c.loop-key.places i 0) (key_text (name_at names i)) j now.0 k f.0 f.1 f.2
                (other_name k (name_at names at) (name_at names i) hit.1 (λ e. c.in_default-index_of.ensures.none i lt (is ∙ ap (index_in slots) e) e)) (now.2 i lt is),
          );
    }

pub loop-key-preserved : goal.loop-key-preserved
loop-key-preserved c =
    let names = c.args.names.now in
    let object = c.args.object.now in
    let k = c.in-Some-next_member.key.now in
    record {
      tape = c.in-Some-next_member.ensures.tape ∙ c.loop-key.invariant.tape;
      within = c.loop-key.invariant.within;
      long = c.loop-key.invariant.long;
      notes = λ j begins.
          let now = c.loop-key.invariant.notes j begins in
          let f = c.in-Some-next_member.ensures.value now.0 now.1 in
          (f.1, f.4, λ i lt is. passed_over object (get_or c.loop-key.places i 0) (key_text (name_at names i)) j now.0 k f.0 f.1 f.2 (c.in_default-index_of_key.ensures.none i lt) (now.2 i lt is));
    }

pub returns : goal.returns
returns c j begins i lt is =
    let name = key_text (name_at c.args.names.now i) in
    let now = c.loop-key.invariant.notes j begins in
    let done : now.0 ≡ no_members =
    subst (λ r. NextMember (tokens_from c.loop-key.left) (option_map (λ m. (m.0.now, tokens_from m.1)) r) (tokens_from c.next_member.new.self)) c.in_default-next_member.is c.next_member.ensures.value now.0 now.1 in
    let last = now.2 i lt is in
    subst (Finds (noted c.args.object.now (get_or c.loop-key.places i 0))) (sym (last.2 ∙ ap (λ ms. later_or (get_member name ms) last.0) done)) last.1
