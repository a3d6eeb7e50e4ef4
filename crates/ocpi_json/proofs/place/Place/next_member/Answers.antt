use Rattle.std.proofs.Common.{◌≡◌, ◌+◌, ◌∷◌, map, drop, get_or, refl, ap, ◌∙◌, subst, arith}
use Rattle.std.proofs.lemmas.List.{length-drop, length-map}
use Rattle.json.specs.Token.{key}
use Rattle.json.specs.Tape.{node_token}
use Rattle.json.specs.Find.{InMembers}
use Rattle.json.specs.declared.tape.Node.TheVariants.{Object}
use Rattle.json.proofs.Found.{members_go_on, members_close, members_short}
use Rattle.ocpi_json.proofs.Tokens.{here, no_key}
use Rattle.ocpi_json.proofs.place.Place.next_member.Goals as goal

pub returns-then-at-saturating_sub-clause-value : goal.returns-then-at-saturating_sub-clause-value
returns-then-at-saturating_sub-clause-value c ms given =
    let ns = c.args.self.now.nodes.now in
    let all = map node_token ns in
    let i = c.args.self.now.at in
    members_short (drop i all) ms (omega (arith, length-drop i all, length-map ns node_token)) given

pub returns-in_default : goal.returns-in_default
returns-in_default c =
    let ns = c.args.self.now.nodes.now in
    let i = c.args.self.now.at in
    let n = get_or ns i (Object 0) in
    record {
      value = λ ms given. members_close (node_token n) _ ms (no_key n (λ s e. grind arith)) (subst (λ ts. InMembers ts ms) (here ns i (Object 0) (omega arith)) given);
      tape = refl;
      same = tt;
      inside = tt;
      shorter = tt;
      stays = refl;
    }

pub returns-clause-value : goal.returns-clause-value
returns-clause-value c ms given =
    let ns = c.args.self.now.nodes.now in
    let all = map node_token ns in
    let i = c.args.self.now.at in
    let k = c.in-Key.key.now in
    let named : drop i all ≡ key k ∷ drop (i + 1) all = here ns i (Object 0) (omega arith) ∙ ap (λ n. node_token n ∷ drop (i + 1) all) c.in-Key.is in
    let f = members_go_on k (drop (i + 1) all) ms (subst (λ ts. InMembers ts ms) named given) in
    (f.1, f.3, f.5, (f.0, f.2, f.4), subst (λ ts. InMembers ts f.3) (c.after-self.ensures.value f.0 f.1 f.2 f.4) f.6)
