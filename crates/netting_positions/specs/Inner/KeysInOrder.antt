-- Keys are put in order one after another.
use Rattle.std.specs.Prelude.{List, [], ◌∷◌}
use Rattle.std.specs.List.{fold}
use Rattle.std.specs.declared.cmp.Ordering.{Ordering}
use Rattle.std.specs.declared.cmp.Ordering.TheVariants.{Less, Equal, Greater}
use Rattle.netting_positions.specs.StatementKeys.{key_order}
use Rattle.netting_positions.specs.declared.row.Key.{Key}

-- the key and the first of the others, which is before it, the same, or after it; `later` has the key among the rest
abbrev pub placed : Ordering → Key → Key → List Key → List Key → List Key
placed Less key other others later = other ∷ later
placed Equal key other others later = other ∷ others
placed Greater key other others later = key ∷ other ∷ others

-- the key in its place among keys in order; they stay as they are where it is among them
abbrev pub inserted : Key → List Key → List Key
inserted key [] = key ∷ []
inserted key (other ∷ others) = placed (key_order other key) key other others (inserted key others)

-- the keys in order, each once
abbrev pub in_order : List Key → List Key
in_order keys = fold (λ sorted key. inserted key sorted) [] keys
