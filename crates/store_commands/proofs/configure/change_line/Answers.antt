use Rattle.std.proofs.Common.{rules, ◌≡◌, ◌++◌, ◌∙◌, ap, append_assoc, List, ℕ}
use Rattle.std.specs.Prelude.{codes}
use Rattle.kept_house.specs.Record.{on_one_line}
use Rattle.store_commands.specs.Change.{escaped}
use Rattle.store_commands.proofs.configure.change_line.Goals as goal

-- parts that are put one after another
put_together : (one two three four five start platform middle config end : List ℕ)
    → one ≡ start → two ≡ one ++ platform → three ≡ two ++ middle → four ≡ three ++ config → five ≡ four ++ end
    → five ≡ start ++ (platform ++ (middle ++ (config ++ end)))
put_together one two three four five start platform middle config end a b c d e =
    e
    ∙ ap (λ (l : List ℕ). l ++ end) (d ∙ ap (λ (l : List ℕ). l ++ config) (c ∙ ap (λ (l : List ℕ). l ++ middle) (b ∙ ap (λ (l : List ℕ). l ++ platform) a)))
    ∙ append_assoc ((start ++ platform) ++ middle) config end
    ∙ append_assoc (start ++ platform) middle (config ++ end)
    ∙ append_assoc start platform (middle ++ (config ++ end))

pub returns : goal.returns
returns c =
    let one : c.extend_from_slice.new.self.items ≡ codes "{\"platform\":\"" = search rules in
    let two : c.extend_from_slice-2.new.self.items ≡ c.extend_from_slice.new.self.items ++ escaped c.args.platform.now = search rules in
    let three : c.extend_from_slice-3.new.self.items ≡ c.extend_from_slice-2.new.self.items ++ codes "\",\"do\":\"configure\",\"configuration\":" =
    c.in_ok-extend_from_slice-3.ensures.items ∙ ap (λ (l : List ℕ). c.extend_from_slice-2.new.self.items ++ l) c.as_bytes-2.ensures.value in
    let four : c.extend_from_slice-4.new.self.items ≡ c.extend_from_slice-3.new.self.items ++ on_one_line c.args.config.now = search rules in
    let five : c.push.new.self.items ≡ c.extend_from_slice-4.new.self.items ++ codes "}" = search rules in
    put_together _ _ _ _ _ _ _ _ _ _ one two three four five
