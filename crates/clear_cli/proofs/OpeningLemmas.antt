-- Files, one after another.
use Rattle.std.proofs.Common.{◌≡◌, ℕ, suc, ◌+◌, ◌<◌, ◌≤◌, List, [], ◌∷◌, ◌++◌, length, take, map, get_or, flat_map, refl, sym, ap, subst, ◌∙◌, arith, append-nil, append_assoc}
use Rattle.std.proofs.lemmas.Grind.{flat_map-append}
use Rattle.std.proofs.lemmas.List.{length-map, length-take-le, map-append, take_more}
use Rattle.request_lines.specs.Streams.{Writing}
use Rattle.clear_cli.specs.Folder.{FolderWords}
use Rattle.clear_cli.specs.Fault.{AreTold}
use Rattle.clear_cli.specs.Inner.Making.{AreMade, IsMade}
use Rattle.clear_cli.specs.Opening.{Fate, GivenFile, HasFate, HaveFates, PlainNamed, named_among, named_in, pair_in, unmade_line, unmade_lines, unopened_line, unopened_lines}
use Rattle.clear_cli.proofs.ToldLines.{told_more}

module _ {I O V : Type 0} (words : FolderWords O V) where
  same_length : (k : ℕ) (files : List (GivenFile I)) (fates : List (Fate I V)) (a b : O) → HaveFates words k files a fates b → length files ≡ length fates
  same_length k [] [] a b have = refl
  same_length k [] (fate ∷ fates) a b have = absurd have
  same_length k (file ∷ files) [] a b have = absurd have
  same_length k (file ∷ files) (fate ∷ fates) a b have = ap (λ (n : ℕ). suc n) (same_length (suc k) files fates have.0 b have.2)

  -- one file more, of the number behind theirs
  one_fate_more : (k n : ℕ) (files : List (GivenFile I)) (file : GivenFile I) (fates : List (Fate I V)) (fate : Fate I V) (a b c : O) → n ≡ k + length files →
      HaveFates words k files a fates b → HasFate words n file.reader b fate c → HaveFates words k (files ++ file ∷ []) a (fates ++ fate ∷ []) c
  one_fate_more k n [] file [] fate a b c is have has =
      let same : n ≡ k = omega (arith, is) in
      (c, subst (λ (o : O). HasFate words k file.reader o fate c) have (subst (λ (m : ℕ). HasFate words m file.reader b fate c) same has), refl)
  one_fate_more k n [] file (first ∷ fates) fate a b c is have has = absurd have
  one_fate_more k n (first ∷ files) file [] fate a b c is have has = absurd have
  one_fate_more k n (first ∷ files) file (early ∷ fates) fate a b c is have has =
      (have.0, have.1, one_fate_more (suc k) n files file fates fate have.0 b c (omega (arith, is)) have.2 has)

module _ {I V : Type 0} where
  one_named_more : (k n : ℕ) (files : List (GivenFile I)) (file : GivenFile I) (fates : List (Fate I V)) (fate : Fate I V) → n ≡ k + length files → length files ≡ length fates →
      named_among k (files ++ file ∷ []) (fates ++ fate ∷ []) ≡ named_among k files fates ++ named_in n file.path fate
  one_named_more k n [] file [] fate is same = append-nil (named_in k file.path fate) ∙ ap (λ (m : ℕ). named_in m file.path fate) (omega (arith, is))
  one_named_more k n [] file (early ∷ fates) fate is same = absurd (omega (arith, same))
  one_named_more k n (first ∷ files) file [] fate is same = absurd (omega (arith, same))
  one_named_more k n (first ∷ files) file (early ∷ fates) fate is same =
      ap (λ (l : List PlainNamed). named_in k first.path early ++ l) (one_named_more (suc k) n files file fates fate (omega (arith, is)) (omega (arith, same)))
      ∙ sym (append_assoc (named_in k first.path early) (named_among (suc k) files fates) (named_in n file.path fate))

  one_unmade_more : (k n : ℕ) (fates : List (Fate I V)) (fate : Fate I V) → n ≡ k + length fates →
      unmade_lines k (fates ++ fate ∷ []) ≡ unmade_lines k fates ++ unmade_line n fate
  one_unmade_more k n [] fate is = append-nil (unmade_line k fate) ∙ ap (λ (m : ℕ). unmade_line m fate) (omega (arith, is))
  one_unmade_more k n (early ∷ fates) fate is =
      ap (λ (l : List (List ℕ)). unmade_line k early ++ l) (one_unmade_more (suc k) n fates fate (omega (arith, is)))
      ∙ sym (append_assoc (unmade_line k early) (unmade_lines (suc k) fates) (unmade_line n fate))

  one_pair_more : (fates : List (Fate I V)) (fate : Fate I V) → flat_map pair_in (fates ++ fate ∷ []) ≡ flat_map pair_in fates ++ pair_in fate
  one_pair_more fates fate = flat_map-append pair_in fates (fate ∷ []) ∙ ap (λ (l : List (I × V)). flat_map pair_in fates ++ l) (append-nil (pair_in fate))

-- ---- lines of files that could not be opened

module _ {I : Type 0} where
  unopened_behind : (k n : ℕ) (files : List (GivenFile I)) (file : GivenFile I) → n ≡ k + length files →
      unopened_lines k (files ++ file ∷ []) ≡ unopened_lines k files ++ unopened_line n file.path file.reader
  unopened_behind k n [] file is = append-nil (unopened_line k file.path file.reader) ∙ ap (λ (m : ℕ). unopened_line m file.path file.reader) (omega (arith, is))
  unopened_behind k n (first ∷ files) file is =
      ap (λ (l : List (List ℕ)). unopened_line k first.path first.reader ++ l) (unopened_behind (suc k) n files file (omega (arith, is)))
      ∙ sym (append_assoc (unopened_line k first.path first.reader) (unopened_lines (suc k) files) (unopened_line n file.path file.reader))

-- the file at a place, behind those before it
pub one_file_more : {P I : Type 0} (given : P → GivenFile I) (files : List P) (place : ℕ) (d item : P) (n : ℕ) → item ≡ get_or files place d → place < length files → n ≡ place + 1 →
    unopened_lines 1 (map given (take (place + 1) files)) ≡ unopened_lines 1 (map given (take place files)) ++ unopened_line n (given item).path (given item).reader
one_file_more {P} {I} given files place d item n is within number_is =
    let front : List (GivenFile I) = map given (take place files) in
    let fits : place ≤ length files = omega (arith, within) in
    let first : length front ≡ length (take place files) = length-map (take place files) given in
    let second : length (take place files) ≡ place = length-take-le place files fits in
    let last : n ≡ 1 + length front = omega (arith, first, second, number_is) in
    ap (λ (l : List P). unopened_lines 1 (map given l)) (take_more files place d within)
    ∙ ap (λ (l : List (GivenFile I)). unopened_lines 1 l) (map-append given (take place files) (get_or files place d ∷ []))
    ∙ ap (λ (x : P). unopened_lines 1 (front ++ given x ∷ [])) (sym is)
    ∙ unopened_behind 1 n front (given item) last

-- ---- files that are answered

module _ {I O V S : Type 0} (words : FolderWords O V) (writing : Writing S) where
  pub made_more : (files : List (GivenFile I)) (file : GivenFile I) (n : ℕ) (a b c : O) (named named' : List PlainNamed) (pairs pairs' : List (I × V)) (s t u : S) → n ≡ 1 + length files →
      AreMade words writing files a b named pairs s t → IsMade words writing n file.path file.reader b c named named' pairs pairs' t u →
      AreMade words writing (files ++ file ∷ []) a c named' pairs' s u
  made_more files file n a b c named named' pairs pairs' s t u is made one =
      let same = same_length words 1 files made.fates a b made.have in
      record {
        fates = made.fates ++ one.fate ∷ [];
        have = one_fate_more words 1 n files file made.fates one.fate a b c is made.have one.has;
        named_are = one.named_is ∙ ap (λ (l : List PlainNamed). l ++ named_in n file.path one.fate) made.named_are ∙ sym (one_named_more 1 n files file made.fates one.fate is same);
        pairs_are = one.pairs_is ∙ ap (λ (l : List (I × V)). l ++ pair_in one.fate) made.pairs_are ∙ sym (one_pair_more made.fates one.fate);
        told = subst (λ (l : List (List ℕ)). AreTold writing s l u) (sym (one_unmade_more 1 n made.fates one.fate (is ∙ ap (λ (m : ℕ). 1 + m) same)))
            (told_more writing (unmade_lines 1 made.fates) (unmade_line n one.fate) s t u made.told one.told);
      }
